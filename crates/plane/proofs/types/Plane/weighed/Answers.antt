use Rattle.arith.proofs.Sized.{is_num, is_short}
use Rattle.arith.proofs.Steps.{Dot, dot, back}
use Rattle.std.proofs.Common.{ℤ}
use Rattle.arith.specs.Bounds.{Short}
use Rattle.plane.specs.declared.types.Plane.{Plane}
use Rattle.plane.specs.Limits.{FitsPlane, coordinate_limit, weight_limit}
use Rattle.plane.specs.Planes.{weight}
use Rattle.plane.proofs.types.Plane.weighed.Goals as goal

sum : {p : Plane} {x y z : ℤ} → FitsPlane p → Short x coordinate_limit → Short y coordinate_limit → Short z coordinate_limit →
    Dot (back p.a) (back x) (back p.b) (back y) (back p.c) (back z) (weight p x y z) weight_limit
sum f x y z = dot (is_num f.a tt) (is_num x tt) (is_num f.b tt) (is_num y tt) (is_num f.c tt) (is_num z tt) tt

pub overflow_mul-result : goal.overflow_mul-result
overflow_mul-result c = (sum c.requires.plane c.requires.x c.requires.y c.requires.z).first

pub overflow_mul-result-2 : goal.overflow_mul-result-2
overflow_mul-result-2 c = (sum c.requires.plane c.requires.x c.requires.y c.requires.z).second

pub overflow_add-result : goal.overflow_add-result
overflow_add-result c = (sum c.requires.plane c.requires.x c.requires.y c.requires.z).two

pub overflow_mul-result-3 : goal.overflow_mul-result-3
overflow_mul-result-3 c = (sum c.requires.plane c.requires.x c.requires.y c.requires.z).third

pub overflow_add-result-2 : goal.overflow_add-result-2
overflow_add-result-2 c = (sum c.requires.plane c.requires.x c.requires.y c.requires.z).three

pub returns : goal.returns
returns c =
    let s = (sum c.requires.plane c.requires.x c.requires.y c.requires.z).value in
    record { value = s.same; short = is_short s }
