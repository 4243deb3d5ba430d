use Rattle.std.proofs.Common.{◌*◌, ◌-ℤ◌, ◌*ℤ◌}
use Rattle.arith.proofs.Sized.{is_num, is_short}
use Rattle.arith.proofs.Steps.{Minor, minor, Dot, dot, back}
use Rattle.plane.specs.declared.types.Plane.{Plane}
use Rattle.plane.specs.Limits.{slope_limit, offset_limit, corner_limit}
use Rattle.plane.specs.Meets.{determinant}
use Rattle.plane.specs.Cramer.{FitsRow}
use Rattle.plane.proofs.meets.determinant_of.Goals as goal

-- the code, step by step
record Expansion (p q r : Plane) : Type 0 where
  i : Minor (back q.b) (back r.c) (back q.c) (back r.b) (q.b *ℤ r.c -ℤ q.c *ℤ r.b) (2 * (slope_limit * slope_limit))
  j : Minor (back q.c) (back r.a) (back q.a) (back r.c) (q.c *ℤ r.a -ℤ q.a *ℤ r.c) (2 * (slope_limit * offset_limit))
  k : Minor (back q.a) (back r.b) (back q.b) (back r.a) (q.a *ℤ r.b -ℤ q.b *ℤ r.a) (2 * (slope_limit * offset_limit))
  all : Dot (back p.a) (back (back (back q.b *ℤ back r.c) -ℤ back (back q.c *ℤ back r.b)))
      (back p.b) (back (back (back q.c *ℤ back r.a) -ℤ back (back q.a *ℤ back r.c)))
      (back p.c) (back (back (back q.a *ℤ back r.b) -ℤ back (back q.b *ℤ back r.a)))
      (determinant p q r) corner_limit

expansion : {p q r : Plane} → FitsRow p → FitsRow q → FitsRow r → Expansion p q r
unfolding determinant
expansion f g h =
    let i = minor (is_num g.b tt) (is_num h.c tt) (is_num g.c tt) (is_num h.b tt) tt in
    let j = minor (is_num g.c tt) (is_num h.a tt) (is_num g.a tt) (is_num h.c tt) tt in
    let k = minor (is_num g.a tt) (is_num h.b tt) (is_num g.b tt) (is_num h.a tt) tt in
    record { i = i; j = j; k = k; all = dot (is_num f.a tt) i.value (is_num f.b tt) j.value (is_num f.c tt) k.value tt }

pub overflow_mul-i : goal.overflow_mul-i
overflow_mul-i c = (expansion c.requires.p c.requires.q c.requires.r).i.first

pub overflow_mul-i-2 : goal.overflow_mul-i-2
overflow_mul-i-2 c = (expansion c.requires.p c.requires.q c.requires.r).i.second

pub overflow_sub-i : goal.overflow_sub-i
overflow_sub-i c = (expansion c.requires.p c.requires.q c.requires.r).i.both

pub overflow_mul-j : goal.overflow_mul-j
overflow_mul-j c = (expansion c.requires.p c.requires.q c.requires.r).j.first

pub overflow_mul-j-2 : goal.overflow_mul-j-2
overflow_mul-j-2 c = (expansion c.requires.p c.requires.q c.requires.r).j.second

pub overflow_sub-j : goal.overflow_sub-j
overflow_sub-j c = (expansion c.requires.p c.requires.q c.requires.r).j.both

pub overflow_mul-k : goal.overflow_mul-k
overflow_mul-k c = (expansion c.requires.p c.requires.q c.requires.r).k.first

pub overflow_mul-k-2 : goal.overflow_mul-k-2
overflow_mul-k-2 c = (expansion c.requires.p c.requires.q c.requires.r).k.second

pub overflow_sub-k : goal.overflow_sub-k
overflow_sub-k c = (expansion c.requires.p c.requires.q c.requires.r).k.both

pub overflow_mul-result : goal.overflow_mul-result
overflow_mul-result c = (expansion c.requires.p c.requires.q c.requires.r).all.first

pub overflow_mul-result-2 : goal.overflow_mul-result-2
overflow_mul-result-2 c = (expansion c.requires.p c.requires.q c.requires.r).all.second

pub overflow_add-result : goal.overflow_add-result
overflow_add-result c = (expansion c.requires.p c.requires.q c.requires.r).all.two

pub overflow_mul-result-3 : goal.overflow_mul-result-3
overflow_mul-result-3 c = (expansion c.requires.p c.requires.q c.requires.r).all.third

pub overflow_add-result-2 : goal.overflow_add-result-2
overflow_add-result-2 c = (expansion c.requires.p c.requires.q c.requires.r).all.three

pub returns : goal.returns
returns c =
    let d = (expansion c.requires.p c.requires.q c.requires.r).all.value in
    record { value = d.same; short = is_short d }
