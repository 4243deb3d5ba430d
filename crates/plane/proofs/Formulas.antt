-- The formulas of specs/ as expressions, for `solve`.
use Rattle.arith.proofs.Poly.{Expr, ◌:+◌, ◌:-◌, ◌:*◌}

abbrev pub Height : Expr → Expr → Expr → Expr → Expr → Expr → Expr → Expr → Expr
Height a b c d x y z w = ((a :* x :+ b :* y) :+ c :* z) :- d :* w

abbrev pub Dot : Expr → Expr → Expr → Expr → Expr → Expr → Expr
Dot a b c e f g = (a :* e :+ b :* f) :+ c :* g

abbrev pub Determinant : Expr → Expr → Expr → Expr → Expr → Expr → Expr → Expr → Expr → Expr
Determinant a b c e f g i j k = (a :* (f :* k :- g :* j) :+ b :* (g :* i :- e :* k)) :+ c :* (e :* j :- f :* i)
