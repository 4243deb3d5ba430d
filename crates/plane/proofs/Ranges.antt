-- Planes in range: a changed plane is in range where the plane is, a plane that the code puts together is the one with its numbers,
-- and `==` tells whether two planes are one.
use Rattle.std.proofs.Common.{◌≡◌, Bool, ◌&&◌, int_eq, Decides, ℤ, pos, neg_ℤ, ap, ◌∙◌, arith}
use Rattle.std.proofs.lemmas.Int.{ints}
use Rattle.std.proofs.lemmas.Bool.Decides.{Decides-and, Decides-at, Decides-int_eq, Decides-like}
use Rattle.arith.proofs.Sized.{short_neg}
use Rattle.plane.specs.declared.types.Plane.{Plane}
use Rattle.plane.specs.Limits.{FitsPlane}
use Rattle.plane.specs.Planes.{turned}
use Rattle.plane.specs.Moves.{rolled_plane}

pub made : {s t u v : ℤ} (p : Plane) → s ≡ p.a → t ≡ p.b → u ≡ p.c → v ≡ p.d → record { a = s; b = t; c = u; d = v } ≡ p
made {s} {t} {u} {v} p a b c d =
    ap (λ (n : ℤ). record { a = n; b = t; c = u; d = v }) a
    ∙ ap (λ (n : ℤ). record { a = p.a; b = n; c = u; d = v }) b
    ∙ ap (λ (n : ℤ). record { a = p.a; b = p.b; c = n; d = v }) c
    ∙ ap (λ (n : ℤ). record { a = p.a; b = p.b; c = p.c; d = n }) d

-- what `==` says of two planes
pub plane_eq-Decides : (p r : Plane) (b : Bool) → b ≡ (int_eq p.a r.a && (int_eq p.b r.b && (int_eq p.c r.c && int_eq p.d r.d))) → Decides b (p ≡ r)
plane_eq-Decides p r b e =
    let c = Decides-and _ _ (Decides-int_eq p.c r.c) (Decides-int_eq p.d r.d) in
    let d = Decides-and _ _ (Decides-int_eq p.a r.a) (Decides-and _ _ (Decides-int_eq p.b r.b) c) in
    Decides-at b _ e (Decides-like _ (λ i. made r i.0 i.1.0 i.1.1.0 i.1.1.1) (λ i. let a = ap (λ (m : Plane). m.a) i in (a, (ap (λ (m : Plane). m.b) i, (ap (λ (m : Plane). m.c) i, ap (λ (m : Plane). m.d) i)))) d)

neg_zero : (z : ℤ) → neg_ℤ z ≡ pos 0 → z ≡ pos 0
neg_zero z e = omega (arith, ints)

pub turned_fits : {p : Plane} → FitsPlane p → FitsPlane (turned p)
unfolding turned
turned_fits f = record {
  a = short_neg f.a;
  b = short_neg f.b;
  c = short_neg f.c;
  d = short_neg f.d;
  sloped = λ z. f.sloped (neg_zero _ z.0, neg_zero _ z.1, neg_zero _ z.2);
}

pub rolled_fits : {p : Plane} → FitsPlane p → FitsPlane (rolled_plane p)
unfolding rolled_plane
rolled_fits f = record { a = f.c; b = f.a; c = f.b; d = f.d; sloped = λ z. f.sloped (z.1, z.2, z.0) }
