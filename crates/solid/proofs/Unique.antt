-- A shape in range has one list of steps, and a list of steps one shape at most: to be the steps of a shape is a proposition.
use Rattle.std.proofs.Common.{◌≡◌, ℕ, List, ℤ, sym, ◌∙◌}
use mathlib.Core.List.{List-discrete}
use mathlib.Core.Logic.{∥∥₁_elim}
use mathlib.Core.HLevel.{is_prop→PathP, hedberg, ⊥_prop}
use native.Mathlib.Bridge.{le_prop}
use native.Mathlib.Decide.{ℕ_discrete}
use Rattle.arith.specs.Bounds.{Short}
use Rattle.plane.specs.declared.types.Plane.{Plane}
use Rattle.plane.specs.Limits.{FitsPlane}
use Rattle.solid.specs.Shapes.{Shape, Fits}
use Rattle.solid.specs.Steps.{words, Coded}
use Rattle.solid.proofs.Machine.{words_apart}

pub words_set : IsSet (List ℕ)
words_set = hedberg (List-discrete ℕ_discrete)

pub short_prop : (z : ℤ) (n : ℕ) → IsProp (Short z n)
short_prop z n a b = λ i. record { size = le_prop a.size b.size i }

plane_prop : (p : Plane) → IsProp (FitsPlane p)
plane_prop p a b = λ i. record {
  a = short_prop _ _ a.a b.a i;
  b = short_prop _ _ a.b b.b i;
  c = short_prop _ _ a.c b.c i;
  d = short_prop _ _ a.d b.d i;
  sloped = λ h. ⊥_prop (a.sloped h) (b.sloped h) i;
}

pub fits_prop : (s : Shape) → IsProp (Fits s)
fits_prop s a b = λ i. record {
  few = le_prop a.few b.few i;
  each = λ p h. plane_prop p (a.each p h) (b.each p h) i;
}

pub coded_prop : (ws : List ℕ) → IsProp (Coded ws)
coded_prop ws a b =
    let e : a.shape ≡ b.shape = words_apart a.shape b.shape a.fits b.fits (sym a.is ∙ b.is) in
    λ i. record {
      shape = e i;
      is = is_prop→PathP (λ j. ws ≡ words (e j)) (λ j. words_set ws (words (e j))) a.is b.is i;
      fits = is_prop→PathP (λ j. Fits (e j)) (λ j. fits_prop (e j)) a.fits b.fits i;
    }

pub coded : {ws : List ℕ} → ∥ Coded ws ∥₁ → Coded ws
coded {ws} c = ∥∥₁_elim c (coded_prop ws) (λ k. k)
