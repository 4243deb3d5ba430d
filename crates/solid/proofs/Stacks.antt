-- The values of the shapes on a stack.
--     values_length                                  how many there are
--     at_joint                                       what a step that joins two makes of them
use Rattle.std.proofs.Common.{◌≡◌, ◌≤◌, Bool, List, [], ◌∷◌, length, refl, sym, ap, ◌∙◌, subst, arith, length-append}
use Rattle.plane.specs.declared.types.Place.{Place}
use Rattle.solid.specs.declared.types.Step.{Step}
use Rattle.solid.specs.Shapes.{Shape}
use Rattle.solid.specs.Stacks.{values_at, after, taken, Enough}

module _ (q : Place) where
  pub values_length : (st : List Shape) → length (values_at q st) ≡ length st
  values_length [] = refl
  values_length (s ∷ st) = simp length-append (omega (arith, values_length st))

  -- a step that joins the two newest, whatever the values after it
  pub at_joint : (op : Shape → Shape → Shape) {x y : Step} → x ≡ y → taken y ≡ 2 → ((s t : Shape) (st : List Shape) → after y (t ∷ (s ∷ st)) ≡ op s t ∷ st) →
      (st : List Shape) {vs ws : List Bool} → Enough x (length vs) → vs ≡ values_at q st →
      ((s t : Shape) (st : List Shape) → vs ≡ values_at q (t ∷ (s ∷ st)) → ws ≡ values_at q (op s t ∷ st)) → ws ≡ values_at q (after x st)
  at_joint op {x} {y} i two e st {vs} {ws} h k f =
      subst (λ (z : Step). ws ≡ values_at q (after z st)) (sym i) (go st k (omega (arith, h.many, ap taken i, ap length k, values_length st)))
    where
      go : (st : List Shape) → vs ≡ values_at q st → 2 ≤ length st → ws ≡ values_at q (after y st)
      go [] k h = absurd (omega arith)
      go (t ∷ []) k h = absurd (omega arith)
      go (t ∷ (s ∷ st)) k h = f s t st k ∙ sym (ap (values_at q) (e s t st))
