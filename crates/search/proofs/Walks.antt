-- Places whose doubled coordinates stand in three lists.
use Rattle.std.proofs.Common.{◌≡◌, ℕ, ◌<◌, Bool, false, List, length, get_or, ℤ, sym, refl, ap, ◌∙◌, w64, to_z}
use Rattle.std.proofs.lemmas.List.{get_or_default}
use Rattle.plane.specs.declared.types.Place.{Place}
use Rattle.solid.specs.Shapes.{Has}
use Rattle.solid.proofs.Members.{has_read, has_map, map_has}
use Rattle.search.specs.Levels.{numbers, halved, Listed}

abbrev pub spot : List ℕ → List ℕ → List ℕ → ℕ → ℕ → ℕ → Place
spot xs ys zs i j k = halved (to_z w64 (get_or xs i 0)) (to_z w64 (get_or ys j 0)) (to_z w64 (get_or zs k 0))

has_number : (ws : List ℕ) (i : ℕ) → i < length ws → Has (numbers ws) (to_z w64 (get_or ws i 0))
has_number ws i h = has_map (to_z w64) (get_or ws i 0) ws (has_read ws i 0 h)

pub spot_listed : (xs ys zs : List ℕ) (i j k : ℕ) → i < length xs → j < length ys → k < length zs → Listed (numbers xs) (numbers ys) (numbers zs) (spot xs ys zs i j k)
spot_listed xs ys zs i j k h l m = record { x = has_number xs i h; y = has_number ys j l; z = has_number zs k m; w = refl }

-- where a number stands
number_at : (ws : List ℕ) (m : ℤ) → Has (numbers ws) m → (i : ℕ) × (i < length ws) × (to_z w64 (get_or ws i 0) ≡ m)
number_at ws m h =
    let r = map_has (to_z w64) m ws h in
    (r.1.0, r.1.1.0, ap (to_z w64) (get_or_default ws r.1.0 0 r.0 r.1.1.0 ∙ r.1.1.1) ∙ r.2)

pub listed_none : (f : Place → Bool) (xs ys zs : List ℕ) →
    ((i : ℕ) → i < length xs → (j : ℕ) → j < length ys → (k : ℕ) → k < length zs → f (spot xs ys zs i j k) ≡ false) →
    (q : Place) → Listed (numbers xs) (numbers ys) (numbers zs) q → f q ≡ false
listed_none f xs ys zs n q l =
    let a = number_at xs q.x l.x in
    let b = number_at ys q.y l.y in
    let c = number_at zs q.z l.z in
    ap f (made q a.2 b.2 c.2 l.w) ∙ n a.0 a.1 b.0 b.1 c.0 c.1
  where
    made : {x y z : ℤ} (q : Place) → x ≡ q.x → y ≡ q.y → z ≡ q.z → q.w ≡ 2 → q ≡ halved x y z
    made {x} {y} {z} q a b c d =
        ap (λ (n : ℕ). record { x = q.x; y = q.y; z = q.z; w = n }) d
        ∙ ap (λ (n : ℤ). halved n q.y q.z) (sym a) ∙ ap (λ (n : ℤ). halved x n q.z) (sym b) ∙ ap (λ (n : ℤ). halved x y n) (sym c)
