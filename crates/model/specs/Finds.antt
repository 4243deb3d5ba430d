-- What stands in bytes.
use Rattle.std.specs.Prelude.{◌≡◌, ℕ, ◌+◌, ◌*◌, ◌^◌, ◌<◌, ◌≤◌, ◌⊎◌, List, length, None, Option, MatchOption}
use Rattle.std.specs.Int.{Width, w16}
use mir.Val.{bits}
use Rattle.std.specs.List.{between, AllByRecursion}
use Rattle.model.specs.Format.{count_bytes}

-- things in range whose number fits
abbrev pub Few : {X : Type 0} → (X → Type 0) → Width → List X → Type 0
Few R w xs = (length xs < 2 ^ bits w) × AllByRecursion R xs

-- bs are the bytes of x, which is in range, and of nothing else in range
pub record Decoded {X : Type 0} (f : X → List ℕ) (R : X → Type 0) (bs : List ℕ) (x : X) : Type 0 where
  pub range : R x
  pub are : bs ≡ f x
  pub only : (y : X) → R y → bs ≡ f y → y ≡ x

-- bs stand in l from `at` to `end`
pub record Stands (l : List ℕ) (at : ℕ) (bs : List ℕ) (end : ℕ) : Type 0 where
  pub within : end ≤ length l
  pub long : at + length bs ≡ end
  pub are : between at end l ≡ bs

-- where the thing ends that stands at `at`; none if the bytes end before it
abbrev pub Found : {X : Type 0} → (X → List ℕ) → (X → Type 0) → List ℕ → ℕ → Option ℕ → Type 0
Found {X} f R l at r = MatchOption r ((x : X) (end : ℕ) → R x → Stands l at (f x) end → ⊥) (λ end. (x : X) × R x × Stands l at (f x) end)

-- no two things in range stand at one place
abbrev pub StandsOnce : {X : Type 0} → (X → List ℕ) → (X → Type 0) → List ℕ → ℕ → Type 0
StandsOnce {X} f R l at = (x y : X) (a b : ℕ) → R x → R y → Stands l at (f x) a → Stands l at (f y) b → x ≡ y

-- where n bytes from `at` on end; none if there are fewer
abbrev pub Skipped : List ℕ → ℕ → ℕ → Option ℕ → Type 0
Skipped l at n r = MatchOption r (length l < at + n) (λ end. (end ≡ at + n) × (end ≤ length l))

-- where a list ends whose number stands at `at`, of things of `size` bytes each; none if the bytes end before it
abbrev pub ListEnds : List ℕ → ℕ → ℕ → Option ℕ → Type 0
ListEnds l at size r =
    ((length l < at + 2) × (r ≡ None)) ⊎ ((n : ℕ) × (n < 2 ^ 16) × Stands l at (count_bytes w16 n) (at + 2) × Skipped l (at + 2) (size * n) r)
