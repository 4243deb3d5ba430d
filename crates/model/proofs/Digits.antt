-- Numbers and their bytes, the lowest first.
use Rattle.std.proofs.Common.{◌≡◌, ℕ, zero, suc, ◌+◌, ◌*◌, ◌/◌, ◌%◌, ◌^◌, ◌<◌, List, [], ◌∷◌, ◌++◌, length, get_or, take, drop, sym, refl, ap, ◌∙◌, subst, pow-suc, arith, get_or-drop, w8, Fits}
use native.Mathlib.Nat.{div-div-eq-div-mul}
use mir.Syntax.{Width, w16, w32, w64, w128}
use mir.Val.{bytes}
use Rattle.std.specs.Int.{to_le_bytes}
use Rattle.std.proofs.lemmas.Nat.{div_below}
use Rattle.model.specs.Format.{low_first}

-- all numbers are bytes, as a slice of them has it
abbrev pub Bytes : List ℕ → Type 0
Bytes l = (i : ℕ) → Fits w8 (get_or l i 0)

pub bytes_drop : (n : ℕ) (l : List ℕ) → Bytes l → Bytes (drop n l)
bytes_drop n l h i = subst (λ (x : ℕ). Fits w8 x) (sym (get_or-drop n l i 0)) (h (n + i))

pub bytes_take : (n : ℕ) (l : List ℕ) → Bytes l → Bytes (take n l)
bytes_take zero l h i = record { fits = omega arith }
bytes_take (suc n) [] h i = h i
bytes_take (suc n) (x ∷ l) h zero = h zero
bytes_take (suc n) (x ∷ l) h (suc i) = bytes_take n l (λ j. h (suc j)) i

pub bytes_append : (k l : List ℕ) → Bytes k → Bytes l → Bytes (k ++ l)
bytes_append [] l g h i = h i
bytes_append (x ∷ k) l g h zero = g zero
bytes_append (x ∷ k) l g h (suc i) = bytes_append k l (λ j. g (suc j)) h i

pub bytes_tail : (k l : List ℕ) → Bytes (k ++ l) → Bytes l
bytes_tail [] l h = h
bytes_tail (x ∷ k) l h = bytes_tail k l (λ i. h (suc i))

-- the number that bytes write
abbrev pub value : List ℕ → ℕ
value [] = 0
value (b ∷ bs) = b + 256 * value bs

pub length-low_first : (k n : ℕ) → length (low_first k n) ≡ k
length-low_first zero n = refl
length-low_first (suc k) n = ap suc (length-low_first k (n / 256))

pub value-low_first : (k n : ℕ) → n < 256 ^ k → value (low_first k n) ≡ n
value-low_first zero n h = omega arith
value-low_first (suc k) n h =
    let e : 256 ^ suc k ≡ 256 ^ k * 256 = pow-suc 256 k in
    let r : value (low_first k (n / 256)) ≡ n / 256 = value-low_first k (n / 256) (div_below n 256 (256 ^ k) (omega arith) (omega arith)) in
    omega arith

pub low_first-value : (bs : List ℕ) → Bytes bs → low_first (length bs) (value bs) ≡ bs
low_first-value [] h = refl
low_first-value (b ∷ bs) h =
    let l : b < 256 = (h 0).fits in
    let m : (b + 256 * value bs) % 256 ≡ b = omega arith in
    let d : (b + 256 * value bs) / 256 ≡ value bs = omega arith in
    rw (m, d) (ap (λ (x : List ℕ). b ∷ x) (low_first-value bs (λ i. h (suc i))))

pub value_below : (bs : List ℕ) → Bytes bs → value bs < 256 ^ length bs
value_below [] h = omega arith
value_below (b ∷ bs) h =
    let l : b < 256 = (h 0).fits in
    let e : 256 ^ suc (length bs) ≡ 256 ^ length bs * 256 = pow-suc 256 (length bs) in
    let r : value bs < 256 ^ length bs = value_below bs (λ i. h (suc i)) in
    omega arith

-- the k bytes of n from the one of weight w on
abbrev pub from_weight : ℕ → ℕ → ℕ → List ℕ
from_weight zero w n = []
from_weight (suc k) w n = (n / w % 256) ∷ from_weight k (w * 256) n

low_first_from : (k w n : ℕ) → low_first k (n / w) ≡ from_weight k w n
low_first_from zero w n = refl
low_first_from (suc k) w n =
    ap (λ (x : List ℕ). (n / w % 256) ∷ x) (ap (low_first k) (div-div-eq-div-mul n w 256) ∙ low_first_from k (w * 256) n)

-- a number's bytes, each by its weight
pub by_weight : (k n : ℕ) → low_first (suc k) n ≡ (n % 256) ∷ from_weight k 256 n
by_weight k n = ap (λ (x : List ℕ). (n % 256) ∷ x) (low_first_from k 256 n)

-- the library's bytes of a number
pub le_bytes : (w : Width) (n : ℕ) → to_le_bytes w n ≡ low_first (bytes w) n
le_bytes w8 n = sym (by_weight 0 n)
le_bytes w16 n = sym (by_weight 1 n)
le_bytes w32 n = sym (by_weight 3 n)
le_bytes w64 n = sym (by_weight 7 n)
le_bytes w128 n = sym (by_weight 15 n)
