-- Numbers and their digits: `signed` writes just the byte lists of which `is_num` holds, each of one number.
use Rattle.std.proofs.Common.{◌≡◌, ℕ, zero, suc, ◌+◌, ◌-◌, ◌*◌, ◌/◌, ◌%◌, ◌<◌, ◌≤◌, Bool, true, false, cond, eqb, leb, List, [], ◌∷◌, ◌++◌, map, get_or, ℤ, pos, negsuc, sym, refl, ap, ◌∙◌, subst, append_assoc, append-nil, arith}
use Rattle.std.specs.Int.Digits.{digits_of, number_from_digits, AllBelowBase}
use Rattle.std.proofs.lemmas.Int.Digits.{digits_of_step, all_below_base_digits_of, first_digits_of, number_push, number_digits_of, number_after_ge}
use Rattle.std.proofs.lemmas.Bool.{both_ways, and_parts, and_from, eqb-true, ne_eqb, leb-true, le-leb, cond-false}
use Rattle.grammar.specs.Grammar.{is_num, is_pos, is_empty, digit, digit1, all, decimal, signed}

-- digits as bytes, and back
digit_up : (d : ℕ) → d < 10 → digit (48 + d) ≡ true
digit_up d h = and_from (leb 48 (48 + d)) (leb (48 + d) 57) (le-leb 48 (48 + d) (omega arith)) (le-leb (48 + d) 57 (omega arith))

digits_up : (ds : List ℕ) → AllBelowBase 10 ds → all digit (map (λ d. 48 + d) ds) ≡ true
digits_up [] h = refl
digits_up (d ∷ ds) h = and_from (digit (48 + d)) _ (digit_up d h.0) (digits_up ds h.1)

-- digits that do not begin with 0 write the number that they are the digits of
more_digits : (acc ds : List ℕ) → 0 < number_from_digits 10 acc → digits_of 10 (number_from_digits 10 acc) ≡ acc → AllBelowBase 10 ds → digits_of 10 (number_from_digits 10 (acc ++ ds)) ≡ acc ++ ds
more_digits acc [] h e u = rw (append-nil acc) e
more_digits acc (d ∷ ds) h e u =
    let n : number_from_digits 10 (acc ++ d ∷ []) ≡ number_from_digits 10 acc * 10 + d = number_push 10 acc d in
    let q : (number_from_digits 10 acc * 10 + d) / 10 ≡ number_from_digits 10 acc = omega (arith, u.0) in
    let r : (number_from_digits 10 acc * 10 + d) % 10 ≡ d = omega (arith, u.0) in
    let s : digits_of 10 (number_from_digits 10 acc * 10 + d) ≡ acc ++ d ∷ [] =
    digits_of_step 10 (number_from_digits 10 acc * 10 + d) (omega arith) (omega arith) ∙ ap (λ (x : ℕ). digits_of 10 x ++ (number_from_digits 10 acc * 10 + d) % 10 ∷ []) q
    ∙ ap (λ (x : ℕ). digits_of 10 (number_from_digits 10 acc) ++ x ∷ []) r ∙ ap (λ (x : List ℕ). x ++ d ∷ []) e in
    let k = more_digits (acc ++ d ∷ []) ds (omega (arith, n)) (ap (digits_of 10) n ∙ s) u.1 in
    rw (append_assoc acc (d ∷ []) ds) at k

one_digit : (d : ℕ) → 0 < d → d < 10 → digits_of 10 (number_from_digits 10 (d ∷ [])) ≡ d ∷ []
one_digit d p h =
    let n : number_from_digits 10 (d ∷ []) ≡ d = omega arith in
    let q : d / 10 ≡ 0 = omega arith in
    let r : d % 10 ≡ d = omega arith in
    ap (digits_of 10) n ∙ digits_of_step 10 d (omega arith) p ∙ ap (λ (x : ℕ). digits_of 10 x ++ d % 10 ∷ []) q ∙ ap (λ (x : ℕ). x ∷ []) r

-- bytes back to digits
abbrev pub downs : List ℕ → List ℕ
downs w = map (λ c. c - 48) w

digit_in : (b : ℕ) → digit b ≡ true → (48 ≤ b) × (b ≤ 57)
digit_in b h = let p = and_parts (leb 48 b) (leb b 57) h in (leb-true 48 b p.0, leb-true b 57 p.1)

under_downs : (w : List ℕ) → all digit w ≡ true → AllBelowBase 10 (downs w)
under_downs [] h = tt
under_downs (b ∷ w) h =
    let p = and_parts (digit b) (all digit w) h in
    let q = digit_in b p.0 in
    (omega arith, under_downs w p.1)

up_down : (w : List ℕ) → all digit w ≡ true → map (λ d. 48 + d) (downs w) ≡ w
up_down [] h = refl
up_down (b ∷ w) h =
    let p = and_parts (digit b) (all digit w) h in
    let q = digit_in b p.0 in
    let e : 48 + (b - 48) ≡ b = omega arith in
    let f = up_down w p.1 in
    cc

down_up : (ds : List ℕ) → downs (map (λ d. 48 + d) ds) ≡ ds
down_up [] = refl
down_up (d ∷ ds) =
    let e : 48 + d - 48 ≡ d = omega arith in
    let f = down_up ds in
    cc

digit1_in : (b : ℕ) → digit1 b ≡ true → (49 ≤ b) × (b ≤ 57)
digit1_in b h = let p = and_parts (leb 49 b) (leb b 57) h in (leb-true 49 b p.0, leb-true b 57 p.1)

pos_decimal : (w : List ℕ) → is_pos w ≡ true → (n : ℕ) × (0 < n) × (decimal n ≡ w)
pos_decimal [] h = absurd (both_ways false refl h)
pos_decimal (b ∷ w) h =
    let p = and_parts (digit1 b) (all digit w) h in
    let q = digit1_in b p.0 in
    let first : number_from_digits 10 ((b - 48) ∷ []) ≡ b - 48 = omega arith in
    let k = more_digits ((b - 48) ∷ []) (downs w) (omega arith) (one_digit (b - 48) (omega arith) (omega arith)) (under_downs w p.1) in
    let n = number_from_digits 10 (downs (b ∷ w)) in
    let big : 0 < n = omega (arith, number_after_ge 10 (0 * 10 + (b - 48)) (downs w) (omega arith)) in
    let e : 48 + (b - 48) ≡ b = omega arith in
    let f = up_down w p.1 in
    (n, big, cond-false (eqb n 0) _ _ (ne_eqb n 0 (omega arith)) ∙ ap (map (λ d. 48 + d)) k ∙ cc)

pub num_signed : (w : List ℕ) → is_num w ≡ true → (z : ℤ) × (signed z ≡ w)
num_signed [] h = absurd (both_ways false refl h)
num_signed (b ∷ w) h = go (eqb b 45) refl
  where
    zero! : (v : List ℕ) → is_empty v ≡ true → b ≡ 48 → (z : ℤ) × (signed z ≡ b ∷ v)
    zero! [] k e = (pos 0, cc)
    zero! (x ∷ v) k e = absurd (both_ways false refl k)

    plain : (t : Bool) → eqb b 48 ≡ t → cond t (is_empty w) (is_pos (b ∷ w)) ≡ true → (z : ℤ) × (signed z ≡ b ∷ w)
    plain true e k = zero! w k (eqb-true b 48 e)
    plain false e k = let m = pos_decimal (b ∷ w) k in (pos m.0, m.2)

    below : (n : ℕ) → 0 < n → decimal n ≡ w → b ≡ 45 → (z : ℤ) × (signed z ≡ b ∷ w)
    below zero l e f = absurd (omega arith)
    below (suc n) l e f = (negsuc n, cc)

    go : (t : Bool) → eqb b 45 ≡ t → (z : ℤ) × (signed z ≡ b ∷ w)
    go true e = let m = pos_decimal w (rw e at h) in below m.0 m.1 m.2 (eqb-true b 45 e)
    go false e = plain (eqb b 48) refl (rw e at h)

-- and back: what is written is a number
pos_up : (ds : List ℕ) → AllBelowBase 10 ds → 0 < get_or ds 0 0 → is_pos (map (λ d. 48 + d) ds) ≡ true
pos_up [] u h = absurd (omega arith)
pos_up (d ∷ ds) u h =
    and_from (digit1 (48 + d)) _ (and_from (leb 49 (48 + d)) (leb (48 + d) 57) (le-leb 49 (48 + d) (omega arith)) (le-leb (48 + d) 57 (omega (arith, u.0)))) (digits_up ds u.1)

decimal_pos : (n : ℕ) → 0 < n → is_pos (decimal n) ≡ true
decimal_pos n h =
    let e : decimal n ≡ map (λ d. 48 + d) (digits_of 10 n) = cond-false (eqb n 0) _ _ (ne_eqb n 0 (omega arith)) in
    ap is_pos e ∙ pos_up (digits_of 10 n) (all_below_base_digits_of 10 n (omega arith)) (first_digits_of 10 n (omega arith) h)

pos_num : (w : List ℕ) → is_pos w ≡ true → is_num w ≡ true
pos_num [] h = h
pos_num (b ∷ w) h =
    let p = and_parts (digit1 b) (all digit w) h in
    let q = digit1_in b p.0 in
    cond-false (eqb b 45) _ _ (ne_eqb b 45 (omega arith)) ∙ cond-false (eqb b 48) _ _ (ne_eqb b 48 (omega arith)) ∙ h

decimal_num : (n : ℕ) → is_num (decimal n) ≡ true
decimal_num zero = refl
decimal_num (suc n) = pos_num (decimal (suc n)) (decimal_pos (suc n) (omega arith))

pub signed_num : (z : ℤ) → is_num (signed z) ≡ true
signed_num (pos n) = decimal_num n
signed_num (negsuc n) = decimal_pos (suc n) (omega arith)

-- a number is written in one way only
pub decimal_value : (n : ℕ) → number_from_digits 10 (downs (decimal n)) ≡ n
decimal_value zero = refl
decimal_value (suc n) =
    let e : decimal (suc n) ≡ map (λ d. 48 + d) (digits_of 10 (suc n)) = cond-false (eqb (suc n) 0) _ _ (ne_eqb (suc n) 0 (omega arith)) in
    ap (λ (x : List ℕ). number_from_digits 10 (downs x)) e ∙ ap (number_from_digits 10) (down_up (digits_of 10 (suc n))) ∙ number_digits_of 10 (suc n) (omega arith)

decimal_once : (m n : ℕ) → decimal m ≡ decimal n → m ≡ n
decimal_once m n e = sym (decimal_value m) ∙ ap (λ (x : List ℕ). number_from_digits 10 (downs x)) e ∙ decimal_value n

pub no_minus : (n : ℕ) (w : List ℕ) → decimal n ≡ 45 ∷ w → ⊥
no_minus zero w e = let z : ◌≡◌ {A = ℕ} 48 45 = cc in omega arith
no_minus (suc n) w e = both_ways false refl (subst (λ (x : List ℕ). is_pos x ≡ true) e (decimal_pos (suc n) (omega arith)))

pub signed_once : (y z : ℤ) → signed y ≡ signed z → y ≡ z
signed_once (pos m) (pos n) e = ap pos (decimal_once m n e)
signed_once (pos m) (negsuc n) e = absurd (no_minus m _ e)
signed_once (negsuc m) (pos n) e = absurd (no_minus n _ (sym e))
signed_once (negsuc m) (negsuc n) e =
    let f : decimal (suc m) ≡ decimal (suc n) = cc in
    let g = decimal_once (suc m) (suc n) f in
    let k : m ≡ n = omega arith in
    ap negsuc k

pos_digits : (w : List ℕ) → is_pos w ≡ true → all digit w ≡ true
pos_digits [] h = refl
pos_digits (b ∷ w) h =
    let p = and_parts (digit1 b) (all digit w) h in
    let q = digit1_in b p.0 in
    and_from (digit b) (all digit w) (and_from (leb 48 b) (leb b 57) (le-leb 48 b (omega arith)) (le-leb b 57 (omega arith))) p.1

pub decimal_digits : (n : ℕ) → all digit (decimal n) ≡ true
decimal_digits zero = refl
decimal_digits (suc n) = pos_digits (decimal (suc n)) (decimal_pos (suc n) (omega arith))
