-- Numbers, planes and places read from bytes.
use Rattle.std.proofs.Common.{◌≡◌, ℕ, ◌+◌, ◌-◌, ◌^◌, ◌<◌, ◌≤◌, T, leb, List, [], ◌++◌, length, take, drop, ℤ, sym, ap, ◌∙◌, subst, ap₂, arith, drop-drop, take-add, to_z-of_z, w8, w32, w64, Fits, SFits, to_z, of_z}
use mir.Syntax.{Width}
use mir.Val.{bytes, bits, hbits}
use mir.Facts.{of_z-to_z, sfits_to_z}
use Rattle.std.proofs.lemmas.List.Edits.{length-between}
use Rattle.std.specs.Int.{to_le_bytes, from_le_bytes}
use Rattle.std.specs.List.{between}
use Rattle.model.specs.Wire.{InRangePlane, InRangePlace}
use Rattle.model.specs.Format.{low_first, count_bytes, signed_bytes, plane_bytes, place_bytes}
use Rattle.model.specs.Finds.{Decoded}
use Rattle.model.proofs.Digits.{Bytes, bytes_drop, bytes_take, value, value_below, low_first-value, le_bytes}
use Rattle.model.proofs.Coding.{Code, code_count, code_signed, powers}
use Rattle.model.proofs.Codes.{fits_64}
use Rattle.model.proofs.Things.{plane_code, place_code}

pub decoded : {X : Type 0} {f : X → List ℕ} {R : X → Type 0} {n : ℕ} {bs : List ℕ} → Code f R n → (x : X) → R x → bs ≡ f x → Decoded f R bs x
decoded k x h e = record { range = h; are = e; only = λ y g z. (k.apart y x [] [] g h (ap (λ (a : List ℕ). a ++ []) (sym z ∙ e))).0 }

-- what the library reads from the bytes of a number that it writes
module _ (w : Width) (again : (n : ℕ) → n < 2 ^ bits w → from_le_bytes w (to_le_bytes w n) ≡ n) (l : List ℕ) (at : ℕ) (b : Bytes l) (h : at + bytes w ≤ length l) where
  part : List ℕ
  part = between at (at + bytes w) l

  long : length part ≡ bytes w
  unfolding part
  long = let e : at + bytes w - at ≡ bytes w = omega arith in length-between l at (at + bytes w) h ∙ e

  are_bytes : Bytes part
  unfolding part
  are_bytes = bytes_take (at + bytes w - at) (drop at l) (bytes_drop at l b)

  small : value part < 2 ^ bits w
  small = subst (λ (i : ℕ). value part < i) (ap (λ (i : ℕ). 256 ^ i) long ∙ powers w) (value_below part are_bytes)

  written : part ≡ low_first (bytes w) (value part)
  written = sym (low_first-value part are_bytes) ∙ ap (λ (i : ℕ). low_first i (value part)) long

  is_value : {bs : List ℕ} → bs ≡ part → from_le_bytes w bs ≡ value part
  is_value e = ap (from_le_bytes w) (e ∙ written ∙ sym (le_bytes w (value part))) ∙ again (value part) small

  pub count_read : {bs : List ℕ} {r : ℕ} → bs ≡ between at (at + bytes w) l → r ≡ from_le_bytes w bs → Decoded (count_bytes w) (λ (i : ℕ). i < 2 ^ bits w) (between at (at + bytes w) l) r
  unfolding count_bytes part
  count_read {r = r} e v =
      let z : value part ≡ r = sym (v ∙ is_value e) in
      decoded (code_count w) r (subst (λ (i : ℕ). i < 2 ^ bits w) z small) (written ∙ ap (low_first (bytes w)) z)

  pub signed_read : {bs : List ℕ} {r : ℤ} → SFits w r → bs ≡ between at (at + bytes w) l → r ≡ to_z w (from_le_bytes w bs) → Decoded (signed_bytes w) (SFits w) (between at (at + bytes w) l) (to_z w (of_z w r))
  unfolding signed_bytes part
  signed_read {r = r} s e v =
      let f : Fits w (value part) = record { fits = small } in
      let z : to_z w (value part) ≡ to_z w (of_z w r) = sym (to_z-of_z s ∙ v ∙ ap (to_z w) (is_value e)) in
      decoded (code_signed w) (to_z w (of_z w r)) (subst (SFits w) z (sfits_to_z f)) (written ∙ ap (low_first (bytes w)) (sym (of_z-to_z f) ∙ ap (of_z w) z))

-- a part of a list, in two
between_joint : (l : List ℕ) (a b c : ℕ) → a ≤ b → b ≤ c → between a c l ≡ between a b l ++ between b c l
between_joint l a b c h k =
    let e : c - a ≡ (b - a) + (c - b) = omega arith in
    let d : a + (b - a) ≡ b = omega arith in
    ap (λ (n : ℕ). take n (drop a l)) e ∙ take-add (b - a) (c - b) (drop a l)
    ∙ ap (λ (x : List ℕ). between a b l ++ take (c - b) x) (drop-drop (b - a) a l ∙ ap (λ (n : ℕ). drop n l) d)

-- four parts of n1, n2, n3 and n4 numbers, one behind the other
in_four : (l : List ℕ) (at n1 n2 n3 n4 : ℕ) {p q r s : List ℕ} → between at (at + n1) l ≡ p → between (at + n1) (at + n1 + n2) l ≡ q →
    between (at + (n1 + n2)) (at + (n1 + n2) + n3) l ≡ r → between (at + (n1 + n2 + n3)) (at + (n1 + n2 + n3) + n4) l ≡ s → between at (at + (n1 + n2 + n3 + n4)) l ≡ p ++ (q ++ (r ++ s))
in_four l at n1 n2 n3 n4 {p} {q} {r} {s} ep eq er es =
    let end = at + (n1 + n2 + n3 + n4) in
    let e2 : at + (n1 + n2) ≡ at + n1 + n2 = omega arith in
    let e3 : at + (n1 + n2 + n3) ≡ at + (n1 + n2) + n3 = omega arith in
    let e4 : end ≡ at + (n1 + n2 + n3) + n4 = omega arith in
    let three = between_joint l (at + (n1 + n2)) (at + (n1 + n2 + n3)) end (omega arith) (omega arith) in
    let two = between_joint l (at + n1) (at + (n1 + n2)) end (omega arith) (omega arith) in
    between_joint l at (at + n1) end (omega arith) (omega arith)
    ∙ ap₂ (λ (x y : List ℕ). x ++ y) ep
    (two ∙ ap₂ (λ (x y : List ℕ). x ++ y) (ap (λ (n : ℕ). between (at + n1) n l) e2 ∙ eq)
    (three ∙ ap₂ (λ (x y : List ℕ). x ++ y) (ap (λ (n : ℕ). between (at + (n1 + n2)) n l) e3 ∙ er) (ap (λ (n : ℕ). between (at + (n1 + n2 + n3)) n l) e4 ∙ es)))

-- a signed number read, as it is put in its place
pub stored : {w : Width} {bs : List ℕ} {z : ℤ} → T (leb (2 ^ hbits w) (2 ^ 63)) → Decoded (signed_bytes w) (SFits w) bs z → Decoded (signed_bytes w) (SFits w) bs (to_z w64 (of_z w64 z))
stored {w} {bs} {z} t d = subst (Decoded (signed_bytes w) (SFits w) bs) (sym (to_z-of_z (fits_64 d.range t))) d

-- and as it is widened first
pub stored_from : {w : Width} {bs : List ℕ} {z r : ℤ} → T (leb (2 ^ hbits w) (2 ^ 63)) → Decoded (signed_bytes w) (SFits w) bs z → r ≡ to_z w (of_z w z) → Decoded (signed_bytes w) (SFits w) bs (to_z w64 (of_z w64 r))
stored_from {w} {bs} t d e = stored t (subst (Decoded (signed_bytes w) (SFits w) bs) (sym (e ∙ to_z-of_z d.range)) d)

pub plane_read : (l : List ℕ) (at : ℕ) {a b c d : ℤ} →
    Decoded (signed_bytes w8) (SFits w8) (between at (at + 1) l) a → Decoded (signed_bytes w8) (SFits w8) (between (at + 1) (at + 1 + 1) l) b →
    Decoded (signed_bytes w8) (SFits w8) (between (at + 2) (at + 2 + 1) l) c → Decoded (signed_bytes w32) (SFits w32) (between (at + 3) (at + 3 + 4) l) d →
    Decoded plane_bytes InRangePlane (between at (at + 7) l) (record { a = a; b = b; c = c; d = d })
unfolding plane_bytes
plane_read l at {a} {b} {c} {d} p q r s =
    decoded plane_code (record { a = a; b = b; c = c; d = d }) (record { a = p.range; b = q.range; c = r.range; d = s.range })
    (in_four l at 1 1 1 4 p.are q.are r.are s.are)

pub place_read : (l : List ℕ) (at : ℕ) {x y z w : ℤ} →
    Decoded (signed_bytes w64) (SFits w64) (between at (at + 8) l) x → Decoded (signed_bytes w64) (SFits w64) (between (at + 8) (at + 8 + 8) l) y →
    Decoded (signed_bytes w64) (SFits w64) (between (at + 16) (at + 16 + 8) l) z → Decoded (signed_bytes w64) (SFits w64) (between (at + 24) (at + 24 + 8) l) w →
    Decoded place_bytes InRangePlace (between at (at + 32) l) (record { x = x; y = y; z = z; w = w })
unfolding place_bytes
place_read l at {x} {y} {z} {w} p q r s =
    decoded place_code (record { x = x; y = y; z = z; w = w }) (record { x = p.range; y = q.range; z = r.range; w = s.range })
    (in_four l at 8 8 8 8 p.are q.are r.are s.are)
