-- How far the model reaches that bytes begin with.
use Rattle.std.proofs.Common.{◌≡◌, ℕ, zero, suc, ◌+◌, ◌-◌, ◌^◌, ◌<◌, ◌≤◌, ◌⊎◌, List, [], ◌++◌, length, take, drop, replicate, Some, None, Option, Ok, Err, Result, sym, refl, ap, ◌∙◌, subst, inl, inr, append-nil, zero-le, le_antisymm, zero-add, arith, length-append, length-drop, take-append-drop, take_all, w32}
use native.Mathlib.Nat.{sub-zero}
use Rattle.std.proofs.lemmas.List.{take_at, take-append-le, length-replicate}
use Rattle.std.proofs.lemmas.Bool.{cases_lt}
use Rattle.std.specs.List.{between}
use Rattle.model.specs.declared.types.Layout.{Layout}
use Rattle.model.specs.declared.types.Misfit.{Misfit}
use Rattle.model.specs.declared.types.Misfit.TheVariants.{Short, Long}
use Rattle.model.specs.Wire.{WireModel, InRangePiece, InRangeFace, InRange}
use Rattle.model.specs.Format.{count_bytes, listed, piece_bytes, face_bytes, model_bytes}
use Rattle.model.specs.Finds.{Few, Decoded, Stands, Found}
use Rattle.model.specs.Extents.{Laid, NoModel, Measured, ReadAgain}
use Rattle.model.proofs.Digits.{Bytes, bytes_append}
use Rattle.model.proofs.Coding.{Code, code_listed}
use Rattle.model.proofs.Things.{piece_code, model_as, model_code}
use Rattle.model.proofs.Decodes.{decoded}
use Rattle.model.proofs.Standing.{front_stands, stands_as, stands_both}
use Rattle.model.proofs.Finding.{listed_stands, found_as, found_behind, found_not}

-- the shorter of two fronts of one list begins the longer
begins_longer : (a b r s : List ℕ) → a ++ r ≡ b ++ s → length a ≤ length b → b ≡ a ++ drop (length a) b
begins_longer a b r s e h =
    let t : take (length a) b ≡ a = sym (take-append-le (length a) b s h) ∙ ap (take (length a)) (sym e) ∙ take_at a r (length a) refl in
    sym (take-append-drop (length a) b) ∙ ap (λ (x : List ℕ). x ++ drop (length a) b) t

zeros : (n : ℕ) → Bytes (replicate n 0)
zeros zero i = record { fits = omega arith }
zeros (suc n) zero = record { fits = omega arith }
zeros (suc n) (suc i) = zeros n i

-- bytes that begin with no thing become one by bytes behind them
grows : {X : Type 0} {f : X → List ℕ} {R : X → Type 0} {n : ℕ} → Code f R n → (l : List ℕ) → Bytes l → ((x : X) (rest : List ℕ) → R x → l ≡ f x ++ rest → ⊥) →
    (more : List ℕ) × (x : X) × R x × (l ++ more ≡ f x)
grows {X} {f} {R} {n} k l b none =
    let z = replicate n 0 in
    let e : length (l ++ z) ≡ length l + n = length-append l z ∙ ap (λ (i : ℕ). length l + i) (length-replicate n 0) in
    let p = k.reads (l ++ z) (bytes_append l z b (zeros n)) (omega arith) in
    go p.thing p.range z p.rest p.is (cases_lt (length l) (length (f p.thing)))
  where
    go : (x : X) → R x → (z r : List ℕ) → l ++ z ≡ f x ++ r → (length l < length (f x)) ⊎ (length (f x) ≤ length l) → (more : List ℕ) × (x : X) × R x × (l ++ more ≡ f x)
    go x h z r e (inl c) = (drop (length l) (f x), x, h, sym (begins_longer l (f x) z r e (omega arith)))
    go x h z r e (inr c) = absurd (none x (drop (length (f x)) l) h (begins_longer (f x) l r z (sym e) c))

-- no model stands at the front
pub short_measured : (l : List ℕ) → Bytes l → Found model_bytes InRange l 0 None → Measured l (Err Short)
short_measured l b p =
    let none : NoModel l = λ m rest h e. p m (length (model_bytes m)) h (front_stands l (model_bytes m) rest 0 (length (model_bytes m)) zero-le e (zero-add (length (model_bytes m)))) in
    let g = grows model_code l b none in
    (none, record { more = g.0; model = g.1; range = g.2; are = g.3 })

pub no_pieces : (l : List ℕ) → Found (listed w32 piece_bytes) (Few InRangePiece w32) l 0 None → Found model_bytes InRange l 0 None
no_pieces l p = found_as model_as l 0 None (found_not (listed w32 face_bytes) (Few InRangeFace w32) p)

pub model_found : (l : List ℕ) (middle : ℕ) → Found (listed w32 piece_bytes) (Few InRangePiece w32) l 0 (Some middle) →
    (r : Option ℕ) → Found (listed w32 face_bytes) (Few InRangeFace w32) l middle r → Found model_bytes InRange l 0 r
model_found l middle p r q = found_as model_as l 0 r (found_behind (code_listed piece_code w32) (listed w32 face_bytes) (Few InRangeFace w32) p r q)

-- a model stands at the front, to `end`
front_model : (l : List ℕ) (end : ℕ) (m : WireModel) → InRange m → Stands l 0 (model_bytes m) end → Decoded model_bytes InRange (take end l) m
front_model l end m h s = decoded model_code m h (ap (λ (n : ℕ). take n l) (sym (sub-zero end)) ∙ s.are)

pub long_measured : (l : List ℕ) (end : ℕ) → Found model_bytes InRange l 0 (Some end) → end < length l → Measured l (Err (Long end))
long_measured l end p h = (h, (p.0, front_model l end p.0 p.1 p.2))

pub number_within : {X : Type 0} (f : X → List ℕ) (R : X → Type 0) (l : List ℕ) (at end : ℕ) → Found (listed w32 f) (Few R w32) l at (Some end) → at + 4 ≤ length l
number_within f R l at end p = (listed_stands w32 f p.0 p.2).number.within

pub whole_measured : (l : List ℕ) (middle end n k : ℕ) → Found (listed w32 piece_bytes) (Few InRangePiece w32) l 0 (Some middle) → Found (listed w32 face_bytes) (Few InRangeFace w32) l middle (Some end) →
    length l ≤ end → Decoded (count_bytes w32) (λ (i : ℕ). i < 2 ^ 32) (between 0 4 l) n → Decoded (count_bytes w32) (λ (i : ℕ). i < 2 ^ 32) (between middle (middle + 4) l) k →
    Measured l (Ok (record { pieces = n; middle = middle; faces = k }))
unfolding model_bytes
whole_measured l middle end n k p q h dn dk =
    let c = listed_stands w32 piece_bytes p.0 p.2 in
    let f = listed_stands w32 face_bytes q.0 q.2 in
    let m : WireModel = record { pieces = p.0; faces = q.0 } in
    let g : InRange m = record { few_pieces = p.1.0; pieces = p.1.1; few_faces = q.1.0; faces = q.1.1 } in (
      m,
      subst (λ (x : List ℕ). Decoded model_bytes InRange x m) (take_all end l h) (front_model l end m g (stands_both p.2 q.2)),
      record {
        pieces = sym (dn.only (length p.0) p.1.0 c.number.are);
        faces = sym (dk.only (length q.0) q.1.0 f.number.are);
        pieces_stand = c.things;
        faces_stand = stands_as refl refl (le_antisymm q.2.within h) f.things;
      },
    )

pub read_again : (l : List ℕ) (r : Result Layout Misfit) → Measured l r → ReadAgain l r
read_again l (Ok k) p = λ n h e. (k, refl, subst (λ (x : WireModel). Laid l x k) (sym (p.1.only n h e)) p.2)
read_again l (Err Short) p = λ n h e. absurd (p.0 n [] h (e ∙ sym (append-nil (model_bytes n))))
read_again l (Err (Long i)) p = λ n h e. absurd (too_long n h e)
  where
    too_long : (n : WireModel) → InRange n → l ≡ model_bytes n → ⊥
    too_long n h e =
        let m = p.1.0 in
        let d = p.1.1 in
        let a : model_bytes n ++ [] ≡ model_bytes m ++ drop i l = append-nil (model_bytes n) ∙ sym e ∙ sym (take-append-drop i l) ∙ ap (λ (x : List ℕ). x ++ drop i l) d.are in
        let z : 0 ≡ length l - i = ap length (model_code.apart n m [] (drop i l) h d.range a).1 ∙ length-drop i l in
        let t : i < length l = p.0 in
        omega arith
