-- Bytes that stand in a list, one behind the other.
use Rattle.std.proofs.Common.{◌≡◌, ℕ, ◌+◌, ◌-◌, ◌≤◌, List, [], ◌++◌, length, take, drop, sym, refl, ap, ◌∙◌, subst, ap₂, append_assoc, arith, length-append, length-drop, take-append-drop, drop-drop}
use Rattle.std.proofs.lemmas.List.{take_at, drop_at}
use Rattle.model.specs.Finds.{Stands}

-- what stands at `at` begins the rest of the list
pub stands_front : {l bs : List ℕ} {at end : ℕ} → Stands l at bs end → drop at l ≡ bs ++ drop end l
stands_front {l} {bs} {at} {end} s =
    let n : at + length bs ≡ end = s.long in
    let e : at + (end - at) ≡ end = omega arith in
    sym (take-append-drop (end - at) (drop at l)) ∙ ap₂ (λ (x y : List ℕ). x ++ y) s.are (drop-drop (end - at) at l ∙ ap (λ (i : ℕ). drop i l) e)

pub front_stands : (l bs rest : List ℕ) (at end : ℕ) → at ≤ length l → drop at l ≡ bs ++ rest → at + length bs ≡ end → Stands l at bs end
front_stands l bs rest at end h e n =
    let m : length l - at ≡ length bs + length rest = sym (length-drop at l) ∙ ap length e ∙ length-append bs rest in
    let k : end - at ≡ length bs = omega arith in
    record {
      within = omega arith;
      long = n;
      are = ap₂ take k e ∙ take_at bs rest (length bs) refl;
    }

pub stands_within : {l bs : List ℕ} {at end : ℕ} → Stands l at bs end → at ≤ length l
stands_within {l} {bs} {at} {end} s = let n : at + length bs ≡ end = s.long in let w : end ≤ length l = s.within in omega arith

pub stands_nil : (l : List ℕ) (at : ℕ) → at ≤ length l → Stands l at [] at
stands_nil l at h = front_stands l [] (drop at l) at at h refl (omega arith)

pub stands_both : {l bs cs : List ℕ} {a b c : ℕ} → Stands l a bs b → Stands l b cs c → Stands l a (bs ++ cs) c
stands_both {l} {bs} {cs} {a} {b} {c} p q =
    let m : a + length bs ≡ b = p.long in
    let n : b + length cs ≡ c = q.long in
    let k : length (bs ++ cs) ≡ length bs + length cs = length-append bs cs in
    front_stands l (bs ++ cs) (drop c l) a c (stands_within p) (stands_front p ∙ ap (λ (x : List ℕ). bs ++ x) (stands_front q) ∙ sym (append_assoc bs cs (drop c l))) (omega arith)

-- two behind each other, each for itself
pub record Split (l : List ℕ) (a : ℕ) (bs cs : List ℕ) (c : ℕ) : Type 0 where
  pub first : Stands l a bs (a + length bs)
  pub second : Stands l (a + length bs) cs c

pub stands_split : {l : List ℕ} {a c : ℕ} (bs cs : List ℕ) → Stands l a (bs ++ cs) c → Split l a bs cs c
stands_split {l} {a} {c} bs cs s =
    let e : drop a l ≡ bs ++ (cs ++ drop c l) = stands_front s ∙ append_assoc bs cs (drop c l) in
    let k : length (bs ++ cs) ≡ length bs + length cs = length-append bs cs in
    let n : a + length (bs ++ cs) ≡ c = s.long in
    let f = front_stands l bs (cs ++ drop c l) a (a + length bs) (stands_within s) e refl in
    record {
      first = f;
      second =
          front_stands l cs (drop c l) (a + length bs) c f.within
          (sym (drop-drop (length bs) a l) ∙ ap (drop (length bs)) e ∙ drop_at bs (cs ++ drop c l) (length bs) refl) (omega arith);
    }

-- the same bytes from and to the same places
pub stands_as : {l bs cs : List ℕ} {a b c d : ℕ} → a ≡ b → bs ≡ cs → c ≡ d → Stands l a bs c → Stands l b cs d
stands_as {l} {bs} {cs} {a} {b} {c} {d} i j k s =
    subst (λ (x : ℕ). Stands l b cs x) k (subst (λ (x : List ℕ). Stands l b x c) j (subst (λ (x : ℕ). Stands l x bs c) i s))
