-- Things found in bytes: where one ends, or that the bytes end before it.
use Rattle.std.proofs.Common.{◌≡◌, ℕ, ◌+◌, ◌-◌, ◌*◌, ◌^◌, ◌<◌, ◌≤◌, List, [], ◌∷◌, ◌++◌, length, get_or, drop, Some, None, Option, sym, refl, ap, ◌∙◌, subst, inl, inr, arith, length-drop, w16}
use mir.Syntax.{Width}
use mir.Val.{bytes, bits}
use Rattle.std.specs.List.{flat_map, AllByRecursion}
use Rattle.std.proofs.ByRecursion.{All-push, All-get_or}
use Rattle.std.proofs.lemmas.List.{drop_more, flat_map_more, length_push}
use Rattle.model.specs.Format.{count_bytes, listed}
use Rattle.model.specs.Finds.{Few, Stands, StandsOnce, Found, Skipped, ListEnds}
use Rattle.model.proofs.Digits.{Bytes, bytes_drop}
use Rattle.model.proofs.Coding.{Code, As, as_back, both, Both, Many, code_count, code_joined}
use Rattle.model.proofs.Codes.{length_count, length-flat_map}
use Rattle.model.proofs.Standing.{front_stands, stands_front, stands_both, stands_split, stands_nil, stands_as}

-- what stands at a place is one thing, with one end
pub record Same {X : Type 0} (x y : X) (a b : ℕ) : Type 0 where
  pub thing : x ≡ y
  pub end : a ≡ b

pub one_thing : {X : Type 0} {f : X → List ℕ} {R : X → Type 0} {n : ℕ} → Code f R n → {l : List ℕ} {at a b : ℕ} {x y : X} → R x → R y → Stands l at (f x) a → Stands l at (f y) b → Same x y a b
one_thing {f = f} k {l} {at} {a} {b} {x} {y} hx hy s t =
    let e : x ≡ y = (k.apart x y (drop a l) (drop b l) hx hy (sym (stands_front s) ∙ stands_front t)).0 in
    record { thing = e; end = sym s.long ∙ ap (λ (z : _). at + length (f z)) e ∙ t.long }

pub stands_once : {X : Type 0} {f : X → List ℕ} {R : X → Type 0} {n : ℕ} → Code f R n → (l : List ℕ) (at : ℕ) → StandsOnce f R l at
stands_once k l at x y a b hx hy s t = (one_thing k hx hy s t).thing

-- a thing of n bytes
pub found_sized : {X : Type 0} {f : X → List ℕ} {R : X → Type 0} {n : ℕ} → Code f R n → ((x : X) → R x → length (f x) ≡ n) →
    (l : List ℕ) → Bytes l → (at : ℕ) → (r : Option ℕ) → Skipped l at n r → Found f R l at r
found_sized {f = f} {n = n} k long l b at None s = λ x end g t.
    let e : length (f x) ≡ n = long x g in
    let u : at + length (f x) ≡ end = t.long in
    let v : end ≤ length l = t.within in
    omega arith
found_sized {f = f} {n = n} k long l b at (Some end) s =
    let p = k.reads (drop at l) (bytes_drop at l b) (left s.0 s.1) in
    (p.thing, p.range, front_stands l (f p.thing) p.rest at end (before s.0 s.1) p.is (ap (λ (i : ℕ). at + i) (long p.thing p.range) ∙ sym s.0))
  where
    left : end ≡ at + n → end ≤ length l → n ≤ length (drop at l)
    left e g = let d : length (drop at l) ≡ length l - at = length-drop at l in omega arith

    before : end ≡ at + n → end ≤ length l → at ≤ length l
    before e g = omega arith

-- one thing behind another
pub found_behind : {X Y : Type 0} {f : X → List ℕ} {R : X → Type 0} {n : ℕ} → Code f R n → (g : Y → List ℕ) (S : Y → Type 0)
    {l : List ℕ} {at mid : ℕ} → Found f R l at (Some mid) → (r : Option ℕ) → Found g S l mid r → Found (both f g) (Both R S) l at r
found_behind {f = f} k g S {l} {at} {mid} p None q = λ t end h s.
    let u = stands_split (f t.0) (g t.1) s in
    let o = one_thing k h.0 p.1 u.first p.2 in
    q t.1 end h.1 (stands_as o.end refl refl u.second)
found_behind k g S p (Some end) q = ((p.0, q.0), (p.1, q.1), stands_both p.2 q.2)

pub found_not : {X Y : Type 0} {f : X → List ℕ} {R : X → Type 0} (g : Y → List ℕ) (S : Y → Type 0) {l : List ℕ} {at : ℕ} → Found f R l at None → Found (both f g) (Both R S) l at None
found_not {f = f} g S p = λ t end h s. p t.0 _ h.0 (stands_split (f t.0) (g t.1) s).first

pub found_as : {X Y : Type 0} {f : X → List ℕ} {R : X → Type 0} {g : Y → List ℕ} {S : Y → Type 0} → As f R g S → (l : List ℕ) (at : ℕ) (r : Option ℕ) → Found f R l at r → Found g S l at r
found_as a l at None p = λ y end h s. p (a.to y) end (a.into y h) (stands_as refl (a.are y) refl s)
found_as a l at (Some end) p = (a.back p.0, a.out p.0 p.1, stands_as refl (as_back a p.0 p.1) refl p.2)

-- a list behind its number
pub found_listed : {X : Type 0} (f : X → List ℕ) (R : X → Type 0) (w : Width) {l : List ℕ} {at mid n : ℕ} → n < 2 ^ bits w → Stands l at (count_bytes w n) mid →
    (r : Option ℕ) → Found (flat_map f) (Many R n) l mid r → Found (listed w f) (Few R w) l at r
unfolding listed
found_listed f R w {n = n} h c None p = λ xs end g s.
    let u = stands_split (count_bytes w (length xs)) (flat_map f xs) s in
    let o = one_thing (code_count w) g.0 h u.first c in
    p xs end (o.thing, g.1) (stands_as o.end refl refl u.second)
found_listed f R w {n = n} h c (Some end) p =
    let e : length p.0 ≡ n = p.1.0 in
    (p.0, (subst (λ (i : ℕ). i < 2 ^ bits w) (sym e) h, p.1.1), stands_both (stands_as refl (ap (count_bytes w) (sym e)) refl c) p.2)

-- a list's number, and what is listed behind it
pub record Listed {X : Type 0} (w : Width) (f : X → List ℕ) (l : List ℕ) (at : ℕ) (xs : List X) (end : ℕ) : Type 0 where
  pub number : Stands l at (count_bytes w (length xs)) (at + bytes w)
  pub things : Stands l (at + bytes w) (flat_map f xs) end

pub listed_stands : {X : Type 0} (w : Width) (f : X → List ℕ) (xs : List X) {l : List ℕ} {at end : ℕ} → Stands l at (listed w f xs) end → Listed w f l at xs end
unfolding listed
listed_stands w f xs {l} {at} s =
    let u = stands_split (count_bytes w (length xs)) (flat_map f xs) s in
    let e : at + length (count_bytes w (length xs)) ≡ at + bytes w = ap (λ (i : ℕ). at + i) (length_count w (length xs)) in
    record { number = stands_as refl refl e u.first; things = stands_as e refl refl u.second }

-- where not even the number is there
pub found_no_number : {X : Type 0} (f : X → List ℕ) (R : X → Type 0) (w : Width) (l : List ℕ) (at : ℕ) → length l < at + bytes w → Found (listed w f) (Few R w) l at None
found_no_number f R w l at h = λ xs end g s.
    let v : at + bytes w ≤ length l = (listed_stands w f xs s).number.within in
    omega arith

-- a list of things of n bytes each
pub found_list : {X : Type 0} {f : X → List ℕ} {R : X → Type 0} {n : ℕ} → Code f R n → ((x : X) → length (f x) ≡ n) →
    (l : List ℕ) → Bytes l → (at : ℕ) → (r : Option ℕ) → ListEnds l at n r → Found (listed w16 f) (Few R w16) l at r
found_list {f = f} {R = R} {n = n} k long l b at r (inl p) = subst (Found (listed w16 f) (Few R w16) l at) (sym p.1) (found_no_number f R w16 l at p.0)
found_list {f = f} {R = R} {n = n} k long l b at r (inr p) =
    found_listed f R w16 p.1 p.2 r
    (found_sized (code_joined k p.0) (λ xs h. length-flat_map f n long xs ∙ ap (λ (i : ℕ). n * i) h.0) l b (at + 2) r p.3)

-- the i-th of a list of things, and those behind it
pub record Next {X : Type 0} (f : X → List ℕ) (l : List ℕ) (at : ℕ) (x : X) (xs : List X) (end : ℕ) : Type 0 where
  pub here : Stands l at (f x) (at + length (f x))
  pub rest : Stands l (at + length (f x)) (flat_map f xs) end

pub next_of : {X : Type 0} (f : X → List ℕ) (xs : List X) (i : ℕ) (d : X) {l : List ℕ} {at end : ℕ} → i < length xs → Stands l at (flat_map f (drop i xs)) end → Next f l at (get_or xs i d) (drop (i + 1) xs) end
next_of f xs i d h s =
    let u = stands_split (f (get_or xs i d)) (flat_map f (drop (i + 1) xs)) (stands_as refl (ap (flat_map f) (drop_more xs i d h)) refl s) in
    record { here = u.first; rest = u.second }

-- the first i of a list of things, from `from` to `at`: what else is listed there has its rest from `at` on
pub record SoFar {X : Type 0} (f : X → List ℕ) (R : X → Type 0) (l : List ℕ) (from i at : ℕ) : Type 0 where
  pub things : List X
  pub range : Many R i things
  pub stand : Stands l from (flat_map f things) at
  pub rest : (ys : List X) (end : ℕ) → AllByRecursion R ys → i ≤ length ys → Stands l from (flat_map f ys) end → Stands l at (flat_map f (drop i ys)) end

pub so_far_none : {X : Type 0} (f : X → List ℕ) (R : X → Type 0) (l : List ℕ) (from : ℕ) → from ≤ length l → SoFar f R l from 0 from
so_far_none f R l from h = record { things = []; range = (refl, tt); stand = stands_nil l from h; rest = λ ys end g k s. s }

pub so_far_more : {X : Type 0} {f : X → List ℕ} {R : X → Type 0} {l : List ℕ} {from i at end : ℕ} → SoFar f R l from i at → Found f R l at (Some end) → StandsOnce f R l at → SoFar f R l from (i + 1) end
so_far_more {X} {f} {R} {l} {from} {i} {at} {end} p q once =
    record {
      things = p.things ++ (q.0 ∷ []);
      range = (length_push p.things q.0 ∙ ap (λ (n : ℕ). n + 1) p.range.0, All-push R p.things q.0 p.range.1 q.1);
      stand = stands_as refl (flat_map_more f [] p.things q.0) refl (stands_both p.stand q.2);
      rest = λ ys e h k s.
          let n = next_of f ys i q.0 (omega arith) (p.rest ys e h (omega arith) s) in
          let same : q.0 ≡ get_or ys i q.0 = once q.0 (get_or ys i q.0) end _ q.1 (All-get_or R ys i q.0 (omega arith) h) q.2 n.here in
          stands_as (ap (λ (x : X). at + length (f x)) (sym same) ∙ q.2.long) refl refl n.rest;
    }

-- where the next is not there, no longer list is
pub so_far_stop : {X : Type 0} {f : X → List ℕ} {R : X → Type 0} {l : List ℕ} {from i at n : ℕ} → SoFar f R l from i at → Found f R l at None → i < n → Found (flat_map f) (Many R n) l from None
so_far_stop {X} {f} {R} {l} {from} {i} {at} {n} p q h = λ ys end g s. go ys end g.0 g.1 s
  where
    go : (ys : List X) (end : ℕ) → length ys ≡ n → AllByRecursion R ys → Stands l from (flat_map f ys) end → ⊥
    go [] end e g s = omega arith
    go (d ∷ ys) end e g s =
        let zs = d ∷ ys in
        q (get_or zs i d) _ (All-get_or R zs i d (omega arith) g) (next_of f zs i d (omega arith) (p.rest zs end g (omega arith) s)).here
