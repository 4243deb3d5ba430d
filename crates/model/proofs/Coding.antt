-- Ways of writing things as bytes so that they can be read again, put together.
use Rattle.std.proofs.Common.{◌≡◌, ℕ, zero, suc, ◌+◌, ◌*◌, ◌^◌, ◌<◌, ◌≤◌, List, [], ◌∷◌, ◌++◌, length, take, drop, sym, refl, ap, ◌∙◌, subst, ap₂, append_assoc, add_comm, mul-le-mul_left, mul-suc, arith, length-append, take-append-drop, length-take-le, to_z-of_z, w8, w16, w32, w64, SFits, to_z, of_z}
use mir.Syntax.{Width, w128}
use mir.Val.{bytes, bits}
use mir.Facts.{of_z-to_z, Fits-of_z, sfits_to_z}
use Rattle.std.proofs.lemmas.List.{take_at, drop_at}
use Rattle.std.specs.List.{flat_map, AllByRecursion}
use Rattle.model.specs.Format.{low_first, count_bytes, signed_bytes, listed}
use Rattle.model.specs.Finds.{Few}
use Rattle.model.proofs.Digits.{Bytes, value, length-low_first, value-low_first, low_first-value, value_below, bytes_take, bytes_tail}

-- l begins with a thing in range, of at most n bytes
pub record Begins {X : Type 0} (f : X → List ℕ) (R : X → Type 0) (n : ℕ) (l : List ℕ) : Type 0 where
  pub thing : X
  pub range : R thing
  pub rest : List ℕ
  pub is : l ≡ f thing ++ rest
  pub short : length (f thing) ≤ n

-- bytes begin with one thing at most, and n bytes or more begin with one
pub record Code {X : Type 0} (f : X → List ℕ) (R : X → Type 0) (n : ℕ) : Type 0 where
  pub apart : (x y : X) (r s : List ℕ) → R x → R y → f x ++ r ≡ f y ++ s → (x ≡ y) × (r ≡ s)
  pub reads : (l : List ℕ) → Bytes l → n ≤ length l → Begins f R n l

-- lists of one length at the front
fronts : (k : ℕ) (a b r s : List ℕ) → length a ≡ k → length b ≡ k → a ++ r ≡ b ++ s → (a ≡ b) × (r ≡ s)
fronts k a b r s ha hb e =
    (sym (take_at a r k ha) ∙ ap (take k) e ∙ take_at b s k hb, sym (drop_at a r k ha) ∙ ap (drop k) e ∙ drop_at b s k hb)

-- numbers
pub powers : (w : Width) → 256 ^ bytes w ≡ 2 ^ bits w
powers w8 = refl
powers w16 = refl
powers w32 = refl
powers w64 = refl
powers w128 = refl

front_number : (k : ℕ) (l : List ℕ) → Bytes l → k ≤ length l → (value (take k l) < 256 ^ k) × (l ≡ low_first k (value (take k l)) ++ drop k l)
front_number k l b h =
    let n : length (take k l) ≡ k = length-take-le k l h in
    let t : Bytes (take k l) = bytes_take k l b in (
      subst (λ (i : ℕ). value (take k l) < 256 ^ i) n (value_below (take k l) t),
      sym (take-append-drop k l)
          ∙ ap (λ (x : List ℕ). x ++ drop k l) (sym (low_first-value (take k l) t) ∙ ap (λ (i : ℕ). low_first i (value (take k l))) n),
    )

pub code_count : (w : Width) → Code (count_bytes w) (λ (n : ℕ). n < 2 ^ bits w) (bytes w)
unfolding count_bytes
code_count w =
    record {
      apart = λ m n r s hm hn e.
          let p = fronts (bytes w) (low_first (bytes w) m) (low_first (bytes w) n) r s (length-low_first (bytes w) m) (length-low_first (bytes w) n) e in
          (sym (value-low_first (bytes w) m (subst (λ (k : ℕ). m < k) (sym (powers w)) hm)) ∙ ap value p.0 ∙ value-low_first (bytes w) n (subst (λ (k : ℕ). n < k) (sym (powers w)) hn), p.1);
      reads = λ l b h.
          let p = front_number (bytes w) l b h in
          record {
            thing = value (take (bytes w) l);
            range = subst (λ (k : ℕ). value (take (bytes w) l) < k) (powers w) p.0;
            rest = drop (bytes w) l;
            is = p.1;
            short = subst (λ (k : ℕ). k ≤ bytes w) (sym (length-low_first (bytes w) (value (take (bytes w) l)))) (omega arith);
          };
    }

-- things that stand for others
pub record As {X Y : Type 0} (f : X → List ℕ) (R : X → Type 0) (g : Y → List ℕ) (S : Y → Type 0) : Type 0 where
  pub to : Y → X
  pub back : X → Y
  pub are : (y : Y) → g y ≡ f (to y)
  pub into : (y : Y) → S y → R (to y)
  pub out : (x : X) → R x → S (back x)
  pub again : (y : Y) → S y → back (to y) ≡ y
  pub over : (x : X) → R x → to (back x) ≡ x

pub as_back : {X Y : Type 0} {f : X → List ℕ} {R : X → Type 0} {g : Y → List ℕ} {S : Y → Type 0} (a : As f R g S) (x : X) → R x → f x ≡ g (a.back x)
as_back {f = f} a x h = ap f (sym (a.over x h)) ∙ sym (a.are (a.back x))

pub code_as : {X Y : Type 0} {f : X → List ℕ} {R : X → Type 0} {g : Y → List ℕ} {S : Y → Type 0} {n : ℕ} → As f R g S → Code f R n → Code g S n
code_as {n = n} a k =
    record {
      apart = λ x y r s hx hy e.
          let p = k.apart (a.to x) (a.to y) r s (a.into x hx) (a.into y hy) (ap (λ (l : List ℕ). l ++ r) (sym (a.are x)) ∙ e ∙ ap (λ (l : List ℕ). l ++ s) (a.are y)) in
          (sym (a.again x hx) ∙ ap a.back p.0 ∙ a.again y hy, p.1);
      reads = λ l b h.
          let p = k.reads l b h in
          let e = as_back a p.thing p.range in
          record {
            thing = a.back p.thing;
            range = a.out p.thing p.range;
            rest = p.rest;
            is = p.is ∙ ap (λ (x : List ℕ). x ++ p.rest) e;
            short = subst (λ (x : List ℕ). length x ≤ n) e p.short;
          };
    }

pub code_signed : (w : Width) → Code (signed_bytes w) (SFits w) (bytes w)
unfolding signed_bytes count_bytes
code_signed w = code_as two_complement (code_count w)
  where
    two_complement : As (count_bytes w) (λ (n : ℕ). n < 2 ^ bits w) (signed_bytes w) (SFits w)
    two_complement =
        record {
          to = of_z w;
          back = to_z w;
          are = λ z. refl;
          into = λ z h. (Fits-of_z h).fits;
          out = λ n h. sfits_to_z (record { fits = h });
          again = λ z h. to_z-of_z h;
          over = λ n h. of_z-to_z (record { fits = h });
        }

-- one thing behind another
abbrev pub both : {X Y : Type 0} → (X → List ℕ) → (Y → List ℕ) → X × Y → List ℕ
both f g p = f p.0 ++ g p.1

abbrev pub Both : {X Y : Type 0} → (X → Type 0) → (Y → Type 0) → X × Y → Type 0
Both R S p = R p.0 × S p.1

-- what is left of l behind a thing of at most m bytes
left : (m n : ℕ) (l a r : List ℕ) → l ≡ a ++ r → length a ≤ m → m + n ≤ length l → n ≤ length r
left m n l a r e h k = let z : length l ≡ length a + length r = ap length e ∙ length-append a r in omega arith

begins_both : {X Y : Type 0} {f : X → List ℕ} {R : X → Type 0} {g : Y → List ℕ} {S : Y → Type 0} {m n : ℕ} {l : List ℕ} (p : Begins f R m l) → Begins g S n p.rest → Begins (both f g) (Both R S) (m + n) l
begins_both {f = f} {g = g} {m = m} {n = n} p q =
    record {
      thing = (p.thing, q.thing);
      range = (p.range, q.range);
      rest = q.rest;
      is = p.is ∙ ap (λ (a : List ℕ). f p.thing ++ a) q.is ∙ sym (append_assoc (f p.thing) (g q.thing) q.rest);
      short =
          let u : length (f p.thing) ≤ m = p.short in
          let v : length (g q.thing) ≤ n = q.short in
          let z : length (f p.thing ++ g q.thing) ≡ length (f p.thing) + length (g q.thing) = length-append (f p.thing) (g q.thing) in
          omega arith;
    }

-- a thing of the one kind, and one of the other behind it
reads_both : {X Y : Type 0} {f : X → List ℕ} {R : X → Type 0} {g : Y → List ℕ} {S : Y → Type 0} {m n : ℕ} {l : List ℕ} → Begins f R m l → ((r : List ℕ) → Bytes r → n ≤ length r → Begins g S n r) → Bytes l → m + n ≤ length l → Begins (both f g) (Both R S) (m + n) l
reads_both {f = f} {m = m} {n = n} {l = l} p k b h =
    begins_both p
    (k p.rest (bytes_tail (f p.thing) p.rest (subst Bytes p.is b)) (left m n l (f p.thing) p.rest p.is p.short h))

pub code_both : {X Y : Type 0} {f : X → List ℕ} {R : X → Type 0} {g : Y → List ℕ} {S : Y → Type 0} {m n : ℕ} → Code f R m → Code g S n → Code (both f g) (Both R S) (m + n)
code_both {X} {Y} {f} {R} {g} {S} {m} {n} j k =
    record {
      apart = λ x y r s hx hy e.
          let p = j.apart x.0 y.0 (g x.1 ++ r) (g y.1 ++ s) hx.0 hy.0 (sym (append_assoc (f x.0) (g x.1) r) ∙ e ∙ append_assoc (f y.0) (g y.1) s) in
          let q = k.apart x.1 y.1 r s hx.1 hy.1 p.1 in
          (ap₂ (λ (a : X) (b : Y). (a, b)) p.0 q.0, q.1);
      reads = λ l b h. reads_both (j.reads l b (omega arith)) k.reads b h;
    }

-- this one and no other
just : {X : Type 0} {f : X → List ℕ} {R : X → Type 0} {m : ℕ} {l : List ℕ} (p : Begins f R m l) → Begins f (λ (x : X). x ≡ p.thing) m l
just p = record { thing = p.thing; range = refl; rest = p.rest; is = p.is; short = p.short }

-- n things in range
abbrev pub Many : {X : Type 0} → (X → Type 0) → ℕ → List X → Type 0
Many R n xs = (length xs ≡ n) × AllByRecursion R xs

module _ {X : Type 0} {f : X → List ℕ} {R : X → Type 0} {k : ℕ} (j : Code f R k) where
  pub apart_joined : (xs ys : List X) (r s : List ℕ) → length xs ≡ length ys → AllByRecursion R xs → AllByRecursion R ys → flat_map f xs ++ r ≡ flat_map f ys ++ s → (xs ≡ ys) × (r ≡ s)
  apart_joined [] [] r s n hx hy e = (refl, e)
  apart_joined [] (y ∷ ys) r s n hx hy e = absurd (omega arith)
  apart_joined (x ∷ xs) [] r s n hx hy e = absurd (omega arith)
  apart_joined (x ∷ xs) (y ∷ ys) r s n hx hy e =
      let p = j.apart x y (flat_map f xs ++ r) (flat_map f ys ++ s) hx.0 hy.0 (sym (append_assoc (f x) (flat_map f xs) r) ∙ e ∙ append_assoc (f y) (flat_map f ys) s) in
      let q = apart_joined xs ys r s (omega arith) hx.1 hy.1 p.1 in
      (ap₂ (λ (a : X) (l : List X). a ∷ l) p.0 q.0, q.1)

  reads_joined : (n : ℕ) (l : List ℕ) → Bytes l → k * n ≤ length l → Begins (flat_map f) (Many R n) (k * n) l
  reads_joined zero l b h = record { thing = []; range = (refl, tt); rest = l; is = refl; short = omega arith }
  reads_joined (suc n) l b h =
      let e : k * suc n ≡ k + k * n = mul-suc k n ∙ add_comm (k * n) k in
      let q = reads_both (j.reads l b (omega arith)) (reads_joined n) b (omega arith) in
      record {
        thing = q.thing.0 ∷ q.thing.1;
        range = (ap suc q.range.1.0, (q.range.0, q.range.1.1));
        rest = q.rest;
        is = q.is;
        short = subst (λ (i : ℕ). length (f q.thing.0 ++ flat_map f q.thing.1) ≤ i) (sym e) q.short;
      }

  pub code_joined : (n : ℕ) → Code (flat_map f) (Many R n) (k * n)
  code_joined n = record { apart = λ x y r s hx hy. apart_joined x y r s (hx.0 ∙ sym hy.0) hx.1 hy.1; reads = reads_joined n }

  enough : (w : Width) (n m : ℕ) → n < 2 ^ bits w → bytes w + k * 2 ^ bits w ≤ m → bytes w + k * n ≤ m
  enough w n m t h = let v : k * n ≤ k * 2 ^ bits w = mul-le-mul_left k (omega arith) in omega arith

  listed_begins : (w : Width) (n : ℕ) {l : List ℕ} → n < 2 ^ bits w → Begins (both (count_bytes w) (flat_map f)) (Both (λ (i : ℕ). i ≡ n) (Many R n)) (bytes w + k * n) l →
      Begins (listed w f) (Few R w) (bytes w + k * 2 ^ bits w) l
  unfolding listed
  listed_begins w n t q =
      let xs = q.thing.1 in
      let e : q.thing.0 ≡ length xs = q.range.0 ∙ sym q.range.1.0 in
      let g : List ℕ = count_bytes w (length xs) ++ flat_map f xs in
      let z : both (count_bytes w) (flat_map f) q.thing ≡ g = ap (λ (i : ℕ). count_bytes w i ++ flat_map f xs) e in
      let v : k * n ≤ k * 2 ^ bits w = mul-le-mul_left k (omega arith) in
      let u : length (both (count_bytes w) (flat_map f) q.thing) ≤ bytes w + k * n = q.short in
      let y : length g ≤ bytes w + k * n = subst (λ (a : List ℕ). length a ≤ bytes w + k * n) z u in
      record {
        thing = xs;
        range = (subst (λ (i : ℕ). i < 2 ^ bits w) (sym q.range.1.0) t, q.range.1.1);
        rest = q.rest;
        is = q.is ∙ ap (λ (a : List ℕ). a ++ q.rest) z;
        short = omega arith;
      }

  pub code_listed : (w : Width) → Code (listed w f) (Few R w) (bytes w + k * 2 ^ bits w)
  unfolding listed
  code_listed w =
      record {
        apart = λ xs ys r s hx hy e.
            let p = (code_count w).apart (length xs) (length ys) (flat_map f xs ++ r) (flat_map f ys ++ s) hx.0 hy.0
            (sym (append_assoc (count_bytes w (length xs)) (flat_map f xs) r) ∙ e ∙ append_assoc (count_bytes w (length ys)) (flat_map f ys) s) in
            apart_joined xs ys r s p.0 hx.1 hy.1 p.1;
        reads = λ l b h.
            let p = (code_count w).reads l b (omega arith) in
            listed_begins w p.thing p.range (reads_both (just p) (reads_joined p.thing) b (enough w p.thing (length l) p.range h));
      }
