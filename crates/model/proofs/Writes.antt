-- Writes to a part of a list that is lent on, one behind the other.
use Rattle.std.proofs.Common.{◌≡◌, ℕ, ◌+◌, ◌-◌, ◌*◌, ◌<◌, ◌≤◌, List, [], ◌∷◌, ◌++◌, map, length, get_or, take, drop, sym, ap, ◌∙◌, subst, ap₂, append_assoc, append-nil, mul-suc, arith}
use lib.ListN.{length-map}
use borrow.Rule.Slice.PartMut.{put_mid}
use Rattle.std.specs.List.{flat_map}
use mir.Syntax.{Width}
use Rattle.model.specs.Format.{count_bytes, listed}
use Rattle.std.proofs.lemmas.Slice.{drop-append-drop}
use Rattle.std.proofs.lemmas.List.Folds.{flat_map-map}
use Rattle.std.proofs.lemmas.List.{flat_map_more, take_all, take_more, drop_all, drop-drop, take_at, drop_at, length-drop, length-append, take_rest}

-- the part of a list from a on, as it is lent
abbrev pub part : ℕ → List ℕ → List ℕ
part a m = take (length m - a) (drop a m)

-- what is written to the part from a on
pub lent_on : (a n : ℕ) (m bs ys : List ℕ) → ys ≡ bs ++ drop n (part a m) → put_mid a (length m - a) m ys ≡ take a m ++ (bs ++ drop (a + n) m)
lent_on a n m bs ys e =
    let r : drop (length m - a) (drop a m) ≡ [] = drop_all (length m - a) (drop a m) (omega (arith, length-drop a m)) in
    ap (λ (l : List ℕ). take a m ++ (ys ++ l)) r
    ∙ ap (λ (l : List ℕ). take a m ++ l) (append-nil ys ∙ e ∙ ap (λ (l : List ℕ). bs ++ drop n l) (take_rest m a) ∙ ap (λ (l : List ℕ). bs ++ l) (drop-drop n a m))

-- m1 is m with the n numbers of bs written over its front
pub record Wrote (m bs : List ℕ) (n : ℕ) (m1 : List ℕ) : Type 0 where
  pub long : length bs ≡ n
  pub is : m1 ≡ bs ++ drop n m

pub at_first : (m : List ℕ) {bs m1 : List ℕ} {n : ℕ} → length bs ≡ n → m1 ≡ bs ++ drop n m → Wrote m bs n m1
at_first m l e = record { long = l; is = e }

-- cs behind them
pub and_then : {m bs m1 : List ℕ} {n : ℕ} (cs ys : List ℕ) (k : ℕ) → Wrote m bs n m1 → length cs ≡ k → ys ≡ cs ++ drop k (part n m1) → Wrote m (bs ++ cs) (n + k) (put_mid n (length m1 - n) m1 ys)
and_then {m} {bs} {m1} {n} cs ys k w l f =
    let e = w.is in
    let t : take n m1 ≡ bs = ap (take n) e ∙ take_at bs (drop n m) n w.long in
    let d : drop n m1 ≡ drop n m = ap (drop n) e ∙ drop_at bs (drop n m) n w.long in
    let g : drop (n + k) m1 ≡ drop (n + k) m = sym (drop-drop k n m1) ∙ ap (drop k) d ∙ drop-drop k n m in
    record {
      long = length-append bs cs ∙ ap (λ (x : ℕ). x + length cs) w.long ∙ ap (λ (x : ℕ). n + x) l;
      is = lent_on n k m1 cs ys f ∙ ap (λ (l : List ℕ). l ++ (cs ++ drop (n + k) m1)) t ∙ ap (λ (l : List ℕ). bs ++ (cs ++ l)) g ∙ sym (append_assoc bs cs (drop (n + k) m));
    }

-- how long what is written is, if it leaves the rest
pub wrote_long : (bs : List ℕ) (n : ℕ) (l : List ℕ) {ys : List ℕ} → ys ≡ bs ++ drop n l → length ys ≡ length l → n ≤ length l → length bs ≡ n
wrote_long bs n l e k h = let z : length l ≡ length bs + (length l - n) = sym k ∙ ap length e ∙ length-append bs (drop n l) ∙ ap (λ (i : ℕ). length bs + i) (length-drop n l) in omega arith

-- m1 is m with the first i of xs written from a on, each of k bytes
abbrev pub Listing : {X : Type 0} → (X → List ℕ) → ℕ → List X → ℕ → List ℕ → ℕ → List ℕ → Type 0
Listing f k xs a m i m1 = Wrote m (take a m ++ flat_map f (take i xs)) (a + k * i) m1

-- one more, behind the s bytes of each
pub listing_more : {X : Type 0} (f : X → List ℕ) {k s : ℕ} (xs : List X) (a : ℕ) (m : List ℕ) (i : ℕ) (x : X) {m1 : List ℕ} (ys : List ℕ) → s ≡ k → i < length xs → x ≡ get_or xs i x → Listing f k xs a m i m1 →
    ys ≡ f x ++ drop k (part (a + s * i) m1) → length ys ≡ length (part (a + s * i) m1) → k ≤ length (part (a + s * i) m1) → Listing f k xs a m (i + 1) (put_mid (a + s * i) (length m1 - (a + s * i)) m1 ys)
listing_more {X} f {k} {s} xs a m i x {m1} ys c h d w e l r =
    let n : a + s * i + k ≡ a + k * (i + 1) = rw c (omega (arith, mul-suc k i)) in
    let v : Wrote m (take a m ++ flat_map f (take i xs)) (a + s * i) m1 = rw c w in
    subst (λ (j : ℕ). Wrote m (take a m ++ flat_map f (take (i + 1) xs)) j (put_mid (a + s * i) (length m1 - (a + s * i)) m1 ys)) n
    (subst (λ (cs : List ℕ). Wrote m cs (a + s * i + k) (put_mid (a + s * i) (length m1 - (a + s * i)) m1 ys))
    (flat_map_more f (take a m) (take i xs) x ∙ ap (λ (zs : List X). take a m ++ flat_map f zs) (sym (take_more xs i x h ∙ ap (λ (y : X). take i xs ++ y ∷ []) (sym d))))
    (and_then (f x) ys k v (wrote_long (f x) k (part (a + s * i) m1) e l r) e))

-- all, behind bs
pub listing_all : {X : Type 0} (f : X → List ℕ) (k : ℕ) (xs : List X) {m bs m1 m2 : List ℕ} {a i : ℕ} → Wrote m bs a m1 → Listing f k xs a m1 i m2 → i ≡ length xs → m2 ≡ (bs ++ flat_map f xs) ++ drop (a + k * length xs) m
listing_all {X} f k xs {m} {bs} {m1} {m2} {a} {i} v w l =
    let n = a + k * i in
    let t : take a m1 ≡ bs = ap (take a) v.is ∙ take_at bs (drop a m) a v.long in
    let d : drop n m1 ≡ drop n m = ap (drop n) v.is ∙ drop-append-drop a m bs n (omega arith) v.long in
    w.is ∙ ap (λ (zs : List X). (take a m1 ++ flat_map f zs) ++ drop n m1) (take_all i xs (omega arith))
    ∙ ap (λ (b : List ℕ). (b ++ flat_map f xs) ++ drop n m1) t ∙ ap (λ (r : List ℕ). (bs ++ flat_map f xs) ++ r) d
    ∙ ap (λ (j : ℕ). (bs ++ flat_map f xs) ++ drop (a + k * j) m) l

-- k numbers fit behind a, if they do so in the whole
pub room_left : (a : ℕ) (m : List ℕ) (k : ℕ) → a + k ≤ length m → k ≤ length (part a m)
room_left a m k h = subst (λ (l : List ℕ). k ≤ length l) (sym (take_rest m a)) (omega (arith, length-drop a m))

pub listed-map : {X Y : Type 0} (w : Width) (f : Y → List ℕ) (g : X → Y) (xs : List X) → listed w (λ x. f (g x)) xs ≡ listed w f (map g xs)
unfolding listed
listed-map w f g xs = ap₂ (λ (k : ℕ) (l : List ℕ). count_bytes w k ++ l) (sym (length-map xs g)) (sym (flat_map-map f g xs))

pub regroup₄ : (a b c d : List ℕ) → ((a ++ b) ++ c) ++ d ≡ a ++ (b ++ (c ++ d))
regroup₄ a b c d = simp append_assoc

-- what is written, said otherwise
pub written_as : (rest : List ℕ) {ys bs cs : List ℕ} → ys ≡ bs ++ rest → bs ≡ cs → ys ≡ cs ++ rest
written_as rest e i = e ∙ ap (λ (x : List ℕ). x ++ rest) i

-- four things one behind the other, each written to the part that the ones before it leave
pub wrote₄ : (m : List ℕ) {m1 : List ℕ} (bs1 bs2 bs3 bs4 ys2 ys3 ys4 : List ℕ) (n1 n2 n3 n4 : ℕ) → length bs1 ≡ n1 → length bs2 ≡ n2 → length bs3 ≡ n3 → length bs4 ≡ n4 →
    m1 ≡ bs1 ++ drop n1 m → ys2 ≡ bs2 ++ drop n2 (part n1 m1) →
    (let m2 = put_mid n1 (length m1 - n1) m1 ys2 in ys3 ≡ bs3 ++ drop n3 (part (n1 + n2) m2) →
    (let m3 = put_mid (n1 + n2) (length m2 - (n1 + n2)) m2 ys3 in ys4 ≡ bs4 ++ drop n4 (part (n1 + n2 + n3) m3) →
    put_mid (n1 + n2 + n3) (length m3 - (n1 + n2 + n3)) m3 ys4 ≡ (bs1 ++ (bs2 ++ (bs3 ++ bs4))) ++ drop (n1 + n2 + n3 + n4) m))
wrote₄ m {m1} bs1 bs2 bs3 bs4 ys2 ys3 ys4 n1 n2 n3 n4 l1 l2 l3 l4 e1 e2 e3 e4 =
    let four = and_then bs4 ys4 n4 (and_then bs3 ys3 n3 (and_then bs2 ys2 n2 (at_first m l1 e1) l2 e2) l3 e3) l4 e4 in
    four.is ∙ ap (λ (l : List ℕ). l ++ drop (n1 + n2 + n3 + n4) m) (regroup₄ bs1 bs2 bs3 bs4)
