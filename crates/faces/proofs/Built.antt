-- What the code puts together from numbers is what the numbers make.
use Rattle.std.proofs.Common.{◌≡◌, ℕ, ◌<◌, List, [], ◌∷◌, map, length, get_or, Some, sym, ap, ◌∙◌, subst, arith}
use Rattle.std.specs.List.{AllByRecursion}
use Rattle.std.specs.Iterator.{Yields}
use Rattle.std.specs.Array.{list_steps, IsMapOf}
use Rattle.std.specs.Fn.{Mut, Called}
use Rattle.std.proofs.lemmas.List.{same_lists, length-map, get_or-map}
use Rattle.plane.specs.declared.types.Plane.{Plane}
use Rattle.plane.specs.declared.types.Place.{Place}
use Rattle.plane.specs.Moves.{rolled_plane, rolled_place}
use Rattle.solid.specs.Shapes.{At}
use Rattle.solid.specs.Models.{Face}
use Rattle.faces.specs.Blocks.{rolled_face}

pub three : {A B : Type 0} (f : B → B → B → A) {i j k l m n : B} → i ≡ l → j ≡ m → k ≡ n → f i j k ≡ f l m n
three {B = B} f {i} {j} {k} {l} {m} {n} p q r = ap (λ (v : B). f v j k) p ∙ ap (λ (v : B). f l v k) q ∙ ap (λ (v : B). f l m v) r

pub six : {A B : Type 0} (f : B → B → B → B → B → B → A) {i j k l m n o p q r s t : B} →
    i ≡ o → j ≡ p → k ≡ q → l ≡ r → m ≡ s → n ≡ t → f i j k l m n ≡ f o p q r s t
six f {i} {j} {k} {l} {m} {n} {o} {p} {q} a b c d e g = three (λ u v w. f u v w l m n) a b c ∙ three (f o p q) d e g

-- a value that is known, with what holds of it
pub valued : {A : Type 0} (P : A → Type 0) {x : A} (y : A) → x ≡ y → P y → record { value : x ≡ y; fits : P x }
valued P y e h = record { value = e; fits = subst P (sym e) h }

-- a face by its parts
pub parts : {p r : Plane} {es fs : List Plane} {q s : Place} {cs ds : List Place} → p ≡ r → es ≡ fs → q ≡ s → cs ≡ ds →
    ◌≡◌ {A = Face} (record { plane = p; edges = es; place = q; corners = cs }) (record { plane = r; edges = fs; place = s; corners = ds })
parts {p} {r} {es} {fs} {q} {s} {cs} {ds} a b c d =
    ap (λ (x : Plane). record { plane = x; edges = es; place = q; corners = cs }) a
    ∙ ap (λ (x : List Plane). record { plane = r; edges = x; place = q; corners = cs }) b
    ∙ ap (λ (x : Place). record { plane = r; edges = fs; place = x; corners = cs }) c
    ∙ ap (λ (x : List Place). record { plane = r; edges = fs; place = s; corners = x }) d

-- a face whose parts are rolled
pub rolled_parts : {g f : Face} {p : Plane} {es : List Plane} {q : Place} {cs : List Place} → g ≡ f →
    p ≡ rolled_plane g.plane → es ≡ map rolled_plane g.edges → q ≡ rolled_place g.place → cs ≡ map rolled_place g.corners →
    ◌≡◌ {A = Face} (record { plane = p; edges = es; place = q; corners = cs }) (rolled_face f)
unfolding rolled_face
rolled_parts h a b c d = parts a b c d ∙ ap rolled_face h

-- ---- what `map` makes of an array
-- each value that it comes to is one of the list
pub each_item : {A : Type 0} (P : A → Type 0) (xs : List A) → AllByRecursion P xs → (ys t u : List A) (x : A) → Yields list_steps xs ys t → list_steps t (Some x) u → P x
each_item P xs h [] t u x y s = (subst (AllByRecursion P) (y ∙ s) h).0
each_item P xs h (z ∷ ys) t u x y s = each_item P y.0 (subst (AllByRecursion P) y.1 h).1 ys t u x y.2 s

pub mapped : {F A B : Type 0} (g : Mut F (A × Unit {0}) B) (s : F) (f : A → B) (xs : List A) (ys : List B) (n : ℕ) (d : A) →
    ((p q : F) (x : A) (y : B) → Called g p (x, tt) y q → y ≡ f x) → length xs ≡ n → IsMapOf g s xs ys n → ys ≡ map f xs
mapped g s f xs ys n d h l m =
    same_lists ys (map f xs) (m.long ∙ sym l ∙ sym (length-map xs f))
    (λ k e i. let r = m.at k d e (omega (arith, m.long)) in h _ _ _ _ r.2 ∙ sym (get_or-map f xs k d e (omega (arith, m.long))))

-- what stands at a number that is known
pub stands : {A : Type 0} (xs : List A) (n k : ℕ) (x : A) → k ≡ n → n < length xs → get_or xs n x ≡ x → At xs k x
stands xs n k x e h i = subst (λ (m : ℕ). At xs m x) (sym e) (h, i)
