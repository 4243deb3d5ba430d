-- The questions of lines that are taken, as they lie in words.
--     asked_lies, laid_lies        each question lies at its number, in the words of the lines and where they are laid
--     lies-place, lies_steps       its place and its steps, read from the words
use Rattle.std.proofs.Common.{◌≡◌, ℕ, zero, suc, ◌+◌, ◌*◌, ◌<◌, ◌≤◌, Bool, true, false, ◌||◌, List, [], ◌∷◌, ◌++◌, length, get_or, take, drop, ℤ, neg_ℤ, nat_abs, sym, refl, ap, ◌∙◌, subst, subst₂, inl, inr, append_assoc, append-nil, add-zero, zero-add, arith, w64, to_z, of_z, rules}
use Rattle.std.specs.List.{AllByRecursion}
use Rattle.std.proofs.lemmas.Int.{ints}
use Rattle.std.proofs.lemmas.List.{take_at, take-append-le, map_push, drop_at, drop-append-le, drop-drop, length-append, length-drop, get_or-append-add}
use Rattle.std.proofs.lemmas.Bool.{both_ways, cond-true, cond-false}
use Rattle.arith.specs.Bounds.{Short}
use Rattle.arith.proofs.Sized.{is_num}
use Rattle.plane.specs.declared.types.Plane.{Plane}
use Rattle.plane.specs.Limits.{coordinate_limit, FitsPlane, SmallPlace}
use Rattle.solid.specs.Shapes.{Shape, Fits, Has, planes, box as box_of}
use Rattle.solid.specs.Steps.{words}
use Rattle.solid.proofs.Members.{has_none, has_either}
use Rattle.grammar.specs.Values.{number_limit}
use Rattle.grammar.specs.Grammar.{Expr, half, box, two, move, one, called, Line, part, place, same_as, meet, model, same, one_of}
use Rattle.grammar.specs.Meaning.{Part, says, named, Question, where_is, at, questions, fine_shape, fine}
use Rattle.reader.specs.Asked.{Lies}
use Rattle.reader.specs.declared.types.Layout.{Layout}
use Rattle.reader.specs.Layout.{Laid, with_part, part_steps, spot, asked_words}
use Rattle.reader.proofs.Spots.{names_of, steps_of, steps_push}
use Rattle.reader.proofs.Next.{part_sound, place_sound}
use Rattle.reader.proofs.Numbers.{Numbers, box_numbers, Coordinates, place_numbers}

-- a box in range
each : (ps : List Plane) → AllByRecursion FitsPlane ps → (p : Plane) → Has ps p → FitsPlane p
each [] f p h = absurd (has_none p h)
each (q ∷ ps) f p h = elim (has_either q p ps h) [ inl e ↦ subst FitsPlane e f.0 | inr k ↦ each ps f.1 p k ]

turned_short : (z : ℤ) → Short z number_limit → Short (neg_ℤ z) number_limit
turned_short z s = let h = s.size in record { size = omega (arith, ints) }

box_fits : (x0 x1 y0 y1 z0 z1 : ℤ) → Numbers x0 x1 y0 y1 z0 z1 → Fits (box_of x0 x1 y0 y1 z0 z1)
unfolding planes box_of
box_fits x0 x1 y0 y1 z0 z1 n =
    let t0 = turned_short x0 n.x0 in
    let t1 = turned_short y0 n.y0 in
    let t2 = turned_short z0 n.z0 in
    let f : AllByRecursion FitsPlane (planes (box_of x0 x1 y0 y1 z0 z1)) = search rules in
    record { few = omega arith; each = each (planes (box_of x0 x1 y0 y1 z0 z1)) f }

-- a place in range
place_small : (x y z w : ℤ) → Coordinates x y z w → SmallPlace (at x y z w)
place_small x y z w n =
    let a = n.x.size in
    let b = n.y.size in
    let c = n.z.size in
    record { x = record { size = omega arith }; y = record { size = omega arith }; z = record { size = omega arith }; w = omega (arith, n.w); real = n.some }

-- parts in range
abbrev AllFit : List Part → Type 0
AllFit ps = AllByRecursion (λ p. Fits p.shape) ps

all_push : (ps : List Part) (p : Part) → AllFit ps → Fits p.shape → AllFit (ps ++ p ∷ [])
all_push [] p a f = (f, tt)
all_push (q ∷ ps) p a f = (a.0, all_push ps p a.1 f)

-- where the steps of the part of a name are, which is of shape t
record Found (u : ℕ) (ps : List Part) (w : List ℕ) (t : Shape) : Type 0 where
  from : ℕ
  spot_is : spot u ps w ≡ (u + from) ∷ length (words t) ∷ []
  fits : Fits t
  inside : from + length (words t) ≤ length (steps_of ps)
  steps_are : take (length (words t)) (drop from (steps_of ps)) ≡ words t

found : (u : ℕ) (ps : List Part) (w : List ℕ) → AllFit ps → one_of (names_of ps) w ≡ true → Found u ps w (named ps w)
found u [] w a h = absurd (both_ways false refl h)
found u (p ∷ ps) w a h = go (same w p.name) refl (λ k. found (u + length (words p.shape)) ps w a.1 k)
  where
    here : same w p.name ≡ true → Found u (p ∷ ps) w p.shape
    here e =
        let z : u ≡ u + 0 = omega arith in
        record {
          from = 0;
          spot_is = cond-true (same w p.name) _ _ e ∙ ap (λ (m : ℕ). m ∷ length (words p.shape) ∷ []) z;
          fits = a.0;
          inside = simp length-append (omega arith);
          steps_are = take_at (words p.shape) (steps_of ps) _ refl;
        }

    later : (t : Shape) → same w p.name ≡ false → Found (u + length (words p.shape)) ps w t → Found u (p ∷ ps) w t
    later t e f =
        let n = length (words p.shape) in
        let z : u + n + f.from ≡ u + (n + f.from) = omega arith in
        let d : drop (n + f.from) (words p.shape ++ steps_of ps) ≡ drop f.from (steps_of ps) =
        sym (drop-drop f.from n (words p.shape ++ steps_of ps)) ∙ ap (drop f.from) (drop_at (words p.shape) (steps_of ps) n refl) in
        record {
          from = n + f.from;
          spot_is = cond-false (same w p.name) _ _ e ∙ f.spot_is ∙ ap (λ (m : ℕ). m ∷ length (words t) ∷ []) z;
          fits = f.fits;
          inside = simp length-append (omega (arith, f.inside));
          steps_are = ap (take (length (words t))) d ∙ f.steps_are;
        }

    go : (b : Bool) → same w p.name ≡ b → (one_of (names_of ps) w ≡ true → Found (u + length (words p.shape)) ps w (named ps w)) → Found u (p ∷ ps) w (named (p ∷ ps) w)
    go true e f = subst (λ (t : Shape). Found u (p ∷ ps) w t) (sym (cond-true (same w p.name) p.shape (named ps w) e)) (here e)
    go false e f =
        subst (λ (t : Shape). Found u (p ∷ ps) w t) (sym (cond-false (same w p.name) p.shape (named ps w) e))
        (later (named ps w) e (f (sym (ap (λ (b : Bool). b || one_of (names_of ps) w) e) ∙ h)))

-- steps as far as they go, with more behind them
same_steps : (steps r : List ℕ) (a n : ℕ) → a + n ≤ length steps → take n (drop a (steps ++ r)) ≡ take n (drop a steps)
same_steps steps r a n h =
    let l : n ≤ length (drop a steps) = simp length-drop (omega arith) in
    ap (take n) (drop-append-le a steps r (omega arith)) ∙ take-append-le n (drop a steps) r l

-- the same six words elsewhere, and more steps
moved : (steps r asked asked' : List ℕ) (k k' : ℕ) (q : Question) → 6 * k' + 6 ≤ length asked' →
    ((i : ℕ) → i < 6 → get_or asked' (6 * k' + i) 0 ≡ get_or asked (6 * k + i) 0) → Lies steps asked k q → Lies (steps ++ r) asked' k' q
moved steps r asked asked' k k' q h e l =
    record {
      shape = l.shape;
      place = l.place;
      is = l.is;
      fits = l.fits;
      small = l.small;
      from = l.from;
      count = l.count;
      inside = h;
      from_is = ap (λ (j : ℕ). get_or asked' j 0) (sym (add-zero (6 * k'))) ∙ e 0 (omega arith) ∙ ap (λ (j : ℕ). get_or asked j 0) (add-zero (6 * k)) ∙ l.from_is;
      count_is = e 1 (omega arith) ∙ l.count_is;
      x_is = e 2 (omega arith) ∙ l.x_is;
      y_is = e 3 (omega arith) ∙ l.y_is;
      z_is = e 4 (omega arith) ∙ l.z_is;
      w_is = e 5 (omega arith) ∙ l.w_is;
      steps_inside = simp length-append (omega (arith, l.steps_inside));
      steps_are = same_steps steps r l.from l.count l.steps_inside ∙ l.steps_are;
      long = l.long;
    }

-- a question behind six words
later : (steps six asked : List ℕ) (k : ℕ) (q : Question) → length six ≡ 6 → Lies steps asked k q → Lies steps (six ++ asked) (suc k) q
later steps six asked k q h l =
    subst (λ (ss : List ℕ). Lies ss (six ++ asked) (suc k) q) (append-nil steps)
    (moved steps [] asked (six ++ asked) k (suc k) q (simp length-append (omega (arith, l.inside)))
    (λ i b. let m : 6 * suc k + i ≡ length six + (6 * k + i) = omega arith in ap (λ (j : ℕ). get_or (six ++ asked) j 0) m ∙ get_or-append-add six asked (6 * k + i) 0)
    l)

module _ (ps : List Part) (n : List ℕ) (x y z w : ℤ) (more : List ℕ) (f : Found 0 ps n (named ps n)) where
  -- the first question
  first : Coordinates x y z w → Lies (steps_of ps) (spot 0 ps n ++ (of_z w64 x ∷ of_z w64 y ∷ of_z w64 z ∷ nat_abs w ∷ more)) 0 (where_is (named ps n) (at x y z w))
  first c =
      subst (λ (l : List ℕ). Lies (steps_of ps) (l ++ (of_z w64 x ∷ of_z w64 y ∷ of_z w64 z ∷ nat_abs w ∷ more)) 0 (where_is (named ps n) (at x y z w)))
      (sym f.spot_is)
      (record {
        shape = named ps n;
        place = at x y z w;
        is = refl;
        fits = f.fits;
        small = place_small x y z w c;
        from = f.from;
        count = length (words (named ps n));
        inside = omega arith;
        from_is = zero-add f.from;
        count_is = refl;
        x_is = refl;
        y_is = refl;
        z_is = refl;
        w_is = refl;
        steps_inside = f.inside;
        steps_are = f.steps_are;
        long = refl;
      })

  six_long : length (spot 0 ps n ++ (of_z w64 x ∷ of_z w64 y ∷ of_z w64 z ∷ nat_abs w ∷ [])) ≡ 6
  six_long = ap (λ (l : List ℕ). length (l ++ (of_z w64 x ∷ of_z w64 y ∷ of_z w64 z ∷ nat_abs w ∷ []))) f.spot_is

shape_fits : (ps : List Part) (e : Expr) → fine_shape e ≡ true → Fits (says ps e)
shape_fits ps (half a b c d) h = absurd (both_ways false refl h)
shape_fits ps (box x0 x1 y0 y1 z0 z1) h = box_fits x0 x1 y0 y1 z0 z1 (box_numbers x0 x1 y0 y1 z0 z1 h)
shape_fits ps (two o e f) h = absurd (both_ways false refl h)
shape_fits ps (move x y z e) h = absurd (both_ways false refl h)
shape_fits ps (one o e) h = absurd (both_ways false refl h)
shape_fits ps (called n) h = absurd (both_ways false refl h)

lies_from : (ps : List Part) (ls : List Line) → AllFit ps → fine (names_of ps) ls ≡ true → (k : ℕ) → k < length (questions ps ls) → (d : Question) →
    Lies (steps_of ps ++ part_steps ps ls) (asked_words ps ls) k (get_or (questions ps ls) k d)
lies_from ps [] a h k l d = absurd (omega arith)
lies_from ps (part n e ∷ ls) a h k l d =
    let p : Part = record { name = n.0; shape = says ps e } in
    let s = part_sound (names_of ps) n e ls h in
    let ns = map_push (λ (q : Part). q.name) ps p in
    let r = part_steps (with_part ps n e) ls in
    subst (λ (ss : List ℕ). Lies ss (asked_words (with_part ps n e) ls) k (get_or (questions (with_part ps n e) ls) k d))
    (ap (λ (ss : List ℕ). ss ++ r) (steps_push ps p) ∙ append_assoc (steps_of ps) (words (says ps e)) r)
    (lies_from (with_part ps n e) ls (all_push ps p a (shape_fits ps e s.0)) (subst (λ (ms : List (List ℕ)). fine ms ls ≡ true) (sym ns) s.1) k l d)
lies_from ps (place n x y z w ∷ ls) a h zero l d =
    let s = place_sound (names_of ps) n x y z w ls h in
    let f = found 0 ps n.0 a s.known in
    let aw = asked_words ps ls in
    let q = first ps n.0 x y z w aw f (place_numbers x y z w s.numbers) in
    moved (steps_of ps) (part_steps ps ls) _ _ 0 0 _ q.inside (λ i b. refl) q
lies_from ps (place n x y z w ∷ ls) a h (suc k) l d =
    let s = place_sound (names_of ps) n x y z w ls h in
    let f = found 0 ps n.0 a s.known in
    let aw = asked_words ps ls in
    let q = of_z w64 x ∷ of_z w64 y ∷ of_z w64 z ∷ nat_abs w ∷ [] in
    let st = steps_of ps ++ part_steps ps ls in
    subst (λ (l : List ℕ). Lies st l (suc k) (get_or (questions ps ls) k d)) (append_assoc (spot 0 ps n.0) q aw)
    (later st (spot 0 ps n.0 ++ q) aw k (get_or (questions ps ls) k d) (six_long ps n.0 x y z w aw f) (lies_from ps ls a s.later k (omega arith) d))
lies_from ps (same_as n m ∷ ls) a h k l d = absurd (both_ways false refl h)
lies_from ps (meet n m ∷ ls) a h k l d = absurd (both_ways false refl h)
lies_from ps (model n ∷ ls) a h k l d = absurd (both_ways false refl h)

-- in the words of lines that are taken, each question lies at its number
pub asked_lies : (ls : List Line) → fine [] ls ≡ true → (k : ℕ) → k < length (questions [] ls) → (d : Question) →
    Lies (part_steps [] ls) (asked_words [] ls) k (get_or (questions [] ls) k d)
asked_lies ls h k l d = lies_from [] ls tt h k l d

-- and so where they are laid
pub laid_lies : (ls : List Line) (l : Layout) → Laid ls l → fine [] ls ≡ true → (k : ℕ) → k < length (questions [] ls) → (d : Question) → Lies l.steps.now l.asked.now k (get_or (questions [] ls) k d)
laid_lies ls l t h k n d = subst₂ (λ steps asked. Lies steps asked k (get_or (questions [] ls) k d)) (sym t.steps_are) (sym t.asked_are) (asked_lies ls h k n d)

-- a coordinate, back from its word
back : (v : ℕ) (x : ℤ) → v ≡ of_z w64 x → Short x coordinate_limit → to_z w64 v ≡ x
back v x e s = ap (to_z w64) e ∙ (is_num s tt).same

module _ (steps asked : List ℕ) (k : ℕ) (q : Question) (l : Lies steps asked k q) where
  pub lies-place :
      record { x = to_z w64 (get_or asked (6 * k + 2) 0); y = to_z w64 (get_or asked (6 * k + 3) 0); z = to_z w64 (get_or asked (6 * k + 4) 0); w = get_or asked (6 * k + 5) 0 }
      ≡ l.place
  lies-place =
      let x = back _ l.place.x l.x_is l.small.x in
      let y = back _ l.place.y l.y_is l.small.y in
      let z = back _ l.place.z l.z_is l.small.z in
      let w = l.w_is in
      λ i. record { x = x i; y = y i; z = z i; w = w i }

  pub lies_steps : take (get_or asked (6 * k + 1) 0) (drop (get_or asked (6 * k) 0) steps) ≡ words l.shape
  lies_steps = ap (λ (n : ℕ). take n (drop (get_or asked (6 * k) 0) steps)) l.count_is ∙ ap (λ (n : ℕ). take l.count (drop n steps)) l.from_is ∙ l.steps_are
