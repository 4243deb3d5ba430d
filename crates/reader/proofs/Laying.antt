-- The pass over the lines that lays them into words.
--     starts, part_laid, place_laid, ends      before the first line, after a part's, after a place's, and behind the last
--     part_there, place_there                  the line that comes next
--     lines_in, front_length                   the words at the front of slices, as lists
use Rattle.std.proofs.Common.{◌≡◌, ℕ, ◌+◌, ◌*◌, ◌/◌, ◌<◌, ◌≤◌, true, false, List, [], ◌∷◌, ◌++◌, length, get_or, take, drop, ℤ, nat_abs, codes, sym, refl, ap, ◌∙◌, subst, append_assoc, append-nil, zero-add, arith, w64, of_z}
use Rattle.std.proofs.lemmas.List.{take_at, drop_more, length-append, length-take, length-drop, length-map, map_push}
use Rattle.solid.specs.Shapes.{box as box_of}
use Rattle.solid.specs.Steps.{words}
use Rattle.lent.specs.Lists.{Held}
use Rattle.grammar.specs.Grammar.{box, Name, Line, part, place, same_as, meet, model, same}
use Rattle.grammar.specs.Tokens.{code_of}
use Rattle.grammar.specs.Meaning.{Part, questions, fine}
use Rattle.reader.specs.declared.types.Counts.{Counts}
use Rattle.reader.specs.Layout.{Taken, part_names, part_steps, spot, asked_words}
use Rattle.reader.specs.Lines.{PartAt, steps_at, pair_of, PlaceAt, question_at}
use Rattle.reader.proofs.Numbers.{box_length}
use Rattle.reader.proofs.Spots.{names_of, steps_of, spots_of, steps_push, spots_push, spots_length, spot_length, spot_pair}
use Rattle.reader.proofs.Next.{part_sound, Sound, place_sound, PartNext, PlaceNext, Next, next, next_part, next_place}

-- what the lines are laid into, as lists
pub record Lines : Type 0 where
  pub spots : Held ℕ
  pub steps : Held ℕ
  pub asked : Held ℕ

-- where steps and questions lie at the front of slices, as many as are counted
abbrev pub lines_in : Held ℕ → Counts → List ℕ → List ℕ → Lines
lines_in spots n steps asked =
    record { spots = spots; steps = record { items = take n.used steps; room = length steps }; asked = record { items = take (6 * n.asked) asked; room = length asked } }

-- how many words are at the front
pub front_length : (n : ℕ) (xs : List ℕ) → n ≤ length xs → length (take n xs) ≡ n
front_length n xs h = omega (arith, length-take n xs)

-- all lines but those that are left are laid
pub record State (lines : List Line) (names rest : List (List ℕ)) (l : Lines) (left : List Line) : Type 0 where
  pub before : List Part
  pub read : rest ≡ code_of left
  pub sound : fine (names_of before) left ≡ true
  pub named : names ≡ names_of before ++ part_names left
  pub spots_are : l.spots.items ≡ spots_of 0 before
  pub steps_are : l.steps.items ≡ steps_of before
  pub steps_left : steps_of before ++ part_steps before left ≡ part_steps [] lines
  pub asked_left : l.asked.items ++ asked_words before left ≡ asked_words [] lines
  pub count_is : length l.asked.items + 6 * length (questions before left) ≡ 6 * length (questions [] lines)

-- how far the pass has come, and what room is left
pub record Going (lines : List Line) (tokens names rest : List (List ℕ)) (l : Lines) : Type 0 where
  pub left : List Line
  pub state : State lines names rest l left
  pub passed : 2 * length rest + 9 * length l.spots.items + 2 * length l.asked.items ≡ 2 * length tokens
  pub each : 2 * length l.steps.items ≡ 11 * length l.spots.items
  pub spots_room : length tokens ≤ l.spots.room
  pub steps_room : 2 * length tokens ≤ l.steps.room
  pub asked_room : length tokens ≤ l.asked.room

pub starts : {tokens names : List (List ℕ)} (l : Lines) (t : Taken tokens names) → l.spots.items ≡ [] → l.steps.items ≡ [] → l.asked.items ≡ [] → length tokens ≤ l.spots.room → 2 * length tokens ≤ l.steps.room →
    length tokens ≤ l.asked.room → Going t.lines tokens names tokens l
starts l t es et ea rs rt ra =
    record {
      left = t.lines;
      state =
          record {
            before = [];
            read = t.read;
            sound = t.sound;
            named = t.named;
            spots_are = es;
            steps_are = et;
            steps_left = refl;
            asked_left = ap (λ (x : List ℕ). x ++ asked_words [] t.lines) ea;
            count_is = omega (arith, ap length ea);
          };
      passed = omega (arith, ap length es, ap length ea);
      each = omega (arith, ap length es, ap length et);
      spots_room = rs;
      steps_room = rt;
      asked_room = ra;
    }

module _ {lines : List Line} {names rest : List (List ℕ)} {l : Lines} where
  -- a part's line
  module _ {n : Name} {x0 x1 y0 y1 z0 z1 : ℤ} {more : List Line} (s : State lines names rest l (part n (box x0 x1 y0 y1 z0 z1) ∷ more)) where
    pub part_at : PartAt rest
    part_at =
        record {
          name = n;
          x0 = x0;
          x1 = x1;
          y0 = y0;
          y1 = y1;
          z0 = z0;
          z1 = z1;
          behind = code_of more;
          read = s.read;
          sound = (part_sound (names_of s.before) n (box x0 x1 y0 y1 z0 z1) more s.sound).0;
        }

    part_step : (l' : Lines) → l'.spots.items ≡ l.spots.items ++ length l.steps.items ∷ 11 ∷ [] → l'.steps.items ≡ l.steps.items ++ words (box_of x0 x1 y0 y1 z0 z1) →
        l'.asked ≡ l.asked → State lines names (drop 9 rest) l' more
    part_step l' es et ea =
        let e = box x0 x1 y0 y1 z0 z1 in
        let ps = s.before in
        let p : Part = record { name = n.0; shape = box_of x0 x1 y0 y1 z0 z1 } in
        let ns : names_of (ps ++ p ∷ []) ≡ names_of ps ++ n.0 ∷ [] = map_push (λ (q : Part). q.name) ps p in
        let len = box_length x0 x1 y0 y1 z0 z1 in
        let steps' = et ∙ ap (λ (x : List ℕ). x ++ words p.shape) s.steps_are ∙ sym (steps_push ps p) in
        record {
          before = ps ++ p ∷ [];
          read = ap (drop 9) s.read;
          sound = subst (λ (ms : List (List ℕ)). fine ms more ≡ true) (sym ns) (part_sound (names_of ps) n e more s.sound).1;
          named = s.named ∙ sym (append_assoc (names_of ps) (n.0 ∷ []) (part_names more)) ∙ ap (λ (ms : List (List ℕ)). ms ++ part_names more) (sym ns);
          spots_are =
              es ∙ ap (λ (x : List ℕ). x ++ length l.steps.items ∷ 11 ∷ []) s.spots_are
              ∙ ap (λ (m : ℕ). spots_of 0 ps ++ m ∷ 11 ∷ []) (ap length s.steps_are ∙ sym (zero-add (length (steps_of ps))))
              ∙ ap (λ (m : ℕ). spots_of 0 ps ++ (0 + length (steps_of ps)) ∷ m ∷ []) (sym len)
              ∙ sym (spots_push 0 ps p);
          steps_are = steps';
          steps_left =
              ap (λ (x : List ℕ). x ++ part_steps (ps ++ p ∷ []) more) (steps_push ps p) ∙ append_assoc (steps_of ps) (words p.shape) (part_steps (ps ++ p ∷ []) more) ∙ s.steps_left;
          asked_left = ap (λ (h : Held ℕ). h.items ++ asked_words (ps ++ p ∷ []) more) ea ∙ s.asked_left;
          count_is = ap (λ (h : Held ℕ). length h.items + 6 * length (questions (ps ++ p ∷ []) more)) ea ∙ s.count_is;
        }

  -- a place's line
  module _ {n : Name} {x y z w : ℤ} {more : List Line} (s : State lines names rest l (place n x y z w ∷ more)) where
    its_sound : Sound (names_of s.before) n x y z w more
    its_sound = place_sound (names_of s.before) n x y z w more s.sound

    pub place_at : PlaceAt rest
    place_at = record { name = n; x = x; y = y; z = z; w = w; behind = code_of more; read = s.read; sound = its_sound.numbers }

    -- its part's name is among the first m names
    its_names : (m : ℕ) → 2 * m ≡ length l.spots.items → take m names ≡ names_of s.before
    its_names m e =
        let k : length (names_of s.before) ≡ m = simp length-map (omega (arith, ap length s.spots_are, spots_length 0 s.before)) in
        ap (take m) s.named ∙ take_at (names_of s.before) (part_names more) m k

    place_step : (l' : Lines) (m : ℕ) → 2 * m ≡ length l.spots.items →
        l'.asked.items ≡ l.asked.items ++ (pair_of (take m names) l.spots.items n.0 ++ (of_z w64 x ∷ of_z w64 y ∷ of_z w64 z ∷ nat_abs w ∷ [])) →
        l'.spots ≡ l.spots → l'.steps ≡ l.steps → State lines names (drop 6 rest) l' more
    place_step l' m k e es et =
        let ps = s.before in
        let q = of_z w64 x ∷ of_z w64 y ∷ of_z w64 z ∷ nat_abs w ∷ [] in
        let spot_is : pair_of (take m names) l.spots.items n.0 ≡ spot 0 ps n.0 =
        ap (λ (ms : List (List ℕ)). pair_of ms l.spots.items n.0) (its_names m k) ∙ ap (λ (ys : List ℕ). pair_of (names_of ps) ys n.0) s.spots_are ∙ spot_pair 0 ps n.0 in
        let asked' : l'.asked.items ≡ l.asked.items ++ (spot 0 ps n.0 ++ q) = e ∙ ap (λ (x : List ℕ). l.asked.items ++ (x ++ q)) spot_is in
        record {
          before = ps;
          read = ap (drop 6) s.read;
          sound = its_sound.later;
          named = s.named;
          spots_are = ap (λ (h : Held ℕ). h.items) es ∙ s.spots_are;
          steps_are = ap (λ (h : Held ℕ). h.items) et ∙ s.steps_are;
          steps_left = s.steps_left;
          asked_left =
              ap (λ (x : List ℕ). x ++ asked_words ps more) asked' ∙ append_assoc l.asked.items (spot 0 ps n.0 ++ q) (asked_words ps more)
              ∙ ap (λ (x : List ℕ). l.asked.items ++ x) (append_assoc (spot 0 ps n.0) q (asked_words ps more)) ∙ s.asked_left;
          count_is =
              let six : length (spot 0 ps n.0 ++ q) ≡ 6 = simp length-append (omega (arith, spot_length 0 ps n.0)) in
              omega (arith, s.count_is, ap length asked', length-append l.asked.items (spot 0 ps n.0 ++ q));
        }

module _ {lines : List Line} {tokens names rest : List (List ℕ)} {l : Lines} (g : Going lines tokens names rest l) where
  -- some line is left
  module _ (h : 0 < length rest) where
    first : Next g.left (get_or rest 0 [])
    first = next (names_of g.state.before) g.left _ _ g.state.sound (sym (drop_more rest 0 [] h) ∙ g.state.read)

    -- a part comes next
    module _ (e : same (codes "part") (get_or rest 0 []) ≡ true) where
      its_part : PartNext g.left
      its_part = next_part g.left _ first e

      at_part : let p = its_part in State lines names rest l (part p.name (box p.x0 p.x1 p.y0 p.y1 p.z0 p.z1) ∷ p.more)
      at_part = subst (λ (ls : List Line). State lines names rest l ls) its_part.is g.state

      pub part_there : PartAt rest
      part_there = part_at at_part

      pub part_long : 9 ≤ length rest
      part_long = omega (arith, ap length at_part.read)

      pub part_laid : (l' : Lines) → l'.spots.items ≡ l.spots.items ++ length l.steps.items ∷ 11 ∷ [] → ((p : PartAt rest) → l'.steps.items ≡ l.steps.items ++ steps_at p) →
          (l'.spots.room ≡ l.spots.room) × (l'.steps.room ≡ l.steps.room) → l'.asked ≡ l.asked → Going lines tokens names (drop 9 rest) l'
      unfolding part_at part_there
      part_laid l' es et rooms ea =
          let n = box_length its_part.x0 its_part.x1 its_part.y0 its_part.y1 its_part.z0 its_part.z1 in
          record {
            left = its_part.more;
            state = part_step at_part l' es (et part_there) ea;
            passed = simp length-drop (omega (arith, g.passed, part_long, ap length es, length-append l.spots.items (length l.steps.items ∷ 11 ∷ []), ap (λ (x : Held ℕ). length x.items) ea));
            each = omega (arith, g.each, ap length es, length-append l.spots.items (length l.steps.items ∷ 11 ∷ []), ap length (et part_there), length-append l.steps.items (steps_at part_there), n);
            spots_room = omega (arith, g.spots_room, rooms.0);
            steps_room = omega (arith, g.steps_room, rooms.1);
            asked_room = omega (arith, g.asked_room, ap (λ (x : Held ℕ). x.room) ea);
          }

    -- a place comes next
    module _ (e : same (codes "part") (get_or rest 0 []) ≡ false) where
      its_place : PlaceNext g.left
      its_place = next_place g.left _ first e

      at_place : let p = its_place in State lines names rest l (place p.name p.x p.y p.z p.w ∷ p.more)
      at_place = subst (λ (ls : List Line). State lines names rest l ls) its_place.is g.state

      pub place_there : PlaceAt rest
      place_there = place_at at_place

      pub place_long : 6 ≤ length rest
      place_long = omega (arith, ap length at_place.read)

      pub place_laid : (l' : Lines) (m : ℕ) → 2 * m ≡ length l.spots.items → ((p : PlaceAt rest) → l'.asked.items ≡ l.asked.items ++ question_at (take m names) l.spots.items p) →
          l'.asked.room ≡ l.asked.room → (l'.spots ≡ l.spots) × (l'.steps ≡ l.steps) → Going lines tokens names (drop 6 rest) l'
      unfolding place_at place_there place_step
      place_laid l' m k ea room o =
          let s = place_step at_place l' m k (ea place_there) o.0 o.1 in
          record {
            left = its_place.more;
            state = s;
            passed = simp length-drop (omega (arith, g.passed, place_long, ap (λ (x : Held ℕ). length x.items) o.0, s.count_is, at_place.count_is));
            each = omega (arith, g.each, ap (λ (x : Held ℕ). length x.items) o.0, ap (λ (x : Held ℕ). length x.items) o.1);
            spots_room = omega (arith, g.spots_room, ap (λ (x : Held ℕ). x.room) o.0);
            steps_room = omega (arith, g.steps_room, ap (λ (x : Held ℕ). x.room) o.1);
            asked_room = omega (arith, g.asked_room, room);
          }

  -- there are no more parts before a line than names
  pub parts_known : length l.spots.items ≤ 2 * length names
  parts_known =
      let n : length names ≡ length (names_of g.state.before) + length (part_names g.left) = ap length g.state.named ∙ length-append (names_of g.state.before) (part_names g.left) in
      let m : length (names_of g.state.before) ≡ length g.state.before = simp length-map in
      omega (arith, ap length g.state.spots_are, spots_length 0 g.state.before)

  -- twice a whole number
  pub parts_even : (m : ℕ) → m ≡ length l.spots.items / 2 → 2 * m ≡ length l.spots.items
  parts_even m e = omega (arith, ap length g.state.spots_are, spots_length 0 g.state.before)

  -- no line is left
  pub ends : length rest ≤ 0 → (l.steps.items ≡ part_steps [] lines) × (l.asked.items ≡ asked_words [] lines) × (length l.asked.items ≡ 6 * length (questions [] lines))
  ends h =
      let none : rest ≡ [] = no_more rest h in
      let s = subst (λ (ls : List Line). State lines names rest l ls) (none_left g.left (sym none ∙ g.state.read)) g.state in
      (s.steps_are ∙ sym (append-nil (steps_of s.before)) ∙ s.steps_left, sym (append-nil l.asked.items) ∙ s.asked_left, omega (arith, s.count_is))
    where
      no_more : (ws : List (List ℕ)) → length ws ≤ 0 → ws ≡ []
      no_more [] k = refl
      no_more (w ∷ ws) k = absurd (omega arith)

      none_left : (left : List Line) → [] ≡ code_of left → left ≡ []
      none_left [] f = refl
      none_left (part n x ∷ left) f = let z : ◌≡◌ {A = ℕ} 0 1 = cc in absurd (omega arith)
      none_left (place n x y z w ∷ left) f = let z : ◌≡◌ {A = ℕ} 0 1 = cc in absurd (omega arith)
      none_left (same_as n m ∷ left) f = let z : ◌≡◌ {A = ℕ} 0 1 = cc in absurd (omega arith)
      none_left (meet n m ∷ left) f = let z : ◌≡◌ {A = ℕ} 0 1 = cc in absurd (omega arith)
      none_left (model n ∷ left) f = let z : ◌≡◌ {A = ℕ} 0 1 = cc in absurd (omega arith)
