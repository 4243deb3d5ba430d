-- What the stack machine does, before any memory: the words of a shape make that shape, and no other.
--     words_make, made_of, coded_makes               the words of a shape make it
--     makes_one, words_apart, shape_words            and no other
--     makes_more, makes_all, makes_fit               one step further, at the end, and each step in range
use Rattle.std.proofs.Common.{◌≡◌, ℕ, zero, suc, ◌+◌, ◌<◌, ◌≤◌, List, [], ◌∷◌, ◌++◌, length, get_or, drop, sym, refl, ap, ◌∙◌, subst, append_assoc, arith}
use Rattle.std.proofs.lemmas.List.{append-nil, drop_more, drop_all}
use Rattle.plane.specs.declared.types.Plane.{Plane}
use Rattle.plane.specs.Limits.{FitsPlane}
use Rattle.solid.specs.declared.types.Step.{Step}
use Rattle.solid.specs.declared.types.Step.TheVariants.{Half, Both, Either, Without}
use Rattle.solid.specs.Shapes.{Shape, half, both, either, without, planes, Has, Fits}
use Rattle.solid.specs.Steps.{word, step, words, FitsStep, Coded}
use Rattle.solid.specs.Stacks.{after, taken, run, top, shape_of, Enough, Makes}
use Rattle.solid.proofs.Members.{has_here, has_left, has_right}
use Rattle.solid.proofs.Digits.{step-word}

-- a step's word, and the words behind it
first : (x : Step) → FitsStep x → (u : Shape) (ws : List ℕ) (st : List Shape) → taken x ≤ length st → Makes u ws (after x st) → Makes u (word x ∷ ws) st
first x f u ws st h m = subst (λ (y : Step). Enough y (length st) × Makes u ws (after y st)) (sym (step-word x f)) (record { fits = f; many = h }, m)

-- the words of s put s on the stack
abbrev pub Made : Shape → Type 0
Made s = (u : Shape) (ws : List ℕ) (st : List Shape) → Makes u ws (s ∷ st) → Makes u (words s ++ ws) st

joined : (x : Step) → FitsStep x → taken x ≤ 2 → (s t : Shape) → Made s → Made t → (u : Shape) (ws : List ℕ) (st : List Shape) → Makes u ws (after x (t ∷ (s ∷ st))) → Makes u ((words s ++ (words t ++ (word x ∷ []))) ++ ws) st
joined x f h s t a b u ws st m =
    let e = append_assoc (words s) (words t ++ (word x ∷ [])) ws ∙ ap (λ (l : List ℕ). words s ++ l) (append_assoc (words t) (word x ∷ []) ws) in
    subst (λ (l : List ℕ). Makes u l st) (sym e)
    (a u (words t ++ (word x ∷ ws)) st (b u (word x ∷ ws) (s ∷ st) (first x f u ws (t ∷ (s ∷ st)) (omega arith) m)))

abbrev pub AllFit : List Plane → Type 0
AllFit ps = (p : Plane) → Has ps p → FitsPlane p

pub fit_left : (ps qs : List Plane) → AllFit (ps ++ qs) → AllFit ps
fit_left ps qs f p h = f p (has_left p ps qs h)

pub fit_right : (ps qs : List Plane) → AllFit (ps ++ qs) → AllFit qs
fit_right ps qs f p h = f p (has_right p ps qs h)

made : (s : Shape) → AllFit (planes s) → Made s
unfolding words planes
made (half p) f u ws st m = first (Half p) (f p (has_here p [])) u ws st (omega arith) m
made (both s t) f u ws st m = joined Both tt (omega arith) s t (made s (fit_left (planes s) (planes t) f)) (made t (fit_right (planes s) (planes t) f)) u ws st m
made (either s t) f u ws st m = joined Either tt (omega arith) s t (made s (fit_left (planes s) (planes t) f)) (made t (fit_right (planes s) (planes t) f)) u ws st m
made (without s t) f u ws st m = joined Without tt (omega arith) s t (made s (fit_left (planes s) (planes t) f)) (made t (fit_right (planes s) (planes t) f)) u ws st m

pub words_make : (s : Shape) → Fits s → Makes s (words s) []
words_make s f = subst (λ (l : List ℕ). Makes s l []) (append-nil (words s)) (made s f.each s [] [] refl)

-- the shape of steps is the one that they are of
makes_run : (s : Shape) (ws : List ℕ) (st : List Shape) → Makes s ws st → run ws st ≡ s ∷ []
makes_run s [] st m = m
makes_run s (w ∷ ws) st m = makes_run s ws (after (step w) st) m.1

pub shape_words : (s : Shape) → Fits s → shape_of (words s) ≡ s
unfolding shape_of
shape_words s f = ap top (makes_run s (words s) [] (words_make s f))

-- one shape at most
pub makes_one : (s t : Shape) (ws : List ℕ) (st : List Shape) → Makes s ws st → Makes t ws st → s ≡ t
makes_one s t [] st m n = let e = sym m ∙ n in cc
makes_one s t (w ∷ ws) st m n = makes_one s t ws (after (step w) st) m.1 n.1

pub words_apart : (s t : Shape) → Fits s → Fits t → words s ≡ words t → s ≡ t
words_apart s t f g e = makes_one s t (words t) [] (subst (λ (l : List ℕ). Makes s l []) e (words_make s f)) (words_make t g)

-- one step further into the words
pub makes_more : (s : Shape) (ws : List ℕ) (i : ℕ) (st : List Shape) → i < length ws → Makes s (drop i ws) st →
    Enough (step (get_or ws i 0)) (length st) × Makes s (drop (i + 1) ws) (after (step (get_or ws i 0)) st)
makes_more s ws i st h m = subst (λ (l : List ℕ). Makes s l st) (drop_more ws i 0 h) m

pub makes_all : (s : Shape) (ws : List ℕ) (i : ℕ) (st : List Shape) → length ws ≤ i → Makes s (drop i ws) st → st ≡ s ∷ []
makes_all s ws i st h m = subst (λ (l : List ℕ). Makes s l st) (drop_all i ws h) m

-- each step is in range
pub makes_fit : (s : Shape) (ws : List ℕ) (st : List Shape) (i : ℕ) → Makes s ws st → i < length ws → FitsStep (step (get_or ws i 0))
makes_fit s [] st i m h = absurd (omega arith)
makes_fit s (w ∷ ws) st zero m h = m.0.fits
makes_fit s (w ∷ ws) st (suc i) m h = makes_fit s ws (after (step w) st) i m.1 (omega arith)

-- of words that are known to be some shape's
pub made_of : (ws : List ℕ) (s : Shape) → Fits s → ws ≡ words s → Makes s ws []
made_of ws s f e = subst (λ (l : List ℕ). Makes s l []) (sym e) (words_make s f)

pub coded_makes : (ws : List ℕ) (c : Coded ws) → Makes c.shape ws []
coded_makes ws c = made_of ws c.shape c.fits c.is
