-- The machine's runs: which bytes begin a text, and which are one.
use Rattle.std.proofs.Common.{◌≡◌, ℕ, ◌+◌, ◌<◌, Bool, true, false, cond, not, ◌&&◌, eqb, ◌⊎◌, List, [], ◌∷◌, ◌++◌, length, get_or, take, pos, codes, sym, refl, ap, ◌∙◌, subst, inl, inr, append_assoc, append-nil, arith, Option, Some, None}
use Rattle.std.proofs.lemmas.Bool.{both_ways, and_parts, or_cases, cond_both, not-false, and_cases, and_left, and_right}
use Rattle.std.proofs.lemmas.List.{take_more, take_all}
use Rattle.grammar.specs.Grammar.{Expr, half, box, two, move, one, called, both, either, without, mirror, swap, turn, Line, part, place, same_as, meet, model, on_e, on_l, Text, Viable, Refused, is_word, is_name, is_empty, digit, digit1, alnum, all, same, one_of, reserved, signed}
use Rattle.grammar.specs.declared.types.Sep.{Sep}
use Rattle.grammar.specs.declared.types.Kind.{Kind}
use Rattle.grammar.specs.declared.types.Kind.TheVariants.{HalfWord, BoxWord, TwoWord, MoveWord, OneWord, NameWord, NoWord}
use Rattle.grammar.specs.Machine.{byte, Sym, lit, num, minus, digits, name, expr, after_p, after_m, kind_of, behind, step, run, Good}
use Rattle.grammar.proofs.Exact.{Gen, After, Sound, out, back, alnum_good, sep_alnum, same_eq}

-- soundness stays
abbrev pub SoundO : Option (List Sym) → Type 0
SoundO None = Unit {0}
SoundO (Some s) = Sound s

pub good_more : (w : List ℕ) (b : ℕ) → is_word (w ++ b ∷ []) ≡ true → Good (w ++ b ∷ [])
good_more [] b h = h
good_more (x ∷ w) b h = h

keep_end : (k : Kind) (c : Sep) (b : ℕ) (s : List Sym) → Sound s → SoundO (behind k c b s)
keep_end HalfWord c b s h = cond_both (eqb b 32) _ _ SoundO (λ _. h) (λ _. tt)
keep_end BoxWord c b s h = cond_both (eqb b 32) _ _ SoundO (λ _. h) (λ _. tt)
keep_end TwoWord c b s h = cond_both (eqb b 40) _ _ SoundO (λ _. (tt, (tt, h))) (λ _. tt)
keep_end MoveWord c b s h = cond_both (eqb b 32) _ _ SoundO (λ _. (tt, h)) (λ _. tt)
keep_end OneWord c b s h = cond_both (eqb b 40) _ _ SoundO (λ _. (tt, h)) (λ _. tt)
keep_end NameWord c b s h = cond_both (eqb b (byte c)) _ _ SoundO (λ _. h) (λ _. tt)
keep_end NoWord c b s h = tt

pub keep : (s : List Sym) (b : ℕ) → Sound s → SoundO (step s b)
keep [] b h =
    cond_both (eqb b 112) _ _ SoundO (λ _. refl)
    (λ _. cond_both (eqb b 109) _ _ SoundO (λ _. refl) (λ _. cond_both (eqb b 115) _ _ SoundO (λ _. (tt, (tt, tt))) (λ _. tt)))
keep (after_p ∷ s) b h =
    let k : Sound s = subst Sound (sym h) tt in
    cond_both (eqb b 97) _ _ SoundO (λ _. (tt, (tt, k))) (λ _. cond_both (eqb b 108) _ _ SoundO (λ _. (tt, k)) (λ _. tt))
keep (after_m ∷ s) b h =
    let k : Sound s = subst Sound (sym h) tt in
    cond_both (eqb b 101) _ _ SoundO (λ _. (tt, (tt, k))) (λ _. cond_both (eqb b 111) _ _ SoundO (λ _. (tt, k)) (λ _. tt))
keep (lit d ∷ s) b h = cond_both (eqb b d) _ _ SoundO (λ _. h) (λ _. tt)
keep (num c ∷ s) b h = cond_both (eqb b 45) _ _ SoundO (λ _. h) (λ _. cond_both (eqb b 48) _ _ SoundO (λ _. h) (λ _. cond_both (digit1 b) _ _ SoundO (λ _. h) (λ _. tt)))
keep (minus c ∷ s) b h = cond_both (digit1 b) _ _ SoundO (λ _. h) (λ _. tt)
keep (digits c ∷ s) b h = cond_both (digit b) _ _ SoundO (λ _. h) (λ _. cond_both (eqb b (byte c)) _ _ SoundO (λ _. h) (λ _. tt))
keep (name c w ∷ s) b h =
    cond_both (is_word (w ++ b ∷ [])) _ _ SoundO (λ e. (good_more w b e, h.1))
    (λ _. cond_both (is_name w) _ _ SoundO (λ _. cond_both (eqb b (byte c)) _ _ SoundO (λ _. h.1) (λ _. tt)) (λ _. tt))
keep (expr c w ∷ s) b h = cond_both (is_word (w ++ b ∷ [])) _ _ SoundO (λ e. (good_more w b e, h.1)) (λ _. keep_end (kind_of w) c b s h.1)

pub keep_run : (u : List ℕ) (o : Option (List Sym)) → SoundO o → SoundO (run o u)
keep_run [] o h = h
keep_run (b ∷ u) None h = tt
keep_run (b ∷ u) (Some s) h = keep_run u (step s b) (keep s b h)

pub out_run : (u : List ℕ) (o : Option (List Sym)) (v : List ℕ) → SoundO o → After o (u ++ v) → After (run o u) v
out_run [] o v h a = a
out_run (b ∷ u) None v h a = absurd a
out_run (b ∷ u) (Some s) v h a = out_run u (step s b) v (keep s b h) (out s b (u ++ v) h a)

pub back_run : (u : List ℕ) (o : Option (List Sym)) (v : List ℕ) → After (run o u) v → After o (u ++ v)
back_run [] o v a = a
back_run (b ∷ u) None v a = absurd a
back_run (b ∷ u) (Some s) v a = back s b (u ++ v) (back_run u (step s b) v a)

-- how a word ends as a name: as it is, or one byte on
abbrev ext : List ℕ → List ℕ
ext w = cond (is_name w) [] (cond (is_empty w) (97 ∷ []) (48 ∷ []))

abbrev names0 : List (List ℕ) → Bool
names0 [] = true
names0 (k ∷ ks) = is_name (k ++ 48 ∷ []) && names0 ks

ext_reserved : (ks : List (List ℕ)) (w : List ℕ) → one_of ks w ≡ true → names0 ks ≡ true → is_name (w ++ 48 ∷ []) ≡ true
ext_reserved [] w h n = absurd (both_ways false refl h)
ext_reserved (k ∷ ks) w h n = go (or_cases (same w k) (one_of ks w) h) (λ e. ext_reserved ks w e p.1)
  where
    p : (is_name (k ++ 48 ∷ []) ≡ true) × (names0 ks ≡ true)
    p = and_parts (is_name (k ++ 48 ∷ [])) (names0 ks) n

    go : (same w k ≡ true) ⊎ (one_of ks w ≡ true) → (one_of ks w ≡ true → is_name (w ++ 48 ∷ []) ≡ true) → is_name (w ++ 48 ∷ []) ≡ true
    go (inl e) f = subst (λ (x : List ℕ). is_name (x ++ 48 ∷ []) ≡ true) (sym (same_eq w k e)) p.0
    go (inr e) f = f e

-- a word that is no name is reserved
taken : (w : List ℕ) → is_word w ≡ true → is_name w ≡ false → one_of reserved w ≡ true
taken w h n = go (and_cases (is_word w) (not (one_of reserved w)) n)
  where
    go : (is_word w ≡ false) ⊎ (not (one_of reserved w) ≡ false) → one_of reserved w ≡ true
    go (inl e) = absurd (both_ways (is_word w) e h)
    go (inr e) = not-false (one_of reserved w) e

ext_name : (w : List ℕ) → Good w → is_name (w ++ ext w) ≡ true
ext_name [] h = refl
ext_name (b ∷ w) h =
    cond_both (is_name (b ∷ w)) [] (48 ∷ []) (λ x. is_name ((b ∷ w) ++ x) ≡ true)
    (λ e. subst (λ (x : List ℕ). is_name x ≡ true) (sym (append-nil (b ∷ w))) e)
    (λ e. ext_reserved reserved (b ∷ w) (taken (b ∷ w) h e) refl)

abbrev pub finish : List Sym → List ℕ
finish [] = []
finish (lit b ∷ s) = b ∷ finish s
finish (num c ∷ s) = 48 ∷ byte c ∷ finish s
finish (minus c ∷ s) = 49 ∷ byte c ∷ finish s
finish (digits c ∷ s) = byte c ∷ finish s
finish (after_p ∷ s) = codes "art a = a" ++ 10 ∷ finish s
finish (after_m ∷ s) = codes "odel a" ++ 10 ∷ finish s
finish (name c w ∷ s) = ext w ++ byte c ∷ finish s
finish (expr c w ∷ s) = ext w ++ byte c ∷ finish s

-- each stack can be finished
pub finishes : (s : List Sym) → Sound s → Gen s (finish s)
finishes [] h = ([], refl)
finishes (lit b ∷ s) h = (_, refl, finishes s h)
finishes (num c ∷ s) h = (pos 0, _, refl, finishes s h)
finishes (after_p ∷ s) h = (part (97 ∷ [], refl) (called (97 ∷ [], refl)), finish s, refl, finishes s (subst Sound (sym h) tt))
finishes (after_m ∷ s) h = (model (97 ∷ [], refl), finish s, refl, finishes s (subst Sound (sym h) tt))
finishes (minus c ∷ s) h = (49 ∷ [], _, refl, refl, finishes s h)
finishes (digits c ∷ s) h = ([], _, refl, refl, finishes s h)
finishes (name c w ∷ s) h = ((w ++ ext w, ext_name w h.0), _, sym (append_assoc w (ext w) _), finishes s h.1)
finishes (expr c w ∷ s) h = (called (w ++ ext w, ext_name w h.0), _, sym (append_assoc w (ext w) _), finishes s h.1)

-- no stack but the empty one is done
hit : (n : List ℕ) (d : ℕ) (r : List ℕ) → alnum d ≡ false → all alnum (n ++ d ∷ r) ≡ false
hit [] d r h = and_left (alnum d) (all alnum r) h
hit (x ∷ n) d r h = and_right (alnum x) (all alnum (n ++ d ∷ r)) (hit n d r h)

hit_expr : (e : Expr) (d : ℕ) (r : List ℕ) → alnum d ≡ false → all alnum (on_e e (d ∷ r)) ≡ false
hit_expr (half a1 a2 a3 a4) d r h = refl
hit_expr (box a1 a2 a3 a4 a5 a6) d r h = refl
hit_expr (two both e1 e2) d r h = refl
hit_expr (two either e1 e2) d r h = refl
hit_expr (two without e1 e2) d r h = refl
hit_expr (move a1 a2 a3 e1) d r h = refl
hit_expr (one mirror e1) d r h = refl
hit_expr (one swap e1) d r h = refl
hit_expr (one turn e1) d r h = refl
hit_expr (called n) d r h = hit n.0 d r h

nil_ne : (n : List ℕ) (d : ℕ) (r : List ℕ) → [] ≡ n ++ d ∷ r → ⊥
nil_ne [] d r e = cc
nil_ne (x ∷ n) d r e = cc

open_word : (w x : List ℕ) → Good w → w ++ [] ≡ x → all alnum x ≡ false → ⊥
open_word w x h e f = both_ways (all alnum x) f (subst (λ (y : List ℕ). all alnum y ≡ true) (sym (append-nil w) ∙ e) (alnum_good w h))

not_one : (b : ℕ) (l : Line) (r : List ℕ) → b ∷ [] ≡ on_l l r → ⊥
not_one b (part n e) r h = cc
not_one b (place n x y z w) r h = cc
not_one b (same_as n m) r h = cc
not_one b (meet n m) r h = cc
not_one b (model n) r h = cc

pub ends : (s : List Sym) → Sound s → Gen s [] → s ≡ []
ends [] h g = refl
ends (lit b ∷ s) h g = absurd (nil_ne [] b g.0 g.1)
ends (after_p ∷ s) h g = absurd (not_one 112 g.0 g.1 g.2)
ends (after_m ∷ s) h g = absurd (not_one 109 g.0 g.1 g.2)
ends (num c ∷ s) h g = absurd (nil_ne (signed g.0) (byte c) g.1 g.2)
ends (minus c ∷ s) h g = absurd (nil_ne g.0 (byte c) g.1 g.3)
ends (digits c ∷ s) h g = absurd (nil_ne g.0 (byte c) g.1 g.3)
ends (name c w ∷ s) h g = absurd (open_word w _ h.0 g.2 (hit g.0.0 (byte c) g.1 (sep_alnum c)))
ends (expr c w ∷ s) h g = absurd (open_word w _ h.0 g.2 (hit_expr g.0 (byte c) g.1 (sep_alnum c)))

-- what the machine says of bytes, in the words of the printer
abbrev pub start : Option (List Sym)
start = Some []

pub viable_from_run : (u : List ℕ) (s : List Sym) → run start u ≡ Some s → Viable u
viable_from_run u s e =
    let h : Sound s = subst SoundO e (keep_run u start tt) in
    (finish s, back_run u start (finish s) (subst (λ o. After o (finish s)) (sym e) (finishes s h)))

pub not_viable : (u : List ℕ) → run start u ≡ None → Viable u → ⊥
not_viable u e v = subst (λ o. After o v.0) e (out_run u start v.0 tt v.1)

pub text_from_run : (u : List ℕ) → run start u ≡ Some [] → Text u
text_from_run u e =
    subst Text (append-nil u) (back_run u start [] (subst (λ o. After o []) (sym e) ([], refl)))

pub run_from_text : (u : List ℕ) (s : List Sym) → run start u ≡ Some s → Text u → s ≡ []
run_from_text u s e t =
    ends s (subst SoundO e (keep_run u start tt))
    (subst (λ o. After o []) e (out_run u start [] tt (subst Text (sym (append-nil u)) t)))

-- one byte more
run_push : (u : List ℕ) (o : Option (List Sym)) (b : ℕ) → run o (u ++ b ∷ []) ≡ run (run o u) (b ∷ [])
run_push [] o b = refl
run_push (x ∷ u) None b = refl
run_push (x ∷ u) (Some s) b = run_push u (step s x) b

pub run_more : (bs : List ℕ) (i : ℕ) (s : List Sym) → i < length bs → run start (take i bs) ≡ Some s → run start (take (i + 1) bs) ≡ step s (get_or bs i 0)
run_more bs i s h e =
    ap (run start) (take_more bs i 0 h) ∙ run_push (take i bs) start (get_or bs i 0) ∙ ap (λ (o : Option (List Sym)). run o (get_or bs i 0 ∷ [])) e

pub refused_here : (bs : List ℕ) (p : ℕ) (s : List Sym) → p < length bs → run start (take p bs) ≡ Some s → step s (get_or bs p 0) ≡ None → Refused bs p
refused_here bs p s h e f =
    record {
      inside = omega arith;
      so_far = viable_from_run (take p bs) s e;
      no_more = λ _. not_viable (take (p + 1) bs) (run_more bs p s h e ∙ f);
      no_text = λ q. absurd (omega arith);
    }

pub refused_end : (bs : List ℕ) (s : List Sym) → run start bs ≡ Some s → (s ≡ [] → ⊥) → Refused bs (length bs)
refused_end bs s e f =
    record {
      inside = omega arith;
      so_far = subst Viable (sym (take_all (length bs) bs (omega arith))) (viable_from_run bs s e);
      no_more = λ q. absurd (omega arith);
      no_text = λ _ t. f (run_from_text bs s e t);
    }
