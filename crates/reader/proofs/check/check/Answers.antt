use Rattle.std.proofs.Common.{◌≡◌, ℕ, ◌+◌, ◌<◌, ◌≤◌, true, List, [], ◌∷◌, length, length-append, get_or, drop, sym, ap, ◌∙◌, subst, subst₂, arith, le-leb, Ok, Result, Option}
use Rattle.std.proofs.lemmas.Result.{err_from_is_err_and}
use Rattle.std.proofs.lemmas.List.Elements.{All-push}
use Rattle.lent.specs.Lists.{Held}
use Rattle.grammar.specs.Faults.{token}
use Rattle.grammar.specs.Tokens.{tok_at}
use Rattle.grammar.proofs.First.{starts_inside}
use Rattle.reader.specs.declared.types.Expect.{Expect}
use Rattle.reader.specs.declared.types.Refusal.{Refusal}
use Rattle.reader.specs.Names.{words_at, InText}
use Rattle.reader.specs.Scan.{with_name, Looked}
use Rattle.reader.proofs.Checks.{Scanned, whole, turn_next, turn_wrong, names_put, names_kept}
use Rattle.reader.proofs.check.check.Goals as goal
use Rattle.reader.proofs.check.check.Goals.{in-AtNewName, in_default-expect}

pub token_at-word-requires : goal.token_at-word-requires
token_at-word-requires c =
    let h = starts_inside c.args.text.now c.args.tokens.now c.loop-start.start-index c.requires.tokens c.loop-start-test.true in omega arith

-- what `look` says, over the names and the word themselves
said : (bs names ws : List ℕ) (nw : List (List ℕ)) (p : ℕ) (e : Expect) (r : Result (Option Expect) Refusal) → nw ≡ words_at bs names → ws ≡ tok_at (drop p bs) → Looked r e nw (token p ws) →
    Looked r e (words_at bs names) (token p (tok_at (drop p bs)))
said bs names ws nw p e r f g l = subst₂ (λ ns w. Looked r e ns (token p w)) f g l

pub returns-in_err-next : goal.returns-in_err-next
returns-in_err-next c =
    let bs = c.args.text.now in
    let p = get_or c.args.tokens.now c.loop-start.start-index 0 in
    let g : whole c.args.read (token p (tok_at (drop p bs))) ≡ true = le-leb _ _ (omega (arith, ap length c.token_at-word.ensures, c.if-at-word.false)) in
    let l = said bs c.loop-start.names.items c.token_at-word.result.now c.new.result p c.loop-start.expect c.look.result (c.new.ensures ∙ ap (words_at bs) c.as_slice.ensures) c.token_at-word.ensures c.look.ensures in
    let r = c.in_err-next.field-0.0 in
    let k = subst (λ (x : Result (Option Expect) Refusal). Looked x c.loop-start.expect (words_at bs c.loop-start.names.items) (token p (tok_at (drop p bs)))) c.in_err-next.was l in
    let q = err_from_is_err_and c.from_residual.result c.from_residual.ensures.1 in
    rw (q.1, q.2) (turn_wrong bs c.args.read c.loop-start.names.items c.loop-start.expect c.args.tokens.now c.loop-start.start-index c.loop-start-test.true c.loop-start.invariant.0 r g k)

pub loop-start-preserved : goal.loop-start-preserved
loop-start-preserved c =
    let bs = c.args.text.now in
    let p = get_or c.args.tokens.now c.loop-start.start-index 0 in
    let ns = c.loop-start.names.items in
    let e = c.loop-start.expect in
    let w = tok_at (drop p bs) in
    let inv = c.loop-start.invariant in
    let g : whole c.args.read (token p w) ≡ true = le-leb _ _ (omega (arith, ap length c.token_at-word.ensures, c.if-at-word.false)) in
    let l = said bs ns c.token_at-word.result.now c.new.result p e c.look.result (c.new.ensures ∙ ap (words_at bs) c.as_slice.ensures) c.token_at-word.ensures c.look.ensures in
    let k = subst (λ (x : Result (Option Expect) Refusal). Looked x e (words_at bs ns) (token p w)) (c.in_ok-next.was ∙ ap (λ (o : Option Expect). Ok o) c.in-Some.is) l in
    let next : (names' : List ℕ) → words_at bs names' ≡ with_name e (words_at bs ns) w → InText bs names' → Scanned bs c.args.read names' c.in-Some.next (drop (c.loop-start.start-index + 1) c.args.tokens.now) =
    λ names' n i. turn_next bs c.args.read ns e c.args.tokens.now c.loop-start.start-index c.loop-start-test.true inv.0 c.in-Some.next names' g k n i in
    let P : Held ℕ → Expect → Type 0 =
    λ h x. Scanned bs c.args.read h.items x (drop (c.loop-start.start-index + 1) c.args.tokens.now) × (length h.items ≤ c.loop-start.start-index + 1) × (h.room ≡ c.new-names.result.room) in
    elim c.match-expect.branch [
      | in-AtNewName v ↦
          let a = v.push.ensures.items in
          let n : words_at bs v.push.new.self.items ≡ with_name e (words_at bs ns) w = ap (words_at bs) a ∙ names_put bs ns p ∙ ap (λ (x : Expect). with_name x (words_at bs ns) w) (sym v.in-AtNewName.is) in
          let i : InText bs v.push.new.self.items = subst (InText bs) (sym a) (All-push (λ q. q < length bs) ns p inv.0.inside (starts_inside bs c.args.tokens.now c.loop-start.start-index c.requires.tokens c.loop-start-test.true)) in
          subst₂ P (sym v.names-is) (sym v.expect-is)
          (next v.push.new.self.items n i, omega (arith, length-append ns (p ∷ []), ap length a, inv.1), v.push.ensures.room ∙ inv.2)
      | in_default-expect v ↦
          subst₂ P (sym v.names-is) (sym v.expect-is)
          (next ns (names_kept e (words_at bs ns) w (λ f. v.in_default-expect.not-AtNewName f)) inv.0.inside, omega (arith, inv.1), inv.2)
    ]
