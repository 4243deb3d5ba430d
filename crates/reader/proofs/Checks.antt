-- The scan of a text's words, turn by turn.
use Rattle.std.proofs.Common.{◌≡◌, ℕ, ◌+◌, ◌<◌, Bool, true, cond, leb, List, [], ◌∷◌, ◌++◌, map, length, get_or, drop, filter, Some, Ok, Err, sym, refl, ap, ◌∙◌, append_assoc, append-nil}
use Rattle.std.proofs.lemmas.List.{drop_more, map-append}
use Rattle.std.proofs.lemmas.Bool.{cond-true}
use Rattle.grammar.specs.Tokens.{tok_at}
use Rattle.grammar.specs.Faults.{Fault, Token, token, scan, looked, word_faults}
use Rattle.reader.specs.declared.types.Expect.{Expect}
use Rattle.reader.specs.declared.types.Expect.TheVariants.{AtLine, AtNewName, AtShape, InBox, AtUsedName, InPlace}
use Rattle.reader.specs.declared.types.Refusal.{Refusal}
use Rattle.reader.specs.Names.{words_at, InText}
use Rattle.reader.specs.Scan.{expected, with_name, named_in, Looked, told}

-- the words that begin at some bytes, as far as they are read
abbrev pub whole : ℕ → Token → Bool
whole read t = leb (t.start + length t.word) read

abbrev pub rest_of : List ℕ → ℕ → List ℕ → List Token
rest_of bs read ps = filter (whole read) (map (λ p. token p (tok_at (drop p bs))) ps)

-- what a turn of the loop keeps: the faults and names of all words are those so far and those of the rest
pub record Scanned (bs : List ℕ) (read : ℕ) (names : List ℕ) (e : Expect) (ps : List ℕ) : Type 0 where
  pub faults : scan (words_at bs names) (expected e) (rest_of bs read ps) ≡ word_faults read bs
  pub named : words_at bs names ++ named_in (expected e) (rest_of bs read ps) ≡ named_in [] (looked read bs)
  pub inside : InText bs names

-- names with one more, as the scan counts them
grown : (e : Expect) (ns : List (List ℕ)) (w : List ℕ) → with_name e ns w ≡ ns ++ with_name e [] w
grown AtLine ns w = sym (append-nil ns)
grown AtNewName ns w = refl
grown AtShape ns w = sym (append-nil ns)
grown (InBox k) ns w = sym (append-nil ns)
grown AtUsedName ns w = sym (append-nil ns)
grown (InPlace k) ns w = sym (append-nil ns)

module _ (bs : List ℕ) (read : ℕ) (names : List ℕ) (e : Expect) (ps : List ℕ) (k : ℕ) (h : k < length ps) (inv : Scanned bs read names e (drop k ps)) where
  abbrev word : Token
  word = token (get_or ps k 0) (tok_at (drop (get_or ps k 0) bs))

  here : rest_of bs read (drop k ps) ≡ cond (whole read word) (word ∷ rest_of bs read (drop (k + 1) ps)) (rest_of bs read (drop (k + 1) ps))
  here = ap (rest_of bs read) (drop_more ps k 0 h)

  seen : whole read word ≡ true → rest_of bs read (drop k ps) ≡ word ∷ rest_of bs read (drop (k + 1) ps)
  seen f = here ∙ cond-true (whole read word) _ _ f

  -- a word that is right, with the names after it
  pub turn_next : (f : Expect) (names' : List ℕ) → whole read word ≡ true → Looked (Ok (Some f)) e (words_at bs names) word →
      words_at bs names' ≡ with_name e (words_at bs names) word.word → InText bs names' →
      Scanned bs read names' f (drop (k + 1) ps)
  turn_next f names' g l n i =
      let ns = words_at bs names in
      let rest = rest_of bs read (drop (k + 1) ps) in
      record {
        faults = ap (λ (ms : List (List ℕ)). scan ms (expected f) rest) n ∙ sym (l rest).0 ∙ ap (scan ns (expected e)) (sym (seen g)) ∙ inv.faults;
        named =
            ap (λ (ms : List (List ℕ)). ms ++ named_in (expected f) rest) (n ∙ grown e ns word.word) ∙ append_assoc ns (with_name e [] word.word) (named_in (expected f) rest)
            ∙ ap (λ (ms : List (List ℕ)). ns ++ ms) (sym (l rest).1) ∙ ap (λ (ts : List Token). ns ++ named_in (expected e) ts) (sym (seen g)) ∙ inv.named;
        inside = i;
      }

  -- a word that is wrong
  pub turn_wrong : (r : Refusal) → whole read word ≡ true → Looked (Err r) e (words_at bs names) word → (rest : List Fault) × (word_faults read bs ≡ told r ∷ rest)
  turn_wrong r g l =
      let rest = rest_of bs read (drop (k + 1) ps) in
      ((l rest).0, sym inv.faults ∙ ap (scan (words_at bs names) (expected e)) (seen g) ∙ (l rest).1)

-- the names after one more
pub names_put : (bs names : List ℕ) (p : ℕ) → words_at bs (names ++ p ∷ []) ≡ words_at bs names ++ tok_at (drop p bs) ∷ []
names_put bs names p = map-append (λ q. tok_at (drop q bs)) names (p ∷ [])

-- names stay where none is new
pub names_kept : (e : Expect) (ns : List (List ℕ)) (w : List ℕ) → (e ≡ AtNewName → ⊥) → ns ≡ with_name e ns w
names_kept AtLine ns w n = refl
names_kept AtNewName ns w n = absurd (n refl)
names_kept AtShape ns w n = refl
names_kept (InBox k) ns w n = refl
names_kept AtUsedName ns w n = refl
names_kept (InPlace k) ns w n = refl
