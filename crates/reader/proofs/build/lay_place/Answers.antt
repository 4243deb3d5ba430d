use Rattle.std.proofs.Common.{◌≡◌, ℕ, ◌*◌, List, [], ◌∷◌, ◌++◌, length, get_or, ℤ, nat_abs, sym, ap, ◌∙◌, w64, to_z, of_z, rules}
use Rattle.arith.specs.Bounds.{Short}
use Rattle.grammar.specs.Grammar.{signed}
use Rattle.grammar.specs.Values.{number_limit}
use Rattle.reader.specs.Lines.{pair_of}
use Rattle.reader.proofs.Numbers.{place_numbers, number_read}
use Rattle.reader.proofs.Pairs.{pair_whole, written}
use Rattle.reader.proofs.build.lay_place.Goals as goal

-- a number as a word
as_word : (w : List ℕ) (r z : ℤ) (v : ℕ) → w ≡ signed z → Short z number_limit → ((y : ℤ) → w ≡ signed y → Short y number_limit → r ≡ y) → v ≡ of_z w64 (to_z w64 (of_z w64 r)) → v ≡ of_z w64 z
as_word w r z v e s f g = g ∙ ap (of_z w64) (number_read w r z e s f).same

-- a pair and four numbers
six : (r q : List ℕ) (a b d e a' b' d' e' : ℕ) → get_or r 0 0 ∷ get_or r 1 0 ∷ [] ≡ q → a ≡ a' → b ≡ b' → d ≡ d' → e ≡ e' →
    get_or r 0 0 ∷ get_or r 1 0 ∷ a ∷ b ∷ d ∷ e ∷ [] ≡ q ++ (a' ∷ b' ∷ d' ∷ e' ∷ [])
six r q a b d e a' b' d' e' h ea eb ed ee =
    let f : a ∷ b ∷ d ∷ e ∷ [] ≡ a' ∷ b' ∷ d' ∷ e' ∷ [] = cc in
    ap (λ (l : List ℕ). l ++ (a ∷ b ∷ d ∷ e ∷ [])) h ∙ ap (λ (l : List ℕ). q ++ l) f

pub returns : goal.returns
returns c p =
    let pairs = pair_of c.args.names.now c.args.spots.now in
    let n = place_numbers p.x p.y p.z p.w p.sound in
    let word = λ (k : ℕ). ap (λ (ws : List (List ℕ)). get_or ws k []) p.read in
    let two : length c.spot_of.result ≡ 2 = search rules in
    let spot = pair_whole c.spot_of.result two ∙ c.spot_of.ensures ∙ ap pairs (c.at.ensures ∙ word 1) in
    let x = as_word c.at-2.result.now c.number.result p.x c.cast_unsigned.result (c.at-2.ensures ∙ word 2) n.x c.number.ensures c.cast_unsigned.ensures in
    let y = as_word c.at-3.result.now c.number-2.result p.y c.cast_unsigned-2.result (c.at-3.ensures ∙ word 3) n.y c.number-2.ensures c.cast_unsigned-2.ensures in
    let z = as_word c.at-4.result.now c.number-3.result p.z c.cast_unsigned-3.result (c.at-4.ensures ∙ word 4) n.z c.number-3.ensures c.cast_unsigned-3.ensures in
    let w = as_word c.at-5.result.now c.number-4.result p.w c.cast_unsigned-4.result (c.at-5.ensures ∙ word 5) n.w_short c.number-4.ensures c.cast_unsigned-4.ensures in
    let q = six c.spot_of.result (pairs p.name.0) _ _ _ _ (of_z w64 p.x) (of_z w64 p.y) (of_z w64 p.z) (nat_abs p.w) spot x y z (w ∙ ap (of_z w64) n.real) in
    written (6 * c.args.count) 6 _ c.args.asked.now c.copy_from_slice.new.self _ (c.copy_from_slice.ensures.after ∙ q) (sym (ap length q)) c.requires.room
