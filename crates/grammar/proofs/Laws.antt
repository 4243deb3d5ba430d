-- One outcome.
use Rattle.std.proofs.Common.{◌≡◌, ℕ, ◌+◌, ◌<◌, ◌≤◌, ◌⊎◌, List, [], ◌++◌, length, take, drop, sym, ap, ◌∙◌, subst, inl, inr, append_assoc, append-nil, arith}
use Rattle.std.proofs.lemmas.List.{take-append-drop, take-take, take_all}
use Rattle.std.proofs.lemmas.Bool.{cases_order, cases_lt}
use Rattle.grammar.specs.Grammar.{Text, Viable, Refused}
use Rattle.grammar.specs.Laws.{OnePlace, NotBoth}

-- the start of a start
pub shorter : (bs : List ℕ) (n m : ℕ) → n ≤ m → Viable (take m bs) → Viable (take n bs)
shorter bs n m h v =
    let e : take n (take m bs) ++ drop n (take m bs) ≡ take m bs = take-append-drop n (take m bs) in
    let f : take n bs ++ drop n (take m bs) ≡ take m bs = ap (λ (x : List ℕ). x ++ drop n (take m bs)) (sym (take-take n m bs h)) ∙ e in
    (drop n (take m bs) ++ v.0, subst Text (ap (λ (x : List ℕ). x ++ v.0) (sym f) ∙ append_assoc (take n bs) (drop n (take m bs)) v.0) v.1)

pub one_place : OnePlace
one_place bs p q a b = go (cases_order p q)
  where
    far : (p q : ℕ) → Refused bs p → Refused bs q → p < q → ⊥
    far p q a b h =
        let k = b.inside in
        let l : p < length bs = omega arith in
        let m : p + 1 ≤ q = omega arith in
        a.no_more l (shorter bs (p + 1) q m b.so_far)

    go : (p ≡ q) ⊎ ((p < q) ⊎ (q < p)) → p ≡ q
    go (inl e) = e
    go (inr (inl h)) = absurd (far p q a b h)
    go (inr (inr h)) = absurd (far q p b a h)

pub not_both : NotBoth
not_both bs p t a = go (cases_lt p (length bs))
  where
    go : (p < length bs) ⊎ (length bs ≤ p) → ⊥
    go (inl h) = a.no_more h (shorter bs (p + 1) (length bs) (omega arith) ([], subst Text (sym (append-nil _ ∙ take_all (length bs) bs (omega arith))) t))
    go (inr h) = let k = a.inside in let e : p ≡ length bs = omega arith in a.no_text e t
