-- Lines that are fine are taken, and else one fault is told.
use Rattle.std.proofs.Common.{◌≡◌, refl, ap₂, inl, inr, arith}
use Rattle.grammar.specs.Grammar.{print}
use Rattle.grammar.specs.Faults.{Fault, fault, Before}
use Rattle.grammar.specs.Laws.{FineFaultless, OneFault}
use Rattle.grammar.proofs.First.{no_fault}
use Rattle.grammar.proofs.Fine.{none_from}

pub fine_faultless : FineFaultless
fine_faultless ls h l f = no_fault (print ls) (ls, refl) l (none_from (print ls) ls refl h) f

one_of_two : (f g : Fault) → Before f g → Before g f → f ≡ g
one_of_two f g (inl h) (inl k) = absurd (omega arith)
one_of_two f g (inl h) (inr k) = let e = k.0 in absurd (omega arith)
one_of_two f g (inr h) (inl k) = let e = h.0 in absurd (omega arith)
one_of_two f g (inr h) (inr k) =
    let n : f.number ≡ g.number = omega (arith, h.1, k.1) in
    ap₂ fault n h.0

pub one_fault : OneFault
one_fault bs f g a b = one_of_two f g (a.first g b.so) (b.first f a.so)
