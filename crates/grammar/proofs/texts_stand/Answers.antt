use Rattle.std.proofs.Common.{refl}
use Rattle.grammar.proofs.Once.{once}
use Rattle.grammar.proofs.Laws.{one_place, not_both}
use Rattle.grammar.proofs.Told.{fine_faultless, one_fault}
use Rattle.grammar.proofs.texts_stand.Goals as goal

pub returns : goal.returns
returns c = record { told = refl; list = once; place = one_place; apart = not_both; faultless = fine_faultless; fault = one_fault }
