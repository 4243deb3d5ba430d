use Rattle.search.proofs.levels.Grid.base_number.Goals as goal

pub number_of-requires : goal.number_of-requires
number_of-requires c = c.self.invariant.0 _ c.in_ok-self.was
