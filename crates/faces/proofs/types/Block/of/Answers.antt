use Rattle.std.proofs.Common.{Bool, cond, Some, None, sym, ap, ◌∙◌, subst, ap₂}
use Rattle.faces.specs.declared.types.Bounds.{Bounds}
use Rattle.faces.specs.Blocks.{thick, left_of, FitsBlock}
use Rattle.faces.proofs.Thickness.{cut_fits}
use Rattle.faces.proofs.Faces.{right_model}
use Rattle.faces.proofs.types.Block.of.Goals as goal

pub invariant_of-result : goal.invariant_of-result
invariant_of-result c = let e = c.cut_off-bounds.ensures in subst FitsBlock (sym e) (cut_fits c.args.bounds (sym (c.if-is_thick.ensures ∙ ap thick e)))

pub returns-then-is_thick-clause-value : goal.returns-then-is_thick-clause-value
unfolding left_of
returns-then-is_thick-clause-value c =
    ap₂ (λ (t : Bool) (b : Bounds). cond t (Some b) None) (c.if-is_thick.ensures ∙ ap thick c.cut_off-bounds.ensures) c.cut_off-bounds.ensures

pub returns-else-is_thick-clause-value : goal.returns-else-is_thick-clause-value
unfolding left_of
returns-else-is_thick-clause-value c =
    ap₂ (λ (t : Bool) (b : Bounds). cond t (Some b) None) (c.if-is_thick.ensures ∙ ap thick c.cut_off-bounds.ensures) c.cut_off-bounds.ensures

pub returns-then-is_thick-clause-right : goal.returns-then-is_thick-clause-right
returns-then-is_thick-clause-right c = right_model c.args.bounds

pub returns-else-is_thick-clause-right : goal.returns-else-is_thick-clause-right
returns-else-is_thick-clause-right c = right_model c.args.bounds
