-- The shape that steps are of, and what is told of it.
use Rattle.std.proofs.Common.{◌≡◌, ℕ, List, sym, refl, ap, ◌∙◌, subst}
use denote.Enum.Bare.{sameb}
use Rattle.solid.specs.contracts.types.Told.{the_type}
use Rattle.solid.specs.declared.types.Told.{Told}
use Rattle.solid.specs.declared.types.Told.TheVariants.{In, Out, On}
use Rattle.solid.specs.Shapes.{planes, Fits}
use Rattle.solid.specs.Steps.{Coded}
use Rattle.solid.specs.Stacks.{shape_of, word_planes}
use Rattle.solid.proofs.Sweep.{coded_planes}
use Rattle.solid.proofs.Machine.{shape_words}
use Rattle.pieces.specs.Questions.{is_in}

pub coded_shape : (ws : List ℕ) (c : Coded ws) → shape_of ws ≡ c.shape
coded_shape ws c = ap shape_of c.is ∙ shape_words c.shape c.fits

pub shaped_planes : (ws : List ℕ) (c : Coded ws) → word_planes ws ≡ planes (shape_of ws)
shaped_planes ws c = coded_planes ws c.shape c.fits c.is ∙ ap planes (sym (coded_shape ws c))

pub coded_fits : (ws : List ℕ) (c : Coded ws) → Fits (shape_of ws)
coded_fits ws c = subst Fits (sym (coded_shape ws c)) c.fits

-- what is told, compared by the code
pub same-is_in : (t : Told) → sameb the_type t In ≡ is_in t
same-is_in In = refl
same-is_in Out = refl
same-is_in On = refl
