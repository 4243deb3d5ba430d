-- What is printed of an answer.
use Rattle.std.specs.Prelude.{ℕ, List}
use Rattle.solid.specs.Told.{told_text}
use Rattle.modeller.specs.declared.types.Reply.{Reply}
use Rattle.modeller.specs.declared.types.Reply.TheVariants.{Place}

abbrev pub reply_text : Reply → List ℕ
reply_text (Place t) = told_text t
