-- The state of a job from its position in the script.
use Rattle.std.specs.Prelude.{Bool, true, false, List}
use Rattle.field_types.specs.declared.values.Value.{Value}
use Rattle.job_language.specs.declared.progress.Position.{Position}
use Rattle.job_language.specs.declared.progress.Stage.{Stage}
use Rattle.job_language.specs.declared.progress.Stage.TheVariants.{NotBegun, Asking, Ended}
use Rattle.job_language.specs.Asks.{JobState}

abbrev pub state_at : Position → List Value → JobState
state_at position values = record { stage = position.stage; left = position.left; values = values }

abbrev pub is_ended : Stage → Bool
is_ended NotBegun = false
is_ended (Asking place) = false
is_ended (Ended reason line) = true
