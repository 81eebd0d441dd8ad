-- What stops a position from being set is answered, with nothing done.
use Rattle.std.proofs.Common.{◌≡◌, ℕ, Result, Err, refl}
use Rattle.open_position.specs.declared.position.Side.{Side}
use Rattle.library_model.specs.declared.requests.SetPosition.{SetPosition}
use Rattle.library_model.specs.declared.replies.Reply.{Reply}
use Rattle.library_steps.specs.State.{State, memory_of}
use Rattle.library_parts.specs.Answers.{Answers}
use Rattle.library_parts.below.parts_model.specs.declared.stop.Stop.{Stop}
use Rattle.library_parts.below.parts_model.specs.declared.stop.Stop.TheVariants.{NoMemory, Refused}
use Rattle.record_reads.specs.Plans.{PlansPosition, position_set}

pub position-stopped : (side : Side) (s : State) (job : ℕ) (args : SetPosition) (result : Result Reply Stop) (stop : Stop) → result ≡ Err stop
    → PlansPosition (memory_of s) job args (Err stop) → Answers s s result (position_set side (memory_of s) job args)
position-stopped side s job args result NoMemory is plans = absurd plans
position-stopped side s job args result (Refused reply) is plans = rw is (refl, plans side)
