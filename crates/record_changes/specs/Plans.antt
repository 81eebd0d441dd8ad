-- How a plan answers for a slot to change or a record to unlock: with it, the refusal, or out of memory. (Our own.)
use Rattle.std.specs.Prelude.{◌≡◌, ℕ, None, Result, Ok, Err}
use Rattle.logical_model.specs.Formats.{given_in}
use Rattle.library_model.specs.declared.requests.WriteRecord.{WriteRecord}
use Rattle.library_model.specs.declared.replies.Reply.{Reply}
use Rattle.library_steps.specs.State.{Memory, FileState, OpenState}
use Rattle.library_steps.specs.LogicalFiles.{bases_of}
use Rattle.library_steps.specs.Refusals.{◌>>=◌, OpenedFile}
use Rattle.library_steps.specs.SlotChange.{NewSlot}
use Rattle.library_steps.specs.WriteRecord.{packed, place_plan}
use Rattle.library_steps.specs.ChangeRecord.{LastRead}
use Rattle.library_parts.below.parts_model.specs.declared.stop.Stop.{Stop}
use Rattle.library_parts.below.parts_model.specs.declared.stop.Stop.TheVariants.{NoMemory, Refused}
use Rattle.record_changes.specs.declared.planned.PlannedSlot.{PlannedSlot}
use Rattle.record_changes.specs.declared.planned.LockedRead.{LockedRead}
use Rattle.record_changes.specs.Opens.{bare_slot, bare_read}

abbrev pub new_slot : PlannedSlot → NewSlot
new_slot planned = record { opened = planned.opened; rrn = planned.rrn; slot = planned.slot }

abbrev pub last_read : LockedRead → LastRead
last_read read = record { opened = read.opened; rrn = read.rrn }

abbrev pub opened_with : OpenState → FileState → OpenedFile
opened_with opened file = record { opened = opened; file = file }

-- a record to add through an open that is at a format, from the values on
abbrev pub given_plan : Memory → (job : ℕ) → OpenedFile → WriteRecord → Result NewSlot Reply
given_plan m job its args =
    packed (given_in (bases_of m) its.file.spec its.opened.format args.values None) >>= λ image. place_plan m job its.opened args.record_number image

-- the wanted one, or its refusal, as the effect reads it
abbrev pub as_read : {A : Type 0} → (A → A) → Result A Reply → Result A Reply
as_read bare (Ok wanted) = Ok (bare wanted)
as_read bare (Err reply) = Err reply

abbrev pub PlansSlot : Result PlannedSlot Stop → Result NewSlot Reply → Type 0
PlansSlot (Ok planned) wanted = as_read bare_slot wanted ≡ Ok (new_slot planned)
PlansSlot (Err NoMemory) wanted = Unit {0}
PlansSlot (Err (Refused reply)) wanted = wanted ≡ Err reply

-- it is never out of memory
abbrev pub PlansRead : Result LockedRead Stop → Result LastRead Reply → Type 0
PlansRead (Ok read) wanted = as_read bare_read wanted ≡ Ok (last_read read)
PlansRead (Err NoMemory) wanted = ⊥
PlansRead (Err (Refused reply)) wanted = wanted ≡ Err reply
