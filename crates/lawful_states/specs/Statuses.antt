-- What each change does to the status of a member. (Journal Management, "Starting journaling".)
use Rattle.library_steps.specs.State.{MemberStatus}
use Rattle.library_steps.specs.SlotChange.{touched}
use Rattle.library_steps.specs.MemberCommands.{renumbered}
use Rattle.library_steps.specs.Journaling.{journaled_from, no_longer_journaled}
use Rattle.lawful_states.specs.declared.changes.StatusChange.{StatusChange}
use Rattle.lawful_states.specs.declared.changes.StatusChange.TheVariants.{Touched, Renumbered, Journaled, Unjournaled}

abbrev pub after : StatusChange → MemberStatus → MemberStatus
after Touched = touched
after (Renumbered sequence) = renumbered sequence
after (Journaled sequence images) = journaled_from sequence images
after (Unjournaled sequence records) = no_longer_journaled sequence records
