-- A member that loses its records or its deleted places, and which of the two. (CL reference, CLRPFM and RGZPFM.)
use Rattle.std.specs.Prelude.{ℕ, ◌+◌}
use Rattle.entry_codec.specs.declared.kinds.EntryKind.{EntryKind}
use Rattle.entry_codec.specs.declared.kinds.EntryKind.TheVariants.{MemberCleared, MemberReorganized}
use Rattle.member_slots.specs.Member.{MemberState, cleared, reorganized}
use Rattle.library_steps.specs.State.{Memory, with_status}
use Rattle.library_steps.specs.MemberCommands.{renumbered, with_slots}
use Rattle.file_requests.specs.declared.member_commands.Renumbering.{Renumbering}
use Rattle.file_requests.specs.declared.member_commands.Renumbering.TheVariants.{Clear, Reorganize}

abbrev pub kind_of : Renumbering → EntryKind
kind_of Clear = MemberCleared
kind_of Reorganize = MemberReorganized

abbrev pub slots_after : Renumbering → MemberState → MemberState
slots_after Clear member = cleared member
slots_after Reorganize member = reorganized member

-- its slots after it, and its status
abbrev pub renumbering_of : Renumbering → (member : ℕ) → Memory → Memory
renumbering_of way member m = with_status member (renumbered (m.last_entry + 1)) (with_slots member (slots_after way) m)
