use Rattle.std.proofs.Common.{◌≡◌, ◌+◌, ◌≤◌, ◌∷◌, ◌++◌, length, drop}
use Rattle.entry_codec.specs.declared.kinds.EntryKind.TheVariants.{JournalingStarted}
use Rattle.member_slots.specs.Members.{member_of}
use Rattle.library_steps.specs.Drafts.{initial_drafts, member_draft}
use Rattle.file_requests.proofs.records.drafts_of_start.Given as goal

abbrev pub invariant-loop-place : goal.invariant-loop-place
invariant-loop-place l = record {
  drafts : l.drafts.items ++ initial_drafts l.author l.member (l.place + 1) (drop l.place (member_of l.member l.contents.state.members).slots)
      ≡ member_draft l.author l.member (JournalingStarted l.fn.images (length (member_of l.member l.contents.state.members).slots)) ∷ initial_drafts l.author l.member 1 (member_of l.member
      l.contents.state.members).slots;
  few : length l.drafts.items ≤ l.place + 1;
}
