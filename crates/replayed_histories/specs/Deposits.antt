-- Which drafts may be deposited one after the other behind what a journal leaves, and what do they leave? (Our own.)
use Rattle.std.specs.Prelude.{◌≡◌, ◌+◌, None, IsTrue, List, [], ◌∷◌}
use Rattle.std.specs.List.{AllByRecursion}
use Rattle.entry_codec.specs.declared.entries.Entry.{Entry}
use Rattle.entry_codec.specs.declared.entries.Draft.{Draft}
use Rattle.entry_codec.specs.Drafts.{numbered}
use Rattle.entry_codec.specs.Placing.{is_placed}
use Rattle.journal_replay.specs.Standing.{Standing, catalogue_in, standing_after, MayStandNext}
use Rattle.named_bases.specs.Sources.{descriptions}
use Rattle.journaled_entries.specs.Deposited.{IsJournaledThen}
use Rattle.replayed_histories.specs.Replayed.{IsHeldWithin}

-- a library deposits such an entry
pub record MayBeDeposited (left : Standing) (e : Entry) : Type 0 where
  pub next : MayStandNext descriptions left e
  pub within : AllByRecursion (IsHeldWithin (standing_after e left)) (standing_after e left).members
  pub placed : IsTrue (is_placed e)
  pub journaled : IsJournaledThen (catalogue_in left) e

-- the drafts become entries, one after the other, and leave this
abbrev pub DraftsLeave : Standing → List Draft → Standing → Type 0
DraftsLeave left [] to = to ≡ left
DraftsLeave left (d ∷ drafts) to = MayBeDeposited left (numbered d left.next) × DraftsLeave (standing_after (numbered d left.next) left) drafts to

-- an entry more that does nothing to files, members and commit cycles
abbrev pub moved_on : Standing → Standing
moved_on left = record left { next = left.next + 1; begun = None }
