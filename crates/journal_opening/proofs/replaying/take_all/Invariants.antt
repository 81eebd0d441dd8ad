use Rattle.std.proofs.Common.{◌≡◌, ◌++◌, List, take}
use Rattle.entry_codec.specs.declared.entries.Entry.{Entry}
use Rattle.journal_opening.specs.Journals.{IsLeftBy}
use Rattle.journal_opening.proofs.replaying.take_all.Given as goal

abbrev pub invariant-loop-entry : goal.invariant-loop-entry
invariant-loop-entry g l = record {
  count : l.n ≡ l.entry-index;
  left : (before : List Entry) → IsLeftBy (g.D.Describe.rules l.by) before l.fn.replay → IsLeftBy (g.D.Describe.rules l.by) (before ++ take l.entry-index l.entries) l.replay;
}
