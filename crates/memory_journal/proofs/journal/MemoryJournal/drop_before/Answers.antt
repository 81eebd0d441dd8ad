use Rattle.std.proofs.Common.{◌+◌, ◌++◌}
use Rattle.lawful_states.proofs.NumberLemmas.{given-within}
use Rattle.memory_journal.specs.Blanks.{blanks}
use Rattle.memory_journal.proofs.BlankLemmas.{numbered-behind}
use Rattle.memory_journal.proofs.journal.MemoryJournal.drop_before.Goals as goal

pub give_up-requires-clause-kept : goal.give_up-requires-clause-kept
give_up-requires-clause-kept c =
    let first = c.self.inside.gone + 1 in
    let items = c.self.inside.entries.items in
    let numbered = numbered-behind first c.self.inside.passed items c.self.invariant.1 in
    rw (← c.self.view_is) (rw (c.unwrap_or-last.ensures, c.last_in.ensures, ← c.self.view_is) (given-within c.args.receiver c.self.inside.gone (blanks first c.self.inside.passed ++ items) numbered).0)

pub give_up-requires-clause-there : goal.give_up-requires-clause-there
give_up-requires-clause-there c =
    let first = c.self.inside.gone + 1 in
    let items = c.self.inside.entries.items in
    let numbered = numbered-behind first c.self.inside.passed items c.self.invariant.1 in
    rw (← c.self.view_is) (rw (c.unwrap_or-last.ensures, c.last_in.ensures, ← c.self.view_is) (given-within c.args.receiver c.self.inside.gone (blanks first c.self.inside.passed ++ items) numbered).1)
