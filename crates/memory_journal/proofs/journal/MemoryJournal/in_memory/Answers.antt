use Rattle.std.proofs.Common.{◌∙◌, ◌+◌, sym}
use Rattle.memory_journal.proofs.BlankLemmas.{memory-behind}
use Rattle.memory_journal.proofs.journal.MemoryJournal.in_memory.Goals as goal

pub returns : goal.returns
returns c =
    rw (← c.self.view_is) (c.as_slice.ensures.value ∙ sym (memory-behind (c.self.inside.gone + 1) c.self.inside.passed c.self.inside.entries.items ∙ c.self.invariant.2))
