use Rattle.std.proofs.Common.{◌≡◌, ◌+◌, length, arith, rules}
use Rattle.memory_journal.proofs.BlankLemmas.{length_behind, numbered-behind}
use Rattle.memory_journal.proofs.journal.MemoryJournal.bounds.Goals as goal

pub returns-clause-last : goal.returns-clause-last
returns-clause-last c =
    let counted : c.len.result ≡ length c.self.inside.entries.items = search (rules, c.len.ensures) in
    rw (← c.self.view_is) (omega (arith, counted, length_behind (c.self.inside.gone + 1) c.self.inside.passed c.self.inside.entries.items))

pub returns-clause-fits : goal.returns-clause-fits
returns-clause-fits c = rw (← c.self.view_is) (omega (arith, c.self.invariant.0, length_behind (c.self.inside.gone + 1) c.self.inside.passed c.self.inside.entries.items))

pub returns-clause-numbered : goal.returns-clause-numbered
returns-clause-numbered c = rw (← c.self.view_is) (numbered-behind (c.self.inside.gone + 1) c.self.inside.passed c.self.inside.entries.items c.self.invariant.1)
