use Rattle.std.proofs.Common.{◌∙◌, ◌+◌, ap, sym}
use Rattle.lawful_states.specs.Receivers.{last_in}
use Rattle.memory_journal.proofs.BlankLemmas.{last_in-behind}
use Rattle.memory_journal.proofs.journal.MemoryJournal.last_in.Goals as goal

pub returns : goal.returns
returns c =
    rw (← c.self.view_is) (c.last_among.ensures ∙ ap (last_in c.args.receiver) c.as_slice.ensures.value
    ∙ sym (last_in-behind c.args.receiver (c.self.inside.gone + 1) c.self.inside.passed c.self.inside.entries.items))
