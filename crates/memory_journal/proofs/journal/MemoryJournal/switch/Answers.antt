use Rattle.std.proofs.Common.{◌∙◌, ◌+◌, [], ◌∷◌, ap}
use Rattle.memory_journal.specs.Journal.{Journal, Held, deposited, attached}
use Rattle.memory_journal.proofs.DepositLemmas.{deposited-two}
use Rattle.memory_journal.proofs.journal.MemoryJournal.switch.Goals as goal

pub returns-clause-switched : goal.returns-clause-switched
returns-clause-switched c =
    ap (λ (j : Journal). attached (j.receivers.attached + 1) j)
    (ap (λ (h : Held). h.journal) c.self.view_is ∙ c.push-sequence-2.ensures.deposited ∙ ap (deposited (c.args.previous ∷ [])) c.push-sequence.ensures.deposited
    ∙ deposited-two c.args.self.now.journal c.args.next c.args.previous)
