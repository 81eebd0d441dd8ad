use Rattle.deposited_entries.specs.Counted.{IsCounted}
use Rattle.deposited_entries.proofs.AnswerLemmas.{answer-keeps}
use Rattle.deposited_entries.proofs.CountedLemmas.{begun-counted, counted-after}
use Rattle.deposited_entries.proofs.numbers_stay_counted.Goals as goal

pub returns-clause-begun : goal.returns-clause-begun
returns-clause-begun c = begun-counted

pub returns-clause-kept : goal.returns-clause-kept
returns-clause-kept c = counted-after

pub returns-clause-called : goal.returns-clause-called
returns-clause-called c = λ sources old new job timestamp request reply.
    answer-keeps IsCounted (λ given. Unit {0}) (λ s done d any. counted-after s done d) sources old new job timestamp request reply tt
