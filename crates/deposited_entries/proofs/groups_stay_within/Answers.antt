use Rattle.deposited_entries.specs.Groups.{GroupsWithin}
use Rattle.deposited_entries.proofs.AnswerLemmas.{answer-keeps}
use Rattle.deposited_entries.proofs.GroupLemmas.{begun-groups, groups-after}
use Rattle.deposited_entries.proofs.groups_stay_within.Goals as goal

pub returns-clause-begun : goal.returns-clause-begun
returns-clause-begun c = begun-groups

pub returns-clause-kept : goal.returns-clause-kept
returns-clause-kept c = groups-after

pub returns-clause-called : goal.returns-clause-called
returns-clause-called c = λ sources old new job timestamp request reply.
    answer-keeps GroupsWithin (λ given. Unit {0}) (λ s done d any. groups-after s done d) sources old new job timestamp request reply tt
