use Rattle.lawful_states.proofs.OwnerLemmas.{owned-apart}
use Rattle.file_catalogue.proofs.KeyedLemmas.{own_keys-keyed}
use Rattle.file_catalogue.proofs.OwnMemberLemmas.{logical-none}
use Rattle.file_catalogue.proofs.catalogue.Catalogue.len.Goals as goal

pub returns-clause-apart : goal.returns-clause-apart
returns-clause-apart c = rw (← c.self.view_is) (owned-apart c.self.invariant.0)

pub returns-clause-keyed : goal.returns-clause-keyed
returns-clause-keyed c = rw (← c.self.view_is) (own_keys-keyed c.self.inside.files.entries c.self.invariant.1)

pub returns-clause-none : goal.returns-clause-none
returns-clause-none c = rw (← c.self.view_is) (logical-none c.self.inside.files.entries c.self.invariant.2)
