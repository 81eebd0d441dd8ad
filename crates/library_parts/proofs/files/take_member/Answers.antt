use Rattle.lawful_states.proofs.DeleteLemmas.{bytes-without}
use Rattle.library_parts.proofs.files.take_member.Goals as goal

pub returns-clause-bytes : goal.returns-clause-bytes
returns-clause-bytes c = rw (c.take-taken.ensures.gone, c.weight-bytes.ensures.value) (bytes-without c.args.number c.args.members.now.members c.weight-bytes.ensures.lawful)
