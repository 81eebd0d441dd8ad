use Rattle.file_cursor.proofs.KeylessLemmas.{keyless}
use Rattle.file_cursor.proofs.laws.entries_without_keys_stand_by_number.Goals as goal

pub returns : goal.returns
returns c = keyless
