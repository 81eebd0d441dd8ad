use Rattle.file_cursor.proofs.RoomLemmas.{keys-fit}
use Rattle.file_cursor.proofs.laws.found_keys_fit.Goals as goal

pub returns : goal.returns
returns c = keys-fit
