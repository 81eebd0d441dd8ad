use Rattle.physical_paths.proofs.RecordLemmas.{image-taken, path-kept, path-bytes, keys-within}
use Rattle.physical_paths.proofs.laws.records_stand_in_paths.Goals as goal

pub returns-clause-image : goal.returns-clause-image
returns-clause-image c = image-taken

pub returns-clause-kept : goal.returns-clause-kept
returns-clause-kept c = path-kept

pub returns-clause-bytes : goal.returns-clause-bytes
returns-clause-bytes c = path-bytes

pub returns-clause-within : goal.returns-clause-within
returns-clause-within c = keys-within
