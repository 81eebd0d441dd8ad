use Rattle.logical_paths.proofs.ViewLemmas.{images-taken, paths-kept, paths-bytes, keys-short}
use Rattle.logical_paths.proofs.laws.records_stand_in_views.Goals as goal

pub returns-clause-image : goal.returns-clause-image
returns-clause-image c = images-taken

pub returns-clause-kept : goal.returns-clause-kept
returns-clause-kept c = paths-kept

pub returns-clause-bytes : goal.returns-clause-bytes
returns-clause-bytes c = paths-bytes

pub returns-clause-within : goal.returns-clause-within
returns-clause-within c = keys-short
