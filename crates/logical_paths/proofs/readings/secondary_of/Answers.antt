use Rattle.logical_paths.proofs.PathLemmas.{fields-allowed}
use Rattle.logical_paths.proofs.readings.secondary_of.Goals as goal

pub default_image-requires-clause-allowed : goal.default_image-requires-clause-allowed
default_image-requires-clause-allowed g c = fields-allowed c.fields.result.now c.fields.ensures.laid_out
