use Rattle.field_laws.proofs.OneImageLemmas.{written-only}
use Rattle.field_laws.proofs.one_written_image.Goals as goal

pub returns : goal.returns
returns c = written-only
