use Rattle.keys_kept.proofs.StepLemmas.{keys-kept}
use Rattle.keys_kept.proofs.keys_are_kept.Goals as goal

pub returns : goal.returns
returns c = keys-kept c.library_is_kept.ensures.library
