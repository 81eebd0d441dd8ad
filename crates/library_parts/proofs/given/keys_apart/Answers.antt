use Rattle.parts_model.proofs.ApartLemmas.{all-apart}
use Rattle.library_parts.proofs.given.keys_apart.Goals as goal

pub returns-else-has_repeated : goal.returns-else-has_repeated
returns-else-has_repeated c = all-apart c.args.catalogue.now.files c.args.paths.now.paths c.args.member (c.has_repeated.ensures c.if-has_repeated.false)
