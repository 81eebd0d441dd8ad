use Rattle.named_bases.proofs.ReferLemmas.{refers-named}
use Rattle.named_bases.proofs.laws.sources_refer_to_what_they_name.Goals as goal

pub returns : goal.returns
returns c = refers-named
