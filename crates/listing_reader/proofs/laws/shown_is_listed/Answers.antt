use Rattle.listing_reader.proofs.ShownLemmas.{same-listing}
use Rattle.listing_reader.proofs.laws.shown_is_listed.Goals as goal

pub returns : goal.returns
returns c = λ names calls. same-listing names calls
