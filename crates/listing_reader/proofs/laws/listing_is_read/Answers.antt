use Rattle.listing_reader.proofs.LineLemmas.{listing-read}
use Rattle.listing_reader.proofs.laws.listing_is_read.Goals as goal

pub returns : goal.returns
returns c = λ names calls different are few. listing-read names calls different are few
