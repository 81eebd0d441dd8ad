use Rattle.listing_reader.proofs.LineLemmas.{same-shown}
use Rattle.listing_reader.proofs.laws.listings_differ.Goals as goal

pub returns : goal.returns
returns c = λ names calls others different are those few many same. same-shown names calls others different are those few many same
