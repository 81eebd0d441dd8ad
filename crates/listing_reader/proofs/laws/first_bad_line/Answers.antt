use Rattle.std.proofs.Common.{refl, drop, suc}
use Rattle.text_lines.specs.Lines.{lines_of}
use Rattle.listing.specs.HistoryListing.{listing}
use Rattle.listing_reader.specs.FirstBad.{shared_lines}
use Rattle.listing_reader.specs.Lines.{calls_of}
use Rattle.listing_reader.proofs.FirstLemmas.{first-bad}
use Rattle.listing_reader.proofs.laws.first_bad_line.Goals as goal

pub returns : goal.returns
returns c = λ names bytes different small differ. first-bad names (calls_of names (drop 1 (lines_of bytes))) bytes (suc (shared_lines (listing names (calls_of names (drop 1 (lines_of bytes)))) bytes)) different small refl differ refl
