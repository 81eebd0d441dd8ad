use Rattle.std.proofs.Common.{refl, drop}
use Rattle.text_lines.specs.Lines.{lines_of}
use Rattle.listing_reader.specs.Lines.{calls_of}
use Rattle.listing_reader.proofs.LineLemmas.{read-again}
use Rattle.listing_reader.proofs.laws.listing_is_known.Goals as goal

pub returns : goal.returns
returns c = λ names calls bytes different are small text. read-again names calls (calls_of names (drop 1 (lines_of bytes))) bytes different are small text refl
