use Rattle.std.proofs.Common.{◌∙◌, ◌<◌, arith}
use Rattle.ebc_text.proofs.TableLemmas.{character-at}
use Rattle.ebc_text.proofs.to_ascii.Goals as goal

pub returns : goal.returns
returns c =
    let byte : c.args.b < 256 = omega arith in
    (rw c.from.ensures at c.entry.ensures) ∙ character-at c.args.b byte
