use Rattle.std.proofs.Common.{◌≡◌, ◌<◌, length, arith, false-eqb}
use Rattle.std.proofs.lemmas.Bool.Decides.{nat_tests}
use Rattle.statement_reader.proofs.WordLemmas.{found-from, nothing-from}
use Rattle.statement_reader.proofs.words.next_word.Goals as goal

pub returns-then-is_empty : goal.returns-then-is_empty
returns-then-is_empty c =
    let none : length c.unindented-text.result.now ≡ 0 = grind (arith, nat_tests, c.if-is_empty.ensures) in
    nothing-from c.args.text.now c.unindented-text.result.now c.unindented-text.ensures none

pub returns-else-is_empty : goal.returns-else-is_empty
returns-else-is_empty c =
    let some : 0 < length c.unindented-text.result.now = omega (arith, false-eqb (length c.unindented-text.result.now) 0 c.if-is_empty.ensures) in
    found-from c.args.text.now c.unindented-text.result.now c.split_at.result.0.now c.split_at.result.1.now c.piece_length.result
    c.unindented-text.ensures some c.piece_length.ensures.piece c.split_at.ensures.front c.split_at.ensures.back
