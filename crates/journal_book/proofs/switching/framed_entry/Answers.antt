use Rattle.std.proofs.Common.{ℕ, ◌+◌, List, ◌++◌, length, drop, ap, ◌∙◌, arith, length-append}
use Rattle.gated_log.specs.Blocks.{frame}
use Rattle.entry_codec.specs.Spelling.{spelling}
use Rattle.journal_book.proofs.Attaching.{tie_length}
use Rattle.journal_book.proofs.Deposits.{put_behind}
use Rattle.journal_book.proofs.switching.framed_entry.Goals as goal

pub close-requires-clause-long : goal.close-requires-clause-long
close-requires-clause-long c =
    omega (arith, ap (λ (l : List ℕ). length l) c.reserve.ensures.items, ap (λ (l : List ℕ). length l) c.in_ok-write_entry.ensures.written, length-append c.in_ok-block.block.items (spelling c.args.entry.now), c.in_ok-block.ensures.long)

pub close-requires-clause-small : goal.close-requires-clause-small
close-requires-clause-small c =
    let bytes = spelling c.args.entry.now in
    let whole = ap (λ (l : List ℕ). drop 4 l) (c.reserve.ensures.items ∙ c.in_ok-write_entry.ensures.written) ∙ put_behind c.in_ok-block.block.items bytes c.in_ok-block.ensures.long ∙ ap (λ (l : List ℕ). l ++ bytes) c.in_ok-block.ensures.none in
    omega (arith, ap (λ (l : List ℕ). length l) whole, tie_length c.args.entry.now c.requires.tie.0 c.requires.tie.1)

pub returns-clause-framed : goal.returns-clause-framed
returns-clause-framed c =
    let bytes = spelling c.args.entry.now in
    let whole = ap (λ (l : List ℕ). drop 4 l) (c.reserve.ensures.items ∙ c.in_ok-write_entry.ensures.written) ∙ put_behind c.in_ok-block.block.items bytes c.in_ok-block.ensures.long ∙ ap (λ (l : List ℕ). l ++ bytes) c.in_ok-block.ensures.none in
    c.close.ensures.framed ∙ ap (λ (l : List ℕ). frame l) whole
