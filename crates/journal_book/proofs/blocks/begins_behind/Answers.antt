use Rattle.std.proofs.Common.{◌≡◌, ◌∙◌, sym, arith}
use Rattle.journal_book.proofs.Taking.{front_behind, if_is}
use Rattle.journal_book.proofs.blocks.begins_behind.Goals as goal

pub returns : goal.returns
returns c = λ found entries is.
    let within = if_is _ _ _ c.in-Some.is c.in_ok-entry.ensures.within in
    front_behind c.args.before _ c.in-Some.entry c.args.block.now entries (λ e rest has front. sym c.in-Some.is ∙ c.in_ok-entry.ensures.only e rest has front) (omega (arith, within.0, within.1)) (c.follows-found.ensures.0 found) is
