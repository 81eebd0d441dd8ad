use Rattle.std.proofs.Common.{rules}
use Rattle.std.proofs.lemmas.Fn.{filter_same}
use Rattle.journal_book.specs.Reads.{is_between}
use Rattle.journal_book.proofs.blocks.keep_between.Goals as goal

pub returns : goal.returns
returns c = filter_same _ (is_between c.args.range.lo c.args.range.hi) _ (λ x b f' k. search rules) _ _ c.retain.ensures.filtered
