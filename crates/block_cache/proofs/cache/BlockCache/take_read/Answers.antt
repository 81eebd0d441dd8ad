use Rattle.std.proofs.Common.{◌≡◌, inl, inr, Err, ap}
use Rattle.std.proofs.lemmas.Result.{err_from_is_err_and}
use Rattle.journal_book.specs.declared.fault.BookFault.{BookFault}
use Rattle.journal_book.specs.declared.fault.BookFault.TheVariants.{BlockChanged}
use Rattle.block_cache.proofs.cache.BlockCache.take_read.Goals as goal

pub returns-in_err-block-clause-whole : goal.returns-in_err-block-clause-whole
returns-in_err-block-clause-whole g c = λ sequence area at is tells.
    let p = err_from_is_err_and c.from_residual.result c.from_residual.ensures.1 in
    let same : c.in_err-block.field-0.0 ≡ BlockChanged sequence area at = cc (p.1, p.2, is) in
    c.in_err-block.ensures.whole sequence area at (ap (λ (e : BookFault). Err e) same) tells

pub copy-requires-clause-has : goal.copy-requires-clause-has
copy-requires-clause-has g c = c.in_ok-block.ensures.has c.args.lo c.block_of-bounds.ensures.first c.block_of-bounds.ensures.last

pub returns-in_err-keep-clause-cached : goal.returns-in_err-keep-clause-cached
returns-in_err-keep-clause-cached g c = λ tells all holds are. c.keep.ensures.cached c.args.book.now.first all are (c.in_ok-block.ensures.there tells all holds)

pub returns-clause-taken : goal.returns-clause-taken
returns-clause-taken g c =
    let told = c.in_ok-reached.ensures in
    record {
      from = told.from;
      upto = told.upto;
      stands = elim (c.in_ok-keep.ensures.stands c.in_ok-reached.reached told.has) [
        | inl has ↦ inl has
        | inr long ↦ inr (record { block = c.in_ok-block.block; has = told.has; long = long; there = c.in_ok-block.ensures.there })
      ];
      taken = λ tells all holds are. told.copied c.args.book.now.first all (c.in_ok-block.ensures.there tells all holds);
    }

pub returns-clause-cached : goal.returns-clause-cached
returns-clause-cached g c = λ tells all holds are. c.keep.ensures.cached c.args.book.now.first all are (c.in_ok-block.ensures.there tells all holds)
