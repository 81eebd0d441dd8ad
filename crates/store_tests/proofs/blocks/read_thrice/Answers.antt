use Rattle.std.proofs.Math.Logic.{∥∥₁_map}
use Rattle.journal_book.proofs.Deposits.{stays_holds}
use Rattle.store_tests.proofs.blocks.read_thrice.Goals as goal

pub entries-requires-2 : goal.entries-requires-2
entries-requires-2 g c = record {
  held = λ tells. ∥∥₁_map (c.requires.held tells) (λ has. (has.0, stays_holds c.args.book.now has.0 (g.S.Store.disk c.args.store.now) (g.S.Store.disk c.entries.new.store) c.entries.ensures.stays has.1));
  cached = c.entries.ensures.cached;
}

pub entries-requires-3 : goal.entries-requires-3
entries-requires-3 g c = record {
  held = λ tells. ∥∥₁_map (c.requires.held tells) (λ has. (
    has.0,
    stays_holds c.args.book.now has.0 (g.S.Store.disk c.entries.new.store) (g.S.Store.disk c.entries-2.new.store) c.entries-2.ensures.stays
        (stays_holds c.args.book.now has.0 (g.S.Store.disk c.args.store.now) (g.S.Store.disk c.entries.new.store) c.entries.ensures.stays has.1),
  ));
  cached = c.entries-2.ensures.cached;
}
