use Rattle.std.proofs.Common.{List, sym, subst}
use Rattle.entry_codec.specs.declared.entries.Entry.{Entry}
use Rattle.block_cache.specs.Cached.{AreStretches}
use Rattle.store_tests.proofs.blocks.read_over.Goals as goal

pub read_thrice-requires : goal.read_thrice-requires
read_thrice-requires g c = record {
  held = λ tells. ∣ c.in_ok-book.ensures.opened tells ∣₁;
  cached = λ tells all holds. subst (λ (l : List (List Entry)). AreStretches c.in_ok-book.book.first all l) (sym c.in_ok-cache.ensures) tt;
}
