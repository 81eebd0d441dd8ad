use Rattle.std.proofs.Common.{◌≡◌, ◌≤◌, ◌-◌, ℕ, List}
use Rattle.store_model.specs.Disk.{Stays}
use Rattle.entry_codec.specs.declared.entries.Entry.{Entry}
use Rattle.journal_book.specs.Book.{Holds}
use Rattle.block_cache.specs.Cached.{HasSequence, IsKept}
use Rattle.block_cache.specs.Walks.{IsTakenUpTo, StayOf}
use Rattle.block_cache.proofs.cache.BlockCache.take_forced.Given as goal

abbrev pub invariant-loop-alloc : goal.invariant-loop-alloc
invariant-loop-alloc g l = record {
  stays : Stays (g.S.Store.disk l.fn.store) (g.S.Store.disk l.store);
  taken : IsTakenUpTo g.S.Store.tells (λ (all : List Entry). Holds l.book all (g.S.Store.disk l.fn.store)) l.book.first l.fn.self l.self l.lo l.hi l.fn.found.items l.found.items l.reached;
  cached : StayOf g.S.Store.tells (λ (all : List Entry). Holds l.book all (g.S.Store.disk l.fn.store)) l.book.first l.fn.self l.self;
  untouched : ((n : ℕ) → l.lo ≤ n → n ≤ l.hi → IsKept l.fn.self l.book n) → l.store ≡ l.fn.store;
  keep : ((n : ℕ) → l.lo ≤ n → n ≤ l.hi → IsKept l.fn.self l.book n) → (n : ℕ) → HasSequence l.fn.self n → HasSequence l.self n;
}

abbrev pub decreases-loop-alloc : goal.decreases-loop-alloc
decreases-loop-alloc g l = l.hi - l.reached
