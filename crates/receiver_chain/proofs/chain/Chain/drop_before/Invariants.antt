use Rattle.std.proofs.Common.{◌≡◌, ◌≢◌, ℕ, ◌+◌, ◌-◌, ◌≤◌, ◌<◌, []}
use Rattle.store_model.specs.Disk.{Leaves}
use Rattle.receiver_chain.specs.Receivers.{IsCutOf, Kept, area_of, dropped}
use Rattle.receiver_chain.specs.Chain.{Holds, attached_of}
use Rattle.receiver_chain.proofs.chain.Chain.drop_before.Given as goal

abbrev pub invariant-loop-first : goal.invariant-loop-first
invariant-loop-first g l = record {
  first : l.first ≡ l.self.first;
  from : l.fn.self.first ≤ l.first;
  upto : l.first ≤ l.receiver + 1;
  number : attached_of l.self ≡ attached_of l.fn.self;
  attached : l.self.attached ≡ l.fn.self.attached;
  room : l.self.room ≡ l.fn.self.room;
  holds : g.S.Store.tells → (kept : Kept) → Holds l.fn.self kept (g.S.Store.disk l.fn.store) → Holds l.self (dropped (l.first - l.fn.self.first) kept) (g.S.Store.disk l.store);
  cut : g.S.Store.tells → (number : ℕ) → l.fn.self.first ≤ number → number < l.first → (g.S.Store.disk l.store).seen (area_of number) ≡ [];
  others : (area : ℕ) → ((number : ℕ) → l.fn.self.first ≤ number → number < l.first → area ≢ area_of number) → (g.S.Store.disk l.store).seen area ≡ (g.S.Store.disk l.fn.store).seen area;
  moments : Leaves (g.S.Store.disk l.fn.store) (g.S.Store.disk l.store) (IsCutOf (g.S.Store.disk l.fn.store) l.fn.self.first l.first);
}

abbrev pub decreases-loop-first : goal.decreases-loop-first
decreases-loop-first g l = (l.receiver + 1) - l.first
