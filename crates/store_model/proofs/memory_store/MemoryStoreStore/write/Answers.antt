use Rattle.std.proofs.Common.{ℕ, List, [], ◌∷◌, ◌++◌, ap, ◌∙◌, arith}
use Rattle.store_model.specs.Disk.{written}
use Rattle.store_model.specs.Past.{blank, seen_after}
use Rattle.store_model.specs.MemoryStore.{changes_of}
use Rattle.store_model.specs.declared.past.Change.{Change}
use Rattle.store_model.specs.declared.past.Change.TheVariants.{Wrote}
use Rattle.store_model.proofs.DiskAfter.{torn_push, wrote_seen}
use Rattle.store_model.proofs.memory_store.MemoryStoreStore.write.Goals as goal

pub returns-clause-written : goal.returns-clause-written
returns-clause-written c =
    let push = c.in_ok-add.ensures.pushed ∙ ap (λ (l : List Change). l ++ Wrote c.args.area c.args.at c.in-Ok.copy ∷ []) c.begin.ensures.changes in
    wrote_seen (changes_of c.args.self.now) (changes_of c.add.new.self) c.args.area c.args.at c.in-Ok.copy push
    ∙ ap (λ (l : List ℕ). written c.args.at l (seen_after blank (changes_of c.args.self.now) c.args.area)) c.in-Ok.ensures.items

pub returns-clause-does : goal.returns-clause-does
returns-clause-does c =
    let push = c.in_ok-add.ensures.pushed ∙ ap (λ (l : List Change). l ++ Wrote c.args.area c.args.at c.in-Ok.copy ∷ []) c.begin.ensures.changes in
    rw c.in-Ok.ensures.items at (torn_push (changes_of c.args.self.now) c.args.self.now.calls.faults c.add.new.self.calls.faults (omega (arith, c.begin.ensures.never_falls, c.add.ensures.never_falls)) (changes_of c.add.new.self) c.args.area c.args.at c.in-Ok.copy push)
