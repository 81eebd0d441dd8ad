use Rattle.std.proofs.Common.{List, [], ◌∷◌, ◌++◌, ap, ◌∙◌, arith}
use Rattle.store_model.specs.MemoryStore.{changes_of}
use Rattle.store_model.specs.declared.past.Change.{Change}
use Rattle.store_model.specs.declared.past.Change.TheVariants.{Synced}
use Rattle.store_model.proofs.DiskAfter.{sync_push, sync_durable}
use Rattle.store_model.proofs.memory_store.MemoryStoreStore.sync.Goals as goal

pub returns-clause-durable : goal.returns-clause-durable
returns-clause-durable c =
    let push = c.in_ok-add.ensures.pushed ∙ ap (λ (l : List Change). l ++ Synced c.args.area ∷ []) c.begin.ensures.changes in
    sync_durable (changes_of c.args.self.now) c.args.self.now.calls.faults c.add.new.self.calls.faults (omega (arith, c.begin.ensures.never_falls, c.add.ensures.never_falls)) (changes_of c.add.new.self) c.args.area push

pub returns-clause-stays : goal.returns-clause-stays
returns-clause-stays c =
    let push = c.in_ok-add.ensures.pushed ∙ ap (λ (l : List Change). l ++ Synced c.args.area ∷ []) c.begin.ensures.changes in
    sync_push (changes_of c.args.self.now) c.args.self.now.calls.faults c.add.new.self.calls.faults (omega (arith, c.begin.ensures.never_falls, c.add.ensures.never_falls)) (changes_of c.add.new.self) c.args.area push
