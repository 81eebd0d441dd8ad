use Rattle.std.proofs.Common.{List, [], ◌∷◌, ◌++◌, ap, ◌∙◌, arith}
use Rattle.store_model.specs.MemoryStore.{changes_of}
use Rattle.store_model.specs.declared.past.Change.{Change}
use Rattle.store_model.specs.declared.past.Change.TheVariants.{Shortened}
use Rattle.store_model.proofs.DiskAfter.{cut_push, shortened_seen}
use Rattle.store_model.proofs.memory_store.MemoryStoreStore.cut.Goals as goal

pub returns-clause-cut : goal.returns-clause-cut
returns-clause-cut c =
    let push = c.in_ok-add.ensures.pushed ∙ ap (λ (l : List Change). l ++ Shortened c.args.area c.args.length ∷ []) c.begin.ensures.changes in
    shortened_seen (changes_of c.args.self.now) (changes_of c.add.new.self) c.args.area c.args.length push

pub returns-clause-does : goal.returns-clause-does
returns-clause-does c =
    let push = c.in_ok-add.ensures.pushed ∙ ap (λ (l : List Change). l ++ Shortened c.args.area c.args.length ∷ []) c.begin.ensures.changes in
    cut_push (changes_of c.args.self.now) c.args.self.now.calls.faults c.add.new.self.calls.faults (omega (arith, c.begin.ensures.never_falls, c.add.ensures.never_falls)) (changes_of c.add.new.self) c.args.area c.args.length push
