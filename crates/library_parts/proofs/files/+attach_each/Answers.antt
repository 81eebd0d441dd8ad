use Rattle.std.proofs.Common.{◌≡◌, ◌∙◌, ◌++◌, [], ◌∷◌, List, Option, Result, Ok, Err, OnErr, rules, ap, sym, subst}
use Rattle.std.specs.Prelude.{All}
use Rattle.std.specs.Option.{option_to_list}
use Rattle.file_model.specs.declared.paths.PathSpec.{PathSpec}
use Rattle.parts_model.specs.Sharing.{CanBeKept}
use Rattle.parts_model.specs.PathChanges.{Attaches, AttachesNone}
use Rattle.parts_model.proofs.ManyAttached.{all-front, all-last, attaches-last, attaches-none, undone-last, undone-none}
use Rattle.parts_model.proofs.AttachLemmas.{none-listed}
use Rattle.library_parts.proofs.files.+attach_each.Goals as goal

on-err : {T E : Type 0} (r : Result T E) (P : Type 0) → P → OnErr r P
on-err (Ok x) P p = tt
on-err (Err e) P p = p

pub returns-in-None-clause-attached : goal.returns-in-None-clause-attached
returns-in-None-clause-attached t c =
    attaches-none c.args.specs.now.items c.args.members.now.members c.args.paths.now (none-listed c.args.specs.now.items (sym c.args.specs.now.ok.0 ∙ (rw c.in-None.is at c.pop.ensures.cases).0))

pub restore-requires : goal.restore-requires
restore-requires t c =
    let split : c.args.specs.now.items ≡ c.pop.new.self.items ++ c.in-Some.spec ∷ [] = c.pop.ensures.items ∙ ap (λ (o : Option PathSpec). c.pop.new.self.items ++ option_to_list o) c.in-Some.is in
    all-last (λ (spec : PathSpec). CanBeKept spec c.args.members.now.members) c.pop.new.self.items c.in-Some.spec
    (subst (λ (specs : List PathSpec). All (λ (spec : PathSpec). CanBeKept spec c.args.members.now.members) specs) split c.requires)

pub attach_each-requires : goal.attach_each-requires
attach_each-requires t c =
    let split : c.args.specs.now.items ≡ c.pop.new.self.items ++ c.in-Some.spec ∷ [] = c.pop.ensures.items ∙ ap (λ (o : Option PathSpec). c.pop.new.self.items ++ option_to_list o) c.in-Some.is in (
      search rules,
      all-front (λ (spec : PathSpec). CanBeKept spec c.args.members.now.members) c.pop.new.self.items c.in-Some.spec
          (subst (λ (specs : List PathSpec). All (λ (spec : PathSpec). CanBeKept spec c.args.members.now.members) specs) split c.requires),
    )

pub returns-in_err-id-in-Some-clause-refused : goal.returns-in_err-id-in-Some-clause-refused
returns-in_err-id-in-Some-clause-refused t c =
    on-err c.from_residual.result _ (undone-none c.args.specs.now.items c.args.members.now.members c.args.paths.now c.restore.new.self c.in_err-id-in-Some.ensures.refused)

pub returns-in-Ok-clause-attached : goal.returns-in-Ok-clause-attached
returns-in-Ok-clause-attached t c =
    let split : c.args.specs.now.items ≡ c.pop.new.self.items ++ c.in-Some.spec ∷ [] = c.pop.ensures.items ∙ ap (λ (o : Option PathSpec). c.pop.new.self.items ++ option_to_list o) c.in-Some.is in
    subst (λ (specs : List PathSpec). Attaches specs c.args.members.now.members c.args.paths.now c.attach_each.new.paths) (sym split)
    (attaches-last c.args.members.now.members c.pop.new.self.items c.in-Some.spec c.in_ok-id-in-Some.id c.args.paths.now c.restore.new.self c.in_ok-id-in-Some.ensures.attached c.restore.ensures.rooms
    c.attach_each.new.paths c.in-Ok.ensures.attached)

pub returns-in-Err-clause-refused : goal.returns-in-Err-clause-refused
returns-in-Err-clause-refused t c =
    let split : c.args.specs.now.items ≡ c.pop.new.self.items ++ c.in-Some.spec ∷ [] = c.pop.ensures.items ∙ ap (λ (o : Option PathSpec). c.pop.new.self.items ++ option_to_list o) c.in-Some.is in
    subst (λ (specs : List PathSpec). AttachesNone specs c.args.members.now.members c.args.paths.now c.detach.new.self) (sym split)
    (undone-last c.args.members.now.members c.pop.new.self.items c.in-Some.spec c.in_ok-id-in-Some.id c.args.paths.now c.restore.new.self c.in_ok-id-in-Some.ensures.attached c.restore.ensures.rooms
    c.attach_each.new.paths c.detach.new.self c.in-Err.ensures.refused c.detach.ensures.paths c.detach.ensures.rooms)
