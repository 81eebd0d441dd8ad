use Rattle.std.proofs.Common.{◌≡◌, ◌∙◌, ◌++◌, ◌∷◌, [], ℕ, List, Option, Result, refl, sym, ap, subst}
use Rattle.std.specs.Prelude.{All}
use Rattle.std.proofs.lemmas.Result.{err_from_is_err_and}
use Rattle.library_steps.below.dds_logical.specs.declared.views.LogicalSpec.{LogicalSpec}
use Rattle.file_model.specs.declared.paths.PathSpec.{PathSpec}
use Rattle.parts_model.specs.Repeated.{TellsRepeated}
use Rattle.parts_model.specs.Sharing.{CanBeKept}
use Rattle.parts_model.specs.KeyedViews.{HaveFewPairs}
use Rattle.parts_model.specs.Steps.{own_path}
use Rattle.file_model.specs.Paths.{repeated_in}
use Rattle.library_steps.specs.Bases.{LogicalFile}
use Rattle.library_steps.specs.FilePaths.{logical_paths}
use Rattle.library_model.specs.declared.replies.Reply.TheVariants.{DuplicateKey}
use Rattle.library_steps.specs.CreateLogicalFile.{first_repeated}
use Rattle.library_steps.specs.LogicalFiles.{bases_in, bases_of}
use Rattle.library_steps.specs.Refusals.{refuse_with}
use Rattle.library_steps.specs.State.{memory_of}
use Rattle.parts_model.specs.declared.stop.Stop.{Stop}
use Rattle.parts_model.specs.Answers.{MayAllow}
use Rattle.parts_model.specs.Indexed.{rows_paths}
use Rattle.parts_model.specs.Parts.{LibraryParts, state_of}
use Rattle.parts_model.specs.PathChanges.{Attaches, AttachesNone}
use Rattle.lawful_states.proofs.FileLemmas.{AreOne-with_logical}
use Rattle.parts_model.proofs.IndexFiles.{described-over, distinct-none, rows-can, view-can, view-repeated, view-tells, IsIndexed-with_view, IsIndexed-without_paths}
use Rattle.parts_model.proofs.IndexLooks.{records-of}
use Rattle.library_parts.proofs.contents.Contents.add_view.Goals as goal

pub attach_view-requires-clause-kept : goal.attach_view-requires-clause-kept
attach_view-requires-clause-kept c =
    let parts = c.self.inside in
    let state = state_of parts.catalogue parts.members parts.next_member parts.journal parts.locks parts.jobs in
    let new = rw (← c.self.view_is) at c.requires.new in
    let few : HaveFewPairs c.args.view.spec = subst HaveFewPairs c.spec-spec.ensures c.in_ok-has_few_pairs.ensures in
    let its = described-over (memory_of state) c.args.view.source c.args.view.spec c.len-len.ensures.keyed few new.described in
    let path : c.in_ok-path.path ≡ own_path (bases_in parts.catalogue.files) c.args.view.spec =
    (rw (← c.self.view_is) at c.in_ok-path.ensures) ∙ ap (own_path (bases_in parts.catalogue.files)) c.spec-spec.ensures in
    subst (λ (p : PathSpec). CanBeKept p parts.members.members) (sym path)
    (view-can state c.self.invariant.0.lawful
    (λ name file number owns. records-of state name file number parts.jobs.orders parts.jobs.moves parts.paths c.self.invariant.0.lawful c.at-none.ensures.lawful c.self.invariant.2 owns)
    c.args.view.spec its)

pub attach_view-requires-clause-tells : goal.attach_view-requires-clause-tells
attach_view-requires-clause-tells c =
    let parts = c.self.inside in
    let state = state_of parts.catalogue parts.members parts.next_member parts.journal parts.locks parts.jobs in
    let new = rw (← c.self.view_is) at c.requires.new in
    let few : HaveFewPairs c.args.view.spec = subst HaveFewPairs c.spec-spec.ensures c.in_ok-has_few_pairs.ensures in
    let its = described-over (memory_of state) c.args.view.source c.args.view.spec c.len-len.ensures.keyed few new.described in
    let path : c.in_ok-path.path ≡ own_path (bases_in parts.catalogue.files) c.args.view.spec =
    (rw (← c.self.view_is) at c.in_ok-path.ensures) ∙ ap (own_path (bases_in parts.catalogue.files)) c.spec-spec.ensures in
    subst (λ (p : PathSpec). TellsRepeated p parts.members.members) (sym path)
    (view-tells state c.self.invariant.0.lawful
    (λ name file number owns. records-of state name file number parts.jobs.orders parts.jobs.moves parts.paths c.self.invariant.0.lawful c.at-none.ensures.lawful c.self.invariant.2 owns)
    c.args.view.spec its)

pub attach_view-requires-clause-others : goal.attach_view-requires-clause-others
attach_view-requires-clause-others c =
    let parts = c.self.inside in
    let state = state_of parts.catalogue parts.members parts.next_member parts.journal parts.locks parts.jobs in
    let new = rw (← c.self.view_is) at c.requires.new in
    let few : HaveFewPairs c.args.view.spec = subst HaveFewPairs c.spec-spec.ensures c.in_ok-has_few_pairs.ensures in
    let its = described-over (memory_of state) c.args.view.source c.args.view.spec c.len-len.ensures.keyed few new.described in
    let others : c.in_ok-others.others.items ≡ rows_paths (bases_in parts.catalogue.files) (LogicalFile c.args.view.spec) =
    (subst (λ (p : LibraryParts). c.in_ok-others.others.items ≡ rows_paths (bases_in p.state.files) (LogicalFile c.spec-spec.result.now)) (sym c.self.view_is) c.in_ok-others.ensures) ∙ ap (λ (spec : LogicalSpec). rows_paths (bases_in parts.catalogue.files) (LogicalFile spec)) c.spec-spec.ensures in
    subst (λ (ps : List PathSpec). All (λ (p : PathSpec). CanBeKept p parts.members.members) ps) (sym others)
    (rows-can state c.self.invariant.0.lawful
    (λ name file number owns. records-of state name file number parts.jobs.orders parts.jobs.moves parts.paths c.self.invariant.0.lawful c.at-none.ensures.lawful c.self.invariant.2 owns)
    c.args.view.spec its)

pub add-requires-clause-apart : goal.add-requires-clause-apart
add-requires-clause-apart c = rw c.over-file.ensures distinct-none

pub returns-in_err-attach_view-clause-apart : goal.returns-in_err-attach_view-clause-apart
returns-in_err-attach_view-clause-apart c =
    let parts = c.self.inside in
    let state = state_of parts.catalogue parts.members parts.next_member parts.journal parts.locks parts.jobs in
    let path : c.in_ok-path.path ≡ own_path (bases_in parts.catalogue.files) c.args.view.spec =
    (rw (← c.self.view_is) at c.in_ok-path.ensures) ∙ ap (own_path (bases_in parts.catalogue.files)) c.spec-spec.ensures in
    let repeated : first_repeated (logical_paths (bases_of (memory_of state)) c.args.view.spec) (memory_of state) ≡ repeated_in c.in_ok-path.path parts.members.members =
    view-repeated (memory_of state) c.args.view.spec ∙ ap (λ (p : PathSpec). repeated_in p parts.members.members) (sym path) in
    let p = err_from_is_err_and c.from_residual-in_err-attach_view.result c.from_residual-in_err-attach_view.ensures.1 in
    let same : c.from_residual-in_err-attach_view.result ≡ c.attach_view.result = let first = p.1 in let told = p.2 in let was = c.in_err-attach_view.was in cc in
    rw (← c.self.view_is)
    (subst (λ (r : Result (Unit {0}) Stop). MayAllow r (refuse_with (DuplicateKey c.args.name) (first_repeated (logical_paths (bases_of (memory_of state)) c.args.view.spec) (memory_of state)))) (sym same)
    (subst (λ (o : Option ℕ). MayAllow c.attach_view.result (refuse_with (DuplicateKey c.args.name) o)) (sym repeated) c.attach_view.ensures.apart))

pub returns-clause-apart : goal.returns-clause-apart
returns-clause-apart c =
    let parts = c.self.inside in
    let state = state_of parts.catalogue parts.members parts.next_member parts.journal parts.locks parts.jobs in
    let path : c.in_ok-path.path ≡ own_path (bases_in parts.catalogue.files) c.args.view.spec =
    (rw (← c.self.view_is) at c.in_ok-path.ensures) ∙ ap (own_path (bases_in parts.catalogue.files)) c.spec-spec.ensures in
    let repeated : first_repeated (logical_paths (bases_of (memory_of state)) c.args.view.spec) (memory_of state) ≡ repeated_in c.in_ok-path.path parts.members.members =
    view-repeated (memory_of state) c.args.view.spec ∙ ap (λ (p : PathSpec). repeated_in p parts.members.members) (sym path) in
    rw (← c.self.view_is) (ap (refuse_with (DuplicateKey c.args.name)) repeated ∙ c.in_ok-attach_view.ensures.apart)

pub invariant_of-self : goal.invariant_of-self
invariant_of-self c =
    let parts = c.self.inside in
    let state = state_of parts.catalogue parts.members parts.next_member parts.journal parts.locks parts.jobs in
    let new = rw (← c.self.view_is) at c.requires.new in
    let few : HaveFewPairs c.args.view.spec = subst HaveFewPairs c.spec-spec.ensures c.in_ok-has_few_pairs.ensures in
    let its = described-over (memory_of state) c.args.view.source c.args.view.spec c.len-len.ensures.keyed few new.described in
    let path : c.in_ok-path.path ≡ own_path (bases_in parts.catalogue.files) c.args.view.spec =
    (rw (← c.self.view_is) at c.in_ok-path.ensures) ∙ ap (own_path (bases_in parts.catalogue.files)) c.spec-spec.ensures in
    let others : c.in_ok-others.others.items ≡ rows_paths (bases_in parts.catalogue.files) (LogicalFile c.args.view.spec) =
    (subst (λ (p : LibraryParts). c.in_ok-others.others.items ≡ rows_paths (bases_in p.state.files) (LogicalFile c.spec-spec.result.now)) (sym c.self.view_is) c.in_ok-others.ensures) ∙ ap (λ (spec : LogicalSpec). rows_paths (bases_in parts.catalogue.files) (LogicalFile spec)) c.spec-spec.ensures in
    let none = subst (λ (p : PathSpec). AttachesNone (rows_paths (bases_in parts.catalogue.files) (LogicalFile c.args.view.spec) ++ p ∷ []) parts.members.members parts.paths c.attach_view.new.paths) path
    (subst (λ (ps : List PathSpec). AttachesNone (ps ++ c.in_ok-path.path ∷ []) parts.members.members parts.paths c.attach_view.new.paths) others c.in_err-attach_view.ensures.refused) in (
      c.self.invariant.0,
      c.self.invariant.1,
      IsIndexed-without_paths state parts.jobs.orders parts.jobs.moves c.self.invariant.0.lawful c.len-len.ensures.unique c.args.name c.args.view its new.unchanged parts.paths
          c.attach_view.new.paths c.kept-kept.ensures.shared none c.self.invariant.2,
    )

pub invariant_of-self-2 : goal.invariant_of-self-2
invariant_of-self-2 c =
    let parts = c.self.inside in
    let state = state_of parts.catalogue parts.members parts.next_member parts.journal parts.locks parts.jobs in
    let new = rw (← c.self.view_is) at c.requires.new in
    let few : HaveFewPairs c.args.view.spec = subst HaveFewPairs c.spec-spec.ensures c.in_ok-has_few_pairs.ensures in
    let its = described-over (memory_of state) c.args.view.source c.args.view.spec c.len-len.ensures.keyed few new.described in
    let path : c.in_ok-path.path ≡ own_path (bases_in parts.catalogue.files) c.args.view.spec =
    (rw (← c.self.view_is) at c.in_ok-path.ensures) ∙ ap (own_path (bases_in parts.catalogue.files)) c.spec-spec.ensures in
    let others : c.in_ok-others.others.items ≡ rows_paths (bases_in parts.catalogue.files) (LogicalFile c.args.view.spec) =
    (subst (λ (p : LibraryParts). c.in_ok-others.others.items ≡ rows_paths (bases_in p.state.files) (LogicalFile c.spec-spec.result.now)) (sym c.self.view_is) c.in_ok-others.ensures) ∙ ap (λ (spec : LogicalSpec). rows_paths (bases_in parts.catalogue.files) (LogicalFile spec)) c.spec-spec.ensures in
    let attached = subst (λ (p : PathSpec). Attaches (rows_paths (bases_in parts.catalogue.files) (LogicalFile c.args.view.spec) ++ p ∷ []) parts.members.members parts.paths c.attach_view.new.paths) path
    (subst (λ (ps : List PathSpec). Attaches (ps ++ c.in_ok-path.path ∷ []) parts.members.members parts.paths c.attach_view.new.paths) others c.in_ok-attach_view.ensures.attached) in
    rw (c.add.ensures, c.over-file.ensures) (
      AreOne-with_logical state _ c.args.name _ c.self.invariant.0 its.over refl,
      c.self.invariant.1,
      IsIndexed-with_view state parts.jobs.orders parts.jobs.moves c.self.invariant.0.lawful c.len-len.ensures.unique c.args.name c.args.view its new.unchanged parts.paths
          c.attach_view.new.paths c.kept-kept.ensures.shared attached c.self.invariant.2,
    )
