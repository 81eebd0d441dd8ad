use Rattle.std.proofs.Common.{◌∙◌, List, refl, sym, ap, subst}
use Rattle.std.specs.List.{AllByRecursion}
use Rattle.library_steps.specs.State.{memory_of}
use Rattle.library_steps.specs.UniqueKeys.{UniquePath}
use Rattle.parts_model.specs.Answers.{MayAllow}
use Rattle.parts_model.specs.NewKeys.{IsKeptOver, new_in_paths, refused_by}
use Rattle.parts_model.specs.Parts.{state_of}
use Rattle.parts_model.proofs.KeyPlanLemmas.{refused-none}
use Rattle.library_parts.proofs.contents.Contents.free_of_file.Goals as goal

pub free_in_path-requires-clause-kept : goal.free_in_path-requires-clause-kept
free_in_path-requires-clause-kept c =
    let inside = c.self.inside in
    let s = state_of inside.catalogue inside.members inside.next_member inside.journal inside.locks inside.jobs in
    let is = (rw c.in-Some.is at c.in_ok-path.ensures) (memory_of s) c.args.name refl in
    let kept = rw (← c.self.view_is) at c.requires.kept in
    rw (← c.self.view_is) (subst (λ (us : List UniquePath). AllByRecursion (IsKeptOver c.args.new.member inside.paths.paths) us) is kept).0

pub returns-in-Some : goal.returns-in-Some
returns-in-Some c =
    let new = c.args.new in
    let inside = c.self.inside in
    let s = state_of inside.catalogue inside.members inside.next_member inside.journal inside.locks inside.jobs in
    let is = (rw c.in-Some.is at c.in_ok-path.ensures) (memory_of s) c.args.name refl in
    rw (← c.self.view_is)
    (subst (λ (us : List UniquePath). MayAllow c.free_in_path.result
    (refused_by c.args.test new.job new.commit new.rrn (new_in_paths us (memory_of s) new.member new.rrn new.image.now) (memory_of s))) (sym is)
    (rw (← c.self.view_is) at c.free_in_path.ensures))

pub returns-in-None : goal.returns-in-None
returns-in-None c =
    let new = c.args.new in
    let inside = c.self.inside in
    let s = state_of inside.catalogue inside.members inside.next_member inside.journal inside.locks inside.jobs in
    let is = (rw c.in-None.is at c.in_ok-path.ensures) (memory_of s) c.args.name refl in
    rw (← c.self.view_is)
    (ap (λ (us : List UniquePath). refused_by c.args.test new.job new.commit new.rrn (new_in_paths us (memory_of s) new.member new.rrn new.image.now) (memory_of s)) is
    ∙ refused-none c.args.test new.job new.commit new.rrn (memory_of s))
