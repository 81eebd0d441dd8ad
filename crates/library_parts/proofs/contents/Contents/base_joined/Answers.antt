use Rattle.std.proofs.Common.{◌≡◌, ◌<◌, ◌-◌, ℕ, suc, Some, List, arith, ap, length, map, slice_get, subst, sym}
use Rattle.std.proofs.lemmas.List.{length-map}
use Rattle.library_steps.below.dds_logical.specs.declared.join_views.JoinedFile.{JoinedFile}
use Rattle.library_steps.below.dds_logical.specs.declared.views.LogicalSpec.TheVariants.{Join}
use Rattle.library_steps.specs.Bases.{base_members}
use Rattle.library_steps.specs.LogicalFiles.{bases_of}
use Rattle.library_steps.specs.State.{memory_of}
use Rattle.library_parts.proofs.contents.Contents.base_joined.Goals as goal

pub returns-then-place-eq0 : goal.returns-then-place-eq0
returns-then-place-eq0 c =
    let bases = bases_of (memory_of c.args.self.now.state) in
    let first : c.args.place ≡ 0 = omega arith in
    subst (λ (n : ℕ). slice_get (base_members bases (Join c.args.view.now)) n ≡ Some c.base_named.result) (sym first) (ap Some (sym c.base_named.ensures))

pub base_secondary-requires : goal.base_secondary-requires
base_secondary-requires c =
    let files = c.args.view.now.secondaries in
    let within : c.args.place < suc (length (map (λ (joined : JoinedFile). joined.file) files)) = c.requires in
    let long : length (map (λ (joined : JoinedFile). joined.file) files) ≡ length files = length-map files (λ (joined : JoinedFile). joined.file) in
    subst (λ (its : List JoinedFile). c.args.place - 1 < length its) (sym c.as_slice.ensures) (omega (arith, within, long))

pub returns-else-place-eq0 : goal.returns-else-place-eq0
returns-else-place-eq0 c =
    let bases = bases_of (memory_of c.args.self.now.state) in
    let next : c.args.place ≡ suc (c.args.place - 1) = omega arith in
    subst (λ (n : ℕ). slice_get (base_members bases (Join c.args.view.now)) n ≡ Some c.base_secondary.result) (sym next)
    (subst (λ (files : List JoinedFile). slice_get (map (λ (name : List ℕ). (bases name).member) (map (λ (joined : JoinedFile). joined.file) files)) (c.args.place - 1) ≡ Some c.base_secondary.result)
    c.as_slice.ensures c.base_secondary.ensures)
