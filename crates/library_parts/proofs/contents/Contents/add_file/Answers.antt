use Rattle.std.proofs.Common.{◌≡◌, ◌∙◌, Some, sym, ap, subst}
use Rattle.std.specs.Option.{option_copied, option_map}
use Rattle.record_fmt.specs.Layout.{record_length}
use Rattle.library_steps.specs.Bases.{FileSpec, PhysicalFile}
use Rattle.lawful_states.specs.Physical.{IsPhysical}
use Rattle.library_steps.specs.State.{fields_of, format_in, physical_in}
use Rattle.parts_model.specs.Parts.{state_of}
use Rattle.lawful_states.proofs.FileLemmas.{AreOne-with_file, based-physical, next-unowned, distinct-one}
use Rattle.parts_model.proofs.IndexFiles.{next-none, physical-is, IsIndexed-with_file}
use Rattle.parts_model.proofs.ResultLemmas.{on_ok}
use Rattle.library_parts.proofs.contents.Contents.add_file.Goals as goal

pub attach_path-requires : goal.attach_path-requires
attach_path-requires c =
    let parts = c.self.inside in
    next-none (state_of parts.catalogue parts.members parts.next_member parts.journal parts.locks parts.jobs) c.self.invariant.0.lawful

pub add-requires-clause-fresh : goal.add-requires-clause-fresh
add-requires-clause-fresh c =
    let parts = c.self.inside in
    let state = state_of parts.catalogue parts.members parts.next_member parts.journal parts.locks parts.jobs in
    rw (rw (← c.self.view_is) at c.requires.new.first) (next-unowned state c.self.invariant.0.lawful c.len-len.ensures.unique, tt)

pub add-requires-clause-apart : goal.add-requires-clause-apart
add-requires-clause-apart c = rw c.requires.new.first (distinct-one c.args.self.now.state.next_member)

pub invariant_of-self : goal.invariant_of-self
invariant_of-self c = rw c.in_err-attach_path.ensures.refused c.self.invariant

pub invariant_of-self-2 : goal.invariant_of-self-2
invariant_of-self-2 c =
    let parts = c.self.inside in
    let state = state_of parts.catalogue parts.members parts.next_member parts.journal parts.locks parts.jobs in
    let first = rw (← c.self.view_is) at c.requires.new.first in
    let its = c.unwrap-described.result.now.spec in
    let found : physical_in c.args.file.spec ≡ Some its = sym c.physical.ensures ∙ ap (λ o. option_map (λ d. d.spec) (option_copied o)) c.unwrap-described.ensures in
    let is : c.args.file.spec ≡ PhysicalFile its = physical-is c.args.file.spec its found in
    let long : record_length its.format.fields ≡ record_length (fields_of c.args.file) = ap (λ (f : FileSpec). record_length (format_in f).fields) (sym is) in
    rw (c.add.ensures, on_ok c.put.result c.unwrap.result c.unwrap.ensures c.put.ensures.put, c.new-empty.ensures, c.length.ensures, c.format.ensures.format, long) (
      AreOne-with_file _ _ c.args.name c.args.name c.args.file c.self.invariant.0 (based-physical _ c.args.name c.args.file _ (subst IsPhysical (sym is) tt) first) first,
      c.self.invariant.1,
      IsIndexed-with_file state parts.jobs.orders parts.jobs.moves c.self.invariant.0.lawful c.len-len.ensures.unique c.args.name c.args.file c.args.name its is first
          (record_length (fields_of c.args.file)) parts.paths c.attach_path.new.paths c.kept-kept.ensures.shared c.in_ok-attach_path.ensures.attached c.self.invariant.2,
    )
