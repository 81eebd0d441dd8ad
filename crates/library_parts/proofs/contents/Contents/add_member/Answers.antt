use Rattle.std.proofs.Common.{◌≡◌, ◌∙◌, Some, sym, ap}
use Rattle.std.specs.Option.{option_and_then, option_copied, option_map}
use Rattle.record_fmt.specs.Layout.{record_length}
use Rattle.library_steps.specs.Bases.{FileSpec}
use Rattle.library_model.specs.Named.{named}
use Rattle.library_steps.specs.State.{FileState, fields_of, format_in, physical_in}
use Rattle.parts_model.specs.Parts.{state_of}
use Rattle.lawful_states.proofs.FileLemmas.{next-unowned}
use Rattle.lawful_states.proofs.AddLemmas.{AreOne-member_added}
use Rattle.parts_model.proofs.IndexFiles.{next-none, physical-by, IsIndexed-with_member}
use Rattle.parts_model.proofs.ResultLemmas.{on_ok}
use Rattle.library_parts.proofs.contents.Contents.add_member.Goals as goal

pub attach_path-requires : goal.attach_path-requires
attach_path-requires c =
    let parts = c.self.inside in
    next-none (state_of parts.catalogue parts.members parts.next_member parts.journal parts.locks parts.jobs) c.self.invariant.0.lawful

pub add_member-requires-clause-fresh : goal.add_member-requires-clause-fresh
add_member-requires-clause-fresh c =
    let parts = c.self.inside in
    let state = state_of parts.catalogue parts.members parts.next_member parts.journal parts.locks parts.jobs in
    next-unowned state c.self.invariant.0.lawful c.len-len.ensures.unique

pub invariant_of-self : goal.invariant_of-self
invariant_of-self c = rw c.in_err-attach_path.ensures.refused c.self.invariant

pub invariant_of-self-2 : goal.invariant_of-self-2
invariant_of-self-2 c =
    let parts = c.self.inside in
    let state = state_of parts.catalogue parts.members parts.next_member parts.journal parts.locks parts.jobs in
    let name = c.args.args.now.file in
    let member = c.args.args.now.member in
    let its = c.unwrap-described.result.now.spec in
    let described : option_and_then (λ (f : FileState). physical_in f.spec) (named name parts.catalogue.files) ≡ Some its =
    sym c.physical_named.ensures ∙ ap (λ o. option_map (λ d. d.spec) (option_copied o)) c.unwrap-described.ensures in
    let found = physical-by name parts.catalogue.files its described in
    let long : record_length its.format.fields ≡ record_length (fields_of found.0) = ap (λ (f : FileSpec). record_length (format_in f).fields) (sym found.2) in
    rw (c.add_member.ensures, on_ok c.put.result c.unwrap.result c.unwrap.ensures c.put.ensures.put, c.new-empty.ensures, c.length.ensures, c.format.ensures.format, long) (
      AreOne-member_added _ _ name member found.0 c.self.invariant.0 found.1,
      c.self.invariant.1,
      IsIndexed-with_member state parts.jobs.orders parts.jobs.moves c.self.invariant.0.lawful c.len-len.ensures.unique name member found.0 its found.1 found.2
          (record_length (fields_of found.0)) parts.paths c.attach_path.new.paths c.kept-kept.ensures.shared c.in_ok-attach_path.ensures.attached c.self.invariant.2,
    )
