use Rattle.std.proofs.Common.{List, ℕ, sym, subst}
use Rattle.std.specs.Prelude.{IfOk}
use Rattle.std.specs.Option.{option_copied}
use Rattle.member_slots.specs.declared.slot.Slot.TheVariants.{Live}
use Rattle.logical_model.specs.Bases.{FileSpec}
use Rattle.logical_model.specs.Formats.{given_in}
use Rattle.logical_laws.specs.Found.{HoldsRecord}
use Rattle.library_steps.specs.State.{memory_of}
use Rattle.library_steps.specs.LogicalFiles.{bases_of}
use Rattle.library_steps.specs.WriteRecord.{packed}
use Rattle.library_parts.specs.Answers.{Gives}
use Rattle.record_changes.specs.Images.{IsWrittenIn, fields_under}
use Rattle.record_changes.specs.Places.{FitsMember}
use Rattle.record_changes.proofs.ImageLemmas.{each-ok}
use Rattle.record_changes.proofs.OwnerLemmas.{fits-member, record-of, written-in}
use Rattle.record_changes.proofs.images.image_through.Goals as goal

pub image_in-requires-clause-written : goal.image_in-requires-clause-written
image_in-requires-clause-written c =
    let state = c.args.contents.now.state in
    subst (λ (spec : FileSpec). IsWrittenIn state.files spec c.format.result) (sym c.described.ensures.spec)
    (rw c.format.ensures (written-in state c.args.file.now c.args.opened.now.state c.jobs_begun-begun.ensures.lawful c.requires.there c.requires.view c.requires.defaults))

pub image_in-requires-clause-old : goal.image_in-requires-clause-old
image_in-requires-clause-old c = λ image is.
    let state = c.args.contents.now.state in
    subst (λ (spec : FileSpec). HoldsRecord (fields_under (bases_of (memory_of state)) spec c.format.result) image.now) (sym c.described.ensures.spec)
    (rw c.format.ensures (record-of state c.args.file.now c.args.opened.now.state c.jobs_begun-begun.ensures.lawful c.requires.there image.now (c.requires.old image is)))

pub returns-clause-packed : goal.returns-clause-packed
returns-clause-packed c =
    let state = c.args.contents.now.state in
    let number = c.args.opened.now.state.format in
    subst (λ (spec : FileSpec). Gives c.image_in.result (packed (given_in (bases_of (memory_of state)) spec number c.args.given.now (option_copied c.args.old)))) c.described.ensures.spec
    (rw c.format.ensures at c.image_in.ensures.packed)

pub returns-clause-fits : goal.returns-clause-fits
returns-clause-fits c =
    let state = c.args.contents.now.state in
    let opened = c.args.opened.now.state in
    let bases = bases_of (memory_of state) in
    each-ok (λ (image : List ℕ). HoldsRecord (fields_under bases c.args.file.now.spec opened.format) image) (λ (image : List ℕ). FitsMember state opened.member (Live image)) c.image_in.result
    (fits-member state c.args.file.now opened c.jobs_begun-begun.ensures.lawful c.requires.there c.counts-counts.ensures.apart)
    (subst (λ (spec : FileSpec). IfOk c.image_in.result (λ image. HoldsRecord (fields_under bases spec opened.format) image)) c.described.ensures.spec (rw c.format.ensures at c.image_in.ensures.holds))
