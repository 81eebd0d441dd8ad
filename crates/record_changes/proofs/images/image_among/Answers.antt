use Rattle.std.proofs.Common.{◌∙◌, Option, length, refl, sym, subst}
use Rattle.std.specs.Prelude.{IfOk}
use Rattle.std.specs.Option.{option_copied}
use Rattle.std.proofs.lemmas.Option.{slice_get_read}
use Rattle.dds_logical.specs.declared.views.View.{View}
use Rattle.logical_model.specs.Formats.{given_by}
use Rattle.logical_laws.specs.Found.{HoldsRecord}
use Rattle.library_steps.specs.State.{memory_of}
use Rattle.library_steps.specs.LogicalFiles.{bases_of}
use Rattle.library_steps.specs.WriteRecord.{packed}
use Rattle.library_parts.specs.Answers.{Gives}
use Rattle.lawful_states.proofs.NameLemmas.{some-equal}
use Rattle.record_changes.specs.Images.{IsWritable, fields_of_view}
use Rattle.record_changes.proofs.images.image_among.Goals as goal

pub image_over-requires-clause-written : goal.image_over-requires-clause-written
image_over-requires-clause-written c =
    let views = c.args.views.now in
    let its = c.requires.written in
    let at = slice_get_read views (length views) c.args.place c.index-views-place.result refl c.requires.within c.index-views-place.is in
    subst (λ (view : View). IsWritable c.args.contents.now.state.files view) (some-equal (sym its.1 ∙ at)) its.2

pub image_over-requires-clause-old : goal.image_over-requires-clause-old
image_over-requires-clause-old c = λ image is.
    let views = c.args.views.now in
    let bases = bases_of (memory_of c.args.contents.now.state) in
    let at = slice_get_read views (length views) c.args.place c.index-views-place.result refl c.requires.within c.index-views-place.is in
    subst (λ (view : Option View). HoldsRecord (fields_of_view bases view) image.now) at (c.requires.old image is)

pub returns-clause-packed : goal.returns-clause-packed
returns-clause-packed c =
    let views = c.args.views.now in
    let bases = bases_of (memory_of c.args.contents.now.state) in
    let at = slice_get_read views (length views) c.args.place c.index-views-place.result refl c.requires.within c.index-views-place.is in
    subst (λ (view : Option View). Gives c.image_over.result (packed (given_by bases view c.args.given.now (option_copied c.args.old)))) (sym at) c.image_over.ensures.packed

pub returns-clause-holds : goal.returns-clause-holds
returns-clause-holds c =
    let views = c.args.views.now in
    let bases = bases_of (memory_of c.args.contents.now.state) in
    let at = slice_get_read views (length views) c.args.place c.index-views-place.result refl c.requires.within c.index-views-place.is in
    subst (λ (view : Option View). IfOk c.image_over.result (λ image. HoldsRecord (fields_of_view bases view) image)) (sym at) c.image_over.ensures.holds
