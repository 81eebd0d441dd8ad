use Rattle.std.proofs.Common.{◌≡◌, ◌∙◌, Option, length, refl, sym, subst}
use Rattle.std.specs.Prelude.{IfOk}
use Rattle.std.proofs.lemmas.Option.{slice_get_read}
use Rattle.dds_logical.specs.declared.views.View.{View}
use Rattle.logical_model.specs.Formats.{shown_by}
use Rattle.view_records.specs.Through.{IsFormatOf, IsReadThrough}
use Rattle.library_model.specs.declared.replies.RecordRead.{RecordRead}
use Rattle.library_steps.specs.Reads.{read_as}
use Rattle.lawful_states.proofs.NameLemmas.{some-equal}
use Rattle.record_reads.proofs.shown.shown_among.Goals as goal

pub shown_view-requires-clause-read : goal.shown_view-requires-clause-read
shown_view-requires-clause-read c =
    let views = c.args.views.now in
    let its = c.requires.shows in
    let at = slice_get_read views (length views) c.args.place c.index-views-place.result refl c.requires.within c.index-views-place.is in
    subst (λ (view : View). IsReadThrough view c.args.image.now) (some-equal (sym its.1 ∙ at)) its.2

pub shown_view-requires-clause-format : goal.shown_view-requires-clause-format
shown_view-requires-clause-format c =
    let views = c.args.views.now in
    let its = c.requires.shows in
    let at = slice_get_read views (length views) c.args.place c.index-views-place.result refl c.requires.within c.index-views-place.is in
    subst (λ (view : View). IsFormatOf view) (some-equal (sym its.1 ∙ at)) its.3

pub returns : goal.returns
returns c =
    let views = c.args.views.now in
    let at = slice_get_read views (length views) c.args.place c.index-views-place.result refl c.requires.within c.index-views-place.is in
    subst (λ (view : Option View). IfOk c.shown_view.result (λ (shown : RecordRead). shown ≡ read_as c.args.rrn (shown_by view c.args.image.now))) (sym at) c.shown_view.ensures
