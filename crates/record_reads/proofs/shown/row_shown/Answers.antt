use Rattle.std.proofs.Common.{◌∙◌, Option, ap, sym}
use Rattle.std.specs.Borrow.{Bor}
use Rattle.std.specs.Option.{option_copied}
use Rattle.dds_logical.specs.declared.join_views.JoinView.{JoinView}
use Rattle.library_steps.specs.State.{memory_of}
use Rattle.record_reads.proofs.RowLemmas.{same-view, shown-row, view-there}
use Rattle.record_reads.proofs.shown.row_shown.Goals as goal

pub unwrap-view-requires : goal.unwrap-view-requires
unwrap-view-requires c = view-there c.args.file.now.spec c.requires.1.view c.requires.1.join c.joined.result c.joined.ensures

pub row_values-requires : goal.row_values-requires
row_values-requires c =
    let same = same-view c.args.file.now.spec c.requires.1.view c.unwrap-view.result.now c.requires.1.join
    (sym c.joined.ensures ∙ ap (λ (o : Option (Bor JoinView)). option_copied o) c.unwrap-view.ensures) in
    (c.requires.1.place, rw (sym same) c.requires.1.row)

pub returns : goal.returns
returns c = λ it opened its.
    let same = same-view c.args.file.now.spec its.view c.unwrap-view.result.now its.join
    (sym c.joined.ensures ∙ ap (λ (o : Option (Bor JoinView)). option_copied o) c.unwrap-view.ensures) in
    rw c.from_vec.ensures
    (shown-row (memory_of c.args.contents.now.state) c.args.file.now opened c.args.rrn it its.view its.join its.place its.is c.unwrap-view.result.now same c.in_ok-values.values.items
    (c.in_ok-values.ensures its.place (rw (sym same) its.row)))
