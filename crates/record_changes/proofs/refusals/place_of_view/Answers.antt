use Rattle.std.proofs.Common.{◌∙◌, ap, List, map}
use Rattle.std.specs.List.{position}
use Rattle.std.specs.Str.{bytes_eq}
use Rattle.dds_logical.specs.declared.views.View.{View}
use Rattle.record_changes.proofs.refusals.place_of_view.Goals as goal

pub returns-in-Simple : goal.returns-in-Simple
returns-in-Simple c = rw c.in-Simple.is c.only_place.ensures

pub returns-in-Multi : goal.returns-in-Multi
returns-in-Multi c = rw c.in-Multi.is (c.place_among.ensures ∙ ap (λ (views : List View). position (bytes_eq c.args.name) (map (λ (v : View). v.format.name) views)) c.as_slice.ensures)

pub returns-in-Join : goal.returns-in-Join
returns-in-Join c = rw c.in-Join.is c.only_place-in-Join.ensures
