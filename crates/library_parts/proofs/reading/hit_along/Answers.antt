use Rattle.std.proofs.Common.{◌∙◌, List, IfSome, sym, subst}
use Rattle.key_spec.specs.declared.KeyPart.{KeyPart}
use Rattle.key_pages.specs.EntryList.{EntryList}
use Rattle.parts_model.specs.CursorPosition.{entry_of}
use Rattle.parts_model.specs.Reading.{AreNumbered}
use Rattle.parts_model.below.file_cursor.specs.declared.places.Order.TheVariants.{Path}
use Rattle.parts_model.specs.OpenStand.{IsEntryIn}
use Rattle.parts_model.specs.OpenPositionReads.{IsAskedOf, IsPathOver}
use Rattle.parts_model.proofs.HitLemmas.{copied-is, copied-some, found-elsewhere, looked-along}
use Rattle.library_parts.proofs.reading.hit_along.Goals as goal

pub unwrap-path-requires : goal.unwrap-path-requires
unwrap-path-requires c = copied-some c.path.result c.requires.read.2.list (c.path.ensures ∙ c.requires.read.2.pages)

pub find-requires-clause-order : goal.find-requires-clause-order
find-requires-clause-order c = λ none.
    let along = c.requires.read.2 in
    let path = copied-is c.path.result c.unwrap-path.result along.list c.unwrap-path.ensures (c.path.ensures ∙ along.pages) in
    subst (λ (list : EntryList). AreNumbered list) (sym path) (along.numbered (sym c.stand.ensures.formats ∙ none))

pub find-requires-clause-asked : goal.find-requires-clause-asked
find-requires-clause-asked c = subst (λ (formats : List (List KeyPart)). IsAskedOf formats c.args.by) (sym c.stand.ensures.formats) c.requires.asked

pub find-requires-clause-looked : goal.find-requires-clause-looked
find-requires-clause-looked c = looked-along c.args.by (Path c.unwrap-path.result) tt

pub returns-clause-found : goal.returns-clause-found
returns-clause-found c = λ members reading along.
    let path = copied-is c.path.result c.unwrap-path.result along.list c.unwrap-path.ensures (c.path.ensures ∙ along.pages) in
    let stand = c.stand.result.now in
    let over =
    subst (λ (list : EntryList). IsPathOver stand.formats along.spec members list) (sym path)
    (subst (λ (formats : List (List KeyPart)). IsPathOver formats along.spec members along.list) (sym c.stand.ensures.formats) along.over) in
    found-elsewhere c.args.by c.find.result stand.formats c.args.opened.now.order.formats _ reading stand.position c.args.opened.now.state.position c.stand.ensures.formats along.along
    c.stand.ensures.position (c.find.ensures.by_path along.spec members over)

pub returns-clause-bytes : goal.returns-clause-bytes
returns-clause-bytes c =
    let members = c.requires.read.0 in
    let along = c.requires.read.2 in
    let path = copied-is c.path.result c.unwrap-path.result along.list c.unwrap-path.ensures (c.path.ensures ∙ along.pages) in
    let stand = c.stand.result.now in
    let over =
    subst (λ (list : EntryList). IsPathOver stand.formats along.spec members list) (sym path)
    (subst (λ (formats : List (List KeyPart)). IsPathOver formats along.spec members along.list) (sym c.stand.ensures.formats) along.over) in
    subst (λ (formats : List (List KeyPart)). IfSome c.find.result (λ hit. IsEntryIn formats (entry_of hit))) c.stand.ensures.formats (c.find.ensures.bytes along.spec members over)
