use Rattle.std.proofs.Common.{◌∙◌, List, IfSome, sym, subst, ap}
use Rattle.key_spec.specs.declared.KeyPart.{KeyPart}
use Rattle.parts_model.specs.CursorPosition.{entry_of}
use Rattle.parts_model.below.file_cursor.specs.declared.places.Order.TheVariants.{Arrival}
use Rattle.file_model.specs.Positions.{arrival_reading}
use Rattle.parts_model.specs.OpenStand.{IsEntryIn}
use Rattle.parts_model.specs.OpenPositionReads.{IsAskedOf}
use Rattle.parts_model.proofs.HitLemmas.{found-elsewhere, looked-in, match-is, match-some}
use Rattle.library_parts.proofs.reading.hit_in.Goals as goal

pub unwrap-member-requires : goal.unwrap-member-requires
unwrap-member-requires c = match-some (λ m. m.now.state) c.at.result _ c.requires.read.1.there.0 (rw c.member.ensures at c.at.ensures.found) c.requires.read.1.there.1

pub find-requires-clause-order : goal.find-requires-clause-order
find-requires-clause-order c = c.stand.ensures.formats ∙ c.requires.read.1.none

pub find-requires-clause-asked : goal.find-requires-clause-asked
find-requires-clause-asked c = subst (λ (formats : List (List KeyPart)). IsAskedOf formats c.args.by) (sym c.stand.ensures.formats) c.requires.asked

pub find-requires-clause-looked : goal.find-requires-clause-looked
find-requires-clause-looked c = looked-in c.args.by (Arrival c.unwrap-member.result) c.requires.looked

pub returns-clause-found : goal.returns-clause-found
returns-clause-found c = λ reading among.
    let member = match-is (λ m. m.now.state) c.at.result c.unwrap-member.result _ among.there.0 c.unwrap-member.ensures (rw c.member.ensures at c.at.ensures.found) among.there.1 in
    let stand = c.stand.result.now in
    found-elsewhere c.args.by c.find.result stand.formats c.args.opened.now.order.formats _ reading stand.position c.args.opened.now.state.position c.stand.ensures.formats
    (among.there.2 ∙ ap arrival_reading (sym member)) c.stand.ensures.position c.find.ensures.by_number

pub returns-clause-bytes : goal.returns-clause-bytes
returns-clause-bytes c =
    subst (λ (formats : List (List KeyPart)). IfSome c.find.result (λ hit. IsEntryIn formats (entry_of hit))) c.stand.ensures.formats c.find.ensures.bytes_by_number
