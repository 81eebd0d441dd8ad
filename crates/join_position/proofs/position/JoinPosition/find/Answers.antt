use Rattle.std.proofs.Common.{◌≡◌, Option, List, map, Bor, ◌∙◌, ap, subst}
use Rattle.std.specs.Prelude.{All, IfOk, IfSome}
use Rattle.std.specs.Option.{option_map}
use Rattle.key_pages.specs.EntryList.{EntryList}
use Rattle.key_pages.specs.Order.{IsInOrder}
use Rattle.member_slots.specs.Members.{NumberedMembers}
use Rattle.file_model.specs.declared.joins.JoinSpec.{JoinSpec}
use Rattle.join_rows.specs.declared.rows.Row.{Row}
use Rattle.join_rows.specs.NextRow.{rows_reading}
use Rattle.join_rows.specs.Rows.{IsFound}
use Rattle.join_position.specs.Kept.{MatchKept, IsThere, value_kept, value_placed}
use Rattle.join_position.specs.RowReads.{CanBeKept, asked_of, asked_row, place_of}
use Rattle.join_position.proofs.FindLemmas.{Finds, if-ok, can-ask, finds-placed}
use Rattle.join_position.proofs.position.JoinPosition.find.Goals as goal

pub found-requires-clause-asked : goal.found-requires-clause-asked
found-requires-clause-asked c =
    can-ask c.self.inside.parts c.self.inside.stand c.self.inside.key.items c.self.inside.matches.items c.args.self.now c.self.view_is c.args.join.spec.now c.args.join.members.now.members
    c.args.join.primary.now (map (λ (path : Bor EntryList). path.now) c.args.join.secondaries.now) c.requires.join c.args.by c.requires.asked

abbrev AllFound : goal.After-drop-places → Option Row → Type 0
AllFound c o = Finds c.args.self.now.parts c.args.join.spec.now c.args.join.members.now.members c.args.by c.args.self.now.position o

all-found : (c : goal.After-drop-places) → IfOk c.found.result (AllFound c)
all-found c =
    let spec : JoinSpec = c.args.join.spec.now in
    let members : NumberedMembers = c.args.join.members.now.members in
    let primary : EntryList = c.args.join.primary.now in
    let secondaries : List EntryList = map (λ (path : Bor EntryList). path.now) c.args.join.secondaries.now in
    let sorted : IsInOrder primary.falling primary.entries = subst (λ (l : EntryList). IsInOrder l.falling l.entries) c.pages.ensures c.in_order.ensures.order in
    finds-placed c.self.inside.parts c.self.inside.stand c.self.inside.key.items c.self.inside.matches.items c.args.self.now c.self.view_is spec members primary secondaries c.requires.join
    (c.found_rows_are_stood_on.ensures.found spec members primary secondaries c.requires.join.read c.are_members.ensures) sorted c.args.by c.requires.asked c.self.invariant.stands
    c.as_slice-2.result.now c.as_slice-2.ensures.value c.as_slice-3.result.now
    (record {
      values = ap (map value_placed) c.as_slice-3.ensures.value ∙ c.in_ok-places.ensures.values ∙ ap (map value_kept) c.as_slice.ensures.value;
      there = subst (All (λ (m : MatchKept). IsThere m.part m.bytes m.number)) c.as_slice.ensures.value c.in_ok-places.ensures.there;
    })
    c.place_from-from.result c.place_from-from.ensures c.found.result c.found.ensures

pub returns-clause-place : goal.returns-clause-place
returns-clause-place c =
    if-ok c.found.result (AllFound c)
    (λ o. option_map (place_of c.args.self.now.parts c.args.join.spec.now c.args.join.members.now.members) o
    ≡ asked_of c.args.by c.args.self.now.parts (rows_reading c.args.join.spec.now c.args.join.members.now.members) c.args.self.now.position)
    (λ o is. is.place) (all-found c)

pub returns-clause-row : goal.returns-clause-row
returns-clause-row c =
    if-ok c.found.result (AllFound c)
    (λ o. IsFound c.args.join.spec.now c.args.join.members.now.members o
    (asked_row c.args.by c.args.self.now.parts c.args.join.spec.now c.args.join.members.now.members c.args.self.now.position))
    (λ o is. is.row) (all-found c)

pub returns-clause-kept : goal.returns-clause-kept
returns-clause-kept c =
    if-ok c.found.result (AllFound c) (λ o. IfSome o (λ row. CanBeKept c.args.self.now.parts c.args.join.spec.now c.args.join.members.now.members row)) (λ o is. is.kept) (all-found c)
