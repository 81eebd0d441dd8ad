use Rattle.std.proofs.Common.{◌≡◌, ℕ, ◌<◌, Bor, Option, Some, None, List, [], ◌∷◌, length, map, refl, sym, ◌∙◌, ap, subst}
use Rattle.std.specs.Option.{option_map, option_copied}
use Rattle.std.specs.Global.{Vec}
use Rattle.key_pages.specs.declared.entries.Entry.{Entry}
use Rattle.key_pages.specs.EntryList.{EntryList}
use Rattle.key_pages.specs.Order.{IsInOrder}
use Rattle.member_slots.specs.Members.{NumberedMembers, member_of}
use Rattle.file_model.specs.declared.joins.Secondary.{Secondary}
use Rattle.file_model.specs.declared.joins.JoinSpec.{JoinSpec}
use Rattle.access_path.specs.PathBytes.{is_falling}
use Rattle.file_cursor.specs.CursorPosition.{On}
use Rattle.join_rows.specs.Numbers.{image_at}
use Rattle.join_rows.specs.Reading.{AreFed, left_list}
use Rattle.join_rows.specs.Rows.{first_member, place_by, found_entry}
use Rattle.join_rows.proofs.EntryLemmas.{entries_at}
use Rattle.join_rows.proofs.PrimaryLemmas.{IsFine, IfFine, IsOn, IsBelowEntry, below-entry, fine-found, fed-first, first-on, found-on, next-on, none-on, fewer-entries}
use Rattle.join_rows.proofs.rows.found_row.Goals as goal

pub loop-at-init : goal.loop-at-init
loop-at-init c =
    let spec : JoinSpec = c.args.join.spec.now in
    let members : NumberedMembers = c.args.join.members.now.members in
    let primary : EntryList = c.args.join.primary.now in
    let secondaries : List EntryList = map (λ (path : Bor EntryList). path.now) c.args.join.secondaries.now in
    let sorted : IsInOrder primary.falling primary.entries = subst (λ (l : EntryList). IsInOrder l.falling l.entries) c.pages.ensures c.in_order.ensures.order in
    let is : option_copied c.first_entry-at.result ≡ found_entry c.args.back primary (place_by c.args.back (is_falling spec.primary.ties) c.args.from) =
    c.first_entry-at.ensures ∙ ap (λ f. found_entry c.args.back primary (place_by c.args.back f c.args.from)) c.falls.ensures in record {
      fine = fine-found spec members primary secondaries c.requires c.args.back (place_by c.args.back (is_falling spec.primary.ties) c.args.from) (option_copied c.first_entry-at.result) is;
      on = λ position at-it. first-on spec members primary secondaries c.requires c.args.from position at-it c.args.back sorted (option_copied c.first_entry-at.result) is;
    }

pub found_below-requires-clause-fed : goal.found_below-requires-clause-fed
found_below-requires-clause-fed c =
    let spec : JoinSpec = c.args.join.spec.now in
    let members : NumberedMembers = c.args.join.members.now.members in
    let primary : EntryList = c.args.join.primary.now in
    let secondaries : List EntryList = map (λ (path : Bor EntryList). path.now) c.args.join.secondaries.now in
    let fine : IsFine spec members c.in-Some.entry.now = subst (λ (o : Option (Bor Entry)). IfFine spec members (option_copied o)) c.in-Some.is c.loop-at.invariant.fine in
    let image-is : c.image_at-image.result.now ≡ image_at (member_of (first_member spec.primary.formats) members) c.in-Some.entry.now.rrn =
    c.image_at-image.ensures ∙ ap (λ n. image_at (member_of n members) c.in-Some.entry.now.rrn) (c.first_member-member.ensures ∙ ap first_member c.as_slice.ensures) in
    let images-are : map (λ (image : Bor (List ℕ)). image.now) c.from_ref-images.result.now ≡ image_at (member_of (first_member spec.primary.formats) members) c.in-Some.entry.now.rrn ∷ [] =
    ap (map (λ (image : Bor (List ℕ)). image.now)) c.from_ref-images.ensures.value ∙ ap (λ w. w ∷ []) image-is in
    subst (λ (fs : List Secondary). AreFed (map (λ (image : Bor (List ℕ)). image.now) c.from_ref-images.result.now) fs) (sym c.as_slice-files.ensures)
    (subst (λ w. AreFed w spec.secondaries) (sym images-are) (fed-first spec members primary secondaries c.requires c.in-Some.entry.now fine))

pub returns-in-Some-found : goal.returns-in-Some-found
returns-in-Some-found c =
    let spec : JoinSpec = c.args.join.spec.now in
    let members : NumberedMembers = c.args.join.members.now.members in
    let primary : EntryList = c.args.join.primary.now in
    let secondaries : List EntryList = map (λ (path : Bor EntryList). path.now) c.args.join.secondaries.now in
    let sorted : IsInOrder primary.falling primary.entries = subst (λ (l : EntryList). IsInOrder l.falling l.entries) c.pages.ensures c.in_order.ensures.order in
    let fine : IsFine spec members c.in-Some.entry.now = subst (λ (o : Option (Bor Entry)). IfFine spec members (option_copied o)) c.in-Some.is c.loop-at.invariant.fine in
    let image-is : c.image_at-image.result.now ≡ image_at (member_of (first_member spec.primary.formats) members) c.in-Some.entry.now.rrn =
    c.image_at-image.ensures ∙ ap (λ n. image_at (member_of n members) c.in-Some.entry.now.rrn) (c.first_member-member.ensures ∙ ap first_member c.as_slice.ensures) in
    let images-are : map (λ (image : Bor (List ℕ)). image.now) c.from_ref-images.result.now ≡ image_at (member_of (first_member spec.primary.formats) members) c.in-Some.entry.now.rrn ∷ [] =
    ap (map (λ (image : Bor (List ℕ)). image.now)) c.from_ref-images.ensures.value ∙ ap (λ w. w ∷ []) image-is in
    let below : IsBelowEntry c.args.back spec members c.args.from c.in-Some.entry.now (Some c.in-Some-found.numbers.items) =
    below-entry c.args.back spec members c.args.from c.in-Some.entry.now c.as_slice-files.result.now c.as_slice-files.ensures
    (map (λ (image : Bor (List ℕ)). image.now) c.from_ref-images.result.now) images-are (left_list c.left_of_entry-left.result) c.left_of_entry-left.ensures
    (option_map (λ (numbers : Vec (Option ℕ)). numbers.items) c.in_ok-found.found) (Some c.in-Some-found.numbers.items)
    (ap (option_map (λ (numbers : Vec (Option ℕ)). numbers.items)) c.in-Some-found.is) c.in_ok-found.ensures in
    λ position at-it.
    found-on spec members primary secondaries c.requires c.args.from position at-it c.args.back sorted c.in-Some.entry.now fine
    (subst (λ (o : Option (Bor Entry)). IsOn c.args.back spec members primary position (option_copied o)) c.in-Some.is (c.loop-at.invariant.on position at-it))
    (record { primary = c.in-Some.entry; numbers = c.in-Some-found.numbers }) refl below

pub loop-at-smaller : goal.loop-at-smaller
loop-at-smaller c =
    let spec : JoinSpec = c.args.join.spec.now in
    let members : NumberedMembers = c.args.join.members.now.members in
    let primary : EntryList = c.args.join.primary.now in
    let secondaries : List EntryList = map (λ (path : Bor EntryList). path.now) c.args.join.secondaries.now in
    let sorted : IsInOrder primary.falling primary.entries = subst (λ (l : EntryList). IsInOrder l.falling l.entries) c.pages.ensures c.in_order.ensures.order in
    subst (λ (o : Option (Bor Entry)). length (entries_at c.args.back primary (option_copied c.next_entry-at.result)) < length (entries_at c.args.back primary (option_copied o))) (sym c.in-Some.is)
    (fewer-entries c.args.back primary c.in-Some.entry.now (option_copied c.next_entry-at.result) sorted c.next_entry-at.ensures)

pub loop-at-preserved : goal.loop-at-preserved
loop-at-preserved c =
    let spec : JoinSpec = c.args.join.spec.now in
    let members : NumberedMembers = c.args.join.members.now.members in
    let primary : EntryList = c.args.join.primary.now in
    let secondaries : List EntryList = map (λ (path : Bor EntryList). path.now) c.args.join.secondaries.now in
    let sorted : IsInOrder primary.falling primary.entries = subst (λ (l : EntryList). IsInOrder l.falling l.entries) c.pages.ensures c.in_order.ensures.order in
    let fine : IsFine spec members c.in-Some.entry.now = subst (λ (o : Option (Bor Entry)). IfFine spec members (option_copied o)) c.in-Some.is c.loop-at.invariant.fine in
    let image-is : c.image_at-image.result.now ≡ image_at (member_of (first_member spec.primary.formats) members) c.in-Some.entry.now.rrn =
    c.image_at-image.ensures ∙ ap (λ n. image_at (member_of n members) c.in-Some.entry.now.rrn) (c.first_member-member.ensures ∙ ap first_member c.as_slice.ensures) in
    let images-are : map (λ (image : Bor (List ℕ)). image.now) c.from_ref-images.result.now ≡ image_at (member_of (first_member spec.primary.formats) members) c.in-Some.entry.now.rrn ∷ [] =
    ap (map (λ (image : Bor (List ℕ)). image.now)) c.from_ref-images.ensures.value ∙ ap (λ w. w ∷ []) image-is in
    let below : IsBelowEntry c.args.back spec members c.args.from c.in-Some.entry.now None =
    below-entry c.args.back spec members c.args.from c.in-Some.entry.now c.as_slice-files.result.now c.as_slice-files.ensures
    (map (λ (image : Bor (List ℕ)). image.now) c.from_ref-images.result.now) images-are (left_list c.left_of_entry-left.result) c.left_of_entry-left.ensures
    (option_map (λ (numbers : Vec (Option ℕ)). numbers.items) c.in_ok-found.found) None (ap (option_map (λ (numbers : Vec (Option ℕ)). numbers.items)) c.in_default-found.is) c.in_ok-found.ensures in
    record {
      fine = fine-found spec members primary secondaries c.requires c.args.back (On c.in-Some.entry.now) (option_copied c.next_entry-at.result) c.next_entry-at.ensures;
      on = λ position at-it.
          next-on spec members primary secondaries c.requires c.args.from position at-it c.args.back sorted c.in-Some.entry.now fine
          (subst (λ (o : Option (Bor Entry)). IsOn c.args.back spec members primary position (option_copied o)) c.in-Some.is (c.loop-at.invariant.on position at-it))
          below (option_copied c.next_entry-at.result) c.next_entry-at.ensures;
    }

pub returns : goal.returns
returns c =
    let spec : JoinSpec = c.args.join.spec.now in
    let members : NumberedMembers = c.args.join.members.now.members in
    let primary : EntryList = c.args.join.primary.now in
    let secondaries : List EntryList = map (λ (path : Bor EntryList). path.now) c.args.join.secondaries.now in
    let sorted : IsInOrder primary.falling primary.entries = subst (λ (l : EntryList). IsInOrder l.falling l.entries) c.pages.ensures c.in_order.ensures.order in
    λ position at-it.
    none-on spec members primary secondaries c.requires c.args.from position at-it c.args.back sorted
    (subst (λ (o : Option (Bor Entry)). IsOn c.args.back spec members primary position (option_copied o)) c.in_default.is (c.loop-at.invariant.on position at-it))
