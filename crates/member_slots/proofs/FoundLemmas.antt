-- What a call by number learns of the entry that it has found, and of its change.
use Rattle.std.proofs.Common.{ℕ, ◌≡◌, ◌≢◌, List, map, set, get_or, Some, None, sym, ap, arith, ◌∙◌}
use Rattle.std.specs.List.{insert, remove}
use Rattle.std.proofs.lemmas.List.{set-get_or, length-set, get_or-set_same, get_or-set_other}
use Rattle.member_slots.specs.declared.members.Entry.{Entry}
use Rattle.member_slots.specs.Member.{RoomyMember, IsMember}
use Rattle.member_slots.specs.Members.{RoomyMembers, member_at, member_of, spare_at, with_member, with_item, put_member, put_item, without_member, without_item}
use Rattle.member_slots.specs.Entries.{AreEntries, IsPlace, IsGap, members_of, numbered, state_of, spare_of}
use Rattle.member_slots.proofs.EntryLemmas.{item_at-place, item_at-gap, with_item-place, put_item-place, put_item-gap, without_item-place, without_item-gap}
use Rattle.member_slots.proofs.OrderLemmas.{AreEntries-set, AreEntries-insert, AreEntries-remove}

-- the entry with another member
abbrev pub holding : Entry → RoomyMember → Entry
holding entry member = record { number = entry.number; member = member }

-- the entry at the number's place is that of the member with the number
pub record IsFound (entries : List Entry) (value : RoomyMembers) (number place : ℕ) (entry : Entry) : Type 0 where
  pub named : entry.number ≡ number
  pub present : member_at number value.members ≡ Some entry.member.state
  pub state : member_of number value.members ≡ entry.member.state
  pub spare : spare_at number value ≡ entry.member.spare
  pub lawful : IsMember entry.member.state
  pub members : (member : RoomyMember) → map (numbered state_of) (set entries place (holding entry member)) ≡ with_member number member.state value.members
  pub spares : (member : RoomyMember) → map (numbered spare_of) (set entries place (holding entry member)) ≡ with_item number member.spare value.spares
  pub same_members : with_member number entry.member.state value.members ≡ value.members
  pub same_spares : with_item number entry.member.spare value.spares ≡ value.spares
  pub spare_after : (member : RoomyMember) → spare_at number (members_of (set entries place (holding entry member)) value.room) ≡ member.spare
  pub unchanged : members_of (set entries place entry) value.room ≡ value
  pub ordered : (member : RoomyMember) → IsMember member.state → AreEntries (set entries place (holding entry member))
  pub put_members : (new : Entry) → new.number ≡ number → map (numbered state_of) (set entries place new) ≡ put_member number new.member.state value.members
  pub put_spares : (new : Entry) → new.number ≡ number → map (numbered spare_of) (set entries place new) ≡ put_item number new.member.spare value.spares
  pub put_ordered : (new : Entry) → new.number ≡ number → IsMember new.member.state → AreEntries (set entries place new)
  pub gone_members : map (numbered state_of) (remove entries place) ≡ without_member number value.members
  pub gone_spares : map (numbered spare_of) (remove entries place) ≡ without_item number value.spares
  pub gone_ordered : AreEntries (remove entries place)

-- no member has the number, and its entry would go to the place
pub record IsMissing (entries : List Entry) (value : RoomyMembers) (number place : ℕ) : Type 0 where
  pub absent : member_at number value.members ≡ None
  pub put_members : (new : Entry) → new.number ≡ number → map (numbered state_of) (insert entries place new) ≡ put_member number new.member.state value.members
  pub put_spares : (new : Entry) → new.number ≡ number → map (numbered spare_of) (insert entries place new) ≡ put_item number new.member.spare value.spares
  pub put_ordered : (new : Entry) → new.number ≡ number → IsMember new.member.state → AreEntries (insert entries place new)
  pub gone_members : value.members ≡ without_member number value.members
  pub gone_spares : value.spares ≡ without_item number value.spares

-- another entry of the number stands at the number's place
IsPlace-set : (entries : List Entry) (number place : ℕ) (new : Entry) → IsPlace entries number place → new.number ≡ number → IsPlace (set entries place new) number place
IsPlace-set entries number place new h same = record {
  in_range = rw length-set h.in_range;
  here = λ d. rw (get_or-set_same entries place new d h.in_range) same;
  before = λ k d lt. let other : k ≢ place = omega arith in rw (get_or-set_other entries place k new d other) (h.before k d lt);
  behind = λ k d lt within. let other : k ≢ place = omega arith in rw (get_or-set_other entries place k new d other) (h.behind k d lt (rw length-set at within));
}

pub found : {room : ℕ} (entries slice : List Entry) (value : RoomyMembers) (number place : ℕ) (entry : Entry) → members_of entries room ≡ value → AreEntries entries →
    slice ≡ entries → IsPlace slice number place → entry ≡ get_or entries place entry → IsFound entries value number place entry
found {room = room} entries slice value number place entry view invariant shown at_slice read =
    let at : IsPlace entries number place = rw (← shown) at_slice in
    let named : entry.number ≡ number = ap (λ (e : Entry). e.number) read ∙ at.here entry in
    let back : set entries place entry ≡ entries = rw read (set-get_or entries place entry) in
    rw (← view) (record {
      named = named;
      present = item_at-place state_of number entries place at entry ∙ ap (λ (e : Entry). Some e.member.state) (sym read);
      state = grind (arith, item_at-place state_of number entries place at entry);
      spare = grind (arith, item_at-place spare_of number entries place at entry);
      lawful = rw read (invariant.each place entry at.in_range);
      members = λ member. sym (with_item-place state_of number entries place (holding entry member) at named);
      spares = λ member. sym (with_item-place spare_of number entries place (holding entry member) at named);
      same_members = with_item-place state_of number entries place entry at named ∙ ap (map (numbered state_of)) back;
      same_spares = with_item-place spare_of number entries place entry at named ∙ ap (map (numbered spare_of)) back;
      spare_after = λ member.
          let there = IsPlace-set entries number place (holding entry member) at named in
          grind (arith, item_at-place spare_of number (set entries place (holding entry member)) place there entry, get_or-set_same entries place (holding entry member) entry at.in_range);
      unchanged = ap (λ (es : List Entry). members_of es room) back;
      ordered = λ member lawful. AreEntries-set entries invariant number place (holding entry member) named lawful at;
      put_members = λ new same. sym (put_item-place state_of number entries place new at same);
      put_spares = λ new same. sym (put_item-place spare_of number entries place new at same);
      put_ordered = λ new same lawful. AreEntries-set entries invariant number place new same lawful at;
      gone_members = sym (without_item-place state_of number entries place at);
      gone_spares = sym (without_item-place spare_of number entries place at);
      gone_ordered = AreEntries-remove entries place invariant at.in_range;
    })

pub missing : {room : ℕ} (entries slice : List Entry) (value : RoomyMembers) (number place : ℕ) → members_of entries room ≡ value → AreEntries entries →
    slice ≡ entries → IsGap slice number place → IsMissing entries value number place
missing entries slice value number place view invariant shown in_slice =
    let gap : IsGap entries number place = rw (← shown) in_slice in
    rw (← view) (record {
      absent = item_at-gap state_of number entries place gap;
      put_members = λ new same. sym (put_item-gap state_of number entries place new gap same);
      put_spares = λ new same. sym (put_item-gap spare_of number entries place new gap same);
      put_ordered = λ new same lawful. AreEntries-insert entries invariant number place new same lawful gap;
      gone_members = sym (without_item-gap state_of number entries place gap);
      gone_spares = sym (without_item-gap spare_of number entries place gap);
    })
