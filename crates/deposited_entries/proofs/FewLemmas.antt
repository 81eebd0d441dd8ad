-- A change of a record under commitment control leaves the open commit cycles within their limits: its plan has asked.
use Rattle.std.proofs.Common.{◌≡◌, ℕ, ◌+◌, ◌-◌, ◌≤◌, ◌==◌, ◌||◌, nat_lt, cond, Bool, true, false, is_some, Option, Some, None, unwrap_or, List, [], ◌∷◌, length, slice_get, refl, sym, ◌∙◌, ap, subst, arith}
use Rattle.std.proofs.lemmas.Bool.{ltb-false, ne_eqb}
use Rattle.lock_table.specs.declared.levels.Call.TheVariants.{WriteAt}
use Rattle.library_steps.specs.Formats.{given_in}
use Rattle.member_slots.specs.declared.slot.Slot.{Slot}
use Rattle.member_slots.specs.declared.slot.Slot.TheVariants.{Live, Deleted}
use Rattle.member_slots.specs.Member.{MemberState, slot_at}
use Rattle.member_slots.specs.Members.{member_of}
use Rattle.library_model.specs.declared.replies.LimitKind.TheVariants.{GroupBytes, GroupChanges}
use Rattle.library_model.specs.declared.replies.Reply.TheVariants.{LimitReached, NoCurrentRecord, NotFound, PlaceInUse, WrongOpen}
use Rattle.library_model.specs.declared.requests.OpenName.{OpenName}
use Rattle.library_model.specs.declared.requests.UpdateRecord.{UpdateRecord}
use Rattle.library_model.specs.declared.requests.WriteRecord.{WriteRecord}
use Rattle.library_steps.specs.declared.limits.TheConstants.{MOST_GROUP_CHANGES, MOST_GROUP_BYTES}
use Rattle.library_steps.specs.ChangeRecord.{delete_plan, update_plan}
use Rattle.library_steps.specs.Locking.{few_locks, not_locked}
use Rattle.library_steps.specs.LogicalFiles.{bases_of}
use Rattle.library_steps.specs.Reads.{at_format}
use Rattle.library_steps.specs.Records.{live_record, record_in, slot_there}
use Rattle.library_steps.specs.Refusals.{found, opened_file, refuse_if, sequences_left}
use Rattle.library_steps.specs.SlotChange.{NewSlot, few_changes, is_behind_last, not_held, open_bytes, open_changes, undo_bytes}
use Rattle.library_steps.specs.State.{Memory, OpenState}
use Rattle.library_steps.specs.UniqueKeys.{keys_free}
use Rattle.library_steps.specs.WriteRecord.{format_asked, has_room, is_input, next_place, packed, place_asked, place_plan, write_call, write_plan}
use Rattle.cycles_kept.proofs.HoldLemmas.{Holds, bind-holds, if-not, then-holds, wider-holds}

-- there is room for one change more of this slot to that one, where it is under commitment control
pub record HasGroupRoom (commit : Bool) (old new : Slot) (m : Memory) : Type 0 where
  pub changes : commit ≡ true → open_changes m + 1 ≤ MOST_GROUP_CHANGES
  pub bytes : commit ≡ true → open_bytes m + undo_bytes old new ≤ MOST_GROUP_BYTES

abbrev pub HasRoomFor : Memory → NewSlot → Type 0
HasRoomFor m new = HasGroupRoom new.opened.commit (slot_there new.opened.member new.rrn m) new.slot m

few-room : (commit : Bool) (old new : Slot) (m : Memory) → Holds (few_changes commit old new m) (λ ok. HasGroupRoom commit old new m)
few-room false old new m = record { holds = record { changes = λ e. absurd cc; bytes = λ e. absurd cc } }
few-room true old new m =
    bind-holds (refuse_if (nat_lt MOST_GROUP_CHANGES (open_changes m + 1)) (LimitReached GroupChanges MOST_GROUP_CHANGES)) (λ ok. nat_lt MOST_GROUP_CHANGES (open_changes m + 1) ≡ false) _ _
    (if-not (nat_lt MOST_GROUP_CHANGES (open_changes m + 1)) (LimitReached GroupChanges MOST_GROUP_CHANGES)) (λ ok few.
    wider-holds (refuse_if (nat_lt MOST_GROUP_BYTES (open_bytes m + undo_bytes old new)) (LimitReached GroupBytes MOST_GROUP_BYTES))
    (λ ok. nat_lt MOST_GROUP_BYTES (open_bytes m + undo_bytes old new) ≡ false) (λ ok. HasGroupRoom true old new m)
    (λ ok small. record {
      changes = λ e. ltb-false MOST_GROUP_CHANGES (open_changes m + 1) few;
      bytes = λ e. ltb-false MOST_GROUP_BYTES (open_bytes m + undo_bytes old new) small;
    })
    (if-not (nat_lt MOST_GROUP_BYTES (open_bytes m + undo_bytes old new)) (LimitReached GroupBytes MOST_GROUP_BYTES)))

-- ---- no record stands where one is added

dead-slot : (o : Option Slot) → is_some (record_in o) ≡ false → unwrap_or o Deleted ≡ Deleted
dead-slot None dead = refl
dead-slot (Some Deleted) dead = refl
dead-slot (Some (Live image)) dead = absurd cc

get-end : (slots : List Slot) → unwrap_or (slice_get slots (length slots)) Deleted ≡ Deleted
get-end [] = refl
get-end (slot ∷ slots) = get-end slots

end-slot : (member : MemberState) → unwrap_or (slot_at member (length member.slots + 1)) Deleted ≡ Deleted
end-slot member =
    let at : length member.slots + 1 - 1 ≡ length member.slots = omega arith in
    ap (λ (b : Bool). unwrap_or (cond b None (slice_get member.slots (length member.slots + 1 - 1))) Deleted) (ne_eqb (length member.slots + 1) 0 (λ e. absurd (omega (arith, e))))
    ∙ ap (λ (k : ℕ). unwrap_or (slice_get member.slots k) Deleted) at ∙ get-end member.slots

module _ (m : Memory) (job : ℕ) where
  asked-dead : (opened : OpenState) (asked : Option ℕ) → Holds (place_asked job opened asked m) (λ rrn. slot_there opened.member rrn m ≡ Deleted)
  asked-dead opened None = record { holds = end-slot (member_of opened.member m.members) }
  asked-dead opened (Some rrn) =
      then-holds (refuse_if ((rrn == 0) || nat_lt (next_place opened.member m) rrn) NotFound) _ _ (λ bounds.
      bind-holds (refuse_if (is_some (live_record opened.member rrn m)) (PlaceInUse rrn)) (λ ok. is_some (live_record opened.member rrn m) ≡ false) _ _
      (if-not (is_some (live_record opened.member rrn m)) (PlaceInUse rrn)) (λ ok dead.
      then-holds (not_locked WriteAt job opened rrn m) _ _ (λ unlocked.
      then-holds (not_held job opened rrn m) _ _ (λ held.
      record { holds = dead-slot (slot_at (member_of opened.member m.members) rrn) dead }))))

  -- ---- the plans

  place-room : (opened : OpenState) (asked : Option ℕ) (image : List ℕ) → Holds (place_plan m job opened asked image) (HasRoomFor m)
  unfolding place_plan
  place-room opened asked image =
      bind-holds (place_asked job opened asked m) (λ rrn. slot_there opened.member rrn m ≡ Deleted) _ _ (asked-dead opened asked) (λ rrn dead.
      then-holds (has_room (is_behind_last opened.member rrn m) opened.member m) _ _ (λ room.
      then-holds (keys_free job opened.commit opened.member rrn Deleted image m) _ _ (λ keys.
      then-holds (few_locks (write_call asked) job opened rrn m) _ _ (λ locks.
      bind-holds (few_changes opened.commit Deleted (Live image) m) (λ ok. HasGroupRoom opened.commit Deleted (Live image) m) _ _ (few-room opened.commit Deleted (Live image) m) (λ ok few.
      record { holds = subst (λ (old : Slot). HasGroupRoom opened.commit old (Live image) m) (sym dead) few })))))

  pub write-room : (args : WriteRecord) → Holds (write_plan m job args) (HasRoomFor m)
  unfolding write_plan
  write-room args =
      then-holds (sequences_left m) _ _ (λ left.
      then-holds (opened_file args.open_id job m) _ _ (λ its.
      then-holds (format_asked args.format its.file.spec) _ _ (λ format.
      then-holds (refuse_if (is_input its.opened.option) WrongOpen) _ _ (λ writes.
      then-holds (packed (given_in (bases_of m) its.file.spec format args.values None)) _ _ (λ image.
      place-room (at_format format its.opened) args.record_number image)))))

  pub update-room : (args : UpdateRecord) → Holds (update_plan m job args) (HasRoomFor m)
  unfolding update_plan
  update-room args =
      then-holds (sequences_left m) _ _ (λ left.
      then-holds (opened_file args.open_id job m) _ _ (λ its.
      then-holds (refuse_if (is_input its.opened.option) WrongOpen) _ _ (λ writes.
      then-holds (found its.opened.current NoCurrentRecord) _ _ (λ rrn.
      then-holds (packed (given_in (bases_of m) its.file.spec its.opened.format args.values (live_record its.opened.member rrn m))) _ _ (λ image.
      then-holds (not_held job its.opened rrn m) _ _ (λ held.
      then-holds (keys_free job its.opened.commit its.opened.member rrn (slot_there its.opened.member rrn m) image m) _ _ (λ keys.
      bind-holds (few_changes its.opened.commit (slot_there its.opened.member rrn m) (Live image) m) (λ ok. HasGroupRoom its.opened.commit (slot_there its.opened.member rrn m) (Live image) m) _ _
      (few-room its.opened.commit (slot_there its.opened.member rrn m) (Live image) m) (λ ok few.
      record { holds = few }))))))))

  pub delete-room : (args : OpenName) → Holds (delete_plan m job args) (HasRoomFor m)
  unfolding delete_plan
  delete-room args =
      then-holds (sequences_left m) _ _ (λ left.
      then-holds (opened_file args.open_id job m) _ _ (λ its.
      then-holds (refuse_if (is_input its.opened.option) WrongOpen) _ _ (λ writes.
      then-holds (found its.opened.current NoCurrentRecord) _ _ (λ rrn.
      then-holds (not_held job its.opened rrn m) _ _ (λ held.
      bind-holds (few_changes its.opened.commit (slot_there its.opened.member rrn m) Deleted m) (λ ok. HasGroupRoom its.opened.commit (slot_there its.opened.member rrn m) Deleted m) _ _
      (few-room its.opened.commit (slot_there its.opened.member rrn m) Deleted m) (λ ok few.
      record { holds = few }))))))
