-- Another slot stands where it was put, so that the moves back are those of the slot that stood there before; and the paths have memory for fewer
-- changes than they were prepared for.
use Rattle.std.proofs.Common.{◌≡◌, ◌∙◌, ℕ, zero, suc, ◌+◌, ◌-◌, ◌<◌, ◌≤◌, ◌==◌, Bool, false, if◌then◌else◌, get_or, None, unwrap_or, List, [], ◌∷◌, ◌++◌, length}
use Rattle.std.proofs.Common.{slice_get, slice_set, sym, ap, subst, refl, arith}
use Rattle.std.proofs.lemmas.Bool.{ne_eqb}
use Rattle.std.proofs.Math.Nat.{mul-le-mul_right}
use Rattle.member_slots.specs.declared.slot.Slot.{Slot}
use Rattle.member_slots.specs.declared.slot.Slot.TheVariants.{Live, Deleted}
use Rattle.member_slots.specs.Member.{MemberState, appended, changed, slot_at}
use Rattle.path_set.specs.declared.moves.PathMove.{PathMove}
use Rattle.path_set.specs.KeptPaths.{KeptPaths}
use Rattle.path_set.specs.RecordChanges.{moves_in, HaveRoom}
use Rattle.path_set.specs.MemberSteps.{slot_replaced}
use Rattle.library_parts.specs.Table.{changes_held}
use Rattle.library_steps.specs.Records.{slot_there}
use Rattle.library_steps.specs.State.{memory_of}
use Rattle.library_parts.specs.Moved.{AreMovesOf, HasMovesRoom}
use Rattle.library_parts.specs.Parts.{LibraryParts, Room}

-- ---- what stands at a place

not-zero : (rrn : ℕ) → 1 ≤ rrn → (rrn == 0) ≡ false
not-zero rrn first = ne_eqb rrn 0 (λ e. absurd (omega (arith, e, first)))

set-there : (slots : List Slot) (place : ℕ) (slot : Slot) → place < length slots → unwrap_or (slice_get (slice_set slots place slot) place) Deleted ≡ slot
set-there [] place slot low = absurd (omega (arith, low))
set-there (s ∷ slots) zero slot low = refl
set-there (s ∷ slots) (suc place) slot low = set-there slots place slot (omega (arith, low))

behind-there : (slots : List Slot) (slot : Slot) → unwrap_or (slice_get (slots ++ slot ∷ []) (length slots)) Deleted ≡ slot
behind-there [] slot = refl
behind-there (s ∷ slots) slot = behind-there slots slot

pub changed-there : (member : MemberState) (rrn : ℕ) (slot : Slot) → 1 ≤ rrn → rrn ≤ length member.slots → unwrap_or (slot_at (changed member rrn slot) rrn) Deleted ≡ slot
changed-there member rrn slot first within =
    subst (λ (b : Bool). unwrap_or (if b then None else slice_get (if b then member else record member { slots = slice_set member.slots (rrn - 1) slot }).slots (rrn - 1)) Deleted ≡ slot)
    (sym (not-zero rrn first)) (set-there member.slots (rrn - 1) slot (omega (arith, first, within)))

pub appended-there : (member : MemberState) (image : List ℕ) → unwrap_or (slot_at (appended member image) (length member.slots + 1)) Deleted ≡ Live image
appended-there member image =
    let place : length member.slots ≡ length member.slots + 1 - 1 = omega arith in
    subst (λ (b : Bool). unwrap_or (if b then None else slice_get (member.slots ++ Live image ∷ []) (length member.slots + 1 - 1)) Deleted ≡ Live image)
    (sym (not-zero (length member.slots + 1) (omega arith)))
    (subst (λ (n : ℕ). unwrap_or (slice_get (member.slots ++ Live image ∷ []) n) Deleted ≡ Live image) place (behind-there member.slots (Live image)))

-- ---- the moves

pub moved-back : (parts : LibraryParts) (member rrn : ℕ) (slot old : Slot) (back : List PathMove) → slot_there member rrn (memory_of parts.state) ≡ slot → AreMovesOf parts member rrn old back
    → back ≡ moves_in (slot_replaced member rrn slot old) parts.room.paths.paths
moved-back parts member rrn slot old back stands moves = moves ∙ ap (λ (s : Slot). moves_in (slot_replaced member rrn s old) parts.room.paths.paths) stands

fewer-room : (member few many : ℕ) (kept : KeptPaths) → few ≤ many → HaveRoom member many kept → HaveRoom member few kept
fewer-room member few many kept le had k d low any =
    let h = had k d low any in
    let m = mul-le-mul_right (length (get_or kept.paths k d).item.spec.formats) le in
    omega (arith, h, m)

pub room-of-one : (parts : LibraryParts) (member : ℕ) → HasMovesRoom parts member 2 → HasMovesRoom parts member 1
room-of-one parts member room = fewer-room member (changes_held parts.state.jobs + 1) (changes_held parts.state.jobs + 2) parts.room.paths (omega arith) room

-- what leaves the members' room alone says so of less
pub room-but : (old new : Room) → new ≡ record old { paths = new.paths } → new ≡ record old { spares = new.spares; paths = new.paths }
room-but old new is =
    let spares : old.spares ≡ new.spares = sym (ap (λ (r : Room). r.spares) is) in
    is ∙ (λ i. record old { spares = spares i; paths = new.paths })
