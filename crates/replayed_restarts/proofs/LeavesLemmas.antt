-- Each journal that can be replayed from the beginning leaves something.
use Rattle.std.proofs.Common.{List, [], ◌∷◌, ◌++◌, sym, subst}
use Rattle.std.proofs.lemmas.List.{append_assoc, append-nil}
use Rattle.entry_codec.specs.declared.entries.Entry.{Entry}
use Rattle.journal_replay.specs.Left.{IsLeft, empty_standing}
use Rattle.journal_replay.specs.SoFar.{CanReplaySoFar}
use Rattle.journal_replay.specs.Standing.{Standing, standing_after}
use Rattle.journal_replay.proofs.EmptyLemmas.{empty-left}
use Rattle.journal_replay.proofs.LeftLemmas.{come-stand, left-after}
use Rattle.journal_replay.proofs.SoFarLemmas.{so_far-front, so_far-last}
use Rattle.restart_model.specs.Libraries.{journal_with}
use Rattle.restart_model.specs.Sources.{descriptions}

abbrev pub Replays : List Entry → Type 0
Replays entries = CanReplaySoFar descriptions (journal_with entries)

abbrev pub Leaves : List Entry → Standing → Type 0
Leaves entries left = IsLeft descriptions (λ member. 0) (journal_with entries) left

front-replays : (rest front : List Entry) → Replays (front ++ rest) → Replays front
front-replays [] front can = subst (λ (es : List Entry). Replays es) (append-nil front) can
front-replays (e ∷ rest) front can =
    so_far-front descriptions (journal_with front) e
    (front-replays rest (front ++ e ∷ []) (subst (λ (es : List Entry). Replays es) (sym (append_assoc front (e ∷ []) rest)) can))

-- what these entries leave, behind those that leave this
leaves-behind : (rest front : List Entry) (left : Standing) → Leaves front left → Replays (front ++ rest) → (to : Standing) × Leaves (front ++ rest) to
leaves-behind [] front left l can = (left, subst (λ (es : List Entry). Leaves es left) (sym (append-nil front)) l)
leaves-behind (e ∷ rest) front left l can =
    let more : Replays ((front ++ e ∷ []) ++ rest) = subst (λ (es : List Entry). Replays es) (sym (append_assoc front (e ∷ []) rest)) can in
    let one : Replays (front ++ e ∷ []) = front-replays rest (front ++ e ∷ []) more in
    let next = left-after descriptions (λ member. 0) (journal_with front) left l e
    (come-stand descriptions (λ member. 0) (journal_with front) left l e (so_far-last descriptions (journal_with front) e one)) in
    let its = leaves-behind rest (front ++ e ∷ []) (standing_after e left) next more in
    (its.0, subst (λ (es : List Entry). Leaves es its.0) (append_assoc front (e ∷ []) rest) its.1)

pub journal-leaves : (entries : List Entry) → Replays entries → (left : Standing) × Leaves entries left
journal-leaves entries can = leaves-behind entries [] empty_standing (empty-left descriptions) can
