-- What a journal leaves with more entries, one after the other.
use Rattle.std.proofs.Common.{◌≡◌, ℕ, ◌+◌, ◌-◌, Bool, true, false, cond, List, [], ◌∷◌, ◌++◌, map, length, Some, None, IsTrue, sym, ap, ◌∙◌, subst, arith}
use Rattle.std.specs.List.{find, AllByRecursion}
use Rattle.std.proofs.lemmas.List.{append_assoc, append-nil}
use Rattle.entry_codec.specs.declared.entries.Entry.{Entry}
use Rattle.entry_codec.specs.declared.entries.Draft.{Draft}
use Rattle.entry_codec.specs.Drafts.{numbered}
use Rattle.entry_codec.specs.Placing.{is_placed}
use Rattle.member_slots.specs.declared.slot.Slot.{Slot}
use Rattle.member_slots.specs.Member.{IsMember}
use Rattle.journal_model.specs.Catalogue.{Catalogue, CatalogMember, empty_catalogue, has_number, member_numbered}
use Rattle.journal_model.specs.Journal.{record_length, state_of}
use Rattle.journal_model.specs.Rollback.{numbered_from}
use Rattle.journal_replay.specs.Left.{IsLeft}
use Rattle.journal_replay.specs.SoFar.{AreWithinLimits}
use Rattle.journal_replay.specs.Standing.{HeldMember, Standing, catalog_member, catalogue_in, standing_after}
use Rattle.journal_replay.proofs.LeftLemmas.{left-after}
use Rattle.journal_replay.proofs.LimitLemmas.{limits-push}
use Rattle.library_model.specs.declared.replies.Reply.{Reply}
use Rattle.library_steps.specs.State.{State, Memory}
use Rattle.library_steps.specs.Change.{journaled}
use Rattle.joint_state.specs.Sound.{after}
use Rattle.named_bases.specs.Sources.{descriptions}
use Rattle.named_bases.specs.Libraries.{journal_with}
use Rattle.journaled_entries.specs.Deposited.{IsJournaledThen}
use Rattle.journaled_entries.proofs.DepositedLemmas.{journaled-append}
use Rattle.replayed_histories.proofs.ListLemmas.{all-append, drop-none}
use Rattle.replayed_histories.specs.Replayed.{IsHeldWithin, IsLeftBy, IsReplayed, StandsAs}
use Rattle.replayed_histories.specs.Deposits.{DraftsLeave, MayBeDeposited}

-- ---- limits

-- a member that the catalogue has is one that is held
found-within : (left : Standing) (state : ℕ → List Slot) (members : List HeldMember) (number : ℕ) (member : CatalogMember)
    → find (has_number (Some number)) (map catalog_member members) ≡ Some member → AllByRecursion (IsHeldWithin left) members
    → AllByRecursion (λ (m : HeldMember). m.slots ≡ state m.number) members
    → IsMember (record { record_length = record_length descriptions (catalogue_in left) member; slots = state member.number })
found-within left state [] number member h within same = absurd cc
found-within left state (m ∷ members) number member h within same =
    by (has_number (Some number) (catalog_member m)) h (λ g. found-within left state members number member g within.1 same.1)
  where
    by : (b : Bool) → cond b (Some (catalog_member m)) (find (has_number (Some number)) (map catalog_member members)) ≡ Some member
        → (find (has_number (Some number)) (map catalog_member members) ≡ Some member
        → IsMember (record { record_length = record_length descriptions (catalogue_in left) member; slots = state member.number }))
        → IsMember (record { record_length = record_length descriptions (catalogue_in left) member; slots = state member.number })
    by true h rest =
        let e : catalog_member m ≡ member = cc in
        subst (λ (x : CatalogMember). IsMember (record { record_length = record_length descriptions (catalogue_in left) x; slots = state x.number })) e
        (subst (λ (slots : List Slot). IsMember (record { record_length = record_length descriptions (catalogue_in left) (catalog_member m); slots = slots })) same.0 within.0)
    by false h rest = rest h

within-limits : (left : Standing) (entries : List Entry) → IsLeft descriptions (λ member. 0) (journal_with entries) left → AllByRecursion (IsHeldWithin left) left.members
    → AreWithinLimits descriptions (journal_with entries)
within-limits left entries is within member there =
    subst (λ (c : Catalogue). member_numbered (Some member.number) c ≡ Some member
    → IsMember (record { record_length = record_length descriptions c member; slots = (state_of (journal_with entries) member.number).slots }))
    is.catalogue
    (λ found. found-within left (λ number. (state_of (journal_with entries) number).slots) left.members member.number member found within is.slots) there

-- ---- an entry more

pub one-left : (entries : List Entry) (left : Standing) (e : Entry) → IsLeftBy entries left → MayBeDeposited left e → IsLeftBy (entries ++ e ∷ []) (standing_after e left)
one-left entries left e by may =
    let later = left-after descriptions (λ member. 0) (journal_with entries) left by.replays e may.next in
    record {
      replays = later;
      limits = limits-push descriptions (journal_with entries) e by.limits (within-limits (standing_after e left) (entries ++ e ∷ []) later may.within);
      within = may.within;
      deposited = record {
        placed = all-append (λ (x : Entry). IsTrue (is_placed x)) entries (e ∷ []) by.deposited.placed (may.placed, tt);
        journaled = journaled-append empty_catalogue entries e by.deposited.journaled
            (subst (λ (c : Catalogue). IsJournaledThen c e) by.replays.catalogue may.journaled);
      };
    }

-- ---- drafts

pub drafts-left : (drafts : List Draft) (entries : List Entry) (left to : Standing) → IsLeftBy entries left → DraftsLeave left drafts to
    → IsLeftBy (entries ++ numbered_from left.next drafts) to
drafts-left [] entries left to by leave =
    subst (λ (l : Standing). IsLeftBy (entries ++ []) l) (sym leave) (subst (λ (es : List Entry). IsLeftBy es left) (sym (append-nil entries)) by)
drafts-left (d ∷ drafts) entries left to by leave =
    subst (λ (es : List Entry). IsLeftBy es to) (append_assoc entries (numbered d left.next ∷ []) (numbered_from (left.next + 1) drafts))
    (drafts-left drafts (entries ++ numbered d left.next ∷ []) (standing_after (numbered d left.next) left) to (one-left entries left (numbered d left.next) by leave.0) leave.1)

-- ---- the library after a change

pub next-is : (s : State) (r : IsReplayed s) → s.gone + length s.entries + 1 ≡ r.left.next
next-is s r = let n : r.left.next ≡ 0 + length s.entries + 1 = r.journal.replays.next in let g = r.gone in omega (arith, n, g)

pub replays-kept : (s : State) (r : IsReplayed s) (drafts : List Draft) (forced : Bool) (reply : Reply) (m : Memory) (to : Standing) → m.gone ≡ s.gone → m.checkpoint ≡ 0
    → m.last_entry ≡ s.gone + length s.entries → DraftsLeave r.left drafts to → to.begun ≡ None → StandsAs to m.files m.members m.next_member m.jobs
    → IsReplayed (after s (journaled drafts forced reply m))
replays-kept s r drafts forced reply m to gone checkpoint last leave whole stands = record {
  gone = gone ∙ r.gone;
  checkpoint = checkpoint;
  left = to;
  journal = subst (λ (es : List Entry). IsLeftBy es to) (sym entries_are) (drafts-left drafts s.entries r.left to r.journal leave);
  whole = whole;
  stands = stands;
} where
  entries_are : (after s (journaled drafts forced reply m)).entries ≡ s.entries ++ numbered_from r.left.next drafts
  entries_are =
      drop-none (m.gone - s.gone) (s.entries ++ numbered_from (m.last_entry + 1) drafts) (omega (arith, gone))
      ∙ ap (λ (n : ℕ). s.entries ++ numbered_from n drafts) (ap (λ (n : ℕ). n + 1) last ∙ next-is s r)
