-- That the journal still agrees after a change: what a change owes of each member and place, and what it owes of the jobs.
use Rattle.std.proofs.Common.{◌≡◌, ℕ, ◌+◌, ◌-◌, Bool, true, false, List, [], ◌∷◌, ◌++◌, Option, Some, None, unwrap_or, refl, sym, ap, ◌∙◌, subst, arith}
use Rattle.std.specs.List.{AllByRecursion}
use Rattle.std.specs.Option.{is_some}
use Rattle.entry_codec.specs.declared.entries.Entry.{Entry}
use Rattle.entry_codec.specs.declared.entries.Draft.{Draft}
use Rattle.member_slots.specs.declared.slot.Slot.{Slot}
use Rattle.member_slots.specs.Member.{MemberState, empty_member}
use Rattle.member_slots.specs.Members.{NumberedMembers, member_at, member_of}
use Rattle.journal_model.specs.Acts.{acts, entry_before}
use Rattle.journal_model.specs.AtSequence.{known_after, IsChained, IsSo}
use Rattle.journal_model.specs.Places.{slot_of}
use Rattle.journal_model.specs.Rollback.{MemberChange, numbered_from}
use Rattle.journal_model.proofs.MemberLemmas.{acts-append}
use Rattle.library_model.specs.Named.{Named}
use Rattle.library_model.specs.declared.replies.Reply.{Reply}
use Rattle.library_steps.specs.State.{State, Memory, FileState, OpenState, JobState, memory_of}
use Rattle.library_steps.specs.Uses.{changes_in}
use Rattle.library_steps.specs.Change.{journaled}
use Rattle.library_steps.specs.SlotChange.{images_of}
use Rattle.range_histories.specs.Agreed.{Agrees, AreAllJournaled, StaysJournaled, is_journaled}
use Rattle.range_histories.specs.Sound.{after}
use Rattle.range_histories.proofs.HistoryLemmas.{drop-none}
use Rattle.journal_kept.proofs.KnownLemmas.{known_after-append, IsChained-append}
use Rattle.journal_kept.proofs.DraftLemmas.{DraftsLead, IsSilent, SlotLeads, drafts-silent}

-- what the kept entries tell of a record, and the last of them
abbrev pub known_of : State → (member place : ℕ) → Option Slot
known_of s member place = known_after place None (acts member None s.entries)

abbrev pub last_of : State → Option Entry
last_of s = entry_before None s.entries

pub nothing-there : {A : Type 0} (o : Option A) → is_some o ≡ false → o ≡ None
nothing-there None h = refl
nothing-there (Some a) h = absurd cc

-- ---- what drafts owe of one record

pub record IsFollowed (s : State) (drafts : List Draft) (members : NumberedMembers) (files : Named FileState) (member place : ℕ) : Type 0 where
  pub to : Option Slot
  pub lead : DraftsLead member place (known_of s member place) drafts to
  pub so : is_some (member_at member members) ≡ true → IsSo to (slot_of (member_of member members).slots place)
  pub silent : is_some (member_at member members) ≡ true → is_journaled member files ≡ false → to ≡ None

-- the journal agrees after drafts that owe nothing more
pub kept-journaled : (s : State) (drafts : List Draft) (forced : Bool) (reply : Reply) (m : Memory) → Agrees s → m.gone ≡ s.gone
    → ((member place : ℕ) → IsFollowed s drafts m.members m.files member place) → AllByRecursion (StaysJournaled m.files) m.jobs → Agrees (after s (journaled drafts forced reply m))
kept-journaled s drafts forced reply m agrees gone follows committed = record {
  chained = λ member place.
      let f = follows member place in
      subst (IsChained place None) (sym (all member))
      (IsChained-append place None (acts member None s.entries) (acts member (last_of s) (numbered_from (m.last_entry + 1) drafts)) (agrees.chained member place)
      (f.lead.lead (last_of s) (m.last_entry + 1)).chained);
  told = λ member place there.
      let f = follows member place in
      let now = known member place f in
      record {
        so = subst (λ (k : Option Slot). IsSo k (slot_of (member_of member m.members).slots place)) (sym now) (f.so there);
        silent = λ none. now ∙ f.silent there (ap is_some none);
      };
  committed = committed;
} where
  all : (member : ℕ) → acts member None (after s (journaled drafts forced reply m)).entries ≡ acts member None s.entries ++ acts member (last_of s) (numbered_from (m.last_entry + 1) drafts)
  all member =
      ap (acts member None) (drop-none (m.gone - s.gone) (s.entries ++ (numbered_from (m.last_entry + 1) drafts)) (omega (arith, gone)))
      ∙ acts-append member None s.entries (numbered_from (m.last_entry + 1) drafts)

  known : (member place : ℕ) (f : IsFollowed s drafts m.members m.files member place) → known_after place None (acts member None (after s (journaled drafts forced reply m)).entries) ≡ f.to
  known member place f =
      ap (known_after place None) (all member)
      ∙ known_after-append place None (acts member None s.entries) (acts member (last_of s) (numbered_from (m.last_entry + 1) drafts))
      ∙ (f.lead.lead (last_of s) (m.last_entry + 1)).after

-- ---- a record that drafts leave alone

pub stays-followed : (s : State) (drafts : List Draft) (members : NumberedMembers) (files : Named FileState) (member place : ℕ) → Agrees s → AllByRecursion (IsSilent member) drafts
    → (is_some (member_at member members) ≡ true → member_at member s.members ≡ member_at member members)
    → (is_some (member_at member members) ≡ true → is_journaled member files ≡ false → is_journaled member s.files ≡ false)
    → IsFollowed s drafts members files member place
stays-followed s drafts members files member place agrees quiet same off = record {
  to = known_of s member place;
  lead = drafts-silent member place (known_of s member place) drafts quiet;
  so = λ there.
      let was = ap is_some (same there) ∙ there in
      subst (λ (o : Option MemberState). IsSo (known_of s member place) (slot_of (unwrap_or o (empty_member 0)).slots place)) (same there) (agrees.told member place was).so;
  silent = λ there none.
      let was = ap is_some (same there) ∙ there in
      (agrees.told member place was).silent (nothing-there (images_of member (memory_of s)) (off there none));
}

-- nothing changes but jobs and locks
pub all-stay : (s : State) (drafts : List Draft) → Agrees s → ((member : ℕ) → AllByRecursion (IsSilent member) drafts) → (member place : ℕ) → IsFollowed s drafts s.members s.files member place
all-stay s drafts agrees quiet member place = stays-followed s drafts s.members s.files member place agrees (quiet member) (λ there. refl) (λ there none. none)

-- ---- a journaled member whose slots are given

pub given-followed : (s : State) (drafts : List Draft) (members : NumberedMembers) (files : Named FileState) (member place : ℕ) (slot : Slot)
    → SlotLeads member place (known_of s member place) drafts slot → slot ≡ slot_of (member_of member members).slots place → is_journaled member files ≡ true
    → IsFollowed s drafts members files member place
given-followed s drafts members files member place slot leads is on = record {
  to = leads.to;
  lead = leads.lead;
  so = λ there. subst (IsSo leads.to) is leads.so;
  silent = λ there none. absurd cc;
}

-- ---- a member of which nothing is known any more

pub broken-followed : (s : State) (drafts : List Draft) (members : NumberedMembers) (files : Named FileState) (member place : ℕ) → DraftsLead member place (known_of s member place) drafts None
    → IsFollowed s drafts members files member place
broken-followed s drafts members files member place lead = record { to = None; lead = lead; so = λ there. tt; silent = λ there none. refl }

-- ---- the jobs

pub wider-jobs : (files later : Named FileState) (jobs : List JobState) → ((number : ℕ) → is_journaled number files ≡ true → is_journaled number later ≡ true)
    → AllByRecursion (StaysJournaled files) jobs
    → AllByRecursion (StaysJournaled later) jobs
wider-jobs files later [] wider all = tt
wider-jobs files later (job ∷ jobs) wider all =
    (record { opens = opens job.opens all.0.opens; changes = changes (changes_in job.cycle) all.0.changes }, wider-jobs files later jobs wider all.1)
  where
    members : (numbers : List ℕ) → AreAllJournaled files numbers → AreAllJournaled later numbers
    members [] each = tt
    members (number ∷ numbers) each = (wider number each.0, members numbers each.1)

    opens : (entries : Named OpenState) → AllByRecursion (λ (entry : List ℕ × OpenState). entry.1.commit ≡ true → AreAllJournaled files entry.1.members) entries
        → AllByRecursion (λ (entry : List ℕ × OpenState). entry.1.commit ≡ true → AreAllJournaled later entry.1.members) entries
    opens [] each = tt
    opens (entry ∷ entries) each = ((λ c. members entry.1.members (each.0 c)), opens entries each.1)

    changes : (undos : List MemberChange) → AllByRecursion (λ (undo : MemberChange). is_journaled undo.member files ≡ true) undos
        → AllByRecursion (λ (undo : MemberChange). is_journaled undo.member later ≡ true) undos
    changes [] each = tt
    changes (undo ∷ undos) each = (wider undo.member each.0, changes undos each.1)
