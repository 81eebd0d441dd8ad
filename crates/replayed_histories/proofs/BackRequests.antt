-- ROLLBACK and ENDJOB: each change of the job's open commit cycle is taken back, the last one first, and the cycle ends.
use Rattle.std.proofs.Common.{◌≡◌, ◌⊎◌, ℕ, ◌+◌, ◌-◌, ◌<◌, ◌≤◌, ◌==◌, ◌&&◌, ◌||◌, nat_lt, not, Bool, true, false, cond, IfSome, IsTrue, Option, Some, None, Ok, List, [], ◌∷◌, ◌++◌, length, slice_get, inl, inr, refl, sym, ap, ◌∙◌, subst, arith}
use Rattle.std.specs.List.{AllByRecursion, filter}
use Rattle.std.proofs.lemmas.Bool.{and_from, cases_eq, eq-eqb, eqb-true, ne_eqb}
use Rattle.std.proofs.lemmas.Bool.Decides.{nat_tests}
use Rattle.std.proofs.lemmas.List.{append-nil}
use Rattle.commit_level.specs.declared.Level.{Level}
use Rattle.entry_codec.specs.declared.entries.Entry.{Entry}
use Rattle.entry_codec.specs.declared.entries.Draft.{Draft}
use Rattle.entry_codec.specs.declared.kinds.EntryKind.{EntryKind}
use Rattle.entry_codec.specs.declared.kinds.EntryKind.TheVariants.{CommitCycleRolledBack, CommitmentEnded, UndoAfterImage, UndoBeforeImage, UndoDelete}
use Rattle.entry_codec.specs.Drafts.{numbered}
use Rattle.entry_codec.specs.Placing.{is_placed_at, place}
use Rattle.entry_codec.specs.declared.places.Place.TheVariants.{Record}
use Rattle.lock_table.specs.declared.lock.Lock.{Lock}
use Rattle.lock_table.specs.declared.levels.Call.TheVariants as calls
use Rattle.member_slots.specs.declared.slot.Slot.{Slot}
use Rattle.member_slots.specs.declared.slot.Slot.TheVariants.{Live, Deleted}
use Rattle.member_slots.specs.Member.{MemberState, changed, is_live}
use Rattle.member_slots.specs.Members.{NumberedMembers, member_of}
use Rattle.journal_model.specs.Acts.{Act, Changed, Change, Nothing, act_there, is_number}
use Rattle.journal_model.specs.Catalogue.{member_numbered}
use Rattle.journal_model.specs.Images.{AreRecordsOf, images_of}
use Rattle.journal_model.specs.Journal.{acts_after, start_of, state_of}
use Rattle.journal_model.specs.Pairs.{EndsPair, pair_begun}
use Rattle.journal_model.specs.Places.{put_slot, slot_of}
use Rattle.journal_model.specs.Replay.{back, before_of, is_in, is_other}
use Rattle.journal_model.specs.Replayable.{IsAlone, IsOpen, is_one_of}
use Rattle.journal_model.specs.Restart.{inverse}
use Rattle.journal_model.specs.Rollback as model
use Rattle.journal_model.specs.Rollback.{MemberChange, change_drafts, is_real, of_member, undo_drafts, undo_kinds, undos_of}
use Rattle.journal_model.proofs.EachLemmas.{each-filter}
use Rattle.journal_model.proofs.LibraryLemmas.{IsLinked, linked}
use Rattle.journal_model.proofs.PlaceLemmas.{slot_of-put_other, slot_of-put_same}
use Rattle.journal_model.proofs.RollbackLemmas.{of_member-filter}
use Rattle.journal_model.proofs.SoundLemmas.{Solo, sound-replay, sound-start}
use Rattle.journal_replay.specs.Standing.{HeldMember, Standing, catalogue_in, members_by, slots_at, standing_after}
use Rattle.lawful_states.specs.Owners.{Owns}
use Rattle.library_model.specs.Named.{Named}
use Rattle.library_model.specs.declared.replies.Reply.TheVariants.{Done, NoDefinition}
use Rattle.restart_laws.proofs.ResultLemmas.{does-each}
use Rattle.lawful_states.specs.Back.{member_back, members_back}
use Rattle.lawful_states.specs.Lawful.{CycleGoesBack, FitsPlace, GoesBack}
use Rattle.lawful_states.proofs.BoundaryLemmas.{cycle_back-is, cycle-places, places-back}
use Rattle.lawful_states.proofs.MemberLemmas.{AllByRecursion-get}
use Rattle.library_steps.specs.State.{CycleState, FileState, JobState, Memory, State, job_changed, job_of, memory_of, with_job, with_opens}
use Rattle.library_steps.specs.Change.{journaled}
use Rattle.library_steps.specs.Change as steps
use Rattle.library_steps.specs.Refusals.{found}
use Rattle.library_steps.specs.Uses as uses
use Rattle.library_steps.specs.Drafts.{Author, author_of, library_draft}
use Rattle.library_steps.specs.Locking.{with_locks}
use Rattle.library_steps.specs.Commitment.{boundary_locks, changes_of, rollback, rollback_change, rolled_back_open, taken_back, undo_entries, without_cycle}
use Rattle.library_steps.specs.EndJob.{definition_entries, end_change, end_drafts, end_job, ended_job}
use Rattle.joint_state.specs.Agreed.{StaysJournaled, is_journaled}
use Rattle.joint_state.specs.Cycles.{StandAsMade}
use Rattle.joint_state.specs.Sound.{IsSound, after}
use Rattle.named_bases.specs.Libraries.{journal_with}
use Rattle.named_bases.specs.Sources.{descriptions}
use Rattle.replayed_histories.specs.Replayed.{BeganBefore, CyclesStand, HasItsChanges, IsHeldWithin, IsReplayed, StandsAs, changes_in}
use Rattle.replayed_histories.specs.Deposits.{MayBeDeposited, moved_on}
use Rattle.replayed_histories.proofs.CommitRequests.{cycle_gone}
use Rattle.replayed_histories.proofs.CycleLemmas.{holds-one, is-one, none-ends, one-ends, without}
use Rattle.replayed_histories.proofs.DepositLemmas.{replays-kept}
use Rattle.replayed_histories.proofs.GivenChanges.{changed-put, few-same, given-after, given-may, given-stands, given_then, length-put, placed-record, slots-then-other, slots-then-own}
use Rattle.replayed_histories.proofs.GivenEntries.{IsOfRecord, Leads, by-nothing, draft_by, entry-after, leads-append, leads-more, leads-none, may-deposit, undo_after-of, undo_before-of, undo_delete-of}
use Rattle.replayed_histories.proofs.GivenHomes.{IsHome, held-stand, home-suits, homes}
use Rattle.replayed_histories.proofs.GivenMembers.{AreFew, AtNumber, HeldStand, Suits, all-one, at-number-then, catalogued, held-same, held-there, image-suits, images-there, library-slots, slot-suits, stands-as}
use Rattle.replayed_histories.proofs.QuietLemmas.{ended-quiet, made, members-stay, no-records, quiet-after, quiet-may, standing-same}
use Rattle.replayed_histories.proofs.StandsLemmas.{stands-on}

-- ---- the changes of one member

own-places : (undos : List Change) → Solo undos → AllByRecursion (λ (c : Change). AllByRecursion (λ (d : Change). d.place ≡ c.place → d.cycle ≡ c.cycle) undos) undos
own-places [] solo = tt
own-places (c ∷ undos) solo = (((λ same. refl), solo.0), both undos solo.0 (own-places undos solo.1)) where
  both : (us : List Change) → IsAlone c us → AllByRecursion (λ (e : Change). AllByRecursion (λ (d : Change). d.place ≡ e.place → d.cycle ≡ e.cycle) undos) us
      → AllByRecursion (λ (e : Change). AllByRecursion (λ (d : Change). d.place ≡ e.place → d.cycle ≡ e.cycle) (c ∷ undos)) us
  both [] alone all = tt
  both (e ∷ us) alone all = (((λ same. sym (alone.0 (sym same))), all.0), both us alone.1 all.1)

some-number : (cycle : Option ℕ) (n : ℕ) → is_number cycle n ≡ true → cycle ≡ Some n
some-number None n is = absurd cc
some-number (Some m) n is = ap Some (eqb-true m n is)

pub in-own : (n : ℕ) (cycle : Option ℕ) → cycle ≡ Some n → is_number cycle n ≡ true
in-own n cycle own = ap (λ (o : Option ℕ). is_number o n) own ∙ eq-eqb n n refl

-- those that are still to be taken back are alone at their places, and lead where all of the cycle do
pub record Back (n : ℕ) (us : List Change) (slots : List Slot) (undos : List Change) : Type 0 where
  pub alone : AllByRecursion (λ (c : Change). AllByRecursion (λ (d : Change). d.place ≡ c.place → d.cycle ≡ Some n) undos) us
  pub same : (at : ℕ) → back at (filter (is_in n) undos) (slot_of slots at) ≡ back at us (slot_of slots at)

back-start : (n : ℕ) (slots : List Slot) (undos : List Change) → Solo undos → Back n (filter (is_in n) undos) slots undos
back-start n slots undos solo = record {
  alone = each-filter (λ (c : Change). AllByRecursion (λ (d : Change). d.place ≡ c.place → d.cycle ≡ c.cycle) undos)
      (λ (c : Change). AllByRecursion (λ (d : Change). d.place ≡ c.place → d.cycle ≡ Some n) undos) (is_in n) undos
      (λ c is all. subst (λ (o : Option ℕ). AllByRecursion (λ (d : Change). d.place ≡ c.place → d.cycle ≡ o) undos) (some-number c.cycle n is) all) (own-places undos solo);
  same = λ at. refl;
}

back-step : (n : ℕ) (c : Change) (us : List Change) (slots : List Slot) (undos : List Change) → c.cycle ≡ Some n → slot_of slots c.place ≡ c.after → Back n (c ∷ us) slots undos
    → Back n us (put_slot slots c.place (before_of c)) (inverse c ∷ undos)
back-step n c us slots undos own stood b = record {
  alone = all-one (λ (e : Change). AllByRecursion (λ (d : Change). d.place ≡ e.place → d.cycle ≡ Some n) undos)
      (λ (e : Change). AllByRecursion (λ (d : Change). d.place ≡ e.place → d.cycle ≡ Some n) (inverse c ∷ undos)) us (λ e all. ((λ same. own), all)) b.alone.1;
  same = λ at.
      ap (λ (t : Bool). back at (cond t (inverse c ∷ filter (is_in n) undos) (filter (is_in n) undos)) (now at)) (in-own n c.cycle own)
      ∙ ap (back at (filter (is_in n) undos)) (was at (cases_eq c.place at)) ∙ b.same at ∙ ap (back at us) (is at (cases_eq c.place at));
} where
  now : ℕ → Slot
  now at = slot_of (put_slot slots c.place (before_of c)) at

  was : (at : ℕ) → (c.place ≡ at) ⊎ (c.place ≡ at → ⊥) → cond (c.place == at) c.after (slot_of (put_slot slots c.place (before_of c)) at) ≡ slot_of slots at
  was at (inl e) = ap (λ (t : Bool). cond t c.after (slot_of (put_slot slots c.place (before_of c)) at)) (eq-eqb c.place at e) ∙ sym stood ∙ ap (slot_of slots) e
  was at (inr differs) =
      ap (λ (t : Bool). cond t c.after (slot_of (put_slot slots c.place (before_of c)) at)) (ne_eqb c.place at differs) ∙ slot_of-put_other slots c.place at (before_of c) differs

  is : (at : ℕ) → (c.place ≡ at) ⊎ (c.place ≡ at → ⊥) → cond (c.place == at) (before_of c) (slot_of slots at) ≡ slot_of (put_slot slots c.place (before_of c)) at
  is at (inl e) =
      ap (λ (t : Bool). cond t (before_of c) (slot_of slots at)) (eq-eqb c.place at e)
      ∙ sym (slot_of-put_same slots c.place (before_of c)) ∙ ap (slot_of (put_slot slots c.place (before_of c))) e
  is at (inr differs) =
      ap (λ (t : Bool). cond t (before_of c) (slot_of slots at)) (ne_eqb c.place at differs) ∙ sym (slot_of-put_other slots c.place at (before_of c) differs)

-- ---- amid a rollback

module _ (start : Standing) (n : ℕ) (some : 1 ≤ n) (begun : is_one_of start.cycles n ≡ true) (files : Named FileState) (next_member : ℕ) (job : Option (List ℕ)) (moment : ℕ) where
  pub record IsAmid (undos : List MemberChange) (members : NumberedMembers) (left : Standing) : Type 0 where
    pub stands : HeldStand left files members next_member
    pub cycles : left.cycles ≡ start.cycles
    pub others : without n left.undos ≡ without n start.undos
    pub older : start.next ≤ left.next
    pub backs : (k : ℕ) → Back n (of_member k undos) (slots_at k left.members) (of_member k left.undos)
    pub made : StandAsMade undos members
    pub places : AllByRecursion (FitsPlace members) undos
    pub own : AllByRecursion (λ (undo : MemberChange). undo.change.cycle ≡ Some n) undos
    pub on : AllByRecursion (λ (undo : MemberChange). is_journaled undo.member files ≡ true) undos
    pub suits : AllByRecursion (λ (undo : MemberChange). AllByRecursion (AtNumber undo.member (λ m. Suits left.files m.file (before_of undo.change))) left.members) undos
    pub real : AllByRecursion (λ (undo : MemberChange). IsTrue (is_real undo.change)) undos

  -- no pair of images is begun
  pub record IsAmidWhole (undos : List MemberChange) (members : NumberedMembers) (left : Standing) : Type 0 where
    pub amid : IsAmid undos members left
    pub whole : left.begun ≡ None

  -- after an entry that does nothing
  amid-same : (left : Standing) (pair : Option Entry) (undos : List MemberChange) (members : NumberedMembers) → IsAmid undos members left
      → IsAmid undos members (made (left.next + 1) pair left.files left.members left.next_member left.cycles left.undos)
  amid-same left pair undos members a = record {
    stands = held-same left (left.next + 1) pair left.cycles left.undos files members next_member a.stands;
    cycles = a.cycles;
    others = a.others;
    older = let old = a.older in omega (arith, old);
    backs = a.backs;
    made = a.made;
    places = a.places;
    own = a.own;
    on = a.on;
    suits = a.suits;
    real = a.real;
  }

  -- ---- one change

  module _ (left : Standing) (undo : MemberChange) (undos : List MemberChange) (members : NumberedMembers) (a : IsAmid (undo ∷ undos) members left) where
    abbrev k : ℕ
    k = undo.member

    abbrev c : Change
    c = inverse undo.change

    abbrev item : MemberState
    item = changed (member_of k members) (undo.change.place + 1) (before_of undo.change)

    own_slots : slots_at k left.members ≡ (member_of k members).slots
    own_slots = library-slots left files members next_member a.stands k a.on.0 a.places.0.there

    stood : slot_of (member_of k members).slots undo.change.place ≡ undo.change.after
    stood = a.made.0

    put : item.slots ≡ put_slot (member_of k members).slots undo.change.place (before_of undo.change)
    put = changed-put (member_of k members) undo.change.place (before_of undo.change) a.places.0.place

    long : length item.slots ≡ length (member_of k members).slots
    long = ap (λ (slots : List Slot). length slots) put ∙ length-put (member_of k members).slots undo.change.place (before_of undo.change) a.places.0.place

    few : AllByRecursion (AtNumber k (AreFew left (length item.slots))) left.members
    few = few-same left files members next_member a.stands k a.on.0 a.places.0.there item long

    own_first : (k == k) ≡ true
    own_first = grind (arith, nat_tests)

    -- its own member's changes, that first
    back_own : Back n (undo.change ∷ of_member k undos) (slots_at k left.members) (of_member k left.undos)
    back_own =
        subst (λ (us : List Change). Back n us (slots_at k left.members) (of_member k left.undos))
        (ap (λ (b : Bool). cond b (undo.change ∷ of_member k undos) (of_member k undos)) own_first) (a.backs k)

    alone : IsAlone c (of_member k left.undos)
    alone =
        all-one (λ (d : Change). d.place ≡ undo.change.place → d.cycle ≡ Some n) (λ (d : Change). d.place ≡ undo.change.place → d.cycle ≡ undo.change.cycle) (of_member k left.undos)
        (λ d its same. its same ∙ sym a.own.0) back_own.alone.0

    module _ (kind : EntryKind) (its : IsOfRecord kind) (place_is : place kind ≡ Record) (unpaired : pair_begun kind ≡ None)
        (reads : act_there kind left.begun (numbered (draft_by job moment undo.change.cycle k (Some (undo.change.place + 1)) kind) left.next) ≡ Changed c) where
      abbrev to : Standing
      to = given_then left files members next_member a.stands k a.on.0 a.places.0.there job moment kind its place_is unpaired c n a.own.0 reads item put a.suits.0 few

      backs-then : (other : ℕ) → Back n (of_member other undos) (slots_at other to.members) (of_member other to.undos)
      backs-then other = by (k == other) refl (a.backs other) where
        by : (b : Bool) → (k == other) ≡ b → Back n (cond b (undo.change ∷ of_member other undos) (of_member other undos)) (slots_at other left.members) (of_member other left.undos)
            → Back n (of_member other undos) (slots_at other to.members) (cond b (c ∷ of_member other left.undos) (of_member other left.undos))
        by true is old =
            let same : k ≡ other = eqb-true k other is in
            let stays : slots_at other to.members ≡ put_slot (slots_at other left.members) undo.change.place (before_of undo.change) =
            subst (λ (o : ℕ). slots_at o to.members ≡ put_slot (slots_at o left.members) undo.change.place (before_of undo.change)) same
            (slots-then-own k (Changed c) left.next left.members (held-there left files members next_member a.stands k a.on.0 a.places.0.there))
            in
            subst (λ (slots : List Slot). Back n (of_member other undos) slots (c ∷ of_member other left.undos)) (sym stays)
            (back-step n undo.change (of_member other undos) (slots_at other left.members) (of_member other left.undos) a.own.0
            (subst (λ (o : ℕ). slot_of (slots_at o left.members) undo.change.place ≡ undo.change.after) same (ap (λ (slots : List Slot). slot_of slots undo.change.place) own_slots ∙ stood)) old)
        by false is old =
            subst (λ (slots : List Slot). Back n (of_member other undos) slots (of_member other left.undos)) (sym (slots-then-other k (Changed c) left.next other left.members is)) old

      undone-then : IsAmidWhole undos (member_back undo members) to
      undone-then = record {
        amid = record {
          stands = given-stands left files members next_member a.stands k a.on.0 a.places.0.there job moment kind its place_is unpaired c n a.own.0 reads item put a.suits.0 few;
          cycles = a.cycles;
          others = ap (λ (b : Bool). cond (not b) (record { member = k; change = c } ∷ without n left.undos) (without n left.undos)) (in-own n undo.change.cycle a.own.0) ∙ a.others;
          older = let old = a.older in omega (arith, old);
          backs = backs-then;
          made = a.made.1;
          places = places-back members undo undos a.places.1;
          own = a.own.1;
          on = a.on.1;
          suits = all-one (λ (other : MemberChange). AllByRecursion (AtNumber other.member (λ m. Suits left.files m.file (before_of other.change))) left.members)
              (λ (other : MemberChange). AllByRecursion (AtNumber other.member (λ m. Suits left.files m.file (before_of other.change))) to.members) undos
              (λ other all. at-number-then left files members next_member a.stands k a.on.0 a.places.0.there (Changed c) left.next undo.change.place (before_of undo.change) item
              (λ o. refl) (λ slots. refl) put a.suits.0 few other.member (λ m. Suits left.files m.file (before_of other.change)) (λ m its. its) all) a.suits.1;
          real = a.real.1;
        };
        whole = refl;
      }

      undone-leads : EndsPair left.begun (numbered (draft_by job moment undo.change.cycle k (Some (undo.change.place + 1)) kind) left.next)
          → AreRecordsOf descriptions (catalogue_in left) (member_numbered (Some k) (catalogue_in left)) (images_of kind)
          → Leads left (draft_by job moment undo.change.cycle k (Some (undo.change.place + 1)) kind ∷ []) (IsAmidWhole undos (member_back undo members))
      undone-leads pairs records =
          leads-more left (draft_by job moment undo.change.cycle k (Some (undo.change.place + 1)) kind) [] (IsAmidWhole undos (member_back undo members))
          (given-may left files members next_member a.stands k a.on.0 a.places.0.there job moment kind its place_is unpaired c n a.own.0 reads item put a.suits.0 few
          (ap (λ (cycles : List ℕ). is_one_of cycles n) a.cycles ∙ begun) some (let within = a.places.0.place in omega (arith, within)) stood alone pairs records)
          (subst (λ (l : Standing). Leads l [] (IsAmidWhole undos (member_back undo members)))
          (sym (given-after left files members next_member a.stands k a.on.0 a.places.0.there job moment kind its place_is unpaired c n a.own.0 reads item put a.suits.0 few))
          (leads-none to (IsAmidWhole undos (member_back undo members)) undone-then))

    -- what stands there is a record
    after-suits : (image : List ℕ) → Live image ≡ undo.change.after → AreRecordsOf descriptions (catalogue_in left) (member_numbered (Some k) (catalogue_in left)) (image ∷ [])
    after-suits image is =
        image-suits left k image
        (subst (λ (slot : Slot). AllByRecursion (AtNumber k (λ m. Suits left.files m.file slot)) left.members) (stood ∙ sym is)
        (slot-suits left files members next_member a.stands k a.on.0 a.places.0.there undo.change.place))

    before-suits : (image : List ℕ) → Live image ≡ before_of undo.change → AreRecordsOf descriptions (catalogue_in left) (member_numbered (Some k) (catalogue_in left)) (image ∷ [])
    before-suits image is =
        image-suits left k image (subst (λ (slot : Slot). AllByRecursion (AtNumber k (λ m. Suits left.files m.file slot)) left.members) (sym is) a.suits.0)

    same_place : undo.change.place + 1 - 1 ≡ undo.change.place
    same_place = omega arith

    given_change : (given was : Slot) → given ≡ before_of undo.change → was ≡ undo.change.after
        → ◌≡◌ {A = Act} (Changed (record { place = undo.change.place + 1 - 1; cycle = undo.change.cycle; before = Some was; after = given })) (Changed c)
    given_change given was eb ew = λ i. Changed (record { place = same_place i; cycle = undo.change.cycle; before = Some (ew i); after = eb i })

  -- ---- by what stood there before and after

  module _ (left : Standing) (undo : MemberChange) (undos : List MemberChange) (members : NumberedMembers) (a : IsAmid (undo ∷ undos) members left) (whole : left.begun ≡ None) where
    abbrev rrn : Option ℕ
    rrn = Some (undo.change.place + 1)

    no_pair : (e : Entry) → EndsPair None e → EndsPair left.begun e
    no_pair e ends = subst (λ (o : Option Entry). EndsPair o e) (sym whole) ends

    added-back : (image : List ℕ) → Live image ≡ before_of undo.change → Deleted ≡ undo.change.after
        → Leads left (draft_by job moment undo.change.cycle undo.member rrn (UndoAfterImage false image) ∷ []) (IsAmidWhole undos (member_back undo members))
    added-back image eb ew =
        undone-leads left undo undos members a (UndoAfterImage false image) (undo_after-of false image) refl refl (given_change left undo undos members a (Live image) Deleted eb ew)
        (no_pair _ refl) (before-suits left undo undos members a image eb)

    deleted-back : (image : List ℕ) → Deleted ≡ before_of undo.change → Live image ≡ undo.change.after
        → Leads left (draft_by job moment undo.change.cycle undo.member rrn (UndoDelete image) ∷ []) (IsAmidWhole undos (member_back undo members))
    deleted-back image eb ew =
        undone-leads left undo undos members a (UndoDelete image) (undo_delete-of image) refl refl (given_change left undo undos members a Deleted (Live image) eb ew)
        (no_pair _ refl) (after-suits left undo undos members a image ew)

    module _ (given was : List ℕ) (eb : Live given ≡ before_of undo.change) (ew : Live was ≡ undo.change.after) where
      abbrev first : Entry
      first = numbered (draft_by job moment undo.change.cycle undo.member rrn (UndoBeforeImage was)) left.next

      abbrev middle : Standing
      middle = made (left.next + 1) (Some first) left.files left.members left.next_member left.cycles left.undos

      first-after : standing_after first left ≡ middle
      first-after =
          entry-after left job moment undo.change.cycle undo.member rrn (UndoBeforeImage was) (undo_before-of was) Nothing refl
          ∙ ap (λ (held : List HeldMember). made (left.next + 1) (Some first) left.files held left.next_member left.cycles left.undos) (by-nothing undo.member left.next left.members)

      first-may : MayBeDeposited left first
      first-may =
          may-deposit left job moment undo.change.cycle undo.member rrn (UndoBeforeImage was) (undo_before-of was) Nothing refl
          (catalogued left files members next_member a.stands undo.member a.on.0 a.places.0.there) tt
          (subst (λ (o : Option ℕ). IsOpen left.cycles o) (sym a.own.0) (ap (λ (cycles : List ℕ). is_one_of cycles n) a.cycles ∙ begun)) (no_pair first refl)
          (after-suits left undo undos members a was ew)
          (subst (λ (held : List HeldMember). AllByRecursion (IsHeldWithin left) held) (sym (by-nothing undo.member left.next left.members)) a.stands.within)
          (subst (λ (o : Option ℕ). IsTrue (is_placed_at Record left.next o (Some undo.member) rrn)) (sym a.own.0)
          (placed-record left files members next_member a.stands undo.member a.on.0 a.places.0.there (UndoBeforeImage was) left.next n (undo.change.place + 1) refl some (omega arith)))
          (λ of. images-there left files members next_member a.stands undo.member a.on.0 a.places.0.there)

      own_record : ((undo.member == undo.member) && (undo.change.place + 1 == undo.change.place + 1)) ≡ true
      own_record =
          and_from (undo.member == undo.member) (undo.change.place + 1 == undo.change.place + 1) (eq-eqb undo.member undo.member refl)
          (eq-eqb (undo.change.place + 1) (undo.change.place + 1) refl)

      changed-back : Leads left (draft_by job moment undo.change.cycle undo.member rrn (UndoBeforeImage was) ∷ draft_by job moment undo.change.cycle undo.member rrn (UndoAfterImage true given) ∷ [])
          (IsAmidWhole undos (member_back undo members))
      changed-back =
          let amid = amid-same left (Some first) (undo ∷ undos) members a in
          leads-more left (draft_by job moment undo.change.cycle undo.member rrn (UndoBeforeImage was)) (draft_by job moment undo.change.cycle undo.member rrn (UndoAfterImage true given) ∷ [])
          (IsAmidWhole undos (member_back undo members)) first-may
          (subst (λ (l : Standing). Leads l (draft_by job moment undo.change.cycle undo.member rrn (UndoAfterImage true given) ∷ []) (IsAmidWhole undos (member_back undo members))) (sym first-after)
          (undone-leads middle undo undos members amid (UndoAfterImage true given) (undo_after-of true given) refl refl
          (ap (λ (b : Bool). Changed (record { place = undo.change.place + 1 - 1; cycle = undo.change.cycle; before = cond b (Some (Live was)) None; after = Live given })) own_record
          ∙ given_change left undo undos members a (Live given) (Live was) eb ew)
          (refl, record { job = refl; cycle = refl; member = refl; rrn = refl }) (before-suits left undo undos members a given eb)))

    pub one-back : Leads left (change_drafts job moment undo (undo_kinds (before_of undo.change) undo.change.after)) (IsAmidWhole undos (member_back undo members))
    one-back = by (before_of undo.change) undo.change.after refl refl a.real.0 where
      by : (given was : Slot) → given ≡ before_of undo.change → was ≡ undo.change.after → (is_live (before_of undo.change) || is_live undo.change.after) ≡ true
          → Leads left (change_drafts job moment undo (undo_kinds given was)) (IsAmidWhole undos (member_back undo members))
      by (Live given) (Live was) eb ew real = changed-back given was eb ew
      by (Live given) Deleted eb ew real = added-back given eb ew
      by Deleted (Live was) eb ew real = deleted-back was eb ew
      by Deleted Deleted eb ew real =
          absurd (let none : (is_live Deleted || is_live Deleted) ≡ true =
          ap (λ (slot : Slot). is_live slot || is_live Deleted) eb ∙ ap (λ (slot : Slot). is_live (before_of undo.change) || is_live slot) ew ∙ real in cc)

  -- ---- all of them

  pub all-back : (undos : List MemberChange) (members : NumberedMembers) (left : Standing) → IsAmidWhole undos members left
      → Leads left (undo_drafts job moment undos) (IsAmidWhole [] (members_back undos members))
  all-back [] members left a = leads-none left (IsAmidWhole [] members) a
  all-back (undo ∷ undos) members left a =
      leads-append left (change_drafts job moment undo (undo_kinds (before_of undo.change) undo.change.after)) (undo_drafts job moment undos) (IsAmidWhole undos (member_back undo members))
      (IsAmidWhole [] (members_back undos (member_back undo members))) (one-back left undo undos members a.amid a.whole)
      (λ middle amid. all-back undos (member_back undo members) middle amid)

  -- ---- the end of the commit cycle

  module _ (members : NumberedMembers) (left : Standing) (a : IsAmidWhole [] members left) where
    abbrev ending : Entry
    ending = numbered (model.cycle_draft job moment n CommitCycleRolledBack) left.next

    pub rolled-after : standing_after ending left ≡ cycle_gone n left
    rolled-after =
        standing-same (left.next + 1) None None left.files left.files _ left.members left.next_member left.next_member
        (filter (is_other n) left.cycles) (filter (is_other n) left.cycles) (without n left.undos) (without n left.undos) refl refl
        (append-nil (members_by left.begun ending left.members) ∙ members-stay left.begun ending left.members (λ m. refl)) refl refl refl

    pub rolled-may : MayBeDeposited left ending
    rolled-may =
        let one : is_one_of left.cycles n ≡ true = ap (λ (cycles : List ℕ). is_one_of cycles n) a.amid.cycles ∙ begun in
        record {
          next = record {
            sequence = refl;
            enters = tt;
            replays = λ member. record { begun = one; restored = (a.amid.backs member).same };
            names = λ no. one;
            deletes = λ name is. absurd cc;
            pairs = subst (λ (o : Option Entry). EndsPair o ending) (sym a.whole) refl;
            records = no-records (catalogue_in left) (member_numbered None (catalogue_in left));
          };
          within = subst (λ (l : Standing). AllByRecursion (IsHeldWithin l) l.members) (sym rolled-after) a.amid.stands.within;
          placed = let counted : nat_lt 0 n ≡ true = grind (arith, nat_tests, some) in ap (λ (b : Bool). b && true && true) counted;
          journaled = λ on. absurd cc;
        }

-- ---- the library

-- commit cycles that stand at a later entry
pub cycles-raised : (next higher : ℕ) (cycles : List ℕ) (undos : List MemberChange) (jobs : List JobState) → next ≤ higher → CyclesStand next cycles undos jobs → CyclesStand higher cycles undos jobs
cycles-raised next higher cycles undos jobs low stand = record {
  same = stand.same;
  rising = stand.rising;
  apart = stand.apart;
  begun = all-one (BeganBefore next) (BeganBefore higher) cycles (λ n its. (its.0, let less : n < next = its.1 in omega (arith, less, low))) stand.begun;
  changes = stand.changes;
  owned = stand.owned;
}

-- what a rollback leaves
pub record IsBack (files : Named FileState) (members : NumberedMembers) (next_member : ℕ) (jobs : List JobState) (left : Standing) : Type 0 where
  pub stands : StandsAs left files members next_member jobs
  pub within : AllByRecursion (IsHeldWithin left) left.members
  pub whole : left.begun ≡ None

module _ (s : State) (r : IsReplayed s) where
  links : IsLinked (λ member. state_of (journal_with s.entries) member) (undos_of [] None s.entries)
  links =
      linked s.entries (λ member. start_of (journal_with s.entries) member) [] None (record { cycles = λ member. refl; undos = λ member. refl; real = tt })
      r.journal.replays.so_far.replays

  pub member-solo : (k : ℕ) → Solo (of_member k r.left.undos)
  member-solo k =
      subst Solo (links.undos k ∙ ap (of_member k) (sym r.journal.replays.undos))
      (sound-replay (start_of (journal_with s.entries) k) (acts_after (journal_with s.entries) k) (sound-start 1 []) (r.journal.replays.so_far.replays k)).solo

  pub undos-real : AllByRecursion (λ (undo : MemberChange). IsTrue (is_real undo.change)) r.left.undos
  undos-real = subst (AllByRecursion (λ (undo : MemberChange). IsTrue (is_real undo.change))) (sym r.journal.replays.undos) links.real

  module _ (sound : IsSound s) (job timestamp : ℕ) (there : slice_get s.jobs (job - 1) ≡ Some (job_of job (memory_of s))) where
    abbrev mine : JobState
    mine = job_of job (memory_of s)

    abbrev by : Author
    by = author_of (memory_of s) job timestamp

    goes : CycleGoesBack s.files s.members mine.cycle
    goes = AllByRecursion-get (λ (j : JobState). CycleGoesBack s.files s.members j.cycle) s.jobs (job - 1) mine sound.library.changes there

    made_then : StandAsMade (uses.changes_in mine.cycle) s.members
    made_then = (sound.joint.jobs (job - 1) mine there).made

    journaled_then : AllByRecursion (λ (undo : MemberChange). is_journaled undo.member s.files ≡ true) (uses.changes_in mine.cycle)
    journaled_then = (AllByRecursion-get (StaysJournaled s.files) s.jobs (job - 1) mine sound.agreed.committed there).changes

    changes_then : HasItsChanges r.left.undos mine
    changes_then = AllByRecursion-get (HasItsChanges r.left.undos) s.jobs (job - 1) mine r.stands.cycles_are.changes there

    module _ (change : JobState → JobState) (ends : (change mine).cycle ≡ None) where
      abbrev jobs : List JobState
      jobs = job_changed (job - 1) change s.jobs

      module _ (cycle : CycleState) (has : mine.cycle ≡ Some cycle) where
        abbrev n : ℕ
        n = cycle.sequence

        its : changes_in n r.left.undos ≡ cycle.undos
        its = subst (λ (o : Option CycleState). IfSome o (λ (c : CycleState). changes_in c.sequence r.left.undos ≡ c.undos)) has changes_then

        all_go : AllByRecursion (GoesBack s.files s.members n) cycle.undos
        all_go = subst (λ (o : Option CycleState). CycleGoesBack s.files s.members o) has goes

        one : is_one_of r.left.cycles n ≡ true
        one = is-one change mine ends r.left.next (job - 1) r.left.cycles r.left.undos s.jobs there r.stands.cycles_are cycle has

        began : BeganBefore r.left.next n
        began = holds-one (BeganBefore r.left.next) n r.left.cycles one r.stands.cycles_are.begun

        suits-then : (undo : MemberChange) → GoesBack s.files s.members n undo → AllByRecursion (AtNumber undo.member (λ m. Suits r.left.files m.file (before_of undo.change))) r.left.members
        suits-then undo back =
            all-one (IsHome r.left.files s.files) (AtNumber undo.member (λ m. Suits r.left.files m.file (before_of undo.change))) r.left.members
            (λ m home is. home-suits s sound.library r m (before_of undo.change) home
            (λ name file owns. back.values name file (subst (Owns s.files name file) (sym (eqb-true undo.member m.number is)) owns)))
            (homes s sound.library r)

        amid : IsAmid r.left n began.0 one s.files s.next_member (Some by.job) by.moment cycle.undos s.members r.left
        amid = record {
          stands = held-stand s sound.library r;
          cycles = refl;
          others = refl;
          older = omega arith;
          backs = λ k. subst (λ (us : List Change). Back n us (slots_at k r.left.members) (of_member k r.left.undos)) (sym (of_member-filter k (is_in n) r.left.undos) ∙ ap (of_member k) its)
              (back-start n (slots_at k r.left.members) (of_member k r.left.undos) (member-solo k));
          made = subst (λ (o : Option CycleState). StandAsMade (uses.changes_in o) s.members) has made_then;
          places = cycle-places s.files s.members (Some cycle) all_go;
          own = all-one (GoesBack s.files s.members n) (λ (undo : MemberChange). undo.change.cycle ≡ Some n) cycle.undos (λ undo back. back.cycle) all_go;
          on = subst (λ (o : Option CycleState). AllByRecursion (λ (undo : MemberChange). is_journaled undo.member s.files ≡ true) (uses.changes_in o)) has journaled_then;
          suits = all-one (GoesBack s.files s.members n) (λ (undo : MemberChange). AllByRecursion (AtNumber undo.member (λ m. Suits r.left.files m.file (before_of undo.change))) r.left.members)
              cycle.undos suits-then all_go;
          real = subst (AllByRecursion (λ (undo : MemberChange). IsTrue (is_real undo.change))) its
              (each-filter (λ (undo : MemberChange). IsTrue (is_real undo.change)) (λ (undo : MemberChange). IsTrue (is_real undo.change)) (λ (undo : MemberChange). is_in n undo.change) r.left.undos
              (λ undo is real. real) undos-real);
        }

        -- all changes of the commit cycle are its own
        own_only : filter (λ (undo : MemberChange). is_in n undo.change) cycle.undos ≡ cycle.undos
        own_only = only cycle.undos amid.own where
          only : (undos : List MemberChange) → AllByRecursion (λ (undo : MemberChange). undo.change.cycle ≡ Some n) undos → filter (λ (undo : MemberChange). is_in n undo.change) undos ≡ undos
          only [] all = refl
          only (undo ∷ undos) all =
              ap (λ (b : Bool). cond b (undo ∷ filter (λ (u : MemberChange). is_in n u.change) undos) (filter (λ (u : MemberChange). is_in n u.change) undos)) (in-own n undo.change.cycle all.0)
              ∙ ap (λ (t : List MemberChange). undo ∷ t) (only undos all.1)

        ending-leads : (left : Standing) → IsAmidWhole r.left n began.0 one s.files s.next_member (Some by.job) by.moment [] (members_back cycle.undos s.members) left
            → Leads left (model.cycle_draft (Some by.job) by.moment n CommitCycleRolledBack ∷ []) (IsBack s.files (members_back cycle.undos s.members) s.next_member jobs)
        ending-leads left a =
            let members = members_back cycle.undos s.members in
            let cycles : CyclesStand (left.next + 1) (filter (is_other n) left.cycles) (without n left.undos) jobs =
            subst (λ (cs : List ℕ). CyclesStand (left.next + 1) (filter (is_other n) cs) (without n left.undos) jobs) (sym a.amid.cycles)
            (subst (λ (us : List MemberChange). CyclesStand (left.next + 1) (filter (is_other n) r.left.cycles) us jobs) (sym a.amid.others)
            (cycles-raised r.left.next (left.next + 1) (filter (is_other n) r.left.cycles) (without n r.left.undos) jobs (let old = a.amid.older in omega (arith, old))
            (one-ends change mine ends r.left.next (job - 1) r.left.cycles r.left.undos s.jobs there r.stands.cycles_are cycle has)))
            in
            leads-more left (model.cycle_draft (Some by.job) by.moment n CommitCycleRolledBack) [] (IsBack s.files members s.next_member jobs)
            (rolled-may r.left n began.0 one s.files s.next_member (Some by.job) by.moment members left a)
            (subst (λ (l : Standing). Leads l [] (IsBack s.files members s.next_member jobs)) (sym (rolled-after r.left n began.0 one s.files s.next_member (Some by.job) by.moment members left a))
            (leads-none (cycle_gone n left) (IsBack s.files members s.next_member jobs) (record {
              stands = stands-as (cycle_gone n left) s.files members s.next_member jobs
                  (held-same left (left.next + 1) None (filter (is_other n) left.cycles) (without n left.undos) s.files members s.next_member a.amid.stands) cycles;
              within = a.amid.stands.within;
              whole = refl;
            })))

        pub cycle-leads : Leads r.left (undo_entries by (Some cycle)) (IsBack s.files (members_back cycle.undos s.members) s.next_member jobs)
        cycle-leads =
            subst (λ (us : List MemberChange). Leads r.left (undo_drafts (Some by.job) by.moment us ++ model.cycle_draft (Some by.job) by.moment n CommitCycleRolledBack ∷ [])
            (IsBack s.files (members_back cycle.undos s.members) s.next_member jobs)) (sym own_only)
            (leads-append r.left (undo_drafts (Some by.job) by.moment cycle.undos) (model.cycle_draft (Some by.job) by.moment n CommitCycleRolledBack ∷ [])
            (IsAmidWhole r.left n began.0 one s.files s.next_member (Some by.job) by.moment [] (members_back cycle.undos s.members))
            (IsBack s.files (members_back cycle.undos s.members) s.next_member jobs)
            (all-back r.left n began.0 one s.files s.next_member (Some by.job) by.moment cycle.undos s.members r.left (record { amid = amid; whole = r.whole }))
            ending-leads)

      pub undo-leads : (o : Option CycleState) → mine.cycle ≡ o → Leads r.left (undo_entries by o) (IsBack s.files (members_back (uses.changes_in o) s.members) s.next_member jobs)
      undo-leads None has =
          leads-none r.left (IsBack s.files s.members s.next_member jobs) (record {
            stands = stands-as r.left s.files s.members s.next_member jobs (held-stand s sound.library r)
                (none-ends change mine ends r.left.next (job - 1) r.left.cycles r.left.undos s.jobs there r.stands.cycles_are has);
            within = r.journal.within;
            whole = r.whole;
          })
      undo-leads (Some cycle) has = cycle-leads cycle has

      -- the drafts of a boundary that takes the changes back
      back-replayed : (drafts : List Draft) (forced : Bool) (locks : List Lock)
          → Leads r.left drafts (IsBack s.files (members_back (uses.changes_in mine.cycle) s.members) s.next_member jobs)
          → IsReplayed (after s (journaled drafts forced Done (with_job job change (with_locks locks (taken_back (changes_of mine.cycle) (memory_of s))))))
      back-replayed drafts forced locks leads =
          subst (λ (m : Memory). IsReplayed (after s (journaled drafts forced Done (with_job job change (with_locks locks m))))) (sym (cycle_back-is s.files (memory_of s) mine.cycle goes))
          (replays-kept s r drafts forced Done
          (with_job job change (with_locks locks (record (memory_of s) { members = members_back (uses.changes_in mine.cycle) s.members })))
          leads.to refl r.checkpoint refl leads.leave leads.so.whole leads.so.stands)

    pub rollback-replayed : (done : steps.Change) → rollback (memory_of s) job timestamp ≡ Ok done → IsReplayed (after s done)
    rollback-replayed done h =
        does-each (λ level. rollback_change (memory_of s) job timestamp) (found mine.level NoDefinition) done (λ c. IsReplayed (after s c)) h
        (λ level is. back-replayed (λ j. with_opens rolled_back_open (without_cycle j)) refl (undo_entries by mine.cycle) false (boundary_locks calls.Rollback job (memory_of s))
        (undo-leads (λ j. with_opens rolled_back_open (without_cycle j)) refl mine.cycle refl))

    definition-leads : (level : Option Level) (members : NumberedMembers) (jobs : List JobState) (left : Standing) → IsBack s.files members s.next_member jobs left
        → Leads left (definition_entries by level) (IsBack s.files members s.next_member jobs)
    definition-leads None members jobs left a = leads-none left (IsBack s.files members s.next_member jobs) a
    definition-leads (Some level) members jobs left a =
        leads-more left (library_draft by CommitmentEnded) [] (IsBack s.files members s.next_member jobs) (quiet-may by CommitmentEnded ended-quiet left a.whole a.within)
        (subst (λ (l : Standing). Leads l [] (IsBack s.files members s.next_member jobs)) (sym (quiet-after by CommitmentEnded ended-quiet left))
        (leads-none (moved_on left) (IsBack s.files members s.next_member jobs) (record {
          stands = stands-on left s.files members s.next_member jobs a.stands;
          within = a.within;
          whole = refl;
        })))

    pub end_job-replayed : (done : steps.Change) → end_job (memory_of s) job timestamp ≡ Ok done → IsReplayed (after s done)
    end_job-replayed done h =
        let e : end_change (memory_of s) job timestamp ≡ done = cc in
        subst (λ (c : steps.Change). IsReplayed (after s c)) e
        (back-replayed ended_job refl (end_drafts by mine) true (boundary_locks calls.EndJob job (memory_of s))
        (leads-append r.left (undo_entries by mine.cycle) (definition_entries by mine.level)
        (IsBack s.files (members_back (uses.changes_in mine.cycle) s.members) s.next_member (job_changed (job - 1) ended_job s.jobs))
        (IsBack s.files (members_back (uses.changes_in mine.cycle) s.members) s.next_member (job_changed (job - 1) ended_job s.jobs))
        (undo-leads ended_job refl mine.cycle refl)
        (definition-leads mine.level (members_back (uses.changes_in mine.cycle) s.members) (job_changed (job - 1) ended_job s.jobs))))
