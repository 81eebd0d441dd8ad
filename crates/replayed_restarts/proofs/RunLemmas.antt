-- The entries by which a restart ends a journal may follow one after the other: the journal can be replayed with each of them, its members stay within their
-- limits, and libraries deposit such entries.
use Rattle.std.proofs.Common.{◌≡◌, ℕ, zero, suc, ◌+◌, ◌-◌, ◌*◌, ◌<◌, ◌≤◌, ◌==◌, ◌&&◌, ◌||◌, nat_lt, Bool, true, false, if◌then◌else◌, IsTrue, IsSome, Option, Some, None, is_some, List, [], ◌∷◌, ◌++◌, length, refl, sym, ap, ◌∙◌, subst, arith}
use Rattle.std.specs.List.{AllByRecursion, filter}
use Rattle.std.proofs.lemmas.Bool.{and_from, eq-eqb, eqb-true}
use Rattle.std.proofs.lemmas.Bool.Decides.{nat_tests}
use Rattle.std.proofs.lemmas.List.{append_assoc}
use Rattle.std.proofs.lemmas.List.Elements.{All-from_recursion}
use Rattle.entry_codec.specs.declared.entries.Draft.{Draft}
use Rattle.entry_codec.specs.declared.entries.Entry.{Entry}
use Rattle.entry_codec.specs.declared.kinds.EntryKind.{EntryKind}
use Rattle.entry_codec.specs.declared.kinds.EntryKind.TheVariants.{FileCreated, FileDeleted, MemberAdded, JournalingStarted, InitialSlot, JournalingEnded, MemberCleared, MemberReorganized, ChangesApplied, ChangesRemoved, RecordAdded, RecordAddedAtNumber, BeforeImage, AfterImage, RecordDeleted, UndoBeforeImage, UndoAfterImage, UndoDelete, CommitmentStarted, CommitCycleStarted, CommitCycleCommitted, CommitCycleRolledBack, CommitmentEnded, AbnormalEnd, NextReceiver, PreviousReceiver}
use Rattle.entry_codec.specs.Drafts.{numbered}
use Rattle.entry_codec.specs.Placing.{is_counted, is_placed, is_present}
use Rattle.member_slots.specs.declared.slot.Slot.{Slot}
use Rattle.member_slots.specs.declared.slot.Slot.TheVariants.{Live, Deleted}
use Rattle.member_slots.specs.Member.{FitsSlot, is_live}
use Rattle.record_fmt.specs.declared.formats.Field.{Field}
use Rattle.record_fmt.specs.Layout as layout
use Rattle.record_fmt.specs.Records.{record_held}
use Rattle.logical_laws.proofs.ListLemmas.{each-append, each-weaker}
use Rattle.journal_model.specs.Acts.{Nothing, act, act_elsewhere, act_there, acts, entry_before}
use Rattle.journal_model.specs.Catalogue.{Catalogue, CatalogFile, CatalogMember, MayEnterBy, catalogue_after, catalogue_by, empty_catalogue, file_named, has_number, member_numbered}
use Rattle.journal_model.specs.Images.{AreRecords, AreRecordsOf, HasRecords}
use Rattle.journal_model.specs.Journal.{Journal, OfMember, StaysMembers, acts_after, catalogue_of, last_sequence, open_cycles, record_length, start_of, state_of}
use Rattle.journal_model.specs.Pairs.{BeginsNoPair, EndsPair, OneChange, Pair, pair_begun, pair_ended}
use Rattle.journal_model.specs.Places.{put_slot}
use Rattle.journal_model.specs.Replay.{State, before_of, cycles_after, is_in, moved, replay, step}
use Rattle.journal_model.specs.Replayable.{CanReplay, IsOpen, is_one_of}
use Rattle.journal_model.specs.Rollback.{MemberChange, all_rollback_drafts, change_drafts, cycle_draft, is_real, library_draft, missing_behind, missing_draft, missing_kind, numbered_from, restart_drafts, undo_drafts, undo_kinds}
use Rattle.journal_model.proofs.EachLemmas.{each-filter}
use Rattle.journal_model.proofs.MemberLemmas.{acts-append}
use Rattle.journal_model.proofs.PlaceLemmas.{length-put_slot}
use Rattle.journal_model.proofs.ReplayLemmas.{CanReplay-back, replay-append}
use Rattle.journal_replay.specs.SoFar.{AreWithinLimits, MayComeNext}
use Rattle.journal_replay.proofs.KindLemmas.{cycles_alike}
use Rattle.journal_replay.proofs.LimitLemmas.{limits-push}
use Rattle.journal_replay.proofs.SoFarLemmas.{acts_with, catalogue_after-append, entry_before-append, so_far-push}
use Rattle.lawful_states.specs.Lawful.{HoldsValues}
use Rattle.library_kept.proofs.FieldLemmas.{FitsSlot-held, length-record}
use Rattle.restart_model.specs.Libraries.{journal_with}
use Rattle.restart_model.specs.Sources.{descriptions, fields_beside}
use Rattle.journaled_entries.specs.Deposited.{AreDeposited, IsJournaledThen}
use Rattle.journaled_entries.proofs.DepositedLemmas.{journaled-append}
use Rattle.replayed_histories.proofs.CatalogueLemmas.{IsCatalogue}
use Rattle.replayed_histories.proofs.DescribedLemmas.{Among}
use Rattle.replayed_histories.proofs.GoesLemmas.{IsPlainCatalogue, beside-at, fields_at, found-among, own-file}
use Rattle.replayed_histories.proofs.RoomLemmas.{long-at}
use Rattle.replayed_histories.proofs.StandLemmas.{Stands, number-of}
use Rattle.replayed_restarts.proofs.CountedLemmas.{lacks-none}
use Rattle.replayed_restarts.proofs.LeavesLemmas.{Replays}
use Rattle.replayed_restarts.proofs.StandLemmas.{journal-stands}
use Rattle.replayed_restarts.proofs.TakenLemmas.{IsTaken}

-- ---- pairs of images

-- an entry that ends no pair, behind one that begins none
whole-ends : (prior : Option Entry) (e : Entry) → BeginsNoPair prior → pair_ended e.kind ≡ None → EndsPair prior e
whole-ends None e whole ended = ended
whole-ends (Some p) e whole ended = (ended ∙ sym whole, subst (λ (o : Option Pair). OneChange o p e) (sym whole) tt)

-- no image is one of no record
no-images : (c : Catalogue) (member : Option CatalogMember) → AreRecordsOf descriptions c member []
no-images c None = tt
no-images c (Some member) = at (file_named member.file c) where
  at : (file : Option CatalogFile) → AreRecords descriptions c.files file []
  at None = tt
  at (Some file) = tt

length-push : (es : List Entry) (e : Entry) → length (es ++ e ∷ []) ≡ length es + 1
length-push [] e = omega arith
length-push (x ∷ es) e = let more = length-push es e in omega (arith, more)

put-keeps : (slots : List Slot) (place : ℕ) (new : Slot) (n : ℕ) → length slots ≡ n → place < n → length (put_slot slots place new) ≡ n
put-keeps slots place new n long within = omega (arith, length-put_slot slots place new, long, within)

-- ---- one entry of a restart, whenever it comes

-- long is how many slots each member has
module _ (c : Catalogue) (long : ℕ → ℕ) where
  pub record IsEnding (d : Draft) : Type 0 where
    pub quiet : (e : Entry) (k : Catalogue) → catalogue_by d.kind e k ≡ k
    pub enters : (sequence : ℕ) → MayEnterBy descriptions d.kind (numbered d sequence) c
    pub undeleted : (name : List ℕ) → d.kind ≡ FileDeleted name → ⊥
    pub records : (sequence : ℕ) → HasRecords descriptions c (numbered d sequence)
    pub placed : (sequence : ℕ) → IsTrue (is_placed (numbered d sequence))
    pub journaled : (sequence : ℕ) → IsJournaledThen c (numbered d sequence)
    pub keeps : (member sequence : ℕ) (prior : Option Entry) (slots : List Slot) → length slots ≡ long member → length (moved slots (act member prior (numbered d sequence))) ≡ long member

  -- so far the journal has these entries, and these drafts are still to come
  pub record Stage (target es : List Entry) (drafts : List Draft) : Type 0 where
    pub so_far : Replays es
    pub limits : StaysMembers descriptions (journal_with es)
    pub deposited : AreDeposited es
    pub catalogue : catalogue_of (journal_with es) ≡ c
    pub long_as : (member : ℕ) → length (state_of (journal_with es) member).slots ≡ long member
    pub all : es ++ numbered_from (last_sequence (journal_with es) + 1) drafts ≡ target

  -- some entries before the drafts, with no pair of images begun
  pub record Reaches (target : List Entry) (drafts : List Draft) : Type 0 where
    pub es : List Entry
    pub stage : Stage target es drafts
    pub whole : BeginsNoPair (entry_before None es)

  -- ---- limits

  -- as many slots are within the limits
  pub record AreFew (m : CatalogMember) : Type 0 where
    pub slots : long m.number ≤ 1000000
    pub bytes : long m.number * record_length descriptions c m ≤ 268435456

  module _ (few : (m : CatalogMember) → Among m c.members → AreFew m) where
    within-limits : (es : List Entry) → Replays es → catalogue_of (journal_with es) ≡ c → ((member : ℕ) → length (state_of (journal_with es) member).slots ≡ long member)
        → AreWithinLimits descriptions (journal_with es)
    within-limits es so_far same long_as m there =
        let stood : Stands (catalogue_of (journal_with es)) (λ member. replay (start_of (journal_with es) member) (acts_after (journal_with es) member)) es = journal-stands es so_far in
        let among : Among m (catalogue_of (journal_with es)).members = (found-among (has_number (Some m.number)) (catalogue_of (journal_with es)).members m there).0 in
        let its = few m (subst (λ (k : Catalogue). Among m k.members) same among) in
        let bytes : long m.number * record_length descriptions (catalogue_of (journal_with es)) m ≤ 268435456 =
        subst (λ (k : Catalogue). long m.number * record_length descriptions k m ≤ 268435456) (sym same) its.bytes
        in record {
          records = All-from_recursion (FitsSlot (record_length descriptions (catalogue_of (journal_with es)) m)) (state_of (journal_with es) m.number).slots
              (subst (λ (n : ℕ). AllByRecursion (FitsSlot n) (state_of (journal_with es) m.number).slots) (sym (long-at (catalogue_of (journal_with es)) stood.is stood.plain m among))
              (each-weaker (HoldsValues (fields_at (catalogue_of (journal_with es)) m.file)) (FitsSlot (layout.record_length (fields_at (catalogue_of (journal_with es)) m.file)))
              (λ slot held. FitsSlot-held (fields_at (catalogue_of (journal_with es)) m.file) slot held) (state_of (journal_with es) m.number).slots (stood.holds m among).slots));
          slots = subst (λ (n : ℕ). n ≤ 1000000) (sym (long_as m.number)) its.slots;
          bytes = subst (λ (n : ℕ). n * record_length descriptions (catalogue_of (journal_with es)) m ≤ 268435456) (sym (long_as m.number)) bytes;
        }

    -- ---- an entry more

    module _ (target : List Entry) (goes : (member : ℕ) → CanReplay (start_of (journal_with target) member) (acts_after (journal_with target) member)) where
      -- what is still to come can be replayed
      goes-on : (es : List Entry) (drafts : List Draft) → Stage target es drafts → (member : ℕ)
          → CanReplay (state_of (journal_with es) member) (acts member (entry_before None es) (numbered_from (last_sequence (journal_with es) + 1) drafts))
      goes-on es drafts st member =
          CanReplay-back (start_of (journal_with es) member) (acts_after (journal_with es) member)
          (acts member (entry_before None es) (numbered_from (last_sequence (journal_with es) + 1) drafts))
          (subst (CanReplay (start_of (journal_with es) member))
          (ap (acts member None) (sym st.all) ∙ acts-append member None es (numbered_from (last_sequence (journal_with es) + 1) drafts)) (goes member))

      module _ (es : List Entry) (d : Draft) (drafts : List Draft) (st : Stage target es (d ∷ drafts)) (its : IsEnding d) where
        abbrev j : Journal
        j = journal_with es

        abbrev pub e : Entry
        e = numbered d (last_sequence (journal_with es) + 1)

        may-come : IsOpen (open_cycles j) e.group → EndsPair (entry_before None es) e → MayComeNext descriptions j e
        may-come opened pairs = record {
          sequence = refl;
          enters = subst (MayEnterBy descriptions d.kind e) (sym st.catalogue) (its.enters (last_sequence j + 1));
          replays = λ member. (goes-on es (d ∷ drafts) st member).0;
          names = λ no. opened;
          deletes = λ name is. absurd (its.undeleted name is);
          pairs = pairs;
          records = subst (λ (k : Catalogue). HasRecords descriptions k e) (sym st.catalogue) (its.records (last_sequence j + 1));
        }

        state-with : (member : ℕ) → state_of (journal_with (es ++ e ∷ [])) member ≡ step (state_of j member) (act member (entry_before None es) e)
        state-with member = ap (replay (start_of j member)) (acts_with descriptions j e member) ∙ replay-append (start_of j member) (acts_after j member) (act member (entry_before None es) e ∷ [])

        catalogue-with : catalogue_of (journal_with (es ++ e ∷ [])) ≡ c
        catalogue-with = catalogue_after-append empty_catalogue es (e ∷ []) ∙ its.quiet e (catalogue_after empty_catalogue es) ∙ st.catalogue

        long-with : (member : ℕ) → length (state_of (journal_with (es ++ e ∷ [])) member).slots ≡ long member
        long-with member =
            ap (λ (s : State). length s.slots) (state-with member)
            ∙ its.keeps member (last_sequence j + 1) (entry_before None es) (state_of j member).slots (st.long_as member)

        next-with : last_sequence (journal_with (es ++ e ∷ [])) + 1 ≡ last_sequence j + 1 + 1
        next-with = let pushed = length-push es e in omega (arith, pushed)

        pub one-more : IsOpen (open_cycles j) e.group → EndsPair (entry_before None es) e → Stage target (es ++ e ∷ []) drafts
        one-more opened pairs =
            let so_far : Replays (es ++ e ∷ []) = so_far-push descriptions j e st.so_far (may-come opened pairs) in record {
              so_far = so_far;
              limits = limits-push descriptions j e st.limits (within-limits (es ++ e ∷ []) so_far catalogue-with long-with);
              deposited = record {
                placed = each-append (λ (x : Entry). IsTrue (is_placed x)) es (e ∷ []) st.deposited.placed (its.placed (last_sequence j + 1), tt);
                journaled = journaled-append empty_catalogue es e st.deposited.journaled
                    (subst (λ (k : Catalogue). IsJournaledThen k e) (sym st.catalogue) (its.journaled (last_sequence j + 1)));
              };
              catalogue = catalogue-with;
              long_as = long-with;
              all = ap (λ (n : ℕ). (es ++ e ∷ []) ++ numbered_from n drafts) next-with ∙ append_assoc es (e ∷ []) (numbered_from (last_sequence j + 1 + 1) drafts) ∙ st.all;
            }

        last-is : entry_before None (es ++ e ∷ []) ≡ Some e
        last-is = entry_before-append None es (e ∷ [])

        -- one that ends no pair and begins none
        pub whole-more : IsOpen (open_cycles j) e.group → BeginsNoPair (entry_before None es) → pair_ended d.kind ≡ None → pair_begun d.kind ≡ None → Reaches target drafts
        whole-more opened whole ended begun = record {
          es = es ++ e ∷ [];
          stage = one-more opened (whole-ends (entry_before None es) e whole ended);
          whole = subst BeginsNoPair (sym last-is) begun;
        }

      -- ---- entries of no commit cycle

      library-ending : (job : Option (List ℕ)) (moment number : ℕ) → IsEnding (library_draft job moment (PreviousReceiver number))
      library-ending job moment number = record {
        quiet = λ e k. refl;
        enters = λ sequence. tt;
        undeleted = λ name is. absurd cc;
        records = λ sequence. no-images c (member_numbered None c);
        placed = λ sequence. refl;
        journaled = λ sequence of. absurd cc;
        keeps = λ member sequence prior slots is. is;
      }

      abnormal-ending : (job : Option (List ℕ)) (moment : ℕ) → IsEnding (library_draft job moment AbnormalEnd)
      abnormal-ending job moment = record {
        quiet = λ e k. refl;
        enters = λ sequence. tt;
        undeleted = λ name is. absurd cc;
        records = λ sequence. no-images c (member_numbered None c);
        placed = λ sequence. refl;
        journaled = λ sequence of. absurd cc;
        keeps = λ member sequence prior slots is. is;
      }

      module _ (job : Option (List ℕ)) (moment : ℕ) where
        missing-kind : (kind : EntryKind) (drafts : List Draft) → Reaches target (missing_draft job moment (missing_kind kind) ++ drafts) → Reaches target drafts
        missing-kind (NextReceiver number) drafts r =
            whole-more r.es (library_draft job moment (PreviousReceiver (number - 1))) drafts r.stage (library-ending job moment (number - 1)) tt r.whole refl refl
        missing-kind (FileCreated kind name source) drafts r = r
        missing-kind (FileDeleted name) drafts r = r
        missing-kind (MemberAdded file name) drafts r = r
        missing-kind (JournalingStarted images slots) drafts r = r
        missing-kind (InitialSlot image) drafts r = r
        missing-kind JournalingEnded drafts r = r
        missing-kind MemberCleared drafts r = r
        missing-kind MemberReorganized drafts r = r
        missing-kind (ChangesApplied first last changes) drafts r = r
        missing-kind (ChangesRemoved first last changes) drafts r = r
        missing-kind (RecordAdded image) drafts r = r
        missing-kind (RecordAddedAtNumber image) drafts r = r
        missing-kind (BeforeImage image) drafts r = r
        missing-kind (AfterImage has_before image) drafts r = r
        missing-kind (RecordDeleted before) drafts r = r
        missing-kind (UndoBeforeImage image) drafts r = r
        missing-kind (UndoAfterImage has_before image) drafts r = r
        missing-kind (UndoDelete image) drafts r = r
        missing-kind (CommitmentStarted level) drafts r = r
        missing-kind CommitCycleStarted drafts r = r
        missing-kind CommitCycleCommitted drafts r = r
        missing-kind CommitCycleRolledBack drafts r = r
        missing-kind CommitmentEnded drafts r = r
        missing-kind AbnormalEnd drafts r = r
        missing-kind (PreviousReceiver number) drafts r = r

        missing-last : (last : Option Entry) (drafts : List Draft) → Reaches target (missing_behind job moment last ++ drafts) → Reaches target drafts
        missing-last None drafts r = r
        missing-last (Some last) drafts r = missing-kind last.kind drafts r

        -- ---- the commit cycle stays open until it is rolled back

        abbrev KeepsCycles : Draft → Type 0
        KeepsCycles d = (e : Entry) → act_elsewhere d.kind e ≡ Nothing

        one-keeps : (u : MemberChange) (given changed : Slot) → AllByRecursion KeepsCycles (change_drafts job moment u (undo_kinds given changed))
        one-keeps u (Live before) (Live after) = ((λ e. refl), ((λ e. refl), tt))
        one-keeps u (Live before) Deleted = ((λ e. refl), tt)
        one-keeps u Deleted (Live after) = ((λ e. refl), tt)
        one-keeps u Deleted Deleted = tt

        undos-keep : (us : List MemberChange) → AllByRecursion KeepsCycles (undo_drafts job moment us)
        undos-keep [] = tt
        undos-keep (u ∷ us) =
            each-append KeepsCycles (change_drafts job moment u (undo_kinds (before_of u.change) u.change.after)) (undo_drafts job moment us)
            (one-keeps u (before_of u.change) u.change.after) (undos-keep us)

        module _ (n : ℕ) where
          abbrev last : Draft
          last = cycle_draft job moment n CommitCycleRolledBack

          cycle-open : (drafts more : List Draft) (s : State) (prior : Option Entry) (sequence : ℕ) → AllByRecursion KeepsCycles drafts
              → CanReplay s (acts 0 prior (numbered_from sequence (drafts ++ cycle_draft job moment n CommitCycleRolledBack ∷ more))) → is_one_of s.cycles n ≡ true
          cycle-open [] more s prior sequence keep can = can.0.begun
          cycle-open (d ∷ drafts) more s prior sequence keep can =
              sym (ap (λ (cycles : List ℕ). is_one_of cycles n) same)
              ∙ cycle-open drafts more (step s (act 0 prior (numbered d sequence))) (Some (numbered d sequence)) (sequence + 1) keep.1 can.1
            where
              same : cycles_after s.cycles (act 0 prior (numbered d sequence)) ≡ s.cycles
              same = cycles_alike 0 prior (numbered d sequence) s.cycles ∙ ap (cycles_after s.cycles) (keep.0 (numbered d sequence))

          open-at : (es : List Entry) (drafts more : List Draft) → AllByRecursion KeepsCycles drafts → Stage target es (drafts ++ cycle_draft job moment n CommitCycleRolledBack ∷ more)
              → is_one_of (open_cycles (journal_with es)) n ≡ true
          open-at es drafts more keep st =
              cycle-open drafts more (state_of (journal_with es) 0) (entry_before None es) (last_sequence (journal_with es) + 1) keep
              (goes-on es (drafts ++ cycle_draft job moment n CommitCycleRolledBack ∷ more) st 0)

          -- its number is at least 1
          counted-at : (es : List Entry) (drafts more : List Draft) → AllByRecursion KeepsCycles drafts → Stage target es (drafts ++ cycle_draft job moment n CommitCycleRolledBack ∷ more) → 1 ≤ n
          counted-at es drafts more keep st = by n refl where
            by : (k : ℕ) → n ≡ k → 1 ≤ n
            by zero is = absurd (
                let one : 1 ≤ 1 = omega arith in
                let lacks : is_one_of (open_cycles (journal_with es)) 0 ≡ false =
                lacks-none (acts_after (journal_with es) 0) (start_of (journal_with es) 0) one refl (st.so_far.replays 0) in
                let clash : ◌≡◌ {A = Bool} true false = sym (open-at es drafts more keep st) ∙ ap (is_one_of (open_cycles (journal_with es))) is ∙ lacks in cc)
            by (suc k) is = omega (arith, is)

          -- ---- the end of the commit cycle

          rolled-ending : 1 ≤ n → IsEnding (cycle_draft job moment n CommitCycleRolledBack)
          rolled-ending some = record {
            quiet = λ e k. refl;
            enters = λ sequence. tt;
            undeleted = λ name is. absurd cc;
            records = λ sequence. no-images c (member_numbered None c);
            placed = λ sequence. let counted : nat_lt 0 n ≡ true = grind (arith, nat_tests, some) in ap (λ (b : Bool). b && true && true) counted;
            journaled = λ sequence of. absurd cc;
            keeps = λ member sequence prior slots is. is;
          }

          rolled-back : (more : List Draft) → Reaches target (cycle_draft job moment n CommitCycleRolledBack ∷ more) → Reaches target more
          rolled-back more r =
              whole-more r.es (cycle_draft job moment n CommitCycleRolledBack) more r.stage (rolled-ending (counted-at r.es [] more tt r.stage)) (open-at r.es [] more tt r.stage) r.whole refl refl

          -- ---- a change that is taken back

          module _ (is : IsCatalogue c) (plain : IsPlainCatalogue c) where
            module _ (some : 1 ≤ n) (u : MemberChange) (taken : IsTaken c long u.member u.change) (own : u.change.cycle ≡ Some n) where
              abbrev draft : EntryKind → Draft
              draft kind = record { job = job; moment = moment; group = u.change.cycle; member = Some u.member; rrn = Some (u.change.place + 1); kind = kind }

              image-record : (image : List ℕ) → is_some (record_held (fields_at c taken.member.file) image) ≡ true → AreRecordsOf descriptions c (member_numbered (Some u.member) c) (image ∷ [])
              image-record image held =
                  let its = own-file c is plain taken.member taken.among in
                  let fields : fields_beside c.files its.file.source ≡ fields_at c taken.member.file = beside-at c taken.member.file its in
                  let long : (length image == layout.record_length (fields_beside c.files its.file.source)) ≡ true =
                  eq-eqb (length image) (layout.record_length (fields_beside c.files its.file.source))
                  (length-record (fields_at c taken.member.file) image held ∙ ap (λ (fs : List Field). layout.record_length fs) (sym fields)) in
                  let values : is_some (record_held (fields_beside c.files its.file.source) image) ≡ true = ap (λ (fs : List Field). is_some (record_held fs image)) fields ∙ held in
                  subst (λ (o : Option CatalogMember). AreRecordsOf descriptions c o (image ∷ [])) (sym taken.found)
                  (subst (λ (o : Option CatalogFile). AreRecords descriptions c.files o (image ∷ [])) (sym its.there)
                  (and_from (length image == layout.record_length (fields_beside c.files its.file.source)) (is_some (record_held (fields_beside c.files its.file.source) image)) long values, tt))

              placed-record : (is_counted u.change.cycle && is_present (Some u.member) && is_present (Some (u.change.place + 1))) ≡ true
              placed-record =
                  let a : is_counted u.change.cycle ≡ true = ap is_counted own ∙ positive n some in
                  let b : nat_lt 0 u.member ≡ true = positive u.member taken.counted in
                  let p : nat_lt 0 (u.change.place + 1) ≡ true = positive (u.change.place + 1) (omega arith) in
                  λ i. a i && b i && p i
                where
                  positive : (k : ℕ) → 1 ≤ k → nat_lt 0 k ≡ true
                  positive k least = grind (arith, nat_tests, least)

              journaled-then : OfMember (member_numbered (Some u.member) c) (λ (m : CatalogMember). IsSome m.images)
              journaled-then = subst (λ (o : Option CatalogMember). OfMember o (λ (m : CatalogMember). IsSome m.images)) (sym taken.found) taken.journaled

              place-is : u.change.place + 1 - 1 ≡ u.change.place
              place-is = omega arith

              put-long : (new : Slot) (slots : List Slot) (member : ℕ) → length slots ≡ long member → u.member == member ≡ true → length (put_slot slots (u.change.place + 1 - 1) new) ≡ long member
              put-long new slots member many same =
                  put-keeps slots (u.change.place + 1 - 1) new (long member) many
                  (subst (λ (p : ℕ). p < long member) (sym place-is) (subst (λ (k : ℕ). u.change.place < long k) (eqb-true u.member member same) taken.place))

              before-ending : (image : List ℕ) → is_some (record_held (fields_at c taken.member.file) image) ≡ true → IsEnding (draft (UndoBeforeImage image))
              before-ending image held = record {
                quiet = λ e k. refl;
                enters = λ sequence. (taken.member, taken.found);
                undeleted = λ name is. absurd cc;
                records = λ sequence. image-record image held;
                placed = λ sequence. placed-record;
                journaled = λ sequence of. journaled-then;
                keeps = λ member sequence prior slots many. elim (u.member == member) as (λ b. length (moved slots (if b then Nothing else Nothing)) ≡ long member) [ true ↦ many | false ↦ many ];
              }

              delete-ending : (image : List ℕ) → is_some (record_held (fields_at c taken.member.file) image) ≡ true → IsEnding (draft (UndoDelete image))
              delete-ending image held = record {
                quiet = λ e k. refl;
                enters = λ sequence. (taken.member, taken.found);
                undeleted = λ name is. absurd cc;
                records = λ sequence. image-record image held;
                placed = λ sequence. placed-record;
                journaled = λ sequence of. journaled-then;
                keeps = λ member sequence prior slots many. elim (u.member == member) as (λ b. u.member == member ≡ b
                    → length (moved slots (if b then act_there (UndoDelete image) prior (numbered (draft (UndoDelete image)) sequence) else Nothing)) ≡ long member) [
                      | true ↦ λ same. put-long Deleted slots member many same
                      | false ↦ λ other. many
                    ] refl;
              }

              after-ending : (has_before : Bool) (image : List ℕ) → is_some (record_held (fields_at c taken.member.file) image) ≡ true → IsEnding (draft (UndoAfterImage has_before image))
              after-ending has_before image held = record {
                quiet = λ e k. refl;
                enters = λ sequence. (taken.member, taken.found);
                undeleted = λ name is. absurd cc;
                records = λ sequence. image-record image held;
                placed = λ sequence. placed-record;
                journaled = λ sequence of. journaled-then;
                keeps = λ member sequence prior slots many. keep has_before member sequence prior slots many (u.member == member) refl;
              } where
                keep : (b : Bool) (member sequence : ℕ) (prior : Option Entry) (slots : List Slot) → length slots ≡ long member → (t : Bool) → u.member == member ≡ t
                    → length (moved slots (if t then act_there (UndoAfterImage b image) prior (numbered (draft (UndoAfterImage b image)) sequence) else Nothing)) ≡ long member
                keep true member sequence prior slots many true same = put-long (Live image) slots member many same
                keep false member sequence prior slots many true same = put-long (Live image) slots member many same
                keep b member sequence prior slots many false same = many

              module _ (us : List MemberChange) (more : List Draft) where
                abbrev rest : List Draft
                rest = undo_drafts job moment us ++ cycle_draft job moment n CommitCycleRolledBack ∷ more

                opened : (es : List Entry) (drafts : List Draft) → AllByRecursion KeepsCycles drafts
                    → Stage target es ((drafts ++ undo_drafts job moment us) ++ cycle_draft job moment n CommitCycleRolledBack ∷ more) → IsOpen (open_cycles (journal_with es)) u.change.cycle
                opened es drafts keep st =
                    subst (λ (o : Option ℕ). IsOpen (open_cycles (journal_with es)) o) (sym own)
                    (open-at es (drafts ++ undo_drafts job moment us) more (each-append KeepsCycles drafts (undo_drafts job moment us) keep (undos-keep us)) st)

                one-back : (given changed : Slot) → given ≡ before_of u.change → changed ≡ u.change.after → IsTrue (is_real u.change)
                    → Reaches target ((change_drafts job moment u (undo_kinds given changed) ++ undo_drafts job moment us) ++ cycle_draft job moment n CommitCycleRolledBack ∷ more)
                    → Reaches target (undo_drafts job moment us ++ cycle_draft job moment n CommitCycleRolledBack ∷ more)
                one-back (Live given) (Live was) eb ew real r =
                    let first = before-ending was (subst (HoldsValues (fields_at c taken.member.file)) (sym ew) taken.sides.1) in
                    let second = after-ending true given (subst (HoldsValues (fields_at c taken.member.file)) (sym eb) taken.sides.0) in
                    let two : List Draft = draft (UndoBeforeImage was) ∷ draft (UndoAfterImage true given) ∷ [] in
                    let one = one-more r.es (draft (UndoBeforeImage was)) (draft (UndoAfterImage true given) ∷ rest) r.stage first
                    (opened r.es two ((λ e. refl), ((λ e. refl), tt)) r.stage)
                    (whole-ends (entry_before None r.es) (numbered (draft (UndoBeforeImage was)) (last_sequence (journal_with r.es) + 1)) r.whole refl) in
                    let begun = last-is r.es (draft (UndoBeforeImage was)) (draft (UndoAfterImage true given) ∷ rest) r.stage first in
                    let es : List Entry = r.es ++ numbered (draft (UndoBeforeImage was)) (last_sequence (journal_with r.es) + 1) ∷ [] in record {
                      es = es ++ numbered (draft (UndoAfterImage true given)) (last_sequence (journal_with es) + 1) ∷ [];
                      stage = one-more es (draft (UndoAfterImage true given)) rest one second (opened es (draft (UndoAfterImage true given) ∷ []) ((λ e. refl), tt) one)
                          (subst (λ (o : Option Entry). EndsPair o (numbered (draft (UndoAfterImage true given)) (last_sequence (journal_with es) + 1))) (sym begun)
                          (refl, record { job = refl; cycle = refl; member = refl; rrn = refl }));
                      whole = subst BeginsNoPair (sym (last-is es (draft (UndoAfterImage true given)) rest one second)) refl;
                    }
                one-back (Live given) Deleted eb ew real r =
                    whole-more r.es (draft (UndoAfterImage false given)) rest r.stage (after-ending false given (subst (HoldsValues (fields_at c taken.member.file)) (sym eb) taken.sides.0))
                    (opened r.es (draft (UndoAfterImage false given) ∷ []) ((λ e. refl), tt) r.stage) r.whole refl refl
                one-back Deleted (Live was) eb ew real r =
                    whole-more r.es (draft (UndoDelete was)) rest r.stage (delete-ending was (subst (HoldsValues (fields_at c taken.member.file)) (sym ew) taken.sides.1))
                    (opened r.es (draft (UndoDelete was) ∷ []) ((λ e. refl), tt) r.stage) r.whole refl refl
                one-back Deleted Deleted eb ew real r =
                    absurd (let none : (is_live Deleted || is_live Deleted) ≡ true =
                    ap (λ (slot : Slot). is_live slot || is_live Deleted) eb ∙ ap (λ (slot : Slot). is_live (before_of u.change) || is_live slot) ew ∙ real in cc)

            -- what is known of a change of the commit cycle
            abbrev pub IsOwn : MemberChange → Type 0
            IsOwn u = IsTaken c long u.member u.change × IsTrue (is_real u.change) × (u.change.cycle ≡ Some n)

            all-back : (us : List MemberChange) (more : List Draft) → AllByRecursion IsOwn us
                → Reaches target (undo_drafts job moment us ++ cycle_draft job moment n CommitCycleRolledBack ∷ more) → Reaches target more
            all-back [] more own r = rolled-back more r
            all-back (u ∷ us) more own r =
                all-back us more own.1
                (one-back (counted-at r.es (undo_drafts job moment (u ∷ us)) more (undos-keep (u ∷ us)) r.stage) u own.0.0 own.0.2 us more (before_of u.change) u.change.after refl refl own.0.1 r)

        -- ---- all commit cycles

        module _ (is : IsCatalogue c) (plain : IsPlainCatalogue c) (undos : List MemberChange) (taken : AllByRecursion (λ (u : MemberChange). IsTaken c long u.member u.change) undos)
            (real : AllByRecursion (λ (u : MemberChange). IsTrue (is_real u.change)) undos) where
          own-each : (n : ℕ) → AllByRecursion (IsOwn n is plain) (filter (λ (u : MemberChange). is_in n u.change) undos)
          own-each n =
              each-filter (λ (u : MemberChange). IsTaken c long u.member u.change × IsTrue (is_real u.change)) (IsOwn n is plain) (λ (u : MemberChange). is_in n u.change) undos
              (λ u of its. (its.0, its.1, number-of u.change.cycle n of)) (both undos taken real)
            where
              both : (us : List MemberChange) → AllByRecursion (λ (u : MemberChange). IsTaken c long u.member u.change) us → AllByRecursion (λ (u : MemberChange). IsTrue (is_real u.change)) us
                  → AllByRecursion (λ (u : MemberChange). IsTaken c long u.member u.change × IsTrue (is_real u.change)) us
              both [] a b = tt
              both (u ∷ us) a b = ((a.0, b.0), both us a.1 b.1)

          cycles-back : (cycles : List ℕ) → Reaches target (all_rollback_drafts job moment cycles undos) → Reaches target []
          cycles-back [] r = r
          cycles-back (n ∷ cycles) r =
              cycles-back cycles
              (all-back n is plain (filter (λ (u : MemberChange). is_in n u.change) undos) (all_rollback_drafts job moment cycles undos) (own-each n)
              (subst (Reaches target)
              (append_assoc (undo_drafts job moment (filter (λ (u : MemberChange). is_in n u.change) undos)) (cycle_draft job moment n CommitCycleRolledBack ∷ [])
              (all_rollback_drafts job moment cycles undos)) r))

          restart-back : (cycles : List ℕ) → Reaches target (restart_drafts job moment cycles undos) → Reaches target []
          restart-back [] r = r
          restart-back (n ∷ cycles) r =
              cycles-back (n ∷ cycles)
              (whole-more r.es (library_draft job moment AbnormalEnd) (all_rollback_drafts job moment (n ∷ cycles) undos) r.stage (abnormal-ending job moment) tt r.whole refl refl)

          -- all that a restart deposits
          pub ended : (last : Option Entry) (cycles : List ℕ) → Reaches target (missing_behind job moment last ++ restart_drafts job moment cycles undos) → Reaches target []
          ended last cycles r = restart-back cycles (missing-last last (restart_drafts job moment cycles undos) r)
