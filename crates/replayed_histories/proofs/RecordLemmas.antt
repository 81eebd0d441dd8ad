-- The entries of a record that is added, changed or deleted: what the journal leaves behind them, and when they may be deposited.
use Rattle.std.proofs.Common.{◌≡◌, ◌⊎◌, inl, inr, ℕ, ◌+◌, ◌-◌, ◌≤◌, ◌==◌, ◌&&◌, nat_lt, Bool, true, false, cond, IsTrue, Option, Some, None, List, [], ◌∷◌, ◌++◌, map, length, refl, sym, ap, ◌∙◌, subst, arith}
use Rattle.std.specs.List.{AllByRecursion}
use Rattle.std.specs.Option.{is_some}
use Rattle.std.proofs.lemmas.Bool.Decides.{nat_tests}
use Rattle.std.proofs.lemmas.List.{append-nil}
use Rattle.entry_codec.specs.declared.entries.Draft.{Draft}
use Rattle.entry_codec.specs.declared.entries.Entry.{Entry}
use Rattle.entry_codec.specs.declared.kinds.EntryKind.{EntryKind}
use Rattle.entry_codec.specs.declared.kinds.EntryKind.TheVariants.{AfterImage, BeforeImage, CommitCycleStarted, RecordAdded, RecordAddedAtNumber, RecordDeleted}
use Rattle.entry_codec.specs.declared.places.Place.{Place}
use Rattle.entry_codec.specs.declared.places.Place.TheVariants.{Record}
use Rattle.entry_codec.specs.Drafts.{numbered}
use Rattle.entry_codec.specs.Placing.{is_counted, is_placed, is_placed_at, place}
use Rattle.member_slots.specs.declared.slot.Slot.{Slot}
use Rattle.member_slots.specs.declared.slot.Slot.TheVariants.{Deleted, Live}
use Rattle.journal_model.specs.Acts.{Change, Changed, Nothing, act_there}
use Rattle.journal_model.specs.Catalogue.{CatalogMember, member_numbered}
use Rattle.journal_model.specs.Images.{AreRecordsOf, images_of}
use Rattle.journal_model.specs.Journal.{OfMember}
use Rattle.journal_model.specs.Pairs.{EndsPair, pair_begun}
use Rattle.journal_model.specs.Places.{slot_of}
use Rattle.journal_model.specs.Replayable.{AgreesBefore, IsOpen}
use Rattle.journal_model.specs.Rollback.{MemberChange, noted_of, of_member}
use Rattle.journal_replay.specs.Standing.{HeldMember, Standing, catalog_member, catalogue_in, member_by, members_by, only_begun, slots_at, standing_after}
use Rattle.library_steps.specs.Drafts.{Author, cycle_draft, slot_drafts}
use Rattle.named_bases.specs.Sources.{descriptions}
use Rattle.replayed_histories.specs.Replayed.{IsHeldWithin}
use Rattle.replayed_histories.specs.Deposits.{DraftsLeave, MayBeDeposited}
use Rattle.replayed_histories.proofs.OneLemmas.{IsOfOne, added-one, after-one, before-one, deleted-one, moved_by, one-after, one-may, one_draft, one_entry, one_left, put-one}
use Rattle.replayed_histories.proofs.QuietLemmas.{members-stay, no-records, standing-same}

-- ---- drafts in two parts

pub leave-append : (xs ys : List Draft) (left mid to : Standing) → DraftsLeave left xs mid → DraftsLeave mid ys to → DraftsLeave left (xs ++ ys) to
leave-append [] ys left mid to first second = subst (λ (l : Standing). DraftsLeave l ys to) first second
leave-append (d ∷ xs) ys left mid to first second = (first.0, leave-append xs ys (standing_after (numbered d left.next) left) mid to first.1 second)

-- ---- a commit cycle begins

module _ (author : Author) (number : ℕ) (left : Standing) where
  abbrev begin : Entry
  begin = numbered (cycle_draft author number CommitCycleStarted) left.next

  abbrev pub started_left : Standing
  started_left = record left { next = left.next + 1; begun = None; cycles = left.cycles ++ left.next ∷ [] }

  pub start-after : standing_after begin left ≡ started_left
  start-after =
      standing-same (left.next + 1) None None left.files left.files _ left.members left.next_member left.next_member
      (left.cycles ++ left.next ∷ []) (left.cycles ++ left.next ∷ []) left.undos left.undos refl refl
      (append-nil (members_by left.begun begin left.members) ∙ members-stay left.begun begin left.members (λ m. refl)) refl refl refl

  pub start-may : left.begun ≡ None → AllByRecursion (IsHeldWithin left) left.members → 1 ≤ left.next → MayBeDeposited left begin
  start-may none within first = record {
    next = record {
      sequence = refl;
      enters = tt;
      replays = λ member. refl;
      names = λ no. absurd (no refl);
      deletes = λ name is. absurd cc;
      pairs = subst (λ (o : Option Entry). EndsPair o begin) (sym none) refl;
      records = no-records (catalogue_in left) (member_numbered None (catalogue_in left));
    };
    within = subst (λ (l : Standing). AllByRecursion (IsHeldWithin l) l.members) (sym start-after) within;
    placed = let own : (nat_lt 0 left.next && (left.next == left.next)) ≡ true = grind (arith, nat_tests, first) in ap (λ (b : Bool). b && true && true) own;
    journaled = λ on. absurd cc;
  }

-- ---- a slot becomes another

-- the change, as it is kept where the journal tells both of its sides
abbrev pub change_of : (own : Option ℕ) → (rrn : ℕ) → (before : Option Slot) → (new : Slot) → Change
change_of own rrn before new = record { place = rrn - 1; cycle = own; before = before; after = new }

alike : (own : Option ℕ) (n rrn : ℕ) (one other : Option Slot) (new : Slot) (first second : ℕ) (members : List HeldMember)
    → map (moved_by n (Changed (change_of own rrn one new)) first) members ≡ map (moved_by n (Changed (change_of own rrn other new)) second) members
alike own n rrn one other new first second [] = refl
alike own n rrn one other new first second (m ∷ members) =
    ap (λ (x : HeldMember). x ∷ map (moved_by n (Changed (change_of own rrn one new)) first) members)
    (elim (n == m.number) as (λ b. member_by (cond b (Changed (change_of own rrn one new)) Nothing) first m ≡ member_by (cond b (Changed (change_of own rrn other new)) Nothing) second m)
    [ true ↦ refl | false ↦ refl ])
    ∙ ap (λ (t : List HeldMember). moved_by n (Changed (change_of own rrn other new)) second m ∷ t) (alike own n rrn one other new first second members)

silent : (n sequence : ℕ) (members : List HeldMember) → map (moved_by n Nothing sequence) members ≡ members
silent n sequence [] = refl
silent n sequence (m ∷ members) =
    ap (λ (x : HeldMember). x ∷ map (moved_by n Nothing sequence) members) (elim (n == m.number) as (λ b. member_by (cond b Nothing Nothing) sequence m ≡ m) [ true ↦ refl | false ↦ refl ])
    ∙ ap (λ (t : List HeldMember). m ∷ t) (silent n sequence members)

-- the record of this number may become so
pub record IsReady (own : Option ℕ) (n rrn : ℕ) (old new : Slot) (left : Standing) : Type 0 where
  pub member : HeldMember
  pub found : member_numbered (Some n) (catalogue_in left) ≡ Some (catalog_member member)
  pub kept : is_some member.images ≡ true
  pub counted : nat_lt 0 n ≡ true
  pub placed : nat_lt 0 rrn ≡ true
  pub group : is_counted own ≡ true
  pub place : rrn - 1 ≤ length (slots_at n left.members)
  pub stands : slot_of (slots_at n left.members) (rrn - 1) ≡ old
  pub opens : IsOpen left.cycles own
  pub alone : AllByRecursion (λ (d : Change). d.place ≡ rrn - 1 → d.cycle ≡ own) (of_member n left.undos)
  pub records : (image : List ℕ) → (old ≡ Live image) ⊎ (new ≡ Live image) → AreRecordsOf descriptions (catalogue_in left) (Some (catalog_member member)) (image ∷ [])
  pub before : AllByRecursion (IsHeldWithin left) left.members
  pub within : AllByRecursion (IsHeldWithin left) (map (moved_by n (Changed (change_of own rrn (Some old) new)) 0) left.members)

-- drafts by which it becomes so
pub record IsPutBy (left : Standing) (drafts : List Draft) (n : ℕ) (c : Change) : Type 0 where
  pub to : Standing
  pub leave : DraftsLeave left drafts to
  pub whole : to.begun ≡ None
  pub files : to.files ≡ left.files
  pub members : to.members ≡ map (moved_by n (Changed c) 0) left.members
  pub next_member : to.next_member ≡ left.next_member
  pub cycles : to.cycles ≡ left.cycles
  pub undos : to.undos ≡ noted_of c.cycle (record { member = n; change = c }) left.undos
  pub later : left.next ≤ to.next

all-three : (a b c : Bool) → a ≡ true → b ≡ true → c ≡ true → (a && b && c) ≡ true
all-three a b c x y z = ap (λ (i : Bool). i && b && c) x ∙ ap (λ (i : Bool). true && i && c) y ∙ ap (λ (i : Bool). true && true && i) z

module _ (author : Author) (own : Option ℕ) (n rrn : ℕ) (old new : Slot) (left : Standing) (ready : IsReady own n rrn old new left) (kind : EntryKind) (is : IsOfOne kind) (is_record : place kind ≡ Record)
  where
    abbrev e : Entry
    e = one_entry author own n (Some rrn) kind left.next

    kind-placed : IsTrue (is_placed e)
    kind-placed =
        ap (λ (p : Place). is_placed_at p left.next e.group (Some n) (Some rrn)) is_record ∙ ap (λ (g : Option ℕ). is_placed_at Record left.next g (Some n) (Some rrn)) (is.group left.next own)
        ∙ all-three (is_counted own) (nat_lt 0 n) (nat_lt 0 rrn) ready.group ready.counted ready.placed

    kind-kept : OfMember (member_numbered (Some n) (catalogue_in left)) (λ (m : CatalogMember). is_some m.images ≡ true)
    kind-kept = subst (λ (o : Option CatalogMember). OfMember o (λ (m : CatalogMember). is_some m.images ≡ true)) (sym ready.found) ready.kept

    kind-records : (images : List (List ℕ)) → AreRecordsOf descriptions (catalogue_in left) (Some (catalog_member ready.member)) images
        → AreRecordsOf descriptions (catalogue_in left) (member_numbered (Some n) (catalogue_in left)) images
    kind-records images are = subst (λ (o : Option CatalogMember). AreRecordsOf descriptions (catalogue_in left) o images) (sym ready.found) are

    -- one entry tells of the change
    single : (before : Option Slot) → act_there kind left.begun e ≡ Changed (change_of own rrn before new) → AgreesBefore before own old → pair_begun kind ≡ None → EndsPair left.begun e
        → AreRecordsOf descriptions (catalogue_in left) (Some (catalog_member ready.member)) (images_of kind)
        → noted_of own (record { member = n; change = change_of own rrn before new }) left.undos ≡ noted_of own (record { member = n; change = change_of own rrn (Some old) new }) left.undos
        → IsPutBy left (one_draft author own n (Some rrn) kind ∷ []) n (change_of own rrn (Some old) new)
    single before there agrees begun pairs records noted = record {
      to = one_left author own n (Some rrn) kind is left (Changed (change_of own rrn before new)) there;
      leave = (
        one-may author own n (Some rrn) kind is left (Changed (change_of own rrn before new)) there (catalog_member ready.member, ready.found)
            (record { place = ready.place; before = subst (AgreesBefore before own) (sym ready.stands) agrees; cycle = ready.opens; alone = ready.alone }) ready.opens pairs
            (kind-records (images_of kind) records)
            (subst (AllByRecursion (IsHeldWithin left)) (alike own n rrn (Some old) before new 0 left.next left.members) ready.within) kind-placed (λ of. kind-kept),
        sym (one-after author own n (Some rrn) kind is left (Changed (change_of own rrn before new)) there),
      );
      whole = ap (λ p. only_begun p e) begun;
      files = refl;
      members = sym (alike own n rrn (Some old) before new 0 left.next left.members);
      next_member = refl;
      cycles = refl;
      undos = noted;
      later = omega arith;
    }

-- not both a deleted slot before and behind it
abbrev pub IsReal : (old new : Slot) → Type 0
IsReal (Live before) new = Unit {0}
IsReal Deleted (Live image) = Unit {0}
IsReal Deleted Deleted = ⊥

noted-outside : (own : Option ℕ) (one other : MemberChange) (undos : List MemberChange) → own ≡ None → noted_of own one undos ≡ noted_of own other undos
noted-outside own one other undos none =
    ap (λ (o : Option ℕ). noted_of o one undos) none ∙ sym (ap (λ (o : Option ℕ). noted_of o other undos) none)

module _ (author : Author) (own : Option ℕ) (n rrn : ℕ) (left : Standing) (whole : left.begun ≡ None) where
  -- an image before the change and one behind it
  module _ (before after : List ℕ) (ready : IsReady own n rrn (Live before) (Live after) left) where
    abbrev one : Entry
    one = one_entry author own n (Some rrn) (BeforeImage before) left.next

    abbrev mid : Standing
    mid = record left { next = left.next + 1; begun = Some one }

    mid-after : standing_after one left ≡ mid
    mid-after =
        one-after author own n (Some rrn) (BeforeImage before) (before-one before) left Nothing refl
        ∙ ap (λ (ms : List HeldMember). record mid { members = ms }) (silent n left.next left.members)

    first : MayBeDeposited left one
    first =
        one-may author own n (Some rrn) (BeforeImage before) (before-one before) left Nothing refl (catalog_member ready.member, ready.found) tt ready.opens
        (subst (λ (o : Option Entry). EndsPair o one) (sym whole) refl)
        (kind-records author own n rrn (Live before) (Live after) left ready (BeforeImage before) (before-one before) refl (before ∷ []) (ready.records before (inl refl)))
        (subst (AllByRecursion (IsHeldWithin left)) (sym (silent n left.next left.members)) ready.before)
        (kind-placed author own n rrn (Live before) (Live after) left ready (BeforeImage before) (before-one before) refl)
        (λ of. kind-kept author own n rrn (Live before) (Live after) left ready (BeforeImage before) (before-one before) refl)

    abbrev ready_then : IsReady own n rrn (Live before) (Live after) mid
    ready_then = record {
      member = ready.member;
      found = ready.found;
      kept = ready.kept;
      counted = ready.counted;
      placed = ready.placed;
      group = ready.group;
      place = ready.place;
      stands = ready.stands;
      opens = ready.opens;
      alone = ready.alone;
      records = ready.records;
      before = ready.before;
      within = ready.within;
    }

    same-record : ((n == n) && (rrn == rrn)) ≡ true
    same-record = grind (arith, nat_tests)

    second : IsPutBy mid (one_draft author own n (Some rrn) (AfterImage true after) ∷ []) n (change_of own rrn (Some (Live before)) (Live after))
    second =
        single author own n rrn (Live before) (Live after) mid ready_then (AfterImage true after) (after-one true after) refl (Some (Live before))
        (ap (λ (b : Bool). Changed (change_of own rrn (cond b (Some (Live before)) None) (Live after))) same-record) refl refl
        (refl, record { job = refl; cycle = refl; member = refl; rrn = refl }) (ready.records after (inr refl)) refl

    pair : IsPutBy left (one_draft author own n (Some rrn) (BeforeImage before) ∷ one_draft author own n (Some rrn) (AfterImage true after) ∷ []) n
        (change_of own rrn (Some (Live before)) (Live after))
    pair = record {
      to = second.to;
      leave = (first, subst (λ (l : Standing). DraftsLeave l (one_draft author own n (Some rrn) (AfterImage true after) ∷ []) second.to) (sym mid-after) second.leave);
      whole = second.whole;
      files = second.files;
      members = second.members;
      next_member = second.next_member;
      cycles = second.cycles;
      undos = second.undos;
      later = let more = second.later in omega (arith, more);
    }

  none-ends : (kind : EntryKind) (is : IsOfOne kind) → EndsPair None (one_entry author own n (Some rrn) kind left.next) → EndsPair left.begun (one_entry author own n (Some rrn) kind left.next)
  none-ends kind is none = subst (λ (o : Option Entry). EndsPair o (one_entry author own n (Some rrn) kind left.next)) (sym whole) none

  -- however the slot becomes another; outside a commit cycle the journal may lack its side before
  pub put-slot : (both behind : Bool) (old new : Slot) → (both ≡ false → own ≡ None) → IsReady own n rrn old new left → IsReal old new
      → IsPutBy left (slot_drafts author own both behind n rrn old new) n (change_of own rrn (Some old) new)
  put-slot both true Deleted (Live image) outside ready real =
      single author own n rrn Deleted (Live image) left ready (RecordAdded image) (added-one image) refl (Some Deleted) refl refl refl (none-ends (RecordAdded image) (added-one image) refl)
      (ready.records image (inr refl)) refl
  put-slot both false Deleted (Live image) outside ready real =
      single author own n rrn Deleted (Live image) left ready (RecordAddedAtNumber image) (put-one image) refl (Some Deleted) refl refl refl
      (none-ends (RecordAddedAtNumber image) (put-one image) refl) (ready.records image (inr refl)) refl
  put-slot true behind (Live before) (Live after) outside ready real = pair before after ready
  put-slot false behind (Live before) (Live after) outside ready real =
      single author own n rrn (Live before) (Live after) left ready (AfterImage false after) (after-one false after) refl None refl (outside refl, refl) refl
      (none-ends (AfterImage false after) (after-one false after) refl) (ready.records after (inr refl)) (noted-outside own _ _ left.undos (outside refl))
  put-slot true behind (Live before) Deleted outside ready real =
      single author own n rrn (Live before) Deleted left ready (RecordDeleted (Some before)) (deleted-one (Some before)) refl (Some (Live before)) refl refl refl
      (none-ends (RecordDeleted (Some before)) (deleted-one (Some before)) refl) (ready.records before (inl refl)) refl
  put-slot false behind (Live before) Deleted outside ready real =
      single author own n rrn (Live before) Deleted left ready (RecordDeleted None) (deleted-one None) refl None refl (outside refl, refl) refl
      (none-ends (RecordDeleted None) (deleted-one None) refl) (no-images left ready.member) (noted-outside own _ _ left.undos (outside refl))
    where
      no-images : (left : Standing) (m : HeldMember) → AreRecordsOf descriptions (catalogue_in left) (Some (catalog_member m)) []
      no-images left m = no-records (catalogue_in left) (Some (catalog_member m))
  put-slot both behind Deleted Deleted outside ready real = absurd real
