-- An entry of one member: when a library may deposit it, and what it leaves.
use Rattle.std.proofs.Common.{◌≡◌, ℕ, ◌+◌, ◌==◌, Bool, true, false, cond, IsTrue, Option, Some, List, [], ◌∷◌, ◌++◌, map, refl, sym, ap, ◌∙◌, subst, arith}
use Rattle.std.specs.List.{AllByRecursion}
use Rattle.std.proofs.lemmas.Bool.{eqb-true}
use Rattle.std.proofs.lemmas.Bool.Decides.{nat_tests}
use Rattle.std.proofs.lemmas.List.{append-nil}
use Rattle.entry_codec.specs.declared.entries.Entry.{Entry}
use Rattle.entry_codec.specs.declared.entries.Draft.{Draft}
use Rattle.entry_codec.specs.declared.kinds.Images.{Images}
use Rattle.entry_codec.specs.declared.kinds.EntryKind.{EntryKind}
use Rattle.entry_codec.specs.declared.kinds.EntryKind.TheVariants.{FileDeleted, JournalingStarted, InitialSlot, ChangesApplied, ChangesRemoved, RecordAdded, RecordAddedAtNumber, BeforeImage, AfterImage, RecordDeleted, UndoBeforeImage, UndoAfterImage, UndoDelete}
use Rattle.entry_codec.specs.Drafts.{group_at, numbered}
use Rattle.entry_codec.specs.Placing.{is_placed_at, place}
use Rattle.journal_model.specs.Acts.{Act, Nothing, act, act_elsewhere, act_there}
use Rattle.journal_model.specs.Catalogue.{Catalogue, CatalogFile, CatalogMember, IsOfMember, MayEnterBy, member_numbered}
use Rattle.journal_model.specs.Images.{AreRecordsOf, images_of}
use Rattle.journal_model.specs.Pairs.{EndsPair, pair_begun}
use Rattle.journal_model.specs.Replay.{cycles_after}
use Rattle.journal_model.specs.Replayable.{IsOpen, MayFollow}
use Rattle.journal_model.specs.Rollback.{undos_by}
use Rattle.journal_replay.specs.Standing.{HeldMember, Standing, catalogue_in, files_by, left_by, made_by, member_by, members_by, next_after, only_begun, standing_after, state_in}
use Rattle.named_bases.specs.Sources.{descriptions}
use Rattle.journaled_entries.specs.Deposited.{IsJournaledThen}
use Rattle.replayed_histories.specs.Replayed.{IsHeldWithin}
use Rattle.replayed_histories.specs.Deposits.{DraftsLeave, MayBeDeposited}
use Rattle.replayed_histories.proofs.QuietLemmas.{made, standing-same}

-- ---- drafts that lead to something that is so

pub record Leads (left : Standing) (drafts : List Draft) (P : Standing → Type 0) : Type 0 where
  pub to : Standing
  pub leave : DraftsLeave left drafts to
  pub so : P to

pub leads-none : (left : Standing) (P : Standing → Type 0) → P left → Leads left [] P
leads-none left P so = record { to = left; leave = refl; so = so }

pub leads-more : (left : Standing) (d : Draft) (drafts : List Draft) (P : Standing → Type 0) → MayBeDeposited left (numbered d left.next)
    → Leads (standing_after (numbered d left.next) left) drafts P → Leads left (d ∷ drafts) P
leads-more left d drafts P may rest = record { to = rest.to; leave = (may, rest.leave); so = rest.so }

leave-join : (left middle to : Standing) (xs ys : List Draft) → DraftsLeave left xs middle → DraftsLeave middle ys to → DraftsLeave left (xs ++ ys) to
leave-join left middle to [] ys first second = subst (λ (l : Standing). DraftsLeave l ys to) first second
leave-join left middle to (d ∷ xs) ys first second = (first.0, leave-join (standing_after (numbered d left.next) left) middle to xs ys first.1 second)

pub leads-append : (left : Standing) (xs ys : List Draft) (P Q : Standing → Type 0) → Leads left xs P → ((middle : Standing) → P middle → Leads middle ys Q) → Leads left (xs ++ ys) Q
leads-append left xs ys P Q first next =
    let rest = next first.to first.so in
    record { to = rest.to; leave = leave-join left first.to rest.to xs ys first.leave rest.leave; so = rest.so }

-- ---- kinds of entries that are of one member, and make none

pub record IsOfRecord (kind : EntryKind) : Type 0 where
  pub elsewhere : (e : Entry) → act_elsewhere kind e ≡ Nothing
  pub group : (sequence : ℕ) (group : Option ℕ) → group_at kind sequence group ≡ group
  pub enters : (e : Entry) (c : Catalogue) → IsOfMember e c → MayEnterBy descriptions kind e c
  pub undeleted : (name : List ℕ) → kind ≡ FileDeleted name → ⊥
  pub files : (e : Entry) (files : List CatalogFile) → files_by kind e files ≡ files
  pub members : (members : List HeldMember) → left_by kind members ≡ members
  pub made : (e : Entry) → made_by kind e ≡ []

pub started-of : (images : Images) (slots : ℕ) → IsOfRecord (JournalingStarted images slots)
started-of images slots = record {
  elsewhere = λ e. refl;
  group = λ sequence group. refl;
  enters = λ e c there. there;
  undeleted = λ name is. absurd cc;
  files = λ e files. refl;
  members = λ members. refl;
  made = λ e. refl;
}

pub initial-of : (image : List ℕ) → IsOfRecord (InitialSlot image)
initial-of image = record {
  elsewhere = λ e. refl;
  group = λ sequence group. refl;
  enters = λ e c there. there;
  undeleted = λ name is. absurd cc;
  files = λ e files. refl;
  members = λ members. refl;
  made = λ e. refl;
}

pub applied-of : (first last changes : ℕ) → IsOfRecord (ChangesApplied first last changes)
applied-of first last changes = record {
  elsewhere = λ e. refl;
  group = λ sequence group. refl;
  enters = λ e c there. there;
  undeleted = λ name is. absurd cc;
  files = λ e files. refl;
  members = λ members. refl;
  made = λ e. refl;
}

pub removed-of : (first last changes : ℕ) → IsOfRecord (ChangesRemoved first last changes)
removed-of first last changes = record {
  elsewhere = λ e. refl;
  group = λ sequence group. refl;
  enters = λ e c there. there;
  undeleted = λ name is. absurd cc;
  files = λ e files. refl;
  members = λ members. refl;
  made = λ e. refl;
}

pub added-of : (image : List ℕ) → IsOfRecord (RecordAdded image)
added-of image = record {
  elsewhere = λ e. refl;
  group = λ sequence group. refl;
  enters = λ e c there. there;
  undeleted = λ name is. absurd cc;
  files = λ e files. refl;
  members = λ members. refl;
  made = λ e. refl;
}

pub added_at-of : (image : List ℕ) → IsOfRecord (RecordAddedAtNumber image)
added_at-of image = record {
  elsewhere = λ e. refl;
  group = λ sequence group. refl;
  enters = λ e c there. there;
  undeleted = λ name is. absurd cc;
  files = λ e files. refl;
  members = λ members. refl;
  made = λ e. refl;
}

pub before-of : (image : List ℕ) → IsOfRecord (BeforeImage image)
before-of image = record {
  elsewhere = λ e. refl;
  group = λ sequence group. refl;
  enters = λ e c there. there;
  undeleted = λ name is. absurd cc;
  files = λ e files. refl;
  members = λ members. refl;
  made = λ e. refl;
}

pub after-of : (has_before : Bool) (image : List ℕ) → IsOfRecord (AfterImage has_before image)
after-of has_before image = record {
  elsewhere = λ e. refl;
  group = λ sequence group. refl;
  enters = λ e c there. there;
  undeleted = λ name is. absurd cc;
  files = λ e files. refl;
  members = λ members. refl;
  made = λ e. refl;
}

pub deleted-of : (before : Option (List ℕ)) → IsOfRecord (RecordDeleted before)
deleted-of before = record {
  elsewhere = λ e. refl;
  group = λ sequence group. refl;
  enters = λ e c there. there;
  undeleted = λ name is. absurd cc;
  files = λ e files. refl;
  members = λ members. refl;
  made = λ e. refl;
}

pub undo_before-of : (image : List ℕ) → IsOfRecord (UndoBeforeImage image)
undo_before-of image = record {
  elsewhere = λ e. refl;
  group = λ sequence group. refl;
  enters = λ e c there. there;
  undeleted = λ name is. absurd cc;
  files = λ e files. refl;
  members = λ members. refl;
  made = λ e. refl;
}

pub undo_after-of : (has_before : Bool) (image : List ℕ) → IsOfRecord (UndoAfterImage has_before image)
undo_after-of has_before image = record {
  elsewhere = λ e. refl;
  group = λ sequence group. refl;
  enters = λ e c there. there;
  undeleted = λ name is. absurd cc;
  files = λ e files. refl;
  members = λ members. refl;
  made = λ e. refl;
}

pub undo_delete-of : (image : List ℕ) → IsOfRecord (UndoDelete image)
undo_delete-of image = record {
  elsewhere = λ e. refl;
  group = λ sequence group. refl;
  enters = λ e c there. there;
  undeleted = λ name is. absurd cc;
  files = λ e files. refl;
  members = λ members. refl;
  made = λ e. refl;
}

-- ---- one such entry

abbrev pub by_act : ℕ → Act → (sequence : ℕ) → HeldMember → HeldMember
by_act k a sequence m = member_by (cond (k == m.number) a Nothing) sequence m

abbrev pub draft_by : Option (List ℕ) → (moment : ℕ) → (group : Option ℕ) → (k : ℕ) → (rrn : Option ℕ) → EntryKind → Draft
draft_by job moment group k rrn kind = record { job = job; moment = moment; group = group; member = Some k; rrn = rrn; kind = kind }

-- one that does nothing leaves the members
pub by-nothing : (k sequence : ℕ) (members : List HeldMember) → map (by_act k Nothing sequence) members ≡ members
by-nothing k sequence [] = refl
by-nothing k sequence (m ∷ members) =
    elim (k == m.number) as (λ b. member_by (cond b Nothing Nothing) sequence m ∷ map (by_act k Nothing sequence) members ≡ m ∷ map (by_act k Nothing sequence) members)
    [ true ↦ refl | false ↦ refl ]
    ∙ ap (λ (t : List HeldMember). m ∷ t) (by-nothing k sequence members)

module _ (left : Standing) (job : Option (List ℕ)) (moment : ℕ) (group : Option ℕ) (k : ℕ) (rrn : Option ℕ) (kind : EntryKind) (its : IsOfRecord kind) (a : Act)
    (there : act_there kind left.begun (numbered (draft_by job moment group k rrn kind) left.next) ≡ a) where
  abbrev e : Entry
  e = numbered (draft_by job moment group k rrn kind) left.next

  acts : (n : ℕ) → act n left.begun e ≡ cond (k == n) a Nothing
  acts n = ap (λ (x : Act). cond (k == n) x (act_elsewhere kind e)) there ∙ ap (λ (x : Act). cond (k == n) a x) (its.elsewhere e)

  members-then : (members : List HeldMember) → members_by left.begun e members ≡ map (by_act k a left.next) members
  members-then [] = refl
  members-then (m ∷ members) =
      ap (λ (x : Act). member_by x left.next m ∷ members_by left.begun e members) (acts m.number)
      ∙ ap (λ (t : List HeldMember). by_act k a left.next m ∷ t) (members-then members)

  own : (k == k) ≡ true
  own = grind (arith, nat_tests)

  abbrev pub left_then : Standing
  left_then = made (left.next + 1) (only_begun (pair_begun kind) e) left.files (map (by_act k a left.next) left.members) left.next_member left.cycles (undos_by a k left.undos)

  pub entry-after : standing_after e left ≡ left_then
  entry-after =
      standing-same (left.next + 1) _ (only_begun (pair_begun kind) e) _ left.files _ (map (by_act k a left.next) left.members) _ left.next_member _ left.cycles _ (undos_by a k left.undos)
      refl (its.files e left.files)
      (ap (λ (more : List HeldMember). left_by kind (members_by left.begun e left.members) ++ more) (its.made e)
      ∙ append-nil (left_by kind (members_by left.begun e left.members)) ∙ its.members (members_by left.begun e left.members) ∙ members-then left.members)
      (ap (next_after left.next_member) (its.made e)) (ap (cycles_after left.cycles) (its.elsewhere e))
      (ap (λ (x : Act). undos_by x k left.undos) (acts k ∙ ap (λ (b : Bool). cond b a Nothing) own))

  pub may-deposit : (c : CatalogMember) × (member_numbered (Some k) (catalogue_in left) ≡ Some c) → MayFollow (state_in left k) a → IsOpen left.cycles group → EndsPair left.begun e
      → AreRecordsOf descriptions (catalogue_in left) (member_numbered (Some k) (catalogue_in left)) (images_of kind) → AllByRecursion (IsHeldWithin left_then) left_then.members
      → IsTrue (is_placed_at (place kind) left.next group (Some k) rrn) → IsJournaledThen (catalogue_in left) e → MayBeDeposited left e
  may-deposit found may opened pairs records within placed journaled = record {
    next = record {
      sequence = refl;
      enters = its.enters e (catalogue_in left) found;
      replays = λ member. subst (λ (x : Act). MayFollow (state_in left member) x) (sym (acts member)) (follows member (k == member) refl);
      names = λ no. subst (λ (o : Option ℕ). IsOpen left.cycles o) (sym (its.group left.next group)) opened;
      deletes = λ name is. absurd (its.undeleted name is);
      pairs = pairs;
      records = records;
    };
    within = subst (λ (l : Standing). AllByRecursion (IsHeldWithin l) l.members) (sym entry-after) within;
    placed = subst (λ (o : Option ℕ). IsTrue (is_placed_at (place kind) left.next o (Some k) rrn)) (sym (its.group left.next group)) placed;
    journaled = journaled;
  } where
    follows : (member : ℕ) (b : Bool) → (k == member) ≡ b → MayFollow (state_in left member) (cond b a Nothing)
    follows member true is = subst (λ (n : ℕ). MayFollow (state_in left n) a) (eqb-true k member is) may
    follows member false is = tt
