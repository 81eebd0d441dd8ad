-- An entry that names one member: what the journal leaves behind it, and when it may be deposited.
use Rattle.std.proofs.Common.{◌≡◌, ℕ, ◌+◌, ◌==◌, Bool, true, false, cond, IsTrue, Option, Some, List, [], ◌∷◌, ◌++◌, map, refl, sym, ap, ◌∙◌, subst, arith}
use Rattle.std.specs.List.{AllByRecursion}
use Rattle.std.proofs.lemmas.Bool.{eqb-true}
use Rattle.std.proofs.lemmas.Bool.Decides.{nat_tests}
use Rattle.std.proofs.lemmas.List.{append-nil}
use Rattle.entry_codec.specs.declared.entries.Draft.{Draft}
use Rattle.entry_codec.specs.declared.entries.Entry.{Entry}
use Rattle.entry_codec.specs.declared.kinds.EntryKind.{EntryKind}
use Rattle.entry_codec.specs.declared.kinds.EntryKind.TheVariants.{AfterImage, BeforeImage, FileDeleted, MemberCleared, MemberReorganized, RecordAdded, RecordAddedAtNumber, RecordDeleted}
use Rattle.entry_codec.specs.Drafts.{group_at, numbered}
use Rattle.entry_codec.specs.Placing.{is_placed}
use Rattle.journal_model.specs.Acts.{Act, Nothing, act, act_elsewhere, act_there}
use Rattle.journal_model.specs.Catalogue.{Catalogue, CatalogFile, CatalogMember, IsOfMember, MayEnterBy, member_numbered}
use Rattle.journal_model.specs.Images.{AreRecordsOf, images_of}
use Rattle.journal_model.specs.Pairs.{EndsPair, pair_begun}
use Rattle.journal_model.specs.Replay.{cycles_after}
use Rattle.journal_model.specs.Replayable.{IsOpen, MayFollow}
use Rattle.journal_model.specs.Rollback.{undos_by}
use Rattle.journal_replay.specs.Standing.{HeldMember, Standing, catalogue_in, files_by, left_by, made_by, member_by, members_by, next_after, only_begun, standing_after, state_in}
use Rattle.library_steps.specs.Drafts.{Author}
use Rattle.named_bases.specs.Sources.{descriptions}
use Rattle.journaled_entries.specs.Deposited.{IsJournaledThen}
use Rattle.replayed_histories.specs.Replayed.{IsHeldWithin}
use Rattle.replayed_histories.specs.Deposits.{MayBeDeposited}
use Rattle.replayed_histories.proofs.QuietLemmas.{standing-same}

-- ---- kinds

-- an entry of this kind does nothing but to the member that it names
pub record IsOfOne (kind : EntryKind) : Type 0 where
  pub enters : (e : Entry) (c : Catalogue) → IsOfMember e c → MayEnterBy descriptions kind e c
  pub elsewhere : (e : Entry) → act_elsewhere kind e ≡ Nothing
  pub group : (sequence : ℕ) (group : Option ℕ) → group_at kind sequence group ≡ group
  pub undeleted : (name : List ℕ) → kind ≡ FileDeleted name → ⊥
  pub files : (e : Entry) (files : List CatalogFile) → files_by kind e files ≡ files
  pub members : (members : List HeldMember) → left_by kind members ≡ members
  pub made : (e : Entry) → made_by kind e ≡ []

pub cleared-one : IsOfOne MemberCleared
cleared-one = record {
  enters = λ e c of. of;
  elsewhere = λ e. refl;
  group = λ sequence group. refl;
  undeleted = λ name is. absurd cc;
  files = λ e files. refl;
  members = λ members. refl;
  made = λ e. refl;
}

pub reorganized-one : IsOfOne MemberReorganized
reorganized-one = record {
  enters = λ e c of. of;
  elsewhere = λ e. refl;
  group = λ sequence group. refl;
  undeleted = λ name is. absurd cc;
  files = λ e files. refl;
  members = λ members. refl;
  made = λ e. refl;
}

pub added-one : (image : List ℕ) → IsOfOne (RecordAdded image)
added-one image = record {
  enters = λ e c of. of;
  elsewhere = λ e. refl;
  group = λ sequence group. refl;
  undeleted = λ name is. absurd cc;
  files = λ e files. refl;
  members = λ members. refl;
  made = λ e. refl;
}

pub put-one : (image : List ℕ) → IsOfOne (RecordAddedAtNumber image)
put-one image = record {
  enters = λ e c of. of;
  elsewhere = λ e. refl;
  group = λ sequence group. refl;
  undeleted = λ name is. absurd cc;
  files = λ e files. refl;
  members = λ members. refl;
  made = λ e. refl;
}

pub before-one : (image : List ℕ) → IsOfOne (BeforeImage image)
before-one image = record {
  enters = λ e c of. of;
  elsewhere = λ e. refl;
  group = λ sequence group. refl;
  undeleted = λ name is. absurd cc;
  files = λ e files. refl;
  members = λ members. refl;
  made = λ e. refl;
}

pub after-one : (has_before : Bool) (image : List ℕ) → IsOfOne (AfterImage has_before image)
after-one has_before image = record {
  enters = λ e c of. of;
  elsewhere = λ e. refl;
  group = λ sequence group. refl;
  undeleted = λ name is. absurd cc;
  files = λ e files. refl;
  members = λ members. refl;
  made = λ e. refl;
}

pub deleted-one : (before : Option (List ℕ)) → IsOfOne (RecordDeleted before)
deleted-one before = record {
  enters = λ e c of. of;
  elsewhere = λ e. refl;
  group = λ sequence group. refl;
  undeleted = λ name is. absurd cc;
  files = λ e files. refl;
  members = λ members. refl;
  made = λ e. refl;
}

-- ---- such an entry

abbrev pub one_draft : Author → (cycle : Option ℕ) → (member : ℕ) → (rrn : Option ℕ) → EntryKind → Draft
one_draft author cycle member rrn kind = record { job = Some author.job; moment = author.moment; group = cycle; member = Some member; rrn = rrn; kind = kind }

abbrev pub one_entry : Author → (cycle : Option ℕ) → (member : ℕ) → (rrn : Option ℕ) → EntryKind → (sequence : ℕ) → Entry
one_entry author cycle member rrn kind sequence = numbered (one_draft author cycle member rrn kind) sequence

-- the member of this number moves by the act
abbrev pub moved_by : ℕ → Act → (sequence : ℕ) → HeldMember → HeldMember
moved_by n a sequence m = member_by (cond (n == m.number) a Nothing) sequence m

module _ (author : Author) (cycle : Option ℕ) (n : ℕ) (rrn : Option ℕ) (kind : EntryKind) (is : IsOfOne kind) (left : Standing) (a : Act)
    (there : act_there kind left.begun (one_entry author cycle n rrn kind left.next) ≡ a) where
  abbrev e : Entry
  e = one_entry author cycle n rrn kind left.next

  acts : (member : ℕ) → act member left.begun e ≡ cond (n == member) a Nothing
  acts member = λ i. cond (n == member) (there i) (is.elsewhere e i)

  own : act n left.begun e ≡ a
  own = let same : (n == n) ≡ true = grind (arith, nat_tests) in acts n ∙ ap (λ (b : Bool). cond b a Nothing) same

  abbrev pub one_left : Standing
  one_left = record {
    next = left.next + 1;
    begun = only_begun (pair_begun kind) e;
    files = left.files;
    members = map (moved_by n a left.next) left.members;
    next_member = left.next_member;
    cycles = left.cycles;
    undos = undos_by a n left.undos;
  }

  moved-all : (members : List HeldMember) → members_by left.begun e members ≡ map (moved_by n a left.next) members
  moved-all [] = refl
  moved-all (m ∷ members) =
      ap (λ (x : Act). member_by x left.next m ∷ members_by left.begun e members) (acts m.number) ∙ ap (λ (t : List HeldMember). moved_by n a left.next m ∷ t) (moved-all members)

  pub one-after : standing_after e left ≡ one_left
  one-after =
      standing-same (left.next + 1) _ (only_begun (pair_begun kind) e) _ left.files _ (map (moved_by n a left.next) left.members) _ left.next_member _ left.cycles _ (undos_by a n left.undos)
      refl (is.files e left.files)
      (ap (λ (more : List HeldMember). left_by kind (members_by left.begun e left.members) ++ more) (is.made e)
      ∙ append-nil (left_by kind (members_by left.begun e left.members)) ∙ is.members (members_by left.begun e left.members) ∙ moved-all left.members)
      (ap (next_after left.next_member) (is.made e)) (ap (cycles_after left.cycles) (is.elsewhere e)) (ap (λ (x : Act). undos_by x n left.undos) own)

  pub one-may : (c : CatalogMember) × (member_numbered (Some n) (catalogue_in left) ≡ Some c) → MayFollow (state_in left n) a → IsOpen left.cycles cycle → EndsPair left.begun e
      → AreRecordsOf descriptions (catalogue_in left) (member_numbered (Some n) (catalogue_in left)) (images_of kind) → AllByRecursion (IsHeldWithin one_left) one_left.members
      → IsTrue (is_placed e) → IsJournaledThen (catalogue_in left) e → MayBeDeposited left e
  one-may found follows opens pairs records within placed journaled = record {
    next = record {
      sequence = refl;
      enters = is.enters e (catalogue_in left) found;
      replays = λ member. subst (MayFollow (state_in left member)) (sym (acts member)) (by member (n == member) refl);
      names = λ no. subst (IsOpen left.cycles) (sym (is.group left.next cycle)) opens;
      deletes = λ name gone. absurd (is.undeleted name gone);
      pairs = pairs;
      records = records;
    };
    within = subst (λ (l : Standing). AllByRecursion (IsHeldWithin l) l.members) (sym one-after) within;
    placed = placed;
    journaled = journaled;
  } where
    by : (member : ℕ) (b : Bool) → (n == member) ≡ b → MayFollow (state_in left member) (cond b a Nothing)
    by member true same = subst (λ (k : ℕ). MayFollow (state_in left k) a) (eqb-true n member same) follows
    by member false same = tt
