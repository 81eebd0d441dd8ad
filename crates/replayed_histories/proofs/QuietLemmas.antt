-- Entries of the library that do nothing to files, members and commit cycles.
use Rattle.std.proofs.Common.{◌≡◌, ℕ, ◌+◌, true, false, List, [], ◌∷◌, ◌++◌, map, Option, Some, None, refl, sym, ap, ◌∙◌, subst}
use Rattle.std.specs.List.{AllByRecursion}
use Rattle.std.proofs.lemmas.List.{append-nil}
use Rattle.commit_level.specs.declared.Level.{Level}
use Rattle.entry_codec.specs.declared.entries.Entry.{Entry}
use Rattle.entry_codec.specs.declared.kinds.EntryKind.{EntryKind}
use Rattle.entry_codec.specs.declared.kinds.EntryKind.TheVariants.{FileDeleted, CommitmentStarted, CommitmentEnded, NextReceiver, PreviousReceiver}
use Rattle.entry_codec.specs.Drafts.{group_at, numbered}
use Rattle.entry_codec.specs.Placing.{is_placed, place}
use Rattle.journal_model.specs.Acts.{Act, Nothing, act, act_elsewhere}
use Rattle.journal_model.specs.Catalogue.{Catalogue, CatalogFile, CatalogMember, MayEnterBy, file_named, member_numbered}
use Rattle.journal_model.specs.Images.{AreRecords, AreRecordsOf, images_of}
use Rattle.journal_model.specs.Pairs.{EndsPair, pair_begun, pair_ended}
use Rattle.journal_model.specs.Replay.{cycles_after}
use Rattle.journal_model.specs.Replayable.{IsOpen, MayFollow}
use Rattle.journal_model.specs.Rollback.{MemberChange, undos_by}
use Rattle.journal_replay.specs.Standing.{HeldMember, Standing, catalogue_in, files_by, left_by, made_by, member_by, members_by, next_after, only_begun, standing_after, state_in}
use Rattle.journaled_entries.specs.Deposited.{is_of_record}
use Rattle.library_steps.specs.Drafts.{Author, library_draft}
use Rattle.named_bases.specs.Sources.{descriptions}
use Rattle.replayed_histories.specs.Replayed.{IsHeldWithin}
use Rattle.replayed_histories.specs.Deposits.{DraftsLeave, MayBeDeposited, moved_on}

abbrev pub entry_of : Author → EntryKind → (sequence : ℕ) → Entry
entry_of author kind sequence = numbered (library_draft author kind) sequence

pub record IsQuiet (kind : EntryKind) : Type 0 where
  pub enters : (e : Entry) (c : Catalogue) → MayEnterBy descriptions kind e c
  pub elsewhere : (e : Entry) → act_elsewhere kind e ≡ Nothing
  pub group : (sequence : ℕ) → group_at kind sequence None ≡ None
  pub undeleted : (name : List ℕ) → kind ≡ FileDeleted name → ⊥
  pub ended : pair_ended kind ≡ None
  pub begun : pair_begun kind ≡ None
  pub images : images_of kind ≡ []
  pub files : (e : Entry) (files : List CatalogFile) → files_by kind e files ≡ files
  pub members : (members : List HeldMember) → left_by kind members ≡ members
  pub made : (e : Entry) → made_by kind e ≡ []
  pub placed : (author : Author) (sequence : ℕ) → is_placed (entry_of author kind sequence) ≡ true
  pub unrecorded : is_of_record (place kind) ≡ false

-- ---- the kinds

pub started-quiet : (level : Level) → IsQuiet (CommitmentStarted level)
started-quiet level = record {
  enters = λ e c. tt;
  elsewhere = λ e. refl;
  group = λ sequence. refl;
  undeleted = λ name is. absurd cc;
  ended = refl;
  begun = refl;
  images = refl;
  files = λ e files. refl;
  members = λ members. refl;
  made = λ e. refl;
  placed = λ author sequence. refl;
  unrecorded = refl;
}

pub ended-quiet : IsQuiet CommitmentEnded
ended-quiet = record {
  enters = λ e c. tt;
  elsewhere = λ e. refl;
  group = λ sequence. refl;
  undeleted = λ name is. absurd cc;
  ended = refl;
  begun = refl;
  images = refl;
  files = λ e files. refl;
  members = λ members. refl;
  made = λ e. refl;
  placed = λ author sequence. refl;
  unrecorded = refl;
}

pub next-quiet : (number : ℕ) → IsQuiet (NextReceiver number)
next-quiet number = record {
  enters = λ e c. tt;
  elsewhere = λ e. refl;
  group = λ sequence. refl;
  undeleted = λ name is. absurd cc;
  ended = refl;
  begun = refl;
  images = refl;
  files = λ e files. refl;
  members = λ members. refl;
  made = λ e. refl;
  placed = λ author sequence. refl;
  unrecorded = refl;
}

pub previous-quiet : (number : ℕ) → IsQuiet (PreviousReceiver number)
previous-quiet number = record {
  enters = λ e c. tt;
  elsewhere = λ e. refl;
  group = λ sequence. refl;
  undeleted = λ name is. absurd cc;
  ended = refl;
  begun = refl;
  images = refl;
  files = λ e files. refl;
  members = λ members. refl;
  made = λ e. refl;
  placed = λ author sequence. refl;
  unrecorded = refl;
}

-- ---- one such entry

-- no image is one of no record
pub no-records : (c : Catalogue) (member : Option CatalogMember) → AreRecordsOf descriptions c member []
no-records c None = tt
no-records c (Some member) = at (file_named member.file c) where
  at : (file : Option CatalogFile) → AreRecords descriptions c.files file []
  at None = tt
  at (Some file) = tt

pub members-stay : (prior : Option Entry) (e : Entry) (members : List HeldMember) → ((m : HeldMember) → member_by (act m.number prior e) e.sequence m ≡ m) → members_by prior e members ≡ members
members-stay prior e [] same = refl
members-stay prior e (m ∷ members) same =
    ap (λ (h : HeldMember). h ∷ members_by prior e members) (same m) ∙ ap (λ (t : List HeldMember). m ∷ t) (members-stay prior e members same)

abbrev pub made : (next : ℕ) → Option Entry → List CatalogFile → List HeldMember → (next_member : ℕ) → List ℕ → List MemberChange → Standing
made next begun files members next_member cycles undos =
    record { next = next; begun = begun; files = files; members = members; next_member = next_member; cycles = cycles; undos = undos }

pub standing-same : (next : ℕ) (begun begun_then : Option Entry) (files files_then : List CatalogFile) (members members_then : List HeldMember) (next_member next_member_then : ℕ)
    (cycles cycles_then : List ℕ) (undos undos_then : List MemberChange)
    → begun ≡ begun_then → files ≡ files_then → members ≡ members_then → next_member ≡ next_member_then → cycles ≡ cycles_then → undos ≡ undos_then
    → made next begun files members next_member cycles undos ≡ made next begun_then files_then members_then next_member_then cycles_then undos_then
standing-same next begun begun_then files files_then members members_then next_member next_member_then cycles cycles_then undos undos_then b f m n c u =
    ap (λ (x : Option Entry). made next x files members next_member cycles undos) b
    ∙ ap (λ (x : List CatalogFile). made next begun_then x members next_member cycles undos) f
    ∙ ap (λ (x : List HeldMember). made next begun_then files_then x next_member cycles undos) m
    ∙ ap (λ (x : ℕ). made next begun_then files_then members_then x cycles undos) n
    ∙ ap (λ (x : List ℕ). made next begun_then files_then members_then next_member_then x undos) c
    ∙ ap (λ (x : List MemberChange). made next begun_then files_then members_then next_member_then cycles_then x) u

module _ (author : Author) (kind : EntryKind) (quiet : IsQuiet kind) (left : Standing) where
  abbrev e : Entry
  e = entry_of author kind left.next

  nothing : (number : ℕ) → act number left.begun e ≡ Nothing
  nothing number = quiet.elsewhere e

  pub quiet-after : standing_after e left ≡ moved_on left
  quiet-after =
      standing-same (left.next + 1) _ None _ left.files _ left.members _ left.next_member _ left.cycles _ left.undos
      (ap (λ p. only_begun p e) quiet.begun) (quiet.files e left.files)
      (ap (λ (more : List HeldMember). left_by kind (members_by left.begun e left.members) ++ more) (quiet.made e)
      ∙ append-nil (left_by kind (members_by left.begun e left.members)) ∙ quiet.members (members_by left.begun e left.members)
      ∙ members-stay left.begun e left.members (λ m. ap (λ (a : Act). member_by a left.next m) (nothing m.number)))
      (ap (next_after left.next_member) (quiet.made e)) (ap (cycles_after left.cycles) (quiet.elsewhere e)) (ap (λ (a : Act). undos_by a 0 left.undos) (quiet.elsewhere e))

  pub quiet-may : left.begun ≡ None → AllByRecursion (IsHeldWithin left) left.members → MayBeDeposited left e
  quiet-may none within = record {
    next = record {
      sequence = refl;
      enters = quiet.enters e (catalogue_in left);
      replays = λ member. subst (MayFollow (state_in left member)) (sym (nothing member)) tt;
      names = λ no. subst (IsOpen left.cycles) (sym (quiet.group left.next)) tt;
      deletes = λ name is. absurd (quiet.undeleted name is);
      pairs = subst (λ (o : Option Entry). EndsPair o e) (sym none) quiet.ended;
      records = subst (AreRecordsOf descriptions (catalogue_in left) (member_numbered None (catalogue_in left))) (sym quiet.images)
          (no-records (catalogue_in left) (member_numbered None (catalogue_in left)));
    };
    within = subst (λ (l : Standing). AllByRecursion (IsHeldWithin l) l.members) (sym quiet-after) within;
    placed = quiet.placed author left.next;
    journaled = λ on. let off = quiet.unrecorded in absurd cc;
  }

-- ---- any number of them

abbrev pub moved_times : List EntryKind → Standing → Standing
moved_times [] left = left
moved_times (kind ∷ kinds) left = moved_times kinds (moved_on left)

pub quiet-leave : (author : Author) (kinds : List EntryKind) (left : Standing) → AllByRecursion IsQuiet kinds → left.begun ≡ None → AllByRecursion (IsHeldWithin left) left.members
    → DraftsLeave left (map (library_draft author) kinds) (moved_times kinds left)
quiet-leave author [] left quiet none within = refl
quiet-leave author (kind ∷ kinds) left quiet none within = (
  quiet-may author kind quiet.0 left none within,
  subst (λ (l : Standing). DraftsLeave l (map (library_draft author) kinds) (moved_times kinds (moved_on left))) (sym (quiet-after author kind quiet.0 left))
      (quiet-leave author kinds (moved_on left) quiet.1 refl within),
)

pub moved-whole : (kinds : List EntryKind) (left : Standing) → left.begun ≡ None → (moved_times kinds left).begun ≡ None
moved-whole [] left none = none
moved-whole (kind ∷ kinds) left none = moved-whole kinds (moved_on left) refl
