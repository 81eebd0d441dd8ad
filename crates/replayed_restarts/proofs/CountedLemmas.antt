-- Members are numbered from 1, and so are commit cycles.
use Rattle.std.proofs.Common.{◌≡◌, ℕ, ◌≤◌, ◌==◌, ◌||◌, not, Bool, true, false, Option, Some, None, unwrap_or, if◌then◌else◌, List, [], ◌∷◌, ◌++◌, map, refl, sym, ap, ◌∙◌, subst, arith}
use Rattle.std.specs.List.{AllByRecursion, filter}
use Rattle.std.proofs.lemmas.Bool.{ne_eqb}
use Rattle.entry_codec.specs.declared.entries.Entry.{Entry}
use Rattle.entry_codec.specs.declared.kinds.FileKind.{FileKind}
use Rattle.entry_codec.specs.declared.kinds.FileKind.TheVariants.{Physical, Logical}
use Rattle.entry_codec.specs.declared.kinds.Images.{Images}
use Rattle.entry_codec.specs.declared.kinds.EntryKind.{EntryKind}
use Rattle.entry_codec.specs.declared.kinds.EntryKind.TheVariants.{FileCreated, FileDeleted, MemberAdded, JournalingStarted, InitialSlot, JournalingEnded, MemberCleared, MemberReorganized, ChangesApplied, ChangesRemoved, RecordAdded, RecordAddedAtNumber, BeforeImage, AfterImage, RecordDeleted, UndoBeforeImage, UndoAfterImage, UndoDelete, CommitmentStarted, CommitCycleStarted, CommitCycleCommitted, CommitCycleRolledBack, CommitmentEnded, AbnormalEnd, NextReceiver, PreviousReceiver}
use Rattle.logical_laws.proofs.ListLemmas.{each-append, each-filter}
use Rattle.journal_model.specs.Acts.{Act, Changed, Began, Committed, RolledBack, Journaled, Stood, Cleared, Reorganized, Ended, Nothing}
use Rattle.journal_model.specs.Catalogue.{Catalogue, CatalogMember, IsNextMember, MayCreate, MayEnterAll, MayEnterBy, catalogue_after, catalogue_by, empty_catalogue, has_number, is_in_file}
use Rattle.journal_model.specs.Replay.{State, is_other, replay, step}
use Rattle.journal_model.specs.Replayable.{CanReplay, MayFollow, is_one_of}
use Rattle.journal_model.proofs.EachLemmas.{one_of-filtered, one_of-push}
use Rattle.restart_model.specs.Sources.{descriptions}
use Rattle.replayed_histories.proofs.CatalogueLemmas.{set_images}

-- ---- members

pub record AreCounted (c : Catalogue) : Type 0 where
  pub next : 1 ≤ c.next_member
  pub members : AllByRecursion (λ (m : CatalogMember). 1 ≤ m.number) c.members

counted-more : (c : Catalogue) → AreCounted c → (number : Option ℕ) → IsNextMember number c → (file name : List ℕ)
    → AllByRecursion (λ (m : CatalogMember). 1 ≤ m.number) (c.members ++ record { number = unwrap_or number 0; file = file; name = name; images = None } ∷ [])
counted-more c counted number may file name =
    each-append (λ (m : CatalogMember). 1 ≤ m.number) c.members (record { number = unwrap_or number 0; file = file; name = name; images = None } ∷ []) counted.members
    (subst (λ (n : ℕ). 1 ≤ n) (sym (ap (λ (o : Option ℕ). unwrap_or o 0) may.next)) counted.next, tt)

created-counted : (kind : FileKind) (name source : List ℕ) (e : Entry) (c : Catalogue) → AreCounted c → MayCreate descriptions kind name source e c
    → AreCounted (catalogue_by (FileCreated kind name source) e c)
created-counted Physical name source e c counted may = record { next = omega arith; members = counted-more c counted e.member may.numbered name name }
created-counted Logical name source e c counted may = record { next = counted.next; members = counted.members }

images-counted : (which : Option ℕ) (images : Option Images) (members : List CatalogMember) → AllByRecursion (λ (m : CatalogMember). 1 ≤ m.number) members
    → AllByRecursion (λ (m : CatalogMember). 1 ≤ m.number) (map (set_images which images) members)
images-counted which images [] all = tt
images-counted which images (m ∷ members) all = (
  elim (has_number which m) as (λ b. 1 ≤ (if b then record m { images = images } else m).number) [ true ↦ all.0 | false ↦ all.0 ],
  images-counted which images members all.1,
)

entry-counted : (kind : EntryKind) (e : Entry) (c : Catalogue) → AreCounted c → MayEnterBy descriptions kind e c → AreCounted (catalogue_by kind e c)
entry-counted (FileCreated kind name source) e c counted may = created-counted kind name source e c counted may
entry-counted (FileDeleted name) e c counted may =
    record { next = counted.next; members = each-filter (λ (m : CatalogMember). 1 ≤ m.number) (λ (m : CatalogMember). not (is_in_file name m)) c.members counted.members }
entry-counted (MemberAdded file name) e c counted may = record { next = omega arith; members = counted-more c counted e.member may.numbered file name }
entry-counted (JournalingStarted images slots) e c counted may = record { next = counted.next; members = images-counted e.member (Some images) c.members counted.members }
entry-counted JournalingEnded e c counted may = record { next = counted.next; members = images-counted e.member None c.members counted.members }
entry-counted (InitialSlot image) e c counted may = counted
entry-counted MemberCleared e c counted may = counted
entry-counted MemberReorganized e c counted may = counted
entry-counted (ChangesApplied first last changes) e c counted may = counted
entry-counted (ChangesRemoved first last changes) e c counted may = counted
entry-counted (RecordAdded image) e c counted may = counted
entry-counted (RecordAddedAtNumber image) e c counted may = counted
entry-counted (BeforeImage image) e c counted may = counted
entry-counted (AfterImage has_before image) e c counted may = counted
entry-counted (RecordDeleted before) e c counted may = counted
entry-counted (UndoBeforeImage image) e c counted may = counted
entry-counted (UndoAfterImage has_before image) e c counted may = counted
entry-counted (UndoDelete image) e c counted may = counted
entry-counted (CommitmentStarted level) e c counted may = counted
entry-counted CommitCycleStarted e c counted may = counted
entry-counted CommitCycleCommitted e c counted may = counted
entry-counted CommitCycleRolledBack e c counted may = counted
entry-counted CommitmentEnded e c counted may = counted
entry-counted AbnormalEnd e c counted may = counted
entry-counted (NextReceiver number) e c counted may = counted
entry-counted (PreviousReceiver number) e c counted may = counted

pub entries-counted : (entries : List Entry) (c : Catalogue) → AreCounted c → MayEnterAll descriptions c entries → AreCounted (catalogue_after c entries)
entries-counted [] c counted may = counted
entries-counted (e ∷ entries) c counted may = entries-counted entries (catalogue_by e.kind e c) (entry-counted e.kind e c counted may.0) may.1

pub nothing-counted : AreCounted empty_catalogue
nothing-counted = record { next = omega arith; members = tt }

-- ---- commit cycles

lacks-filtered : (p : ℕ → Bool) (ns : List ℕ) → is_one_of ns 0 ≡ false → is_one_of (filter p ns) 0 ≡ false
lacks-filtered p ns lacks = by (is_one_of (filter p ns) 0) refl where
  by : (b : Bool) → is_one_of (filter p ns) 0 ≡ b → b ≡ false
  by true is = absurd (let clash : ◌≡◌ {A = Bool} true false = sym (one_of-filtered p ns 0 is) ∙ lacks in cc)
  by false is = refl

lacks-step : (s : State) (a : Act) → 1 ≤ s.next → is_one_of s.cycles 0 ≡ false → MayFollow s a → is_one_of (step s a).cycles 0 ≡ false
lacks-step s (Began n) counted lacks may =
    let later : (n == 0) ≡ false = ne_eqb n 0 (λ e. absurd (omega (arith, e, may, counted))) in
    one_of-push s.cycles n 0 ∙ (λ i. lacks i || later i)
lacks-step s (Committed n) counted lacks may = lacks-filtered (is_other n) s.cycles lacks
lacks-step s (RolledBack n) counted lacks may = lacks-filtered (is_other n) s.cycles lacks
lacks-step s (Changed c) counted lacks may = lacks
lacks-step s (Journaled images n) counted lacks may = lacks
lacks-step s (Stood place image) counted lacks may = lacks
lacks-step s Cleared counted lacks may = lacks
lacks-step s Reorganized counted lacks may = lacks
lacks-step s Ended counted lacks may = lacks
lacks-step s Nothing counted lacks may = lacks

-- no commit cycle has the number 0
pub lacks-none : (journal : List Act) (s : State) → 1 ≤ s.next → is_one_of s.cycles 0 ≡ false → CanReplay s journal → is_one_of (replay s journal).cycles 0 ≡ false
lacks-none [] s counted lacks can = lacks
lacks-none (a ∷ journal) s counted lacks can = lacks-none journal (step s a) (omega (arith, counted)) (lacks-step s a counted lacks can.0) can.1
