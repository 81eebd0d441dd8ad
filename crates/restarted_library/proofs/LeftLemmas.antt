-- A library that is built of all files and members that a journal leaves is the one that the journal leaves.
use Rattle.std.proofs.Common.{ℕ, ◌≡◌, true, false, cond, map, filter, length, List, [], ◌∷◌, refl, sym, ap, ◌∙◌, subst}
use Rattle.std.specs.List.{AllByRecursion}
use Rattle.entry_codec.specs.declared.entries.Entry.{Entry}
use Rattle.journal_model.specs.Catalogue.{Catalogue, CatalogFile, is_in_file}
use Rattle.journal_model.specs.Journal.{AreNumbered, Journal, catalogue_of, state_of}
use Rattle.journal_replay.specs.Left.{IsLeft, last_break_of}
use Rattle.journal_replay.specs.Standing.{HeldMember, Standing, catalog_member, catalogue_in}
use Rattle.library_model.specs.Named.{Named, named}
use Rattle.library_steps.specs.State.{State, FileState}
use Rattle.restart_model.specs.Libraries.{files_left, journal_with, library_left, member_left, record_length_in, records_then, status_left}
use Rattle.restart_model.specs.Sources.{descriptions, described_files}
use Rattle.memory_journal.specs.Blanks.{blanks}
use Rattle.library_parts.specs.Remembered.{remembered}
use Rattle.restarted_library.specs.Built.{IsBuilt, files_built, is_of, members_built, status_held, statuses_of}
use Rattle.restarted_library.specs.Steps.{Leads}
use Rattle.restarted_library.proofs.BuiltLemmas.{length-built}

-- the entries are numbered from the first on
pub left-numbered : (entries : List Entry) (standing : Standing) → IsLeft descriptions (λ _. 0) (journal_with entries) standing → AreNumbered 1 entries
left-numbered entries standing left = left.so_far.later

module _ (entries : List Entry) where
  abbrev journal : Journal
  journal = journal_with entries

  abbrev breaks : ℕ → ℕ
  breaks n = 0

  abbrev AreSlots : List HeldMember → Type 0
  AreSlots held = AllByRecursion (λ (m : HeldMember). m.slots ≡ (state_of journal m.number).slots) held

  abbrev AreBreaks : List HeldMember → Type 0
  AreBreaks held = AllByRecursion (λ (m : HeldMember). m.last_break ≡ last_break_of breaks journal m.number) held

  status-left : (m : HeldMember) → m.slots ≡ (state_of journal m.number).slots → m.last_break ≡ last_break_of breaks journal m.number → status_held m ≡ status_left breaks journal (catalog_member m)
  status-left m slots last =
      λ i. (m.name, record { number = m.number; images = m.images; changed = false; records_then = records_then m.images (slots i); last_break = last i })

  statuses-left : (file : List ℕ) (held : List HeldMember) → AreSlots held → AreBreaks held
      → statuses_of file held ≡ map (status_left breaks journal) (filter (is_in_file file) (map catalog_member held))
  statuses-left file [] slots last = refl
  statuses-left file (m ∷ held) slots last =
      elim (is_of file m) as (λ b. map status_held (cond b (m ∷ filter (is_of file) held) (filter (is_of file) held))
      ≡ map (status_left breaks journal) (cond b (catalog_member m ∷ filter (is_in_file file) (map catalog_member held)) (filter (is_in_file file) (map catalog_member held)))) [
        | true ↦ λ i. status-left m slots.0 last.0 i ∷ statuses-left file held slots.1 last.1 i
        | false ↦ statuses-left file held slots.1 last.1
      ]

  abbrev file_by : Catalogue → List ℕ × FileState → List ℕ × FileState
  file_by c entry = (entry.0, record entry.1 { members = map (status_left breaks journal) (filter (is_in_file entry.0) c.members) })

  files-each : (standing : Standing) → AreSlots standing.members → AreBreaks standing.members → (described : Named FileState)
      → files_built described standing.members ≡ map (file_by (catalogue_in standing)) described
  files-each standing slots last [] = refl
  files-each standing slots last (entry ∷ described) =
      λ i. (entry.0, record entry.1 { members = statuses-left entry.0 standing.members slots last i }) ∷ files-each standing slots last described i

  members-each : (described files : Named FileState) → ((name : List ℕ) → record_length_in (named name files) ≡ record_length_in (named name described)) → (held : List HeldMember) → AreSlots held
      → members_built described held ≡ map (member_left files journal) (map catalog_member held)
  members-each described files same [] slots = refl
  members-each described files same (m ∷ held) slots =
      λ i. record { number = m.number; item = record { record_length = sym (same m.file) i; slots = slots.0 i } } ∷ members-each described files same held slots.1 i

  pub left-built : (attached : ℕ) (standing : Standing) (s : State) → IsLeft descriptions (λ _. 0) (journal_with entries) standing → s.next_member ≡ standing.next_member
      → IsBuilt (blanks 1 (length entries)) attached standing.files standing.members s → s ≡ remembered (library_left (λ _. 0) attached (journal_with entries))
  left-built attached standing s left next built =
      let shown = described_files standing.files in
      let files : s.files ≡ files_left breaks journal =
      built.files ∙ files-each standing left.slots left.last_breaks shown
      ∙ ap (λ (c : Catalogue). map (file_by c) (described_files c.files)) left.catalogue in
      let members : s.members ≡ map (member_left (files_left breaks journal) journal) (catalogue_of journal).members =
      built.members
      ∙ members-each shown (files_left breaks journal)
      (λ name. ap (λ (fs : Named FileState). record_length_in (named name fs)) (sym files ∙ built.files) ∙ length-built shown standing.members name) standing.members left.slots
      ∙ ap (λ (c : Catalogue). map (member_left (files_left breaks journal) journal) c.members) left.catalogue in
      let numbers : s.next_member ≡ (catalogue_of journal).next_member = next ∙ ap (λ (c : Catalogue). c.next_member) left.catalogue in
      λ i. record {
        files = files i;
        members = members i;
        next_member = numbers i;
        gone = built.bare.gone i;
        entries = built.bare.kept i;
        receivers = built.bare.receivers i;
        checkpoint = built.bare.checkpoint i;
        locks = built.bare.locks i;
        jobs = built.bare.jobs i;
      }

  -- the same of what was put into a library that has the entries alone
  pub left-whole : (attached : ℕ) (standing : Standing) (files : List CatalogFile) (members : List HeldMember) (next : ℕ) (first s : State)
      → IsLeft descriptions (λ _. 0) (journal_with entries) standing
      → files ≡ standing.files → members ≡ standing.members → next ≡ standing.next_member → IsBuilt (blanks 1 (length entries)) attached [] [] first → Leads first [] [] s files members → s.next_member ≡ next
      → s ≡ remembered (library_left (λ _. 0) attached (journal_with entries))
  left-whole attached standing files members next first s left files_are members_are next_is none leads risen =
      left-built attached standing s left (risen ∙ next_is)
      (subst (λ (f : List CatalogFile). IsBuilt (blanks 1 (length entries)) attached f standing.members s) files_are
      (subst (λ (m : List HeldMember). IsBuilt (blanks 1 (length entries)) attached files m s) members_are (leads (blanks 1 (length entries)) attached none)))
