-- The entries by which what is open is rolled back, as they are made and taken.
use Rattle.std.proofs.Common.{◌≡◌, ℕ, ◌+◌, Option, List, length, Result, Ok, Err, OnOk, ◌∙◌, ap}
use Rattle.entry_codec.specs.declared.entries.Entry.{Entry}
use Rattle.entry_codec.specs.declared.entries.Draft.{Draft}
use Rattle.journal_model.specs.Catalogue.{Descriptions}
use Rattle.journal_model.specs.Journal.{open_cycles}
use Rattle.journal_model.specs.Rollback.{MemberChange, numbered_from, restart_drafts}
use Rattle.journal_replay.specs.Standing.{Standing}
use Rattle.journal_opening.specs.Journals.{IsLeftBy, journal_with}
use Rattle.restart_rollback.specs.Rollbacks.{rollback_entries}

-- they are made of the open commit cycles and their changes, as the entries before leave them
pub rolled-by : (d : Descriptions) (job : Option (List ℕ)) (moment : ℕ) (entries : List Entry) (s : Standing) → IsLeftBy d entries s → (count : ℕ) → count ≡ length entries
    → (cycles : List ℕ) (undos : List MemberChange) → cycles ≡ s.cycles → undos ≡ s.undos → (drafts : List Draft) → drafts ≡ restart_drafts job moment cycles undos
    → (more : List Entry) → more ≡ numbered_from (count + 1) drafts → more ≡ rollback_entries job moment entries
rolled-by d job moment entries s left count counted cycles undos its-cycles its-undos drafts are more is =
    is ∙ ap (λ (n : ℕ). numbered_from (n + 1) drafts) counted
    ∙ ap (λ (ds : List Draft). numbered_from (length entries + 1) ds) (are ∙ ap (λ (those : List ℕ). restart_drafts job moment those undos) (its-cycles ∙ left.left.cycles)
    ∙ ap (λ (changes : List MemberChange). restart_drafts job moment (open_cycles (journal_with entries)) changes) (its-undos ∙ left.left.undos))

-- what holds whatever was answered
pub whatever : {A E P : Type 0} (r : Result A E) → P → OnOk r P
whatever (Ok x) p = p
whatever (Err e) p = tt
