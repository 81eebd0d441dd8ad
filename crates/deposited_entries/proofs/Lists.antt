-- What holds of each of a list holds of what is left of it, and of entries where it holds of their drafts.
use Rattle.std.proofs.Common.{ℕ, ◌+◌, cond, Bool, true, false, List, [], ◌∷◌, filter}
use Rattle.std.specs.List.{AllByRecursion}
use Rattle.entry_codec.specs.declared.entries.Draft.{Draft}
use Rattle.entry_codec.specs.declared.entries.Entry.{Entry}
use Rattle.entry_codec.specs.Drafts.{numbered}
use Rattle.journal_model.specs.Rollback.{numbered_from}

pub all-both : {X : Type 0} (P Q R : X → Type 0) (xs : List X) → ((x : X) → P x → Q x → R x) → AllByRecursion P xs → AllByRecursion Q xs → AllByRecursion R xs
all-both P Q R [] joins one other = tt
all-both P Q R (x ∷ xs) joins one other = (joins x one.0 other.0, all-both P Q R xs joins one.1 other.1)

pub all-each : {X : Type 0} (P : X → Type 0) (xs : List X) → ((x : X) → P x) → AllByRecursion P xs
all-each P [] each = tt
all-each P (x ∷ xs) each = (each x, all-each P xs each)

pub all-filter : {X : Type 0} (P : X → Type 0) (test : X → Bool) (xs : List X) → AllByRecursion P xs → AllByRecursion P (filter test xs)
all-filter P test [] all = tt
all-filter P test (x ∷ xs) all =
    elim (test x) as (λ b. AllByRecursion P (cond b (x ∷ filter test xs) (filter test xs))) [
      | true ↦ (all.0, all-filter P test xs all.1)
      | false ↦ all-filter P test xs all.1
    ]

pub all-numbered : (P : Draft → Type 0) (Q : Entry → Type 0) (k : ℕ) (drafts : List Draft) → ((d : Draft) (n : ℕ) → P d → Q (numbered d n)) → AllByRecursion P drafts
    → AllByRecursion Q (numbered_from k drafts)
all-numbered P Q k [] each all = tt
all-numbered P Q k (d ∷ drafts) each all = (each d k all.0, all-numbered P Q (k + 1) drafts each all.1)
