-- A call comes to one outcome, but that a library may have failed where its state would stand as it was to be: then the journal is the same.
use Rattle.std.proofs.Common.{◌≡◌, ◌⊎◌, inl, inr, List, [], ◌∷◌, sym, ap, ◌∙◌}
use Rattle.entry_codec.specs.declared.entries.Entry.{Entry}
use Rattle.library_model.specs.declared.calls.Call.{Call}
use Rattle.library_model.specs.declared.replies.Reply.{Reply}
use Rattle.library_model.specs.declared.replies.Reply.TheVariants.{NoMemory, StoreFault}
use Rattle.library_model.specs.declared.sources.NamedSource.{NamedSource}
use Rattle.library_steps.specs.State.{State}
use Rattle.library_steps.specs.History.{Outcome, Standing, Failed, Comes, Runs}
use Rattle.journal_fronts.specs.Fronts.{entries_at}
use Rattle.run_laws.proofs.OutcomeLemmas.{Comes-one}

abbrev pub HasFailed : Outcome → Type 0
HasFailed (Standing s) = ⊥
HasFailed (Failed entries) = Unit {0}

-- two outcomes of one journal, of which one is a library that has failed
pub record EndAlike (one other : Outcome) : Type 0 where
  pub entries : entries_at one ≡ entries_at other
  pub failed : HasFailed one ⊎ HasFailed other

module _ (sources : List NamedSource) (s : State) (call : Call) where
  -- where a state stands, it is the one that the library was to come to
  standing-entries : (t : State) (entries : List Entry) → Comes sources s call (Standing t) → Comes sources s call (Failed entries) → t.entries ≡ entries
  standing-entries t entries (inl is) (fault, to_hold) = ap (λ (p : State × Reply). p.0.entries) is ∙ sym to_hold
  standing-entries t entries (inr (same, wanting, needs)) (fault, to_hold) = absurd (let clash : ◌≡◌ {A = Reply} NoMemory StoreFault = sym wanting ∙ fault in cc)

  pub comes-same : (one other : Outcome) → Comes sources s call one → Comes sources s call other → (one ≡ other) ⊎ EndAlike one other
  comes-same (Standing t) (Standing u) first second = inl (ap Standing (Comes-one sources s t u call first second))
  comes-same (Standing t) (Failed entries) first second = inr (record { entries = standing-entries t entries first second; failed = inr tt })
  comes-same (Failed entries) (Standing u) first second = inr (record { entries = sym (standing-entries u entries second first); failed = inl tt })
  comes-same (Failed entries) (Failed others) first second = inl (ap Failed (first.1 ∙ sym second.1))

  -- so the journal is one
  pub entries-same : (one other : Outcome) → Comes sources s call one → Comes sources s call other → entries_at one ≡ entries_at other
  entries-same one other first second = elim (comes-same one other first second) [
    | inl same ↦ ap entries_at same
    | inr alike ↦ alike.entries
  ]

-- a library that has failed is not called
pub failed-stays : (sources : List NamedSource) (entries : List Entry) (calls : List Call) (to : Outcome) → Runs sources (Failed entries) calls to → to ≡ Failed entries
failed-stays sources entries [] to runs = runs
failed-stays sources entries (call ∷ calls) to runs = absurd runs
