-- The journal after a change: its entries are numbered from the first that is kept, and none that was there counts for less.
use Rattle.std.proofs.Common.{◌≡◌, ℕ, ◌+◌, ◌-◌, ◌≤◌, List, [], ◌∷◌, ◌++◌, length, drop, subst, refl, sym, arith, length-append}
use Rattle.std.proofs.lemmas.List.{length-drop}
use Rattle.entry_codec.specs.declared.entries.Entry.{Entry}
use Rattle.entry_codec.specs.declared.entries.Draft.{Draft}
use Rattle.journal_model.specs.Journal.{AreNumbered}
use Rattle.journal_model.specs.Rollback.{numbered_from}
use Rattle.joint_state.proofs.NumberLemmas.{numbered-fewer}
use Rattle.library_steps.specs.State.{State, memory_of}
use Rattle.library_steps.specs.Change.{Change}
use Rattle.joint_state.specs.Sound.{after}

-- the entries of a change are numbered behind the last, and what it gives up of the journal was kept
pub record IsJournaled (s : State) (c : Change) : Type 0 where
  pub numbered : AreNumbered (s.gone + length s.entries + 1) c.entries
  pub from : s.gone ≤ c.memory.gone
  pub to : c.memory.gone ≤ s.gone + length s.entries

pub numbered-drafts : (first : ℕ) (drafts : List Draft) → AreNumbered first (numbered_from first drafts)
numbered-drafts first [] = tt
numbered-drafts first (draft ∷ drafts) = (refl, numbered-drafts (first + 1) drafts)

-- behind the last entry, as a memory has it
pub numbered-behind : (s : State) (drafts : List Draft) (last : ℕ) → last ≡ s.gone + length s.entries → AreNumbered (s.gone + length s.entries + 1) (numbered_from (last + 1) drafts)
numbered-behind s drafts last is = subst (λ n. AreNumbered (n + 1) (numbered_from (last + 1) drafts)) is (numbered-drafts (last + 1) drafts)

numbered-append : (first : ℕ) (front back : List Entry) → AreNumbered first front → AreNumbered (first + length front) back → AreNumbered first (front ++ back)
numbered-append first [] back all more = subst (λ n. AreNumbered n back) (omega arith) more
numbered-append first (e ∷ front) back all more = (all.0, numbered-append (first + 1) front back all.1 (subst (λ n. AreNumbered n back) (omega arith) more))

-- ---- what each change is

pub deposits : (s : State) (c : Change) → c.memory.gone ≡ s.gone → AreNumbered (s.gone + length s.entries + 1) c.entries → IsJournaled s c
deposits s c gone numbered = record { numbered = numbered; from = omega (arith, gone); to = omega (arith, gone) }

pub gives-up : (s : State) (c : Change) → c.entries ≡ [] → s.gone ≤ c.memory.gone → c.memory.gone ≤ s.gone + length s.entries → IsJournaled s c
gives-up s c none from to = record { numbered = subst (λ es. AreNumbered (s.gone + length s.entries + 1) es) (sym none) tt; from = from; to = to }

pub deposits-none : (s : State) (c : Change) → c.entries ≡ [] → c.memory.gone ≡ s.gone → IsJournaled s c
deposits-none s c none gone = gives-up s c none (omega (arith, gone)) (omega (arith, gone))

-- ---- what follows

pub numbered-after : (s : State) (c : Change) → AreNumbered (s.gone + 1) s.entries → IsJournaled s c → AreNumbered ((after s c).gone + 1) (after s c).entries
numbered-after s c all is =
    let from = is.from in
    let more : AreNumbered (s.gone + 1 + length s.entries) c.entries = subst (λ n. AreNumbered n c.entries) (omega arith) is.numbered in
    let fewer = numbered-fewer (c.memory.gone - s.gone) (s.gone + 1) (s.entries ++ c.entries) (numbered-append (s.gone + 1) s.entries c.entries all more) in
    subst (λ n. AreNumbered n (drop (c.memory.gone - s.gone) (s.entries ++ c.entries))) (omega (arith, from)) fewer

-- the last entry is behind the old one by those that are new
pub last-after : (s : State) (c : Change) → IsJournaled s c → (memory_of (after s c)).last_entry ≡ s.gone + length s.entries + length c.entries
last-after s c is =
    let from = is.from in
    let to = is.to in
    let left = length-drop (c.memory.gone - s.gone) (s.entries ++ c.entries) in
    let both = length-append s.entries c.entries in
    omega (arith, from, to, left, both)
