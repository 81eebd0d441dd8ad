-- What depositing drafts makes of a library.
use Rattle.std.proofs.Common.{◌≡◌, ◌∙◌, ℕ, suc, ◌+◌, Bool, List, [], ◌∷◌, ◌++◌, length, Result, Ok, refl, ap, subst, true, arith, append_assoc, append-nil, length-append}
use Rattle.entry_codec.specs.declared.entries.Draft.{Draft}
use Rattle.entry_codec.specs.declared.entries.Entry.{Entry}
use Rattle.entry_codec.specs.Drafts.{numbered}
use Rattle.journal_model.specs.Rollback.{numbered_from}
use Rattle.library_model.specs.declared.replies.Reply.{Reply}
use Rattle.library_steps.specs.State.{State, Memory, memory_of}
use Rattle.library_steps.specs.Change.{Change, deposited, journaled}
use Rattle.parts_model.specs.Answers.{Answers}
use Rattle.parts_model.proofs.AnswerLemmas.{changed-state}
use Rattle.parts_model.specs.Deposits.{Leaves, with_drafts}

pub with_drafts-none : (s : State) → with_drafts s [] ≡ s
with_drafts-none s = ap (λ (es : List Entry). record s { entries = es }) (append-nil s.entries)

-- one draft, and then the others behind it
pub with_drafts-cons : (s : State) (d : Draft) (rest : List Draft) → with_drafts (with_drafts s (d ∷ [])) rest ≡ with_drafts s (d ∷ rest)
with_drafts-cons s d rest =
    let e = numbered d (s.gone + length s.entries + 1) in
    let long = length-append s.entries (e ∷ []) in
    let next : s.gone + length (s.entries ++ e ∷ []) + 1 ≡ s.gone + length s.entries + 1 + 1 = omega (arith, long) in
    ap (λ (es : List Entry). record s { entries = es }) (append_assoc s.entries (e ∷ []) _ ∙ ap (λ (n : ℕ). s.entries ++ e ∷ numbered_from n rest) next)

pub length-numbered_from : (n : ℕ) (drafts : List Draft) → length (numbered_from n drafts) ≡ length drafts
length-numbered_from n [] = refl
length-numbered_from n (d ∷ drafts) = ap suc (length-numbered_from (n + 1) drafts)

pub memory-with_drafts : (s : State) (drafts : List Draft) → memory_of (with_drafts s drafts) ≡ record (memory_of s) { last_entry = s.gone + length s.entries + length drafts }
memory-with_drafts s drafts =
    let long = length-append s.entries (deposited (memory_of s) drafts) in
    let same = length-numbered_from (s.gone + length s.entries + 1) drafts in
    let last : s.gone + length (s.entries ++ deposited (memory_of s) drafts) ≡ s.gone + length s.entries + length drafts = omega (arith, long, same) in
    ap (λ (n : ℕ). record (memory_of s) { last_entry = n }) last

pub Leaves-drafts : (old mid new : State) (drafts : List Draft) (forced : Bool) (reply : Reply) (m : Memory) → memory_of mid ≡ m → m.gone ≡ old.gone → mid.entries ≡ old.entries
    → new ≡ with_drafts mid drafts → Leaves old new (journaled drafts forced reply m)
Leaves-drafts old mid new drafts forced reply m is gone kept left =
    changed-state old new (deposited m drafts) (record m { last_entry = m.last_entry + length drafts })
    (ap memory_of left ∙ memory-with_drafts mid drafts ∙ ap (λ (x : Memory). record x { last_entry = x.last_entry + length drafts }) is) gone
    (ap (λ (s : State). s.entries) left ∙ (λ i. kept i ++ deposited (is i) drafts))

-- where a change was done to a state that is the old one, by drafts that are those of the definition, it is the answer
pub Answers-left : (old mid new : State) (made drafts : List Draft) (effect : Memory → Memory) (reply : Reply) (wanted : Result Change Reply) → mid ≡ old → made ≡ drafts
    → wanted ≡ Ok (journaled drafts true reply (effect (memory_of old))) → Leaves mid new (journaled made true reply (effect (memory_of mid))) → Answers old new (Ok reply) wanted
Answers-left old mid new made drafts effect reply wanted same are is left = (
  journaled drafts true reply (effect (memory_of old)),
  is,
  refl,
  subst (λ (s : State). Leaves s new (journaled drafts true reply (effect (memory_of s)))) same
      (subst (λ (ds : List Draft). Leaves mid new (journaled ds true reply (effect (memory_of mid)))) are left),
)
