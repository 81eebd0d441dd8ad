-- What a state answers to CHGJRN and DLTJRNRCV.
use Rattle.std.proofs.Common.{◌≡◌, ℕ, ◌+◌, ◌-◌, List, [], ◌∷◌, ◌++◌, drop, Ok, unwrap_or, refl, sym, ◌∙◌, ap, arith}
use Rattle.entry_codec.specs.declared.entries.Entry.{Entry}
use Rattle.entry_codec.specs.declared.entries.Draft.{Draft}
use Rattle.entry_codec.specs.declared.kinds.EntryKind.TheVariants.{NextReceiver, PreviousReceiver}
use Rattle.library_model.specs.declared.requests.DeleteReceiver.{DeleteReceiver}
use Rattle.library_model.specs.declared.replies.Reply.TheVariants.{Done, Receiver}
use Rattle.library_steps.specs.State.{State, memory_of, with_entries}
use Rattle.library_steps.specs.Change.{deposited, does, unjournaled}
use Rattle.library_steps.specs.Drafts.{author_of, library_draft}
use Rattle.library_steps.specs.Receivers.{attach_change, delete_receiver, give_up_plan, given_up, last_in}
use Rattle.library_parts.specs.Answers.{Answers}

append-nil : {X : Type 0} (xs : List X) → xs ++ [] ≡ xs
append-nil [] = refl
append-nil (x ∷ xs) = ap (λ rest. x ∷ rest) (append-nil xs)

drop-none : {X : Type 0} (n : ℕ) (xs : List X) → drop (n - n) xs ≡ xs
drop-none n xs = let none : n - n ≡ 0 = omega arith in ap (λ k. drop k xs) none

-- a receiver is attached, and the two entries are deposited
pub attached-answers : (old new : State) (job timestamp number result : ℕ) (next previous : Draft) → next ≡ library_draft (author_of (memory_of old) job timestamp) (NextReceiver number)
    → previous ≡ library_draft (author_of (memory_of old) job timestamp) (PreviousReceiver old.receivers.attached)
    → number ≡ old.receivers.attached + 1 → result ≡ old.receivers.attached + 1
    → new ≡ record old { entries = old.entries ++ deposited (memory_of old) (next ∷ previous ∷ []); receivers = record old.receivers { attached = old.receivers.attached + 1 } }
    → Answers old new (Ok (Receiver result)) (Ok (attach_change (memory_of old) job timestamp number))
attached-answers old new job timestamp number result next previous is_next is_previous is same state =
    let m = memory_of old in
    let change = attach_change m job timestamp number in
    let number_of : number ≡ result = is ∙ sym same in
    let drafts : next ∷ previous ∷ [] ≡ library_draft (author_of m job timestamp) (NextReceiver number) ∷ library_draft (author_of m job timestamp) (PreviousReceiver old.receivers.attached) ∷ [] =
    (λ i. is_next i ∷ is_previous i ∷ []) in (
      change,
      refl,
      ap Receiver number_of,
      state
          ∙ ap (λ (ds : List Draft). record old { entries = old.entries ++ deposited m ds; receivers = record old.receivers { attached = old.receivers.attached + 1 } }) drafts
          ∙ ap (λ (n : ℕ). record old { entries = old.entries ++ change.entries; receivers = record old.receivers { attached = n } }) (sym is)
          ∙ ap (λ (es : List Entry). record old { entries = es; receivers = record old.receivers { attached = number } }) (sym (drop-none old.gone (old.entries ++ change.entries))),
    )

-- receivers are given up
pub given_up-answers : (old new : State) (args : DeleteReceiver) (last : ℕ) → give_up_plan old.entries (memory_of old) args ≡ Ok last → last ≡ unwrap_or (last_in args.number old.entries) old.gone
    → new ≡ with_entries old.gone old.entries (given_up args.number (unwrap_or (last_in args.number old.entries) old.gone) (memory_of old))
    → Answers old new (Ok Done) (delete_receiver old.entries (memory_of old) args)
given_up-answers old new args last plan is state =
    let m = memory_of old in (
      unjournaled Done (given_up args.number last m),
      ap (does (λ last. unjournaled Done (given_up args.number last m))) plan,
      refl,
      state
          ∙ ap (λ (n : ℕ). with_entries old.gone old.entries (given_up args.number n m)) (sym is)
          ∙ ap (λ (es : List Entry). with_entries old.gone es (given_up args.number last m)) (sym (append-nil old.entries)),
    )
