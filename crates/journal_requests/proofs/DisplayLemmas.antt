-- The entries that are shown, copied one after the other, and the answer that they are.
use Rattle.std.proofs.Common.{◌≡◌, ℕ, ◌+◌, ◌-◌, ◌<◌, List, [], ◌∷◌, ◌++◌, length, get_or, drop, Ok, sym, ◌∙◌, ap, subst, arith, append_assoc, append-nil}
use Rattle.std.specs.List.{All}
use Rattle.std.proofs.lemmas.List.{drop_more}
use Rattle.std.proofs.lemmas.List.Elements.{All-push}
use Rattle.entry_codec.specs.declared.entries.Entry.{Entry}
use Rattle.library_model.specs.declared.requests.DisplayJournal.{DisplayJournal}
use Rattle.library_model.specs.declared.replies.Reply.TheVariants.{Entries}
use Rattle.library_steps.specs.State.{State, memory_of}
use Rattle.library_steps.specs.Change.{does, unjournaled}
use Rattle.library_steps.specs.JournalReads.{display_journal, display_plan}
use Rattle.library_parts.specs.Answers.{Answers}

pub copied-more : (shown items more : List Entry) (i : ℕ) (e x : Entry) → i < length shown → e ≡ get_or shown i e → x ≡ e → more ≡ items ++ x ∷ [] → items ++ drop i shown ≡ shown
    → more ++ drop (i + 1) shown ≡ shown
copied-more shown items more i e x below is same added so_far =
    ap (λ xs. xs ++ drop (i + 1) shown) added
    ∙ append_assoc items (x ∷ []) (drop (i + 1) shown)
    ∙ ap (λ (d : Entry). items ++ d ∷ drop (i + 1) shown) (same ∙ is)
    ∙ ap (λ xs. items ++ xs) (sym (drop_more shown i e below))
    ∙ so_far

pub spelled-more : (P : Entry → Type 0) (items more : List Entry) (e x : Entry) → x ≡ e → more ≡ items ++ x ∷ [] → All P items → P e → All P more
spelled-more P items more e x same added all holds = subst (All P) (sym added) (All-push P items x all (subst P (sym same) holds))

drop-none : (s : State) → s ≡ record s { entries = drop (s.gone - s.gone) (s.entries ++ []) }
drop-none s = let none : s.gone - s.gone ≡ 0 = omega arith in ap (λ (es : List Entry). record s { entries = es }) (sym (ap (λ (k : ℕ). drop k (s.entries ++ [])) none ∙ append-nil s.entries))

-- the entries are shown, and nothing is changed
pub shown-answers : (s : State) (args : DisplayJournal) (read shown entries : List Entry) → display_plan read (memory_of s) args ≡ Ok shown → entries ≡ shown
    → Answers s s (Ok (Entries entries)) (display_journal read (memory_of s) args)
shown-answers s args read shown entries plan same =
    (unjournaled (Entries shown) (memory_of s), ap (does (λ es. unjournaled (Entries es) (memory_of s))) plan, ap Entries (sym same), drop-none s)
