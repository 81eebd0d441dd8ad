-- Drafts that are put one behind the other: of commit cycle after commit cycle, and of change after change from the last one on.
use Rattle.std.proofs.Common.{◌≡◌, ℕ, ◌+◌, ◌<◌, ◌≤◌, List, [], ◌∷◌, ◌++◌, length, get_or, take, drop, Option, Some, None, refl, sym, ◌∙◌, ap, subst, arith, append_assoc}
use Rattle.std.proofs.lemmas.List.{append-nil, drop_all, drop_more, take_all, take_more}
use Rattle.std.proofs.lemmas.List.Elements.{filter-append}
use Rattle.entry_codec.specs.declared.entries.Draft.{Draft}
use Rattle.entry_codec.specs.declared.kinds.EntryKind.TheVariants.{AbnormalEnd}
use Rattle.journal_model.specs.Replay.{before_of, is_in}
use Rattle.journal_model.specs.Rollback.{MemberChange, all_rollback_drafts, change_drafts, library_draft, restart_drafts, rollback_drafts, undo_drafts, undo_kinds}
use Rattle.open_cycles.specs.Kept.{live}
use Rattle.restart_drafts.specs.Undos.{of_cycle}

-- ---- commit cycles

pub some-open : (job : Option (List ℕ)) (moment n : ℕ) (more cycles : List ℕ) (undos : List MemberChange) → cycles ≡ n ∷ more
    → library_draft job moment AbnormalEnd ∷ all_rollback_drafts job moment cycles undos ≡ restart_drafts job moment cycles undos
some-open job moment n more cycles undos is =
    subst (λ (cs : List ℕ). library_draft job moment AbnormalEnd ∷ all_rollback_drafts job moment cs undos ≡ restart_drafts job moment cs undos) (sym is) refl

pub cycle-next : (job : Option (List ℕ)) (moment : ℕ) (cycles : List ℕ) (i cycle other : ℕ) (undos changes : List MemberChange) (old new whole : List Draft) → i < length cycles → cycle ≡ get_or cycles i other → changes ≡ undos
    → new ≡ old ++ rollback_drafts job moment cycle changes → old ++ all_rollback_drafts job moment (drop i cycles) undos ≡ whole → new ++ all_rollback_drafts job moment (drop (i + 1) cycles) undos ≡ whole
cycle-next job moment cycles i cycle other undos changes old new whole below is same put so_far =
    ap (λ (ds : List Draft). ds ++ all_rollback_drafts job moment (drop (i + 1) cycles) undos) (put ∙ ap (λ (us : List MemberChange). old ++ rollback_drafts job moment cycle us) same)
    ∙ (append_assoc old (rollback_drafts job moment cycle undos) (all_rollback_drafts job moment (drop (i + 1) cycles) undos)
    ∙ (ap (λ (cs : List ℕ). old ++ all_rollback_drafts job moment cs undos) (sym (drop_more cycles i other below ∙ ap (λ (n : ℕ). n ∷ drop (i + 1) cycles) (sym is))) ∙ so_far))

pub cycles-done : (job : Option (List ℕ)) (moment : ℕ) (cycles : List ℕ) (i : ℕ) (undos : List MemberChange) (now whole : List Draft) → length cycles ≤ i → now ++ all_rollback_drafts job moment (drop i cycles) undos ≡ whole → now ≡ whole
cycles-done job moment cycles i undos now whole past so_far =
    sym (append-nil now) ∙ (ap (λ (cs : List ℕ). now ++ all_rollback_drafts job moment cs undos) (sym (drop_all i cycles past)) ∙ so_far)

-- ---- changes

live-push : (kept : List (Option MemberChange)) (x : Option MemberChange) → live (kept ++ x ∷ []) ≡ live (x ∷ []) ++ live kept
live-push [] x = sym (append-nil (live (x ∷ [])))
live-push (None ∷ kept) x = live-push kept x
live-push (Some c ∷ kept) x = ap (λ (l : List MemberChange). l ++ c ∷ []) (live-push kept x) ∙ append_assoc (live (x ∷ [])) (live kept) (c ∷ [])

undo-append : (job : Option (List ℕ)) (moment : ℕ) (xs ys : List MemberChange) → undo_drafts job moment (xs ++ ys) ≡ undo_drafts job moment xs ++ undo_drafts job moment ys
undo-append job moment [] ys = refl
undo-append job moment (c ∷ xs) ys =
    let own = change_drafts job moment c (undo_kinds (before_of c.change) c.change.after) in
    ap (λ (l : List Draft). own ++ l) (undo-append job moment xs ys) ∙ sym (append_assoc own (undo_drafts job moment xs) (undo_drafts job moment ys))

-- the drafts of the first so many changes, and of one more
undo-one : (job : Option (List ℕ)) (moment cycle : ℕ) (kept : List (Option MemberChange)) (i : ℕ) (x : Option MemberChange) → i < length kept → x ≡ get_or kept i x
    → undo_drafts job moment (of_cycle cycle (live (take (i + 1) kept))) ≡ undo_drafts job moment (of_cycle cycle (live (x ∷ []))) ++ undo_drafts job moment (of_cycle cycle (live (take i kept)))
undo-one job moment cycle kept i x below is =
    let split : take (i + 1) kept ≡ take i kept ++ x ∷ [] = take_more kept i x below ∙ ap (λ (y : Option MemberChange). take i kept ++ y ∷ []) (sym is) in
    ap (λ (l : List (Option MemberChange)). undo_drafts job moment (of_cycle cycle (live l))) split
    ∙ (ap (λ (l : List MemberChange). undo_drafts job moment (of_cycle cycle l)) (live-push (take i kept) x)
    ∙ (ap (λ (l : List MemberChange). undo_drafts job moment l) (filter-append (λ (c : MemberChange). is_in cycle c.change) (live (x ∷ [])) (live (take i kept)))
    ∙ undo-append job moment (of_cycle cycle (live (x ∷ []))) (of_cycle cycle (live (take i kept)))))

pub undo-next : (job : Option (List ℕ)) (moment cycle : ℕ) (kept : List (Option MemberChange)) (left i : ℕ) (x : Option MemberChange) (old new whole : List Draft) → left ≡ i + 1 → i < length kept → x ≡ get_or kept i x
    → new ≡ old ++ undo_drafts job moment (of_cycle cycle (live (x ∷ []))) → old ++ undo_drafts job moment (of_cycle cycle (live (take left kept))) ≡ whole → new ++ undo_drafts job moment (of_cycle cycle (live (take i kept))) ≡ whole
undo-next job moment cycle kept left i x old new whole next below is put so_far =
    ap (λ (ds : List Draft). ds ++ undo_drafts job moment (of_cycle cycle (live (take i kept)))) put
    ∙ (append_assoc old (undo_drafts job moment (of_cycle cycle (live (x ∷ [])))) (undo_drafts job moment (of_cycle cycle (live (take i kept))))
    ∙ (ap (λ (ds : List Draft). old ++ ds) (sym (undo-one job moment cycle kept i x below is))
    ∙ (ap (λ (n : ℕ). old ++ undo_drafts job moment (of_cycle cycle (live (take n kept)))) (sym next) ∙ so_far)))

pub undo-all : (job : Option (List ℕ)) (moment cycle : ℕ) (kept : List (Option MemberChange)) (left : ℕ) (old : List Draft) → left ≡ length kept
    → old ++ undo_drafts job moment (of_cycle cycle (live (take left kept))) ≡ old ++ undo_drafts job moment (of_cycle cycle (live kept))
undo-all job moment cycle kept left old is = ap (λ (l : List (Option MemberChange)). old ++ undo_drafts job moment (of_cycle cycle (live l))) (take_all left kept (omega (arith, is)))

pub undo-none : (job : Option (List ℕ)) (moment cycle : ℕ) (kept : List (Option MemberChange)) (left : ℕ) (now whole : List Draft) → left ≡ 0 → now ++ undo_drafts job moment (of_cycle cycle (live (take left kept))) ≡ whole → now ≡ whole
undo-none job moment cycle kept left now whole none so_far =
    sym (append-nil now) ∙ (ap (λ (n : ℕ). now ++ undo_drafts job moment (of_cycle cycle (live (take n kept)))) (sym none) ∙ so_far)
