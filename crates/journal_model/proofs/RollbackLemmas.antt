-- What a rollback deposits does to each member what taking its changes back does.
use Rattle.std.proofs.Common.{◌≡◌, ℕ, ◌+◌, ◌-◌, Bool, true, false, ◌&&◌, ◌||◌, ◌==◌, cond, List, [], ◌∷◌, ◌++◌, length, Option, Some, None, IsTrue, refl, ap, ◌∙◌, subst, arith}
use Rattle.std.specs.List.{filter, AllByRecursion}
use Rattle.std.proofs.lemmas.Bool.{eq-eqb}
use Rattle.std.proofs.lemmas.List.Elements.{filter-append}
use Rattle.entry_codec.specs.declared.entries.Entry.{Entry}
use Rattle.entry_codec.specs.declared.entries.Draft.{Draft}
use Rattle.entry_codec.specs.declared.kinds.EntryKind.{EntryKind}
use Rattle.entry_codec.specs.declared.kinds.EntryKind.TheVariants.{CommitCycleRolledBack, UndoBeforeImage, UndoAfterImage, UndoDelete, AbnormalEnd}
use Rattle.entry_codec.specs.Drafts.{numbered}
use Rattle.member_slots.specs.declared.slot.Slot.{Slot}
use Rattle.member_slots.specs.declared.slot.Slot.TheVariants.{Live, Deleted}
use Rattle.member_slots.specs.Member.{is_live}
use Rattle.journal_model.specs.Acts.{Act, Changed, RolledBack, Nothing, Change, act, acts, act_there, act_elsewhere, entry_before, is_number}
use Rattle.journal_model.specs.Replay.{is_in, before_of}
use Rattle.journal_model.specs.Restart.{inverse, undo_acts, rollback_acts, all_rollback_acts, somethings, is_something}
use Rattle.journal_model.specs.Rollback.{MemberChange, undo_kinds, change_drafts, undo_drafts, cycle_draft, rollback_drafts, all_rollback_drafts, numbered_from, of_member, is_real, library_draft, restart_drafts}
use Rattle.journal_model.proofs.EachLemmas.{each-filter}
use Rattle.journal_model.proofs.MemberLemmas.{acts-append}

numbered_from-append : (sequence : ℕ) (xs ys : List Draft) → numbered_from sequence (xs ++ ys) ≡ numbered_from sequence xs ++ numbered_from (sequence + length xs) ys
numbered_from-append sequence [] ys = ap (λ (n : ℕ). numbered_from n ys) (omega arith)
numbered_from-append sequence (d ∷ xs) ys = ap (λ (rest : List Entry). numbered d sequence ∷ rest) (numbered_from-append (sequence + 1) xs ys
    ∙ ap (λ (n : ℕ). numbered_from (sequence + 1) xs ++ numbered_from n ys) (omega arith))

-- what drafts do to a member, behind an entry and from a sequence on
does : (member : ℕ) → Option Entry → ℕ → List Draft → List Act
does member prior sequence drafts = somethings (acts member prior (numbered_from sequence drafts))

-- drafts that do this to the member wherever they stand
Does : ℕ → List Draft → List Act → Type 0
Does member drafts done = (prior : Option Entry) (sequence : ℕ) → does member prior sequence drafts ≡ done

does-append : (member : ℕ) (xs ys : List Draft) (done more : List Act) → Does member xs done → Does member ys more → Does member (xs ++ ys) (done ++ more)
unfolding does Does
does-append member xs ys done more h g prior sequence =
    let first = numbered_from sequence xs in
    let second = numbered_from (sequence + length xs) ys in
    ap (λ (es : List Entry). somethings (acts member prior es)) (numbered_from-append sequence xs ys)
    ∙ ap somethings (acts-append member prior first second)
    ∙ filter-append is_something (acts member prior first) (acts member (entry_before prior first) second)
    ∙ ap (λ (acts : List Act). acts ++ somethings (acts_second first second)) (h prior sequence)
    ∙ ap (λ (acts : List Act). done ++ acts) (g (entry_before prior first) (sequence + length xs))
  where
    acts_second : List Entry → List Entry → List Act
    acts_second first second = acts member (entry_before prior first) second

unless_of : ℕ → ℕ → List Act → List Act
unless_of member own acts = cond (own == member) acts []

-- an entry of one member, read for any
read : (member own : ℕ) (prior : Option Entry) (e : Entry) (x : Act) → e.member ≡ Some own → act_there e.kind prior e ≡ x → act_elsewhere e.kind e ≡ Nothing
    → act member prior e ≡ cond (own == member) x Nothing
read member own prior e x named there elsewhere =
    ap (λ (o : Option ℕ). cond (is_number o member) (act_there e.kind prior e) (act_elsewhere e.kind e)) named
    ∙ ap (λ (a : Act). cond (own == member) a (act_elsewhere e.kind e)) there
    ∙ ap (λ (a : Act). cond (own == member) x a) elsewhere

-- the only act of some that does something
one_of : (b : Bool) (c : Change) (a : Act) → a ≡ cond b (Changed c) Nothing → somethings (a ∷ []) ≡ cond b (Changed c ∷ []) []
one_of true c a e = ap (λ (x : Act). somethings (x ∷ [])) e
one_of false c a e = ap (λ (x : Act). somethings (x ∷ [])) e

second_of : (b : Bool) (c : Change) (first a : Act) → first ≡ cond b Nothing Nothing → a ≡ cond b (Changed c) Nothing → somethings (first ∷ a ∷ []) ≡ cond b (Changed c ∷ []) []
second_of true c first a f e = ap (λ (x : Act). somethings (x ∷ a ∷ [])) f ∙ ap (λ (x : Act). somethings (Nothing ∷ x ∷ [])) e
second_of false c first a f e = ap (λ (x : Act). somethings (x ∷ a ∷ [])) f ∙ ap (λ (x : Act). somethings (Nothing ∷ x ∷ [])) e

pub of_member-filter : (member : ℕ) (p : Change → Bool) (undos : List MemberChange) → of_member member (filter (λ (c : MemberChange). p c.change) undos) ≡ filter p (of_member member undos)
of_member-filter member p [] = refl
of_member-filter member p (c ∷ undos) = at (p c.change) (c.member == member) refl refl (of_member-filter member p undos) where
  at : (a b : Bool) → p c.change ≡ a → c.member == member ≡ b → of_member member (filter (λ (d : MemberChange). p d.change) undos) ≡ filter p (of_member member undos)
      → of_member member (cond a (c ∷ filter (λ (d : MemberChange). p d.change) undos) (filter (λ (d : MemberChange). p d.change) undos)) ≡ filter p
      (cond b (c.change ∷ of_member member undos) (of_member member undos))
  at true true e f more = rw (f, e) (ap (λ (rest : List Change). c.change ∷ rest) more)
  at true false e f more = rw f more
  at false true e f more = rw e more
  at false false e f more = more

-- one change
module _ (job : Option (List ℕ)) (moment : ℕ) where
  back_to : MemberChange → (given changed : Slot) → Change
  back_to c given changed = record { place = c.change.place; cycle = c.change.cycle; before = Some changed; after = given }

  draft_of : MemberChange → EntryKind → Draft
  draft_of c kind = record { job = job; moment = moment; group = c.change.cycle; member = Some c.member; rrn = Some (c.change.place + 1); kind = kind }

  same_place : (place : ℕ) → place + 1 - 1 ≡ place
  same_place place = omega arith

  placed_at : (c : MemberChange) (before after : Slot) → Changed (record { place = c.change.place + 1 - 1; cycle = c.change.cycle; before = Some before; after = after }) ≡ Changed
      (back_to c after before)
  unfolding back_to
  placed_at c before after = ap (λ (place : ℕ). Changed (record { place = place; cycle = c.change.cycle; before = Some before; after = after })) (same_place c.change.place)

  change-does : (member : ℕ) (c : MemberChange) (given changed : Slot) → is_live given || is_live changed ≡ true
      → Does member (change_drafts job moment c (undo_kinds given changed)) (unless_of member c.member (Changed (back_to c given changed) ∷ []))
  unfolding does Does unless_of back_to draft_of
  change-does member c Deleted Deleted real prior sequence = absurd (cc)
  change-does member c (Live b) Deleted real prior sequence =
      let e = numbered (draft_of c (UndoAfterImage false b)) sequence in
      one_of (c.member == member) (back_to c (Live b) Deleted) (act member prior e)
      (read member c.member prior e (Changed (back_to c (Live b) Deleted)) refl (placed_at c Deleted (Live b)) refl)
  change-does member c Deleted (Live a) real prior sequence =
      let e = numbered (draft_of c (UndoDelete a)) sequence in
      one_of (c.member == member) (back_to c Deleted (Live a)) (act member prior e)
      (read member c.member prior e (Changed (back_to c Deleted (Live a))) refl (placed_at c (Live a) Deleted) refl)
  change-does member c (Live b) (Live a) real prior sequence =
      let first = numbered (draft_of c (UndoBeforeImage a)) sequence in
      let e = numbered (draft_of c (UndoAfterImage true b)) (sequence + 1) in
      second_of (c.member == member) (back_to c (Live b) (Live a)) (act member prior first) (act member (Some first) e)
      (read member c.member prior first Nothing refl refl refl)
      (read member c.member (Some first) e (Changed (back_to c (Live b) (Live a))) refl
      (ap (λ (t : Bool). Changed (record { place = c.change.place + 1 - 1; cycle = c.change.cycle; before = cond t (Some (Live a)) None; after = Live b })) same ∙ placed_at c (Live a) (Live b))
      refl)
    where
      same : (c.member == c.member) && (c.change.place + 1 == c.change.place + 1) ≡ true
      same = rw (eq-eqb c.member c.member refl, eq-eqb (c.change.place + 1) (c.change.place + 1) refl) refl

  -- ---- the changes of a commit cycle, and all

  unless_of-append : (member own : ℕ) (c : Change) (rest : List Change) → unless_of member own (Changed (inverse c) ∷ []) ++ undo_acts rest ≡ undo_acts (cond (own == member) (c ∷ rest) rest)
  unfolding unless_of
  unless_of-append member own c rest = elim (own == member) as (λ b. cond b (Changed (inverse c) ∷ []) [] ++ undo_acts rest ≡ undo_acts (cond b (c ∷ rest) rest)) [ true ↦ refl | false ↦ refl ]

  undos-do : (member : ℕ) (undos : List MemberChange) → AllByRecursion (λ (c : MemberChange). is_real c.change ≡ true) undos
      → Does member (undo_drafts job moment undos) (undo_acts (of_member member undos))
  unfolding does Does back_to
  undos-do member [] real prior sequence = refl
  undos-do member (c ∷ undos) real prior sequence =
      does-append member (change_drafts job moment c (undo_kinds (before_of c.change) c.change.after)) (undo_drafts job moment undos)
      (unless_of member c.member (Changed (inverse c.change) ∷ [])) (undo_acts (of_member member undos))
      (change-does member c (before_of c.change) c.change.after real.0) (undos-do member undos real.1) prior sequence
      ∙ unless_of-append member c.member c.change (of_member member undos)

  rolled_back-does : (member n : ℕ) → Does member (cycle_draft job moment n CommitCycleRolledBack ∷ []) (RolledBack n ∷ [])
  unfolding does Does
  rolled_back-does member n prior sequence = refl

  rollback-does : (member n : ℕ) (undos : List MemberChange) → AllByRecursion (λ (c : MemberChange). is_real c.change ≡ true) undos
      → Does member (rollback_drafts job moment n undos) (rollback_acts n (of_member member undos))
  rollback-does member n undos real =
      subst (λ (own : List Change). Does member (rollback_drafts job moment n undos) (undo_acts own ++ RolledBack n ∷ [])) (of_member-filter member (is_in n) undos)
      (does-append member (undo_drafts job moment (filter (λ (c : MemberChange). is_in n c.change) undos)) (cycle_draft job moment n CommitCycleRolledBack ∷ [])
      (undo_acts (of_member member (filter (λ (c : MemberChange). is_in n c.change) undos))) (RolledBack n ∷ [])
      (undos-do member (filter (λ (c : MemberChange). is_in n c.change) undos)
      (each-filter (λ (c : MemberChange). is_real c.change ≡ true) (λ (c : MemberChange). is_real c.change ≡ true) (λ (c : MemberChange). is_in n c.change) undos (λ c _ w. w) real))
      (rolled_back-does member n))

  rollbacks-do : (member : ℕ) (cycles : List ℕ) (undos : List MemberChange) → AllByRecursion (λ (c : MemberChange). is_real c.change ≡ true) undos
      → Does member (all_rollback_drafts job moment cycles undos) (all_rollback_acts cycles (of_member member undos))
  unfolding does Does
  rollbacks-do member [] undos real prior sequence = refl
  rollbacks-do member (n ∷ cycles) undos real prior sequence = does-append member (rollback_drafts job moment n undos) (all_rollback_drafts job moment cycles undos)
      (rollback_acts n (of_member member undos)) (all_rollback_acts cycles (of_member member undos)) (rollback-does member n undos real) (rollbacks-do member cycles undos real) prior sequence

  restart-does : (member : ℕ) (cycles : List ℕ) (undos : List MemberChange) → AllByRecursion (λ (c : MemberChange). is_real c.change ≡ true) undos
      → Does member (restart_drafts job moment cycles undos) (all_rollback_acts cycles (of_member member undos))
  unfolding does Does
  restart-does member [] undos real prior sequence = refl
  restart-does member (n ∷ cycles) undos real prior sequence = rollbacks-do member (n ∷ cycles) undos real (Some (numbered (library_draft job moment AbnormalEnd) sequence)) (sequence + 1)

  pub restart_drafts-do : (member : ℕ) (cycles : List ℕ) (undos : List MemberChange) (prior : Option Entry) (sequence : ℕ)
      → AllByRecursion (λ (c : MemberChange). IsTrue (is_real c.change)) undos
      → somethings (acts member prior (numbered_from sequence (restart_drafts job moment cycles undos))) ≡ all_rollback_acts cycles (of_member member undos)
  unfolding does Does
  restart_drafts-do member cycles undos prior sequence real = restart-does member cycles undos real prior sequence
