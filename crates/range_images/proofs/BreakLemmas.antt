-- The first break among entries is the first among their acts, forwards and backwards.
use Rattle.std.proofs.Common.{◌≡◌, ℕ, ◌+◌, Bool, true, false, cond, List, [], ◌∷◌, ◌++◌, map, reverse, Option, Some, None, refl, sym, ap, ◌∙◌}
use Rattle.std.specs.Option.{option_map}
use Rattle.std.specs.List.{find}
use Rattle.std.proofs.lemmas.List.{reverse-append, map-append}
use Rattle.entry_codec.specs.declared.entries.Entry.{Entry}
use Rattle.entry_codec.specs.declared.kinds.EntryKind.{EntryKind}
use Rattle.entry_codec.specs.declared.kinds.EntryKind.TheVariants.{FileCreated, FileDeleted, MemberAdded, JournalingStarted, InitialSlot, JournalingEnded, MemberCleared, MemberReorganized, ChangesApplied, ChangesRemoved, RecordAdded, RecordAddedAtNumber, BeforeImage, AfterImage}
use Rattle.entry_codec.specs.declared.kinds.EntryKind.TheVariants.{RecordDeleted, UndoBeforeImage, UndoAfterImage, UndoDelete, CommitmentStarted, CommitCycleStarted, CommitCycleCommitted, CommitCycleRolledBack, CommitmentEnded, AbnormalEnd, NextReceiver, PreviousReceiver}
use Rattle.journal_model.specs.Acts.{Act, Changed, Began, Committed, RolledBack, Journaled, Stood, Cleared, Reorganized, Ended, Nothing, act, acts, act_there, act_elsewhere, is_number}
use Rattle.journal_model.specs.Walks as walks
use Rattle.journal_model.specs.Ranges.{is_gap, is_renumbering, Placed, placed, first_gap, first_renumbering}
use Rattle.journal_model.specs.Journal.{AreNumbered}
use Rattle.range_images.specs.declared.breaks.Break.{Break}
use Rattle.range_images.specs.declared.breaks.Break.TheVariants.{Gap, Renumbering}
use Rattle.range_images.specs.Breaks.{break_in, is_kind, is_break_of, first_break_in}

pub map-reverse : {X Y : Type 0} (f : X → Y) (xs : List X) → map f (reverse xs) ≡ reverse (map f xs)
map-reverse f [] = refl
map-reverse f (x ∷ xs) =
    ap (map f) (reverse-append (x ∷ []) xs) ∙ map-append f (reverse xs) (x ∷ []) ∙ ap (λ ys. ys ++ f x ∷ []) (map-reverse f xs)
    ∙ sym (reverse-append (f x ∷ []) (map f xs))

-- ---- what an entry breaks off doesn't depend on the entry before it

break-there : (kind : EntryKind) (prior : Option Entry) (e : Entry) → break_in (act_there kind prior e) ≡ break_in (act_there kind None e)
break-there (FileCreated kind name source) prior e = refl
break-there (FileDeleted name) prior e = refl
break-there (MemberAdded file name) prior e = refl
break-there (JournalingStarted images slots) prior e = refl
break-there (InitialSlot image) prior e = refl
break-there JournalingEnded prior e = refl
break-there MemberCleared prior e = refl
break-there MemberReorganized prior e = refl
break-there (ChangesApplied first last changes) prior e = refl
break-there (ChangesRemoved first last changes) prior e = refl
break-there (RecordAdded image) prior e = refl
break-there (RecordAddedAtNumber image) prior e = refl
break-there (BeforeImage image) prior e = refl
break-there (AfterImage true image) prior e = refl
break-there (AfterImage false image) prior e = refl
break-there (RecordDeleted before) prior e = refl
break-there (UndoBeforeImage image) prior e = refl
break-there (UndoAfterImage true image) prior e = refl
break-there (UndoAfterImage false image) prior e = refl
break-there (UndoDelete image) prior e = refl
break-there (CommitmentStarted level) prior e = refl
break-there CommitCycleStarted prior e = refl
break-there CommitCycleCommitted prior e = refl
break-there CommitCycleRolledBack prior e = refl
break-there CommitmentEnded prior e = refl
break-there AbnormalEnd prior e = refl
break-there (NextReceiver number) prior e = refl
break-there (PreviousReceiver number) prior e = refl

break-act : (number : ℕ) (prior : Option Entry) (e : Entry) → break_in (act number prior e) ≡ break_in (act number None e)
break-act number prior e = at (is_number e.member number) where
  at : (b : Bool) → break_in (cond b (act_there e.kind prior e) (act_elsewhere e.kind e)) ≡ break_in (cond b (act_there e.kind None e) (act_elsewhere e.kind e))
  at true = break-there e.kind prior e
  at false = refl

-- ---- the first that is marked

record Marked : Type 0 where
  is : Bool
  sequence : ℕ

abbrev first_marked : List Marked → Option ℕ
first_marked [] = None
first_marked (m ∷ marked) = cond m.is (Some m.sequence) (first_marked marked)

abbrev entry_mark : Break → ℕ → Entry → Marked
entry_mark kind number e = record { is = is_break_of kind number e; sequence = e.sequence }

abbrev placed_mark : Break → Placed → Marked
placed_mark kind p = record { is = is_kind kind (break_in p.act); sequence = p.sequence }

same_mark : (a b : Bool) (m n : ℕ) → a ≡ b → m ≡ n → (let k : Marked = record { is = a; sequence = m } in k) ≡ record { is = b; sequence = n }
same_mark a b m n p q = cc

first_break-marked : (kind : Break) (number : ℕ) (entries : List Entry) → first_break_in kind number entries ≡ first_marked (map (entry_mark kind number) entries)
first_break-marked kind number [] = refl
first_break-marked kind number (e ∷ entries) = ap (λ (o : Option ℕ). cond (is_break_of kind number e) (Some e.sequence) o) (first_break-marked kind number entries)

marks-placed : (kind : Break) (number s : ℕ) (entries : List Entry) (prior : Option Entry) → AreNumbered s entries
    → map (placed_mark kind) (placed s (acts number prior entries)) ≡ map (entry_mark kind number) entries
marks-placed kind number s [] prior h = refl
marks-placed kind number s (e ∷ entries) prior h =
    ap (λ (m : Marked). m ∷ map (placed_mark kind) (placed (s + 1) (acts number (Some e) entries))) (same_mark _ _ _ _ (ap (is_kind kind) (break-act number prior e)) (sym h.0))
    ∙ ap (λ (ms : List Marked). entry_mark kind number e ∷ ms) (marks-placed kind number (s + 1) entries (Some e) h.1)

gap-kind : (a : Act) → is_gap a ≡ is_kind Gap (break_in a)
gap-kind (Changed c) = refl
gap-kind (Began n) = refl
gap-kind (Committed n) = refl
gap-kind (RolledBack n) = refl
gap-kind (Journaled images slots) = refl
gap-kind (Stood place image) = refl
gap-kind Cleared = refl
gap-kind Reorganized = refl
gap-kind Ended = refl
gap-kind Nothing = refl

renumbering-kind : (a : Act) → is_renumbering a ≡ is_kind Renumbering (break_in a)
renumbering-kind (Changed c) = refl
renumbering-kind (Began n) = refl
renumbering-kind (Committed n) = refl
renumbering-kind (RolledBack n) = refl
renumbering-kind (Journaled images slots) = refl
renumbering-kind (Stood place image) = refl
renumbering-kind Cleared = refl
renumbering-kind Reorganized = refl
renumbering-kind Ended = refl
renumbering-kind Nothing = refl

abbrev found : (Act → Bool) → (ℕ → walks.RangeFault) → List Placed → Option walks.RangeFault
found test fault walk = option_map (λ (p : Placed). fault p.sequence) (find (λ (p : Placed). test p.act) walk)

found-marked : (kind : Break) (test : Act → Bool) (fault : ℕ → walks.RangeFault) → ((a : Act) → test a ≡ is_kind kind (break_in a)) → (walk : List Placed)
    → found test fault walk ≡ option_map fault (first_marked (map (placed_mark kind) walk))
found-marked kind test fault alike [] = refl
found-marked kind test fault alike (p ∷ walk) =
    ap (λ (b : Bool). option_map (λ (p : Placed). fault p.sequence) (cond b (Some p) (find (λ (p : Placed). test p.act) walk))) (alike p.act)
    ∙ at (is_kind kind (break_in p.act)) (found-marked kind test fault alike walk)
  where
    at : (b : Bool) → found test fault walk ≡ option_map fault (first_marked (map (placed_mark kind) walk))
        → option_map (λ (p : Placed). fault p.sequence) (cond b (Some p) (find (λ (p : Placed). test p.act) walk))
        ≡ option_map fault (cond b (Some p.sequence) (first_marked (map (placed_mark kind) walk)))
    at true more = refl
    at false more = more

module _ (kind : Break) (test : Act → Bool) (fault : ℕ → walks.RangeFault) (alike : (a : Act)
    → test a ≡ is_kind kind (break_in a)) (number : ℕ) (entries : List Entry) (prior : Option Entry) (s : ℕ) (h : AreNumbered s entries) where
  found-forward : found test fault (placed s (acts number prior entries)) ≡ option_map fault (first_break_in kind number entries)
  found-forward =
      found-marked kind test fault alike (placed s (acts number prior entries))
      ∙ ap (λ (ms : List Marked). option_map fault (first_marked ms)) (marks-placed kind number s entries prior h)
      ∙ ap (option_map fault) (sym (first_break-marked kind number entries))

  found-back : found test fault (reverse (placed s (acts number prior entries))) ≡ option_map fault (first_break_in kind number (reverse entries))
  found-back =
      found-marked kind test fault alike (reverse (placed s (acts number prior entries)))
      ∙ ap (λ (ms : List Marked). option_map fault (first_marked ms)) (map-reverse (placed_mark kind) (placed s (acts number prior entries))
      ∙ ap reverse (marks-placed kind number s entries prior h) ∙ sym (map-reverse (entry_mark kind number) entries))
      ∙ ap (option_map fault) (sym (first_break-marked kind number (reverse entries)))

module _ (number : ℕ) (entries : List Entry) (prior : Option Entry) (s : ℕ) (h : AreNumbered s entries) where
  pub gap-forward : first_gap (placed s (acts number prior entries)) ≡ option_map walks.Gap (first_break_in Gap number entries)
  gap-forward = found-forward Gap is_gap (λ (n : ℕ). walks.Gap n) gap-kind number entries prior s h

  pub renumbering-forward : first_renumbering (placed s (acts number prior entries)) ≡ option_map walks.NotRemovable (first_break_in Renumbering number entries)
  renumbering-forward = found-forward Renumbering is_renumbering (λ (n : ℕ). walks.NotRemovable n) renumbering-kind number entries prior s h

  pub gap-back : first_gap (reverse (placed s (acts number prior entries))) ≡ option_map walks.Gap (first_break_in Gap number (reverse entries))
  gap-back = found-back Gap is_gap (λ (n : ℕ). walks.Gap n) gap-kind number entries prior s h

  pub renumbering-back : first_renumbering (reverse (placed s (acts number prior entries))) ≡ option_map walks.NotRemovable (first_break_in Renumbering number (reverse entries))
  renumbering-back = found-back Renumbering is_renumbering (λ (n : ℕ). walks.NotRemovable n) renumbering-kind number entries prior s h
