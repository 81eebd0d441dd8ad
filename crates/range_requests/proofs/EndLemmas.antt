-- The first sequence behind the last break of a member, entry by entry; and parts of entries.
use Rattle.std.proofs.Common.{◌≡◌, ℕ, zero, suc, ◌+◌, ◌-◌, ◌≤◌, ◌<◌, Bool, true, false, cond, List, [], ◌∷◌, ◌++◌, length, take, drop, get_or, reverse, Option, Some, None, unwrap_or, refl, sym, ap, ◌∙◌, subst, arith}
use Rattle.std.specs.List.{find}
use Rattle.std.specs.Option.{option_map}
use Rattle.std.proofs.lemmas.List.{reverse-append, take-append-drop, take_more}
use Rattle.entry_codec.specs.declared.entries.Entry.{Entry}
use Rattle.entry_codec.specs.declared.kinds.EntryKind.{EntryKind}
use Rattle.entry_codec.specs.declared.kinds.EntryKind.TheVariants.{FileCreated, FileDeleted, MemberAdded, JournalingStarted, InitialSlot, JournalingEnded, MemberCleared, MemberReorganized, ChangesApplied, ChangesRemoved, RecordAdded, RecordAddedAtNumber, BeforeImage}
use Rattle.entry_codec.specs.declared.kinds.EntryKind.TheVariants.{AfterImage, RecordDeleted, UndoBeforeImage, UndoAfterImage, UndoDelete, CommitmentStarted, CommitCycleStarted, CommitCycleCommitted, CommitCycleRolledBack, CommitmentEnded, AbnormalEnd, NextReceiver, PreviousReceiver}
use Rattle.journal_model.specs.Acts.{act, acts, act_there, act_elsewhere, entry_before, is_number}
use Rattle.journal_model.specs.Journal.{AreNumbered}
use Rattle.journal_model.specs.Ranges.{Placed, placed, is_break, first_of}
use Rattle.journal_reads.specs.Stretches.{EntriesFrom}
use Rattle.journal_reads.proofs.StretchLemmas.{rest-read}
use Rattle.library_steps.specs.State.{State, memory_of}
use Rattle.group_bounds.specs.Bounds as bounds
use Rattle.range_images.specs.Sides as sides
use Rattle.range_requests.specs.Ends.{behind_break}
use Rattle.range_requests.specs.Plans.{IsRead}

-- ---- a break doesn't depend on the entry before it

break-there : (kind : EntryKind) (prior : Option Entry) (e : Entry) → is_break (act_there kind prior e) ≡ is_break (act_there kind None e)
break-there (FileCreated kind name source) prior e = refl
break-there (FileDeleted name) prior e = refl
break-there (MemberAdded file name) prior e = refl
break-there (JournalingStarted images slots) prior e = refl
break-there (InitialSlot image) prior e = refl
break-there JournalingEnded prior e = refl
break-there MemberCleared prior e = refl
break-there MemberReorganized prior e = refl
break-there (ChangesApplied first last changes) prior e = refl
break-there (ChangesRemoved first last changes) prior e = refl
break-there (RecordAdded image) prior e = refl
break-there (RecordAddedAtNumber image) prior e = refl
break-there (BeforeImage image) prior e = refl
break-there (AfterImage true image) prior e = refl
break-there (AfterImage false image) prior e = refl
break-there (RecordDeleted before) prior e = refl
break-there (UndoBeforeImage image) prior e = refl
break-there (UndoAfterImage true image) prior e = refl
break-there (UndoAfterImage false image) prior e = refl
break-there (UndoDelete image) prior e = refl
break-there (CommitmentStarted level) prior e = refl
break-there CommitCycleStarted prior e = refl
break-there CommitCycleCommitted prior e = refl
break-there CommitCycleRolledBack prior e = refl
break-there CommitmentEnded prior e = refl
break-there AbnormalEnd prior e = refl
break-there (NextReceiver number) prior e = refl
break-there (PreviousReceiver number) prior e = refl

break-prior : (member : ℕ) (prior : Option Entry) (e : Entry) → is_break (act member prior e) ≡ is_break (act member None e)
break-prior member prior e =
    elim (is_number e.member member) as (λ b. is_break (cond b (act_there e.kind prior e) (act_elsewhere e.kind e)) ≡ is_break (cond b (act_there e.kind None e) (act_elsewhere e.kind e))) [
      | true ↦ break-there e.kind prior e
      | false ↦ refl
    ]

-- ---- the last break

abbrev breaks : Placed → Bool
breaks p = is_break p.act

abbrev behind : Placed → ℕ
behind p = p.sequence + 1

find-push : (p : Placed) (now : ℕ) (walk : List Placed) → unwrap_or (option_map behind (find breaks (walk ++ p ∷ []))) now ≡ unwrap_or (option_map behind (find breaks walk)) (cond (breaks p) (behind p) now)
find-push p now [] = elim (breaks p) as (λ b. unwrap_or (option_map behind (cond b (Some p) None)) now ≡ cond b (behind p) now) [
  | true ↦ refl
  | false ↦ refl
]
find-push p now (q ∷ walk) =
    elim (breaks q) as (λ b. unwrap_or (option_map behind (cond b (Some q) (find breaks (walk ++ p ∷ [])))) now ≡ unwrap_or (option_map behind (cond b (Some q) (find breaks walk))) (cond (breaks p) (behind p) now)) [
      | true ↦ refl
      | false ↦ find-push p now walk
    ]

break-last : (member now at : ℕ) (prior : Option Entry) (entries : List Entry)
    → unwrap_or (option_map behind (find breaks (reverse (placed at (acts member prior entries))))) now ≡ behind_break member now at entries
break-last member now at prior [] = refl
break-last member now at prior (e ∷ entries) =
    let p : Placed = record { sequence = at; act = act member prior e } in
    let rest = placed (at + 1) (acts member (Some e) entries) in
    ap (λ walk. unwrap_or (option_map behind (find breaks walk)) now) (reverse-append (p ∷ []) rest)
    ∙ find-push p now (reverse rest)
    ∙ ap (λ b. unwrap_or (option_map behind (find breaks (reverse rest))) (cond b (at + 1) now)) (break-prior member prior e)
    ∙ break-last member (cond (is_break (act member None e)) (at + 1) now) (at + 1) (Some e) entries

pub first_of-behind : (member kept : ℕ) (entries : List Entry) → first_of kept (acts member None entries) ≡ behind_break member kept kept entries
first_of-behind member kept entries = break-last member kept kept None entries

behind-push : (member now at : ℕ) (e : Entry) (entries : List Entry) → behind_break member now at (entries ++ e ∷ []) ≡ cond (is_break (act member None e)) (at + length entries + 1) (behind_break member now at entries)
behind-push member now at e [] = let same : at + 1 ≡ at + 0 + 1 = omega arith in ap (λ (n : ℕ). cond (is_break (act member None e)) n now) same
behind-push member now at e (d ∷ entries) =
    let same : at + 1 + length entries + 1 ≡ at + suc (length entries) + 1 = omega arith in
    let next = cond (is_break (act member None d)) (at + 1) now in
    behind-push member next (at + 1) e entries ∙ ap (λ (n : ℕ). cond (is_break (act member None e)) n (behind_break member next (at + 1) entries)) same

pub length-take : {X : Type 0} (i : ℕ) (xs : List X) → i ≤ length xs → length (take i xs) ≡ i
length-take zero xs h = refl
length-take (suc i) [] h = absurd (omega arith)
length-take (suc i) (x ∷ xs) h = ap suc (length-take i xs (omega arith))

pub length-drop : {X : Type 0} (i : ℕ) (xs : List X) → length (drop i xs) ≡ length xs - i
length-drop zero xs = omega arith
length-drop (suc i) [] = omega arith
length-drop (suc i) (x ∷ xs) = let rest = length-drop i xs in omega (arith, rest)

pub take-whole : {X : Type 0} (i : ℕ) (xs : List X) → length xs ≤ i → take i xs ≡ xs
take-whole zero [] h = refl
take-whole (suc i) [] h = refl
take-whole zero (x ∷ xs) h = absurd (omega arith)
take-whole (suc i) (x ∷ xs) h = ap (λ ys. x ∷ ys) (take-whole i xs (omega arith))

pub drop-whole : {X : Type 0} (i : ℕ) (xs : List X) → length xs ≤ i → drop i xs ≡ []
drop-whole zero [] h = refl
drop-whole (suc i) [] h = refl
drop-whole zero (x ∷ xs) h = absurd (omega arith)
drop-whole (suc i) (x ∷ xs) h = drop-whole i xs (omega arith)

-- one entry less at the end
pub behind-step : (member now at : ℕ) (entries : List Entry) (m i : ℕ) (e : Entry) → m ≡ i + 1 → i < length entries → e ≡ get_or entries i e
    → behind_break member now at (take m entries) ≡ cond (is_break (act member None e)) (at + i + 1) (behind_break member now at (take i entries))
behind-step member now at entries m i e next below is =
    ap (λ (k : ℕ). behind_break member now at (take k entries)) next
    ∙ ap (behind_break member now at) (take_more entries i e below)
    ∙ ap (λ (d : Entry). behind_break member now at (take i entries ++ d ∷ [])) (sym is)
    ∙ behind-push member now at e (take i entries)
    ∙ ap (λ (k : ℕ). cond (is_break (act member None e)) (at + k + 1) (behind_break member now at (take i entries))) (length-take i entries (omega arith))

-- ---- a stretch that reaches the end

behind-append : (member now at : ℕ) (front entries : List Entry) → behind_break member now at (front ++ entries) ≡ behind_break member (behind_break member now at front) (at + length front) entries
behind-append member now at [] entries = let same : at ≡ at + 0 = omega arith in ap (λ (n : ℕ). behind_break member now n entries) same
behind-append member now at (e ∷ front) entries =
    let same : at + 1 + length front ≡ at + suc (length front) = omega arith in
    let next = cond (is_break (act member None e)) (at + 1) now in
    behind-append member next (at + 1) front entries ∙ ap (λ (n : ℕ). behind_break member (behind_break member next (at + 1) front) n entries) same

module _ (s : State) (stretch : EntriesFrom) (read : List Entry) (is : IsRead s stretch read) (reached : stretch.first + length stretch.entries ≡ (memory_of s).last_entry + 1) where
  -- what the stretch tells of the last break, or the entries before it
  first-told : (member : ℕ) (told : Option ℕ) → ((now : ℕ) → behind_break member now stretch.first stretch.entries ≡ unwrap_or told now)
      → first_of (s.gone + 1) (acts member None read) ≡ unwrap_or told (behind_break member (s.gone + 1) (s.gone + 1) (take (stretch.first - (s.gone + 1)) read))
  first-told member told tells =
      let kept = s.gone + 1 in
      let skipped = stretch.first - kept in
      let whole : stretch.first + length stretch.entries ≡ kept + length read = omega (arith, reached, is.many) in
      let short : skipped ≤ length read = omega (arith, whole, is.part.begins) in
      let place : kept + length (take skipped read) ≡ stretch.first = omega (arith, length-take skipped read short, is.part.begins) in
      let before = behind_break member kept kept (take skipped read) in
      first_of-behind member kept read
      ∙ ap (behind_break member kept kept) (sym (take-append-drop skipped read))
      ∙ behind-append member kept kept (take skipped read) (drop skipped read)
      ∙ (λ i. behind_break member before (place i) (rest-read kept read stretch is.part whole i))
      ∙ tells before

  -- it has a break
  pub first-behind : (member behind : ℕ) → ((now : ℕ) → behind_break member now stretch.first stretch.entries ≡ unwrap_or (Some behind) now) → behind ≡ first_of (s.gone + 1) (acts member None read)
  first-behind member behind tells = sym (first-told member (Some behind) tells)

  -- it has none, and nothing stands before it
  pub first-whole : (member : ℕ) → ((now : ℕ) → behind_break member now stretch.first stretch.entries ≡ unwrap_or None now) → stretch.first ≡ s.gone + 1
      → s.gone + 1 ≡ first_of (s.gone + 1) (acts member None read)
  first-whole member tells begins =
      let none : stretch.first - (s.gone + 1) ≡ 0 = omega (arith, begins) in
      sym (first-told member None tells ∙ ap (λ (n : ℕ). behind_break member (s.gone + 1) (s.gone + 1) (take n read)) none)

-- ---- parts of them

pub numbered-drop : (first k : ℕ) (entries : List Entry) → AreNumbered first entries → AreNumbered (first + k) (drop k entries)
numbered-drop first zero entries h = let same : first ≡ first + 0 = omega arith in subst (λ (n : ℕ). AreNumbered n entries) same h
numbered-drop first (suc k) [] h = tt
numbered-drop first (suc k) (e ∷ entries) h = let same : first + 1 + k ≡ first + suc k = omega arith in subst (λ (n : ℕ). AreNumbered n (drop k entries)) same (numbered-drop (first + 1) k entries h.1)

pub numbered-take : (first k : ℕ) (entries : List Entry) → AreNumbered first entries → AreNumbered first (take k entries)
numbered-take first zero entries h = tt
numbered-take first (suc k) [] h = tt
numbered-take first (suc k) (e ∷ entries) h = (h.0, numbered-take (first + 1) k entries h.1)

pub first-numbered : (first : ℕ) (entries : List Entry) → AreNumbered first entries → 0 < length entries → sides.first_sequence entries ≡ first
first-numbered first [] h some = absurd (omega arith)
first-numbered first (e ∷ entries) h some = h.0

pub same-first : (entries : List Entry) → bounds.first_sequence entries ≡ sides.first_sequence entries
same-first [] = refl
same-first (e ∷ entries) = refl

pub first-take : (k : ℕ) (entries : List Entry) → 0 < k → sides.first_sequence (take k entries) ≡ sides.first_sequence entries
first-take zero entries some = absurd (omega arith)
first-take (suc k) [] some = refl
first-take (suc k) (e ∷ entries) some = refl

pub rest-whole : {X : Type 0} (left : ℕ) (xs : List X) → take (length xs - left) (drop left xs) ≡ drop left xs
rest-whole left xs = let long = length-drop left xs in take-whole (length xs - left) (drop left xs) (omega (arith, long))

pub length-range : (from count : ℕ) (entries : List Entry) → from + count ≤ length entries → length (take count (drop from entries)) ≡ count
length-range zero count entries h = length-take count entries (omega arith)
length-range (suc from) zero [] h = refl
length-range (suc from) (suc count) [] h = absurd (omega arith)
length-range (suc from) count (e ∷ entries) h = length-range from count entries (omega arith)

before-push : (prior : Option Entry) (entries : List Entry) (e : Entry) → entry_before prior (entries ++ e ∷ []) ≡ Some e
before-push prior [] e = refl
before-push prior (d ∷ entries) e = before-push (Some d) entries e

-- the entry before those behind the first so many
pub before-take : (prior : Option Entry) (entries : List Entry) (m i : ℕ) (e : Entry) → m ≡ i + 1 → i < length entries → e ≡ get_or entries i e → Some e ≡ entry_before prior (take m entries)
before-take prior entries m i e next below is =
    sym (ap (λ (k : ℕ). entry_before prior (take k entries)) next
    ∙ ap (entry_before prior) (take_more entries i e below)
    ∙ ap (λ (d : Entry). entry_before prior (take i entries ++ d ∷ [])) (sym is)
    ∙ before-push prior (take i entries) e)
