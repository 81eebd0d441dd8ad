-- An entry that is read is what the bytes spell, and each spelled entry is read again, whatever follows.
use Rattle.std.proofs.Common.{◌≡◌, ℕ, ◌+◌, ◌^◌, ◌<◌, Bool, true, ◌&&◌, ltb, eqb, List, ◌++◌, length, drop, IsTrue, Option, Some, None, refl, sym, ap, subst, ◌∙◌, append_assoc, arith, length-append}
use Rattle.std.specs.Prelude.{IfSome, IsSome}
use Rattle.std.specs.Option.{unwrap_or}
use Rattle.field_types.specs.SystemName.{is_name}
use Rattle.std.proofs.Math.Seq.{drop-append_seam}
use Rattle.std.proofs.lemmas.Bool.{false≢true}
use Rattle.std.proofs.lemmas.Option.{none-some}
use Rattle.entry_codec.specs.declared.entries.Entry.{Entry}
use Rattle.entry_codec.specs.declared.kinds.EntryKind.{EntryKind}
use Rattle.entry_codec.specs.declared.kinds.EntryKind.TheVariants.{FileCreated, FileDeleted, MemberAdded, JournalingStarted, InitialSlot, JournalingEnded, MemberCleared, MemberReorganized, ChangesApplied, ChangesRemoved, RecordAdded, RecordAddedAtNumber, BeforeImage, AfterImage, RecordDeleted, UndoBeforeImage, UndoAfterImage, UndoDelete, CommitmentStarted, CommitCycleStarted, CommitCycleCommitted, CommitCycleRolledBack, CommitmentEnded, AbnormalEnd, NextReceiver, PreviousReceiver}
use Rattle.entry_codec.specs.declared.places.Named.{Named}
use Rattle.entry_codec.specs.declared.places.Place.{Place}
use Rattle.entry_codec.specs.declared.places.Place.TheVariants.{Library, Member, Slot, Record, Commitment, CycleStart, CycleEnd}
use Rattle.entry_codec.specs.Placing.{letters, place, is_absent, is_present, is_own, is_placed_at}
use Rattle.entry_codec.specs.Spelling.{number4, number8, job_field, body, content, spelling, HoldsFields, IsEntry, IsSpelled, Begins}
use Rattle.entry_codec.specs.Reading.{front_at, number4_at, number8_at, optional4_at, optional8_at, job_in, kind_at, placed, content_at, entry_at}
use Rattle.entry_codec.proofs.FieldLemmas.{length-number4, length-job_field}
use Rattle.entry_codec.proofs.Lengths.{length-letters, length-file_created, length-content, content-fits}
use Rattle.entry_codec.proofs.Laws.{IsBytes, IsCounted, and-split, bind_takes, test_takes, Takes, Takes-then, front_takes, front_again, number4_takes, number8_takes, number4_reads, number8_reads, optional4_takes, optional8_takes, optional4_reads, optional8_reads}
use Rattle.entry_codec.proofs.NameLaws.{job_in_takes, job_in_reads}
use Rattle.entry_codec.proofs.KindLaws.{HoldsImages, IsKindOf, kind_takes, kind_reads}

-- ---- what stands where it has to is counted from 1

absent-counted : (n : Option ℕ) → is_absent n ≡ true → IsCounted n
absent-counted None h = refl
absent-counted (Some n) h = absurd (false≢true h)

present-counted : (n : Option ℕ) → is_present n ≡ true → IsCounted n
present-counted None h = refl
present-counted (Some n) h = h

own-counted : (sequence : ℕ) (n : Option ℕ) → is_own sequence n ≡ true → IsCounted n
own-counted sequence None h = refl
own-counted sequence (Some n) h = (and-split (ltb 0 n) (eqb n sequence) h).0

all_three : (P Q R : Type 0) (a b c : Bool) → (a ≡ true → P) → (b ≡ true → Q) → (c ≡ true → R) → ((a && b) && c) ≡ true → P × Q × R
all_three P Q R a b c p q r h =
    let front = and-split (a && b) c h in
    let both = and-split a b front.0 in
    (p both.0, q both.1, r front.1)

placed-counted : (p : Place) (sequence : ℕ) (group member rrn : Option ℕ) → is_placed_at p sequence group member rrn ≡ true → IsCounted group × IsCounted member × IsCounted rrn
placed-counted Library s g m r h = all_three (IsCounted g) (IsCounted m) (IsCounted r) _ _ _ (absent-counted g) (absent-counted m) (absent-counted r) h
placed-counted Member s g m r h = all_three (IsCounted g) (IsCounted m) (IsCounted r) _ _ _ (absent-counted g) (present-counted m) (absent-counted r) h
placed-counted Slot s g m r h = all_three (IsCounted g) (IsCounted m) (IsCounted r) _ _ _ (absent-counted g) (present-counted m) (present-counted r) h
placed-counted Record s g m r h = all_three (IsCounted g) (IsCounted m) (IsCounted r) _ _ _ (λ is. is) (present-counted m) (present-counted r) h
placed-counted Commitment s g m r h = all_three (IsCounted g) (IsCounted m) (IsCounted r) _ _ _ (λ is. is) (absent-counted m) (absent-counted r) h
placed-counted CycleStart s g m r h = all_three (IsCounted g) (IsCounted m) (IsCounted r) _ _ _ (own-counted s g) (absent-counted m) (absent-counted r) h
placed-counted CycleEnd s g m r h = all_three (IsCounted g) (IsCounted m) (IsCounted r) _ _ _ (present-counted g) (absent-counted m) (absent-counted r) h

-- the bytes are all of what the entry has behind its length
pub record IsContentOf (bytes : List ℕ) (e : Entry) : Type 0 where
  pub parts : content e ≡ bytes
  pub placed : IsTrue (is_placed_at (place e.kind) e.sequence e.group e.member e.rrn)
  pub images : HoldsImages e.kind
  pub is : IsEntry e

-- the kind has these letters and this body, and the numbers name what it wants
pub record IsPlacedKind (named : Named) (text bytes : List ℕ) (k : EntryKind) : Type 0 where
  pub kind : IsKindOf text bytes k
  pub placed : IsTrue (is_placed_at (place k) named.sequence named.group named.member named.rrn)

placed_holds : (named : Named) (text bytes : List ℕ) (o : Option EntryKind) → IfSome o (IsKindOf text bytes) → IfSome (placed named o) (IsPlacedKind named text bytes)
placed_holds named text bytes None h = tt
placed_holds named text bytes (Some k) h = test_takes (IsPlacedKind named text bytes) (is_placed_at (place k) named.sequence named.group named.member named.rrn) (Some k) None (λ is. record { kind = h; placed = is }) (λ _. tt)

placed_takes : (named : Named) (text bytes : List ℕ) → IsBytes bytes → IfSome (placed named (kind_at text bytes)) (IsPlacedKind named text bytes)
placed_takes named text bytes ok = placed_holds named text bytes (kind_at text bytes) (kind_takes text bytes ok)

pub content_takes : (bytes : List ℕ) → IsBytes bytes → IfSome (content_at bytes) (IsContentOf bytes)
unfolding content_at
content_takes bytes ok =
    let Q = IsContentOf bytes in
    bind_takes (λ x. Takes bytes (number8 x.0) x.1 × (x.0 < 2 ^ 64)) Q (number8_at bytes) _ (number8_takes bytes ok)
    (λ s hs. bind_takes (λ x. Takes s.1 x.0 x.1 × (length x.0 ≡ 3) × IsBytes x.0) Q (front_at 3 s.1) _ (front_takes 3 s.1 hs.0.rest_fits)
    (λ l hl. bind_takes (λ x. Takes l.1 x.0 x.1 × (length x.0 ≡ 10) × IsBytes x.0) Q (front_at 10 l.1) _ (front_takes 10 l.1 hl.0.rest_fits)
    (λ f hf. bind_takes (λ j. (job_field j ≡ f.0) × IfSome j (λ name. IsTrue (is_name name))) Q (job_in f.0) _ (job_in_takes f.0 hf.1)
    (λ j hj. bind_takes (λ x. Takes f.1 (number8 x.0) x.1 × (x.0 < 2 ^ 64)) Q (number8_at f.1) _ (number8_takes f.1 hf.0.rest_fits)
    (λ m hm. bind_takes (λ x. Takes m.1 (number8 (unwrap_or x.0 0)) x.1 × IfSome x.0 (λ n. n < 2 ^ 64)) Q (optional8_at m.1) _ (optional8_takes m.1 hm.0.rest_fits)
    (λ g hg. bind_takes (λ x. Takes g.1 (number4 (unwrap_or x.0 0)) x.1 × IfSome x.0 (λ n. n < 2 ^ 32)) Q (optional4_at g.1) _ (optional4_takes g.1 hg.0.rest_fits)
    (λ b hb. bind_takes (λ x. Takes b.1 (number4 (unwrap_or x.0 0)) x.1 × IfSome x.0 (λ n. n < 2 ^ 32)) Q (optional4_at b.1) _ (optional4_takes b.1 hb.0.rest_fits)
    (λ r hr. bind_takes (IsPlacedKind (record { sequence = s.0; group = g.0; member = b.0; rrn = r.0 }) l.0 r.1) Q (placed (record { sequence = s.0; group = g.0; member = b.0; rrn = r.0 }) (kind_at l.0 r.1)) _ (placed_takes _ l.0 r.1 hr.0.rest_fits)
    (λ k hk.
    let t1 = Takes-then bytes (number8 s.0) s.1 l.0 l.1 hs.0 hl.0 in
    let t2 = Takes-then bytes (number8 s.0 ++ l.0) l.1 f.0 f.1 t1 hf.0 in
    let t3 = Takes-then bytes ((number8 s.0 ++ l.0) ++ f.0) f.1 (number8 m.0) m.1 t2 hm.0 in
    let t4 = Takes-then bytes (((number8 s.0 ++ l.0) ++ f.0) ++ number8 m.0) m.1 (number8 (unwrap_or g.0 0)) g.1 t3 hg.0 in
    let t5 = Takes-then bytes ((((number8 s.0 ++ l.0) ++ f.0) ++ number8 m.0) ++ number8 (unwrap_or g.0 0)) g.1 (number4 (unwrap_or b.0 0)) b.1 t4 hb.0 in
    let t6 = Takes-then bytes (((((number8 s.0 ++ l.0) ++ f.0) ++ number8 m.0) ++ number8 (unwrap_or g.0 0)) ++ number4 (unwrap_or b.0 0)) b.1 (number4 (unwrap_or r.0 0)) r.1 t5 hr.0 in
    let whole : List ℕ → List ℕ → List ℕ → List ℕ = λ letters job text. ((((((number8 s.0 ++ letters) ++ job) ++ number8 m.0) ++ number8 (unwrap_or g.0 0)) ++ number4 (unwrap_or b.0 0)) ++ number4 (unwrap_or r.0 0)) ++ text in
    record {
      parts = ap (λ (x : List ℕ). whole x (job_field j) (body k)) (sym hk.kind.letters) ∙ ap (λ (x : List ℕ). whole l.0 x (body k)) hj.0 ∙ ap (λ (x : List ℕ). whole l.0 f.0 x) (sym hk.kind.body) ∙ sym t6.parts;
      placed = hk.placed;
      images = hk.kind.images;
      is = record { head = record { sequence = hs.1; job = hj.1; moment = hm.1; group = hg.1; member = hb.1; rrn = hr.1 }; kind = hk.kind.kind };
    })))))))))

pub content_reads : (e : Entry) → IsSpelled e → content_at (content e) ≡ Some e
unfolding content_at
content_reads e is =
    let counted = placed-counted (place e.kind) e.sequence e.group e.member e.rrn is.has.placed in
    let t7 = body e.kind in
    let t6 = number4 (unwrap_or e.rrn 0) ++ t7 in
    let t5 = number4 (unwrap_or e.member 0) ++ t6 in
    let t4 = number8 (unwrap_or e.group 0) ++ t5 in
    let t3 = number8 e.moment ++ t4 in
    let t2 = job_field e.job ++ t3 in
    let t1 = letters e.kind ++ t2 in
    let regrouped : content e ≡ number8 e.sequence ++ t1 = simp append_assoc in
    ap content_at regrouped
    ∙ rw (
      number8_reads e.sequence t1 is.is.head.sequence,
      front_again 3 (letters e.kind) t2 (length-letters e.kind),
      front_again 10 (job_field e.job) t3 (length-job_field e.job),
      job_in_reads e.job is.is.head.job,
      number8_reads e.moment t4 is.is.head.moment,
      optional8_reads e.group t5 counted.0 is.is.head.group,
      optional4_reads e.member t6 counted.1 is.is.head.member,
      optional4_reads e.rrn t7 counted.2 is.is.head.rrn,
      kind_reads e.kind is.has.fields is.is.kind,
      is.has.placed,
    ) refl

-- the length that was read bounds a source
fields_from_length : (k : EntryKind) → HoldsImages k → 45 + length (body k) < 2 ^ 32 → HoldsFields k
fields_from_length (FileCreated kind name source) h lt = omega (arith, lt, length-file_created kind name source)
fields_from_length (FileDeleted name) h lt = h
fields_from_length (MemberAdded file name) h lt = h
fields_from_length (JournalingStarted images slots) h lt = h
fields_from_length (InitialSlot image) h lt = h
fields_from_length JournalingEnded h lt = h
fields_from_length MemberCleared h lt = h
fields_from_length MemberReorganized h lt = h
fields_from_length (ChangesApplied first last changes) h lt = h
fields_from_length (ChangesRemoved first last changes) h lt = h
fields_from_length (RecordAdded image) h lt = h
fields_from_length (RecordAddedAtNumber image) h lt = h
fields_from_length (BeforeImage image) h lt = h
fields_from_length (AfterImage has_before image) h lt = h
fields_from_length (RecordDeleted before) h lt = h
fields_from_length (UndoBeforeImage image) h lt = h
fields_from_length (UndoAfterImage has_before image) h lt = h
fields_from_length (UndoDelete image) h lt = h
fields_from_length (CommitmentStarted level) h lt = h
fields_from_length CommitCycleStarted h lt = h
fields_from_length CommitCycleCommitted h lt = h
fields_from_length CommitCycleRolledBack h lt = h
fields_from_length CommitmentEnded h lt = h
fields_from_length AbnormalEnd h lt = h
fields_from_length (NextReceiver number) h lt = h
fields_from_length (PreviousReceiver number) h lt = h

pub entry_takes : (bytes : List ℕ) → IsBytes bytes → IfSome (entry_at bytes) (λ x. Begins bytes x.0 x.1)
unfolding entry_at
entry_takes bytes ok =
    let Q = λ (x : Entry × ℕ). Begins bytes x.0 x.1 in
    bind_takes (λ x. Takes bytes (number4 x.0) x.1 × (x.0 < 2 ^ 32)) Q (number4_at bytes) _ (number4_takes bytes ok)
    (λ n hn. bind_takes (λ x. Takes n.1 x.0 x.1 × (length x.0 ≡ n.0) × IsBytes x.0) Q (front_at n.0 n.1) _ (front_takes n.0 n.1 hn.0.rest_fits)
    (λ f hf. bind_takes (IsContentOf f.0) Q (content_at f.0) _ (content_takes f.0 hf.2)
    (λ e he.
    let long : length (content e) ≡ n.0 = ap length he.parts ∙ hf.1 in
    let text : number4 n.0 ++ f.0 ≡ spelling e = ap (λ (k : ℕ). number4 k ++ f.0) (sym long) ∙ ap (λ (c : List ℕ). number4 (length (content e)) ++ c) (sym he.parts) in
    let count : 4 + n.0 ≡ length (number4 n.0 ++ f.0) = omega (arith, length-append (number4 n.0) f.0, length-number4 n.0, hf.1) in
    let parts = (Takes-then bytes (number4 n.0) n.1 f.0 f.1 hn.0 hf.0).parts in
    record {
      spelled = record { has = record { placed = he.placed; fields = fields_from_length e.kind he.images (omega (arith, hn.1, long, length-content e)) }; is = he.is };
      long = count ∙ ap length text;
      within = omega (arith, count, ap length parts, length-append (number4 n.0 ++ f.0) f.1);
      front =
          parts ∙ ap (λ (t : List ℕ). t ++ f.1) text
          ∙ ap (λ (r : List ℕ). spelling e ++ r) (sym (ap (λ (k : ℕ). drop k bytes) count ∙ ap (drop (length (number4 n.0 ++ f.0))) parts ∙ drop-append_seam (number4 n.0 ++ f.0) f.1));
    })))

pub entry_reads : (e : Entry) (rest : List ℕ) → IsSpelled e → entry_at (spelling e ++ rest) ≡ Some (e, length (spelling e))
unfolding entry_at
entry_reads e rest is =
    let long : 4 + length (content e) ≡ length (spelling e) = omega (arith, length-append (number4 (length (content e))) (content e), length-number4 (length (content e))) in
    ap entry_at (append_assoc (number4 (length (content e))) (content e) rest)
    ∙ rw (number4_reads (length (content e)) (content e ++ rest) (content-fits e is.has), front_again (length (content e)) (content e) rest refl, content_reads e is) (ap (λ (n : ℕ). Some (e, n)) long)

some_is : (x y : Entry × ℕ) (o : Option (Entry × ℕ)) → o ≡ Some x → o ≡ Some y → x ≡ y
some_is x y o p q = cc

pub one_spelling : (a b : Entry) (x y : List ℕ) → IsSpelled a → IsSpelled b → spelling a ++ x ≡ spelling b ++ y → (a ≡ b) × (x ≡ y)
one_spelling a b x y is_a is_b e =
    let same : a ≡ b = ap (λ (p : Entry × ℕ). p.0) (some_is (a, length (spelling a)) (b, length (spelling b)) (entry_at (spelling a ++ x)) (entry_reads a x is_a) (ap entry_at e ∙ entry_reads b y is_b)) in
    (same, sym (drop-append_seam (spelling a) x) ∙ ap (drop (length (spelling a))) e ∙ ap (λ (c : Entry). drop (length (spelling c)) (spelling b ++ y)) same ∙ drop-append_seam (spelling b) y)

-- ---- what the reader ensures

spelled_by : (bytes : List ℕ) (o : Option (Entry × ℕ)) → IsSome o → IfSome o (λ x. Begins bytes x.0 x.1) → ((e : Entry) (rest : List ℕ) → IsSpelled e → bytes ≡ spelling e ++ rest → ⊥) → ⊥
spelled_by bytes (Some x) some begins gap = gap x.0 (drop x.1 bytes) begins.spelled begins.front
spelled_by bytes None some begins gap = absurd cc

pub found_by : (bytes : List ℕ) (x : Entry × ℕ) → IsBytes bytes → entry_at bytes ≡ Some x → Begins bytes x.0 x.1
found_by bytes x ok e = subst (λ (o : Option (Entry × ℕ)). IfSome o (λ y. Begins bytes y.0 y.1)) e (entry_takes bytes ok)

pub only_by : (bytes : List ℕ) (o : Option (Entry × ℕ)) → entry_at bytes ≡ o → (e : Entry) (rest : List ℕ) → IsSpelled e → bytes ≡ spelling e ++ rest → o ≡ Some (e, length (spelling e))
only_by bytes o at e rest is front = sym at ∙ ap entry_at front ∙ entry_reads e rest is

pub none_by : (bytes : List ℕ) → entry_at bytes ≡ None → (e : Entry) (rest : List ℕ) → IsSpelled e → bytes ≡ spelling e ++ rest → ⊥
none_by bytes at e rest is front =
    none-some (e, length (spelling e)) (only_by bytes None at e rest is front)

-- where nothing is spelled, nothing is read
pub damaged_by : (bytes : List ℕ) (x : Entry × ℕ) → IsBytes bytes → entry_at bytes ≡ Some x → ((e : Entry) (rest : List ℕ) → IsSpelled e → bytes ≡ spelling e ++ rest → ⊥) → ⊥
damaged_by bytes x ok e gap =
    let begins = found_by bytes x ok e in
    gap x.0 (drop x.1 bytes) begins.spelled begins.front

-- memory runs out only where something is spelled
pub memory_by : (bytes : List ℕ) → IsBytes bytes → IsSome (entry_at bytes) → ((e : Entry) (rest : List ℕ) → IsSpelled e → bytes ≡ spelling e ++ rest → ⊥) → ⊥
memory_by bytes ok some gap = spelled_by bytes (entry_at bytes) some (entry_takes bytes ok) gap
