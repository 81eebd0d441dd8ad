-- Reading the blocks of receivers one after another.
use Rattle.std.proofs.Common.{◌≡◌, ◌≢◌, ◌⊎◌, inl, inr, ℕ, ◌+◌, ◌-◌, ◌≤◌, ◌<◌, Bool, true, false, List, [], ◌∷◌, ◌++◌, length, take, drop, get_or, Option, Some, refl, sym, ◌∙◌, ap, subst, arith, suc, append_assoc, length-append, length-take}
use Rattle.std.proofs.Math.Seq.{drop-cons}
use Rattle.std.proofs.Math.Numerals.{suc-eq-add-one}
use Rattle.std.specs.List.{AllByRecursion}
use Rattle.std.proofs.lemmas.List.{append-nil, drop_all, get_or-take, take-append-drop}
use Rattle.entry_codec.specs.declared.entries.Entry.{Entry}
use Rattle.entry_codec.specs.declared.kinds.EntryKind.TheVariants.{NextReceiver, PreviousReceiver}
use Rattle.entry_codec.specs.Spelling.{spelling}
use Rattle.entry_codec.proofs.EntryLaws.{one_spelling}
use Rattle.receiver_chain.specs.Links.{IsLink, IsStart}
use Rattle.receiver_chain.proofs.LinkLemmas.{start_no_link}
use Rattle.journal_model.specs.Journal.{AreNumbered}
use Rattle.journal_book.specs.Entries.{AreBlocks, AreInside, BeginsWith, HasBegun, IsAttached, IsBlock, IsEnded, IsInside, flat}
use Rattle.journal_book.specs.Bodies.{IsBody}
use Rattle.journal_book.specs.Openings.{AreBodies, HasBodies, HasNoBodies, HasNoFront, HasNoRead, HasRead, IsFront, IsRead}
use Rattle.journal_book.proofs.Numbering.{numbered-append, numbered_back, numbered_front}
use Rattle.journal_book.proofs.Reading.{one_block}
use Rattle.journal_book.proofs.Deposits.{numbered-push}
use Rattle.journal_book.proofs.Forcing.{blocks-push, flat-append}

-- ---- the bodies of one receiver

-- what was read of the whole, and what is still to be read: groups of the one are groups of the other
pub record IsStretch (last : ℕ) (whole : List (List ℕ)) (reached : ℕ) (rest : List (List ℕ)) : Type 0 where
  pub on : (groups : List (List Entry)) → AreBodies reached rest groups → (all : List (List Entry)) × AreBodies last whole all × (reached + length (flat groups) ≡ last + length (flat all))
  pub back : (all : List (List Entry)) → AreBodies last whole all → (groups : List (List Entry)) × AreBodies reached rest groups

pub stretch_begin : (last : ℕ) (whole : List (List ℕ)) → IsStretch last whole last whole
stretch_begin last whole = record { on = λ groups are. (groups, are, refl); back = λ all are. (all, are) }

back_further : (reached sequence : ℕ) (block : List ℕ) (rest : List (List ℕ)) (group : List Entry) → IsBody reached group block → sequence ≡ reached + length group → (groups : List (List Entry)) → AreBodies reached (block ∷ rest) groups
    → (more : List (List Entry)) × AreBodies sequence rest more
back_further reached sequence block rest group body is [] are = absurd are
back_further reached sequence block rest group body is (g ∷ groups) are =
    let same = one_block g group block are.0.whole body.whole in
    (groups, subst (λ (n : ℕ). AreBodies n rest groups) (ap (λ (l : List Entry). reached + length l) same ∙ sym is) are.1)

pub stretch_further : (last reached sequence : ℕ) (whole : List (List ℕ)) (block : List ℕ) (rest : List (List ℕ)) (group : List Entry) → IsStretch last whole reached (block ∷ rest) → IsBody reached group block → sequence ≡ reached + length group → IsStretch last whole sequence rest
stretch_further last reached sequence whole block rest group stretch body is = record {
  on = λ groups are.
      let more = stretch.on (group ∷ groups) (body, subst (λ (n : ℕ). AreBodies n rest groups) is are) in
      (more.0, more.1, omega (arith, is, more.2, length-append group (flat groups)));
  back = λ all are. let groups = stretch.back all are in back_further reached sequence block rest group body is groups.0 groups.1;
}

pub stretch_done : (last reached : ℕ) (whole : List (List ℕ)) → IsStretch last whole reached [] → HasBodies last whole reached
stretch_done last reached whole stretch = let all = stretch.on [] tt in (all.0, all.1, omega (arith, all.2))

no_first : (reached : ℕ) (block : List ℕ) (rest : List (List ℕ)) → ((group : List Entry) → IsBody reached group block → ⊥) → (groups : List (List Entry)) → AreBodies reached (block ∷ rest) groups → ⊥
no_first reached block rest none [] are = are
no_first reached block rest none (g ∷ groups) are = none g are.0

pub stretch_fault : (last reached : ℕ) (whole : List (List ℕ)) (block : List ℕ) (rest : List (List ℕ)) → IsStretch last whole reached (block ∷ rest) → ((group : List Entry) → IsBody reached group block → ⊥) → HasNoBodies last whole
stretch_fault last reached whole block rest stretch none = λ all are. let groups = stretch.back all are in no_first reached block rest none groups.0 groups.1

-- the nth block and those behind it
pub rest_at : (blocks : List (List ℕ)) (to n : ℕ) → n < to → to ≤ length blocks → drop n (take to blocks) ≡ get_or blocks n [] ∷ drop (n + 1) (take to blocks)
rest_at blocks to n below within =
    drop-cons (take to blocks) n [] (omega (arith, below, within, length-take to blocks))
    ∙ ap (λ (b : List ℕ). b ∷ drop (suc n) (take to blocks)) (get_or-take to blocks n [] below)
    ∙ ap (λ (m : ℕ). get_or blocks n [] ∷ drop m (take to blocks)) (suc-eq-add-one n)

pub rest_none : (blocks : List (List ℕ)) (to n : ℕ) → to ≤ n → drop n (take to blocks) ≡ []
rest_none blocks to n past = drop_all n (take to blocks) (omega (arith, past, length-take to blocks))

-- ---- what bodies are

bodies_blocks : (last : ℕ) (blocks : List (List ℕ)) (groups : List (List Entry)) → AreBodies last blocks groups → AreBlocks groups blocks
bodies_blocks last [] [] are = tt
bodies_blocks last [] (g ∷ groups) are = absurd are
bodies_blocks last (b ∷ blocks) [] are = absurd are
bodies_blocks last (b ∷ blocks) (g ∷ groups) are = (are.0.whole, bodies_blocks (last + length g) blocks groups are.1)

bodies_inside : (last : ℕ) (blocks : List (List ℕ)) (groups : List (List Entry)) → AreBodies last blocks groups → AreInside groups
bodies_inside last [] [] are = tt
bodies_inside last [] (g ∷ groups) are = absurd are
bodies_inside last (b ∷ blocks) [] are = absurd are
bodies_inside last (b ∷ blocks) (g ∷ groups) are = (are.0.inside, bodies_inside (last + length g) blocks groups are.1)

bodies_numbered : (last : ℕ) (blocks : List (List ℕ)) (groups : List (List Entry)) → AreBodies last blocks groups → AreNumbered (last + 1) (flat groups)
bodies_numbered last [] [] are = tt
bodies_numbered last [] (g ∷ groups) are = absurd are
bodies_numbered last (b ∷ blocks) [] are = absurd are
bodies_numbered last (b ∷ blocks) (g ∷ groups) are = numbered-append (last + 1) (last + length g + 1) g (flat groups) (omega arith) are.0.numbered (bodies_numbered (last + length g) blocks groups are.1)

bodies_of : (last : ℕ) (blocks : List (List ℕ)) (groups : List (List Entry)) → AreBlocks groups blocks → AreInside groups → AreNumbered (last + 1) (flat groups) → AreBodies last blocks groups
bodies_of last [] [] are inside numbered = tt
bodies_of last [] (g ∷ groups) are inside numbered = absurd are
bodies_of last (b ∷ blocks) [] are inside numbered = absurd are
bodies_of last (b ∷ blocks) (g ∷ groups) are inside numbered = (
  record { whole = are.0; numbered = numbered_front (last + 1) g (flat groups) numbered; inside = inside.0 },
  bodies_of (last + length g) blocks groups are.1 inside.1 (numbered_back (last + 1) (last + length g + 1) g (flat groups) (omega arith) numbered),
)

-- ---- a receiver that has begun

no_groups : (groups : List (List Entry)) → AreBlocks groups [] → groups ≡ []
no_groups [] are = refl
no_groups (g ∷ groups) are = absurd are

-- the one entry by which it begins
start_block : (previous first : ℕ) (block : List ℕ) (start : IsStart previous first block) → IsBlock (start.entry ∷ []) block
start_block previous first block start = record { each = (start.spelled, tt); whole = start.whole ∙ sym (append-nil (spelling start.entry)) }

pub block_start : (previous first : ℕ) (block : List ℕ) (e : Entry) → IsBlock (e ∷ []) block → e.kind ≡ PreviousReceiver previous → e.sequence ≡ first → IsStart previous first block
block_start previous first block e is names sequence = record { entry = e; spelled = is.each.0; names = names; sequence = sequence; whole = is.whole ∙ append-nil (spelling e) }

-- the blocks that it has, where it has begun
abbrev pub IsBegun : ℕ → List (List ℕ) → Type 0
IsBegun number blocks = (number ≡ 1) ⊎ ((number ≢ 1) × ((block : List ℕ) × (rest : List (List ℕ)) × (blocks ≡ block ∷ rest)))

pub begun_first : (number last : ℕ) (blocks : List (List ℕ)) (reached : ℕ) → number ≡ 1 → HasBodies last blocks reached → HasRead (HasBegun number) last blocks reached
begun_first number last blocks reached one (groups, are, count) = (
  groups,
  record { spelled = bodies_blocks last blocks groups are; stands = (groups, inl (one, refl), bodies_inside last blocks groups are); numbered = bodies_numbered last blocks groups are },
  count,
)

pub begun_later : (number last : ℕ) (block : List ℕ) (rest : List (List ℕ)) (reached : ℕ) → number ≢ 1 → IsStart (number - 1) (last + 1) block → HasBodies (last + 1) rest reached → HasRead (HasBegun number) last (block ∷ rest) reached
begun_later number last block rest reached more start (groups, are, count) = (
  (start.entry ∷ []) ∷ groups,
  record {
    spelled = (start_block (number - 1) (last + 1) block start, bodies_blocks (last + 1) rest groups are);
    stands = (groups, inr (more, (start.entry, start.names, refl)), bodies_inside (last + 1) rest groups are);
    numbered = (start.sequence, bodies_numbered (last + 1) rest groups are);
  },
  omega (arith, count),
)

-- and back: what has begun is its first block and bodies
pub first_bodies : (number last : ℕ) (blocks : List (List ℕ)) (groups : List (List Entry)) → number ≡ 1 → IsRead (HasBegun number) last blocks groups → AreBodies last blocks groups
first_bodies number last blocks groups one read = elim read.stands.1 [
  | inl begins ↦ bodies_of last blocks groups read.spelled (subst (λ (g : List (List Entry)). AreInside g) (sym begins.1) read.stands.2) read.numbered
  | inr begins ↦ absurd (begins.0 one)
]

pub later_bodies : (number last : ℕ) (block : List ℕ) (rest : List (List ℕ)) (groups : List (List Entry)) → number ≢ 1 → IsRead (HasBegun number) last (block ∷ rest) groups → IsStart (number - 1) (last + 1) block × ((bodies : List (List Entry)) × AreBodies (last + 1) rest bodies)
later_bodies number last block rest groups more read = elim read.stands.1 [
  | inl begins ↦ absurd (more begins.0)
  | inr begins ↦
      let body = read.stands.0 in
      let e = begins.1.0 in
      let spelled : AreBlocks ((e ∷ []) ∷ body) (block ∷ rest) = subst (λ (g : List (List Entry)). AreBlocks g (block ∷ rest)) begins.1.2 read.spelled in
      let numbered : AreNumbered (last + 1) (e ∷ flat body) = subst (λ (g : List (List Entry)). AreNumbered (last + 1) (flat g)) begins.1.2 read.numbered in
      (block_start (number - 1) (last + 1) block e spelled.0 begins.1.1 numbered.0, (body, bodies_of (last + 1) rest body spelled.1 read.stands.2 numbered.1))
]

-- ---- the attached one

attached_begun : (number last : ℕ) (blocks : List (List ℕ)) (reached : ℕ) → HasRead (HasBegun number) last blocks reached → HasRead (IsAttached number) last blocks reached
attached_begun number last blocks reached read = (read.0, record { spelled = read.1.spelled; stands = inl read.1.stands; numbered = read.1.numbered }, read.2)

attached_empty : (number last reached : ℕ) → number ≢ 1 → HasBodies last [] reached → HasRead (IsAttached number) last [] reached
attached_empty number last reached more (groups, are, count) = (
  groups,
  record { spelled = bodies_blocks last [] groups are; stands = inr (more, no_groups groups (bodies_blocks last [] groups are)); numbered = bodies_numbered last [] groups are },
  count,
)

pub attached_read : (number last : ℕ) (blocks : List (List ℕ)) (taken begun reached : ℕ) → IsFront number last blocks taken begun → HasBodies begun (drop taken blocks) reached → HasRead (IsAttached number) last blocks reached
attached_read number last blocks taken begun reached (inl (inl one, zero, same)) bodies =
    attached_begun number last blocks reached
    (begun_first number last blocks reached one (subst (λ (n : ℕ). HasBodies n blocks reached) same (subst (λ (t : ℕ). HasBodies begun (drop t blocks) reached) zero bodies)))
attached_read number last blocks taken begun reached (inl (inr (more, none), zero, same)) bodies =
    subst (λ (b : List (List ℕ)). HasRead (IsAttached number) last b reached) (sym none)
    (attached_empty number last reached more (subst (λ (b : List (List ℕ)). HasBodies last b reached) none (subst (λ (n : ℕ). HasBodies n blocks reached) same (subst (λ (t : ℕ). HasBodies begun (drop t blocks) reached) zero bodies))))
attached_read number last blocks taken begun reached (inr (more, (block, rest, is, start), one, next)) bodies =
    subst (λ (b : List (List ℕ)). HasRead (IsAttached number) last b reached) (sym is)
    (attached_begun number last (block ∷ rest) reached
    (begun_later number last block rest reached more start (subst (λ (n : ℕ). HasBodies n rest reached) next (subst (λ (b : List (List ℕ)). HasBodies begun (drop 1 b) reached) is (subst (λ (t : ℕ). HasBodies begun (drop t blocks) reached) one bodies)))))

-- one that is attached has begun where it has a block, and is empty else
begun_of : (number last : ℕ) (block : List ℕ) (rest : List (List ℕ)) (groups : List (List Entry)) → IsRead (IsAttached number) last (block ∷ rest) groups → IsRead (HasBegun number) last (block ∷ rest) groups
begun_of number last block rest groups read = elim read.stands [
  | inl begun ↦ record { spelled = read.spelled; stands = begun; numbered = read.numbered }
  | inr empty ↦ absurd (subst (λ (g : List (List Entry)). AreBlocks g (block ∷ rest)) empty.1 read.spelled)
]

first_of : (number last : ℕ) (blocks : List (List ℕ)) (groups : List (List Entry)) → number ≡ 1 → IsRead (IsAttached number) last blocks groups → IsRead (HasBegun number) last blocks groups
first_of number last blocks groups one read = elim read.stands [
  | inl begun ↦ record { spelled = read.spelled; stands = begun; numbered = read.numbered }
  | inr empty ↦ absurd (empty.0 one)
]

pub attached_no_front : (number last : ℕ) (blocks : List (List ℕ)) → HasNoFront number last blocks → HasNoRead (IsAttached number) last blocks
attached_no_front number last blocks (more, (block, rest, is, none)) = λ groups read.
    none (later_bodies number last block rest groups more (begun_of number last block rest groups (subst (λ (b : List (List ℕ)). IsRead (IsAttached number) last b groups) is read))).0

pub attached_no_bodies : (number last : ℕ) (blocks : List (List ℕ)) (taken begun : ℕ) → IsFront number last blocks taken begun → HasNoBodies begun (drop taken blocks) → HasNoRead (IsAttached number) last blocks
attached_no_bodies number last blocks taken begun (inl (inl one, zero, same)) none = λ groups read.
    subst (λ (n : ℕ). HasNoBodies n blocks) same (subst (λ (t : ℕ). HasNoBodies begun (drop t blocks)) zero none) groups (first_bodies number last blocks groups one (first_of number last blocks groups one read))
attached_no_bodies number last blocks taken begun (inl (inr (more, empty), zero, same)) none =
    absurd (subst (λ (b : List (List ℕ)). HasNoBodies last b) empty (subst (λ (n : ℕ). HasNoBodies n blocks) same (subst (λ (t : ℕ). HasNoBodies begun (drop t blocks)) zero none)) [] tt)
attached_no_bodies number last blocks taken begun (inr (more, (block, rest, is, start), one, next)) none = λ groups read.
    let bodies = (later_bodies number last block rest groups more (begun_of number last block rest groups (subst (λ (b : List (List ℕ)). IsRead (IsAttached number) last b groups) is read))).1 in
    subst (λ (n : ℕ). HasNoBodies n rest) next (subst (λ (b : List (List ℕ)). HasNoBodies begun (drop 1 b)) is (subst (λ (t : ℕ). HasNoBodies begun (drop t blocks)) one none)) bodies.0 bodies.1
