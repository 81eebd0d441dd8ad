-- Reading all receivers of a chain, and the book that is opened on them.
use Rattle.std.proofs.Common.{◌≡◌, ◌≢◌, ◌⊎◌, inl, inr, ℕ, ◌+◌, ◌-◌, ◌≤◌, ◌<◌, Bool, true, false, List, [], ◌∷◌, ◌++◌, length, drop, get_or, refl, sym, ◌∙◌, ap, subst, arith, suc, length-append}
use Rattle.std.proofs.Math.Seq.{drop-cons}
use Rattle.std.proofs.Math.Numerals.{suc-eq-add-one}
use Rattle.std.proofs.lemmas.List.{append-nil, drop_all, length-map}
use Rattle.store_model.specs.Disk.{Areas, Disk}
use Rattle.entry_codec.specs.declared.entries.Entry.{Entry}
use Rattle.receiver_chain.specs.Receivers.{AreChained, Kept, Receiver}
use Rattle.receiver_chain.specs.Chain.{ChainState, attached_of}
use Rattle.receiver_chain.proofs.ReadingLaws.{one_chain}
use Rattle.receiver_chain.proofs.Switches.{chained_same}
use Rattle.receiver_chain.proofs.Chaining.{logs_length}
use Rattle.journal_model.specs.Journal.{AreNumbered}
use Rattle.journal_book.specs.Book.{BookState, GoesOn, Holds}
use Rattle.journal_book.specs.Entries.{AreBlocks, AreReceivers, BeginsWith, HasBegun, HoldsEntries, IsAttached, IsBlock, IsEnded, all_groups, first_sequence, flat}
use Rattle.journal_book.specs.Kept.{SpellEntries}
use Rattle.journal_book.specs.Openings.{AreRead, HasNoRead, HasRead, HaveNoRead, HaveRead, IsRead}
use Rattle.journal_book.proofs.Forcing.{flat-append}
use Rattle.journal_book.proofs.Numbering.{numbered-append, numbered_back, numbered_front}
use Rattle.journal_book.proofs.Reading.{one_blocks}

-- what was read of the receivers, and what is still to be read
pub record IsWalk (number last : ℕ) (rs : List Receiver) (attached : Receiver) (n reached : ℕ) (rest : List Receiver) : Type 0 where
  pub on : (earlier : List (List (List Entry))) (final : List (List Entry)) → AreRead n reached rest attached earlier final
      → (all : List (List (List Entry))) × AreRead number last rs attached all final × (reached + length (flat (all_groups earlier final)) ≡ last + length (flat (all_groups all final)))
  pub back : (all : List (List (List Entry))) (final : List (List Entry)) → AreRead number last rs attached all final → (earlier : List (List (List Entry))) × AreRead n reached rest attached earlier final

pub walk_begin : (number last : ℕ) (rs : List Receiver) (attached : Receiver) → IsWalk number last rs attached number last rs
walk_begin number last rs attached = record { on = λ earlier final read. (earlier, read, refl); back = λ all final read. (all, read) }

-- from the first one on
pub walk_from : (number last : ℕ) (rs : List Receiver) (attached : Receiver) (n : ℕ) → n ≡ number → IsWalk number last rs attached n last (drop (n - number) rs)
walk_from number last rs attached n is =
    let none : 0 ≡ number - number = omega arith in
    subst (λ (m : ℕ). IsWalk number last rs attached m last (drop (m - number) rs)) (sym is) (subst (λ (k : ℕ). IsWalk number last rs attached number last (drop k rs)) none (walk_begin number last rs attached))

all_flat : (groups : List (List Entry)) (earlier : List (List (List Entry))) (final : List (List Entry)) → flat (all_groups (groups ∷ earlier) final) ≡ flat groups ++ flat (all_groups earlier final)
all_flat groups earlier final = flat-append groups (all_groups earlier final)

back_one : (n reached sequence : ℕ) (r : Receiver) (rest : List Receiver) (attached : Receiver) (groups : List (List Entry)) (earlier : List (List (List Entry))) (final : List (List Entry)) → AreBlocks groups r.blocks → sequence ≡ reached + length (flat groups)
    → AreRead n reached (r ∷ rest) attached earlier final → (more : List (List (List Entry))) × AreRead (n + 1) sequence rest attached more final
back_one n reached sequence r rest attached groups [] final are is read = absurd read.receivers
back_one n reached sequence r rest attached groups (g ∷ more) final are is read =
    let same = one_blocks g groups r.blocks read.receivers.0 are in (
      more,
      record {
        receivers = read.receivers.2;
        numbered = numbered_back (reached + 1) (sequence + 1) (flat g) (flat (all_groups more final)) (omega (arith, is, ap (λ (l : List (List Entry)). length (flat l)) same))
            (subst (λ (l : List Entry). AreNumbered (reached + 1) l) (all_flat g more final) read.numbered);
      },
    )

no_one : (n reached : ℕ) (r : Receiver) (rest : List Receiver) (attached : Receiver) (earlier : List (List (List Entry))) (final : List (List Entry)) → HasNoRead (IsEnded n) reached r.blocks → AreRead n reached (r ∷ rest) attached earlier final → ⊥
no_one n reached r rest attached [] final none read = read.receivers
no_one n reached r rest attached (g ∷ more) final none read =
    none g (record {
      spelled = read.receivers.0;
      stands = read.receivers.1;
      numbered = numbered_front (reached + 1) (flat g) (flat (all_groups more final)) (subst (λ (l : List Entry). AreNumbered (reached + 1) l) (all_flat g more final) read.numbered);
    })

no_last : (n reached : ℕ) (attached : Receiver) (earlier : List (List (List Entry))) (final : List (List Entry)) → HasNoRead (IsAttached n) reached attached.blocks → AreRead n reached [] attached earlier final → ⊥
no_last n reached attached [] final none read = none final (record { spelled = read.receivers.0; stands = read.receivers.1; numbered = read.numbered })
no_last n reached attached (g ∷ more) final none read = read.receivers

module _ (number last : ℕ) (rs : List Receiver) (attached : Receiver) (n reached : ℕ) where
  pub walk_further : (sequence : ℕ) (r : Receiver) (rest : List Receiver) → IsWalk number last rs attached n reached (r ∷ rest) → HasRead (IsEnded n) reached r.blocks sequence → IsWalk number last rs attached (n + 1) sequence rest
  walk_further sequence r rest walk (groups, read, is) = record {
    on = λ earlier final more.
        let all = walk.on (groups ∷ earlier) final (record {
          receivers = (read.spelled, read.stands, more.receivers);
          numbered = subst (λ (l : List Entry). AreNumbered (reached + 1) l) (sym (all_flat groups earlier final))
              (numbered-append (reached + 1) (sequence + 1) (flat groups) (flat (all_groups earlier final)) (omega (arith, is)) read.numbered more.numbered);
        }) in
        (all.0, all.1, omega (arith, is, all.2, ap length (all_flat groups earlier final), length-append (flat groups) (flat (all_groups earlier final))));
    back = λ all final more. let before = walk.back all final more in back_one n reached sequence r rest attached groups before.0 final read.spelled is before.1;
  }

  pub walk_fault : (r : Receiver) (rest : List Receiver) → IsWalk number last rs attached n reached (r ∷ rest) → HasNoRead (IsEnded n) reached r.blocks → HaveNoRead number last rs attached
  walk_fault r rest walk none = λ all final read. let before = walk.back all final read in no_one n reached r rest attached before.0 final none before.1

  pub walk_done : (sequence : ℕ) → IsWalk number last rs attached n reached [] → HasRead (IsAttached n) reached attached.blocks sequence → HaveRead number last rs attached sequence
  walk_done sequence walk (final, read, is) =
      let all = walk.on [] final (record { receivers = (read.spelled, read.stands); numbered = read.numbered }) in
      (all.0, final, all.1, omega (arith, is, all.2))

  pub walk_last_fault : IsWalk number last rs attached n reached [] → HasNoRead (IsAttached n) reached attached.blocks → HaveNoRead number last rs attached
  walk_last_fault walk none = λ all final read. let before = walk.back all final read in no_last n reached attached before.0 final none before.1

-- the kth receiver and those behind it
pub receivers_at : (rs : List Receiver) (attached : Receiver) (k : ℕ) → k < length rs → drop k rs ≡ get_or rs k attached ∷ drop (k + 1) rs
receivers_at rs attached k below = drop-cons rs k attached below ∙ ap (λ (m : ℕ). get_or rs k attached ∷ drop m rs) (suc-eq-add-one k)

-- ---- the book

-- how it stands behind what was read
goes_on : (begun : Bool) (number : ℕ) (final : List (List Entry)) (blocks : List (List ℕ)) → AreBlocks final blocks → IsAttached number final → (begun ≡ true → (number ≡ 1) ⊎ (0 < length blocks)) → (begun ≡ false → (number ≢ 1) × (length blocks ≡ 0)) → GoesOn begun number final []
goes_on true number final blocks are (inl has) begun_is bare_is = (has, tt)
goes_on true number [] [] are (inr empty) begun_is bare_is = elim (begun_is refl) [ inl one ↦ absurd (empty.0 one) | inr some ↦ absurd (omega (arith, some)) ]
goes_on true number [] (b ∷ blocks) are (inr empty) begun_is bare_is = absurd are
goes_on true number (g ∷ final) blocks are (inr empty) begun_is bare_is = absurd (omega (arith, ap length empty.1))
goes_on false number final blocks are (inr empty) begun_is bare_is = (empty.0, empty.1, tt)
goes_on false number [] blocks are (inl has) begun_is bare_is = elim has.1 [
  | inl first ↦ absurd ((bare_is refl).0 first.0)
  | inr later ↦ absurd (omega (arith, ap length later.1.2))
]
goes_on false number (g ∷ final) [] are (inl has) begun_is bare_is = absurd are
goes_on false number (g ∷ final) (b ∷ blocks) are (inl has) begun_is bare_is = absurd (omega (arith, (bare_is refl).1))

last_read : (number last : ℕ) (rs : List Receiver) (attached : Receiver) (all : List (List (List Entry))) (final : List (List Entry)) → AreReceivers number rs all attached final → AreBlocks final attached.blocks × IsAttached (number + length rs) final
last_read number last [] attached [] final are = (are.0, subst (λ (n : ℕ). IsAttached n final) (omega arith) are.1)
last_read number last [] attached (g ∷ all) final are = absurd are
last_read number last (r ∷ rs) attached [] final are = absurd are
last_read number last (r ∷ rs) attached (g ∷ all) final are = let more = last_read (number + 1) last rs attached all final are.2 in (more.0, subst (λ (n : ℕ). IsAttached n final) (omega arith) more.1)

module _ (chain : ChainState) (kept : Kept) (disk : Disk) (holds : Rattle.receiver_chain.specs.Chain.Holds chain kept disk) (before : ℕ) (first : first_sequence kept ≡ before + 1) where
  pub open_holds : (begun : Bool) (bytes sequence reached forced : ℕ) → HaveRead chain.first before kept.earlier kept.attached reached → sequence ≡ before + 1 → forced + before ≡ reached
      → (begun ≡ true → (attached_of chain ≡ 1) ⊎ (0 < length chain.attached.lengths)) → (begun ≡ false → (attached_of chain ≢ 1) × (length chain.attached.lengths ≡ 0))
      → (entries : List Entry) × Holds (record { chain = chain; first = sequence; forced = forced; waiting = 0; begun = begun; buffered = []; bytes = bytes }) entries disk
  open_holds begun bytes sequence reached forced (all, final, read, count) is many begun_is bare_is =
      let entries = flat (all_groups all final) in
      let last = last_read chain.first before kept.earlier kept.attached all final read.receivers in
      let number : chain.first + length kept.earlier ≡ attached_of chain = omega (arith, logs_length chain.first chain.earlier kept.earlier disk holds.leads.logs_of) in
      let sizes : length chain.attached.lengths ≡ length kept.attached.blocks = ap (λ (l : List ℕ). length l) holds.leads.log_of.settled.lengths ∙ length-map kept.attached.blocks (λ (b : List ℕ). length b) in (
        entries,
        record {
          kept = kept;
          chain = holds;
          keeps = record {
            front = entries;
            tail = [];
            on_disk = record {
              earlier = all;
              last = final;
              receivers = read.receivers;
              all = refl;
              numbered = subst (λ (n : ℕ). AreNumbered n entries) (sym first) read.numbered;
              counted = omega (arith, first);
            };
            goes_on = goes_on begun (attached_of chain) final kept.attached.blocks last.0 (subst (λ (n : ℕ). IsAttached n final) number last.1)
                (λ has. elim (begun_is has) [ inl one ↦ inl one | inr some ↦ inr (omega (arith, some, sizes)) ]) (λ bare. let none = bare_is bare in (none.0, omega (arith, none.1, sizes)));
            all = sym (append-nil entries);
            forced = omega (arith, count, many);
            waiting = refl;
            block = record { each = tt; whole = refl };
            numbered = subst (λ (n : ℕ). AreNumbered n entries) (sym is) read.numbered;
            first = is ∙ sym first;
          };
        },
      )

  -- the areas spell no entries where the receivers have none
  same_kept : (entries : List Entry) (areas : Areas) → ((area : ℕ) → areas area ≡ disk.seen area) → (spells : SpellEntries chain.first entries areas) → spells.kept ≡ kept
  same_kept entries areas same spells =
      one_chain chain.first spells.kept kept areas spells.chained (chained_same chain.first chain.room chain.earlier chain.attached kept disk holds areas (λ m from below. same _) (same _))

  pub open_none : (entries : List Entry) (areas : Areas) → ((area : ℕ) → areas area ≡ disk.seen area) → HaveNoRead chain.first before kept.earlier kept.attached → SpellEntries chain.first entries areas → ⊥
  open_none entries areas same none spells =
      let there : HoldsEntries chain.first kept entries = subst (λ (k : Kept). HoldsEntries chain.first k entries) (same_kept entries areas same spells) spells.holds in
      none there.earlier there.last (record {
        receivers = there.receivers;
        numbered = subst (λ (n : ℕ). AreNumbered n (flat (all_groups there.earlier there.last))) first (subst (λ (l : List Entry). AreNumbered (first_sequence kept) l) there.all there.numbered);
      })

-- nor where the first sequence is 0
pub open_zero : (chain : ChainState) (kept : Kept) (disk : Disk) → Rattle.receiver_chain.specs.Chain.Holds chain kept disk → first_sequence kept ≡ 0 → (entries : List Entry) (areas : Areas) → ((area : ℕ) → areas area ≡ disk.seen area) → SpellEntries chain.first entries areas → ⊥
open_zero chain kept disk holds zero entries areas same spells =
    let kept_is = one_chain chain.first spells.kept kept areas spells.chained (chained_same chain.first chain.room chain.earlier chain.attached kept disk holds areas (λ m from below. same _) (same _)) in
    let there : HoldsEntries chain.first kept entries = subst (λ (k : Kept). HoldsEntries chain.first k entries) kept_is spells.holds in
    omega (arith, zero, there.counted)
