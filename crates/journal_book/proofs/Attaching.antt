-- What the two entries by which one receiver ends and the next one begins make of a book.
use Rattle.std.proofs.Common.{◌≡◌, ◌≢◌, ◌⊎◌, inl, inr, ℕ, ◌+◌, ◌-◌, ◌≤◌, ◌<◌, Bool, true, false, List, [], ◌∷◌, ◌++◌, length, take, refl, sym, ◌∙◌, ap, subst, arith, append_assoc, length-append}
use Rattle.std.proofs.lemmas.List.{append-nil, take_all, take_at}
use Rattle.store_model.specs.Disk.{Areas, Disk, Leaves}
use Rattle.store_model.specs.Faults.{Rose}
use Rattle.store_model.proofs.Runs.{leaves_less, leaves_then}
use Rattle.entry_codec.specs.declared.entries.Entry.{Entry}
use Rattle.entry_codec.specs.declared.kinds.EntryKind.{EntryKind}
use Rattle.entry_codec.specs.declared.kinds.EntryKind.TheVariants.{NextReceiver, PreviousReceiver}
use Rattle.entry_codec.specs.Spelling.{IsSpelled, body, spelling}
use Rattle.entry_codec.proofs.FieldLemmas.{length-number4}
use Rattle.entry_codec.proofs.Lengths.{length-content, length-spelling}
use Rattle.receiver_chain.specs.Receivers.{AreChained, Kept, Receiver, deposited, switched, with_block}
use Rattle.receiver_chain.specs.declared.numbers.TheConstants.{MAX_RECEIVER}
use Rattle.receiver_chain.specs.Chain.{ChainState, IsSwitch, IsSwitching, attached_of}
use Rattle.receiver_chain.proofs.Chaining.{logs_length}
use Rattle.journal_model.specs.Journal.{AreNumbered}
use Rattle.journal_book.specs.Book.{BookState, GoesOn, Holds, Keeps, next_of}
use Rattle.journal_book.specs.Entries.{AreBlocks, AreReceivers, HasBegun, HoldsEntries, IsAttached, IsBlock, IsEnded, all_groups, first_sequence, flat}
use Rattle.journal_book.specs.Kept.{IsForcedOrFrom, IsKept, SpellEntries}
use Rattle.journal_book.specs.Switch.{AreTieBlocks, AreTies}
use Rattle.journal_book.proofs.Deposits.{keeps_same, numbered-push}
use Rattle.journal_book.proofs.Forcing.{begins-push, blocks-push, flat-append}

-- ---- lists

ended_by : (number : ℕ) (last : List (List Entry)) (e : Entry) → HasBegun number last → e.kind ≡ NextReceiver (number + 1) → IsEnded number (last ++ (e ∷ []) ∷ [])
ended_by number last e begun names = (begun.0, e, begins-push number last begun.0 (e ∷ []) begun.1, begun.2, names)

-- the attached receiver is ended, and the next one stands behind it
receivers_end : (n k : ℕ) (rs : List Receiver) (earlier : List (List (List Entry))) (r next : Receiver) (last groups : List (List Entry)) (e : Entry) (block : List ℕ) → k ≡ n + length rs → AreReceivers n rs earlier r last → HasBegun k last
    → IsBlock (e ∷ []) block → e.kind ≡ NextReceiver (k + 1) → AreBlocks groups next.blocks → IsAttached (k + 1) groups → AreReceivers n (rs ++ with_block block r ∷ []) (earlier ++ (last ++ (e ∷ []) ∷ []) ∷ []) next groups
receivers_end n k [] [] r next last groups e block is are begun whole names blocks attached = (
  blocks-push last r.blocks (e ∷ []) block are.0 whole,
  subst (λ (m : ℕ). IsEnded m (last ++ (e ∷ []) ∷ [])) (omega (arith, is)) (ended_by k last e begun names),
  (blocks, subst (λ (m : ℕ). IsAttached m groups) (omega (arith, is)) attached),
)
receivers_end n k [] (g ∷ earlier) r next last groups e block is are begun whole names blocks attached = absurd are
receivers_end n k (x ∷ rs) [] r next last groups e block is are begun whole names blocks attached = absurd are
receivers_end n k (x ∷ rs) (g ∷ earlier) r next last groups e block is are begun whole names blocks attached =
    (are.0, are.1, receivers_end (n + 1) k rs earlier r next last groups e block (omega (arith, is)) are.2 begun whole names blocks attached)

groups_end : (earlier : List (List (List Entry))) (last groups : List (List Entry)) (e : Entry) → flat (all_groups (earlier ++ (last ++ (e ∷ []) ∷ []) ∷ []) groups) ≡ flat (all_groups earlier last) ++ e ∷ flat groups
groups_end [] last groups e =
    flat-append (last ++ (e ∷ []) ∷ []) groups ∙ ap (λ (l : List Entry). l ++ flat groups) (flat-append last ((e ∷ []) ∷ [])) ∙ append_assoc (flat last) (e ∷ []) (flat groups)
groups_end (g ∷ earlier) last groups e =
    flat-append g (all_groups (earlier ++ (last ++ (e ∷ []) ∷ []) ∷ []) groups) ∙ ap (λ (l : List Entry). flat g ++ l) (groups_end earlier last groups e)
    ∙ sym (append_assoc (flat g) (flat (all_groups earlier last)) (e ∷ flat groups)) ∙ ap (λ (l : List Entry). l ++ e ∷ flat groups) (sym (flat-append g (all_groups earlier last)))

first_end : (rs : List Receiver) (r next other : Receiver) (block : List ℕ) → first_sequence (record { earlier = rs ++ with_block block r ∷ []; attached = next }) ≡ first_sequence (record { earlier = rs; attached = r })
first_end [] r next other block = refl
first_end (x ∷ rs) r next other block = refl

one_block_of : (e : Entry) → IsSpelled e → IsBlock (e ∷ []) (spelling e)
one_block_of e has = record { each = (has, tt); whole = sym (append-nil (spelling e)) }

no_tail : (tail : List Entry) → 0 ≡ length tail → tail ≡ []
no_tail [] none = refl
no_tail (e ∷ tail) none = absurd (omega (arith, none))

has_begun : (begun : Bool) (number : ℕ) (last : List (List Entry)) (tail : List Entry) → begun ≡ true → GoesOn begun number last tail → HasBegun number last
has_begun true number last tail is goes = goes.0
has_begun false number last tail is goes = absurd (Rattle.std.proofs.lemmas.Bool.false≢true is)

-- ---- the two entries

module _ (book : BookState) (kept : Kept) (entries : List Entry) (keeps : Keeps book kept entries) (none : book.waiting ≡ 0) (begun : book.begun ≡ true) (number : attached_of book.chain ≡ book.chain.first + length kept.earlier) (least : 1 ≤ book.chain.first) (nr pr : Entry) (ties : AreTies book nr pr) where
  tail_is : keeps.tail ≡ []
  tail_is = no_tail keeps.tail (sym none ∙ keeps.waiting)

  all_front : entries ≡ keeps.front
  all_front = keeps.all ∙ ap (λ (l : List Entry). keeps.front ++ l) tail_is ∙ append-nil keeps.front

  count : length entries ≡ book.forced
  count = ap length all_front ∙ sym keeps.forced

  has : HasBegun (attached_of book.chain) keeps.on_disk.last
  has = has_begun book.begun (attached_of book.chain) keeps.on_disk.last keeps.tail begun keeps.goes_on

  later : attached_of book.chain + 1 ≢ 1
  later is = omega (arith, is, least)

  front_flat : entries ≡ flat (all_groups keeps.on_disk.earlier keeps.on_disk.last)
  front_flat = all_front ∙ keeps.on_disk.all

  ended_numbered : AreNumbered book.first (entries ++ nr ∷ [])
  ended_numbered = numbered-push book.first entries nr keeps.numbered (omega (arith, ties.nr_sequence, count, none))

  -- the receiver is ended, and the next one is empty
  ended : HoldsEntries book.chain.first (switched (spelling nr) (next_of book + 1) kept) (entries ++ nr ∷ [])
  ended =
      let on = keeps.on_disk in
      let same = first_end kept.earlier kept.attached (switched (spelling nr) (next_of book + 1) kept).attached kept.attached (spelling nr) in
      record {
        earlier = on.earlier ++ (on.last ++ (nr ∷ []) ∷ []) ∷ [];
        last = [];
        receivers = receivers_end book.chain.first (attached_of book.chain) kept.earlier on.earlier kept.attached (switched (spelling nr) (next_of book + 1) kept).attached on.last [] nr (spelling nr) number on.receivers has (one_block_of nr ties.nr_spelled) ties.ends tt (inr (later, refl));
        all = ap (λ (l : List Entry). l ++ nr ∷ []) front_flat ∙ sym (groups_end on.earlier on.last [] nr);
        numbered = subst (λ (n : ℕ). AreNumbered n (entries ++ nr ∷ [])) (keeps.first ∙ sym same) ended_numbered;
        counted = omega (arith, same, on.counted);
      }

  -- and with its first entry
  begins_by : pr.kind ≡ PreviousReceiver (attached_of book.chain + 1 - 1)
  begins_by = ties.begins ∙ ap PreviousReceiver (omega arith)

  begun_next : HasBegun (attached_of book.chain + 1) ((pr ∷ []) ∷ [])
  begun_next = ([], inr (later, (pr, begins_by, refl)), tt)

  begun_numbered : AreNumbered book.first (entries ++ nr ∷ pr ∷ [])
  begun_numbered = subst (λ (l : List Entry). AreNumbered book.first l) (append_assoc entries (nr ∷ []) (pr ∷ []))
      (numbered-push book.first (entries ++ nr ∷ []) pr ended_numbered (omega (arith, ties.pr_sequence, count, none, length-append entries (nr ∷ []))))

  attached : HoldsEntries book.chain.first (deposited (spelling pr) (switched (spelling nr) (next_of book + 1) kept)) (entries ++ nr ∷ pr ∷ [])
  attached =
      let on = keeps.on_disk in
      let next = (deposited (spelling pr) (switched (spelling nr) (next_of book + 1) kept)).attached in
      let same = first_end kept.earlier kept.attached next kept.attached (spelling nr) in
      record {
        earlier = on.earlier ++ (on.last ++ (nr ∷ []) ∷ []) ∷ [];
        last = (pr ∷ []) ∷ [];
        receivers = receivers_end book.chain.first (attached_of book.chain) kept.earlier on.earlier kept.attached next on.last ((pr ∷ []) ∷ []) nr (spelling nr) number on.receivers has (one_block_of nr ties.nr_spelled) ties.ends (one_block_of pr ties.pr_spelled, tt) (inl begun_next);
        all = ap (λ (l : List Entry). l ++ nr ∷ pr ∷ []) front_flat ∙ sym (groups_end on.earlier on.last ((pr ∷ []) ∷ []) nr);
        numbered = subst (λ (n : ℕ). AreNumbered n (entries ++ nr ∷ pr ∷ [])) (keeps.first ∙ sym same) begun_numbered;
        counted = omega (arith, same, on.counted);
      }

  two : length (entries ++ nr ∷ pr ∷ []) ≡ length entries + 2
  two = length-append entries (nr ∷ pr ∷ [])

  -- at every moment of the switch a stop leaves a front, which may end between the two
  switch_kept : (c : Areas) → IsSwitching book.chain.first kept (next_of book) (spelling nr) (spelling pr) c → IsKept book.chain.first book.forced (entries ++ nr ∷ pr ∷ []) c
  switch_kept c (inl chained) = record {
    count = length entries;
    at_least = omega (arith, count);
    at_most = omega (arith, two);
    spells = record {
      kept = kept;
      chained = chained;
      holds = subst (λ (l : List Entry). HoldsEntries book.chain.first kept l) (sym (take_at entries (nr ∷ pr ∷ []) (length entries) refl ∙ all_front)) keeps.on_disk;
    };
  }
  switch_kept c (inr (inl tied)) = record {
    count = length entries + 1;
    at_least = omega (arith, count);
    at_most = omega (arith, two);
    spells = record {
      kept = switched (spelling nr) (next_of book + 1) kept;
      chained = tied;
      holds = subst (λ (l : List Entry). HoldsEntries book.chain.first (switched (spelling nr) (next_of book + 1) kept) l)
          (sym (ap (λ (l : List Entry). take (length entries + 1) l) (sym (append_assoc entries (nr ∷ []) (pr ∷ []))) ∙ take_at (entries ++ nr ∷ []) (pr ∷ []) (length entries + 1) (length-append entries (nr ∷ [])))) ended;
    };
  }
  switch_kept c (inr (inr whole)) = record {
    count = length (entries ++ nr ∷ pr ∷ []);
    at_least = omega (arith, count, two);
    at_most = omega arith;
    spells = record {
      kept = deposited (spelling pr) (switched (spelling nr) (next_of book + 1) kept);
      chained = whole;
      holds = subst (λ (l : List Entry). HoldsEntries book.chain.first (deposited (spelling pr) (switched (spelling nr) (next_of book + 1) kept)) l) (sym (take_all (length (entries ++ nr ∷ pr ∷ [])) (entries ++ nr ∷ pr ∷ []) (omega arith))) attached;
    };
  }

  -- and once it is done
  pub switch_keeps : (chain : ChainState) → chain.first ≡ book.chain.first → attached_of chain ≡ attached_of book.chain + 1
      → Keeps (record book { chain = chain; forced = book.forced + 2 }) (deposited (spelling pr) (switched (spelling nr) (next_of book + 1) kept)) (entries ++ nr ∷ pr ∷ [])
  unfolding attached
  switch_keeps chain first next = record {
    front = entries ++ nr ∷ pr ∷ [];
    tail = [];
    on_disk = record {
      earlier = attached.earlier;
      last = (pr ∷ []) ∷ [];
      receivers = subst (λ (f : ℕ). AreReceivers f (switched (spelling nr) (next_of book + 1) kept).earlier attached.earlier (deposited (spelling pr) (switched (spelling nr) (next_of book + 1) kept)).attached ((pr ∷ []) ∷ [])) (sym first) attached.receivers;
      all = attached.all;
      numbered = attached.numbered;
      counted = attached.counted;
    };
    goes_on = subst (λ (b : Bool). GoesOn b (attached_of chain) ((pr ∷ []) ∷ []) []) (sym begun) (subst (λ (n : ℕ). HasBegun n ((pr ∷ []) ∷ [])) (sym next) begun_next, tt);
    all = sym (append-nil (entries ++ nr ∷ pr ∷ []));
    forced = omega (arith, two, count);
    waiting = none;
    block = subst (λ (l : List Entry). IsBlock l book.buffered) tail_is keeps.block;
    numbered = begun_numbered;
    first = keeps.first ∙ sym (first_end kept.earlier kept.attached (deposited (spelling pr) (switched (spelling nr) (next_of book + 1) kept)).attached kept.attached (spelling nr));
  }

  pub switch_moment : (old new : Disk) → Leaves old new (IsSwitching book.chain.first kept (next_of book) (spelling nr) (spelling pr)) → Leaves old new (IsKept book.chain.first book.forced (entries ++ nr ∷ pr ∷ []))
  switch_moment old new leaves = leaves_less old new (IsSwitching book.chain.first kept (next_of book) (spelling nr) (spelling pr)) (IsKept book.chain.first book.forced (entries ++ nr ∷ pr ∷ [])) leaves switch_kept

-- fewer were forced, and more entries follow
pub kept_more : (receiver fewest forced : ℕ) (entries more : List Entry) (c : Areas) → fewest ≤ forced → IsKept receiver forced entries c → IsKept receiver fewest (entries ++ more) c
kept_more receiver fewest forced entries more c less kept = record {
  count = kept.count;
  at_least = omega (arith, less, kept.at_least);
  at_most = omega (arith, kept.at_most, length-append entries more);
  spells = subst (λ (l : List Entry). SpellEntries receiver l c) (sym (Rattle.std.proofs.lemmas.List.take-append-le kept.count entries more kept.at_most)) kept.spells;
}

-- the entries of a call that goes no further
pub leaves_more : (receiver fewest forced : ℕ) (entries more : List Entry) (old new : Disk) → fewest ≤ forced → Leaves old new (IsKept receiver forced entries) → Leaves old new (IsKept receiver fewest (entries ++ more))
leaves_more receiver fewest forced entries more old new less leaves =
    leaves_less old new (IsKept receiver forced entries) (IsKept receiver fewest (entries ++ more)) leaves (λ c kept. kept_more receiver fewest forced entries more c less kept)

-- where fewer were forced
pub leaves_fewer : (receiver fewest forced : ℕ) (entries : List Entry) (old new : Disk) → fewest ≤ forced → Leaves old new (IsKept receiver forced entries) → Leaves old new (IsKept receiver fewest entries)
leaves_fewer receiver fewest forced entries old new less leaves =
    leaves_less old new (IsKept receiver forced entries) (IsKept receiver fewest entries) leaves
    (λ c kept. record { count = kept.count; at_least = omega (arith, less, kept.at_least); at_most = kept.at_most; spells = kept.spells })

-- all are forced, and then the two follow
pub switch_moments : (old middle : BookState) (entries more : List Entry) (a b c : Disk) → middle.chain.first ≡ old.chain.first → middle.forced ≡ old.forced + old.waiting → Leaves a b (IsKept old.chain.first old.forced entries)
    → Leaves b c (IsKept middle.chain.first middle.forced (entries ++ more)) → Leaves a c (IsKept old.chain.first old.forced (entries ++ more))
switch_moments old middle entries more a b c first all forces attaches =
    leaves_then a b c (IsKept old.chain.first old.forced (entries ++ more)) (leaves_more old.chain.first old.forced old.forced entries more a b (omega arith) forces)
    (leaves_fewer old.chain.first old.forced middle.forced (entries ++ more) b c (omega (arith, all)) (subst (λ (n : ℕ). Leaves b c (IsKept n middle.forced (entries ++ more))) first attaches))

-- exactly, where more entries follow
exactly_more : (receiver forced whole : ℕ) (entries more : List Entry) (c : Areas) → IsForcedOrFrom receiver forced whole entries c → IsForcedOrFrom receiver forced whole (entries ++ more) c
exactly_more receiver forced whole entries more c kept = record {
  count = kept.count;
  which = kept.which;
  at_most = omega (arith, kept.at_most, length-append entries more);
  spells = subst (λ (l : List Entry). SpellEntries receiver l c) (sym (Rattle.std.proofs.lemmas.List.take-append-le kept.count entries more kept.at_most)) kept.spells;
}

pub leaves_exactly_more : (receiver forced whole : ℕ) (entries more : List Entry) (old new : Disk) → Leaves old new (IsForcedOrFrom receiver forced whole entries) → Leaves old new (IsForcedOrFrom receiver forced whole (entries ++ more))
leaves_exactly_more receiver forced whole entries more old new leaves =
    leaves_less old new (IsForcedOrFrom receiver forced whole entries) (IsForcedOrFrom receiver forced whole (entries ++ more)) leaves (λ c kept. exactly_more receiver forced whole entries more c kept)

-- all are forced, and then the two follow one after the other
pub switch_exactly : (old middle : BookState) (entries more : List Entry) (a b c : Disk) → middle.chain.first ≡ old.chain.first → middle.forced ≡ length entries → Leaves a b (IsForcedOrFrom old.chain.first old.forced (length entries) entries)
    → Leaves b c (IsKept middle.chain.first middle.forced (entries ++ more)) → Leaves a c (IsForcedOrFrom old.chain.first old.forced (length entries) (entries ++ more))
switch_exactly old middle entries more a b c first all forces attaches =
    leaves_then a b c (IsForcedOrFrom old.chain.first old.forced (length entries) (entries ++ more)) (leaves_exactly_more old.chain.first old.forced (length entries) entries more a b forces)
    (leaves_less b c (IsKept old.chain.first middle.forced (entries ++ more)) (IsForcedOrFrom old.chain.first old.forced (length entries) (entries ++ more))
    (subst (λ (n : ℕ). Leaves b c (IsKept n middle.forced (entries ++ more))) first attaches)
    (λ areas kept. record { count = kept.count; which = inr (omega (arith, all, kept.at_least)); at_most = kept.at_most; spells = kept.spells }))

-- where memory is wanting for the next receiver, a stop leaves all entries, which are forced
pub attach_unswitched : (book : BookState) (entries : List Entry) (disk : Disk) (holds : Holds book entries disk) → book.waiting ≡ 0 → (new : Disk) → Leaves disk new (AreChained book.chain.first holds.kept)
    → Leaves disk new (SpellEntries book.chain.first entries)
attach_unswitched book entries disk holds none new leaves =
    leaves_less disk new (AreChained book.chain.first holds.kept) (SpellEntries book.chain.first entries) leaves
    (λ c chained. record { kept = holds.kept; chained = chained; holds = subst (λ (l : List Entry). HoldsEntries book.chain.first holds.kept l) (sym whole) holds.keeps.on_disk })
  where
    whole : entries ≡ holds.keeps.front
    whole =
        holds.keeps.all ∙ ap (λ (l : List Entry). holds.keeps.front ++ l) (no_tail holds.keeps.tail (sym none ∙ holds.keeps.waiting)) ∙ append-nil holds.keeps.front

pub switch_unswitched : (old middle : BookState) (entries : List Entry) (a b c : Disk) → middle.chain.first ≡ old.chain.first → Leaves a b (IsForcedOrFrom old.chain.first old.forced (length entries) entries)
    → Leaves b c (SpellEntries middle.chain.first entries) → Leaves a c (IsForcedOrFrom old.chain.first old.forced (length entries) entries)
switch_unswitched old middle entries a b c first forces wants =
    leaves_then a b c (IsForcedOrFrom old.chain.first old.forced (length entries) entries) forces
    (leaves_less b c (SpellEntries middle.chain.first entries) (IsForcedOrFrom old.chain.first old.forced (length entries) entries) wants
    (λ areas spells. record {
      count = length entries;
      which = inr (omega arith);
      at_most = omega arith;
      spells =
          subst (λ (n : ℕ). SpellEntries n (take (length entries) entries) areas) first
          (subst (λ (l : List Entry). SpellEntries middle.chain.first l areas) (sym (take_all (length entries) entries (omega arith))) spells);
    }))

-- a count that rises after it stood or rose
pub rose_after : (a b c : ℕ) → a ≤ b → Rose b c → Rose a c
rose_after a b c upto rose = omega (arith, upto, rose)

-- ---- the blocks of the two

abbrev pub switch_of : (book : BookState) (nr pr : Entry) (ending beginning : List ℕ) → AreTieBlocks book nr pr ending beginning → attached_of book.chain + 1 ≤ MAX_RECEIVER → IsSwitch (attached_of book.chain) ending beginning
switch_of book nr pr ending beginning blocks made = record {
  before = next_of book;
  ending = spelling nr;
  beginning = spelling pr;
  link = record { entry = nr; spelled = blocks.ties.nr_spelled; names = blocks.ties.ends; sequence = blocks.ties.nr_sequence; whole = refl; made = made };
  start = record { entry = pr; spelled = blocks.ties.pr_spelled; names = blocks.ties.begins; sequence = blocks.ties.pr_sequence; whole = refl };
  framed_ending = blocks.framed_ending;
  framed_beginning = blocks.framed_beginning;
}

-- all are forced, and nothing waits
pub ties_forced : (old new : BookState) (nr pr : Entry) → new.forced ≡ old.forced + old.waiting → new.waiting ≡ 0 → new.first ≡ old.first → attached_of new.chain ≡ attached_of old.chain → IsSpelled nr → IsSpelled pr
    → nr.kind ≡ NextReceiver (attached_of old.chain + 1) → pr.kind ≡ PreviousReceiver (attached_of old.chain) → nr.sequence ≡ next_of old → pr.sequence ≡ next_of old + 1 → AreTies new nr pr
ties_forced old new nr pr all none first number nr_spelled pr_spelled ends begins nr_sequence pr_sequence = record {
  nr_spelled = nr_spelled;
  pr_spelled = pr_spelled;
  ends = ends ∙ ap (λ (n : ℕ). NextReceiver (n + 1)) (sym number);
  begins = begins ∙ ap PreviousReceiver (sym number);
  nr_sequence = omega (arith, nr_sequence, all, none, first);
  pr_sequence = omega (arith, pr_sequence, all, none, first);
}

-- ---- the book on its disk

module _ (book : BookState) (entries : List Entry) (disk : Disk) (holds : Holds book entries disk) (least : 1 ≤ book.chain.first) where
  number_of : attached_of book.chain ≡ book.chain.first + length holds.kept.earlier
  number_of = omega (arith, logs_length book.chain.first book.chain.earlier holds.kept.earlier disk holds.chain.leads.logs_of)

  -- the next receiver was not attached
  pub attach_none : (new : Disk) (chain : ChainState) → chain.first ≡ book.chain.first → attached_of chain ≡ attached_of book.chain → Rattle.receiver_chain.specs.Chain.Holds chain holds.kept new → Holds (record book { chain = chain }) entries new
  attach_none new chain first number same = record {
    kept = holds.kept;
    chain = same;
    keeps = keeps_same book (record book { chain = chain }) holds.kept entries first number refl refl refl refl refl holds.keeps;
  }

  module _ (none : book.waiting ≡ 0) (begun : book.begun ≡ true) (nr pr : Entry) (ties : AreTies book nr pr) where
    pub attach_moment : (new : Disk) → Leaves disk new (IsSwitching book.chain.first holds.kept (next_of book) (spelling nr) (spelling pr)) → Leaves disk new (IsKept book.chain.first book.forced (entries ++ nr ∷ pr ∷ []))
    attach_moment new leaves = switch_moment book holds.kept entries holds.keeps none begun number_of least nr pr ties disk new leaves

    pub attach_holds : (new : Disk) (chain : ChainState) → chain.first ≡ book.chain.first → attached_of chain ≡ attached_of book.chain + 1
        → Rattle.receiver_chain.specs.Chain.Holds chain (deposited (spelling pr) (switched (spelling nr) (next_of book + 1) holds.kept)) new → Holds (record book { chain = chain; forced = book.forced + 2 }) (entries ++ nr ∷ pr ∷ []) new
    attach_holds new chain first next whole = record {
      kept = deposited (spelling pr) (switched (spelling nr) (next_of book + 1) holds.kept);
      chain = whole;
      keeps = switch_keeps book holds.kept entries holds.keeps none begun number_of least nr pr ties chain first next;
    }

-- the two entries are short
pub tie_length : (e : Entry) (number : ℕ) → (e.kind ≡ NextReceiver number) ⊎ (e.kind ≡ PreviousReceiver number) → length (spelling e) ≤ 64
tie_length e number (inl names) = omega (arith, length-spelling e, length-content e, ap (λ (k : EntryKind). length (body k)) names, length-number4 number)
tie_length e number (inr names) = omega (arith, length-spelling e, length-content e, ap (λ (k : EntryKind). length (body k)) names, length-number4 number)
