-- What a stop may leave of a book, and what forcing its block makes of it: for the book's own calls.
use Rattle.std.proofs.Common.{◌≡◌, inl, inr, ℕ, ◌+◌, Bool, true, false, List, [], ◌∷◌, ◌++◌, length, take, refl, sym, ◌∙◌, ap, subst, arith, append_assoc, length-append, drop, length-take, take-append-drop, ◌<◌, ◌≤◌}
use Rattle.std.specs.List.{AllByRecursion}
use Rattle.std.proofs.lemmas.List.{append-nil, take_at, take_all, drop_all, length-take-le}
use Rattle.store_model.specs.Disk.{Areas, Disk, May, Leaves}
use Rattle.store_model.proofs.Runs.{leaves_less, leaves_stays}
use Rattle.entry_codec.specs.declared.entries.Entry.{Entry}
use Rattle.receiver_chain.specs.Receivers.{Receiver, Kept, AreChained, deposited, with_block}
use Rattle.receiver_chain.specs.Chain.{ChainState, IsWithOrWithout, attached_of}
use Rattle.receiver_chain.proofs.Chaining.{logs_length}
use Rattle.receiver_chain.proofs.Switches.{chained_left, stays_here}
use Rattle.journal_model.specs.Journal.{AreNumbered}
use Rattle.byteorder.specs.Endian.{big_bytes}
use Rattle.gated_log.specs.Blocks.{between, block_bytes, frame}
use Rattle.gated_log.proofs.Numbers.{between_is}
use Rattle.journal_book.specs.Book.{BookState, GoesOn, Holds, Keeps}
use Rattle.journal_book.specs.Entries.{IsBlock, IsInside, AreInside, AreBlocks, BeginsWith, AreReceivers, HasBegun, HoldsEntries, all_groups, first_sequence, flat}
use Rattle.journal_book.specs.Kept.{IsForcedOrFrom, IsKept, SpellEntries}

-- ---- lists

pub blocks-push : (groups : List (List Entry)) (blocks : List (List ℕ)) (entries : List Entry) (block : List ℕ) → AreBlocks groups blocks → IsBlock entries block → AreBlocks (groups ++ entries ∷ []) (blocks ++ block ∷ [])
blocks-push [] [] entries block are is = (is, tt)
blocks-push [] (b ∷ blocks) entries block are is = absurd are
blocks-push (g ∷ groups) [] entries block are is = absurd are
blocks-push (g ∷ groups) (b ∷ blocks) entries block are is = (are.0, blocks-push groups blocks entries block are.1 is)

pub inside-push : (groups : List (List Entry)) (entries : List Entry) → AreInside groups → AllByRecursion IsInside entries → AreInside (groups ++ entries ∷ [])
inside-push [] entries are inside = (inside, tt)
inside-push (g ∷ groups) entries are inside = (are.0, inside-push groups entries are.1 inside)

pub begins-push : (number : ℕ) (groups rest : List (List Entry)) (entries : List Entry) → BeginsWith number groups rest → BeginsWith number (groups ++ entries ∷ []) (rest ++ entries ∷ [])
begins-push number groups rest entries (inl (one, same)) = inl (one, ap (λ (g : List (List Entry)). g ++ entries ∷ []) same)
begins-push number groups rest entries (inr (more, (e, names, same))) = inr (more, (e, names, ap (λ (g : List (List Entry)). g ++ entries ∷ []) same))

pub flat-append : (groups more : List (List Entry)) → flat (groups ++ more) ≡ flat groups ++ flat more
flat-append [] more = refl
flat-append (g ∷ groups) more = ap (λ (l : List Entry). g ++ l) (flat-append groups more) ∙ sym (append_assoc g (flat groups) (flat more))

groups-push : (earlier : List (List (List Entry))) (last : List (List Entry)) (entries : List Entry) → flat (all_groups earlier (last ++ entries ∷ [])) ≡ flat (all_groups earlier last) ++ entries
groups-push [] last entries = flat-append last (entries ∷ []) ∙ ap (λ (l : List Entry). flat last ++ l) (append-nil entries)
groups-push (g ∷ earlier) last entries =
    flat-append g (all_groups earlier (last ++ entries ∷ [])) ∙ ap (λ (l : List Entry). flat g ++ l) (groups-push earlier last entries)
    ∙ sym (append_assoc (flat g) (flat (all_groups earlier last)) entries) ∙ ap (λ (l : List Entry). l ++ entries) (sym (flat-append g (all_groups earlier last)))

-- one block more in the attached receiver
receivers-push : (n k : ℕ) (rs : List Receiver) (earlier : List (List (List Entry))) (r : Receiver) (last : List (List Entry)) (entries : List Entry) (block : List ℕ) → k ≡ n + length rs → AreReceivers n rs earlier r last → IsBlock entries block
    → HasBegun k (last ++ entries ∷ []) → AreReceivers n rs earlier (with_block block r) (last ++ entries ∷ [])
receivers-push n k [] [] r last entries block is are whole begun = (
  blocks-push last r.blocks entries block are.0 whole,
  inl (subst (λ (j : ℕ). HasBegun j (last ++ entries ∷ [])) (omega (arith, is)) begun),
)
receivers-push n k [] (g ∷ earlier) r last entries block is are whole begun = absurd are
receivers-push n k (x ∷ rs) [] r last entries block is are whole begun = absurd are
receivers-push n k (x ∷ rs) (g ∷ earlier) r last entries block is are whole begun = (are.0, are.1, receivers-push (n + 1) k rs earlier r last entries block (omega (arith, is)) are.2 whole begun)

-- what the buffered block makes of it
has_begun : (begun : Bool) (number : ℕ) (last : List (List Entry)) (tail : List Entry) → GoesOn begun number last tail → 0 < length tail → HasBegun number (last ++ tail ∷ [])
has_begun true number last tail goes some = (goes.0.0 ++ tail ∷ [], begins-push number last goes.0.0 tail goes.0.1, inside-push goes.0.0 tail goes.0.2 goes.1)
has_begun false number last [] goes some = absurd (omega (arith, some))
has_begun false number last (e ∷ []) goes some = subst (λ (l : List (List Entry)). HasBegun number (l ++ (e ∷ []) ∷ [])) (sym goes.1) ([], inr (goes.0, (e, goes.2, refl)), tt)
has_begun false number last (e ∷ f ∷ more) goes some = absurd goes.2

first_same : (rs : List Receiver) (r : Receiver) (block : List ℕ) → first_sequence (record { earlier = rs; attached = with_block block r }) ≡ first_sequence (record { earlier = rs; attached = r })
first_same [] r block = refl
first_same (x ∷ rs) r block = refl

-- ---- the book

-- the entries on the disk are a front
on_disk_front : (book : BookState) (kept : Kept) (entries : List Entry) (keeps : Keeps book kept entries) → HoldsEntries book.chain.first kept (take (length keeps.front) entries)
on_disk_front book kept entries keeps =
    subst (λ (l : List Entry). HoldsEntries book.chain.first kept l) (sym (ap (λ (l : List Entry). take (length keeps.front) l) keeps.all ∙ take_at keeps.front keeps.tail (length keeps.front) refl)) keeps.on_disk

module _ (book : BookState) (entries : List Entry) (disk : Disk) (holds : Holds book entries disk) where
  -- the areas spell that front
  front_kept : (c : Areas) → AreChained book.chain.first holds.kept c → IsKept book.chain.first book.forced entries c
  front_kept c chained = record {
    count = length holds.keeps.front;
    at_least = omega (arith, holds.keeps.forced);
    at_most = omega (arith, ap length holds.keeps.all, length-append holds.keeps.front holds.keeps.tail);
    spells = record { kept = holds.kept; chained = chained; holds = on_disk_front book holds.kept entries holds.keeps };
  }

  front_spelled : (c : Areas) → AreChained book.chain.first holds.kept c → SpellEntries book.chain.first (take book.forced entries) c
  front_spelled c chained = record {
    kept = holds.kept;
    chained = chained;
    holds = subst (λ (n : ℕ). HoldsEntries book.chain.first holds.kept (take n entries)) (sym holds.keeps.forced) (on_disk_front book holds.kept entries holds.keeps);
  }

  front_before : (c : Areas) → AreChained book.chain.first holds.kept c → IsForcedOrFrom book.chain.first book.forced (length entries) entries c
  front_before c chained = record {
    count = book.forced;
    which = inl refl;
    at_most = omega (arith, holds.keeps.forced, ap length holds.keeps.all, length-append holds.keeps.front holds.keeps.tail);
    spells = front_spelled c chained;
  }

  -- a stop leaves exactly those that were forced
  pub forced_left : (c : Areas) → May disk c → SpellEntries book.chain.first (take book.forced entries) c
  forced_left c may = front_spelled c (chained_left book.chain.first book.chain.room book.chain.earlier book.chain.attached holds.kept disk holds.chain c may)

  -- also where nothing is done
  pub none_exactly : Leaves disk disk (IsForcedOrFrom book.chain.first book.forced (length entries) entries)
  none_exactly =
      leaves_stays disk disk (IsForcedOrFrom book.chain.first book.forced (length entries) entries) (stays_here disk)
      (λ c may. front_before c (chained_left book.chain.first book.chain.room book.chain.earlier book.chain.attached holds.kept disk holds.chain c may))

  -- all are forced or wait
  pub all_counted : book.forced + book.waiting ≡ length entries
  all_counted = omega (arith, holds.keeps.forced, holds.keeps.waiting, ap length holds.keeps.all, length-append holds.keeps.front holds.keeps.tail)

  -- a stop leaves a front, with all that was forced
  pub book_left : (c : Areas) → May disk c → IsKept book.chain.first book.forced entries c
  book_left c may = front_kept c (chained_left book.chain.first book.chain.room book.chain.earlier book.chain.attached holds.kept disk holds.chain c may)

  -- also where nothing is done
  pub none_moment : Leaves disk disk (IsKept book.chain.first book.forced entries)
  none_moment = leaves_stays disk disk (IsKept book.chain.first book.forced entries) (stays_here disk) book_left

  module _ (some : 0 < book.waiting) where
    with_all : HoldsEntries book.chain.first (deposited book.buffered holds.kept) entries
    with_all =
        let keeps = holds.keeps in
        let on = keeps.on_disk in
        let count : attached_of book.chain ≡ book.chain.first + length holds.kept.earlier = omega (arith, logs_length book.chain.first book.chain.earlier holds.kept.earlier disk holds.chain.leads.logs_of) in
        let same = first_same holds.kept.earlier holds.kept.attached book.buffered in
        record {
          earlier = on.earlier;
          last = on.last ++ keeps.tail ∷ [];
          receivers = receivers-push book.chain.first (attached_of book.chain) holds.kept.earlier on.earlier holds.kept.attached on.last keeps.tail book.buffered count on.receivers keeps.block
              (has_begun book.begun (attached_of book.chain) on.last keeps.tail keeps.goes_on (omega (arith, some, keeps.waiting)));
          all = keeps.all ∙ ap (λ (l : List Entry). l ++ keeps.tail) on.all ∙ sym (groups-push on.earlier on.last keeps.tail);
          numbered = subst (λ (n : ℕ). AreNumbered n entries) (keeps.first ∙ sym same) keeps.numbered;
          counted = omega (arith, same, on.counted);
        }

    -- at every moment while the buffered block is deposited
    pub force_moment : (new : Disk) → Leaves disk new (IsWithOrWithout book.chain.first holds.kept book.buffered) → Leaves disk new (IsKept book.chain.first book.forced entries)
    force_moment new leaves =
        leaves_less disk new (IsWithOrWithout book.chain.first holds.kept book.buffered) (IsKept book.chain.first book.forced entries) leaves
        (λ c some. elim some [
          | inl without ↦ front_kept c without
          | inr whole ↦ record {
            count = length entries;
            at_least = omega (arith, holds.keeps.forced, ap length holds.keeps.all, length-append holds.keeps.front holds.keeps.tail);
            at_most = omega arith;
            spells = record {
              kept = deposited book.buffered holds.kept;
              chained = whole;
              holds = subst (λ (l : List Entry). HoldsEntries book.chain.first (deposited book.buffered holds.kept) l) (sym (take_all (length entries) entries (omega arith))) with_all;
            };
          }
        ])

    -- and exactly
    pub force_exactly : (new : Disk) → Leaves disk new (IsWithOrWithout book.chain.first holds.kept book.buffered) → Leaves disk new (IsForcedOrFrom book.chain.first book.forced (length entries) entries)
    force_exactly new leaves =
        leaves_less disk new (IsWithOrWithout book.chain.first holds.kept book.buffered) (IsForcedOrFrom book.chain.first book.forced (length entries) entries) leaves
        (λ c some. elim some [
          | inl without ↦ front_before c without
          | inr whole ↦ record {
            count = length entries;
            which = inr (omega arith);
            at_most = omega arith;
            spells = record {
              kept = deposited book.buffered holds.kept;
              chained = whole;
              holds = subst (λ (l : List Entry). HoldsEntries book.chain.first (deposited book.buffered holds.kept) l) (sym (take_all (length entries) entries (omega arith))) with_all;
            };
          }
        ])

    -- and once it is
    pub force_holds : (new : Disk) (chain : ChainState) (bytes : ℕ) → chain.first ≡ book.chain.first → attached_of chain ≡ attached_of book.chain → Rattle.receiver_chain.specs.Chain.Holds chain (deposited book.buffered holds.kept) new
        → Holds (Rattle.journal_book.specs.Book.with_block chain bytes book) entries new
    unfolding with_all
    force_holds new chain bytes first number deposit =
        let keeps = holds.keeps in
        let on = keeps.on_disk in
        record {
          kept = deposited book.buffered holds.kept;
          chain = deposit;
          keeps = record {
            front = entries;
            tail = [];
            on_disk = record {
              earlier = on.earlier;
              last = on.last ++ keeps.tail ∷ [];
              receivers = subst (λ (f : ℕ). AreReceivers f holds.kept.earlier on.earlier (with_block book.buffered holds.kept.attached) (on.last ++ keeps.tail ∷ [])) (sym first) with_all.receivers;
              all = with_all.all;
              numbered = with_all.numbered;
              counted = with_all.counted;
            };
            goes_on = (
              subst (λ (k : ℕ). HasBegun k (on.last ++ keeps.tail ∷ [])) (sym number) (has_begun book.begun (attached_of book.chain) on.last keeps.tail keeps.goes_on (omega (arith, some, keeps.waiting))),
              tt,
            );
            all = sym (append-nil entries);
            forced = omega (arith, keeps.forced, keeps.waiting, ap length keeps.all, length-append keeps.front keeps.tail);
            waiting = refl;
            block = record { each = tt; whole = refl };
            numbered = keeps.numbered;
            first = keeps.first ∙ sym (first_same holds.kept.earlier holds.kept.attached book.buffered);
          };
        }

-- ---- the frame

pub frame_back : (block : List ℕ) → between (frame block) ≡ block
unfolding block_bytes
frame_back block = between_is (big_bytes 4 (length block)) block 0 refl

pub between_push : (bytes : List ℕ) → 4 ≤ length bytes → between (bytes ++ 0 ∷ []) ≡ drop 4 bytes
between_push bytes long =
    ap (λ (l : List ℕ). between (l ++ 0 ∷ [])) (sym (take-append-drop 4 bytes)) ∙ between_is (take 4 bytes) (drop 4 bytes) 0 (length-take-le 4 bytes long)

pub emptied : (bytes : List ℕ) → drop 4 (take 4 bytes) ≡ []
emptied bytes = drop_all 4 (take 4 bytes) (omega (arith, length-take 4 bytes))
