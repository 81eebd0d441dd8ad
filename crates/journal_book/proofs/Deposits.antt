-- What one entry more makes of a book, and what more room does: for the book's own calls and for crates that hold books.
use Rattle.std.proofs.Common.{◌≡◌, inl, ℕ, ◌+◌, ◌-◌, ◌≤◌, Bool, true, false, List, [], ◌∷◌, ◌++◌, length, drop, Result, Ok, Err, OnOk, refl, sym, ◌∙◌, ap, subst, arith, append_assoc, length-append}
use Rattle.std.specs.List.{AllByRecursion}
use Rattle.std.proofs.lemmas.Bool.{false≢true}
use Rattle.std.proofs.lemmas.List.{append-nil, drop-append-le}
use Rattle.store_model.specs.Disk.{Disk, Stays}
use Rattle.entry_codec.specs.declared.entries.Entry.{Entry}
use Rattle.entry_codec.specs.declared.kinds.EntryKind.{EntryKind}
use Rattle.entry_codec.specs.declared.kinds.EntryKind.TheVariants.{NextReceiver, PreviousReceiver}
use Rattle.entry_codec.specs.Spelling.{IsSpelled, spelling}
use Rattle.entry_codec.proofs.EntryLaws.{one_spelling}
use Rattle.gated_log.specs.Log.{LogState}
use Rattle.receiver_chain.specs.Chain.{ChainState, attached_of}
use Rattle.receiver_chain.specs.Links.{IsNoLink}
use Rattle.receiver_chain.specs.Receivers.{Kept}
use Rattle.receiver_chain.proofs.Kept.{holds_same, holds_stays}
use Rattle.journal_model.specs.Journal.{AreNumbered}
use Rattle.journal_book.specs.Entries.{AreReceivers, IsBlock, IsInside, IsNoEnd, spelled}
use Rattle.journal_book.specs.Book.{BookState, GoesOn, HasMoreRoom, Holds, IsBuffer, Keeps, next_of, with_entry}
use Rattle.journal_book.proofs.Reading.{some_bytes}

-- ---- lists

pub all-push : (P : Entry → Type 0) (xs : List Entry) (e : Entry) → AllByRecursion P xs → P e → AllByRecursion P (xs ++ e ∷ [])
all-push P [] e all last = (last, tt)
all-push P (x ∷ xs) e all last = (all.0, all-push P xs e all.1 last)

pub numbered-push : (n : ℕ) (xs : List Entry) (e : Entry) → AreNumbered n xs → e.sequence ≡ n + length xs → AreNumbered n (xs ++ e ∷ [])
numbered-push n [] e are is = (omega (arith, is), tt)
numbered-push n (x ∷ xs) e are is = (are.0, numbered-push (n + 1) xs e are.1 (omega (arith, is)))

pub spelled-append : (xs ys : List Entry) → spelled (xs ++ ys) ≡ spelled xs ++ spelled ys
spelled-append [] ys = refl
spelled-append (x ∷ xs) ys = ap (λ (l : List ℕ). spelling x ++ l) (spelled-append xs ys) ∙ sym (append_assoc (spelling x) (spelled xs) (spelled ys))

pub block-push : (xs : List Entry) (e : Entry) (block : List ℕ) → IsBlock xs block → IsSpelled e → IsBlock (xs ++ e ∷ []) (block ++ spelling e)
block-push xs e block is has = record {
  each = all-push IsSpelled xs e is.each has;
  whole = ap (λ (l : List ℕ). l ++ spelling e) is.whole ∙ sym (spelled-append xs (e ∷ []) ∙ ap (λ (l : List ℕ). spelled xs ++ l) (append-nil (spelling e)));
}

-- ---- the buffered block

pub buffer-push : (bytes : List ℕ) (count : ℕ) (e : Entry) → IsBuffer bytes count → IsSpelled e → IsNoEnd e → IsBuffer (bytes ++ spelling e) (count + 1)
buffer-push bytes count e (tail, is, none, counted) has no_end =
    (tail ++ e ∷ [], block-push tail e bytes is has, all-push IsNoEnd tail e none no_end, omega (arith, counted, length-append tail (e ∷ [])))

-- behind the room of its length
pub put_behind : (items bytes : List ℕ) → 4 ≤ length items → drop 4 (items ++ bytes) ≡ drop 4 items ++ bytes
put_behind items bytes long = drop-append-le 4 items bytes long

pub no_buffer : (bytes : List ℕ) (count : ℕ) → IsBuffer bytes count → count ≡ 0 → bytes ≡ []
no_buffer bytes count ([], is, none, counted) zero = is.whole
no_buffer bytes count (e ∷ tail, is, none, counted) zero = absurd (omega (arith, counted, zero))

pub inside_no_end : (e : Entry) → IsInside e → IsNoEnd e
inside_no_end e inside = λ number names. inside number (inl names)

abbrev names_next : EntryKind → Bool
names_next (NextReceiver number) = true
names_next _ = false

pub begin_no_end : (e : Entry) (other : ℕ) → e.kind ≡ PreviousReceiver other → IsNoEnd e
begin_no_end e other names = λ number ends. false≢true (ap names_next (sym names ∙ ends))

-- a block of entries that end no receiver is no link
pub no_link : (bytes : List ℕ) (count next : ℕ) → IsBuffer bytes count → IsNoLink next bytes
no_link bytes count next ([], is, none, counted) = λ before link. some_bytes link.entry [] (sym is.whole ∙ link.whole ∙ sym (append-nil (spelling link.entry)))
no_link bytes count next (e ∷ entries, is, none, counted) = λ before link.
    let parts = one_spelling e link.entry (spelled entries) [] is.each.0 link.spelled (sym is.whole ∙ link.whole ∙ sym (append-nil (spelling link.entry))) in
    none.0 next (ap (λ (x : Entry). x.kind) parts.0 ∙ link.names)

-- ---- one entry more

goes-push : (begun : Bool) (number : ℕ) (last : List (List Entry)) (tail : List Entry) (e : Entry) → begun ≡ true → IsInside e → GoesOn begun number last tail → GoesOn begun number last (tail ++ e ∷ [])
goes-push true number last tail e is inside goes = (goes.0, all-push IsInside tail e goes.1 inside)
goes-push false number last tail e is inside goes = absurd (false≢true is)

goes-begin : (begun : Bool) (number : ℕ) (last : List (List Entry)) (tail : List Entry) (e : Entry) → begun ≡ false → 0 ≡ length tail → e.kind ≡ PreviousReceiver (number - 1) → GoesOn begun number last tail → GoesOn begun number last (tail ++ e ∷ [])
goes-begin true number last tail e is none names goes = absurd (false≢true (sym is))
goes-begin false number last [] e is none names goes = (goes.0, goes.1, names)
goes-begin false number last (x ∷ tail) e is none names goes = absurd (omega (arith, none))

module _ (book : BookState) (kept : Kept) (entries : List Entry) (e : Entry) (bytes : ℕ) (has : IsSpelled e) (sequence : e.sequence ≡ next_of book) (keeps : Keeps book kept entries) where
  keeps-push : GoesOn book.begun (attached_of book.chain) keeps.on_disk.last (keeps.tail ++ e ∷ []) → Keeps (with_entry e bytes book) kept (entries ++ e ∷ [])
  keeps-push goes = record {
    front = keeps.front;
    tail = keeps.tail ++ e ∷ [];
    on_disk = keeps.on_disk;
    goes_on = goes;
    all = ap (λ (l : List Entry). l ++ e ∷ []) keeps.all ∙ append_assoc keeps.front keeps.tail (e ∷ []);
    forced = keeps.forced;
    waiting = omega (arith, keeps.waiting, length-append keeps.tail (e ∷ []));
    block = block-push keeps.tail e book.buffered keeps.block has;
    numbered = numbered-push book.first entries e keeps.numbered (omega (arith, sequence, keeps.forced, keeps.waiting, ap length keeps.all, length-append keeps.front keeps.tail));
    first = keeps.first;
  }

  -- an entry that ties nothing, where the receiver has begun
  pub deposit_keeps : book.begun ≡ true → IsInside e → Keeps (with_entry e bytes book) kept (entries ++ e ∷ [])
  deposit_keeps begun inside = keeps-push (goes-push book.begun (attached_of book.chain) keeps.on_disk.last keeps.tail e begun inside keeps.goes_on)

  -- the entry by which it begins, where it hasn't
  pub begin_keeps : book.begun ≡ false → book.waiting ≡ 0 → e.kind ≡ PreviousReceiver (attached_of book.chain - 1) → Keeps (with_entry e bytes book) kept (entries ++ e ∷ [])
  begin_keeps bare none names = keeps-push (goes-begin book.begun (attached_of book.chain) keeps.on_disk.last keeps.tail e bare (sym none ∙ keeps.waiting) names keeps.goes_on)

-- ---- the disk

-- what the book keeps changes, and the chain doesn't
pub holds_same_chain : (old new : BookState) (entries more : List Entry) (disk : Disk) → new.chain ≡ old.chain → ((kept : Kept) → Keeps old kept entries → Keeps new kept more) → Holds old entries disk → Holds new more disk
holds_same_chain old new entries more disk same keeps holds = record {
  kept = holds.kept;
  chain = subst (λ (c : ChainState). Rattle.receiver_chain.specs.Chain.Holds c holds.kept disk) (sym same) holds.chain;
  keeps = keeps holds.kept holds.keeps;
}

-- a book that differs in its rooms alone
pub keeps_same : (old new : BookState) (kept : Kept) (entries : List Entry) → new.chain.first ≡ old.chain.first → attached_of new.chain ≡ attached_of old.chain → new.first ≡ old.first → new.forced ≡ old.forced
    → new.waiting ≡ old.waiting → new.begun ≡ old.begun → new.buffered ≡ old.buffered → Keeps old kept entries → Keeps new kept entries
keeps_same old new kept entries receiver number first forced waiting begun buffered keeps =
    let on = keeps.on_disk in
    record {
      front = keeps.front;
      tail = keeps.tail;
      on_disk = record {
        earlier = on.earlier;
        last = on.last;
        receivers = subst (λ (f : ℕ). AreReceivers f kept.earlier on.earlier kept.attached on.last) (sym receiver) on.receivers;
        all = on.all;
        numbered = on.numbered;
        counted = on.counted;
      };
      goes_on = subst (λ (b : Bool). GoesOn b (attached_of new.chain) on.last keeps.tail) (sym begun) (subst (λ (n : ℕ). GoesOn old.begun n on.last keeps.tail) (sym number) keeps.goes_on);
      all = keeps.all;
      forced = forced ∙ keeps.forced;
      waiting = waiting ∙ keeps.waiting;
      block = subst (λ (b : List ℕ). IsBlock keeps.tail b) (sym buffered) keeps.block;
      numbered = subst (λ (f : ℕ). AreNumbered f entries) (sym first) keeps.numbered;
      first = first ∙ keeps.first;
    }

-- more room
pub more_holds : (old new : BookState) (entries : List Entry) (disk : Disk) → HasMoreRoom old new → Holds old entries disk → Holds new entries disk
more_holds old new entries disk more holds = record {
  kept = holds.kept;
  chain = holds_same old.chain new.chain holds.kept disk more.receiver more.earlier more.area more.head more.version more.lengths holds.chain;
  keeps = keeps_same old new holds.kept entries more.receiver (omega (arith, more.receiver, ap (λ (l : List LogState). length l) more.earlier)) more.first more.forced more.waiting more.begun more.buffered holds.keeps;
}

-- a call that changes no area
pub stays_holds : (book : BookState) (entries : List Entry) (old new : Disk) → Stays old new → Holds book entries old → Holds book entries new
stays_holds book entries old new stays holds = record { kept = holds.kept; chain = holds_stays book.chain holds.kept old new stays holds.chain; keeps = holds.keeps }

-- ---- results

pub on_ok : {A E P : Type 0} (r : Result A E) (x : A) → r ≡ Ok x → OnOk r P → P
on_ok (Ok y) x is holds = holds
on_ok (Err e) x is holds = absurd cc
