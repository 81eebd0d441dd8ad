-- What was read of a library's journal and written of its display, and what became of the store meanwhile.
use Rattle.std.proofs.Common.{◌≡◌, ◌∙◌, inl, inr, ℕ, ◌+◌, ◌-◌, ◌<◌, ◌≤◌, List, [], ◌∷◌, ◌++◌, length, take, drop, Result, refl, sym, ap, subst, arith}
use Rattle.std.proofs.Common.{append_assoc, append-nil, length-append}
use Rattle.std.specs.List.{flat_map}
use Rattle.std.specs.Result.{IfErr, IsErrAnd}
use Rattle.std.proofs.Math.Bridge.{le_prop}
use Rattle.std.proofs.Math.Logic.{∥∥₁_elim}
use Rattle.std.proofs.lemmas.Grind.{flat_map-append}
use Rattle.std.proofs.lemmas.List.{take_all}
use Rattle.std.proofs.lemmas.Result.{err_from_is_err_and}
use Rattle.store_model.specs.Disk.{Disk, Stays}
use Rattle.store_model.specs.Faults.{Rose}
use Rattle.store_model.proofs.Runs.{leaves_stays, leaves_then}
use Rattle.entry_codec.specs.declared.entries.Entry.{Entry}
use Rattle.journal_book.specs.Book.{BookState, Holds, IsHeld, last_of}
use Rattle.journal_book.specs.Reads.{between}
use Rattle.journal_book.specs.declared.fault.BookFault.{BookFault}
use Rattle.journal_book.specs.declared.fault.BookFault.TheVariants as fault
use Rattle.block_cache.proofs.Forced.{forced_whole}
use Rattle.block_cache.proofs.Stretches.{between_none, between_on}
use Rattle.library_steps.specs.State.{State}
use Rattle.display.specs.Display.{display_reading, end_line, entry_line}
use Rattle.opened_library.specs.Parts.{LibraryOver}
use Rattle.opened_library.specs.Stands.{Stands}
use Rattle.opened_library.specs.Opened.{IsOpenedLibrary, Restarts}
use Rattle.ibmi_batch.specs.declared.status.Status.{Status}
use Rattle.ibmi_batch.specs.declared.status.Status.TheVariants.{Done, Words, ReadFault, TooLong, Script, NotALibrary, Damaged, StoreFault, WriteFault, NoMemory, JobsEnded, Exists}
use Rattle.ibmi_batch.specs.Opening.{status_unread}
use Rattle.ibmi_batch.specs.Outcome.{IsDisplay, NothingWritten, Writing}
use Rattle.ibmi_batch.specs.Parts.{Displays, Shows}
use Rattle.ibmi_batch.specs.Seen.{HasRead, IsSeen, IsUnreadBy}

-- ---- why nothing was read

-- an error that is handed on
pub handed-on : {T E : Type 0} (P : E → Type 0) (r : Result T E) (from : E) → IsErrAnd r (λ y. y ≡ from) → P from → IfErr r P
handed-on {T = T} {E = E} P r from is holds =
    let p = err_from_is_err_and r is in
    subst (λ (it : Result T E). IfErr it P) (sym p.1) (subst P (sym p.2) holds)

-- one that a read comes to, where its sequences are there
pub unread-by : (why : BookFault) (tells rose : Type 0) → (why ≡ fault.StoreFault → rose) → ((sequence area at : ℕ) → why ≡ fault.BlockChanged sequence area at → tells → ⊥)
    → (why ≡ fault.NoSuchEntry → ⊥) → ((sequence : ℕ) → why ≡ fault.ReceiverGone sequence → ⊥) → IsUnreadBy why tells rose
unread-by fault.NoMemory tells rose cause changed range gone = tt
unread-by fault.StoreFault tells rose cause changed range gone = cause refl
unread-by (fault.BlockChanged sequence area at) tells rose cause changed range gone = changed sequence area at refl
unread-by fault.NoSuchEntry tells rose cause changed range gone = absurd (range refl)
unread-by (fault.ReceiverGone sequence) tells rose cause changed range gone = absurd (gone sequence refl)

-- the count rose since an earlier moment too
pub unread-behind : (why : BookFault) (tells rose earlier : Type 0) → (rose → earlier) → IsUnreadBy why tells rose → IsUnreadBy why tells earlier
unread-behind fault.NoMemory tells rose earlier on is = tt
unread-behind fault.StoreFault tells rose earlier on is = on is
unread-behind (fault.BlockChanged sequence area at) tells rose earlier on is = is
unread-behind fault.NoSuchEntry tells rose earlier on is = absurd is
unread-behind (fault.ReceiverGone sequence) tells rose earlier on is = absurd is

rose-since : (a b c : ℕ) → a ≤ b → Rose b c → Rose a c
rose-since a b c less rose = omega (arith, less, rose)

pub rose-behind : (old mid new : Disk) → Stays old mid → Rose mid.faults new.faults → Rose old.faults new.faults
rose-behind old mid new stays rose = rose-since old.faults mid.faults new.faults stays.later.faults rose

-- ---- how far the journal was read

drop-none : (xs : List Entry) → drop 0 xs ≡ xs
drop-none [] = refl
drop-none (x ∷ xs) = refl

between-all : (first last : ℕ) (xs : List Entry) → first + length xs ≤ last + 1 → between first first last xs ≡ xs
between-all first last xs long =
    let n = last + 1 - first in
    let none : first - first ≡ 0 = omega arith in
    let enough : length xs ≤ n = omega (arith, long) in
    ap (λ (k : ℕ). take n (drop k xs)) none ∙ ap (λ (l : List Entry). take n l) (drop-none xs) ∙ take_all n xs enough

-- of a store that tells of its bytes as many are read as there are
pub as-many : (tells : Type 0) (book : BookState) (disk : Disk) (lo hi : ℕ) (found : List Entry) → (tells → IsHeld book disk) → book.first ≤ lo → lo ≤ hi → hi < book.first + book.forced
    → (tells → (all : List Entry) → Holds book all disk → found ≡ between book.first lo hi all) → tells → length found ≡ hi + 1 - lo
as-many tells book disk lo hi found held from some forced own told =
    let long : (all : List Entry) → Holds book all disk → lo + length found ≡ hi + 1 =
    λ all holds. ap (λ (l : List Entry). lo + length l) (own told all holds) ∙ (forced_whole book all disk holds lo hi from some forced).long in
    let no_more : lo + length found ≤ hi + 1 = ∥∥₁_elim (held told) le_prop (λ has. let its = long has.0 has.1 in omega (arith, its)) in
    let no_less : hi + 1 ≤ lo + length found = ∥∥₁_elim (held told) le_prop (λ has. let its = long has.0 has.1 in omega (arith, its)) in
    omega (arith, no_more, no_less)

module _ (tells : Type 0) (Held : List Entry → Type 0) (first : ℕ) where
  -- before the first entry
  pub read-none : (text : List ℕ) → 1 ≤ first → HasRead tells Held first (first - 1) text text
  read-none text least = record {
    read = [];
    many = omega (arith, least);
    own = λ told all held. sym (between_none first first (first - 1) all (omega (arith, least)));
    shown = sym (append-nil text);
  }

  -- a piece more
  pub read-more : (done upto : ℕ) (before text after : List ℕ) (found slice : List Entry) → HasRead tells Held first done before text → done < upto
      → length found ≡ upto + 1 - (done + 1) → (tells → (all : List Entry) → Held all → found ≡ between first (done + 1) upto all) → slice ≡ found
      → after ≡ text ++ flat_map entry_line slice → HasRead tells Held first upto before after
  read-more done upto before text after found slice so_far further many own same shown =
      let read = so_far.read in
      let begun : first ≤ done + 1 = omega (arith, so_far.many) in
      record {
        read = read ++ found;
        many = omega (arith, so_far.many, further, many, length-append read found);
        own = λ told all held.
            ap (λ (l : List Entry). l ++ found) (so_far.own told all held) ∙ ap (λ (l : List Entry). between first first done all ++ l) (own told all held)
            ∙ between_on first first done upto all (omega arith) begun (omega (arith, further));
        shown =
            shown ∙ ap (λ (l : List Entry). text ++ flat_map entry_line l) same ∙ ap (λ (t : List ℕ). t ++ flat_map entry_line found) so_far.shown
            ∙ append_assoc before (flat_map entry_line read) (flat_map entry_line found)
            ∙ ap (λ (t : List ℕ). before ++ t) (sym (flat_map-append entry_line read found));
      }

-- ---- what the library shows

-- behind the front of its display stand the entries that were read, and the end
pub is-display : (tells : Type 0) (disk : Disk) (book : BookState) (m s : State) → IsSeen tells disk book m s → (front text whole : List ℕ)
    → ((read : List Entry) (it : List ℕ) → it ≡ front ++ flat_map entry_line read ++ end_line → it ≡ display_reading s read)
    → HasRead tells (λ (all : List Entry). Holds book all disk) book.first (last_of book) front text → whole ≡ text ++ end_line → IsDisplay tells s (λ it. whole ≡ it)
is-display tells disk book m s seen front text whole joined so_far closed =
    let read = so_far.read in
    let long : book.first + length s.entries ≤ last_of book + 1 = omega (arith, seen.first, seen.next) in
    record {
      read = read;
      many = omega (arith, so_far.many, seen.first, seen.next);
      own = λ told. so_far.own told s.entries (seen.holds told) ∙ between-all book.first (last_of book) s.entries long;
      is_text = joined read whole (closed ∙ ap (λ (t : List ℕ). t ++ end_line) so_far.shown);
    }

-- the book comes to the last entry
pub last-seen : (tells : Type 0) (disk : Disk) (book : BookState) (m s : State) → IsSeen tells disk book m s → last_of book ≡ s.gone + length s.entries
last-seen tells disk book m s seen = omega (arith, seen.next)

-- what is so of the text is so of the display
pub with-text : (tells : Type 0) (shown : State) (text slice : List ℕ) (P : List ℕ → Type 0) → IsDisplay tells shown (λ whole. text ≡ whole) → slice ≡ text → P slice
    → IsDisplay tells shown P
with-text tells shown text slice P is same holds = record { read = is.read; many = is.many; own = is.own; is_text = subst P (same ∙ is.is_text) holds }

-- where the journal wasn't read nothing was written
pub displays-unread : (why : BookFault) (tells : Type 0) (shown : State) (writing : Writing) (rose : Type 0) → NothingWritten writing → IsUnreadBy why tells rose
    → Displays (status_unread why) tells shown writing rose
displays-unread fault.NoMemory tells shown writing rose nothing is = nothing
displays-unread fault.StoreFault tells shown writing rose nothing is = (nothing, is)
displays-unread (fault.BlockChanged sequence area at) tells shown writing rose nothing is = (nothing, is)
displays-unread fault.NoSuchEntry tells shown writing rose nothing is = absurd is
displays-unread (fault.ReceiverGone sequence) tells shown writing rose nothing is = absurd is

-- ---- the library that was opened

module _ {S : Type 0} (tells : Type 0) (disk : S → Disk) (library : LibraryOver S) (s : State) (stands : Stands tells disk library s) where
  here-seen : IsSeen tells (disk library.store) library.book library.state s
  here-seen =
      let its = stands.remembered in
      record {
        files = ap (λ (t : State). t.files) its.memory;
        members = ap (λ (t : State). t.members) its.memory;
        attached = ap (λ (t : State). t.receivers.attached) its.memory;
        first = its.journaled.book_of.first;
        next = its.journaled.book_of.next;
        holds = its.journaled.holds;
      }

  -- its parts show what it has
  pub parts-seen : (store : S) (book : BookState) (m : State) → store ≡ library.store → book ≡ library.book → m ≡ library.state → IsSeen tells (disk store) book m s
  parts-seen store book m over by has =
      subst (λ (it : S). IsSeen tells (disk it) book m s) (sym over)
      (subst (λ (it : BookState). IsSeen tells (disk library.store) it m s) (sym by)
      (subst (λ (it : State). IsSeen tells (disk library.store) library.book it s) (sym has) here-seen))

module _ {S : Type 0} (tells : Type 0) (disk : S → Disk) (old : Disk) (library : LibraryOver S) (opened : IsOpenedLibrary tells disk old (disk library.store) library) where
  -- none of its entries waits
  pub opened-settled : library.book.waiting ≡ 0
  opened-settled = let its = opened.stands.remembered.journaled.book_of in omega (arith, opened.all, its.first, its.next)

  module _ (new : Disk) (stays : Stays (disk library.store) new) where
    restarts-still : Restarts tells old new
    restarts-still = λ told before spelled.
        let first = opened.restart told before spelled in
        let mid = disk library.store in
        leaves_then old mid new _ first
        (leaves_stays mid new _ stays (λ areas left. first.images areas (mid.wider old.moment mid.moment areas first.later.moment left)))

    rose-over : Rose (disk library.store).faults new.faults → Rose old.faults new.faults
    rose-over rose = rose-since old.faults (disk library.store).faults new.faults opened.faults rose

    -- it was shown, or its journal wasn't read
    pub shows-displayed : (status : Status) (writing : Writing) → Displays status tells opened.s writing (Rose (disk library.store).faults new.faults)
        → Shows status writing (record { tells = tells; old = old; new = new })
    shows-displayed Done writing is = inl (record { before = opened.before; shown = opened.s; starts = opened.from; restart = restarts-still; written = is })
    shows-displayed WriteFault writing is = inl (record { before = opened.before; shown = opened.s; starts = opened.from; restart = restarts-still; written = is })
    shows-displayed NoMemory writing is = inr (inr (is, restarts-still))
    shows-displayed StoreFault writing is = inr (inr (is.0, (rose-over is.1, restarts-still)))
    shows-displayed (Damaged area at) writing is =
        inr (inl (record { area = area; at = at; is = refl; written = is.0; untold = is.1; restart = restarts-still }))
    shows-displayed Words writing is = absurd is
    shows-displayed ReadFault writing is = absurd is
    shows-displayed TooLong writing is = absurd is
    shows-displayed (Script line) writing is = absurd is
    shows-displayed NotALibrary writing is = absurd is
    shows-displayed JobsEnded writing is = absurd is
    shows-displayed Exists writing is = absurd is
