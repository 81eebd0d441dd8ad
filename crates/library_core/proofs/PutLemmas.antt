-- The entries of a call, put into the journal, or none.
use Rattle.std.proofs.Common.{◌≡◌, ◌⊎◌, inl, ◌+◌, ◌<◌, ◌≤◌, ℕ, Bool, true, false, ◌||◌, if◌then◌else◌, List, [], ◌∷◌, ◌++◌, length, append-nil, Result, Ok, Err, OnOk, refl, sym, ◌∙◌, ap, subst}
use Rattle.std.proofs.Common.{arith}
use Rattle.std.specs.Prelude.{IsErr, IsOk}
use Rattle.std.proofs.lemmas.Bool.{false≢true}
use Rattle.store_model.specs.Disk.{Disk, Leaves}
use Rattle.store_model.specs.Faults.{Rose}
use Rattle.entry_codec.specs.declared.entries.Entry.{Entry}
use Rattle.gated_log.specs.declared.fault.StoreFault.{StoreFault}
use Rattle.receiver_chain.specs.Chain.{attached_of}
use Rattle.receiver_chain.specs.Others.{LeavesRoots}
use Rattle.receiver_chain.proofs.Others.{roots_here}
use Rattle.journal_book.specs.Book.{BookState, Holds, next_of}
use Rattle.journal_book.specs.Kept.{IsForcedOrFrom}
use Rattle.journal_book.proofs.Forcing.{none_exactly}
use Rattle.kept_journal.specs.declared.journal.TheConstants.{MUCH}
use Rattle.library_model.specs.declared.requests.Request.{Request}
use Rattle.block_places.specs.Dues.{has_entries}
use Rattle.forced_calls.specs.Forced.{is_forced}
use Rattle.library_core.specs.Puts.{HasTaken, are_put, places_taken}

one-place : (request : Request) (entries : List Entry) → are_put request entries ≡ true → places_taken request entries ≡ 1
one-place request entries put = ap (λ (b : Bool). if b then 1 else 0) put

pub place-there : (request : Request) (entries : List Entry) (room : ℕ) → are_put request entries ≡ true → places_taken request entries ≤ room → 0 < room
place-there request entries room put enough = omega (arith, one-place request entries put, enough)

ok-map : {A E P Q : Type 0} (r : Result A E) → (P → Q) → OnOk r P → OnOk r Q
ok-map (Ok a) goes here = goes here
ok-map (Err e) goes here = here

-- ---- whether the request was done

pub is-done : {A E : Type 0} (r : Result A E) (a : A) → r ≡ Ok a → IsOk r
is-done (Ok x) a is = refl
is-done (Err e) a is = absurd cc

pub is-failed : {A E : Type 0} (r : Result A E) (e : E) → r ≡ Err e → IsErr r
is-failed (Ok x) e is = absurd cc
is-failed (Err x) e is = refl

pub not-both : {A E P : Type 0} (r : Result A E) → IsOk r → IsErr r → P
not-both (Ok x) fine bad = absurd (false≢true bad)
not-both (Err e) fine bad = absurd (false≢true fine)

-- ---- the entries

-- by one call of the journal
pub put-taken : (tells : Type 0) (old new : Disk) (before after : BookState) (request : Request) (entries : List Entry) (forced : Bool) (put : Result (Unit {0}) StoreFault)
    → are_put request entries ≡ true → forced ≡ is_forced request entries
    → OnOk put (tells → (all : List Entry) → Holds before all old → Holds after (all ++ entries) new)
    → (tells → (all : List Entry) → Holds before all old → Leaves old new (IsForcedOrFrom before.chain.first before.forced (length (all ++ entries)) (all ++ entries)))
    → OnOk put (forced ≡ true → after.waiting ≡ 0) → OnOk put ((after.forced ≡ before.forced) ⊎ (after.waiting ≡ 0)) → OnOk put (length after.buffered < MUCH)
    → OnOk put (next_of after ≡ next_of before + length entries)
    → after.first ≡ before.first → after.chain.first ≡ before.chain.first → attached_of after.chain ≡ attached_of before.chain → OnOk put (before.chain.room ≤ after.chain.room + 1)
    → LeavesRoots old new → old.faults ≤ new.faults
    → (IsErr put → Rose old.faults new.faults) → HasTaken tells old new before after request entries put
put-taken tells old new before after request entries forced put are is kept moments acknowledged whole little next first receiver number places roots faults cause = record {
  kept = kept;
  moments = moments;
  acknowledged = ok-map put (λ asked due. asked (is ∙ due)) acknowledged;
  whole = whole;
  little = little;
  next = next;
  first = first;
  receiver = receiver;
  number = number;
  places = ok-map put (λ less. subst (λ (n : ℕ). before.chain.room ≤ after.chain.room + n) (sym (one-place request entries are)) less) places;
  roots = roots;
  faults = faults;
  cause = cause;
}

-- what isn't put is nothing, and isn't forced
neither : (a b : Bool) → (a || b) ≡ false → (a ≡ false) × (b ≡ false)
neither true b is = absurd (false≢true (sym is))
neither false b is = (refl, is)

no-entries : (entries : List Entry) → has_entries entries ≡ false → entries ≡ []
no-entries [] none = refl
no-entries (e ∷ entries) none = absurd (false≢true (sym none))

none-by : (tells : Type 0) (disk : Disk) (book : BookState) (request : Request) → is_forced request [] ≡ false → length book.buffered < MUCH → HasTaken tells disk disk book book request [] (Ok tt)
none-by tells disk book request free little = record {
  kept = λ told all holds. subst (λ (l : List Entry). Holds book l disk) (sym (append-nil all)) holds;
  moments = λ told all holds. subst (λ (l : List Entry). Leaves disk disk (IsForcedOrFrom book.chain.first book.forced (length l) l)) (sym (append-nil all)) (none_exactly book all disk holds);
  acknowledged = λ forced. absurd (false≢true (sym free ∙ forced));
  whole = inl refl;
  little = little;
  next = omega arith;
  first = refl;
  receiver = refl;
  number = refl;
  places = omega arith;
  roots = roots_here disk;
  faults = omega arith;
  cause = λ bad. absurd (false≢true bad);
}

pub none-taken : (tells : Type 0) (disk : Disk) (book : BookState) (request : Request) (entries : List Entry) → are_put request entries ≡ false → length book.buffered < MUCH
    → HasTaken tells disk disk book book request entries (Ok tt)
none-taken tells disk book request entries put little =
    let none = neither (is_forced request entries) (has_entries entries) put in
    let nil = no-entries entries none.1 in
    subst (λ (l : List Entry). HasTaken tells disk disk book book request l (Ok tt)) (sym nil)
    (none-by tells disk book request (subst (λ (l : List Entry). is_forced request l ≡ false) nil none.0) little)
