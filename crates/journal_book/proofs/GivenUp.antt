-- What becomes of the entries where the first receivers are given up.
use Rattle.std.proofs.Common.{◌≡◌, inl, inr, ℕ, ◌+◌, ◌-◌, ◌≤◌, ◌<◌, List, [], ◌∷◌, ◌++◌, length, take, drop, get_or, Option, Some, suc, zero, refl, sym, ◌∙◌, ap, subst, arith, length-append}
use Rattle.std.proofs.Math.Seq.{drop-append-add}
use Rattle.std.proofs.lemmas.List.{append-nil, drop-append-le, length-drop, take_at}
use Rattle.store_model.specs.Disk.{Areas, Disk, Leaves}
use Rattle.store_model.proofs.Runs.{leaves_less}
use Rattle.entry_codec.specs.declared.entries.Entry.{Entry}
use Rattle.entry_codec.proofs.EntryLaws.{one_spelling}
use Rattle.entry_codec.specs.Spelling.{spelling}
use Rattle.receiver_chain.specs.Links.{EndsInLink, last_block}
use Rattle.receiver_chain.specs.Receivers.{AreChained, Follows, Kept, LeadTo, Receiver, dropped}
use Rattle.receiver_chain.specs.Chain.{ChainState, attached_of, log_at}
use Rattle.receiver_chain.proofs.Chaining.{logs_length}
use Rattle.receiver_chain.proofs.Kept.{log_of}
use Rattle.journal_model.specs.Journal.{AreNumbered}
use Rattle.journal_book.specs.Book.{BookState, GoesOn, Holds, Keeps}
use Rattle.journal_book.specs.Entries.{AreBlocks, AreReceivers, HoldsEntries, IsBlock, IsEnded, all_groups, first_sequence, flat}
use Rattle.journal_book.specs.Kept.{IsKept}
use Rattle.journal_book.proofs.FirstLog.{first_is}
use Rattle.journal_book.proofs.Forcing.{flat-append}
use Rattle.journal_book.proofs.Numbering.{number_at, numbered-drop, numbered_back, numbered_front}

-- ---- the entry that ends a receiver

last_is : (front : List (List Entry)) (group : List Entry) (blocks : List (List ℕ)) → AreBlocks (front ++ group ∷ []) blocks → IsBlock group (last_block blocks)
last_is [] group [] are = absurd are
last_is [] group (b ∷ []) are = are.0
last_is [] group (b ∷ c ∷ blocks) are = absurd are.1
last_is (g ∷ front) group [] are = absurd are
last_is (g ∷ []) group (b ∷ []) are = absurd are.1
last_is (g ∷ h ∷ front) group (b ∷ []) are = absurd are.1
last_is (g ∷ front) group (b ∷ c ∷ blocks) are =
    let further : suc (length (c ∷ blocks) - 1) ≡ length (b ∷ c ∷ blocks) - 1 = omega arith in
    subst (λ (n : ℕ). IsBlock group (get_or (b ∷ c ∷ blocks) n [])) further (last_is front group (c ∷ blocks) are.1)

ended_tail : (number : ℕ) (groups : List (List Entry)) → IsEnded number groups → (front : List (List Entry)) × (e : Entry) × (groups ≡ front ++ (e ∷ []) ∷ [])
ended_tail number groups ended = elim ended.2 [
  | inl begins ↦ (ended.0, ended.1, begins.1)
  | inr begins ↦ ((begins.1.0 ∷ []) ∷ ended.0, ended.1, begins.1.2)
]

link_is : (number m s : ℕ) (blocks : List (List ℕ)) (groups : List (List Entry)) → AreBlocks groups blocks → IsEnded number groups → AreNumbered m (flat groups) → EndsInLink (number + 1) s blocks → s + 1 ≡ m + length (flat groups)
link_is number m s blocks groups are ended numbered link =
    let tail = ended_tail number groups ended in
    let e = tail.1 in
    let is = last_is tail.0 (e ∷ []) blocks (subst (λ (g : List (List Entry)). AreBlocks g blocks) tail.2 are) in
    let same = one_spelling e link.entry [] [] is.each.0 link.spelled (sym is.whole ∙ link.whole ∙ sym (append-nil (spelling link.entry))) in
    let whole : flat groups ≡ flat tail.0 ++ e ∷ [] = ap (λ (g : List (List Entry)). flat g) tail.2 ∙ flat-append tail.0 ((e ∷ []) ∷ []) in
    let place = number_at m (flat tail.0) e [] (subst (λ (l : List Entry). AreNumbered m l) whole numbered) in
    omega (arith, ap (λ (x : Entry). x.sequence) same.0, link.sequence, place, ap (λ (l : List Entry). length l) whole, length-append (flat tail.0) (e ∷ []))

-- ---- receivers

pub first_drop : (k : ℕ) (rs : List Receiver) (attached : Receiver) → first_sequence (record { earlier = drop k rs; attached = attached }) ≡ (get_or rs k attached).first
first_drop zero [] attached = refl
first_drop zero (r ∷ rs) attached = refl
first_drop (suc k) [] attached = refl
first_drop (suc k) (r ∷ rs) attached = first_drop k rs attached

first_follows : (number s next : ℕ) (rs : List Receiver) (attached : Receiver) (last : Option ℕ) → LeadTo number (Some s) rs next last → Follows last attached.first → first_sequence (record { earlier = rs; attached = attached }) ≡ s + 1
first_follows number s next [] attached last lead follows = subst (λ (o : Option ℕ). Follows o attached.first) lead.1 follows
first_follows number s next (r ∷ rs) attached last lead follows = lead.0

-- what is left of so many receivers and their entries
pub record IsDropped (n m k : ℕ) (rs : List Receiver) (attached : Receiver) (groups : List (List (List Entry))) (last : List (List Entry)) : Type 0 where
  pub count : ℕ
  pub within : count ≤ length (flat (all_groups groups last))
  pub rest : List (List (List Entry))
  pub receivers : AreReceivers (n + k) (drop k rs) rest attached last
  pub same : flat (all_groups rest last) ≡ drop count (flat (all_groups groups last))
  pub first : first_sequence (record { earlier = drop k rs; attached = attached }) ≡ m + count

dropped_one : (n m k c s : ℕ) (r : Receiver) (rs : List Receiver) (attached : Receiver) (g : List (List Entry)) (groups : List (List (List Entry))) (last : List (List Entry)) → c ≡ length (flat g) → IsDropped (n + 1) (m + c) k rs attached groups last → IsDropped n m (suc k) (r ∷ rs) attached (g ∷ groups) last
dropped_one n m k c s r rs attached g groups last is more =
    let whole = flat-append g (all_groups groups last) in
    let sizes = length-append (flat g) (flat (all_groups groups last)) in
    record {
      count = length (flat g) + more.count;
      within = omega (arith, more.within, ap (λ (l : List Entry). length l) whole, sizes);
      rest = more.rest;
      receivers = subst (λ (j : ℕ). AreReceivers j (drop k rs) more.rest attached last) (omega arith) more.receivers;
      same = more.same ∙ sym (drop-append-add (flat g) (flat (all_groups groups last)) more.count) ∙ ap (λ (l : List Entry). drop (length (flat g) + more.count) l) (sym whole);
      first = more.first ∙ omega (arith, is);
    }

pub drop_by : (k : ℕ) (rs : List Receiver) (groups : List (List (List Entry))) (n m : ℕ) (before after : Option ℕ) (next : ℕ) (attached : Receiver) (last : List (List Entry)) → k ≤ length rs → LeadTo n before rs next after → Follows after attached.first
    → AreReceivers n rs groups attached last → AreNumbered m (flat (all_groups groups last)) → first_sequence (record { earlier = rs; attached = attached }) ≡ m → IsDropped n m k rs attached groups last
drop_by zero rs groups n m before after next attached last upto lead follows are numbered first = record {
  count = 0;
  within = omega arith;
  rest = groups;
  receivers = subst (λ (j : ℕ). AreReceivers j rs groups attached last) (omega arith) are;
  same = refl;
  first = first ∙ omega arith;
}
drop_by (suc k) [] groups n m before after next attached last upto lead follows are numbered first = absurd (omega (arith, upto))
drop_by (suc k) (r ∷ rs) [] n m before after next attached last upto lead follows are numbered first = absurd are
drop_by (suc k) (r ∷ rs) (g ∷ groups) n m before after next attached last upto lead follows are numbered first =
    let all : AreNumbered m (flat g ++ flat (all_groups groups last)) = subst (λ (l : List Entry). AreNumbered m l) (flat-append g (all_groups groups last)) numbered in
    let step = link_is n m lead.1 r.blocks g are.0 are.1 (numbered_front m (flat g) (flat (all_groups groups last)) all) lead.2 in
    let c = length (flat g) in
    dropped_one n m k c lead.1 r rs attached g groups last refl
    (drop_by k rs groups (n + 1) (m + c) (Some lead.1) after next attached last (omega (arith, upto)) lead.3 follows are.2 (numbered_back m (m + c) (flat g) (flat (all_groups groups last)) refl all)
    (first_follows (n + 1) lead.1 next rs attached after lead.3 follows ∙ step))

-- ---- the book

module _ (book : BookState) (kept : Kept) (entries : List Entry) (disk : Disk) (chain : Rattle.receiver_chain.specs.Chain.Holds book.chain kept disk) (keeps : Keeps book kept entries) (k : ℕ) (upto : k ≤ length kept.earlier) where
  pub left_of : IsDropped book.chain.first book.first k kept.earlier kept.attached keeps.on_disk.earlier keeps.on_disk.last
  left_of =
      let on = keeps.on_disk in
      let numbered : AreNumbered book.first (flat (all_groups on.earlier on.last)) = subst (λ (n : ℕ). AreNumbered n (flat (all_groups on.earlier on.last))) (sym keeps.first) (subst (λ (l : List Entry). AreNumbered (first_sequence kept) l) on.all on.numbered) in
      drop_by k kept.earlier on.earlier book.chain.first book.first _ chain.leads.before _ kept.attached on.last upto chain.leads.lead chain.leads.follows on.receivers numbered (sym keeps.first)

  within_front : left_of.count ≤ length keeps.front
  within_front = omega (arith, left_of.within, ap (λ (l : List Entry). length l) keeps.on_disk.all)

  first_front : AreNumbered book.first keeps.front
  first_front = numbered_front book.first keeps.front keeps.tail (subst (λ (l : List Entry). AreNumbered book.first l) keeps.all keeps.numbered)

  all_dropped : drop left_of.count entries ≡ drop left_of.count keeps.front ++ keeps.tail
  all_dropped = ap (λ (l : List Entry). drop left_of.count l) keeps.all ∙ drop-append-le left_of.count keeps.front keeps.tail within_front

  -- the receivers that are kept hold the entries from the first one of theirs on
  pub left_holds : (number : ℕ) → number ≡ book.chain.first + k → HoldsEntries number (dropped k kept) (drop left_of.count keeps.front)
  left_holds number is = record {
    earlier = left_of.rest;
    last = keeps.on_disk.last;
    receivers = subst (λ (n : ℕ). AreReceivers n (drop k kept.earlier) left_of.rest kept.attached keeps.on_disk.last) (sym is) left_of.receivers;
    all = ap (λ (l : List Entry). drop left_of.count l) keeps.on_disk.all ∙ sym left_of.same;
    numbered = subst (λ (n : ℕ). AreNumbered n (drop left_of.count keeps.front)) (sym left_of.first) (numbered-drop left_of.count book.first keeps.front within_front first_front);
    counted = omega (arith, left_of.first, keeps.first, keeps.on_disk.counted);
  }

  -- a stop leaves these entries, all that were forced
  pub left_kept : (number first : ℕ) → number ≡ book.chain.first + k → first ≡ (get_or kept.earlier k kept.attached).first → (c : Areas) → AreChained number (dropped k kept) c → IsKept number (book.forced - (first - book.first)) (drop (first - book.first) entries) c
  left_kept number first is same c chained =
      let gone : first - book.first ≡ left_of.count = omega (arith, same, first_drop k kept.earlier kept.attached, left_of.first) in
      subst (λ (n : ℕ). IsKept number (book.forced - n) (drop n entries) c) (sym gone) (record {
        count = length (drop left_of.count keeps.front);
        at_least = omega (arith, keeps.forced, length-drop left_of.count keeps.front);
        at_most = omega (arith, ap (λ (l : List Entry). length l) all_dropped, length-append (drop left_of.count keeps.front) keeps.tail);
        spells = record {
          kept = dropped k kept;
          chained = chained;
          holds = subst (λ (l : List Entry). HoldsEntries number (dropped k kept) l)
              (sym (ap (λ (l : List Entry). take (length (drop left_of.count keeps.front)) l) all_dropped ∙ take_at (drop left_of.count keeps.front) keeps.tail (length (drop left_of.count keeps.front)) refl)) (left_holds number is);
        };
      })

  -- and the book keeps them
  pub left_keeps : (new : ChainState) (first forced : ℕ) → new.first ≡ book.chain.first + k → attached_of new ≡ attached_of book.chain → first ≡ (get_or kept.earlier k kept.attached).first → first + forced ≡ book.first + book.forced
      → Keeps (record book { chain = new; first = first; forced = forced }) (dropped k kept) (drop (first - book.first) entries)
  unfolding left_holds
  left_keeps new first forced is number same sum =
      let head : first ≡ book.first + left_of.count = same ∙ sym (first_drop k kept.earlier kept.attached) ∙ left_of.first in
      let gone : first - book.first ≡ left_of.count = omega (arith, head) in
      subst (λ (n : ℕ). Keeps (record book { chain = new; first = first; forced = forced }) (dropped k kept) (drop n entries)) (sym gone) (record {
        front = drop left_of.count keeps.front;
        tail = keeps.tail;
        on_disk = record {
          earlier = left_of.rest;
          last = keeps.on_disk.last;
          receivers = (left_holds new.first is).receivers;
          all = (left_holds new.first is).all;
          numbered = (left_holds new.first is).numbered;
          counted = (left_holds new.first is).counted;
        };
        goes_on = subst (λ (n : ℕ). GoesOn book.begun n keeps.on_disk.last keeps.tail) (sym number) keeps.goes_on;
        all = all_dropped;
        forced = omega (arith, head, sum, keeps.forced, within_front, length-drop left_of.count keeps.front);
        waiting = keeps.waiting;
        block = keeps.block;
        numbered = subst (λ (n : ℕ). AreNumbered n (drop left_of.count entries)) (sym head) (numbered-drop left_of.count book.first entries (omega (arith, within_front, ap (λ (l : List Entry). length l) keeps.all, length-append keeps.front keeps.tail)) keeps.numbered);
        first = head ∙ sym left_of.first;
      })

-- ---- on its disk

-- as many receivers were given up as the chain's first number went up
given_up : (old new : ChainState) (kept : Kept) (disk after : Disk) → Rattle.receiver_chain.specs.Chain.Holds old kept disk → Rattle.receiver_chain.specs.Chain.Holds new (dropped (new.first - old.first) kept) after → attached_of new ≡ attached_of old
    → (new.first ≡ old.first + (new.first - old.first)) × (new.first - old.first ≤ length kept.earlier)
given_up old new kept disk after holds left number =
    let before = logs_length old.first old.earlier kept.earlier disk holds.leads.logs_of in
    let later = logs_length new.first new.earlier (drop (new.first - old.first) kept.earlier) after left.leads.logs_of in
    let sizes = length-drop (new.first - old.first) kept.earlier in
    (omega (arith, before, later, sizes, number), omega (arith, before, later, sizes, number))

module _ (book : BookState) (entries : List Entry) (disk : Disk) (holds : Holds book entries disk) where
  pub drop_holds : (new : ChainState) (first forced : ℕ) (after : Disk) → attached_of new ≡ attached_of book.chain → Rattle.receiver_chain.specs.Chain.Holds new (dropped (new.first - book.chain.first) holds.kept) after
      → first ≡ (get_or new.earlier 0 new.attached).first → first + forced ≡ book.first + book.forced → Holds (record book { chain = new; first = first; forced = forced }) (drop (first - book.first) entries) after
  drop_holds new first forced after number left same sum =
      let k = new.first - book.chain.first in
      let up = given_up book.chain new holds.kept disk after holds.chain left number in
      let head : first ≡ (get_or holds.kept.earlier k holds.kept.attached).first = same ∙ sym (first_is new (dropped k holds.kept) after left) ∙ first_drop k holds.kept.earlier holds.kept.attached in
      record {
        kept = dropped k holds.kept;
        chain = left;
        keeps = left_keeps book holds.kept entries disk holds.chain holds.keeps k up.1 new first forced up.0 number head sum;
      }

  -- the first log's sequence is one of the book's
  pub drop_within : (new : ChainState) (first : ℕ) (after : Disk) → attached_of new ≡ attached_of book.chain → Rattle.receiver_chain.specs.Chain.Holds new (dropped (new.first - book.chain.first) holds.kept) after
      → first ≡ (get_or new.earlier 0 new.attached).first → (book.first ≤ first) × (first ≤ book.first + book.forced)
  drop_within new first after number left same =
      let k = new.first - book.chain.first in
      let up = given_up book.chain new holds.kept disk after holds.chain left number in
      let there = left_of book holds.kept entries disk holds.chain holds.keeps k up.1 in
      let head : first ≡ book.first + there.count = same ∙ sym (first_is new (dropped k holds.kept) after left) ∙ there.first in
      (omega (arith, head), omega (arith, head, there.within, ap (λ (l : List Entry). length l) holds.keeps.on_disk.all, holds.keeps.forced))

  pub drop_moment : (receiver : ℕ) (new : Disk) → book.chain.first ≤ receiver → receiver < attached_of book.chain → Leaves disk new (AreChained (receiver + 1) (dropped (receiver + 1 - book.chain.first) holds.kept))
      → Leaves disk new (IsKept (receiver + 1) (book.forced - ((log_at book.chain (receiver + 1)).first - book.first)) (drop ((log_at book.chain (receiver + 1)).first - book.first) entries))
  drop_moment receiver new from below leaves =
      let k = receiver + 1 - book.chain.first in
      let first = (log_at book.chain (receiver + 1)).first in
      let sizes = logs_length book.chain.first book.chain.earlier holds.kept.earlier disk holds.chain.leads.logs_of in
      let same = (log_of book.chain holds.kept disk (receiver + 1) holds.chain (omega (arith, from)) (omega (arith, below))).first in
      leaves_less disk new (AreChained (receiver + 1) (dropped k holds.kept)) (IsKept (receiver + 1) (book.forced - (first - book.first)) (drop (first - book.first) entries)) leaves
      (left_kept book holds.kept entries disk holds.chain holds.keeps k (omega (arith, below, from, sizes)) (receiver + 1) first (omega (arith, from)) same)

  -- after the receiver that was given up last
  pub drop_first : (receiver : ℕ) (new : ChainState) (after : Disk) → book.chain.first ≤ receiver → receiver < attached_of book.chain → new.first ≡ receiver + 1 → Rattle.receiver_chain.specs.Chain.Holds new (dropped (new.first - book.chain.first) holds.kept) after
      → (get_or new.earlier 0 new.attached).first ≡ (log_at book.chain (receiver + 1)).first
  drop_first receiver new after from below is left =
      let k = new.first - book.chain.first in
      let same = (log_of book.chain holds.kept disk (receiver + 1) holds.chain (omega (arith, from)) (omega (arith, below))).first in
      sym (first_is new (dropped k holds.kept) after left) ∙ first_drop k holds.kept.earlier holds.kept.attached ∙ ap (λ (n : ℕ). (get_or holds.kept.earlier (n - book.chain.first) holds.kept.attached).first) is ∙ sym same
