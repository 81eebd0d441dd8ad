use Rattle.std.proofs.Common.{◌≡◌, inl, inr, ◌<◌, ℕ, List, length, get_or, sym, subst, ap, ◌∙◌, arith, Vec}
use Rattle.std.specs.List.{AllByRecursion}
use Rattle.std.specs.declared.alloc.Global.{Global}
use Rattle.std.proofs.lemmas.Bool.{cases_lt}
use Rattle.std.proofs.lemmas.List.{take_all}
use Rattle.std.proofs.lemmas.List.Elements.{All-from_recursion}
use Rattle.store_model.specs.Past.{held, blank, seen_after, MayLeave}
use Rattle.store_model.specs.MemoryStore.{disk_of, HasTorn, IsLeft}
use Rattle.store_model.specs.Replayed.{IsFree}
use Rattle.store_model.specs.Steps.{seen_leaves}
use Rattle.store_model.specs.Synced.{last_synced, IsWritten}
use Rattle.store_model.specs.declared.past.Change.{Change}
use Rattle.store_model.specs.declared.memory_store.MemoryStore.{MemoryStore}
use Rattle.store_model.proofs.Found.{any_still, any_new}
use Rattle.store_model.proofs.Free.{all_free}
use Rattle.store_model.proofs.Held.{held_past}
use Rattle.store_model.proofs.Images.{may_push, same_may, torn_everywhere}
use Rattle.store_model.proofs.Loose.{not_reached}
use Rattle.store_model.proofs.memory_store.MemoryStore.stop_images.Goals as goal

-- the areas as they were last synced may be left, and are what they are to be
module _ (changes given : List Change) (areas synced : List (Vec ℕ Global)) (count : ℕ) (is : given ≡ changes) (size : count ≡ length areas) (same : length synced ≡ count) where
  synced_may : ((a : ℕ) → held areas a ≡ seen_after blank changes a) → ((a : ℕ) → a < count → IsFree given a (held synced a)) → MayLeave given (held synced)
  synced_may agrees free =
      all_free given (held synced) count free (seen_after blank given) (seen_leaves given)
      (λ a above. held_past synced a (omega arith) ∙ sym (held_past areas a (omega arith)) ∙ agrees a ∙ ap (λ (l : List Change). seen_after blank l a) (sym is))

  synced_all : ((a : ℕ) → IsWritten changes a → a < length areas) → ((a : ℕ) → a < count → held synced a ≡ last_synced given a) → (a : ℕ) → held synced a ≡ last_synced given a
  synced_all reached below a = elim (cases_lt a count) [
    | inl inside ↦ below a inside
    | inr above ↦ held_past synced a (omega arith) ∙ sym (ap (λ (l : List Change). last_synced l a) is ∙ not_reached changes (length areas) a reached (omega arith))
  ]

pub add_all_torn-requires-clause-may : goal.add_all_torn-requires-clause-may
add_all_torn-requires-clause-may c =
    let past = c.args.self.now.past in
    subst (λ (l : List (Vec ℕ Global)). MayLeave c.as_slice-changes.result.now (held l)) (sym c.as_slice-synced.ensures.value)
    (synced_may past.changes.items c.as_slice-changes.result.now past.areas.items c.in_ok-areas.areas.items _ c.as_slice-changes.ensures.value (ap length c.as_slice-now.ensures.value) c.in_ok-areas.ensures.count past.agrees c.in_ok-areas.ensures.free)

pub add_all_torn-requires-clause-synced : goal.add_all_torn-requires-clause-synced
add_all_torn-requires-clause-synced c = λ area.
    let past = c.args.self.now.past in
    ap (λ (l : List (Vec ℕ Global)). held l area) c.as_slice-synced.ensures.value
    ∙ synced_all past.changes.items c.as_slice-changes.result.now past.areas.items c.in_ok-areas.areas.items _ c.as_slice-changes.ensures.value (ap length c.as_slice-now.ensures.value) c.in_ok-areas.ensures.count past.reached c.in_ok-areas.ensures.synced area

pub returns : goal.returns
returns c =
    let past = c.args.self.now.past in
    let changes = past.changes.items in
    let given = c.as_slice-changes.result.now in
    let given_is = c.as_slice-changes.ensures.value in
    let size = ap length c.as_slice-now.ensures.value in
    let P : MemoryStore → Type 0 = IsLeft given in
    let none = c.new-images.result.items in
    let one = c.push.new.self.items in
    let two = c.push-2.new.self.items in
    let last = c.add_all_torn.new.images.items in
    let added = c.in_ok-add_all_torn.ensures in
    let synced_is : (a : ℕ) → held c.as_slice-synced.result.now a ≡ last_synced given a = λ a.
    ap (λ (l : List (Vec ℕ Global)). held l a) c.as_slice-synced.ensures.value
    ∙ synced_all changes given past.areas.items c.in_ok-areas.areas.items _ given_is size c.in_ok-areas.ensures.count past.reached c.in_ok-areas.ensures.synced a in
    let now_is : (a : ℕ) → (disk_of c.in_ok-image-2.field-0).seen a ≡ seen_after blank changes a = λ a.
    c.in_ok-image-2.ensures.areas a ∙ ap (λ (l : List (Vec ℕ Global)). held l a) c.as_slice-now.ensures.value ∙ past.agrees a in
    let may = subst (λ (l : List (Vec ℕ Global)). MayLeave given (held l)) (sym c.as_slice-synced.ensures.value)
    (synced_may changes given past.areas.items c.in_ok-areas.areas.items _ given_is size c.in_ok-areas.ensures.count past.agrees c.in_ok-areas.ensures.free) in
    let first = may_push P none one c.in_ok-image.field-0 c.in_ok-push.ensures.items (subst (λ (l : List MemoryStore). AllByRecursion P l) (sym c.new-images.ensures.items) tt)
    (same_may given (disk_of c.in_ok-image.field-0).seen (held c.as_slice-synced.result.now) may c.in_ok-image.ensures.areas, c.in_ok-image.ensures.untouched) in
    let second = may_push P one two c.in_ok-image-2.field-0 c.in_ok-push-2.ensures.items first
    (same_may given (disk_of c.in_ok-image-2.field-0).seen (seen_after blank given) (seen_leaves given) (λ a. now_is a ∙ ap (λ (l : List Change). seen_after blank l a) (sym given_is)), c.in_ok-image-2.ensures.untouched) in
    let all = All-from_recursion P last (added.left second) in
    record {
      possible = λ k d below.
          (length changes, omega arith, subst (λ (l : List Change). MayLeave l (disk_of (get_or last k d)).seen) (given_is ∙ sym (take_all (length changes) changes (omega arith))) (all k d below).0);
      untouched = λ k d below. (all k d below).1;
      synced = added.kept _ (any_still _ one two c.in_ok-image-2.field-0 c.in_ok-push-2.ensures.items (any_new _ none one c.in_ok-image.field-0 c.in_ok-push.ensures.items
          (λ a. c.in_ok-image.ensures.areas a ∙ synced_is a ∙ ap (λ (l : List Change). last_synced l a) given_is)));
      now = added.kept _ (any_new _ one two c.in_ok-image-2.field-0 c.in_ok-push-2.ensures.items now_is);
      torn = subst (λ (l : List Change). (area : ℕ) → HasTorn l area last) given_is
          (torn_everywhere given (length c.as_slice-synced.result.now) last
          (λ a written. let below = past.reached a (subst (λ (l : List Change). IsWritten l a) given_is written) in omega (arith, below, ap length c.as_slice-synced.ensures.value, c.in_ok-areas.ensures.count, size)) added.torn);
    }
