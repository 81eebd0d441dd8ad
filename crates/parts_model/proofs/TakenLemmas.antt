-- The least record that changes took away, with one change more at the front.
use Rattle.std.proofs.Common.{◌≡◌, ℕ, zero, suc, ◌+◌, Bool, true, false, if◌then◌else◌, List, [], ◌∷◌, drop, Some, None, slice_get, ap, subst}
use Rattle.std.specs.List.{AllByRecursion, cons_option}
use Rattle.file_model.specs.KeyOrder.{KeyValue}
use Rattle.file_model.specs.declared.paths.PathFormat.{PathFormat}
use Rattle.lawful_states.proofs.NameLemmas.{some-equal}
use Rattle.journal_model.specs.Rollback.{MemberChange}
use Rattle.library_steps.specs.UniqueKeys.{takes_key}
use Rattle.parts_model.specs.NewKeys.{least_of, lesser_of, taken}

pub taken-first : (format : PathFormat) (key : List KeyValue) (undo : MemberChange) (more : List MemberChange) → takes_key format key undo ≡ true
    → least_of (taken format key (undo ∷ more)) ≡ lesser_of (undo.change.place + 1) (least_of (taken format key more))
taken-first format key undo more took =
    ap (λ (b : Bool). least_of (cons_option (if b then Some (undo.change.place + 1) else None) (taken format key more))) took

pub taken-not : (format : PathFormat) (key : List KeyValue) (undo : MemberChange) (more : List MemberChange) → takes_key format key undo ≡ false
    → least_of (taken format key (undo ∷ more)) ≡ least_of (taken format key more)
taken-not format key undo more took =
    ap (λ (b : Bool). least_of (cons_option (if b then Some (undo.change.place + 1) else None) (taken format key more))) took

-- what stands at a place, and all behind it
pub drop-at : {A : Type 0} (xs : List A) (n : ℕ) (x : A) → slice_get xs n ≡ Some x → drop n xs ≡ x ∷ drop (suc n) xs
drop-at [] n x at = absurd cc
drop-at (y ∷ xs) zero x at = (let same : y ≡ x = some-equal at in ap (λ z. z ∷ xs) same)
drop-at (y ∷ xs) (suc n) x at = drop-at xs n x at

pub each-at : {A : Type 0} (P : A → Type 0) (xs : List A) (n : ℕ) (x : A) → AllByRecursion P xs → slice_get xs n ≡ Some x → P x
each-at P [] n x all at = absurd cc
each-at P (y ∷ xs) zero x all at = (let same : y ≡ x = some-equal at in subst P same all.0)
each-at P (y ∷ xs) (suc n) x all at = each-at P xs n x all.1 at
