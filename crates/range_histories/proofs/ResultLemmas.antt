-- What a request that was done tells of the refusals before it: none of them held.
use Rattle.std.proofs.Common.{◌≡◌, ℕ, Bool, true, false, Option, Some, None, Result, Ok, Err, List, refl, sym, ap, ◌∙◌, subst}
use Rattle.library_model.specs.declared.replies.Reply.{Reply}
use Rattle.library_model.specs.Named.{named}
use Rattle.library_steps.specs.State.{Memory, physical_named}
use Rattle.library_steps.specs.Change.{Change, does}
use Rattle.library_steps.specs.Refusals.{◌>>=◌, found, refuse_if, refuse_with, named_or_refused, FoundMember, member_of_file}
use Rattle.library_steps.specs.Uses.{unused}
use Rattle.joint_state.proofs.BaseLemmas.{physical-found}

pub bind-ok : {A B : Type 0} (r : Result A Reply) (next : A → Result B Reply) (y : B) → (r >>= next) ≡ Ok y → (x : A) × (r ≡ Ok x) × (next x ≡ Ok y)
bind-ok (Ok x) next y h = (x, refl, h)
bind-ok (Err reply) next y h = absurd cc

pub refuse_if-ok : (b : Bool) (reply : Reply) (x : Bool) → refuse_if b reply ≡ Ok x → b ≡ false
refuse_if-ok true reply x h = absurd cc
refuse_if-ok false reply x h = refl

pub refuse_with-ok : {A : Type 0} (reply : A → Reply) (o : Option A) (x : Bool) → refuse_with reply o ≡ Ok x → o ≡ None
refuse_with-ok reply None x h = refl
refuse_with-ok reply (Some reason) x h = absurd cc

pub unused-ok : (user : Option ℕ) (x : Bool) → unused user ≡ Ok x → user ≡ None
unused-ok None x h = refl
unused-ok (Some user) x h = absurd cc

pub found-ok : {A : Type 0} (o : Option A) (reply : Reply) (x : A) → found o reply ≡ Ok x → o ≡ Some x
found-ok None reply x h = absurd cc
found-ok (Some y) reply x h = let e : y ≡ x = cc in ap Some e

pub does-ok : {A : Type 0} (effect : A → Change) (plan : Result A Reply) (done : Change) → does effect plan ≡ Ok done → (x : A) × (plan ≡ Ok x) × (effect x ≡ done)
does-ok effect (Ok x) done h = let e : effect x ≡ done = cc in (x, refl, e)
does-ok effect (Err reply) done h = absurd cc

pub ok-same : {A E : Type 0} (r : Result A E) (x y : A) → r ≡ Ok x → r ≡ Ok y → x ≡ y
ok-same (Ok z) x y h g = let a : z ≡ x = cc in let b : z ≡ y = cc in sym a ∙ b
ok-same (Err e) x y h g = absurd cc

pub member_of_file-ok : (file member : List ℕ) (m : Memory) (it : FoundMember) → member_of_file file member m ≡ Ok it
    → (named file m.files ≡ Some it.file) × (named member it.file.members ≡ Some it.status)
member_of_file-ok file member m it h =
    let a = bind-ok (named_or_refused file (physical_named file m)) _ it h in
    let b = bind-ok (named_or_refused member (named member a.0.members)) _ it a.2 in
    let e : record { file = a.0; status = b.0 } ≡ it = cc in
    let there : named file m.files ≡ Some a.0 = (physical-found file m.files a.0 (found-ok (physical_named file m) _ a.0 a.1)).0 in
    let has : named member a.0.members ≡ Some b.0 = found-ok (named member a.0.members) _ b.0 b.1 in (
      subst (λ (x : FoundMember). named file m.files ≡ Some x.file) e there,
      subst (λ (x : FoundMember). named member x.file.members ≡ Some x.status) e has,
    )
