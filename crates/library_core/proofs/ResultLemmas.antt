-- What holds of the plans and changes of a request where they aren't refused, followed from one refusal to the next.
use Rattle.std.proofs.Common.{◌≡◌, Bool, true, false, Option, Some, None, Result, Ok, Err, IfOk, IfSome, refl}
use Rattle.std.proofs.lemmas.Result.{IfOk-weaker}
use Rattle.library_model.specs.declared.replies.Reply.{Reply}
use Rattle.library_steps.specs.Change.{Change, does}
use Rattle.library_steps.specs.Refusals.{◌>>=◌, found, refuse_if}

-- what is there, where something is, is so
pub record Holds {A : Type 0} (r : Result A Reply) (P : A → Type 0) : Type 0 where
  pub holds : IfOk r P

-- of each value, so of the one that is there
pub each-holds : {A : Type 0} (r : Result A Reply) (P : A → Type 0) → ((x : A) → P x) → Holds r P
each-holds (Ok x) P each = record { holds = each x }
each-holds (Err e) P each = record { holds = tt }

pub found-holds : {A : Type 0} (thing : Option A) (reply : Reply) (P : A → Type 0) → IfSome thing P → Holds (found thing reply) P
found-holds None reply P holds = record { holds = tt }
found-holds (Some x) reply P holds = record { holds = holds }

pub wider-holds : {A : Type 0} (r : Result A Reply) (P Q : A → Type 0) → ((x : A) → P x → Q x) → Holds r P → Holds r Q
wider-holds r P Q widens here = record { holds = IfOk-weaker r P Q widens here.holds }

-- behind a refusal that doesn't matter
pub then-holds : {A B : Type 0} (r : Result A Reply) (next : A → Result B Reply) (P : B → Type 0) → ((x : A) → Holds (next x) P) → Holds (r >>= next) P
then-holds (Ok x) next P rest = rest x
then-holds (Err e) next P rest = record { holds = tt }

-- behind one that does
pub bind-holds : {A B : Type 0} (r : Result A Reply) (Q : A → Type 0) (next : A → Result B Reply) (P : B → Type 0) → Holds r Q → ((x : A) → Q x → Holds (next x) P) → Holds (r >>= next) P
bind-holds (Ok x) Q next P here rest = rest x here.holds
bind-holds (Err e) Q next P here rest = record { holds = tt }

-- what holds of the effect of each plan holds of the change
pub does-holds : {A : Type 0} (effect : A → Change) (plan : Result A Reply) (P : Change → Type 0) → Holds plan (λ x. P (effect x)) → Holds (does effect plan) P
does-holds effect (Ok x) P here = record { holds = here.holds }
does-holds effect (Err e) P here = record { holds = tt }

-- and backwards: what was found where nothing was refused
pub bind-ok : {A B : Type 0} (r : Result A Reply) (next : A → Result B Reply) (b : B) → (r >>= next) ≡ Ok b → (a : A) × (r ≡ Ok a) × (next a ≡ Ok b)
bind-ok (Ok a) next b h = (a, refl, h)
bind-ok (Err e) next b h = absurd cc

pub not-refused : (b : Bool) (reply : Reply) (x : Bool) → refuse_if b reply ≡ Ok x → b ≡ false
not-refused true reply x h = absurd cc
not-refused false reply x h = refl
