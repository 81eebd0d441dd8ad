-- What is known of a plan that isn't refused, followed from one refusal to the next.
use Rattle.std.proofs.Common.{◌≡◌, Bool, true, false, Option, Some, None, Result, Ok, Err, IfOk, refl}
use Rattle.library_model.specs.declared.replies.Reply.{Reply}
use Rattle.library_steps.specs.Change.{Change, does}
use Rattle.library_steps.specs.Refusals.{◌>>=◌, found, refuse_if, refuse_with}

-- what is there, where something is, is so
pub record Holds {A : Type 0} (r : Result A Reply) (P : A → Type 0) : Type 0 where
  pub holds : IfOk r P

pub each-holds : {A : Type 0} (r : Result A Reply) (P : A → Type 0) → ((x : A) → P x) → Holds r P
each-holds (Ok x) P each = record { holds = each x }
each-holds (Err e) P each = record { holds = tt }

pub found-holds : {A : Type 0} (thing : Option A) (reply : Reply) → Holds (found thing reply) (λ x. thing ≡ Some x)
found-holds None reply = record { holds = tt }
found-holds (Some x) reply = record { holds = refl }

pub refuse_if-holds : (condition : Bool) (reply : Reply) → Holds (refuse_if condition reply) (λ passed. condition ≡ false)
refuse_if-holds true reply = record { holds = tt }
refuse_if-holds false reply = record { holds = refl }

pub refuse_with-holds : {A : Type 0} (reply : A → Reply) (reason : Option A) → Holds (refuse_with reply reason) (λ passed. reason ≡ None)
refuse_with-holds reply None = record { holds = refl }
refuse_with-holds reply (Some reason) = record { holds = tt }

-- behind a refusal that doesn't matter
pub then-holds : {A B : Type 0} (r : Result A Reply) (next : A → Result B Reply) (P : B → Type 0) → ((x : A) → Holds (next x) P) → Holds (r >>= next) P
then-holds (Ok x) next P rest = rest x
then-holds (Err e) next P rest = record { holds = tt }

-- behind one that does
pub bind-holds : {A B : Type 0} (r : Result A Reply) (Q : A → Type 0) (next : A → Result B Reply) (P : B → Type 0) → Holds r Q → ((x : A) → Q x → Holds (next x) P) → Holds (r >>= next) P
bind-holds (Ok x) Q next P here rest = rest x here.holds
bind-holds (Err e) Q next P here rest = record { holds = tt }

-- what holds of the effect of each plan holds of the change
pub does-holds : {A : Type 0} (effect : A → Change) (plan : Result A Reply) (P : Change → Type 0) → Holds plan (λ x. P (effect x)) → Holds (does effect plan) P
does-holds effect (Ok x) P here = record { holds = here.holds }
does-holds effect (Err e) P here = record { holds = tt }

pub wider-holds : {A : Type 0} (r : Result A Reply) (P Q : A → Type 0) → ((x : A) → P x → Q x) → Holds r P → Holds r Q
wider-holds (Ok x) P Q widens here = record { holds = widens x here.holds }
wider-holds (Err e) P Q widens here = record { holds = tt }
