-- What holds of the plans and changes of a request where they aren't refused, followed from one refusal to the next.
use Rattle.std.proofs.Common.{◌≡◌, Bool, true, false, Option, Some, None, Result, Ok, Err, IfOk, refl, subst}
use Rattle.std.proofs.lemmas.Result.{IfOk-weaker}
use Rattle.library_model.specs.declared.replies.Reply.{Reply}
use Rattle.library_steps.specs.Change.{Change, does}
use Rattle.library_steps.specs.Refusals.{◌>>=◌, found, refuse_if, refuse_with}

-- what is there, where something is, is so
pub record Holds {A : Type 0} (r : Result A Reply) (P : A → Type 0) : Type 0 where
  pub holds : IfOk r P

-- of each value, so of the one that is there
pub each-holds : {A : Type 0} (r : Result A Reply) (P : A → Type 0) → ((x : A) → P x) → Holds r P
each-holds (Ok x) P each = record { holds = each x }
each-holds (Err e) P each = record { holds = tt }

pub wider-holds : {A : Type 0} (r : Result A Reply) (P Q : A → Type 0) → ((x : A) → P x → Q x) → Holds r P → Holds r Q
wider-holds r P Q widens here = record { holds = IfOk-weaker r P Q widens here.holds }

-- behind a refusal that doesn't matter
pub then-holds : {A B : Type 0} (r : Result A Reply) (next : A → Result B Reply) (P : B → Type 0) → ((x : A) → Holds (next x) P) → Holds (r >>= next) P
then-holds (Ok x) next P rest = rest x
then-holds (Err e) next P rest = record { holds = tt }

-- behind one that does
pub bind-holds : {A B : Type 0} (r : Result A Reply) (Q : A → Type 0) (next : A → Result B Reply) (P : B → Type 0) → Holds r Q → ((x : A) → Q x → Holds (next x) P) → Holds (r >>= next) P
bind-holds (Ok x) Q next P here rest = rest x here.holds
bind-holds (Err e) Q next P here rest = record { holds = tt }

-- what holds of the effect of each plan holds of the change
pub does-holds : {A : Type 0} (effect : A → Change) (plan : Result A Reply) (P : Change → Type 0) → Holds plan (λ x. P (effect x)) → Holds (does effect plan) P
does-holds effect (Ok x) P here = record { holds = here.holds }
does-holds effect (Err e) P here = record { holds = tt }

-- whatever the plan is
pub effect-holds : {A : Type 0} (effect : A → Change) (plan : Result A Reply) (P : Change → Type 0) → ((x : A) → P (effect x)) → Holds (does effect plan) P
effect-holds effect plan P each = does-holds effect plan P (each-holds plan (λ x. P (effect x)) each)

-- ---- what a step of a plan tells where it isn't refused

pub found-there : {A : Type 0} (thing : Option A) (reply : Reply) → Holds (found thing reply) (λ x. thing ≡ Some x)
found-there None reply = record { holds = tt }
found-there (Some x) reply = record { holds = refl }

pub if-not : (test : Bool) (reply : Reply) → Holds (refuse_if test reply) (λ ok. test ≡ false)
if-not true reply = record { holds = tt }
if-not false reply = record { holds = refl }

pub with-none : {A : Type 0} (reply : A → Reply) (reason : Option A) → Holds (refuse_with reply reason) (λ ok. reason ≡ None)
with-none reply None = record { holds = refl }
with-none reply (Some reason) = record { holds = tt }

-- so of what is done
pub holds-done : {A : Type 0} (r : Result A Reply) (P : A → Type 0) (x : A) → r ≡ Ok x → Holds r P → P x
holds-done {A} r P x is here = subst (λ (o : Result A Reply). IfOk o P) is here.holds
