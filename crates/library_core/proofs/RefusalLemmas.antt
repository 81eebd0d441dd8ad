-- What each refusal of a request tells of: the library's state, and neither want of memory nor the store's fault. Followed from one refusal to the next.
use Rattle.std.proofs.Common.{◌≡◌, Bool, true, false, if◌then◌else◌, Option, Some, None, Result, Ok, Err, subst}
use Rattle.library_model.specs.declared.replies.Reply.{Reply}
use Rattle.library_steps.specs.Change.{Change, does}
use Rattle.library_steps.specs.Refusals.{◌>>=◌, found, refuse_if, refuse_with}
use Rattle.library_core.specs.Laws.{is_fault}

abbrev pub Told : {A : Type 0} → Result A Reply → Type 0
Told (Ok a) = Unit {0}
Told (Err reply) = is_fault reply ≡ false

-- where it is refused, the reply is no fault
pub record Tells {A : Type 0} (r : Result A Reply) : Type 0 where
  pub told : Told r

pub told-of : {A : Type 0} (r : Result A Reply) (reply : Reply) → Tells r → r ≡ Err reply → is_fault reply ≡ false
told-of (Ok a) reply tells is = absurd cc
told-of (Err other) reply tells is = let same : other ≡ reply = cc in subst (λ (x : Reply). is_fault x ≡ false) same tells.told

pub ok-tells : {A : Type 0} (a : A) → Tells (Ok a)
ok-tells a = record { told = tt }

pub then-tells : {A B : Type 0} (r : Result A Reply) (next : A → Result B Reply) → Tells r → ((a : A) → Tells (next a)) → Tells (r >>= next)
then-tells (Ok a) next here rest = rest a
then-tells (Err reply) next here rest = record { told = here.told }

pub refused-last : (b : Bool) (reply : Reply) → is_fault reply ≡ false → Tells (refuse_if b reply)
refused-last true reply told = record { told = told }
refused-last false reply told = record { told = tt }

pub refused-then : {B : Type 0} (b : Bool) (reply : Reply) (next : Bool → Result B Reply) → is_fault reply ≡ false → ((x : Bool) → Tells (next x)) → Tells (refuse_if b reply >>= next)
refused-then b reply next told rest = then-tells (refuse_if b reply) next (refused-last b reply told) rest

pub reason-last : {A : Type 0} (reply : A → Reply) (reason : Option A) → ((a : A) → is_fault (reply a) ≡ false) → Tells (refuse_with reply reason)
reason-last reply None told = record { told = tt }
reason-last reply (Some a) told = record { told = told a }

pub reason-then : {A B : Type 0} (reply : A → Reply) (reason : Option A) (next : Bool → Result B Reply) → ((a : A) → is_fault (reply a) ≡ false) → ((x : Bool) → Tells (next x))
    → Tells (refuse_with reply reason >>= next)
reason-then reply reason next told rest = then-tells (refuse_with reply reason) next (reason-last reply reason told) rest

pub found-last : {A : Type 0} (thing : Option A) (reply : Reply) → is_fault reply ≡ false → Tells (found thing reply)
found-last None reply told = record { told = told }
found-last (Some a) reply told = record { told = tt }

pub found-then : {A B : Type 0} (thing : Option A) (reply : Reply) (next : A → Result B Reply) → is_fault reply ≡ false → ((a : A) → Tells (next a)) → Tells (found thing reply >>= next)
found-then thing reply next told rest = then-tells (found thing reply) next (found-last thing reply told) rest

pub if-tells : {A : Type 0} (b : Bool) (x y : Result A Reply) → Tells x → Tells y → Tells (if b then x else y)
if-tells true x y here there = here
if-tells false x y here there = there

pub does-tells : {A : Type 0} (effect : A → Change) (plan : Result A Reply) → Tells plan → Tells (does effect plan)
does-tells effect (Ok a) here = record { told = tt }
does-tells effect (Err reply) here = record { told = here.told }
