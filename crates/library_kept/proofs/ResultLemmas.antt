-- What is known of a plan that wasn't refused, followed from one refusal to the next.
use Rattle.std.proofs.Common.{◌≡◌, Bool, true, false, Option, Some, None, Result, Ok, Err, refl, subst}
use Rattle.library_model.specs.declared.replies.Reply.{Reply}
use Rattle.library_steps.specs.Change.{Change, does}
use Rattle.library_steps.specs.Refusals.{◌>>=◌, refuse_if, refuse_with}

pub ok-equal : {A : Type 0} (a b : A) → ◌≡◌ {A = Result A Reply} (Ok a) (Ok b) → a ≡ b
ok-equal a b e = cc

pub bind-ok : {A B : Type 0} (r : Result A Reply) (next : A → Result B Reply) (b : B) → (r >>= next) ≡ Ok b → (a : A) × (r ≡ Ok a) × (next a ≡ Ok b)
bind-ok (Ok a) next b h = (a, refl, h)
bind-ok (Err e) next b h = absurd cc

-- what each plan that wasn't refused does, is done
pub does-each : {A : Type 0} (effect : A → Change) (plan : Result A Reply) (done : Change) (P : Change → Type 0) → does effect plan ≡ Ok done → ((a : A) → plan ≡ Ok a → P (effect a)) → P done
does-each effect (Ok a) done P h each = let same : effect a ≡ done = ok-equal (effect a) done h in subst P same (each a refl)
does-each effect (Err e) done P h each = absurd cc

pub not-refused : (b : Bool) (reply : Reply) (x : Bool) → refuse_if b reply ≡ Ok x → b ≡ false
not-refused true reply x h = absurd cc
not-refused false reply x h = refl

pub none-refused : {A : Type 0} (say : A → Reply) (o : Option A) (x : Bool) → refuse_with say o ≡ Ok x → o ≡ None
none-refused say None x h = refl
none-refused say (Some a) x h = absurd cc
