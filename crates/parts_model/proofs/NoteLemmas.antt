-- The open that a request names is the one that is kept under its name, and what is shown in its place is there.
use Rattle.std.proofs.Common.{◌≡◌, Option, Some, None, true, is_some, IsSome, refl, sym, ap, ◌∙◌}
use Rattle.std.specs.Borrow.{Bor}
use Rattle.std.specs.Option.{option_copied, option_map}
use Rattle.lawful_states.proofs.NameLemmas.{some-equal}
use Rattle.job_table.specs.Opens.{KeptOpen, OpenOrder}
use Rattle.library_steps.specs.State.{OpenState}

pub shown-some : {A B : Type 0} (f : A → B) (o : Option (Bor A)) (wanted : Option B) → option_map f (option_copied o) ≡ wanted → IsSome wanted → is_some o ≡ true
shown-some f None wanted is some = absurd (let no : is_some (option_map f (option_copied None)) ≡ true = ap is_some is ∙ some in cc)
shown-some f (Some b) wanted is some = refl

pub shown-is : {A B : Type 0} (f : A → B) (o : Option (Bor A)) (b : Bor A) (wanted : Option B) → o ≡ Some b → option_map f (option_copied o) ≡ wanted → wanted ≡ Some (f b.now)
shown-is {A = A} f o b wanted is shown = sym shown ∙ ap (λ (p : Option (Bor A)). option_map f (option_copied p)) is

-- an open is known by its two parts
pub same-open : (a b : KeptOpen) (state : Option OpenState) (order : Option OpenOrder) → state ≡ Some a.state → state ≡ Some b.state → order ≡ Some a.order → order ≡ Some b.order → a ≡ b
same-open a b state order own other by also =
    let states : a.state ≡ b.state = some-equal (sym own ∙ other) in
    let orders : a.order ≡ b.order = some-equal (sym by ∙ also) in
    λ i. record { state = states i; order = orders i }
