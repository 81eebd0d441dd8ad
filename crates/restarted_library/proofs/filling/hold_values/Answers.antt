use Rattle.std.proofs.Common.{◌≡◌, ◌∙◌, Option, Some, sym, ap, subst}
use Rattle.std.specs.List.{AllByRecursion}
use Rattle.std.specs.Borrow.{Bor}
use Rattle.std.specs.Option.{option_copied}
use Rattle.record_fmt.specs.declared.formats.Format.{Format}
use Rattle.lawful_states.specs.Lawful.{HoldsValues}
use Rattle.restarted_library.proofs.FitLemmas.{format-of}
use Rattle.restarted_library.proofs.filling.hold_values.Goals as goal

pub returns-in_ok-are_records-in-Some : goal.returns-in_ok-are_records-in-Some
returns-in_ok-are_records-in-Some c =
    let found : Some c.in-Some.format.now ≡ _ = sym (ap (λ (o : Option (Bor Format)). option_copied o) c.in-Some.is) ∙ c.format.ensures in
    subst (λ (f : Format). AllByRecursion (HoldsValues f.fields) c.args.slots.now) (format-of c.args.file.now.spec c.in-Some.format.now found) c.in_ok-are_records-in-Some.ensures
