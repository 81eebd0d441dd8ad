use Rattle.std.proofs.Common.{◌≡◌, ◌∙◌, ℕ, List, Option, Some, slice_get, sym, ap, subst}
use Rattle.std.specs.Borrow.{Bor}
use Rattle.std.specs.List.{AllByRecursion}
use Rattle.std.specs.Map.Iter.{deref_pair}
use Rattle.std.specs.Option.{option_map}
use Rattle.lawful_states.proofs.NameLemmas.{some-equal}
use Rattle.library_steps.specs.State.{FileState}
use Rattle.library_steps.specs.UniqueKeys.{UniquePath, all_apart, uniques_by}
use Rattle.parts_model.specs.Answers.{MayAllow}
use Rattle.parts_model.specs.Given.{IsTold}
use Rattle.parts_model.proofs.GivenKeys.{one-apart}
use Rattle.library_parts.proofs.given.file_apart.Goals as goal

pub returns-in-Some-2 : goal.returns-in-Some-2
returns-in-Some-2 c = λ m later entry same also told.
    let paths = c.args.paths.now.paths in
    let own : List ℕ × FileState = (c.in-Some.name.now, c.in-Some.file.now) in
    let unique : UniquePath = record { file = c.in-Some.name.now; path = c.in-Some-2.path } in
    let at : slice_get c.args.catalogue.now.files c.args.place ≡ Some own = sym c.at.ensures ∙ ap (λ (o : Option (Bor (List ℕ) × Bor FileState)). option_map deref_pair o) c.in-Some.is in
    let is = rw c.in-Some-2.is at c.in_ok-path.ensures in
    subst (λ (e : List ℕ × FileState). AllByRecursion (IsTold later.members paths) (uniques_by e.1.spec m c.args.member e)
    → MayAllow c.path_apart.result (all_apart (uniques_by e.1.spec m c.args.member e) later)) (some-equal (sym at ∙ also))
    (λ are. one-apart c.path_apart.result (uniques_by c.in-Some.file.now.spec m c.args.member own) unique paths later (is m c.in-Some.name.now same) are (c.path_apart.ensures later))
    told
