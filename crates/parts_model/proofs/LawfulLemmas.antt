-- What holds of the parts, seen as one state, and of the jobs where one may have begun.
use Rattle.std.proofs.Common.{◌≡◌, Result, Ok, Err, OnErr, subst, ap}
use Rattle.job_table.specs.Table.{JobTable}
use Rattle.lawful_states.specs.Lawful.{IsLibrary}
use Rattle.parts_model.specs.Parts.{LibraryParts}

-- what holds of the parts holds of the state that they stand for
pub IsLibrary-seen : (inside now : LibraryParts) → inside ≡ now → IsLibrary inside.state → IsLibrary now.state
IsLibrary-seen inside now seen lawful = subst (λ (p : LibraryParts). IsLibrary p.state) seen lawful

pub OnErr-jobs : {A E : Type 0} (result : Result A E) (now before : JobTable) → OnErr result (now ≡ before) → OnErr result (now.jobs ≡ before.jobs)
OnErr-jobs (Ok a) now before kept = kept
OnErr-jobs (Err e) now before kept = ap (λ (t : JobTable). t.jobs) kept
