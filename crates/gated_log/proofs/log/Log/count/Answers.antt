use Rattle.std.proofs.Common.{◌<◌, ◌^◌, ℕ, List, get_or, ap, subst}
use Rattle.gated_log.proofs.Blocks.{lengths_short}
use Rattle.gated_log.proofs.log.Log.count.Goals as goal

pub returns-clause-short : goal.returns-clause-short
returns-clause-short c = λ n. subst (λ (l : List ℕ). get_or l n 0 < 2 ^ 32) (ap (λ v. v.lengths) c.self.view_is) (lengths_short c.self.inside.places.items n)
