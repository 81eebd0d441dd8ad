use Rattle.std.proofs.Common.{◌∙◌, ℕ, nat_eq, not, sym, ap}
use Rattle.open_cycles.specs.Kept.{live}
use Rattle.open_cycles.proofs.ReadLemmas.{times-touched}
use Rattle.open_cycles.proofs.kept.Changes.has_member.Goals as goal

pub returns : goal.returns
returns c = rw (← c.self.view_is) (ap (λ (n : ℕ). not (nat_eq n 0)) (c.count_of.ensures ∙ c.self.invariant.2 c.args.member) ∙ sym (times-touched c.args.member (live c.self.inside.kept.items)))
