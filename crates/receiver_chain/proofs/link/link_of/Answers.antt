use Rattle.std.proofs.Common.{◌≡◌, ℕ, ◌+◌, ◌-◌, List, [], length, get_or, ◌∙◌, ap, subst, arith, MatchOption}
use Rattle.std.proofs.lemmas.List.{length-map}
use Rattle.receiver_chain.specs.Links.{IsLink, IsNoLink}
use Rattle.receiver_chain.proofs.link.link_of.Goals as goal

pub returns-clause-link : goal.returns-clause-link
returns-clause-link g c = λ tells blocks settled.
    let last : c.count-count.result - 1 ≡ length blocks - 1 = omega (arith, c.count-count.ensures.count, ap length settled.lengths, length-map blocks (λ (b : List ℕ). length b)) in
    let bytes = c.deref.ensures.value ∙ c.in_ok-block.ensures.block tells blocks settled ∙ ap (λ (n : ℕ). get_or blocks n []) last in
    subst (λ (b : List ℕ). MatchOption c.in_ok-found.found (IsNoLink (c.args.receiver + 1) b) (λ before. IsLink (c.args.receiver + 1) before b)) bytes c.in_ok-found.ensures
