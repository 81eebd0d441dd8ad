-- How many lines stand before the next record format.
use Rattle.std.proofs.Common.{◌≡◌, ◌∙◌, ◌<◌, ◌+◌, ℕ, suc, ap, Bool, true, false, not, cond, List, ◌∷◌, length, drop, get_or, add-one, arith}
use Rattle.std.specs.List.{prefix_len}
use Rattle.dds_physical.below.dds_source.specs.declared.specifications.Specification.{Specification}
use Rattle.dds_physical.specs.Reading.{is_record}
use Rattle.dds_logical.specs.Judged.{stands_within}
use Rattle.dds_logical.proofs.LoopLemmas.{drop-here}

pub ahead-step : (lines : List Specification) (i : ℕ) (s : Specification) (n total : ℕ) → i < length lines → s ≡ get_or lines i s → is_record s.kind ≡ false
    → n + prefix_len stands_within (drop i lines) ≡ total → n + 1 + prefix_len stands_within (drop (i + 1) lines) ≡ total
unfolding stands_within
ahead-step lines i s n total lt is begins before =
    let here : prefix_len stands_within (drop i lines) ≡ 1 + prefix_len stands_within (drop (suc i) lines) =
    ap (prefix_len stands_within) (drop-here lines i s lt is) ∙ ap (λ (b : Bool). cond (not b) (1 + prefix_len stands_within (drop (suc i) lines)) 0) begins in
    let next : prefix_len stands_within (drop (i + 1) lines) ≡ prefix_len stands_within (drop (suc i) lines) = ap (λ (k : ℕ). prefix_len stands_within (drop k lines)) (add-one i) in
    omega (arith, here, next, before)

pub ahead-found : (lines : List Specification) (i : ℕ) (s : Specification) (n total : ℕ) → i < length lines → s ≡ get_or lines i s → is_record s.kind ≡ true
    → n + prefix_len stands_within (drop i lines) ≡ total → n ≡ total
unfolding stands_within
ahead-found lines i s n total lt is begins before =
    let here : prefix_len stands_within (drop i lines) ≡ 0 =
    ap (prefix_len stands_within) (drop-here lines i s lt is) ∙ ap (λ (b : Bool). cond (not b) (1 + prefix_len stands_within (drop (suc i) lines)) 0) begins in
    omega (arith, here, before)
