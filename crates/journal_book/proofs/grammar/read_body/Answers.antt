use Rattle.std.proofs.Common.{◌≡◌, ◌+◌, ◌-◌, ◌≤◌, ◌<◌, ℕ, List, length, take, drop, Option, IfSome, MatchOption, ap, arith, subst, rules, length-drop}
use Rattle.std.proofs.lemmas.List.{take_all}
use Rattle.journal_book.specs.Bodies.{HasNoNext, IsNext}
use Rattle.journal_book.proofs.Bodies.{read_none, read_further, read_whole, read_fault}
use Rattle.journal_book.proofs.grammar.read_body.Goals as goal

pub loop-at-init : goal.loop-at-init
loop-at-init c = record { inside = omega arith; read = read_none c.args.block.now c.args.last }

pub returns-in_default : goal.returns-in_default
returns-in_default c =
    let block = c.args.block.now in
    let at = c.loop-at.at in
    let reached = c.loop-at.reached in
    let short : at < length block = search rules in
    let rest : take (length block - at) (drop at block) ≡ drop at block = take_all (length block - at) (drop at block) (omega (arith, length-drop at block)) in
    let told = subst (λ (o : Option ℕ). MatchOption o (HasNoNext reached (take (length block - at) (drop at block))) (λ count. IsNext reached (take (length block - at) (drop at block)) count)) c.in_default.is c.in_ok-count.ensures.next in
    read_fault block c.args.last at reached c.loop-at.invariant.read short (subst (λ (l : List ℕ). HasNoNext reached l) rest told)

pub loop-at-preserved : goal.loop-at-preserved
loop-at-preserved c =
    let block = c.args.block.now in
    let at = c.loop-at.at in
    let reached = c.loop-at.reached in
    let count = c.in-Some.count in
    let rest : take (length block - at) (drop at block) ≡ drop at block = take_all (length block - at) (drop at block) (omega (arith, length-drop at block)) in
    let told = subst (λ (o : Option ℕ). MatchOption o (HasNoNext reached (take (length block - at) (drop at block))) (λ n. IsNext reached (take (length block - at) (drop at block)) n)) c.in-Some.is c.in_ok-count.ensures.next in
    let within = subst (λ (o : Option ℕ). IfSome o (λ n. (1 ≤ n) × (n ≤ length (take (length block - at) (drop at block))))) c.in-Some.is c.in_ok-count.ensures.within in
    record {
      inside = omega (arith, within.1, ap length rest, length-drop at block, c.loop-at.invariant.inside);
      read = read_further block c.args.last at reached count c.loop-at.invariant.read (subst (λ (l : List ℕ). IsNext reached l count) rest told);
    }

pub returns : goal.returns
returns c =
    let past : length c.args.block.now ≤ c.loop-at.at = search rules in
    read_whole c.args.block.now c.args.last c.loop-at.at c.loop-at.reached c.loop-at.invariant.read past
