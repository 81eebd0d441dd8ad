use Rattle.std.proofs.Common.{◌≡◌, ◌≢◌, ◌+◌, ◌-◌, ◌≤◌, ◌<◌, ◌++◌, ℕ, List, Option, Some, None, length, take, drop, sym, ◌∙◌, ap, arith, rules, length-drop}
use Rattle.std.proofs.lemmas.Bool.{false≢true}
use Rattle.std.proofs.lemmas.List.{take_all}
use Rattle.journal_book.proofs.Taking.{if_is}
use Rattle.journal_book.proofs.Seeking.{no_pair, passed_begin, passed_end, passed_follows, passed_here, passed_on, passed_stuck}
use Rattle.journal_book.proofs.placing.seek.Goals as goal

pub loop-at-init : goal.loop-at-init
loop-at-init c = record { inside = omega arith; read = passed_begin c.args.sequence c.args.last c.args.block.now }

pub returns-in_default : goal.returns-in_default
returns-in_default c = λ group is numbered.
    let block = c.args.block.now in
    let at = c.loop-at.at in
    let short : at < length block = search rules in
    let rest : take (length block - at) (drop at block) ≡ drop at block = take_all (length block - at) (drop at block) (omega (arith, length-drop at block)) in
    passed_stuck c.args.sequence c.args.last group block at c.loop-at.reached short numbered (c.loop-at.invariant.read group is numbered)
    (λ e more has front. no_pair (e.sequence, length (Rattle.entry_codec.specs.Spelling.spelling e)) (sym c.in_default.is ∙ c.in_ok-found.ensures.only e more has (rest ∙ front)))

pub returns-then-found-sequence : goal.returns-then-found-sequence
returns-then-found-sequence c = λ group is numbered.
    let block = c.args.block.now in
    let at = c.loop-at.at in
    let short : at < length block = search rules in
    let rest : take (length block - at) (drop at block) ≡ drop at block = take_all (length block - at) (drop at block) (omega (arith, length-drop at block)) in
    passed_here c.args.sequence c.args.last group block at c.loop-at.reached short numbered (c.loop-at.invariant.read group is numbered) c.in-Some.found c.in-Some.count (λ e more has front. sym c.in-Some.is ∙ c.in_ok-found.ensures.only e more has (rest ∙ front)) c.if-found-sequence.true

pub returns-else-follows : goal.returns-else-follows
returns-else-follows c = λ group is numbered.
    let block = c.args.block.now in
    let at = c.loop-at.at in
    let short : at < length block = search rules in
    let rest : take (length block - at) (drop at block) ≡ drop at block = take_all (length block - at) (drop at block) (omega (arith, length-drop at block)) in
    let next = passed_follows c.args.sequence c.args.last group block at c.loop-at.reached short numbered (c.loop-at.invariant.read group is numbered) c.in-Some.found c.in-Some.count (λ e more has front. sym c.in-Some.is ∙ c.in_ok-found.ensures.only e more has (rest ∙ front)) in
    false≢true (sym c.if-follows.false ∙ c.follows.ensures.1 next)

pub loop-at-preserved : goal.loop-at-preserved
loop-at-preserved c =
    let block = c.args.block.now in
    let at = c.loop-at.at in
    let short : at < length block = search rules in
    let rest : take (length block - at) (drop at block) ≡ drop at block = take_all (length block - at) (drop at block) (omega (arith, length-drop at block)) in
    let within = if_is _ _ _ c.in-Some.is c.in_ok-found.ensures.within in
    record {
      inside = omega (arith, within.1, ap (λ (l : List ℕ). length l) rest, length-drop at block, c.loop-at.invariant.inside);
      read = λ group is numbered.
          passed_on c.args.sequence c.args.last group block at c.loop-at.reached short numbered (c.loop-at.invariant.read group is numbered) c.in-Some.found c.in-Some.count (λ e more has front. sym c.in-Some.is ∙ c.in_ok-found.ensures.only e more has (rest ∙ front)) c.if-found-sequence.false;
    }

pub returns : goal.returns
returns c = λ group is numbered.
    let past : length c.args.block.now ≤ c.loop-at.at = search rules in
    passed_end c.args.sequence c.args.last group c.args.block.now c.loop-at.at c.loop-at.reached past (c.loop-at.invariant.read group is numbered)
