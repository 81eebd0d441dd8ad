use Rattle.std.proofs.Common.{◌≡◌, ◌+◌, ◌-◌, ◌≤◌, ◌<◌, ◌++◌, ℕ, List, [], ◌∷◌, Some, None, Option, length, take, drop, sym, ◌∙◌, ap, subst, arith, rules, length-drop}
use Rattle.std.proofs.lemmas.List.{take_all}
use Rattle.entry_codec.specs.declared.entries.Entry.{Entry}
use Rattle.entry_codec.specs.Spelling.{IsSpelled, spelling}
use Rattle.journal_book.proofs.Taking.{IsReadUpTo, if_is, none_some, upto_begin, upto_further, upto_none, upto_whole}
use Rattle.journal_book.proofs.blocks.read_block.Goals as goal

pub loop-at-init : goal.loop-at-init
loop-at-init c = record { inside = omega arith; read = subst (λ (l : List Entry). IsReadUpTo c.args.block.now 0 l) (sym c.new-entries.ensures.items) (upto_begin c.args.block.now) }

pub returns-in_default : goal.returns-in_default
returns-in_default c = λ entries is.
    let block = c.args.block.now in
    let at = c.loop-at.at in
    let short : at < length block = search rules in
    let rest : take (length block - at) (drop at block) ≡ drop at block = take_all (length block - at) (drop at block) (omega (arith, length-drop at block)) in
    upto_none block at c.loop-at.entries.items entries c.loop-at.invariant.read short (λ e more has front. none_some (e, length (spelling e)) (sym c.in_default.is ∙ c.in_ok-entry.ensures.only e more has (rest ∙ front))) is

pub loop-at-preserved : goal.loop-at-preserved
loop-at-preserved c =
    let block = c.args.block.now in
    let at = c.loop-at.at in
    let short : at < length block = search rules in
    let rest : take (length block - at) (drop at block) ≡ drop at block = take_all (length block - at) (drop at block) (omega (arith, length-drop at block)) in
    let within = if_is _ _ _ c.in-Some.is c.in_ok-entry.ensures.within in
    let items : c.push_reserved.new.self.items ≡ c.loop-at.entries.items ++ c.in-Some.entry ∷ [] = c.push_reserved.ensures.items ∙ ap (λ (l : List Entry). l ++ c.in-Some.entry ∷ []) c.reserve.ensures.items in
    record {
      inside = omega (arith, within.1, ap (λ (l : List ℕ). length l) rest, length-drop at block, c.loop-at.invariant.inside);
      read = subst (λ (l : List Entry). IsReadUpTo block (at + c.in-Some.count) l) (sym items)
          (upto_further block at c.in-Some.count c.in-Some.entry c.loop-at.entries.items short (λ e more has front. sym c.in-Some.is ∙ c.in_ok-entry.ensures.only e more has (rest ∙ front)) c.loop-at.invariant.read);
    }

pub returns : goal.returns
returns c = λ entries is.
    let past : length c.args.block.now ≤ c.loop-at.at = search rules in
    upto_whole c.args.block.now c.loop-at.at c.loop-at.entries.items entries c.loop-at.invariant.read past is
