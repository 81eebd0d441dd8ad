use Rattle.std.proofs.Common.{◌≡◌, ◌+◌, ◌-◌, ◌≤◌, ◌<◌, ◌++◌, ◌∷◌, [], ◌∙◌, ℕ, List, length, take, drop, Option, IfSome, ap, sym, arith, subst, rules, length-drop}
use Rattle.std.specs.Global.{Vec}
use Rattle.std.specs.Prelude.{IfNone}
use Rattle.std.proofs.lemmas.List.{take_all}
use Rattle.entry_codec.specs.declared.entries.Entry.{Entry}
use Rattle.entry_codec.specs.Spelling.{Begins}
use Rattle.gated_log.proofs.Walking.{damaged_is}
use Rattle.checkpoint.specs.States.{HasNoEntry}
use Rattle.checkpoint.proofs.Loads.{IsReadTo, read_fault, read_further, read_none, read_whole}
use Rattle.checkpoint.proofs.state.entries_of.Goals as goal

pub loop-at-init : goal.loop-at-init
loop-at-init c = record {
  inside = omega arith;
  read = subst (λ (l : List Entry). IsReadTo c.args.block.now 0 l) (sym c.new-entries.ensures.items) (read_none c.args.block.now);
}

pub loop-at-preserved : goal.loop-at-preserved
loop-at-preserved c =
    let block = c.args.block.now in
    let at = c.loop-at.at in
    let e = c.in-Some.entry in
    let count = c.in-Some.count in
    let rest : take (length block - at) (drop at block) ≡ drop at block = take_all (length block - at) (drop at block) (omega (arith, length-drop at block)) in
    let told = subst (λ (o : Option (Entry × ℕ)). IfSome o (λ x. Begins (take (length block - at) (drop at block)) x.0 x.1)) c.in-Some.is c.in_ok-entry.ensures.found in
    let begins : Begins (drop at block) e count = subst (λ (l : List ℕ). Begins l e count) rest told in
    record {
      inside = omega (arith, begins.within, length-drop at block, c.loop-at.invariant.inside);
      read = read_further block at count c.loop-at.entries.items c.push_reserved.new.self.items e c.loop-at.invariant.read begins (c.push_reserved.ensures.items ∙ ap (λ (l : List Entry). l ++ e ∷ []) c.reserve.ensures.items);
    }

pub returns-in_default-clause-damaged : goal.returns-in_default-clause-damaged
returns-in_default-clause-damaged c = λ a place is.
    let block = c.args.block.now in
    let at = c.loop-at.at in
    let short : at < length block = search rules in
    let rest : take (length block - at) (drop at block) ≡ drop at block = take_all (length block - at) (drop at block) (omega (arith, length-drop at block)) in
    let none = subst (λ (o : Option (Entry × ℕ)). IfNone o (HasNoEntry (take (length block - at) (drop at block)))) c.in_default.is c.in_ok-entry.ensures.none in
    let parts = damaged_is {T = Vec Entry} c.args.area (37 + at) a place is in
    (parts.0, read_fault block at place c.loop-at.entries.items c.loop-at.invariant.read short (subst (λ (l : List ℕ). HasNoEntry l) rest none) parts.1)

pub returns-clause-each : goal.returns-clause-each
returns-clause-each c = c.loop-at.invariant.read.each

pub returns-clause-whole : goal.returns-clause-whole
returns-clause-whole c =
    let past : length c.args.block.now ≤ c.loop-at.at = search rules in
    read_whole c.args.block.now c.loop-at.at c.loop-at.entries.items c.loop-at.invariant.read past
