use Rattle.std.proofs.Common.{◌≡◌, ◌∙◌, ◌++◌, ◌≤◌, IsTrue, List, sym, ap, subst, arith}
use Rattle.entry_codec.specs.declared.entries.Entry.{Entry}
use Rattle.journal_model.specs.Journal.{AreNumbered}
use Rattle.block_cache.specs.Cached.{IsStretch, has_entry}
use Rattle.block_cache.proofs.Finds.{has_there, has_within}
use Rattle.block_cache.proofs.Stretches.{stretch_between}
use Rattle.block_cache.proofs.block.Block.copy.Goals as goal

pub copy_between-requires : goal.copy_between-requires
copy_between-requires c =
    let first = c.self.inside.first in
    let entries = c.deref.result.now in
    let same : entries ≡ c.args.self.now = c.deref.ensures.value ∙ c.self.view_is in
    let numbered = subst (λ (l : List Entry). AreNumbered first l) (sym c.deref.ensures.value) c.self.invariant in
    let at = has_within c.args.lo first entries numbered (subst (λ (l : List Entry). IsTrue (has_entry c.args.lo l)) (sym same) c.requires.has) in
    record { from = at.0; below = at.1; some = c.requires.some }

pub returns : goal.returns
returns c =
    let first = c.self.inside.first in
    let entries = c.deref.result.now in
    let reached = c.in_ok-reached.reached in
    let told = c.in_ok-reached.ensures in
    let same : entries ≡ c.args.self.now = c.deref.ensures.value ∙ c.self.view_is in
    let numbered = subst (λ (l : List Entry). AreNumbered first l) (sym c.deref.ensures.value) c.self.invariant in
    let at = has_within c.args.lo first entries numbered (subst (λ (l : List Entry). IsTrue (has_entry c.args.lo l)) (sym same) c.requires.has) in
    record {
      from = told.from;
      upto = told.upto;
      has = subst (λ (l : List Entry). IsTrue (has_entry reached l)) same (has_there reached first entries numbered (omega (arith, at.0, told.from)) told.within);
      copied = λ start all is.
          told.copied ∙ ap (λ (l : List Entry). c.args.found.now.items ++ l)
          (stretch_between start first c.args.lo reached all entries numbered (subst (λ (l : List Entry). IsStretch start all l) (sym same) is) at.0 told.from told.within);
    }
