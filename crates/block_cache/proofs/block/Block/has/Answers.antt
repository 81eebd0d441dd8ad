use Rattle.std.proofs.Common.{◌≡◌, ◌∙◌, List, sym, ap, subst}
use Rattle.entry_codec.specs.declared.entries.Entry.{Entry}
use Rattle.journal_model.specs.Journal.{AreNumbered}
use Rattle.block_cache.specs.Cached.{has_entry}
use Rattle.block_cache.proofs.Finds.{has_is}
use Rattle.block_cache.proofs.block.Block.has.Goals as goal

pub returns : goal.returns
returns c =
    let numbered = subst (λ (l : List Entry). AreNumbered c.self.inside.first l) (sym c.deref.ensures.value) c.self.invariant in
    has_is c.is_within.result c.args.sequence c.self.inside.first c.deref.result.now numbered c.is_within.ensures
    ∙ ap (λ (l : List Entry). has_entry c.args.sequence l) (c.deref.ensures.value ∙ c.self.view_is)
