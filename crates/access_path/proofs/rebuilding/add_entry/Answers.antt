use Rattle.std.proofs.Common.{◌≡◌, ◌+◌, sym, subst, List}
use Rattle.std.specs.Prelude.{All}
use Rattle.key_order.below.key_pages.specs.declared.entries.Entry.{Entry}
use Rattle.key_order.specs.EntryList.{with_entry}
use Rattle.access_path.specs.Rebuilding.{IsBefore}
use Rattle.access_path.proofs.RebuildLemmas.{before-with}
use Rattle.access_path.proofs.rebuilding.add_entry.Goals as goal

pub returns-clause-before : goal.returns-clause-before
returns-clause-before c =
    let same : c.insert_reserved.new.self.entries ≡ with_entry c.args.pages.now.falling c.args.entry c.args.pages.now.entries = cc in
    subst (λ (w : List Entry). All (IsBefore c.args.entry.format (c.args.entry.rrn + 1)) w) (sym same) (before-with c.args.pages.now.falling c.args.entry c.args.pages.now.entries c.requires)
