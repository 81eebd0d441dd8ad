use Rattle.std.proofs.Common.{Some, ap, ◌∙◌}
use Rattle.key_pages.specs.declared.entries.Entry.{Entry}
use Rattle.key_pages.specs.EntryList.{EntryList}
use Rattle.std.specs.Prelude.{Option}
use Rattle.file_cursor.specs.Finding.{where_equal, chain_key}
use Rattle.file_cursor.proofs.ChainLemmas.{chain-same}
use Rattle.file_cursor.proofs.keyed.first_upto.Goals as goal

pub returns-in_default : goal.returns-in_default
returns-in_default c =
    ap (λ (o : Option Entry). where_equal c.args.key.now o) c.in_default.ensures
    ∙ chain-same c.pages-pages.result.now.falling c.args.key c.pages-pages.result.now.entries c.in_order.ensures.order
    ∙ ap (λ (list : EntryList). chain_key c.args.key.now list.entries) c.pages-pages.ensures

pub returns : goal.returns
returns c =
    ap (λ (o : Option Entry). where_equal c.args.key.now o) (ap Some c.hit_on.ensures ∙ c.in-Some.ensures)
    ∙ chain-same c.pages-pages.result.now.falling c.args.key c.pages-pages.result.now.entries c.in_order.ensures.order
    ∙ ap (λ (list : EntryList). chain_key c.args.key.now list.entries) c.pages-pages.ensures
