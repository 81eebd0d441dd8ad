use Rattle.std.proofs.Common.{Some, ap, sym, subst, refl, ◌∙◌}
use Rattle.key_pages.specs.EntryList.{EntryList}
use Rattle.file_cursor.specs.Finding.{prior_from}
use Rattle.file_cursor.specs.Reading.{AreNumbered}
use Rattle.file_cursor.proofs.SideLemmas.{prior-same}
use Rattle.file_cursor.proofs.keyed.prior.Goals as goal

pub prior-requires : goal.prior-requires
prior-requires c =
    subst AreNumbered (sym c.pages.ensures) (c.if-is_by_number.ensures.by_number refl c.args.path.now c.requires)

pub returns-in_default : goal.returns-in_default
returns-in_default c =
    c.in_default.ensures
    ∙ prior-same c.pages-2.result.now.falling c.in_path.result c.args.spot.now.position c.pages-2.result.now.entries c.in_path.ensures
    ∙ ap (λ (list : EntryList). prior_from list.falling list.entries c.args.spot.now.position) c.pages-2.ensures

pub returns : goal.returns
returns c =
    ap Some c.hit_on.ensures
    ∙ c.in-Some.ensures
    ∙ prior-same c.pages-2.result.now.falling c.in_path.result c.args.spot.now.position c.pages-2.result.now.entries c.in_path.ensures
    ∙ ap (λ (list : EntryList). prior_from list.falling list.entries c.args.spot.now.position) c.pages-2.ensures
