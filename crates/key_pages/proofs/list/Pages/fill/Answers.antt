use Rattle.key_pages.proofs.FillLemmas.{IsFilled-lengths}
use Rattle.key_pages.proofs.list.Pages.fill.Goals as goal

pub returns-clause-pages : goal.returns-clause-pages
returns-clause-pages c = IsFilled-lengths c.fill.new.self.pages c.fill.ensures.full
