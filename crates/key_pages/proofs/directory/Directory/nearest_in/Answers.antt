-- A position on an entry parts a list as the entry does.
use Rattle.std.proofs.Common.{refl}
use Rattle.key_pages.specs.declared.positions.Position.TheVariants.{On}
use Rattle.key_pages.specs.EntryList.{entry_of}
use Rattle.key_pages.proofs.NearLemmas.{nearest}
use Rattle.key_pages.proofs.directory.Directory.nearest_in.Goals as goal

pub returns : goal.returns
returns g c =
    let entry = c.args.entry.now in
    let sized = c.self.invariant.sized in
    let order = rw (← c.self.view_is) at c.requires.order in
    let begun = c.begun-begun.ensures in
    rw (← c.self.view_is, c.saturating_sub.ensures)
    (nearest c.args.falling (On entry.key entry.format entry.rrn) (entry_of entry) (λ e. refl) c.self.inside.pages.items sized.some order c.begun-begun.result begun.within begun.passed begun.ahead)
