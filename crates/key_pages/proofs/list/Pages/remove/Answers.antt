-- The entry leaves its page, and one less stands in the list.
use Rattle.std.proofs.Common.{◌∙◌, length, ap, arith}
use Rattle.key_pages.specs.EntryList.{entry_of}
use Rattle.key_pages.specs.PageList.{entries_of, IsIn}
use Rattle.key_pages.proofs.OrderLemmas.{IsInOrder-without_entry}
use Rattle.key_pages.proofs.PageLemmas.{length-removed}
use Rattle.key_pages.proofs.list.Pages.remove.Goals as goal

found : (c : goal.After-remove) → IsIn c.self.inside.falling (entry_of c.args.entry.now) c.self.inside.directory.pages c.find-number.result.0 c.in-Ok.place
found c = rw c.in-Ok.is at c.find-number.ensures.found

pub invariant_of-self : goal.invariant_of-self
invariant_of-self c =
    let pages = c.self.inside.directory.pages in
    let within = rw c.in-Ok.is at c.find-number.ensures.within in
    record {
      ordered = rw (c.remove.ensures.entries ∙ (found c).removed) (IsInOrder-without_entry c.self.inside.falling (entry_of c.args.entry.now) (entries_of pages) c.self.invariant.ordered);
      counted = omega (arith, ap length c.remove.ensures.entries, length-removed pages c.find-number.result.0 c.in-Ok.place c.find-number.ensures.number within);
      fits = omega arith;
      enough = omega (arith, c.remove.ensures.total);
    }
