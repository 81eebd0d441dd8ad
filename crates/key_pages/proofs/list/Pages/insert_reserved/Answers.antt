-- The entry goes to its place in its page, and one more stands in the list.
use Rattle.std.proofs.Common.{◌≡◌, ◌∙◌, length, ap, subst, arith}
use Rattle.std.specs.Prelude.{insert}
use Rattle.key_pages.specs.EntryList.{entry_of, with_entry}
use Rattle.key_pages.specs.PageList.{entries_of, page_at, with_page, IsGapIn}
use Rattle.key_pages.proofs.OrderLemmas.{IsInOrder-with_entry}
use Rattle.key_pages.proofs.PageLemmas.{length-inserted}
use Rattle.key_pages.proofs.list.Pages.insert_reserved.Goals as goal

gap : (c : goal.After-insert) → IsGapIn c.self.inside.falling (entry_of c.borrowed.result) c.self.inside.directory.pages c.find-number.result.0 c.unwrap_err-place.result
gap c = rw c.unwrap_err-place.ensures at c.find-number.ensures.absent

entries : (c : goal.After-insert) → entries_of c.insert.new.self.pages ≡ with_entry c.self.inside.falling c.args.entry (entries_of c.self.inside.directory.pages)
entries c =
    let pages = c.self.inside.directory.pages in
    let number = c.find-number.result.0 in
    c.insert.ensures.entries
    ∙ subst (λ e. with_page pages number (insert (page_at pages number) c.unwrap_err-place.result e) ≡ with_entry c.self.inside.falling e (entries_of pages)) c.borrowed.ensures (gap c).inserted

pub invariant_of-self : goal.invariant_of-self
invariant_of-self c =
    let spare = rw (← c.self.view_is) at c.requires.spare in
    let pages = c.self.inside.directory.pages in
    record {
      ordered = rw (entries c) (IsInOrder-with_entry c.self.inside.falling c.args.entry (entries_of pages) c.self.invariant.ordered);
      counted = omega (arith, ap length c.insert.ensures.entries, length-inserted pages c.find-number.result.0 c.unwrap_err-place.result c.args.entry c.find-number.ensures.number);
      fits = omega (arith, spare);
      enough = omega (arith, c.insert.ensures.total);
    }
