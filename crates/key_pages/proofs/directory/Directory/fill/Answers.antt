-- One page more, with the entries that were taken.
use Rattle.std.proofs.Common.{ap, ◌∙◌, ◌-◌, ◌*◌, ◌<◌, ◌≤◌, length, vec_len, inl, inr, arith}
use Rattle.std.proofs.lemmas.Bool.{cases_lt}
use Rattle.std.proofs.lemmas.List.Elements.{All-push}
use Rattle.key_pages.specs.declared.page.TheConstants.{FILLED_PAGE_ENTRIES, LEAST_PAGE_ENTRIES}
use Rattle.std.proofs.lemmas.List.{length_push}
use Rattle.key_pages.proofs.FillLemmas.{FilledBelow-all, FilledBelow-push}
use Rattle.key_pages.proofs.PageLemmas.{AreSized-push, entries_of-push, filled-least, last-taken}
use Rattle.key_pages.proofs.directory.Directory.fill.Goals as goal

left_over : (c : goal.After-push) → 0 < vec_len c.move_front.new.entries → (LEAST_PAGE_ENTRIES ≤ c.filled_len-count.result) × (LEAST_PAGE_ENTRIES ≤ vec_len c.move_front.new.entries)
left_over c = filled-least c.len.result c.filled_len-count.result (vec_len c.move_front.new.entries) (omega arith) c.filled_len-count.ensures.least c.filled_len-count.ensures.rest

large : (c : goal.After-push) → 0 < length c.loop-self.self-inside.pages.items → LEAST_PAGE_ENTRIES ≤ c.filled_len-count.result
large c some =
    elim (cases_lt (vec_len c.loop-self.entries) LEAST_PAGE_ENTRIES) [
      | inl small ↦ let none = c.loop-self.invariant.last (omega arith) small in absurd (omega arith)
      | inr many ↦ c.filled_len-count.ensures.least (omega arith)
    ]

free_left : (c : goal.After-push) → vec_len c.move_front.new.entries ≤ LEAST_PAGE_ENTRIES * vec_len c.take_last-page.new.self
free_left c =
    elim (cases_lt 0 (vec_len c.move_front.new.entries)) [
      | inl more ↦ let both = left_over c more in omega (arith, both.0)
      | inr none ↦ omega arith
    ]

more_left : (c : goal.After-push) → 0 < vec_len c.move_front.new.entries → FILLED_PAGE_ENTRIES < vec_len c.loop-self.entries
more_left c some =
    elim (cases_lt FILLED_PAGE_ENTRIES (vec_len c.loop-self.entries)) [
      | inl many ↦ many
      | inr few ↦ let all = c.filled_len-count.ensures.all (omega arith) in absurd (omega (arith, all))
    ]

pub loop-self-preserved : goal.loop-self-preserved
loop-self-preserved c =
    let before = c.loop-self.invariant in
    let pages = c.loop-self.self-inside.pages.items in
    let page = c.move_front.new.into in
    let size = c.filled_len-count.ensures in
    let count = c.move_front.ensures.count in
    let rest = c.move_front.ensures.rest in
    let pushed = c.push.ensures in
    let taken = c.take_last-page.ensures in
    let long = ap length pushed.items ∙ length_push pages page in
    record {
      all = rw pushed.items (entries_of-push pages page _ _ _ c.move_front.ensures.moved before.all);
      sized = rw pushed.items (AreSized-push pages page before.sized (before.least (omega arith)) (omega arith) (omega arith) (λ some. let enough = large c some in omega arith));
      least = λ left. let both = left_over c left in rw pushed.items (All-push (λ p. LEAST_PAGE_ENTRIES ≤ length p) pages page (before.least (omega arith)) (omega (arith, both.0)));
      last = λ left small. let both = left_over c left in absurd (omega (arith, both.1));
      full = rw pushed.items (FilledBelow-push pages page (length pages - 1) _ (before.upto (omega arith)) (omega arith) (omega (arith, length_push pages page)));
      upto = λ left. rw pushed.items (FilledBelow-push pages page (length pages) _ (before.before (more_left c left)) (omega arith) (omega (arith, length_push pages page)));
      before = λ left. rw pushed.items (FilledBelow-all pages page (before.before (more_left c (omega arith))) (let full = size.full (omega arith) in omega arith));
      empty = (last-taken c.loop-self.self-inside.free.items c.take_last-page.new.self.items c.take_last-page.result taken.items before.empty).0;
      enough = free_left c;
      total = omega (arith, long, taken.len, before.total);
      room = omega (arith, long, taken.len, pushed.room, before.room);
      free_room = omega (arith, long, taken.len, taken.capacity, before.free_room);
    }
