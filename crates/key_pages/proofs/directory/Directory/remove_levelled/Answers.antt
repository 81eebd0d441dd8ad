-- Of two neighbouring pages only the changed one can have too few entries.
use Rattle.std.proofs.Common.{◌∙◌, ◌<◌, ◌≤◌, List, Some, [], length, ap, sym, arith}
use Rattle.std.specs.Prelude.{remove}
use Rattle.std.proofs.lemmas.Option.{slice_get-get_or}
use Rattle.std.proofs.lemmas.List.{length-set}
use Rattle.std.proofs.lemmas.List.Edits.{length-remove}
use Rattle.std.proofs.lemmas.List.Elements.{All-get_or}
use Rattle.key_pages.specs.declared.entries.Entry.{Entry}
use Rattle.key_pages.specs.declared.page.TheConstants.{MOST_PAGE_ENTRIES}
use Rattle.key_pages.specs.PageList.{entries_of, page_at}
use Rattle.key_pages.proofs.PageLemmas.{AreSized-levelled, entries_of-levelled}
use Rattle.key_pages.proofs.directory.Directory.remove_levelled.Goals as goal

within : (c : goal.After-level) → c.args.number < length c.self.inside.pages.items
within c = rw (← c.self.view_is) at c.requires.number

more : (c : goal.After-level) → 1 < length c.self.inside.pages.items
more c = rw (← c.self.view_is) at c.requires.more

place : (c : goal.After-level) → c.args.place < length (page_at c.self.inside.pages.items c.args.number)
place c = rw (← c.self.view_is) at c.requires.place

abbrev rest : (c : goal.After-level) → List Entry
rest c = remove (page_at c.self.inside.pages.items c.args.number) c.args.place

small : (c : goal.After-level) → length (rest c) ≤ MOST_PAGE_ENTRIES
small c =
    let most = All-get_or (λ p. length p ≤ MOST_PAGE_ENTRIES) c.self.inside.pages.items c.args.number [] (within c) c.self.invariant.sized.most in
    let fewer = length-remove (page_at c.self.inside.pages.items c.args.number) c.args.place (place c) in
    omega (arith, most, fewer)

pub invariant_of-self : goal.invariant_of-self
invariant_of-self c =
    let level = rw c.remove_entry-entry.ensures.items at c.level.ensures.level in
    let same = ap length c.remove_entry-entry.ensures.items ∙ length-set c.self.inside.pages.items c.args.number (rest c) in
    record {
      sized = rw level.2
          (AreSized-levelled c.self.inside.pages.items c.args.number c.saturating_sub.result (rest c) c.self.invariant.sized (more c) (within c) c.saturating_sub.ensures (small c) level.0 level.1);
      empty = c.level.ensures.empty;
      room = omega (arith, same, c.level.ensures.total, c.level.ensures.room, c.remove_entry-entry.ensures.room, c.self.invariant.room);
      free_room = omega (arith, same, c.level.ensures.total, c.level.ensures.free_capacity, c.self.invariant.free_room);
    }

pub returns-clause-entry : goal.returns-clause-entry
returns-clause-entry c =
    let page = page_at c.self.inside.pages.items c.args.number in
    rw (← c.self.view_is)
    (slice_get-get_or page c.args.place c.remove_entry-entry.result (place c) ∙ ap Some (sym c.remove_entry-entry.ensures.entry))

pub returns-clause-entries : goal.returns-clause-entries
returns-clause-entries c =
    let level = rw c.remove_entry-entry.ensures.items at c.level.ensures.level in
    rw (← c.self.view_is)
    (ap entries_of level.2
    ∙ entries_of-levelled c.self.inside.pages.items c.args.number c.saturating_sub.result (rest c) c.self.invariant.sized (more c) (within c) c.saturating_sub.ensures (small c) level.0 level.1)
