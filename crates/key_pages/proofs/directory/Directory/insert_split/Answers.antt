-- The page's two parts stand in its place, and they have its entries and the new one.
use Rattle.std.proofs.Common.{◌≡◌, ◌∙◌, ◌+◌, ◌<◌, ◌≤◌, List, [], ◌∷◌, ◌++◌, length, take, drop, ap, arith}
use Rattle.std.specs.Prelude.{insert}
use Rattle.std.proofs.lemmas.List.{length-set}
use Rattle.std.proofs.lemmas.List.Edits.{length-insert}
use Rattle.std.proofs.lemmas.List.Elements.{All-nil, All-cons}
use Rattle.key_pages.specs.declared.entries.Entry.{Entry}
use Rattle.key_pages.specs.declared.page.TheConstants.{MOST_PAGE_ENTRIES, LEAST_PAGE_ENTRIES}
use Rattle.key_pages.specs.PageList.{entries_of, with_page}
use Rattle.key_pages.proofs.PageLemmas.{AreSized-between, entries_of-two, insert-set, last-taken}
use Rattle.key_pages.proofs.directory.Directory.insert_split.Goals as goal

within : (c : goal.After-insert) → c.args.number < length c.self.inside.pages.items
within c = rw (← c.self.view_is) at c.requires.number

abbrev lower : (c : goal.After-insert) → List Entry
lower c = c.insert_halving.ensures.lower.0

parts : (c : goal.After-insert) → c.insert.new.self.items ≡ take c.args.number c.self.inside.pages.items ++ ((lower c ∷ (c.insert_halving.new.into ∷ [])) ++ drop (c.args.number + 1) c.self.inside.pages.items)
parts c =
    let more = c.insert_halving.new.into in
    c.insert.ensures.items ∙ (ap (λ xs. insert xs (c.args.number + 1) more) c.insert_halving.ensures.lower.1 ∙ insert-set c.self.inside.pages.items c.args.number (lower c) more (within c))

pub insert-requires : goal.insert-requires
insert-requires c =
    let number = rw (← c.self.view_is) at c.requires.number in
    let free = rw (← c.self.view_is) at c.requires.free in
    let same = ap length c.insert_halving.ensures.lower.1 ∙ length-set c.self.inside.pages.items c.args.number _ in
    record {
      number = omega (arith, number, same);
      room = omega (arith, free, same, c.self.invariant.room, c.insert_halving.ensures.room);
    }

pub invariant_of-self : goal.invariant_of-self
invariant_of-self c =
    let page = lower c in
    let more = c.insert_halving.new.into in
    let long = c.insert_halving.ensures.lower.3 in
    let upper = c.insert_halving.ensures.upper in
    let same = ap length c.insert_halving.ensures.lower.1 ∙ length-set c.self.inside.pages.items c.args.number page in
    let done = ap length c.insert.ensures.items ∙ length-insert c.insert_halving.new.self.items (c.args.number + 1) more (omega (arith, same, within c)) in
    record {
      sized = rw (parts c)
          (AreSized-between c.self.inside.pages.items (page ∷ (more ∷ [])) c.args.number (c.args.number + 1) c.self.invariant.sized (within c) (omega arith)
          (All-cons (λ p. LEAST_PAGE_ENTRIES ≤ length p) page (more ∷ []) (omega arith) (All-cons (λ p. LEAST_PAGE_ENTRIES ≤ length p) more [] (omega arith) (All-nil (λ p. LEAST_PAGE_ENTRIES ≤ length p))))
          (All-cons (λ p. length p ≤ MOST_PAGE_ENTRIES) page (more ∷ []) (omega arith) (All-cons (λ p. length p ≤ MOST_PAGE_ENTRIES) more [] (omega arith) (All-nil (λ p. length p ≤ MOST_PAGE_ENTRIES)))));
      empty = (last-taken c.self.inside.free.items c.take_last-more.new.self.items c.take_last-more.result c.take_last-more.ensures.items c.self.invariant.empty).0;
      room = omega (arith, done, same, c.insert.ensures.room, c.insert_halving.ensures.room, c.take_last-more.ensures.len, c.self.invariant.room);
      free_room = omega (arith, done, same, c.take_last-more.ensures.capacity, c.take_last-more.ensures.len, c.self.invariant.free_room);
    }

pub returns-clause-entries : goal.returns-clause-entries
returns-clause-entries c =
    rw (← c.self.view_is)
    (ap entries_of (parts c) ∙ (entries_of-two c.self.inside.pages.items c.args.number (lower c) c.insert_halving.new.into
    ∙ ap (with_page c.self.inside.pages.items c.args.number) c.insert_halving.ensures.lower.2))
