-- No page is left, and the one that was in use is empty.
use Rattle.std.proofs.Common.{◌≡◌, [], length, ap, arith}
use Rattle.std.proofs.lemmas.List.{nil_from_length}
use Rattle.std.proofs.lemmas.List.Edits.{length-remove}
use Rattle.std.proofs.lemmas.List.Elements.{All-push}
use Rattle.key_pages.proofs.PageLemmas.{AreSized-none}
use Rattle.key_pages.proofs.directory.Directory.remove_only.Goals as goal

none : (c : goal.After-push_reserved) → c.remove-page.new.self.items ≡ []
none c =
    let one = rw (← c.self.view_is) at c.requires.one in
    nil_from_length c.remove-page.new.self.items (omega (arith, ap length c.remove-page.ensures.items, one, length-remove c.self.inside.pages.items 0 (omega (arith, one))))

emptied : (c : goal.After-push_reserved) → c.remove-entry.new.self ≡ []
emptied c =
    let only = rw (← c.self.view_is) at c.requires.only in
    nil_from_length c.remove-entry.new.self (omega (arith, ap length c.remove-page.ensures.page, only, c.remove-entry.ensures.len))

pub invariant_of-self : goal.invariant_of-self
invariant_of-self c =
    let one = rw (← c.self.view_is) at c.requires.one in
    let fewer = ap length (none c) in
    record {
      sized = rw (none c) AreSized-none;
      empty = rw c.push_reserved.ensures.items (All-push (λ page. page ≡ []) c.self.inside.free.items c.remove-entry.new.self c.self.invariant.empty (emptied c));
      room = omega (arith, one, fewer, c.push_reserved.ensures.len, c.remove-page.ensures.room, c.self.invariant.room);
      free_room = omega (arith, one, fewer, c.push_reserved.ensures.len, c.push_reserved.ensures.capacity, c.self.invariant.free_room);
    }
