-- The list is in order, so the answers of the closure rise along it.
use Rattle.std.proofs.Common.{◌≡◌, length, rules}
use Rattle.std.specs.VecDeque.{deque_len}
use Rattle.std.proofs.lemmas.Fn.{always_returns_same}
use Rattle.key_pages.specs.Order.{entry_cmp}
use Rattle.key_pages.specs.EntryList.{entry_of}
use Rattle.key_pages.proofs.OrderLemmas.{searched}
use Rattle.key_pages.proofs.entries.find.Goals as goal

pub returns : goal.returns
returns c =
    let entry = entry_of c.args.entry.now in
    let facts = c.binary_search_by.ensures in
    let by_entry = facts.position (λ other. entry_cmp c.args.falling other entry) (always_returns_same _ _ _ (λ a r f k. search rules)) in
    let same : deque_len c.args.entries.now ≡ length c.args.entries.now.items = search rules in
    let bound = rw same at facts.bound in
    let place = searched c.args.falling entry c.args.entries.now.items c.binary_search_by.result c.requires bound by_entry in
    record { within = bound; found = place.0; absent = place.1 }
