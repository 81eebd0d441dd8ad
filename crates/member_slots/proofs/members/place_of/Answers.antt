use Rattle.std.proofs.Common.{rules}
use Rattle.std.proofs.lemmas.List.Sorted.{answers_always}
use Rattle.member_slots.proofs.SearchLemmas.{searched}
use Rattle.member_slots.proofs.members.place_of.Goals as goal

-- the closure gives an entry's number
pub returns : goal.returns
returns c =
    let facts = c.binary_search_by_key.ensures in
    let by_key = facts.position (λ entry. entry.number) (answers_always _ _ _ (λ f a r g called. search rules)) in
    searched _ c.requires c.args.number _ facts.bound by_key
