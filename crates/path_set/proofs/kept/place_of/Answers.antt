use Rattle.std.proofs.Common.{rules}
use Rattle.std.proofs.lemmas.List.Sorted.{answers_always}
use Rattle.path_set.proofs.SearchLemmas.{searched}
use Rattle.path_set.proofs.kept.place_of.Goals as goal

-- the closure gives a path's number
pub returns : goal.returns
returns c =
    let facts = c.binary_search_by_key.ensures in
    let by_key = facts.position (λ path. path.id) (answers_always _ _ _ (λ f a r g called. search rules)) in
    searched _ c.requires c.args.id _ facts.bound by_key
