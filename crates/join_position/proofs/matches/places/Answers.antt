use Rattle.std.proofs.Common.{◌∷◌, [], ◌++◌, map, take, ap, sym, ◌∙◌, subst}
use Rattle.std.proofs.lemmas.List.{map-append, map_more}
use Rattle.std.proofs.lemmas.List.Elements.{All-more}
use Rattle.join_position.specs.Kept.{MatchKept, IsThere, value_kept, value_placed}
use Rattle.join_position.proofs.matches.places.Goals as goal

pub loop-kept-preserved : goal.loop-kept-preserved
loop-kept-preserved c = (
  ap (map value_placed) c.in_ok-push.ensures.items
      ∙ map-append value_placed c.loop-kept.places.items (c.place.result ∷ [])
      ∙ ap (λ w. w ++ value_placed c.place.result ∷ []) c.loop-kept.invariant.0
      ∙ ap (λ v. map value_kept (take c.loop-kept.kept-index c.args.matches.now) ++ v ∷ []) (c.place.ensures.value ∙ ap value_kept c.kept-item.is)
      ∙ sym (map_more value_kept c.args.matches.now c.loop-kept.kept-index c.kept-item.result c.loop-kept-test.true),
  All-more (λ (m : MatchKept). IsThere m.part m.bytes m.number) c.args.matches.now c.loop-kept.kept-index c.kept-item.result c.loop-kept-test.true c.loop-kept.invariant.1
      (subst (λ (m : MatchKept). IsThere m.part m.bytes m.number) c.kept-item.is c.place.ensures.there),
)
