use Rattle.std.proofs.Common.{◌∙◌, ◌+◌, ◌∷◌, [], Bor, Option, Some, get_or, drop, map, ap, sym, arith}
use Rattle.std.specs.Option.{option_copied}
use Rattle.std.proofs.lemmas.List.{drop_all, drop_more, map-append}
use Rattle.key_pages.specs.EntryList.{EntryList}
use Rattle.lawful_states.proofs.BaseLemmas.{some-of}
use Rattle.parts_model.specs.KeptPaths.{pages_at}
use Rattle.parts_model.proofs.RowsOver.{gathered-end, gathered-first, gathered-next, gathered-there, path-some}
use Rattle.library_parts.proofs.rows.paths_of.Goals as goal

pub loop-id-init : goal.loop-id-init
loop-id-init c = gathered-first (pages_at c.args.paths.now) c.args.ids.now _ c.requires (ap (map (λ (path : Bor EntryList). Some path.now)) c.new-found.ensures.items)

pub unwrap-path-requires : goal.unwrap-path-requires
unwrap-path-requires c =
    let ids = c.args.ids.now in
    let at = c.loop-id.id-index in
    let id = get_or ids at 0 in
    let some =
    some-of (pages_at c.args.paths.now id)
    (gathered-there (pages_at c.args.paths.now) ids at _ id (drop_more ids at 0 c.loop-id-test.true) c.loop-id.invariant) in
    path-some c.path.result some.0 (c.path.ensures ∙ some.1)

pub loop-id-preserved : goal.loop-id-preserved
loop-id-preserved c =
    let ids = c.args.ids.now in
    let at = c.loop-id.id-index in
    let id = get_or ids at 0 in
    gathered-next (pages_at c.args.paths.now) ids at (map (λ (path : Bor EntryList). Some path.now) c.loop-id.found.items) _ id c.unwrap-path.result.now
    (drop_more ids at 0 c.loop-id-test.true)
    (ap (map (λ (path : Bor EntryList). Some path.now)) c.in_ok-push.ensures.items
    ∙ map-append (λ (path : Bor EntryList). Some path.now) c.loop-id.found.items (c.unwrap-path.result ∷ []))
    (sym c.path.ensures ∙ ap (λ (o : Option (Bor EntryList)). option_copied o) c.unwrap-path.ensures) c.loop-id.invariant

pub returns : goal.returns
returns c = gathered-end (pages_at c.args.paths.now) c.args.ids.now c.loop-id.id-index _ (drop_all c.loop-id.id-index c.args.ids.now (omega arith)) c.loop-id.invariant
