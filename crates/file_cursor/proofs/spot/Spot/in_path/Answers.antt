use Rattle.std.proofs.Common.{◌≡◌, ap, sym, ◌∙◌}
use Rattle.file_cursor.specs.CursorPosition.{SpotState, Before, Past, ByKey, position_of}
use Rattle.file_cursor.specs.Finding.{side_of}
use Rattle.file_cursor.specs.declared.spot.Stand.{Stand}
use Rattle.file_cursor.proofs.SideLemmas.{side-before, side-past}
use Rattle.file_cursor.proofs.spot.Spot.in_path.Goals as goal

pub returns-in-BeforeKey : goal.returns-in-BeforeKey
returns-in-BeforeKey c = λ falling entry.
    let key = c.as_slice-key.result.now in
    let there : Before (ByKey key) ≡ c.args.self.now.position =
    ap (λ k. Before (ByKey k)) c.as_slice-key.ensures.value
    ∙ ap (λ (s : Stand). position_of s c.self.inside.key.items) (sym c.in-BeforeKey.is)
    ∙ ap (λ (v : SpotState). v.position) c.self.view_is in
    side-before key entry.key ∙ ap (λ p. side_of falling p entry) there

pub returns-in-PastKey : goal.returns-in-PastKey
returns-in-PastKey c = λ falling entry.
    let key = c.as_slice-key.result.now in
    let there : Past (ByKey key) ≡ c.args.self.now.position =
    ap (λ k. Past (ByKey k)) c.as_slice-key.ensures.value
    ∙ ap (λ (s : Stand). position_of s c.self.inside.key.items) (sym c.in-PastKey.is)
    ∙ ap (λ (v : SpotState). v.position) c.self.view_is in
    side-past key entry.key ∙ ap (λ p. side_of falling p entry) there
