use Rattle.std.proofs.Common.{◌≡◌, List, length, sym, ◌∙◌, ap}
use Rattle.std.specs.Vec.{with_items}
use Rattle.std.proofs.lemmas.List.{with_items_is}
use Rattle.file_model.specs.declared.joins.Secondary.{Secondary}
use Rattle.join_position.specs.Kept.{MatchKept, numbers_kept}
use Rattle.join_position.proofs.SettleLemmas.{length-kept, settled}
use Rattle.join_position.proofs.position.JoinPosition.settle.Goals as goal

pub returns : goal.returns
returns c =
    let members = c.args.join.members.now.members in
    let files : List Secondary = c.args.join.spec.now.secondaries in
    let matches : List MatchKept = c.self.inside.matches.items in
    let kept : c.keep_all.new.matches ≡ numbers_kept members files c.args.row.now.numbers.items matches =
    c.keep_all.ensures
    ∙ ap (λ (files : List Secondary). numbers_kept members files c.as_slice-2.result.now c.as_mut_slice.result.now) c.as_slice.ensures
    ∙ ap (λ numbers. numbers_kept members files numbers c.as_mut_slice.result.now) c.as_slice-2.ensures.value
    ∙ ap (λ (ms : List MatchKept). numbers_kept members files c.args.row.now.numbers.items ms) c.as_mut_slice.ensures.value in
    let long : length c.keep_all.new.matches ≡ c.self.inside.matches.len =
    ap length kept ∙ length-kept members files c.args.row.now.numbers.items matches ∙ sym c.self.inside.matches.ok.0 in
    settled c.self.inside.parts c.self.inside.stand c.self.inside.key.items matches c.args.self.now c.self.view_is c.args.join.spec.now members c.args.row.now
    c.requires.sequences c.requires.row c.copy_key.new.into.items (c.copy_key.ensures.bytes ∙ c.as_bytes.ensures) (with_items c.self.inside.matches c.keep_all.new.matches).items
    (with_items_is c.self.inside.matches c.keep_all.new.matches long ∙ kept)
