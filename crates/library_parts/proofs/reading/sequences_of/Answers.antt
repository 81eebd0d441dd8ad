use Rattle.std.proofs.Common.{◌∙◌, ◌+◌, ◌∷◌, drop, ap, sym}
use Rattle.std.proofs.lemmas.List.{drop_more}
use Rattle.parts_model.proofs.MadeLemmas.{sequences-next}
use Rattle.library_parts.proofs.reading.sequences_of.Goals as goal

pub loop-joined-preserved : goal.loop-joined-preserved
loop-joined-preserved c =
    let files = c.args.files.now in
    let at = c.loop-joined.joined-index in
    let joined = c.joined-item.result in
    sequences-next files at c.loop-joined.made.items c.push.new.self.items joined c.sequence_of.result
    (drop_more files at joined c.loop-joined-test.true ∙ ap (λ j. j ∷ drop (at + 1) files) (sym c.joined-item.is)) c.in_ok-push.ensures.items c.sequence_of.ensures c.loop-joined.invariant
