use Rattle.std.proofs.Common.{◌∙◌, ap, subst}
use Rattle.std.proofs.lemmas.List.Elements.{All-more}
use Rattle.file_model.specs.declared.joins.Secondary.{Secondary}
use Rattle.access_path.specs.KeyFields.{AreBytes}
use Rattle.library_parts.proofs.rows.are_bytes_each.Goals as goal

pub loop-file-preserved : goal.loop-file-preserved
loop-file-preserved c =
    All-more (λ (file : Secondary). AreBytes file.default) c.args.files.now c.loop-file.file-index c.file-item.result c.loop-file-test.true c.loop-file.invariant
    (subst AreBytes (c.as_bytes.ensures ∙ ap (λ (file : Secondary). file.default) c.file-item.is) c.are_bytes.ensures)
