use Rattle.std.proofs.Common.{◌∙◌, ◌||◌, ◌==◌, ap, sym, Bool, List, length, arith}
use Rattle.std.specs.List.{list_any}
use Rattle.dds_physical.below.dds_source.specs.declared.specifications.Specification.{Specification}
use Rattle.dds_logical.specs.FormatLines.{FormatLines, field_lines, formats_in}
use Rattle.dds_logical.specs.Judged.{is_fieldless_at}
use Rattle.dds_logical.proofs.FormatLemmas.{fieldless_more, found-split}
use Rattle.dds_logical.proofs.whole_file.is_one_fieldless.Goals as goal

pub returns-then-is_fieldless_at : goal.returns-then-is_fieldless_at
returns-then-is_fieldless_at c =
    let wanted : List Specification → Bool = λ ss. list_any (λ (f : FormatLines). length (field_lines f) == 0) (formats_in ss) in
    ap (λ (b : Bool). b || wanted c.split_at.result.1.now) (sym c.if-is_fieldless_at.true)
    ∙ found-split is_fieldless_at wanted fieldless_more c.loop-rest.rest.now c.split_at.result.0.now c.split_at.result.1.now c.index-here-0.result c.is_fieldless_at.result _
    (omega (arith, c.split_at.ensures.back_len)) c.split_at.ensures.front c.split_at.ensures.back c.index-here-0.is c.is_fieldless_at.ensures c.loop-rest.invariant

pub loop-rest-preserved : goal.loop-rest-preserved
loop-rest-preserved c =
    let wanted : List Specification → Bool = λ ss. list_any (λ (f : FormatLines). length (field_lines f) == 0) (formats_in ss) in
    ap (λ (b : Bool). b || wanted c.split_at.result.1.now) (sym c.if-is_fieldless_at.false)
    ∙ found-split is_fieldless_at wanted fieldless_more c.loop-rest.rest.now c.split_at.result.0.now c.split_at.result.1.now c.index-here-0.result c.is_fieldless_at.result _
    (omega (arith, c.split_at.ensures.back_len)) c.split_at.ensures.front c.split_at.ensures.back c.index-here-0.is c.is_fieldless_at.ensures c.loop-rest.invariant
