use Rattle.std.proofs.Common.{◌≡◌, ◌-◌, ◌++◌, suc, set, length, ap, ◌∙◌, arith}
use Rattle.dds_source.specs.declared.specifications.Specification.{Specification}
use Rattle.std.proofs.lemmas.Result.{on_ok_weaker}
use Rattle.dds_source.proofs.ReadingLemmas.{with_keywords-last}
use Rattle.dds_source.proofs.specifications.extend_last.Goals as goal

pub returns : goal.returns
returns c =
    let last : suc (c.len-len.result - 1) ≡ length c.args.specifications.now.items = omega arith in
    on_ok_weaker c.append.result
    (λ h. rw h (ap (λ (s : Specification). set c.args.specifications.now.items (c.len-len.result - 1) (record s { keywords = s.keywords ++ c.args.keywords })) c.index_mut-last.ensures.value
    ∙ with_keywords-last c.args.keywords c.args.specifications.now.items (c.len-len.result - 1) c.index_mut-last.result.now last))
    c.append.ensures.appended
