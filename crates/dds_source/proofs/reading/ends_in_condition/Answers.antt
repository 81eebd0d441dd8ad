use Rattle.std.proofs.Common.{◌≡◌, ◌-◌, suc, length, sym, ap, ◌∙◌, arith}
use Rattle.dds_source.specs.declared.specifications.Specification.{Specification}
use Rattle.dds_source.specs.Reading.{is_condition}
use Rattle.dds_source.proofs.ReadingLemmas.{ends_in_condition-last}
use Rattle.dds_source.proofs.reading.ends_in_condition.Goals as goal

pub returns-in-len1-up : goal.returns-in-len1-up
returns-in-len1-up c =
    let last : suc (length c.args.specifications.now - 1) ≡ length c.args.specifications.now = omega arith in
    c.is_condition.ensures ∙ ap (λ (s : Specification). is_condition s.kind) c.last-item.is
    ∙ sym (ends_in_condition-last c.args.specifications.now (length c.args.specifications.now - 1) c.last-item.result last)
