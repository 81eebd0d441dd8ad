use Rattle.std.proofs.Common.{◌∙◌, ap, List, length}
use Rattle.dds_physical.below.dds_source.specs.declared.specifications.Specification.{Specification}
use Rattle.dds_logical.proofs.JoinLineLemmas.{reaching_are}
use Rattle.dds_logical.proofs.join_links.count_to.Goals as goal

pub returns : goal.returns
returns c = c.count_reaching.ensures ∙ ap (λ (ss : List Specification). length ss) (reaching_are c.args.files.now c.args.place c.args.lines.now)
