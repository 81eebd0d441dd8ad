use Rattle.std.proofs.Common.{◌∙◌}
use Rattle.named_bases.proofs.ReferLemmas.{refers-named}
use Rattle.described_journals.proofs.naming.source_names.Goals as goal

pub returns-in-Physical : goal.returns-in-Physical
returns-in-Physical c = rw c.in-Physical.is (c.refers_to.ensures ∙ refers-named c.args.name.now c.args.source.now)
