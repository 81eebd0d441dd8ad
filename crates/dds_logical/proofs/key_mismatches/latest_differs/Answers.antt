use Rattle.std.proofs.Common.{◌∙◌, sym, drop}
use Rattle.dds_logical.specs.Keys.{parts_differ, first_part}
use Rattle.dds_logical.proofs.KeyLemmas.{any_reverse}
use Rattle.dds_logical.proofs.key_mismatches.latest_differs.Goals as goal

pub returns : goal.returns
returns c = c.one_differs.ensures ∙ sym (any_reverse (λ others. parts_differ (first_part (drop c.args.place others)) c.args.part) c.args.formats.now)
