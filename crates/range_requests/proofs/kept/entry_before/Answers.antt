use Rattle.std.proofs.Common.{◌≡◌, ◌+◌, ◌-◌, ◌<◌, length, arith}
use Rattle.std.specs.Option.{option_copied}
use Rattle.range_requests.proofs.EndLemmas.{before-take}
use Rattle.range_requests.proofs.kept.entry_before.Goals as goal

pub returns-else-count-eq0 : goal.returns-else-count-eq0
returns-else-count-eq0 c =
    let next : c.args.count ≡ c.args.count - 1 + 1 = omega (arith, c.if-count-eq0.false) in
    let below : c.args.count - 1 < length c.args.entries.now = omega (arith, c.requires, c.if-count-eq0.false) in
    before-take (option_copied c.args.prior) c.args.entries.now c.args.count (c.args.count - 1) c.index-entries-count.result next below c.index-entries-count.is
