use Rattle.std.proofs.Common.{◌≡◌, ◌+◌, ◌≤◌, ◌<◌, refl, drop, length, ap, arith}
use Rattle.std.proofs.lemmas.Bool.{false≢true}
use Rattle.std.proofs.lemmas.List.{drop_all}
use Rattle.block_cache.specs.Sizes.{block_bytes}
use Rattle.block_cache.proofs.sizes.are_long.Goals as goal

pub returns : goal.returns
returns c =
    let entries = c.args.entries.now in
    let at = c.loop-entry.entry-index in
    let past : length entries ≤ at = omega arith in
    let none : block_bytes (drop at entries) ≡ 0 = ap block_bytes (drop_all at entries past) in
    (λ t. absurd (false≢true t), λ long. absurd (omega (arith, none, c.loop-entry.invariant, long)))
