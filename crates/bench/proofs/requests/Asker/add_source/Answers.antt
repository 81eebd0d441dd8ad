use Rattle.std.proofs.Common.{◌≡◌, ◌≤◌, ap, arith, length, rules}
use Rattle.bench.proofs.ReadyLemmas.{short-pushed}
use Rattle.bench.proofs.requests.Asker.add_source.Goals as goal

pub returns : goal.returns
returns c = λ all.
    let fits : length c.args.text.now ≤ 534773696 = search (rules, arith) in
    let same : c.in_ok-text.text ≡ c.args.text.now = search rules in
    let long = ap length same in
    short-pushed c.push.result c.args.sources.now c.push.new.self (record { name = c.args.name; text = c.in_ok-text.text }) c.push.ensures.pushed c.push.ensures.unchanged
    (omega (arith, fits, long)) all
