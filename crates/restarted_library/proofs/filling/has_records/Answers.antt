use Rattle.restarted_library.proofs.FitLemmas.{has-there, stands-all}
use Rattle.restarted_library.proofs.filling.has_records.Goals as goal

pub returns-clause-there : goal.returns-clause-there
returns-clause-there c = has-there c.args.contents.now.state c.args.member.now.file c.in_ok-file.file.now c.args.number c.in_ok-file.ensures

pub returns-clause-values : goal.returns-clause-values
returns-clause-values c =
    stands-all c.args.contents.now.state c.args.member.now.file c.in_ok-file.file.now c.args.number c.args.member.now.slots c.slots.result.now c.slots.ensures c.counts-counts.ensures.apart
    c.in_ok-file.ensures
    c.in_ok-hold_values.ensures
