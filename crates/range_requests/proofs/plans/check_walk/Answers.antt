use Rattle.std.proofs.Common.{◌∙◌, sym, ap}
use Rattle.std.specs.Option.{option_copied}
use Rattle.range_requests.proofs.FitLemmas.{fit-walk, format-of}
use Rattle.range_requests.proofs.plans.check_walk.Goals as goal

pub returns-in-Some-clause-fit : goal.returns-in-Some-clause-fit
returns-in-Some-clause-fit c =
    let is = sym (ap option_copied c.in-Some.is) ∙ c.format.ensures in
    fit-walk c.args.contents.now.state c.args.found c.args.walk.now c.check_fit.result c.counts-counts.ensures.apart c.requires.kept c.requires.records c.in-Some.format.now c.as_slice.result.now
    (format-of c.args.found.file.now.spec c.in-Some.format.now is) c.as_slice.ensures.value c.check_fit.ensures.fit
