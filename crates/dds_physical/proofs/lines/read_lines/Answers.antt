use Rattle.std.proofs.Common.{◌≡◌, ◌<◌, List, None, length, sym, ap, ◌∙◌, arith}
use Rattle.std.proofs.lemmas.Bool.{eqb-true}
use Rattle.dds_source.specs.declared.faults.DdsFault.{DdsFault}
use Rattle.dds_source.specs.Faults.{first_after}
use Rattle.dds_physical.specs.Lines.{line_faults, described}
use Rattle.dds_physical.proofs.LineLemmas.{lines_faults-next, lines_described-next, lines_faults-here, lines_described-here, lines_faults-end, lines_described-end}
use Rattle.dds_physical.proofs.lines.read_lines.Goals as goal

pub loop-rest-preserved : goal.loop-rest-preserved
loop-rest-preserved g c =
    let formats = g.R.Refs.formats c.args.refs.now in
    let clear : first_after None (line_faults formats c.args.file.now c.loop-rest.draft c.index-here-0.result) ≡ None = sym c.in_ok-fault.ensures.fault ∙ c.in_default.is in
    let added : c.read_line.new.draft ≡ described formats c.args.file.now c.loop-rest.draft c.index-here-0.result = c.in_ok-fault.ensures.described in
    let some : 0 < length c.loop-rest.rest.now = omega (arith, c.split_at.ensures.back_len) in
    record {
      judged = lines_faults-next formats c.args.file.now c.loop-rest.draft c.read_line.new.draft c.loop-rest.rest.now c.split_at.result.0.now c.split_at.result.1.now c.index-here-0.result
          some c.split_at.ensures.front c.split_at.ensures.back c.index-here-0.is clear added ∙ c.loop-rest.invariant.judged;
      described = lines_described-next formats c.args.file.now c.loop-rest.draft c.read_line.new.draft c.loop-rest.rest.now c.split_at.result.0.now c.split_at.result.1.now c.index-here-0.result
          some c.split_at.ensures.front c.split_at.ensures.back c.index-here-0.is clear added ∙ c.loop-rest.invariant.described;
    }

pub returns-in-Some-clause-fault : goal.returns-in-Some-clause-fault
returns-in-Some-clause-fault g c =
    let formats = g.R.Refs.formats c.args.refs.now in
    let some : 0 < length c.loop-rest.rest.now = omega (arith, c.split_at.ensures.back_len) in
    sym (ap (λ (fs : List DdsFault). first_after None fs) (sym c.loop-rest.invariant.judged)
    ∙ lines_faults-here formats c.args.file.now c.loop-rest.draft c.loop-rest.rest.now c.split_at.result.0.now c.index-here-0.result c.in-Some.fault
    some c.split_at.ensures.front c.index-here-0.is (sym c.in_ok-fault.ensures.fault ∙ c.in-Some.is))

pub returns-in-Some-clause-described : goal.returns-in-Some-clause-described
returns-in-Some-clause-described g c =
    let formats = g.R.Refs.formats c.args.refs.now in
    let some : 0 < length c.loop-rest.rest.now = omega (arith, c.split_at.ensures.back_len) in
    c.in_ok-fault.ensures.described
    ∙ sym (lines_described-here formats c.args.file.now c.loop-rest.draft c.loop-rest.rest.now c.split_at.result.0.now c.index-here-0.result c.in-Some.fault
    some c.split_at.ensures.front c.index-here-0.is (sym c.in_ok-fault.ensures.fault ∙ c.in-Some.is))
    ∙ c.loop-rest.invariant.described

pub returns-clause-fault : goal.returns-clause-fault
returns-clause-fault g c =
    let formats = g.R.Refs.formats c.args.refs.now in
    sym (ap (λ (fs : List DdsFault). first_after None fs)
    (sym c.loop-rest.invariant.judged ∙ lines_faults-end formats c.args.file.now c.loop-rest.draft c.loop-rest.rest.now (eqb-true (length c.loop-rest.rest.now) 0 (sym c.loop-rest-test.ensures))))

pub returns-clause-described : goal.returns-clause-described
returns-clause-described g c =
    let formats = g.R.Refs.formats c.args.refs.now in
    sym (sym c.loop-rest.invariant.described ∙ lines_described-end formats c.args.file.now c.loop-rest.draft c.loop-rest.rest.now (eqb-true (length c.loop-rest.rest.now) 0 (sym c.loop-rest-test.ensures)))
