use Rattle.std.proofs.Common.{◌∙◌, sym, refl, length}
use Rattle.std.proofs.lemmas.Option.{slice_get_read, slice_get_past}
use Rattle.job_language.proofs.StateLemmas.{run_from-none, run_from-past, run_from-goes, run_from-asks, run_from-ends}
use Rattle.job_language.proofs.progress.run_from.Goals as goal

pub returns-then-left-eq0-clause-state : goal.returns-then-left-eq0-clause-state
returns-then-left-eq0-clause-state c =
    let there = slice_get_read c.args.statements.now (length c.args.statements.now) c.loop-statement.place c.in-Some.statement.now refl c.in-Some.ensures.lookup.3.0 c.in-Some.ensures.lookup.1 in
    c.ended.ensures c.loop-statement.variables.now
    ∙ sym (run_from-none c.loop-statement.left c.args.statements.now c.loop-statement.place c.loop-statement.variables.now c.in-Some.statement.now there c.if-left-eq0.true)
    ∙ c.loop-statement.invariant.runs

pub loop-statement-preserved : goal.loop-statement-preserved
loop-statement-preserved c =
    let there = slice_get_read c.args.statements.now (length c.args.statements.now) c.loop-statement.place c.in-Some.statement.now refl c.in-Some.ensures.lookup.3.0 c.in-Some.ensures.lookup.1 in
    record {
      runs =
          run_from-goes c.loop-statement.left c.args.statements.now c.loop-statement.place c.loop-statement.variables.now c.run.new.variables.now c.in-Some.statement.now there c.if-left-eq0.false c.in_ok-to.ensures.values
          c.in-GoOn.to (sym c.in_ok-to.ensures.step ∙ c.in-GoOn.is)
          ∙ c.loop-statement.invariant.runs;
      before = c.in_ok-to.ensures.before ∙ c.loop-statement.invariant.before;
    }

pub returns-in-Ask-clause-state : goal.returns-in-Ask-clause-state
returns-in-Ask-clause-state c =
    let there = slice_get_read c.args.statements.now (length c.args.statements.now) c.loop-statement.place c.in-Some.statement.now refl c.in-Some.ensures.lookup.3.0 c.in-Some.ensures.lookup.1 in
    c.asking.ensures c.run.new.variables.now
    ∙ run_from-asks c.loop-statement.left c.args.statements.now c.loop-statement.place c.loop-statement.variables.now c.run.new.variables.now c.in-Some.statement.now there c.if-left-eq0.false c.in_ok-to.ensures.values
    (sym c.in_ok-to.ensures.step ∙ c.in-Ask.is)
    ∙ c.loop-statement.invariant.runs

pub returns-in-End-clause-state : goal.returns-in-End-clause-state
returns-in-End-clause-state c =
    let there = slice_get_read c.args.statements.now (length c.args.statements.now) c.loop-statement.place c.in-Some.statement.now refl c.in-Some.ensures.lookup.3.0 c.in-Some.ensures.lookup.1 in
    c.ended-in-End.ensures c.run.new.variables.now
    ∙ run_from-ends c.loop-statement.left c.args.statements.now c.loop-statement.place c.loop-statement.variables.now c.run.new.variables.now c.in-Some.statement.now there c.if-left-eq0.false c.in_ok-to.ensures.values
    c.in-End.reason c.in-End.line (sym c.in_ok-to.ensures.step ∙ c.in-End.is)
    ∙ c.loop-statement.invariant.runs

pub returns-clause-state : goal.returns-clause-state
returns-clause-state c =
    c.ended-2.ensures c.loop-statement.variables.now
    ∙ sym (run_from-past c.loop-statement.left c.args.statements.now c.loop-statement.place c.loop-statement.variables.now (slice_get_past c.args.statements.now c.loop-statement.place c.in_default.ensures.lookup.3))
    ∙ c.loop-statement.invariant.runs
