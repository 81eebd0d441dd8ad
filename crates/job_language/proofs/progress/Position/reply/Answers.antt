use Rattle.std.proofs.Common.{◌∙◌, sym, refl, length}
use Rattle.std.proofs.lemmas.Option.{slice_get_read}
use Rattle.job_language.proofs.progress.Position.reply.Goals as goal

pub returns-in-Ask-clause-state : goal.returns-in-Ask-clause-state
returns-in-Ask-clause-state c =
    let there = slice_get_read c.args.statements.now (length c.args.statements.now) c.args.place c.in-Some.statement.now refl c.in-Some.ensures.lookup.3.0 c.in-Some.ensures.lookup.1 in
    let step = sym c.in_ok-to-in-Some.ensures.step ∙ c.in-Ask.is in
    c.asking.ensures c.reply.new.variables.now ∙ sym (rw (there, step, c.in_ok-to-in-Some.ensures.values) refl)

pub returns-in-End-clause-state : goal.returns-in-End-clause-state
returns-in-End-clause-state c =
    let there = slice_get_read c.args.statements.now (length c.args.statements.now) c.args.place c.in-Some.statement.now refl c.in-Some.ensures.lookup.3.0 c.in-Some.ensures.lookup.1 in
    let step = sym c.in_ok-to-in-Some.ensures.step ∙ c.in-End.is in
    c.ended.ensures c.reply.new.variables.now ∙ sym (rw (there, step, c.in_ok-to-in-Some.ensures.values) refl)
