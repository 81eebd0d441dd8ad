use Rattle.std.proofs.Common.{sym, ap, ◌∙◌}
use Rattle.text_lines.specs.Lines.{lines_of}
use Rattle.listing_reader.specs.Lines.{calls_of}
use Rattle.listing_reader.proofs.ReadLemmas.{stopped-calls, next-calls, ended-calls}
use Rattle.listing_reader.proofs.lines.calls_of.Goals as goal

pub returns-in_default-2 : goal.returns-in_default-2
returns-in_default-2 c =
    stopped-calls c.args.names.now c.loop-line.calls.items (lines_of c.loop-line.rest.now) c.in-Some.line.now (lines_of c.in-Some.others.now) (calls_of c.args.names.now (lines_of c.args.text.now))
    c.in-Some.ensures.0 (sym c.in_default-2.is ∙ c.in_ok-call.ensures) c.loop-line.invariant

pub loop-line-preserved : goal.loop-line-preserved
loop-line-preserved c =
    next-calls c.args.names.now c.loop-line.calls.items c.push.new.self.items (lines_of c.loop-line.rest.now) c.in-Some.line.now (lines_of c.in-Some.others.now) c.in-Some-2.call (calls_of c.args.names.now (lines_of c.args.text.now))
    c.in-Some.ensures.0 (sym c.in-Some-2.is ∙ c.in_ok-call.ensures) c.in_ok-push.ensures.items c.loop-line.invariant

pub returns : goal.returns
returns c =
    ended-calls c.args.names.now c.loop-line.calls.items (lines_of c.loop-line.rest.now) (calls_of c.args.names.now (lines_of c.args.text.now))
    (ap lines_of c.in_default.ensures) c.loop-line.invariant
