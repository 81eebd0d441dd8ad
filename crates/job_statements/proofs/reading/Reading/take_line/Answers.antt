use Rattle.std.proofs.Common.{◌+◌, None, ap, sym, ◌∙◌}
use Rattle.job_statements.specs.Texts.{texts_from}
use Rattle.job_statements.specs.Reading.{statements_ahead, unread_ahead}
use Rattle.job_statements.proofs.TextLemmas.{texts-skipped, texts-added, texts-ended}
use Rattle.job_statements.proofs.ReadLemmas.{on_ok-map, on_ok-both}
use Rattle.job_statements.proofs.reading.Reading.take_line.Goals as goal

pub returns-then-skips-clause-statements : goal.returns-then-skips-clause-statements
returns-then-skips-clause-statements c = λ lines.
    let s = c.args.self.now in
    ap (statements_ahead s.statements.written.items s.statements.variables) (sym (texts-skipped s.continued c.args.number c.args.line.now lines (sym c.skips.ensures ∙ c.if-skips.true)))

pub returns-in-Some-clause-statements : goal.returns-in-Some-clause-statements
returns-in-Some-clause-statements c =
    let s = c.args.self.now in
    on_ok-map c.add.result c.add.ensures (λ added lines. ap (statements_ahead s.statements.written.items s.statements.variables)
    (texts-added s.continued c.add.new.self c.args.number c.args.line.now c.in-Some.piece.now lines (sym c.skips.ensures ∙ c.if-skips.false) c.in-Some.ensures.0 c.in-Some.ensures.1 added))

pub returns-in-None-clause-statements : goal.returns-in-None-clause-statements
returns-in-None-clause-statements c =
    let s = c.args.self.now in
    let after = c.finish.new.self in
    on_ok-both c.finish.result c.finish.ensures.continued c.finish.ensures.statements (λ ended read lines.
    ap (λ b. statements_ahead after.statements.written.items after.statements.variables (texts_from b (c.args.number + 1) lines)) ended
    ∙ read (texts_from None (c.args.number + 1) lines)
    ∙ ap (statements_ahead s.statements.written.items s.statements.variables) (texts-ended s.continued c.args.number c.args.line.now lines (sym c.skips.ensures ∙ c.if-skips.false) c.in-None.ensures))

pub returns-then-skips-clause-unread : goal.returns-then-skips-clause-unread
returns-then-skips-clause-unread c = λ lines.
    let s = c.args.self.now in
    ap (unread_ahead s.statements.unread s.statements.variables) (sym (texts-skipped s.continued c.args.number c.args.line.now lines (sym c.skips.ensures ∙ c.if-skips.true)))

pub returns-in-Some-clause-unread : goal.returns-in-Some-clause-unread
returns-in-Some-clause-unread c =
    let s = c.args.self.now in
    on_ok-map c.add.result c.add.ensures (λ added lines. ap (unread_ahead s.statements.unread s.statements.variables)
    (texts-added s.continued c.add.new.self c.args.number c.args.line.now c.in-Some.piece.now lines (sym c.skips.ensures ∙ c.if-skips.false) c.in-Some.ensures.0 c.in-Some.ensures.1 added))

pub returns-in-None-clause-unread : goal.returns-in-None-clause-unread
returns-in-None-clause-unread c =
    let s = c.args.self.now in
    let after = c.finish.new.self in
    on_ok-both c.finish.result c.finish.ensures.continued c.finish.ensures.unread (λ ended read lines.
    ap (λ b. unread_ahead after.statements.unread after.statements.variables (texts_from b (c.args.number + 1) lines)) ended
    ∙ read (texts_from None (c.args.number + 1) lines)
    ∙ ap (unread_ahead s.statements.unread s.statements.variables) (texts-ended s.continued c.args.number c.args.line.now lines (sym c.skips.ensures ∙ c.if-skips.false) c.in-None.ensures))
