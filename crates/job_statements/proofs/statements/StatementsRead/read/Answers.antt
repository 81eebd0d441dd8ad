use Rattle.job_statements.proofs.ReadLemmas.{statements-read, unread-read}
use Rattle.job_statements.proofs.statements.StatementsRead.read.Goals as goal

pub returns-clause-statements : goal.returns-clause-statements
returns-clause-statements c =
    statements-read c.args.self.now.written.items c.push.new.self.items c.args.self.now.variables c.declare.new.variables c.args.line c.args.text.now c.args.whole c.in_ok-said.said c.written.result
    c.in_ok-said.ensures c.in_ok-declare.ensures c.written.ensures c.in_ok-push.ensures.items

pub returns-clause-unread : goal.returns-clause-unread
returns-clause-unread c =
    unread-read c.args.self.now.unread c.noting-self.result c.args.self.now.variables c.declare.new.variables c.args.line c.args.text.now c.args.whole c.in_ok-said.said c.is_read.result
    c.in_ok-said.ensures c.in_ok-declare.ensures c.is_read.ensures c.noting-self.ensures
