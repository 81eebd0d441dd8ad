use Rattle.std.proofs.Common.{arith}
use Rattle.gated_log.specs.declared.layout.Head.{Head}
use Rattle.gated_log.proofs.Numbers.{short_header}
use Rattle.gated_log.proofs.Walking.{damaged_is, walked_none, walked_not}
use Rattle.gated_log.proofs.opening.read_head.Goals as goal

pub returns-then-size-clause-damaged : goal.returns-then-size-clause-damaged
returns-then-size-clause-damaged g c = λ a at is.
    let parts = damaged_is {T = Head} c.args.area 0 a at is in
    (parts.0, parts.1, λ tells. short_header c.args.area _ (omega (arith, c.requires tells)))

pub returns-in-Some-clause-head : goal.returns-in-Some-clause-head
returns-in-Some-clause-head g c = λ tells.
    let has = c.in-Some.ensures in
    walked_none c.args.area c.in-Some.head.first c.in-Some.head.version _ c.read.new.into has.0 has.1 c.read.auto.into (c.in_ok-read.ensures.bytes tells)

pub returns-in-None-clause-damaged : goal.returns-in-None-clause-damaged
returns-in-None-clause-damaged g c = λ a at is.
    let parts = damaged_is {T = Head} c.args.area 0 a at is in
    (parts.0, parts.1, λ tells. walked_not c.args.area _ c.read.new.into c.in-None.ensures c.read.auto.into (c.in_ok-read.ensures.bytes tells) (omega (arith, c.requires tells)))
