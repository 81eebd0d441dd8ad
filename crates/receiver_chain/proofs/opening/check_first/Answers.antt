use Rattle.std.proofs.Common.{◌≡◌, ℕ, ◌+◌, ◌<◌, length, sym, ◌∙◌, ap, subst, arith, Option}
use Rattle.std.proofs.lemmas.Bool.{false≢true}
use Rattle.gated_log.proofs.Numbers.{short_header}
use Rattle.gated_log.proofs.Walking.{damaged_is}
use Rattle.receiver_chain.specs.Receivers.{Follows}
use Rattle.receiver_chain.proofs.Firsts.{first_is}
use Rattle.receiver_chain.proofs.opening.check_first.Goals as goal

pub returns-then-size-lt-HEADER-clause-follows : goal.returns-then-size-lt-HEADER-clause-follows
returns-then-size-lt-HEADER-clause-follows g c = λ tells first version body may is.
    let same = c.sync.ensures.stays.seen c.args.area in
    let short : length ((g.S.Store.disk c.args.store.now).seen c.args.area) < 32 = omega (arith, c.in_ok-size.ensures.size tells, ap length same, c.if-size-lt-HEADER.true) in
    absurd (short_header c.args.area ((g.S.Store.disk c.args.store.now).seen c.args.area) short first version body may is)

pub returns-then-follows-clause-follows : goal.returns-then-follows-clause-follows
returns-then-follows-clause-follows g c = λ tells first version body may is.
    let same = c.size.ensures.stays.seen c.args.area ∙ c.sync.ensures.stays.seen c.args.area in
    let read = first_is c.args.area first version body _ c.read.new.into may (same ∙ is) c.read.auto.into (c.in_ok-read.ensures.bytes tells) in
    let told = c.follows.ensures.0 c.if-follows.true in
    let behind : first ≡ c.in-Some.before + 1 = sym read ∙ sym c.read_u64.ensures ∙ told in
    subst (λ (o : Option ℕ). Follows o first) (sym c.in-Some.is) behind

pub returns-else-follows-clause-damaged : goal.returns-else-follows-clause-damaged
returns-else-follows-clause-damaged g c = λ a at is.
    let parts = damaged_is {T = Unit {0}} c.args.area 0 a at is in (
      parts.0,
      parts.1,
      λ tells first version body may follows whole.
          let same = c.size.ensures.stays.seen c.args.area ∙ c.sync.ensures.stays.seen c.args.area in
          let read = first_is c.args.area first version body _ c.read.new.into may (same ∙ whole) c.read.auto.into (c.in_ok-read.ensures.bytes tells) in
          let behind : first ≡ c.in-Some.before + 1 = subst (λ (o : Option ℕ). Follows o first) c.in-Some.is follows in
          let true_is = c.follows.ensures.1 (c.read_u64.ensures ∙ read ∙ behind) in
          false≢true (sym c.if-follows.false ∙ true_is),
    )
