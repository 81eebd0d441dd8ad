use Rattle.std.proofs.Common.{◌+◌, refl}
use Rattle.std.specs.Option.{option_map}
use Rattle.parts_model.specs.NewKeys.{reservation_of}
use Rattle.parts_model.proofs.FreeKeyLemmas.{have-at, reserved-other, reserved-own}
use Rattle.library_parts.proofs.contents.Contents.reserved_from.Goals as goal

pub returns-then-number-job : goal.returns-then-number-job
returns-then-number-job c = λ format key left at next is.
    reserved-own format key c.args.job c.args.self.now.state.jobs left c.args.place (c.args.place + 1) (option_map reservation_of c.args.rest) c.requires.place next is refl c.if-number-job.true

pub least_taken-requires : goal.least_taken-requires
least_taken-requires c =
    let path = c.requires.path in
    let all = path.2 in (
      path.0,
      path.1,
      have-at path.0 c.args.its.member c.args.place c.self.inside.jobs.jobs c.changes_of.result.now.changes (rw (← c.self.view_is) at all) c.changes_of.ensures,
    )

pub returns : goal.returns
returns c = λ format key left at next is.
    reserved-other format key c.args.job c.args.self.now.state.jobs left c.args.place c.changes_of.result.now.changes (option_map reservation_of c.args.rest)
    (rw (← c.self.view_is) c.changes_of.ensures) next is (c.args.place + 1) c.in_ok-own.own _ refl c.if-number-job.false (c.in_ok-own.ensures format key at) c.first_of_both.ensures
