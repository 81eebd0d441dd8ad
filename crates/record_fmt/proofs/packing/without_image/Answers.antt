use Rattle.std.specs.Option.{option_copied}
use Rattle.record_fmt.specs.Records.{fields_given}
use Rattle.record_fmt.specs.Choice.{given_of}
use Rattle.record_fmt.proofs.WrittenLemmas.{no-count, not-count}
use Rattle.record_fmt.proofs.packing.without_image.Goals as goal

pub returns-in-Some-clause-count : goal.returns-in-Some-clause-count
returns-in-Some-clause-count c =
    not-count (fields_given 1 c.args.fields.now (given_of c.args.values) (option_copied c.args.old)) c.in-Some.fault c.in-Some.ensures
    (no-count 1 c.args.fields.now (given_of c.args.values) (option_copied c.args.old))
