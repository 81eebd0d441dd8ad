use Rattle.std.proofs.Common.{◌∙◌, sym}
use Rattle.std.specs.Option.{option_copied}
use Rattle.record_fmt.specs.Choice.{given_of}
use Rattle.record_fmt.proofs.LayoutLemmas.{IsFieldOf, allowed-at, field-room}
use Rattle.record_fmt.proofs.WrittenLemmas.{IsGiven, IsFilled-turn}
use Rattle.record_fmt.proofs.packing.fill.Goals as goal

pub put_given-requires-clause-allowed : goal.put_given-requires-clause-allowed
put_given-requires-clause-allowed c = allowed-at 0 c.args.fields.now c.loop-i.i c.index-fields-i.result c.requires.laid.lies c.loop-i-test.true c.index-fields-i.is

pub put_given-requires-clause-room : goal.put_given-requires-clause-room
put_given-requires-clause-room c =
    let here : IsFieldOf c.args.fields.now c.loop-i.i c.index-fields-i.result c.loop-i.image =
    record { within = c.loop-i-test.true; is = c.index-fields-i.is; laid = c.requires.laid; long = c.loop-i.auto.image ∙ c.requires.room } in
    field-room here

pub loop-i-preserved : goal.loop-i-preserved
loop-i-preserved c =
    let here : IsFieldOf c.args.fields.now c.loop-i.i c.index-fields-i.result c.loop-i.image =
    record { within = c.loop-i-test.true; is = c.index-fields-i.is; laid = c.requires.laid; long = c.loop-i.auto.image ∙ c.requires.room } in
    let given : IsGiven c.args.fields.now (given_of c.args.values) c.loop-i.i c.index-fields-i.result (option_copied c.get.result) =
    record { within = c.loop-i-test.true; is = c.index-fields-i.is; same = c.requires.same; given = c.get.ensures } in
    IsFilled-turn here given c.loop-i.invariant (sym c.in_default.ensures.refused) c.put_given.new.image c.put_given.auto.image c.in_default.ensures.put
