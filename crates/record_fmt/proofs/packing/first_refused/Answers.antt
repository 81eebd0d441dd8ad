use Rattle.std.proofs.Common.{◌≡◌, Bool, None, is_some, ◌∙◌, sym, subst}
use Rattle.std.specs.Option.{option_copied}
use Rattle.record_fmt.specs.Choice.{given_of, chosen, refused_by}
use Rattle.record_fmt.proofs.LayoutLemmas.{allowed-at}
use Rattle.record_fmt.proofs.WrittenLemmas.{IsGiven, refused-turn, some-copied}
use Rattle.record_fmt.proofs.packing.first_refused.Goals as goal

pub refused-requires : goal.refused-requires
refused-requires c = allowed-at 0 c.args.fields.now c.loop-i.i c.index-fields-i.result c.requires.laid.lies c.loop-i-test.true c.index-fields-i.is

pub loop-i-preserved : goal.loop-i-preserved
loop-i-preserved c =
    let given : IsGiven c.args.fields.now (given_of c.args.values) c.loop-i.i c.index-fields-i.result (option_copied c.get.result) =
    record { within = c.loop-i-test.true; is = c.index-fields-i.is; same = c.requires.same; given = c.get.ensures } in
    let keeps : c.is_some-keeps.result ≡ is_some (option_copied c.args.old) = c.is_some-keeps.ensures ∙ sym (some-copied c.args.old) in
    c.loop-i.invariant
    ∙ refused-turn given (option_copied c.args.old)
    (subst (λ (b : Bool). refused_by c.index-fields-i.result (chosen c.index-fields-i.result (option_copied c.get.result) b) ≡ None) keeps (sym c.refused.ensures ∙ c.in_default.is))
