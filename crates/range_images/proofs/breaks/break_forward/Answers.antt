use Rattle.std.proofs.Common.{◌≡◌, ◌∷◌, Option, Some, None, sym, ap, ◌∙◌}
use Rattle.std.specs.Option.{option_map}
use Rattle.journal_model.specs.Acts.{acts}
use Rattle.journal_model.specs.Walks.{RangeFault, Gap, NotRemovable}
use Rattle.journal_model.specs.Ranges.{placed, first_gap, first_renumbering, first_fault}
use Rattle.range_images.specs.declared.breaks.Break.TheVariants as breaks
use Rattle.range_images.specs.Sides.{first_sequence}
use Rattle.range_images.specs.Breaks.{first_break_in}
use Rattle.range_images.proofs.BreakLemmas.{gap-forward, renumbering-forward}
use Rattle.range_images.proofs.breaks.break_forward.Goals as goal

pub returns-in-Some : goal.returns-in-Some
returns-in-Some c = λ prior faults answer.
    let there : first_gap (placed (first_sequence c.args.entries.now) (acts c.args.number prior c.args.entries.now)) ≡ Some (Gap c.in-Some.sequence) =
    gap-forward c.args.number c.args.entries.now prior (first_sequence c.args.entries.now) c.requires ∙ ap (option_map Gap) (sym c.in-Some.ensures) in
    ap (λ (o : Option RangeFault). first_fault (o ∷ first_renumbering (placed (first_sequence c.args.entries.now) (acts c.args.number prior c.args.entries.now)) ∷ faults) answer) there

pub returns-in-Some-first_break : goal.returns-in-Some-first_break
returns-in-Some-first_break c = λ prior faults answer.
    let none : first_break_in breaks.Gap c.args.number c.args.entries.now ≡ None = sym c.first_break.ensures ∙ c.in_default.is in
    let no_gap : first_gap (placed (first_sequence c.args.entries.now) (acts c.args.number prior c.args.entries.now)) ≡ None =
    gap-forward c.args.number c.args.entries.now prior (first_sequence c.args.entries.now) c.requires ∙ ap (option_map Gap) none in
    let there : first_renumbering (placed (first_sequence c.args.entries.now) (acts c.args.number prior c.args.entries.now)) ≡ Some (NotRemovable c.in-Some-first_break.sequence) =
    renumbering-forward c.args.number c.args.entries.now prior (first_sequence c.args.entries.now) c.requires ∙ ap (option_map NotRemovable) (sym c.in-Some-first_break.ensures) in
    ap (λ (o : Option RangeFault). first_fault (o ∷ first_renumbering (placed (first_sequence c.args.entries.now) (acts c.args.number prior c.args.entries.now)) ∷ faults) answer) no_gap
    ∙ ap (λ (o : Option RangeFault). first_fault (o ∷ faults) answer) there

pub returns-in-None : goal.returns-in-None
returns-in-None c = λ prior.
    let none : first_break_in breaks.Gap c.args.number c.args.entries.now ≡ None = sym c.first_break.ensures ∙ c.in_default.is in (
      gap-forward c.args.number c.args.entries.now prior (first_sequence c.args.entries.now) c.requires ∙ ap (option_map Gap) none,
      renumbering-forward c.args.number c.args.entries.now prior (first_sequence c.args.entries.now) c.requires ∙ ap (option_map NotRemovable) (sym c.in-None.ensures),
    )
