use Rattle.std.proofs.Common.{sym, subst}
use Rattle.join_rows.specs.declared.positions.RowPosition.TheVariants as rows
use Rattle.join_rows.specs.Rows.{IsAt}
use Rattle.join_position.specs.declared.position.Stand.{Stand}
use Rattle.join_position.specs.Kept.{IsStandIn, position_by}
use Rattle.join_position.proofs.PlaceLemmas.{at-on, at-bound}
use Rattle.join_position.proofs.position.place_from.Goals as goal

pub returns-in-On : goal.returns-in-On
returns-in-On c = λ spec parts matches is placed stands.
    subst (λ (s : Stand). IsStandIn parts s c.args.key.now → IsAt spec (rows.On c.args.key c.in-On.rrn c.args.places) (position_by parts s c.args.key.now matches)) (sym c.in-On.is)
    (λ on. at-on spec parts matches is c.args.key.now c.in-On.rrn c.args.places.now placed on) stands

pub returns-in-Before : goal.returns-in-Before
returns-in-Before c = λ spec parts matches is placed stands.
    subst (λ (s : Stand). IsStandIn parts s c.args.key.now → IsAt spec (rows.Before c.args.key) (position_by parts s c.args.key.now matches)) (sym c.in-Before.is)
    (λ given. at-bound spec parts matches is c.args.key.now given) stands

pub returns-in-Past : goal.returns-in-Past
returns-in-Past c = λ spec parts matches is placed stands.
    subst (λ (s : Stand). IsStandIn parts s c.args.key.now → IsAt spec (rows.Past c.args.key) (position_by parts s c.args.key.now matches)) (sym c.in-Past.is)
    (λ given. at-bound spec parts matches is c.args.key.now given) stands
