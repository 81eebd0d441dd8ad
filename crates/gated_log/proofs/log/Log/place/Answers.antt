use Rattle.std.proofs.Common.{◌<◌, length, ap, arith}
use Rattle.std.proofs.lemmas.List.{length-map}
use Rattle.gated_log.specs.declared.log.Place.{Place}
use Rattle.gated_log.proofs.Whole.{place_is, place_stands}
use Rattle.gated_log.proofs.log.Log.place.Goals as goal

pub overflow_sub-result : goal.overflow_sub-result
overflow_sub-result c =
    let below : c.args.n < length c.self.inside.places.items = omega (arith, c.requires, ap length (ap (λ v. v.lengths) c.self.view_is), length-map c.self.inside.places.items (λ (p : Place). p.length)) in
    let is = place_is c.args.self.now c.self.inside.area c.self.inside.end c.self.inside.places.items (ap (λ v. v.area) c.self.view_is) (ap (λ v. v.lengths) c.self.view_is) c.self.invariant.0 c.args.n c.index.result.now below c.index.ensures in
    omega (arith, is)

pub returns-clause-place : goal.returns-clause-place
returns-clause-place c =
    let below : c.args.n < length c.self.inside.places.items = omega (arith, c.requires, ap length (ap (λ v. v.lengths) c.self.view_is), length-map c.self.inside.places.items (λ (p : Place). p.length)) in
    let is = place_is c.args.self.now c.self.inside.area c.self.inside.end c.self.inside.places.items (ap (λ v. v.area) c.self.view_is) (ap (λ v. v.lengths) c.self.view_is) c.self.invariant.0 c.args.n c.index.result.now below c.index.ensures in
    omega (arith, is)

pub returns-clause-stands : goal.returns-clause-stands
returns-clause-stands c = λ blocks bytes spells same.
    let below : c.args.n < length c.self.inside.places.items = omega (arith, c.requires, ap length (ap (λ v. v.lengths) c.self.view_is), length-map c.self.inside.places.items (λ (p : Place). p.length)) in
    let is = place_is c.args.self.now c.self.inside.area c.self.inside.end c.self.inside.places.items (ap (λ v. v.area) c.self.view_is) (ap (λ v. v.lengths) c.self.view_is) c.self.invariant.0 c.args.n c.index.result.now below c.index.ensures in
    place_stands c.args.self.now c.self.inside.area c.self.inside.end c.self.inside.places.items (ap (λ v. v.area) c.self.view_is) (ap (λ v. v.lengths) c.self.view_is) c.self.invariant.0 blocks bytes c.args.n _ spells same below (omega (arith, is))
