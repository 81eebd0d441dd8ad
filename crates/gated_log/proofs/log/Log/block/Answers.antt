use Rattle.std.proofs.Common.{◌≡◌, ◌<◌, ℕ, length, take, drop, ap, ◌∙◌, arith}
use Rattle.std.proofs.lemmas.List.{take_at, length-map}
use Rattle.gated_log.specs.declared.log.Place.{Place}
use Rattle.gated_log.proofs.Whole.{read_at, read_within}
use Rattle.gated_log.proofs.log.Log.block.Goals as goal

pub read-requires : goal.read-requires
read-requires g c = λ tells.
    let below : c.args.n < length c.self.inside.places.items = omega (arith, c.requires.below, ap length (ap (λ v. v.lengths) c.self.view_is), length-map c.self.inside.places.items (λ (p : Place). p.length)) in
    let within = read_within c.args.self.now c.self.inside.area c.self.inside.end c.self.inside.places.items (ap (λ v. v.area) c.self.view_is) (ap (λ v. v.lengths) c.self.view_is) c.self.invariant.0 _ c.args.n c.index-place.result.now (c.requires.settled tells) below c.index-place.ensures in
    omega (arith, within, c.deref_mut.ensures.len, c.in_ok-resize.ensures.len)

pub returns-clause-block : goal.returns-clause-block
returns-clause-block g c = λ tells blocks settled.
    let below : c.args.n < length c.self.inside.places.items = omega (arith, c.requires.below, ap length (ap (λ v. v.lengths) c.self.view_is), length-map c.self.inside.places.items (λ (p : Place). p.length)) in
    let read = read_at c.args.self.now c.self.inside.area c.self.inside.end c.self.inside.places.items (ap (λ v. v.area) c.self.view_is) (ap (λ v. v.lengths) c.self.view_is) c.self.invariant.0 blocks _ c.args.n c.index-place.result.now settled below c.index-place.ensures in
    let size : length c.read.new.into ≡ c.resize.new.self.len = omega (arith, c.deref_mut.ensures.len) in
    let length_is : length c.read.new.into ≡ c.index-place.result.now.length = omega (arith, c.deref_mut.ensures.len, c.in_ok-resize.ensures.len) in
    take_at c.read.new.into _ c.resize.new.self.len size ∙ c.in_ok-read.ensures.bytes tells
    ∙ ap (λ (k : ℕ). take k (drop c.index-place.result.now.at ((g.S.Store.disk c.args.store.now).seen c.self.inside.area))) length_is ∙ read.is
