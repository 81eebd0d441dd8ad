use Rattle.parts_model.proofs.KeyLemmas.{can-ask, key-told}
use Rattle.library_parts.proofs.contents.Contents.has_key.Goals as goal

pub key-requires : goal.key-requires
key-requires c =
    let its = rw (← c.self.view_is) at c.requires in
    can-ask c.args.id its.0 _ its.1 c.self.inside.paths.paths its.2 (its.3 c.are_bytes.ensures)

pub returns-in-Some : goal.returns-in-Some
returns-in-Some c = λ member format values at.
    rw (c.eq.ensures, c.as_bytes.ensures)
    (key-told c.args.id member c.args.key.now format values c.self.inside.paths.paths c.args.image.now c.in_ok-other.field-0 c.in-Some.other (rw (← c.self.view_is) at at) c.are_bytes.ensures
    c.in_ok-other.ensures c.in-Some.is)
