use Rattle.std.proofs.Common.{List}
use Rattle.key_spec.specs.declared.KeyPart.{KeyPart}
use Rattle.open_position.specs.Reads.{IsOrderOf}
use Rattle.open_position.proofs.StandLemmas.{in-one, suits, can-find}
use Rattle.open_position.proofs.FindLemmas.{finds}
use Rattle.open_position.proofs.position.OpenPosition.find.Goals as goal

pub found-requires-clause-suits : goal.found-requires-clause-suits
found-requires-clause-suits c =
    suits _ c.args.over (in-one _ _ c.self.view_is (λ (formats : List (List KeyPart)). IsOrderOf formats c.args.over) c.requires.order) c.self.inside.cursor.position c.self.invariant.position

pub found-requires-clause-can : goal.found-requires-clause-can
found-requires-clause-can c = can-find c.args.self.now.formats c.args.by c.args.over c.requires.order c.requires.asked c.requires.looked

pub returns-clause-by_path : goal.returns-clause-by_path
returns-clause-by_path c =
    (finds c.self.inside.formats.items c.self.inside.keys.parts c.self.inside.cursor c.self.inside.marks c.self.invariant c.args.over c.args.by c.found.result c.args.self.now c.self.view_is
    c.requires.order c.requires.asked c.requires.looked c.keys_are_read_back.ensures.values c.given_keys_are_read_back.ensures.values c.found.ensures).by_path

pub returns-clause-by_number : goal.returns-clause-by_number
returns-clause-by_number c =
    (finds c.self.inside.formats.items c.self.inside.keys.parts c.self.inside.cursor c.self.inside.marks c.self.invariant c.args.over c.args.by c.found.result c.args.self.now c.self.view_is
    c.requires.order c.requires.asked c.requires.looked c.keys_are_read_back.ensures.values c.given_keys_are_read_back.ensures.values c.found.ensures).by_number

pub returns-clause-bytes : goal.returns-clause-bytes
returns-clause-bytes c =
    (finds c.self.inside.formats.items c.self.inside.keys.parts c.self.inside.cursor c.self.inside.marks c.self.invariant c.args.over c.args.by c.found.result c.args.self.now c.self.view_is
    c.requires.order c.requires.asked c.requires.looked c.keys_are_read_back.ensures.values c.given_keys_are_read_back.ensures.values c.found.ensures).bytes

pub returns-clause-bytes_by_number : goal.returns-clause-bytes_by_number
returns-clause-bytes_by_number c =
    (finds c.self.inside.formats.items c.self.inside.keys.parts c.self.inside.cursor c.self.inside.marks c.self.invariant c.args.over c.args.by c.found.result c.args.self.now c.self.view_is
    c.requires.order c.requires.asked c.requires.looked c.keys_are_read_back.ensures.values c.given_keys_are_read_back.ensures.values c.found.ensures).bytes_by_number
