use Rattle.std.proofs.Common.{◌≡◌, ◌∙◌, ◌+◌, ◌*◌, ◌≤◌, ℕ, List, length, map, sym, ap, subst, arith}
use Rattle.std.specs.Prelude.{All}
use Rattle.member_slots.specs.Member.{MemberState}
use Rattle.member_slots.specs.Members.{member_of}
use Rattle.parts_model.below.path_set.specs.declared.moves.ImageChange.{ImageChange}
use Rattle.parts_model.below.path_set.specs.declared.moves.PathMove.{PathMove}
use Rattle.parts_model.specs.KeptPaths.{NumberedPaths}
use Rattle.parts_model.specs.ManyChanges.{TakeImages, change_in, moves_of_all}
use Rattle.parts_model.specs.RecordChanges.{HaveRoom, RecordChange}
use Rattle.range_images.specs.Given.{AreInPlace}
use Rattle.parts_model.specs.GivenChanges.{changes_given}
use Rattle.parts_model.specs.Table.{changes_held}
use Rattle.parts_model.specs.Parts.{state_of}
use Rattle.parts_model.proofs.GivenTakes.{given-asked, given-long, moves-and-room}
use Rattle.parts_model.proofs.IndexPaths.{IsIndexed-roomier}
use Rattle.parts_model.proofs.RemadeLemmas.{found-member}
use Rattle.library_parts.proofs.contents.Contents.prepare_given.Goals as goal

pub image_changes-requires : goal.image_changes-requires
image_changes-requires c =
    let parts = c.self.inside in
    let may = rw (← c.self.view_is) at c.requires in
    let found = found-member c.args.member parts.members.members _ c.at.result c.unwrap-stands.result c.at.ensures.found c.unwrap-stands.ensures in
    subst (λ (m : MemberState). AreInPlace 1 c.args.given.now m.slots) (sym found) may.takes.places

pub prepare_all-requires : goal.prepare_all-requires
prepare_all-requires c =
    let parts = c.self.inside in
    let state = state_of parts.catalogue parts.members parts.next_member parts.journal parts.locks parts.jobs in
    let may = rw (← c.self.view_is) at c.requires in
    let found = found-member c.args.member parts.members.members _ c.at.result c.unwrap-stands.result c.at.ensures.found c.unwrap-stands.ensures in
    let is = c.in_ok-changes.ensures c.args.member ∙ ap (λ (m : MemberState). changes_given c.args.member c.args.given.now m.slots) found in
    subst (λ (changes : List ImageChange). All (TakeImages c.args.member parts.paths.paths) changes) (sym c.as_slice.ensures.value)
    (given-asked state c.args.member parts.jobs.orders parts.jobs.moves parts.paths c.len-files.ensures.keyed c.len-files.ensures.unique c.self.invariant.0.lawful c.kept-kept.ensures.shared
    c.at.ensures.lawful c.self.invariant.2 c.args.given.now
    c.in_ok-changes.changes.items may c.are_of_bytes.ensures is)

pub invariant_of-self : goal.invariant_of-self
invariant_of-self c =
    (c.self.invariant.0, c.self.invariant.1, IsIndexed-roomier _ _ _ _ _ _ c.self.inside.paths c.prepare_all.new.self c.prepare_all.ensures.paths c.prepare_all.ensures.rooms c.self.invariant.2)

pub returns-clause-moves : goal.returns-clause-moves
returns-clause-moves c =
    let parts = c.self.inside in
    let slots = (member_of c.args.member parts.members.members).slots in
    let found = found-member c.args.member parts.members.members _ c.at.result c.unwrap-stands.result c.at.ensures.found c.unwrap-stands.ensures in
    let is = c.in_ok-changes.ensures c.args.member ∙ ap (λ (m : MemberState). changes_given c.args.member c.args.given.now m.slots) found in
    let asked : map (change_in c.args.member) c.as_slice.result.now ≡ changes_given c.args.member c.args.given.now slots =
    ap (λ (changes : List ImageChange). map (change_in c.args.member) changes) c.as_slice.ensures.value ∙ is in
    let long = given-long c.args.member c.args.given.now slots c.as_slice.result.now asked in
    let held : c.in-Some.held ≡ changes_held parts.jobs.jobs + 0 = c.in-Some.ensures ∙ ap (λ (n : ℕ). n + 0) c.changes_held.ensures in
    let all : c.in-Some.held + 2 * length c.as_slice.result.now ≡ changes_held parts.jobs.jobs + 2 * length c.args.given.now = omega (arith, held, long) in
    moves-and-room (λ (moves : List PathMove). moves ≡ moves_of_all (map (change_in c.args.member) c.as_slice.result.now) parts.paths.paths)
    (1 ≤ length c.as_slice.result.now → HaveRoom c.args.member (c.in-Some.held + 2 * length c.as_slice.result.now) c.prepare_all.new.self)
    _ c.prepare_all.result
    (λ moves made room. record {
      same = made ∙ ap (λ (cs : List RecordChange). moves_of_all cs parts.paths.paths) asked
          ∙ ap (λ (paths : NumberedPaths). moves_of_all (changes_given c.args.member c.args.given.now slots) paths) (sym c.prepare_all.ensures.paths);
      room = λ some. subst (λ (n : ℕ). HaveRoom c.args.member n c.prepare_all.new.self) all (room (omega (arith, some, long)));
    })
    c.prepare_all.ensures.moves c.prepare_all.ensures.room
