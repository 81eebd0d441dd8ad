use Rattle.std.proofs.Common.{◌≡◌, Some, rules}
use Rattle.library_model.specs.Named.{named}
use Rattle.parts_model.proofs.LawfulLemmas.{IsLibrary-seen}
use Rattle.lawful_states.proofs.BaseLemmas.{physical-found}
use Rattle.lawful_states.proofs.FindLemmas.{found-is, member-there}
use Rattle.library_parts.proofs.contents.Contents.member_of_file.Goals as goal

pub returns-in-Some-clause-there : goal.returns-in-Some-clause-there
returns-in-Some-clause-there c =
    let state = c.args.self.now.state in
    let file = c.in_ok-file.file.now in
    let lawful = IsLibrary-seen _ c.args.self.now c.self.view_is c.self.invariant.0.lawful in
    let here : named c.args.file.now state.files ≡ Some file = (physical-found c.args.file.now state.files file (found-is _ _ _ c.in_ok-file.ensures.shows)).0 in
    let found : named c.args.member.now file.members ≡ Some c.in-Some.status = search rules in
    member-there state c.args.file.now c.args.member.now file c.in-Some.status lawful here found
