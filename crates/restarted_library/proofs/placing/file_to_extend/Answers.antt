use Rattle.std.proofs.Common.{◌<◌, ◌≡◌, ◌∙◌, length, ap, arith}
use Rattle.lawful_states.proofs.BaseLemmas.{physical-found}
use Rattle.library_model.specs.Named.{Named}
use Rattle.library_steps.specs.declared.limits.TheConstants.{MOST_MEMBERS}
use Rattle.library_steps.specs.State.{MemberStatus}
use Rattle.restarted_library.proofs.FitLemmas.{extends}
use Rattle.restarted_library.proofs.placing.file_to_extend.Goals as goal

pub returns-clause-there : goal.returns-clause-there
returns-clause-there c = (physical-found c.args.args.now.file c.args.contents.now.state.files c.in_ok-file.file.now c.in_ok-file.ensures).0

pub returns-clause-new : goal.returns-clause-new
returns-clause-new c =
    let same : c.len.result ≡ length c.in_ok-file.file.now.members = c.len.ensures ∙ ap (λ (ms : Named MemberStatus). length ms) c.members.ensures in
    let few : length c.in_ok-file.file.now.members < MOST_MEMBERS = omega (arith, same) in
    extends c.args.contents.now.state c.args.args.now c.in_ok-file.file.now c.in_ok-file.ensures few c.requires
