use Rattle.std.proofs.Common.{◌≡◌, ◌∙◌, sym, ap, subst}
use Rattle.member_slots.specs.Member.{MemberState}
use Rattle.library_parts.specs.Filled.{MayFill}
use Rattle.library_steps.specs.MemberCommands.{with_slots}
use Rattle.library_steps.specs.State.{memory_of}
use Rattle.restarted_library.specs.Steps.{filled_by}
use Rattle.restarted_library.proofs.FitLemmas.{filled-is}
use Rattle.restarted_library.proofs.filling.fill.Goals as goal

pub paths_filled-requires : goal.paths_filled-requires
paths_filled-requires c =
    let s = c.args.contents.now.state in
    let same : c.in_ok-new.new.state ≡ filled_by s c.args.number c.args.member.now.slots =
    filled-is s c.args.number c.record_length-length.result c.args.member.now.slots c.slots.result.now c.in_ok-new.new.state c.in_ok-new.ensures c.record_length-length.ensures c.slots.ensures in
    subst (λ (m : MemberState). MayFill s c.args.number m) (sym same) c.in_ok-may_fill.ensures

pub fill-requires-clause-may : goal.fill-requires-clause-may
fill-requires-clause-may c =
    let s = c.args.contents.now.state in
    let same : c.in_ok-new.new.state ≡ filled_by s c.args.number c.args.member.now.slots =
    filled-is s c.args.number c.record_length-length.result c.args.member.now.slots c.slots.result.now c.in_ok-new.new.state c.in_ok-new.ensures c.record_length-length.ensures c.slots.ensures in
    subst (λ (m : MemberState). MayFill s c.args.number m) (sym same) c.in_ok-may_fill.ensures

pub fill-requires-clause-paths : goal.fill-requires-clause-paths
fill-requires-clause-paths c = c.in_ok-paths.ensures

pub returns-clause-memory : goal.returns-clause-memory
returns-clause-memory c =
    let s = c.args.contents.now.state in
    let same : c.in_ok-new.new.state ≡ filled_by s c.args.number c.args.member.now.slots =
    filled-is s c.args.number c.record_length-length.result c.args.member.now.slots c.slots.result.now c.in_ok-new.new.state c.in_ok-new.ensures c.record_length-length.ensures c.slots.ensures in
    c.fill.ensures.memory ∙ ap (λ (m : MemberState). with_slots c.args.number (λ _. m) (memory_of s)) same
