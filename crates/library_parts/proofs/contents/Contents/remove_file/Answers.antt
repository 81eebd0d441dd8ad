use Rattle.std.proofs.Common.{◌≡◌, ◌∙◌, ℕ, ◌+◌, ◌-◌, IsSome, ap, arith, subst}
use Rattle.member_slots.specs.Members.{NumberedMembers, item_at}
use Rattle.library_model.specs.Named.{Named}
use Rattle.library_steps.specs.DeleteFile.{without_members}
use Rattle.library_steps.specs.Ranges.{library_bytes}
use Rattle.library_steps.specs.State.{MemberStatus}
use Rattle.parts_model.specs.KeptPaths.{NumberedPaths, spare_of}
use Rattle.parts_model.specs.Parts.{state_of}
use Rattle.parts_model.specs.PathChanges.{detached_each, without_paths}
use Rattle.parts_model.proofs.IndexDetached.{some-each}
use Rattle.parts_model.proofs.IndexDeleted.{IsIndexed-without_file}
use Rattle.lawful_states.proofs.DeleteLemmas.{AreOne-deleted, free-independent}
use Rattle.library_parts.proofs.contents.Contents.remove_file.Goals as goal

pub invariant_of-self : goal.invariant_of-self
invariant_of-self c =
    let parts = c.self.inside in
    let state = state_of parts.catalogue parts.members parts.next_member parts.journal parts.locks parts.jobs in
    let members = parts.members.members in
    let file = c.remove-file.result in
    let taken = c.take_members-bytes in
    let counted : parts.member_bytes ≡ library_bytes members = c.self.invariant.0.counted in
    let gone = taken.ensures.gone ∙ ap (λ (names : Named MemberStatus). without_members names members) c.members-gone.ensures in
    let left : library_bytes taken.new.members.members ≡ library_bytes (without_members file.members members) = ap (λ (ms : NumberedMembers). library_bytes ms) gone in
    let bytes : library_bytes taken.new.members.members + taken.result ≡ library_bytes members = taken.ensures.bytes in
    let name = c.args.args.now.file in
    let alone = rw (← c.self.view_is) at c.requires.alone in
    let free = free-independent name parts.catalogue.files alone in
    let unused = (rw (← c.self.view_is) at c.requires.unused) file c.remove-file.ensures.file in
    let ids = c.args.paths.now in
    let own = rw (← c.self.view_is) at c.requires.paths in
    let paths = c.detach_each.ensures.paths
    ∙ ap (detached_each ids) (c.detach_paths.ensures.paths ∙ ap (λ (names : Named MemberStatus). without_paths names parts.paths.paths) c.members-gone.ensures) in
    let spares : (number : ℕ) → IsSome (item_at number c.detach_each.new.paths.paths) → spare_of number c.detach_each.new.paths ≡ spare_of number parts.paths = λ number there. c.detach_each.ensures.spares number there
    ∙ c.detach_paths.ensures.spares number (some-each ids number c.detach_paths.new.paths.paths (subst (λ (p : NumberedPaths). IsSome (item_at number p)) c.detach_each.ensures.paths there)) in
    rw (c.remove-file.ensures.removed, taken.ensures.gone, c.members-gone.ensures) (
      AreOne-deleted state parts.member_bytes (parts.member_bytes - taken.result) name file c.self.invariant.0 c.len-len.ensures.apart free c.remove-file.ensures.file unused
          (omega (arith, counted, left, bytes)) (omega arith),
      c.self.invariant.1,
      IsIndexed-without_file state name file c.self.invariant.0.lawful c.len-len.ensures.unique c.len-len.ensures.apart c.remove-file.ensures.file alone parts.jobs.orders parts.jobs.moves
          ids parts.paths c.detach_each.new.paths c.kept-kept.ensures.shared own unused paths spares c.self.invariant.2,
    )
