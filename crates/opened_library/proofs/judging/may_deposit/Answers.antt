use Rattle.std.proofs.Common.{◌≤◌, ℕ, List, refl, subst}
use Rattle.std.specs.List.{AllByRecursion}
use Rattle.member_slots.specs.Members.{NumberedMembers}
use Rattle.library_steps.specs.State.{FileState}
use Rattle.kept_library.specs.Counted.{HasBytes}
use Rattle.opened_library.proofs.JudgedLemmas.{may-deposit}
use Rattle.opened_library.proofs.judging.may_deposit.Goals as goal

pub returns : goal.returns
returns c = λ is.
    may-deposit c.args.contents.now.state c.requires.none c.requires.unsaved (c.if-not-has_numbers.ensures.next refl)
    (subst (λ (all : NumberedMembers). AllByRecursion (λ entry. 1 ≤ entry.number) all) c.members.ensures (c.if-not-are_counted.ensures refl))
    (subst (λ (all : List (List ℕ × FileState)). AllByRecursion (λ entry. HasBytes entry.1.spec) all) c.catalogue.ensures (c.have_bytes.ensures is)) (c.if-not-has_numbers.ensures.last refl)
