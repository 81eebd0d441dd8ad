use Rattle.std.proofs.Common.{◌≡◌, ◌∙◌, ap, Some, ℕ}
use Rattle.path_set.proofs.AttachLemmas.{shared-not-new, judged-put}
use Rattle.path_set.proofs.set.PathSet.attach.Goals as goal

pub returns-in-Some-clause-room : goal.returns-in-Some-clause-room
returns-in-Some-clause-room c absent =
    let shared = rw c.in-Some.is at c.in_ok-id.ensures.shared in
    absurd (shared-not-new c.args.spec c.in-Some.id c.args.self.now.paths c.share.new.self.paths shared absent)

pub returns-in-Some-clause-unique : goal.returns-in-Some-clause-unique
returns-in-Some-clause-unique c tells absent =
    let shared = rw c.in-Some.is at c.in_ok-id.ensures.shared in
    absurd (shared-not-new c.args.spec c.in-Some.id c.args.self.now.paths c.share.new.self.paths shared absent)

pub returns-in-Some-equal_keys-clause-equal : goal.returns-in-Some-equal_keys-clause-equal
returns-in-Some-equal_keys-clause-equal c rrn tells is =
    let none = rw c.in_default.is at c.in_ok-id.ensures.shared in
    let same : c.in-Some-equal_keys.rrn ≡ rrn = cc in (
      none.0,
      judged-put c.args.spec c.new-by.result c.args.members.now.members c.in_ok-path.path.entries c.equal_keys.result c.new-by.ensures c.in_ok-path.ensures.entries c.equal_keys.ensures tells
          ∙ c.in-Some-equal_keys.is
          ∙ ap (λ (n : ℕ). Some n) same,
    )

pub returns-clause-unique : goal.returns-clause-unique
returns-clause-unique c tells absent =
    judged-put c.args.spec c.new-by.result c.args.members.now.members c.in_ok-path.path.entries c.equal_keys.result c.new-by.ensures c.in_ok-path.ensures.entries c.equal_keys.ensures tells
    ∙ c.in_default-equal_keys.is
