use Rattle.std.proofs.Common.{◌∙◌, Bool, Result, sym, subst}
use Rattle.library_model.specs.declared.replies.Reply.{Reply}
use Rattle.library_model.specs.declared.replies.Reply.TheVariants.{DuplicateKey}
use Rattle.file_model.specs.Paths.{clash, path_key}
use Rattle.library_steps.specs.Refusals.{refuse_with}
use Rattle.library_steps.specs.State.{job_of, memory_of}
use Rattle.library_steps.specs.Uses.{changes_in}
use Rattle.parts_model.specs.Answers.{MayAllow}
use Rattle.parts_model.specs.NewKeys.{keys_kept}
use Rattle.parts_model.proofs.AllowLemmas.{may-end}
use Rattle.parts_model.proofs.KeyLemmas.{key-at}
use Rattle.parts_model.proofs.KeyPlanLemmas.{tested-repeated, tested-reserved}
use Rattle.library_parts.proofs.contents.Contents.free_in_file.Goals as goal

pub not_reserved-requires-clause-path : goal.not_reserved-requires-clause-path
not_reserved-requires-clause-path c = (c.requires.path.0, c.requires.path.1, c.requires.asked.before c.args.id c.requires.path.0 c.requires.path.1)

pub returns-in-Reserved : goal.returns-in-Reserved
returns-in-Reserved c = λ format at.
    let new = c.args.new in
    let image = new.image.now in
    let m = memory_of c.args.self.now.state in
    let paths = c.args.self.now.room.paths.paths in
    let key = path_key format image in
    let shows = (rw c.in-Some.is at c.in_ok-key.ensures) format at in
    let kept = c.not_reserved.ensures format key (key-at c.args.id new.member format paths image c.as_bytes.result.now at c.requires.asked.bytes (c.as_bytes.ensures ∙ shows.1)) in
    rw c.in-Reserved.is
    (subst (λ (r : Result Bool Reply). MayAllow c.not_reserved.result r) (sym (tested-reserved m new.job new.commit new.member new.rrn image format c.requires.running key shows.0 c.args.file))
    (may-end c.not_reserved.result (keys_kept format key new.job new.commit (changes_in (job_of new.job m).cycle) m.jobs) kept))

pub returns : goal.returns
returns c = λ format at.
    let new = c.args.new in
    let image = new.image.now in
    let m = memory_of c.args.self.now.state in
    let shows = (rw c.in-Some.is at c.in_ok-key.ensures) format at in
    rw c.in-Repeated.is
    (subst (λ (r : Result Bool Reply). MayAllow c.not_repeated.result r) (sym (tested-repeated m new.job new.commit new.member new.rrn image format shows.0 c.args.file))
    (may-end c.not_repeated.result (refuse_with (λ other. DuplicateKey c.args.file other) (clash format m.members image new.rrn)) (c.not_repeated.ensures format at)))
