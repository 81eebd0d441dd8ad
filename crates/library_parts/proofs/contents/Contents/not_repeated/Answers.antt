use Rattle.std.proofs.Common.{◌∙◌, ℕ, Option, sym, ap}
use Rattle.library_model.specs.declared.replies.Reply.TheVariants.{DuplicateKey}
use Rattle.library_steps.specs.Refusals.{refuse_with}
use Rattle.parts_model.proofs.KeyLemmas.{clash-shown}
use Rattle.library_parts.proofs.contents.Contents.not_repeated.Goals as goal

pub returns-in-Some : goal.returns-in-Some
returns-in-Some c =
    let asked = rw (← c.self.view_is) at c.requires.asked in
    rw (← c.self.view_is)
    (λ format over. ap (λ (o : Option ℕ). refuse_with (λ other. DuplicateKey c.args.file other) o)
    (sym (clash-shown c.args.id c.args.new.member format c.self.inside.paths.paths c.args.new.image.now c.args.new.rrn c.self.inside.members.members c.in_ok-rrn.field-0 over
    (asked.told c.args.id format over) c.in_ok-rrn.ensures) ∙ c.in-Some.is))

pub returns-in-None : goal.returns-in-None
returns-in-None c =
    let asked = rw (← c.self.view_is) at c.requires.asked in
    rw (← c.self.view_is)
    (λ format over. ap (λ (o : Option ℕ). refuse_with (λ other. DuplicateKey c.args.file other) o)
    (sym (clash-shown c.args.id c.args.new.member format c.self.inside.paths.paths c.args.new.image.now c.args.new.rrn c.self.inside.members.members c.in_ok-rrn.field-0 over
    (asked.told c.args.id format over) c.in_ok-rrn.ensures) ∙ c.in-None.is))
