use Rattle.std.proofs.Common.{Bool, Result, sym, subst}
use Rattle.library_model.specs.declared.replies.Reply.{Reply}
use Rattle.library_steps.specs.State.{memory_of}
use Rattle.library_steps.specs.UniqueKeys.{UniquePath}
use Rattle.parts_model.specs.Answers.{MayAllow}
use Rattle.parts_model.specs.Parts.{state_of}
use Rattle.parts_model.proofs.FreePaths.{kept-at, kept-formats, kept-old}
use Rattle.parts_model.proofs.KeyLemmas.{asked-there}
use Rattle.parts_model.proofs.KeyPlanLemmas.{path-told}
use Rattle.library_parts.proofs.contents.Contents.free_in_path.Goals as goal

pub free_in_file-requires-clause-path : goal.free_in_file-requires-clause-path
free_in_file-requires-clause-path c =
    let unique : UniquePath = record { file = c.args.file; path = c.args.path.now } in
    let found = rw c.in-Some.is at c.number_of.ensures in
    let kept = rw (← c.self.view_is) at c.requires.kept in
    let asked = rw (← c.self.view_is) at c.requires.asked in
    let over = kept-at c.args.new.member c.in-Some.id c.self.inside.paths.paths unique found.0 kept found.1 found.2 in
    rw (← c.self.view_is)
    (kept.format, over, asked-there c.in-Some.id c.args.new.member c.args.new.image.now kept.format c.self.inside.paths.paths asked.new over)

pub returns-in-Some : goal.returns-in-Some
returns-in-Some c =
    let new = c.args.new in
    let inside = c.self.inside in
    let s = state_of inside.catalogue inside.members inside.next_member inside.journal inside.locks inside.jobs in
    let unique : UniquePath = record { file = c.args.file; path = c.args.path.now } in
    let found = rw c.in-Some.is at c.number_of.ensures in
    let kept = rw (← c.self.view_is) at c.requires.kept in
    let over = kept-at new.member c.in-Some.id inside.paths.paths unique found.0 kept found.1 found.2 in
    let told = (rw (← c.self.view_is) at c.free_in_file.ensures) kept.format over in
    rw (← c.self.view_is)
    (subst (λ (r : Result Bool Reply). MayAllow c.free_in_file.result r)
    (sym (path-told c.args.test (memory_of s) new.job new.commit new.member new.rrn new.image.now kept.format unique (kept-formats new.member inside.paths.paths unique kept))) told)

pub returns-in-None : goal.returns-in-None
returns-in-None c =
    let unique : UniquePath = record { file = c.args.file; path = c.args.path.now } in
    absurd (kept-old c.args.new.member c.self.inside.paths.paths unique (rw (← c.self.view_is) at c.requires.kept) (rw c.in-None.is at c.number_of.ensures))
