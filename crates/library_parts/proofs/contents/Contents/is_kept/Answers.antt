use Rattle.std.proofs.Common.{◌∙◌, sym}
use Rattle.library_steps.specs.State.{job_of, memory_of}
use Rattle.library_steps.specs.Uses.{changes_in}
use Rattle.parts_model.proofs.FreeKeyLemmas.{kept-none}
use Rattle.parts_model.proofs.ResultLemmas.{is_nothing}
use Rattle.library_parts.proofs.contents.Contents.is_kept.Goals as goal

pub returns-in-None : goal.returns-in-None
returns-in-None c = λ free format key at.
    let s = c.args.self.now.state in
    kept-none format key c.args.new.job (changes_in (job_of c.args.new.job (memory_of s)).cycle) s.jobs c.args.new.commit c.in_ok-others.others c.in_ok-own.own
    (c.in_ok-others.ensures format key at) (c.in_ok-own.ensures format key at) c.in-None.is (is_nothing c.in_ok-own.own (sym c.is_some.ensures ∙ free))
