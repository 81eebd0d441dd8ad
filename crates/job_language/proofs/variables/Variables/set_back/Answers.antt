use Rattle.std.proofs.Common.{◌∙◌, sym, ap}
use Rattle.job_language.specs.Variables.{without}
use Rattle.job_language.proofs.VariableLemmas.{without-more}
use Rattle.job_language.proofs.variables.Variables.set_back.Goals as goal

pub loop-variable-preserved : goal.loop-variable-preserved
loop-variable-preserved c =
    ap (without c.pop.new.self.items) c.put.ensures
    ∙ sym (without-more c.pop.new.self.items c.in-Some.field-0 c.loop-variable.self-inside.values.items)
    ∙ ap (λ changes. without changes c.loop-variable.self-inside.values.items) (sym c.in-Some.ensures.items)
    ∙ c.loop-variable.invariant
