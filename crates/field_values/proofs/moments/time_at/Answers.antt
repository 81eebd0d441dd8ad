use Rattle.std.proofs.Common.{List, ℕ, ap, subst, sym, ◌∙◌, refl}
use Rattle.field_values.specs.Moments.{is_time}
use Rattle.field_values.specs.FirstBad.{IsFirstBad}
use Rattle.field_values.proofs.MomentLemmas.{part-range}
use Rattle.field_values.proofs.moments.time_at.Goals as goal

pub returns-in-Ok-clause-there : goal.returns-in-Ok-clause-there
returns-in-Ok-clause-there c = ap is_time (sym (part-range c.args.from 8 c.args.text.now)) ∙ c.in-Ok.ensures

pub returns-in-Err-clause-bad : goal.returns-in-Err-clause-bad
returns-in-Err-clause-bad c =
    record {
      inner = c.in-Err.at;
      place = refl;
      bad = subst (λ (w : List ℕ). IsFirstBad is_time w c.in-Err.at) (part-range c.args.from 8 c.args.text.now) c.in-Err.ensures;
    }
