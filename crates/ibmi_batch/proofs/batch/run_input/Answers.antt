use Rattle.std.proofs.Common.{refl, map}
use Rattle.std.specs.String.{string_bytes}
use Rattle.checkpoint.proofs.Formats.{stays_here}
use Rattle.ibmi_batch.proofs.OutcomeLemmas.{outcome-run, outcome-unread}
use Rattle.ibmi_batch.proofs.WordLemmas.{no-format-of-job}
use Rattle.ibmi_batch.proofs.batch.run_input.Goals as goal

pub returns-in-Err : goal.returns-in-Err
returns-in-Err g c =
    record { outcome = outcome-unread _ _ _ _ c.requires (λ tells. refl) (stays_here (g.S.Store.disk c.args.store)) _ c.in-Err.ensures.refused }

pub returns-in-Ok : goal.returns-in-Ok
returns-in-Ok g c =
    record {
      outcome = outcome-run _ _ _ _ c.requires (no-format-of-job (map string_bytes c.args.words.now) c.requires) c.in-Ok.ensures.left _ c.in-Ok.ensures.read _ c.run_scripts.ensures;
    }
