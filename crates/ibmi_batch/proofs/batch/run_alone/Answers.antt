use Rattle.std.proofs.Common.{◌≡◌, true, false, refl, map, rules}
use Rattle.std.specs.String.{string_bytes}
use Rattle.checkpoint.proofs.Formats.{stays_here}
use Rattle.ibmi_batch.specs.Words.{are_display_words, are_format_words, are_job_words}
use Rattle.ibmi_batch.proofs.OutcomeLemmas.{no-command, outcome-made, outcome-shown, outcome-words}
use Rattle.ibmi_batch.proofs.WordLemmas.{no-format-of-display}
use Rattle.ibmi_batch.proofs.batch.run_alone.Goals as goal

pub returns-then-are_display_words : goal.returns-then-are_display_words
returns-then-are_display_words g c =
    let words = map string_bytes c.args.words.now in
    let job : are_job_words words ≡ false = search rules in
    let display : are_display_words words ≡ true = search rules in
    record { outcome = outcome-shown _ _ _ _ display job (no-format-of-display words display) _ c.show_library-status.ensures }

pub returns-then-are_format_words : goal.returns-then-are_format_words
returns-then-are_format_words g c =
    let words = map string_bytes c.args.words.now in
    let job : are_job_words words ≡ false = search rules in
    let display : are_display_words words ≡ false = search rules in
    let format : are_format_words words ≡ true = search rules in
    record { outcome = outcome-made _ _ _ _ format job display (λ tells. refl) _ c.make_library-status.ensures }

pub returns-else-are_format_words : goal.returns-else-are_format_words
returns-else-are_format_words g c =
    let words = map string_bytes c.args.words.now in
    let job : are_job_words words ≡ false = search rules in
    let display : are_display_words words ≡ false = search rules in
    let format : are_format_words words ≡ false = search rules in
    record { outcome = outcome-words _ _ _ _ (no-command words job display format) (λ tells. refl) (stays_here (g.S.Store.disk c.args.store)) }
