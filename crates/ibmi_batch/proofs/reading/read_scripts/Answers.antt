use Rattle.std.proofs.Common.{◌≡◌, ◌≤◌, ◌∙◌, [], length, Some, Err, ap, sym, subst}
use Rattle.text_lines.specs.Lines.{lines_of}
use Rattle.script_builder.specs.Least.{least}
use Rattle.input_reader.specs.Input.{faults_of, input_of}
use Rattle.ibmi_batch.specs.declared.limits.TheConstants.{MOST_INPUT}
use Rattle.ibmi_batch.proofs.ShortLemmas.{runnable}
use Rattle.ibmi_batch.proofs.reading.read_scripts.Goals as goal

pub returns-in-Ok-read_input-clause-runnable : goal.returns-in-Ok-read_input-clause-runnable
returns-in-Ok-read_input-clause-runnable g c =
    runnable c.in-Ok.bytes.items c.in-Ok-read_input.scripts c.in-Ok.ensures.within
    (subst (λ bytes. c.in-Ok-read_input.scripts ≡ input_of (lines_of bytes)) c.as_slice.ensures.value c.in-Ok-read_input.ensures.read)
    c.in-Ok-read_input.ensures.ready c.in-Ok-read_input.ensures.scheduled (c.sources_are_no_longer_than_their_input.ensures c.in-Ok.bytes.items)

pub returns-in-Err-Script-clause-refused : goal.returns-in-Err-Script-clause-refused
returns-in-Err-Script-clause-refused g c =
    let here = c.in-Err-Script.ensures.fault c.in-Err-Script.line (ap Err c.in-Err-Script.field-0-is) in (
      λ tells. record {
        read = c.in-Ok.ensures.nothing_left tells;
        fault = subst (λ line. least (faults_of (lines_of (g.I.Source.left c.args.input.now))) ≡ Some line) (sym c.in-Err-Script.line-is) (subst (λ bytes. least (faults_of (lines_of bytes)) ≡ Some c.in-Err-Script.line) (c.as_slice.ensures.value ∙ sym (c.in-Ok.ensures.whole tells)) here);
        short = subst (λ bytes. length bytes ≤ MOST_INPUT) (sym (c.in-Ok.ensures.whole tells)) c.in-Ok.ensures.within;
      },
      λ tells input.
          let input_here = subst (λ bytes. faults_of (lines_of bytes) ≡ []) (c.in-Ok.ensures.whole tells ∙ sym c.as_slice.ensures.value) input in
          let no_memory = c.in-Err-Script.ensures.accepted input_here in
          absurd cc,
    )
