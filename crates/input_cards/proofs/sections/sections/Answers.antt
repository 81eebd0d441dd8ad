use Rattle.std.proofs.Common.{◌+◌, ◌∙◌, ◌++◌, length, refl, sym, ap, arith}
use Rattle.text_lines.specs.Lines.{lines_of}
use Rattle.input_cards.specs.Sections.{parts_from, parts_of}
use Rattle.input_cards.specs.SectionTexts.{parts_in}
use Rattle.input_cards.proofs.SectionLemmas.{Place, further, bytes-few, bytes-before, section-lines, made-card, made-line, made-all}
use Rattle.input_cards.proofs.sections.sections.Goals as goal

pub loop-line-init : goal.loop-line-init
loop-line-init c = record {
  lies = refl;
  made = ap (λ s. parts_in c.args.bytes.now s ++ parts_from 1 (lines_of c.args.bytes.now)) c.new-sections.ensures;
  counted = omega arith;
  within = omega (arith, bytes-few c.args.bytes.now);
}

pub overflow_add-place-then-is_card : goal.overflow_add-place-then-is_card
overflow_add-place-then-is_card c =
    let here : Place c.args.bytes.now c.loop-line.rest.now c.loop-line.number c.loop-line.place = record {
      lies = c.loop-line.invariant.lies;
      counted = c.loop-line.invariant.counted;
      within = c.loop-line.invariant.within;
    } in
    let next = further c.args.bytes.now c.loop-line.rest.now c.in-Some.line.now c.in-Some.after.now c.loop-line.number c.loop-line.place here c.in-Some.ensures.0 c.in-Some.ensures.1 in
    let within = next.within in
    let some = bytes-before (lines_of c.in-Some.after.now) in
    let n = c.bytes_before_card.ensures in
    omega arith

pub loop-line-preserved-in_ok-push : goal.loop-line-preserved-in_ok-push
loop-line-preserved-in_ok-push c =
    let bytes = c.args.bytes.now in
    let line = c.in-Some.line.now in
    let after = c.in-Some.after.now in
    let number = c.loop-line.number in
    let here : Place bytes c.loop-line.rest.now number c.loop-line.place = record {
      lies = c.loop-line.invariant.lies;
      counted = c.loop-line.invariant.counted;
      within = c.loop-line.invariant.within;
    } in
    let next = further bytes c.loop-line.rest.now line after number c.loop-line.place here c.in-Some.ensures.0 c.in-Some.ensures.1 in
    let lines = section-lines bytes (c.loop-line.place + (length line + 1)) c.bytes_before_card.result (lines_of after) next.lies c.bytes_before_card.ensures in
    record {
      lies = next.lies;
      made =
          ap (λ s. parts_in bytes s ++ parts_from (number + 1 + 1) (lines_of after)) c.in_ok-push.ensures.pushed
          ∙ made-card bytes c.loop-line.sections _ (number + 1) line (lines_of after) (lines_of c.loop-line.rest.now) (parts_of (lines_of bytes)) (sym c.if-is_card.ensures)
          (λ i. record { line = number + 1; card = c.in_ok-card.ensures i; lines = lines i }) c.in-Some.ensures.0 c.loop-line.invariant.made;
      counted = next.counted;
      within = next.within;
    }

pub loop-line-preserved : goal.loop-line-preserved
loop-line-preserved c =
    let bytes = c.args.bytes.now in
    let line = c.in-Some.line.now in
    let after = c.in-Some.after.now in
    let number = c.loop-line.number in
    let here : Place bytes c.loop-line.rest.now number c.loop-line.place = record {
      lies = c.loop-line.invariant.lies;
      counted = c.loop-line.invariant.counted;
      within = c.loop-line.invariant.within;
    } in
    let next = further bytes c.loop-line.rest.now line after number c.loop-line.place here c.in-Some.ensures.0 c.in-Some.ensures.1 in
    record {
      lies = next.lies;
      made =
          made-line (parts_in bytes c.loop-line.sections) (number + 1) line (lines_of after) (lines_of c.loop-line.rest.now) (parts_of (lines_of bytes)) (sym c.if-is_card.ensures)
          c.in-Some.ensures.0 c.loop-line.invariant.made;
      counted = next.counted;
      within = next.within;
    }

pub returns : goal.returns
returns c =
    made-all (parts_in c.args.bytes.now c.loop-line.sections) (c.loop-line.number + 1) (lines_of c.loop-line.rest.now) (parts_of (lines_of c.args.bytes.now))
    (ap lines_of c.in_default.ensures) c.loop-line.invariant.made
