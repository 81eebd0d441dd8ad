use Rattle.std.proofs.Common.{◌≡◌, ◌<◌, ◌&&◌, ◌||◌, ◌==◌, Bool, List, ◌∷◌, length, get_or, sym, ap, ◌∙◌, arith}
use Rattle.std.specs.List.{flat_map}
use Rattle.dds_source.specs.declared.lines.Line.{Line}
use Rattle.dds_source.specs.declared.specifications.Source.{Source}
use Rattle.dds_source.specs.Faults.{first_after}
use Rattle.dds_source.specs.Lines.{at, has_entries}
use Rattle.dds_source.specs.Continuation.{joined}
use Rattle.dds_source.specs.Reading.{all_added, added, extended, has_record, joined_faults}
use Rattle.dds_source.proofs.ContinuationLemmas.{no_line}
use Rattle.dds_source.proofs.ReadingLemmas.{noted_first, added_first, has_record-extended}
use Rattle.dds_source.proofs.reading.joined_source.Goals as goal

pub loop-rest-preserved : goal.loop-rest-preserved
loop-rest-preserved c =
    let cut : joined c.loop-rest.rest.now ≡ c.split_at.result.0.now ∷ joined c.split_at.result.1.now = rw (c.split_at.ensures.front, c.split_at.ensures.back) c.joined_len.ensures.value in
    let some : 0 < length c.split_at.result.0.now = omega arith in
    let line : Line = get_or c.split_at.result.0.now 0 no_line in
    let new : c.extend.new.source ≡ extended c.loop-rest.source (get_or c.split_at.result.0.now 0 no_line) c.in_ok-keywords.keywords = c.in_ok-extend.ensures in
    let more : c.extend.new.source ≡ added c.loop-rest.source c.split_at.result.0.now = new ∙ rw c.in_ok-keywords.ensures.keywords (added_first c.loop-rest.source c.split_at.result.0.now no_line some) in
    record {
      record_known = c.has_come-has_record.ensures
          ∙ ap (λ (b : Bool). b || (has_entries line && (at line 17 == 82))) c.loop-rest.invariant.record_known
          ∙ sym (has_record-extended c.loop-rest.source line c.in_ok-keywords.keywords)
          ∙ ap (λ (s : Source). has_record s.specifications) (sym new);
      read = ap (λ (s : Source). all_added s (joined c.split_at.result.1.now)) more
          ∙ sym (ap (λ (gs : List (List Line)). all_added c.loop-rest.source gs) cut) ∙ c.loop-rest.invariant.read;
      noted = noted_first joined_faults c.split_at.result.0.now (joined c.split_at.result.1.now) c.loop-rest.first.fault c.joined_keywords.new.first.fault _ c.in_ok-keywords.ensures.faults
          (sym (ap (λ (gs : List (List Line)). first_after c.loop-rest.first.fault (flat_map joined_faults gs)) cut) ∙ c.loop-rest.invariant.noted);
    }
