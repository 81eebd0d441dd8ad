use Rattle.std.proofs.Common.{map}
use Rattle.std.specs.List.{filter_map}
use Rattle.dds_logical.specs.Bases.{fields_of_file}
use Rattle.dds_logical.specs.JoinSteps.{named_of_placed, placed_if, places_of_placed}
use Rattle.dds_logical.proofs.LoopLemmas.{kept-one}
use Rattle.dds_logical.proofs.JoinFieldLemmas.{named_more, places_more}
use Rattle.dds_logical.proofs.join_fields.placed_fields.Goals as goal

pub loop-line-preserved : goal.loop-line-preserved
loop-line-preserved g c =
    let found = placed_if c.args.files.now (map (fields_of_file (g.B.Bases.bases c.args.bases.now)) c.args.files.now) in
    record {
      named = kept-one c.loop-line.fields.named c.add_placed.new.fields.named _ _ (λ ss. named_of_placed (filter_map found ss)) c.args.lines.now c.loop-line.line-index
          c.line-item.result c.loop-line-test.true c.line-item.is
          c.in_ok-add_placed.ensures.named (named_more (found c.line-item.result) (filter_map found _)) c.loop-line.invariant.named;
      places = kept-one c.loop-line.fields.places c.add_placed.new.fields.places _ _ (λ ss. places_of_placed (filter_map found ss)) c.args.lines.now c.loop-line.line-index
          c.line-item.result c.loop-line-test.true c.line-item.is
          c.in_ok-add_placed.ensures.places (places_more (found c.line-item.result) (filter_map found _)) c.loop-line.invariant.places;
    }
