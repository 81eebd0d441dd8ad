use Rattle.std.proofs.Common.{◌≡◌, ◌≤◌, length, sym, arith, length-take-le, ◌∙◌, ap}
use Rattle.dds_source.specs.Lines.{positions}
use Rattle.dds_source.proofs.LineLemmas.{line_is}
use Rattle.dds_source.proofs.lines.Line.new.Goals as goal

pub slice_bounds-copied-end : goal.slice_bounds-copied-end
slice_bounds-copied-end c = let fits : 44 ≤ length c.positions-positions.result = omega arith in sym (length-take-le 44 c.positions-positions.result fits)

pub copied-entries-requires : goal.copied-entries-requires
copied-entries-requires c = let fits : 44 ≤ length c.positions-positions.result = omega arith in (omega arith, length-take-le 44 c.positions-positions.result fits)

pub returns : goal.returns
returns c =
    let width : length (positions c.args.text.now) ≡ 80 = ap length (sym c.positions-positions.ensures.value) ∙ c.positions-positions.ensures.width in
    rw (c.fold.ensures, c.copied.ensures, c.copied-entries.ensures, c.positions-positions.ensures.value) (line_is c.args.number c.args.text.now width)
