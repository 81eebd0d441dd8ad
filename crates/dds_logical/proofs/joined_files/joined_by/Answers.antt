use Rattle.std.proofs.Common.{◌∙◌, ◌≤◌, ap, List, ℕ, length, map, arith}
use Rattle.record_fmt.specs.declared.formats.Field.{Field}
use Rattle.dds_logical.specs.Bases.{fields_of_file}
use Rattle.dds_logical.specs.declared.limits.TheConstants.{MOST_JOINED}
use Rattle.dds_logical.specs.JoinLines.{fields_at, place_or_first}
use Rattle.dds_logical.specs.JoinSteps.{joined_over}
use Rattle.dds_logical.proofs.JoinLineLemmas.{from_within}
use Rattle.dds_logical.proofs.joined_files.joined_by.Goals as goal

pub joined_over-requires : goal.joined_over-requires
joined_over-requires g c =
    let within = from_within c.args.files.now c.args.line.now in
    let is = c.place_or_first-from.ensures ∙ ap place_or_first c.link_of.ensures in
    let few : length c.args.files.now ≤ MOST_JOINED = c.requires in
    omega (arith, within, is, few)

pub returns : goal.returns
returns g c =
    let is = c.place_or_first-from.ensures ∙ ap place_or_first c.link_of.ensures in
    c.in_ok-joined.ensures
    ∙ ap (λ (fs : List Field). joined_over c.args.file c.place_or_first-from.result fs c.fields_of_place-to.result.now c.args.line.now) c.fields_of_place-base.ensures.fields
    ∙ ap (λ (fs : List Field). joined_over c.args.file c.place_or_first-from.result
    (fields_at (map (fields_of_file (g.B.Bases.bases c.args.bases.now)) c.args.files.now) c.place_or_first-from.result) fs c.args.line.now) c.fields_of_place-to.ensures.fields
    ∙ ap (λ (n : ℕ). joined_over c.args.file n (fields_at (map (fields_of_file (g.B.Bases.bases c.args.bases.now)) c.args.files.now) n)
    (fields_at (map (fields_of_file (g.B.Bases.bases c.args.bases.now)) c.args.files.now) c.args.place) c.args.line.now) is
