use Rattle.std.proofs.Common.{◌∙◌, ap, sym, map}
use Rattle.dds_logical.specs.Bases.{fields_of_file}
use Rattle.dds_logical.specs.Origins.{origin_names}
use Rattle.dds_logical.specs.JoinFields.{first_place}
use Rattle.dds_logical.proofs.JoinFieldLemmas.{places_are, places_none}
use Rattle.dds_logical.proofs.join_fields.first_of_names.Goals as goal

pub returns-then-names_origin : goal.returns-then-names_origin
returns-then-names_origin g c =
    let fields = map (fields_of_file (g.B.Bases.bases c.args.bases.now)) c.args.files.now in
    c.first_with.ensures ∙ ap first_place (places_are fields (origin_names c.args.line.now) (sym c.names_origin.ensures ∙ c.if-names_origin.true))

pub returns-else-names_origin : goal.returns-else-names_origin
returns-else-names_origin g c =
    let fields = map (fields_of_file (g.B.Bases.bases c.args.bases.now)) c.args.files.now in
    sym (ap first_place (places_none fields (origin_names c.args.line.now) (sym c.names_origin.ensures ∙ c.if-names_origin.false)))
