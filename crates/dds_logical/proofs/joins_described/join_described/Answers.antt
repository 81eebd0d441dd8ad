use Rattle.std.proofs.Common.{◌∙◌, ◌≤◌, ◌<◌, List, ℕ, length, sym, subst}
use Rattle.record_fmt.specs.declared.formats.TheConstants.{MOST_BYTES, MOST_FIELDS}
use Rattle.dds_logical.specs.declared.limits.TheConstants.{MOST_JOINED}
use Rattle.dds_logical.specs.declared.named_fields.NamedField.{NamedField}
use Rattle.dds_logical.specs.Judged.{format_with}
use Rattle.dds_logical.specs.JudgedKeys.{bytes_of}
use Rattle.dds_logical.specs.JoinSteps.{AreLow}
use Rattle.dds_logical.proofs.JoinViewLemmas.{join-described, named-found, places-found, few-named, low-places}
use Rattle.dds_logical.proofs.joins_described.join_described.Goals as goal

pub joined_files-requires : goal.joined_files-requires
joined_files-requires g c = subst (λ (files : List (List ℕ)). length files ≤ MOST_JOINED) (sym (c.as_slice-files.ensures ∙ c.in_ok-names.ensures)) c.requires.joined

pub join_with-requires-clause-some : goal.join_with-requires-clause-some
join_with-requires-clause-some g c = subst (λ (files : List (List ℕ)). 0 < length files) (sym (c.as_slice-files.ensures ∙ c.in_ok-names.ensures)) c.requires.some

pub join_with-requires-clause-few : goal.join_with-requires-clause-few
join_with-requires-clause-few g c =
    let f = format_with c.args.line.now c.args.body.now in
    let is = named-found (g.B.Bases.bases c.args.bases.now) f _ _ c.in_ok-placed.ensures.named (c.as_slice-files.ensures ∙ c.in_ok-names.ensures) in
    subst (λ (fs : List NamedField). length fs ≤ MOST_FIELDS) (sym is) (few-named (g.B.Bases.bases c.args.bases.now) f c.requires.few)

pub join_with-requires-clause-narrow : goal.join_with-requires-clause-narrow
join_with-requires-clause-narrow g c =
    let f = format_with c.args.line.now c.args.body.now in
    let is = named-found (g.B.Bases.bases c.args.bases.now) f _ _ c.in_ok-placed.ensures.named (c.as_slice-files.ensures ∙ c.in_ok-names.ensures) in
    subst (λ (fs : List NamedField). bytes_of fs ≤ MOST_BYTES) (sym is) c.requires.narrow

pub join_with-requires-clause-low : goal.join_with-requires-clause-low
join_with-requires-clause-low g c =
    let f = format_with c.args.line.now c.args.body.now in
    let is = places-found (g.B.Bases.bases c.args.bases.now) f _ _ c.in_ok-placed.ensures.places (c.as_slice-files.ensures ∙ c.in_ok-names.ensures) in
    subst AreLow (sym is) (low-places (g.B.Bases.bases c.args.bases.now) f c.requires.joined)

pub returns : goal.returns
returns g c =
    join-described (g.B.Bases.bases c.args.bases.now) c.args.keywords.now (format_with c.args.line.now c.args.body.now) _ _ _ _ _
    c.in_ok-view.ensures (c.as_slice-files.ensures ∙ c.in_ok-names.ensures) c.in_ok-secondaries.ensures c.in_ok-placed.ensures.named c.in_ok-placed.ensures.places
