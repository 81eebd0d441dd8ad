use Rattle.std.proofs.Common.{◌∙◌, ap, Bool, List, None, Option}
use Rattle.dds_physical.below.dds_source.specs.declared.faults.DdsFault.{DdsFault}
use Rattle.dds_physical.below.dds_source.specs.declared.specifications.Specification.{Specification}
use Rattle.dds_physical.specs.Faults.{first_after}
use Rattle.dds_logical.specs.FormatLines.{formats_in, is_join_file}
use Rattle.dds_logical.specs.Logical.{faults_over}
use Rattle.dds_logical.proofs.FileLemmas.{faults_are}
use Rattle.dds_logical.proofs.JoinCompleteLemmas.{complete_unless}
use Rattle.dds_logical.proofs.source_faults.first_fault.Goals as goal

pub returns-clause-fault : goal.returns-clause-fault
returns-clause-fault g c =
    let bases = g.B.Bases.bases c.args.bases.now in
    let source = c.args.source.now in
    let fs = formats_in source.specifications in
    c.in_ok-note_source.ensures
    ∙ ap (λ (b : Option DdsFault). first_after b (faults_over bases source c.is_join_file-is_join.result fs)) c.none-first.ensures
    ∙ ap (λ (is_join : Bool). first_after None (faults_over bases source is_join fs)) c.is_join_file-is_join.ensures
    ∙ ap (λ (ss : List Specification). first_after None (faults_over bases source (is_join_file (formats_in ss)) fs)) c.as_slice.ensures
    ∙ ap (first_after None) (faults_are bases source)

pub returns-clause-complete : goal.returns-clause-complete
returns-clause-complete g c =
    let bases = g.B.Bases.bases c.args.bases.now in
    let source = c.args.source.now in
    let fs = formats_in source.specifications in
    complete_unless bases source fs c.note_source.new.first.fault
    (c.in_ok-note_source.ensures
    ∙ ap (λ (b : Option DdsFault). first_after b (faults_over bases source c.is_join_file-is_join.result fs)) c.none-first.ensures
    ∙ ap (λ (is_join : Bool). first_after None (faults_over bases source is_join fs)) c.is_join_file-is_join.ensures
    ∙ ap (λ (ss : List Specification). first_after None (faults_over bases source (is_join_file (formats_in ss)) fs)) c.as_slice.ensures)
