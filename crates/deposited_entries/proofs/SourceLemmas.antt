-- What the plans of CRTPF and CRTLF make files of.
use Rattle.std.proofs.Common.{◌≡◌, ℕ, ◌≤◌, nat_le, nat_lt, length, if◌then◌else◌, true, false, is_some, Option, Some, None, Result, Ok, Err, List, [], ◌∷◌, refl, subst}
use Rattle.std.specs.List.{list_any}
use Rattle.record_fmt.specs.declared.formats.Format.{Format}
use Rattle.record_fmt.specs.Layout.{record_length}
use Rattle.dds_source.specs.declared.faults.DdsFault.{DdsFault}
use Rattle.dds_source.specs.declared.specifications.Source.{Source}
use Rattle.dds_source.specs.Reading.{source_of}
use Rattle.dds_physical.specs.declared.physical_files.PhysicalSpec.{PhysicalSpec}
use Rattle.dds_physical.specs.Physical.{physical_of}
use Rattle.library_model.specs.declared.limits.TheConstants.{LAST_MEMBER, MOST_FILES}
use Rattle.library_model.specs.declared.replies.Reply.TheVariants.{DuplicateKey, LimitReached, NameExists, NotJournaled}
use Rattle.library_model.specs.declared.replies.LimitKind.TheVariants.{Files, MemberNumbers, Paths}
use Rattle.library_model.specs.declared.requests.CreateLogicalFile.{CreateLogicalFile}
use Rattle.library_model.specs.declared.requests.CreatePhysicalFile.{CreatePhysicalFile}
use Rattle.library_model.specs.declared.sources.NamedSource.{NamedSource}
use Rattle.library_model.specs.Named.{same_name}
use Rattle.library_model.specs.SourceList.{text_of}
use Rattle.library_steps.specs.declared.limits.TheConstants.{MOST_PATHS}
use Rattle.library_steps.specs.CreateLogicalFile.{NewLogical, create_logical_plan, first_repeated, first_undone, has_many, is_unique, logical_described, logical_or_refused}
use Rattle.library_steps.specs.CreatePhysicalFile.{NewFile, create_plan, described, described_by, formats_of, spec_or_refused}
use Rattle.library_steps.specs.LogicalFiles.{bases_of}
use Rattle.library_steps.specs.Refusals.{named_or_refused, refuse_if, refuse_with, sequences_left}
use Rattle.library_steps.specs.State.{Memory, file_named}
use Rattle.library_steps.specs.Uses.{changer_of_any, unused}
use Rattle.library_steps.specs.Bases.{base_members}
use Rattle.library_steps.specs.FilePaths.{logical_paths}
use Rattle.journal_kept.proofs.FindLemmas.{found-is}
use Rattle.library_kept.proofs.ResultLemmas.{ok-equal, bind-ok}
use Rattle.deposited_entries.specs.Deposits.{AreShort, IsShort}
use Rattle.deposited_entries.proofs.WideLemmas.{physical-wide}

short-text : (sources : List NamedSource) (name text : List ℕ) → AreShort sources → text_of sources name ≡ Some text → IsShort text
short-text [] name text all h = absurd cc
short-text (source ∷ others) name text all h =
    elim (same_name source.name name) as (λ b. (if b then Some source.text else text_of others name) ≡ Some text → IsShort text) [
      | true ↦ λ e. let same : source.text ≡ text = cc in subst IsShort same all.0
      | false ↦ λ e. short-text others name text all.1 e
    ] h

described-wide : (formats : List ℕ → Option Format) (r : Result Source DdsFault) (spec : PhysicalSpec) → spec_or_refused (described_by formats r) ≡ Ok spec → 1 ≤ record_length spec.format.fields
described-wide formats (Ok source) spec h = by (physical_of formats source) refl h
  where
    by : (r : Result PhysicalSpec DdsFault) → physical_of formats source ≡ r → spec_or_refused r ≡ Ok spec → 1 ≤ record_length spec.format.fields
    by (Ok other) is e = let same = ok-equal other spec e in subst (λ (p : PhysicalSpec). 1 ≤ record_length p.format.fields) same (physical-wide formats source other is)
    by (Err fault) is e = absurd cc
described-wide formats (Err fault) spec h = absurd cc

-- ---- CRTPF

pub create-wide : (sources : List NamedSource) (m : Memory) (args : CreatePhysicalFile) (plan : NewFile) → create_plan sources m args ≡ Ok plan → 1 ≤ record_length plan.spec.format.fields
unfolding create_plan
create-wide sources m args plan h =
    let left = bind-ok (sequences_left m) _ plan h in
    let new = bind-ok (refuse_if (is_some (file_named args.file m)) (NameExists args.file)) _ plan left.2 in
    let few = bind-ok (refuse_if (nat_le MOST_FILES (length m.files)) (LimitReached Files MOST_FILES)) _ plan new.2 in
    let numbers = bind-ok (refuse_if (nat_lt LAST_MEMBER m.next_member) (LimitReached MemberNumbers LAST_MEMBER)) _ plan few.2 in
    let text = bind-ok (named_or_refused args.source (text_of sources args.source)) _ plan numbers.2 in
    let spec = bind-ok (spec_or_refused (described (formats_of m) text.0)) _ plan text.2 in
    let made : NewFile = record { source = text.0; spec = spec.0 } in
    subst (λ (p : NewFile). 1 ≤ record_length p.spec.format.fields) (ok-equal made plan spec.2) (described-wide (formats_of m) (source_of text.0) spec.0 spec.1)

pub create-short : (sources : List NamedSource) (m : Memory) (args : CreatePhysicalFile) (plan : NewFile) → AreShort sources → create_plan sources m args ≡ Ok plan → IsShort plan.source
unfolding create_plan
create-short sources m args plan short h =
    let left = bind-ok (sequences_left m) _ plan h in
    let new = bind-ok (refuse_if (is_some (file_named args.file m)) (NameExists args.file)) _ plan left.2 in
    let few = bind-ok (refuse_if (nat_le MOST_FILES (length m.files)) (LimitReached Files MOST_FILES)) _ plan new.2 in
    let numbers = bind-ok (refuse_if (nat_lt LAST_MEMBER m.next_member) (LimitReached MemberNumbers LAST_MEMBER)) _ plan few.2 in
    let text = bind-ok (named_or_refused args.source (text_of sources args.source)) _ plan numbers.2 in
    let spec = bind-ok (spec_or_refused (described (formats_of m) text.0)) _ plan text.2 in
    let made : NewFile = record { source = text.0; spec = spec.0 } in
    subst (λ (p : NewFile). IsShort p.source) (ok-equal made plan spec.2) (short-text sources args.source text.0 short (found-is (text_of sources args.source) _ text.0 text.1))

-- ---- CRTLF

pub logical-short : (sources : List NamedSource) (m : Memory) (args : CreateLogicalFile) (plan : NewLogical) → AreShort sources → create_logical_plan sources m args ≡ Ok plan → IsShort plan.source
unfolding create_logical_plan
logical-short sources m args plan short h =
    let left = bind-ok (sequences_left m) _ plan h in
    let new = bind-ok (refuse_if (is_some (file_named args.file m)) (NameExists args.file)) _ plan left.2 in
    let few = bind-ok (refuse_if (nat_le MOST_FILES (length m.files)) (LimitReached Files MOST_FILES)) _ plan new.2 in
    let text = bind-ok (named_or_refused args.source (text_of sources args.source)) _ plan few.2 in
    let spec = bind-ok (logical_or_refused (logical_described m text.0)) _ plan text.2 in
    let its = spec.0 in
    let paths = logical_paths (bases_of m) its in
    let members = base_members (bases_of m) its in
    let many = bind-ok (refuse_if (list_any (has_many paths m) members) (LimitReached Paths MOST_PATHS)) _ plan spec.2 in
    let free = bind-ok (unused (changer_of_any members m)) _ plan many.2 in
    let journaled = bind-ok (refuse_with NotJournaled (if is_unique paths then first_undone m members else None)) _ plan free.2 in
    let apart = bind-ok (refuse_with (DuplicateKey args.file) (first_repeated paths m)) _ plan journaled.2 in
    let made : NewLogical = record { source = text.0; spec = its } in
    subst (λ (p : NewLogical). IsShort p.source) (ok-equal made plan apart.2) (short-text sources args.source text.0 short (found-is (text_of sources args.source) _ text.0 text.1))
