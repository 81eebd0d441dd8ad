-- Files behind others, each described beside those before it.
use Rattle.std.proofs.Common.{◌≡◌, ℕ, cond, Bool, true, false, Option, Some, None, List, [], ◌∷◌, ◌++◌, refl, sym, ◌∙◌, ap}
use Rattle.std.specs.Prelude.{reverse}
use Rattle.std.proofs.lemmas.List.{reverse-append}
use Rattle.logical_model.specs.Bases.{FileSpec}
use Rattle.journal_model.specs.Catalogue.{CatalogFile}
use Rattle.library_model.specs.Named.{Named, named, same_name}
use Rattle.library_steps.specs.State.{FileState}
use Rattle.named_bases.specs.Sources.{described_behind, described_files, with_described}
use Rattle.described_journals.specs.Files.{described_upon, with_file}

pub upon-append : (before : Named FileState) (xs ys : List CatalogFile) → described_upon before (xs ++ ys) ≡ described_upon (described_upon before ys) xs
upon-append before [] ys = refl
upon-append before (x ∷ xs) ys = ap (with_file x) (upon-append before xs ys)

upon-reverse : (files : List CatalogFile) (before : Named FileState) → described_upon before (reverse files) ≡ described_behind before files
upon-reverse [] before = refl
upon-reverse (file ∷ files) before =
    ap (described_upon before) (reverse-append (file ∷ []) files) ∙ upon-append before (reverse files) (file ∷ []) ∙ upon-reverse files (with_file file before)

pub upon-all : (files : List CatalogFile) → described_upon [] (reverse files) ≡ described_files files
upon-all files = upon-reverse files []

-- ---- what a name finds

named-more : (before : Named FileState) (name other : List ℕ) (new : FileState) → same_name name other ≡ false → named name (before ++ (other, new) ∷ []) ≡ named name before
named-more [] name other new differs = ap (λ (b : Bool). cond b (Some new) None) differs
named-more (entry ∷ before) name other new differs = ap (λ (o : Option FileState). cond (same_name name entry.0) (Some entry.1) o) (named-more before name other new differs)

-- where the file has another name
pub described-other : (file : CatalogFile) (o : Option FileSpec) (before : Named FileState) (name : List ℕ) → same_name name file.name ≡ false
    → named name (with_described file o before) ≡ named name before
described-other file None before name differs = refl
described-other file (Some spec) before name differs = named-more before name file.name (record { source = file.source; spec = spec; members = [] }) differs

abbrev pub or-else : Option FileState → Option FileState → Option FileState
or-else None other = other
or-else (Some file) other = Some file

pub named-last : (before : Named FileState) (name : List ℕ) (entry : List ℕ × FileState)
    → named name (before ++ entry ∷ []) ≡ or-else (named name before) (cond (same_name name entry.0) (Some entry.1) None)
named-last [] name entry = refl
named-last (first ∷ before) name entry =
    elim (same_name name first.0) as (λ b. cond b (Some first.1) (named name (before ++ entry ∷ []))
    ≡ or-else (cond b (Some first.1) (named name before)) (cond (same_name name entry.0) (Some entry.1) None)) [
      | true ↦ refl
      | false ↦ named-last before name entry
    ]

-- behind files among which the name finds the same
pub described-alike : (file : CatalogFile) (o : Option FileSpec) (a b : Named FileState) (name : List ℕ) → named name a ≡ named name b
    → named name (with_described file o a) ≡ named name (with_described file o b)
described-alike file None a b name alike = alike
described-alike file (Some spec) a b name alike =
    named-last a name (file.name, record { source = file.source; spec = spec; members = [] })
    ∙ ap (λ (found : Option FileState). or-else found (cond (same_name name file.name) (Some (record { source = file.source; spec = spec; members = [] })) None)) alike
    ∙ sym (named-last b name (file.name, record { source = file.source; spec = spec; members = [] }))
