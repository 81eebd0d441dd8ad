-- Files and members are put one after another: what is put of a list, with the next one, and all of it.
use Rattle.std.proofs.Common.{ℕ, ◌+◌, ◌≤◌, ◌≡◌, List, [], ◌∷◌, ◌++◌, length, slice_get, take, Some, sym, ap, arith, ◌∙◌, subst}
use Rattle.std.proofs.lemmas.List.{take_all, take_more}
use Rattle.std.proofs.lemmas.Option.{get_or_from_slice_get, slice_get_within}
use Rattle.entry_codec.specs.declared.kinds.FileKind.{FileKind}
use Rattle.entry_codec.specs.declared.kinds.FileKind.TheVariants.{Logical, Physical}
use Rattle.journal_model.specs.Catalogue.{CatalogFile}
use Rattle.journal_replay.specs.Standing.{HeldMember}
use Rattle.library_steps.specs.State.{State}
use Rattle.restarted_library.specs.Built.{IsBuilt}
use Rattle.restarted_library.specs.Steps.{AddsFile, AddsMember, AddsOwned, AddsOwner, Leads}
use Rattle.restarted_library.proofs.StepLemmas.{built-passed}

abbrev catalogued : ℕ → (name source : List ℕ) → CatalogFile
catalogued created name source = record { created = created; kind = Physical; name = name; source = source }

take-found : {X : Type 0} (xs : List X) (place : ℕ) (x : X) → slice_get xs place ≡ Some x → take (place + 1) xs ≡ take place xs ++ x ∷ []
take-found {X = X} xs place x at = take_more xs place x (slice_get_within xs place x at) ∙ ap (λ (y : X). take place xs ++ y ∷ []) (get_or_from_slice_get xs place x x at)

kind-is : (f : CatalogFile) (kind : FileKind) → f.kind ≡ kind → f ≡ record { created = f.created; kind = kind; name = f.name; source = f.source }
kind-is f kind is = λ i. record { created = f.created; kind = is i; name = f.name; source = f.source }

file-found : (files : List CatalogFile) (place : ℕ) (f : CatalogFile) (kind : FileKind) → slice_get files place ≡ Some f → f.kind ≡ kind
    → take (place + 1) files ≡ take place files ++ record { created = f.created; kind = kind; name = f.name; source = f.source } ∷ []
file-found files place f kind at is = take-found files place f at ∙ ap (λ (x : CatalogFile). take place files ++ x ∷ []) (kind-is f kind is)

pub within : {X : Type 0} (xs : List X) (place : ℕ) (x : X) → slice_get xs place ≡ Some x → place + 1 ≤ length xs
within xs place x at = let low = slice_get_within xs place x at in omega (arith, low)

pub view-step : (files : List CatalogFile) (members : List HeldMember) (place done : ℕ) (s later : State) (f : CatalogFile) → slice_get files place ≡ Some f → f.kind ≡ Logical
    → AddsFile s later Logical f.name f.source → Leads s (take place files) (take done members) later (take (place + 1) files) (take done members)
view-step files members place done s later f at is adds = λ entries attached built.
    subst (λ (w : List CatalogFile). IsBuilt entries attached w (take done members) later) (sym (file-found files place f Logical at is))
    (adds f.created (take place files) (take done members) entries attached built)

pub owned-step : (files : List CatalogFile) (members later_members : List HeldMember) (place : ℕ) (s later : State) (f : CatalogFile) → slice_get files place ≡ Some f → f.kind ≡ Physical
    → AddsOwned s later Physical f.name f.source members later_members → Leads s (take place files) members later (take (place + 1) files) later_members
owned-step files members later_members place s later f at is adds = λ entries attached built.
    subst (λ (w : List CatalogFile). IsBuilt entries attached w later_members later) (sym (file-found files place f Physical at is)) (adds f.created (take place files) entries attached built)

pub owner-put : (members : List HeldMember) (done first : ℕ) (s mid later : State) (name source : List ℕ) (m : HeldMember) → slice_get members first ≡ Some m
    → ((catalog : List CatalogFile) → Leads s catalog (take done members) mid catalog (take first members)) → AddsOwner mid later Physical name source m
    → AddsOwned s later Physical name source (take done members) (take (first + 1) members)
owner-put members done first s mid later name source m at before adds = λ created catalog entries attached built.
    subst (λ (w : List HeldMember). IsBuilt entries attached (catalog ++ catalogued created name source ∷ []) w later) (sym (take-found members first m at))
    (adds created catalog (take first members) entries attached (before catalog entries attached built))

pub member-step : (members : List HeldMember) (place : ℕ) (s later : State) (m : HeldMember) → slice_get members place ≡ Some m → AddsMember s later m
    → (catalog : List CatalogFile) → Leads s catalog (take place members) later catalog (take (place + 1) members)
member-step members place s later m at adds = λ catalog entries attached built.
    subst (λ (w : List HeldMember). IsBuilt entries attached catalog w later) (sym (take-found members place m at)) (adds catalog (take place members) entries attached built)

-- all files, once the place is past the last
pub files-end : (files : List CatalogFile) (members : List HeldMember) (place : ℕ) (s later : State) → length files ≤ place → Leads s [] [] later (take place files) members
    → Leads s [] [] later files members
files-end files members place s later past leads = subst (λ (w : List CatalogFile). Leads s [] [] later w members) (take_all place files past) leads

-- the files, then the members that are left, then the next number
pub whole : (files : List CatalogFile) (members : List HeldMember) (done count next : ℕ) (s first second third : State) → length members ≤ count → Leads s [] [] first files (take done members)
    → ((catalog : List CatalogFile) → Leads first catalog (take done members) second catalog (take count members)) → second.next_member ≤ next → third ≡ record second { next_member = next }
    → Leads s [] [] third files members
whole files members done count next s first second third all before behind risen is = λ entries attached none.
    built-passed entries attached files members second third next risen is
    (subst (λ (w : List HeldMember). IsBuilt entries attached files w second) (take_all count members all) (behind files entries attached (before entries attached none)))
