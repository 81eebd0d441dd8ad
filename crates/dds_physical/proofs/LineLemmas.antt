-- Lines, judged one after another up to the first that is at fault.
use Rattle.std.proofs.Common.{◌≡◌, ◌<◌, ℕ, length, take, drop, get_or, ◌∷◌, List, [], ◌++◌, Option, Some, None, refl, sym, ◌∙◌, ap, arith}
use Rattle.record_fmt.specs.declared.formats.Format.{Format}
use Rattle.dds_source.specs.declared.faults.DdsFault.{DdsFault}
use Rattle.dds_source.specs.declared.specifications.Specification.{Specification}
use Rattle.dds_source.specs.Faults.{first_after}
use Rattle.dds_source.specs.declared.keywords.Keyword.{Keyword}
use Rattle.dds_physical.specs.declared.draft.Draft.{Draft}
use Rattle.dds_physical.specs.declared.keyword_names.Place.{Place}
use Rattle.dds_physical.specs.KeywordRules.{one_keyword_faults, keyword_faults}
use Rattle.dds_physical.specs.Lines.{line_faults, described, or_those, unless_faulty, lines_faults, lines_described}
use Rattle.dds_physical.proofs.FaultLemmas.{nothing_noted}

-- A line without faults.

pub or_those-none : (fs more : List DdsFault) → first_after None fs ≡ None → or_those fs more ≡ more
or_those-none [] more h = refl
or_those-none (f ∷ fs) more h = let e : f ∷ fs ≡ [] = nothing_noted None (f ∷ fs) h in absurd cc

pub unless_faulty-none : (fs : List DdsFault) (d e : Draft) → first_after None fs ≡ None → unless_faulty fs d e ≡ e
unless_faulty-none [] d e h = refl
unless_faulty-none (f ∷ fs) d e h = let e : f ∷ fs ≡ [] = nothing_noted None (f ∷ fs) h in absurd cc

-- A line with a fault.

pub or_those-some : (fs more : List DdsFault) (fault : DdsFault) → first_after None fs ≡ Some fault → or_those fs more ≡ fs
or_those-some [] more fault h = absurd cc
or_those-some (f ∷ fs) more fault h = refl

pub unless_faulty-some : (fs : List DdsFault) (d e : Draft) (fault : DdsFault) → first_after None fs ≡ Some fault → unless_faulty fs d e ≡ d
unless_faulty-some [] d e fault h = absurd cc
unless_faulty-some (f ∷ fs) d e fault h = refl

-- The first of a list that isn't empty, and those behind it.

pub keyword_faults-first : (place : Place) (ks here more : List Keyword) (k : Keyword) → 0 < length ks → here ≡ take 1 ks → more ≡ drop 1 ks → k ≡ get_or here 0 k
    → one_keyword_faults place k more ++ keyword_faults place more ≡ keyword_faults place ks
keyword_faults-first place [] here more k some front back is = absurd (omega arith)
keyword_faults-first place (l ∷ ls) here more k some front back is =
    let first : k ≡ l = is ∙ ap (λ (hs : List Keyword). get_or hs 0 k) front in
    ap (λ (m : List Keyword). one_keyword_faults place k m ++ keyword_faults place m) back ∙ ap (λ (m : Keyword). one_keyword_faults place m ls ++ keyword_faults place ls) first

-- lines from one without a fault on
pub lines_faults-next : (formats : List ℕ → Option Format) (file : Option (List ℕ)) (d new : Draft) (ss here more : List Specification) (s : Specification) → 0 < length ss → here ≡ take 1 ss → more ≡ drop 1 ss → s ≡ get_or here 0 s
    → first_after None (line_faults formats file d s) ≡ None → new ≡ described formats file d s → lines_faults formats file new more ≡ lines_faults formats file d ss
lines_faults-next formats file d new [] here more s some front back is clear added = absurd (omega arith)
lines_faults-next formats file d new (t ∷ ts) here more s some front back is clear added =
    let first : s ≡ t = is ∙ ap (λ (hs : List Specification). get_or hs 0 s) front in
    ap (λ (e : Draft). lines_faults formats file e more) added ∙ ap (λ (m : List Specification). lines_faults formats file (described formats file d s) m) back
    ∙ sym (or_those-none (line_faults formats file d s) (lines_faults formats file (described formats file d s) ts) clear)
    ∙ ap (λ (u : Specification). or_those (line_faults formats file d u) (lines_faults formats file (described formats file d u) ts)) first

pub lines_described-next : (formats : List ℕ → Option Format) (file : Option (List ℕ)) (d new : Draft) (ss here more : List Specification) (s : Specification) → 0 < length ss → here ≡ take 1 ss → more ≡ drop 1 ss → s ≡ get_or here 0 s
    → first_after None (line_faults formats file d s) ≡ None → new ≡ described formats file d s → lines_described formats file new more ≡ lines_described formats file d ss
lines_described-next formats file d new [] here more s some front back is clear added = absurd (omega arith)
lines_described-next formats file d new (t ∷ ts) here more s some front back is clear added =
    let first : s ≡ t = is ∙ ap (λ (hs : List Specification). get_or hs 0 s) front in
    ap (λ (e : Draft). lines_described formats file e more) added ∙ ap (λ (m : List Specification). lines_described formats file (described formats file d s) m) back
    ∙ sym (unless_faulty-none (line_faults formats file d s) (described formats file d s) (lines_described formats file (described formats file d s) ts) clear)
    ∙ ap (λ (u : Specification). unless_faulty (line_faults formats file d u) (described formats file d u) (lines_described formats file (described formats file d u) ts)) first

-- lines from one with a fault on
pub lines_faults-here : (formats : List ℕ → Option Format) (file : Option (List ℕ)) (d : Draft) (ss here : List Specification) (s : Specification) (fault : DdsFault) → 0 < length ss → here ≡ take 1 ss → s ≡ get_or here 0 s
    → first_after None (line_faults formats file d s) ≡ Some fault → first_after None (lines_faults formats file d ss) ≡ Some fault
lines_faults-here formats file d [] here s fault some front is found = absurd (omega arith)
lines_faults-here formats file d (t ∷ ts) here s fault some front is found =
    let first : s ≡ t = is ∙ ap (λ (hs : List Specification). get_or hs 0 s) front in
    let at : first_after None (line_faults formats file d t) ≡ Some fault = ap (λ (u : Specification). first_after None (line_faults formats file d u)) (sym first) ∙ found in
    ap (λ (fs : List DdsFault). first_after None fs) (or_those-some (line_faults formats file d t) (lines_faults formats file (described formats file d t) ts) fault at) ∙ at

pub lines_described-here : (formats : List ℕ → Option Format) (file : Option (List ℕ)) (d : Draft) (ss here : List Specification) (s : Specification) (fault : DdsFault) → 0 < length ss → here ≡ take 1 ss → s ≡ get_or here 0 s
    → first_after None (line_faults formats file d s) ≡ Some fault → lines_described formats file d ss ≡ described formats file d s
lines_described-here formats file d [] here s fault some front is found = absurd (omega arith)
lines_described-here formats file d (t ∷ ts) here s fault some front is found =
    let first : s ≡ t = is ∙ ap (λ (hs : List Specification). get_or hs 0 s) front in
    let at : first_after None (line_faults formats file d t) ≡ Some fault = ap (λ (u : Specification). first_after None (line_faults formats file d u)) (sym first) ∙ found in
    unless_faulty-some (line_faults formats file d t) (described formats file d t) (lines_described formats file (described formats file d t) ts) fault at
    ∙ ap (λ (u : Specification). described formats file d u) (sym first)

-- no lines are left
pub lines_faults-end : (formats : List ℕ → Option Format) (file : Option (List ℕ)) (d : Draft) (ss : List Specification) → length ss ≡ 0 → lines_faults formats file d ss ≡ []
lines_faults-end formats file d [] h = refl
lines_faults-end formats file d (s ∷ ss) h = absurd (omega arith)

pub lines_described-end : (formats : List ℕ → Option Format) (file : Option (List ℕ)) (d : Draft) (ss : List Specification) → length ss ≡ 0 → lines_described formats file d ss ≡ d
lines_described-end formats file d [] h = refl
lines_described-end formats file d (s ∷ ss) h = absurd (omega arith)
