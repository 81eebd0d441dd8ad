-- The positions of a format among those of a file.
use Rattle.std.proofs.Common.{◌≡◌, suc, ◌≤◌, List, [], ◌∷◌, refl, sym, ap, arith}
use Rattle.std.specs.Prelude.{AllPairs}
use Rattle.std.specs.List.{AllByRecursion}
use Rattle.std.proofs.lemmas.List.Elements.{recursion_from_All}
use Rattle.key_spec.specs.declared.KeyPart.{KeyPart}
use Rattle.key_spec.specs.declared.KeyPart.TheVariants.{Field, Absent}
use Rattle.key_order.specs.KeyOrder.{either_part, either_parts, merged_parts}
use Rattle.key_order.specs.KeyFields.{MatchesAt, Matches, value_width, position_width, key_width}
use Rattle.key_values.specs.KeyValues.{IsAmong, AreAmong}

-- ---- among themselves, and among those of a file

at-itself : (p : KeyPart) → IsAmong p p
at-itself (Field t offset descend absval) = (refl, refl)
at-itself Absent = tt

pub among-itself : (parts : List KeyPart) → AreAmong parts parts
among-itself [] = tt
among-itself (p ∷ parts) = (at-itself p, among-itself parts)

-- a format and the positions of it and others together
at-either : (p q : KeyPart) → IsAmong p (either_part p q)
at-either (Field t offset descend absval) q = (refl, refl)
at-either Absent q = tt

among-either : (parts others : List KeyPart) → AreAmong parts (either_parts parts others)
among-either [] others = tt
among-either (p ∷ parts) [] = among-itself (p ∷ parts)
among-either (p ∷ parts) (q ∷ others) = (at-either p q, among-either parts others)

-- what is among the others is so too where a format that matches it comes before them
kept-at : (x p q : KeyPart) → MatchesAt p x → IsAmong x q → IsAmong x (either_part p q)
kept-at x Absent q match among = among
kept-at Absent (Field t offset descend absval) q match among = tt
kept-at (Field u place falls counted) (Field t offset descend absval) q match among = (sym match.0, sym match.1)

kept-among : (format parts others : List KeyPart) → Matches parts format → AreAmong format others → AreAmong format (either_parts parts others)
kept-among format [] others match among = among
kept-among [] (p ∷ parts) others match among = tt
kept-among (x ∷ format) (p ∷ parts) [] match among = absurd among
kept-among (x ∷ format) (p ∷ parts) (q ∷ others) match among = (kept-at x p q match.0 among.0, kept-among format parts others match.1 among.1)

with-first : (parts merged : List KeyPart) (formats : List (List KeyPart)) → AllByRecursion (Matches parts) formats → AllByRecursion (λ own. AreAmong own merged) formats
    → AllByRecursion (λ own. AreAmong own (either_parts parts merged)) formats
with-first parts merged [] match among = tt
with-first parts merged (format ∷ formats) match among = (kept-among format parts merged match.0 among.0, with-first parts merged formats match.1 among.1)

pub among-merged : (formats : List (List KeyPart)) → AllPairs Matches formats → AllByRecursion (λ own. AreAmong own (merged_parts formats)) formats
among-merged [] pairs = tt
among-merged (parts ∷ formats) pairs =
    let others : AllByRecursion (Matches parts) formats = recursion_from_All (Matches parts) formats (λ k d lt. pairs 0 (suc k) d (omega arith) (omega arith)) in
    let rest = among-merged formats (λ i j d lt within. pairs (suc i) (suc j) d (omega arith) (omega arith)) in
    (among-either parts (merged_parts formats), with-first parts (merged_parts formats) formats others rest)

-- ---- how many bytes

at-width : (p q : KeyPart) → IsAmong p q → position_width p ≤ position_width q
at-width (Field t offset descend absval) (Field u place falls counted) among = (let same : value_width t ≡ value_width u = ap value_width among.0 in omega arith)
at-width (Field t offset descend absval) Absent among = absurd among
at-width Absent (Field u place falls counted) among = omega arith
at-width Absent Absent among = omega arith

pub among-width : (own file : List KeyPart) → AreAmong own file → key_width own ≤ key_width file
among-width [] file among = omega arith
among-width (p ∷ own) [] among = absurd among
among-width (p ∷ own) (q ∷ file) among =
    let first : position_width p ≤ position_width q = at-width p q among.0 in
    let rest : key_width own ≤ key_width file = among-width own file among.1 in
    omega (arith, first, rest)
