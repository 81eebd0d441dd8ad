-- The parameters of a statement: NAME(..), each at most once and in any order. (CL reference, "Command parameters".)
use Rattle.std.specs.Prelude.{ℕ, ◌-◌, Bool, ◌==◌, if◌then◌else◌, nat_eq, Option, Some, None, is_some, List, [], ◌∷◌, length, take, drop, codes, count_by}
use Rattle.std.specs.Option.{option_or}
use Rattle.std.specs.Cmp.Lexicographic.{pointwise}
use Rattle.statement_reader.specs.Lists.{let_some}
use Rattle.statement_reader.specs.declared.parameters.Parameter.{Parameter}
use Rattle.statement_reader.specs.declared.parameters.Parameter.TheVariants as parameter

-- how each is spelled
abbrev pub spelled : Parameter → List ℕ
spelled parameter.File = codes "FILE"
spelled parameter.Source = codes "SRC"
spelled parameter.Member = codes "MBR"
spelled parameter.Images = codes "IMAGES"
spelled parameter.Receiver = codes "RCV"
spelled parameter.FromEntry = codes "FROMENT"
spelled parameter.ToEntry = codes "TOENT"
spelled parameter.LockLevel = codes "LCKLVL"
spelled parameter.Option = codes "OPTION"
spelled parameter.OpenId = codes "OPNID"
spelled parameter.Commit = codes "COMMIT"
spelled parameter.AccessPath = codes "ACCPTH"
spelled parameter.Key = codes "KEY"
spelled parameter.RecordNumber = codes "RRN"
spelled parameter.Lock = codes "LCK"
spelled parameter.To = codes "TO"
spelled parameter.Format = codes "FMT"
spelled parameter.Values = codes "VAL"
spelled parameter.Variable = codes "VAR"
spelled parameter.Value = codes "VALUE"
spelled parameter.Condition = codes "COND"
spelled parameter.Then = codes "THEN"
spelled parameter.Command = codes "CMD"
spelled parameter.Label = codes "CMDLBL"
spelled parameter.Message = codes "MSGID"
spelled parameter.Execute = codes "EXEC"

-- what stands behind the front of a text, where the text has that front
abbrev pub behind : List ℕ → List ℕ → Option (List ℕ)
behind front text = if pointwise nat_eq (take (length front) text) front then Some (drop (length front) text) else None

-- what stands before the back of a text, where the text has that back
abbrev pub before : List ℕ → List ℕ → Option (List ℕ)
before back text =
    if pointwise nat_eq (drop (length text - length back) text) back then Some (take (length text - length back) text) else None

-- what a word has in the parentheses of this parameter. No value has a parenthesis outside apostrophes, so what closes too early is refused there
abbrev pub inside : Parameter → List ℕ → Option (List ℕ)
inside parameter word =
    let_some (behind (spelled parameter) word) (λ rest.
    let_some (behind (codes "(") rest) (before (codes ")")))

-- what the first of these words that is this parameter has in its parentheses
abbrev pub given : Parameter → List (List ℕ) → Option (List ℕ)
given parameter [] = None
given parameter (word ∷ words) = option_or (inside parameter word) (given parameter words)

-- there are as many words as parameters that are given: none is another, and none stands twice
abbrev pub has_only : List Parameter → List (List ℕ) → Bool
has_only parameters words = count_by (λ parameter. is_some (given parameter words)) parameters == length words
