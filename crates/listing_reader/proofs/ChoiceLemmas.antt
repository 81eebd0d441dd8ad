-- The words of parameters: each lies within the parentheses, and is read back.
use Rattle.std.proofs.Common.{◌≡◌, ℕ, if◌then◌else◌, Bool, true, false, Option, Some, None, option_map, List, [], ◌∷◌, codes, refl, ap, ◌∙◌, arith}
use Rattle.std.specs.Option.{option_map_or}
use Rattle.std.specs.Fmt.{decimal}
use Rattle.std.proofs.lemmas.Bool.{cond-true}
use Rattle.commit_level.specs.declared.Level.{Level}
use Rattle.commit_level.specs.declared.Level.TheVariants as level
use Rattle.entry_codec.specs.declared.kinds.Images.{Images}
use Rattle.entry_codec.specs.declared.kinds.Images.TheVariants as images
use Rattle.field_types.specs.SystemName.{is_name}
use Rattle.field_types.specs.declared.values.Value.{Value}
use Rattle.library_model.specs.declared.requests.OpenOption.{OpenOption}
use Rattle.library_model.specs.declared.requests.OpenOption.TheVariants as open_option
use Rattle.library_model.specs.declared.requests.AccessPath.{AccessPath}
use Rattle.library_model.specs.declared.requests.AccessPath.TheVariants as path
use Rattle.library_model.specs.declared.requests.LockOption.{LockOption}
use Rattle.library_model.specs.declared.requests.LockOption.TheVariants as lock
use Rattle.library_model.specs.declared.requests.EndReason.{EndReason}
use Rattle.library_model.specs.declared.requests.EndReason.TheVariants as reason
use Rattle.library_model.specs.declared.requests.RangeEnd.{RangeEnd}
use Rattle.library_model.specs.declared.requests.RangeEnd.TheVariants as range_end
use Rattle.library_model.specs.declared.requests.Limit.{Limit}
use Rattle.library_model.specs.declared.requests.Limit.TheVariants as limit
use Rattle.library_model.specs.declared.requests.ChainTo.{ChainTo}
use Rattle.library_model.specs.declared.requests.ChainTo.TheVariants as chain_to
use Rattle.listing.specs.RequestText.{level_text, images_text, end_text, option_text, yes_or_no, path_text, lock_text, reason_text, format_text, place_text, limit_parameter, chain_parameter}
use Rattle.listing.specs.Texts.{values_text, given_values_text}
use Rattle.statement_reader.specs.Commands.{is_word}
use Rattle.statement_reader.specs.Lists.{let_some}
use Rattle.listing_words.specs.Choices.{level_of, images_of, option_of, yes_of, path_of, lock_of, reason_of}
use Rattle.listing_reader.specs.Listed.{IsEnd, IsFormat, IsPlace, AreValues, AreGiven, IsLimit, IsChainTo}
use Rattle.listing_words.specs.Parameters.{level_in, images_in, option_in, yes_in, path_in, lock_in, reason_in, end_of, end_in, format_of, format_in, place_of, place_in, values_in, given_values_in, limit_word, key_limit, limit_in, chain_key, chain_to_in}
use Rattle.listing_words.specs.Values.{units, number_in, value_of, values_of, given_values_of, number_of, unsigned, text_of}
use Rattle.listing_words.specs.Words.{is_break, inside, given}
use Rattle.statement_reader.specs.Words.{words}
use Rattle.listing_reader.proofs.ScanLemmas.{LiesInside, Follows}
use Rattle.listing_reader.proofs.TextLemmas.{name-inside, decimal-inside}
use Rattle.listing_reader.proofs.ValueLemmas.{number-decimal, long-decimal, values-inner, values-read, givens-read}
use Rattle.listing_reader.proofs.ParameterLemmas.{word_of, parameter-follows, given-own, given-next, number-given}

pub level-inner : (x : Level) → LiesInside (level_text x)
level-inner level.Chg = refl
level-inner level.Cs = refl
level-inner level.All = refl

level-read : (x : Level) → level_of (level_text x) ≡ Some x
unfolding level_of
level-read level.Chg = refl
level-read level.Cs = refl
level-read level.All = refl

pub level-given : (keyword : List ℕ) (x : Level) (words : List (List ℕ)) → given keyword words ≡ Some (level_text x) → level_in keyword words ≡ Some x
unfolding level_in
level-given keyword x words here = ap (λ o. let_some o level_of) here ∙ level-read x

pub images-inner : (x : Images) → LiesInside (images_text x)
images-inner images.After = refl
images-inner images.Both = refl

images-read : (x : Images) → images_of (images_text x) ≡ Some x
unfolding images_of
images-read images.After = refl
images-read images.Both = refl

pub images-given : (keyword : List ℕ) (x : Images) (words : List (List ℕ)) → given keyword words ≡ Some (images_text x) → images_in keyword words ≡ Some x
unfolding images_in
images-given keyword x words here = ap (λ o. let_some o images_of) here ∙ images-read x

pub option-inner : (x : OpenOption) → LiesInside (option_text x)
option-inner open_option.Input = refl
option-inner open_option.All = refl

option-read : (x : OpenOption) → option_of (option_text x) ≡ Some x
unfolding option_of
option-read open_option.Input = refl
option-read open_option.All = refl

pub option-given : (keyword : List ℕ) (x : OpenOption) (words : List (List ℕ)) → given keyword words ≡ Some (option_text x) → option_in keyword words ≡ Some x
unfolding option_in
option-given keyword x words here = ap (λ o. let_some o option_of) here ∙ option-read x

pub yes-inner : (x : Bool) → LiesInside (yes_or_no x)
yes-inner true = refl
yes-inner false = refl

yes-read : (x : Bool) → yes_of (yes_or_no x) ≡ Some x
unfolding yes_of
yes-read true = refl
yes-read false = refl

pub yes-given : (keyword : List ℕ) (x : Bool) (words : List (List ℕ)) → given keyword words ≡ Some (yes_or_no x) → yes_in keyword words ≡ Some x
unfolding yes_in
yes-given keyword x words here = ap (λ o. let_some o yes_of) here ∙ yes-read x

pub path-inner : (x : AccessPath) → LiesInside (path_text x)
path-inner path.File = refl
path-inner path.Arrival = refl

path-read : (x : AccessPath) → path_of (path_text x) ≡ Some x
unfolding path_of
path-read path.File = refl
path-read path.Arrival = refl

pub path-given : (keyword : List ℕ) (x : AccessPath) (words : List (List ℕ)) → given keyword words ≡ Some (path_text x) → path_in keyword words ≡ Some x
unfolding path_in
path-given keyword x words here = ap (λ o. let_some o path_of) here ∙ path-read x

pub lock-inner : (x : LockOption) → LiesInside (lock_text x)
lock-inner lock.Default = refl
lock-inner lock.No = refl

lock-read : (x : LockOption) → lock_of (lock_text x) ≡ Some x
unfolding lock_of
lock-read lock.Default = refl
lock-read lock.No = refl

pub lock-given : (keyword : List ℕ) (x : LockOption) (words : List (List ℕ)) → given keyword words ≡ Some (lock_text x) → lock_in keyword words ≡ Some x
unfolding lock_in
lock-given keyword x words here = ap (λ o. let_some o lock_of) here ∙ lock-read x

pub reason-inner : (x : EndReason) → LiesInside (reason_text x)
reason-inner reason.Normal = refl
reason-inner reason.Escape = refl
reason-inner reason.Expression = refl
reason-inner reason.Statements = refl
reason-inner reason.History = refl

reason-read : (x : EndReason) → reason_of (reason_text x) ≡ Some x
unfolding reason_of
reason-read reason.Normal = refl
reason-read reason.Escape = refl
reason-read reason.Expression = refl
reason-read reason.Statements = refl
reason-read reason.History = refl

pub reason-given : (keyword : List ℕ) (x : EndReason) (words : List (List ℕ)) → given keyword words ≡ Some (reason_text x) → reason_in keyword words ≡ Some x
unfolding reason_in
reason-given keyword x words here = ap (λ o. let_some o reason_of) here ∙ reason-read x

pub end-inner : (x : RangeEnd) → IsEnd x → LiesInside (end_text x)
end-inner range_end.First is = refl
end-inner range_end.Last is = refl
end-inner (range_end.Sequence number) is = decimal-inside number (omega (arith, is))

end-read : (x : RangeEnd) → IsEnd x → end_of (end_text x) ≡ Some x
unfolding end_of units
end-read range_end.First is = refl
end-read range_end.Last is = refl
end-read (range_end.Sequence number) is =
    ap (λ o. option_map_or
    (λ n. Some (range_end.Sequence n)) o (if is_word (codes "*FIRST") (decimal number) then Some range_end.First else (if is_word (codes "*LAST") (decimal number) then Some range_end.Last else None))) (long-decimal number is)

pub end-given : (keyword : List ℕ) (x : RangeEnd) (words : List (List ℕ)) → given keyword words ≡ Some (end_text x) → IsEnd x → end_in keyword words ≡ Some x
unfolding end_in
end-given keyword x words here is = ap (λ o. let_some o end_of) here ∙ end-read x is

pub format-inner : (x : Option (List ℕ)) → IsFormat x → LiesInside (format_text x)
format-inner None is = refl
format-inner (Some name) is = name-inside name is

format-read : (x : Option (List ℕ)) → IsFormat x → format_of (format_text x) ≡ Some x
unfolding format_of
format-read None is = refl
format-read (Some name) is =
    ap (λ o. option_map_or (λ n. Some (Some n)) o (if is_word (codes "*FILE") name then Some None else None)) (cond-true (is_name name) (Some name) None is)

pub format-given : (keyword : List ℕ) (x : Option (List ℕ)) (words : List (List ℕ)) → given keyword words ≡ Some (format_text x) → IsFormat x → format_in keyword words ≡ Some x
unfolding format_in
format-given keyword x words here is = ap (λ o. let_some o format_of) here ∙ format-read x is

pub place-inner : (x : Option ℕ) → IsPlace x → LiesInside (place_text x)
place-inner None is = refl
place-inner (Some rrn) is = decimal-inside rrn (omega (arith, is))

place-read : (x : Option ℕ) → IsPlace x → place_of (place_text x) ≡ Some x
unfolding place_of units
place-read None is = refl
place-read (Some rrn) is =
    ap (λ o. option_map_or (λ n. Some (Some n)) o (if is_word (codes "*END") (decimal rrn) then Some None else None)) (number-decimal rrn is)

pub place-given : (keyword : List ℕ) (x : Option ℕ) (words : List (List ℕ)) → given keyword words ≡ Some (place_text x) → IsPlace x → place_in keyword words ≡ Some x
unfolding place_in
place-given keyword x words here is = ap (λ o. let_some o place_of) here ∙ place-read x is

pub values-given : (keyword : List ℕ) (x : List Value) (words : List (List ℕ)) → given keyword words ≡ Some (values_text x) → AreValues x → values_in keyword words ≡ Some x
unfolding values_in
values-given keyword x words here is = ap (λ o. let_some o values_of) here ∙ values-read x is

pub givens-given : (keyword : List ℕ) (x : List (Option Value)) (words : List (List ℕ)) → given keyword words ≡ Some (given_values_text x) → AreGiven x → given_values_in keyword words ≡ Some x
unfolding given_values_in
givens-given keyword x words here is = ap (λ o. let_some o given_values_of) here ∙ givens-read x is

-- ---- KEY or RRN

abbrev pub limit_word_of : Limit → List ℕ
limit_word_of (limit.Key values) = word_of (codes "KEY") (values_text values)
limit_word_of limit.LowValue = word_of (codes "KEY") (codes "*LOVAL")
limit_word_of limit.HighValue = word_of (codes "KEY") (codes "*HIVAL")
limit_word_of (limit.RecordNumber rrn) = word_of (codes "RRN") (decimal rrn)

pub limit-follows : (x : Limit) → IsLimit x → Follows (limit_parameter x) (limit_word_of x ∷ [])
limit-follows (limit.Key values) is = parameter-follows (codes "KEY") (values_text values) refl refl (values-inner values is)
limit-follows limit.LowValue is = parameter-follows (codes "KEY") (codes "*LOVAL") refl refl refl
limit-follows limit.HighValue is = parameter-follows (codes "KEY") (codes "*HIVAL") refl refl refl
limit-follows (limit.RecordNumber rrn) is = parameter-follows (codes "RRN") (decimal rrn) refl refl (decimal-inside rrn (omega (arith, is)))

low-read : key_limit (codes "*LOVAL") ≡ Some limit.LowValue
unfolding key_limit limit_word values_of words value_of number_of unsigned units text_of
low-read = refl

high-read : key_limit (codes "*HIVAL") ≡ Some limit.HighValue
unfolding key_limit limit_word values_of words value_of number_of unsigned units text_of
high-read = refl

keyed : (name text : List ℕ) (more : List (List ℕ)) → given (codes "KEY") (word_of (codes "OPNID") name ∷ word_of (codes "KEY") text ∷ more) ≡ Some text
unfolding inside
keyed name text more = given-next (codes "KEY") (word_of (codes "OPNID") name) (word_of (codes "KEY") text ∷ more) refl refl ∙ given-own (codes "KEY") text more refl

pub limit-given : (name : List ℕ) (x : Limit) (more : List (List ℕ)) → IsLimit x → limit_in (word_of (codes "OPNID") name ∷ limit_word_of x ∷ codes "=>" ∷ more) ≡ Some x
unfolding limit_in inside key_limit
limit-given name (limit.Key values) more is =
    ap (λ o. option_map_or key_limit o (option_map limit.RecordNumber (number_in (codes "RRN") (word_of (codes "OPNID") name ∷ word_of (codes "KEY") (values_text values) ∷ codes "=>"
    ∷ more)))) (keyed name (values_text values) (codes "=>" ∷ more))
    ∙ ap (λ o. option_map_or (λ vs. Some (limit.Key vs)) o (limit_word (values_text values))) (values-read values is)
limit-given name limit.LowValue more is =
    ap (λ o. option_map_or key_limit o (option_map limit.RecordNumber (number_in (codes "RRN") (word_of (codes "OPNID") name ∷ word_of (codes "KEY") (codes "*LOVAL") ∷ codes "=>"
    ∷ more)))) (keyed name (codes "*LOVAL") (codes "=>" ∷ more))
    ∙ low-read
limit-given name limit.HighValue more is =
    ap (λ o. option_map_or key_limit o (option_map limit.RecordNumber (number_in (codes "RRN") (word_of (codes "OPNID") name ∷ word_of (codes "KEY") (codes "*HIVAL") ∷ codes "=>"
    ∷ more)))) (keyed name (codes "*HIVAL") (codes "=>" ∷ more))
    ∙ high-read
limit-given name (limit.RecordNumber rrn) more is =
    let row = word_of (codes "OPNID") name ∷ word_of (codes "RRN") (decimal rrn) ∷ codes "=>" ∷ more in
    let none : given (codes "KEY") row ≡ None = given-next (codes "KEY") (word_of (codes "OPNID") name) (word_of (codes "RRN") (decimal rrn) ∷ codes "=>" ∷ more) refl refl
    ∙ given-next (codes "KEY") (word_of (codes "RRN") (decimal rrn)) (codes "=>" ∷ more) refl refl in
    let here : given (codes "RRN") row ≡ Some (decimal rrn) = given-next (codes "RRN") (word_of (codes "OPNID") name) (word_of (codes "RRN") (decimal rrn) ∷ codes "=>" ∷ more) refl refl
    ∙ given-own (codes "RRN") (decimal rrn) (codes "=>" ∷ more) refl in
    ap (λ o. option_map_or key_limit o (option_map limit.RecordNumber (number_in (codes "RRN") row))) none
    ∙ ap (option_map limit.RecordNumber) (number-given (codes "RRN") rrn row here is)

abbrev pub chain_word_of : ChainTo → List ℕ
chain_word_of (chain_to.Key values) = word_of (codes "KEY") (values_text values)
chain_word_of (chain_to.RecordNumber rrn) = word_of (codes "RRN") (decimal rrn)

pub chain-follows : (x : ChainTo) → IsChainTo x → Follows (chain_parameter x) (chain_word_of x ∷ [])
chain-follows (chain_to.Key values) is = parameter-follows (codes "KEY") (values_text values) refl refl (values-inner values is)
chain-follows (chain_to.RecordNumber rrn) is = parameter-follows (codes "RRN") (decimal rrn) refl refl (decimal-inside rrn (omega (arith, is)))

pub chain-break : (x : ChainTo) → is_break (chain_word_of x) ≡ false
chain-break (chain_to.Key values) = refl
chain-break (chain_to.RecordNumber rrn) = refl

pub chain-lock : (x : ChainTo) → inside (codes "LCK") (chain_word_of x) ≡ None
unfolding inside
chain-lock (chain_to.Key values) = refl
chain-lock (chain_to.RecordNumber rrn) = refl

pub chain-given : (name : List ℕ) (x : ChainTo) (lock : LockOption) (more : List (List ℕ)) → IsChainTo x → chain_to_in (word_of (codes "OPNID") name ∷ chain_word_of x
    ∷ word_of (codes "LCK") (lock_text lock) ∷ codes "=>" ∷ more) ≡ Some x
unfolding chain_to_in inside chain_key
chain-given name (chain_to.Key values) lock more is =
    ap (λ o. option_map_or chain_key o (option_map chain_to.RecordNumber (number_in (codes "RRN") (word_of (codes "OPNID") name ∷ word_of (codes "KEY") (values_text values)
    ∷ word_of (codes "LCK") (lock_text lock) ∷ codes "=>" ∷ more)))) (keyed name (values_text values) (word_of (codes "LCK") (lock_text lock) ∷ codes "=>" ∷ more))
    ∙ ap (option_map chain_to.Key) (values-read values is)
chain-given name (chain_to.RecordNumber rrn) lock more is =
    let row = word_of (codes "OPNID") name ∷ word_of (codes "RRN") (decimal rrn) ∷ word_of (codes "LCK") (lock_text lock) ∷ codes "=>" ∷ more in
    let none : given (codes "KEY") row ≡ None = given-next (codes "KEY") (word_of (codes "OPNID") name) (word_of (codes "RRN") (decimal rrn) ∷ word_of (codes "LCK") (lock_text lock)
    ∷ codes "=>" ∷ more) refl refl ∙ given-next (codes "KEY") (word_of (codes "RRN") (decimal rrn)) (word_of (codes "LCK") (lock_text lock) ∷ codes "=>" ∷ more) refl refl
    ∙ given-next (codes "KEY") (word_of (codes "LCK") (lock_text lock)) (codes "=>" ∷ more) refl refl in
    let here : given (codes "RRN") row ≡ Some (decimal rrn) = given-next (codes "RRN") (word_of (codes "OPNID") name) (word_of (codes "RRN") (decimal rrn)
    ∷ word_of (codes "LCK") (lock_text lock) ∷ codes "=>" ∷ more) refl refl ∙ given-own (codes "RRN") (decimal rrn) (word_of (codes "LCK") (lock_text lock) ∷ codes "=>" ∷ more) refl in
    ap (λ o. option_map_or chain_key o (option_map chain_to.RecordNumber (number_in (codes "RRN") row))) none
    ∙ ap (option_map chain_to.RecordNumber) (number-given (codes "RRN") rrn row here is)
