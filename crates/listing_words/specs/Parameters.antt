-- The parameters of requests, read back.
use Rattle.std.specs.Prelude.{ℕ, Bool, if◌then◌else◌, Option, Some, None, List, codes, option_map}
use Rattle.std.specs.Option.{option_map_or}
use Rattle.commit_level.specs.declared.Level.{Level}
use Rattle.entry_codec.specs.declared.kinds.Images.{Images}
use Rattle.field_types.specs.declared.values.Value.{Value}
use Rattle.library_model.specs.declared.requests.OpenOption.{OpenOption}
use Rattle.library_model.specs.declared.requests.AccessPath.{AccessPath}
use Rattle.library_model.specs.declared.requests.LockOption.{LockOption}
use Rattle.library_model.specs.declared.requests.EndReason.{EndReason}
use Rattle.library_model.specs.declared.requests.RangeEnd.{RangeEnd}
use Rattle.library_model.specs.declared.requests.RangeEnd.TheVariants as range_end
use Rattle.library_model.specs.declared.requests.Limit.{Limit}
use Rattle.library_model.specs.declared.requests.Limit.TheVariants as limit
use Rattle.library_model.specs.declared.requests.ChainTo.{ChainTo}
use Rattle.library_model.specs.declared.requests.ChainTo.TheVariants as chain_to
use Rattle.statement_reader.specs.Commands.{is_word}
use Rattle.statement_reader.specs.Lists.{let_some}
use Rattle.listing_words.specs.Choices.{level_of, images_of, option_of, yes_of, path_of, lock_of, reason_of}
use Rattle.listing_words.specs.Values.{units, number_in, values_of, given_values_of}
use Rattle.listing_words.specs.Words.{given, name_of}
use Rattle.listing_words.specs.declared.numbers.TheConstants.{MOST_NUMBER, MOST_LONG}

-- a lock level
unfoldable pub level_in : List ℕ → List (List ℕ) → Option Level
level_in keyword words = let_some (given keyword words) level_of

-- which images are kept
unfoldable pub images_in : List ℕ → List (List ℕ) → Option Images
images_in keyword words = let_some (given keyword words) images_of

-- OPTION of an open
unfoldable pub option_in : List ℕ → List (List ℕ) → Option OpenOption
option_in keyword words = let_some (given keyword words) option_of

-- *YES or *NO
unfoldable pub yes_in : List ℕ → List (List ℕ) → Option Bool
yes_in keyword words = let_some (given keyword words) yes_of

-- ACCPTH of an open
unfoldable pub path_in : List ℕ → List (List ℕ) → Option AccessPath
path_in keyword words = let_some (given keyword words) path_of

-- LCK of a read
unfoldable pub lock_in : List ℕ → List (List ℕ) → Option LockOption
lock_in keyword words = let_some (given keyword words) lock_of

-- why a job ends
unfoldable pub reason_in : List ℕ → List (List ℕ) → Option EndReason
reason_in keyword words = let_some (given keyword words) reason_of

-- an end of a range: a sequence, *FIRST or *LAST
unfoldable pub end_of : List ℕ → Option RangeEnd
end_of word =
    option_map_or (λ number. Some (range_end.Sequence number)) (units MOST_LONG word)
    (if is_word (codes "*FIRST") word then Some range_end.First else (if is_word (codes "*LAST") word then Some range_end.Last else None))

unfoldable pub end_in : List ℕ → List (List ℕ) → Option RangeEnd
end_in keyword words = let_some (given keyword words) end_of

-- FMT: a name, or *FILE
unfoldable pub format_of : List ℕ → Option (Option (List ℕ))
format_of word = option_map_or (λ name. Some (Some name)) (name_of word) (if is_word (codes "*FILE") word then Some None else None)

unfoldable pub format_in : List ℕ → List (List ℕ) → Option (Option (List ℕ))
format_in keyword words = let_some (given keyword words) format_of

-- RRN of WRITE: a number, or *END
unfoldable pub place_of : List ℕ → Option (Option ℕ)
place_of word = option_map_or (λ number. Some (Some number)) (units MOST_NUMBER word) (if is_word (codes "*END") word then Some None else None)

unfoldable pub place_in : List ℕ → List (List ℕ) → Option (Option ℕ)
place_in keyword words = let_some (given keyword words) place_of

unfoldable pub values_in : List ℕ → List (List ℕ) → Option (List Value)
values_in keyword words = let_some (given keyword words) values_of

unfoldable pub given_values_in : List ℕ → List (List ℕ) → Option (List (Option Value))
given_values_in keyword words = let_some (given keyword words) given_values_of

-- KEY of SETLL and SETGT: values, *LOVAL or *HIVAL
unfoldable pub limit_word : List ℕ → Option Limit
limit_word word = if is_word (codes "*LOVAL") word then Some limit.LowValue else (if is_word (codes "*HIVAL") word then Some limit.HighValue else None)

unfoldable pub key_limit : List ℕ → Option Limit
key_limit text = option_map_or (λ values. Some (limit.Key values)) (values_of text) (limit_word text)

-- KEY or RRN of SETLL and SETGT
unfoldable pub limit_in : List (List ℕ) → Option Limit
limit_in words = option_map_or key_limit (given (codes "KEY") words) (option_map limit.RecordNumber (number_in (codes "RRN") words))

unfoldable pub chain_key : List ℕ → Option ChainTo
chain_key text = option_map chain_to.Key (values_of text)

-- KEY or RRN of CHAIN
unfoldable pub chain_to_in : List (List ℕ) → Option ChainTo
chain_to_in words = option_map_or chain_key (given (codes "KEY") words) (option_map chain_to.RecordNumber (number_in (codes "RRN") words))
