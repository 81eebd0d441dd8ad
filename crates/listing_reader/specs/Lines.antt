-- The calls of a listing, read back line by line.
use Rattle.std.specs.Prelude.{ℕ, Option, Some, List, [], ◌∷◌, codes}
use Rattle.std.specs.Option.{option_map_or}
use Rattle.library_model.specs.declared.calls.Call.{Call}
use Rattle.library_model.specs.declared.replies.Reply.{Reply}
use Rattle.statement_reader.specs.Lists.{let_some}
use Rattle.statement_reader.specs.Words.{words}
use Rattle.listing_reader.specs.Replies.{read_reply}
use Rattle.listing_reader.specs.Requests.{read_request}
use Rattle.listing_words.specs.Values.{units}
use Rattle.listing_words.specs.Words.{behind_word, let_word, job_from}
use Rattle.listing_words.specs.declared.numbers.TheConstants.{MOST_LONG}

-- a reply behind the arrow
unfoldable pub reply_behind : List (List ℕ) → List (List ℕ) → Option Reply
reply_behind names words =
    let_some (behind_word (codes "=>") words) (λ back.
    let_word back (λ answer details. read_reply names answer details))

-- a call of this job, timestamp and command, with the words behind them
unfoldable pub call_from : List (List ℕ) → List ℕ → List ℕ → List ℕ → List (List ℕ) → Option Call
call_from names name time command words =
    let_some (job_from 1 names name) (λ job.
    let_some (units MOST_LONG time) (λ timestamp.
    let_some (read_request command words) (λ request.
    let_some (reply_behind names words) (λ reply.
    Some (record { job = job; timestamp = timestamp; request = request; reply = reply })))))

-- the call of a line, whatever its number is
unfoldable pub call_of : List (List ℕ) → List (List ℕ) → Option Call
call_of names words =
    let_word words (λ number words.
    let_word words (λ name words.
    let_word words (λ time words.
    let_word words (λ command words. call_from names name time command words))))

-- the calls of these lines, up to the first that has none
abbrev pub calls_of : List (List ℕ) → List (List ℕ) → List Call
calls_of names [] = []
calls_of names (line ∷ lines) = option_map_or (λ call. call ∷ calls_of names lines) (call_of names (words line)) []
