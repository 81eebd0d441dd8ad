-- The listing of a history: HISTORY, a line for each call, and END with their number. (Our own.)
use Rattle.std.specs.Prelude.{ℕ, ◌+◌, List, [], ◌∷◌, ◌++◌, length, codes}
use Rattle.std.specs.Fmt.{decimal}
use Rattle.library_model.specs.declared.calls.Call.{Call}
use Rattle.listing.specs.RequestText.{request_text}
use Rattle.listing.specs.ReplyText.{reply_text, job_name}

-- what was asked and what was answered, to the end of the line
unfoldable pub exchange : List (List ℕ) → Call → List ℕ
exchange names call = request_text call.request ++ (codes " => " ++ (reply_text names call.reply ++ 10 ∷ []))

-- a line: the call's number, the job, the timestamp, the request and the reply
unfoldable pub call_line : List (List ℕ) → ℕ → Call → List ℕ
call_line names number call =
    decimal number ++ 32 ∷ (job_name names call.job ++ 32 ∷ (decimal call.timestamp ++ 32 ∷ exchange names call))

-- the lines of the calls, numbered from this number on
abbrev pub call_lines : List (List ℕ) → ℕ → List Call → List ℕ
call_lines names number [] = []
call_lines names number (call ∷ calls) = call_line names number call ++ call_lines names (number + 1) calls

unfoldable pub listing : List (List ℕ) → List Call → List ℕ
listing names calls =
    codes "HISTORY" ++ 10 ∷ (call_lines names 1 calls ++ (codes "END " ++ (decimal (length calls) ++ 10 ∷ [])))
