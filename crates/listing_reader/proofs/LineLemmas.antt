-- Each line is read back, and so is the listing.
use Rattle.std.proofs.Common.{◌≡◌, ℕ, ◌+◌, ◌<◌, ◌≤◌, ◌^◌, false, Some, None, List, [], ◌∷◌, ◌++◌, length, drop, map, codes, refl, ap, ◌∙◌, sym, append_assoc, append-nil, length-append, arith}
use Rattle.std.specs.Option.{option_map_or}
use Rattle.std.specs.Fmt.{decimal}
use Rattle.library_model.specs.declared.calls.Call.{Call}
use Rattle.library_model.specs.declared.replies.Reply.{Reply}
use Rattle.library_model.specs.declared.replies.Reply.TheVariants as reply
use Rattle.listing.specs.HistoryListing.{exchange, call_line, call_lines, listing}
use Rattle.listing.specs.ReplyText.{answer, details, reply_text, job_name}
use Rattle.listing.specs.RequestText.{command, parameters, request_text}
use Rattle.statement_reader.specs.Words.{words}
use Rattle.text_lines.specs.Lines.{lines_of}
use Rattle.listing_reader.specs.Lines.{reply_behind, call_from, call_of, calls_of}
use Rattle.listing_reader.specs.Replies.{read_reply}
use Rattle.listing_reader.specs.Listed.{IsCall, AreCalls, AreDifferent, shown_reply, shown}
use Rattle.listing_reader.proofs.ScanLemmas.{IsWord, AreWords, spaced, has_feed, spaced-append, are_words-append, spaced-words, spaced-feed, word-feed, has_feed-append, lines-first}
use Rattle.listing_reader.proofs.TextLemmas.{name-word, decimal-word}
use Rattle.listing_reader.proofs.ValueLemmas.{long-decimal}
use Rattle.listing_reader.proofs.ParameterLemmas.{some-then}
use Rattle.listing_reader.proofs.JobLemmas.{job-named, job-is-name}
use Rattle.listing_reader.proofs.RequestLemmas.{IsReadBack, request-read, command-word}
use Rattle.listing_reader.proofs.ReplyLemmas.{reply-read}
use Rattle.listing_reader.proofs.ShownLemmas.{same-listing}

answer-word : (r : Reply) → IsWord (answer r)
answer-word reply.Done = record { text = refl; closed = refl }
answer-word (reply.Record read) = record { text = refl; closed = refl }
answer-word (reply.Added rrn) = record { text = refl; closed = refl }
answer-word (reply.Range first last changes) = record { text = refl; closed = refl }
answer-word (reply.Receiver number) = record { text = refl; closed = refl }
answer-word (reply.Sequence number) = record { text = refl; closed = refl }
answer-word (reply.Entries entries) = record { text = refl; closed = refl }
answer-word (reply.RecordInUse job member rrn) = record { text = refl; closed = refl }
answer-word (reply.HeldByGroup rrn) = record { text = refl; closed = refl }
answer-word (reply.PlaceInUse rrn) = record { text = refl; closed = refl }
answer-word reply.HeldToBoundary = record { text = refl; closed = refl }
answer-word reply.NotFound = record { text = refl; closed = refl }
answer-word reply.EndOfFile = record { text = refl; closed = refl }
answer-word reply.BeginOfFile = record { text = refl; closed = refl }
answer-word reply.NoCurrentRecord = record { text = refl; closed = refl }
answer-word reply.WrongOpen = record { text = refl; closed = refl }
answer-word reply.NoDefinition = record { text = refl; closed = refl }
answer-word reply.AlreadyStarted = record { text = refl; closed = refl }
answer-word reply.NoSuchEntry = record { text = refl; closed = refl }
answer-word reply.MemberFull = record { text = refl; closed = refl }
answer-word reply.StoreFault = record { text = refl; closed = refl }
answer-word reply.NoMemory = record { text = refl; closed = refl }
answer-word (reply.DuplicateKey file rrn) = record { text = refl; closed = refl }
answer-word (reply.NoSuchName what) = record { text = refl; closed = refl }
answer-word (reply.NameExists name) = record { text = refl; closed = refl }
answer-word (reply.Dependents name) = record { text = refl; closed = refl }
answer-word (reply.BadValue fault) = record { text = refl; closed = refl }
answer-word (reply.DdsFault fault) = record { text = refl; closed = refl }
answer-word (reply.InUse job) = record { text = refl; closed = refl }
answer-word (reply.NotJournaled member) = record { text = refl; closed = refl }
answer-word (reply.PendingChanges group) = record { text = refl; closed = refl }
answer-word (reply.Straddled group) = record { text = refl; closed = refl }
answer-word (reply.DoesNotFit sequence rrn) = record { text = refl; closed = refl }
answer-word (reply.NeedsBoth sequence) = record { text = refl; closed = refl }
answer-word (reply.Gap sequence) = record { text = refl; closed = refl }
answer-word (reply.NotRemovable sequence) = record { text = refl; closed = refl }
answer-word (reply.ReceiverGone sequence) = record { text = refl; closed = refl }
answer-word (reply.BlockChanged sequence) = record { text = refl; closed = refl }
answer-word (reply.StillNeeded sequence) = record { text = refl; closed = refl }
answer-word (reply.LimitReached which number) = record { text = refl; closed = refl }

-- the words behind the number
abbrev pub line_words : List (List ℕ) → Call → List (List ℕ) → List (List ℕ) → List (List ℕ)
line_words names call ps ds = job_name names call.job ∷ decimal call.timestamp ∷ command call.request ∷ (ps ++ codes "=>" ∷ answer call.reply ∷ ds)

-- what stands behind the command
abbrev pub behind_command : Call → List (List ℕ) → List (List ℕ) → List ℕ
behind_command call ps ds = spaced (ps ++ codes "=>" ∷ answer call.reply ∷ ds)

exchange-text : (names : List (List ℕ)) (call : Call) (ps ds : List (List ℕ)) → parameters call.request ≡ spaced ps → details names call.reply ≡ spaced ds → exchange names call
    ≡ (command call.request ++ behind_command call ps ds) ++ 10 ∷ []
unfolding exchange request_text reply_text
exchange-text names call ps ds params carried =
    let back = spaced (codes "=>" ∷ answer call.reply ∷ ds) in
    ap (λ p. (command call.request ++ p) ++ (codes " => " ++ ((answer call.reply ++ details names call.reply) ++ 10 ∷ []))) params
    ∙ ap (λ d. (command call.request ++ spaced ps) ++ (codes " => " ++ ((answer call.reply ++ d) ++ 10 ∷ []))) carried
    ∙ append_assoc (command call.request) (spaced ps) (back ++ 10 ∷ [])
    ∙ ap (λ t. command call.request ++ t) (sym (append_assoc (spaced ps) back (10 ∷ [])))
    ∙ ap (λ t. command call.request ++ (t ++ 10 ∷ [])) (sym (spaced-append ps (codes "=>" ∷ answer call.reply ∷ ds)))
    ∙ sym (append_assoc (command call.request) (behind_command call ps ds) (10 ∷ []))

line-text : (names : List (List ℕ)) (number : ℕ) (call : Call) (ps ds : List (List ℕ)) → parameters call.request ≡ spaced ps → details names call.reply ≡ spaced ds
    → call_line names number call ≡ (decimal number ++ spaced (line_words names call ps ds)) ++ 10 ∷ []
unfolding call_line
line-text names number call ps ds params carried =
    let time = command call.request ++ behind_command call ps ds in
    let job = decimal call.timestamp ++ 32 ∷ time in
    ap (λ t. decimal number ++ 32 ∷ (job_name names call.job ++ 32 ∷ (decimal call.timestamp ++ 32 ∷ t))) (exchange-text names call ps ds params carried)
    ∙ ap (λ t. decimal number ++ 32 ∷ (job_name names call.job ++ 32 ∷ t)) (sym (append_assoc (decimal call.timestamp) (32 ∷ time) (10 ∷ [])))
    ∙ ap (λ t. decimal number ++ 32 ∷ t) (sym (append_assoc (job_name names call.job) (32 ∷ job) (10 ∷ [])))
    ∙ sym (append_assoc (decimal number) (32 ∷ (job_name names call.job ++ 32 ∷ job)) (10 ∷ []))

-- the text of a line before its line feed
pub record IsLine (names : List (List ℕ)) (number : ℕ) (call : Call) (line : List ℕ) : Type 0 where
  pub text : call_line names number call ≡ line ++ 10 ∷ []
  pub feed : has_feed line ≡ false
  pub reads : call_of names (words line) ≡ Some (shown call)

call-read : (names : List (List ℕ)) (call : Call) (ps ds : List (List ℕ)) (number : List ℕ) → AreDifferent names → IsCall names call → IsReadBack call.request ps
    → read_reply names (answer call.reply) ds ≡ Some (shown_reply call.reply) → call_of names (number ∷ line_words names call ps ds) ≡ Some (shown call)
unfolding call_of call_from reply_behind
call-read names call ps ds number different is back replies =
    some-then _ _ call.job _ (job-named names call.job different is.job) (
    some-then _ _ call.timestamp _ (long-decimal call.timestamp is.timestamp) (
    some-then _ _ call.request _ (back.reads (answer call.reply ∷ ds)) (
    some-then _ _ (shown_reply call.reply) _ (some-then _ _ (answer call.reply ∷ ds) _ (back.arrow (answer call.reply ∷ ds)) replies) (
    refl))))

pub line-is : (names : List (List ℕ)) (number : ℕ) (call : Call) → AreDifferent names → number < 10 ^ 64 → IsCall names call → (line : List ℕ) × IsLine names number call line
line-is names number call different small is =
    let request = request-read call.request is.request in
    let answered = reply-read names different call.reply is.reply in
    let ps = request.0 in
    let ds = answered.0 in
    let ws = line_words names call ps ds in
    let first : IsWord (decimal number) = decimal-word number small in
    let are : AreWords ws = (name-word (job_name names call.job) (job-is-name names call.job different is.job), (decimal-word call.timestamp (omega (arith, is.timestamp)), (command-word call.request, are_words-append ps (codes "=>" ∷ answer call.reply ∷ ds) request.1.follows.are (record { text = refl; closed = refl }, (answer-word call.reply, answered.1.are))))) in (
      decimal number ++ spaced ws,
      record {
        text = line-text names number call ps ds request.1.follows.text_is answered.1.text_is;
        feed = has_feed-append (decimal number) (spaced ws) (word-feed (decimal number) first) (spaced-feed ws are);
        reads = ap (call_of names) (spaced-words (decimal number) ws first are) ∙ call-read names call ps ds (decimal number) different is request.1 answered.2;
      },
    )

-- the calls of a text that begins with the line of a call
line-first : (names : List (List ℕ)) (number : ℕ) (call : Call) (line rest : List ℕ) → IsLine names number call line → calls_of names (lines_of (call_line names number call ++ rest))
    ≡ shown call ∷ calls_of names (lines_of rest)
line-first names number call line rest is =
    ap (λ t. calls_of names (lines_of (t ++ rest))) is.text
    ∙ ap (λ t. calls_of names (lines_of t)) (append_assoc line (10 ∷ []) rest)
    ∙ ap (calls_of names) (lines-first line rest is.feed)
    ∙ ap (λ o. option_map_or (λ c. c ∷ calls_of names (lines_of rest)) o []) is.reads

lines-read : (names : List (List ℕ)) (number : ℕ) (calls : List Call) (rest : List ℕ) → AreDifferent names → AreCalls names calls → number + length calls < 10 ^ 64
    → calls_of names (lines_of (call_lines names number calls ++ rest)) ≡ map shown calls ++ calls_of names (lines_of rest)
lines-read names number [] rest different are small = refl
lines-read names number (call ∷ calls) rest different are small =
    let here = line-is names number call different (omega (arith, small)) are.0 in
    ap (λ t. calls_of names (lines_of t)) (append_assoc (call_line names number call) (call_lines names (number + 1) calls) rest)
    ∙ line-first names number call here.0 (call_lines names (number + 1) calls ++ rest) here.1
    ∙ ap (λ cs. shown call ∷ cs) (lines-read names (number + 1) calls rest different are.1 (omega (arith, small)))

-- the last line is no call
abbrev pub last_text : ℕ → List ℕ
last_text count = codes "END " ++ decimal count

last-words : (count : ℕ) → count < 10 ^ 64 → words (last_text count) ≡ codes "END" ∷ decimal count ∷ []
last-words count small =
    ap (λ t. words (codes "END " ++ t)) (sym (append-nil (decimal count)))
    ∙ spaced-words (codes "END") (decimal count ∷ []) (record { text = refl; closed = refl }) (decimal-word count small, tt)

no-call : (names : List (List ℕ)) (number : List ℕ) → call_of names (codes "END" ∷ number ∷ []) ≡ None
unfolding call_of
no-call names number = refl

pub last-feed : (count : ℕ) → count < 10 ^ 64 → has_feed (last_text count) ≡ false
last-feed count small = word-feed (decimal count) (decimal-word count small)

-- nothing is read of a text that begins with it
pub last-none-of : (names : List (List ℕ)) (count : ℕ) (rest : List ℕ) → count < 10 ^ 64 → calls_of names (lines_of (last_text count ++ 10 ∷ rest)) ≡ []
last-none-of names count rest small =
    ap (calls_of names) (lines-first (last_text count) rest (last-feed count small))
    ∙ ap (λ ws. option_map_or (λ c. c ∷ calls_of names (lines_of rest)) (call_of names ws) []) (last-words count small)
    ∙ ap (λ o. option_map_or (λ c. c ∷ calls_of names (lines_of rest)) o []) (no-call names (decimal count))

last-none : (names : List (List ℕ)) (count : ℕ) → count < 10 ^ 64 → calls_of names (lines_of (codes "END " ++ (decimal count ++ 10 ∷ []))) ≡ []
last-none names count small = last-none-of names count [] small

pub listing-read : (names : List (List ℕ)) (calls : List Call) → AreDifferent names → AreCalls names calls → length calls < 2 ^ 64 → calls_of names (drop 1 (lines_of (listing names calls)))
    ≡ map shown calls
unfolding listing
listing-read names calls different are small =
    let last = codes "END " ++ (decimal (length calls) ++ 10 ∷ []) in
    ap (λ ls. calls_of names (drop 1 ls)) (lines-first (codes "HISTORY") (call_lines names 1 calls ++ last) refl)
    ∙ lines-read names 1 calls last different are (omega (arith, small))
    ∙ ap (λ cs. map shown calls ++ cs) (last-none names (length calls) (omega (arith, small)))
    ∙ append-nil (map shown calls)

-- no listing is shorter than its calls
lines-length : (names : List (List ℕ)) (number : ℕ) (calls : List Call) → length calls ≤ length (call_lines names number calls)
unfolding call_line
lines-length names number [] = omega arith
lines-length names number (call ∷ calls) =
    let line = job_name names call.job ++ 32 ∷ (decimal call.timestamp ++ 32 ∷ exchange names call) in
    omega (arith, lines-length names (number + 1) calls, length-append (call_line names number call) (call_lines names (number + 1) calls), length-append (decimal number) (32 ∷ line))

pub listing-length : (names : List (List ℕ)) (calls : List Call) → length calls ≤ length (listing names calls)
unfolding listing
listing-length names calls =
    let last = codes "END " ++ (decimal (length calls) ++ 10 ∷ []) in
    omega (arith, lines-length names 1 calls, length-append (call_lines names 1 calls) last, length-append (codes "HISTORY") (10 ∷ (call_lines names 1 calls ++ last)))

-- what is read of a listing has that listing
pub read-again : (names : List (List ℕ)) (calls made : List Call) (bytes : List ℕ) → AreDifferent names → AreCalls names calls → length bytes < 2 ^ 64 → listing names calls ≡ bytes → made
    ≡ calls_of names (drop 1 (lines_of bytes)) → listing names made ≡ bytes
read-again names calls made bytes different are small text read =
    let few : length calls < 2 ^ 64 = omega (arith, listing-length names calls, ap length text, small) in
    ap (listing names) (read ∙ ap (λ t. calls_of names (drop 1 (lines_of t))) (sym text) ∙ listing-read names calls different are few) ∙ same-listing names calls ∙ text

-- listings that are the same show the same
pub same-shown : (names : List (List ℕ)) (calls others : List Call) → AreDifferent names → AreCalls names calls → AreCalls names others → length calls < 2 ^ 64 → length others < 2 ^ 64
    → listing names calls ≡ listing names others → map shown calls ≡ map shown others
same-shown names calls others different are those few many same =
    sym (listing-read names calls different are few) ∙ ap (λ t. calls_of names (drop 1 (lines_of t))) same ∙ listing-read names others different those many
