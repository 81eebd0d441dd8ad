-- What is shown of a call has the same text.
use Rattle.std.proofs.Common.{◌≡◌, ℕ, suc, ◌+◌, List, [], ◌∷◌, ◌++◌, length, take, drop, map, codes, refl, ap, ◌∙◌, sym}
use Rattle.std.specs.Fmt.{decimal}
use Rattle.std.proofs.lemmas.List.{length-replicate}
use Rattle.entry_codec.specs.Placing.{letters}
use Rattle.entry_codec.specs.declared.entries.Entry.{Entry}
use Rattle.entry_codec.specs.declared.kinds.EntryKind.{EntryKind}
use Rattle.entry_codec.specs.declared.kinds.EntryKind.TheVariants as kind
use Rattle.library_model.specs.declared.calls.Call.{Call}
use Rattle.library_model.specs.declared.replies.Reply.{Reply}
use Rattle.library_model.specs.declared.replies.Reply.TheVariants as reply
use Rattle.listing.specs.EntryText.{file_kind_text, body_text, place_text, origin_text, stroked_entry, entries_text}
use Rattle.listing.specs.HistoryListing.{exchange, call_line, call_lines, listing}
use Rattle.listing.specs.ReplyText.{answer, details, reply_text, job_name}
use Rattle.listing.specs.RequestText.{request_text}
use Rattle.listing.specs.Texts.{parameter}
use Rattle.listing_reader.specs.Listed.{shown_kind, shown_entry, shown_reply, shown}

same-letters : (k : EntryKind) → letters (shown_kind k) ≡ letters k
same-letters (kind.FileCreated fk name source) = refl
same-letters (kind.FileDeleted name) = refl
same-letters (kind.MemberAdded file name) = refl
same-letters (kind.JournalingStarted images slots) = refl
same-letters (kind.InitialSlot image) = refl
same-letters kind.JournalingEnded = refl
same-letters kind.MemberCleared = refl
same-letters kind.MemberReorganized = refl
same-letters (kind.ChangesApplied first last changes) = refl
same-letters (kind.ChangesRemoved first last changes) = refl
same-letters (kind.RecordAdded image) = refl
same-letters (kind.RecordAddedAtNumber image) = refl
same-letters (kind.BeforeImage image) = refl
same-letters (kind.AfterImage has image) = refl
same-letters (kind.RecordDeleted before) = refl
same-letters (kind.UndoBeforeImage image) = refl
same-letters (kind.UndoAfterImage has image) = refl
same-letters (kind.UndoDelete image) = refl
same-letters (kind.CommitmentStarted lvl) = refl
same-letters kind.CommitCycleStarted = refl
same-letters kind.CommitCycleCommitted = refl
same-letters kind.CommitCycleRolledBack = refl
same-letters kind.CommitmentEnded = refl
same-letters kind.AbnormalEnd = refl
same-letters (kind.NextReceiver number) = refl
same-letters (kind.PreviousReceiver number) = refl

same-body : (k : EntryKind) → body_text (shown_kind k) ≡ body_text k
same-body (kind.FileCreated fk name source) = ap
    (λ n. parameter (codes "KIND") (file_kind_text fk) ++ parameter (codes "NAME") name ++ parameter (codes "LEN") (decimal n)) (length-replicate {A = ℕ} (length source) 32)
same-body (kind.FileDeleted name) = refl
same-body (kind.MemberAdded file name) = refl
same-body (kind.JournalingStarted images slots) = refl
same-body (kind.InitialSlot image) = refl
same-body kind.JournalingEnded = refl
same-body kind.MemberCleared = refl
same-body kind.MemberReorganized = refl
same-body (kind.ChangesApplied first last changes) = refl
same-body (kind.ChangesRemoved first last changes) = refl
same-body (kind.RecordAdded image) = refl
same-body (kind.RecordAddedAtNumber image) = refl
same-body (kind.BeforeImage image) = refl
same-body (kind.AfterImage has image) = refl
same-body (kind.RecordDeleted before) = refl
same-body (kind.UndoBeforeImage image) = refl
same-body (kind.UndoAfterImage has image) = refl
same-body (kind.UndoDelete image) = refl
same-body (kind.CommitmentStarted lvl) = refl
same-body kind.CommitCycleStarted = refl
same-body kind.CommitCycleCommitted = refl
same-body kind.CommitCycleRolledBack = refl
same-body kind.CommitmentEnded = refl
same-body kind.AbnormalEnd = refl
same-body (kind.NextReceiver number) = refl
same-body (kind.PreviousReceiver number) = refl

same-place : (e : Entry) → place_text (shown_entry e) ≡ place_text e
unfolding place_text
same-place e = ap (λ l. codes "ENT " ++ decimal e.sequence ++ 32 ∷ (take 1 l ++ 32 ∷ drop 1 l)) (same-letters e.kind)

same-origin : (e : Entry) → origin_text (shown_entry e) ≡ origin_text e
unfolding origin_text
same-origin e = refl

same-entry : (e : Entry) → stroked_entry (shown_entry e) ≡ stroked_entry e
same-entry e =
    ap (λ t. codes " / " ++ (t ++ origin_text (shown_entry e) ++ body_text (shown_kind e.kind))) (same-place e)
    ∙ ap (λ t. codes " / " ++ (place_text e ++ t ++ body_text (shown_kind e.kind))) (same-origin e)
    ∙ ap (λ t. codes " / " ++ (place_text e ++ origin_text e ++ t)) (same-body e.kind)

same-entries : (entries : List Entry) → entries_text (map shown_entry entries) ≡ entries_text entries
unfolding entries_text
same-entries [] = refl
same-entries (e ∷ entries) = ap (λ t. t ++ entries_text (map shown_entry entries)) (same-entry e) ∙ ap (λ t. stroked_entry e ++ t) (same-entries entries)

no-entries : entries_text [] ≡ []
unfolding entries_text
no-entries = refl

same-details : (names : List (List ℕ)) (r : Reply) → answer (shown_reply r) ++ details names (shown_reply r) ≡ answer r ++ details names r
same-details names (reply.Entries []) = ap (λ t. codes "OK" ++ t) (sym no-entries)
same-details names (reply.Entries (e ∷ entries)) = ap (λ t. codes "OK" ++ t) (same-entries (e ∷ entries))
same-details names reply.Done = refl
same-details names (reply.Record read) = refl
same-details names (reply.Added rrn) = refl
same-details names (reply.Range first last changes) = refl
same-details names (reply.Receiver number) = refl
same-details names (reply.Sequence number) = refl
same-details names (reply.RecordInUse job member rrn) = refl
same-details names (reply.HeldByGroup rrn) = refl
same-details names (reply.PlaceInUse rrn) = refl
same-details names reply.HeldToBoundary = refl
same-details names reply.NotFound = refl
same-details names reply.EndOfFile = refl
same-details names reply.BeginOfFile = refl
same-details names reply.NoCurrentRecord = refl
same-details names reply.WrongOpen = refl
same-details names reply.NoDefinition = refl
same-details names reply.AlreadyStarted = refl
same-details names reply.NoSuchEntry = refl
same-details names reply.MemberFull = refl
same-details names reply.StoreFault = refl
same-details names reply.NoMemory = refl
same-details names (reply.DuplicateKey file rrn) = refl
same-details names (reply.NoSuchName what) = refl
same-details names (reply.NameExists name) = refl
same-details names (reply.Dependents name) = refl
same-details names (reply.BadValue fault) = refl
same-details names (reply.DdsFault fault) = refl
same-details names (reply.InUse job) = refl
same-details names (reply.NotJournaled member) = refl
same-details names (reply.PendingChanges group) = refl
same-details names (reply.Straddled group) = refl
same-details names (reply.DoesNotFit sequence rrn) = refl
same-details names (reply.NeedsBoth sequence) = refl
same-details names (reply.Gap sequence) = refl
same-details names (reply.NotRemovable sequence) = refl
same-details names (reply.ReceiverGone sequence) = refl
same-details names (reply.BlockChanged sequence) = refl
same-details names (reply.StillNeeded sequence) = refl
same-details names (reply.LimitReached which number) = refl

pub same-line : (names : List (List ℕ)) (number : ℕ) (call : Call) → call_line names number (shown call) ≡ call_line names number call
unfolding call_line exchange reply_text
same-line names number call =
    ap (λ t. decimal number ++ 32 ∷ (job_name names call.job ++ 32 ∷ (decimal call.timestamp ++ 32 ∷ (request_text call.request ++ (codes " => " ++ (t ++ 10
    ∷ [])))))) (same-details names call.reply)

same-lines : (names : List (List ℕ)) (number : ℕ) (calls : List Call) → call_lines names number (map shown calls) ≡ call_lines names number calls
same-lines names number [] = refl
same-lines names number (call ∷ calls) =
    ap (λ t. t ++ call_lines names (number + 1) (map shown calls)) (same-line names number call) ∙ ap (λ t. call_line names number call ++ t) (same-lines names (number + 1) calls)

same-length : (calls : List Call) → length (map shown calls) ≡ length calls
same-length [] = refl
same-length (call ∷ calls) = ap (λ n. suc n) (same-length calls)

pub same-listing : (names : List (List ℕ)) (calls : List Call) → listing names (map shown calls) ≡ listing names calls
unfolding listing
same-listing names calls =
    ap (λ t. codes "HISTORY" ++ 10 ∷ (t ++ (codes "END " ++ (decimal (length (map shown calls)) ++ 10 ∷ [])))) (same-lines names 1 calls)
    ∙ ap (λ n. codes "HISTORY" ++ 10 ∷ (call_lines names 1 calls ++ (codes "END " ++ (decimal n ++ 10 ∷ [])))) (same-length calls)
