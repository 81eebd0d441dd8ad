-- How the plans of STRJRNPF and ENDJRNPF go on from the member that both look for.
use Rattle.std.proofs.Common.{◌≡◌, ◌∙◌, Bool, true, false, Option, Some, None, Result, Ok, Err, IsSome, refl, ap}
use Rattle.std.specs.Option.{is_some, is_none}
use Rattle.library_model.specs.declared.replies.Reply.{Reply}
use Rattle.library_model.specs.declared.replies.Reply.TheVariants.{AlreadyStarted, NotJournaled}
use Rattle.library_model.specs.declared.requests.FileMember.{FileMember}
use Rattle.library_model.specs.declared.requests.StartJournaling.{StartJournaling}
use Rattle.library_steps.specs.State.{Memory, State, FileState, MemberStatus, memory_of}
use Rattle.library_steps.specs.Refusals.{◌>>=◌, FoundMember, refuse_if, sequences_left, member_of_file}
use Rattle.library_steps.specs.Uses.{user_of, unused}
use Rattle.library_steps.specs.MemberCommands.{empty_plan, member_added}
use Rattle.library_steps.specs.Journaling.{start_plan, end_plan}
use Rattle.library_parts.specs.Answers.{Gives}
use Rattle.library_parts.below.parts_model.specs.declared.stop.Stop.{Stop}
use Rattle.library_parts.below.parts_model.specs.declared.stop.Stop.TheVariants.{NoMemory, Refused}

-- three refusals and a test more, or the test behind the three
then : (left : Result Bool Reply) (found : Result FoundMember Reply) (user : MemberStatus → Result Bool Reply) (test : MemberStatus → Result Bool Reply)
    → (left >>= λ _. found >>= λ it. user it.status >>= λ _. test it.status >>= λ _. Ok it.status)
    ≡ ((left >>= λ _. found >>= λ it. user it.status >>= λ _. Ok it.status) >>= λ status. test status >>= λ _. Ok status)
then (Err reply) found user test = refl
then (Ok b) (Err reply) user test = refl
then (Ok b) (Ok it) user test = by (user it.status)
  where
    by : (unused : Result Bool Reply) → (unused >>= λ _. test it.status >>= λ _. Ok it.status) ≡ ((unused >>= λ _. Ok it.status) >>= λ status. test status >>= λ _. Ok status)
    by (Err reply) = refl
    by (Ok b) = refl

pub start_plan-then : (m : Memory) (args : StartJournaling)
    → start_plan m args ≡ (empty_plan m (record { file = args.file; member = args.member }) >>= λ status. refuse_if (is_some status.images) AlreadyStarted >>= λ _. Ok status)
unfolding start_plan empty_plan
start_plan-then m args = then (sequences_left m) (member_of_file args.file args.member m) (λ status. unused (user_of status.number m)) (λ status. refuse_if (is_some status.images) AlreadyStarted)

pub end_plan-then : (m : Memory) (args : FileMember)
    → end_plan m args ≡ (empty_plan m args >>= λ status. refuse_if (is_none status.images) (NotJournaled status.number) >>= λ _. Ok status)
unfolding end_plan empty_plan
end_plan-then m args = then (sequences_left m) (member_of_file args.file args.member m) (λ status. unused (user_of status.number m)) (λ status. refuse_if (is_none status.images)
    (NotJournaled status.number))

-- what stops the first part of a plan stops the plan
Gives-on : {A B : Type 0} (first : Result A Reply) (next : A → Result B Reply) (stop : Stop) → Gives {A = A} (Err stop) first → Gives {A = B} (Err stop) (first >>= next)
Gives-on first next NoMemory gives = tt
Gives-on first next (Refused reply) gives = ap (λ found. found >>= next) gives

pub start_plan-stopped : (m : Memory) (args : StartJournaling) (stop : Stop) → Gives (Err stop) (empty_plan m (record { file = args.file; member = args.member })) → Gives (Err stop) (start_plan m args)
start_plan-stopped m args stop gives = rw (start_plan-then m args) (Gives-on _ (λ status. refuse_if (is_some status.images) AlreadyStarted >>= λ _. Ok status) stop gives)

pub start_plan-found : (m : Memory) (args : StartJournaling) (status : MemberStatus) → empty_plan m (record { file = args.file; member = args.member }) ≡ Ok status
    → start_plan m args ≡ (refuse_if (is_some status.images) AlreadyStarted >>= λ _. Ok status)
start_plan-found m args status found = start_plan-then m args ∙ ap (λ first. first >>= λ status. refuse_if (is_some status.images) AlreadyStarted >>= λ _. Ok status) found

pub end_plan-stopped : (m : Memory) (args : FileMember) (stop : Stop) → Gives (Err stop) (empty_plan m args) → Gives (Err stop) (end_plan m args)
end_plan-stopped m args stop gives = rw (end_plan-then m args) (Gives-on _ (λ status. refuse_if (is_none status.images) (NotJournaled status.number) >>= λ _. Ok status) stop gives)

pub end_plan-found : (m : Memory) (args : FileMember) (status : MemberStatus) → empty_plan m args ≡ Ok status
    → end_plan m args ≡ (refuse_if (is_none status.images) (NotJournaled status.number) >>= λ _. Ok status)
end_plan-found m args status found = end_plan-then m args ∙ ap (λ first. first >>= λ status. refuse_if (is_none status.images) (NotJournaled status.number) >>= λ _. Ok status) found

-- a test that refuses, and one that doesn't
pub refused-then : {A : Type 0} (test : Bool) (reply : Reply) (value : A) → test ≡ true → (refuse_if test reply >>= λ _. Ok value) ≡ Err reply
refused-then test reply value holds = ap (λ b. refuse_if b reply >>= λ _. Ok value) holds

pub allowed-then : {A : Type 0} (test : Bool) (reply : Reply) (value : A) → test ≡ false → (refuse_if test reply >>= λ _. Ok value) ≡ Ok value
allowed-then test reply value fails = ap (λ b. refuse_if b reply >>= λ _. Ok value) fails

-- a member that was added to a file that is there leaves the journal as it was
pub gone-added : (file : Option FileState) (args : FileMember) (old new : State) → IsSome file → ((f : FileState) → file ≡ Some f → memory_of new ≡ member_added args f (memory_of old)) → new.gone ≡ old.gone
gone-added None args old new there added = absurd cc
gone-added (Some f) args old new there added = ap (λ (m : Memory). m.gone) (added f refl)
