-- How a function of the library answers for a plan and for a change: with the wanted one, its refusal, or want of memory.
use Rattle.std.specs.Prelude.{◌≡◌, Bool, true, Result, Ok, Err, ◌++◌}
use Rattle.std.specs.Borrow.{Bor}
use Rattle.library_model.specs.declared.replies.Reply.{Reply}
use Rattle.library_model.specs.declared.replies.Reply.TheVariants.{NoMemory as NoMemoryReply}
use Rattle.library_steps.specs.State.{State, with_entries}
use Rattle.library_steps.specs.Change.{Change}
use Rattle.parts_model.specs.declared.stop.Stop.{Stop}
use Rattle.parts_model.specs.declared.stop.Stop.TheVariants.{NoMemory, Refused}

-- the plan, or the first refusal that holds
abbrev pub Gives : {A : Type 0} → Result A Stop → Result A Reply → Type 0
Gives (Ok plan) wanted = wanted ≡ Ok plan
Gives (Err NoMemory) wanted = Unit {0}
Gives (Err (Refused reply)) wanted = wanted ≡ Err reply

-- the same of what is shown in its place
abbrev pub Shows : {A : Type 0} → Result (Bor A) Stop → Result A Reply → Type 0
Shows (Ok shown) wanted = wanted ≡ Ok shown.now
Shows (Err NoMemory) wanted = ⊥
Shows (Err (Refused reply)) wanted = wanted ≡ Err reply

-- a test that lets a request go on, or refuses it
abbrev pub Allows : Result (Unit {0}) Stop → Result Bool Reply → Type 0
Allows (Ok nothing) wanted = wanted ≡ Ok true
Allows (Err NoMemory) wanted = ⊥
Allows (Err (Refused reply)) wanted = wanted ≡ Err reply

-- the same where the test may want memory
abbrev pub MayAllow : Result (Unit {0}) Stop → Result Bool Reply → Type 0
MayAllow (Ok nothing) wanted = wanted ≡ Ok true
MayAllow (Err NoMemory) wanted = Unit {0}
MayAllow (Err (Refused reply)) wanted = wanted ≡ Err reply

-- the same of one that gives something
abbrev pub MayAllowAny : {A : Type 0} → Result A Stop → Result Bool Reply → Type 0
MayAllowAny (Ok given) wanted = wanted ≡ Ok true
MayAllowAny (Err NoMemory) wanted = Unit {0}
MayAllowAny (Err (Refused reply)) wanted = wanted ≡ Err reply

-- the state and the reply of the change; where nothing was done, the state is as it was
abbrev pub Answers : State → State → Result Reply Stop → Result Change Reply → Type 0
Answers old new (Ok reply) wanted =
    (c : Change) × (wanted ≡ Ok c) × (c.reply ≡ reply) × (new ≡ with_entries old.gone (old.entries ++ c.entries) c.memory)
Answers old new (Err NoMemory) wanted = new ≡ old
Answers old new (Err (Refused reply)) wanted = (new ≡ old) × (wanted ≡ Err reply)

-- what is answered to the job
abbrev pub reply_of : Result Reply Stop → Reply
reply_of (Ok reply) = reply
reply_of (Err NoMemory) = NoMemoryReply
reply_of (Err (Refused reply)) = reply
