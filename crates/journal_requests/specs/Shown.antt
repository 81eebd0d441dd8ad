-- What is shown of the entries that were read.
use Rattle.std.specs.Prelude.{◌≡◌, Result, Ok, Err}
use Rattle.std.specs.Borrow.{Bor}
use Rattle.library_model.specs.declared.replies.Reply.{Reply}
use Rattle.library_parts.below.parts_model.specs.declared.stop.Stop.{Stop}
use Rattle.library_parts.below.parts_model.specs.declared.stop.Stop.TheVariants.{NoMemory, Refused}

-- what is wanted is shown in its place, or the first refusal that holds is answered, or want of memory
abbrev pub MayShow : {A : Type 0} → Result (Bor A) Stop → Result A Reply → Type 0
MayShow (Ok shown) wanted = wanted ≡ Ok shown.now
MayShow (Err NoMemory) wanted = Unit {0}
MayShow (Err (Refused reply)) wanted = wanted ≡ Err reply
