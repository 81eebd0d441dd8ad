-- Which fault of a range does a refusal tell?
-- (Journal Management, "Applying journaled changes" and "Removing journaled changes".)
use Rattle.std.specs.Prelude.{◌≡◌, ⊤, Result, Ok, Err}
use Rattle.journal_model.specs.Walks as walks
use Rattle.range_images.specs.declared.fault.RangeFault.{RangeFault}
use Rattle.range_images.specs.declared.fault.RangeFault.TheVariants.{Gap, NotRemovable, NeedsBoth, DoesNotFit}
use Rattle.range_images.specs.declared.fault.ImagesFault.{ImagesFault}
use Rattle.range_images.specs.declared.fault.ImagesFault.TheVariants.{NoMemory, Refused}

abbrev pub range_fault : RangeFault → walks.RangeFault
range_fault (Gap sequence) = walks.Gap sequence
range_fault (NotRemovable sequence) = walks.NotRemovable sequence
range_fault (NeedsBoth sequence) = walks.NeedsBoth sequence
range_fault (DoesNotFit sequence rrn) = walks.DoesNotFit sequence rrn

-- a refusal tells the fault that the answer is
abbrev pub TellsFault : {A B : Type 0} → Result A ImagesFault → Result B walks.RangeFault → Type 0
TellsFault (Ok made) answer = ⊤
TellsFault (Err NoMemory) answer = ⊤
TellsFault (Err (Refused fault)) answer = answer ≡ Err (range_fault fault)
