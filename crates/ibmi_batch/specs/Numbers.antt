-- The number with which the program ends at each status. (Our own.)
use Rattle.std.specs.Prelude.{ℕ}
use Rattle.ibmi_batch.specs.declared.status.Status.{Status}
use Rattle.ibmi_batch.specs.declared.status.Status.TheVariants.{Done, Words, ReadFault, TooLong, Script, NotALibrary, Damaged, StoreFault, WriteFault, NoMemory, JobsEnded, Exists}

abbrev pub number_of : Status → ℕ
number_of Done = 0
number_of Words = 1
number_of ReadFault = 2
number_of TooLong = 3
number_of (Script line) = 4
number_of NotALibrary = 5
number_of (Damaged area at) = 6
number_of StoreFault = 7
number_of WriteFault = 8
number_of NoMemory = 9
number_of JobsEnded = 10
number_of Exists = 11
