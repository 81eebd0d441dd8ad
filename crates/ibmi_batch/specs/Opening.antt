-- The status of a store that was not opened, and of one whose journal was not read. (Our own.)
use Rattle.journal_book.specs.declared.fault.BookFault.{BookFault}
use Rattle.journal_book.specs.declared.fault.BookFault.TheVariants as unread
use Rattle.journal_opening.specs.declared.fault.OpenFault.{OpenFault}
use Rattle.journal_opening.specs.declared.fault.OpenFault.TheVariants as fault
use Rattle.ibmi_batch.specs.declared.status.Status.{Status}
use Rattle.ibmi_batch.specs.declared.status.Status.TheVariants as status

abbrev pub status_of : OpenFault → Status
status_of fault.NotALibrary = status.NotALibrary
status_of (fault.Damaged area at) = status.Damaged area at
status_of fault.StoreFault = status.StoreFault
status_of fault.NoMemory = status.NoMemory

-- the last two come of sequences alone that are not there
abbrev pub status_unread : BookFault → Status
status_unread unread.NoMemory = status.NoMemory
status_unread unread.StoreFault = status.StoreFault
status_unread (unread.BlockChanged sequence area at) = status.Damaged area at
status_unread unread.NoSuchEntry = status.StoreFault
status_unread (unread.ReceiverGone sequence) = status.StoreFault
