-- The numbers of refusals are those by which the code tells them apart.
use Rattle.std.proofs.Common.{◌≡◌, refl}
use denote.Enum.Bare.{sameb}
use denote.Enum.Declared.{tag_of}
use Rattle.job_language.specs.contracts.refusals.Refusal.{the_type}
use Rattle.job_language.specs.declared.refusals.Refusal.{Refusal}
use Rattle.job_language.specs.declared.refusals.Refusal.TheVariants.{RecordInUse, HeldByGroup, PlaceInUse, HeldToBoundary, NotFound, EndOfFile, BeginOfFile, NoCurrentRecord, WrongOpen, NoDefinition, AlreadyStarted, NoSuchEntry, MemberFull, StoreFault, NoMemory, DuplicateKey, NoSuchName, NameExists, Dependents, BadValue, DdsFault, InUse, NotJournaled, PendingChanges, Straddled, DoesNotFit, NeedsBoth, Gap, NotRemovable, ReceiverGone, BlockChanged, StillNeeded, LimitReached}
use Rattle.job_language.specs.Refusals.{name_number, is_same}

tag : (name : Refusal) → tag_of the_type name ≡ name_number name
tag RecordInUse = refl
tag HeldByGroup = refl
tag PlaceInUse = refl
tag HeldToBoundary = refl
tag NotFound = refl
tag EndOfFile = refl
tag BeginOfFile = refl
tag NoCurrentRecord = refl
tag WrongOpen = refl
tag NoDefinition = refl
tag AlreadyStarted = refl
tag NoSuchEntry = refl
tag MemberFull = refl
tag StoreFault = refl
tag NoMemory = refl
tag DuplicateKey = refl
tag NoSuchName = refl
tag NameExists = refl
tag Dependents = refl
tag BadValue = refl
tag DdsFault = refl
tag InUse = refl
tag NotJournaled = refl
tag PendingChanges = refl
tag Straddled = refl
tag DoesNotFit = refl
tag NeedsBoth = refl
tag Gap = refl
tag NotRemovable = refl
tag ReceiverGone = refl
tag BlockChanged = refl
tag StillNeeded = refl
tag LimitReached = refl

pub same : (left right : Refusal) → sameb the_type left right ≡ is_same left right
same left right = rw (tag left, tag right) refl
