use Rattle.library_paths.proofs.CountLemmas.{count-append}
use Rattle.library_paths.proofs.KeptLemmas.{attached, attached-last, attached-shared, counted-alike, detached-kept, detached-shared}
use Rattle.library_paths.proofs.KeptLemmas.{kept-contained, kept-elsewhere, kept-once, kept-with, none-kept, shared-with}
use Rattle.library_paths.proofs.laws.paths_are_kept_for_files.Goals as goal

pub returns-clause-none : goal.returns-clause-none
returns-clause-none c = none-kept

pub returns-clause-attached : goal.returns-clause-attached
returns-clause-attached c = attached

pub returns-clause-attached_last : goal.returns-clause-attached_last
returns-clause-attached_last c = attached-last

pub returns-clause-attached_shared : goal.returns-clause-attached_shared
returns-clause-attached_shared c = attached-shared

pub returns-clause-detached : goal.returns-clause-detached
returns-clause-detached c = detached-kept

pub returns-clause-detached_shared : goal.returns-clause-detached_shared
returns-clause-detached_shared c = detached-shared

pub returns-clause-same : goal.returns-clause-same
returns-clause-same c = counted-alike

pub returns-clause-together : goal.returns-clause-together
returns-clause-together c = count-append

pub returns-clause-owned : goal.returns-clause-owned
returns-clause-owned c = kept-contained

pub returns-clause-found : goal.returns-clause-found
returns-clause-found c = kept-once

pub returns-clause-members : goal.returns-clause-members
returns-clause-members c = kept-with

pub returns-clause-elsewhere : goal.returns-clause-elsewhere
returns-clause-elsewhere c = kept-elsewhere

pub returns-clause-members_shared : goal.returns-clause-members_shared
returns-clause-members_shared c = shared-with
