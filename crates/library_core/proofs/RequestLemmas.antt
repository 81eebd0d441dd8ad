-- The request that switches receivers is CHGJRN.
use Rattle.std.proofs.Common.{◌≡◌, true, refl}
use Rattle.library_model.specs.declared.requests.Request.{Request}
use Rattle.library_model.specs.declared.requests.Request.TheVariants as requests
use Rattle.journal_fronts.specs.Deposits.{switches}

pub is-switch : (r : Request) → switches r ≡ true → r ≡ requests.ChangeJournal
is-switch (requests.CreatePhysicalFile args) h = absurd cc
is-switch (requests.CreateLogicalFile args) h = absurd cc
is-switch (requests.DeleteFile args) h = absurd cc
is-switch (requests.AddMember args) h = absurd cc
is-switch (requests.ClearMember args) h = absurd cc
is-switch (requests.ReorganizeMember args) h = absurd cc
is-switch (requests.StartJournaling args) h = absurd cc
is-switch (requests.EndJournaling args) h = absurd cc
is-switch requests.ChangeJournal h = refl
is-switch (requests.DeleteReceiver args) h = absurd cc
is-switch requests.Checkpoint h = absurd cc
is-switch (requests.DisplayJournal args) h = absurd cc
is-switch (requests.ApplyChanges args) h = absurd cc
is-switch (requests.RemoveChanges args) h = absurd cc
is-switch (requests.StartCommitment args) h = absurd cc
is-switch requests.EndCommitment h = absurd cc
is-switch requests.Commit h = absurd cc
is-switch requests.Rollback h = absurd cc
is-switch (requests.OpenFile args) h = absurd cc
is-switch (requests.CloseFile args) h = absurd cc
is-switch (requests.SetLowerLimit args) h = absurd cc
is-switch (requests.SetGreaterThan args) h = absurd cc
is-switch (requests.Read args) h = absurd cc
is-switch (requests.ReadPrior args) h = absurd cc
is-switch (requests.ReadEqual args) h = absurd cc
is-switch (requests.ReadPriorEqual args) h = absurd cc
is-switch (requests.Chain args) h = absurd cc
is-switch (requests.Write args) h = absurd cc
is-switch (requests.Update args) h = absurd cc
is-switch (requests.Delete args) h = absurd cc
is-switch (requests.Unlock args) h = absurd cc
is-switch (requests.EndJob args) h = absurd cc
