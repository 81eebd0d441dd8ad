-- The calls of the worked rows, and what they lead to.
use Rattle.std.specs.Prelude.{ℕ, ◌+◌, Bool, false, Some, None, List, [], ◌∷◌, codes}
use Rattle.commit_level.specs.declared.Level.{Level}
use Rattle.entry_codec.specs.declared.kinds.Images.TheVariants.{Both}
use Rattle.entry_codec.specs.declared.kinds.Images.{Images}
use Rattle.field_types.specs.declared.values.Value.TheVariants.{Chars}
use Rattle.library_model.specs.declared.requests.Request.{Request}
use Rattle.library_model.specs.declared.requests.Request.TheVariants as request
use Rattle.library_model.specs.declared.requests.OpenOption.TheVariants.{All}
use Rattle.library_model.specs.declared.requests.AccessPath.TheVariants.{File}
use Rattle.library_model.specs.declared.requests.LockOption.{LockOption}
use Rattle.library_model.specs.declared.requests.LockOption.TheVariants.{Default}
use Rattle.library_model.specs.declared.requests.ChainTo.TheVariants as chain_to
use Rattle.library_model.specs.declared.requests.Limit.TheVariants as limit
use Rattle.library_model.specs.declared.requests.RangeEnd.{RangeEnd}
use Rattle.library_model.specs.declared.requests.EndReason.TheVariants.{Normal}
use Rattle.library_model.specs.declared.replies.Reply.{Reply}
use Rattle.library_steps.specs.State.{State}
use Rattle.library_steps.specs.Step.{step}
use Rattle.library_rows.specs.Customers.{cust}

-- a call: the number of its job, and what it asks
pub record Asked : Type 0 where
  pub job : ℕ
  pub request : Request

abbrev pub by : ℕ → Request → Asked
by job request = record { job = job; request = request }

-- what calls lead to, the first at this time, and their replies
pub record Led : Type 0 where
  pub state : State
  pub replies : List Reply

abbrev pub answered : Reply → Led → Led
answered reply led = record led { replies = reply ∷ led.replies }

abbrev pub after_step : State × Reply → (State → Led) → Led
after_step (s, reply) rest = answered reply (rest s)

abbrev pub run : ℕ → List Asked → State → Led
run moment [] s = record { state = s; replies = [] }
run moment (call ∷ calls) s = after_step (step [] s call.job moment call.request) (λ t. run (moment + 1) calls t)

-- ---- the calls, on the file CUST and through opens of it

abbrev pub journal : Images → Request
journal images = request.StartJournaling (record { file = cust; member = cust; images = images })

abbrev pub open_as : List ℕ → (commit : Bool) → Request
open_as name commit = request.OpenFile (record { file = cust; option = All; member = cust; open_id = name; commit = commit; access_path = File })

abbrev pub opens : Request
opens = open_as cust false

abbrev pub close : List ℕ → Request
close name = request.CloseFile (record { open_id = name })

abbrev pub write : List ℕ → (customer : List ℕ) → Request
write name customer = request.Write (record { open_id = name; format = None; record_number = None; values = Some (Chars customer) ∷ [] })

abbrev pub write_at : List ℕ → ℕ → (customer : List ℕ) → Request
write_at name rrn customer = request.Write (record { open_id = name; format = None; record_number = Some rrn; values = Some (Chars customer) ∷ [] })

abbrev pub chain_with : LockOption → List ℕ → ℕ → Request
chain_with lock name rrn = request.Chain (record { open_id = name; to = chain_to.RecordNumber rrn; lock = lock })

abbrev pub chain : List ℕ → ℕ → Request
chain name rrn = chain_with Default name rrn

abbrev pub chain_key : List ℕ → (customer : List ℕ) → Request
chain_key name customer = request.Chain (record { open_id = name; to = chain_to.Key (Chars customer ∷ []); lock = Default })

abbrev pub read : LockOption → List ℕ → Request
read lock name = request.Read (record { open_id = name; lock = lock })

abbrev pub read_prior : List ℕ → Request
read_prior name = request.ReadPrior (record { open_id = name; lock = Default })

abbrev pub read_equal : List ℕ → (customer : List ℕ) → Request
read_equal name customer = request.ReadEqual (record { open_id = name; key = Chars customer ∷ []; lock = Default })

abbrev pub set_lower : List ℕ → (customer : List ℕ) → Request
set_lower name customer = request.SetLowerLimit (record { open_id = name; to = limit.Key (Chars customer ∷ []) })

abbrev pub set_greater : List ℕ → (customer : List ℕ) → Request
set_greater name customer = request.SetGreaterThan (record { open_id = name; to = limit.Key (Chars customer ∷ []) })

abbrev pub set_end : List ℕ → Request
set_end name = request.SetLowerLimit (record { open_id = name; to = limit.HighValue })

abbrev pub update : List ℕ → (customer : List ℕ) → Request
update name customer = request.Update (record { open_id = name; values = Some (Chars customer) ∷ [] })

abbrev pub delete : List ℕ → Request
delete name = request.Delete (record { open_id = name })

abbrev pub unlock : List ℕ → Request
unlock name = request.Unlock (record { open_id = name })

abbrev pub remove : RangeEnd → RangeEnd → Request
remove from to = request.RemoveChanges (record { file = cust; member = cust; from = from; to = to })

abbrev pub apply : RangeEnd → RangeEnd → Request
apply from to = request.ApplyChanges (record { file = cust; member = cust; from = from; to = to })

abbrev pub start_commitment : Level → Request
start_commitment level = request.StartCommitment (record { level = level })

abbrev pub end_job : Request
end_job = request.EndJob (record { reason = Normal; line = 0 })

-- J1 journals the file with both images, opens it, and writes A, B and C
abbrev pub three_customers : List Asked
three_customers =
    by 1 (journal Both) ∷ by 1 opens ∷ by 1 (write cust (codes "A")) ∷ by 1 (write cust (codes "B")) ∷ by 1 (write cust (codes "C")) ∷ []
