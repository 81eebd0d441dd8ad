-- What the definitions make of a request through an open, once the open is found.
use Rattle.std.proofs.Common.{◌≡◌, ℕ, Bool, true, false, IsTrue, if◌then◌else◌, Option, Result, Ok, Err, is_ok, List, refl, sym, ◌∙◌, ap}
use Rattle.field_types.specs.declared.values.Value.{Value}
use Rattle.key_values.specs.KeyValues.{values_in}
use Rattle.file_model.specs.KeyOrder.{KeyValue}
use Rattle.file_model.specs.Paths.{PathEntry}
use Rattle.file_model.specs.Positions.{Position, Before, chain_key, chain_number}
use Rattle.open_position.specs.OpenStand.{AreGivenBytes, HasNoKey}
use Rattle.open_position.specs.Reads.{side_of}
use Rattle.open_position.specs.declared.position.Side.{Side}
use Rattle.library_model.specs.declared.requests.SetPosition.{SetPosition}
use Rattle.library_model.specs.declared.requests.ReadRecord.{ReadRecord}
use Rattle.library_model.specs.declared.requests.ReadEqual.{ReadEqual}
use Rattle.library_model.specs.declared.requests.ChainTo.TheVariants.{Key, RecordNumber}
use Rattle.library_model.specs.declared.requests.ChainRecord.{ChainRecord}
use Rattle.library_model.specs.declared.requests.Limit.TheVariants as limits
use Rattle.library_model.specs.declared.requests.LockOption.{LockOption}
use Rattle.library_model.specs.declared.replies.Reply.{Reply}
use Rattle.library_model.specs.declared.replies.Reply.TheVariants.{NotFound, Done, WrongOpen}
use Rattle.lock_table.specs.declared.levels.Call.TheVariants.{Position as PositionCall}
use Rattle.library_steps.specs.State.{Memory, FileState, OpenState}
use Rattle.library_steps.specs.Change.{Change, unjournaled, does}
use Rattle.library_steps.specs.LogicalFiles.{bases_of}
use Rattle.library_steps.specs.Refusals.{◌>>=◌, found, OpenedFile, opened_file}
use Rattle.logical_model.specs.Formats.{parts_in}
use Rattle.library_steps.specs.Records.{is_keyed, key_fault, key_or_fault, key_asked, number_asked}
use Rattle.library_steps.specs.Locking.{locks_left, with_locks}
use Rattle.library_steps.specs.Reads.{Found, find_in, with_opened, positioned, bound_asked, position_plan, position_change}
use Rattle.library_steps.specs.Reads.{if_lockable, read_plan, read_change, read_equal_plan, chained, chain_plan, chain}
use Rattle.library_parts.below.parts_model.specs.declared.stop.Stop.{Stop}
use Rattle.library_parts.below.parts_model.specs.declared.stop.Stop.TheVariants.{NoMemory, Refused}
use Rattle.library_parts.specs.Reads.{GivesKey, Stands, formats_read, parts_read}
use Rattle.record_reads.specs.declared.asked.AskedBy.{AskedBy}
use Rattle.record_reads.specs.declared.asked.AskedBy.TheVariants.{FirstEqual, Number}
use Rattle.record_reads.specs.declared.asked.Direction.{Direction}
use Rattle.record_reads.specs.declared.asked.Direction.TheVariants as directions
use Rattle.record_reads.specs.Asked.{found_through, CanBeAsked, any_in, equal_in, any_from, equal_from, end_in}
use Rattle.record_reads.specs.Plans.{AsksChain, AsksOf, PlansPosition, Plans, position_set, read_from, read_equal_from, read_found}
use Rattle.record_reads.proofs.SimpleLemmas.{number-refused, numbered-none}
use Rattle.logical_model.specs.Readings.{join_in, has_numbers}

pub ok-value : {A B : Type 0} (r : Result A B) → is_ok r ≡ true → (a : A) × (r ≡ Ok a)
ok-value (Ok a) is = (a, refl)
ok-value (Err b) is = absurd cc

-- any read can be asked in a direction, and one of a key where the key was given
pub any-asked : (direction : Direction) (file : FileState) (opened : OpenState) (m : Memory) → CanBeAsked (any_in direction) file opened m
any-asked directions.Next file opened m = record { formats = tt; looked = tt; numbered = tt }
any-asked directions.Prior file opened m = record { formats = tt; looked = tt; numbered = tt }

pub equal-asked : (direction : Direction) (key : List ℕ) (file : FileState) (opened : OpenState) (m : Memory) → AreGivenBytes (parts_read (bases_of m) file opened) key
    → CanBeAsked (equal_in direction key) file opened m
equal-asked directions.Next key file opened m given = record { formats = given; looked = tt; numbered = tt }
equal-asked directions.Prior key file opened m given = record { formats = given; looked = tt; numbered = tt }

-- a key is given where the open reads by one
keyed-by : (keyed : Bool) (asked : Result (List KeyValue) Reply) (given : List KeyValue) → (if keyed then asked else Err WrongOpen) ≡ Ok given → IsTrue keyed
keyed-by true asked given is = refl
keyed-by false asked given is = absurd cc

module _ (m : Memory) (job : ℕ) (its : OpenedFile) where
  -- ---- positions

  pub position-made : (side : Side) (args : SetPosition) (position : Position PathEntry) → opened_file args.open_id job m ≡ Ok its → bound_asked its (side_of side) args.to ≡ Ok position
      → position_set side m job args
      ≡ Ok (unjournaled Done (with_opened job its.opened (positioned (join_in its.file.spec) position) (with_locks (locks_left PositionCall job its.opened 0 m) m)))
  unfolding position_plan
  position-made side args position there at =
      ap (λ (r : Result OpenedFile Reply). does (position_change m job) (r >>= λ o. (bound_asked o (side_of side) args.to >>= λ p. Ok (record { its = o; position = p })))) there
      ∙ ap (λ (r : Result (Position PathEntry) Reply). does (position_change m job) (r >>= λ p. Ok (record { its = its; position = p }))) at

  position-refused : (side : Side) (args : SetPosition) (reply : Reply) → opened_file args.open_id job m ≡ Ok its → bound_asked its (side_of side) args.to ≡ Err reply
      → position_set side m job args ≡ Err reply
  unfolding position_plan
  position-refused side args reply there refused =
      ap (λ (r : Result OpenedFile Reply). does (position_change m job) (r >>= λ o. (bound_asked o (side_of side) args.to >>= λ p. Ok (record { its = o; position = p })))) there
      ∙ ap (λ (r : Result (Position PathEntry) Reply). does (position_change m job) (r >>= λ p. Ok (record { its = its; position = p }))) refused

  -- where it can't stand, the request is refused for that
  pub stand-refused : (args : SetPosition) (stop : Stop) → opened_file args.open_id job m ≡ Ok its → Stands its args.to (Err stop) → PlansPosition m job args (Err stop)
  stand-refused args NoMemory there stands = stands
  stand-refused args (Refused reply) there stands = λ side. position-refused side args reply there (stands (side_of side))

  -- ---- reads

  -- the read of what was found, or the reply where that is nothing
  abbrev pub read_of : LockOption → Reply → Option Found → Result Change Reply
  read_of lock nothing item = does (read_change m job) (found item nothing >>= λ it. if_lockable job m its lock it)

  pub read-through : (direction : Direction) (args : ReadRecord) → opened_file args.open_id job m ≡ Ok its
      → read_from direction m job args ≡ read_found m job its args.lock (any_in direction)
  unfolding read_plan
  read-through direction args there =
      ap (λ (r : Result OpenedFile Reply). does (read_change m job) (r >>= λ o. (found (find_in o m (λ reading. any_from direction reading o.opened.position)
      (λ reading. any_from direction reading o.opened.rows)) (end_in direction) >>= λ it. if_lockable job m o args.lock it))) there
      ∙ by direction
    where
      by : (d : Direction) → read_of args.lock (end_in d) (find_in its m (λ reading. any_from d reading its.opened.position) (λ reading. any_from d reading its.opened.rows))
          ≡ read_found m job its args.lock (any_in d)
      by directions.Next = refl
      by directions.Prior = refl

  -- a key that is asked for
  abbrev equal_after : Direction → ReadEqual → Result (List KeyValue) Reply → Result Change Reply
  equal_after direction args asked =
      does (read_change m job) (asked >>= λ key. (found (find_in its m (λ reading. equal_from direction reading key its.opened.position)
      (λ reading. equal_from direction reading key its.opened.rows)) (end_in direction) >>= λ it. if_lockable job m its args.lock it))

  equal-of : (direction : Direction) (args : ReadEqual) (asked : Result (List KeyValue) Reply) → opened_file args.open_id job m ≡ Ok its → key_asked its.file its.opened args.key ≡ asked
      → read_equal_from direction m job args ≡ equal_after direction args asked
  unfolding read_equal_plan
  equal-of direction args asked there is =
      ap (λ (r : Result OpenedFile Reply). does (read_change m job) (r >>= λ o. (key_asked o.file o.opened args.key >>= λ key.
      (found (find_in o m (λ reading. equal_from direction reading key o.opened.position)
      (λ reading. equal_from direction reading key o.opened.rows)) (end_in direction) >>= λ it. if_lockable job m o args.lock it)))) there
      ∙ ap (equal_after direction args) is

  equal-found : (direction : Direction) (args : ReadEqual) (given : List KeyValue) (key : List ℕ) → values_in (parts_read (bases_of m) its.file its.opened) key ≡ given
      → equal_after direction args (Ok given) ≡ read_found m job its args.lock (equal_in direction key)
  equal-found direction args given key is =
      ap (λ (values : List KeyValue). read_of args.lock (end_in direction)
      (find_in its m (λ reading. equal_from direction reading values its.opened.position) (λ reading. equal_from direction reading values its.opened.rows))) (sym is)
      ∙ by direction
    where
      by : (d : Direction)
          → read_of args.lock (end_in d) (find_in its m (λ reading. equal_from d reading (values_in (parts_read (bases_of m) its.file its.opened) key) its.opened.position)
          (λ reading. equal_from d reading (values_in (parts_read (bases_of m) its.file its.opened) key) its.opened.rows))
          ≡ read_found m job its args.lock (equal_in d key)
      by directions.Next = refl
      by directions.Prior = refl

  pub equal-through : (direction : Direction) (args : ReadEqual) (key : List ℕ) → opened_file args.open_id job m ≡ Ok its
      → GivesKey (bases_of m) its.file its.opened args.key (Ok key) → read_equal_from direction m job args ≡ read_found m job its args.lock (equal_in direction key)
  equal-through direction args key there gives =
      equal-of direction args (Ok gives.0) there gives.1 ∙ equal-found direction args gives.0 key gives.2.values

  pub equal-refused : (direction : Direction) (args : ReadEqual) (stop : Stop) → opened_file args.open_id job m ≡ Ok its → GivesKey (bases_of m) its.file its.opened args.key (Err stop)
      → Plans m job args.open_id (read_equal_from direction m job args) (Err stop)
  equal-refused direction args NoMemory there gives = tt
  equal-refused direction args (Refused reply) there gives = equal-of direction args (Err reply) there gives

  -- ---- CHAIN

  chain-of : (args : ChainRecord) (items : Result (Option Found) Reply) → opened_file args.open_id job m ≡ Ok its → chained its m args.to ≡ items
      → chain m job args ≡ does (read_change m job) (items >>= λ item. (found item NotFound >>= λ it. if_lockable job m its args.lock it))
  unfolding chain_plan
  chain-of args items there is =
      ap (λ (r : Result OpenedFile Reply). does (read_change m job) (r >>= λ o. (chained o m args.to >>= λ item. (found item NotFound >>= λ it. if_lockable job m o args.lock it)))) there
      ∙ ap (λ (i : Result (Option Found) Reply). does (read_change m job) (i >>= λ item. (found item NotFound >>= λ it. if_lockable job m its args.lock it))) is

  pub chain-through : (args : ChainRecord) (asks : AskedBy) → opened_file args.open_id job m ≡ Ok its → AsksChain m its args.to asks → chain m job args ≡ read_found m job its args.lock asks
  chain-through args asks there chain_asks =
      chain-of args (Ok (found_through asks its.file its.opened m)) there chain_asks.chains
      ∙ ap (λ (reply : Reply). read_of args.lock reply (found_through asks its.file its.opened m)) (sym chain_asks.none)

  pub chain-refused : (args : ChainRecord) (stop : Stop) → opened_file args.open_id job m ≡ Ok its → AsksOf m its args.to (Err stop) → Plans m job args.open_id (chain m job args) (Err stop)
  chain-refused args NoMemory there asks = tt
  chain-refused args (Refused reply) there asks = chain-of args (Err reply) there asks

  -- by a key
  chained-key : (values : List Value) (asked : Result (List KeyValue) Reply) → key_asked its.file its.opened values ≡ asked
      → chained its m (Key values) ≡ (asked >>= λ key. Ok (find_in its m (λ reading. chain_key reading key) (λ reading. chain_key reading key)))
  chained-key values asked is = ap (λ (k : Result (List KeyValue) Reply). k >>= λ key. Ok (find_in its m (λ reading. chain_key reading key) (λ reading. chain_key reading key))) is

  pub key-chained : (values : List Value) (key : List ℕ) → GivesKey (bases_of m) its.file its.opened values (Ok key) → AsksChain m its (Key values) (FirstEqual key)
  key-chained values key gives = record {
    asked = record {
      formats = gives.2.bytes;
      looked = keyed-by (is_keyed its.file its.opened) (key_or_fault (parts_in its.file.spec) values (key_fault (parts_in its.file.spec) values)) gives.0 gives.1;
      numbered = tt;
    };
    chains =
        chained-key values (Ok gives.0) gives.1
        ∙ ap (λ (given : List KeyValue). Ok (find_in its m (λ reading. chain_key reading given) (λ reading. chain_key reading given))) (sym gives.2.values);
    none = refl;
  }

  pub key-not-chained : (values : List Value) (stop : Stop) → GivesKey (bases_of m) its.file its.opened values (Err stop) → AsksOf m its (Key values) (Err stop)
  key-not-chained values NoMemory gives = tt
  key-not-chained values (Refused reply) gives = chained-key values (Err reply) gives

  -- by a relative record number
  chained-number : (rrn : ℕ) (asked : Result ℕ Reply) → number_asked its.file its.opened rrn ≡ asked
      → chained its m (RecordNumber rrn) ≡ (asked >>= λ number. Ok (find_in its m (λ reading. chain_number reading number) (λ reading. chain_number reading number)))
  chained-number rrn asked is =
      ap (λ (n : Result ℕ Reply). n >>= λ number. Ok (find_in its m (λ reading. chain_number reading number) (λ reading. chain_number reading number))) is

  pub number-chained : (rrn : ℕ) → has_numbers its.file.spec ≡ true → HasNoKey (formats_read (bases_of m) its.file its.opened) → number_asked its.file its.opened rrn ≡ Ok rrn
      → AsksChain m its (RecordNumber rrn) (Number rrn)
  number-chained rrn numbered none is = record {
    asked = record { formats = none; looked = tt; numbered = numbered-none its.file.spec numbered };
    chains = chained-number rrn (Ok rrn) is;
    none = refl;
  }

  pub number-not-chained : (rrn : ℕ) (stop : Stop) → Stands its (limits.RecordNumber rrn) (Err stop) → AsksOf m its (RecordNumber rrn) (Err stop)
  number-not-chained rrn NoMemory stands = tt
  number-not-chained rrn (Refused reply) stands = chained-number rrn (Err reply) (number-refused (number_asked its.file its.opened rrn) reply (stands Before))
