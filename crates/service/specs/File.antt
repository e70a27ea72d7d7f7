-- The services file: what its bytes say, number by number, and the bytes of a file.
use Rattle.std.specs.Prelude.{◌≡◌, ℕ, zero, suc, ◌+◌, ◌-◌, ◌^◌, ◌<◌, ◌≤◌, cond, List, [], ◌++◌, length, set, replicate, Ok, Err, Result, nat_lt, slice_index, slice_index_or}
use Rattle.wire.specs.declared.refusal.Cause.TheVariants as cause
use Rattle.wire.specs.declared.refusal.Refusal.{Refusal}
use Rattle.wire.specs.Refusals.{refused}
use Rattle.wire.specs.Number.{groups}
use Rattle.wire.specs.Reading.{and_then, steps}
use Rattle.service.specs.declared.service.Service.{Service}
use Rattle.service.specs.declared.file.CommunityFile.{CommunityFile}
use Rattle.wire.specs.Fields.{field}

-- what a services file holds
pub record Contents : Type 0 where
  pub count : ℕ
  pub actions : ℕ
  pub services : List Service

abbrev pub contents : CommunityFile → Contents
contents c = record { count = c.count; actions = c.actions; services = c.services }

-- slot i of a list is read over what stands there; d is what a place past the end would hold
abbrev pub slot : {P : Type 0} → P → (ℕ → P → Result (ℕ × P) Refusal) → ℕ → ℕ × List P → Result (ℕ × List P) Refusal
slot d read i x = and_then (read x.0 (slice_index_or x.1 i d)) (λ p. Ok (p.0, set x.1 i p.1))

-- the first n slots, from a place on
abbrev pub slots : {P : Type 0} → P → (ℕ → P → Result (ℕ × P) Refusal) → ℕ → ℕ → List P → Result (ℕ × List P) Refusal
slots d read n at xs = steps (slot d read) n 0 (at, xs)

abbrev pub entry_of : List ℕ → ℕ → ℕ → ℕ → Result (ℕ × ℕ) Refusal
entry_of bs high at v = and_then (field bs at 0 high) (λ p. Ok (p.1, p.0))

-- the entries of one state, for k actions
abbrev pub row_of : List ℕ → ℕ → ℕ → ℕ → List ℕ → Result (ℕ × List ℕ) Refusal
row_of bs k high at row = slots 0 (entry_of bs high) k at row

-- the rows of n states
abbrev pub table_of : List ℕ → ℕ → ℕ → ℕ → ℕ → List (List ℕ) → Result (ℕ × List (List ℕ)) Refusal
table_of bs n k high at rows = slots [] (row_of bs k high) n at rows

abbrev pub service_of : List ℕ → ℕ → ℕ → Service → Result (ℕ × Service) Refusal
service_of bs k at x =
    and_then (field bs at 1 16) (λ n.
    and_then (field bs n.1 0 (n.0 - 1)) (λ i.
    and_then (field bs i.1 0 (2 ^ n.0 - 1)) (λ f.
    and_then (table_of bs n.0 k (2 ^ n.0 - 1) f.1 x.entries) (λ t.
    Ok (t.0, record { states = n.0; initial = i.0; finals = f.0; entries = t.1 })))))

-- what a place past the end of the services would hold
abbrev pub no_service : Service
no_service = record { states = 0; initial = 0; finals = 0; entries = [] }

abbrev pub services_of : List ℕ → ℕ → ℕ → ℕ → List Service → Result (ℕ × List Service) Refusal
services_of bs n k at xs = slots no_service (service_of bs k) n at xs

abbrev pub zero_row : List ℕ
zero_row = replicate 16 0

abbrev pub zero_service : Service
zero_service = record { states = 1; initial = 0; finals = 0; entries = replicate 16 zero_row }

abbrev pub zero_file : Contents
zero_file = record { count = 1; actions = 1; services = replicate 8 zero_service }

-- the file that the bytes hold
abbrev pub file_of : List ℕ → Result Contents Refusal
file_of bs =
    and_then (field bs 0 1 8) (λ n.
    and_then (field bs n.1 1 16) (λ k.
    and_then (services_of bs n.0 k.0 k.1 (replicate 8 zero_service)) (λ x.
    cond (nat_lt x.0 (length bs)) (Err (refused cause.BytesLeftOver x.0)) (Ok (record { count = n.0; actions = k.0; services = x.1 })))))

-- what a reader answers that fills an output, where it then stands and what it leaves there; after a refusal the output may hold anything
abbrev pub Fills : {X : Type 0} → Result (Unit {0}) Refusal → ℕ → X → Result (ℕ × X) Refusal → Type 0
Fills (Ok u) to x q = q ≡ Ok (to, x)
Fills (Err e) to x q = q ≡ Err e

-- what reading into a zeroed file leaves; after a refusal it may hold anything
abbrev pub Whole : Result (Unit {0}) Refusal → Contents → Result Contents Refusal → Type 0
Whole (Ok u) c q = q ≡ Ok c
Whole (Err e) c q = q ≡ Err e

-- n pieces one after another, numbered from i
abbrev pub pieces : (ℕ → List ℕ) → ℕ → ℕ → List ℕ
pieces f zero i = []
pieces f (suc n) i = f i ++ pieces f n (i + 1)

-- the entries of one state, for k actions
abbrev pub row_bytes : ℕ → List ℕ → List ℕ
row_bytes k row = pieces (λ a. groups (slice_index row a)) k 0

-- a service: its states, initial state and final states, then its entries state by state and action by action
abbrev pub service_bytes : ℕ → Service → List ℕ
service_bytes k x =
    groups x.states ++ (groups x.initial ++ (groups x.finals ++ pieces (λ s. row_bytes k (slice_index_or x.entries s [])) x.states 0))

-- a file: the number of services, the number of actions, then each service
abbrev pub bytes_of : Contents → List ℕ
bytes_of c =
    groups c.count ++ (groups c.actions ++ pieces (λ i. service_bytes c.actions (slice_index_or c.services i no_service)) c.count 0)

-- m places, of which the first n hold something good and the others a zero; d stands past the end
pub record Filled {P : Type 0} (m n : ℕ) (d zeroed : P) (Good : P → Type 0) (xs : List P) : Type 0 where
  pub long : length xs ≡ m
  pub used : (i : ℕ) → i < n → Good (slice_index_or xs i d)
  pub unused : (i : ℕ) → n ≤ i → i < m → slice_index_or xs i d ≡ zeroed

-- k entries, each a set of states below n
abbrev pub RowWithin : ℕ → ℕ → List ℕ → Type 0
RowWithin n k row = Filled 16 k 0 0 (λ set. set < 2 ^ n) row

-- a service of k actions with every number in its field
pub record ServiceWithin (k : ℕ) (x : Service) : Type 0 where
  pub some_state : 1 ≤ x.states
  pub few_states : x.states ≤ 16
  pub initial : x.initial < x.states
  pub finals : x.finals < 2 ^ x.states
  pub entries : Filled 16 x.states [] zero_row (RowWithin x.states k) x.entries

-- a file with every number in its field
pub record Within (c : Contents) : Type 0 where
  pub some_service : 1 ≤ c.count
  pub few_services : c.count ≤ 8
  pub some_action : 1 ≤ c.actions
  pub few_actions : c.actions ≤ 16
  pub services : Filled 8 c.count no_service zero_service (ServiceWithin c.actions) c.services

-- the accepted bytes are exactly those of the files with every number in its field
pub record ServicesLaw (bs : List ℕ) : Type 0 where
  pub accepted : (c : Contents) → file_of bs ≡ Ok c → Within c × (bs ≡ bytes_of c)
  pub accepts : (c : Contents) → Within c → bs ≡ bytes_of c → file_of bs ≡ Ok c
