-- The history of a hop: what was called and returned on it, the oldest first.
use Rattle.std.specs.Prelude.{◌≡◌, ℕ, ℤ, Bool, not, ◌&&◌, ◌==◌, List, [], ◌∷◌, Option, None, if◌then◌else◌}
use Rattle.std.specs.List.{list_any}
use Rattle.std.specs.FinMap as map
use Rattle.transport_phases.specs.declared.phases.Path.{Path}
use Rattle.transport_phases.specs.declared.phases.Rule.{Rule}
use Rattle.transport_phases.specs.declared.transaction.State.{State}
use Rattle.transport_phases.specs.declared.transaction.Open.{Open}
use Rattle.transport_phases.specs.declared.transaction.Open.TheVariants.{Nothing, Blocking}
use Rattle.transport_phases.specs.declared.transaction.Kept.{Kept}
use Rattle.transport_phases.specs.Phases.{phase_of, answer_of, fresh, called, returned, is_requesting, is_responding, first_broken, call_rules, return_rules, b_call_rules, b_return_rules}
use Rattle.transport_phases.specs.Rows.{Rows, row_of}

-- one entry, of the transaction that it names first. `complete` says that the response status is not INCOMPLETE,
-- `handled` that the other end has the handler
pub data Entry : Type 0 where
  Call : (t : ℕ) → Path → (phase : ℤ) → (complete handled : Bool) → Entry
  Return : (t : ℕ) → (status phase : ℤ) → (complete : Bool) → Entry
  BCall : (t : ℕ) → (handled : Bool) → Entry
  BReturn : (t : ℕ) → (complete : Bool) → Entry
  Left : (t : ℕ) → Entry

-- the transaction of an entry
abbrev pub transaction : Entry → ℕ
transaction (Call t path phase complete handled) = t
transaction (Return t status phase complete) = t
transaction (BCall t handled) = t
transaction (BReturn t complete) = t
transaction (Left t) = t

-- what an entry makes of its transaction
abbrev pub after_entry : Entry → Kept → Kept
after_entry (Call t path phase complete handled) k = called k (phase_of phase)
after_entry (Return t status phase complete) k = returned k (answer_of status) (phase_of phase)
after_entry (BCall t handled) k = record k { call = Blocking }
after_entry (BReturn t complete) k = record k { call = Nothing }
after_entry (Left t) k = fresh

-- what the entries make of a transaction of which this was kept before
abbrev pub kept_from : ℕ → Kept → List Entry → Kept
kept_from t k [] = k
kept_from t k (e ∷ h) = kept_from t (if transaction e == t then after_entry e k else k) h

abbrev pub kept_of : List Entry → ℕ → Kept
kept_of h t = kept_from t fresh h

-- where a transaction stands after the history, and which call of it is open
abbrev pub state_of : List Entry → ℕ → State
state_of h t = (kept_of h t).state

abbrev pub is_open : List Entry → ℕ → Open
is_open h t = (kept_of h t).call

-- a transaction of the entries, other than this one, passes the test
abbrev pub is_other_among : (ℕ → Bool) → ℕ → List Entry → Bool
is_other_among test t entries = list_any (λ e. not (transaction e == t) && test (transaction e)) entries

-- another transaction requests, or responds
abbrev pub other_requests : List Entry → ℕ → Bool
other_requests h t = is_other_among (λ n. is_requesting (kept_of h n)) t h

abbrev pub other_responds : List Entry → ℕ → Bool
other_responds h t = is_other_among (λ n. is_responding (kept_of h n)) t h

-- the first rule that the entry breaks after the history
abbrev pub broken : List Entry → Entry → Option Rule
broken h (Call t path phase complete handled) =
    first_broken (call_rules (kept_of h t) (other_requests h t) (other_responds h t) path (phase_of phase) complete handled)
broken h (Return t status phase complete) =
    first_broken (return_rules (state_of h t) (other_responds h t) (answer_of status) (phase_of phase) complete)
broken h (BCall t handled) = first_broken (b_call_rules (kept_of h t) handled)
broken h (BReturn t complete) = first_broken (b_return_rules complete)
broken h (Left t) = None

-- the rows are what the history leaves of each transaction
abbrev pub StandsFor : Rows → List Entry → Type 0
StandsFor rows h = (t : ℕ) → map.get rows.kept t ≡ row_of (kept_of h t)
