-- How channels are kept: with a list or marks of those that asked for an update, so that an update visits no others, and with
-- marks of those that the last update changed. No public clause cites this module.
use Rattle.std.specs.Prelude.{◌≡◌, ◌≤◌, ◌<◌, ◌==◌, ⊤, ℕ, Bool, true, false, List, [], ◌∷◌, ◌++◌, Option, Some, None, length, map, get_or, count_by, if◌then◌else◌, slice_get, slice_set, vec_capacity}
use Rattle.std.specs.Global.{Vec}
use Rattle.kernel_events.specs.EventCore.declared.notifications.Pending.{Pending}
use Rattle.kernel_events.specs.SignalChannel.Signals.{settled}
use Rattle.kernel_events.specs.SignalChannel.Drivers.{Driven, resettled, edges}
use Rattle.kernel_events.specs.SignalChannel.declared.signal.Signal.{Signal}
use Rattle.kernel_events.specs.SignalChannel.declared.signal.Changed.{Changed}
use Rattle.kernel_events.specs.FifoSync.Fifos.{Queued, after_update}
use Rattle.kernel_events.specs.SimModel.Configuration.{change}
use Rattle.kernel_events.specs.SimModel.Phases.{was_some}
use Rattle.kernel_channels.specs.Announced.{told}

-- there is a mark for each, and the update leaves each without a mark as it is
abbrev pub Rests : {A : Type 0} → (A → A) → List A → List Bool → Type 0
Rests after [] [] = ⊤
Rests after [] (b ∷ bs) = ⊥
Rests after (x ∷ xs) [] = ⊥
Rests after (x ∷ xs) (true ∷ bs) = Rests after xs bs
Rests after (x ∷ xs) (false ∷ bs) = (after x ≡ x) × Rests after xs bs

-- the list of those that are visited is empty between updates, and has room for all
pub record HasRoom (n : ℕ) (visited : Vec ℕ) : Type 0 where
  pub none : visited.items ≡ []
  pub room : n ≤ vec_capacity visited

-- each signal says itself whether it asked, and those that did are listed, each once, with room for all

abbrev pub asked_at : Option Signal → Bool
asked_at None = false
asked_at (Some s) = s.asked

abbrev pub asked_of : List Signal → List Bool
asked_of signals = map (λ (s : Signal). s.asked) signals

abbrev pub listed_with : Bool → ℕ → List ℕ → List ℕ
listed_with true n listed = listed
listed_with false n listed = listed ++ n ∷ []

pub record ListsAsked (marks : List Bool) (listed : Vec ℕ) : Type 0 where
  pub once : (n : ℕ) → count_by (λ x. x == n) listed.items ≡ (if get_or marks n false then 1 else 0)
  pub as_many : length listed.items ≡ count_by (λ mark. mark) marks
  pub room : length marks ≤ vec_capacity listed

pub record IsSignals (signals : List Signal) (asked : Vec ℕ) (changes : List Bool) : Type 0 where
  pub rests : Rests settled signals (asked_of signals)
  pub lists : ListsAsked (asked_of signals) asked
  pub changed : length changes ≡ length signals

pub record IsWires (resolved : List Driven) (marks changes : List Bool) (visited : Vec ℕ) : Type 0 where
  pub asked : length marks ≡ length resolved
  pub changed : length changes ≡ length resolved
  pub visits : HasRoom (length resolved) visited

pub record IsFifos (fifos : List Queued) (marks : List Bool) (visited : Vec ℕ) : Type 0 where
  pub rests : Rests after_update fifos marks
  pub visits : HasRoom (length fifos) visited

-- marks that count in the present round alone, by the round in which each was set

abbrev pub marked_in : ℕ → List ℕ → List Bool
marked_in round rounds = map (λ r. r == round) rounds

-- no round is past the present one, and none was marked in round 0
pub record IsPresent (round : ℕ) (rounds : List ℕ) : Type 0 where
  pub begun : 0 < round
  pub past : (k : ℕ) → get_or rounds k 0 ≤ round

abbrev pub AllZero : List ℕ → Type 0
AllZero rounds = (k : ℕ) → get_or rounds k 0 ≡ 0

-- what an update announces

abbrev pub nothing : Changed
nothing = record { changed = false; pos = false; neg = false }

abbrev pub wire_change : Driven → Changed
wire_change r = edges r.value (resettled r).value

-- data written is told by the first event of a fifo, and data read by the second
abbrev pub fifo_change : Queued → Changed
fifo_change q = record { changed = was_some q.written; pos = was_some q.read; neg = false }

abbrev pub change_at : {A : Type 0} → (A → Changed) → Option A → Changed
change_at changes None = nothing
change_at changes (Some x) = changes x

-- those of these numbers are updated, one after another

abbrev pub items_after : {A : Type 0} → (A → A) → List ℕ → List A → List A
items_after after [] xs = xs
items_after after (n ∷ ns) xs = items_after after ns (change xs n after)

abbrev pub marked_if : Bool → ℕ → List Bool → List Bool
marked_if true n marks = slice_set marks n true
marked_if false n marks = marks

abbrev pub marks_after : {A : Type 0} → (A → A) → (A → Changed) → List ℕ → List A → List Bool → List Bool
marks_after after changes [] xs marks = marks
marks_after after changes (n ∷ ns) xs marks = marks_after after changes ns (change xs n after) (marked_if (change_at changes (slice_get xs n)).changed n marks)

abbrev pub told_at : Option ℕ → Changed → List Pending → List Pending
told_at None c events = events
told_at (Some e) c events = told c e events

-- the first event of each stands in its own list
abbrev pub events_after : {A : Type 0} → (A → A) → (A → Changed) → List ℕ → List ℕ → List A → List Pending → List Pending
events_after after changes [] firsts xs events = events
events_after after changes (n ∷ ns) firsts xs events = events_after after changes ns firsts (change xs n after) (told_at (slice_get firsts n) (change_at changes (slice_get xs n)) events)
