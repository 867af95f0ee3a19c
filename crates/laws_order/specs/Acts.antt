-- What a process does to what is shared, act by act.
use Rattle.std.specs.Prelude.{◌≡◌, ◌≢◌, ⊤, ℕ, List, [], ◌∷◌, Option, Some, None}
use Rattle.sim_model.specs.LogicValues.declared.kinds.Value.{Value}
use Rattle.sim_model.specs.EventCore.declared.notifications.When.{When}
use Rattle.sim_model.specs.EventCore.declared.notifications.When.TheVariants as when
use Rattle.sim_model.specs.SignalChannel.Signals.{written}
use Rattle.sim_model.specs.FifoSync.Fifos.{Queued, after_read, after_write}
use Rattle.sim_model.specs.QuantumKeeper.declared.keeper.Keeper.{Keeper}
use Rattle.sim_model.specs.Configuration.{Config, Channels, change}
use Rattle.sim_model.specs.Waits.{notify}
use Rattle.sim_model.specs.Storing.{set_variable, set_memory}
use Rattle.sim_model.specs.Waiting.{cancelled}
use Rattle.sim_model.specs.Channels.{with_channels, drive}
use Rattle.sim_model.specs.Transport.{with_keeper, with_global}
use Rattle.order_free.specs.declared.uses.Use.{Use}
use Rattle.order_free.specs.declared.uses.Use.TheVariants as used

-- A variable or a memory gets a value; a signal is written, and the driver of a resolved one set; the oldest value of a fifo is read,
-- and a value written behind the others; an event is notified for later, and what is pending for it cancelled; a keeper and the global
-- quantum get a value.
pub data Act : Type 0 where
  stores : ℕ → Value → Act
  fills : ℕ → List ℕ → Act
  writes : ℕ → Value → Act
  drives : ℕ → Value → Act
  takes : ℕ → Act
  gives : ℕ → Value → Act
  notifies : ℕ → When → Act
  cancels : ℕ → Act
  keeps : ℕ → Keeper → Act
  sets_global : ℕ → Act

-- what an act of the process of this serial makes of a configuration
abbrev pub acted : ℕ → Config → Act → Config
acted p c (stores v x) = set_variable c v x
acted p c (fills m bytes) = set_memory c (Some m) bytes
acted p c (writes n x) = with_channels c (λ (ch : Channels). record ch { signals = change ch.signals n (written (Some p) x) })
acted p c (drives n x) = drive c n x p
acted p c (takes n) = with_channels c (λ (ch : Channels). record ch { fifos = change ch.fifos n after_read })
acted p c (gives n x) = with_channels c (λ (ch : Channels). record ch { fifos = change ch.fifos n (λ (q : Queued). after_write q x) })
acted p c (notifies e w) = notify c e w
acted p c (cancels e) = cancelled c e
acted p c (keeps n k) = with_keeper c (Some n) k
acted p c (sets_global t) = with_global c t

-- one act after another
abbrev pub acted_all : ℕ → Config → List Act → Config
acted_all p c [] = c
acted_all p c (a ∷ as_) = acted_all p (acted p c a) as_

-- a notification for later: none at once
abbrev pub IsLater : When → Type 0
IsLater when.Immediate = ⊥
IsLater when.Delta = ⊤
IsLater (when.At t) = ⊤

-- an act of one who has these uses. Whoever likes may drive a resolved signal: each has a driver of its own
abbrev pub Allows : (Use → Type 0) → Act → Type 0
Allows Has (stores v x) = Has (used.Variable v)
Allows Has (fills m bytes) = Has (used.Memory m)
Allows Has (writes n x) = Has (used.WritesSignal n)
Allows Has (drives n x) = ⊤
Allows Has (takes n) = Has (used.ReadsFifo n)
Allows Has (gives n x) = Has (used.WritesFifo n)
Allows Has (notifies e w) = Has (used.Notifies e) × IsLater w
Allows Has (cancels e) = Has (used.Cancels e)
Allows Has (keeps n k) = Has used.Quantum
Allows Has (sets_global t) = Has used.Quantum

-- the resolved signal whose driver an act sets
abbrev pub driven_in : Act → Option ℕ
driven_in (stores v x) = None
driven_in (fills m bytes) = None
driven_in (writes n x) = None
driven_in (drives n x) = Some n
driven_in (takes n) = None
driven_in (gives n x) = None
driven_in (notifies e w) = None
driven_in (cancels e) = None
driven_in (keeps n k) = None
driven_in (sets_global t) = None

-- the two do not set drivers of one resolved signal
abbrev pub DriveApart : Act → Act → Type 0
DriveApart a b = (n : ℕ) → driven_in a ≡ Some n → driven_in b ≢ Some n
