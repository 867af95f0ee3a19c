-- Which statements block, and which stand neither in unwind blocks nor in methods or threads.
use Rattle.std.specs.Prelude.{◌≡◌, ⊤, ℕ, Bool, true, false, slice_get, Some}
use Rattle.flat_design.specs.Code.{Statement}
use Rattle.flat_design.specs.Facts.{Waiting, for_nothing, for_channel, for_fifo, for_events, for_return, next_time, facts}
use Rattle.flat_design.specs.Denotes.{denoted_at}
use Rattle.flat_design.specs.declared.objects.LeadsTo.{LeadsTo}
use Rattle.flat_design.specs.declared.objects.LeadsTo.TheVariants as leads
use Rattle.flat_design.specs.declared.design.ChannelId.{ChannelId}
use Rattle.flat_design.specs.declared.design.ChannelId.TheVariants as channel
use Rattle.flat_design.specs.declared.design.Denoted.{Denoted}
use Rattle.flat_design.specs.declared.design.Denoted.TheVariants as denoted
use Rattle.flat_design.specs.declared.design.PortPart.{PortPart}
use Rattle.flat_design.specs.declared.design.Design.{Design}

-- what is written without waiting: anything but a fifo
abbrev pub ChannelTakes : ChannelId → Type 0
ChannelTakes (channel.Signal n events) = ⊤
ChannelTakes (channel.Resolved n events) = ⊤
ChannelTakes (channel.Fifo n events) = ⊥
ChannelTakes (channel.Mutex n events) = ⊤
ChannelTakes (channel.Semaphore n events) = ⊤

abbrev pub PortTakes : LeadsTo → Type 0
PortTakes (leads.In t) = ⊤
PortTakes (leads.Out t) = ⊤
PortTakes (leads.FifoIn t) = ⊥
PortTakes (leads.FifoOut t) = ⊥
PortTakes leads.Mutex = ⊤
PortTakes leads.Semaphore = ⊤

abbrev pub Takes : Design → Denoted → Type 0
Takes d denoted.Nothing = ⊤
Takes d (denoted.Channel c) = ChannelTakes c
Takes d (denoted.Event e) = ⊤
Takes d (denoted.Keeper k) = ⊤
Takes d (denoted.Memory m) = ⊤
Takes d (denoted.Variable v) = ⊤
Takes d (denoted.Port n) = (p : PortPart) → slice_get d.ports n ≡ Some p → PortTakes p.leads_to
Takes d (denoted.Process p) = ⊤
Takes d (denoted.Socket hop forward) = ⊤

-- what is waited for keeps nobody waiting, in the instance of this number
abbrev pub WaitsNot : Design → ℕ → Waiting → Type 0
WaitsNot d home for_nothing = ⊤
WaitsNot d home for_channel = ⊥
WaitsNot d home (for_fifo n) = Takes d (denoted_at d home n)
WaitsNot d home (for_events w) = ⊥
WaitsNot d home for_return = ⊥
WaitsNot d home (next_time w) = ⊤

-- a statement that does not block, in the instance of this number: what it calls is asked by itself
abbrev pub DoesNotBlock : Design → ℕ → Statement → Type 0
DoesNotBlock d home s = WaitsNot d home (facts s).waiting

abbrev pub IsSo : Bool → Type 0
IsSo true = ⊤
IsSo false = ⊥

-- a statement that neither throws nor spawns nor makes a transport call
abbrev pub IsPlain : Statement → Type 0
IsPlain s = IsSo (facts s).is_plain

-- a statement that sets no next trigger
abbrev pub WaitsNow : Waiting → Type 0
WaitsNow for_nothing = ⊤
WaitsNow for_channel = ⊤
WaitsNow (for_fifo n) = ⊤
WaitsNow (for_events w) = ⊤
WaitsNow for_return = ⊤
WaitsNow (next_time w) = ⊥

abbrev pub SetsNoTrigger : Statement → Type 0
SetsNoTrigger s = WaitsNow (facts s).waiting
