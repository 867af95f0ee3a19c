-- The events of a static sensitivity.
use Rattle.std.specs.Prelude.{◌≡◌, ◌<◌, ◌+◌, ◌^◌, ℕ, List, Option, Ok}
use Rattle.std.specs.List.{flat_map}
use Rattle.exec_data.specs.EventCore.declared.event.Ev.{Ev}
use Rattle.flat_design.specs.Denotes.{denoted_at}
use Rattle.flat_design.specs.declared.code.StaticUse.{StaticUse}
use Rattle.flat_design.specs.declared.design.ChannelId.{ChannelId}
use Rattle.flat_design.specs.declared.design.Denoted.{Denoted}
use Rattle.flat_design.specs.declared.design.Design.{Design}
use Rattle.exec_data.specs.SimModel.Calls.{static_of}
use Rattle.exec_data.specs.SimModel.Reading.{channel_of}
use Rattle.exec_data.specs.SimModel.Waiting.{first_event}

-- there are numbers for three events of a channel
abbrev pub HasNumbers : ChannelId → Type 0
HasNumbers ch = first_event ch + 2 < 2 ^ 32

-- and of each channel that this stands for
abbrev pub NumbersThose : Design → Denoted → Type 0
NumbersThose d x = (place : Option ℕ) (ch : ChannelId) → channel_of d x place ≡ Ok ch → HasNumbers ch

-- the events of a static sensitivity that is written in an instance of a module
abbrev pub static_in : Design → ℕ → List StaticUse → List Ev
static_in d home es = flat_map (λ (e : StaticUse). static_of d e.event e.place (denoted_at d home e.name)) es
