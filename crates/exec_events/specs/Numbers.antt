-- The numbers of events.
use Rattle.std.specs.Prelude.{◌≡◌, ◌<◌, ◌+◌, ◌^◌, ℕ, Option, Ok}
use Rattle.flat_design.specs.Denotes.{denoted_at}
use Rattle.flat_design.specs.declared.design.ChannelId.{ChannelId}
use Rattle.flat_design.specs.declared.design.Design.{Design}
use Rattle.kernel_view.specs.SimModel.Reading.{channel_of}
use Rattle.kernel_view.specs.SimModel.Waiting.{first_event}

-- of each channel that a name stands for there are numbers for three events
abbrev pub NumbersEvents : Design → Type 0
NumbersEvents d = (home n : ℕ) (place : Option ℕ) (ch : ChannelId) → channel_of d (denoted_at d home n) place ≡ Ok ch → first_event ch + 2 < 2 ^ 32
