-- The numbers of the events of channels.
use Rattle.std.proofs.Common.{◌≡◌, ℕ, List, get_or, slice_get, Option, Some, None, refl, ap, ◌∙◌, subst, arith}
use Rattle.std.specs.Prelude.{All, IfSome}
use Rattle.std.proofs.lemmas.Option.{slice_get-get_or, slice_get_within, get_or_from_slice_get}
use Rattle.flat_design.specs.declared.design.ChannelId.{ChannelId}
use Rattle.flat_design.specs.declared.design.Denoted.TheVariants as denoted
use Rattle.flat_design.specs.declared.design.Design.{Design}
use Rattle.flat_design.specs.declared.design.PortPart.{PortPart}
use Rattle.exec_data.specs.SimModel.Reading.{channel_or, port_channel}
use Rattle.exec_data.specs.SimModel.Calls.{port_channels}
use Rattle.exec_calls.specs.Sensitive.{HasNumbers, NumbersThose}

-- of each channel of a port
port_numbers : (d : Design) (n : ℕ) (o : Option PortPart) → slice_get d.ports n ≡ o → NumbersThose d (denoted.Port n) → All HasNumbers (port_channels o)
port_numbers d n None at numbers = λ k ch below. absurd (let no : ⊥ = omega arith in no)
port_numbers d n (Some part) at numbers = λ k ch below.
    numbers (Some k) (get_or part.channels k ch) (ap (λ o. port_channel o k) at ∙ ap (channel_or part.channels k) (slice_get-get_or part.channels k ch below))

pub of_port : (d : Design) (n : ℕ) → NumbersThose d (denoted.Port n) → All HasNumbers (port_channels (slice_get d.ports n))
of_port d n numbers = port_numbers d n (slice_get d.ports n) refl numbers

-- and of the one at a place
pub at_a_place : (cs : List ChannelId) (k : ℕ) (o : Option ChannelId) → slice_get cs k ≡ o → All HasNumbers cs → IfSome o HasNumbers
at_a_place cs k None at all = tt
at_a_place cs k (Some ch) at all = subst HasNumbers (get_or_from_slice_get cs k ch ch at) (all k ch (slice_get_within cs k ch at))
