-- What a write statement writes, and to which channel.
use Rattle.std.specs.Prelude.{◌≡◌, ℕ, Bool, true, false, Some, Result, Ok, slice_get}
use Rattle.flat_design.specs.Code.{Term, ChannelTerm}
use Rattle.flat_design.specs.Denotes.{denoted_at}
use Rattle.flat_design.specs.Sound.{DenotedFits, PortFits}
use Rattle.flat_design.specs.declared.value_types.ValueType.{ValueType}
use Rattle.flat_design.specs.declared.design.ChannelId.{ChannelId}
use Rattle.flat_design.specs.declared.design.ChannelId.TheVariants as channel
use Rattle.flat_design.specs.declared.design.PortPart.{PortPart}
use Rattle.flat_design.specs.declared.design.Design.{Design}
use Rattle.flat_design.specs.declared.faults.RunFault.{RunFault}
use Rattle.kernel_view.specs.SimModel.Values.{on_ok, cut_to}
use Rattle.kernel_view.specs.SimModel.Reading.{Here, val, place_in}
use Rattle.kernel_view.specs.SimModel.Channels.{channel_in}
use Rattle.exec_data.specs.declared.writes.Transfer.{Transfer}

-- names stand for what is there, and so do the channels of ports: two of the things that a sound design says
pub record NamesFit (d : Design) : Type 0 where
  pub names : (home n : ℕ) → DenotedFits d (denoted_at d home n)
  pub ports : (n : ℕ) (p : PortPart) → slice_get d.ports n ≡ Some p → PortFits d p

-- the place, the value and the channel, in this order
abbrev pub to_write : Here → ChannelTerm → ValueType → Term → Result Transfer RunFault
to_write h ch t e = on_ok (place_in h ch.place) (λ k. on_ok (val h e) (λ v. on_ok (channel_in h ch k) (λ x. Ok (record { channel = x; value = cut_to t v }))))

-- whether a write may take memory: a process may drive a resolved signal for the first time, and a fifo may block it
abbrev pub write_takes : ChannelId → Bool
write_takes (channel.Signal n events) = false
write_takes (channel.Resolved n events) = true
write_takes (channel.Fifo n events) = true
write_takes (channel.Mutex n events) = false
write_takes (channel.Semaphore n events) = false

-- the write that stands here may
abbrev pub WriteTakes : Here → ChannelTerm → ValueType → Term → Type 0
WriteTakes h ch t e = on_ok (to_write h ch t e) (λ x. Ok (write_takes x.channel)) ≡ Ok true
