-- A sound design whose events are few has numbers for the events of its channels.
use Rattle.std.proofs.Common.{◌≡◌, ◌<◌, ◌+◌, ◌-◌, ◌^◌, ℕ, zero, suc, Bool, true, false, List, [], ◌∷◌, slice_get, Option, Some, None, Result, Ok, Err, refl, sym, ap, subst, arith, true≢false}
use Rattle.std.specs.Prelude.{is_some, unwrap_or}
use Rattle.flat_design.specs.Denotes.{denoted_at}
use Rattle.flat_design.specs.Typed.{EachOf}
use Rattle.flat_design.specs.Sound.{ChannelFits, DenotedFits, PortFits, SoundDesign}
use Rattle.flat_design.specs.declared.design.ChannelId.{ChannelId}
use Rattle.flat_design.specs.declared.design.ChannelId.TheVariants as channel
use Rattle.flat_design.specs.declared.design.Denoted.{Denoted}
use Rattle.flat_design.specs.declared.design.Denoted.TheVariants as denoted
use Rattle.flat_design.specs.declared.design.PortPart.{PortPart}
use Rattle.flat_design.specs.declared.design.Design.{Design}
use Rattle.flat_design.specs.declared.faults.RunFault.{RunFault}
use Rattle.kernel_view.specs.SimModel.Reading.{channel_or, port_channel, channel_of}
use Rattle.kernel_view.specs.SimModel.Waiting.{first_event}
use Rattle.exec_events.specs.Numbers.{NumbersEvents}

-- a fault is no channel
abbrev is_channel : Result ChannelId RunFault → Bool
is_channel (Ok ch) = true
is_channel (Err f) = false

abbrev channel_in : ChannelId → Result ChannelId RunFault → ChannelId
channel_in x (Ok ch) = ch
channel_in x (Err f) = x

each_at : {A : Type 0} (P : A → Type 0) (xs : List A) (n : ℕ) (a : A) → EachOf P xs → slice_get xs n ≡ Some a → P a
each_at P [] n a each is = absurd (true≢false (sym (ap is_some is)))
each_at P (x ∷ xs) zero a each is = subst P (ap (λ o. unwrap_or o x) is) each.0
each_at P (x ∷ xs) (suc n) a each is = each_at P xs n a each.1 is

module _ (d : Design) (few : d.events < 2 ^ 32 - 1) (ports : (n : ℕ) (p : PortPart) → slice_get d.ports n ≡ Some p → PortFits d p) where
  channel_numbers : (ch : ChannelId) → ChannelFits d ch → first_event ch + 2 < 2 ^ 32
  channel_numbers (channel.Signal n events) fits = let below = fits.3 in omega (arith, below, few)
  channel_numbers (channel.Resolved n events) fits = let below = fits.3 in omega (arith, below, few)
  channel_numbers (channel.Fifo n events) fits = let below = fits.3 in omega (arith, below, few)
  channel_numbers (channel.Mutex n events) fits = let below = fits.1 in omega (arith, below, few)
  channel_numbers (channel.Semaphore n events) fits = let below = fits.1 in omega (arith, below, few)

  of_channel : (x ch : ChannelId) → ChannelFits d x → ◌≡◌ {A = Result ChannelId RunFault} (Ok x) (Ok ch) → first_event ch + 2 < 2 ^ 32
  of_channel x ch fits is = subst (λ c. first_event c + 2 < 2 ^ 32) (ap (channel_in x) is) (channel_numbers x fits)

  none : (f : RunFault) (ch : ChannelId) → ◌≡◌ {A = Result ChannelId RunFault} (Err f) (Ok ch) → first_event ch + 2 < 2 ^ 32
  none f ch is = absurd (true≢false (sym (ap is_channel is)))

  in_port : (p : PortPart) (k : ℕ) (ch : ChannelId) → PortFits d p → (o : Option ChannelId) → slice_get p.channels k ≡ o → channel_or p.channels k o ≡ Ok ch → first_event ch + 2 < 2 ^ 32
  in_port p k ch fits None at is = none _ ch is
  in_port p k ch fits (Some x) at is = of_channel x ch (each_at _ p.channels k x fits at).0 is

  of_port : (n k : ℕ) (ch : ChannelId) (o : Option PortPart) → slice_get d.ports n ≡ o → port_channel o k ≡ Ok ch → first_event ch + 2 < 2 ^ 32
  of_port n k ch None at is = none _ ch is
  of_port n k ch (Some p) at is = in_port p k ch (ports n p at) (slice_get p.channels k) refl is

  of_denoted : (x : Denoted) (place : Option ℕ) (ch : ChannelId) → DenotedFits d x → channel_of d x place ≡ Ok ch → first_event ch + 2 < 2 ^ 32
  of_denoted denoted.Nothing place ch fits is = none _ ch is
  of_denoted (denoted.Channel x) place ch fits is = of_channel x ch fits is
  of_denoted (denoted.Event n) place ch fits is = none _ ch is
  of_denoted (denoted.Keeper n) place ch fits is = none _ ch is
  of_denoted (denoted.Memory n) place ch fits is = none _ ch is
  of_denoted (denoted.Variable n) place ch fits is = none _ ch is
  of_denoted (denoted.Port n) place ch fits is = of_port n (unwrap_or place 0) ch (slice_get d.ports n) refl is
  of_denoted (denoted.Process n) place ch fits is = none _ ch is
  of_denoted (denoted.Socket n forward) place ch fits is = none _ ch is

pub sound_numbers : (d : Design) → SoundDesign d → d.events < 2 ^ 32 - 1 → NumbersEvents d
sound_numbers d sound few home n place ch is = of_denoted d few sound.ports (denoted_at d home n) place ch (sound.names home n) is
