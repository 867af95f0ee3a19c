-- The events of what names stand for.
use Rattle.std.proofs.Common.{◌≡◌, ◌<◌, ◌+◌, ◌^◌, ℕ, Option, Some, None, Ok, Err, refl, sym, ap, ◌∙◌, subst, true≢false}
use Rattle.std.specs.Prelude.{is_some, unwrap_or}
use Rattle.kernel_view.specs.EventCore.declared.event.Ev.{Ev}
use Rattle.kernel_view.specs.EventCore.declared.event.Ev.TheVariants as ev
use Rattle.flat_design.specs.Denotes.{denoted_at}
use Rattle.flat_design.specs.declared.names.EventMember.{EventMember}
use Rattle.flat_design.specs.declared.design.ChannelId.{ChannelId}
use Rattle.flat_design.specs.declared.design.Denoted.{Denoted}
use Rattle.flat_design.specs.declared.design.Denoted.TheVariants as denoted
use Rattle.flat_design.specs.declared.faults.RunFault.{RunFault}
use Rattle.kernel_view.specs.SimModel.Values.{on_ok}
use Rattle.kernel_view.specs.SimModel.Configuration.{Config, Instance}
use Rattle.kernel_view.specs.SimModel.Reading.{Here, denotes, channel_of, channel_here}
use Rattle.kernel_view.specs.SimModel.Waiting.{first_event, channel_event, object_event, event_number}
use Rattle.kernel_view.specs.KernelState.Kernel.{StandsFor, whole_design}
use Rattle.kernel_view.specs.KernelState.declared.kernel.Kernel.{Kernel}
use Rattle.kernel_view.specs.Standings.{next_here}
use Rattle.exec_events.specs.Numbers.{NumbersEvents}

-- an event of the design's objects
pub own_event : (h : Here) (e : EventMember) (k : Option ℕ) (d : Denoted) (n : ℕ) → Some n ≡ event_number d → Ok (ev.Fixed n) ≡ object_event h e k d
own_event h e k denoted.Nothing n is = absurd (true≢false (ap is_some is))
own_event h e k (denoted.Channel ch) n is = absurd (true≢false (ap is_some is))
own_event h e k (denoted.Event m) n is = ap (λ o. Ok (ev.Fixed (unwrap_or o 0))) is
own_event h e k (denoted.Keeper m) n is = absurd (true≢false (ap is_some is))
own_event h e k (denoted.Memory m) n is = absurd (true≢false (ap is_some is))
own_event h e k (denoted.Variable m) n is = absurd (true≢false (ap is_some is))
own_event h e k (denoted.Port m) n is = absurd (true≢false (ap is_some is))
own_event h e k (denoted.Process m) n is = absurd (true≢false (ap is_some is))
own_event h e k (denoted.Socket m forward) n is = absurd (true≢false (ap is_some is))

-- and that of a channel
other_event : (h : Here) (e : EventMember) (k : Option ℕ) (d : Denoted) → None ≡ event_number d → on_ok (channel_of h.config.design d k) (λ ch. Ok (channel_event e ch)) ≡ object_event h e k d
other_event h e k denoted.Nothing is = refl
other_event h e k (denoted.Channel ch) is = refl
other_event h e k (denoted.Event m) is = absurd (true≢false (sym (ap is_some is)))
other_event h e k (denoted.Keeper m) is = refl
other_event h e k (denoted.Memory m) is = refl
other_event h e k (denoted.Variable m) is = refl
other_event h e k (denoted.Port m) is = refl
other_event h e k (denoted.Process m) is = refl
other_event h e k (denoted.Socket m forward) is = refl

module _ (k : Kernel) (p n : ℕ) (place : Option ℕ) (member : EventMember) (c : Config) (i : Instance) (h : StandsFor k c) (other : None ≡ event_number (denotes (next_here c p i) n)) where
  pub of_channel : NumbersEvents (whole_design k) → (ch : ChannelId) (x : Ev) → (first_event ch + 2 < 2 ^ 32 → x ≡ channel_event member ch) → Ok ch ≡ channel_here (next_here c p i) n place
      → Ok x ≡ object_event (next_here c p i) member place (denotes (next_here c p i) n)
  of_channel numbers ch x is found =
      ap Ok (is (numbers (next_here c p i).home n place ch (subst (λ d. channel_of d (denoted_at d (next_here c p i).home n) place ≡ Ok ch) h.design (sym found))))
      ∙ ap (λ r. on_ok r (λ ch. Ok (channel_event member ch))) found
      ∙ other_event (next_here c p i) member place (denotes (next_here c p i) n) other

  pub of_none : (f : RunFault) → Err f ≡ channel_here (next_here c p i) n place → Err f ≡ object_event (next_here c p i) member place (denotes (next_here c p i) n)
  of_none f found =
      ap (λ r. on_ok r (λ ch. Ok (channel_event member ch))) found
      ∙ other_event (next_here c p i) member place (denotes (next_here c p i) n) other
