-- A write is for a channel that is there.
use Rattle.std.proofs.Common.{◌≡◌, ℕ, zero, suc, true, List, [], ◌∷◌, slice_get, Option, Some, None, Result, Ok, Err, refl, sym, ap, ◌∙◌, subst}
use Rattle.std.specs.Prelude.{unwrap_or}
use Rattle.flat_design.specs.Code.{Term, ChannelTerm}
use Rattle.flat_design.specs.Sound.{ChannelFits, DenotedFits}
use Rattle.flat_design.specs.Typed.{ChannelOffers, EachOf}
use Rattle.flat_design.specs.declared.objects.LeadsTo.{LeadsTo}
use Rattle.flat_design.specs.declared.value_types.ValueType.{ValueType}
use Rattle.flat_design.specs.declared.design.ChannelId.{ChannelId}
use Rattle.flat_design.specs.declared.design.Denoted.{Denoted}
use Rattle.flat_design.specs.declared.design.Denoted.TheVariants as denoted
use Rattle.flat_design.specs.declared.design.PortPart.{PortPart}
use Rattle.flat_design.specs.declared.design.Design.{Design}
use Rattle.flat_design.specs.declared.faults.RunFault.{RunFault}
use Rattle.kernel_view.specs.LogicValues.declared.kinds.Value.{Value}
use Rattle.kernel_view.specs.SimModel.Values.{on_ok, cut_to}
use Rattle.kernel_view.specs.SimModel.Residual.{Residual}
use Rattle.kernel_view.specs.SimModel.Configuration.{Config}
use Rattle.kernel_view.specs.SimModel.Reading.{Here, denotes, val, place_in, channel_or, port_channel, channel_of}
use Rattle.kernel_view.specs.SimModel.Channels.{channel_in, write_channel, do_write}
use Rattle.kernel_view.specs.KernelState.declared.kernel.Kernel.{Kernel}
use Rattle.kernel_view.specs.Standings.{Everywhere}
use Rattle.exec_data.specs.Written.{NamesFit, WriteTakes, to_write, write_takes}
use Rattle.exec_data.specs.declared.writes.Transfer.{Transfer}

-- ---- channels of a design

module _ (d : Design) (fit : NamesFit d) where
  fits_in : (t : LeadsTo) (cs : List ChannelId) (k : ℕ) (ch : ChannelId) → EachOf (λ c. ChannelFits d c × ChannelOffers d c t) cs → slice_get cs k ≡ Some ch → ChannelFits d ch
  fits_in t [] k ch each at = absurd cc
  fits_in t (c ∷ cs) zero ch each at = subst (ChannelFits d) (ap (λ o. unwrap_or o c) at) each.0.0
  fits_in t (c ∷ cs) (suc k) ch each at = fits_in t cs k ch each.1 at

  found_by : (cs : List ChannelId) (k : ℕ) (ch : ChannelId) (o : Option ChannelId) → channel_or cs k o ≡ Ok ch → o ≡ Some ch
  found_by cs k ch None is = absurd cc
  found_by cs k ch (Some x) is = cc

  port_fits : (n k : ℕ) (ch : ChannelId) (o : Option PortPart) → slice_get d.ports n ≡ o → port_channel o k ≡ Ok ch → ChannelFits d ch
  port_fits n k ch None at is = absurd cc
  port_fits n k ch (Some q) at is = fits_in q.leads_to q.channels k ch (fit.ports n q at) (found_by q.channels k ch (slice_get q.channels k) is)

  channel_fits : (x : Denoted) → DenotedFits d x → (k : Option ℕ) (ch : ChannelId) → channel_of d x k ≡ Ok ch → ChannelFits d ch
  channel_fits denoted.Nothing there k ch is = absurd cc
  channel_fits (denoted.Channel x) there k ch is = let same : x ≡ ch = cc in subst (ChannelFits d) same there
  channel_fits (denoted.Event e) there k ch is = absurd cc
  channel_fits (denoted.Keeper n) there k ch is = absurd cc
  channel_fits (denoted.Memory m) there k ch is = absurd cc
  channel_fits (denoted.Variable v) there k ch is = absurd cc
  channel_fits (denoted.Port n) there k ch is = port_fits n (unwrap_or k 0) ch (slice_get d.ports n) refl is
  channel_fits (denoted.Process p) there k ch is = absurd cc
  channel_fits (denoted.Socket hop forward) there k ch is = absurd cc

-- ---- the parts of a write

module _ (h : Here) (ch : ChannelTerm) (t : ValueType) (e : Term) where
  -- the channel that a write is for is that of its name at some place
  module _ (x : Transfer) where
    named_by_channel : (k : Option ℕ) (v : Value) (o : Result ChannelId RunFault) → on_ok o (λ y. Ok (record { channel = y; value = cut_to t v })) ≡ Ok x → o ≡ Ok x.channel
    named_by_channel k v (Ok y) is = ap (λ r. on_ok r (λ (z : Transfer). Ok z.channel)) is
    named_by_channel k v (Err f) is = absurd cc

    named_by_value : (k : Option ℕ) (o : Result Value RunFault) → on_ok o (λ v. on_ok (channel_in h ch k) (λ y. Ok (record { channel = y; value = cut_to t v }))) ≡ Ok x → channel_in h ch k ≡ Ok x.channel
    named_by_value k (Ok v) is = named_by_channel k v (channel_in h ch k) is
    named_by_value k (Err f) is = absurd cc

    named_by : (o : Result (Option ℕ) RunFault) → on_ok o (λ k. on_ok (val h e) (λ v. on_ok (channel_in h ch k) (λ y. Ok (record { channel = y; value = cut_to t v })))) ≡ Ok x → (k : Option ℕ) × (channel_in h ch k ≡ Ok x.channel)
    named_by (Ok k) is = (k, named_by_value k (val h e) is)
    named_by (Err f) is = absurd cc

  pub write_fits : (d : Design) → NamesFit d → h.config.design ≡ d → (x : Transfer) → to_write h ch t e ≡ Ok x → ChannelFits d x.channel
  write_fits d fit same x is = subst (λ b. ChannelFits b x.channel) same
      (channel_fits h.config.design here_fit (denotes h ch.channel_name) (here_fit.names h.home ch.channel_name) found.0 x.channel found.1)
    where
      here_fit : NamesFit h.config.design
      here_fit = subst NamesFit (sym same) fit

      found : (k : Option ℕ) × (channel_in h ch k ≡ Ok x.channel)
      found = named_by x (place_in h ch.place) is

  -- once the place and the value are known
  pub write_given : (k : Option ℕ) (v : Value) → place_in h ch.place ≡ Ok k → val h e ≡ Ok v → to_write h ch t e ≡ on_ok (channel_in h ch k) (λ y. Ok (record { channel = y; value = cut_to t v }))
  write_given k v place known = ap (λ o. on_ok o (λ l. on_ok (val h e) (λ w. on_ok (channel_in h ch l) (λ y. Ok (record { channel = y; value = cut_to t w }))))) place
      ∙ ap (λ o. on_ok o (λ w. on_ok (channel_in h ch k) (λ y. Ok (record { channel = y; value = cut_to t w })))) known

  -- a write is what it writes to its channel
  module _ (c : Config) (p : ℕ) (r : Residual) where
    written_by_channel : (v : Value) (o : Result ChannelId RunFault) → on_ok o (write_channel c p r (cut_to t v)) ≡ on_ok (on_ok o (λ y. Ok (record { channel = y; value = cut_to t v }))) (λ (x : Transfer). write_channel c p r x.value x.channel)
    written_by_channel v (Ok y) = refl
    written_by_channel v (Err f) = refl

    written_by_value : (k : Option ℕ) (o : Result Value RunFault) → on_ok o (λ v. on_ok (channel_in h ch k) (write_channel c p r (cut_to t v)))
        ≡ on_ok (on_ok o (λ v. on_ok (channel_in h ch k) (λ y. Ok (record { channel = y; value = cut_to t v })))) (λ (x : Transfer). write_channel c p r x.value x.channel)
    written_by_value k (Ok v) = written_by_channel v (channel_in h ch k)
    written_by_value k (Err f) = refl

    written_by : (o : Result (Option ℕ) RunFault) → on_ok o (λ k. on_ok (val h e) (λ v. on_ok (channel_in h ch k) (write_channel c p r (cut_to t v))))
        ≡ on_ok (on_ok o (λ k. on_ok (val h e) (λ v. on_ok (channel_in h ch k) (λ y. Ok (record { channel = y; value = cut_to t v }))))) (λ (x : Transfer). write_channel c p r x.value x.channel)
    written_by (Ok k) = written_by_value k (val h e)
    written_by (Err f) = refl

    pub write_is : do_write c p r h ch t e ≡ on_ok (to_write h ch t e) (λ (x : Transfer). write_channel c p r x.value x.channel)
    write_is = written_by (place_in h ch.place)

-- what a write of this channel may take it may take where the statement stands
module _ (k : Kernel) (p : ℕ) (ch : ChannelTerm) (t : ValueType) (e : Term) (answer : Result Transfer RunFault) (gives : Everywhere k p (λ h. answer ≡ to_write h ch t e)) (x : Transfer) (is : answer ≡ Ok x) where
  pub takes_here : write_takes x.channel ≡ true → Everywhere k p (λ h. WriteTakes h ch t e)
  takes_here takes c i h there = ap (λ o. on_ok o (λ (y : Transfer). Ok (write_takes y.channel))) (sym (gives c i h there) ∙ is) ∙ ap Ok takes
