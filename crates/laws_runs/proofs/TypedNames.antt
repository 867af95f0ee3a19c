-- What names and members stand for has its type, among contents that have theirs.
use Rattle.std.proofs.Common.{◌≡◌, ◌<◌, ℕ, zero, suc, Bool, false, List, [], ◌∷◌, slice_get, length, option_map, unwrap_or, Option, Some, None, refl, sym, ap, ◌∙◌, subst, arith, ⊎_elim}
use Rattle.std.specs.Prelude.{Result, Ok, Err, IfOk}
use Rattle.std.proofs.lemmas.Option.{none-some, same_Some}
use Rattle.sim_model.specs.LogicValues.declared.kinds.Value.TheVariants as value
use Rattle.sim_model.specs.SignalChannel.Drivers.{Driven}
use Rattle.sim_model.specs.QuantumKeeper.declared.keeper.Keeper.{Keeper}
use Rattle.sim_model.specs.FlatDesign.ValueTypes.{in_expressions}
use Rattle.sim_model.specs.FlatDesign.Denotes.{type_of_variable, variable_type}
use Rattle.sim_model.specs.FlatDesign.Typed.{ChannelOffers, PortOffers, Offers, IsProcess, UseOffers, UsesKeeper, ChannelMember, MemberType, NameType, field_type}
use Rattle.sim_model.specs.FlatDesign.Sound.{SoundDesign, ChannelFits, DenotedFits, PortFits}
use Rattle.sim_model.specs.FlatDesign.declared.value_types.ValueType.{ValueType}
use Rattle.sim_model.specs.FlatDesign.declared.value_types.ValueType.TheVariants as type
use Rattle.sim_model.specs.FlatDesign.declared.names.NameUse.{NameUse}
use Rattle.sim_model.specs.FlatDesign.declared.names.NameUse.TheVariants as name_use
use Rattle.sim_model.specs.FlatDesign.declared.names.Member.{Member}
use Rattle.sim_model.specs.FlatDesign.declared.names.Member.TheVariants as member
use Rattle.sim_model.specs.FlatDesign.declared.names.PayloadField.{PayloadField}
use Rattle.sim_model.specs.FlatDesign.declared.names.PayloadField.TheVariants as field
use Rattle.sim_model.specs.FlatDesign.declared.objects.LeadsTo.{LeadsTo}
use Rattle.sim_model.specs.FlatDesign.declared.objects.LeadsTo.TheVariants as leads
use Rattle.sim_model.specs.FlatDesign.declared.code.Local.{Local}
use Rattle.sim_model.specs.FlatDesign.declared.design.ChannelId.{ChannelId}
use Rattle.sim_model.specs.FlatDesign.declared.design.ChannelId.TheVariants as channel
use Rattle.sim_model.specs.FlatDesign.declared.design.Denoted.{Denoted}
use Rattle.sim_model.specs.FlatDesign.declared.design.Denoted.TheVariants as denoted
use Rattle.sim_model.specs.FlatDesign.declared.design.Design.{Design}
use Rattle.sim_model.specs.FlatDesign.declared.design.PortPart.{PortPart}
use Rattle.sim_model.specs.FlatDesign.declared.design.VariablePart.{VariablePart}
use Rattle.sim_model.specs.FlatDesign.declared.faults.RunFault.{RunFault}
use Rattle.sim_model.specs.Values.{on_ok, widened}
use Rattle.sim_model.specs.Configuration.{Config}
use Rattle.sim_model.specs.Reading.{Here, denotes, channel_or, port_channel, channel_of, channel_here, channel_value, signal_value, local_value, variable_value, read_denoted, read_name, not_empty, process_of, payload_here, channel_member, member_of_channel, keeper_number, keeper_at, keeper_here, sync_needed, keeper_member, field_value, member_value, read_wide, resolved_value}
use Rattle.laws_runs.specs.Contents.{IsOf, LocalFits, VariableFits, SignalFits, ContentsFit, PlaceFits, context_of}
use Rattle.laws_runs.proofs.TypedLists.{partner-at, each-at, element-within}
use Rattle.laws_runs.proofs.Types.{widened-type, if-any, if-is}

-- ---- channels

-- what a channel offers to write it offers to read
read_too : (d : Design) (ch : ChannelId) (t : ValueType) → ChannelOffers d ch (leads.Out t) → ChannelOffers d ch (leads.In t)
read_too d (channel.Signal n events) t h = h
read_too d (channel.Resolved n events) t h = h
read_too d (channel.Fifo n events) t h = h
read_too d (channel.Mutex n events) t h = h
read_too d (channel.Semaphore n events) t h = h

port_offers : (d : Design) (ch : ChannelId) (kind wanted : LeadsTo) → PortOffers kind wanted → ChannelOffers d ch kind → ChannelOffers d ch wanted
port_offers d ch kind wanted o h =
    ⊎_elim (λ same. subst (ChannelOffers d ch) same h)
    (λ e. subst (ChannelOffers d ch) (sym e.2) (read_too d ch e.0 (subst (ChannelOffers d ch) e.1 h))) o

abbrev pub OffersOf : Design → LeadsTo → ChannelId → Type 0
OffersOf d wanted ch = ChannelFits d ch × ChannelOffers d ch wanted

one_channel : (d : Design) (p : PortPart) (wanted : LeadsTo) (k : ℕ) → PortFits d p → PortOffers p.leads_to wanted → (o : Option ChannelId) → slice_get p.channels k ≡ o → IfOk (channel_or p.channels k o) (OffersOf d wanted)
one_channel d p wanted k fits offers None at = tt
one_channel d p wanted k fits offers (Some ch) at =
    let c = each-at (λ c. ChannelFits d c × ChannelOffers d c p.leads_to) p.channels k ch fits at in
    (c.0, port_offers d ch p.leads_to wanted offers c.1)

-- what a name offers, the channel that it stands for does
pub channel-offers : (d : Design) → SoundDesign d → (x : Denoted) (k : Option ℕ) (wanted : LeadsTo) → DenotedFits d x → Offers d x wanted → IfOk (channel_of d x k) (OffersOf d wanted)
channel-offers d sound denoted.Nothing k wanted fits h = absurd h
channel-offers d sound (denoted.Channel ch) k wanted fits h = (fits, h)
channel-offers d sound (denoted.Event e) k wanted fits h = absurd h
channel-offers d sound (denoted.Keeper n) k wanted fits h = absurd h
channel-offers d sound (denoted.Memory n) k wanted fits h = absurd h
channel-offers d sound (denoted.Variable n) k wanted fits h = absurd h
channel-offers d sound (denoted.Port n) k wanted fits h =
    let p = h.0 in
    let place = unwrap_or k 0 in
    subst (λ o. IfOk (port_channel o place) (OffersOf d wanted)) (sym h.1) (one_channel d p wanted place (sound.ports n p h.1) h.2 (slice_get p.channels place) refl)
channel-offers d sound (denoted.Process n) k wanted fits h = absurd h
channel-offers d sound (denoted.Socket hop forward) k wanted fits h = absurd h

-- a channel that is read has a value of its type
some_resolved : (o : Option Driven) (x : Driven) → o ≡ Some x → IsOf type.Logic (resolved_value o)
some_resolved o x e = subst (λ o. IsOf type.Logic (resolved_value o)) (sym e) refl

resolved_there : (c : Config) (n : ℕ) → ContentsFit c → n < length c.design.resolved → IsOf type.Logic (resolved_value (slice_get c.channels.resolved n))
resolved_there c n fit within =
    let same = fit.resolved in
    let x = element-within c.channels.resolved n (omega (arith, within, same)) in
    some_resolved (slice_get c.channels.resolved n) x.0 x.1

below_length : {A : Type 0} (xs : List A) (n : ℕ) (x : A) → slice_get xs n ≡ Some x → n < length xs
below_length [] n x at = absurd (none-some x at)
below_length (y ∷ xs) zero x at = omega arith
below_length (y ∷ xs) (suc n) x at = let h = below_length xs n x at in omega (arith, h)

pub channel-value : (c : Config) (ch : ChannelId) (t : ValueType) → ContentsFit c → ChannelFits c.design ch → ChannelOffers c.design ch (leads.In t) → IsOf t (channel_value c ch)
channel-value c (channel.Signal n events) t fit there o =
    let s = partner-at SignalFits c.design.signals c.channels.signals n o.0 fit.signals o.1 in
    subst (λ x. IsOf t (signal_value x)) (sym s.at) (s.fits.0 ∙ o.2)
channel-value c (channel.Resolved n events) t fit there o = resolved_there c n fit (below_length c.design.resolved n there.0 there.1) ∙ sym o
channel-value c (channel.Fifo n events) t fit there o = absurd o
channel-value c (channel.Mutex n events) t fit there o = absurd o
channel-value c (channel.Semaphore n events) t fit there o = absurd o

-- ---- names

module _ (h : Here) (sound : SoundDesign h.config.design) (locals : List Local) (place : PlaceFits locals h) where
  abbrev d : Design
  d = h.config.design

  there : (n : ℕ) → DenotedFits d (denotes h n)
  there n = sound.names h.home n

  channel_type : (x : Denoted) (k : Option ℕ) (t : ValueType) → DenotedFits d x → Offers d x (leads.In t) → IfOk (channel_of d x k) (λ ch. IsOf t (channel_value h.config ch))
  channel_type x k t fits offers = weaker (channel_of d x k) (channel-offers d sound x k (leads.In t) fits offers)
    where
      weaker : (m : Result ChannelId RunFault) → IfOk m (OffersOf d (leads.In t)) → IfOk m (λ ch. IsOf t (channel_value h.config ch))
      weaker (Ok ch) o = channel-value h.config ch t place.contents o.0 o.1
      weaker (Err e) o = tt

  -- a variable of a module, and any variable
  module_variable : (x : Denoted) (t : ValueType) → type_of_variable d x ≡ Some t → IfOk (read_denoted h x) (IsOf t)
  module_variable denoted.Nothing t is = absurd (none-some t is)
  module_variable (denoted.Channel ch) t is = absurd (none-some t is)
  module_variable (denoted.Event e) t is = absurd (none-some t is)
  module_variable (denoted.Keeper n) t is = absurd (none-some t is)
  module_variable (denoted.Memory n) t is = absurd (none-some t is)
  module_variable (denoted.Variable n) t is = variable_at (slice_get d.variables n) refl is
    where
      variable_at : (o : Option VariablePart) → slice_get d.variables n ≡ o → option_map (λ (p : VariablePart). p.value_type) o ≡ Some t → IsOf t (variable_value h n)
      variable_at None at e = absurd (none-some t e)
      variable_at (Some p) at e =
          let v = partner-at VariableFits d.variables h.config.store.variables n p place.contents.variables at in
          subst (λ o. IsOf t (unwrap_or o (value.Bool false))) (sym v.at) (v.fits ∙ same_Some p.value_type t e)
  module_variable (denoted.Port n) t is = absurd (none-some t is)
  module_variable (denoted.Process n) t is = absurd (none-some t is)
  module_variable (denoted.Socket hop forward) t is = absurd (none-some t is)

  pub variable-type : (n : NameUse) (t : ValueType) → variable_type (context_of locals h) n ≡ Some t → IfOk (read_name h n) (IsOf t)
  variable-type (name_use.Local i) t is = local_at (slice_get locals i) refl is
    where
      local_at : (o : Option Local) → slice_get locals i ≡ o → option_map (λ (l : Local). l.value_type) o ≡ Some t → IsOf t (local_value h i)
      local_at None at e = absurd (none-some t e)
      local_at (Some l) at e =
          let v = partner-at LocalFits locals h.locals i l place.locals_fit at in
          subst (λ o. IsOf t (unwrap_or o (value.Bool false))) (sym v.at) (v.fits ∙ same_Some l.value_type t e)
  variable-type (name_use.Declared n) t is = module_variable (denotes h n) t is

  -- a channel that is read by its name
  channel_read : (x : Denoted) (t : ValueType) → DenotedFits d x → Offers d x (leads.In t) → IfOk (read_denoted h x) (IsOf t)
  channel_read denoted.Nothing t fits o = absurd o
  channel_read (denoted.Channel ch) t fits o = channel-value h.config ch t place.contents fits o
  channel_read (denoted.Event e) t fits o = absurd o
  channel_read (denoted.Keeper n) t fits o = absurd o
  channel_read (denoted.Memory n) t fits o = absurd o
  channel_read (denoted.Variable n) t fits o = absurd o
  channel_read (denoted.Port n) t fits o = if-is (λ ch. IsOf t (channel_value h.config ch)) (IsOf t) (channel_of d (denoted.Port n) None) _ (channel_type (denoted.Port n) None t fits o) (λ ch is. is)
  channel_read (denoted.Process n) t fits o = absurd o
  channel_read (denoted.Socket hop forward) t fits o = absurd o

  use_read : (n : NameUse) (t : ValueType) → UseOffers (context_of locals h) n (leads.In t) → IfOk (read_name h n) (IsOf t)
  use_read (name_use.Local i) t o = absurd o
  use_read (name_use.Declared n) t o = channel_read (denotes h n) t (there n) o

  process_read : (x : Denoted) (p : ℕ) → x ≡ denoted.Process p → IfOk (read_denoted h x) (IsOf type.Process)
  process_read x p e = subst (λ x. IfOk (read_denoted h x) (IsOf type.Process)) (sym e) refl

  pub process-type : (n : NameUse) → IsProcess (context_of locals h) n → IfOk (read_name h n) (IsOf type.Process)
  process-type (name_use.Local i) is = variable-type (name_use.Local i) type.Process is
  process-type (name_use.Declared n) is = ⊎_elim (λ p. process_read (denotes h n) p.0 p.1) (λ v. variable-type (name_use.Declared n) type.Process v) is

  widened_read : (n : NameUse) (s t : ValueType) → t ≡ in_expressions s → IfOk (read_name h n) (IsOf s) → IfOk (read_wide (read_name h n)) (IsOf t)
  widened_read n s t e is = if-is (IsOf s) (IsOf t) (read_name h n) _ is (λ v typed. widened-type v ∙ ap in_expressions typed ∙ sym e)

  pub name-type : (n : NameUse) (t : ValueType) → NameType (context_of locals h) n t → IfOk (read_wide (read_name h n)) (IsOf t)
  name-type n t is =
      ⊎_elim (λ v. widened_read n v.0 t v.2 (variable-type n v.0 v.1))
      (λ other. ⊎_elim (λ c. widened_read n c.0 t c.2 (use_read n c.0 c.1)) (λ p. widened_read n type.Process t p.1 (process-type n p.0)) other) is

  -- a channel at a place
  pub placed-type : (n : ℕ) (k : Option ℕ) (s t : ValueType) → Offers d (denotes h n) (leads.In s) → t ≡ in_expressions s → IfOk (on_ok (channel_here h n k) (λ ch. Ok (widened (channel_value h.config ch)))) (IsOf t)
  placed-type n k s t o e = if-is (λ ch. IsOf s (channel_value h.config ch)) (IsOf t) (channel_here h n k) _ (channel_type (denotes h n) k s (there n) o) (λ ch is. widened-type (channel_value h.config ch) ∙ ap in_expressions is ∙ sym e)

  -- ---- members

  channel_member_type : (Has : LeadsTo → Type 0) (m : Member) (t : ValueType) (ch : ChannelId) → ChannelMember Has m t → IsOf t (channel_member h.config m ch)
  channel_member_type Has member.Changed t ch is = sym is.1
  channel_member_type Has member.Available t ch is = sym is.1
  channel_member_type Has member.Free t ch is = sym is.1
  channel_member_type Has member.Value t ch is = sym is.1
  channel_member_type Has member.Valid t ch is = absurd is
  channel_member_type Has member.Terminated t ch is = absurd is
  channel_member_type Has member.Live t ch is = absurd is
  channel_member_type Has (member.Field f) t ch is = absurd is
  channel_member_type Has member.Length t ch is = absurd is
  channel_member_type Has member.EnableLength t ch is = absurd is
  channel_member_type Has member.Local t ch is = absurd is
  channel_member_type Has member.Next t ch is = absurd is
  channel_member_type Has member.NeedSync t ch is = absurd is

  pub placed_member-type : (n : ℕ) (k : Option ℕ) (m : Member) (t : ValueType) → ChannelMember (Offers d (denotes h n)) m t → IfOk (on_ok (channel_here h n k) (λ ch. Ok (channel_member h.config m ch))) (IsOf t)
  placed_member-type n k m t is = if-any (IsOf t) (channel_here h n k) _ (λ ch. channel_member_type (Offers d (denotes h n)) m t ch is)

  -- a local variable offers nothing as a channel
  no_local : (m : Member) (i : ℕ) (t : ValueType) → ChannelMember (UseOffers (context_of locals h) (name_use.Local i)) m t → ⊥
  no_local member.Changed i t is = is.0.1
  no_local member.Available i t is = ⊎_elim (λ x. x) (λ x. x) is.0.1
  no_local member.Free i t is = ⊎_elim (λ x. x) (λ x. x) is.0.1
  no_local member.Value i t is = is.0
  no_local member.Valid i t is = is
  no_local member.Terminated i t is = is
  no_local member.Live i t is = is
  no_local (member.Field f) i t is = is
  no_local member.Length i t is = is
  no_local member.EnableLength i t is = is
  no_local member.Local i t is = is
  no_local member.Next i t is = is
  no_local member.NeedSync i t is = is

  use_member : (n : NameUse) (m : Member) (t : ValueType) → ChannelMember (UseOffers (context_of locals h) n) m t → IfOk (member_of_channel h n m) (IsOf t)
  use_member (name_use.Local i) m t is = absurd (no_local m i t is)
  use_member (name_use.Declared n) m t is = placed_member-type n None m t is

  keeper_there : (n : NameUse) → UsesKeeper (context_of locals h) n → (k : Keeper) × (keeper_here h n ≡ Some k)
  keeper_there (name_use.Local i) is = absurd is
  keeper_there (name_use.Declared n) is =
      let same = place.contents.keepers_there in
      let within = is.2 in
      let k = element-within h.config.quantum.keepers is.0 (omega (arith, same, within)) in
      (k.0, ap (λ x. keeper_at h.config (keeper_number x)) is.1 ∙ k.1)

  keeper_type : (n : NameUse) (m : Member) (t : ValueType) → UsesKeeper (context_of locals h) n → ((k : Keeper) → IfOk (keeper_member h.config.cycle.now m (Some k)) (IsOf t)) → IfOk (keeper_member h.config.cycle.now m (keeper_here h n)) (IsOf t)
  keeper_type n m t is each = let k = keeper_there n is in subst (λ o. IfOk (keeper_member h.config.cycle.now m o) (IsOf t)) (sym k.1) (each k.0)

  sync_type : (o : Option Bool) → IfOk (sync_needed o) (IsOf type.Bool)
  sync_type None = tt
  sync_type (Some b) = refl

  field_type_is : (f : PayloadField) (p : _) → IsOf (in_expressions (field_type f)) (field_value f p)
  field_type_is field.Command p = refl
  field_type_is field.Status p = refl
  field_type_is field.Address p = refl
  field_type_is field.Width p = refl

  pub member-type : (n : NameUse) (m : Member) (t : ValueType) → MemberType (context_of locals h) n m t → IfOk (member_value h n m) (IsOf t)
  member-type n member.Changed t is = use_member n member.Changed t is
  member-type n member.Available t is = use_member n member.Available t is
  member-type n member.Free t is = use_member n member.Free t is
  member-type n member.Value t is = use_member n member.Value t is
  member-type n member.Valid t is = sym is.1
  member-type n member.Terminated t is = if-any (IsOf t) (not_empty (process_of h n)) _ (λ p. sym is.1)
  member-type n member.Live t is = sym is.1
  member-type n (member.Field f) t is = if-any (IsOf t) (payload_here h n) _ (λ p. field_type_is f p ∙ sym is.1)
  member-type n member.Length t is = if-any (IsOf t) (payload_here h n) _ (λ p. sym is.1)
  member-type n member.EnableLength t is = if-any (IsOf t) (payload_here h n) _ (λ p. sym is.1)
  member-type n member.Local t is = subst (λ t. IfOk (keeper_member h.config.cycle.now member.Local (keeper_here h n)) (IsOf t)) (sym is.1) (keeper_type n member.Local type.Time is.0 (λ k. refl))
  member-type n member.Next t is = subst (λ t. IfOk (keeper_member h.config.cycle.now member.Next (keeper_here h n)) (IsOf t)) (sym is.1) (keeper_type n member.Next type.Time is.0 (λ k. refl))
  member-type n member.NeedSync t is = subst (λ t. IfOk (keeper_member h.config.cycle.now member.NeedSync (keeper_here h n)) (IsOf t)) (sym is.1) (keeper_type n member.NeedSync type.Bool is.0 (λ k. sync_type _))
