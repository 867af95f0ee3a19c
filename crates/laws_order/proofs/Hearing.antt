-- What a statement waits for, where it names neither the end nor the reset of a process.
use Rattle.std.proofs.Common.{ℕ, not, List, [], ◌∷◌, Option}
use Rattle.std.specs.Prelude.{⊤, Result, Ok, Err}
use Rattle.std.specs.Result.{IfOk}
use Rattle.sim_model.specs.EventCore.Ev.{same_event}
use Rattle.sim_model.specs.EventCore.declared.event.Ev.{Ev}
use Rattle.sim_model.specs.FlatDesign.Code as code
use Rattle.sim_model.specs.FlatDesign.Code.{Term, EventTerm, AwaitTerm}
use Rattle.sim_model.specs.FlatDesign.Typed.{EachOf}
use Rattle.sim_model.specs.FlatDesign.declared.names.NameUse.{NameUse}
use Rattle.sim_model.specs.FlatDesign.declared.names.NameUse.TheVariants as name_use
use Rattle.sim_model.specs.FlatDesign.declared.names.EventMember.{EventMember}
use Rattle.sim_model.specs.FlatDesign.declared.names.EventMember.TheVariants as event
use Rattle.sim_model.specs.FlatDesign.declared.design.ChannelId.{ChannelId}
use Rattle.sim_model.specs.FlatDesign.declared.design.Denoted.{Denoted}
use Rattle.sim_model.specs.FlatDesign.declared.design.Denoted.TheVariants as denoted
use Rattle.sim_model.specs.FlatDesign.declared.faults.RunFault.{RunFault}
use Rattle.sim_model.specs.Values.{on_ok, moment}
use Rattle.sim_model.specs.Configuration.{Wait, waits_for_any, waits_for_all, Trigger}
use Rattle.sim_model.specs.Waits.{once, deadline_in}
use Rattle.sim_model.specs.Reading.{Here, denotes, channel_of, val}
use Rattle.sim_model.specs.Waiting.{channel_event, object_event, named_object_event, event_of, places_in, events_at, time_if, deadline_if, awaits, awaited}
use Rattle.laws_order.specs.Fits.{IsFixed, HearsFixed}
use Rattle.laws_order.proofs.OwnPlaces.{filter-each}

-- ---- names of events

abbrev pub IsFixedMember : EventMember → Type 0
IsFixedMember event.Own = ⊤
IsFixedMember event.Posedge = ⊤
IsFixedMember event.Negedge = ⊤
IsFixedMember event.DataWritten = ⊤
IsFixedMember event.DataRead = ⊤
IsFixedMember event.Terminated = ⊥
IsFixedMember event.Reset = ⊥

abbrev pub IsFixedName : EventTerm → Type 0
IsFixedName e = IsFixedMember e.event

abbrev pub NamesFixed : AwaitTerm → Type 0
NamesFixed code.static = ⊤
NamesFixed code.delta = ⊤
NamesFixed (code.for_ e) = ⊤
NamesFixed (code.any es t) = EachOf IsFixedName es
NamesFixed (code.all es t) = EachOf IsFixedName es

-- ---- on from a value

pub if-then : {A B : Type 0} (P : B → Type 0) (m : Result A RunFault) (f : A → Result B RunFault) → ((x : A) → IfOk (f x) P) → IfOk (on_ok m f) P
if-then P (Ok x) f h = h x
if-then P (Err e) f h = tt

pub if_known-then : {A B : Type 0} (Q : A → Type 0) (P : B → Type 0) (m : Result A RunFault) (f : A → Result B RunFault) → IfOk m Q → ((x : A) → Q x → IfOk (f x) P) → IfOk (on_ok m f) P
if_known-then Q P (Ok x) f known h = h x known
if_known-then Q P (Err e) f known h = tt

-- ---- the events that are named

module _ (h : Here) where
  channel_fixed : (e : EventMember) (m : Result ChannelId RunFault) → IfOk (on_ok m (λ ch. Ok (channel_event e ch))) IsFixed
  channel_fixed e (Ok ch) = tt
  channel_fixed e (Err f) = tt

  object_fixed : (e : EventMember) (k : Option ℕ) (x : Denoted) → IfOk (object_event h e k x) IsFixed
  object_fixed e k denoted.Nothing = channel_fixed e (channel_of h.config.design denoted.Nothing k)
  object_fixed e k (denoted.Channel ch) = tt
  object_fixed e k (denoted.Event n) = tt
  object_fixed e k (denoted.Keeper n) = channel_fixed e (channel_of h.config.design (denoted.Keeper n) k)
  object_fixed e k (denoted.Memory n) = channel_fixed e (channel_of h.config.design (denoted.Memory n) k)
  object_fixed e k (denoted.Variable n) = channel_fixed e (channel_of h.config.design (denoted.Variable n) k)
  object_fixed e k (denoted.Port n) = channel_fixed e (channel_of h.config.design (denoted.Port n) k)
  object_fixed e k (denoted.Process p) = channel_fixed e (channel_of h.config.design (denoted.Process p) k)
  object_fixed e k (denoted.Socket hop forward) = channel_fixed e (channel_of h.config.design (denoted.Socket hop forward) k)

  named_fixed : (e : EventMember) (k : Option ℕ) (n : NameUse) → IfOk (named_object_event h e k n) IsFixed
  named_fixed e k (name_use.Local n) = tt
  named_fixed e k (name_use.Declared n) = object_fixed e k (denotes h n)

  event_fixed : (n : NameUse) (k : Option ℕ) (e : EventMember) → IsFixedMember e → IfOk (event_of h n k e) IsFixed
  event_fixed n k event.Own fixed = named_fixed event.Own k n
  event_fixed n k event.Posedge fixed = named_fixed event.Posedge k n
  event_fixed n k event.Negedge fixed = named_fixed event.Negedge k n
  event_fixed n k event.DataWritten fixed = named_fixed event.DataWritten k n
  event_fixed n k event.DataRead fixed = named_fixed event.DataRead k n
  event_fixed n k event.Terminated fixed = absurd fixed
  event_fixed n k event.Reset fixed = absurd fixed

  events_fixed : (es : List EventTerm) (ks : List (Option ℕ)) → EachOf IsFixedName es → IfOk (events_at h es ks) (EachOf IsFixed)
  events_fixed [] ks fixed = tt
  events_fixed (e ∷ es) [] fixed = tt
  events_fixed (e ∷ es) (k ∷ ks) fixed =
      if_known-then IsFixed (EachOf IsFixed) (event_of h e.event_name k e.event) (λ x. on_ok (events_at h es ks) (λ xs. Ok (x ∷ xs))) (event_fixed e.event_name k e.event fixed.0) (λ x one_.
      if_known-then (EachOf IsFixed) (EachOf IsFixed) (events_at h es ks) (λ xs. Ok (x ∷ xs)) (events_fixed es ks fixed.1) (λ xs more. (one_, more)))

  once_fixed : (xs : List Ev) → EachOf IsFixed xs → EachOf IsFixed (once xs)
  once_fixed [] fixed = tt
  once_fixed (x ∷ xs) fixed = (fixed.0, filter-each IsFixed (λ (y : Ev). not (same_event x y)) (once xs) (once_fixed xs fixed.1))

  abbrev Hears : Trigger → Type 0
  Hears t = HearsFixed t.wait

  module _ (how : List Ev → Wait) (heard : (xs : List Ev) → EachOf IsFixed xs → HearsFixed (how xs)) where
    abbrev until : Option ℕ → List Ev → Result Trigger RunFault
    until u xs = on_ok (deadline_if h.config.cycle.now u) (λ d. Ok (record { wait = how xs; deadline = d }))

    until_fixed : (u : Option ℕ) (xs : List Ev) → EachOf IsFixed xs → IfOk (until u xs) Hears
    until_fixed u xs known = if-then Hears (deadline_if h.config.cycle.now u) (λ d. Ok (record { wait = how xs; deadline = d })) (λ d. heard xs known)

    awaits_fixed : (es : List EventTerm) (t : Option Term) → EachOf IsFixedName es → IfOk (awaits h how es t) Hears
    awaits_fixed es t fixed =
        if-then Hears (places_in h es) (λ ks. on_ok (time_if h t) (λ u. on_ok (events_at h es ks) (until u))) (λ ks.
        if-then Hears (time_if h t) (λ u. on_ok (events_at h es ks) (until u)) (λ u.
        if_known-then (EachOf IsFixed) Hears (events_at h es ks) (until u) (events_fixed es ks fixed) (until_fixed u)))

  pub awaited-fixed : (w : AwaitTerm) → NamesFixed w → IfOk (awaited h w) Hears
  awaited-fixed code.static fixed = tt
  awaited-fixed code.delta fixed = tt
  awaited-fixed (code.for_ e) fixed =
      if-then Hears (val h e) (λ v. on_ok (deadline_in h.config.cycle.now (moment v)) (λ d. Ok (record { wait = waits_for_any []; deadline = d }))) (λ v.
      if-then Hears (deadline_in h.config.cycle.now (moment v)) (λ d. Ok (record { wait = waits_for_any []; deadline = d })) (λ d. tt))
  awaited-fixed (code.any es t) fixed = awaits_fixed waits_for_any (λ xs known. known) es t fixed
  awaited-fixed (code.all es t) fixed = awaits_fixed (λ xs. waits_for_all (once xs)) (λ xs known. once_fixed xs known) es t fixed
