-- How a process waits, where it sees two configurations alike, and what a call gets.
use Rattle.std.proofs.Common.{◌≡◌, ℕ, suc, List, [], ◌∷◌, ◌++◌, Option, Some, None, refl}
use Rattle.std.specs.Prelude.{Contains}
use Rattle.std.specs.List.{flat_map}
use Rattle.sim_model.specs.LogicValues.declared.kinds.Value.{Value}
use Rattle.sim_model.specs.EventCore.declared.event.Ev.{Ev}
use Rattle.sim_model.specs.EventCore.declared.notifications.Pending.{Pending}
use Rattle.sim_model.specs.FlatDesign.Code as code
use Rattle.sim_model.specs.FlatDesign.Code.{Term, EventTerm, AwaitTerm, ArgumentTerm}
use Rattle.sim_model.specs.FlatDesign.declared.names.NameUse.{NameUse}
use Rattle.sim_model.specs.FlatDesign.declared.names.EventMember.{EventMember}
use Rattle.sim_model.specs.FlatDesign.declared.names.EventMember.TheVariants as event
use Rattle.sim_model.specs.FlatDesign.declared.code.Local.{Local}
use Rattle.sim_model.specs.Configuration.{Config, Processes, Channels, Store, Quantum, Trace, Wait}
use Rattle.sim_model.specs.Reading.{Here, place_in, val}
use Rattle.sim_model.specs.Waiting.{event_of, places_in, events_at, time_if, awaits, awaited}
use Rattle.sim_model.specs.Calls.{argument_value, argument_values}
use Rattle.sim_model.specs.declared.plain.Command.{Command}
use Rattle.order_free.specs.declared.uses.Deed.{Deed}
use Rattle.order_free.specs.declared.uses.Use.{Use}
use Rattle.order_free.specs.declared.uses.Use.TheVariants as used
use Rattle.order_free.specs.Uses.{deeds_of_name, deeds_of_term, deeds_of_written, deeds_of_event_member, deeds_of_event, deeds_of_await, deeds_of_argument, uses_of_deed}
use Rattle.laws_order.specs.Sees.{Sees}
use Rattle.laws_order.proofs.Reading as reading
use Rattle.laws_order.proofs.Reading.{on_ok-alike}

module _ (Has : Use → Type 0) (unfit : Has used.Unfit → ⊥) (watches : Has used.Watches → ⊥) (p : ℕ) (c : Config) (ps : Processes) (es : List Pending) (ch : Channels) (st : Store) (qu : Quantum) (sc : List Command) (tr : Trace) where
  abbrev x : Config
  x = record c { processes = ps; events = es; channels = ch; store = st; quantum = qu; script = sc; trace = tr }

  module _ (s : Sees Has p c x) (home : ℕ) (locals : List Value) where
    abbrev h : Here
    h = record { config = c; serial = p; home = home; locals = locals }

    abbrev k : Here
    k = record { config = x; serial = p; home = home; locals = locals }

    abbrev Owns : List Deed → Type 0
    Owns ds = (u : Use) → Contains (flat_map (uses_of_deed c.design home) ds) u → Has u

    abbrev left : (ds ts : List Deed) → Owns (ds ++ ts) → Owns ds
    left = reading.owns-left Has unfit watches p c ps es ch st qu sc tr s home locals

    abbrev right : (ds ts : List Deed) → Owns (ds ++ ts) → Owns ts
    right = reading.owns-right Has unfit watches p c ps es ch st qu sc tr s home locals

    abbrev value_same : (e : Term) → Owns (deeds_of_term e) → val k e ≡ val h e
    value_same = reading.val-same Has unfit watches p c ps es ch st qu sc tr s home locals

    abbrev place_same : (e : Option Term) → Owns (deeds_of_written e) → place_in k e ≡ place_in h e
    place_same = reading.place-same Has unfit watches p c ps es ch st qu sc tr s home locals

    places_same : (ts : List EventTerm) → Owns (flat_map deeds_of_event ts) → places_in k ts ≡ places_in h ts
    places_same [] mine = refl
    places_same (e ∷ ts) mine =
        on_ok-alike (place_in h e.place) (place_in k e.place) _ _ (place_same e.place (right (deeds_of_name e.event_name) (deeds_of_written e.place) (left (deeds_of_name e.event_name ++ deeds_of_written e.place) (deeds_of_event_member e.event) (left (deeds_of_event e) (flat_map deeds_of_event ts) mine)))) (λ i.
        on_ok-alike (places_in h ts) (places_in k ts) _ _ (places_same ts (right (deeds_of_event e) (flat_map deeds_of_event ts) mine)) (λ is. refl))

    event_same : (n : NameUse) (i : Option ℕ) (m : EventMember) → Owns (deeds_of_event_member m) → event_of k n i m ≡ event_of h n i m
    event_same n i event.Own mine = refl
    event_same n i event.Posedge mine = refl
    event_same n i event.Negedge mine = refl
    event_same n i event.DataWritten mine = refl
    event_same n i event.DataRead mine = refl
    event_same n i event.Terminated mine = reading.never-watches Has unfit watches p c ps es ch st qu sc tr s home locals [] mine
    event_same n i event.Reset mine = reading.never-watches Has unfit watches p c ps es ch st qu sc tr s home locals [] mine

    events_same : (ts : List EventTerm) (is : List (Option ℕ)) → Owns (flat_map deeds_of_event ts) → events_at k ts is ≡ events_at h ts is
    events_same [] is mine = refl
    events_same (e ∷ ts) [] mine = refl
    events_same (e ∷ ts) (i ∷ is) mine =
        on_ok-alike (event_of h e.event_name i e.event) (event_of k e.event_name i e.event) _ _ (event_same e.event_name i e.event (right (deeds_of_name e.event_name ++ deeds_of_written e.place) (deeds_of_event_member e.event) (left (deeds_of_event e) (flat_map deeds_of_event ts) mine))) (λ y.
        on_ok-alike (events_at h ts is) (events_at k ts is) _ _ (events_same ts is (right (deeds_of_event e) (flat_map deeds_of_event ts) mine)) (λ ys. refl))

    time_same : (t : Option Term) → Owns (deeds_of_written t) → time_if k t ≡ time_if h t
    time_same None mine = refl
    time_same (Some e) mine = on_ok-alike (val h e) (val k e) _ _ (value_same e mine) (λ v. refl)

    awaits_same : (how : List Ev → Wait) (ts : List EventTerm) (t : Option Term) → Owns (flat_map deeds_of_event ts ++ deeds_of_written t) → awaits k how ts t ≡ awaits h how ts t
    awaits_same how ts t mine =
        on_ok-alike (places_in h ts) (places_in k ts) _ _ (places_same ts (left (flat_map deeds_of_event ts) (deeds_of_written t) mine)) (λ is.
        on_ok-alike (time_if h t) (time_if k t) _ _ (time_same t (right (flat_map deeds_of_event ts) (deeds_of_written t) mine)) (λ u.
        on_ok-alike (events_at h ts is) (events_at k ts is) _ _ (events_same ts is (left (flat_map deeds_of_event ts) (deeds_of_written t) mine)) (λ ys. refl)))

    -- it waits alike
    pub awaited-same : (w : AwaitTerm) → Owns (deeds_of_await w) → awaited k w ≡ awaited h w
    awaited-same code.static mine = refl
    awaited-same code.delta mine = refl
    awaited-same (code.for_ e) mine = on_ok-alike (val h e) (val k e) _ _ (value_same e mine) (λ v. refl)
    awaited-same (code.any ts t) mine = awaits_same _ ts t mine
    awaited-same (code.all ts t) mine = awaits_same _ ts t mine

    argument_same : (a : ArgumentTerm) → Owns (deeds_of_argument a) → argument_value k a ≡ argument_value h a
    argument_same (code.by_value e) mine = value_same e mine
    argument_same (code.inout n) mine = reading.name-same Has unfit watches p c ps es ch st qu sc tr s home locals n mine

    -- and gives the same values to a call
    pub arguments-same : (ls : List Local) (i : ℕ) (xs : List ArgumentTerm) → Owns (flat_map deeds_of_argument xs) → argument_values k ls i xs ≡ argument_values h ls i xs
    arguments-same ls i [] mine = refl
    arguments-same ls i (a ∷ more) mine =
        on_ok-alike (argument_value h a) (argument_value k a) _ _ (argument_same a (left (deeds_of_argument a) (flat_map deeds_of_argument more) mine)) (λ v.
        on_ok-alike (argument_values h ls (suc i) more) (argument_values k ls (suc i) more) _ _ (arguments-same ls (suc i) more (right (deeds_of_argument a) (flat_map deeds_of_argument more) mine)) (λ vs. refl))
