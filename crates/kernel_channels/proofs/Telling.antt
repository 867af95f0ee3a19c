-- What those that asked announce is what the update phase of a run announces.
use Rattle.std.proofs.Common.{◌≡◌, ◌+◌, ℕ, Bool, true, false, List, [], ◌∷◌, map, refl, sym, ap, ◌∙◌}
use Rattle.kernel_events.specs.LogicValues.declared.kinds.Digit.{Digit}
use Rattle.kernel_events.specs.LogicValues.declared.kinds.Digit.TheVariants as digit
use Rattle.kernel_events.specs.EventCore.declared.notifications.Pending.{Pending}
use Rattle.kernel_events.specs.SignalChannel.Signals.{settled, change_of}
use Rattle.kernel_events.specs.SignalChannel.Drivers.{Driven, resettled, edges}
use Rattle.kernel_events.specs.SignalChannel.declared.signal.Signal.{Signal}
use Rattle.kernel_events.specs.SignalChannel.declared.signal.Changed.{Changed}
use Rattle.kernel_events.specs.FifoSync.Fifos.{Queued, after_update}
use Rattle.kernel_events.specs.FlatDesign.declared.design.SignalPart.{SignalPart}
use Rattle.kernel_events.specs.FlatDesign.declared.design.ResolvedPart.{ResolvedPart}
use Rattle.kernel_events.specs.FlatDesign.declared.design.FifoPart.{FifoPart}
use Rattle.kernel_events.specs.SimModel.Configuration.{Config}
use Rattle.kernel_events.specs.SimModel.Phases.{resolved_change, resettled_all, resolved_changes, was_some, notified_if, announced, announce_signals, announce_resolved, announce_fifos, update_phase, channels_updated}
use Rattle.kernel_channels.specs.Announced.{delta_if, told, told_by_signals, told_by_resolved, told_by_fifos, told_by}
use Rattle.kernel_channels.specs.UpdateMarks.{Rests, nothing, wire_change, fifo_change}
use Rattle.kernel_channels.proofs.Walked.{each_if, changes_if, told_each, change_if}

-- ---- what rests announces nothing

pub signal_quiet : (s : Signal) → settled s ≡ s → change_of s ≡ nothing
signal_quiet s is = sym (ap change_of is)

pub fifo_quiet : (q : Queued) → after_update q ≡ q → fifo_change q ≡ nothing
fifo_quiet q is = sym (ap fifo_change is)

same_edges : (d : Digit) → edges d d ≡ nothing
same_edges digit.Zero = refl
same_edges digit.One = refl
same_edges digit.X = refl
same_edges digit.Z = refl

wire_told : (b : Bool) (r : Driven) → change_if resettled wire_change b r ≡ resolved_change r b
wire_told true r = refl
wire_told false r = sym (same_edges r.value)

-- ---- one kind after another

pub signals_told : (ps : List SignalPart) (ss : List Signal) (bs : List Bool) (events : List Pending) → Rests settled ss bs
    → told_each settled change_of (map (λ (p : SignalPart). p.events) ps) ss bs events ≡ told_by_signals ps ss events
signals_told [] ss bs events rests = refl
signals_told (p ∷ ps) [] bs events rests = refl
signals_told (p ∷ ps) (s ∷ ss) [] events rests = absurd rests
signals_told (p ∷ ps) (s ∷ ss) (true ∷ bs) events rests = signals_told ps ss bs (told (change_of s) p.events events) rests
signals_told (p ∷ ps) (s ∷ ss) (false ∷ bs) events rests =
    signals_told ps ss bs events rests.1 ∙ ap (λ x. told_by_signals ps ss (told x p.events events)) (sym (signal_quiet s rests.0))

pub fifos_told : (ps : List FifoPart) (qs : List Queued) (bs : List Bool) (events : List Pending) → Rests after_update qs bs
    → told_each after_update fifo_change (map (λ (p : FifoPart). p.events) ps) qs bs events ≡ told_by_fifos ps qs events
fifos_told [] qs bs events rests = refl
fifos_told (p ∷ ps) [] bs events rests = refl
fifos_told (p ∷ ps) (q ∷ qs) [] events rests = absurd rests
fifos_told (p ∷ ps) (q ∷ qs) (true ∷ bs) events rests = fifos_told ps qs bs (told (fifo_change q) p.events events) rests
fifos_told (p ∷ ps) (q ∷ qs) (false ∷ bs) events rests =
    fifos_told ps qs bs events rests.1 ∙ ap (λ x. told_by_fifos ps qs (told x p.events events)) (sym (fifo_quiet q rests.0))

pub wires_told : (ps : List ResolvedPart) (rs : List Driven) (bs : List Bool) (events : List Pending)
    → told_each resettled wire_change (map (λ (p : ResolvedPart). p.events) ps) rs bs events ≡ told_by_resolved ps rs bs events
wires_told [] rs bs events = refl
wires_told (p ∷ ps) [] bs events = refl
wires_told (p ∷ ps) (r ∷ rs) [] events = refl
wires_told (p ∷ ps) (r ∷ rs) (b ∷ bs) events =
    ap (λ x. told_each resettled wire_change (map (λ (p : ResolvedPart). p.events) ps) rs bs (told x p.events events)) (wire_told b r)
    ∙ wires_told ps rs bs (told (resolved_change r b) p.events events)

pub wires_updated : (rs : List Driven) (bs : List Bool) → each_if resettled rs bs ≡ resettled_all rs bs
wires_updated [] bs = refl
wires_updated (r ∷ rs) [] = refl
wires_updated (r ∷ rs) (true ∷ bs) = ap (λ xs. resettled r ∷ xs) (wires_updated rs bs)
wires_updated (r ∷ rs) (false ∷ bs) = ap (λ xs. r ∷ xs) (wires_updated rs bs)

pub wires_changed : (rs : List Driven) (bs : List Bool) → changes_if resettled wire_change rs bs ≡ resolved_changes rs bs
wires_changed [] bs = refl
wires_changed (r ∷ rs) [] = ap (λ xs. false ∷ xs) (wires_changed rs [])
wires_changed (r ∷ rs) (b ∷ bs) = λ i. (wire_told b r i).changed ∷ wires_changed rs bs i

-- ---- the update phase of a run

abbrev with_events : Config → List Pending → Config
with_events c events = record c { events = events }

notified_told : (b : Bool) (e : ℕ) (c : Config) → notified_if b e c ≡ with_events c (delta_if b e c.events)
notified_told true e c = refl
notified_told false e c = refl

announced_told : (x : Changed) (e : ℕ) (c : Config) → announced x e c ≡ with_events c (told x e c.events)
announced_told x e c =
    ap (λ d. notified_if x.neg (e + 2) (notified_if x.pos (e + 1) d)) (notified_told x.changed e c)
    ∙ ap (notified_if x.neg (e + 2)) (notified_told x.pos (e + 1) (with_events c (delta_if x.changed e c.events)))
    ∙ notified_told x.neg (e + 2) (with_events c (delta_if x.pos (e + 1) (delta_if x.changed e c.events)))

by_signals : (ps : List SignalPart) (ss : List Signal) (c : Config) → announce_signals ps ss c ≡ with_events c (told_by_signals ps ss c.events)
by_signals [] ss c = refl
by_signals (p ∷ ps) [] c = refl
by_signals (p ∷ ps) (s ∷ ss) c = ap (announce_signals ps ss) (announced_told (change_of s) p.events c) ∙ by_signals ps ss (with_events c (told (change_of s) p.events c.events))

by_resolved : (ps : List ResolvedPart) (rs : List Driven) (bs : List Bool) (c : Config) → announce_resolved ps rs bs c ≡ with_events c (told_by_resolved ps rs bs c.events)
by_resolved [] rs bs c = refl
by_resolved (p ∷ ps) [] bs c = refl
by_resolved (p ∷ ps) (r ∷ rs) [] c = refl
by_resolved (p ∷ ps) (r ∷ rs) (b ∷ bs) c =
    ap (announce_resolved ps rs bs) (announced_told (resolved_change r b) p.events c) ∙ by_resolved ps rs bs (with_events c (told (resolved_change r b) p.events c.events))

by_fifos : (ps : List FifoPart) (qs : List Queued) (c : Config) → announce_fifos ps qs c ≡ with_events c (told_by_fifos ps qs c.events)
by_fifos [] qs c = refl
by_fifos (p ∷ ps) [] c = refl
by_fifos (p ∷ ps) (q ∷ qs) c =
    ap (announce_fifos ps qs) (ap (notified_if (was_some q.read) (p.events + 1)) (notified_told (was_some q.written) p.events c)
    ∙ notified_told (was_some q.read) (p.events + 1) (with_events c (delta_if (was_some q.written) p.events c.events)))
    ∙ by_fifos ps qs (with_events c (delta_if (was_some q.read) (p.events + 1) (delta_if (was_some q.written) p.events c.events)))

pub phase_told : (c : Config) → update_phase c ≡ record c { events = told_by c.design c.channels c.events; channels = channels_updated c.channels }
phase_told c =
    ap (λ (d : Config). record d { channels = channels_updated c.channels })
    (ap (λ d. announce_fifos c.design.fifos c.channels.fifos (announce_resolved c.design.resolved c.channels.resolved c.channels.resolved_asked d)) (by_signals c.design.signals c.channels.signals c)
    ∙ ap (announce_fifos c.design.fifos c.channels.fifos) (by_resolved c.design.resolved c.channels.resolved c.channels.resolved_asked (with_events c (told_by_signals c.design.signals c.channels.signals c.events)))
    ∙ by_fifos c.design.fifos c.channels.fifos
    (with_events c (told_by_resolved c.design.resolved c.channels.resolved c.channels.resolved_asked (told_by_signals c.design.signals c.channels.signals c.events))))
