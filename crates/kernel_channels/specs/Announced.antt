-- What an update phase announces (IEEE 1666-2011, 4.2.1.3), as it changes what is pending for each event: all of it are delta
-- notifications.
use Rattle.std.specs.Prelude.{ℕ, ◌+◌, Bool, true, false, List, [], ◌∷◌}
use Rattle.kernel_events.specs.EventCore.declared.notifications.Pending.{Pending}
use Rattle.kernel_events.specs.EventCore.declared.notifications.When.TheVariants as when
use Rattle.kernel_events.specs.EventCore.Notifications.{notified}
use Rattle.kernel_events.specs.SignalChannel.Signals.{change_of}
use Rattle.kernel_events.specs.SignalChannel.Drivers.{Driven}
use Rattle.kernel_events.specs.SignalChannel.declared.signal.Signal.{Signal}
use Rattle.kernel_events.specs.SignalChannel.declared.signal.Changed.{Changed}
use Rattle.kernel_events.specs.FifoSync.Fifos.{Queued}
use Rattle.kernel_events.specs.FlatDesign.declared.design.SignalPart.{SignalPart}
use Rattle.kernel_events.specs.FlatDesign.declared.design.ResolvedPart.{ResolvedPart}
use Rattle.kernel_events.specs.FlatDesign.declared.design.FifoPart.{FifoPart}
use Rattle.kernel_events.specs.FlatDesign.declared.design.Design.{Design}
use Rattle.kernel_events.specs.SimModel.Configuration.{Channels, change}
use Rattle.kernel_events.specs.SimModel.Phases.{resolved_change, was_some}

abbrev pub delta : ℕ → List Pending → List Pending
delta e events = change events e (notified when.Delta)

abbrev pub delta_if : Bool → ℕ → List Pending → List Pending
delta_if true e events = delta e events
delta_if false e events = events

-- the three events of a signal, of which this is the first
abbrev pub told : Changed → ℕ → List Pending → List Pending
told x e events = delta_if x.neg (e + 2) (delta_if x.pos (e + 1) (delta_if x.changed e events))

abbrev pub told_by_signals : List SignalPart → List Signal → List Pending → List Pending
told_by_signals [] ss events = events
told_by_signals (p ∷ ps) [] events = events
told_by_signals (p ∷ ps) (s ∷ ss) events = told_by_signals ps ss (told (change_of s) p.events events)

abbrev pub told_by_resolved : List ResolvedPart → List Driven → List Bool → List Pending → List Pending
told_by_resolved [] rs bs events = events
told_by_resolved (p ∷ ps) [] bs events = events
told_by_resolved (p ∷ ps) (r ∷ rs) [] events = events
told_by_resolved (p ∷ ps) (r ∷ rs) (b ∷ bs) events = told_by_resolved ps rs bs (told (resolved_change r b) p.events events)

-- data written, and data read
abbrev pub told_by_fifos : List FifoPart → List Queued → List Pending → List Pending
told_by_fifos [] qs events = events
told_by_fifos (p ∷ ps) [] events = events
told_by_fifos (p ∷ ps) (q ∷ qs) events = told_by_fifos ps qs (delta_if (was_some q.read) (p.events + 1) (delta_if (was_some q.written) p.events events))

abbrev pub told_by : Design → Channels → List Pending → List Pending
told_by d x events = told_by_fifos d.fifos x.fifos (told_by_resolved d.resolved x.resolved x.resolved_asked (told_by_signals d.signals x.signals events))
