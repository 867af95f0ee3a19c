-- Channels are updated, and what that announced is pending.
use Rattle.std.proofs.Common.{◌≡◌, ◌+◌, ℕ, Bool, true, false, List, [], ◌∷◌, length, refl, sym, ap, ◌∙◌, subst}
use Rattle.kernel_state.specs.EventCore.declared.notifications.Pending.{Pending}
use Rattle.kernel_state.specs.SimModel.Configuration.{Config, Channels, Cycle}
use Rattle.kernel_state.specs.SimModel.Phases.{channels_updated, update_phase, resolved_change, was_some}
use Rattle.kernel_state.specs.EventCore.declared.notifications.When.TheVariants as when
use Rattle.kernel_state.specs.EventCore.Notifications.{notified}
use Rattle.kernel_state.specs.SignalChannel.Signals.{change_of}
use Rattle.kernel_state.specs.SignalChannel.Drivers.{Driven}
use Rattle.kernel_state.specs.SignalChannel.declared.signal.Signal.{Signal}
use Rattle.kernel_state.specs.SignalChannel.declared.signal.Changed.{Changed}
use Rattle.kernel_state.specs.FifoSync.Fifos.{Queued}
use Rattle.kernel_state.specs.FlatDesign.declared.design.SignalPart.{SignalPart}
use Rattle.kernel_state.specs.FlatDesign.declared.design.ResolvedPart.{ResolvedPart}
use Rattle.kernel_state.specs.FlatDesign.declared.design.FifoPart.{FifoPart}
use Rattle.kernel_state.specs.FlatDesign.declared.design.Design.{Design}
use Rattle.kernel_state.proofs.KernelProcesses.Wakes.{change-length}
use Rattle.kernel_state.specs.KernelChannels.Announced.{delta_if, told, told_by_signals, told_by_resolved, told_by_fifos, told_by}
use Rattle.kernel_state.specs.Kernel.{StandsFor, IsSound, cycle_of}
use Rattle.kernel_state.specs.Moves.{Moves}
use Rattle.kernel_state.specs.declared.kernel.Cycle.{Cycle as Kept}
use Rattle.kernel_state.specs.declared.kernel.Kernel.{Kernel}

pub updates_moves : (k : Kernel) (x : Channels) (es : List Pending) → x ≡ channels_updated k.channels → es ≡ told_by k.design k.channels k.events
    → ((c : Config) → update_phase c ≡ record c { events = told_by c.design c.channels c.events; channels = channels_updated c.channels }) → Moves k (record k { channels = x; events = es }) update_phase
updates_moves k x es updated told law c h = subst (StandsFor (record k { channels = x; events = es })) (sym (law c)) (record {
  design = h.design;
  cycle = h.cycle;
  processes = h.processes;
  parents = h.parents;
  events = ap (λ d. told_by d c.channels c.events) h.design ∙ ap (λ y. told_by k.design y c.events) h.channels ∙ ap (told_by k.design k.channels) h.events ∙ sym told;
  channels = ap channels_updated h.channels ∙ sym updated;
  transactions = h.transactions;
  quantum = h.quantum;
  variables = h.variables;
  memories = h.memories;
})

-- as many events as before
told_once : (b : Bool) (e : ℕ) (es : List Pending) → length (delta_if b e es) ≡ length es
told_once true e es = change-length es e (notified when.Delta)
told_once false e es = refl

told_thrice : (x : Changed) (e : ℕ) (es : List Pending) → length (told x e es) ≡ length es
told_thrice x e es = told_once x.neg (e + 2) (delta_if x.pos (e + 1) (delta_if x.changed e es)) ∙ told_once x.pos (e + 1) (delta_if x.changed e es) ∙ told_once x.changed e es

signals_told : (ps : List SignalPart) (ss : List Signal) (es : List Pending) → length (told_by_signals ps ss es) ≡ length es
signals_told [] ss es = refl
signals_told (p ∷ ps) [] es = refl
signals_told (p ∷ ps) (s ∷ ss) es = signals_told ps ss (told (change_of s) p.events es) ∙ told_thrice (change_of s) p.events es

resolved_told : (ps : List ResolvedPart) (rs : List Driven) (bs : List Bool) (es : List Pending) → length (told_by_resolved ps rs bs es) ≡ length es
resolved_told [] rs bs es = refl
resolved_told (p ∷ ps) [] bs es = refl
resolved_told (p ∷ ps) (r ∷ rs) [] es = refl
resolved_told (p ∷ ps) (r ∷ rs) (b ∷ bs) es = resolved_told ps rs bs (told (resolved_change r b) p.events es) ∙ told_thrice (resolved_change r b) p.events es

fifos_told : (ps : List FifoPart) (qs : List Queued) (es : List Pending) → length (told_by_fifos ps qs es) ≡ length es
fifos_told [] qs es = refl
fifos_told (p ∷ ps) [] es = refl
fifos_told (p ∷ ps) (q ∷ qs) es = fifos_told ps qs (delta_if (was_some q.read) (p.events + 1) (delta_if (was_some q.written) p.events es))
    ∙ told_once (was_some q.read) (p.events + 1) (delta_if (was_some q.written) p.events es) ∙ told_once (was_some q.written) p.events es

pub all_told : (d : Design) (x : Channels) (es : List Pending) → length (told_by d x es) ≡ length es
all_told d x es = fifos_told d.fifos x.fifos (told_by_resolved d.resolved x.resolved x.resolved_asked (told_by_signals d.signals x.signals es))
    ∙ resolved_told d.resolved x.resolved x.resolved_asked (told_by_signals d.signals x.signals es) ∙ signals_told d.signals x.signals es

-- where a run stands in its cycle moves
module _ (k : Kernel) (x : Kept) where
  pub cycle_moves : (c : Config) (y : Cycle) → y ≡ cycle_of x → StandsFor k c → StandsFor (record k { cycle = x }) (record c { cycle = y })
  cycle_moves c y same h = record {
    design = h.design;
    cycle = same;
    processes = h.processes;
    parents = h.parents;
    events = h.events;
    channels = h.channels;
    transactions = h.transactions;
    quantum = h.quantum;
    variables = h.variables;
    memories = h.memories;
  }

  pub cycle_sound : IsSound k → IsSound (record k { cycle = x })
  cycle_sound sound = record { schedule = sound.schedule; bodies = sound.bodies; nobody_due = sound.nobody_due; serials = sound.serials; payloads = sound.payloads }
