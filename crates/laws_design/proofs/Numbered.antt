-- The objects of each kind, by their numbers among those of the kind.
use Rattle.std.proofs.Common.{◌≡◌, ◌≤◌, ℕ, zero, suc, ◌+◌, List, [], ◌∷◌, length, take, Some, refl, subst, arith}
use Rattle.std.specs.Prelude.{slice_get}
use Rattle.elaborate_objects.specs.ModelTree.Tree as tree
use Rattle.elaborate_objects.specs.FlatDesign.declared.objects.Object.{Object}
use Rattle.elaborate_objects.specs.FlatDesign.declared.objects.ObjectForm.{ObjectForm}
use Rattle.elaborate_objects.specs.FlatDesign.declared.objects.ObjectForm.TheVariants as form
use Rattle.elaborate_objects.specs.FlatDesign.declared.design.Denoted.{Denoted}
use Rattle.elaborate_objects.specs.FlatDesign.declared.design.InstancePart.{InstancePart}
use Rattle.elaborate_objects.specs.FlatDesign.declared.design.PortPart.{PortPart}
use Rattle.elaborate_objects.specs.FlatDesign.declared.code.StaticUse.{StaticUse}
use Rattle.elaborate_objects.specs.DesignRules.declared.bindings.Joined.{Joined}
use Rattle.elaborate_objects.specs.DesignRules.declared.counts.Counts.{Counts}
use Rattle.elaborate_objects.specs.DesignRules.Counting.{behind, counted, nothing_before, totals}
use Rattle.elaborate_objects.specs.DesignRules.Denoting.{denoted_by, all_denoted}
use Rattle.elaborate_objects.specs.DesignRules.Parts.{instance_by, signal_by, resolved_by, fifo_by, semaphore_by, memory_by, variable_by, port_by}
use Rattle.elaborate_objects.specs.DesignRules.Statics.{process_by}
use Rattle.laws_design.proofs.Along.{before, at_place, within_total}

-- how many there are of each kind, behind an object of a form

pub objects_step : (n : Counts) (f : ObjectForm) → (behind n f).objects ≡ n.objects + 1
objects_step n (form.Instance m) = refl
objects_step n other = refl

pub instances_step : (ms : List tree.Module) (all : List Denoted) (os : List Object) (i : ℕ) (n : Counts) (f : ObjectForm) → (behind n f).instances ≡ n.instances + length (instance_by ms all os i f)
instances_step ms all os i n (form.Instance m) = refl
instances_step ms all os i n other = omega arith

pub signals_step : (n : Counts) (f : ObjectForm) → (behind n f).signals ≡ n.signals + length (signal_by n f)
signals_step n (form.Signal kind many t initial) = refl
signals_step n (form.Clock period high start code) = refl
signals_step n other = omega arith

pub resolved_step : (n : Counts) (f : ObjectForm) → (behind n f).resolved ≡ n.resolved + length (resolved_by n f)
resolved_step n form.Resolved = refl
resolved_step n other = omega arith

pub fifos_step : (n : Counts) (f : ObjectForm) → (behind n f).fifos ≡ n.fifos + length (fifo_by n f)
fifos_step n (form.Fifo t size) = refl
fifos_step n other = omega arith

pub semaphores_step : (n : Counts) (f : ObjectForm) → (behind n f).semaphores ≡ n.semaphores + length (semaphore_by n f)
semaphores_step n (form.Semaphore start) = refl
semaphores_step n other = omega arith

pub memories_step : (n : Counts) (f : ObjectForm) → (behind n f).memories ≡ n.memories + length (memory_by n f)
memories_step n (form.Memory size) = refl
memories_step n other = omega arith

pub variables_step : (n : Counts) (f : ObjectForm) → (behind n f).variables ≡ n.variables + length (variable_by n f)
variables_step n (form.Variable t initial) = refl
variables_step n other = omega arith

pub ports_step : (all : List Denoted) (ends : List ℕ) (i : ℕ) (n : Counts) (f : ObjectForm) → (behind n f).ports ≡ n.ports + length (port_by all ends i f)
ports_step all ends i n (form.Port leads_to size rule) = refl
ports_step all ends i n other = omega arith

pub processes_step : (lists : List (List StaticUse)) (ports : List PortPart) (instances : List InstancePart) (i home : ℕ) (n : Counts) (f : ObjectForm)
    → (behind n f).processes ≡ n.processes + length (process_by lists ports instances i home f)
processes_step lists ports instances i home n (form.Clock period high start code) = refl
processes_step lists ports instances i home n (form.Process kind code dont_initialize) = refl
processes_step lists ports instances i home n other = omega arith

-- the number of an object among all of them

pub number_of : (n : Counts) (os : List Object) (k : ℕ) → k ≤ length os → (counted n (take k os)).objects ≡ n.objects + k
number_of n os zero h = omega arith
number_of n [] (suc k) h = absurd (omega (arith, h))
number_of n (o ∷ os) (suc k) h =
    let a = objects_step n o.form in
    let b = number_of (behind n o.form) os k (omega (arith, h)) in
    omega (arith, a, b)

pub denoted_there : (hops : List Joined) (os : List Object) (k : ℕ) (o : Object) → slice_get os k ≡ Some o → k ≤ length os → slice_get (all_denoted hops os) k ≡ Some (denoted_by hops (before os k) o.form)
denoted_there hops os k o found short =
    let e = number_of nothing_before os k short in
    at_place (λ n (x : Object). denoted_by hops n x.form ∷ []) (λ n. n.objects) (λ n x. objects_step n x.form) nothing_before os k o found 0 (denoted_by hops (before os k) o.form) refl k (omega (arith, e))

-- events, mutexes and keepers

pub events_grow : (n : Counts) (f : ObjectForm) → n.events ≤ (behind n f).events
events_grow n (form.Instance m) = omega arith
events_grow n other = omega arith

pub mutexes_grow : (n : Counts) (f : ObjectForm) → n.mutexes ≤ (behind n f).mutexes
mutexes_grow n (form.Instance m) = omega arith
mutexes_grow n other = omega arith

pub keepers_grow : (n : Counts) (f : ObjectForm) → n.keepers ≤ (behind n f).keepers
keepers_grow n (form.Instance m) = omega arith
keepers_grow n other = omega arith

module _ (os : List Object) (k : ℕ) (o : Object) (found : slice_get os k ≡ Some o) where
  pub events_there : (f : ObjectForm) → o.form ≡ f → (behind (before os k) f).events ≤ (totals os).events
  events_there f e = subst (λ g. (behind (before os k) g).events ≤ (totals os).events) e (within_total (λ n. n.events) events_grow nothing_before os k o found)

  pub mutexes_there : (f : ObjectForm) → o.form ≡ f → (behind (before os k) f).mutexes ≤ (totals os).mutexes
  mutexes_there f e = subst (λ g. (behind (before os k) g).mutexes ≤ (totals os).mutexes) e (within_total (λ n. n.mutexes) mutexes_grow nothing_before os k o found)

  pub keepers_there : (f : ObjectForm) → o.form ≡ f → (behind (before os k) f).keepers ≤ (totals os).keepers
  keepers_there f e = subst (λ g. (behind (before os k) g).keepers ≤ (totals os).keepers) e (within_total (λ n. n.keepers) keepers_grow nothing_before os k o found)
