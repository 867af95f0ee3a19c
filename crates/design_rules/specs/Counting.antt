-- The objects of a design along their order, each with what comes before it.
use Rattle.std.specs.Prelude.{◌+◌, List, [], ◌∷◌, ◌++◌}
use Rattle.code_rules.specs.FlatDesign.declared.objects.Object.{Object}
use Rattle.code_rules.specs.FlatDesign.declared.objects.ObjectForm.{ObjectForm}
use Rattle.code_rules.specs.FlatDesign.declared.objects.ObjectForm.TheVariants as form
use Rattle.design_rules.specs.declared.counts.Counts.{Counts}

abbrev pub nothing_before : Counts
nothing_before = record {
  objects = 0;
  instances = 0;
  signals = 0;
  resolved = 0;
  fifos = 0;
  mutexes = 0;
  semaphores = 0;
  keepers = 0;
  memories = 0;
  variables = 0;
  ports = 0;
  processes = 0;
  events = 0;
}

abbrev pub one_more : Counts → Counts
one_more n = record n { objects = n.objects + 1 }

-- A signal, a buffer, a clock or a resolved signal has three events: value changed, a change to 1, and a change to 0. A fifo
-- has two: data written, and data read. A mutex has one, that it was unlocked; a semaphore one, that it was given to; and an
-- event is one. A clock is a signal and a process.
abbrev pub behind : Counts → ObjectForm → Counts
behind n (form.Instance m) = record (one_more n) { instances = n.instances + 1 }
behind n (form.Signal kind many t initial) = record (one_more n) { signals = n.signals + 1; events = n.events + 3 }
behind n form.Resolved = record (one_more n) { resolved = n.resolved + 1; events = n.events + 3 }
behind n (form.Clock period high start code) = record (one_more n) { signals = n.signals + 1; processes = n.processes + 1; events = n.events + 3 }
behind n (form.Fifo t size) = record (one_more n) { fifos = n.fifos + 1; events = n.events + 2 }
behind n form.Mutex = record (one_more n) { mutexes = n.mutexes + 1; events = n.events + 1 }
behind n form.Event = record (one_more n) { events = n.events + 1 }
behind n form.Keeper = record (one_more n) { keepers = n.keepers + 1 }
behind n (form.Semaphore start) = record (one_more n) { semaphores = n.semaphores + 1; events = n.events + 1 }
behind n (form.Memory size) = record (one_more n) { memories = n.memories + 1 }
behind n (form.Variable t initial) = record (one_more n) { variables = n.variables + 1 }
behind n (form.Port leads_to size rule) = record (one_more n) { ports = n.ports + 1 }
behind n (form.Export leads_to) = one_more n
behind n (form.Initiator pass backward) = one_more n
behind n (form.Target pass blocking forward) = one_more n
behind n (form.Process kind code dont_initialize) = record (one_more n) { processes = n.processes + 1 }

-- what objects give, in their order: each by what comes before it
abbrev pub along : {A : Type 0} → (Counts → Object → List A) → Counts → List Object → List A
along given n [] = []
along given n (o ∷ os) = given n o ++ along given (behind n o.form) os

-- how many there are together
abbrev pub counted : Counts → List Object → Counts
counted n [] = n
counted n (o ∷ os) = counted (behind n o.form) os

abbrev pub totals : List Object → Counts
totals os = counted nothing_before os
