-- The first fault of a model. A pass is a list of rules; its fault is that of the first site that breaks one of them, and there
-- the first of them in the list. The first pass with a fault decides.
use Rattle.std.specs.Prelude.{ℕ, List, [], ◌∷◌, option_map, Option}
use Rattle.flat_design.specs.ModelTree.Tree as tree
use Rattle.flat_design.specs.ModelTree.declared.faults.Fault.{Fault}
use Rattle.flat_design.specs.ModelTree.declared.faults.Kind.{Kind}
use Rattle.flat_design.specs.ModelTree.declared.faults.Kind.TheVariants as kind
use Rattle.model_rules.specs.Sites.{Site, sites}
use Rattle.model_rules.specs.Names.{first, double_name, unknown_name, wrong_kind}
use Rattle.model_rules.specs.Values.{type_differs, width_range, literal_range}
use Rattle.model_rules.specs.Calls.{bad_handler, bad_spawn, argument_count, return_differs}
use Rattle.model_rules.specs.Items.{bad_clock, fifo_size, semaphore_range, port_range, bad_binding}
use Rattle.model_rules.specs.Reach.{wait_in_method, trigger_in_thread, blocking_in_nonblocking, wait_in_unwind, throw_in_unwind, spawn_in_unwind, transport_in_unwind}

-- a rule: its kind, and the name that is told of a site that breaks it
pub record Rule : Type 0 where
  pub kind : Kind
  pub broken : Site → Option (List ℕ)

abbrev pub rule : Kind → (Site → Option (List ℕ)) → Rule
rule k broken = record { kind = k; broken = broken }

-- names differ
abbrev pub doubles : List Rule
doubles = rule kind.DoubleName double_name ∷ []

-- the rules on one construct, the lowest kind first
abbrev pub constructs : List Rule
constructs =
    rule kind.UnknownName unknown_name
    ∷ rule kind.WrongKind wrong_kind
    ∷ rule kind.TypeDiffers type_differs
    ∷ rule kind.WidthRange width_range
    ∷ rule kind.LiteralRange literal_range
    ∷ rule kind.BadHandler bad_handler
    ∷ rule kind.BadSpawn bad_spawn
    ∷ rule kind.ArgumentCount argument_count
    ∷ rule kind.ReturnDiffers return_differs
    ∷ rule kind.BadClock bad_clock
    ∷ rule kind.FifoSize fifo_size
    ∷ rule kind.SemaphoreRange semaphore_range
    ∷ rule kind.PortSize port_range
    ∷ rule kind.BadBinding bad_binding
    ∷ []

-- the rules on what is reached
abbrev pub reaches : List Rule
reaches =
    rule kind.WaitInMethod wait_in_method
    ∷ rule kind.TriggerInThread trigger_in_thread
    ∷ rule kind.BlockingInNonblocking blocking_in_nonblocking
    ∷ rule kind.WaitInUnwind wait_in_unwind
    ∷ rule kind.ThrowInUnwind throw_in_unwind
    ∷ rule kind.SpawnInUnwind spawn_in_unwind
    ∷ rule kind.TransportInUnwind transport_in_unwind
    ∷ []

abbrev pub passes : List (List Rule)
passes = doubles ∷ constructs ∷ reaches ∷ []

-- what a rule says of a site
abbrev pub fault_by : Site → Rule → Option Fault
fault_by x r = option_map (λ name. record { kind = r.kind; line = x.line; name = name }) (r.broken x)

abbrev pub fault_at : List Rule → Site → Option Fault
fault_at rules x = first (fault_by x) rules

abbrev pub fault_of : List Rule → List Site → Option Fault
fault_of rules xs = first (fault_at rules) xs

abbrev pub first_fault : tree.Model → Option Fault
first_fault m = first (λ rules. fault_of rules (sites m)) passes
