-- The models of the runs of transport calls: an initiator in the instance i, whose thread t calls, and a target in the instance g,
-- whose thread u calls back. Items are numbered by their places in their module, and processes by their serials.
use Rattle.std.specs.Prelude.{ℕ, ◌+◌, ◌-◌, Option, Some, None, List, [], ◌∷◌, ◌++◌, codes, length}
use Rattle.sim_model.specs.ModelTree.declared.expressions.BinaryOp.TheVariants as op
use Rattle.sim_model.specs.FlatDesign.declared.value_types.ValueType.TheVariants as type
use Rattle.sim_model.specs.FlatDesign.declared.names.PayloadField.TheVariants as field
use Rattle.sim_model.specs.FlatDesign.declared.code.Destination.TheVariants as destination
use Rattle.sim_model.specs.FlatDesign.declared.code.Local.{Local}
use Rattle.sim_model.specs.FlatDesign.declared.code.Statement.{Statement}
use Rattle.sim_model.specs.FlatDesign.declared.code.Statement.TheVariants as kept
use Rattle.sim_model.specs.FlatDesign.declared.terms.Expr.{Expr}
use Rattle.sim_model.specs.FlatDesign.declared.design.Design.{Design}
use Rattle.worked_runs.specs.Body.{Body, end, does, branch, item, local, named, number, binary, store, assign, say, say_value, wait_on, notify_after}
use Rattle.worked_runs.specs.Build.{design_of, next_object, event, variable, exception, function_with, procedure, local_of, inout, thread, instance, initiator, target, hop}
use Rattle.worked_runs.specs.Rows.{integer, signed}
use Rattle.worked_runs.specs.Transports.{handler_locals, answers}

-- which handlers there are: the backward one of the initiator, and the forward and the blocking one of the target
pub data Handlers : Type 0 where
  all : Handlers
  no_backward : Handlers
  no_forward : Handlers
  no_blocking : Handlers

abbrev pub backward_of : Handlers → Option ℕ
backward_of all = Some 0
backward_of no_backward = None
backward_of no_forward = Some 0
backward_of no_blocking = Some 0

abbrev pub forward_of : Handlers → ℕ → Option ℕ
forward_of all f = Some f
forward_of no_backward f = Some f
forward_of no_forward f = None
forward_of no_blocking f = Some f

abbrev pub blocking_of : Handlers → ℕ → Option ℕ
blocking_of all f = Some f
blocking_of no_backward f = Some f
blocking_of no_forward f = Some f
blocking_of no_blocking f = None

-- The hop stands right behind its target, and before the target's handlers, of which the first is the forward one.
abbrev pub next_body : Design → ℕ
next_body d = length d.code.bodies

abbrev pub joined : Handlers → Design → Design
joined hs d = hop (record { initiator = 2; target = next_object d - 1; initiator_home = 1; target_home = 2; backward = backward_of hs; blocking = blocking_of hs (next_body d + 1); forward = forward_of hs (next_body d) }) d

abbrev pub target_end : Handlers → Design → Design
target_end hs d = target (codes "s") 0 (blocking_of hs (next_body d + 1)) (forward_of hs (next_body d)) d

-- The link: the body of t, that of the backward handler; those of the forward and the blocking handler, and that of u; and other
-- threads of the initiator's module. In both modules the items 1 to 4 are a payload, a phase, an answer and a delay.
abbrev pub variables : List ℕ → Design → Design
variables name d = variable (codes "d") type.Time (variable (codes "r") (type.Int 32) (variable (codes "ph") (type.Int 32) (variable name type.Payload d)))

abbrev pub blocking_locals : List Local
blocking_locals = local_of (codes "p") type.Payload ∷ inout (codes "d") type.Time ∷ []

abbrev pub link_of : Handlers → Body → Body → Body → Body → Body → List (Design → Design) → Design
link_of hs t b f h u others = design_of (exception (codes "Bad")
    ∷ instance (codes "i") 0 ∷ initiator (codes "s") 0 (backward_of hs) ∷ variables (codes "p") ∷ variable (codes "q") type.Payload
    ∷ function_with (codes "b") handler_locals (type.Int 32) b
    ∷ thread (codes "t") t
    ∷ others
    ++ instance (codes "g") 0 ∷ target_end hs ∷ joined hs ∷ variables (codes "k") ∷ event (codes "go")
    ∷ function_with (codes "f") handler_locals (type.Int 32) f
    ∷ procedure (codes "h") blocking_locals h
    ∷ thread (codes "u") u ∷ variable (codes "l") type.Payload
    ∷ [])

abbrev pub link : Body → Body → Body → Body → Body → Design
link t b f h u = link_of all t b f h u []

-- statements of t and u: the payload is made; a call with this phase, and its answer told

abbrev pub makes : Statement
makes = kept.Make (item 1) (number 1) None

abbrev pub makes_q : Statement
makes_q = kept.Make (item 5) (number 1) None

abbrev pub phase : ℕ → Statement
phase n = assign (item 2) (type.Int 32) (integer n)

abbrev pub calls_for : ℕ → Statement
calls_for n = kept.NbTransport (Some (store (item 3) (type.Int 32))) 0 (item n) (item 2) (item 4)

abbrev pub calls : Statement
calls = calls_for 1

abbrev pub tells : Statement
tells = say_value (codes "r") (named (item 3))

abbrev pub tells_phase : Statement
tells_phase = say_value (codes "ph") (named (item 2))

abbrev pub tells_delay : Statement
tells_delay = say_value (codes "d") (named (item 4))

abbrev pub sends : ℕ → List Statement
sends n = phase n ∷ calls ∷ tells ∷ []

abbrev pub blocks : Statement
blocks = kept.BTransport 0 (item 1) (item 4)

abbrev pub completed : Statement
completed = kept.Assign (destination.Field (item 1) field.Status) (integer 1)

abbrev pub releases : Statement
releases = kept.Release (item 1)

abbrev pub idle : List Statement
idle = blocks ∷ say (codes "idle") ∷ []

-- statements of handlers: the payload is kept, u is waked after 1 ns, the phase is set, the response is there

abbrev pub keeps : Statement
keeps = assign (item 1) type.Payload (named (local 0))

abbrev pub goes : Statement
goes = notify_after 5 1000

abbrev pub updates : ℕ → Statement
updates n = assign (local 1) (type.Int 32) (integer n)

abbrev pub completes : Statement
completes = kept.Assign (destination.Field (local 0) field.Status) (integer 1)

abbrev pub frees : Statement
frees = kept.Release (local 0)

-- the response is there no longer: by t, and by a handler

abbrev pub takes_back : Statement
takes_back = kept.Assign (destination.Field (item 1) field.Status) (integer 0)

abbrev pub clears : Statement
clears = kept.Assign (destination.Field (local 0) field.Status) (integer 0)

abbrev pub has_phase : ℕ → Expr
has_phase n = binary op.Equal signed (named (local 1)) (integer n)

-- a handler that does this at a phase, and answers so at another
abbrev pub at_phase : ℕ → List Statement → ℕ → Body
at_phase n ss e = branch (has_phase n) (does ss end) (does (answers e ∷ []) end)

-- a body that does this the first time, and that from then on; the answer of its module tells which
abbrev pub first_time : Body → Body → Body
first_time b rest = branch (binary op.Equal signed (named (item 3)) (integer 0)) b rest

abbrev pub counts : Statement
counts = assign (item 3) (type.Int 32) (integer 1)

abbrev pub accepts : Body
accepts = does (answers 0 ∷ []) end

abbrev pub nothing : Body
nothing = end

-- u waits for its event
abbrev pub woken : List Statement → Body
woken ss = does (wait_on 5 ∷ ss) end
