-- The parts of a configuration that laws on stacks, guards, marks and hops speak of; and when a statement about them is kept by
-- each move that a step is made of.
use Rattle.std.specs.Prelude.{◌≡◌, ⊤, ℕ, ◌+◌, Bool, true, false, List, [], ◌∷◌, ◌++◌, map, drop, slice_get, unwrap_or, Option, Some, None}
use Rattle.sim_model.specs.LogicValues.declared.kinds.Value.{Value}
use Rattle.sim_model.specs.TransportPhases.History.{Entry, Call, Return, BCall, BReturn, Left, broken}
use Rattle.sim_model.specs.FlatDesign.Code as code
use Rattle.sim_model.specs.FlatDesign.Code.{Statement, statement_at}
use Rattle.sim_model.specs.FlatDesign.declared.design.Design.{Design}
use Rattle.sim_model.specs.Residual as residual
use Rattle.sim_model.specs.Residual.{Residual, Frame, Next, Mark, skip, guard, settle, fall, block, entered, put, taken_off, in_innermost, next_of, has_goal, begun, enter}
use Rattle.sim_model.specs.Unwinding.{unw, catches, raise, left_by_unw, left_by_raise, returned, return_marks}
use Rattle.sim_model.specs.Configuration.{Config, Instance, change}
use Rattle.sim_model.specs.Storing.{with_local}
use Rattle.sim_model.specs.Clean.{times, guards_of}
use Rattle.sim_model.specs.declared.plain.Goal.{Goal}
use Rattle.sim_model.specs.declared.plain.Goal.TheVariants as goal_of
use Rattle.sim_model.specs.declared.plain.Via.{Via}
use Rattle.laws_runs.specs.Shapes.{IsNormal}
use Rattle.laws_runs.specs.Standing.{code_of, IsStanding}
use Rattle.laws_runs.proofs.Tight.{IsTight}

pub record Parts : Type 0 where
  pub design : Design
  pub instances : List Instance
  pub stack : List ℕ
  pub marks : List Mark
  pub next_guard : ℕ
  pub hops : List (List Entry)

abbrev pub parts : Config → Parts
parts c = record { design = c.design; instances = c.processes.instances; stack = c.processes.stack; marks = c.trace.marks; next_guard = c.trace.next_guard; hops = c.transactions.hops }

abbrev pub changed_in : Parts → ℕ → (Instance → Instance) → Parts
changed_in x p f = record x { instances = change x.instances p f }

abbrev pub residual_in : Parts → ℕ → Residual → Parts
residual_in x p r = changed_in x p (λ i. record i { residual = r })

-- entries of hops
abbrev pub history_in : Parts → ℕ → List Entry
history_in x hop = unwrap_or (slice_get x.hops hop) []

abbrev pub with_entry_in : List (List Entry) → ℕ → Entry → List (List Entry)
with_entry_in hops hop e = change hops hop (λ h. h ++ e ∷ [])

abbrev pub left_in : List (List Entry) → List Via → List (List Entry)
left_in hops [] = hops
left_in hops (via ∷ more) = left_in (with_entry_in hops via.hop (Left via.payload)) more

abbrev pub Kept : (Parts → Type 0) → Config → Type 0
Kept Q c = Q (parts c)

-- another instance of the same process, whose body is as far
pub record Alike (i j : Instance) : Type 0 where
  pub kind : j.kind ≡ i.kind
  pub home : j.home ≡ i.home
  pub code : j.code ≡ i.code
  pub residual : j.residual ≡ i.residual
  pub started : j.started ≡ i.started
  pub ended : j.ended ≡ i.ended

-- the instance p is i, of which r is left, with no finished part
pub record At (x : Parts) (p : ℕ) (i : Instance) (r : Residual) : Type 0 where
  pub here : slice_get x.instances p ≡ Some i
  pub is : i.residual ≡ r
  pub tight : IsTight r
  pub stands : IsStanding x.design i.home r

-- a call that a body makes of another, or of a handler over a hop
abbrev pub is_transport : Option Statement → Bool
is_transport None = false
is_transport (Some (code.b_transport s n d)) = true
is_transport (Some (code.nb_transport y s n phase d)) = true
is_transport (Some other) = false

abbrev pub caller : Design → Option ℕ → Option Statement
caller d None = None
caller d (Some s) = statement_at (code_of d) s

-- what may be past at no other change: a statement; a call, but a transport call; and the goal of an exception
abbrev pub MayPass : Design → Next → Type 0
MayPass d (residual.statement s) = ⊤
MayPass d (residual.owes s q) = ⊥
MayPass d (residual.leaves y) = is_transport (caller d y.call) ≡ true → y.via ≡ None
MayPass d residual.done = ⊥
MayPass d (residual.reaches goal_of.End) = ⊥
MayPass d (residual.reaches goal_of.Restart) = ⊥
MayPass d (residual.reaches goal_of.Thrown) = ⊤
MayPass d (residual.reaches goal_of.Injected) = ⊤
MayPass d residual.nothing = ⊥

-- where a body is over
abbrev pub IsOver : Next → Type 0
IsOver (residual.statement s) = ⊥
IsOver (residual.owes s q) = ⊥
IsOver (residual.leaves y) = ⊥
IsOver residual.done = ⊤
IsOver (residual.reaches goal_of.End) = ⊤
IsOver (residual.reaches goal_of.Restart) = ⊤
IsOver (residual.reaches goal_of.Thrown) = ⊥
IsOver (residual.reaches goal_of.Injected) = ⊥
IsOver residual.nothing = ⊤

-- what ends the instance or begins it anew, and what goes on in a handler
abbrev pub IsOuter : Goal → Type 0
IsOuter goal_of.End = ⊤
IsOuter goal_of.Restart = ⊤
IsOuter goal_of.Thrown = ⊥
IsOuter goal_of.Injected = ⊥

abbrev pub IsInner : Goal → Type 0
IsInner goal_of.End = ⊥
IsInner goal_of.Restart = ⊥
IsInner goal_of.Thrown = ⊤
IsInner goal_of.Injected = ⊤

-- only calls that a statement made, and none over a hop
abbrev pub IsCalled : Option ℕ → Type 0
IsCalled None = ⊥
IsCalled (Some s) = ⊤

abbrev pub OnlyCalls : Residual → Type 0
OnlyCalls residual.skip = ⊤
OnlyCalls (residual.one s) = ⊤
OnlyCalls (residual.batch s qs) = ⊤
OnlyCalls (residual.seq r ss) = OnlyCalls r
OnlyCalls (residual.owing r g u) = OnlyCalls r
OnlyCalls (residual.guard r g u) = OnlyCalls r
OnlyCalls (residual.try_ r handlers) = OnlyCalls r
OnlyCalls (residual.frame r y) = IsCalled y.call × (y.via ≡ None) × OnlyCalls r
OnlyCalls (residual.shell r y) = IsCalled y.call × (y.via ≡ None) × OnlyCalls r
OnlyCalls (residual.run g r) = OnlyCalls r
OnlyCalls (residual.goal r k) = OnlyCalls r

-- what a statement without marks puts in its own place
pub record IsNew (r : Residual) : Type 0 where
  pub normal : IsNormal r
  pub guards : guards_of r ≡ []
  pub calls : OnlyCalls r

-- the entry of a call over a hop, and of its return, by the statement that calls
abbrev pub IsEntryOf : Option Statement → Bool → ℕ → Bool → Entry → Type 0
IsEntryOf (Some (code.b_transport s n d)) blocking t handled e = (blocking ≡ true) × (e ≡ BCall t handled)
IsEntryOf (Some (code.nb_transport y s n phase d)) blocking t handled e = (blocking ≡ false) × (path : _) × (ph : _) × (complete : Bool) × (e ≡ Call t path ph complete handled)
IsEntryOf other blocking t handled e = ⊥

abbrev pub IsReturnOf : Option Statement → ℕ → Entry → Type 0
IsReturnOf (Some (code.b_transport s n d)) t e = (complete : Bool) × (e ≡ BReturn t complete)
IsReturnOf (Some (code.nb_transport y s n phase d)) t e = (status : _) × (ph : _) × (complete : Bool) × (e ≡ Return t status ph complete)
IsReturnOf other t e = ⊥

-- ---- what is kept by each move of the steps of the instance p, once its finished parts fell away

pub record IsKept (p : ℕ) (Q : Parts → Type 0) : Type 0 where
  -- flags, waits and triggers, of whichever instance
  pub same : (x : Parts) (q : ℕ) (f : Instance → Instance) → ((i : Instance) → Alike i (f i)) → Q x → Q (changed_in x q f)
  -- p leaves the stack, and has no goal; another is put on top
  pub leaves : (x : Parts) (rest : List ℕ) → x.stack ≡ p ∷ rest → ((i : Instance) → slice_get x.instances p ≡ Some i → has_goal i.residual ≡ false) → Q x → Q (record x { stack = drop 1 x.stack })
  pub pushes : (x : Parts) (q : ℕ) (rest : List ℕ) → x.stack ≡ p ∷ rest → times q x.stack ≡ 0 → Q x → Q (record x { stack = q ∷ x.stack })
  -- what comes next is past; or something without guards comes in its place
  pub passes : (x : Parts) (i : Instance) (r : Residual) → At x p i r → MayPass x.design (next_of r) → Q x → Q (residual_in x p (put r skip))
  pub puts : (x : Parts) (i : Instance) (r : Residual) (n : ℕ) → At x p i r → next_of r ≡ residual.statement n → (new : Residual) → IsNew new → Q x → Q (residual_in x p (put r new))
  -- a call is owed to one instance less
  pub takes_off : (x : Parts) (i : Instance) (r : Residual) → At x p i r → Q x → Q (residual_in x p (taken_off r))
  -- a guard is entered; a return; a local variable is set
  pub guards : (x : Parts) (i : Instance) (r : Residual) (n : ℕ) → At x p i r → next_of r ≡ residual.statement n → (b u : ℕ) → Q x
      → Q (record (residual_in x p (put r (guard (block (code_of x.design) b) x.next_guard u))) { marks = x.marks ++ enter p x.next_guard ∷ []; next_guard = x.next_guard + 1 })
  pub returns : (x : Parts) (i : Instance) (r : Residual) (n : ℕ) → At x p i r → next_of r ≡ residual.statement n → (v : Option Value) → Q x
      → Q (record (residual_in x p (returned v r)) { marks = x.marks ++ return_marks p r })
  pub locals : (x : Parts) (n : ℕ) (v : Value) → Q x → Q (changed_in x p (λ i. record i { residual = in_innermost (with_local n v) i.residual }))
  -- an exception, a kill and a reset, of whichever instance, that has no goal
  pub raises : (x : Parts) (q : ℕ) (i : Instance) (r : Residual) (e : ℕ) (k : Goal) → slice_get x.instances q ≡ Some i → i.residual ≡ r → IsStanding x.design i.home r → has_goal r ≡ false → catches r e ≡ true → IsInner k → Q x
      → Q (record (residual_in x q (raise (code_of x.design) r e k)) { hops = left_in x.hops (left_by_raise r e) })
  pub unwinds : (x : Parts) (q : ℕ) (i : Instance) (k : Goal) → slice_get x.instances q ≡ Some i → IsStanding x.design i.home i.residual → has_goal i.residual ≡ false → IsOuter k → Q x
      → Q (record (residual_in x q (residual.goal (unw i.residual) k)) { hops = left_in x.hops (left_by_unw i.residual) })
  -- the body is over; and one that was not begun begins
  pub over : (x : Parts) (i : Instance) (r : Residual) → At x p i r → IsOver (next_of r) → (f : Instance → Instance) → ((j : Instance) → (f j).residual ≡ skip) → ((j : Instance) → j.ended ≡ true → (f j).ended ≡ true) → Q x → Q (changed_in x p f)
  pub begins : (x : Parts) (q : ℕ) (i : Instance) (f : ℕ) (args : List Value) → slice_get x.instances q ≡ Some i → (i.started ≡ true → i.residual ≡ skip) → Q x
      → Q (changed_in x q (λ j. record j { residual = begun (code_of x.design) f args; started = true }))
  -- a process that is spawned
  pub spawned : (x : Parts) (new : Instance) → new.residual ≡ skip → new.started ≡ false → new.ended ≡ false → Q x → Q (record x { instances = x.instances ++ new ∷ [] })
  -- a transport call without a handler, with one, and its return: its entry breaks no rule
  pub tries_hop : (x : Parts) (s : Option Statement) (hop t : ℕ) (e : Entry) (blocking : Bool) → IsEntryOf s blocking t false e → broken (history_in x hop) e ≡ None → Q x → Q (record x { hops = with_entry_in x.hops hop e })
  pub calls_hop : (x : Parts) (i : Instance) (r : Residual) (n : ℕ) → At x p i r → next_of r ≡ residual.statement n → (via : Via) (f : ℕ) (args : List Value) (e : Entry) → (h : _) × (slice_get x.design.hops via.hop ≡ Some h)
      → IsEntryOf (statement_at (code_of x.design) n) via.blocking via.payload true e → broken (history_in x via.hop) e ≡ None → Q x
      → Q (record (residual_in x p (put r (entered (code_of x.design) f args (Some n) (Some via)))) { hops = with_entry_in x.hops via.hop e })
  pub returns_hop : (x : Parts) (i : Instance) (r : Residual) (y : Frame) → At x p i r → next_of r ≡ residual.leaves y → (via : Via) (e : Entry) → y.via ≡ Some via
      → IsReturnOf (caller x.design y.call) via.payload e → broken (history_in x via.hop) e ≡ None → Q x
      → Q (record (residual_in x p (put r skip)) { hops = with_entry_in x.hops via.hop e })

-- and by the falling away
abbrev pub IsSettled : ℕ → (Parts → Type 0) → Type 0
IsSettled p Q = (x : Parts) (i : Instance) → slice_get x.instances p ≡ Some i → Q x
    → Q (record (residual_in x p (settle (code_of x.design) i.residual)) { marks = x.marks ++ fall p (code_of x.design) i.residual })

-- and by the phases, and by the takings
pub record IsKeptBetween (Q : Parts → Type 0) : Type 0 where
  pub same : (x : Parts) (q : ℕ) (f : Instance → Instance) → ((i : Instance) → Alike i (f i)) → Q x → Q (changed_in x q f)
  pub alike : (x : Parts) (f : Instance → Instance) → ((i : Instance) → Alike i (f i)) → Q x → Q (record x { instances = map f x.instances })

pub record IsKeptByTakings (Q : Parts → Type 0) : Type 0 where
  pub taken : (x : Parts) (p : ℕ) → x.stack ≡ [] → Q x → Q (record x { stack = p ∷ [] })
  pub begins : (x : Parts) (q : ℕ) (i : Instance) (f : ℕ) (args : List Value) → slice_get x.instances q ≡ Some i → (i.started ≡ true → i.residual ≡ skip) → Q x
      → Q (changed_in x q (λ j. record j { residual = begun (code_of x.design) f args; started = true }))
