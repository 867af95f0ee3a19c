-- What a process did in its turn, and that it does the same in two configurations.
use Rattle.std.specs.Prelude.{◌≡◌, ◌≢◌, ⊤, ℕ, false, List, [], Some, None, All, Contains, Result, Ok, Err}
use Rattle.sim_model.specs.EventCore.declared.event.Ev.{Ev}
use Rattle.sim_model.specs.EventCore.declared.event.Ev.TheVariants as ev
use Rattle.sim_model.specs.FlatDesign.Code.{Statement, arena_of, statement_at}
use Rattle.sim_model.specs.FlatDesign.declared.design.Design.{Design}
use Rattle.sim_model.specs.FlatDesign.declared.faults.RunFault.{RunFault}
use Rattle.sim_model.specs.Residual.{Residual, skip, one, batch, seq, owing, guard, try_, frame, shell, run, goal, Next, statement, owes, leaves, done, reaches, nothing}
use Rattle.sim_model.specs.Configuration.{Config, Instance, Wait, waits_for_nothing, waits_statically, waits_for_any, waits_for_all, instance_at}
use Rattle.sim_model.specs.Waits.{is_among}
use Rattle.order_free.specs.Uses.{uses_of}
use Rattle.order_free.specs.declared.uses.Use.{Use}
use Rattle.laws_order.specs.Acts.{Act, acted_all, Allows}
use Rattle.laws_order.specs.Sees.{Sees}

-- a configuration without its instances, the stack, the lines of the report, and the marks and numbers of guards
abbrev pub rest : Config → Config
rest c = record c {
  processes = record c.processes { instances = []; stack = [] };
  trace = record { told = []; snapshots = c.trace.snapshots; marks = []; next_guard = 0 };
}

-- from c to e the process of this serial did these acts, and changed but itself, the stack, and what is told and marked
pub record Did (p : ℕ) (log : List Act) (c e : Config) : Type 0 where
  pub others : (q : ℕ) → q ≢ p → instance_at e q ≡ instance_at c q
  pub shared : rest e ≡ rest (acted_all p c log)

-- both configurations c and x became others, e and y, by the same acts of one who has these uses, and it sees these alike
pub record Alongside (Has : Use → Type 0) (p : ℕ) (c x e y : Config) : Type 0 where
  pub log : List Act
  pub allowed : All (Allows Has) log
  pub here : Did p log c e
  pub there : Did p log x y
  pub sees : Sees Has p e y
  pub stack : y.processes.stack ≡ e.processes.stack

-- both went, to what this says of them; or both are the same fault
abbrev pub Both : (Config → Config → Type 0) → Result Config RunFault → Result Config RunFault → Type 0
Both R (Ok e) (Ok y) = R e y
Both R (Ok e) (Err f) = ⊥
Both R (Err f) (Ok y) = ⊥
Both R (Err f) (Err g) = g ≡ f

-- no call that is open is a transport call
abbrev pub HasNoHops : Residual → Type 0
HasNoHops skip = ⊤
HasNoHops (one s) = ⊤
HasNoHops (batch s qs) = ⊤
HasNoHops (seq r ss) = HasNoHops r
HasNoHops (owing r g u) = HasNoHops r
HasNoHops (guard r g u) = HasNoHops r
HasNoHops (try_ r handlers) = HasNoHops r
HasNoHops (frame r x) = HasNoHops r × (x.via ≡ None)
HasNoHops (shell r x) = HasNoHops r × (x.via ≡ None)
HasNoHops (run g r) = HasNoHops r
HasNoHops (goal r k) = HasNoHops r

-- one has all that this statement uses in this instance of its module
abbrev pub OwnUses : (Use → Type 0) → Design → ℕ → Statement → Type 0
OwnUses Has d home s = (u : Use) → Contains (uses_of d home s) u → Has u

-- the same of the statement of this number
abbrev pub OwnAt : (Use → Type 0) → Design → ℕ → ℕ → Type 0
OwnAt Has d home n = (s : Statement) → statement_at (arena_of d.code) n ≡ Some s → OwnUses Has d home s

-- What comes next of a body is one's own: a statement, or the end of a call that one's own statement made; no control call is owed.
abbrev pub OwnNext : (Use → Type 0) → Design → ℕ → Next → Type 0
OwnNext Has d home (statement n) = OwnAt Has d home n
OwnNext Has d home (owes n q) = ⊥
OwnNext Has d home (leaves x) = (n : ℕ) → x.call ≡ Some n → OwnAt Has d home n
OwnNext Has d home done = ⊤
OwnNext Has d home (reaches k) = ⊤
OwnNext Has d home nothing = ⊤

-- the events that an instance hears where it waits so
abbrev pub heard : Instance → Wait → List Ev
heard i waits_for_nothing = []
heard i waits_statically = i.static
heard i (waits_for_any es) = es
heard i (waits_for_all es) = es

abbrev pub IsDeaf : Ev → Instance → Type 0
IsDeaf e i = is_among e (heard i i.wait) ≡ false

-- nobody waits for this event
abbrev pub IsUnheard : Ev → Config → Type 0
IsUnheard e c = (q : ℕ) (i : Instance) → instance_at c q ≡ Some i → IsDeaf e i

-- nobody waits for the end of this process, or for its reset
abbrev pub AreUnheard : ℕ → Config → Type 0
AreUnheard p c = IsUnheard (ev.Terminated p) c × IsUnheard (ev.Restarted p) c
