-- Where an expression stands in a kernel, and what it reads there.
use Rattle.std.specs.Prelude.{◌≡◌, ◌&&◌, ℕ, Bool, false, not, nat_lt, Option, Some, None, Result}
use Rattle.expr_eval.specs.SimTime.declared.moments.Time.{Time}
use Rattle.expr_eval.specs.LogicValues.declared.kinds.Value.{Value}
use Rattle.expr_eval.specs.LogicValues.declared.kinds.Value.TheVariants as value
use Rattle.std.specs.FinMap as map
use Rattle.expr_eval.specs.SimModel.Residual.{innermost, settle}
use Rattle.expr_eval.specs.SimModel.Configuration.{Config, Instance, instance_at, arena}
use Rattle.expr_eval.specs.SimModel.Reading.{Here, here, has_ended, locals_of, val, val_if, place_in}
use Rattle.expr_eval.specs.SimModel.Statements.{settled_in}
use Rattle.flat_design.specs.Code.{Term}
use Rattle.flat_design.specs.declared.faults.RunFault.{RunFault}
use Rattle.kernel_state.specs.ProcessBodies.Bodies as bodies
use Rattle.kernel_state.specs.KernelTransactions.Board.{StandsForTransactions, StandsForQuantum}
use Rattle.kernel_state.specs.Kernel.{StandsFor, whole_design}
use Rattle.kernel_state.specs.declared.kernel.Kernel.{Kernel}
use Rattle.kernel_view.specs.declared.standings.Standing.{Standing}

-- the instance of this serial was begun once, and is not kept any more
abbrev pub is_gone : Kernel → ℕ → Bool
is_gone k q = nat_lt q k.schedule.table.next && not (map.contains_key k.schedule.table.live q)

-- a time as a value, where there is one
abbrev pub moment_if : Option Time → Value
moment_if None = value.Bool false
moment_if (Some t) = value.Moment t.0

-- what expressions read of a configuration, part by part
pub record ShowsParts (k : Kernel) (c : Config) : Type 0 where
  pub design : c.design ≡ whole_design k
  pub now : c.cycle.now ≡ k.cycle.now.0
  pub ended : (q : ℕ) → has_ended (instance_at c q) ≡ is_gone k q
  pub channels : c.channels ≡ k.channels
  pub transactions : StandsForTransactions k.transactions c.transactions
  pub quantum : StandsForQuantum k.transactions c.quantum
  pub variables : c.store.variables ≡ k.variables.items
  pub memories : c.store.memories ≡ k.memories.items

-- the instance, the instance of a module and the local variables too
pub record ShowsHere (x : Standing) (h : Here) : Type 0 where
  pub parts : ShowsParts x.kernel.now h.config
  pub serial : h.serial ≡ x.serial
  pub home : h.home ≡ x.home
  pub locals : h.locals ≡ locals_of (innermost (bodies.settled_in x.kernel.now.program.now x.body.now))

-- where the next statement of instance p, which is i, stands: finished parts of its body have fallen away
abbrev pub next_here : Config → ℕ → Instance → Here
next_here c p i = here (settled_in c p i.residual) p (record i { residual = settle (arena c) i.residual }) (settle (arena c) i.residual)

-- the same for all that the kernel stands for: whatever is said of where the next statement of instance p stands
abbrev pub Everywhere : Kernel → ℕ → (Here → Type 0) → Type 0
Everywhere k p P = (c : Config) (i : Instance) → StandsFor k c → instance_at c p ≡ Some i → P (next_here c p i)

-- this is what an expression gives there, its value or its first fault; the same of one that is written or not
abbrev pub Gives : Kernel → ℕ → Result Value RunFault → Term → Type 0
Gives k p answer e = Everywhere k p (λ h. answer ≡ val h e)

abbrev pub GivesIf : Kernel → ℕ → Result (Option Value) RunFault → Option Term → Type 0
GivesIf k p answer e = Everywhere k p (λ h. answer ≡ val_if h e)

-- and this is the place of a port
abbrev pub GivesPlace : Kernel → ℕ → Result (Option ℕ) RunFault → Option Term → Type 0
GivesPlace k p answer e = Everywhere k p (λ h. answer ≡ place_in h e)
