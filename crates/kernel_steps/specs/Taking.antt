-- Which steps may take memory.
use Rattle.std.specs.Prelude.{◌≡◌, ℕ, Bool, true, false, not, Option, Some, None}
use Rattle.flat_design.specs.Code as code
use Rattle.flat_design.specs.Code.{Arena, Statement, statement_at}
use Rattle.exec_channels.specs.ModelTree.declared.items.ProcessKind.{ProcessKind}
use Rattle.exec_channels.specs.SimModel.Residual as residual
use Rattle.exec_channels.specs.SimModel.Residual.{Next, next_of, settle}
use Rattle.exec_channels.specs.SimModel.Configuration.{Config, Instance, instance_at, arena}
use Rattle.exec_channels.specs.SimModel.Control.{is_thread}
use Rattle.exec_channels.specs.KernelState.Kernel.{StandsFor}
use Rattle.exec_channels.specs.KernelState.declared.kernel.Kernel.{Kernel}

-- which statements may take memory: what may wait, a next trigger, a write, what makes a payload, a call or an instance, and what
-- controls descendants too
abbrev pub takes_memory : Statement → Bool
takes_memory (code.var n t e) = false
takes_memory (code.assign d e) = false
takes_memory (code.call x f arguments) = true
takes_memory (code.read x ch) = true
takes_memory (code.nb_read x ch y) = false
takes_memory (code.nb_write x ch t e) = false
takes_memory (code.trylock x ch) = false
takes_memory (code.unlock x ch) = false
takes_memory (code.sem_trywait x ch) = false
takes_memory (code.nb_transport x socket n phase d) = true
takes_memory (code.write ch t e) = true
takes_memory (code.print text e) = false
takes_memory (code.notify n) = false
takes_memory (code.notify_delta n) = false
takes_memory (code.notify_after n e) = false
takes_memory (code.cancel n) = false
takes_memory (code.wait w) = true
takes_memory (code.next_trigger w) = true
takes_memory (code.lock ch) = true
takes_memory (code.sem_wait ch) = true
takes_memory (code.post ch) = false
takes_memory (code.make n e m) = true
takes_memory (code.acquire n) = false
takes_memory (code.release n) = false
takes_memory (code.carry n m) = false
takes_memory (code.b_transport socket n d) = true
takes_memory (code.qk_global e) = false
takes_memory (code.qk_inc n e) = false
takes_memory (code.qk_set n e) = false
takes_memory (code.qk_reset n) = false
takes_memory (code.spawn x) = true
takes_memory (code.control k who all) = all
takes_memory (code.throw_it who e all) = all
takes_memory (code.throw e) = false
takes_memory (code.return_ e) = false
takes_memory code.stop = false
takes_memory (code.if_ e b other) = false
takes_memory (code.while_ e b) = false
takes_memory (code.guard b u) = false
takes_memory (code.try_ b handlers) = false

abbrev pub takes_memory_if : Option Statement → Bool
takes_memory_if None = false
takes_memory_if (Some s) = takes_memory s

-- The same of what comes next: a call that is owed, the end of a call and a goal that is reached take none, and neither does a
-- thread that ends; a method whose body has ended waits.
abbrev pub next_takes : Arena → ProcessKind → Next → Bool
next_takes a kind (residual.statement s) = takes_memory_if (statement_at a s)
next_takes a kind (residual.owes s q) = false
next_takes a kind (residual.leaves x) = false
next_takes a kind residual.done = not (is_thread kind)
next_takes a kind (residual.reaches g) = false
next_takes a kind residual.nothing = not (is_thread kind)

-- the next step of instance p may take memory
abbrev pub StepTakes : Kernel → ℕ → Type 0
StepTakes k p = (c : Config) (i : Instance) → StandsFor k c → instance_at c p ≡ Some i → next_takes (arena c) i.kind (next_of (settle (arena c) i.residual)) ≡ true

-- instance p is no thread
abbrev pub IsNoThread : Kernel → ℕ → Type 0
IsNoThread k p = (c : Config) (i : Instance) → StandsFor k c → instance_at c p ≡ Some i → is_thread i.kind ≡ false
