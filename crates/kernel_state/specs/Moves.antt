-- What a move of a kernel is: it carries the configuration that the kernel stands for to another.
use Rattle.std.specs.Prelude.{◌≡◌, ℕ, true, Option, Some, None, Result, Ok, Err, slice_get}
use Rattle.std.specs.FinMap as map
use Rattle.kernel_processes.specs.FlatDesign.declared.faults.RunFault.{RunFault}
use Rattle.kernel_processes.specs.SimModel.Residual.{Residual, settle}
use Rattle.kernel_processes.specs.SimModel.Configuration.{Config, Instance, instance_at, arena}
use Rattle.kernel_processes.specs.SimModel.Statements.{settled_in}
use Rattle.process_bodies.specs.Bodies as bodies
use Rattle.kernel_processes.specs.InstanceViews.{body_at as kept_at}
use Rattle.kernel_processes.specs.Moved.{IsTop}
use Rattle.kernel_state.specs.Kernel.{StandsFor}
use Rattle.kernel_state.specs.declared.kernel.Kept.{Kept}
use Rattle.kernel_state.specs.declared.kernel.Kernel.{Kernel}

-- whatever configuration the kernel stood for, it stands for what the definition makes of it
abbrev pub Moves : Kernel → Kernel → (Config → Config) → Type 0
Moves old new f = (c : Config) → StandsFor old c → StandsFor new (f c)

-- The first move of a step of an instance: finished parts of its body fall away, and then the definition makes something of the
-- configuration, of the instance and of what is left.
abbrev pub stepped : (Config → ℕ → Instance → Residual → Config) → Config → ℕ → Instance → Config
stepped f c p i = f (settled_in c p i.residual) p (record i { residual = settle (arena c) i.residual }) (settle (arena c) i.residual)

abbrev pub Steps : Kernel → Kernel → ℕ → (Config → ℕ → Instance → Residual → Config) → Type 0
Steps old new p f = (c : Config) (i : Instance) → StandsFor old c → instance_at c p ≡ Some i → StandsFor new (stepped f c p i)

-- the same of a move of one instance
abbrev pub MovesAt : Kernel → Kernel → ℕ → (Config → Instance → Config) → Type 0
MovesAt old new p f = (c : Config) (i : Instance) → StandsFor old c → instance_at c p ≡ Some i → StandsFor new (f c i)

-- A run fault is answered as it is, and changes nothing.
abbrev pub Follows : Kernel → Result Unit RunFault → Config → Result Config RunFault → Type 0
Follows new (Ok u) c (Ok d) = StandsFor new d
Follows new (Ok u) c (Err f) = ⊥
Follows new (Err g) c (Ok d) = ⊥
Follows new (Err g) c (Err f) = (g ≡ f) × StandsFor new c

-- A step of an instance by a statement that may be at fault.
abbrev pub Does : Kernel → Kernel → Result Unit RunFault → ℕ → (Config → ℕ → Instance → Residual → Result Config RunFault) → Type 0
Does old new answer p f = (c : Config) (i : Instance) → StandsFor old c → instance_at c p ≡ Some i
    → Follows new answer c (f (settled_in c p i.residual) p (record i { residual = settle (arena c) i.residual }) (settle (arena c) i.residual))

-- there is an instance of this serial that has not ended
abbrev pub Lives : Kernel → ℕ → Type 0
Lives k p = map.contains_key k.schedule.table.live p ≡ true

-- what is kept of an instance passes the test
abbrev pub KeptAt : Kernel → ℕ → (Kept → Type 0) → Type 0
KeptAt k p P = (kept : Kept) → kept_at k.schedule p ≡ Some kept → P kept

-- a statement comes next in its body
abbrev pub HasStatement : Kernel → ℕ → Type 0
HasStatement k p = KeptAt k p (λ kept. bodies.IsStatement (bodies.next_in k.program.now kept.body))

-- it is the active one on top
abbrev pub IsOnTop : Kernel → ℕ → Type 0
IsOnTop k p = IsTop p k.schedule.stack.items

-- the bodies stay, and so do the code and the design
pub record KeepsBodies (old new : Kernel) : Type 0 where
  pub bodies : (q : ℕ) → kept_at new.schedule q ≡ kept_at old.schedule q
  pub program : new.program.now ≡ old.program.now
  pub design : new.design ≡ old.design
