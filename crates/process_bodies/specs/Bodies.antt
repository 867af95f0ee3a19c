-- What a body stands for whose statement in place may owe its call to several instances, and what is true of each body.
use Rattle.std.specs.Prelude.{◌≡◌, ℕ, Bool, true, false, List, [], ◌∷◌, reverse, Option, Some, None, if◌then◌else◌}
use Rattle.kernel_bodies.specs.FlatDesign.Code.{Arena, arena_of}
use Rattle.kernel_bodies.specs.SimModel.Residual as residual
use Rattle.kernel_bodies.specs.SimModel.Residual.{Residual, skip, one, batch, seq, owing, guard, try_, frame, shell, run, goal, settle, next_of}
use Rattle.kernel_bodies.specs.declared.program.Program.{Program}
use Rattle.kernel_bodies.specs.declared.around.Around.{Around}
use Rattle.kernel_bodies.specs.declared.layers.Next.{Next}
use Rattle.kernel_bodies.specs.declared.layers.Next.TheVariants as next
use Rattle.kernel_bodies.specs.Layers.{shown}
use Rattle.process_state.specs.Bodies as inner
use Rattle.process_bodies.specs.declared.body.Body.{Body}
use Rattle.process_bodies.specs.declared.body.Owed.{Owed}

-- The innermost place of what is left has the call that is owed: where a statement is in place there, to the first and then to the
-- rest; and else to nobody any more.
abbrev pub owed_in : Residual → Owed → Residual
owed_in skip o = batch o.statement []
owed_in (one s) o = batch o.statement (o.first ∷ reverse o.rest.items)
owed_in (batch s qs) o = batch s qs
owed_in (seq r ss) o = seq (owed_in r o) ss
owed_in (owing r g u) o = owing (owed_in r o) g u
owed_in (guard r g u) o = guard (owed_in r o) g u
owed_in (try_ r handlers) o = try_ (owed_in r o) handlers
owed_in (frame r x) o = frame (owed_in r o) x
owed_in (shell r x) o = shell (owed_in r o) x
owed_in (run g r) o = run g (owed_in r o)
owed_in (goal r k) o = goal (owed_in r o) k

abbrev pub left_with : Residual → Option Owed → Residual
left_with r None = r
left_with r (Some o) = owed_in r o

-- the one residual that a body stands for, over the code that it is used with; and what it settles to
abbrev pub left_of : Arena → Body → Residual
left_of a b = left_with (inner.left_of a b.calls) b.owed

abbrev pub left_in : Program → Body → Residual
left_in p b = left_of (arena_of p.code) b

abbrev pub settled_in : Program → Body → Residual
settled_in p b = settle (arena_of p.code) (left_in p b)

-- what comes next, once finished parts have fallen away
abbrev pub next_in : Program → Body → Next
next_in p b = shown (next_of (settled_in p b))

-- the statement in the innermost place
abbrev pub in_place : Residual → Option ℕ
in_place skip = None
in_place (one s) = Some s
in_place (batch s qs) = None
in_place (seq r ss) = in_place r
in_place (owing r g u) = in_place r
in_place (guard r g u) = in_place r
in_place (try_ r handlers) = in_place r
in_place (frame r x) = in_place r
in_place (shell r x) = in_place r
in_place (run g r) = in_place r
in_place (goal r k) = in_place r

-- A statement is in place as long as its call is owed to somebody.
abbrev pub owner : Owed → Option ℕ
owner o = if o.somebody then Some o.statement else None

abbrev pub owes : Option Owed → Bool
owes None = false
owes (Some o) = o.somebody

abbrev pub Agrees : Residual → Option Owed → Type 0
Agrees r None = Unit {0}
Agrees r (Some o) = in_place r ≡ owner o

-- The calls of a body have room for all that may come inside them, and its statement in place is what it owes a call by.
pub record IsSound (p : Program) (b : Body) : Type 0 where
  pub calls : inner.IsSound p b.calls
  pub owed : Agrees (inner.left_in p b.calls) b.owed

-- a body keeps the number of its code and its first arguments
pub record Keeps (old new : Body) : Type 0 where
  pub code : new.calls.code ≡ old.calls.code
  pub arguments : new.calls.arguments.items ≡ old.calls.arguments.items

-- what comes next is a statement; a goal; a call that is owed
abbrev pub IsStatement : Next → Type 0
IsStatement = inner.IsStatement

abbrev pub IsGoal : Next → Type 0
IsGoal = inner.IsGoal

abbrev pub IsOwed : Next → Type 0
IsOwed (next.Statement s) = ⊥
IsOwed (next.Batch s q) = Unit {0}
IsOwed next.Leave = ⊥
IsOwed next.Done = ⊥
IsOwed (next.Goal k) = ⊥
IsOwed next.Nothing = ⊥

-- to whom the call that comes next is owed first
abbrev pub first_owed : Next → Option ℕ
first_owed (next.Statement s) = None
first_owed (next.Batch s q) = Some q
first_owed next.Leave = None
first_owed next.Done = None
first_owed (next.Goal k) = None
first_owed next.Nothing = None

-- what a statement puts around its block: a loop follows its block again
abbrev pub enclosed : Arena → ℕ → Around → Residual → Residual
enclosed = inner.enclosed

-- room for a call of the code f
abbrev pub HasRoomFor : Program → Body → ℕ → Type 0
HasRoomFor p b f = inner.HasRoomFor p b.calls f
