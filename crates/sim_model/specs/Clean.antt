-- Clean configurations (IEEE 1666-2011, 4.2.1 and 5.6.6). In two groups of facts: who stands where, and that nothing of an
-- instance that has ended is left; and how guards, unwind blocks and their marks agree.
use Rattle.std.specs.Prelude.{◌≡◌, ℕ, ◌+◌, ◌==◌, ◌<◌, ◌≤◌, ⊤, Bool, true, false, not, ◌&&◌, List, [], ◌∷◌, ◌++◌, filter, count_by, length, slice_get, Some, Contains, if◌then◌else◌}
use Rattle.std.specs.List.{list_any}
use Rattle.flat_design.specs.Code as code
use Rattle.flat_design.specs.Code.{Arena, Statement, block_at, statement_at, body_at}
use Rattle.flat_design.specs.Typed.{EachOf}
use Rattle.flat_design.specs.Reach.{Reached, InBody}
use Rattle.flat_design.specs.declared.code.CodeBody.{CodeBody}
use Rattle.flat_design.specs.declared.code.Handler.{Handler}
use Rattle.sim_model.specs.Residual.{Residual, skip, one, batch, seq, owing, guard, try_, frame, shell, run, goal, has_goal, Mark, enter, leave, begin, finish}
use Rattle.sim_model.specs.Configuration.{Config, Instance, Processes, Trace, waits_for_nothing, no_deadline, arena}

-- ---- who stands where

-- how often p stands in a list of serials
abbrev pub times : ℕ → List ℕ → ℕ
times p ps = count_by (λ q. q == p) ps

-- how often p stands in the runnable list and on the stack of the active instances, together
abbrev pub places : Processes → ℕ → ℕ
places ps p = times p ps.runnable + times p ps.stack

-- an instance that was made and has not ended
pub record IsLive (ps : Processes) (p : ℕ) : Type 0 where
  pub instance : Instance
  pub made : slice_get ps.instances p ≡ Some instance
  pub lives : instance.ended ≡ false

-- an instance that has no wait, no deadline and no mark that it is kept
pub record IsFree (i : Instance) : Type 0 where
  pub wait : i.wait ≡ waits_for_nothing
  pub deadline : i.deadline ≡ no_deadline
  pub kept : i.kept ≡ false

pub record CleanProcesses (ps : Processes) : Type 0 where
  -- what is runnable or active was made and has not ended, and what has ended has no wait, deadline or kept mark
  pub live : (p : ℕ) → 0 < places ps p → IsLive ps p
  pub over : (p : ℕ) (i : Instance) → slice_get ps.instances p ≡ Some i → i.ended ≡ true → IsFree i
  -- the runnable list and the stack have no doubles and nothing in common
  pub once : (p : ℕ) → places ps p ≤ 1
  -- what is runnable or active has no wait, deadline or kept mark
  pub free : (p : ℕ) (i : Instance) → slice_get ps.instances p ≡ Some i → 0 < places ps p → IsFree i
  -- a kept instance is suspended
  pub kept : (p : ℕ) (i : Instance) → slice_get ps.instances p ≡ Some i → i.kept ≡ true → i.suspended ≡ true
  -- a suspended instance is not runnable
  pub suspended : (p : ℕ) (i : Instance) → slice_get ps.instances p ≡ Some i → i.suspended ≡ true → times p ps.runnable ≡ 0
  -- each instance has its parent, or none, which is a smaller serial
  pub counted : length ps.parents ≡ length ps.instances
  pub parents : (p q : ℕ) → slice_get ps.parents p ≡ Some (Some q) → q < p
  -- of an instance that has ended nothing is left
  pub nothing_left : (p : ℕ) (i : Instance) → slice_get ps.instances p ≡ Some i → i.ended ≡ true → i.residual ≡ skip

-- ---- goals, and what is below them

abbrev pub goals_in : Residual → ℕ
goals_in skip = 0
goals_in (one s) = 0
goals_in (batch s qs) = 0
goals_in (seq r ss) = goals_in r
goals_in (owing r g u) = goals_in r
goals_in (guard r g u) = goals_in r
goals_in (try_ r handlers) = goals_in r
goals_in (frame r x) = goals_in r
goals_in (shell r x) = goals_in r
goals_in (run g r) = goals_in r
goals_in (goal r k) = 1 + goals_in r

-- the statements of a block, and of the handlers of a try
abbrev pub EachInBlock : (ℕ → Type 0) → Arena → ℕ → Type 0
EachInBlock P a b = EachOf P (block_at a b)

abbrev pub EachInHandlers : (ℕ → Type 0) → Arena → List Handler → Type 0
EachInHandlers P a handlers = EachOf (λ (h : Handler). EachInBlock P a h.block) handlers

-- the statements that are left, those of unwind blocks and handlers among them
abbrev pub EachLeft : (ℕ → Type 0) → Arena → Residual → Type 0
EachLeft P a skip = ⊤
EachLeft P a (one s) = P s
EachLeft P a (batch s qs) = P s
EachLeft P a (seq r ss) = EachLeft P a r × EachOf P ss
EachLeft P a (owing r g u) = EachLeft P a r × EachInBlock P a u
EachLeft P a (guard r g u) = EachLeft P a r × EachInBlock P a u
EachLeft P a (try_ r handlers) = EachLeft P a r × EachInHandlers P a handlers
EachLeft P a (frame r x) = EachLeft P a r
EachLeft P a (shell r x) = EachLeft P a r
EachLeft P a (run g r) = EachLeft P a r
EachLeft P a (goal r k) = EachLeft P a r

-- the statements that are left before a goal
abbrev pub EachBelowGoal : (ℕ → Type 0) → Arena → Residual → Type 0
EachBelowGoal P a skip = ⊤
EachBelowGoal P a (one s) = ⊤
EachBelowGoal P a (batch s qs) = ⊤
EachBelowGoal P a (seq r ss) = EachBelowGoal P a r
EachBelowGoal P a (owing r g u) = EachBelowGoal P a r
EachBelowGoal P a (guard r g u) = EachBelowGoal P a r
EachBelowGoal P a (try_ r handlers) = EachBelowGoal P a r
EachBelowGoal P a (frame r x) = EachBelowGoal P a r
EachBelowGoal P a (shell r x) = EachBelowGoal P a r
EachBelowGoal P a (run g r) = EachBelowGoal P a r
EachBelowGoal P a (goal r k) = EachLeft P a r

-- a statement of the unwind block of a guard that stands in a body, or one that is reached from there
pub record IsOfUnwindBlock (a : Arena) (n : ℕ) : Type 0 where
  pub function : ℕ
  pub body : CodeBody
  pub block : ℕ
  pub unwind : ℕ
  pub found : body_at a function ≡ Some body
  pub stands : InBody a body (code.guard block unwind)
  pub reached : (s : Statement) → statement_at a n ≡ Some s → Reached a unwind s

-- ---- guards

-- the numbers of the guards that are entered, or whose unwind block is owed or begun, from outside in
abbrev pub guards_of : Residual → List ℕ
guards_of skip = []
guards_of (one s) = []
guards_of (batch s qs) = []
guards_of (seq r ss) = guards_of r
guards_of (owing r g u) = g ∷ guards_of r
guards_of (guard r g u) = g ∷ guards_of r
guards_of (try_ r handlers) = guards_of r
guards_of (frame r x) = guards_of r
guards_of (shell r x) = guards_of r
guards_of (run g r) = g ∷ guards_of r
guards_of (goal r k) = guards_of r

-- whether an unwind block is owed or begun
abbrev pub owes : Residual → Bool
owes skip = false
owes (one s) = false
owes (batch s qs) = false
owes (seq r ss) = owes r
owes (owing r g u) = true
owes (guard r g u) = owes r
owes (try_ r handlers) = owes r
owes (frame r x) = owes r
owes (shell r x) = owes r
owes (run g r) = true
owes (goal r k) = owes r

-- one unwind block at most is begun, and all that are owed lie outside it: inside it none is owed or begun
abbrev pub OneAtATime : Residual → Type 0
OneAtATime skip = ⊤
OneAtATime (one s) = ⊤
OneAtATime (batch s qs) = ⊤
OneAtATime (seq r ss) = OneAtATime r
OneAtATime (owing r g u) = OneAtATime r
OneAtATime (guard r g u) = OneAtATime r
OneAtATime (try_ r handlers) = OneAtATime r
OneAtATime (frame r x) = OneAtATime r
OneAtATime (shell r x) = OneAtATime r
OneAtATime (run g r) = owes r ≡ false
OneAtATime (goal r k) = OneAtATime r

-- the numbers of the guards that p entered, in their order
abbrev pub entered_by : ℕ → List Mark → List ℕ
entered_by p [] = []
entered_by p (enter q g ∷ ms) = if q == p then g ∷ entered_by p ms else entered_by p ms
entered_by p (leave q g ∷ ms) = entered_by p ms
entered_by p (begin q g ∷ ms) = entered_by p ms
entered_by p (finish q g ∷ ms) = entered_by p ms

-- p leaves guard g, or finishes its unwind block
abbrev pub closes : ℕ → ℕ → Mark → Bool
closes p g (enter q n) = false
closes p g (leave q n) = (q == p) && (n == g)
closes p g (begin q n) = false
closes p g (finish q n) = (q == p) && (n == g)

-- the guards that p entered, and neither left nor finished, in the order in which they were entered
abbrev pub open_guards : ℕ → List Mark → List ℕ
open_guards p ms = filter (λ g. not (list_any (closes p g) ms)) (entered_by p ms)

-- ---- marks, by the number of their guard

abbrev pub enters : ℕ → Mark → Bool
enters g (enter p n) = n == g
enters g (leave p n) = false
enters g (begin p n) = false
enters g (finish p n) = false

abbrev pub leaves_or_begins : ℕ → Mark → Bool
leaves_or_begins g (enter p n) = false
leaves_or_begins g (leave p n) = n == g
leaves_or_begins g (begin p n) = n == g
leaves_or_begins g (finish p n) = false

abbrev pub finishes : ℕ → Mark → Bool
finishes g (enter p n) = false
finishes g (leave p n) = false
finishes g (begin p n) = false
finishes g (finish p n) = n == g

pub record CleanMarks (t : Trace) : Type 0 where
  -- each number that was given has one Enter, and no other number has one
  pub entered : (g : ℕ) → g < t.next_guard → count_by (enters g) t.marks ≡ 1
  pub not_given : (g : ℕ) → t.next_guard ≤ g → count_by (enters g) t.marks ≡ 0
  -- it has at most one of Leave and Begin, which follows its Enter
  pub once : (g : ℕ) → count_by (leaves_or_begins g) t.marks ≤ 1
  pub left : (xs ys : List Mark) (p g : ℕ) → t.marks ≡ xs ++ leave p g ∷ ys → Contains xs (enter p g)
  pub begun : (xs ys : List Mark) (p g : ℕ) → t.marks ≡ xs ++ begin p g ∷ ys → Contains xs (enter p g)
  -- and at most one Finish, which follows its Begin
  pub finished_once : (g : ℕ) → count_by (finishes g) t.marks ≤ 1
  pub finished : (xs ys : List Mark) (p g : ℕ) → t.marks ≡ xs ++ finish p g ∷ ys → Contains xs (begin p g)

pub record CleanGuards (a : Arena) (ps : Processes) (t : Trace) : Type 0 where
  -- a residual has at most one goal, and that only on the stack; below it are only statements of unwind blocks, or reached
  -- from them
  pub one_goal : (p : ℕ) (i : Instance) → slice_get ps.instances p ≡ Some i → goals_in i.residual ≤ 1
  pub goal_is_active : (p : ℕ) (i : Instance) → slice_get ps.instances p ≡ Some i → has_goal i.residual ≡ true → 0 < times p ps.stack
  pub below_goal : (p : ℕ) (i : Instance) → slice_get ps.instances p ≡ Some i → EachBelowGoal (IsOfUnwindBlock a) a i.residual
  -- the guards that an instance entered, and neither left nor finished, are those of its residual, from outside in
  pub guards : (p : ℕ) (i : Instance) → slice_get ps.instances p ≡ Some i → open_guards p t.marks ≡ guards_of i.residual
  -- at most one unwind block is begun, and those that are owed lie outside it
  pub one_block : (p : ℕ) (i : Instance) → slice_get ps.instances p ≡ Some i → OneAtATime i.residual
  pub marks : CleanMarks t

pub record Clean (c : Config) : Type 0 where
  pub processes : CleanProcesses c.processes
  pub guards : CleanGuards (arena c) c.processes c.trace
