-- What a body shows, whatever it owes; and what it settles to, by whether it owes a call to somebody.
use Rattle.std.proofs.Common.{◌≡◌, ℕ, Bool, true, false, List, Option, Some, None, refl, sym, ap, ◌∙◌, subst}
use Rattle.std.specs.Prelude.{if◌then◌else◌}
use Rattle.kernel_bodies.specs.FlatDesign.Code.{Arena}
use Rattle.kernel_bodies.specs.SimModel.Residual as residual
use Rattle.kernel_bodies.specs.SimModel.Residual.{Residual, Frame, settle, next_of, in_innermost}
use Rattle.kernel_bodies.specs.SimModel.Unwinding.{catches, raise}
use Rattle.kernel_bodies.specs.SimModel.declared.plain.Goal.{Goal}
use Rattle.process_bodies.specs.declared.body.Owed.{Owed}
use Rattle.kernel_bodies.specs.Layers.{shown}
use Rattle.kernel_bodies.specs.declared.layers.Next.{Next}
use Rattle.kernel_bodies.specs.declared.layers.Next.TheVariants as next
use Rattle.process_bodies.specs.Bodies.{owed_in, left_with, in_place, owner, owes, Agrees, IsStatement, IsGoal, IsOwed}
use Rattle.process_bodies.proofs.Places.{over_settles, owed_stands, place_stands, place_shows, owed_shows, owed_raises, owed_in_innermost, place_innermost}

-- what all owed calls leave as it is
module _ {A : Type 0} (f : Residual → A) (same : (o : Owed) (r : Residual) → f (owed_in r o) ≡ f r) where
  pub shows_now : (r : Residual) (w : Option Owed) → f (left_with r w) ≡ f r
  shows_now r None = refl
  shows_now r (Some o) = same o r

  by_place : (a : Arena) (r : Residual) (o : Owed) (p : Option ℕ) → in_place r ≡ p → f (settle a (owed_in r o)) ≡ f (settle a r)
  by_place a r o None e = ap f (over_settles o a r e)
  by_place a r o (Some s) e = ap f (owed_stands o a r s e) ∙ same o (settle a r)

  pub shows_settled : (a : Arena) (r : Residual) (w : Option Owed) → f (settle a (left_with r w)) ≡ f (settle a r)
  shows_settled a r None = refl
  shows_settled a r (Some o) = by_place a r o (in_place r) refl

-- where no call is owed to somebody

pub owner_none : (o : Owed) → o.somebody ≡ false → owner o ≡ None
owner_none o e = ap (λ b. if b then Some o.statement else None) e

pub owner_some : (o : Owed) → o.somebody ≡ true → owner o ≡ Some o.statement
owner_some o e = ap (λ b. if b then Some o.statement else None) e

pub free_settles : (a : Arena) (r : Residual) (w : Option Owed) → Agrees r w → owes w ≡ false → settle a (left_with r w) ≡ settle a r
free_settles a r None h e = refl
free_settles a r (Some o) h e = over_settles o a r (h ∙ owner_none o e)

-- where one is

pub owed_settles : (a : Arena) (r : Residual) (o : Owed) → in_place r ≡ owner o → o.somebody ≡ true → settle a (owed_in r o) ≡ owed_in (settle a r) o
owed_settles a r o h e = owed_stands o a r o.statement (h ∙ owner_some o e)

pub settled_place : (a : Arena) (r : Residual) (o : Owed) → in_place r ≡ owner o → o.somebody ≡ true → in_place (settle a r) ≡ Some o.statement
settled_place a r o h e = place_stands o a r o.statement (h ∙ owner_some o e)

pub owed_comes : (a : Arena) (r : Residual) (o : Owed) → in_place r ≡ owner o → o.somebody ≡ true → next_of (settle a (owed_in r o)) ≡ residual.owes o.statement o.first
owed_comes a r o h e = ap next_of (owed_settles a r o h e) ∙ owed_shows o (settle a r) o.statement (settled_place a r o h e)

-- whether a call is owed to somebody, by what comes next

statement_not_owed : (n : Next) → IsStatement n → IsOwed n → ⊥
statement_not_owed (next.Statement s) is owed = owed
statement_not_owed (next.Batch s q) is owed = is
statement_not_owed next.Leave is owed = is
statement_not_owed next.Done is owed = is
statement_not_owed (next.Goal k) is owed = is
statement_not_owed next.Nothing is owed = is

goal_not_owed : (n : Next) → IsGoal n → IsOwed n → ⊥
goal_not_owed (next.Statement s) is owed = is
goal_not_owed (next.Batch s q) is owed = is
goal_not_owed next.Leave is owed = is
goal_not_owed next.Done is owed = is
goal_not_owed (next.Goal k) is owed = owed
goal_not_owed next.Nothing is owed = is

free_or : (b : Bool) → (b ≡ true → ⊥) → b ≡ false
free_or true none = absurd (none refl)
free_or false none = refl

owing_by : (a : Arena) (r : Residual) (v : Option Owed) → Agrees r v → owes v ≡ true → settle a (left_with r v) ≡ left_with (settle a r) v
owing_by a r None g f = cc
owing_by a r (Some o) g f = owed_settles a r o g f

agrees_by : (a : Arena) (r : Residual) (v : Option Owed) → Agrees r v → owes v ≡ true → Agrees (settle a r) v
agrees_by a r None g f = tt
agrees_by a r (Some o) g f = settled_place a r o g f ∙ sym (owner_some o f)

comes_by : (a : Arena) (r : Residual) (v : Option Owed) → Agrees r v → owes v ≡ true → IsOwed (shown (next_of (settle a (left_with r v))))
comes_by a r None g f = absurd (let no : ⊥ = cc in no)
comes_by a r (Some o) g f = subst (λ n. IsOwed (shown n)) (sym (owed_comes a r o g f)) tt

module _ (a : Arena) (r : Residual) (w : Option Owed) (h : Agrees r w) where
  pub owing_settles : owes w ≡ true → settle a (left_with r w) ≡ left_with (settle a r) w
  owing_settles e = owing_by a r w h e

  pub owing_agrees : owes w ≡ true → Agrees (settle a r) w
  owing_agrees e = agrees_by a r w h e

  pub free_settled : owes w ≡ false → settle a (left_with r w) ≡ settle a r
  free_settled e = free_settles a r w h e

  pub free_next : owes w ≡ false → shown (next_of (settle a (left_with r w))) ≡ shown (next_of (settle a r))
  free_next e = ap (λ x. shown (next_of x)) (free_settled e)

  -- a statement, a goal, or the end of a call comes next only where it is owed to nobody
  pub statement_free : IsStatement (shown (next_of (settle a (left_with r w)))) → owes w ≡ false
  statement_free is = free_or (owes w) (λ e. statement_not_owed (shown (next_of (settle a (left_with r w)))) is (comes_by a r w h e))

  pub goal_free : IsGoal (shown (next_of (settle a (left_with r w)))) → owes w ≡ false
  goal_free is = free_or (owes w) (λ e. goal_not_owed (shown (next_of (settle a (left_with r w)))) is (comes_by a r w h e))

  pub leave_free : shown (next_of (settle a (left_with r w))) ≡ next.Leave → owes w ≡ false
  leave_free is = free_or (owes w) (λ e. subst IsOwed is (comes_by a r w h e))

  pub statement_too : IsStatement (shown (next_of (settle a (left_with r w)))) → IsStatement (shown (next_of (settle a r)))
  statement_too is = subst IsStatement (free_next (statement_free is)) is

  pub goal_too : IsGoal (shown (next_of (settle a (left_with r w)))) → IsGoal (shown (next_of (settle a r)))
  goal_too is = subst IsGoal (free_next (goal_free is)) is

  pub leave_too : shown (next_of (settle a (left_with r w))) ≡ next.Leave → shown (next_of (settle a r)) ≡ next.Leave
  leave_too is = sym (free_next (leave_free is)) ∙ is

-- another value of a local variable

pub set_with : (f : Frame → Frame) (r : Residual) (w : Option Owed) → in_innermost f (left_with r w) ≡ left_with (in_innermost f r) w
set_with f r None = refl
set_with f r (Some o) = owed_in_innermost o f r

pub set_agrees : (f : Frame → Frame) (r : Residual) (w : Option Owed) → Agrees r w → Agrees (in_innermost f r) w
set_agrees f r None h = tt
set_agrees f r (Some o) h = place_innermost f r ∙ h

-- an exception that is caught lets go of it

pub raised_with : (a : Arena) (r : Residual) (w : Option Owed) (e : ℕ) (k : Goal) → catches r e ≡ true → raise a (left_with r w) e k ≡ raise a r e k
raised_with a r None e k caught = refl
raised_with a r (Some o) e k caught = owed_raises o a r e k caught

-- the statement in place is one that comes next

pub is_statement_there : (r : Residual) (s : ℕ) → in_place r ≡ Some s → IsStatement (shown (next_of r))
is_statement_there r s e = subst (λ n. IsStatement (shown n)) (sym (place_shows r s e)) tt

-- a call that comes next as one that is owed

abbrev owes_of : Next → residual.Next
owes_of (next.Statement s) = residual.nothing
owes_of (next.Batch s q) = residual.owes s q
owes_of next.Leave = residual.nothing
owes_of next.Done = residual.nothing
owes_of (next.Goal k) = residual.nothing
owes_of next.Nothing = residual.nothing

pub same_owes : (t f s q : ℕ) → next.Batch t f ≡ next.Batch s q → residual.owes t f ≡ residual.owes s q
same_owes t f s q e = ap owes_of e

abbrev statement_number : residual.Next → ℕ
statement_number residual.nothing = 0
statement_number (residual.statement s) = s
statement_number (residual.owes s q) = 0
statement_number (residual.leaves x) = 0
statement_number residual.done = 0
statement_number (residual.reaches k) = 0

pub same_statement : (n : residual.Next) (s t : ℕ) → n ≡ residual.statement s → n ≡ residual.statement t → s ≡ t
same_statement n s t one two = ap statement_number (sym one ∙ two)
