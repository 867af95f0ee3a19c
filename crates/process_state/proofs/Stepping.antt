-- One step of a body: what comes, and what shows of it.
use Rattle.std.proofs.Common.{◌≡◌, ℕ, false, List, [], ◌∷◌, Option, Some, None, refl, ap, ◌∙◌}
use Rattle.kernel_bodies.specs.LogicValues.declared.kinds.Value.{Value}
use Rattle.kernel_bodies.specs.FlatDesign.Code.{Arena, body_at}
use Rattle.kernel_bodies.specs.FlatDesign.declared.code.CodeBody.{CodeBody}
use Rattle.kernel_bodies.specs.SimModel.Residual as residual
use Rattle.kernel_bodies.specs.SimModel.Residual.{Residual, Frame, skip, one, followed, settle, next_of, innermost, in_innermost, within, in_nb, has_goal, open_frames, first_locals}
use Rattle.kernel_bodies.specs.SimModel.Unwinding.{has_exit, returned, catches, left_by_unw, left_by_raise, unw}
use Rattle.kernel_bodies.specs.SimModel.declared.plain.Goal.{Goal}
use Rattle.kernel_bodies.specs.SimModel.declared.plain.Via.{Via}
use Rattle.kernel_bodies.specs.Depths.{locals_at, locals_in}
use Rattle.kernel_bodies.specs.Room.{begun_in}
use Rattle.kernel_bodies.specs.Strip.{strip}
use Rattle.kernel_bodies.specs.declared.around.Around.{Around}
use Rattle.kernel_bodies.specs.declared.around.Around.TheVariants as enclosing
use Rattle.kernel_bodies.specs.declared.layers.Next.TheVariants as next
use Rattle.kernel_bodies.specs.declared.layers.Comes.{Comes}
use Rattle.kernel_bodies.specs.declared.layers.Comes.TheVariants as comes
use Rattle.kernel_bodies.specs.Layers.{inside, under, standing, landed, rest_at, shown, shown_by, statement_of, layers_around, under_goal}
use Rattle.process_state.specs.Bodies.{IsStatement, IsGoal, enclosed}

-- what comes, by what shows

same_statement : (t s : ℕ) → next.Statement t ≡ next.Statement s → t ≡ s
same_statement t s e = cc

pub statement_comes : (n : residual.Next) (c : Comes) → IsStatement (shown n) → shown n ≡ shown_by c → (s : ℕ) × (statement_of c ≡ Some s) × (n ≡ residual.statement s)
statement_comes (residual.statement t) comes.Nothing h e = cc
statement_comes (residual.statement t) comes.Leave h e = cc
statement_comes (residual.statement t) comes.Done h e = cc
statement_comes (residual.statement t) (comes.Goal k) h e = cc
statement_comes (residual.statement t) (comes.Statement s) h e = (s, refl, ap residual.statement (same_statement t s e))
statement_comes (residual.statement t) (comes.InBlock s c) h e = (s, refl, ap residual.statement (same_statement t s e))
statement_comes (residual.statement t) (comes.InUnwind s c) h e = (s, refl, ap residual.statement (same_statement t s e))
statement_comes (residual.owes t q) c h e = absurd h
statement_comes (residual.leaves x) c h e = absurd h
statement_comes residual.done c h e = absurd h
statement_comes (residual.reaches k) c h e = absurd h
statement_comes residual.nothing c h e = absurd h

pub leave_comes : (c : Comes) → shown_by c ≡ next.Leave → c ≡ comes.Leave
leave_comes comes.Nothing e = cc
leave_comes comes.Leave e = refl
leave_comes comes.Done e = cc
leave_comes (comes.Goal k) e = cc
leave_comes (comes.Statement s) e = cc
leave_comes (comes.InBlock s c) e = cc
leave_comes (comes.InUnwind s c) e = cc

pub goal_comes : (n : residual.Next) (c : Comes) → IsGoal (shown n) → shown n ≡ shown_by c → (k : _) × (c ≡ comes.Goal k)
goal_comes (residual.reaches g) comes.Nothing h e = cc
goal_comes (residual.reaches g) comes.Leave h e = cc
goal_comes (residual.reaches g) comes.Done h e = cc
goal_comes (residual.reaches g) (comes.Goal k) h e = (k, refl)
goal_comes (residual.reaches g) (comes.Statement s) h e = cc
goal_comes (residual.reaches g) (comes.InBlock s c) h e = cc
goal_comes (residual.reaches g) (comes.InUnwind s c) h e = cc
goal_comes (residual.statement s) c h e = absurd h
goal_comes (residual.owes s q) c h e = absurd h
goal_comes (residual.leaves x) c h e = absurd h
goal_comes residual.done c h e = absurd h
goal_comes residual.nothing c h e = absurd h

-- a statement, or nothing, has no call, exit, goal or handler

pub exit_standing : (o : Option ℕ) → has_exit (standing o) ≡ false
exit_standing None = refl
exit_standing (Some s) = refl

pub returned_standing : (v : Option _) (o : Option ℕ) → returned v (standing o) ≡ standing o
returned_standing v None = refl
returned_standing v (Some s) = refl

pub innermost_standing : (o : Option ℕ) → innermost (standing o) ≡ None
innermost_standing None = refl
innermost_standing (Some s) = refl

pub set_standing : (f : Frame → Frame) (o : Option ℕ) → in_innermost f (standing o) ≡ standing o
set_standing f None = refl
set_standing f (Some s) = refl

-- what a statement opens around its block

pub enclosed_inside : (a : Arena) (w : Around) (s : ℕ) (r : Residual) → inside a (layers_around w s) r ≡ enclosed a s w r
enclosed_inside a enclosing.Nothing s r = refl
enclosed_inside a enclosing.Loop s r = refl
enclosed_inside a (enclosing.Guard u) s r = refl
enclosed_inside a enclosing.Try s r = refl

pub within_standing : (o : Option ℕ) → within (standing o) ≡ None
within_standing None = refl
within_standing (Some s) = refl

pub nb_standing : (o : Option ℕ) → in_nb (standing o) ≡ false
nb_standing None = refl
nb_standing (Some s) = refl

pub goal_standing : (o : Option ℕ) → has_goal (standing o) ≡ false
goal_standing None = refl
goal_standing (Some s) = refl

pub catches_standing : (o : Option ℕ) (e : ℕ) → catches (standing o) e ≡ false
catches_standing None e = refl
catches_standing (Some s) e = refl

pub left_standing : (o : Option ℕ) → left_by_unw (standing o) ≡ []
left_standing None = refl
left_standing (Some s) = refl

pub left_raise_standing : (o : Option ℕ) (e : ℕ) → left_by_raise (standing o) e ≡ []
left_raise_standing None e = refl
left_raise_standing (Some s) e = refl

pub unw_standing : (o : Option ℕ) → unw (standing o) ≡ skip
unw_standing None = refl
unw_standing (Some s) = refl

pub strip_standing : (o : Option ℕ) → strip (standing o) ≡ standing o
strip_standing None = refl
strip_standing (Some s) = refl

-- nor has what has begun

followed_has : {A : Type 0} (f : Residual → A) → ((r : Residual) (s : ℕ) (ss : List ℕ) → f (residual.seq r (s ∷ ss)) ≡ f r) → (r : Residual) (ss : List ℕ) → f (followed r ss) ≡ f r
followed_has f h r [] = refl
followed_has f h r (s ∷ ss) = h r s ss

landed_has : {A : Type 0} (f : Residual → A) → ((r : Residual) (s : ℕ) (ss : List ℕ) → f (residual.seq r (s ∷ ss)) ≡ f r) → ((r : Residual) → f (residual.run 0 r) ≡ f r) → ((s : ℕ) → f (one s) ≡ f skip) → (a : Arena) (c : Comes) → f (landed a c) ≡ f skip
landed_has f h k o a comes.Nothing = refl
landed_has f h k o a comes.Leave = refl
landed_has f h k o a comes.Done = refl
landed_has f h k o a (comes.Goal g) = refl
landed_has f h k o a (comes.Statement s) = o s
landed_has f h k o a (comes.InBlock s c) = followed_has f h (one s) (rest_at a c) ∙ o s
landed_has f h k o a (comes.InUnwind s c) = k (followed (one s) (rest_at a c)) ∙ followed_has f h (one s) (rest_at a c) ∙ o s

pub innermost_landed : (a : Arena) (c : Comes) → innermost (landed a c) ≡ None
innermost_landed a c = landed_has innermost (λ r s ss. refl) (λ r. refl) (λ s. refl) a c

pub within_landed : (a : Arena) (c : Comes) → within (landed a c) ≡ None
within_landed a c = landed_has within (λ r s ss. refl) (λ r. refl) (λ s. refl) a c

pub calls_landed : (a : Arena) (c : Comes) → open_frames (landed a c) ≡ 0
calls_landed a c = landed_has open_frames (λ r s ss. refl) (λ r. refl) (λ s. refl) a c

pub catches_landed : (a : Arena) (c : Comes) (e : ℕ) → catches (landed a c) e ≡ false
catches_landed a c e = landed_has (λ r. catches r e) (λ r s ss. refl) (λ r. refl) (λ s. refl) a c

-- the goal of all shows where nothing else does

pub under_nothing : (a : Arena) (g : Option Goal) → (settle a (under g skip) ≡ under g skip) × (shown (next_of (under g skip)) ≡ shown_by (under_goal g comes.Nothing)) × (statement_of (under_goal g comes.Nothing) ≡ None)
under_nothing a None = (refl, refl, refl)
under_nothing a (Some k) = (refl, refl, refl)

-- no call is owed to several
pub never_owed : (c : Comes) (s q : ℕ) → shown_by c ≡ next.Batch s q → ⊥
never_owed comes.Nothing s q e = cc
never_owed comes.Leave s q e = cc
never_owed comes.Done s q e = cc
never_owed (comes.Goal k) s q e = cc
never_owed (comes.Statement t) s q e = cc
never_owed (comes.InBlock t c) s q e = cc
never_owed (comes.InUnwind t c) s q e = cc

pub some_same : (s t : ℕ) → Some s ≡ Some t → s ≡ t
some_same s t e = cc

pub statement_same : (s t : ℕ) → residual.statement s ≡ residual.statement t → s ≡ t
statement_same s t e = cc

-- what comes next, by what shows of it

pub shown_statement : (n : residual.Next) (s : ℕ) → shown n ≡ next.Statement s → n ≡ residual.statement s
shown_statement (residual.statement t) s e = ap residual.statement (same_statement t s e)
shown_statement (residual.owes t q) s e = cc
shown_statement (residual.leaves x) s e = cc
shown_statement residual.done s e = cc
shown_statement (residual.reaches k) s e = cc
shown_statement residual.nothing s e = cc

pub shown_goal : (n : residual.Next) (k : Goal) → shown n ≡ next.Goal k → n ≡ residual.reaches k
shown_goal (residual.statement t) k e = cc
shown_goal (residual.owes t q) k e = cc
shown_goal (residual.leaves x) k e = cc
shown_goal residual.done k e = cc
shown_goal (residual.reaches g) k e = ap residual.reaches same
  where
    same : g ≡ k
    same = cc
shown_goal residual.nothing k e = cc

pub shown_done : (n : residual.Next) → shown n ≡ next.Done → n ≡ residual.done
shown_done (residual.statement t) e = cc
shown_done (residual.owes t q) e = cc
shown_done (residual.leaves x) e = cc
shown_done residual.done e = refl
shown_done (residual.reaches g) e = cc
shown_done residual.nothing e = cc

pub shown_nothing : (n : residual.Next) → shown n ≡ next.Nothing → n ≡ residual.nothing
shown_nothing (residual.statement t) e = cc
shown_nothing (residual.owes t q) e = cc
shown_nothing (residual.leaves x) e = cc
shown_nothing residual.done e = cc
shown_nothing (residual.reaches g) e = cc
shown_nothing residual.nothing e = refl

-- what a call begins with

pub entered_is : (a : Arena) (f : ℕ) (args : List Value) (call : Option ℕ) (via : Option Via)
    → residual.frame (begun_in a (body_at a f)) (record { body = f; locals = first_locals args (locals_at a f); answer = None; call = call; via = via }) ≡ residual.entered a f args call via
entered_is a f args call via = of_body (body_at a f)
  where
    of_body : (o : Option CodeBody) → residual.frame (begun_in a o) (record { body = f; locals = first_locals args (locals_in o); answer = None; call = call; via = via }) ≡ residual.entered_in a f args call via o
    of_body None = refl
    of_body (Some b) = refl
