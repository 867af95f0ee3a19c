-- One step of the instance on top of the stack is made of moves.
use Rattle.std.proofs.Common.{List, ◌∷◌, ◌≡◌, ℕ, Option, Some, None, refl, sym, subst}
use Rattle.std.specs.Result.{IfOk}
use Rattle.sim_model.specs.FlatDesign.Code as code
use Rattle.sim_model.specs.FlatDesign.Code.{Statement, statement_at}
use Rattle.sim_model.specs.Residual as residual
use Rattle.sim_model.specs.Residual.{Residual, Next, settle, next_of, taken_off}
use Rattle.sim_model.specs.Configuration.{Config, Instance, arena, instance_at, with_residual}
use Rattle.sim_model.specs.Statements.{owed_call, owed_by, on_statement, do_next, settled_in, step_of}
use Rattle.laws_runs.specs.Moves as move
use Rattle.laws_runs.specs.Moves.{OnTop, InTurn, MayPass, IsOver, Moves, then}
use Rattle.laws_runs.proofs.MoveLists.{change-at}
use Rattle.laws_runs.proofs.ControlMoves.{control-moves, throw-moves}
use Rattle.laws_runs.proofs.FormMoves.{form-moves}
use Rattle.laws_runs.proofs.EndMoves.{done-moves, goal-moves, leaves-moves}

module _ (who : Option ℕ) (o c : Config) (p : ℕ) (r : Residual) (t : InTurn who c p r) (m : Moves who o c) where
  on_moves : (n : ℕ) → next_of r ≡ residual.statement n → (x : Option Statement) → statement_at (arena c) n ≡ x → IfOk (on_statement c p t.instance r n x) (Moves who o)
  on_moves n next None found = then c (move.passing p r) m (t, subst (MayPass c) (sym next) tt)
  on_moves n next (Some x) found = form-moves who o c p r t n next m x found

  module _ (s q : ℕ) (next : next_of r ≡ residual.owes s q) where
    abbrev off : Config
    off = with_residual c p (taken_off r)

    off_moves : Moves who o off
    off_moves = then c (move.taking_off p r) m (s, q, t, next)

    call_moves : (x : Statement) → IfOk (owed_call off q x) (Moves who o)
    call_moves (code.control k whom all) = control-moves who o off p (record { is_turn = t.is_turn; rest = t.rest; top = t.top }) off_moves q k
    call_moves (code.throw_it whom e all) = throw-moves who o off p (record { is_turn = t.is_turn; rest = t.rest; top = t.top }) off_moves q e
    call_moves other = off_moves

    owed_moves : (x : Option Statement) → IfOk (owed_by off q x) (Moves who o)
    owed_moves None = off_moves
    owed_moves (Some x) = call_moves x

  next_moves : (k : Next) → next_of r ≡ k → IfOk (do_next c p t.instance r k) (Moves who o)
  next_moves (residual.statement n) next = on_moves n next (statement_at (arena c) n) refl
  next_moves (residual.owes s q) next = owed_moves s q next (statement_at (arena c) s)
  next_moves (residual.leaves x) next = leaves-moves who o c p r t m x next
  next_moves residual.done next = done-moves who o c p r t m (subst IsOver (sym next) tt) t.instance.kind
  next_moves (residual.reaches k) next = goal-moves who o c p r t m k next
  next_moves residual.nothing next = done-moves who o c p r t m (subst IsOver (sym next) tt) t.instance.kind

-- from where its finished parts fell away
pub turn-moves : (c : Config) (p : ℕ) (rest : List ℕ) → c.processes.stack ≡ p ∷ rest → (i : Instance) → instance_at c p ≡ Some i
    → IfOk (step_of (settled_in c p i.residual) p i (settle (arena c) i.residual)) (Moves (Some p) (settled_in c p i.residual))
turn-moves c p rest top i at =
    let r = settle (arena c) i.residual in
    next_moves (Some p) (settled_in c p i.residual) (settled_in c p i.residual) p r
    (record { is_turn = refl; rest = rest; top = top; instance = record i { residual = r }; at = change-at c.processes.instances p (λ j. record j { residual = r }) i at; left = refl; before = i.residual; settled = refl })
    move.none (next_of r) refl
