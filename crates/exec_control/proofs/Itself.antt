-- An exception that the instance on top throws at itself, behind its statement.
use Rattle.std.proofs.Common.{◌≡◌, ℕ, true, false, Option, Some, sym, ap, ◌∙◌, subst}
use Rattle.std.specs.Prelude.{if◌then◌else◌, Ok, Err}
use Rattle.flat_design.specs.declared.faults.RunFault.TheVariants as fault
use Rattle.exec_data.specs.KernelBodies.Layers.{shown}
use Rattle.exec_data.specs.SimModel.Residual.{Residual, settle, next_of, has_goal}
use Rattle.exec_data.specs.SimModel.Unwinding.{catches, raise, left_by_raise}
use Rattle.exec_data.specs.SimModel.Configuration.{Config, Instance, instance_at, with_residual, arena}
use Rattle.exec_data.specs.SimModel.Calls.{with_left, thrown}
use Rattle.exec_data.specs.SimModel.Control.{throw_call}
use Rattle.exec_data.specs.SimModel.declared.plain.Goal.TheVariants as goal_of
use Rattle.exec_data.specs.ProcessBodies.Bodies as bodies
use Rattle.exec_data.specs.KernelProcesses.Moved.{IsTop}
use Rattle.exec_data.specs.KernelState.Kernel.{StandsFor, IsSound}
use Rattle.exec_data.specs.KernelState.Moves.{Follows, HasStatement}
use Rattle.exec_data.specs.KernelState.Ways.{moved, MayMoveOn}
use Rattle.exec_data.specs.KernelState.declared.kernel.Kernel.{Kernel}
use Rattle.exec_data.specs.KernelState.declared.ways.Way.{Way}
use Rattle.exec_data.specs.KernelState.declared.ways.Way.TheVariants as way
use Rattle.exec_data.proofs.KernelState.Frames.{lives_on_top, settled_before}
use Rattle.exec_data.proofs.KernelState.Ending.{alive_in, follows_as}
use Rattle.exec_data.proofs.KernelState.Stacks.{on_top_is, not_below}
use Rattle.exec_control.proofs.OneInstance.{was}
use Rattle.exec_control.proofs.Throwing.{settle_goal}
use Rattle.exec_control.specs.Thrown.{past}
use Rattle.exec_control.proofs.Passing.{moved_catches, put_goal, taken_goal, statement_in, passed, there_passed, to_itself, live_entry}

module _ (w : Way) (k : Kernel) (c : Config) (p : ℕ) (i : Instance) (e : ℕ) (h : StandsFor k c) (there : instance_at c p ≡ Some i) (sound : IsSound k) (top : IsTop p k.schedule.stack.items) (state : MayMoveOn w k p) where
  abbrev r : Residual
  r = moved w (settle (arena c) i.residual)

  is_statement : HasStatement k p → bodies.IsStatement (shown (next_of (settle (arena c) i.residual)))
  is_statement shows =
      let entry = live_entry k p (lives_on_top k p sound top) in
      statement_in (settle (arena c) i.residual) (bodies.settled_in k.program.now entry.0.body.body.body) (settled_before k p entry.0 entry.1 c i h there) (shows entry.0.body.body (was k p entry.0 entry.1))

  goal_past : has_goal r ≡ has_goal i.residual
  goal_past = moved_goal w state ∙ settle_goal (arena c) i.residual
    where
      moved_goal : (v : Way) → MayMoveOn v k p → has_goal (moved v (settle (arena c) i.residual)) ≡ has_goal (settle (arena c) i.residual)
      moved_goal way.Past shows = put_goal (settle (arena c) i.residual) (is_statement shows)
      moved_goal way.TakenOff shows = taken_goal (settle (arena c) i.residual)

  alive : i.ended ≡ false
  alive =
      let a = alive_in k c h p (lives_on_top k p sound top) in
      subst (λ j. j.ended ≡ false) (some_is a.0 i (sym a.1.0 ∙ there)) a.1.1
    where
      some_or : Instance → Option Instance → Instance
      some_or x (Some y) = y
      some_or x o = x

      some_is : (x y : Instance) → Some x ≡ Some y → x ≡ y
      some_is x y same = ap (some_or x) same

  goes : throw_call (past w c p i) p e ≡ (if has_goal r then Ok (past w c p i) else thrown (past w c p i) p r e)
  goes = to_itself (past w c p i) p (passed w c p i there) e (there_passed w c p i there) alive (not_below k c h p sound.schedule.once (λ on. top)) (on_top_is k c h p top)

  pub spared : has_goal i.residual ≡ true → throw_call (past w c p i) p e ≡ Ok (past w c p i)
  spared has = goes ∙ ap (λ b. if b then Ok (past w c p i) else thrown (past w c p i) p r e) (goal_past ∙ has)

  throws : has_goal i.residual ≡ false → throw_call (past w c p i) p e ≡ thrown (past w c p i) p r e
  throws none = goes ∙ ap (λ b. if b then Ok (past w c p i) else thrown (past w c p i) p r e) (goal_past ∙ none)

  pub uncaught : has_goal i.residual ≡ false → catches (settle (arena c) i.residual) e ≡ false → throw_call (past w c p i) p e ≡ Err (fault.Uncaught e)
  uncaught none nothing = throws none
      ∙ ap (λ b. if b then Ok (with_left (with_residual (past w c p i) p (raise (arena c) r e goal_of.Thrown)) (left_by_raise r e)) else Err (fault.Uncaught e)) (moved_catches w (settle (arena c) i.residual) e ∙ nothing)

  pub raised_at : has_goal i.residual ≡ false → catches (settle (arena c) i.residual) e ≡ true → (l : Kernel)
      → StandsFor l (with_left (with_residual (past w c p i) p (raise (arena c) r e goal_of.Thrown)) (left_by_raise r e)) → Follows l (Ok tt) c (throw_call (past w c p i) p e)
  raised_at none caught l stands = follows_as l c (Ok tt) (throw_call (past w c p i) p e) (Ok (with_left (with_residual (past w c p i) p (raise (arena c) r e goal_of.Thrown)) (left_by_raise r e)))
      (throws none ∙ ap (λ b. if b then Ok (with_left (with_residual (past w c p i) p (raise (arena c) r e goal_of.Thrown)) (left_by_raise r e)) else Err (fault.Uncaught e)) (moved_catches w (settle (arena c) i.residual) e ∙ caught)) stands
