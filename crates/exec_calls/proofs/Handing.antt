-- What a call hands back, once its frame is gone.
use Rattle.std.proofs.Common.{◌≡◌, ℕ, suc, true, List, [], ◌∷◌, Option, Some, None, option_map, refl, sym, ap, ◌∙◌, subst, true≢false}
use Rattle.std.specs.Prelude.{is_some}
use Rattle.std.specs.FinMap as map
use Rattle.exec_data.specs.InstanceTable.declared.instances.Instance.{Instance as Entry}
use Rattle.flat_design.specs.Code as code
use Rattle.flat_design.specs.Code.{Arena, ArgumentTerm, Statement, arena_of, statement_at}
use Rattle.exec_data.proofs.KernelBodies.Strips.{strip-next}
use Rattle.exec_data.specs.SimModel.Residual as residual
use Rattle.exec_data.specs.SimModel.Residual.{Residual, Frame, Next, settle, next_of, put, skip}
use Rattle.exec_data.specs.SimModel.Configuration.{Config, Instance, instance_at, arena}
use Rattle.exec_data.specs.SimModel.Reading.{Here}
use Rattle.exec_data.specs.SimModel.Storing.{passes}
use Rattle.exec_data.specs.SimModel.Calls.{given_back}
use Rattle.exec_data.specs.SimModel.Statements.{settled_in, calling_statement}
use Rattle.exec_data.specs.ProcessBodies.Bodies as bodies
use Rattle.exec_data.specs.KernelProcesses.declared.parts.Process.{Process}
use Rattle.exec_data.specs.KernelProcesses.InstanceViews.{body_at as kept_at}
use Rattle.exec_data.proofs.KernelProcesses.Wakes.{change-here}
use Rattle.exec_data.specs.KernelState.Kernel.{StandsFor}
use Rattle.exec_data.specs.KernelState.Moves.{Lives}
use Rattle.exec_data.specs.KernelState.declared.kernel.Kept.{Kept}
use Rattle.exec_data.specs.KernelState.declared.kernel.Kernel.{Kernel}
use Rattle.exec_data.proofs.KernelState.Frames.{settled_before}
use Rattle.exec_calls.specs.Calling.{EndsNext}
use Rattle.exec_calls.specs.Leaving.{CalledBy, statement_if}

-- ---- inout arguments, one after the other

pub one_given : (c : Config) (p : ℕ) (h : Here) (x : Frame) (i : ℕ) (a : ArgumentTerm) (more : List ArgumentTerm) → given_back c p h x i (a ∷ more) ≡ given_back (given_back c p h x i (a ∷ [])) p h x (suc i) more
one_given c p h x i (code.by_value e) more = refl
one_given c p h x i (code.inout n) more = refl

-- ---- the statement that called

pub calling_is : (c : Config) (o : Option ℕ) → calling_statement c o ≡ statement_if (arena c) o
calling_is c None = refl
calling_is c (Some s) = refl

abbrev frame_in : Next → Frame → Frame
frame_in (residual.statement s) y = y
frame_in (residual.owes s q) y = y
frame_in (residual.leaves x) y = x
frame_in residual.done y = y
frame_in (residual.reaches k) y = y
frame_in residual.nothing y = y

-- one call ends
pub same_frame : (n : Next) (x y : Frame) → n ≡ residual.leaves x → n ≡ residual.leaves y → x ≡ y
same_frame n x y one other = ap (λ m. frame_in m x) (sym one ∙ other)

there_is : (o : Option (Entry (Process Kept))) → is_some o ≡ true → (x : Entry (Process Kept)) × (o ≡ Some x)
there_is None is = absurd (true≢false (sym is))
there_is (Some x) is = (x, refl)

-- over the configuration in which finished parts fell away
pub calling_in : (k : Kernel) (p : ℕ) (c : Config) (i : Instance) → StandsFor k c → (o : Option ℕ) → calling_statement (settled_in c p i.residual) o ≡ statement_if (arena_of k.program.now.code) o
calling_in k p c i h o = calling_is (settled_in c p i.residual) o ∙ ap (λ d. statement_if (arena_of d.code) o) h.design

module _ (k : Kernel) (p : ℕ) (lives : Lives k p) (P : Option Statement → Type 0) (called : CalledBy k p P) (x : Frame) where
  entry : (e : Entry (Process Kept)) × (map.get k.schedule.table.live p ≡ Some e)
  entry = there_is (map.get k.schedule.table.live p) lives

  kept : kept_at k.schedule p ≡ Some entry.0.body.body
  kept = ap (option_map (λ (z : Entry (Process Kept)). z.body.body)) entry.1

  pub called_kept : EndsNext k p x → P (statement_if (arena_of k.program.now.code) x.call)
  called_kept ends = called entry.0.body.body kept x (ends entry.0.body.body kept)

  module _ (c : Config) (i : Instance) (h : StandsFor k c) (there : instance_at c p ≡ Some i) (leaves : next_of (settle (arena c) i.residual) ≡ residual.leaves x) where
    shows : next_of (bodies.settled_in k.program.now entry.0.body.body.body) ≡ residual.leaves x
    shows = ap next_of (sym (settled_before k p entry.0 entry.1 c i h there)) ∙ strip-next (settle (arena c) i.residual) ∙ leaves

    pub called_by : P (calling_statement (settled_in c p i.residual) x.call)
    called_by = subst P (sym (calling_in k p c i h x.call)) (called entry.0.body.body kept x shows)

-- ---- once the frame is gone

module _ (c : Config) (p : ℕ) (i : Instance) (there : instance_at c p ≡ Some i) where
  abbrev pub left_behind : Config
  left_behind = passes (settled_in c p i.residual) p (settle (arena c) i.residual)

  pub there_behind : instance_at left_behind p ≡ Some (record i { residual = put (settle (arena c) i.residual) skip })
  there_behind = change-here (settled_in c p i.residual).processes.instances p (λ j. record j { residual = put (settle (arena c) i.residual) skip })
      ∙ ap (option_map (λ (j : Instance). record j { residual = put (settle (arena c) i.residual) skip }))
      (change-here c.processes.instances p (λ j. record j { residual = settle (arena c) i.residual }) ∙ ap (option_map (λ (j : Instance). record j { residual = settle (arena c) i.residual })) there)
