-- A block in the place of a statement.
use Rattle.std.proofs.Common.{◌≡◌, ℕ, zero, Option, Some, None, option_map, refl, sym, ap, ◌∙◌, subst}
use Rattle.std.specs.Prelude.{Contains}
use Rattle.std.specs.FinMap as map
use Rattle.kernel_view.specs.InstanceTable.declared.instances.Instance.{Instance as Entry}
use Rattle.flat_design.specs.Code.{arena_of}
use Rattle.flat_design.specs.declared.value_types.ValueType.{ValueType}
use Rattle.kernel_view.specs.KernelBodies.Around.{around_at}
use Rattle.kernel_view.specs.KernelBodies.Depths.{blocks_of}
use Rattle.kernel_view.specs.KernelBodies.declared.around.Around.{Around}
use Rattle.kernel_view.specs.KernelBodies.Layers.{shown}
use Rattle.kernel_view.specs.KernelBodies.declared.layers.Next.{Next}
use Rattle.kernel_view.specs.KernelBodies.declared.layers.Next.TheVariants as next
use Rattle.kernel_view.specs.KernelBodies.Strip.{strip}
use Rattle.kernel_view.proofs.KernelBodies.Strips.{strip-put}
use Rattle.kernel_view.specs.ProcessBodies.Bodies as bodies
use Rattle.kernel_view.specs.ProcessBodies.Bodies.{enclosed}
use Rattle.kernel_view.specs.KernelProcesses.declared.parts.Process.{Process}
use Rattle.kernel_view.specs.SimModel.Residual as residual
use Rattle.kernel_view.specs.SimModel.Residual.{Residual, next_of, settle, put, block, followed}
use Rattle.kernel_view.specs.SimModel.Calls.{cut_answer}
use Rattle.kernel_view.specs.SimModel.Configuration.{Config, Instance, arena, instance_at}
use Rattle.kernel_view.specs.KernelState.Kernel.{StandsFor}
use Rattle.kernel_view.specs.KernelState.declared.kernel.Kept.{Kept}
use Rattle.kernel_view.specs.KernelState.declared.kernel.Kernel.{Kernel}
use Rattle.kernel_view.proofs.KernelState.Frames.{settled_before}
use Rattle.exec_data.specs.Entered.{Shows}

pub nothing_cut : (t : Option ValueType) → cut_answer t None ≡ None
nothing_cut None = refl
nothing_cut (Some t) = refl

abbrev number_in : Next → ℕ
number_in (next.Statement s) = s
number_in (next.Batch s q) = zero
number_in next.Leave = zero
number_in next.Done = zero
number_in (next.Goal k) = zero
number_in next.Nothing = zero

module _ (k : Kernel) (p : ℕ) (x : Entry (Process Kept)) (at : map.get k.schedule.table.live p ≡ Some x) (s b : ℕ) (shows : Shows k p s) where
  pub shows_next : next_of (bodies.settled_in k.program.now x.body.body.body) ≡ residual.statement s
  shows_next = shows x.body.body (ap (option_map (λ (z : Entry (Process Kept)). z.body.body)) at)

  pub is_statement : bodies.IsStatement (bodies.next_in k.program.now x.body.body.body)
  is_statement = subst bodies.IsStatement (sym (ap shown shows_next)) tt

  pub is_inner : Contains (blocks_of (arena_of k.program.now.code) s) b → (n : ℕ) → bodies.next_in k.program.now x.body.body.body ≡ next.Statement n → Contains (blocks_of (arena_of k.program.now.code) n) b
  is_inner inner n is = subst (λ m. Contains (blocks_of (arena_of k.program.now.code) m) b) (ap number_in (sym (ap shown shows_next) ∙ is)) inner

  module _ (c : Config) (i : Instance) (h : StandsFor k c) (there : instance_at c p ≡ Some i) where
    pub left_is : (e : Residual) → strip e ≡ e → strip (put (settle (arena c) i.residual) e) ≡ put (bodies.settled_in k.program.now x.body.body.body) e
    left_is e same = strip-put (settle (arena c) i.residual) e ∙ ap (put (strip (settle (arena c) i.residual))) same ∙ ap (λ r. put r e) (settled_before k p x at c i h there)

    pub same_block : block (arena c) b ≡ block (arena_of k.program.now.code) b
    same_block = ap (λ d. block (arena_of d.code) b) h.design

-- what a statement puts around its block, once that is known
pub around_is : (k : Kernel) (s b : ℕ) (u : Around) → around_at (arena_of k.program.now.code) s ≡ u → (r : Residual)
    → put r (enclosed (arena_of k.program.now.code) s (around_at (arena_of k.program.now.code) s) (block (arena_of k.program.now.code) b)) ≡ put r (enclosed (arena_of k.program.now.code) s u (block (arena_of k.program.now.code) b))
around_is k s b u is r = ap (λ v. put r (enclosed (arena_of k.program.now.code) s v (block (arena_of k.program.now.code) b))) is
