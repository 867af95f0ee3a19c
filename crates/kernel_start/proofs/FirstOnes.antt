-- The processes of a design before the first command.
use Rattle.std.proofs.Common.{◌≡◌, ◌<◌, ◌+◌, ℕ, zero, suc, true, false, List, [], ◌∷◌, ◌++◌, take, length, reverse, map, get_or, slice_get, Option, Some, None, option_map, refl, sym, ap, ◌∙◌, subst, arith, true≢false, ⊎_elim}
use Rattle.std.specs.Prelude.{is_some, unwrap_or}
use Rattle.std.proofs.lemmas.Bool.{cases_eq}
use Rattle.std.proofs.lemmas.List.{map-append}
use Rattle.std.specs.FinMap as maps
use Rattle.std.specs.FinSet as set
use Rattle.kernel_state.specs.EventCore.declared.event.Ev.{Ev}
use Rattle.kernel_state.specs.InstanceTable.declared.instances.Instance.{Instance as Entry}
use Rattle.kernel_state.specs.InstanceTable.declared.instances.ProcessKind.{ProcessKind}
use Rattle.kernel_state.specs.FlatDesign.declared.design.Design.{Design}
use Rattle.kernel_state.specs.FlatDesign.declared.design.ProcessPart.{ProcessPart}
use Rattle.kernel_state.specs.SimModel.Residual.{skip}
use Rattle.kernel_state.specs.SimModel.Configuration.{first_instance}
use Rattle.kernel_state.specs.KernelBodies.declared.program.Program.{Program}
use Rattle.kernel_state.specs.ProcessBodies.Bodies as bodies
use Rattle.kernel_state.specs.ProcessBodies.Bodies.{left_in}
use Rattle.kernel_state.specs.ProcessBodies.declared.body.Body.{Body}
use Rattle.kernel_state.specs.KernelProcesses.InstanceViews.{seen, bare, as_instance, shown_at, kind_of}
use Rattle.kernel_state.specs.KernelProcesses.InstanceViews.{body_at as kept_at}
use Rattle.kernel_state.specs.KernelProcesses.Sound as schedules
use Rattle.kernel_state.specs.KernelProcesses.declared.parts.Process.{Process}
use Rattle.kernel_state.specs.KernelProcesses.declared.parts.Schedule.{Schedule}
use Rattle.kernel_state.specs.KernelProcesses.Moved.{Spawns, spawned_as}
use Rattle.kernel_state.specs.Processes.{beside, StandsForProcesses}
use Rattle.kernel_state.specs.Kernel.{Shows}
use Rattle.kernel_start.specs.Made.{IsMade, with_process, Adds, AddsAll}
use Rattle.kernel_state.specs.declared.kernel.PathOf.TheVariants as path_by
use Rattle.kernel_state.specs.declared.kernel.Kept.{Kept}
use Rattle.kernel_state.proofs.ProcessFrames.{spawned_stands}

abbrev given : Option Kept → Kept → Kept
given None x = x
given (Some x) y = x

-- nobody is shown where there is no instance
module _ (program : Program) (s : Schedule Kept) (nobody : (p : ℕ) → shown_at s p ≡ None) (fine : schedules.IsSound s) where
  no_entry : (p : ℕ) → maps.get s.table.live p ≡ None
  no_entry p = by (maps.get s.table.live p) refl
    where
      by : (e : Option (Entry (Process Kept))) → maps.get s.table.live p ≡ e → maps.get s.table.live p ≡ None
      by None none = none
      by (Some x) some = absurd (true≢false (ap is_some (sym (ap (option_map (λ (z : Entry (Process Kept)). as_instance z (seen s p).wait)) some) ∙ nobody p)))

  pub nobody_stands : (d : Design) (parents : List (Option ℕ)) → s.stack.items ≡ [] → s.table.next ≡ 0 → StandsForProcesses (Shows d program) s (record { runnable = []; stack = []; instances = []; parents = parents })
  nobody_stands d parents stack next = record {
    each = nobody;
    ready = λ p. (subst (λ e. schedules.FitsAs e (seen s p)) (no_entry p) (fine.each p)).ready;
    stack = ap reverse (sym stack);
    next = next;
  }

  pub nobody_made : s.due.items ≡ [] → IsMade program s
  nobody_made due = record {
    schedule = fine;
    bodies = λ p kept found. absurd (true≢false (ap is_some (sym (sym (ap (option_map (λ (z : Entry (Process Kept)). z.body.body)) (no_entry p)) ∙ found))));
    nobody_due = due;
  }

take-more : {A : Type 0} (xs : List A) (n : ℕ) (x : A) → slice_get xs n ≡ Some x → take (suc n) xs ≡ take n xs ++ x ∷ []
take-more [] n x at = absurd (true≢false (ap is_some (sym at)))
take-more (y ∷ xs) zero x at = ap (λ o. unwrap_or o y ∷ []) at
take-more (y ∷ xs) (suc n) x at = ap (λ ys. y ∷ ys) (take-more xs n x at)

one_more : (n : ℕ) → n + 1 ≡ suc n
one_more n = omega arith

pub got : {A : Type 0} (xs : List A) (n : ℕ) (x : A) → n < length xs → x ≡ get_or xs n x → slice_get xs n ≡ Some x
got [] n x lt is = absurd (omega (arith, lt))
got (y ∷ xs) zero x lt is = ap Some (sym is)
got (y ∷ xs) (suc n) x lt is = got xs n x (omega (arith, lt)) is

-- one more is added
pub adds_more : (program : Program) (parts : List ProcessPart) (n : ℕ) (part : ProcessPart) (s t : Schedule Kept) → AddsAll program (take n parts) s → Adds program part s t → slice_get parts n ≡ Some part → AddsAll program (take (n + 1) parts) t
adds_more program parts n part s t all one at d parents same_design = subst (λ is. StandsForProcesses (Shows d program) t (record { runnable = []; stack = []; instances = is; parents = parents }))
    (sym (ap (map (first_instance d)) (ap (λ m. take m parts) (one_more n) ∙ take-more parts n part at) ∙ map-append (first_instance d) (take n parts) (part ∷ [])))
    (one d (record { runnable = []; stack = []; instances = map (first_instance d) (take n parts); parents = parents }) same_design (all d parents same_design))

module _ (program : Program) (part : ProcessPart) (s t : Schedule Kept) (made : IsMade program s) (n : ℕ) (b : Body) (kind : ProcessKind) (sensitive : List Ev)
    (same_kind : kind_of kind ≡ part.kind) (same_static : sensitive ≡ part.sensitive)
    (same_code : b.calls.code ≡ part.code) (no_arguments : b.calls.arguments.items ≡ []) (nothing_left : left_in program b ≡ skip) (body_fine : bodies.IsSound program b) (fine : schedules.IsSound t)
    (spawns : Spawns n (spawned_as kind sensitive true) (record { home = part.home; path = path_by.Object part.object; body = b; trigger = None }) false s t) where
  nobody_ready : set.contains s.ready.members n ≡ false
  nobody_ready = by (maps.get s.table.live n) refl
    where
      by : (e : Option (Entry (Process Kept))) → maps.get s.table.live n ≡ e → set.contains s.ready.members n ≡ false
      by None none = (subst (λ e. schedules.FitsAs e (seen s n)) none (made.schedule.each n)).ready
      by (Some x) some = absurd (let lt = made.schedule.below n (ap is_some some) in let same = spawns.number in omega (arith, lt, same))

  shows : (d : Design) → Shows d program (record { home = part.home; path = path_by.Object part.object; body = b; trigger = None }) (beside (first_instance d part))
  shows d = record {
    home = refl;
    path = refl;
    code = sym same_code;
    arguments = sym no_arguments;
    residual = sym nothing_left;
    trigger = refl;
  }

  bare_same : (d : Design) → bare (first_instance d part) ≡ spawned_as kind sensitive true
  bare_same d = ap (λ k. record (spawned_as kind sensitive true) { kind = k; static = part.sensitive }) (sym same_kind) ∙ ap (λ es. record (spawned_as kind sensitive true) { static = es }) (sym same_static)

  pub adds : Adds program part s t
  adds d x same_design stands = spawned_stands (Shows d program) s t x stands n (spawned_as kind sensitive true) (first_instance d part)
      (record { home = part.home; path = path_by.Object part.object; body = b; trigger = None }) false spawns (bare_same d) refl (shows d)
      (with_process d part x) refl (sym (stands.ready n) ∙ nobody_ready) (λ q apart. refl) refl

  pub adds_made : IsMade program t
  adds_made = record {
    schedule = fine;
    bodies = λ q other found. ⊎_elim
        (λ same. subst (λ v. bodies.IsSound program v.body) (ap (λ e. given e (record { home = part.home; path = path_by.Object part.object; body = b; trigger = None })) (sym spawns.body ∙ ap (kept_at t) (sym same) ∙ found)) body_fine)
        (λ apart. made.bodies q other (sym (spawns.bodies q apart) ∙ found))
        (cases_eq q n);
    nobody_due = spawns.due ∙ made.nobody_due;
  }
