-- An instance gets on top of the stack.
use Rattle.std.proofs.Common.{◌≡◌, ◌≢◌, ◌==◌, ◌||◌, not, cond, ℕ, Bool, true, false, List, [], ◌∷◌, None, refl, sym, ap, ◌∙◌, subst, eqb-true, ne_eqb}
use Rattle.kernel_processes.specs.SimModel.Configuration.{Config, Instance, Processes, change, change_instance}
use Rattle.kernel_processes.specs.SimModel.Waits.{holds, without, freed}
use Rattle.kernel_processes.specs.SimModel.Control.{pushed}
use Rattle.kernel_processes.specs.InstanceViews.{is_on}
use Rattle.kernel_processes.specs.Sound as schedules
use Rattle.kernel_processes.specs.Moves.{MovesOne}
use Rattle.kernel_processes.specs.declared.parts.Schedule.{Schedule}
use Rattle.kernel_processes.specs.Moved.{joins_top, pushed_as}
use Rattle.kernel_state.specs.Kernel.{Shows, StandsFor, IsSound, whole_design}
use Rattle.kernel_state.specs.Moves.{Moves, Lives}
use Rattle.kernel_state.specs.declared.kernel.Kept.{Kept}
use Rattle.kernel_state.specs.declared.kernel.Kernel.{Kernel}
use Rattle.kernel_state.proofs.ProcessFrames.{moved_with, stack_joined}
use Rattle.kernel_state.proofs.Frames.{change-twice, processes_move, schedule_sound, shown_where_lives}

-- what is taken out of a list
cut_here : (b : Bool) (p x : ℕ) (xs : List ℕ) → (x == p) ≡ b → holds xs p ≡ false → holds (cond (not b) (x ∷ xs) xs) p ≡ false
cut_here true p x xs is none = none
cut_here false p x xs is none = ap (λ b. b || holds xs p) is ∙ none

pub lacks_itself : (xs : List ℕ) (p : ℕ) → holds (without xs p) p ≡ false
lacks_itself [] p = refl
lacks_itself (x ∷ xs) p = cut_here (x == p) p x (without xs p) refl (lacks_itself xs p)

cut_other : (b : Bool) (p q x : ℕ) (ys xs : List ℕ) → (x == p) ≡ b → q ≢ p → holds ys q ≡ holds xs q → holds (cond (not b) (x ∷ ys) ys) q ≡ holds (x ∷ xs) q
cut_other true p q x ys xs is apart same = same ∙ sym (ap (λ b. b || holds xs q) (ne_eqb x q (λ here. apart (sym here ∙ eqb-true x p is))))
cut_other false p q x ys xs is apart same = ap (λ b. (x == q) || b) same

pub has_others : (xs : List ℕ) (p q : ℕ) → q ≢ p → holds (without xs p) q ≡ holds xs q
has_others [] p q apart = refl
has_others (x ∷ xs) p q apart = cut_other (x == p) p q x (without xs p) xs refl apart (has_others xs p q apart)

-- the wait of an instance is over, it is not kept, and it is on top
abbrev pub gets_on_top : Config → ℕ → Config
gets_on_top c p = record c { processes = record c.processes { instances = change c.processes.instances p pushed_as; runnable = without c.processes.runnable p; stack = p ∷ c.processes.stack } }

module _ (k : Kernel) (p : ℕ) (sound : IsSound k) (lives : Lives k p) (s : Schedule Kept) (fine : schedules.IsSound s) (m : MovesOne p pushed_as false (joins_top p) k.schedule s) where
  pub pushed_sound : IsSound (record k { schedule = s })
  pushed_sound = schedule_sound k sound s fine m.bodies (ap (λ v. v.items) m.due) m.next

  pub pushed_moves : Moves k (record k { schedule = s }) (λ c. gets_on_top c p)
  pushed_moves c h = processes_move k c h s (record c.processes { instances = change c.processes.instances p pushed_as; runnable = without c.processes.runnable p; stack = p ∷ c.processes.stack })
      (moved_with (Shows (whole_design k) k.program.now) k.schedule s c.processes h.processes p pushed_as pushed_as
      (record { bares = λ i. refl; ends = λ i. refl; shows = λ b i told. told }) false (joins_top p) m (shown_where_lives k p lives)
      (record c.processes { instances = change c.processes.instances p pushed_as; runnable = without c.processes.runnable p; stack = p ∷ c.processes.stack })
      refl (lacks_itself c.processes.runnable p) (λ q apart. has_others c.processes.runnable p q apart) (stack_joined (Shows (whole_design k) k.program.now) k.schedule s c.processes h.processes p m.stack))

-- and it has no next trigger
pub pushed_whole : (l : Kernel) (c : Config) (p : ℕ) → StandsFor l (gets_on_top (change_instance c p (λ i. record i { trigger = None })) p) → StandsFor l (pushed c p)
pushed_whole l c p h = subst (λ is. StandsFor l (record c { processes = record c.processes { instances = is; runnable = without c.processes.runnable p; stack = p ∷ c.processes.stack } }))
    (change-twice c.processes.instances p (λ i. record i { trigger = None }) pushed_as) h
