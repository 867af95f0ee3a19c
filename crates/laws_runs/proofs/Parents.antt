-- Each instance has its parent, or none: a parent is made before what it spawns, and no move takes one away.
use Rattle.std.proofs.Common.{◌≡◌, ◌<◌, ◌+◌, ℕ, zero, suc, Bool, true, false, cond, List, [], ◌∷◌, ◌++◌, length, map, slice_get, slice_set, Option, Some, None, option_map, refl, sym, ap, ◌∙◌, subst, arith, ⊎_elim}
use Rattle.std.proofs.lemmas.Bool.{cases_eq}
use Rattle.std.proofs.lemmas.List.{length-map, length-append}
use Rattle.std.proofs.lemmas.Option.{none-some, same_Some, slice_get-map, slice_get_within}
use Rattle.sim_model.specs.FlatDesign.declared.design.ProcessPart.{ProcessPart}
use Rattle.sim_model.specs.FlatDesign.declared.design.Design.{Design}
use Rattle.sim_model.specs.Residual.{put, skip}
use Rattle.sim_model.specs.Configuration.{Config, Instance, Processes, instance_at, change, changed_at, change_instance, with_runnable, first_instance, start}
use Rattle.sim_model.specs.Waits.{freed, holds}
use Rattle.sim_model.specs.Calls.{with_left, with_entry, added, runnable_unless}
use Rattle.sim_model.specs.Control.{is_top, begins}
use Rattle.sim_model.specs.Unwinding.{left_by_raise, left_by_unw}
use Rattle.sim_model.specs.Statements.{settled_in}
use Rattle.sim_model.specs.Storing.{passes}
use Rattle.sim_model.specs.Phases.{initialize_each}
use Rattle.sim_model.specs.Steps.{Outcome, went, faulted, takes, ended, step, instance_taken, taken_if, taking}
use Rattle.sim_model.specs.declared.plain.Command.{Command}
use Rattle.sim_model.specs.declared.plain.Via.{Via}
use Rattle.laws_runs.specs.Moves as move
use Rattle.laws_runs.specs.Moves.{StepMoves, in_turn, between, initializing, moving_now}
use Rattle.laws_runs.proofs.MovesKeep.{EachKeeps, moves-keep}
use Rattle.laws_runs.proofs.RunSteps.{step-moves}
use Rattle.laws_runs.proofs.Changes.{last-here, last-other}
use Rattle.laws_runs.proofs.StepsFit.{IfWent}

-- as many parents as instances, each a smaller serial
abbrev pub HaveParents : Processes → Type 0
HaveParents ps = (length ps.parents ≡ length ps.instances) × ((p q : ℕ) → slice_get ps.parents p ≡ Some (Some q) → q < p)

set_length : {A : Type 0} (xs : List A) (n : ℕ) (y : A) → length (slice_set xs n y) ≡ length xs
set_length [] n y = refl
set_length (x ∷ xs) zero y = refl
set_length (x ∷ xs) (suc n) y = ap suc (set_length xs n y)

changed_length : {A : Type 0} (xs : List A) (n : ℕ) (f : A → A) (o : Option A) → length (changed_at xs n f o) ≡ length xs
changed_length xs n f None = refl
changed_length xs n f (Some x) = set_length xs n (f x)

change_length : {A : Type 0} (xs : List A) (n : ℕ) (f : A → A) → length (change xs n f) ≡ length xs
change_length xs n f = changed_length xs n f (slice_get xs n)

-- an instance changes
changes : (ps : Processes) (p : ℕ) (f : Instance → Instance) → HaveParents ps → HaveParents (record ps { instances = change ps.instances p f })
changes ps p f h = (h.0 ∙ sym (change_length ps.instances p f), h.1)

changes_twice : (ps : Processes) (p : ℕ) (f g : Instance → Instance) → HaveParents ps → HaveParents (record ps { instances = change (change ps.instances p f) p g })
changes_twice ps p f g h = changes (record ps { instances = change ps.instances p f }) p g (changes ps p f h)

-- all change
all_change : (ps : Processes) (f : Instance → Instance) → HaveParents ps → HaveParents (record ps { instances = map f ps.instances })
all_change ps f h = (h.0 ∙ sym (length-map ps.instances f), h.1)

-- calls that are left move no process
left_parents : (vias : List Via) (c : Config) → HaveParents c.processes → HaveParents (with_left c vias).processes
left_parents [] c h = h
left_parents (via ∷ more) c h = left_parents more (with_entry c via.hop _) h

either : (b : Bool) (c d : Config) → HaveParents c.processes → HaveParents d.processes → HaveParents (cond b c d).processes
either true c d one two = one
either false c d one two = two

unless_parents : (b : Bool) (q : ℕ) (c : Config) → HaveParents c.processes → HaveParents (runnable_unless b q c).processes
unless_parents true q c h = h
unless_parents false q c h = h

-- an instance is spawned by one that was made
module _ (c : Config) (i : Instance) (p : ℕ) (rest : List ℕ) (top : c.processes.stack ≡ p ∷ rest) (there : p < length c.processes.instances) (h : HaveParents c.processes) where
  abbrev parent : Option ℕ
  parent = slice_get c.processes.stack 0

  smaller : (k q : ℕ) → slice_get (c.processes.parents ++ parent ∷ []) k ≡ Some (Some q) → q < k
  smaller k q at = ⊎_elim
      (λ e.
      let last : Some parent ≡ Some (Some q) = sym (last-here c.processes.parents parent) ∙ ap (slice_get (c.processes.parents ++ parent ∷ [])) (sym e) ∙ at in
      let same : q ≡ p = same_Some q p (sym (same_Some parent (Some q) last) ∙ ap (λ s. slice_get s 0) top) in
      let counted = h.0 in
      omega (arith, there, counted, e, same))
      (λ apart. h.1 k q (sym (last-other c.processes.parents parent k apart) ∙ at))
      (cases_eq k (length c.processes.parents))

  added_parents : HaveParents (added c i).processes
  added_parents = (length-append c.processes.parents (parent ∷ []) ∙ ap (λ n. n + 1) h.0 ∙ sym (length-append c.processes.instances (i ∷ [])), smaller)

-- ---- each move

each_parents : (w : Option ℕ) → EachKeeps w (λ (c : Config). HaveParents c.processes)
each_parents w c (move.passing p r) may h = changes c.processes p _ h
each_parents w c (move.placing p r new) may h = changes c.processes p _ h
each_parents w c (move.entering p r b u) may h = changes c.processes p _ h
each_parents w c (move.taking_off p r) may h = changes c.processes p _ h
each_parents w c (move.returning p r v) may h = changes c.processes p _ h
each_parents w c (move.beginning p f args) may h = changes c.processes p _ h
each_parents w c (move.ending p) may h = changes c.processes p _ h
each_parents w c (move.idling p v d) may h = changes c.processes p _ h
each_parents w c (move.resetting p) may h = changes c.processes p _ h
each_parents w c (move.waiting p r v d) may h = changes_twice c.processes p _ _ h
each_parents w c (move.blocking p r e) may h = changes_twice c.processes p _ _ h
each_parents w c (move.triggering p v) may h = changes c.processes p _ h
each_parents w c (move.spawning p r k x args) (s, t, is) h =
    let there : p < length c.processes.instances = slice_get_within c.processes.instances p t.turn.instance t.turn.at in
    unless_parents x.dont_initialize _ _ (added_parents (passes c p r) _ p t.turn.rest t.turn.top (subst (λ n. p < n) (sym (change_length c.processes.instances p (λ (j : Instance). record j { residual = put r skip }))) there) (changes c.processes p _ h))
each_parents w c (move.throwing p r e) may h = left_parents (left_by_raise r e) _ (changes c.processes p _ h)
each_parents w c (move.injecting q i e) may h = left_parents (left_by_raise i.residual e) _ (changes_twice c.processes q _ _ h)
each_parents w c (move.unwinding q i k) may h = left_parents (left_by_unw i.residual) _ (either (is_top c q) _ _ (changes c.processes q _ h) (changes_twice c.processes q _ _ h))
each_parents w c (move.suspending_runnable q) may h = changes_twice c.processes q _ _ h
each_parents w c (move.yielding q) may h = changes_twice c.processes q _ _ h
each_parents w c (move.suspending q) may h = changes c.processes q _ h
each_parents w c (move.resuming_kept q) may h = changes c.processes q _ h
each_parents w c (move.resuming q) may h = changes c.processes q _ h
each_parents w c (move.disabling q flag) may h = changes c.processes q _ h
each_parents w c (move.staying_reset p) may h = changes c.processes p _ h
each_parents w c (move.staying_thrown p r) may h = changes_twice c.processes p _ _ h
each_parents w c (move.joining p) may h = changes c.processes p _ h
each_parents w c (move.keeping p) may h = changes c.processes p _ h
each_parents w c (move.striking p es) may h = changes c.processes p _ h
each_parents w c move.falling_due may h = all_change c.processes _ h
each_parents w c (move.falling_due_at t) may h = all_change c.processes _ h
each_parents w c (move.setting_local p n v) may h = changes c.processes p _ h
each_parents w c (move.calling p r s f args via e) may h = changes c.processes p _ h
each_parents w c (move.answering p r via e) may h = changes c.processes p _ h
each_parents w c other may h = h

-- ---- each step, and each taking

abbrev Parented : Config → Type 0
Parented c = HaveParents c.processes

initialize_parents : (p : ℕ) (xs : List ProcessPart) (c : Config) → Parented c → Parented (initialize_each p xs c)
initialize_parents p [] c h = h
initialize_parents p (x ∷ xs) c h =
    either x.dont_initialize (initialize_each (suc p) xs c) (initialize_each (suc p) xs (with_runnable (change_instance c p freed) (c.processes.runnable ++ p ∷ [])))
    (initialize_parents (suc p) xs c h) (initialize_parents (suc p) xs (with_runnable (change_instance c p freed) (c.processes.runnable ++ p ∷ [])) (changes c.processes p freed h))

moved_parents : (c d : Config) → StepMoves c d → Parented c → Parented d
moved_parents c _ (in_turn p rest i d now top at ms is) h = moves-keep (Some p) Parented (each_parents (Some p)) (settled_in c p i.residual) d ms (changes c.processes p _ h)
moved_parents c _ (between d later ms) h = moves-keep None Parented (each_parents None) c d ms h
moved_parents c _ (initializing d e now ms same cycle more after) h =
    moves-keep None Parented (each_parents None) (initialize_each 0 c.design.processes d) e more (initialize_parents 0 c.design.processes d (moves-keep None Parented (each_parents None) c d ms h))
moved_parents c _ (moving_now t d now apart ms same) h = moves-keep None Parented (each_parents None) (move.time_moved c t) d ms h

if_went : (o : Outcome) → ((d : Config) → o ≡ went d → Parented d) → IfWent o Parented
if_went (went d) h = h d refl
if_went (faulted f) h = tt
if_went takes h = tt
if_went ended h = tt

pub step-parents : (c : Config) → Parented c → IfWent (step c) Parented
step-parents c h = if_went (step c) (λ d to. moved_parents c d (step-moves c d to) h)

begun_parents : (b : Bool) (c : Config) (p : ℕ) (i : Instance) → Parented c → Parented (cond b c (begins (change_instance c p (λ j. record j { trigger = None })) p i))
begun_parents true c p i h = h
begun_parents false c p i h = changes_twice c.processes p _ _ h

taken_parents : (c : Config) (p : ℕ) (o : Option Instance) → Parented c → Parented (instance_taken c p o)
taken_parents c p None h = h
taken_parents c p (Some i) h = begun_parents i.started _ p i h

taken_if_parents : (c d : Config) (p : ℕ) (b : Bool) → Parented c → taken_if c p b ≡ Some d → Parented d
taken_if_parents c d p true h to = subst Parented (same_Some (instance_taken c p (instance_at c p)) d to) (taken_parents c p (instance_at c p) h)
taken_if_parents c d p false h to = absurd (none-some d to)

pub taking-parents : (c : Config) (p : ℕ) (d : Config) → Parented c → taking c p ≡ Some d → Parented d
taking-parents c p d h to = taken_if_parents c d p (holds c.processes.runnable p) h to

-- ---- the start

no_parent : (o : Option ProcessPart) (q : ℕ) → option_map (λ (x : ProcessPart). None) o ≡ Some (Some q) → ⊥
no_parent None q at = none-some (Some q) at
no_parent (Some x) q at = none-some q (same_Some None (Some q) at)

pub first-parents : (d : Design) (script : List Command) → Parented (start d script)
first-parents d script = (
  length-map d.processes (λ (x : ProcessPart). None) ∙ sym (length-map d.processes (first_instance d)),
  λ p q at. absurd (no_parent (slice_get d.processes p) q (sym (slice_get-map (λ (x : ProcessPart). None) d.processes p) ∙ at)),
)
