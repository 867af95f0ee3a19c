-- What the kernel stands for once the body of one instance is another.
use Rattle.std.proofs.lemmas.Bool.Decides.{nat_tests}
use Rattle.std.proofs.Common.{arith, ◌≡◌, ◌≤◌, ◌<◌, ℕ, zero, suc, Bool, false, true, List, [], ◌∷◌, slice_get, slice_set, Option, Some, None, option_map, refl, sym, ap, ◌∙◌, subst}
use Rattle.std.specs.Prelude.{unwrap_or, nat_lt, Result, Ok, Err, OnOk, if◌then◌else◌}
use Rattle.std.specs.FinMap as map
use Rattle.exec_data.specs.InstanceTable.declared.instances.Instance.{Instance as Entry}
use Rattle.flat_design.specs.Code.{arena_of}
use Rattle.flat_design.specs.declared.faults.RunFault.{RunFault}
use Rattle.flat_design.specs.declared.faults.RunFault.TheVariants as fault
use Rattle.exec_data.specs.KernelBodies.Strip.{strip}
use Rattle.exec_data.proofs.KernelBodies.Strips.{strip-next, strip-put, strip-entered, strip-open_frames}
use Rattle.exec_data.specs.SimModel.Residual.{Residual, Next, next_of, settle, put, entered, open_frames}
use Rattle.exec_data.specs.SimModel.Configuration.{Config, Instance, change, changed_at, instance_at, arena}
use Rattle.exec_data.specs.SimModel.Calls.{frame_limit, enters}
use Rattle.exec_data.specs.SimModel.declared.plain.Via.{Via}
use Rattle.exec_data.specs.LogicValues.declared.kinds.Value.{Value}
use Rattle.exec_data.specs.ProcessBodies.Bodies as bodies
use Rattle.exec_data.specs.ProcessBodies.declared.body.Body.{Body}
use Rattle.exec_data.specs.ProcessState.declared.starting.EnterStop.{EnterStop}
use Rattle.exec_data.specs.ProcessState.declared.starting.EnterStop.TheVariants as stop
use Rattle.exec_data.specs.KernelProcesses.InstanceViews.{body_at as kept_at}
use Rattle.exec_data.specs.KernelProcesses.declared.parts.Process.{Process}
use Rattle.exec_data.specs.KernelProcesses.Moved.{PutsBody}
use Rattle.exec_data.proofs.KernelProcesses.OtherBody.{puts_body}
use Rattle.exec_data.specs.KernelState.Processes.{beside}
use Rattle.exec_data.specs.KernelState.Kernel.{Shows, StandsFor, whole_design, path_in}
use Rattle.exec_data.specs.KernelState.Moves.{Moves, Steps, KeptAt}
use Rattle.exec_data.specs.KernelState.declared.kernel.Kept.{Kept}
use Rattle.exec_data.specs.KernelState.declared.kernel.Kernel.{Kernel}
use Rattle.exec_data.proofs.KernelState.ProcessFrames.{put_stands}
use Rattle.exec_data.proofs.KernelState.Frames.{processes_move, with_body, settled_before, steps_to}
use Rattle.exec_calls.specs.Calling.{ComesNext, ReadyFor, ChangesBody, KeepsLeft, JudgesDepth, TellsDepth}

-- ---- nothing changes where each stays as it is

set_same : {A : Type 0} (xs : List A) (n : ℕ) (x : A) → slice_get xs n ≡ Some x → slice_set xs n x ≡ xs
set_same [] n x at = refl
set_same (y ∷ xs) zero x at = ap (λ o. unwrap_or o y ∷ xs) (sym at)
set_same (y ∷ xs) (suc n) x at = ap (λ ys. y ∷ ys) (set_same xs n x at)

same_by : {A : Type 0} (xs : List A) (n : ℕ) (o : Option A) → slice_get xs n ≡ o → changed_at xs n (λ x. x) o ≡ xs
same_by xs n None at = refl
same_by xs n (Some x) at = set_same xs n x at

change_none : {A : Type 0} (xs : List A) (n : ℕ) → change xs n (λ x. x) ≡ xs
change_none xs n = same_by xs n (slice_get xs n) refl

-- ---- what is kept of the instance

module _ (k : Kernel) (p : ℕ) (x : Entry (Process Kept)) (at : map.get k.schedule.table.live p ≡ Some x) where
  pub was : kept_at k.schedule p ≡ Some x.body.body
  was = ap (option_map (λ (z : Entry (Process Kept)). z.body.body)) at

  pub kept_is : (P : Kept → Type 0) → P x.body.body → KeptAt k p P
  kept_is P holds kept is = subst P (ap (λ o. unwrap_or o kept) (sym was ∙ is)) holds

  pub comes_next : (n : Next) → next_of (bodies.settled_in k.program.now x.body.body.body) ≡ n → ComesNext k p n
  comes_next n is c i h there = sym (strip-next (settle (arena c) i.residual)) ∙ ap next_of (settled_before k p x at c i h there) ∙ is

  -- the calls that are open
  opened : (c : Config) (i : Instance) → StandsFor k c → instance_at c p ≡ Some i → open_frames (settle (arena c) i.residual) ≡ open_frames (bodies.settled_in k.program.now x.body.body.body)
  opened c i h there = sym (strip-open_frames (settle (arena c) i.residual)) ∙ ap open_frames (settled_before k p x at c i h there)

-- ---- another body

module _ (k : Kernel) (p : ℕ) (x : Entry (Process Kept)) (b : Body) (at : map.get k.schedule.table.live p ≡ Some x) (keeps : bodies.Keeps x.body.body.body b) where
  puts : PutsBody p (record x.body.body { body = b }) k.schedule (with_body k p x b at keeps)
  puts = puts_body k.schedule p x (record x.body.body { body = b }) at

  pub body_changes : ChangesBody p k (record k { schedule = with_body k p x b at keeps })
  body_changes = record { bodies = puts.bodies; stack = refl; parts = refl }

  pub kept_now : (P : Kept → Type 0) → P (record x.body.body { body = b }) → KeptAt (record k { schedule = with_body k p x b at keeps }) p P
  kept_now P holds kept found = subst P (ap (λ o. unwrap_or o kept) (sym puts.body ∙ found)) holds

  -- what is left stays
  module _ (left : bodies.left_in k.program.now b ≡ bodies.left_in k.program.now x.body.body.body) where
    pub same_left : KeepsLeft p k (record k { schedule = with_body k p x b at keeps })
    same_left = λ old new is now.
        ap (λ o. bodies.left_in k.program.now (unwrap_or o new).body) (sym now ∙ puts.body) ∙ left ∙ ap (λ o. bodies.left_in k.program.now (unwrap_or o old).body) (sym (was k p x at) ∙ is)

    pub same_moves : Moves k (record k { schedule = with_body k p x b at keeps }) (λ c. c)
    same_moves c h = subst (λ is. StandsFor (record k { schedule = with_body k p x b at keeps }) (record c { processes = record c.processes { instances = is } }))
        (change_none c.processes.instances p)
        (processes_move k c h (with_body k p x b at keeps) (record c.processes { instances = change c.processes.instances p (λ i. i) })
        (put_stands (Shows (whole_design k) k.program.now) k.schedule (with_body k p x b at keeps) c.processes h.processes p (record x.body.body { body = b }) (λ i. i) puts (λ i. refl) (λ i. refl) (λ i none. none) shows))
      where
        shows : (a : Kept) (i : Instance) → kept_at k.schedule p ≡ Some a → slice_get c.processes.instances p ≡ Some i → Shows (whole_design k) k.program.now a (beside i)
            → Shows (whole_design k) k.program.now (record x.body.body { body = b }) (beside i)
        shows a i found there old =
            let o = subst (λ w. Shows (whole_design k) k.program.now w (beside i)) (ap (λ o. unwrap_or o x.body.body) (sym found ∙ was k p x at)) old in
            record {
              home = o.home;
              path = subst (λ f. i.path ≡ path_in (whole_design k) x.body.body.home f x.body.body.path) (sym keeps.code) o.path;
              code = o.code ∙ sym keeps.code;
              arguments = o.arguments ∙ sym keeps.arguments;
              residual = o.residual ∙ sym left;
              trigger = o.trigger;
            }

    -- and so does what it settles to
    pub same_settled : bodies.settled_in k.program.now b ≡ bodies.settled_in k.program.now x.body.body.body
    same_settled = ap (settle (arena_of k.program.now.code)) left

    pub still_next : (P : Residual → Type 0) → KeptAt k p (λ kept. P (bodies.settled_in k.program.now kept.body)) → KeptAt (record k { schedule = with_body k p x b at keeps }) p (λ kept. P (bodies.settled_in k.program.now kept.body))
    still_next P holds = kept_now (λ kept. P (bodies.settled_in k.program.now kept.body)) (subst P (sym same_settled) (holds x.body.body (was k p x at)))

    -- there is room for a call of this code
    pub ready_if : (f : ℕ) (answer : Result Unit EnterStop) → OnOk answer (bodies.HasRoomFor k.program.now b f) → OnOk answer (open_frames (bodies.settled_in k.program.now x.body.body.body) < frame_limit)
        → OnOk answer (ReadyFor (record k { schedule = with_body k p x b at keeps }) p f)
    ready_if f (Ok u) room shallow = record {
      room = kept_now (λ kept. bodies.HasRoomFor k.program.now kept.body f) room;
      shallow = kept_now (λ kept. open_frames (bodies.settled_in k.program.now kept.body) < frame_limit) (subst (λ r. open_frames r < frame_limit) (sym same_settled) shallow);
    }
    ready_if f (Err e) room shallow = tt

  -- a call is entered in place of a statement
  pub entered_steps : (s f : ℕ) (arguments : List Value) (via : Option Via)
      → bodies.left_in k.program.now b ≡ put (bodies.settled_in k.program.now x.body.body.body) (entered (arena_of k.program.now.code) f arguments (Some s) via)
      → Steps k (record k { schedule = with_body k p x b at keeps }) p (λ c q i r. enters c q r s f arguments via)
  entered_steps s f arguments via left c i h there =
      steps_to k p x b at keeps c i h there (put (settle (arena c) i.residual) (entered (arena c) f arguments (Some s) via))
      (strip-put (settle (arena c) i.residual) (entered (arena c) f arguments (Some s) via)
      ∙ ap (put (strip (settle (arena c) i.residual))) (strip-entered (arena c) f arguments (Some s) via)
      ∙ ap (λ r. put r (entered (arena c) f arguments (Some s) via)) (settled_before k p x at c i h there)
      ∙ ap (λ d. put (bodies.settled_in k.program.now x.body.body.body) (entered (arena_of d.code) f arguments (Some s) via)) h.design
      ∙ sym left)

-- ---- whether one more call may be entered

abbrev entered_if : Bool → Result Unit RunFault
entered_if b = if b then Ok tt else Err fault.FrameDepth

below_limit : (n : ℕ) → n < frame_limit → entered_if (nat_lt n frame_limit) ≡ Ok tt
below_limit n few = let e : nat_lt n frame_limit ≡ true = grind (arith, nat_tests) in ap entered_if e

at_limit : (n : ℕ) → frame_limit ≤ n → entered_if (nat_lt n frame_limit) ≡ Err fault.FrameDepth
at_limit n many = let e : nat_lt n frame_limit ≡ false = grind (arith, nat_tests) in ap entered_if e

told_at : (n : ℕ) (answer : Result Unit EnterStop) → OnOk answer (n < frame_limit) → (answer ≡ Err stop.TooDeep → frame_limit ≤ n) → (frame_limit ≤ n → answer ≡ Err stop.TooDeep)
    → TellsDepth answer (entered_if (nat_lt n frame_limit))
told_at n (Ok u) shallow deep only = below_limit n shallow
told_at n (Err stop.TooDeep) shallow deep only = at_limit n (deep refl)
told_at n (Err stop.NoMemory) shallow deep only = below_limit n few
  where
    not_deep : frame_limit ≤ n → ⊥
    not_deep many = let e = only many in absurd cc

    few : n < frame_limit
    few = grind (arith, not_deep)

module _ (k : Kernel) (p : ℕ) (x : Entry (Process Kept)) (at : map.get k.schedule.table.live p ≡ Some x) (answer : Result Unit EnterStop) where
  pub depth_told : OnOk answer (open_frames (bodies.settled_in k.program.now x.body.body.body) < frame_limit)
      → (answer ≡ Err stop.TooDeep → frame_limit ≤ open_frames (bodies.settled_in k.program.now x.body.body.body))
      → (frame_limit ≤ open_frames (bodies.settled_in k.program.now x.body.body.body) → answer ≡ Err stop.TooDeep)
      → JudgesDepth k p answer
  depth_told shallow deep only c i h there =
      subst (λ n. TellsDepth answer (entered_if (nat_lt n frame_limit))) (sym (opened k p x at c i h there))
      (told_at (open_frames (bodies.settled_in k.program.now x.body.body.body)) answer shallow deep only)
