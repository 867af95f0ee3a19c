-- What a kernel shows of each configuration that it stands for.
use Rattle.std.proofs.Common.{◌≡◌, ◌&&◌, not, ℕ, zero, suc, Bool, true, false, List, [], ◌∷◌, length, slice_get, Option, Some, None, option_map, refl, sym, ap, ◌∙◌, subst, arith, true≢false, ⊎_elim}
use Rattle.std.specs.Prelude.{is_some, nat_lt}
use Rattle.std.proofs.lemmas.Bool.{cases_eq}
use Rattle.std.proofs.lemmas.Bool.Decides.{nat_tests}
use Rattle.std.specs.FinMap as map
use Rattle.kernel_state.specs.InstanceTable.declared.instances.Instance.{Instance as Entry}
use Rattle.expr_eval.specs.SimModel.Residual.{Residual, settle, innermost, within}
use Rattle.expr_eval.specs.SimModel.Configuration.{Config, Instance, instance_at, change, arena}
use Rattle.expr_eval.specs.SimModel.Reading.{has_ended, home_of_via, locals_of}
use Rattle.kernel_state.proofs.KernelBodies.Strips.{strip-innermost, strip-within}
use Rattle.kernel_state.proofs.KernelProcesses.Wakes.{change-here, change-other}
use Rattle.kernel_state.specs.ProcessBodies.Bodies as bodies
use Rattle.kernel_state.specs.KernelProcesses.InstanceViews.{seen, shown_at, as_instance}
use Rattle.kernel_state.specs.KernelProcesses.InstanceViews.{body_at as kept_at}
use Rattle.kernel_state.specs.KernelProcesses.declared.parts.Process.{Process}
use Rattle.kernel_state.specs.Processes.{beside, TellsBy, Tells}
use Rattle.kernel_state.specs.Kernel.{Shows, StandsFor, whole_design}
use Rattle.kernel_state.specs.declared.kernel.Kept.{Kept}
use Rattle.kernel_state.specs.declared.kernel.Kernel.{Kernel}
use Rattle.kernel_state.proofs.Frames.{settled_before}
use Rattle.kernel_view.specs.Standings.{is_gone, ShowsParts, ShowsHere, next_here}
use Rattle.kernel_view.specs.declared.standings.Standing.{Standing}

-- ---- which instances have ended

there_as : {A B : Type 0} (f : A → B) (o : Option A) → is_some (option_map f o) ≡ is_some o
there_as f None = refl
there_as f (Some a) = refl

below_nothing : (n : ℕ) → nat_lt n 0 ≡ false
below_nothing n = grind (arith, nat_tests)

zero_below : (m : ℕ) → nat_lt 0 (suc m) ≡ true
zero_below m = grind (arith, nat_tests)

suc_below : (n m : ℕ) → nat_lt (suc n) (suc m) ≡ nat_lt n m
suc_below n m = grind (arith, nat_tests)

in_range : {A : Type 0} (xs : List A) (n : ℕ) → nat_lt n (length xs) ≡ is_some (slice_get xs n)
in_range [] n = below_nothing n
in_range (x ∷ xs) zero = zero_below (length xs)
in_range (x ∷ xs) (suc n) = suc_below n (length xs) ∙ in_range xs n

-- an instance is shown as long as it has not ended
module _ (k : Kernel) (q : ℕ) where
  lives_as_shown : map.contains_key k.schedule.table.live q ≡ is_some (shown_at k.schedule q)
  lives_as_shown = sym (there_as (λ (z : Entry (Process Kept)). as_instance z (seen k.schedule q).wait) (map.get k.schedule.table.live q))

  ended_by : (e : Bool) (i : Instance) → TellsBy (Shows (whole_design k) k.program.now) e (shown_at k.schedule q) (kept_at k.schedule q) i → e ≡ not (map.contains_key k.schedule.table.live q)
  ended_by true i tells = ap not (sym (lives_as_shown ∙ ap is_some tells.0))
  ended_by false i tells = ap not (sym (lives_as_shown ∙ ap is_some tells.shown))

  gone_by : (o : Option Instance) → Tells (Shows (whole_design k) k.program.now) (shown_at k.schedule q) (kept_at k.schedule q) o → has_ended o ≡ (is_some o && not (map.contains_key k.schedule.table.live q))
  gone_by None tells = refl
  gone_by (Some i) tells = ended_by i.ended i tells

  pub gone : (c : Config) → StandsFor k c → has_ended (instance_at c q) ≡ is_gone k q
  gone c h = gone_by (instance_at c q) (h.processes.each q)
      ∙ ap (λ b. b && not (map.contains_key k.schedule.table.live q)) (sym (in_range c.processes.instances q) ∙ ap (nat_lt q) (sym h.processes.next))

-- what is left of an instance does not tell whether it has ended
ended_still : (r : Residual) (o : Option Instance) → has_ended (option_map (λ (i : Instance). record i { residual = r }) o) ≡ has_ended o
ended_still r None = refl
ended_still r (Some i) = refl

ended_with : (xs : List Instance) (p q : ℕ) (r : Residual) → has_ended (slice_get (change xs p (λ i. record i { residual = r })) q) ≡ has_ended (slice_get xs q)
ended_with xs p q r = ⊎_elim
    (λ same. subst (λ n. has_ended (slice_get (change xs p (λ i. record i { residual = r })) n) ≡ has_ended (slice_get xs n)) (sym same)
    (ap has_ended (change-here xs p (λ i. record i { residual = r })) ∙ ended_still r (slice_get xs p)))
    (λ apart. ap has_ended (change-other xs p q (λ i. record i { residual = r }) apart))
    (cases_eq q p)

-- ---- the instance whose next statement is looked at

module _ (k : Kernel) (p : ℕ) (x : Entry (Process Kept)) (at : map.get k.schedule.table.live p ≡ Some x) (c : Config) (i : Instance) (h : StandsFor k c) (there : instance_at c p ≡ Some i) where
  abbrev kept_of : Option Kept → Kept
  kept_of None = x.body.body
  kept_of (Some kept) = kept

  shown_by : (e : Bool) → TellsBy (Shows (whole_design k) k.program.now) e (shown_at k.schedule p) (kept_at k.schedule p) i → Shows (whole_design k) k.program.now x.body.body (beside i)
  shown_by true tells = absurd (true≢false (ap is_some (sym (ap (option_map (λ (z : Entry (Process Kept)). as_instance z (seen k.schedule p).wait)) at) ∙ tells.0)))
  shown_by false lives = subst (λ v. Shows (whole_design k) k.program.now v (beside i))
      (ap kept_of (sym lives.kept.1.0 ∙ ap (option_map (λ (z : Entry (Process Kept)). z.body.body)) at)) lives.kept.1.1

  shown : Shows (whole_design k) k.program.now x.body.body (beside i)
  shown = shown_by i.ended (subst (Tells (Shows (whole_design k) k.program.now) (shown_at k.schedule p) (kept_at k.schedule p)) there (h.processes.each p))

  parts : ShowsParts k (next_here c p i).config
  parts = record {
    design = h.design;
    now = ap (λ y. y.now) h.cycle;
    ended = λ q. ended_with c.processes.instances p q (settle (arena c) i.residual) ∙ gone k q c h;
    channels = h.channels;
    transactions = h.transactions;
    quantum = h.quantum;
    variables = h.variables;
    memories = h.memories;
  }

  within_is : within (settle (arena c) i.residual) ≡ within (bodies.settled_in k.program.now x.body.body.body)
  within_is = sym (strip-within (settle (arena c) i.residual)) ∙ ap within (settled_before k p x at c i h there)

  innermost_is : innermost (settle (arena c) i.residual) ≡ innermost (bodies.settled_in k.program.now x.body.body.body)
  innermost_is = sym (strip-innermost (settle (arena c) i.residual)) ∙ ap innermost (settled_before k p x at c i h there)

  home_is : home_of_via c.design i.home (within (settle (arena c) i.residual)) ≡ home_of_via k.design x.body.body.home (within (bodies.settled_in k.program.now x.body.body.body))
  home_is = ap (λ d. home_of_via d i.home (within (settle (arena c) i.residual))) h.design
      ∙ ap (λ n. home_of_via (whole_design k) n (within (settle (arena c) i.residual))) shown.home
      ∙ ap (λ v. home_of_via (whole_design k) x.body.body.home v) within_is

  pub shows_next : (y : Standing) → y.kernel.now ≡ k → y.body.now ≡ x.body.body.body → y.serial ≡ p
      → y.home ≡ home_of_via k.design x.body.body.home (within (bodies.settled_in k.program.now x.body.body.body)) → ShowsHere y (next_here c p i)
  shows_next y kernel body serial home = record {
    parts = subst (λ j. ShowsParts j (next_here c p i).config) (sym kernel) parts;
    serial = sym serial;
    home = home_is ∙ sym home;
    locals = ap locals_of innermost_is ∙ ap (λ j. locals_of (innermost (bodies.settled_in j.program.now x.body.body.body))) (sym kernel) ∙ ap (λ b. locals_of (innermost (bodies.settled_in y.kernel.now.program.now b))) (sym body);
  }
