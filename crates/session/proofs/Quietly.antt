-- Quiet steps of a session without a trace.
use Rattle.std.proofs.Common.{◌≡◌, ◌<◌, ◌+◌, ℕ, zero, suc, List, [], ◌++◌, Option, Some, None, Result, Ok, refl, sym, ◌∙◌, ap, subst, arith, append-nil}
use Rattle.std.specs.Prelude.{IsSome}
use Rattle.std.specs.List.{flat_map}
use Rattle.sim_io.specs.declared.outside.Trouble.{Trouble}
use Rattle.vcd_trace.specs.SimModel.Configuration.{Config}
use Rattle.vcd_trace.specs.SimModel.Runs.{Chooser, picked, held_then}
use Rattle.vcd_trace.specs.SimModel.Texts.{shown}
use Rattle.vcd_trace.specs.SimModel.declared.plain.Command.{Command}
use Rattle.kernel_start.specs.KernelState.declared.kernel.Kernel.{Kernel}
use Rattle.kernel_start.specs.KernelState.Kernel.{StandsFor}
use Rattle.vcd_trace.specs.declared.tracing.Tracing.{Tracing}
use Rattle.kernel_runs.specs.Made.{Quietly}
use Rattle.kernel_runs.specs.declared.answers.Telling.{Telling}
use Rattle.kernel_runs.specs.declared.answers.Telling.TheVariants as telling
use Rattle.session.specs.Outputs.{Texts, no_texts, Outer, Names}
use Rattle.session.specs.Telling.{TextOf, TextFor, PointOf, Recorded, Nothing}
use Rattle.session.specs.Begun.{GoesOn}
use Rattle.session.specs.declared.plans.Plan.{Plan}
use Rattle.session.proofs.Outputs.{took_nothing}
use Rattle.session.proofs.Going.{Going}
use Rattle.session.proofs.Turning.{told_on}

-- so many quiet steps of a session lead from a kernel to another
abbrev pub Quiet : Kernel → List Command → Chooser → ℕ → Kernel → List Command → Chooser → Type 0
Quiet = Quietly picked (λ held _. held_then held)

-- where there is a trace, each step is by itself
abbrev pub IsAlone : Plan → ℕ → Type 0
IsAlone plan most = IsSome plan.vcd → most ≡ 1

none_first : {most n : ℕ} → most ≡ 1 → n < most → n ≡ 0
none_first one few = omega (arith, one, few)

stays : (k there : Kernel) (script left : List Command) (held h : Chooser) (n : ℕ) → n ≡ 0 → Quiet k script held n there left h → (there ≡ k) × (left ≡ script) × (h ≡ held)
stays k there script left held h zero is q = q
stays k there script left held h (suc n) is q = absurd (omega (arith, is))

module _ (goes_on : GoesOn) (plan : Plan) (first : Config) (choices : List ℕ) (steps : ℕ) (k : Kernel) (script : List Command) (held : Chooser) (tracing : Tracing) (AreNamed : Names → Type 0) (old mid : Outer) (due : Texts) (g : Going plan first held choices steps k script tracing AreNamed old mid due) where
  -- nothing is given of a quiet step
  nothing_given : (k' : Kernel) (time : ℕ) → plan.vcd ≡ None → Recorded (TextOf k' telling.Nothing) (TextFor plan.vcd (PointOf k' time tracing tracing)) Nothing AreNamed mid mid due due (Ok tt)
  nothing_given k' time none = record {
    taken = no_texts;
    took = took_nothing AreNamed mid;
    parts = (
      ([], (λ log c d stands told. ap (flat_map (shown log)) told ∙ sym (append-nil _)), sym (append-nil _)),
      ([], subst (λ v. TextFor v (PointOf k' time tracing tracing) []) (sym none) refl, sym (append-nil _)),
      ([], refl, sym (append-nil _)),
    );
  }

  each_on : plan.vcd ≡ None → (n : ℕ) (there : Kernel) (left : List Command) (h : Chooser) → Quiet k script held n there left h → Going plan first h choices (steps + n) there left tracing AreNamed old mid due
  each_on none zero there left h q =
      let same : steps ≡ steps + 0 = omega arith in
      subst (λ s. Going plan first h choices s there left tracing AreNamed old mid due) same
      (subst (λ x. Going plan first h choices steps x left tracing AreNamed old mid due) (sym q.0)
      (subst (λ x. Going plan first h choices steps k x tracing AreNamed old mid due) (sym q.1)
      (subst (λ x. Going plan first x choices steps k script tracing AreNamed old mid due) (sym q.2) g)))
  each_on none (suc n) there left h (m, before, j, q, moves, asks) =
      let so_far = each_on none n m before j q in
      let next : steps + n + 1 ≡ steps + suc n = omega arith in
      subst (λ s. Going plan first h choices s there left tracing AreNamed old mid due) next
      (told_on goes_on plan first j choices (steps + n) m there before left tracing tracing AreNamed old mid mid due due so_far telling.Nothing m.cycle.now.0 (λ c stands. sym (ap (λ x. x.now) stands.cycle)) moves h asks (nothing_given there m.cycle.now.0 none))

  module _ (most n : ℕ) (alone : IsAlone plan most) (few : n < most) (there : Kernel) (left : List Command) (h : Chooser) (q : Quiet k script held n there left h) where
    by_trace : {A : Type 0} → (plan.vcd ≡ None → A) → (n ≡ 0 → A) → A
    by_trace {A} without with_one = by plan.vcd refl
      where
        by : (o : Option ℕ) → plan.vcd ≡ o → A
        by None is = without is
        by (Some id) is = with_one (none_first (alone (subst IsSome (sym is) refl)) few)

    -- the session has come there
    pub come_on : Going plan first h choices (steps + n) there left tracing AreNamed old mid due
    come_on = by_trace (λ none. each_on none n there left h q) (λ is.
        let same = stays k there script left held h n is q in
        let as_many : steps ≡ steps + n = omega (arith, is) in
        subst (λ s. Going plan first h choices s there left tracing AreNamed old mid due) as_many
        (subst (λ x. Going plan first h choices steps x left tracing AreNamed old mid due) (sym same.0)
        (subst (λ x. Going plan first h choices steps k x tracing AreNamed old mid due) (sym same.1)
        (subst (λ x. Going plan first x choices steps k script tracing AreNamed old mid due) (sym same.2) g))))

    -- and what is given of its next step is that of a step from its time there
    pub from_there : (k' : Kernel) (after : Tracing) (t : Telling) (now : Outer) (given : Texts) (result : Result Unit Trouble) (time : ℕ) → ((c : Config) → StandsFor k c → time ≡ c.cycle.now)
        → Recorded (TextOf k' t) (TextFor plan.vcd (PointOf k' time tracing after)) Nothing AreNamed mid now due given result
        → (from : ℕ) × ((c : Config) → StandsFor there c → from ≡ c.cycle.now) × Recorded (TextOf k' t) (TextFor plan.vcd (PointOf k' from tracing after)) Nothing AreNamed mid now due given result
    from_there k' after t now given result time at_time r = by_trace
        (λ none. (
          there.cycle.now.0,
          (λ c stands. sym (ap (λ x. x.now) stands.cycle)),
          subst (λ v. Recorded (TextOf k' t) (TextFor v (PointOf k' there.cycle.now.0 tracing after)) Nothing AreNamed mid now due given result) (sym none)
              (subst (λ v. Recorded (TextOf k' t) (TextFor v (PointOf k' time tracing after)) Nothing AreNamed mid now due given result) none r),
        ))
        (λ is. let same = stays k there script left held h n is q in (time, (λ c stands. at_time c (subst (λ x. StandsFor x c) same.0 stands)), r))
