-- Who makes a control call waits below its target till the unwinding is over.
use Rattle.std.proofs.Common.{◌≡◌, ◌≤◌, ◌+◌, ℕ, zero, suc, true, false, List, [], ◌∷◌, ◌++◌, drop, Some, refl, sym, ap, ◌∙◌, subst, arith, inl, inr, append-nil}
use Rattle.std.proofs.lemmas.Option.{none-some, same_Some}
use Rattle.sim_model.specs.FlatDesign.Sound.{SoundDesign}
use Rattle.sim_model.specs.FlatDesign.declared.design.Design.{Design}
use Rattle.sim_model.specs.Residual.{Residual, goal, has_goal}
use Rattle.sim_model.specs.Configuration.{Config, Instance, instance_at, start}
use Rattle.sim_model.specs.Steps.{Outcome, went, faulted, takes, ended, step}
use Rattle.sim_model.specs.Runs.{after, and_then}
use Rattle.sim_model.specs.Clean.{times, guards_of, open_guards}
use Rattle.sim_model.specs.declared.plain.Command.{Command}
use Rattle.sim_model.specs.declared.plain.Goal.{Goal}
use Rattle.laws_runs.proofs.Splits.{joined}
use Rattle.laws_runs.proofs.Times.{times-here, times-append}
use Rattle.laws_runs.proofs.InstancesFit.{is-false}
use Rattle.laws_runs.proofs.CleanRuns.{clean-after}
use Rattle.laws_runs.proofs.Fine.{fine-at}
use Rattle.laws_runs.proofs.GoalSteps.{takes-empty}
use Rattle.laws_runs.specs.Stacks.{OnlyTopMoves}
use Rattle.laws_runs.proofs.GoalParts.{parts}
use Rattle.laws_runs.proofs.KeptRuns.{sound-run, kept-after}
use Rattle.laws_runs.proofs.StackMoves.{only-top}
use Rattle.laws_runs.proofs.MarkedRuns.{marked-after, clean-whole}
use Rattle.laws_runs.specs.Once.{guards_below, innermost_first, ends_of, once_each, Begins, HasNoGoal, IsOnTop, IsFirst}
use Rattle.laws_runs.proofs.First.{runs, idle-step}
use Rattle.laws_runs.proofs.Frames.{Made, made-kept, made-settled, made-between, made-taken}
use Rattle.laws_runs.proofs.EndedGuards.{ends-before, ends-after}

-- one step more
pub one-more_step : (n : ℕ) (choices : List ℕ) (first c d : Config) → after n choices first ≡ Some c → step c ≡ went d → after (n + 1) choices first ≡ Some d
one-more_step n choices first c d reached now =
    ap (λ cs. after (n + 1) cs first) (sym (append-nil choices)) ∙ joined n 1 choices [] first c reached ∙ ap (λ o. and_then o c [] (after zero)) now

first_step : (k : ℕ) (own : List ℕ) (x y : Config) → step x ≡ went y → after (suc k) own x ≡ after k own y
first_step k own x y now = ap (λ o. and_then o x own (after k)) now

module _ (design : Design) (script : List Command) (sound : SoundDesign design) where
  once_at : (n : ℕ) (choices : List ℕ) (x : Config) → after n choices (start design script) ≡ Some x → (p : ℕ) → times p x.processes.stack ≤ 1
  once_at n choices x reached p = let h = (clean-after design script n choices x reached).once p in omega (arith, h)

  module _ (p : ℕ) (rest : List ℕ) where
    twice : (a : ℕ) (above r stack : List ℕ) → stack ≡ a ∷ (above ++ p ∷ rest) → stack ≡ p ∷ r → times p stack ≤ 1 → ⊥
    twice a above r stack is top few =
        let same = first_is a p (above ++ p ∷ rest) r (sym is ∙ top) in
        let b = ap (times p) is in
        let c = ap (λ n. times p (n ∷ (above ++ p ∷ rest))) same in
        let d = times-here p (above ++ p ∷ rest) in
        let e = times-append p above (p ∷ rest) in
        let f = times-here p rest in
        omega (arith, b, c, d, e, f, few)
      where
        first_is : (a b : ℕ) (xs ys : List ℕ) → ◌≡◌ {A = List ℕ} (a ∷ xs) (b ∷ ys) → a ≡ b
        first_is a b xs ys e = cc

    -- what is said of the rest of the run, from where something is above p
    abbrev Waits : ℕ → Config → Type 0
    Waits m e = (more : List ℕ) (x : Config) (n : ℕ) (choices : List ℕ) → after n choices (start design script) ≡ Some x → (a : ℕ) (above : List ℕ) → x.processes.stack ≡ a ∷ (above ++ p ∷ rest) → IsFirst (IsOnTop p) m more x e → e.processes.stack ≡ p ∷ rest

    first_on : (m : ℕ) (more : List ℕ) (x y e : Config) → step x ≡ went y → IsFirst (IsOnTop p) (suc m) more x e → IsFirst (IsOnTop p) m more y e
    first_on m more x y e now f = record {
      reached = sym (first_step m more x y now) ∙ f.reached;
      holds_there = f.holds_there;
      not_before = λ k own left z lt split there top. f.not_before (suc k) own left z (omega (arith, lt)) split (first_step k own x y now ∙ there) top;
    }

    -- p is on top in y, which comes first
    there_first : (m : ℕ) (more : List ℕ) (x y e : Config) → step x ≡ went y → IsFirst (IsOnTop p) (suc m) more x e → y.processes.stack ≡ p ∷ rest → e.processes.stack ≡ p ∷ rest
    there_first zero [] x y e now f is = ap (λ (z : Config). z.processes.stack) (same_Some e y (sym (sym (first_step zero [] x y now) ∙ f.reached))) ∙ is
    there_first zero (c ∷ more) x y e now f is = absurd (none-some e (sym (first_step zero (c ∷ more) x y now) ∙ f.reached))
    there_first (suc m) more x y e now f is = absurd (f.not_before 1 [] more y (omega arith) refl (first_step zero [] x y now) (rest, is))

    popped : (m : ℕ) (more : List ℕ) (x y e : Config) (n : ℕ) (choices : List ℕ) → after n choices (start design script) ≡ Some y → step x ≡ went y → (above : List ℕ) → y.processes.stack ≡ above ++ p ∷ rest → Waits m e → IsFirst (IsOnTop p) (suc m) more x e → e.processes.stack ≡ p ∷ rest
    popped m more x y e n choices reached now [] is later f = there_first m more x y e now f is
    popped m more x y e n choices reached now (b ∷ above) is later f = later more y n choices reached b above is (first_on m more x y e now f)

    moved_on : (m : ℕ) (more : List ℕ) (x y e : Config) (n : ℕ) (choices : List ℕ) → after n choices (start design script) ≡ Some y → step x ≡ went y → (a : ℕ) (above : List ℕ) → x.processes.stack ≡ a ∷ (above ++ p ∷ rest) → OnlyTopMoves x.processes.stack y.processes.stack
        → Waits m e → IsFirst (IsOnTop p) (suc m) more x e → e.processes.stack ≡ p ∷ rest
    moved_on m more x y e n choices reached now a above is (inl same) later f = later more y n choices reached a above (same ∙ is) (first_on m more x y e now f)
    moved_on m more x y e n choices reached now a above is (inr (inl less)) later f = popped m more x y e n choices reached now above (less ∙ ap (drop 1) is) later f
    moved_on m more x y e n choices reached now a above is (inr (inr one)) later f = later more y n choices reached one.0 (a ∷ above) (one.1 ∙ ap (λ s. one.0 ∷ s) is) (first_on m more x y e now f)

    not_empty : (a : ℕ) (xs stack : List ℕ) → stack ≡ a ∷ xs → stack ≡ [] → ⊥
    not_empty a xs stack one two = cc

    by_step : (m : ℕ) (more : List ℕ) (x e : Config) (n : ℕ) (choices : List ℕ) → after n choices (start design script) ≡ Some x → (a : ℕ) (above : List ℕ) → x.processes.stack ≡ a ∷ (above ++ p ∷ rest)
        → Waits m e → IsFirst (IsOnTop p) (suc m) more x e → (o : Outcome) → step x ≡ o → e.processes.stack ≡ p ∷ rest
    by_step m more x e n choices reached a above is later f (went y) now =
        moved_on m more x y e (n + 1) choices (one-more_step n choices (start design script) x y reached now) now a above is (only-top design script sound n choices x y reached now) later f
    by_step m more x e n choices reached a above is later f (faulted g) now = absurd (none-some e (sym (ap (λ o. and_then o x more (after m)) now) ∙ f.reached))
    by_step m more x e n choices reached a above is later f takes now = absurd (not_empty a (above ++ p ∷ rest) x.processes.stack is (takes-empty x now))
    by_step m more x e n choices reached a above is later f ended now = absurd (none-some e (sym (ap (λ o. and_then o x more (after m)) now) ∙ f.reached))

    waits : (m : ℕ) (e : Config) → Waits m e
    waits zero e [] x n choices reached a above is f =
        let same = same_Some e x (sym f.reached) in
        absurd (twice a above f.holds_there.0 x.processes.stack is (sym (ap (λ (z : Config). z.processes.stack) same) ∙ f.holds_there.1) (once_at n choices x reached p))
    waits zero e (c ∷ more) x n choices reached a above is f = absurd (none-some e f.reached)
    waits (suc m) e more x n choices reached a above is f = by_step m more x e n choices reached a above is (waits m e) f (step x) refl

  module _ (n : ℕ) (choices : List ℕ) (c d : Config) (reached : after n choices (start design script) ≡ Some c) (q : ℕ) (gs : List ℕ) (b : Begins c d q gs) where
    later_d : after (n + 1) choices (start design script) ≡ Some d
    later_d = one-more_step n choices (start design script) c d reached b.went_on

    idle : runs b.then.residual ≡ false
    idle = idle-step q c (sound-run design script sound n choices c reached) b.first b.was b.goalless d b.went_on q b.then b.is refl

    pub run-before : ends_of gs d.trace.marks ≡ []
    run-before = subst (λ xs. ends_of xs d.trace.marks ≡ []) b.guards
        (ends-before d (marked-after design script sound (n + 1) choices d later_d) (sound-run design script sound (n + 1) choices d later_d) q b.then b.is idle)

    pub run-after : (m : ℕ) (more : List ℕ) (e : Config) → after m more d ≡ Some e → HasNoGoal e q → ends_of gs e.trace.marks ≡ once_each q (innermost_first gs)
    run-after m more e there over = subst (λ xs. ends_of xs e.trace.marks ≡ once_each q (innermost_first xs)) b.guards
        (ends-after d (marked-after design script sound (n + 1) choices d later_d) (sound-run design script sound (n + 1) choices d later_d) q b.then b.is idle m more e there over.instance over.is over.goalless)

    pub run-killed : (m : ℕ) (more : List ℕ) (e : Config) (i : Instance) → after m more d ≡ Some e → instance_at e q ≡ Some i → i.ended ≡ true → ends_of gs e.trace.marks ≡ once_each q (innermost_first gs)
    run-killed m more e i there at over =
        let whole = joined (n + 1) m choices more (start design script) d later_d ∙ there in
        run-after m more e there (record { instance = i; is = at; goalless = ap has_goal ((clean-after design script (n + 1 + m) (choices ++ more) e whole).nothing_left q i at over) })

    module _ (p : ℕ) (rest : List ℕ) (top : d.processes.stack ≡ q ∷ p ∷ rest) (m : ℕ) (more : List ℕ) (e : Config) (f : IsFirst (IsOnTop p) m more d e) where
      below_d : times q (p ∷ rest) ≡ 0
      below_d = let few = once_at (n + 1) choices d later_d q in let a = ap (times q) top in let one = times-here q (p ∷ rest) in omega (arith, few, a, one)

      whole_e : after (n + 1 + m) (choices ++ more) (start design script) ≡ Some e
      whole_e = joined (n + 1) m choices more (start design script) d later_d ∙ f.reached

      stack_e : e.processes.stack ≡ p ∷ rest
      stack_e = waits p rest m e more d (n + 1) choices later_d q [] top f

      made_e : Made q (parts e)
      made_e = kept-after (Made q) (made-kept q) (made-settled q) (made-between q) (made-taken q) m more d e (sound-run design script sound (n + 1) choices d later_d) (b.then, b.is) f.reached

      pub run-over : HasNoGoal e q
      run-over = record {
        instance = made_e.0;
        is = made_e.1;
        goalless = is-false (has_goal made_e.0.residual) (λ g.
            let s = sound-run design script sound (n + 1 + m) (choices ++ more) e whole_e in
            let on = (fine-at e.design e.processes q made_e.0 made_e.1 s.1).active g in
            let a = ap (times q) stack_e in
            let none = below_d in
            omega (arith, on, a, none));
      }

      pub run-done : ends_of gs e.trace.marks ≡ once_each q (innermost_first gs)
      run-done = run-after m more e f.reached run-over

  -- of a kill and of a reset these are all guards that are open
  pub all-open : (n : ℕ) (choices : List ℕ) (d : Config) → after n choices (start design script) ≡ Some d → (q : ℕ) (i : Instance) (r : Residual) (k : Goal) → instance_at d q ≡ Some i → i.residual ≡ goal r k → guards_below i.residual ≡ open_guards q d.trace.marks
  all-open n choices d reached q i r k at is =
      ap guards_below is ∙ sym (ap guards_of is) ∙ sym ((clean-whole design script sound n choices d reached).guards.guards q i at)
