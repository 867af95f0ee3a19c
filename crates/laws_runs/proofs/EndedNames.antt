-- Nothing names what has ended, and what was left is not unwound.
use Rattle.std.proofs.Common.{◌≡◌, ◌<◌, ◌≤◌, ◌+◌, ◌||◌, ℕ, zero, suc, Bool, true, false, cond, List, [], ◌∷◌, ◌++◌, count_by, slice_get, Option, Some, None, refl, sym, ap, ◌∙◌, subst, arith, inl, inr, eq-eqb, ne_eqb, true≢false, append-nil}
use Rattle.std.proofs.lemmas.Option.{none-some, same_Some}
use Rattle.sim_model.specs.EventCore.declared.event.Ev.{Ev}
use Rattle.sim_model.specs.FlatDesign.Sound.{SoundDesign}
use Rattle.sim_model.specs.FlatDesign.declared.design.Design.{Design}
use Rattle.sim_model.specs.Residual.{Mark, leave, begin}
use Rattle.sim_model.specs.Configuration.{Config, Instance, Deadline, instance_at, start}
use Rattle.sim_model.specs.Waits.{holds, is_active, wake_instance, woken, fire}
use Rattle.sim_model.specs.Phases.{due_instances}
use Rattle.sim_model.specs.Steps.{taking}
use Rattle.sim_model.specs.Runs.{after}
use Rattle.sim_model.specs.Clean.{times, places, leaves_or_begins, IsFree}
use Rattle.sim_model.specs.declared.plain.Command.{Command}
use Rattle.laws_runs.proofs.Splits.{joined}
use Rattle.laws_runs.proofs.Times.{times-holds, times-here}
use Rattle.laws_runs.proofs.InstancesFit.{stands-at}
use Rattle.laws_runs.proofs.WokenFit.{fire-fits, fire-ended}
use Rattle.laws_runs.proofs.CleanRuns.{good-after, live-taken, ended-nowhere, ended-free}
use Rattle.laws_runs.proofs.KeptRuns.{sound-run, kept-after}
use Rattle.laws_runs.proofs.NestingFits.{In, in-front, count-cons, one-more, count-in}
use Rattle.laws_runs.proofs.MarkedRuns.{clean-whole}
use Rattle.laws_runs.proofs.Frames.{Grown, grown-kept, grown-settled, grown-between, grown-taken}
use Rattle.laws_runs.specs.Nowhere.{IsNamedNowhere, HasEnded}
use Rattle.laws_runs.proofs.Stays.{Ended, ended-kept, ended-settled, ended-between, ended-taken}

-- ---- timers

due_above : (due : Deadline → Bool) (is : List Instance) (p m : ℕ) → m < p → holds (due_instances due p is) m ≡ false
due_above due [] p m lt = refl
due_above due (i ∷ is) p m lt = by (due i.deadline) (due_above due is (suc p) m (omega (arith, lt)))
  where
    by : (b : Bool) → holds (due_instances due (suc p) is) m ≡ false → holds (cond b (p ∷ due_instances due (suc p) is) (due_instances due (suc p) is)) m ≡ false
    by true h = ap (λ b. b || holds (due_instances due (suc p) is) m) (ne_eqb p m (λ e. let same = e in absurd (omega (arith, lt, same)))) ∙ h
    by false h = h

due_lacks : (due : Deadline → Bool) (is : List Instance) (n p m : ℕ) (i : Instance) → m ≡ p + n → slice_get is n ≡ Some i → due i.deadline ≡ false → holds (due_instances due p is) m ≡ false
due_lacks due [] n p m i e at none = absurd (none-some i at)
due_lacks due (j ∷ is) zero p m i e at none =
    ap (λ b. holds (cond b (p ∷ due_instances due (suc p) is) (due_instances due (suc p) is)) m) (ap (λ (z : Instance). due z.deadline) (same_Some j i at) ∙ none) ∙ due_above due is (suc p) m (omega (arith, e))
due_lacks due (j ∷ is) (suc n) p m i e at none = by (due j.deadline) (due_lacks due is n (suc p) m i (omega (arith, e)) at none)
  where
    by : (b : Bool) → holds (due_instances due (suc p) is) m ≡ false → holds (cond b (p ∷ due_instances due (suc p) is) (due_instances due (suc p) is)) m ≡ false
    by true h = ap (λ b. b || holds (due_instances due (suc p) is) m) (ne_eqb p m (λ s. let same = s in absurd (omega (arith, e, same)))) ∙ h
    by false h = h

-- ---- lists of serials

not_held : (ps : List ℕ) (q : ℕ) → times q ps ≡ 0 → holds ps q ≡ false
not_held ps q none = by (holds ps q) refl
  where
    by : (b : Bool) → holds ps q ≡ b → b ≡ false
    by true is = let n = times-holds q ps is in absurd (omega (arith, n, none))
    by false is = refl

module _ (design : Design) (script : List Command) (n : ℕ) (choices : List ℕ) (c : Config) (reached : after n choices (start design script) ≡ Some c) (q : ℕ) (h : HasEnded c q) where
  nowhere : places c.processes q ≡ 0
  nowhere = ended-nowhere design script n choices c reached q h.instance h.is h.over

  free : IsFree h.instance
  free = ended-free design script n choices c reached q h.instance h.is h.over

  woken_not : (o : Option Instance) → instance_at c q ≡ o → wake_instance c q o ≡ c
  woken_not None at = refl
  woken_not (Some i) at = ap (λ b. cond ((b || is_active c q) || i.disabled) c (woken c q i)) (ap (λ (j : Instance). j.ended) (same_Some i h.instance (sym at ∙ h.is)) ∙ h.over)

  fired_not : (e : Ev) → times q (fire c e).processes.runnable ≡ 0
  fired_not e =
      let there = fire-ended q h.instance h.over free.wait c e h.is in
      let stands = stands-at (fire c e).processes q h.instance there (fire-fits c e (good-after design script n choices c reached).0) in
      by (times q (fire c e).processes.runnable) refl (λ lt. true≢false (sym h.over ∙ stands.lives (omega (arith, lt))))
    where
      by : (k : ℕ) → times q (fire c e).processes.runnable ≡ k → (0 < k → ⊥) → k ≡ 0
      by zero is not = refl
      by (suc k) is not = absurd (not (omega arith))

  pub named-nowhere : IsNamedNowhere c q
  named-nowhere = record {
    runnable = not_held c.processes.runnable q (let none = nowhere in omega (arith, none));
    active = not_held c.processes.stack q (let none = nowhere in omega (arith, none));
    events = λ e. fire-ended q h.instance h.over free.wait c e h.is ∙ sym h.is;
    joins_by_none = λ e. not_held (fire c e).processes.runnable q (fired_not e);
    wakes = woken_not (instance_at c q) refl;
    timers = λ due none. due_lacks due c.processes.instances q 0 q h.instance (omega arith) h.is (ap due free.deadline ∙ none);
  }

module _ (design : Design) (script : List Command) (sound : SoundDesign design) (n : ℕ) (choices : List ℕ) (c : Config) (reached : after n choices (start design script) ≡ Some c) where
  module _ (q : ℕ) (h : HasEnded c q) (m : ℕ) (more : List ℕ) (e : Config) (later : after m more c ≡ Some e) where
    pub ended-stays : HasEnded e q
    ended-stays =
        let k = kept-after (Ended q) (ended-kept q) (ended-settled q) (ended-between q) (ended-taken q) m more c e (sound-run design script sound n choices c reached) (h.instance, h.is, h.over) later in
        record { instance = k.0; is = k.1; over = k.2 }

    whole : after (n + m) (choices ++ more) (start design script) ≡ Some e
    whole = joined n m choices more (start design script) c reached ∙ later

    pub not-taken : (next : Config) → taking e q ≡ Some next → ⊥
    not-taken next to =
        let live = live-taken design script (n + m) (choices ++ more) e whole q next to in
        let over = ended-stays in
        true≢false (sym over.over ∙ ap (λ (i : Instance). i.ended) (same_Some over.instance live.instance (sym over.is ∙ live.made)) ∙ live.lives)

    pub not-on_top : (rest : List ℕ) → e.processes.stack ≡ q ∷ rest → ⊥
    not-on_top rest top =
        let over = ended-stays in
        let none = ended-nowhere design script (n + m) (choices ++ more) e whole q over.instance over.is over.over in
        let a = ap (times q) top in
        let b = times-here q rest in
        omega (arith, none, a, b)

  -- ---- two marks of which a guard has at most one

  two_in : (f : Mark → Bool) (x y : Mark) (ms : List Mark) → (x ≡ y → ⊥) → In x ms → In y ms → f x ≡ true → f y ≡ true → 2 ≤ count_by f ms
  two_in f x y [] apart a b fx fy = absurd a
  two_in f x y (z ∷ ms) apart (inl a) (inl b) fx fy = absurd (apart (sym a ∙ b))
  two_in f x y (z ∷ ms) apart (inl a) (inr b) fx fy = let one = one-more f z ms (ap f a ∙ fx) in let more = count-in f y ms b fy in omega (arith, one, more)
  two_in f x y (z ∷ ms) apart (inr a) (inl b) fx fy = let one = one-more f z ms (ap f b ∙ fy) in let more = count-in f x ms a fx in omega (arith, one, more)
  two_in f x y (z ∷ ms) apart (inr a) (inr b) fx fy = let one = count-cons f z ms in let more = two_in f x y ms apart a b fx fy in omega (arith, one, more)

  in_split : (x : Mark) (xs ys ms : List Mark) → ms ≡ xs ++ x ∷ ys → In x ms
  in_split x xs ys ms is = subst (In x) (sym is) (behind xs)
    where
      behind : (zs : List Mark) → In x (zs ++ x ∷ ys)
      behind [] = inl refl
      behind (z ∷ zs) = inr (behind zs)

  pub left-never_begun : (p g : ℕ) (before behind : List Mark) → c.trace.marks ≡ before ++ leave p g ∷ behind → (m : ℕ) (more : List ℕ) (e : Config) → after m more c ≡ Some e
      → (q : ℕ) (earlier later : List Mark) → e.trace.marks ≡ earlier ++ begin q g ∷ later → ⊥
  left-never_begun p g before behind left m more e there q earlier later begun =
      let grown = kept-after (Grown c.trace.marks) (grown-kept c.trace.marks) (grown-settled c.trace.marks) (grown-between c.trace.marks) (grown-taken c.trace.marks) m more c e (sound-run design script sound n choices c reached) ([], sym (append-nil c.trace.marks)) there in
      let a = subst (In (leave p g)) (sym grown.1) (in-front (leave p g) c.trace.marks grown.0 (in_split (leave p g) before behind c.trace.marks left)) in
      let b = in_split (begin q g) earlier later e.trace.marks begun in
      let two = two_in (leaves_or_begins g) (leave p g) (begin q g) e.trace.marks (λ e. cc) a b (eq-eqb g g refl) (eq-eqb g g refl) in
      let clean = clean-whole design script sound (n + m) (choices ++ more) e (joined n m choices more (start design script) c reached ∙ there) in
      let one = clean.guards.marks.once g in
      omega (arith, one, two)
