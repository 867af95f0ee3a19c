-- The zero time-outs, or those of a time, are taken out of the waits: their instances are due.
use Rattle.std.proofs.Common.{◌≡◌, ◌<◌, ◌+◌, ◌||◌, ℕ, zero, suc, Bool, true, false, List, [], ◌∷◌, slice_get, map, Option, Some, None, refl, sym, ap, ◌∙◌, subst, arith, eq-eqb, ne_eqb}
use Rattle.std.specs.Prelude.{if◌then◌else◌, reverse}
use Rattle.std.proofs.lemmas.Option.{slice_get-map}
use Rattle.std.proofs.lemmas.List.{length-map}
use Rattle.kernel_state.specs.SimModel.Configuration.{Instance, Processes, Deadline, no_deadline}
use Rattle.kernel_state.specs.SimModel.Phases.{due_instances, without_deadline}
use Rattle.kernel_state.specs.KernelProcesses.Woken.{if_there}
use Rattle.kernel_state.specs.KernelProcesses.InstanceViews.{bare, is_on, shown_at, body_at}
use Rattle.kernel_state.specs.KernelProcesses.declared.parts.Schedule.{Schedule}
use Rattle.kernel_state.specs.KernelProcesses.Times.{TakesDue}
use Rattle.kernel_state.specs.Processes.{Beside, beside, Rests, TellsBy, Tells, StandsForProcesses}
use Rattle.kernel_state.proofs.ProcessFrames.{Agrees, tells_after}

-- ---- who is due

due_behind : (test : Deadline → Bool) (is : List Instance) (n q : ℕ) → q < n → is_on (due_instances test n is) q ≡ false
due_behind test [] n q lt = refl
due_behind test (i ∷ is) n q lt = by (test i.deadline) (due_behind test is (suc n) q (omega (arith, lt)))
  where
    by : (b : Bool) → is_on (due_instances test (suc n) is) q ≡ false → is_on (if b then n ∷ due_instances test (suc n) is else due_instances test (suc n) is) q ≡ false
    by true h = ap (λ b. b || is_on (due_instances test (suc n) is) q) (ne_eqb n q (λ e. let same = e in absurd (omega (arith, lt, same)))) ∙ h
    by false h = h

due_from : (test : Deadline → Bool) (is : List Instance) (n m q : ℕ) → q ≡ n + m → is_on (due_instances test n is) q ≡ if_there (λ i. test i.deadline) (slice_get is m)
due_from test [] n m q at = refl
due_from test (i ∷ is) n zero q at = by (test i.deadline)
  where
    by : (b : Bool) → is_on (if b then n ∷ due_instances test (suc n) is else due_instances test (suc n) is) q ≡ b
    by true = ap (λ b. b || is_on (due_instances test (suc n) is) q) (eq-eqb n q (omega (arith, at)))
    by false = due_behind test is (suc n) q (omega (arith, at))
due_from test (i ∷ is) n (suc m) q at = by (test i.deadline) (due_from test is (suc n) m q (omega (arith, at)))
  where
    by : (b : Bool) → is_on (due_instances test (suc n) is) q ≡ if_there (λ i. test i.deadline) (slice_get is m)
        → is_on (if b then n ∷ due_instances test (suc n) is else due_instances test (suc n) is) q ≡ if_there (λ i. test i.deadline) (slice_get is m)
    by true h = ap (λ b. b || is_on (due_instances test (suc n) is) q) (ne_eqb n q (λ e. let same = e in absurd (omega (arith, at, same)))) ∙ h
    by false h = h

pub due_there : (test : Deadline → Bool) (is : List Instance) (q : ℕ) → is_on (due_instances test 0 is) q ≡ if_there (λ i. test i.deadline) (slice_get is q)
due_there test is q = due_from test is 0 q q (omega arith)

-- ---- an instance without its time-out

bare_without : (b : Bool) (i : Instance) → bare (if b then record i { deadline = no_deadline } else i) ≡ (if b then record (bare i) { deadline = no_deadline } else bare i)
bare_without true i = refl
bare_without false i = refl

same_without : {A : Type 0} (h : Instance → A) → ((i : Instance) → h (record i { deadline = no_deadline }) ≡ h i) → (b : Bool) (i : Instance) → h (if b then record i { deadline = no_deadline } else i) ≡ h i
same_without h same true i = same i
same_without h same false i = refl

over_without : (b : Bool) (i : Instance) → Rests i → Rests (if b then record i { deadline = no_deadline } else i)
over_without true i rests = (rests.0, refl, rests.2)
over_without false i rests = rests

module _ {B : Type 0} (Shows : B → Beside → Type 0) (test : Deadline → Bool) (none : test no_deadline ≡ false) (s t : Schedule B) (takes : TakesDue test s t) (x : Processes) (stands : StandsForProcesses Shows s x) where
  agrees : Agrees Shows (without_deadline test) (without_deadline test)
  agrees = record {
    bares = λ i. bare_without (test i.deadline) i;
    ends = λ i. same_without (λ j. j.ended) (λ j. refl) (test i.deadline) i;
    shows = λ b i h. subst (Shows b) (sym (same_without beside (λ j. refl) (test i.deadline) i)) h;
  }

  pub taken_stands : StandsForProcesses Shows t (record x { instances = map (without_deadline test) x.instances })
  taken_stands = record {
    each = λ q. subst (Tells Shows (shown_at t q) (body_at t q)) (sym (slice_get-map (without_deadline test) x.instances q))
        (tells_after Shows (without_deadline test) (without_deadline test) agrees (shown_at s q) (shown_at t q) (body_at s q) (body_at t q) (slice_get x.instances q)
        (λ i at ended rests. over_without (test i.deadline) i rests) (takes.shown q) (takes.bodies q) (stands.each q));
    ready = λ q. takes.ready q ∙ stands.ready q;
    stack = stands.stack ∙ ap (λ v. reverse v.items) (sym takes.stack);
    next = takes.next ∙ stands.next ∙ sym (length-map x.instances (without_deadline test));
  }

  shown_due : (o : Option Instance) (b : Option B) (i : Instance) (e : Bool) → i.ended ≡ e → TellsBy Shows e o b i → if_there (λ j. test j.deadline) o ≡ test i.deadline
  shown_due o b i true is gone = ap (if_there (λ j. test j.deadline)) gone.0 ∙ sym (ap test gone.1.1 ∙ none)
  shown_due o b i false is lives = ap (if_there (λ j. test j.deadline)) lives.shown

  told_due : (o : Option Instance) (b : Option B) (i : Option Instance) → Tells Shows o b i → if_there (λ j. test j.deadline) o ≡ if_there (λ j. test j.deadline) i
  told_due o b None gone = ap (if_there (λ j. test j.deadline)) gone
  told_due o b (Some i) tells = shown_due o b i i.ended refl tells

  -- the same ones are due as in the configuration
  pub due_same : (q : ℕ) → is_on (due_instances test 0 x.instances) q ≡ is_on t.due.items q
  due_same q = due_there test x.instances q ∙ sym (told_due (shown_at s q) (body_at s q) (slice_get x.instances q) (stands.each q)) ∙ sym (takes.due q)
