-- Those that are due are woken, one after another.
use Rattle.std.proofs.Common.{◌≡◌, ◌&&◌, ◌||◌, not, ℕ, Bool, true, false, List, [], ◌∷◌, Option, Some, None, option_map, refl, sym, ap, ◌∙◌, eq-eqb, ne_eqb, ⊎_elim}
use Rattle.std.specs.Prelude.{if◌then◌else◌}
use Rattle.std.proofs.lemmas.Bool.{cases_eq}
use Rattle.std.specs.FinSet as set
use Rattle.sim_model.specs.Configuration.{Instance}
use Rattle.sim_model.specs.Waits.{freed}
use Rattle.kernel_processes.specs.Woken.{if_there, is_deaf, roused, after_wake, joins, at_only, joins_only}
use Rattle.kernel_processes.specs.InstanceViews.{is_on, shown_at, body_at}
use Rattle.kernel_processes.specs.Moves.{Rouses}
use Rattle.kernel_processes.specs.declared.parts.Schedule.{Schedule}
use Rattle.kernel_processes.specs.Times.{those_on, those_join, WakesThose}

-- ---- a second wake is nothing new

roused_as : (i : Instance) (b : Bool) → i.suspended ≡ b → roused i ≡ (if b then record (freed i) { kept = true } else freed i)
roused_as i b is = ap (λ c. if c then record (freed i) { kept = true } else freed i) is

roused_again : (i : Instance) (b : Bool) → i.suspended ≡ b → roused (roused i) ≡ roused i
roused_again i true is = ap roused (roused_as i true is) ∙ roused_as (record (freed i) { kept = true }) true is ∙ sym (roused_as i true is)
roused_again i false is = ap roused (roused_as i false is) ∙ roused_as (freed i) false is ∙ sym (roused_as i false is)

deaf_still : (a : Bool) (i : Instance) (b : Bool) → i.suspended ≡ b → is_deaf a (roused i) ≡ is_deaf a i
deaf_still a i true is = ap (is_deaf a) (roused_as i true is)
deaf_still a i false is = ap (is_deaf a) (roused_as i false is)

held_still : (i : Instance) (b : Bool) → i.suspended ≡ b → (roused i).suspended ≡ i.suspended
held_still i true is = ap (λ j. j.suspended) (roused_as i true is)
held_still i false is = ap (λ j. j.suspended) (roused_as i false is)

wake_again : (a : Bool) (i : Instance) (b : Bool) → is_deaf a i ≡ b → after_wake a (after_wake a i) ≡ after_wake a i
wake_again a i true is = ap (λ c. after_wake a (if c then i else roused i)) is ∙ refl
wake_again a i false is = ap (λ c. after_wake a (if c then i else roused i)) is
    ∙ ap (λ c. if c then roused i else roused (roused i)) (deaf_still a i i.suspended refl ∙ is) ∙ roused_again i i.suspended refl
    ∙ sym (ap (λ c. if c then i else roused i) is)

joins_still : (a : Bool) (i : Instance) (b : Bool) → is_deaf a i ≡ b → joins a (after_wake a i) ≡ joins a i
joins_still a i true is = ap (λ c. joins a (if c then i else roused i)) is
joins_still a i false is = ap (λ c. joins a (if c then i else roused i)) is
    ∙ ap (λ c. not c && not (roused i).suspended) (deaf_still a i i.suspended refl) ∙ ap (λ c. not (is_deaf a i) && not c) (held_still i i.suspended refl)

-- ---- one more

or-all : (b : Bool) → (b || true) ≡ true
or-all true = refl
or-all false = refl

pub or-nothing : (b : Bool) → (b || false) ≡ b
or-nothing true = refl
or-nothing false = refl

absorbed : (a j : Bool) → ((a && j) || j) ≡ j
absorbed true true = refl
absorbed true false = refl
absorbed false j = refl

if_again : (b a : Bool) (i : Instance) → after_wake a (if b then after_wake a i else i) ≡ after_wake a i
if_again true a i = wake_again a i (is_deaf a i) refl
if_again false a i = refl

joins_again : (b a : Bool) (i : Instance) → joins a (if b then after_wake a i else i) ≡ joins a i
joins_again true a i = joins_still a i (is_deaf a i) refl
joins_again false a i = refl

module _ (p q : ℕ) (done : List ℕ) (a : Bool) (i : Instance) where
  one_more_on : at_only p after_wake q a (those_on done after_wake q a i) ≡ those_on (p ∷ done) after_wake q a i
  one_more_on = ⊎_elim
      (λ same. ap (λ b. if b then after_wake a (those_on done after_wake q a i) else those_on done after_wake q a i) (eq-eqb q p (sym same)) ∙ if_again (is_on done q) a i
      ∙ sym (ap (λ b. if b || is_on done q then after_wake a i else i) (eq-eqb p q same)))
      (λ apart. ap (λ b. if b then after_wake a (those_on done after_wake q a i) else those_on done after_wake q a i) (ne_eqb q p (λ same. apart (sym same)))
      ∙ sym (ap (λ b. if b || is_on done q then after_wake a i else i) (ne_eqb p q apart)))
      (cases_eq p q)

  one_more_joins : (those_join done joins q a i || joins_only p joins q a (those_on done after_wake q a i)) ≡ those_join (p ∷ done) joins q a i
  one_more_joins = ⊎_elim
      (λ same. ap (λ b. those_join done joins q a i || (b && joins a (those_on done after_wake q a i))) (eq-eqb q p (sym same))
      ∙ ap (λ b. (is_on done q && joins a i) || b) (joins_again (is_on done q) a i) ∙ absorbed (is_on done q) (joins a i)
      ∙ sym (ap (λ b. (b || is_on done q) && joins a i) (eq-eqb p q same)))
      (λ apart. ap (λ b. those_join done joins q a i || (b && joins a (those_on done after_wake q a i))) (ne_eqb q p (λ same. apart (sym same)))
      ∙ or-nothing (those_join done joins q a i)
      ∙ sym (ap (λ b. (b || is_on done q) && joins a i) (ne_eqb p q apart)))
      (cases_eq p q)

more_shown : (p q : ℕ) (done : List ℕ) (a : Bool) (o : Option Instance) → option_map (at_only p after_wake q a) (option_map (those_on done after_wake q a) o) ≡ option_map (those_on (p ∷ done) after_wake q a) o
more_shown p q done a None = refl
more_shown p q done a (Some i) = ap Some (one_more_on p q done a i)

more_joins : (p q : ℕ) (done : List ℕ) (a r : Bool) (o : Option Instance)
    → ((r || if_there (those_join done joins q a) o) || if_there (joins_only p joins q a) (option_map (those_on done after_wake q a) o)) ≡ (r || if_there (those_join (p ∷ done) joins q a) o)
more_joins p q done a true None = refl
more_joins p q done a false None = refl
more_joins p q done a true (Some i) = refl
more_joins p q done a false (Some i) = one_more_joins p q done a i

module _ {B : Type 0} where
  pub none_woken : (s : Schedule B) → WakesThose [] s s
  none_woken s = record {
    shown = λ q. same_shown q (shown_at s q);
    ready = λ q. same_ready q (set.contains s.ready.members q) (shown_at s q);
    bodies = λ q. refl;
    stack = refl;
    next = refl;
  }
    where
      same_shown : (q : ℕ) (o : Option Instance) → o ≡ option_map (those_on [] after_wake q (is_on s.stack.items q)) o
      same_shown q None = refl
      same_shown q (Some i) = refl

      same_ready : (q : ℕ) (r : Bool) (o : Option Instance) → r ≡ (r || if_there (those_join [] joins q (is_on s.stack.items q)) o)
      same_ready q true o = refl
      same_ready q false None = refl
      same_ready q false (Some i) = refl

  pub one_woken : (s t u v : Schedule B) (p : ℕ) (done : List ℕ) → WakesThose done s t → u ≡ record t { due = u.due } → Rouses (at_only p after_wake) (joins_only p joins) u v → WakesThose (p ∷ done) s v
  one_woken s t u v p done so same r = record {
    shown = λ q. r.shown q ∙ ap (λ w. option_map (at_only p after_wake q (is_on w.stack.items q)) (shown_at w q)) same
        ∙ ap (λ w. option_map (at_only p after_wake q (is_on w.items q)) (shown_at t q)) so.stack
        ∙ ap (option_map (at_only p after_wake q (is_on s.stack.items q))) (so.shown q)
        ∙ more_shown p q done (is_on s.stack.items q) (shown_at s q);
    ready = λ q. r.ready q ∙ ap (λ w. set.contains w.ready.members q || if_there (joins_only p joins q (is_on w.stack.items q)) (shown_at w q)) same
        ∙ ap (λ w. set.contains t.ready.members q || if_there (joins_only p joins q (is_on w.items q)) (shown_at t q)) so.stack
        ∙ ap (λ o. set.contains t.ready.members q || if_there (joins_only p joins q (is_on s.stack.items q)) o) (so.shown q)
        ∙ ap (λ b. b || if_there (joins_only p joins q (is_on s.stack.items q)) (option_map (those_on done after_wake q (is_on s.stack.items q)) (shown_at s q))) (so.ready q)
        ∙ more_joins p q done (is_on s.stack.items q) (set.contains s.ready.members q) (shown_at s q);
    bodies = λ q. r.bodies q ∙ ap (λ w. body_at w q) same ∙ so.bodies q;
    stack = r.stack ∙ ap (λ w. w.stack) same ∙ so.stack;
    next = r.next ∙ ap (λ w. w.table.next) same ∙ so.next;
  }
