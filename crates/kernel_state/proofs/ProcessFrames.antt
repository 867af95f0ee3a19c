-- Each move of a schedule beside the same move of the processes of a configuration.
use Rattle.std.proofs.Common.{◌≡◌, ◌≢◌, ◌≤◌, ◌<◌, ◌+◌, ◌==◌, ◌&&◌, ◌||◌, not, ℕ, zero, suc, Bool, true, false, List, [], ◌∷◌, ◌++◌, drop, length, slice_get, reverse, Option, Some, None, option_map, refl, sym, ap, ◌∙◌, subst, arith, true≢false, ⊎_elim}
use Rattle.std.specs.Prelude.{if◌then◌else◌, is_some, unwrap_or}
use Rattle.std.proofs.lemmas.Bool.{cases_eq}
use Rattle.std.proofs.lemmas.List.{reverse-append, length-append}
use Rattle.std.proofs.lemmas.List.Folds.{list_any-append}
use Rattle.std.proofs.lemmas.Option.{slice_get_past}
use Rattle.std.specs.FinMap as map
use Rattle.std.specs.FinSet as set
use Rattle.kernel_processes.specs.SimModel.Configuration.{Config, Instance, Processes, Wait, waits_for_nothing, waits_statically, waits_for_any, waits_for_all, change}
use Rattle.kernel_processes.specs.EventCore.declared.event.Ev.{Ev}
use Rattle.kernel_processes.specs.SimModel.Waits.{holds, is_active, freed, is_among, struck}
use Rattle.kernel_processes.specs.Woken as woken
use Rattle.kernel_processes.specs.Woken.{if_there, is_deaf, roused, after_wake, joins, after_last, after_named, after_event, ends_wait, joins_by, at_only, joins_only}
use Rattle.kernel_processes.proofs.Wakes.{change-here, change-other, change-length}
use Rattle.kernel_processes.specs.InstanceViews.{bare, shown_at, body_at, is_on}
use Rattle.kernel_processes.specs.Moves.{MovesOne, Rouses}
use Rattle.kernel_processes.specs.declared.parts.Schedule.{Schedule}
use Rattle.kernel_processes.specs.Moved.{same_stack, leaves_top, joins_top, Stays, Ends, Spawns, PutsBody}
use Rattle.kernel_state.specs.Processes.{Beside, beside, Rests, IsLive, TellsBy, Tells, StandsForProcesses}

-- ---- the stack

or-nothing : (b : Bool) → (b || false) ≡ b
or-nothing true = refl
or-nothing false = refl

or-turned : (a b : Bool) → (a || b) ≡ (b || a)
or-turned true true = refl
or-turned true false = refl
or-turned false true = refl
or-turned false false = refl

pub on_reversed : (xs : List ℕ) (q : ℕ) → is_on (reverse xs) q ≡ is_on xs q
on_reversed [] q = refl
on_reversed (x ∷ xs) q = ap (λ ys. is_on ys q) (reverse-append (x ∷ []) xs) ∙ list_any-append (λ y. y == q) (reverse xs) (x ∷ [])
    ∙ ap (λ b. is_on (reverse xs) q || b) (or-nothing (x == q)) ∙ ap (λ b. b || (x == q)) (on_reversed xs q) ∙ or-turned (is_on xs q) (x == q)

module _ {B : Type 0} (Shows : B → Beside → Type 0) where
  -- ---- one instance

  -- what a change of an instance has to keep
  pub record Agrees (f g : Instance → Instance) : Type 0 where
    pub bares : (i : Instance) → bare (g i) ≡ f (bare i)
    pub ends : (i : Instance) → (g i).ended ≡ i.ended
    pub shows : (b : B) (i : Instance) → Shows b (beside i) → Shows b (beside (g i))

  -- of an instance that has ended it keeps that it rests
  abbrev pub KeepsOver : (Instance → Instance) → Instance → Type 0
  KeepsOver g i = i.ended ≡ true → Rests i → Rests (g i)

  tells_by : (f g : Instance → Instance) → Agrees f g → (o p : Option Instance) (b c : Option B) (i : Instance) (e : Bool) → i.ended ≡ e → KeepsOver g i → p ≡ option_map f o → c ≡ b
      → TellsBy Shows e o b i → TellsBy Shows e p c (g i)
  tells_by f g agrees o p b c i true is over moved same none = (moved ∙ ap (option_map f) none.0, over is none.1)
  tells_by f g agrees o p b c i false is over moved same lives = record {
    shown = moved ∙ ap (option_map f) lives.shown ∙ ap Some (sym (agrees.bares i));
    kept = (lives.kept.0, (same ∙ lives.kept.1.0, agrees.shows lives.kept.0 i lives.kept.1.1));
  }

  abbrev pub KeepsOverAt : (Instance → Instance) → Option Instance → Type 0
  KeepsOverAt g o = (i : Instance) → o ≡ Some i → KeepsOver g i

  pub tells_after : (f g : Instance → Instance) → Agrees f g → (o p : Option Instance) (b c : Option B) (i : Option Instance) → KeepsOverAt g i → p ≡ option_map f o → c ≡ b → Tells Shows o b i → Tells Shows p c (option_map g i)
  tells_after f g agrees o p b c None over moved same none = moved ∙ ap (option_map f) none
  tells_after f g agrees o p b c (Some i) over moved same tells = subst (λ e. TellsBy Shows e p c (g i)) (sym (agrees.ends i)) (tells_by f g agrees o p b c i i.ended refl (over i refl) moved same tells)

  -- what shows has not ended
  lives_by : (o : Option Instance) (b : Option B) (i : Instance) (e : Bool) → i.ended ≡ e → is_some o ≡ true → TellsBy Shows e o b i → i.ended ≡ false
  lives_by o b i true is some none = absurd (true≢false (sym some ∙ ap is_some none.0))
  lives_by o b i false is some lives = is

  pub lives_that_shows : (o : Option Instance) (b : Option B) (i : Option Instance) → is_some o ≡ true → Tells Shows o b i → (j : Instance) → i ≡ Some j → j.ended ≡ false
  lives_that_shows o b None some none j at = absurd (true≢false (sym some ∙ ap is_some none))
  lives_that_shows o b (Some i) some tells j at = subst (λ k. k.ended ≡ false) (ap (λ z. unwrap_or z i) at) (lives_by o b i i.ended refl some tells)

  module _ (s t : Schedule B) (x : Processes) (stands : StandsForProcesses Shows s x) where
    -- the schedule shows the same, and so does what is kept
    pub each_same : ((q : ℕ) → shown_at t q ≡ shown_at s q) → ((q : ℕ) → body_at t q ≡ body_at s q) → (q : ℕ) → Tells Shows (shown_at t q) (body_at t q) (slice_get x.instances q)
    each_same shown bodies q = subst (λ o. Tells Shows o (body_at t q) (slice_get x.instances q)) (sym (shown q)) (subst (λ b. Tells Shows (shown_at s q) b (slice_get x.instances q)) (sym (bodies q)) (stands.each q))

    pub stays : Stays s t → StandsForProcesses Shows t x
    stays st = record {
      each = each_same st.shown st.bodies;
      ready = λ q. st.ready q ∙ stands.ready q;
      stack = stands.stack ∙ ap reverse (sym st.stack);
      next = st.next ∙ stands.next;
    }

    -- one instance moves
    module _ (p : ℕ) (f g : Instance → Instance) (agrees : Agrees f g) (runs : Bool) (how : List ℕ → List ℕ → Type 0) (moves : MovesOne p f runs how s t) (lives : is_some (shown_at s p) ≡ true) (y : Processes)
        (changed : y.instances ≡ change x.instances p g) (runs_now : holds y.runnable p ≡ runs) (runs_others : (q : ℕ) → q ≢ p → holds y.runnable q ≡ holds x.runnable q) where
      each_moved : (q : ℕ) → Tells Shows (shown_at t q) (body_at t q) (slice_get y.instances q)
      each_moved q = subst (λ is. Tells Shows (shown_at t q) (body_at t q) (slice_get is q)) (sym changed) (⊎_elim
          (λ same. subst (λ n. Tells Shows (shown_at t n) (body_at t n) (slice_get (change x.instances p g) n)) (sym same)
          (subst (Tells Shows (shown_at t p) (body_at t p)) (sym (change-here x.instances p g))
          (tells_after f g agrees (shown_at s p) (shown_at t p) (body_at s p) (body_at t p) (slice_get x.instances p) (λ i at ended over. absurd (true≢false (sym ended ∙ lives_that_shows (shown_at s p) (body_at s p) (slice_get x.instances p) lives (stands.each p) i at)))
          moves.here (moves.bodies p) (stands.each p))))
          (λ apart. subst (Tells Shows (shown_at t q) (body_at t q)) (sym (change-other x.instances p q g apart))
          (subst (λ o. Tells Shows o (body_at t q) (slice_get x.instances q)) (sym (moves.others q apart)) (subst (λ b. Tells Shows (shown_at s q) b (slice_get x.instances q)) (sym (moves.bodies q)) (stands.each q))))
          (cases_eq q p))

      pub moved_with : y.stack ≡ reverse t.stack.items → StandsForProcesses Shows t y
      moved_with stack = record {
        each = each_moved;
        ready = λ q. ⊎_elim
            (λ same. subst (λ n. set.contains t.ready.members n ≡ holds y.runnable n) (sym same) (moves.ready ∙ sym runs_now))
            (λ apart. moves.others_ready q apart ∙ stands.ready q ∙ sym (runs_others q apart))
            (cases_eq q p);
        stack = stack;
        next = moves.next ∙ stands.next ∙ sym (change-length x.instances p g) ∙ ap length (sym changed);
      }

    -- the stack goes on as told
    pub stack_same : same_stack s.stack.items t.stack.items → x.stack ≡ reverse t.stack.items
    stack_same same = stands.stack ∙ ap reverse (sym same)

    pub stack_left : (p : ℕ) → leaves_top p s.stack.items t.stack.items → drop 1 x.stack ≡ reverse t.stack.items
    stack_left p left = ap (drop 1) (stands.stack ∙ ap reverse left ∙ reverse-append t.stack.items (p ∷ []))

    pub stack_joined : (p : ℕ) → joins_top p s.stack.items t.stack.items → p ∷ x.stack ≡ reverse t.stack.items
    stack_joined p joined = ap (λ xs. p ∷ xs) stands.stack ∙ sym (ap reverse joined ∙ reverse-append s.stack.items (p ∷ []))

    -- another body for an instance
    module _ (p : ℕ) (b : B) (g : Instance → Instance) (puts : PutsBody p b s t) (bares : (i : Instance) → bare (g i) ≡ bare i) (ends : (i : Instance) → (g i).ended ≡ i.ended) (over : (i : Instance) → Rests i → Rests (g i))
        (shows : (a : B) (i : Instance) → body_at s p ≡ Some a → slice_get x.instances p ≡ Some i → Shows a (beside i) → Shows b (beside (g i))) where
      put_by : (i : Instance) (e : Bool) → slice_get x.instances p ≡ Some i → i.ended ≡ e → TellsBy Shows e (shown_at s p) (body_at s p) i → TellsBy Shows e (shown_at t p) (body_at t p) (g i)
      put_by i true at is none = (puts.shown p ∙ none.0, over i none.1)
      put_by i false at is lives = record {
        shown = puts.shown p ∙ lives.shown ∙ ap Some (sym (bares i));
        kept = (b, (puts.body, shows lives.kept.0 i lives.kept.1.0 at lives.kept.1.1));
      }

      put_here : (o : Option Instance) → slice_get x.instances p ≡ o → Tells Shows (shown_at s p) (body_at s p) o → Tells Shows (shown_at t p) (body_at t p) (option_map g o)
      put_here None at none = puts.shown p ∙ none
      put_here (Some i) at tells = subst (λ e. TellsBy Shows e (shown_at t p) (body_at t p) (g i)) (sym (ends i)) (put_by i i.ended at refl tells)

      pub put_stands : StandsForProcesses Shows t (record x { instances = change x.instances p g })
      put_stands = record {
        each = λ q. ⊎_elim
            (λ same. subst (λ n. Tells Shows (shown_at t n) (body_at t n) (slice_get (change x.instances p g) n)) (sym same)
            (subst (Tells Shows (shown_at t p) (body_at t p)) (sym (change-here x.instances p g)) (put_here (slice_get x.instances p) refl (stands.each p))))
            (λ apart. subst (Tells Shows (shown_at t q) (body_at t q)) (sym (change-other x.instances p q g apart))
            (subst (λ o. Tells Shows o (body_at t q) (slice_get x.instances q)) (sym (puts.shown q)) (subst (λ c. Tells Shows (shown_at s q) c (slice_get x.instances q)) (sym (puts.bodies q apart)) (stands.each q))))
            (cases_eq q p);
        ready = λ q. puts.ready q ∙ stands.ready q;
        stack = stands.stack ∙ ap (λ v. reverse v.items) (sym puts.stack);
        next = puts.next ∙ stands.next ∙ sym (change-length x.instances p g);
      }

    -- an instance ends, and leaves the stack
    module _ (p : ℕ) (g : Instance → Instance) (ends : Ends p s t) (over : (i : Instance) → ((g i).ended ≡ true) × Rests (g i)) where
      gone_here : (o : Option Instance) → Tells Shows (shown_at t p) (body_at t p) (option_map g o)
      gone_here None = ends.here
      gone_here (Some i) = subst (λ e. TellsBy Shows e (shown_at t p) (body_at t p) (g i)) (sym (over i).0) (ends.here, (over i).1)

      pub ended_stands : StandsForProcesses Shows t (record x { instances = change x.instances p g; stack = drop 1 x.stack })
      ended_stands = record {
        each = λ q. ⊎_elim
            (λ same. subst (λ n. Tells Shows (shown_at t n) (body_at t n) (slice_get (change x.instances p g) n)) (sym same)
            (subst (Tells Shows (shown_at t p) (body_at t p)) (sym (change-here x.instances p g)) (gone_here (slice_get x.instances p))))
            (λ apart. subst (Tells Shows (shown_at t q) (body_at t q)) (sym (change-other x.instances p q g apart))
            (subst (λ o. Tells Shows o (body_at t q) (slice_get x.instances q)) (sym (ends.others q apart)) (subst (λ c. Tells Shows (shown_at s q) c (slice_get x.instances q)) (sym (ends.bodies q apart)) (stands.each q))))
            (cases_eq q p);
        ready = λ q. ends.ready q ∙ stands.ready q;
        stack = stack_left p ends.stack;
        next = ends.next ∙ stands.next ∙ sym (change-length x.instances p g);
      }

    -- a new instance
    module _ (p : ℕ) (j i : Instance) (b : B) (runs : Bool) (spawns : Spawns p j b runs s t) (bares : bare i ≡ j) (lives : i.ended ≡ false) (shows : Shows b (beside i))
        (y : Processes) (added : y.instances ≡ x.instances ++ i ∷ []) (runs_now : holds y.runnable p ≡ runs) (runs_others : (q : ℕ) → q ≢ p → holds y.runnable q ≡ holds x.runnable q) (stack : y.stack ≡ x.stack) where
      place : p ≡ length x.instances
      place = spawns.number ∙ stands.next

      get_other : (xs : List Instance) (q : ℕ) → q ≢ length xs → slice_get (xs ++ i ∷ []) q ≡ slice_get xs q
      get_other [] zero apart = absurd (apart refl)
      get_other [] (suc q) apart = refl
      get_other (z ∷ xs) zero apart = refl
      get_other (z ∷ xs) (suc q) apart = get_other xs q (λ same. apart (ap suc same))

      get_last : (xs : List Instance) → slice_get (xs ++ i ∷ []) (length xs) ≡ Some i
      get_last [] = refl
      get_last (z ∷ xs) = get_last xs

      at_last : slice_get y.instances p ≡ Some i
      at_last = ap (λ is. slice_get is p) added ∙ ap (slice_get (x.instances ++ i ∷ [])) place ∙ get_last x.instances

      new_tells : Tells Shows (shown_at t p) (body_at t p) (Some i)
      new_tells = subst (λ e. TellsBy Shows e (shown_at t p) (body_at t p) i) (sym lives) (record { shown = spawns.here ∙ ap Some (sym bares); kept = (b, (spawns.body, shows)) })

      pub spawned_stands : StandsForProcesses Shows t y
      spawned_stands = record {
        each = λ q. ⊎_elim
            (λ same. subst (λ n. Tells Shows (shown_at t n) (body_at t n) (slice_get y.instances n)) (sym same) (subst (Tells Shows (shown_at t p) (body_at t p)) (sym at_last) new_tells))
            (λ apart. subst (Tells Shows (shown_at t q) (body_at t q)) (sym (ap (λ is. slice_get is q) added ∙ get_other x.instances q (λ same. apart (same ∙ sym place))))
            (subst (λ o. Tells Shows o (body_at t q) (slice_get x.instances q)) (sym (spawns.others q apart)) (subst (λ c. Tells Shows (shown_at s q) c (slice_get x.instances q)) (sym (spawns.bodies q apart)) (stands.each q))))
            (cases_eq q p);
        ready = λ q. ⊎_elim
            (λ same. subst (λ n. set.contains t.ready.members n ≡ holds y.runnable n) (sym same) (spawns.ready ∙ sym runs_now))
            (λ apart. spawns.others_ready q apart ∙ stands.ready q ∙ sym (runs_others q apart))
            (cases_eq q p);
        stack = stack ∙ stands.stack ∙ ap reverse (sym spawns.stack);
        next = spawns.next ∙ ap (λ n. n + 1) stands.next ∙ sym (length-append x.instances (i ∷ [])) ∙ ap length (sym added);
      }

  -- ---- events and wakes

  -- what a function that rouses has to keep
  pub record Rousing (f : ℕ → Bool → Instance → Instance) (joining : ℕ → Bool → Instance → Bool) : Type 0 where
    pub bares : (q : ℕ) (a : Bool) (i : Instance) → bare (f q a i) ≡ f q a (bare i)
    pub ends : (q : ℕ) (a : Bool) (i : Instance) → (f q a i).ended ≡ i.ended
    pub besides : (q : ℕ) (a : Bool) (i : Instance) → beside (f q a i) ≡ beside i
    pub joins : (q : ℕ) (a : Bool) (i : Instance) → joining q a (bare i) ≡ joining q a i
    pub over : (q : ℕ) (a : Bool) (i : Instance) → i.ended ≡ true → Rests i → Rests (f q a i)
    pub joins_no_ended : (q : ℕ) (a : Bool) (i : Instance) → i.ended ≡ true → joining q a i ≡ false

  module _ (f : ℕ → Bool → Instance → Instance) (joining : ℕ → Bool → Instance → Bool) (rousing : Rousing f joining) (s t : Schedule B) (c d : Config)
      (moves : Rouses f joining s t) (does : woken.Rouses f joining c d) (stands : StandsForProcesses Shows s c.processes) where
    active_same : (q : ℕ) → is_on s.stack.items q ≡ is_active c q
    active_same q = sym (on_reversed s.stack.items q) ∙ ap (λ xs. is_on xs q) (sym stands.stack)

    joined_by : (q : ℕ) (a : Bool) (i : Instance) (e : Bool) → i.ended ≡ e → TellsBy Shows e (shown_at s q) (body_at s q) i → if_there (joining q a) (shown_at s q) ≡ joining q a i
    joined_by q a i true is none = ap (if_there (joining q a)) none.0 ∙ sym (rousing.joins_no_ended q a i is)
    joined_by q a i false is lives = ap (if_there (joining q a)) lives.shown ∙ rousing.joins q a i

    joined_there : (q : ℕ) (a : Bool) (o : Option Instance) → Tells Shows (shown_at s q) (body_at s q) o → if_there (joining q a) (shown_at s q) ≡ if_there (joining q a) o
    joined_there q a None none = ap (if_there (joining q a)) none
    joined_there q a (Some i) tells = joined_by q a i i.ended refl tells

    roused_tells : (q : ℕ) → Tells Shows (shown_at t q) (body_at t q) (slice_get d.processes.instances q)
    roused_tells q = subst (Tells Shows (shown_at t q) (body_at t q)) (sym (does.instances q))
        (tells_after (f q (is_active c q)) (f q (is_active c q)) (record { bares = rousing.bares q (is_active c q); ends = rousing.ends q (is_active c q); shows = λ b i h. subst (Shows b) (sym (rousing.besides q (is_active c q) i)) h })
        (shown_at s q) (shown_at t q) (body_at s q) (body_at t q) (slice_get c.processes.instances q) (λ i at ended over. rousing.over q (is_active c q) i ended over)
        (moves.shown q ∙ ap (λ a. option_map (f q a) (shown_at s q)) (active_same q)) (moves.bodies q) (stands.each q))

    pub roused_stands : StandsForProcesses Shows t d.processes
    roused_stands = record {
      each = roused_tells;
      ready = λ q. moves.ready q ∙ ap (λ b. b || if_there (joining q (is_on s.stack.items q)) (shown_at s q)) (stands.ready q)
          ∙ ap (λ a. holds c.processes.runnable q || if_there (joining q a) (shown_at s q)) (active_same q)
          ∙ ap (λ b. holds c.processes.runnable q || b) (joined_there q (is_active c q) (slice_get c.processes.instances q) (stands.each q))
          ∙ sym (does.runnable q);
      stack = ap (λ z. z.processes.stack) does.others ∙ stands.stack ∙ ap (λ v. reverse v.items) (sym moves.stack);
      next = moves.next ∙ stands.next ∙ sym does.serials;
    }

-- ---- a wake, and an event

bare-roused : (i : Instance) → bare (roused i) ≡ roused (bare i)
bare-roused i = by i.suspended refl
  where
    by : (b : Bool) → i.suspended ≡ b → bare (roused i) ≡ roused (bare i)
    by true is = ap (λ b. bare (if b then record (freed i) { kept = true } else freed i)) is ∙ sym (ap (λ b. if b then record (freed (bare i)) { kept = true } else freed (bare i)) is)
    by false is = ap (λ b. bare (if b then record (freed i) { kept = true } else freed i)) is ∙ sym (ap (λ b. if b then record (freed (bare i)) { kept = true } else freed (bare i)) is)

rouses_by : {A : Type 0} (h : Instance → A) (i : Instance) → h (record (freed i) { kept = true }) ≡ h i → h (freed i) ≡ h i → h (roused i) ≡ h i
rouses_by h i held free = by i.suspended refl
  where
    by : (b : Bool) → i.suspended ≡ b → h (roused i) ≡ h i
    by true is = ap (λ b. h (if b then record (freed i) { kept = true } else freed i)) is ∙ held
    by false is = ap (λ b. h (if b then record (freed i) { kept = true } else freed i)) is ∙ free

if_same : {A B : Type 0} (h : A → B) (b : Bool) (x y : A) (z : B) → h x ≡ z → h y ≡ z → h (if b then x else y) ≡ z
if_same h true x y z is other = is
if_same h false x y z is other = other

if_both : {A B : Type 0} (h : A → B) (b : Bool) (x y : A) (u v : B) → h x ≡ u → h y ≡ v → h (if b then x else y) ≡ (if b then u else v)
if_both h true x y u v is other = is
if_both h false x y u v is other = other

-- what no wake and no event changes
module _ {A : Type 0} (h : Instance → A) (kept_same : (i : Instance) → h (record (freed i) { kept = true }) ≡ h i) (freed_same : (i : Instance) → h (freed i) ≡ h i)
    (waits_same : (i : Instance) (es : List Ev) → h (record i { wait = waits_for_all es }) ≡ h i) where
  wake_same : (a : Bool) (i : Instance) → h (after_wake a i) ≡ h i
  wake_same a i = if_same h (is_deaf a i) i (roused i) (h i) refl (rouses_by h i (kept_same i) (freed_same i))

  last_same : (a : Bool) (i : Instance) (es : List Ev) → h (after_last a i es) ≡ h i
  last_same a i [] = wake_same a i
  last_same a i (e ∷ es) = waits_same i (e ∷ es)

  named_same : (e : Ev) (a : Bool) (i : Instance) (w : Wait) → h (after_named e a i w) ≡ h i
  named_same e a i waits_for_nothing = refl
  named_same e a i waits_statically = if_same h (is_among e i.static) (after_wake a i) i (h i) (wake_same a i) refl
  named_same e a i (waits_for_any es) = if_same h (is_among e es) (after_wake a i) i (h i) (wake_same a i) refl
  named_same e a i (waits_for_all es) = if_same h (is_among e es) (after_last a i (struck e es)) i (h i) (last_same a i (struck e es)) refl

  event_same : (e : Ev) (a : Bool) (i : Instance) → h (after_event e a i) ≡ h i
  event_same e a i = if_same h i.disabled i (after_named e a i i.wait) (h i) refl (named_same e a i i.wait)

  only_same : (p q : ℕ) (a : Bool) (i : Instance) → h (at_only p after_wake q a i) ≡ h i
  only_same p q a i = if_same h (q == p) (after_wake a i) i (h i) (wake_same a i) refl

-- what has ended and rests is not roused
rests_if : (b : Bool) (x y : Instance) → Rests x → Rests y → Rests (if b then x else y)
rests_if true x y rests other = rests
rests_if false x y rests other = other

wake_over : (a : Bool) (i : Instance) → i.ended ≡ true → Rests i → Rests (after_wake a i)
wake_over a i ended rests = subst (λ b. Rests (if b then i else roused i)) (sym (ap (λ b. (b || a) || i.disabled) ended)) rests

event_over : (e : Ev) (a : Bool) (i : Instance) → Rests i → Rests (after_event e a i)
event_over e a i rests = rests_if i.disabled i (after_named e a i i.wait) rests (subst (λ w. Rests (after_named e a i w)) (sym rests.0) rests)

-- the bare instance moves alike
bare-wake : (a : Bool) (i : Instance) → bare (after_wake a i) ≡ after_wake a (bare i)
bare-wake a i = if_both bare (is_deaf a i) i (roused i) (bare i) (roused (bare i)) refl (bare-roused i)

bare-last : (a : Bool) (i : Instance) (es : List Ev) → bare (after_last a i es) ≡ after_last a (bare i) es
bare-last a i [] = bare-wake a i
bare-last a i (e ∷ es) = refl

bare-named : (e : Ev) (a : Bool) (i : Instance) (w : Wait) → bare (after_named e a i w) ≡ after_named e a (bare i) w
bare-named e a i waits_for_nothing = refl
bare-named e a i waits_statically = if_both bare (is_among e i.static) (after_wake a i) i (after_wake a (bare i)) (bare i) (bare-wake a i) refl
bare-named e a i (waits_for_any es) = if_both bare (is_among e es) (after_wake a i) i (after_wake a (bare i)) (bare i) (bare-wake a i) refl
bare-named e a i (waits_for_all es) = if_both bare (is_among e es) (after_last a i (struck e es)) i (after_last a (bare i) (struck e es)) (bare i) (bare-last a i (struck e es)) refl

bare-event : (e : Ev) (a : Bool) (i : Instance) → bare (after_event e a i) ≡ after_event e a (bare i)
bare-event e a i = if_both bare i.disabled i (after_named e a i i.wait) (bare i) (after_named e a (bare i) i.wait) refl (bare-named e a i i.wait)

no_joining : (a : Bool) (i : Instance) → i.ended ≡ true → joins a i ≡ false
no_joining a i is = ap (λ b. not ((b || a) || i.disabled) && not i.suspended) is

and-false : (b : Bool) → (b && false) ≡ false
and-false true = refl
and-false false = refl

ends_same : (e : Ev) (i : Instance) (w : Wait) → ends_wait e (bare i) w ≡ ends_wait e i w
ends_same e i waits_for_nothing = refl
ends_same e i waits_statically = refl
ends_same e i (waits_for_any es) = refl
ends_same e i (waits_for_all es) = refl

module _ {B : Type 0} (Shows : B → Beside → Type 0) where
  pub rousing_wake : (p : ℕ) → Rousing Shows (at_only p after_wake) (joins_only p joins)
  rousing_wake p = record {
    bares = λ q a i. if_both bare (q == p) (after_wake a i) i (after_wake a (bare i)) (bare i) (bare-wake a i) refl;
    ends = only_same (λ i. i.ended) (λ i. refl) (λ i. refl) (λ i es. refl) p;
    besides = only_same beside (λ i. refl) (λ i. refl) (λ i es. refl) p;
    joins = λ q a i. refl;
    over = λ q a i ended rests. rests_if (q == p) (after_wake a i) i (wake_over a i ended rests) rests;
    joins_no_ended = λ q a i is. ap (λ b. (q == p) && b) (no_joining a i is) ∙ and-false (q == p);
  }

  pub rousing_event : (e : Ev) → Rousing Shows (λ q. after_event e) (λ q. joins_by e)
  rousing_event e = record {
    bares = λ q a i. bare-event e a i;
    ends = λ q. event_same (λ i. i.ended) (λ i. refl) (λ i. refl) (λ i es. refl) e;
    besides = λ q. event_same beside (λ i. refl) (λ i. refl) (λ i es. refl) e;
    joins = λ q a i. ap (λ b. b && joins a i) (ends_same e i i.wait);
    over = λ q a i ended rests. event_over e a i rests;
    joins_no_ended = λ q a i is. ap (λ b. ends_wait e i i.wait && b) (no_joining a i is) ∙ and-false (ends_wait e i i.wait);
  }
