-- An event, told by what is seen of each serial.
use Rattle.std.proofs.Common.{◌≡◌, ◌==◌, ◌&&◌, ◌||◌, not, ℕ, Bool, true, false, List, [], ◌∷◌, Option, Some, None, option_map, refl, sym, ap, ◌∙◌, true≢false, ⊎_elim, subst, ne_eqb}
use Rattle.std.specs.Prelude.{if◌then◌else◌, is_some, is_none}
use Rattle.std.proofs.lemmas.Bool.{cases_eq}
use Rattle.wait_lists.specs.EventCore.declared.event.Ev.{Ev}
use Rattle.wait_lists.specs.EventCore.declared.event.Ev.TheVariants as ev
use Rattle.wait_lists.specs.EventCore.Ev.{same_event}
use Rattle.instance_table.specs.declared.instances.Instance.{Instance as Entry}
use Rattle.instance_table.specs.declared.instances.Waiting.{Waiting}
use Rattle.instance_table.specs.declared.instances.Waiting.TheVariants as waiting
use Rattle.wait_lists.specs.Waits as lists
use Rattle.sim_model.specs.Configuration.{Instance, waits_for_all}
use Rattle.sim_model.specs.Waits.{is_among, struck}
use Rattle.kernel_processes.specs.Woken.{after_wake, joins, after_last, after_named, after_event, is_empty, ends_wait, joins_by, if_there}
use Rattle.kernel_processes.specs.InstanceViews.{Seen, listed, wait_of, as_instance, shown_in}
use Rattle.kernel_processes.specs.Sound.{Agrees, IsKept, Fits, FitsAs}
use Rattle.kernel_processes.specs.Moves.{met_if, fired}
use Rattle.kernel_processes.specs.declared.parts.Process.{Process}
use Rattle.kernel_processes.proofs.Rousing.{or-false, or-true, roused_seen, shown_after, fits_after, ready_after, body_after, becomes}

-- ---- events are the same both ways

turned_number : (a b : ℕ) → (a == b) ≡ (b == a)
turned_number a b = ⊎_elim
    (λ same. subst (λ n. (n == b) ≡ (b == n)) (sym same) refl)
    (λ apart. ne_eqb a b apart ∙ sym (ne_eqb b a (λ same. apart (sym same))))
    (cases_eq a b)

turned_event : (a b : Ev) → same_event a b ≡ same_event b a
turned_event (ev.Fixed a) (ev.Fixed b) = turned_number a b
turned_event (ev.Fixed a) (ev.Terminated b) = refl
turned_event (ev.Fixed a) (ev.Restarted b) = refl
turned_event (ev.Terminated a) (ev.Fixed b) = refl
turned_event (ev.Terminated a) (ev.Terminated b) = turned_number a b
turned_event (ev.Terminated a) (ev.Restarted b) = refl
turned_event (ev.Restarted a) (ev.Fixed b) = refl
turned_event (ev.Restarted a) (ev.Terminated b) = refl
turned_event (ev.Restarted a) (ev.Restarted b) = turned_number a b

has_among : (e : Ev) (es : List Ev) → lists.has e es ≡ is_among e es
has_among e [] = refl
has_among e (x ∷ es) = ap (λ b. b || lists.has e es) (turned_event x e) ∙ ap (λ b. same_event e x || b) (has_among e es)

without_struck : (e : Ev) (es : List Ev) → lists.without e es ≡ struck e es
without_struck e [] = refl
without_struck e (x ∷ es) = ap (λ b. if not b then x ∷ lists.without e es else lists.without e es) (turned_event x e)
    ∙ ap (λ xs. if not (same_event e x) then x ∷ xs else xs) (without_struck e es)

-- ---- what an event makes of one serial

module _ {B : Type 0} (e : Ev) where
  nothing_heard : (x : Seen B) → lists.after x.muted e x.wait ≡ x.wait → fired e x ≡ x
  nothing_heard x same = ap (λ w. met_if (is_some x.wait && is_none w) (record x { wait = w })) same ∙ ap (λ b. met_if b x) (never x.wait)
    where
      never : (w : Option lists.Wait) → (is_some w && is_none w) ≡ false
      never None = refl
      never (Some w) = refl

  all_heard : (x : Seen B) (w : lists.Wait) → x.wait ≡ Some w → lists.after x.muted e x.wait ≡ None → fired e x ≡ roused_seen x
  all_heard x w at over = ap (λ o. met_if (is_some x.wait && is_none o) (record x { wait = o })) over ∙ ap (λ o. met_if (is_some o && true) (record x { wait = None })) at

  -- a wait for all that is not over
  some_heard : (x : Seen B) (v w : lists.Wait) → x.wait ≡ Some v → lists.after x.muted e x.wait ≡ Some w → fired e x ≡ record x { wait = Some w }
  some_heard x v w at left = ap (λ o. met_if (is_some x.wait && is_none o) (record x { wait = o })) left ∙ ap (λ o. met_if (is_some o && false) (record x { wait = Some w })) at

  -- what has to be said of a serial
  pub record FiresAs (active : Bool) (x y : Seen B) : Type 0 where
    pub shown : shown_in y ≡ option_map (after_event e active) (shown_in x)
    pub ready : y.ready ≡ (x.ready || if_there (joins_by e active) (shown_in x))
    pub fits : Fits y
    pub body : option_map (λ (z : Entry (Process B)). z.body.body) y.entry ≡ option_map (λ (z : Entry (Process B)). z.body.body) x.entry
    pub there : is_some y.entry ≡ is_some x.entry
    pub busy : active ≡ true → y ≡ x

  module _ (active : Bool) (x : Seen B) (fits : Fits x) where
    -- it stays as it is
    stays_as : fired e x ≡ x → option_map (after_event e active) (shown_in x) ≡ shown_in x → if_there (joins_by e active) (shown_in x) ≡ false → FiresAs active x (fired e x)
    stays_as same shown joined = record {
      shown = ap shown_in same ∙ sym shown;
      ready = ap (λ y. y.ready) same ∙ sym (ap (λ b. x.ready || b) joined ∙ or-false x.ready);
      fits = subst Fits (sym same) fits;
      body = ap (λ y. option_map (λ (z : Entry (Process B)). z.body.body) y.entry) same;
      there = ap (λ y. is_some y.entry) same;
      busy = λ is. same;
    }

    module _ (z : Entry (Process B)) (at : x.entry ≡ Some z) where
      shown_z : shown_in x ≡ Some (as_instance z x.wait)
      shown_z = ap (option_map (λ u. as_instance u x.wait)) at

      abbrev i : Instance
      i = as_instance z x.wait

      -- by what the event is to the instance
      untouched : fired e x ≡ x → after_event e active i ≡ i → joins_by e active i ≡ false → FiresAs active x (fired e x)
      untouched same after joined = stays_as same
          (ap (option_map (after_event e active)) shown_z ∙ ap Some after ∙ sym shown_z)
          (ap (if_there (joins_by e active)) shown_z ∙ joined)

      woken_now : (on : z.disabled ≡ false) → active ≡ false → fired e x ≡ roused_seen x → after_event e active i ≡ after_wake active i → joins_by e active i ≡ joins active i → FiresAs active x (fired e x)
      woken_now on resting same after joined = record {
        shown = ap shown_in same ∙ shown_after x z at on ∙ sym (ap (option_map (after_event e active)) shown_z ∙ ap Some (after ∙ ap (λ b. after_wake b i) resting));
        ready = ap (λ y. y.ready) same ∙ ready_after x z at on ∙ ap (λ b. x.ready || b) (sym (ap (if_there (joins_by e active)) shown_z ∙ joined ∙ ap (λ b. joins b i) resting));
        fits = subst Fits (sym same) (fits_after x z at on fits);
        body = ap (λ y. option_map (λ (u : Entry (Process B)). u.body.body) y.entry) same ∙ body_after x z at on;
        there = ap (λ y. is_some y.entry) same ∙ ap (λ y. is_some y.entry) (becomes x z at on) ∙ sym (ap is_some at);
        busy = λ is. absurd (true≢false (sym is ∙ resting));
      }

      -- a wait for all of which something is left
      shortened : (c : Ev) (cs : List Ev) → active ≡ false → z.wait ≡ waiting.All → IsKept z x → fired e x ≡ record x { wait = Some (lists.AllOf (c ∷ cs)) }
          → after_event e active i ≡ record i { wait = waits_for_all (c ∷ cs) } → joins_by e active i ≡ false → FiresAs active x (fired e x)
      shortened c cs resting all k same after joined = record {
        shown = ap shown_in same ∙ ap (option_map (λ u. as_instance u (Some (lists.AllOf (c ∷ cs))))) at
            ∙ ap (λ w. Some (record i { wait = wait_of w (Some (lists.AllOf (c ∷ cs))) })) all ∙ sym (ap (option_map (after_event e active)) shown_z ∙ ap Some after);
        ready = ap (λ y. y.ready) same ∙ sym (ap (λ b. x.ready || b) (ap (if_there (joins_by e active)) shown_z ∙ joined) ∙ or-false x.ready);
        fits = subst Fits (sym same) (subst (λ o. FitsAs o (record x { wait = Some (lists.AllOf (c ∷ cs)) })) (sym at)
            (record { wait = subst (λ w. Agrees w z.body.sensitive (Some (lists.AllOf (c ∷ cs)))) (sym all) refl; muted = k.muted; has_room = k.has_room; time = k.time; zero = k.zero; runs = k.runs; kept = k.kept }));
        body = ap (λ y. option_map (λ (u : Entry (Process B)). u.body.body) y.entry) same;
        there = ap (λ y. is_some y.entry) same;
        busy = λ is. absurd (true≢false (sym is ∙ resting));
      }

      -- it hears, and is not active
      module _ (k : IsKept z x) (on : z.disabled ≡ false) (resting : active ≡ false) where
        heard_wait : (w : Option lists.Wait) → x.wait ≡ w → lists.after x.muted e x.wait ≡ lists.after false e w
        heard_wait w is = ap (λ b. lists.after b e x.wait) (k.muted ∙ on) ∙ ap (lists.after false e) is

        quiet : x.wait ≡ None → after_event e active i ≡ i → joins_by e active i ≡ false → FiresAs active x (fired e x)
        quiet none after joined = untouched (nothing_heard x (heard_wait None none ∙ sym none)) after joined

        -- a wait for any of these
        any_of : (es : List Ev) → x.wait ≡ lists.any_of es → after_event e active i ≡ (if is_among e es then after_wake active i else i)
            → joins_by e active i ≡ (is_among e es && joins active i) → FiresAs active x (fired e x)
        any_of [] is after joined = quiet is after joined
        any_of (a ∷ rest) is after joined = named (is_among e (a ∷ rest)) refl
          where
            left : (b : Bool) → is_among e (a ∷ rest) ≡ b → lists.after x.muted e x.wait ≡ (if b then None else Some (lists.AnyOf (a ∷ rest)))
            left b among = heard_wait (Some (lists.AnyOf (a ∷ rest))) is ∙ ap (λ h. if h then None else Some (lists.AnyOf (a ∷ rest))) (has_among e (a ∷ rest) ∙ among)

            named : (b : Bool) → is_among e (a ∷ rest) ≡ b → FiresAs active x (fired e x)
            named true among = woken_now on resting (all_heard x (lists.AnyOf (a ∷ rest)) is (left true among))
                (after ∙ ap (λ b. if b then after_wake active i else i) among) (joined ∙ ap (λ b. b && joins active i) among)
            named false among = untouched (nothing_heard x (left false among ∙ sym is))
                (after ∙ ap (λ b. if b then after_wake active i else i) among) (joined ∙ ap (λ b. b && joins active i) among)

        -- a wait for all of these
        all_of : (es : List Ev) → z.wait ≡ waiting.All → x.wait ≡ lists.all_of es → after_event e active i ≡ (if is_among e es then after_last active i (struck e es) else i)
            → joins_by e active i ≡ ((is_among e es && is_empty (struck e es)) && joins active i) → FiresAs active x (fired e x)
        all_of [] all is after joined = quiet is after joined
        all_of (a ∷ rest) all is after joined = named (is_among e (a ∷ rest)) refl
          where
            left : (b : Bool) → is_among e (a ∷ rest) ≡ b → lists.after x.muted e x.wait ≡ (if b then lists.all_of (struck e (a ∷ rest)) else Some (lists.AllOf (a ∷ rest)))
            left b among = heard_wait (Some (lists.AllOf (a ∷ rest))) is ∙ ap (λ h. if h then lists.all_of (lists.without e (a ∷ rest)) else Some (lists.AllOf (a ∷ rest))) (has_among e (a ∷ rest) ∙ among)
                ∙ ap (λ xs. if b then lists.all_of xs else Some (lists.AllOf (a ∷ rest))) (without_struck e (a ∷ rest))

            by_left : (more : List Ev) → struck e (a ∷ rest) ≡ more → is_among e (a ∷ rest) ≡ true → FiresAs active x (fired e x)
            by_left [] none among = woken_now on resting (all_heard x (lists.AllOf (a ∷ rest)) is (left true among ∙ ap lists.all_of none))
                (after ∙ ap (λ b. if b then after_last active i (struck e (a ∷ rest)) else i) among ∙ ap (after_last active i) none)
                (joined ∙ ap (λ b. (b && is_empty (struck e (a ∷ rest))) && joins active i) among ∙ ap (λ xs. is_empty xs && joins active i) none)
            by_left (c ∷ cs) some among = shortened c cs resting all k (some_heard x (lists.AllOf (a ∷ rest)) (lists.AllOf (c ∷ cs)) is (left true among ∙ ap lists.all_of some))
                (after ∙ ap (λ b. if b then after_last active i (struck e (a ∷ rest)) else i) among ∙ ap (after_last active i) some)
                (joined ∙ ap (λ b. (b && is_empty (struck e (a ∷ rest))) && joins active i) among ∙ ap (λ xs. is_empty xs && joins active i) some)

            named : (b : Bool) → is_among e (a ∷ rest) ≡ b → FiresAs active x (fired e x)
            named true among = by_left (struck e (a ∷ rest)) refl among
            named false among = untouched (nothing_heard x (left false among ∙ sym is))
                (after ∙ ap (λ b. if b then after_last active i (struck e (a ∷ rest)) else i) among) (joined ∙ ap (λ b. (b && is_empty (struck e (a ∷ rest))) && joins active i) among)

        after_as : (w : Waiting) → z.wait ≡ w → after_event e active i ≡ after_named e active i (wait_of w x.wait)
        after_as w is = ap (λ b. if b then i else after_named e active i i.wait) on ∙ ap (λ v. after_named e active i (wait_of v x.wait)) is

        joins_as : (w : Waiting) → z.wait ≡ w → joins_by e active i ≡ (ends_wait e i (wait_of w x.wait) && joins active i)
        joins_as w is = ap (λ v. ends_wait e i (wait_of v x.wait) && joins active i) is

        agrees_as : (w : Waiting) → z.wait ≡ w → Agrees w z.body.sensitive x.wait
        agrees_as w is = subst (λ v. Agrees v z.body.sensitive x.wait) is k.wait

        by_wait : (w : Waiting) → z.wait ≡ w → FiresAs active x (fired e x)
        by_wait waiting.None is = quiet (agrees_as waiting.None is) (after_as waiting.None is) (joins_as waiting.None is)
        by_wait waiting.Static is = any_of z.body.sensitive (agrees_as waiting.Static is) (after_as waiting.Static is) (joins_as waiting.Static is)
        by_wait waiting.Any is = any_of (listed x.wait) (agrees_as waiting.Any is) (after_as waiting.Any is) (joins_as waiting.Any is)
        by_wait waiting.All is = all_of (listed x.wait) is (agrees_as waiting.All is) (after_as waiting.All is) (joins_as waiting.All is)

      -- it is active, and waits for nothing
      at_work : IsKept z x → z.disabled ≡ false → z.wait ≡ waiting.None → FiresAs active x (fired e x)
      at_work k on none =
          let unwaited : x.wait ≡ None = subst (λ v. Agrees v z.body.sensitive x.wait) none k.wait in
          untouched (nothing_heard x (ap (λ b. lists.after b e x.wait) (k.muted ∙ on) ∙ ap (lists.after false e) unwaited ∙ sym unwaited))
          (ap (λ b. if b then i else after_named e active i i.wait) on ∙ ap (λ v. after_named e active i (wait_of v x.wait)) none)
          (ap (λ v. ends_wait e i (wait_of v x.wait) && joins active i) none)

      and-false : (b : Bool) → (b && false) ≡ false
      and-false true = refl
      and-false false = refl

      -- it is disabled
      unheard : IsKept z x → z.disabled ≡ true → FiresAs active x (fired e x)
      unheard k off = untouched (nothing_heard x (ap (λ b. lists.after b e x.wait) (k.muted ∙ off)))
          (ap (λ b. if b then i else after_named e active i i.wait) off)
          (ap (λ b. ends_wait e i i.wait && (not ((false || active) || b) && not z.suspended)) off ∙ ap (λ b. ends_wait e i i.wait && (not b && not z.suspended)) (or-true active) ∙ and-false (ends_wait e i i.wait))

    fired_entry : (o : Option (Entry (Process B))) → x.entry ≡ o → ((z : Entry (Process B)) → active ≡ true → x.entry ≡ Some z → z.wait ≡ waiting.None) → FiresAs active x (fired e x)
    fired_entry None none free = stays_as (nothing_heard x (ap (lists.after x.muted e) nobody ∙ after_none x.muted ∙ sym nobody))
        (ap (λ o. option_map (after_event e active) (option_map (λ u. as_instance u x.wait) o)) none ∙ sym (ap (option_map (λ u. as_instance u x.wait)) none))
        (ap (λ o. if_there (joins_by e active) (option_map (λ u. as_instance u x.wait) o)) none)
      where
        nobody : x.wait ≡ None
        nobody = (subst (λ o. FitsAs o x) none fits).wait

        after_none : (b : Bool) → lists.after b e None ≡ None
        after_none true = refl
        after_none false = refl
    fired_entry (Some z) some free = by_marks z.disabled active refl refl
      where
        k : IsKept z x
        k = subst (λ o. FitsAs o x) some fits

        by_marks : (off a : Bool) → z.disabled ≡ off → active ≡ a → FiresAs active x (fired e x)
        by_marks true a is at_a = unheard z some k is
        by_marks false true is busy = at_work z some k is (free z busy some)
        by_marks false false is resting = by_wait z some k is resting z.wait refl

    pub fires_as : ((z : Entry (Process B)) → active ≡ true → x.entry ≡ Some z → z.wait ≡ waiting.None) → FiresAs active x (fired e x)
    fires_as free = fired_entry x.entry refl free
