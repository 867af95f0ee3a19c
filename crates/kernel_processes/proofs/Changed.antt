-- What one part's change is, told serial by serial.
use Rattle.std.proofs.Common.{◌≡◌, ◌≢◌, ◌+◌, ◌-◌, ℕ, zero, suc, Bool, true, false, not, List, ◌&&◌, ◌||◌, Option, Some, None, refl, sym, ap, ◌∙◌, arith, true≢false}
use Rattle.std.specs.Prelude.{is_some, option_map, if◌then◌else◌}
use Rattle.instance_table.specs.NumberedSlots.Numbered.{with_value}
use Rattle.instance_table.specs.declared.instances.Instance.{Instance as Entry}
use Rattle.wait_lists.specs.EventCore.declared.event.Ev.{Ev}
use Rattle.kernel_processes.specs.declared.parts.Process.{Process}
use Rattle.std.specs.Ordering.{nat_cmp}
use Rattle.std.specs.Cmp.{nat_cmp_total}
use Rattle.std.specs.FinMap as map
use Rattle.std.specs.FinSet as set
use Rattle.wait_lists.proofs.NumberedSlots.MapLemmas.{ties_itself, ties_no_other, get-updated_same, get-updated_other, get-remove_same, get-remove_other, get-insert_same, get-insert_other, len-insert_there}
use Rattle.timed_queue.specs.SimTime.declared.moments.Time.{Time}
use Rattle.timed_queue.specs.Timed as timed
use Rattle.timed_queue.specs.Timed.{Timed}
use Rattle.ready_set.specs.Ready.{Ready, with_member, without_member}
use Rattle.wait_lists.specs.Waits as lists
use Rattle.kernel_processes.specs.InstanceViews.{Seen, seen}
use Rattle.kernel_processes.specs.Moves.{with_entry, waiting_by, sensitive_of, HasNoTimeOut, Changes}
use Rattle.kernel_processes.specs.declared.parts.Schedule.{Schedule}
use Rattle.kernel_processes.specs.declared.parts.Trigger.{Trigger}

-- sets
pub member_here : (s : set.FinSet nat_cmp) (p : ℕ) → set.contains (set.insert s p) p ≡ true
member_here s p = set.contains-insert nat_cmp_total s p p ∙ ap (λ b. b || set.contains s p) (ties_itself p p refl)

pub member_other : (s : set.FinSet nat_cmp) (p q : ℕ) → q ≢ p → set.contains (set.insert s p) q ≡ set.contains s q
member_other s p q apart = set.contains-insert nat_cmp_total s p q ∙ ap (λ b. b || set.contains s q) (ties_no_other q p apart)

pub gone_here : (s : set.FinSet nat_cmp) (p : ℕ) → set.contains (set.remove s p) p ≡ false
gone_here s p = set.contains-remove nat_cmp_total s p p ∙ ap (λ b. not b && set.contains s p) (ties_itself p p refl)

pub gone_other : (s : set.FinSet nat_cmp) (p q : ℕ) → q ≢ p → set.contains (set.remove s p) q ≡ set.contains s q
gone_other s p q apart = set.contains-remove nat_cmp_total s p q ∙ ap (λ b. not b && set.contains s q) (ties_no_other q p apart)

module _ {B : Type 0} (s : Schedule B) (p : ℕ) where
  abbrev untimed : Seen B → Seen B
  untimed x = record x { time = None; zero = false }

  pub ended_time : (d : Timed) (z : Ready) → d ≡ timed.without s.deadlines p → z ≡ without_member s.zero p → Changes p untimed s (record s { deadlines = d; zero = z })
  ended_time d z times zeros = record {
    here = ap (λ t. record (seen s p) { time = t; zero = set.contains z.members p }) (ap (λ e. map.get e.times p) times ∙ get-remove_same s.deadlines.times p p refl)
        ∙ ap (λ b. record (seen s p) { time = None; zero = b }) (ap (λ e. set.contains e.members p) zeros ∙ gone_here s.zero.members p);
    others = λ q apart. ap (λ t. record (seen s q) { time = t; zero = set.contains z.members q }) (ap (λ e. map.get e.times q) times ∙ get-remove_other s.deadlines.times p q apart)
        ∙ ap (λ b. record (seen s q) { zero = b }) (ap (λ e. set.contains e.members q) zeros ∙ gone_other s.zero.members p q apart);
    stack = refl;
    woken = refl;
    due = refl;
    next = refl;
    count = refl;
    places = refl;
  }

  pub put_lists : (w : lists.Waits) (o : Option lists.Wait) → w ≡ lists.with_wait s.lists p o → Changes p (λ x. record x { wait = o }) s (record s { lists = w })
  put_lists w o is = record {
    here = ap (λ v. record (seen s p) { wait = v; muted = set.contains w.muted p; has_room = map.contains_key w.room p }) (ap (λ v. map.get v.waits p) is ∙ get-updated_same s.lists.waits p o p refl)
        ∙ ap (λ v. record (seen s p) { wait = o; muted = set.contains v.muted p; has_room = map.contains_key v.room p }) is;
    others = λ q apart. ap (λ v. record (seen s q) { wait = v; muted = set.contains w.muted q; has_room = map.contains_key w.room q }) (ap (λ v. map.get v.waits q) is ∙ get-updated_other s.lists.waits p o q apart)
        ∙ ap (λ v. record (seen s q) { muted = set.contains v.muted q; has_room = map.contains_key v.room q }) is;
    stack = refl;
    woken = refl;
    due = refl;
    next = refl;
    count = refl;
    places = refl;
  }

  pub left_lists : (w : lists.Waits) → w ≡ lists.with_wait s.lists p None → Changes p (λ x. record x { wait = None }) s (record s { lists = w })
  left_lists w is = put_lists w None is

  pub muted_lists : (w : lists.Waits) (on : Bool) → w ≡ lists.with_mark s.lists p on → Changes p (λ x. record x { muted = on }) s (record s { lists = w })
  muted_lists w on is = record {
    here = ap (λ v. record (seen s p) { wait = map.get v.waits p; muted = set.contains v.muted p; has_room = map.contains_key v.room p }) is
        ∙ ap (λ b. record (seen s p) { muted = b }) (by_mark on);
    others = λ q apart. ap (λ v. record (seen s q) { wait = map.get v.waits q; muted = set.contains v.muted q; has_room = map.contains_key v.room q }) is
        ∙ ap (λ b. record (seen s q) { muted = b }) (by_other on q apart);
    stack = refl;
    woken = refl;
    due = refl;
    next = refl;
    count = refl;
    places = refl;
  }
    where
      by_mark : (b : Bool) → set.contains (lists.marked s.lists.muted p b) p ≡ b
      by_mark true = member_here s.lists.muted p
      by_mark false = gone_here s.lists.muted p

      by_other : (b : Bool) (q : ℕ) → q ≢ p → set.contains (lists.marked s.lists.muted p b) q ≡ set.contains s.lists.muted q
      by_other true q apart = member_other s.lists.muted p q apart
      by_other false q apart = gone_other s.lists.muted p q apart

  -- a time-out where there was none
  pub put_zero : (z : Ready) → z ≡ with_member s.zero p → Changes p (λ x. record x { zero = true }) s (record s { zero = z })
  put_zero z is = record {
    here = ap (λ e. record (seen s p) { zero = set.contains e.members p }) is ∙ ap (λ b. record (seen s p) { zero = b }) (member_here s.zero.members p);
    others = λ q apart. ap (λ e. record (seen s q) { zero = set.contains e.members q }) is ∙ ap (λ b. record (seen s q) { zero = b }) (member_other s.zero.members p q apart);
    stack = refl;
    woken = refl;
    due = refl;
    next = refl;
    count = refl;
    places = refl;
  }

  -- none of the next delta notification phase
  pub ended_zero : (z : Ready) → z ≡ without_member s.zero p → Changes p (λ x. record x { zero = false }) s (record s { zero = z })
  ended_zero z is = record {
    here = ap (λ e. record (seen s p) { zero = set.contains e.members p }) is ∙ ap (λ b. record (seen s p) { zero = b }) (gone_here s.zero.members p);
    others = λ q apart. ap (λ e. record (seen s q) { zero = set.contains e.members q }) is ∙ ap (λ b. record (seen s q) { zero = b }) (gone_other s.zero.members p q apart);
    stack = refl;
    woken = refl;
    due = refl;
    next = refl;
    count = refl;
    places = refl;
  }

  pub put_deadline : (d : Timed) (u : Time) → d ≡ timed.with_time s.deadlines p u → Changes p (λ x. record x { time = Some u }) s (record s { deadlines = d })
  put_deadline d u is = record {
    here = ap (λ e. record (seen s p) { time = map.get e.times p }) is ∙ ap (λ o. record (seen s p) { time = o }) (get-insert_same s.deadlines.times p u p refl);
    others = λ q apart. ap (λ e. record (seen s q) { time = map.get e.times q }) is ∙ ap (λ o. record (seen s q) { time = o }) (get-insert_other s.deadlines.times p u q apart);
    stack = refl;
    woken = refl;
    due = refl;
    next = refl;
    count = refl;
    places = refl;
  }

  -- room alone
  pub roomed : (w : lists.Waits) (d : Timed) (z : Ready) → map.contains_key s.lists.room p ≡ true → map.contains_key w.room p ≡ true → ((q : ℕ) → q ≢ p → map.get w.room q ≡ map.get s.lists.room q)
      → w ≡ record s.lists { room = w.room } → d.times ≡ s.deadlines.times → z.members ≡ s.zero.members → Changes p (λ x. x) s (record s { lists = w; deadlines = d; zero = z })
  roomed w d z had has others lists_same times zeros = record {
    here = same_seen p (has ∙ sym had);
    others = λ q apart. same_seen q (ap is_some (others q apart));
    stack = refl;
    woken = refl;
    due = refl;
    next = refl;
    count = refl;
    places = refl;
  }
    where
      same_seen : (q : ℕ) → map.contains_key w.room q ≡ map.contains_key s.lists.room q → seen (record s { lists = w; deadlines = d; zero = z }) q ≡ seen s q
      same_seen q room = ap (λ v. record (seen s q) { wait = map.get v.waits q; muted = set.contains v.muted q; has_room = map.contains_key w.room q; time = map.get d.times q; zero = set.contains z.members q }) lists_same
          ∙ ap (λ b. record (seen s q) { has_room = b; time = map.get d.times q; zero = set.contains z.members q }) room
          ∙ ap (λ e. record (seen s q) { time = map.get e q; zero = set.contains z.members q }) times
          ∙ ap (λ e. record (seen s q) { zero = set.contains e q }) zeros

  -- out of the runnable ones
  pub unreadied : (r : Ready) → r ≡ without_member s.ready p → Changes p (λ x. record x { ready = false }) s (record s { ready = r })
  unreadied r is = record {
    here = ap (λ e. record (seen s p) { ready = set.contains e.members p }) is ∙ ap (λ b. record (seen s p) { ready = b }) (gone_here s.ready.members p);
    others = λ q apart. ap (λ e. record (seen s q) { ready = set.contains e.members q }) is ∙ ap (λ b. record (seen s q) { ready = b }) (gone_other s.ready.members p q apart);
    stack = refl;
    woken = refl;
    due = refl;
    next = refl;
    count = refl;
    places = ap (λ e. set.len e.members + e.spare) is ∙ by_there (set.contains s.ready.members p) refl;
  }
    where
      none_in : set.len s.ready.members ≡ 0 → set.contains s.ready.members p ≡ false
      none_in none = ap (λ m. set.contains m p) (set.empty_of_len s.ready.members none) ∙ set.contains-empty nat_cmp p

      left : (b : Bool) → set.contains s.ready.members p ≡ b → set.len (set.remove s.ready.members p) ≡ (if b then set.len s.ready.members - 1 else set.len s.ready.members)
      left b has = set.len-remove nat_cmp_total s.ready.members p ∙ ap (λ h. if h then set.len s.ready.members - 1 else set.len s.ready.members) has

      some_in : (n : ℕ) → set.len s.ready.members ≡ n → set.contains s.ready.members p ≡ true → (n - 1) + (s.ready.spare + 1) ≡ n + s.ready.spare
      some_in zero none has = absurd (true≢false (sym has ∙ none_in none))
      some_in (suc n) is has = omega arith

      by_there : (b : Bool) → set.contains s.ready.members p ≡ b → set.len (set.remove s.ready.members p) + (if set.contains s.ready.members p then s.ready.spare + 1 else s.ready.spare) ≡ set.len s.ready.members + s.ready.spare
      by_there true has = ap (λ n. n + (if set.contains s.ready.members p then s.ready.spare + 1 else s.ready.spare)) (left true has)
          ∙ ap (λ h. (set.len s.ready.members - 1) + (if h then s.ready.spare + 1 else s.ready.spare)) has ∙ some_in (set.len s.ready.members) refl has
      by_there false has = ap (λ n. n + (if set.contains s.ready.members p then s.ready.spare + 1 else s.ready.spare)) (left false has)
          ∙ ap (λ h. set.len s.ready.members + (if h then s.ready.spare + 1 else s.ready.spare)) has

  -- an entry that there is becomes what f makes of it
  pub rewritten : (f : Entry (Process B) → Entry (Process B)) (x y : Entry (Process B)) → map.get s.table.live p ≡ Some x → y ≡ f x → Changes p (with_entry f) s (record s { table = with_value s.table p y })
  rewritten f x y at is = record {
    here = ap (λ o. record (seen s p) { entry = o }) (get-insert_same s.table.live p y p refl ∙ ap Some is ∙ sym (ap (option_map f) at));
    others = λ q apart. ap (λ o. record (seen s q) { entry = o }) (get-insert_other s.table.live p y q apart);
    stack = refl;
    woken = refl;
    due = refl;
    next = refl;
    count = len-insert_there s.table.live p y (ap is_some at);
    places = refl;
  }

-- the same change told by another function
pub told_as : {B : Type 0} (p : ℕ) (f g : Seen B → Seen B) (s t : Schedule B) → Changes p f s t → f (seen s p) ≡ g (seen s p) → Changes p g s t
told_as p f g s t a same = record {
  here = a.here ∙ same;
  others = a.others;
  stack = a.stack;
  woken = a.woken;
  due = a.due;
  next = a.next;
  count = a.count;
  places = a.places;
}

-- one change after another
module _ {B : Type 0} (p : ℕ) (f g : Seen B → Seen B) (s t u : Schedule B) where
  pub then_changes : Changes p f s t → Changes p g t u → Changes p (λ x. g (f x)) s u
  then_changes a b = record {
    here = b.here ∙ ap g a.here;
    others = λ q apart. b.others q apart ∙ a.others q apart;
    stack = b.stack ∙ a.stack;
    woken = b.woken ∙ a.woken;
    due = b.due ∙ a.due;
    next = b.next ∙ a.next;
    count = b.count ∙ a.count;
    places = b.places ∙ a.places;
  }

-- a time-out, or none, of one that has none
module _ {B : Type 0} (s : Schedule B) (p : ℕ) (n : HasNoTimeOut p s) where
  unchanged : Changes p (λ x. x) s s
  unchanged = record {
    here = refl;
    others = λ q apart. refl;
    stack = refl;
    woken = refl;
    due = refl;
    next = refl;
    count = refl;
    places = refl;
  }

  pub still_untimed : Changes p (λ x. record x { time = None; zero = false }) s s
  still_untimed = told_as p (λ x. x) _ s s unchanged (ap (λ o. record (seen s p) { time = o }) n.time ∙ ap (λ b. record (seen s p) { time = None; zero = b }) n.zero)

  pub gets_zero : (z : Ready) → z ≡ with_member s.zero p → Changes p (λ x. record x { time = None; zero = true }) s (record s { zero = z })
  gets_zero z is = told_as p _ _ s _ (put_zero s p z is) (ap (λ o. record (seen s p) { time = o; zero = true }) n.time)

  pub gets_time : (d : Timed) (u : Time) → d ≡ timed.with_time s.deadlines p u → Changes p (λ x. record x { time = Some u; zero = false }) s (record s { deadlines = d })
  gets_time d u is = told_as p _ _ s _ (put_deadline s p d u is) (ap (λ b. record (seen s p) { time = Some u; zero = b }) n.zero)

-- how it waits, and that its body has not begun, noted at once
pub rests_at_once : {B : Type 0} (t : Trigger) (o : Option (Entry (Process B))) → option_map (λ (x : Entry (Process B)). record x { wait = waiting_by t.wait; deadline = t.deadline; started = false }) o
    ≡ option_map (λ (x : Entry (Process B)). record x { started = false }) (option_map (λ (x : Entry (Process B)). record x { wait = waiting_by t.wait; deadline = t.deadline }) o)
rests_at_once t None = refl
rests_at_once t (Some x) = refl

-- a static wait and what is noted of it, at once
module _ {B : Type 0} (s : Schedule B) (p : ℕ) (w : lists.Waits) (f : Entry (Process B) → Entry (Process B)) where
  abbrev by_static : Seen B → Seen B
  by_static v = with_entry f (record v { wait = lists.any_of (sensitive_of v.entry) })

  pub listed_static : (x y : Entry (Process B)) (es : List Ev) → map.get s.table.live p ≡ Some x → y ≡ f x → es ≡ x.body.sensitive → w ≡ lists.with_wait s.lists p (lists.any_of es)
      → Changes p by_static s (record s { table = with_value s.table p y; lists = w })
  listed_static x y es at noted same is = told_as p _ by_static s _
      (then_changes p (with_entry f) (λ v. record v { wait = lists.any_of es }) s (record s { table = with_value s.table p y }) _ (rewritten s p f x y at noted)
      (put_lists (record s { table = with_value s.table p y }) p w (lists.any_of es) is))
      (ap (λ fs. record (seen s p) { entry = option_map f (seen s p).entry; wait = lists.any_of fs }) (same ∙ ap sensitive_of (sym at)))

  pub listed_nowhere : map.get s.table.live p ≡ None → w ≡ lists.with_wait s.lists p None → Changes p by_static s (record s { lists = w })
  listed_nowhere none is = told_as p _ by_static s _ (put_lists s p w None is)
      (ap (λ o. record (seen s p) { entry = o; wait = None }) none ∙ sym (ap (λ o. record (seen s p) { entry = option_map f o; wait = lists.any_of (sensitive_of o) }) none))
