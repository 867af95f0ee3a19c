-- A schedule that changed at one serial is still sound, where what is seen there is.
use Rattle.std.proofs.Common.{◌≡◌, ◌≢◌, ◌≤◌, ◌<◌, ◌-◌, ◌^◌, ◌||◌, ◌⊎◌, ◌==◌, ℕ, Bool, true, false, List, [], ◌∷◌, ◌++◌, Some, option_map, refl, sym, ap, ◌∙◌, arith, true≢false, ⊎_elim, subst, eq-eqb, ne_eqb}
use Rattle.std.specs.Prelude.{is_some, vec_capacity}
use Rattle.std.specs.Global.{Vec}
use Rattle.std.proofs.lemmas.Bool.{cases_eq}
use Rattle.std.proofs.lemmas.List.Folds.{list_any-append}
use Rattle.std.specs.FinMap as map
use Rattle.instance_table.specs.declared.TheConstants.{MAX_LIVE}
use Rattle.instance_table.specs.declared.instances.Instance.{Instance as Entry}
use Rattle.sim_model.specs.Configuration.{Instance}
use Rattle.kernel_processes.specs.InstanceViews.{Seen, seen, is_on, shown_in, body_at}
use Rattle.kernel_processes.specs.Sound.{IsBusy, Fits, IsSound, IsOnce}
use Rattle.kernel_processes.specs.Moves.{Changes, MovesOne}
use Rattle.kernel_processes.specs.declared.parts.Process.{Process}
use Rattle.kernel_processes.specs.declared.parts.Schedule.{Schedule}

module _ {B : Type 0} (s t : Schedule B) (p : ℕ) (f : Seen B → Seen B) (ch : Changes p f s t) where
  -- each serial, by whether it is this one
  pub at_each : (P : ℕ → Seen B → Type 0) → P p (f (seen s p)) → ((q : ℕ) → q ≢ p → P q (seen s q)) → (q : ℕ) → P q (seen t q)
  at_each P here others q = ⊎_elim
      (λ same. subst (λ n. P n (seen t n)) (sym same) (subst (P p) (sym ch.here) here))
      (λ apart. subst (P q) (sym (ch.others q apart)) (others q apart))
      (cases_eq q p)

  pub there_still : is_some (f (seen s p)).entry ≡ is_some (seen s p).entry → (q : ℕ) → map.contains_key t.table.live q ≡ map.contains_key s.table.live q
  there_still same = at_each (λ q x. is_some x.entry ≡ is_some (seen s q).entry) same (λ q apart. refl)

  pub sound_still : IsSound s → Fits (f (seen s p)) → is_some (f (seen s p)).entry ≡ is_some (seen s p).entry
      → ((x : Entry (Process B)) → is_on s.stack.items p ≡ true → (f (seen s p)).entry ≡ Some x → IsBusy x (f (seen s p))) → IsSound t
  sound_still sound fits there busy = record {
    each = at_each (λ q x. Fits x) fits (λ q apart. sound.each q);
    active = λ q is. there_still there q ∙ sound.active q (on q is);
    once = subst (λ v. IsOnce v.items) (sym ch.stack) sound.once;
    busy = λ q x is. at_each (λ n y. is_on s.stack.items n ≡ true → y.entry ≡ Some x → IsBusy x y) (busy x) (λ n apart on some. sound.busy n x on some) q (on q is);
    stack_room = subst (λ v. map.len t.table.live ≤ vec_capacity v) (sym ch.stack) (subst (λ n. n ≤ vec_capacity s.stack) (sym ch.count) sound.stack_room);
    ready_room = let room = sound.ready_room in let count = ch.count in let places = ch.places in omega (arith, room, count, places);
    woken_room = subst (λ v. map.len t.table.live ≤ vec_capacity v) (sym ch.woken) (subst (λ n. n ≤ vec_capacity s.woken) (sym ch.count) sound.woken_room);
    due_room = subst (λ v. map.len t.table.live ≤ vec_capacity v) (sym ch.due) (subst (λ n. n ≤ vec_capacity s.due) (sym ch.count) sound.due_room);
    nobody_woken = ap (λ v. v.items) ch.woken ∙ sound.nobody_woken;
    few = subst (λ n. n ≤ MAX_LIVE) (sym ch.count) sound.few;
    below = λ q is. subst (λ n. q < n) (sym ch.next) (sound.below q (sym (there_still there q) ∙ is));
    serials = subst (λ n. n < 2 ^ 32 - 1) (sym ch.next) sound.serials;
  }
    where
      on : (q : ℕ) → is_on t.stack.items q ≡ true → is_on s.stack.items q ≡ true
      on q is = ap (λ v. is_on v.items q) (sym ch.stack) ∙ is

  -- the same told of what it shows
  pub moves_one : (g : Instance → Instance) (runs : Bool) → shown_in (f (seen s p)) ≡ option_map g (shown_in (seen s p)) → (f (seen s p)).ready ≡ runs
      → option_map (λ (x : Entry (Process B)). x.body.body) (f (seen s p)).entry ≡ option_map (λ (x : Entry (Process B)). x.body.body) (seen s p).entry
      → MovesOne p g runs (λ a b. b ≡ a) s t
  moves_one g runs shown ready body = record {
    here = ap shown_in ch.here ∙ shown;
    others = λ q apart. ap shown_in (ch.others q apart);
    ready = ap (λ x. x.ready) ch.here ∙ ready;
    others_ready = λ q apart. ap (λ x. x.ready) (ch.others q apart);
    bodies = at_each (λ q x. option_map (λ (z : Entry (Process B)). z.body.body) x.entry ≡ body_at s q) body (λ q apart. refl);
    stack = ap (λ v. v.items) ch.stack;
    due = ch.due;
    next = ch.next;
  }

-- ---- room alone

module _ {B : Type 0} (s t : Schedule B) (p : ℕ) (ch : Changes p (λ x. x) s t) where
  pub same_sound : IsSound s → IsSound t
  same_sound sound = sound_still s t p (λ x. x) ch sound (sound.each p) refl (λ x on some. sound.busy p x on some)

-- ---- the stack

pub on_last : (ps : List ℕ) (p q : ℕ) → is_on (ps ++ p ∷ []) q ≡ (is_on ps q || (p == q))
on_last ps p q = list_any-append (λ x. x == q) ps (p ∷ []) ∙ ap (λ b. is_on ps q || b) (or-nothing (p == q))
  where
    or-nothing : (b : Bool) → (b || false) ≡ b
    or-nothing true = refl
    or-nothing false = refl

pub on_top : (ps : List ℕ) (p : ℕ) → is_on (ps ++ p ∷ []) p ≡ true
on_top ps p = on_last ps p p ∙ ap (λ b. is_on ps p || b) (eq-eqb p p refl) ∙ or-all (is_on ps p)
  where
    or-all : (b : Bool) → (b || true) ≡ true
    or-all true = refl
    or-all false = refl

pub on_below : (ps : List ℕ) (p q : ℕ) → is_on ps q ≡ true → is_on (ps ++ p ∷ []) q ≡ true
on_below ps p q is = on_last ps p q ∙ ap (λ b. b || (p == q)) is

-- what stands last in a list without doubles does not stand before
pub once_below : (ps : List ℕ) (p : ℕ) → IsOnce (ps ++ p ∷ []) → (is_on ps p ≡ false) × IsOnce ps
once_below [] p once = (refl, tt)
once_below (x ∷ ps) p once =
    let rest = once_below ps p once.1 in
    (ap (λ b. b || is_on ps p) (apart (x == p) refl) ∙ rest.0, (before (is_on ps x) refl, rest.1))
  where
    apart : (b : Bool) → (x == p) ≡ b → (x == p) ≡ false
    apart true is = absurd (true≢false (sym (on_last ps p x ∙ ap (λ b. is_on ps x || b) (eq-eqb p x (same is)) ∙ or-all (is_on ps x)) ∙ once.0))
      where
        same : (x == p) ≡ true → p ≡ x
        same eq = ⊎_elim (λ here. sym here) (λ no. absurd (true≢false (sym eq ∙ ne_eqb x p no))) (cases_eq x p)

        or-all : (b : Bool) → (b || true) ≡ true
        or-all true = refl
        or-all false = refl
    apart false is = is

    before : (b : Bool) → is_on ps x ≡ b → is_on ps x ≡ false
    before true is = absurd (true≢false (sym (on_below ps p x is) ∙ once.0))
    before false is = is

-- a list without doubles gets one more
pub once_more : (ps : List ℕ) (p : ℕ) → IsOnce ps → is_on ps p ≡ false → IsOnce (ps ++ p ∷ [])
once_more [] p once none = (refl, tt)
once_more (x ∷ ps) p once none = (on_last ps p x ∙ ap (λ b. b || (p == x)) once.0 ∙ apart (cases_eq p x), once_more ps p once.1 (rest (x == p) refl))
  where
    rest : (b : Bool) → (x == p) ≡ b → is_on ps p ≡ false
    rest true is = absurd (true≢false (sym (ap (λ b. b || is_on ps p) is) ∙ none))
    rest false is = sym (ap (λ b. b || is_on ps p) is) ∙ none

    apart : (p ≡ x) ⊎ (p ≢ x) → (p == x) ≡ false
    apart c = ⊎_elim (λ same. absurd (true≢false (sym (ap (λ b. b || is_on ps p) (eq-eqb x p (sym same))) ∙ none))) (λ no. ne_eqb p x no) c

module _ {B : Type 0} (s : Schedule B) (sound : IsSound s) (p : ℕ) where
  -- the top leaves
  module _ (v : Vec ℕ) (top : s.stack.items ≡ v.items ++ p ∷ []) (capacity : vec_capacity v ≡ vec_capacity s.stack) where
    abbrev without_top : Schedule B
    without_top = record s { stack = v }

    under : (q : ℕ) → is_on v.items q ≡ true → is_on s.stack.items q ≡ true
    under q is = ap (λ xs. is_on xs q) top ∙ on_below v.items p q is

    pub top_off : is_on v.items p ≡ false
    top_off = (once_below v.items p (subst IsOnce top sound.once)).0

    pub top_on : is_on s.stack.items p ≡ true
    top_on = ap (λ xs. is_on xs p) top ∙ on_top v.items p

    pub sound_without_top : IsSound without_top
    sound_without_top = record {
      each = sound.each;
      active = λ q is. sound.active q (under q is);
      once = (once_below v.items p (subst IsOnce top sound.once)).1;
      busy = λ q x is. sound.busy q x (under q is);
      stack_room = subst (λ n. map.len s.table.live ≤ n) (sym capacity) sound.stack_room;
      ready_room = sound.ready_room;
      woken_room = sound.woken_room;
      due_room = sound.due_room;
      nobody_woken = sound.nobody_woken;
      few = sound.few;
      below = sound.below;
      serials = sound.serials;
    }

  -- one that is not active gets on top
  module _ (v : Vec ℕ) (top : v.items ≡ s.stack.items ++ p ∷ []) (capacity : vec_capacity v ≡ vec_capacity s.stack)
      (lives : map.contains_key s.table.live p ≡ true) (off : is_on s.stack.items p ≡ false) (free : (x : Entry (Process B)) → map.get s.table.live p ≡ Some x → IsBusy x (seen s p)) where
    abbrev with_top : Schedule B
    with_top = record s { stack = v }

    on_by : (q : ℕ) → is_on v.items q ≡ true → (is_on s.stack.items q || (p == q)) ≡ true
    on_by q is = sym (ap (λ xs. is_on xs q) top ∙ on_last s.stack.items p q) ∙ is

    either : (P : ℕ → Type 0) → P p → ((q : ℕ) → is_on s.stack.items q ≡ true → P q) → (q : ℕ) → is_on v.items q ≡ true → P q
    either P here below q is = ⊎_elim
        (λ same. subst P same here)
        (λ apart. below q (sym (ap (λ b. is_on s.stack.items q || b) (ne_eqb p q apart) ∙ or-nothing (is_on s.stack.items q)) ∙ on_by q is))
        (cases_eq p q)
      where
        or-nothing : (b : Bool) → (b || false) ≡ b
        or-nothing true = refl
        or-nothing false = refl

    pub sound_with_top : IsSound with_top
    sound_with_top = record {
      each = sound.each;
      active = either (λ q. map.contains_key s.table.live q ≡ true) lives sound.active;
      once = subst IsOnce (sym top) (once_more s.stack.items p sound.once off);
      busy = λ q x is. either (λ n. map.get s.table.live n ≡ Some x → IsBusy x (seen s n)) (free x) (λ n on. sound.busy n x on) q is;
      stack_room = subst (λ n. map.len s.table.live ≤ n) (sym capacity) sound.stack_room;
      ready_room = sound.ready_room;
      woken_room = sound.woken_room;
      due_room = sound.due_room;
      nobody_woken = sound.nobody_woken;
      few = sound.few;
      below = sound.below;
      serials = sound.serials;
    }
