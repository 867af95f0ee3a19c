-- Those that an event woke, one after another.
use Rattle.std.proofs.Common.{◌≡◌, ◌≢◌, ◌==◌, ◌||◌, not, ℕ, Bool, true, false, List, [], ◌∷◌, ◌++◌, Option, Some, None, refl, sym, ap, ◌∙◌, ⊎_elim, eq-eqb, ne_eqb, subst}
use Rattle.std.specs.Prelude.{if◌then◌else◌, vec_capacity}
use Rattle.std.proofs.lemmas.Bool.{cases_eq}
use Rattle.std.proofs.lemmas.List.Folds.{list_any-append}
use Rattle.instance_table.specs.declared.instances.Instance.{Instance as Entry}
use Rattle.instance_table.specs.declared.instances.Waiting.TheVariants as waiting
use Rattle.instance_table.specs.declared.instances.Deadline.TheVariants as due
use Rattle.kernel_processes.specs.InstanceViews.{Seen, seen, is_on}
use Rattle.kernel_processes.specs.Moves.{heard, met_by, met, met_if, Changes, HasPlaces, IsTimedSo, MeetsAll, MeetsSome}
use Rattle.kernel_processes.specs.declared.parts.Process.{Process}
use Rattle.kernel_processes.specs.declared.parts.Schedule.{Schedule}
use Rattle.kernel_processes.proofs.Rousing.{or-false, or-true}
use Rattle.kernel_processes.proofs.Timing.{timed_met}

-- ---- the last of a list

on_last : (ps : List ℕ) (p q : ℕ) → is_on (ps ++ p ∷ []) q ≡ (is_on ps q || (p == q))
on_last ps p q = list_any-append (λ x. x == q) ps (p ∷ []) ∙ ap (λ b. is_on ps q || b) (or-false (p == q))

module _ {B : Type 0} where
  -- ---- a second wake is nothing new

  again_on : (x : Seen B) (y : Entry (Process B)) (off : Bool) → x.entry ≡ Some y → y.disabled ≡ off → met (met x) ≡ met x
  again_on x y true at is = ap (λ z. met z) unmoved
    where
      unmoved : met x ≡ x
      unmoved = ap (λ o. met_by o x) at ∙ ap (λ b. if b then x else record x { entry = Some (heard y); time = None; zero = false; ready = x.ready || not y.suspended }) is
  again_on x y false at is = ap (λ z. met z) first ∙ second ∙ sym first
    where
      rested : Entry (Process B)
      rested = record y { wait = waiting.None; deadline = due.None; kept = y.suspended || y.kept }

      now : Seen B
      now = record x { entry = Some rested; time = None; zero = false; ready = x.ready || not y.suspended }

      first : met x ≡ now
      first = ap (λ o. met_by o x) at ∙ ap (λ b. if b then x else record x { entry = Some (if b then y else rested); time = None; zero = false; ready = x.ready || not y.suspended }) is

      or-twice : (a b : Bool) → (a || (a || b)) ≡ (a || b)
      or-twice true b = refl
      or-twice false b = refl

      or-again : (a b : Bool) → ((a || b) || b) ≡ (a || b)
      or-again true b = refl
      or-again false true = refl
      or-again false false = refl

      second : met now ≡ now
      second = ap (λ b. if b then now else record now { entry = Some (if b then rested else record rested { kept = y.suspended || rested.kept }); ready = now.ready || not y.suspended }) is
          ∙ ap (λ k. record now { entry = Some (record rested { kept = k }); ready = now.ready || not y.suspended }) (or-twice y.suspended y.kept)
          ∙ ap (λ r. record now { ready = r }) (or-again x.ready (not y.suspended))

  again : (x : Seen B) → met (met x) ≡ met x
  again x = by x.entry refl
    where
      by : (o : Option (Entry (Process B))) → x.entry ≡ o → met (met x) ≡ met x
      by None none = ap (λ z. met z) (ap (λ o. met_by o x) none)
      by (Some y) some = again_on x y y.disabled some refl

  again_if : (b : Bool) (x : Seen B) → met_if b (met x) ≡ met x
  again_if true x = again x
  again_if false x = refl

  -- ---- one turn

  module _ (s t u : Schedule B) (p : ℕ) where
    abbrev without_last : Type 0
    without_last = Changes p met (record t { woken = u.woken }) u

    pub one_met : MeetsSome s t → t.woken.items ≡ u.woken.items ++ p ∷ [] → vec_capacity u.woken ≡ vec_capacity t.woken → without_last → HasPlaces u → MeetsSome s u
    one_met m split capacity ch places = record {
      each = λ q. ⊎_elim (here q) (there q) (cases_eq q p);
      stack = ch.stack ∙ m.stack;
      due = ch.due ∙ m.due;
      next = ch.next ∙ m.next;
      count = ch.count ∙ m.count;
      places = ch.places ∙ m.places;
      room = capacity ∙ m.room;
      still = places;
      timed = λ q. ⊎_elim
          (λ same. subst (λ n. IsTimedSo (seen u n)) (sym same) (subst IsTimedSo (sym ch.here) (timed_met (seen t p) (m.timed p))))
          (λ apart. subst IsTimedSo (sym (ch.others q apart)) (m.timed q))
          (cases_eq q p);
    }
      where
        here : (q : ℕ) → q ≡ p → met_if (is_on u.woken.items q) (seen u q) ≡ met_if (is_on s.woken.items q) (seen s q)
        here q same = subst (λ n. met_if (is_on u.woken.items n) (seen u n) ≡ met_if (is_on s.woken.items n) (seen s n)) (sym same)
            (ap (λ x. met_if (is_on u.woken.items p) x) ch.here ∙ again_if (is_on u.woken.items p) (seen t p)
            ∙ ap (λ b. met_if b (seen t p)) (sym (ap (λ xs. is_on xs p) split ∙ on_last u.woken.items p p ∙ ap (λ b. is_on u.woken.items p || b) (eq-eqb p p refl) ∙ or-true (is_on u.woken.items p)))
            ∙ m.each p)

        there : (q : ℕ) → q ≢ p → met_if (is_on u.woken.items q) (seen u q) ≡ met_if (is_on s.woken.items q) (seen s q)
        there q apart = ap (λ x. met_if (is_on u.woken.items q) x) (ch.others q apart)
            ∙ ap (λ b. met_if b (seen t q)) (sym (ap (λ xs. is_on xs q) split ∙ on_last u.woken.items p q ∙ ap (λ b. is_on u.woken.items q || b) (ne_eqb p q (λ same. apart (sym same))) ∙ or-false (is_on u.woken.items q)))
            ∙ m.each q

  pub all_met : (s t : Schedule B) → MeetsSome s t → t.woken.items ≡ [] → MeetsAll s t
  all_met s t m none = record {
    each = λ q. ap (λ xs. met_if (is_on xs q) (seen t q)) (sym none) ∙ m.each q;
    stack = m.stack;
    due = m.due;
    next = m.next;
    count = m.count;
    places = m.places;
    nobody = none;
    room = m.room;
  }
