-- Events that are added one after another: in a wait for all each counts once, where it first stood.
use Rattle.std.proofs.Common.{◌≡◌, ◌==◌, ◌&&◌, ◌||◌, not, ℕ, Bool, true, false, List, [], ◌∷◌, ◌++◌, append_assoc, refl, sym, ap, ◌∙◌, true≢false, ⊎_elim, subst, ne_eqb}
use Rattle.std.specs.Prelude.{if◌then◌else◌}
use Rattle.std.proofs.lemmas.Bool.{cases_eq}
use Rattle.std.proofs.lemmas.List.{append-nil}
use Rattle.std.proofs.lemmas.List.Elements.{filter-append}
use Rattle.std.proofs.lemmas.Map.Views.{any-filter_same}
use Rattle.kernel_view.specs.EventCore.Ev.{same_event}
use Rattle.kernel_view.specs.EventCore.declared.event.Ev.{Ev}
use Rattle.kernel_view.specs.EventCore.declared.event.Ev.TheVariants as ev
use Rattle.kernel_view.specs.SimModel.Configuration.{waits_for_any, waits_for_all}
use Rattle.kernel_view.specs.SimModel.Waits.{is_among, struck, once}
use Rattle.exec_events.specs.Named.{with_event}
use Rattle.exec_events.specs.Requests.{wait_for, waiting_for}

-- ---- the same event

same_number : (a b : ℕ) → (a == b) ≡ true → a ≡ b
same_number a b is = ⊎_elim (λ same. same) (λ apart. absurd (true≢false (sym is ∙ ne_eqb a b apart))) (cases_eq a b)

turned_number : (a b : ℕ) → (a == b) ≡ (b == a)
turned_number a b = ⊎_elim
    (λ same. subst (λ n. (n == b) ≡ (b == n)) (sym same) refl)
    (λ apart. ne_eqb a b apart ∙ sym (ne_eqb b a (λ same. apart (sym same))))
    (cases_eq a b)

turned_event : (a b : Ev) → same_event a b ≡ same_event b a
turned_event (ev.Fixed a) (ev.Fixed b) = turned_number a b
turned_event (ev.Fixed a) (ev.Terminated b) = refl
turned_event (ev.Fixed a) (ev.Restarted b) = refl
turned_event (ev.Terminated a) (ev.Fixed b) = refl
turned_event (ev.Terminated a) (ev.Terminated b) = turned_number a b
turned_event (ev.Terminated a) (ev.Restarted b) = refl
turned_event (ev.Restarted a) (ev.Fixed b) = refl
turned_event (ev.Restarted a) (ev.Terminated b) = refl
turned_event (ev.Restarted a) (ev.Restarted b) = turned_number a b

are_equal : (a b : Ev) → same_event a b ≡ true → a ≡ b
are_equal (ev.Fixed a) (ev.Fixed b) is = ap (λ n. ev.Fixed n) (same_number a b is)
are_equal (ev.Fixed a) (ev.Terminated b) is = absurd (true≢false (sym is))
are_equal (ev.Fixed a) (ev.Restarted b) is = absurd (true≢false (sym is))
are_equal (ev.Terminated a) (ev.Fixed b) is = absurd (true≢false (sym is))
are_equal (ev.Terminated a) (ev.Terminated b) is = ap (λ n. ev.Terminated n) (same_number a b is)
are_equal (ev.Terminated a) (ev.Restarted b) is = absurd (true≢false (sym is))
are_equal (ev.Restarted a) (ev.Fixed b) is = absurd (true≢false (sym is))
are_equal (ev.Restarted a) (ev.Terminated b) is = absurd (true≢false (sym is))
are_equal (ev.Restarted a) (ev.Restarted b) is = ap (λ n. ev.Restarted n) (same_number a b is)

-- ---- one event more

-- what is left of others where an event was struck has another event as before
among_struck : (x e : Ev) (ys : List Ev) → is_among e (struck x ys) ≡ (not (same_event x e) && is_among e ys)
among_struck x e ys = any-filter_same (same_event e) (λ z. not (same_event x z)) (not (same_event x e)) (λ z is. ap (λ w. not (same_event x w)) (sym (are_equal e z is))) ys

among_first : (x e : Ev) (ys : List Ev) (b a : Bool) → same_event x e ≡ b → is_among e ys ≡ a → is_among e (x ∷ struck x ys) ≡ (b || (not b && a))
among_first x e ys b a same there =
    ap (λ c. c || is_among e (struck x ys)) (turned_event e x ∙ same)
    ∙ ap (λ c. b || c) (among_struck x e ys ∙ ap (λ c. not c && is_among e ys) same ∙ ap (λ c. not b && c) there)

struck_more_by : (x e : Ev) (ys : List Ev) (b a : Bool) → same_event x e ≡ b → is_among e ys ≡ a → x ∷ struck x (with_event true ys e) ≡ with_event true (x ∷ struck x ys) e
struck_more_by x e ys true true same there =
    ap (λ c. x ∷ struck x (if c then ys else ys ++ e ∷ [])) there
    ∙ sym (ap (λ c. if c then x ∷ struck x ys else (x ∷ struck x ys) ++ e ∷ []) (among_first x e ys true true same there))
struck_more_by x e ys false true same there =
    ap (λ c. x ∷ struck x (if c then ys else ys ++ e ∷ [])) there
    ∙ sym (ap (λ c. if c then x ∷ struck x ys else (x ∷ struck x ys) ++ e ∷ []) (among_first x e ys false true same there))
struck_more_by x e ys true false same there =
    ap (λ c. x ∷ struck x (if c then ys else ys ++ e ∷ [])) there
    ∙ ap (λ zs. x ∷ zs) (filter-append (λ z. not (same_event x z)) ys (e ∷ []) ∙ ap (λ c. struck x ys ++ (if not c then e ∷ [] else [])) same ∙ append-nil (struck x ys))
    ∙ sym (ap (λ c. if c then x ∷ struck x ys else (x ∷ struck x ys) ++ e ∷ []) (among_first x e ys true false same there))
struck_more_by x e ys false false same there =
    ap (λ c. x ∷ struck x (if c then ys else ys ++ e ∷ [])) there
    ∙ ap (λ zs. x ∷ zs) (filter-append (λ z. not (same_event x z)) ys (e ∷ []) ∙ ap (λ c. struck x ys ++ (if not c then e ∷ [] else [])) same)
    ∙ sym (ap (λ c. if c then x ∷ struck x ys else (x ∷ struck x ys) ++ e ∷ []) (among_first x e ys false false same there))

once_more : (xs : List Ev) (e : Ev) → once (xs ++ e ∷ []) ≡ with_event true (once xs) e
once_more [] e = refl
once_more (x ∷ xs) e = ap (λ ys. x ∷ struck x ys) (once_more xs e) ∙ struck_more_by x e (once xs) (same_event x e) (is_among e (once xs)) refl refl

-- ---- and so on

abbrev pub added : Bool → List Ev → List Ev → List Ev
added all xs [] = xs
added all xs (y ∷ ys) = added all (with_event all xs y) ys

any_added : (xs ys : List Ev) → added false xs ys ≡ xs ++ ys
any_added xs [] = sym (append-nil xs)
any_added xs (y ∷ ys) = any_added (xs ++ y ∷ []) ys ∙ append_assoc xs (y ∷ []) ys

all_added : (xs ys : List Ev) → added true (once xs) ys ≡ once (xs ++ ys)
all_added xs [] = ap once (sym (append-nil xs))
all_added xs (y ∷ ys) = ap (λ zs. added true zs ys) (sym (once_more xs y)) ∙ all_added (xs ++ y ∷ []) ys ∙ ap once (append_assoc xs (y ∷ []) ys)

pub waited : (all : Bool) (xs : List Ev) → wait_for all xs ≡ waiting_for all (added all [] xs)
waited false xs = ap waits_for_any (sym (any_added [] xs))
waited true xs = ap waits_for_all (sym (all_added [] xs))
