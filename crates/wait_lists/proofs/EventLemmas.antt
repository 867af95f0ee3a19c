-- Events and their tags.
use Rattle.std.proofs.Common.{◌≡◌, ℕ, zero, suc, ◌+◌, ◌-◌, ◌*◌, ◌/◌, ◌%◌, ◌<◌, ◌≤◌, Bool, true, false, true≢false, cond, not, ◌||◌, List, [], ◌∷◌, Option, Some, None, refl, sym, ap, ◌∙◌, arith, eq-eqb, ne_eqb, ⊎_elim}
use Rattle.std.specs.Prelude.{◌==◌}
use Rattle.std.proofs.lemmas.Bool.{cases_eq}
use Rattle.std.proofs.lemmas.Bool.Decides.{nat_tests}
use Rattle.event_core.specs.declared.event.Ev.{Ev}
use Rattle.event_core.specs.declared.event.Ev.TheVariants.{Fixed, Terminated, Restarted}
use Rattle.event_core.specs.Ev.{same_event}
use Rattle.wait_lists.specs.Waits.{has, without}
use Rattle.wait_lists.specs.Chains.{Link, Links, has_tag, leave}
use Rattle.wait_lists.specs.Nodes.{code_of, kind_of, event_of, event_at, events_at}
use Rattle.wait_lists.proofs.Counted.{times-same, times-other}
use Rattle.wait_lists.proofs.Chains.{In}

pub event_of-code_of : (e : Ev) → event_of (code_of e) ≡ e
event_of-code_of (Fixed n) =
    let r : (3 * n + 2 - 2) % 3 ≡ 0 = omega arith in let q : (3 * n + 2 - 2) / 3 ≡ n = omega arith in λ i. kind_of (r i) (q i)
event_of-code_of (Terminated n) =
    let r : (3 * n + 3 - 2) % 3 ≡ 1 = omega arith in let q : (3 * n + 3 - 2) / 3 ≡ n = omega arith in λ i. kind_of (r i) (q i)
event_of-code_of (Restarted n) =
    let r : (3 * n + 4 - 2) % 3 ≡ 2 = omega arith in let q : (3 * n + 4 - 2) / 3 ≡ n = omega arith in λ i. kind_of (r i) (q i)

pub code_of-two : (e : Ev) → 2 ≤ code_of e
code_of-two (Fixed n) = omega arith
code_of-two (Terminated n) = omega arith
code_of-two (Restarted n) = omega arith

two_up : (a b : ℕ) → (a == b) ≡ (3 * a + 2 == 3 * b + 2)
two_up a b = grind (arith, nat_tests)

three_up : (a b : ℕ) → (a == b) ≡ (3 * a + 3 == 3 * b + 3)
three_up a b = grind (arith, nat_tests)

four_up : (a b : ℕ) → (a == b) ≡ (3 * a + 4 == 3 * b + 4)
four_up a b = grind (arith, nat_tests)

-- events are the same where their tags are
pub same_codes : (x e : Ev) → same_event x e ≡ (code_of x == code_of e)
same_codes (Fixed a) (Fixed b) = two_up a b
same_codes (Terminated a) (Terminated b) = three_up a b
same_codes (Restarted a) (Restarted b) = four_up a b
same_codes (Fixed a) (Terminated b) = sym (ne_eqb (3 * a + 2) (3 * b + 3) (λ e. absurd (omega arith)))
same_codes (Fixed a) (Restarted b) = sym (ne_eqb (3 * a + 2) (3 * b + 4) (λ e. absurd (omega arith)))
same_codes (Terminated a) (Fixed b) = sym (ne_eqb (3 * a + 3) (3 * b + 2) (λ e. absurd (omega arith)))
same_codes (Terminated a) (Restarted b) = sym (ne_eqb (3 * a + 3) (3 * b + 4) (λ e. absurd (omega arith)))
same_codes (Restarted a) (Fixed b) = sym (ne_eqb (3 * a + 4) (3 * b + 2) (λ e. absurd (omega arith)))
same_codes (Restarted a) (Terminated b) = sym (ne_eqb (3 * a + 4) (3 * b + 3) (λ e. absurd (omega arith)))

tag_is : (c : ℕ) (l : Link) → has_tag c (Some l) ≡ true → l.tag ≡ c
tag_is c l is = ⊎_elim (λ e. e) (λ apart. absurd (true≢false (sym is ∙ ne_eqb l.tag c apart))) (cases_eq l.tag c)

-- the event of a node by its tag
pub tagged-event : (e : Ev) (o : Option Link) → has_tag (code_of e) o ≡ true → event_at o ≡ e
tagged-event e None is = absurd (true≢false (sym is))
tagged-event e (Some l) is = ap event_of (tag_is (code_of e) l is) ∙ event_of-code_of e

pub same-itself : (e : Ev) → same_event e e ≡ true
same-itself e = same_codes e e ∙ eq-eqb (code_of e) (code_of e) refl

-- what is left without an event, once one of its nodes is gone
pub without-leave : (E : Links) (i : ℕ) (e : Ev) → has_tag (code_of e) (E i) ≡ true → (ns : List ℕ) → without e (events_at E (leave i ns)) ≡ without e (events_at E ns)
without-leave E i e is [] = refl
without-leave E i e is (x ∷ xs) = ⊎_elim
    (λ (same : x ≡ i).
    let gone : same_event (event_at (E x)) e ≡ true = ap (λ k. same_event (event_at (E k)) e) same ∙ ap (λ y. same_event y e) (tagged-event e (E i) is) ∙ same-itself e in
    ap (λ b. without e (events_at E (cond b (leave i xs) (x ∷ leave i xs)))) (eq-eqb x i same)
    ∙ without-leave E i e is xs
    ∙ sym (ap (λ b. cond (not b) (event_at (E x) ∷ without e (events_at E xs)) (without e (events_at E xs))) gone))
    (λ apart.
    ap (λ b. without e (events_at E (cond b (leave i xs) (x ∷ leave i xs)))) (ne_eqb x i apart)
    ∙ ap (λ l. cond (not (same_event (event_at (E x)) e)) (event_at (E x) ∷ l) l) (without-leave E i e is xs))
    (cases_eq x i)

pub events-same : (E F : Links) (ns : List ℕ) → ((j : ℕ) → In j ns → event_at (E j) ≡ event_at (F j)) → events_at E ns ≡ events_at F ns
events-same E F [] same = refl
events-same E F (x ∷ xs) same =
    λ i. same x (omega (arith, times-same x x xs refl)) i ∷ events-same E F xs (λ j m. same j (there j m)) i
  where
    there : (j : ℕ) → In j xs → In j (x ∷ xs)
    there j m = ⊎_elim (λ (e : x ≡ j). omega (arith, times-same j x xs e)) (λ apart. omega (arith, times-other j x xs apart)) (cases_eq x j)

-- nodes with the same tags stand for the same events
pub event-tags : (o q : Option Link) → ((c : ℕ) → has_tag c o ≡ has_tag c q) → event_at o ≡ event_at q
event-tags None None same = refl
event-tags None (Some l) same = absurd (true≢false (sym (same l.tag ∙ eq-eqb l.tag l.tag refl)))
event-tags (Some l) None same = absurd (true≢false (sym (eq-eqb l.tag l.tag refl) ∙ same l.tag))
event-tags (Some l) (Some k) same = ap event_of (sym (tag_is l.tag k (sym (same l.tag) ∙ eq-eqb l.tag l.tag refl)))

-- an event that is waited for has a node
pub has-node : (E : Links) (e : Ev) (ns : List ℕ) → ((j : ℕ) → In j ns → (c : ℕ) × (d : Ev) × (c ≡ code_of d) × (has_tag c (E j) ≡ true)) → has e (events_at E ns) ≡ true → (j : ℕ) × In j ns × (has_tag (code_of e) (E j) ≡ true)
has-node E e [] each is = absurd (true≢false (sym is))
has-node E e (x ∷ xs) each is = by_test (same_event (event_at (E x)) e) refl is (has-node E e xs (λ j m. each j (there j m)))
  where
    there : (j : ℕ) → In j xs → In j (x ∷ xs)
    there j m = ⊎_elim (λ (e : x ≡ j). omega (arith, times-same j x xs e)) (λ apart. omega (arith, times-other j x xs apart)) (cases_eq x j)

    x_in : In x (x ∷ xs)
    x_in = omega (arith, times-same x x xs refl)

    by_test : (b : Bool) → same_event (event_at (E x)) e ≡ b → (b || has e (events_at E xs)) ≡ true → (has e (events_at E xs) ≡ true → (j : ℕ) × In j xs × (has_tag (code_of e) (E j) ≡ true))
        → (j : ℕ) × In j (x ∷ xs) × (has_tag (code_of e) (E j) ≡ true)
    by_test true same is further =
        let one = each x x_in in
        let tagged : has_tag (code_of one.1) (E x) ≡ true = ap (λ c. has_tag c (E x)) (sym one.2) ∙ one.3 in
        let codes : (code_of one.1 == code_of e) ≡ true = sym (same_codes one.1 e) ∙ ap (λ y. same_event y e) (sym (tagged-event one.1 (E x) tagged)) ∙ same in
        let alike : code_of one.1 ≡ code_of e = ⊎_elim (λ f. f) (λ apart. absurd (true≢false (sym codes ∙ ne_eqb (code_of one.1) (code_of e) apart))) (cases_eq (code_of one.1) (code_of e)) in
        (x, x_in, ap (λ c. has_tag c (E x)) (sym alike) ∙ tagged)
    by_test false apart is further = let rest = further is in (rest.0, there rest.0 rest.1, rest.2)

-- each tag past those of free nodes is an event's
pub code_of-event_of : (c : ℕ) → 2 ≤ c → code_of (event_of c) ≡ c
code_of-event_of c event = by_kind ((c - 2) % 3) ((c - 2) / 3) (omega arith) (omega arith)
  where
    by_kind : (r q : ℕ) → r < 3 → 3 * q + r + 2 ≡ c → code_of (kind_of r q) ≡ c
    by_kind zero q small is = omega (arith, is)
    by_kind (suc zero) q small is = omega (arith, is)
    by_kind (suc (suc zero)) q small is = omega (arith, is)
    by_kind (suc (suc (suc r))) q small is = absurd (omega arith)
