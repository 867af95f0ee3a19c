-- An event goes along its list.
use Rattle.std.proofs.Common.{◌≡◌, ℕ, ◌+◌, ◌<◌, ◌≤◌, ◌≢◌, Bool, true, false, true≢false, cond, not, ◌||◌, List, [], ◌∷◌, ◌++◌, length, drop, Option, Some, None, refl, sym, ap, ◌∙◌, subst, arith, ne_eqb, ⊎_elim, append-nil}
use Rattle.std.specs.Prelude.{slice_get, ◌==◌, is_none, is_some}
use Rattle.std.specs.Ordering.{nat_cmp}
use Rattle.std.specs.FinMap as maps
use Rattle.std.specs.FinSet as sets
use Rattle.std.specs.List.{sum_by}
use Rattle.std.specs.List.Sorted.{IsStrictlyIncreasing}
use Rattle.std.proofs.lemmas.Bool.{cases_eq}
use Rattle.std.proofs.lemmas.List.{length-append}
use Rattle.std.proofs.lemmas.List.Sums.{sum_by-append}
use Rattle.event_core.specs.declared.event.Ev.{Ev}
use Rattle.wait_lists.specs.declared.layout.Kept.{Kept}
use Rattle.wait_lists.specs.Waits.{Wait, has, named_by, waits_for, waits_naming}
use Rattle.wait_lists.specs.Shown.{Shown, listed, wait_of, passed_by, mark_of, shown_at, told, waits_of}
use Rattle.wait_lists.specs.Chains.{none, Link, has_tag, next_of, walk}
use Rattle.wait_lists.specs.Nodes.{code_of, event_of, by_event, by_wait, first_in, events_at, shown_of}
use Rattle.wait_lists.specs.Layout.{IsSound, IsOf, IsUsed, IsNodes, IsShorter, IsCutAt, IsOver, last_in, first_from, shown_by, waits_by}
use Rattle.wait_lists.proofs.Counted.{times, times-same, times-other}
use Rattle.wait_lists.proofs.Places.{slice_get-set_same, slice_get-set_other}
use Rattle.wait_lists.proofs.Chains.{In, lives, in_list, walk-goes, few-below, once_in}
use Rattle.wait_lists.proofs.NodeLemmas.{outside-event, event-within, wait-there}
use Rattle.wait_lists.proofs.EventLemmas.{code_of-two, has-node, code_of-event_of}
use Rattle.wait_lists.proofs.Moved.{IsSome-tag}
use Rattle.wait_lists.proofs.Refit.{shown-at, waiter-of, events-row, get-inside, sum-set}
use Rattle.wait_lists.proofs.Rewritten.{used-of}
use Rattle.wait_lists.proofs.Telling.{shown-serial}
use Rattle.wait_lists.proofs.ByPlace.{get-waits, contains-marks}
use Rattle.wait_lists.proofs.Passing.{Passed, passed_none, room-more, passed_more}
use Rattle.wait_lists.proofs.Struck.{last-within, named-listed, named-unless, neither, starts, of-same, of-within, goes-split, last-next, waits-s, waits-struck, ends-same, none-left-is, wait-left, waits-over, ends-over, behind-stays}
use Rattle.wait_lists.proofs.Risen.{none-behind, one-behind}

-- the event has gone over the nodes xs, which stay since it passes their waiters by, and goes over ys yet
pub record Going (first now : Kept) (e : Ev) (code : ℕ) (old new : List ℕ) (stays i : ℕ) : Type 0 where
  pub sound : IsSound now
  pub places : now.places ≡ first.places
  pub is_code : code ≡ code_of e
  pub xs : List ℕ
  pub ys : List ℕ
  pub list : IsNodes now code (xs ++ ys)
  pub last : last_in none xs ≡ stays
  pub next : first_from ys ≡ i
  pub by : (j at : ℕ) (s : Shown) → 1 ≤ times j xs → IsOf now at j → slice_get (shown_by now) at ≡ Some s → passed_by s ≡ true
  pub added : List ℕ
  pub behind : new ≡ old ++ added
  pub passed : Passed (waits_by first) (waits_by now) e added

-- how many nodes stand for events, and how many the event goes over yet
abbrev pub to_go : Kept → ℕ → ℕ
to_go k i = sum_by (λ s. length s.events) (shown_by k) + length (walk (length k.nodes.items) (by_event k.nodes.items) i)

one_in : (xs : List ℕ) (i : ℕ) (zs : List ℕ) → (xs ++ i ∷ []) ++ zs ≡ xs ++ i ∷ zs
one_in [] i zs = refl
one_in (x ∷ xs) i zs = ap (λ l. x ∷ l) (one_in xs i zs)

assoc : (xs ys zs : List ℕ) → (xs ++ ys) ++ zs ≡ xs ++ (ys ++ zs)
assoc [] ys zs = refl
assoc (x ∷ xs) ys zs = ap (λ l. x ∷ l) (assoc xs ys zs)

front : (ys : List ℕ) (i : ℕ) → first_from ys ≡ i → i ≢ none → (zs : List ℕ) × (ys ≡ i ∷ zs)
front [] i is some = absurd (some (sym is))
front (y ∷ zs) i is some = (zs, ap (λ n. n ∷ zs) is)

module _ (first now : Kept) (e : Ev) (code : ℕ) (old new : List ℕ) (stays i : ℕ) (going : Going first now e code old new stays i) where
  -- the rest of the list by a walk from its first node
  pub walk-rest : walk (length now.nodes.items) (by_event now.nodes.items) i ≡ going.ys
  walk-rest =
      let goes = goes-split (by_event now.nodes.items) going.xs going.ys none (first_in now.heads.events now.heads.free code) going.list.goes in
      ap (walk (length now.nodes.items) (by_event now.nodes.items)) (sym going.next)
      ∙ walk-goes (by_event now.nodes.items) (outside-event now.nodes.items going.sound.0.few_nodes) (length now.nodes.items) going.ys (last_in none going.xs) (first_from going.ys) goes
      (λ j m. there (by_event now.nodes.items j) (lives (by_event now.nodes.items) code (first_in now.heads.events now.heads.free code) (going.xs ++ going.ys) going.list j (behind_front going.xs j m)))
      short
    where
      there : (o : Option Link) → has_tag code o ≡ true → is_some o ≡ true
      there None is = is
      there (Some l) is = refl

      behind_front : (zs : List ℕ) (j : ℕ) → In j going.ys → In j (zs ++ going.ys)
      behind_front [] j m = m
      behind_front (z ∷ zs) j m = ⊎_elim
          (λ (e : z ≡ j). omega (arith, times-same j z (zs ++ going.ys) e))
          (λ apart. omega (arith, times-other j z (zs ++ going.ys) apart, behind_front zs j m))
          (cases_eq z j)

      whole : length (going.xs ++ going.ys) ≤ length now.nodes.items
      whole = few-below (length now.nodes.items) (going.xs ++ going.ys) (once_in (by_event now.nodes.items) code (first_in now.heads.events now.heads.free code) (going.xs ++ going.ys) going.list)
          (λ j m. event-within now.nodes.items j (there (by_event now.nodes.items j) (lives (by_event now.nodes.items) code (first_in now.heads.events now.heads.free code) (going.xs ++ going.ys) going.list j m)))

      short : length going.ys ≤ length now.nodes.items
      short = omega (arith, whole, length-append going.xs going.ys)

pub smaller : (first now after : Kept) (e : Ev) (code : ℕ) (old new more : List ℕ) (stays stands i n : ℕ) (going : Going first now e code old new stays i) (then : Going first after e code old more stands n)
    → sum_by (λ x. length x.events) (shown_by after) + length then.ys < sum_by (λ x. length x.events) (shown_by now) + length going.ys → to_go after n < to_go now i
smaller first now after e code old new more stays stands i n going then fewer =
    omega (arith, ap length (walk-rest first now e code old new stays i going), ap length (walk-rest first after e code old more stands n then))

module _ (first now : Kept) (e : Ev) (code : ℕ) (old new : List ℕ) (stays i : ℕ) (going : Going first now e code old new stays i) where
  module _ (some : i ≢ none) where
    rest : (zs : List ℕ) × (going.ys ≡ i ∷ zs)
    rest = front going.ys i going.next some

    i_in : (xs : List ℕ) → In i (xs ++ i ∷ rest.0)
    i_in [] = omega (arith, times-same i i rest.0 refl)
    i_in (x ∷ xs) = ⊎_elim
        (λ (e : x ≡ i). omega (arith, times-same i x (xs ++ i ∷ rest.0) e))
        (λ apart. omega (arith, times-other i x (xs ++ i ∷ rest.0) apart, i_in xs))
        (cases_eq x i)

    list_now : IsNodes now code (going.xs ++ i ∷ rest.0)
    list_now = let P : List ℕ → Type 0 = λ ns. IsNodes now code (going.xs ++ ns) in subst P rest.1 going.list

    tagged_code : has_tag code (by_event now.nodes.items i) ≡ true
    tagged_code = lives (by_event now.nodes.items) code (first_in now.heads.events now.heads.free code) (going.xs ++ i ∷ rest.0) list_now i (i_in going.xs)

    pub tagged : has_tag (code_of e) (by_event now.nodes.items i) ≡ true
    tagged = ap (λ c. has_tag c (by_event now.nodes.items i)) (sym going.is_code) ∙ tagged_code

    pub used-next : IsUsed now i
    used-next = by_link (by_event now.nodes.items i) refl tagged
      where
        by_link : (o : Option Link) → by_event now.nodes.items i ≡ o → has_tag (code_of e) o ≡ true → (l : Link) × (by_event now.nodes.items i ≡ Some l) × (1 < l.tag)
        by_link None found is = absurd (true≢false (sym is))
        by_link (Some l) found is = (
          l,
          found,
          ⊎_elim
              (λ (same : l.tag ≡ code_of e). omega (arith, code_of-two e))
              (λ apart. absurd (true≢false (sym is ∙ ne_eqb l.tag (code_of e) apart)))
              (cases_eq l.tag (code_of e)),
        )

    -- one more that the event may add has room
    pub room-next : (at : ℕ) (s : Shown) → IsOf now at i → slice_get (shown_by now) at ≡ Some s → passed_by s ≡ false → length going.added + 1 ≤ maps.len (waits_naming (waits_by first) e)
    room-next at s of here active = room-more (waits_by first) (waits_by now) e going.added going.passed s.serial
        (waits-s now going.sound e i at tagged of (of-within now going.sound i at used-next of) s here active)

    times-front : (j : ℕ) → j ≢ i → times j (going.xs ++ i ∷ []) ≡ times j going.xs
    times-front j apart = omega (arith, sum_by-append (λ x. cond (x == j) 1 0) going.xs (i ∷ []), times-other j i [] (λ e. apart (sym e)))

    -- the list, with the node among those that stay
    list_on : IsNodes now code ((going.xs ++ i ∷ []) ++ rest.0)
    list_on = let P : List ℕ → Type 0 = λ ns. IsNodes now code ns in subst P (sym (one_in going.xs i rest.0)) list_now

    -- its waiter is passed by
    pub going-by : (at : ℕ) (s : Shown) → IsOf now at i → slice_get (shown_by now) at ≡ Some s → passed_by s ≡ true → (n : ℕ) → ((xs ys : List ℕ) → IsNodes now code (xs ++ ys) → last_in none xs ≡ i → n ≡ first_from ys)
        → Going first now e code old new i n
    going-by at s of here mark n behind_it = record {
      sound = going.sound;
      places = going.places;
      is_code = going.is_code;
      xs = going.xs ++ i ∷ [];
      ys = rest.0;
      list = list_on;
      last = last-next none going.xs i;
      next = sym (behind_it (going.xs ++ i ∷ []) rest.0 list_on (last-next none going.xs i));
      by = λ j a t member is there. ⊎_elim
          (λ (same : j ≡ i). same_mark a t (let Q : ℕ → Type 0 = λ x. IsOf now a x in subst Q same is) there)
          (λ apart. going.by j a t (omega (arith, member, times-front j apart)) is there)
          (cases_eq j i);
      added = going.added;
      behind = going.behind;
      passed = going.passed;
    }
      where
        same_mark : (a : ℕ) (t : Shown) → IsOf now a i → slice_get (shown_by now) a ≡ Some t → passed_by t ≡ true
        same_mark a t is there =
            let a_is : a ≡ at = of-same now i a at is of in
            let same : Some t ≡ Some s = sym there ∙ ap (slice_get (shown_by now)) a_is ∙ here in
            let alike : t ≡ s = cc in ap passed_by alike ∙ mark

    pub by-smaller : (at : ℕ) (s : Shown) (of : IsOf now at i) (here : slice_get (shown_by now) at ≡ Some s) (mark : passed_by s ≡ true) (n : ℕ) (behind_it : (xs ys : List ℕ) → IsNodes now code (xs ++ ys) → last_in none xs ≡ i → n ≡ first_from ys)
        → to_go now n < to_go now i
    unfolding going-by
    by-smaller at s of here mark n behind_it =
        smaller first now now e code old new new stays i i n going (going-by at s of here mark n behind_it) (omega (arith, ap length rest.1))

    -- its waiter waited for any, and waits no more
    module _ (at : ℕ) (s : Shown) (of : IsOf now at i) (here : slice_get (shown_by now) at ≡ Some s) (active : passed_by s ≡ false) (kind : s.for_all ≡ false) (after : Kept) (after_sound : IsSound after) (after_places : after.places ≡ now.places)
        (over : IsOver now after at s) (more : List ℕ) (told_more : more ≡ new ++ s.serial ∷ []) (n : ℕ) (behind_it : (xs ys : List ℕ) → IsNodes after code (xs ++ ys) → last_in none xs ≡ i → n ≡ first_from ys) where
      same_nodes : now ≡ record now { nodes = after.nodes; heads = after.heads }
      same_nodes = λ x. record now { nodes = sym over.nodes x; heads = sym over.heads x }

      list_after : IsNodes after code ((going.xs ++ i ∷ []) ++ rest.0)
      list_after = let P : Kept → Type 0 = λ k. IsNodes k code ((going.xs ++ i ∷ []) ++ rest.0) in subst P same_nodes list_on

      was_of : (a j : ℕ) → IsOf after a j → IsOf now a j
      was_of a j is = let P : Kept → Type 0 = λ k. IsOf k a j in subst P (sym same_nodes) is

      over_at : slice_get (shown_by after) at ≡ Some (record s { over = true })
      over_at = ap (λ l. slice_get l at) over.is ∙ slice_get-set_same (shown_by now) at s (record s { over = true }) here

      over_inside : at < length now.waiters.items
      over_inside = of-within now going.sound i at used-next of

      by_over : (j a : ℕ) (t : Shown) → 1 ≤ times j (going.xs ++ i ∷ []) → IsOf after a j → slice_get (shown_by after) a ≡ Some t → passed_by t ≡ true
      by_over j a t member is there = ⊎_elim
          (λ (same : a ≡ at).
          let read : Some t ≡ Some (record s { over = true }) = sym there ∙ ap (slice_get (shown_by after)) same ∙ over_at in
          let alike : t ≡ record s { over = true } = cc in
          ap passed_by alike ∙ or_true s.mark)
          (λ apart.
          let old_is = was_of a j is in
          let there_then : slice_get (shown_by now) a ≡ Some t = sym (ap (λ l. slice_get l a) over.is ∙ slice_get-set_other (shown_by now) at a (record s { over = true }) apart) ∙ there in ⊎_elim
          (λ (same : j ≡ i). absurd (apart (of-same now i a at (let Q : ℕ → Type 0 = λ x. IsOf now a x in subst Q same old_is) of)))
          (λ other. going.by j a t (omega (arith, member, times-front j other)) old_is there_then)
          (cases_eq j i))
          (cases_eq a at)
        where
          or_true : (b : Bool) → (b || true) ≡ true
          or_true true = refl
          or_true false = refl

      pub going-over : Going first after e code old more i n
      going-over = record {
        sound = after_sound;
        places = after_places ∙ going.places;
        is_code = going.is_code;
        xs = going.xs ++ i ∷ [];
        ys = rest.0;
        list = list_after;
        last = last-next none going.xs i;
        next = sym (behind_it (going.xs ++ i ∷ []) rest.0 list_after (last-next none going.xs i));
        by = by_over;
        added = going.added ++ s.serial ∷ [];
        behind = told_more ∙ ap (λ l. l ++ s.serial ∷ []) going.behind ∙ assoc old going.added (s.serial ∷ []);
        passed = passed_more (waits_by first) (waits_by now) e going.added going.passed (waits_by after) s.serial None
            (ap (λ r. waits_of (shown_by after) r.entries) after_places ∙ waits-over now going.sound e i at tagged of over_inside s here active after kind over)
            (waits-s now going.sound e i at tagged of over_inside s here active)
            (ends-over now going.sound e i at tagged of over_inside s here active after kind over);
      }

      pub over-smaller : to_go after n < to_go now i
      unfolding going-over
      over-smaller = smaller first now after e code old new more stays i i n going going-over
          (omega (arith, ap length rest.1, sum-set (shown_by now) (shown_by after) at s (record s { over = true }) here over.is (λ x. length x.events)))

    -- the last node that stays is there yet
    pub stays-within : (at : ℕ) (s : Shown) → slice_get (shown_by now) at ≡ Some s → passed_by s ≡ false → (after : Kept) → IsSound after → IsCutAt now after at → stays ≢ none → stays < length after.nodes.items
    stays-within at s here active after after_sound cut_at there =
        let left = cut_at.lists code going.xs going.ys (omega (arith, going.is_code, code_of-two e)) going.list (λ j member. by_test j member (has_tag at (by_wait now.nodes.items j)) refl) in
        let P : ℕ → Type 0 = λ n. n < length after.nodes.items in
        subst P going.last (last-within after after_sound code going.xs left.0 left.1 (λ e. there (sym going.last ∙ e)))
      where
        by_test : (j : ℕ) → In j going.xs → (b : Bool) → has_tag at (by_wait now.nodes.items j) ≡ b → b ≡ false
        by_test j member true is = absurd (true≢false (sym (going.by j at s member is here) ∙ active))
        by_test j member false is = refl

    -- a wait for all is struck, and the node is gone
    module _ (at : ℕ) (s : Shown) (of : IsOf now at i) (here : slice_get (shown_by now) at ≡ Some s) (active : passed_by s ≡ false) (kind : s.for_all ≡ true) (after : Kept) (after_sound : IsSound after) (after_places : after.places ≡ now.places)
        (less : IsShorter now after at i s) (cut_at : IsCutAt now after at) (more : List ℕ)
        (told_more : (t : Shown) → slice_get (shown_by after) at ≡ Some t → more ≡ new ++ cond (length t.events == 0) (s.serial ∷ []) [])
        (n : ℕ) (behind_it : (xs ys : List ℕ) → IsNodes after code (xs ++ ys) → last_in none xs ≡ stays → n ≡ first_from ys) where
      others : (j : ℕ) → In j going.xs → has_tag at (by_wait now.nodes.items j) ≡ false
      others j member = by_test (has_tag at (by_wait now.nodes.items j)) refl
        where
          by_test : (b : Bool) → has_tag at (by_wait now.nodes.items j) ≡ b → b ≡ false
          by_test true is = absurd (true≢false (sym (going.by j at s member is here) ∙ active))
          by_test false is = refl

      left : (zs : List ℕ) × IsNodes after code (going.xs ++ zs) × (length zs ≤ length going.ys)
      left = cut_at.lists code going.xs going.ys (omega (arith, going.is_code, code_of-two e)) going.list others

      now_at : slice_get (shown_by after) at ≡ Some (record s { events = less.events })
      now_at = ap (λ l. slice_get l at) less.is ∙ slice_get-set_same (shown_by now) at s (record s { events = less.events }) here

      now_other : (a : ℕ) → a ≢ at → slice_get (shown_by after) a ≡ slice_get (shown_by now) a
      now_other a apart = ap (λ l. slice_get l a) less.is ∙ slice_get-set_other (shown_by now) at a (record s { events = less.events }) apart

      inside : at < length now.waiters.items
      inside = of-within now going.sound i at used-next of

      wait : Option Wait
      wait = wait-left now going.sound e i at tagged of inside s here active after kind less

      pub going-struck : Going first after e code old more stays n
      unfolding wait
      going-struck = record {
        sound = after_sound;
        places = after_places ∙ going.places;
        is_code = going.is_code;
        xs = going.xs;
        ys = left.0;
        list = left.1;
        last = going.last;
        next = sym (behind_it going.xs left.0 left.1 going.last);
        by = λ j a t member is there.
            let old_is : IsOf now a j = sym (cut_at.tags a j (others j member)) ∙ is in
            let apart : a ≢ at = λ same. true≢false (sym old_is ∙ ap (λ x. has_tag x (by_wait now.nodes.items j)) same ∙ others j member) in
            going.by j a t member old_is (sym (now_other a apart) ∙ there);
        added = going.added ++ cond (is_none wait) (s.serial ∷ []) [];
        behind = told_more (record s { events = less.events }) now_at
            ∙ ap (λ b. new ++ cond b (s.serial ∷ []) []) (sym (none-left-is now going.sound e i at tagged of inside s here active after kind less))
            ∙ ap (λ l. l ++ cond (is_none wait) (s.serial ∷ []) []) going.behind
            ∙ assoc old going.added (cond (is_none wait) (s.serial ∷ []) []);
        passed = passed_more (waits_by first) (waits_by now) e going.added going.passed (waits_by after) s.serial wait
            (ap (λ r. waits_of (shown_by after) r.entries) after_places ∙ waits-struck now going.sound e i at tagged of inside s here active after kind less)
            (waits-s now going.sound e i at tagged of inside s here active)
            (ends-same now going.sound e i at tagged of inside s here active after kind less);
      }

      pub fewer-used : sum_by (λ x. length x.events) (shown_by after) < sum_by (λ x. length x.events) (shown_by now)
      fewer-used = omega (arith, sum-set (shown_by now) (shown_by after) at s (record s { events = less.events }) here less.is (λ x. length x.events), less.one_less)

      pub struck-smaller : to_go after n < to_go now i
      unfolding going-struck
      struck-smaller = smaller first now after e code old new more stays stays i n going going-struck (omega (arith, left.2, fewer-used))

-- once the event has gone over all, those that still wait for it are muted
module _ (first now : Kept) (e : Ev) (code : ℕ) (old new : List ℕ) (stays i : ℕ) (going : Going first now e code old new stays i) (over : i ≡ none) where
  none-left : going.ys ≡ []
  none-left = by_rest going.ys (λ j m. lives (by_event now.nodes.items) code (first_in now.heads.events now.heads.free code) (going.xs ++ going.ys) going.list j (behind_all going.xs j m)) (going.next ∙ over)
    where
      behind_all : (zs : List ℕ) (j : ℕ) → In j going.ys → In j (zs ++ going.ys)
      behind_all [] j m = m
      behind_all (z ∷ zs) j m = ⊎_elim
          (λ (e : z ≡ j). omega (arith, times-same j z (zs ++ going.ys) e))
          (λ apart. omega (arith, times-other j z (zs ++ going.ys) apart, behind_all zs j m))
          (cases_eq z j)

      by_rest : (ys : List ℕ) → ((j : ℕ) → In j ys → has_tag code (by_event now.nodes.items j) ≡ true) → first_from ys ≡ none → ys ≡ []
      by_rest [] tags is = refl
      by_rest (y ∷ ys) tags is = absurd (true≢false (sym (tags y (omega (arith, times-same y y ys refl))) ∙ ap (λ n. has_tag code (by_event now.nodes.items n)) is ∙ ap (has_tag code) (outside-event now.nodes.items going.sound.0.few_nodes)))

  pub all-muted : (p : ℕ) → waits_for (waits_by now) p e ≡ true → sets.contains (waits_by now).muted p ≡ true
  all-muted p is = by_place (maps.find nat_cmp p now.places.entries) refl
    where
      by_place : (o : Option ℕ) → maps.find nat_cmp p now.places.entries ≡ o → sets.contains (waits_by now).muted p ≡ true
      by_place None found = absurd (true≢false (sym is ∙ ap (named_by e) (get-waits (shown_by now) now.places.entries p ∙ ap (λ o. wait_of (shown_at (shown_by now) o)) found)))
      by_place (Some at) found =
          let one = shown-serial (slice_get (shown_by now) at) p (going.sound.0.seats.placed p at found).0 in
          let s = one.0 in
          let told_s : told (shown_by now) now.places.entries p ≡ Some s = ap (shown_at (shown_by now)) found ∙ one.1 in
          let w = waiter-of now.nodes.items now.waiters.items at s one.1 in
          let row = going.sound.0.rows at w.0 w.1 in
          let still = named-unless e s.over (listed s.for_all s.events) (sym (ap (named_by e) (get-waits (shown_by now) now.places.entries p ∙ ap wait_of told_s)) ∙ is) in
          let named : has e s.events ≡ true = sym (named-listed e s.for_all s.events) ∙ still.1 in
          let in_row : has e (events_at (by_event now.nodes.items) row.0) ≡ true = sym (ap (has e) (ap (λ (x : Shown). x.events) w.2 ∙ events-row now.nodes.items at w.0.first row.0 going.sound.0.few_nodes row.1)) ∙ named in
          let node = has-node (by_event now.nodes.items) e row.0
          (λ j member.
          let l = used-of now going.sound.0 at w.0 w.1 j (lives (by_wait now.nodes.items) at w.0.first row.0 row.1 j member) in
          (l.0.tag, event_of l.0.tag, sym (code_of-event_of l.0.tag (omega (arith, l.2))), IsSome-tag (by_event now.nodes.items j) l.0 l.1)) in_row in
          let listed_there : In node.0 (going.xs ++ going.ys) = in_list (by_event now.nodes.items) code (first_in now.heads.events now.heads.free code) (going.xs ++ going.ys) going.list node.0
          (ap (λ c. has_tag c (by_event now.nodes.items node.0)) going.is_code ∙ node.2) in
          let P : List ℕ → Type 0 = λ l. In node.0 l in
          let stays_there : In node.0 going.xs = subst P (ap (λ l. going.xs ++ l) none-left ∙ append-nil going.xs) listed_there in
          contains-marks (shown_by now) now.places.entries p ∙ ap mark_of told_s
          ∙ marked s still.0 (going.by node.0 at s stays_there (lives (by_wait now.nodes.items) at w.0.first row.0 row.1 node.0 node.1) one.1)
        where
          marked : (x : Shown) → x.over ≡ false → passed_by x ≡ true → x.mark ≡ true
          marked x still by = by_mark x.mark (sym (ap (λ b. x.mark || b) still) ∙ by)
            where
              by_mark : (b : Bool) → (b || false) ≡ true → b ≡ true
              by_mark true is = refl
              by_mark false is = is

-- before the event has gone over a node
pub going-none : (k : Kept) → IsSound k → (e : Ev) (code : ℕ) (old : List ℕ) (i : ℕ) → code ≡ code_of e → i ≡ first_in k.heads.events k.heads.free code → Going k k e code old old none i
going-none k sound e code old i is_code begins =
    let all = sound.0.lists code (omega (arith, code_of-two e)) in
    record {
      sound = sound;
      places = refl;
      is_code = is_code;
      xs = [];
      ys = all.0;
      list = all.1;
      last = refl;
      next = sym (starts (by_event k.nodes.items) all.0 none (first_in k.heads.events k.heads.free code) all.1.goes) ∙ sym begins;
      by = λ j at s member is here. absurd (omega arith);
      added = [];
      behind = sym (append-nil old);
      passed = passed_none (waits_by k) e;
    }

-- a node's waiter
pub node-owner : (k : Kept) → IsSound k → (i : ℕ) → IsUsed k i → (at : ℕ) × (s : Shown) × IsOf k at i × (slice_get (shown_by k) at ≡ Some s)
node-owner k sound i used =
    let m = wait-there k.nodes.items i used.0 used.1 in
    let of = IsSome-tag (by_wait k.nodes.items i) m.0 m.1 in
    let w = get-inside k.waiters.items m.0.tag (of-within k sound i m.0.tag used of) in
    (m.0.tag, shown_of k.nodes.items w.0, of, shown-at k.nodes.items k.waiters.items m.0.tag w.0 w.1)

module _ (first now after : Kept) (e : Ev) (code : ℕ) (old new more : List ℕ) (stays i stands n : ℕ) (going : Going first now e code old new stays i) (some : i ≢ none)
    (at : ℕ) (s : Shown) (of : IsOf now at i) (here : slice_get (shown_by now) at ≡ Some s)
    (behind_it : (xs ys : List ℕ) → IsNodes after code (xs ++ ys) → last_in none xs ≡ stands → n ≡ first_from ys) where
  behind_last : (l : ℕ) → stands ≡ l → (xs ys : List ℕ) → IsNodes after code (xs ++ ys) → last_in none xs ≡ l → n ≡ first_from ys
  behind_last l is = let P : ℕ → Type 0 = λ m. (xs ys : List ℕ) → IsNodes after code (xs ++ ys) → last_in none xs ≡ m → n ≡ first_from ys in subst P is behind_it

  step-by : passed_by s ≡ true → after ≡ now → more ≡ new → stands ≡ i → Going first after e code old more stands n × (to_go after n < to_go now i)
  step-by mark kept_is out_is stands_is =
      let K : Kept → Type 0 = λ k. (xs ys : List ℕ) → IsNodes k code (xs ++ ys) → last_in none xs ≡ i → n ≡ first_from ys in
      let behind : (xs ys : List ℕ) → IsNodes now code (xs ++ ys) → last_in none xs ≡ i → n ≡ first_from ys = subst K kept_is (behind_last i stands_is) in
      let P : Kept → Type 0 = λ k. Going first k e code old more stands n × (to_go k n < to_go now i) in
      let Q : List ℕ → Type 0 = λ l. Going first now e code old l stands n × (to_go now n < to_go now i) in
      let R : ℕ → Type 0 = λ m. Going first now e code old new m n × (to_go now n < to_go now i) in
      subst P (sym kept_is) (subst Q (sym out_is) (subst R (sym stands_is)
      (going-by first now e code old new stays i going some at s of here mark n behind, by-smaller first now e code old new stays i going some at s of here mark n behind)))

  -- the node stays
  pub step-stays : (passed_by s || not s.for_all) ≡ true → IsSound after → after.places ≡ now.places → (passed_by s ≡ true → (after ≡ now) × (more ≡ new))
      → (passed_by s ≡ false → s.for_all ≡ false → IsOver now after at s × (more ≡ new ++ s.serial ∷ [])) → stands ≡ i → Going first after e code old more stands n × (to_go after n < to_go now i)
  step-stays stay after_sound after_places by ends stands_is = by_test (passed_by s) refl
    where
      any_kind : (b : Bool) → (false || not b) ≡ true → b ≡ false
      any_kind true is = absurd (true≢false (sym is))
      any_kind false is = refl

      by_test : (b : Bool) → passed_by s ≡ b → Going first after e code old more stands n × (to_go after n < to_go now i)
      by_test true mark = step-by mark (by mark).0 (by mark).1 stands_is
      by_test false active =
          let kind : s.for_all ≡ false = any_kind s.for_all (sym (ap (λ b. b || not s.for_all) active) ∙ stay) in
          let over = ends active kind in
          let R : ℕ → Type 0 = λ m. Going first after e code old more m n × (to_go after n < to_go now i) in
          subst R (sym stands_is) (
            going-over first now e code old new stays i going some at s of here active kind after after_sound after_places over.0 more over.1 n (behind_last i stands_is),
            over-smaller first now e code old new stays i going some at s of here active kind after after_sound after_places over.0 more over.1 n (behind_last i stands_is),
          )

  -- the node goes
  pub step-struck : (passed_by s || not s.for_all) ≡ false → IsSound after → after.places ≡ now.places → IsShorter now after at i s × IsCutAt now after at
      → ((t : Shown) → slice_get (shown_by after) at ≡ Some t → more ≡ new ++ cond (length t.events == 0) (s.serial ∷ []) []) → stands ≡ stays → Going first after e code old more stands n × (to_go after n < to_go now i)
  step-struck goes after_sound after_places less told_more stands_is =
      let parts = neither (passed_by s) (not s.for_all) goes in
      let kind = all_kind s.for_all parts.1 in
      let R : ℕ → Type 0 = λ m. Going first after e code old more m n × (to_go after n < to_go now i) in
      subst R (sym stands_is) (
        going-struck first now e code old new stays i going some at s of here parts.0 kind after after_sound after_places less.0 less.1 more told_more n (behind_last stays stands_is),
        struck-smaller first now e code old new stays i going some at s of here parts.0 kind after after_sound after_places less.0 less.1 more told_more n (behind_last stays stands_is),
      )
    where
      all_kind : (b : Bool) → not b ≡ false → b ≡ true
      all_kind true is = refl
      all_kind false is = absurd (true≢false is)

-- the only node of a list is struck, which stands in a wait for any
module _ (k after : Kept) (e : Ev) (code : ℕ) (old more : List ℕ) (i at : ℕ) (s : Shown) (going : Going k k e code old old none i) (some : i ≢ none) (of : IsOf k at i) (here : slice_get (shown_by k) at ≡ Some s)
    (last : next_of (by_event k.nodes.items i) ≡ none) (kind : s.for_all ≡ false) (after_sound : IsSound after) (after_places : after.places ≡ k.places)
    (passes : passed_by s ≡ true → (after ≡ k) × (more ≡ old)) (ends : passed_by s ≡ false → s.for_all ≡ false → IsOver k after at s × (more ≡ old ++ s.serial ∷ [])) where
  same_by : (b : Bool) → passed_by s ≡ b → after.nodes ≡ k.nodes
  same_by true mark = ap (λ (x : Kept). x.nodes) (passes mark).0
  same_by false active = (ends active kind).0.nodes

  behind_only : (xs ys : List ℕ) → IsNodes after code (xs ++ ys) → last_in none xs ≡ i → none ≡ first_from ys
  behind_only xs ys list is =
      sym (ap (λ j. next_of (by_event after.nodes.items j)) is ∙ ap (λ v. next_of (by_event v.items i)) (same_by (passed_by s) refl) ∙ last)
      ∙ behind-stays after after_sound code xs ys list (λ gone. some (sym is ∙ gone))

  stays_there : (passed_by s || not s.for_all) ≡ true
  stays_there = ap (λ b. passed_by s || not b) kind ∙ or_true (passed_by s)
    where
      or_true : (b : Bool) → (b || true) ≡ true
      or_true true = refl
      or_true false = refl

  pub going-only : Going k after e code old more i none
  going-only = (step-stays k k after e code old old more none i i none going some at s of here behind_only stays_there after_sound after_places passes ends refl).0

  pub only-rises : (n : ℕ) → n ≡ length old → IsStrictlyIncreasing (drop n more)
  only-rises n is = by (passed_by s) refl
    where
      P : List ℕ → Type 0
      P l = IsStrictlyIncreasing (drop n l)

      by : (b : Bool) → passed_by s ≡ b → IsStrictlyIncreasing (drop n more)
      by true mark = subst P (sym (passes mark).1) (none-behind old n is)
      by false active = subst P (sym (ends active kind).1) (one-behind old s.serial n is)
