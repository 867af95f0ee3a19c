-- A node more, and a place more.
use Rattle.std.proofs.Common.{◌≡◌, ℕ, ◌+◌, ◌<◌, ◌≤◌, ◌≢◌, Bool, true, false, true≢false, cond, List, [], ◌∷◌, ◌++◌, length, Option, Some, None, refl, sym, ap, ◌∙◌, subst, arith, ne_eqb, ⊎_elim}
use Rattle.std.specs.Prelude.{slice_get, ◌==◌}
use Rattle.std.specs.List.{sum_by}
use Rattle.std.proofs.lemmas.Bool.{cases_eq}
use Rattle.std.proofs.lemmas.List.{length-append, length-map}
use Rattle.std.proofs.lemmas.List.Sums.{sum_by-append, sum_by-cons}
use Rattle.std.proofs.lemmas.Option.{slice_get_within, slice_get_past}
use Rattle.wait_lists.specs.declared.heads.Firsts.{Firsts}
use Rattle.wait_lists.specs.declared.nodes.Node.{Node}
use Rattle.wait_lists.specs.declared.waiter.Waiter.{Waiter}
use Rattle.std.specs.Ordering.{nat_cmp}
use Rattle.std.specs.FinMap as maps
use Rattle.wait_lists.specs.Shown.{Shown, shown_at, waits_of}
use Rattle.wait_lists.specs.Chains.{none, loose, free, Link, Links, next_of, prev_of, has_tag, IsList, put}
use Rattle.wait_lists.specs.Nodes.{event_link, wait_link, by_event, by_wait, at_tag, first_in, IsHeads, events_from, shown_of, shown}
use Rattle.wait_lists.specs.Layout.{Fit, Seats, serial_of}
use Rattle.wait_lists.proofs.HeadLemmas.{first-same, heads-same}
use Rattle.wait_lists.proofs.Counted.{times, times-same, times-other}
use Rattle.wait_lists.proofs.Places.{slice_get-push_last, slice_get-push_other}
use Rattle.wait_lists.proofs.Chains.{In, goes-same, lives, list-put_here, list-put_other, tag-put_other, tag-put_at}
use Rattle.wait_lists.proofs.NodeLemmas.{outside-event, event-there}
use Rattle.wait_lists.proofs.EventLemmas.{events-same, event-tags}
use Rattle.wait_lists.proofs.Moved.{untagged, IsSome-tag}
use Rattle.wait_lists.proofs.ByPlace.{same-told}
use Rattle.wait_lists.proofs.Telling.{shown-serial}
use Rattle.wait_lists.proofs.Refit.{same_by_get, shown_opt, shown-get, events-row, one-list}

tagged_some : (c : ℕ) (o : Option Link) → o ≡ None → has_tag c o ≡ true → ⊥
tagged_some c o is tagged = true≢false (sym tagged ∙ ap (has_tag c) is)

-- a list stays where one node more is there that is not of its tag
pub grow-list : (L M : Links) (last : ℕ) (k : Link) → L last ≡ None → M last ≡ Some k → ((j : ℕ) → j ≢ last → M j ≡ L j) → (c first : ℕ) (ns : List ℕ) → k.tag ≢ c → IsList L c first ns → IsList M c first ns
grow-list L M last k was now same c first ns apart list =
    let away : (j : ℕ) → In j ns → j ≢ last = λ j m e. tagged_some c (L j) (ap L e ∙ was) (lives L c first ns list j m) in
    record {
      goes = goes-same L M ns none first (λ j m. ap next_of (same j (away j m))) (λ j m. ap prev_of (same j (away j m))) list.goes;
      each = λ j. ⊎_elim
          (λ (e : j ≡ last). list.each j ∙ ap (λ o. cond (has_tag c o) 1 0) (ap L e ∙ was) ∙ sym (ap (λ o. cond (has_tag c o) 1 0) (ap M e ∙ now) ∙ ap (λ b. cond b 1 0) (ne_eqb k.tag c apart)))
          (λ other. list.each j ∙ ap (λ o. cond (has_tag c o) 1 0) (sym (same j other)))
          (cases_eq j last);
    }

module _ (es : List (ℕ × ℕ)) (ws : List Waiter) (vacant : List ℕ) (nodes mid new : List Node) (n : Node) (heads ends : Firsts) (fr fe total : ℕ) (fit : Fit es ws vacant nodes heads fr total)
    (mid_is : mid ≡ nodes ++ n ∷ []) (event : event_link (Some n) ≡ Some (record { tag = loose; next = none; prev = none })) (wait : wait_link (Some n) ≡ Some (record { tag = none; next = none; prev = none }))
    (few : length nodes < none) (i : ℕ) (i_is : i ≡ length nodes)
    (e2 : (j : ℕ) → by_event new j ≡ put free i (first_in heads fr free) (by_event mid) j) (w2 : (j : ℕ) → by_wait new j ≡ by_wait mid j)
    (f2 : (c : ℕ) → first_in ends fe c ≡ cond (c == free) i (first_in heads fr c))
    (heads_are : IsHeads ends) (room : length nodes + 1 ≤ length heads.far.entries + heads.far.spare) (places : length ends.far.entries + ends.far.spare ≡ length heads.far.entries + heads.far.spare)
    (len : length new ≡ length mid) where
  k : Link
  k = record { tag = loose; next = none; prev = none }

  m : Link
  m = record { tag = none; next = none; prev = none }

  mid_len : length mid ≡ length nodes + 1
  mid_len = ap length mid_is ∙ length-append nodes (n ∷ [])

  few_mid : length mid ≤ none
  few_mid = omega (arith, mid_len)

  few_new : length new ≤ none
  few_new = omega (arith, mid_len)

  old_event : by_event nodes i ≡ None
  old_event = ap event_link (slice_get_past nodes i (omega arith))

  old_wait : by_wait nodes i ≡ None
  old_wait = ap wait_link (slice_get_past nodes i (omega arith))

  get_last : slice_get mid i ≡ Some n
  get_last = ap (λ l. slice_get l i) mid_is ∙ ap (slice_get (nodes ++ n ∷ [])) i_is ∙ slice_get-push_last nodes n

  get_other : (j : ℕ) → j ≢ i → slice_get mid j ≡ slice_get nodes j
  get_other j apart = ap (λ l. slice_get l j) mid_is ∙ slice_get-push_other nodes n j (λ e. apart (e ∙ sym i_is))

  mid_event : by_event mid i ≡ Some k
  unfolding k
  mid_event = ap event_link get_last ∙ event

  mid_wait : by_wait mid i ≡ Some m
  unfolding m
  mid_wait = ap wait_link get_last ∙ wait

  mid_list : (c first : ℕ) (ns : List ℕ) → 0 < c → IsList (by_event nodes) c first ns → IsList (by_event mid) c first ns
  unfolding k
  mid_list c first ns some list = grow-list (by_event nodes) (by_event mid) i k old_event mid_event (λ j apart. ap event_link (get_other j apart)) c first ns (λ e. absurd (omega arith)) list

  frees : (ns : List ℕ) × IsList (by_event nodes) free (first_in heads fr free) ns
  frees = fit.lists free (omega arith)

  loose_apart : (c : ℕ) → 0 < c → k.tag ≢ c
  unfolding k
  loose_apart c some e = absurd (omega arith)

  free_list : IsList (by_event new) free (first_in ends fe free) (i ∷ frees.0)
  free_list =
      let P : ℕ → Type 0 = λ f. IsList (by_event new) free f (i ∷ frees.0) in
      let Q : Links → Type 0 = λ L. IsList L free i (i ∷ frees.0) in
      subst P (sym (f2 free)) (subst Q (λ x j. sym (e2 j) x)
      (list-put_here (by_event mid) (outside-event mid few_mid) i free (first_in heads fr free) frees.0 k mid_event (loose_apart free (omega arith)) (mid_list free (first_in heads fr free) frees.0 (omega arith) frees.1)))

  other_list : (c : ℕ) (ns : List ℕ) → 0 < c → c ≢ free → IsList (by_event nodes) c (first_in heads fr c) ns → IsList (by_event new) c (first_in ends fe c) ns
  other_list c ns some other list =
      let P : ℕ → Type 0 = λ f. IsList (by_event new) c f ns in
      let Q : Links → Type 0 = λ L. IsList L c (first_in heads fr c) ns in
      subst P (sym (f2 c ∙ ap (λ b. cond b i (first_in heads fr c)) (ne_eqb c free other))) (subst Q (λ x j. sym (e2 j) x)
      (list-put_other (by_event mid) (outside-event mid few_mid) i free (first_in heads fr free) frees.0 k mid_event (loose_apart free (omega arith)) (mid_list free (first_in heads fr free) frees.0 (omega arith) frees.1)
      c (first_in heads fr c) ns other (loose_apart c some) (mid_list c (first_in heads fr c) ns some list)))

  tags_other : (c j : ℕ) → j ≢ i → has_tag c (by_event new j) ≡ has_tag c (by_event nodes j)
  tags_other c j apart =
      ap (has_tag c) (e2 j)
      ∙ tag-put_other (by_event mid) (outside-event mid few_mid) i free (first_in heads fr free) frees.0 k mid_event (loose_apart free (omega arith)) (mid_list free (first_in heads fr free) frees.0 (omega arith) frees.1) c j apart
      ∙ ap (λ o. has_tag c (event_link o)) (get_other j apart)

  tag_last : (c : ℕ) → has_tag c (by_event new i) ≡ (free == c)
  tag_last c =
      ap (has_tag c) (e2 i)
      ∙ tag-put_at (by_event mid) (outside-event mid few_mid) i free (first_in heads fr free) frees.0 k mid_event (loose_apart free (omega arith)) (mid_list free (first_in heads fr free) frees.0 (omega arith) frees.1) c

  wait_other : (j : ℕ) → j ≢ i → by_wait new j ≡ by_wait nodes j
  wait_other j apart = w2 j ∙ ap wait_link (get_other j apart)

  wait_last : by_wait new i ≡ Some m
  wait_last = w2 i ∙ mid_wait

  row_list : (at first : ℕ) (ns : List ℕ) → at < length ws → IsList (by_wait nodes) at first ns → IsList (by_wait new) at first ns
  unfolding m
  row_list at first ns inside list = grow-list (by_wait nodes) (by_wait new) i m old_wait wait_last wait_other at first ns (λ e. absurd (omega (arith, fit.few_places))) list

  pub grown-shown : shown new ws ≡ shown nodes ws
  grown-shown = same_by_get (shown new ws) (shown nodes ws) (λ j. shown-get new ws j ∙ each j (slice_get ws j) refl ∙ sym (shown-get nodes ws j))
    where
      each : (j : ℕ) (o : Option Waiter) → slice_get ws j ≡ o → shown_opt new o ≡ shown_opt nodes o
      each j None found = refl
      each j (Some w) found =
          let row = fit.rows j w found in
          let same : events_from new w.first ≡ events_from nodes w.first =
          events-row new j w.first row.0 few_new (row_list j w.first row.0 (slice_get_within ws j w found) row.1)
          ∙ events-same (by_event new) (by_event nodes) row.0 (λ q member. event-tags (by_event new q) (by_event nodes q) (λ c. tags_other c q (λ e. tagged_some j (by_wait nodes q) (ap (by_wait nodes) e ∙ old_wait) (lives (by_wait nodes) j w.first row.0 row.1 q member))))
          ∙ sym (events-row nodes j w.first row.0 fit.few_nodes row.1) in
          ap (λ l. Some (record (shown_of nodes w) { events = l })) same

  pub grown-fit : Fit es ws vacant new ends fe total
  unfolding m
  grown-fit = record {
    seats = let P : List Shown → Type 0 = λ l. Seats es l vacant in subst P (sym grown-shown) fit.seats;
    lists = λ c some. let old = fit.lists c some in ⊎_elim
        (λ (e : c ≡ free). let P : ℕ → Type 0 = λ d. (ns : List ℕ) × IsList (by_event new) d (first_in ends fe d) ns in subst P (sym e) (i ∷ frees.0, free_list))
        (λ other. (old.0, other_list c old.0 some other old.1))
        (cases_eq c free);
    rows = λ at w found. let row = fit.rows at w found in (row.0, row_list at w.first row.0 (slice_get_within ws at w found) row.1);
    homes = λ j c w tagged waits. ⊎_elim
        (λ (e : j ≡ i).
        let c_is : free ≡ c = untagged free i c (sym (tag_last c) ∙ ap (λ x. has_tag c (by_event new x)) (sym e) ∙ tagged) in
        let w_is : none ≡ w = untagged none i w (sym (ap (has_tag w) wait_last) ∙ ap (λ x. has_tag w (by_wait new x)) (sym e) ∙ waits) in
        record { listed = omega arith; alone = λ _. sym w_is; at_home = λ more. absurd (omega arith) })
        (λ apart. fit.homes j c w (sym (tags_other c j apart) ∙ tagged) (ap (has_tag w) (sym (wait_other j apart)) ∙ waits))
        (cases_eq j i);
    heads_are = heads_are;
    sums = record {
      fits = let P : List Shown → Type 0 = λ l. (at : ℕ) (s : Shown) → slice_get l at ≡ Some s → length s.events ≤ s.room in subst P (sym grown-shown) fit.sums.fits;
      in_all = fit.sums.in_all ∙ ap (sum_by (λ (s : Shown). s.room)) (sym grown-shown);
      enough = omega (arith, fit.sums.enough, mid_len);
      counts = λ fs list. omega (
        arith,
        ap length (one-list new free fe fs (i ∷ frees.0) few_new list free_list),
        fit.sums.counts frees.0 frees.1,
        ap (sum_by (λ (s : Shown). length s.events)) grown-shown,
        mid_len,
      );
      roomy = omega (arith, mid_len);
    };
    few_nodes = few_new;
    few_places = fit.few_places;
  }

-- more room for lists of events is no less
pub fit-heads : (es : List (ℕ × ℕ)) (ws : List Waiter) (vacant : List ℕ) (nodes : List Node) (heads ends : Firsts) (fr total : ℕ) → Fit es ws vacant nodes heads fr total
    → ends.far.entries ≡ heads.far.entries → ((c : ℕ) → at_tag ends.near.items c ≡ at_tag heads.near.items c) → heads.far.spare ≤ ends.far.spare → Fit es ws vacant nodes ends fr total
fit-heads es ws vacant nodes heads ends fr total fit same near more = record {
  seats = fit.seats;
  lists = λ c some.
      let old = fit.lists c some in
      let P : ℕ → Type 0 = λ first. IsList (by_event nodes) c first old.0 in
      (old.0, subst P (sym (first-same heads ends fr same near c)) old.1);
  rows = fit.rows;
  homes = fit.homes;
  heads_are = heads-same heads ends same near fit.heads_are;
  sums = record { fits = fit.sums.fits; in_all = fit.sums.in_all; enough = fit.sums.enough; counts = fit.sums.counts; roomy = omega (arith, ap length same, fit.sums.roomy) };
  few_nodes = fit.few_nodes;
  few_places = fit.few_places;
}

shown-push : (nodes : List Node) (ws : List Waiter) (w : Waiter) → shown nodes (ws ++ w ∷ []) ≡ shown nodes ws ++ shown_of nodes w ∷ []
shown-push nodes [] w = refl
shown-push nodes (v ∷ ws) w = ap (λ l. shown_of nodes v ∷ l) (shown-push nodes ws w)

empty_is : (xs : List ℕ) → length xs ≡ 0 → xs ≡ []
empty_is [] is = refl
empty_is (x ∷ xs) is = absurd (omega arith)

-- a place that no instance has
module _ (es : List (ℕ × ℕ)) (ws vs : List Waiter) (vacant left : List ℕ) (nodes : List Node) (heads : Firsts) (fr total : ℕ) (fit : Fit es ws vacant nodes heads fr total)
    (w : Waiter) (first : w.first ≡ none) (room : w.room ≡ 0) (taken : length vacant ≡ 0) (few : length ws < none) (at : ℕ) (at_is : at ≡ length ws)
    (vs_is : vs ≡ ws ++ w ∷ []) (left_is : left ≡ vacant ++ at ∷ []) where
  len : length vs ≡ length ws + 1
  len = ap length vs_is ∙ length-append ws (w ∷ [])

  shown_len : length (shown nodes ws) ≡ length ws
  shown_len = length-map ws (λ (v : Waiter). shown_of nodes v)

  now : shown nodes vs ≡ shown nodes ws ++ shown_of nodes w ∷ []
  now = ap (shown nodes) vs_is ∙ shown-push nodes ws w

  one_left : left ≡ at ∷ []
  one_left = left_is ∙ ap (λ l. l ++ at ∷ []) (empty_is vacant taken)

  read_last : (j : ℕ) → j ≡ at → slice_get (shown nodes vs) j ≡ Some (shown_of nodes w)
  read_last j e = ap (λ l. slice_get l j) now ∙ ap (slice_get (shown nodes ws ++ shown_of nodes w ∷ [])) (e ∙ at_is ∙ sym shown_len) ∙ slice_get-push_last (shown nodes ws) (shown_of nodes w)

  read_other : (j : ℕ) → j ≢ at → slice_get (shown nodes vs) j ≡ slice_get (shown nodes ws) j
  read_other j apart = ap (λ l. slice_get l j) now ∙ slice_get-push_other (shown nodes ws) (shown_of nodes w) j (λ e. apart (e ∙ shown_len ∙ sym at_is))

  waiter_other : (j : ℕ) → j ≢ at → slice_get vs j ≡ slice_get ws j
  waiter_other j apart = ap (λ l. slice_get l j) vs_is ∙ slice_get-push_other ws w j (λ e. apart (e ∙ sym at_is))

  waiter_last : (j : ℕ) → j ≡ at → slice_get vs j ≡ Some w
  waiter_last j e = ap (λ l. slice_get l j) vs_is ∙ ap (slice_get (ws ++ w ∷ [])) (e ∙ at_is) ∙ slice_get-push_last ws w

  place_other : (q j : ℕ) → maps.find nat_cmp q es ≡ Some j → j ≢ at
  place_other q j found e =
      let one = shown-serial (slice_get (shown nodes ws) j) q (fit.seats.placed q j found).0 in
      let inside : j < length (shown nodes ws) = slice_get_within (shown nodes ws) j one.0 one.1 in
      absurd (omega (arith, shown_len))

  none_of : (j : ℕ) → has_tag at (by_wait nodes j) ≡ false
  none_of j = by_test (has_tag at (by_wait nodes j)) refl
    where
      by_test : (b : Bool) → has_tag at (by_wait nodes j) ≡ b → b ≡ false
      by_test false is = refl
      by_test true is = by_link (by_wait nodes j) refl
        where
          by_link : (o : Option Link) → by_wait nodes j ≡ o → true ≡ false
          by_link None found = absurd (tagged_some at (by_wait nodes j) found is)
          by_link (Some m) found =
              let l = event-there nodes j m found in
              let home = fit.homes j l.0.tag at (IsSome-tag (by_event nodes j) l.0 l.1) is in
              ⊎_elim
              (λ (e : l.0.tag ≡ free). let no : at ≡ none = home.alone e in absurd (omega arith))
              (λ apart. ⊎_elim
              (λ (z : l.0.tag ≡ 0). let some : 0 < l.0.tag = home.listed in absurd (omega arith))
              (λ more. let no : at < length ws = home.at_home (two l.0.tag more apart) in absurd (omega arith))
              (cases_eq l.0.tag 0))
              (cases_eq l.0.tag free)
            where
              two : (t : ℕ) → t ≢ 0 → t ≢ free → 1 < t
              two t some apart = ⊎_elim (λ (e : t ≡ 1). absurd (apart e)) (λ other. omega (arith, some, other)) (cases_eq t 1)

  empty_row : IsList (by_wait nodes) at none []
  empty_row = record { goes = refl; each = λ j. sym (ap (λ b. cond b 1 0) (none_of j)) }

  no_events : length (shown_of nodes w).events ≡ 0
  no_events = ap (λ f. length (events_from nodes f)) first ∙ ap length (events-row nodes at none [] fit.few_nodes empty_row)

  pub place-fit : Fit es vs left nodes heads fr total
  place-fit = record {
    seats = record {
      placed = λ q j found. let old = fit.seats.placed q j found in (ap serial_of (read_other j (place_other q j found)) ∙ old.0, old.1);
      owned = λ j x found some. ⊎_elim
          (λ (e : j ≡ at). let same : Some (shown_of nodes w) ≡ Some x = sym (read_last j e) ∙ found in let alike : shown_of nodes w ≡ x = cc in absurd (omega (arith, ap (λ (y : Shown). y.room) alike)))
          (λ apart. fit.seats.owned j x (sym (read_other j apart) ∙ found) some)
          (cases_eq j at);
      vacated = λ j empty. ⊎_elim
          (λ (e : at ≡ j). (shown_of nodes w, read_last j (sym e), room, λ q found. place_other q j found (sym e)))
          (λ apart. absurd (omega (arith, empty, ap (times j) one_left, times-other j at [] apart)))
          (cases_eq at j);
      apart = λ j. ⊎_elim
          (λ (e : at ≡ j). omega (arith, ap (times j) one_left, times-same j at [] e))
          (λ away. omega (arith, ap (times j) one_left, times-other j at [] away))
          (cases_eq at j);
    };
    lists = fit.lists;
    rows = λ j v found. ⊎_elim
        (λ (e : j ≡ at).
        let same : Some w ≡ Some v = sym (waiter_last j e) ∙ found in
        let alike : w ≡ v = cc in
        let P : ℕ → Type 0 = λ a. IsList (by_wait nodes) a v.first [] in
        let Q : ℕ → Type 0 = λ f. IsList (by_wait nodes) at f [] in
        ([], subst P (sym e) (subst Q (sym first ∙ ap (λ (x : Waiter). x.first) alike) empty_row)))
        (λ apart. fit.rows j v (sym (waiter_other j apart) ∙ found))
        (cases_eq j at);
    homes = λ j c v tagged waits. let old = fit.homes j c v tagged waits in
        record { listed = old.listed; alone = old.alone; at_home = λ more. let before : v < length ws = old.at_home more in omega (arith, len) };
    heads_are = fit.heads_are;
    sums = record {
      fits = λ j x found. ⊎_elim
          (λ (e : j ≡ at). let same : Some (shown_of nodes w) ≡ Some x = sym (read_last j e) ∙ found in let alike : shown_of nodes w ≡ x = cc in omega (arith, ap (λ (y : Shown). length y.events) alike, no_events))
          (λ apart. fit.sums.fits j x (sym (read_other j apart) ∙ found))
          (cases_eq j at);
      in_all = omega (arith, fit.sums.in_all, ap (sum_by (λ (s : Shown). s.room)) now, sum_by-append (λ (s : Shown). s.room) (shown nodes ws) (shown_of nodes w ∷ []), sum_by-cons (λ (s : Shown). s.room) (shown_of nodes w) []);
      enough = fit.sums.enough;
      counts = λ fs list. omega (
        arith,
        fit.sums.counts fs list,
        ap (sum_by (λ (s : Shown). length s.events)) now,
        sum_by-append (λ (s : Shown). length s.events) (shown nodes ws) (shown_of nodes w ∷ []),
        sum_by-cons (λ (s : Shown). length s.events) (shown_of nodes w) [],
        no_events,
      );
      roomy = fit.sums.roomy;
    };
    few_nodes = fit.few_nodes;
    few_places = omega (arith, len);
  }

  pub place-waits : waits_of (shown nodes vs) es ≡ waits_of (shown nodes ws) es
  place-waits = same-told (shown nodes ws) (shown nodes vs) es es 0 (λ q apart. by_place q (maps.find nat_cmp q es) refl) (by_place 0 (maps.find nat_cmp 0 es) refl)
    where
      by_place : (q : ℕ) (o : Option ℕ) → maps.find nat_cmp q es ≡ o → shown_at (shown nodes vs) o ≡ shown_at (shown nodes ws) o
      by_place q None found = refl
      by_place q (Some j) found = read_other j (place_other q j found)
