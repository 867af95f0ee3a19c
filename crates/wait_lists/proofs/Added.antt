-- A free node stands for an event from now on, for which a waiter waits.
use Rattle.std.proofs.Common.{◌≡◌, ℕ, ◌+◌, ◌<◌, ◌≤◌, ◌≢◌, true, true≢false, cond, List, [], ◌∷◌, length, set, Option, Some, None, refl, sym, ap, ◌∙◌, subst, arith, eq-eqb, ne_eqb, ⊎_elim}
use Rattle.std.specs.Prelude.{slice_get, ◌==◌}
use Rattle.std.specs.Ordering.{nat_cmp}
use Rattle.std.specs.FinMap as maps
use Rattle.std.proofs.lemmas.Bool.{cases_eq}
use Rattle.std.proofs.lemmas.Option.{slice_get_within}
use Rattle.event_core.specs.declared.event.Ev.{Ev}
use Rattle.wait_lists.specs.declared.heads.Firsts.{Firsts}
use Rattle.wait_lists.specs.declared.nodes.Node.{Node}
use Rattle.wait_lists.specs.declared.waiter.Waiter.{Waiter}
use Rattle.wait_lists.specs.Shown.{Shown}
use Rattle.wait_lists.specs.Chains.{none, loose, free, Link, has_tag, IsList, leave, cut, put, first_after}
use Rattle.wait_lists.specs.Nodes.{by_event, by_wait, event_of, first_in, first_at, IsHeads, AllHome, refirst, event_at, events_at, events_from, shown_of, shown}
use Rattle.wait_lists.specs.declared.layout.Kept.{Kept}
use Rattle.wait_lists.specs.Layout.{Fit, shown_by}
use Rattle.wait_lists.proofs.Counted.{times, times-same}
use Rattle.wait_lists.proofs.Chains.{in_list, out_of, lives, length-leave, once_in}
use Rattle.wait_lists.proofs.HeadLemmas.{lists-few}
use Rattle.wait_lists.proofs.NodeLemmas.{wait-there, outside-event, outside-wait, event-within}
use Rattle.wait_lists.proofs.EventLemmas.{events-same, event-tags}
use Rattle.wait_lists.proofs.Moved.{cut-here, cut_out, moved-here, moved-other, moved-tags, moved-tag, joined-here, joined-other, joined-rows, joined-tags, joined-tag, IsSome-tag, tag-none, untagged}
use Rattle.wait_lists.proofs.Refit.{get-inside, shown-at, events-row, one-list, shown-changed, seats-set, sum-set, sum-spare, fits-set}

module _ (es : List (ℕ × ℕ)) (ws : List Waiter) (vacant : List ℕ) (nodes : List Node) (heads : Firsts) (fr total : ℕ) (fit : Fit es ws vacant nodes heads fr total) where
  frees : (ns : List ℕ) × IsList (by_event nodes) free fr ns
  frees = fit.lists free (omega arith)

  -- there is a free node, if one waits for fewer events than it has room for
  pub free-there : (at : ℕ) (s : Shown) → slice_get (shown nodes ws) at ≡ Some s → length s.events < s.room → has_tag free (by_event nodes fr) ≡ true
  free-there at s here less = by_list frees.0 frees.1 (omega (arith, fit.sums.counts frees.0 frees.1, fit.sums.enough, fit.sums.in_all, sum-spare (shown nodes ws) at s here fit.sums.fits))
    where
      by_list : (ns : List ℕ) → IsList (by_event nodes) free fr ns → 1 ≤ length ns → has_tag free (by_event nodes fr) ≡ true
      by_list [] list some = absurd (omega arith)
      by_list (x ∷ xs) list some = ap (λ k. has_tag free (by_event nodes k)) list.goes.0 ∙ lives (by_event nodes) free fr (x ∷ xs) list x (omega (arith, times-same x x xs refl))

  pub link-there : (c : ℕ) (o : Option Link) → has_tag c o ≡ true → (l : Link) × (o ≡ Some l) × (l.tag ≡ c)
  link-there c None is = absurd (true≢false (sym is))
  link-there c (Some l) is = (l, refl, tag-none c (Some l) l refl is)

  module _ (mid : List Node) (mids : Firsts) (fm i : ℕ) (l : Link) (here : by_event nodes i ≡ Some l) (was_free : l.tag ≡ free)
      (e1 : (j : ℕ) → by_event mid j ≡ cut loose i l (by_event nodes) j) (f1 : (c : ℕ) → first_in mids fm c ≡ first_after c l (first_in heads fr c))
      (mid_heads : IsHeads mids) (mid_places : length mids.far.entries + mids.far.spare ≡ length heads.far.entries + heads.far.spare)
      (mid_len : length mid ≡ length nodes) (code : ℕ) (event : 1 < code) where
    few_mid : length mid ≤ none
    few_mid = omega (arith, fit.few_nodes)

    out_list : (c : ℕ) (ns : List ℕ) → 0 < c → IsList (by_event nodes) c (first_in heads fr c) ns → IsList (by_event mid) c (first_in mids fm c) (leave i ns)
    out_list c ns some list =
        cut_out (by_event nodes) (by_event mid) (put code i (first_in mids fm code) (by_event mid)) (outside-event nodes fit.few_nodes) (outside-event mid few_mid) i l here (omega arith) code (omega arith)
        (first_in heads fr) (first_in mids fm) (λ c. cond (c == code) i (first_in mids fm c)) fit.lists e1 f1 (λ _. refl) (λ _. refl) c ns some list

    -- there is room for one list more, since the node stands in none
    pub room-there : first_in mids fm code ≡ none → 0 < mids.far.spare
    room-there none_yet =
        let k = cut-here (by_event nodes) loose i l here in
        let tag : has_tag loose (by_event mid i) ≡ true = ap (has_tag loose) (e1 i ∙ k.1) ∙ eq-eqb k.0.tag loose k.2 in
        let absent : maps.find nat_cmp loose mids.far.entries ≡ None = none_found (maps.find nat_cmp loose mids.far.entries) refl in
        omega (
          arith,
          fit.sums.roomy,
          lists-few (by_event mid) mids fm (length mid) i loose mid_heads (λ c some. let old = fit.lists c some in (leave i old.0, out_list c old.0 some old.1)) (event-within mid) tag absent,
        )
      where
        none_found : (o : Option ℕ) → maps.find nat_cmp loose mids.far.entries ≡ o → o ≡ None
        none_found None found = refl
        none_found (Some h) found = let no : 1 < loose = (mid_heads.begins loose h found).0 in absurd (omega arith)

    module _ (new : List Node) (ends : Firsts) (fe : ℕ) (vs : List Waiter) (at : ℕ) (own : Waiter) (owner : slice_get ws at ≡ Some own) (inside : at < length ws)
        (e2 : (j : ℕ) → by_event new j ≡ put code i (first_in mids fm code) (by_event mid) j) (f2 : (c : ℕ) → first_in ends fe c ≡ cond (c == code) i (first_in mids fm c))
        (w1 : (j : ℕ) → by_wait new j ≡ put at i own.first (by_wait nodes) j) (firsts : (k : ℕ) → slice_get vs k ≡ refirst (first_at at i k) (slice_get ws k))
        (heads_are : IsHeads ends) (places : length ends.far.entries + ends.far.spare ≡ length mids.far.entries + mids.far.spare)
        (len : length new ≡ length nodes) (waiters_len : length vs ≡ length ws)
        (m : Link) (wait_here : by_wait nodes i ≡ Some m)
        (room : length (shown_of nodes own).events < (shown_of nodes own).room) where
      few_new : length new ≤ none
      few_new = omega (arith, fit.few_nodes)

      alone : m.tag ≡ none
      alone = (fit.homes i l.tag m.tag (IsSome-tag (by_event nodes i) l here) (IsSome-tag (by_wait nodes i) m wait_here)).alone was_free

      own_row : (ns : List ℕ) × IsList (by_wait nodes) at own.first ns
      own_row = fit.rows at own owner

      pub s : Shown
      s = shown_of nodes own

      pub evs : List Ev
      evs = event_of code ∷ s.events

      other_list : (c : ℕ) (ns : List ℕ) → 0 < c → c ≢ code → IsList (by_event nodes) c (first_in heads fr c) ns → IsList (by_event new) c (first_in ends fe c) (leave i ns)
      other_list c ns some other list =
          moved-other (by_event nodes) (by_event mid) (by_event new) (outside-event nodes fit.few_nodes) (outside-event mid few_mid) i l here (omega arith) code (omega arith)
          (first_in heads fr) (first_in mids fm) (first_in ends fe) fit.lists e1 f1 e2 f2 c ns some other list

      code_list : (ns : List ℕ) → IsList (by_event nodes) code (first_in heads fr code) ns → IsList (by_event new) code (first_in ends fe code) (i ∷ leave i ns)
      code_list ns list =
          moved-here (by_event nodes) (by_event mid) (by_event new) (outside-event nodes fit.few_nodes) (outside-event mid few_mid) i l here (omega arith) code (omega arith)
          (first_in heads fr) (first_in mids fm) (first_in ends fe) fit.lists e1 f1 e2 f2 ns list

      tags_other : (c j : ℕ) → j ≢ i → has_tag c (by_event new j) ≡ has_tag c (by_event nodes j)
      tags_other =
          moved-tags (by_event nodes) (by_event mid) (by_event new) (outside-event nodes fit.few_nodes) (outside-event mid few_mid) i l here (omega arith) code (omega arith)
          (first_in heads fr) (first_in mids fm) (first_in ends fe) fit.lists e1 f1 e2 f2

      tag_here : (c : ℕ) → has_tag c (by_event new i) ≡ (code == c)
      tag_here =
          moved-tag (by_event nodes) (by_event mid) (by_event new) (outside-event nodes fit.few_nodes) (outside-event mid few_mid) i l here (omega arith) code (omega arith)
          (first_in heads fr) (first_in mids fm) (first_in ends fe) fit.lists e1 f1 e2 f2

      wait_tags : (c j : ℕ) → j ≢ i → has_tag c (by_wait new j) ≡ has_tag c (by_wait nodes j)
      wait_tags = joined-tags (by_wait nodes) (by_wait new) (outside-wait nodes fit.few_nodes) i m wait_here alone ws vs fit.few_places at own owner fit.rows w1 firsts

      wait_tag : (c : ℕ) → has_tag c (by_wait new i) ≡ (at == c)
      wait_tag = joined-tag (by_wait nodes) (by_wait new) (outside-wait nodes fit.few_nodes) i m wait_here alone ws vs fit.few_places at own owner fit.rows w1 firsts

      homes_now : AllHome (by_event new) (by_wait new) (length vs)
      homes_now j c w tagged waits = ⊎_elim
          (λ (e : j ≡ i).
          let c_is : code ≡ c = untagged code i c (sym (tag_here c) ∙ ap (λ k. has_tag c (by_event new k)) (sym e) ∙ tagged) in
          let w_is : at ≡ w = untagged at i w (sym (wait_tag w) ∙ ap (λ k. has_tag w (by_wait new k)) (sym e) ∙ waits) in
          record { listed = omega arith; alone = λ is. absurd (omega arith); at_home = λ more. omega arith })
          (λ apart.
          let old = fit.homes j c w (sym (tags_other c j apart) ∙ tagged) (sym (wait_tags w j apart) ∙ waits) in
          record { listed = old.listed; alone = old.alone; at_home = λ more. let before : w < length ws = old.at_home more in omega arith })
          (cases_eq j i)

      -- a free node stands in the list of no waiter
      out_of_rows : (k : ℕ) (w : Waiter) (ns : List ℕ) → slice_get ws k ≡ Some w → IsList (by_wait nodes) k w.first ns → times i ns ≡ 0
      out_of_rows k w ns found list =
          let before : k < length ws = slice_get_within ws k w found in
          out_of (by_wait nodes) k w.first ns list i (ap (has_tag k) wait_here ∙ ne_eqb m.tag k (λ e. absurd (omega (arith, fit.few_places, alone))))

      kept_events : (ns : List ℕ) → times i ns ≡ 0 → events_at (by_event new) ns ≡ events_at (by_event nodes) ns
      kept_events ns out = events-same (by_event new) (by_event nodes) ns
          (λ j member. event-tags (by_event new j) (by_event nodes j) (λ c. tags_other c j (λ e. absurd (omega (arith, ap (λ k. times k ns) e, out, member)))))

      event_new : event_at (by_event new i) ≡ event_of code
      event_new = let k = link-there code (by_event new i) (tag_here code ∙ eq-eqb code code refl) in ap event_at k.1 ∙ ap event_of k.2

      pub added-shown : shown new vs ≡ set (shown nodes ws) at (record s { events = evs })
      unfolding s evs
      added-shown = shown-changed nodes new ws vs at own owner evs (λ k x. first_at at i k x) firsts
          (ap (events_from new) (ap (λ b. cond b i own.first) (eq-eqb at at refl))
          ∙ events-row new at i (i ∷ own_row.0) few_new (joined-here (by_wait nodes) (by_wait new) (outside-wait nodes fit.few_nodes) i m wait_here alone ws vs fit.few_places at own owner fit.rows w1 firsts own_row.0 own_row.1)
          ∙ (λ x. event_new x ∷ kept_events own_row.0 (out_of_rows at own own_row.0 owner own_row.1) x)
          ∙ ap (λ l. event_of code ∷ l) (sym (events-row nodes at own.first own_row.0 fit.few_nodes own_row.1)))
          (λ k w found apart.
          let row = fit.rows k w found in
          ap (events_from new) (ap (λ b. cond b i w.first) (ne_eqb k at apart))
          ∙ events-row new k w.first row.0 few_new (joined-other (by_wait nodes) (by_wait new) (outside-wait nodes fit.few_nodes) i m wait_here alone ws vs fit.few_places at own owner fit.rows w1 firsts k w row.0 found apart row.1)
          ∙ kept_events row.0 (out_of_rows k w row.0 found row.1)
          ∙ sym (events-row nodes k w.first row.0 fit.few_nodes row.1))

      shown_here : slice_get (shown nodes ws) at ≡ Some s
      unfolding s
      shown_here = shown-at nodes ws at own owner

      one_more : length evs ≡ length s.events + 1
      unfolding evs
      one_more = omega arith

      room_for_it : length s.events < s.room
      unfolding s
      room_for_it = room

      now : Shown
      now = record s { events = evs }

      pub added-fit : Fit es vs vacant new ends fe total
      unfolding now
      added-fit = record {
        seats = seats-set es (shown nodes ws) (shown new vs) vacant fit.seats at s now shown_here added-shown refl
            (λ some. fit.seats.owned at s shown_here some)
            (λ empty. let one = fit.seats.vacated at empty in let same : Some s ≡ Some one.0 = sym shown_here ∙ one.1 in let alike : s ≡ one.0 = cc in ap (λ x. x.room) alike ∙ one.2);
        lists = λ c some. let old = fit.lists c some in ⊎_elim
            (λ (e : c ≡ code). let P : ℕ → Type 0 = λ d. (ns : List ℕ) × IsList (by_event new) d (first_in ends fe d) ns in
            let codes = fit.lists code (omega arith) in subst P (sym e) (i ∷ leave i codes.0, code_list codes.0 codes.1))
            (λ other. (leave i old.0, other_list c old.0 some other old.1))
            (cases_eq c code);
        rows = joined-rows (by_wait nodes) (by_wait new) (outside-wait nodes fit.few_nodes) i m wait_here alone ws vs fit.few_places at own owner fit.rows w1 firsts;
        homes = homes_now;
        heads_are = heads_are;
        sums = record {
          fits = fits-set (shown nodes ws) (shown new vs) at s now shown_here added-shown fit.sums.fits (omega (arith, one_more, room_for_it));
          in_all = omega (arith, fit.sums.in_all, sum-set (shown nodes ws) (shown new vs) at s now shown_here added-shown (λ x. x.room));
          enough = omega (arith, fit.sums.enough);
          counts = λ fs list.
              let same : fs ≡ leave i frees.0 = one-list new free fe fs (leave i frees.0) few_new list (other_list free frees.0 (omega arith) (λ e. absurd (omega arith)) frees.1) in
              omega (
                arith,
                ap length same,
                length-leave i frees.0,
                in_list (by_event nodes) free fr frees.0 frees.1 i (ap (has_tag free) here ∙ eq-eqb l.tag free was_free),
                once_in (by_event nodes) free fr frees.0 frees.1 i,
                fit.sums.counts frees.0 frees.1,
                sum-set (shown nodes ws) (shown new vs) at s now shown_here added-shown (λ x. length x.events),
                one_more,
              );
          roomy = omega (arith, fit.sums.roomy);
        };
        few_nodes = few_new;
        few_places = omega (arith, fit.few_places);
      }

-- what a call leaves that adds an event
module _ (old new : Kept) (fit : Fit old.places.entries old.waiters.items old.vacant.items old.nodes.items old.heads.events old.heads.free old.total)
    (mid : List Node) (mids : Firsts) (fm i : ℕ) (l : Link) (here : by_event old.nodes.items i ≡ Some l) (was_free : l.tag ≡ free)
    (e1 : (j : ℕ) → by_event mid j ≡ cut loose i l (by_event old.nodes.items) j) (f1 : (c : ℕ) → first_in mids fm c ≡ first_after c l (first_in old.heads.events old.heads.free c))
    (mid_heads : IsHeads mids) (mid_places : length mids.far.entries + mids.far.spare ≡ length old.heads.events.far.entries + old.heads.events.far.spare)
    (mid_len : length mid ≡ length old.nodes.items) (code : ℕ) (event : 1 < code) (at : ℕ) (inside : at < length old.waiters.items)
    (e2 : (j : ℕ) → by_event new.nodes.items j ≡ put code i (first_in mids fm code) (by_event mid) j) (f2 : (c : ℕ) → first_in new.heads.events new.heads.free c ≡ cond (c == code) i (first_in mids fm c))
    (w1 : (own : Waiter) → slice_get old.waiters.items at ≡ Some own → (j : ℕ) → by_wait new.nodes.items j ≡ put at i own.first (by_wait old.nodes.items) j)
    (firsts : (k : ℕ) → slice_get new.waiters.items k ≡ refirst (first_at at i k) (slice_get old.waiters.items k))
    (heads_are : IsHeads new.heads.events) (places : length new.heads.events.far.entries + new.heads.events.far.spare ≡ length mids.far.entries + mids.far.spare)
    (len : length new.nodes.items ≡ length old.nodes.items) (waiters_len : length new.waiters.items ≡ length old.waiters.items)
    (room : (s : Shown) → slice_get (shown_by old) at ≡ Some s → length s.events < s.room) where
  owns : (w : Waiter) × (slice_get old.waiters.items at ≡ Some w)
  owns = get-inside old.waiters.items at inside

  waits : (m : Link) × (by_wait old.nodes.items i ≡ Some m)
  waits = wait-there old.nodes.items i l here

  roomy : length (shown_of old.nodes.items owns.0).events < (shown_of old.nodes.items owns.0).room
  roomy = room (shown_of old.nodes.items owns.0) (shown-at old.nodes.items old.waiters.items at owns.0 owns.1)

  pub fit-add : Fit old.places.entries new.waiters.items old.vacant.items new.nodes.items new.heads.events new.heads.free old.total
  fit-add = added-fit old.places.entries old.waiters.items old.vacant.items old.nodes.items old.heads.events old.heads.free old.total fit
      mid mids fm i l here was_free e1 f1 mid_heads mid_places mid_len code event new.nodes.items new.heads.events new.heads.free new.waiters.items at owns.0 owns.1 inside
      e2 f2 (w1 owns.0 owns.1) firsts heads_are places len waiters_len waits.0 waits.1 roomy

  pub shown-add : (s : Shown) → slice_get (shown_by old) at ≡ Some s → shown_by new ≡ set (shown_by old) at (record s { events = event_of code ∷ s.events })
  unfolding s evs
  shown-add x found =
      let same : Some (shown_of old.nodes.items owns.0) ≡ Some x = sym (shown-at old.nodes.items old.waiters.items at owns.0 owns.1) ∙ found in
      let alike : shown_of old.nodes.items owns.0 ≡ x = cc in
      added-shown old.places.entries old.waiters.items old.vacant.items old.nodes.items old.heads.events old.heads.free old.total fit
      mid mids fm i l here was_free e1 f1 mid_heads mid_places mid_len code event new.nodes.items new.heads.events new.heads.free new.waiters.items at owns.0 owns.1 inside
      e2 f2 (w1 owns.0 owns.1) firsts heads_are places len waiters_len waits.0 waits.1 roomy
      ∙ ap (λ y. set (shown_by old) at (record y { events = event_of code ∷ y.events })) alike

-- the free node that is taken
pub free-link : (old : Kept) → Fit old.places.entries old.waiters.items old.vacant.items old.nodes.items old.heads.events old.heads.free old.total
    → (at : ℕ) → at < length old.waiters.items → ((s : Shown) → slice_get (shown_by old) at ≡ Some s → length s.events < s.room)
    → (l : Link) × (by_event old.nodes.items old.heads.free ≡ Some l) × (l.tag ≡ free)
free-link old fit at inside room =
    let own = get-inside old.waiters.items at inside in
    let here = shown-at old.nodes.items old.waiters.items at own.0 own.1 in
    link-there old.places.entries old.waiters.items old.vacant.items old.nodes.items old.heads.events old.heads.free old.total fit free (by_event old.nodes.items old.heads.free)
    (free-there old.places.entries old.waiters.items old.vacant.items old.nodes.items old.heads.events old.heads.free old.total fit at (shown_of old.nodes.items own.0) here (room (shown_of old.nodes.items own.0) here))
