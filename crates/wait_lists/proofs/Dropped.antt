-- A node is taken out of the list of its event and out of that of its waiter, and is free.
use Rattle.std.proofs.Common.{◌≡◌, ℕ, ◌+◌, ◌<◌, ◌≤◌, ◌≢◌, true, false, true≢false, cond, List, [], ◌∷◌, ◌++◌, length, set, Some, refl, sym, ap, ◌∙◌, subst, arith, ne_eqb, ⊎_elim}
use Rattle.std.specs.Prelude.{slice_get, ◌==◌}
use Rattle.std.proofs.lemmas.Bool.{cases_eq}
use Rattle.std.proofs.lemmas.List.{length-map}
use Rattle.event_core.specs.declared.event.Ev.{Ev}
use Rattle.wait_lists.specs.declared.heads.Firsts.{Firsts}
use Rattle.wait_lists.specs.declared.nodes.Node.{Node}
use Rattle.wait_lists.specs.declared.waiter.Waiter.{Waiter}
use Rattle.wait_lists.specs.Waits.{without}
use Rattle.wait_lists.specs.Shown.{Shown}
use Rattle.wait_lists.specs.Chains.{none, loose, free, Link, has_tag, IsList, leave, cut, put, first_after}
use Rattle.wait_lists.specs.Nodes.{code_of, by_event, by_wait, first_in, IsHeads, HasRows, IsHome, AllHome, refirst, event_at, events_at, shown_of, shown}
use Rattle.wait_lists.specs.declared.layout.Kept.{Kept}
use Rattle.wait_lists.specs.Layout.{Fit, shown_by, IsOf, IsShorter, IsCutAt}
use Rattle.wait_lists.proofs.Counted.{times, times-same, times-other}
use Rattle.wait_lists.proofs.Chains.{In, in_list, out_of, leave-none, times-leave_same, length-leave, once_in}
use Rattle.wait_lists.proofs.NodeLemmas.{outside-event, outside-wait}
use Rattle.wait_lists.proofs.EventLemmas.{without-leave, events-same, event-tags}
use Rattle.wait_lists.proofs.Moved.{moved-here, moved-other, moved-tags, moved-tag, left-row, left-rows, left-tags, left-tag, IsSome-tag, tag-none, untagged}
use Rattle.wait_lists.proofs.Refit.{get-inside, shown-at, events-row, one-list, shown-changed, seats-set, sum-set, fits-set}

-- a number left out of the second part of a list
pub leave-append : (i : ℕ) (xs ys : List ℕ) → times i xs ≡ 0 → leave i (xs ++ ys) ≡ xs ++ leave i ys
leave-append i xs ys out = by_parts xs out
  where
    by_parts : (zs : List ℕ) → times i zs ≡ 0 → leave i (zs ++ ys) ≡ zs ++ leave i ys
    by_parts [] none_out = refl
    by_parts (z ∷ zs) none_out = ⊎_elim
        (λ (e : z ≡ i). absurd (omega (arith, times-same i z zs e)))
        (λ apart. ap (λ b. cond b (leave i (zs ++ ys)) (z ∷ leave i (zs ++ ys))) (ne_eqb z i apart) ∙ ap (λ l. z ∷ l) (by_parts zs (sym (times-other i z zs apart) ∙ none_out)))
        (cases_eq z i)

module _ (es : List (ℕ × ℕ)) (ws vs : List Waiter) (vacant : List ℕ) (nodes mid new : List Node) (heads mids ends : Firsts) (fr fm fe total : ℕ) (fit : Fit es ws vacant nodes heads fr total)
    (i : ℕ) (l m : Link) (here : by_event nodes i ≡ Some l) (used : 1 < l.tag) (wait_here : by_wait nodes i ≡ Some m)
    (e1 : (j : ℕ) → by_event mid j ≡ cut loose i l (by_event nodes) j) (f1 : (c : ℕ) → first_in mids fm c ≡ first_after c l (first_in heads fr c))
    (e2 : (j : ℕ) → by_event new j ≡ put free i (first_in mids fm free) (by_event mid) j) (f2 : (c : ℕ) → first_in ends fe c ≡ cond (c == free) i (first_in mids fm c))
    (w1 : (j : ℕ) → by_wait new j ≡ cut none i m (by_wait nodes) j) (firsts : (k : ℕ) → slice_get vs k ≡ refirst (first_after k m) (slice_get ws k))
    (heads_are : IsHeads ends) (places : length ends.far.entries + ends.far.spare ≡ length heads.far.entries + heads.far.spare)
    (mid_len : length mid ≡ length nodes) (len : length new ≡ length nodes) (waiters_len : length vs ≡ length ws) where
  few_mid : length mid ≤ none
  few_mid = omega (arith, fit.few_nodes)

  few_new : length new ≤ none
  few_new = omega (arith, fit.few_nodes)

  home : IsHome (length ws) l.tag m.tag
  home = fit.homes i l.tag m.tag (IsSome-tag (by_event nodes i) l here) (IsSome-tag (by_wait nodes i) m wait_here)

  owner : (w : Waiter) × (slice_get ws m.tag ≡ Some w)
  owner = get-inside ws m.tag (home.at_home used)

  own_row : (ns : List ℕ) × IsList (by_wait nodes) m.tag owner.0.first ns
  own_row = fit.rows m.tag owner.0 owner.1

  pub s : Shown
  s = shown_of nodes owner.0

  pub evs : List Ev
  evs = events_at (by_event nodes) (leave i own_row.0)

  -- the lists of events
  other_list : (c : ℕ) (ns : List ℕ) → 0 < c → c ≢ free → IsList (by_event nodes) c (first_in heads fr c) ns → IsList (by_event new) c (first_in ends fe c) (leave i ns)
  other_list c ns some other list =
      moved-other (by_event nodes) (by_event mid) (by_event new) (outside-event nodes fit.few_nodes) (outside-event mid few_mid) i l here (omega arith) free (omega arith)
      (first_in heads fr) (first_in mids fm) (first_in ends fe) fit.lists e1 f1 e2 f2 c ns some other list

  free_list : (ns : List ℕ) → IsList (by_event nodes) free (first_in heads fr free) ns → IsList (by_event new) free (first_in ends fe free) (i ∷ leave i ns)
  free_list ns list =
      moved-here (by_event nodes) (by_event mid) (by_event new) (outside-event nodes fit.few_nodes) (outside-event mid few_mid) i l here (omega arith) free (omega arith)
      (first_in heads fr) (first_in mids fm) (first_in ends fe) fit.lists e1 f1 e2 f2 ns list

  tags_other : (c j : ℕ) → j ≢ i → has_tag c (by_event new j) ≡ has_tag c (by_event nodes j)
  tags_other =
      moved-tags (by_event nodes) (by_event mid) (by_event new) (outside-event nodes fit.few_nodes) (outside-event mid few_mid) i l here (omega arith) free (omega arith)
      (first_in heads fr) (first_in mids fm) (first_in ends fe) fit.lists e1 f1 e2 f2

  tag_here : (c : ℕ) → has_tag c (by_event new i) ≡ (free == c)
  tag_here =
      moved-tag (by_event nodes) (by_event mid) (by_event new) (outside-event nodes fit.few_nodes) (outside-event mid few_mid) i l here (omega arith) free (omega arith)
      (first_in heads fr) (first_in mids fm) (first_in ends fe) fit.lists e1 f1 e2 f2

  -- the lists of waiters
  row_left : (k : ℕ) (w : Waiter) (ns : List ℕ) → slice_get ws k ≡ Some w → IsList (by_wait nodes) k w.first ns → IsList (by_wait new) k (first_after k m w.first) (leave i ns)
  row_left = left-row (by_wait nodes) (by_wait new) (outside-wait nodes fit.few_nodes) i m wait_here ws vs fit.few_places owner.0 owner.1 fit.rows w1 firsts

  rows_now : HasRows (by_wait new) vs
  rows_now = left-rows (by_wait nodes) (by_wait new) (outside-wait nodes fit.few_nodes) i m wait_here ws vs fit.few_places owner.0 owner.1 fit.rows w1 firsts

  wait_tags : (c j : ℕ) → j ≢ i → has_tag c (by_wait new j) ≡ has_tag c (by_wait nodes j)
  wait_tags = left-tags (by_wait nodes) (by_wait new) (outside-wait nodes fit.few_nodes) i m wait_here ws vs fit.few_places owner.0 owner.1 fit.rows w1 firsts

  wait_tag : (c : ℕ) → has_tag c (by_wait new i) ≡ (none == c)
  wait_tag = left-tag (by_wait nodes) (by_wait new) (outside-wait nodes fit.few_nodes) i m wait_here ws vs fit.few_places owner.0 owner.1 fit.rows w1 firsts

  homes_now : AllHome (by_event new) (by_wait new) (length vs)
  homes_now j c w tagged waits = ⊎_elim
      (λ (e : j ≡ i).
      let c_is : free ≡ c = untagged free i c (sym (tag_here c) ∙ ap (λ k. has_tag c (by_event new k)) (sym e) ∙ tagged) in
      let w_is : none ≡ w = untagged none i w (sym (wait_tag w) ∙ ap (λ k. has_tag w (by_wait new k)) (sym e) ∙ waits) in
      record { listed = omega arith; alone = λ _. sym w_is; at_home = λ more. absurd (omega arith) })
      (λ apart.
      let old = fit.homes j c w (sym (tags_other c j apart) ∙ tagged) (sym (wait_tags w j apart) ∙ waits) in
      record { listed = old.listed; alone = old.alone; at_home = λ more. let inside : w < length ws = old.at_home more in omega arith })
      (cases_eq j i)

  kept_events : (ns : List ℕ) → events_at (by_event new) (leave i ns) ≡ events_at (by_event nodes) (leave i ns)
  kept_events ns = events-same (by_event new) (by_event nodes) (leave i ns)
      (λ j member. event-tags (by_event new j) (by_event nodes j) (λ c. tags_other c j (λ e. absurd (omega (arith, ap (λ k. times k (leave i ns)) e, times-leave_same i ns, member)))))

  pub dropped-shown : shown new vs ≡ set (shown nodes ws) m.tag (record s { events = evs })
  unfolding s evs
  dropped-shown = shown-changed nodes new ws vs m.tag owner.0 owner.1 evs (λ k x. first_after k m x) firsts
      (events-row new m.tag (first_after m.tag m owner.0.first) (leave i own_row.0) few_new (row_left m.tag owner.0 own_row.0 owner.1 own_row.1) ∙ kept_events own_row.0)
      (λ k w found apart.
      let row = fit.rows k w found in
      let out : leave i row.0 ≡ row.0 = leave-none i row.0 (out_of (by_wait nodes) k w.first row.0 row.1 i (ap (has_tag k) wait_here ∙ ne_eqb m.tag k (λ e. apart (sym e)))) in
      events-row new k (first_after k m w.first) (leave i row.0) few_new (row_left k w row.0 found row.1) ∙ kept_events row.0
      ∙ ap (events_at (by_event nodes)) out ∙ sym (events-row nodes k w.first row.0 fit.few_nodes row.1))

  s_events : s.events ≡ events_at (by_event nodes) own_row.0
  unfolding s
  s_events = events-row nodes m.tag owner.0.first own_row.0 fit.few_nodes own_row.1

  i_in : In i own_row.0
  i_in = in_list (by_wait nodes) m.tag owner.0.first own_row.0 own_row.1 i (IsSome-tag (by_wait nodes i) m wait_here)

  pub dropped-one : length evs + 1 ≡ length s.events
  unfolding evs
  dropped-one = omega (
    arith,
    ap length s_events,
    length-map (leave i own_row.0) (λ j. event_at (by_event nodes j)),
    length-map own_row.0 (λ j. event_at (by_event nodes j)),
    length-leave i own_row.0,
    i_in,
    once_in (by_wait nodes) m.tag owner.0.first own_row.0 own_row.1 i,
  )

  pub dropped-left : (e : Ev) → has_tag (code_of e) (by_event nodes i) ≡ true → without e evs ≡ without e s.events
  unfolding evs
  dropped-left e is = without-leave (by_event nodes) i e is own_row.0 ∙ ap (without e) (sym s_events)

  shown_here : slice_get (shown nodes ws) m.tag ≡ Some s
  unfolding s
  shown_here = shown-at nodes ws m.tag owner.0 owner.1

  few_events : length evs ≤ s.room
  few_events = let held : length s.events ≤ s.room = fit.sums.fits m.tag s shown_here in omega (arith, dropped-one)

  now : Shown
  now = record s { events = evs }

  pub dropped-fit : Fit es vs vacant new ends fe total
  unfolding now
  dropped-fit = record {
    seats = seats-set es (shown nodes ws) (shown new vs) vacant fit.seats m.tag s now shown_here dropped-shown refl
        (λ some. fit.seats.owned m.tag s shown_here some)
        (λ empty. let one = fit.seats.vacated m.tag empty in let same : Some s ≡ Some one.0 = sym shown_here ∙ one.1 in let alike : s ≡ one.0 = cc in ap (λ x. x.room) alike ∙ one.2);
    lists = λ c some. let old = fit.lists c some in ⊎_elim
        (λ (e : c ≡ free). let P : ℕ → Type 0 = λ d. (ns : List ℕ) × IsList (by_event new) d (first_in ends fe d) ns in
        let frees = fit.lists free (omega arith) in subst P (sym e) (i ∷ leave i frees.0, free_list frees.0 frees.1))
        (λ other. (leave i old.0, other_list c old.0 some other old.1))
        (cases_eq c free);
    rows = rows_now;
    homes = homes_now;
    heads_are = heads_are;
    sums = record {
      fits = fits-set (shown nodes ws) (shown new vs) m.tag s now shown_here dropped-shown fit.sums.fits few_events;
      in_all = omega (arith, fit.sums.in_all, sum-set (shown nodes ws) (shown new vs) m.tag s now shown_here dropped-shown (λ x. x.room));
      enough = omega (arith, fit.sums.enough);
      counts = λ fs list.
          let frees = fit.lists free (omega arith) in
          let same : fs ≡ i ∷ leave i frees.0 = one-list new free fe fs (i ∷ leave i frees.0) few_new list (free_list frees.0 frees.1) in
          let out : leave i frees.0 ≡ frees.0 = leave-none i frees.0 (out_of (by_event nodes) free fr frees.0 frees.1 i (ap (has_tag free) here ∙ ne_eqb l.tag free (λ e. absurd (omega arith)))) in
          omega (arith, ap length same, ap length out, fit.sums.counts frees.0 frees.1, sum-set (shown nodes ws) (shown new vs) m.tag s now shown_here dropped-shown (λ x. length x.events), dropped-one);
      roomy = omega (arith, fit.sums.roomy);
    };
    few_nodes = few_new;
    few_places = omega (arith, fit.few_places);
  }

  -- a list of an event without the node
  pub dropped-list : (c : ℕ) (xs ys : List ℕ) → 1 < c → IsList (by_event nodes) c (first_in heads fr c) (xs ++ ys) → ((j : ℕ) → In j xs → has_tag m.tag (by_wait nodes j) ≡ false)
      → (zs : List ℕ) × IsList (by_event new) c (first_in ends fe c) (xs ++ zs) × (length zs ≤ length ys)
  dropped-list c xs ys some list others =
      let away : times i xs ≡ 0 = not_there (others i) in
      let P : List ℕ → Type 0 = λ ns. IsList (by_event new) c (first_in ends fe c) ns in
      (leave i ys, subst P (leave-append i xs ys away) (other_list c (xs ++ ys) (omega arith) (λ e. absurd (omega arith)) list), omega (arith, length-leave i ys))
    where
      not_there : (In i xs → has_tag m.tag (by_wait nodes i) ≡ false) → times i xs ≡ 0
      not_there is = ⊎_elim (λ (e : times i xs ≡ 0). e) (λ some. absurd (true≢false (sym (IsSome-tag (by_wait nodes i) m wait_here) ∙ is (omega arith)))) (cases_eq (times i xs) 0)

  pub dropped-tags : (a j : ℕ) → has_tag m.tag (by_wait nodes j) ≡ false → has_tag a (by_wait new j) ≡ has_tag a (by_wait nodes j)
  dropped-tags a j is = wait_tags a j (λ e. true≢false (sym (IsSome-tag (by_wait nodes i) m wait_here) ∙ ap (λ k. has_tag m.tag (by_wait nodes k)) (sym e) ∙ is))

  pub dropped-at : (x : Shown) → slice_get (shown nodes ws) m.tag ≡ Some x → s ≡ x
  dropped-at x found = let same : Some s ≡ Some x = sym shown_here ∙ found in cc

-- what a call leaves that takes a node out
module _ (old new : Kept) (fit : Fit old.places.entries old.waiters.items old.vacant.items old.nodes.items old.heads.events old.heads.free old.total)
    (mid : List Node) (mids : Firsts) (fm i : ℕ) (l m : Link) (here : by_event old.nodes.items i ≡ Some l) (used : 1 < l.tag) (wait_here : by_wait old.nodes.items i ≡ Some m)
    (e1 : (j : ℕ) → by_event mid j ≡ cut loose i l (by_event old.nodes.items) j) (f1 : (c : ℕ) → first_in mids fm c ≡ first_after c l (first_in old.heads.events old.heads.free c))
    (e2 : (j : ℕ) → by_event new.nodes.items j ≡ put free i (first_in mids fm free) (by_event mid) j) (f2 : (c : ℕ) → first_in new.heads.events new.heads.free c ≡ cond (c == free) i (first_in mids fm c))
    (w1 : (j : ℕ) → by_wait new.nodes.items j ≡ cut none i m (by_wait old.nodes.items) j) (firsts : (k : ℕ) → slice_get new.waiters.items k ≡ refirst (first_after k m) (slice_get old.waiters.items k))
    (heads_are : IsHeads new.heads.events) (places : length new.heads.events.far.entries + new.heads.events.far.spare ≡ length old.heads.events.far.entries + old.heads.events.far.spare)
    (mid_len : length mid ≡ length old.nodes.items) (len : length new.nodes.items ≡ length old.nodes.items) (waiters_len : length new.waiters.items ≡ length old.waiters.items) where
  pub fit-drop : Fit old.places.entries new.waiters.items old.vacant.items new.nodes.items new.heads.events new.heads.free old.total
  fit-drop = dropped-fit old.places.entries old.waiters.items new.waiters.items old.vacant.items old.nodes.items mid new.nodes.items old.heads.events mids new.heads.events old.heads.free fm new.heads.free old.total fit
      i l m here used wait_here e1 f1 e2 f2 w1 firsts heads_are places mid_len len waiters_len

  pub shorter-drop : (at : ℕ) (x : Shown) → IsOf old at i → slice_get (shown_by old) at ≡ Some x → IsShorter old new at i x
  shorter-drop at x is found =
      let at_is : m.tag ≡ at = tag-none at (by_wait old.nodes.items i) m wait_here is in
      let P : ℕ → Type 0 = λ k. slice_get (shown_by old) k ≡ Some x in
      let same = dropped-at old.places.entries old.waiters.items new.waiters.items old.vacant.items old.nodes.items mid new.nodes.items old.heads.events mids new.heads.events old.heads.free fm new.heads.free old.total fit
      i l m here used wait_here e1 f1 e2 f2 w1 firsts heads_are places mid_len len waiters_len x (subst P (sym at_is) found) in
      record {
        events = evs old.places.entries old.waiters.items new.waiters.items old.vacant.items old.nodes.items mid new.nodes.items old.heads.events mids new.heads.events old.heads.free fm new.heads.free old.total fit
            i l m here used wait_here e1 f1 e2 f2 w1 firsts heads_are places mid_len len waiters_len;
        is = dropped-shown old.places.entries old.waiters.items new.waiters.items old.vacant.items old.nodes.items mid new.nodes.items old.heads.events mids new.heads.events old.heads.free fm new.heads.free old.total fit
            i l m here used wait_here e1 f1 e2 f2 w1 firsts heads_are places mid_len len waiters_len
            ∙ (λ j. set (shown_by old) (at_is j) (record (same j) {
              events = evs old.places.entries old.waiters.items new.waiters.items old.vacant.items old.nodes.items mid new.nodes.items old.heads.events mids new.heads.events old.heads.free fm new.heads.free old.total fit
                  i l m here used wait_here e1 f1 e2 f2 w1 firsts heads_are places mid_len len waiters_len;
            }));
        one_less = dropped-one old.places.entries old.waiters.items new.waiters.items old.vacant.items old.nodes.items mid new.nodes.items old.heads.events mids new.heads.events old.heads.free fm new.heads.free old.total fit
            i l m here used wait_here e1 f1 e2 f2 w1 firsts heads_are places mid_len len waiters_len ∙ ap (λ y. length y.events) same;
        left = λ e tagged. dropped-left old.places.entries old.waiters.items new.waiters.items old.vacant.items old.nodes.items mid new.nodes.items old.heads.events mids new.heads.events old.heads.free fm new.heads.free old.total fit
            i l m here used wait_here e1 f1 e2 f2 w1 firsts heads_are places mid_len len waiters_len e tagged ∙ ap (λ y. without e y.events) same;
      }

  pub cut-drop : (at : ℕ) → IsOf old at i → IsCutAt old new at
  cut-drop at is =
      let at_is : m.tag ≡ at = tag-none at (by_wait old.nodes.items i) m wait_here is in
      let P : ℕ → Type 0 = λ k. IsCutAt old new k in
      subst P at_is (record {
        lists = dropped-list old.places.entries old.waiters.items new.waiters.items old.vacant.items old.nodes.items mid new.nodes.items old.heads.events mids new.heads.events old.heads.free fm new.heads.free old.total fit
            i l m here used wait_here e1 f1 e2 f2 w1 firsts heads_are places mid_len len waiters_len;
        tags = dropped-tags old.places.entries old.waiters.items new.waiters.items old.vacant.items old.nodes.items mid new.nodes.items old.heads.events mids new.heads.events old.heads.free fm new.heads.free old.total fit
            i l m here used wait_here e1 f1 e2 f2 w1 firsts heads_are places mid_len len waiters_len;
      })
