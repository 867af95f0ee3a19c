-- A waiter is written anew, and its list stays.
use Rattle.std.proofs.Common.{◌≡◌, ℕ, zero, suc, ◌+◌, ◌<◌, ◌≤◌, ◌≢◌, true≢false, List, [], ◌∷◌, length, set, Option, Some, None, refl, sym, ap, ◌∙◌, subst, arith, ⊎_elim}
use Rattle.std.specs.Prelude.{slice_get}
use Rattle.std.proofs.lemmas.Bool.{cases_eq}
use Rattle.std.proofs.lemmas.List.{length-set, length-map}
use Rattle.std.proofs.lemmas.Option.{slice_get_within}
use Rattle.wait_lists.specs.declared.heads.Firsts.{Firsts}
use Rattle.wait_lists.specs.declared.nodes.Node.{Node}
use Rattle.wait_lists.specs.declared.waiter.Waiter.{Waiter}
use Rattle.wait_lists.specs.declared.layout.Kept.{Kept}
use Rattle.wait_lists.specs.Shown.{Shown}
use Rattle.wait_lists.specs.Chains.{none, free, Link, has_tag, IsList}
use Rattle.wait_lists.specs.Nodes.{by_event, by_wait, event_at, events_from, shown_of, shown}
use Rattle.wait_lists.specs.Layout.{Fit, Seats, IsOf, IsUsed, IsCutAt}
use Rattle.wait_lists.proofs.Counted.{times-same}
use Rattle.wait_lists.proofs.Places.{slice_get-set_same, slice_get-set_other}
use Rattle.wait_lists.proofs.Chains.{lives}
use Rattle.wait_lists.proofs.NodeLemmas.{event-there, outside-wait}
use Rattle.wait_lists.proofs.Moved.{IsSome-tag}
use Rattle.wait_lists.proofs.Refit.{shown-at, events-row, sum-set, fits-set}

pub shown-set : (nodes : List Node) (ws : List Waiter) (at : ℕ) (new : Waiter) → shown nodes (set ws at new) ≡ set (shown nodes ws) at (shown_of nodes new)
shown-set nodes [] at new = refl
shown-set nodes (w ∷ ws) zero new = refl
shown-set nodes (w ∷ ws) (suc at) new = ap (λ l. shown_of nodes w ∷ l) (shown-set nodes ws at new)

pub refit-waiter : (es fs : List (ℕ × ℕ)) (ws vs : List Waiter) (vacant left : List ℕ) (nodes : List Node) (heads : Firsts) (fr total sum : ℕ) → Fit es ws vacant nodes heads fr total
    → (at : ℕ) (own new : Waiter) → slice_get ws at ≡ Some own → vs ≡ set ws at new → new.first ≡ own.first
    → Seats fs (set (shown nodes ws) at (shown_of nodes new)) left → length (shown_of nodes new).events ≤ new.room → sum + own.room ≡ total + new.room → sum ≤ length nodes
    → Fit fs vs left nodes heads fr sum
refit-waiter es fs ws vs vacant left nodes heads fr total sum fit at own new owner is first seats few in_all enough =
    let now : shown nodes vs ≡ set (shown nodes ws) at (shown_of nodes new) = ap (shown nodes) is ∙ shown-set nodes ws at new in
    let here : slice_get (shown nodes ws) at ≡ Some (shown_of nodes own) = shown-at nodes ws at own owner in
    let len : length vs ≡ length ws = ap length is ∙ length-set ws at new in
    let P : List Shown → Type 0 = λ ss. Seats fs ss left in
    record {
      seats = subst P (sym now) seats;
      lists = fit.lists;
      rows = λ k v found. ⊎_elim
          (λ (e : k ≡ at).
          let same : Some new ≡ Some v = sym (slice_get-set_same ws at own new owner) ∙ ap (slice_get (set ws at new)) (sym e) ∙ sym (ap (λ l. slice_get l k) is) ∙ found in
          let v_is : new ≡ v = cc in
          let row = fit.rows at own owner in
          let Q : ℕ → Type 0 = λ j. IsList (by_wait nodes) j v.first row.0 in
          let R : ℕ → Type 0 = λ f. IsList (by_wait nodes) at f row.0 in
          (row.0, subst Q (sym e) (subst R (sym first ∙ ap (λ w. w.first) v_is) row.1)))
          (λ apart. fit.rows k v (sym (slice_get-set_other ws at k new apart) ∙ sym (ap (λ l. slice_get l k) is) ∙ found))
          (cases_eq k at);
      homes = λ j c w tagged waits.
          let old = fit.homes j c w tagged waits in
          record { listed = old.listed; alone = old.alone; at_home = λ more. let before : w < length ws = old.at_home more in omega arith };
      heads_are = fit.heads_are;
      sums = record {
        fits = fits-set (shown nodes ws) (shown nodes vs) at (shown_of nodes own) (shown_of nodes new) here now fit.sums.fits few;
        in_all = omega (arith, fit.sums.in_all, sum-set (shown nodes ws) (shown nodes vs) at (shown_of nodes own) (shown_of nodes new) here now (λ x. x.room));
        enough = enough;
        counts = λ fs list. omega (
          arith,
          fit.sums.counts fs list,
          sum-set (shown nodes ws) (shown nodes vs) at (shown_of nodes own) (shown_of nodes new) here now (λ x. length x.events),
          ap (λ f. length (events_from nodes f)) first,
        );
        roomy = fit.sums.roomy;
      };
      few_nodes = fit.few_nodes;
      few_places = omega (arith, fit.few_places);
    }

-- the first node of a waiter's list stands for an event
module _ (k : Kept) (fit : Fit k.places.entries k.waiters.items k.vacant.items k.nodes.items k.heads.events k.heads.free k.total) (at : ℕ) (w : Waiter) (found : slice_get k.waiters.items at ≡ Some w) where
  pub used-of : (i : ℕ) → IsOf k at i → IsUsed k i
  used-of i is = by_link (by_wait k.nodes.items i) refl
    where
      by_link : (o : Option Link) → by_wait k.nodes.items i ≡ o → IsUsed k i
      by_link None none_there = absurd (true≢false (sym is ∙ ap (has_tag at) none_there))
      by_link (Some m) there =
          let l = event-there k.nodes.items i m there in
          let home = fit.homes i l.0.tag at (IsSome-tag (by_event k.nodes.items i) l.0 l.1) is in
          let inside : at < length k.waiters.items = slice_get_within k.waiters.items at w found in
          (l.0, l.1, ⊎_elim (λ (e : l.0.tag ≡ free). absurd (omega (arith, home.alone e, fit.few_places))) (λ apart. let some : 0 < l.0.tag = home.listed in not_free l.0.tag some apart) (cases_eq l.0.tag free))
        where
          not_free : (t : ℕ) → 0 < t → t ≢ free → 1 < t
          not_free t some apart = ⊎_elim (λ (e : t ≡ 1). absurd (apart e)) (λ other. omega (arith, other)) (cases_eq t 1)

  pub first-of : w.first ≢ none → IsOf k at w.first
  first-of there = by_list (fit.rows at w found).0 (fit.rows at w found).1
    where
      by_list : (ns : List ℕ) → IsList (by_wait k.nodes.items) at w.first ns → IsOf k at w.first
      by_list [] list = absurd (there list.goes)
      by_list (x ∷ xs) list = ap (λ j. has_tag at (by_wait k.nodes.items j)) list.goes.0 ∙ lives (by_wait k.nodes.items) at w.first (x ∷ xs) list x (omega (arith, times-same x x xs refl))

  pub no-first : w.first ≡ none → (shown_of k.nodes.items w).events ≡ []
  no-first is = by_list (fit.rows at w found).0 (fit.rows at w found).1
    where
      by_list : (ns : List ℕ) → IsList (by_wait k.nodes.items) at w.first ns → events_from k.nodes.items w.first ≡ []
      by_list [] list = events-row k.nodes.items at w.first [] fit.few_nodes list
      by_list (x ∷ xs) list = absurd (true≢false
          (sym (lives (by_wait k.nodes.items) at w.first (x ∷ xs) list x (omega (arith, times-same x x xs refl)))
          ∙ ap (λ j. has_tag at (by_wait k.nodes.items j)) (sym list.goes.0 ∙ is) ∙ ap (has_tag at) (outside-wait k.nodes.items fit.few_nodes)))

  pub some-first : w.first ≢ none → 1 ≤ length (shown_of k.nodes.items w).events
  some-first there = by_list (fit.rows at w found).0 (fit.rows at w found).1
    where
      by_list : (ns : List ℕ) → IsList (by_wait k.nodes.items) at w.first ns → 1 ≤ length (events_from k.nodes.items w.first)
      by_list [] list = absurd (there list.goes)
      by_list (x ∷ xs) list = omega (arith, ap length (events-row k.nodes.items at w.first (x ∷ xs) fit.few_nodes list), length-map (x ∷ xs) (λ j. event_at (by_event k.nodes.items j)))

pub cut-none : (k : Kept) (at : ℕ) → IsCutAt k k at
cut-none k at = record { lists = λ c xs ys some list others. (ys, list, omega arith); tags = λ a j is. refl }

pub cut-more : (a b c : Kept) (at : ℕ) → IsCutAt a b at → IsCutAt b c at → IsCutAt a c at
cut-more a b c at first then = record {
  lists = λ t xs ys some list others.
      let one = first.lists t xs ys some list others in
      let two = then.lists t xs one.0 some one.1 (λ j m. first.tags at j (others j m) ∙ others j m) in
      (two.0, two.1, omega (arith, one.2, two.2));
  tags = λ t j is. then.tags t j (first.tags at j is ∙ is) ∙ first.tags t j is;
}
