-- The nodes of a waiter, one behind the other, beside a list of events.
use Rattle.std.proofs.Common.{◌≡◌, ℕ, ◌+◌, ◌<◌, ◌≤◌, ◌≢◌, true, true≢false, List, [], ◌∷◌, length, drop, get_or, Option, Some, None, refl, sym, ap, ◌∙◌, subst, arith, ⊎_elim, add-one}
use Rattle.std.specs.Prelude.{slice_get, is_some}
use Rattle.std.proofs.Math.Seq.{drop-cons}
use Rattle.std.proofs.lemmas.Bool.{cases_eq}
use Rattle.event_core.specs.declared.event.Ev.{Ev}
use Rattle.event_core.specs.declared.event.Ev.TheVariants.{Fixed}
use Rattle.wait_lists.specs.declared.waiter.Waiter.{Waiter}
use Rattle.wait_lists.specs.declared.layout.Kept.{Kept}
use Rattle.wait_lists.specs.Shown.{Shown}
use Rattle.wait_lists.specs.Chains.{none, Link, has_tag, next_of, Goes}
use Rattle.wait_lists.specs.Nodes.{code_of, event_of, by_event, by_wait, event_at, events_at}
use Rattle.wait_lists.specs.Layout.{IsSound, shown_by}
use Rattle.wait_lists.proofs.Counted.{times-same, times-other}
use Rattle.wait_lists.proofs.Chains.{In, lives}
use Rattle.wait_lists.proofs.NodeLemmas.{outside-wait, wait-within}
use Rattle.wait_lists.proofs.EventLemmas.{event_of-code_of}
use Rattle.wait_lists.proofs.Refit.{get-inside, events-row}
use Rattle.wait_lists.proofs.Struck.{same-waiter}
use Rattle.wait_lists.proofs.Listing.{drop_whole}

-- from i on the waiter at this place has the nodes `rest`: if they stand for the events behind the first n of the list, it has those of the list
pub record Reads (k : Kept) (at : ℕ) (list : List Ev) (i n : ℕ) : Type 0 where
  pub rest : List ℕ
  pub before : ℕ
  pub goes : Goes (by_wait k.nodes.items) before i rest
  pub live : (j : ℕ) → In j rest → has_tag at (by_wait k.nodes.items j) ≡ true
  pub ends : (s : Shown) → slice_get (shown_by k) at ≡ Some s → events_at (by_event k.nodes.items) rest ≡ drop n list → s.events ≡ list
  pub within : n ≤ length list

pub one_behind : (n code : ℕ) (xs : List Ev) → n < length xs → code ≡ code_of (get_or xs n (Fixed 0)) → event_of code ∷ drop (n + 1) xs ≡ drop n xs
one_behind n code xs inside read =
    (λ i. (ap event_of read ∙ event_of-code_of (get_or xs n (Fixed 0))) i ∷ drop (add-one n i) xs) ∙ sym (drop-cons xs n (Fixed 0) inside)

in_behind : (j x : ℕ) (xs : List ℕ) → In j xs → In j (x ∷ xs)
in_behind j x xs member = ⊎_elim
    (λ (e : x ≡ j). omega (arith, times-same j x xs e))
    (λ apart. omega (arith, times-other j x xs apart))
    (cases_eq x j)

module _ (k : Kept) (sound : IsSound k) (at : ℕ) (list : List Ev) where
  pub reads-first : at < length k.waiters.items → (first : ℕ) → ((w : Waiter) → slice_get k.waiters.items at ≡ Some w → first ≡ w.first) → Reads k at list first 0
  reads-first inside first first_is =
      let w = get-inside k.waiters.items at inside in
      let row = sound.0.rows at w.0 w.1 in
      let P : ℕ → Type 0 = λ i. Goes (by_wait k.nodes.items) none i row.0 in
      record {
        rest = row.0;
        before = none;
        goes = subst P (sym (first_is w.0 w.1)) row.1.goes;
        live = lives (by_wait k.nodes.items) at w.0.first row.0 row.1;
        ends = λ s here is. ap (λ (x : Shown). x.events) (same-waiter k at w.0 s w.1 here) ∙ events-row k.nodes.items at w.0.first row.0 sound.0.few_nodes row.1 ∙ is;
        within = omega arith;
      }

  module _ (i n : ℕ) (reads : Reads k at list i n) where
    pub reads-inside : i ≢ none → i < length k.nodes.items
    reads-inside some = by_rest reads.rest reads.goes reads.live
      where
        there : (o : Option Link) → has_tag at o ≡ true → is_some o ≡ true
        there None is = is
        there (Some l) is = refl

        by_rest : (ns : List ℕ) → Goes (by_wait k.nodes.items) reads.before i ns → ((j : ℕ) → In j ns → has_tag at (by_wait k.nodes.items j) ≡ true) → i < length k.nodes.items
        by_rest [] goes live = absurd (some goes)
        by_rest (x ∷ xs) goes live = wait-within k.nodes.items i (there (by_wait k.nodes.items i) (ap (λ j. has_tag at (by_wait k.nodes.items j)) goes.0 ∙ live x (omega (arith, times-same x x xs refl))))

    pub reads-next : i ≢ none → n < length list → (l m : Link) → by_event k.nodes.items i ≡ Some l → by_wait k.nodes.items i ≡ Some m → l.tag ≡ code_of (get_or list n (Fixed 0)) → Reads k at list m.next (n + 1)
    reads-next some inside l m event wait read = by_rest reads.rest reads.goes reads.live reads.ends
      where
        by_rest : (ns : List ℕ) → Goes (by_wait k.nodes.items) reads.before i ns → ((j : ℕ) → In j ns → has_tag at (by_wait k.nodes.items j) ≡ true)
            → ((s : Shown) → slice_get (shown_by k) at ≡ Some s → events_at (by_event k.nodes.items) ns ≡ drop n list → s.events ≡ list) → Reads k at list m.next (n + 1)
        by_rest [] goes live ends = absurd (some goes)
        by_rest (x ∷ xs) goes live ends =
            let P : ℕ → Type 0 = λ j. Goes (by_wait k.nodes.items) x j xs in
            record {
              rest = xs;
              before = x;
              goes = subst P (ap (λ j. next_of (by_wait k.nodes.items j)) (sym goes.0) ∙ ap next_of wait) goes.2;
              live = λ j member. live j (in_behind j x xs member);
              ends = λ s here is. ends s here
                  ((λ t. (ap (λ j. event_at (by_event k.nodes.items j)) (sym goes.0) ∙ ap event_at event) t ∷ is t) ∙ one_behind n l.tag list inside read);
              within = omega arith;
            }

    pub reads-all : length list ≤ n → i ≡ none → (s : Shown) → slice_get (shown_by k) at ≡ Some s → s.events ≡ list
    reads-all all over s here = by_rest reads.rest reads.goes reads.live reads.ends
      where
        whole : n ≡ length list
        whole = omega (arith, reads.within)

        by_rest : (ns : List ℕ) → Goes (by_wait k.nodes.items) reads.before i ns → ((j : ℕ) → In j ns → has_tag at (by_wait k.nodes.items j) ≡ true)
            → ((s : Shown) → slice_get (shown_by k) at ≡ Some s → events_at (by_event k.nodes.items) ns ≡ drop n list → s.events ≡ list) → s.events ≡ list
        by_rest [] goes live ends = ends s here (sym (ap (λ m. drop m list) whole ∙ drop_whole list))
        by_rest (x ∷ xs) goes live ends = absurd (true≢false
            (sym (live x (omega (arith, times-same x x xs refl))) ∙ ap (λ j. has_tag at (by_wait k.nodes.items j)) (sym goes.0 ∙ over) ∙ ap (has_tag at) (outside-wait k.nodes.items sound.0.few_nodes)))
