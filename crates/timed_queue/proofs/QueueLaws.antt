-- What the nodes of the names show, and that names and nodes agree after each change.
use Rattle.std.proofs.Common.{◌≡◌, ◌≢◌, ℕ, ◌≤◌, ◌<◌, Bool, true, false, cond, List, [], ◌∷◌, length, Option, Some, None, refl, sym, ap, ◌∙◌, subst, ⊎_elim, arith, eq-eqb, ne_eqb}
use Rattle.std.specs.Prelude.{is_some, ◌==◌, option_map}
use Rattle.std.proofs.lemmas.Bool.{cases_eq, cases_lt, eqb-true}
use Rattle.std.proofs.lemmas.List.{length-map}
use Rattle.std.specs.Ordering.{nat_cmp, eq_by_cmp}
use Rattle.std.specs.Cmp.{nat_cmp_total, unsigned_tied}
use Rattle.std.specs.FinMap as maps
use Rattle.std.specs.FinMap.{find, put}
use Rattle.std.specs.FinMap.Entries.{find-put}
use Rattle.room_map.specs.Entries.{AllAbove, IsRising, without}
use Rattle.room_map.proofs.Maps.{find-without, entries-as_map}
use Rattle.sim_time.specs.declared.moments.Time.{Time}
use Rattle.timed_queue.specs.declared.chains.Node.{Node}
use Rattle.timed_queue.specs.declared.wheel.Wheel.{Wheel}
use Rattle.timed_queue.specs.Nodes.{IsEntry, Same, Grown, Others, Holds, name_of, time_of, place_of}
use Rattle.timed_queue.specs.Placing.{place_at}
use Rattle.timed_queue.specs.Sound.{IsWheel, IsSettled, AreFrom, IsLeastTime, IsDueNode}
use Rattle.timed_queue.specs.Timed.{is_at, is_due, IsEarliest}
use Rattle.timed_queue.specs.Layout.{time_at, timed, times_of, IsQueue}
use Rattle.timed_queue.proofs.EntryLaws.{entry_before, entry_after}
use Rattle.timed_queue.proofs.MoveLaws.{entry_old, entry_new}
use Rattle.timed_queue.proofs.MapLemmas.{same_gets, get-inserted, get-removed}

-- ---- the times that are shown

module _ (ns : List Node) where
  find-timed : (q : ℕ) (es : List (ℕ × ℕ)) → find nat_cmp q (timed es ns) ≡ option_map (time_at ns) (find nat_cmp q es)
  find-timed q [] = refl
  find-timed q (e ∷ es) = by_test (eq_by_cmp nat_cmp q e.0) (find-timed q es)
    where
      by_test : (b : Bool) → find nat_cmp q (timed es ns) ≡ option_map (time_at ns) (find nat_cmp q es)
          → cond b (Some (time_at ns e.1)) (find nat_cmp q (timed es ns)) ≡ option_map (time_at ns) (cond b (Some e.1) (find nat_cmp q es))
      by_test true rest = refl
      by_test false rest = rest

  rising-timed : (es : List (ℕ × ℕ)) → IsRising nat_cmp es → IsRising nat_cmp (timed es ns)
  rising-timed [] rises = tt
  rising-timed (e ∷ es) rises = (above-timed e.0 es rises.0, rising-timed es rises.1)
    where
      above-timed : (k : ℕ) (es : List (ℕ × ℕ)) → AllAbove nat_cmp k es → AllAbove nat_cmp k (timed es ns)
      above-timed k [] above = tt
      above-timed k (x ∷ xs) above = (above.0, above-timed k xs above.1)

pub get-times_of : (es : List (ℕ × ℕ)) (ns : List Node) (q : ℕ) → maps.get (times_of es ns) q ≡ option_map (time_at ns) (find nat_cmp q es)
get-times_of es ns q = maps.get-from_entries nat_cmp_total (timed es ns) q ∙ find-timed ns q es

pub len-times_of : (es : List (ℕ × ℕ)) (ns : List Node) → IsRising nat_cmp es → maps.len (times_of es ns) ≡ length es
len-times_of es ns rises = maps.len-entries (times_of es ns) ∙ ap length (entries-as_map nat_cmp_total (timed es ns) (rising-timed ns es rises)) ∙ length-map es (λ e. (e.0, time_at ns e.1))

pub has-times_of : (es : List (ℕ × ℕ)) (ns : List Node) (q : ℕ) → maps.contains_key (times_of es ns) q ≡ is_some (find nat_cmp q es)
has-times_of es ns q = ap is_some (get-times_of es ns q) ∙ by_case (find nat_cmp q es)
  where
    by_case : (o : Option ℕ) → is_some (option_map (time_at ns) o) ≡ is_some o
    by_case None = refl
    by_case (Some u) = refl

-- a name that is found has the time of its node
pub time_found : (es : List (ℕ × ℕ)) (ns : List Node) (q i : ℕ) → find nat_cmp q es ≡ Some i → maps.get (times_of es ns) q ≡ Some (time_at ns i)
time_found es ns q i e = get-times_of es ns q ∙ ap (option_map (time_at ns)) e

-- and one with a time is found
pub node_found : (es : List (ℕ × ℕ)) (ns : List Node) (q : ℕ) (t : Time) → maps.get (times_of es ns) q ≡ Some t → (i : ℕ) × (find nat_cmp q es ≡ Some i) × (time_of ns i ≡ t.0)
node_found es ns q t e = by_case (find nat_cmp q es) refl
  where
    some_same : {A : Type 0} {x y : A} → Some x ≡ Some y → x ≡ y
    some_same h = cc

    by_case : (o : Option ℕ) → find nat_cmp q es ≡ o → (i : ℕ) × (find nat_cmp q es ≡ Some i) × (time_of ns i ≡ t.0)
    by_case None h = let no : None ≡ Some t = sym (get-times_of es ns q ∙ ap (option_map (time_at ns)) h) ∙ e in cc
    by_case (Some i) h = (i, h, ap (λ (u : Time). u.0) (some_same (sym (time_found es ns q i h) ∙ e)))

module _ (es : List (ℕ × ℕ)) (ns ns' : List Node) where
  -- the names with the same times have the same map
  pub times_kept : ((q j : ℕ) → find nat_cmp q es ≡ Some j → time_of ns' j ≡ time_of ns j) → times_of es ns' ≡ times_of es ns
  times_kept same = same_gets (times_of es ns) (times_of es ns') (λ q. by_case q (find nat_cmp q es) refl)
    where
      by_case : (q : ℕ) (o : Option ℕ) → find nat_cmp q es ≡ o → maps.get (times_of es ns') q ≡ maps.get (times_of es ns) q
      by_case q None h = get-times_of es ns' q ∙ ap (option_map (time_at ns')) h ∙ sym (get-times_of es ns q ∙ ap (option_map (time_at ns)) h)
      by_case q (Some j) h = time_found es ns' q j h ∙ ap (λ (u : ℕ). Some (time u)) (same q j h) ∙ sym (time_found es ns q j h)
        where
          time : ℕ → Time
          time u = record { 0 = u }

  module _ (es' : List (ℕ × ℕ)) (name : ℕ) (others : (q j : ℕ) → q ≢ name → find nat_cmp q es ≡ Some j → time_of ns' j ≡ time_of ns j) where
    abbrev moment : ℕ → Time
    moment u = record { 0 = u }

    other_time : (q : ℕ) → q ≢ name → find nat_cmp q es' ≡ find nat_cmp q es → (o : Option ℕ) → find nat_cmp q es ≡ o → maps.get (times_of es' ns') q ≡ maps.get (times_of es ns) q
    other_time q apart e None h = get-times_of es' ns' q ∙ ap (option_map (time_at ns')) (e ∙ h) ∙ sym (get-times_of es ns q ∙ ap (option_map (time_at ns)) h)
    other_time q apart e (Some j) h = time_found es' ns' q j (e ∙ h) ∙ ap (λ (u : ℕ). Some (moment u)) (others q j apart h) ∙ sym (time_found es ns q j h)

    pub times_put : (i t : ℕ) → ((q : ℕ) → find nat_cmp q es' ≡ cond (q == name) (Some i) (find nat_cmp q es)) → time_of ns' i ≡ t
        → times_of es' ns' ≡ maps.insert (times_of es ns) name (moment t)
    times_put i t finds here = same_gets (maps.insert (times_of es ns) name (moment t)) (times_of es' ns') (λ q. ⊎_elim
        (λ (same : q ≡ name).
        time_found es' ns' q i (finds q ∙ ap (λ b. cond b (Some i) (find nat_cmp q es)) (eq-eqb q name same)) ∙ ap (λ (u : ℕ). Some (moment u)) here
        ∙ sym (get-inserted (times_of es ns) name (moment t) q ∙ ap (λ b. cond b (Some (moment t)) (maps.get (times_of es ns) q)) (eq-eqb q name same)))
        (λ (apart : q ≢ name).
        other_time q apart (finds q ∙ ap (λ b. cond b (Some i) (find nat_cmp q es)) (ne_eqb q name apart)) (find nat_cmp q es) refl
        ∙ sym (get-inserted (times_of es ns) name (moment t) q ∙ ap (λ b. cond b (Some (moment t)) (maps.get (times_of es ns) q)) (ne_eqb q name apart)))
        (cases_eq q name))

    pub times_cut : ((q : ℕ) → find nat_cmp q es' ≡ cond (q == name) None (find nat_cmp q es)) → times_of es' ns' ≡ maps.remove (times_of es ns) name
    times_cut finds = same_gets (maps.remove (times_of es ns) name) (times_of es' ns') (λ q. ⊎_elim
        (λ (same : q ≡ name).
        get-times_of es' ns' q ∙ ap (option_map (time_at ns')) (finds q ∙ ap (λ b. cond b None (find nat_cmp q es)) (eq-eqb q name same))
        ∙ sym (get-removed (times_of es ns) name q ∙ ap (λ b. cond b None (maps.get (times_of es ns) q)) (eq-eqb q name same)))
        (λ (apart : q ≢ name).
        other_time q apart (finds q ∙ ap (λ b. cond b None (find nat_cmp q es)) (ne_eqb q name apart)) (find nat_cmp q es) refl
        ∙ sym (get-removed (times_of es ns) name q ∙ ap (λ b. cond b None (maps.get (times_of es ns) q)) (ne_eqb q name apart)))
        (cases_eq q name))

-- ---- names and nodes agree

some_is : (i j : ℕ) → Some i ≡ Some j → i ≡ j
some_is i j h = cc

pub queue_same : (es : List (ℕ × ℕ)) (w w' : Wheel) → IsQueue es w → IsWheel w' → IsSettled w' → Same w.nodes.items w'.nodes.items → IsQueue es w'
queue_same es w w' queue sound settled same = record {
  rises = queue.rises;
  sound = sound;
  settled = settled;
  found = λ q i e. let f = queue.found q i e in (entry_new w.nodes.items w'.nodes.items same i f.0, same.names i ∙ f.1);
  named = λ i e. ap (λ n. find nat_cmp n es) (same.names i) ∙ queue.named i (entry_old w.nodes.items w'.nodes.items same i e);
}

module _ (es : List (ℕ × ℕ)) (w w' : Wheel) (queue : IsQueue es w) (name i : ℕ) (sound : IsWheel w') (settled : IsSettled w') (others : Others w.nodes.items w'.nodes.items i) where
  -- no other name has the node of this one
  pub one_name : find nat_cmp name es ≡ Some i → (q j : ℕ) → find nat_cmp q es ≡ Some j → q ≢ name → j ≢ i
  one_name here q j e apart same = apart (sym (queue.found q j e).1 ∙ ap (name_of w.nodes.items) same ∙ (queue.found name i here).1)

  pub queue_renewed : (t : ℕ) → find nat_cmp name es ≡ Some i → Holds w'.nodes.items i name t → IsQueue es w'
  queue_renewed t here holds = record {
    rises = queue.rises;
    sound = sound;
    settled = settled;
    found = λ q j e. ⊎_elim
        (λ (same : q ≡ name).
        let is_i : j ≡ i = some_is j i (sym e ∙ ap (λ n. find nat_cmp n es) same ∙ here) in
        (subst (λ (k : ℕ). IsEntry w'.nodes.items k) (sym is_i) holds.there, ap (name_of w'.nodes.items) is_i ∙ holds.named ∙ sym same))
        (λ (apart : q ≢ name).
        let far = one_name here q j e apart in
        (entry_after w.nodes.items w'.nodes.items i j others far (queue.found q j e).0, others.names j far ∙ (queue.found q j e).1))
        (cases_eq q name);
    named = λ j e. ⊎_elim
        (λ (same : j ≡ i). ap (λ n. find nat_cmp n es) (ap (name_of w'.nodes.items) same ∙ holds.named) ∙ here ∙ ap Some (sym same))
        (λ (far : j ≢ i). ap (λ n. find nat_cmp n es) (others.names j far) ∙ queue.named j (entry_before w.nodes.items w'.nodes.items i j others far e))
        (cases_eq j i);
  }

  module _ (es' : List (ℕ × ℕ)) (rises : IsRising nat_cmp es') where
    pub apart_free : place_of w.nodes.items i ≡ 704 → (q j : ℕ) → find nat_cmp q es ≡ Some j → j ≢ i
    apart_free was q j e same =
        let live = (queue.found q j e).0.live in let f : place_of w.nodes.items j ≡ place_of w.nodes.items i = ap (place_of w.nodes.items) same in omega (arith, live, f, was)

    pub queue_added : (t : ℕ) → ((q : ℕ) → find nat_cmp q es' ≡ cond (q == name) (Some i) (find nat_cmp q es)) → find nat_cmp name es ≡ None → place_of w.nodes.items i ≡ 704
        → Holds w'.nodes.items i name t → IsQueue es' w'
    queue_added t finds none was holds = record {
      rises = rises;
      sound = sound;
      settled = settled;
      found = λ q j e. ⊎_elim
          (λ (same : q ≡ name).
          let is_i : i ≡ j = some_is i j (sym (finds q ∙ ap (λ b. cond b (Some i) (find nat_cmp q es)) (eq-eqb q name same)) ∙ e) in
          (subst (λ (k : ℕ). IsEntry w'.nodes.items k) is_i holds.there, ap (name_of w'.nodes.items) (sym is_i) ∙ holds.named ∙ sym same))
          (λ (apart : q ≢ name).
          let old : find nat_cmp q es ≡ Some j = sym (finds q ∙ ap (λ b. cond b (Some i) (find nat_cmp q es)) (ne_eqb q name apart)) ∙ e in
          let far = apart_free was q j old in
          (entry_after w.nodes.items w'.nodes.items i j others far (queue.found q j old).0, others.names j far ∙ (queue.found q j old).1))
          (cases_eq q name);
      named = λ j e. ⊎_elim
          (λ (same : j ≡ i).
          let n : name_of w'.nodes.items j ≡ name = ap (name_of w'.nodes.items) same ∙ holds.named in
          finds (name_of w'.nodes.items j) ∙ ap (λ b. cond b (Some i) (find nat_cmp (name_of w'.nodes.items j) es)) (eq-eqb (name_of w'.nodes.items j) name n) ∙ ap Some (sym same))
          (λ (far : j ≢ i).
          let old = queue.named j (entry_before w.nodes.items w'.nodes.items i j others far e) in
          let n = others.names j far in
          let there : find nat_cmp (name_of w'.nodes.items j) es ≡ Some j = ap (λ k. find nat_cmp k es) n ∙ old in
          let apart : name_of w'.nodes.items j ≢ name = λ (same : name_of w'.nodes.items j ≡ name). let no : None ≡ Some j = sym none ∙ ap (λ k. find nat_cmp k es) (sym same) ∙ there in cc in
          finds (name_of w'.nodes.items j) ∙ ap (λ b. cond b (Some i) (find nat_cmp (name_of w'.nodes.items j) es)) (ne_eqb (name_of w'.nodes.items j) name apart) ∙ there)
          (cases_eq j i);
    }

    pub queue_removed : ((q : ℕ) → find nat_cmp q es' ≡ cond (q == name) None (find nat_cmp q es)) → find nat_cmp name es ≡ Some i → place_of w'.nodes.items i ≡ 704 → IsQueue es' w'
    queue_removed finds here gone = record {
      rises = rises;
      sound = sound;
      settled = settled;
      found = λ q j e. ⊎_elim
          (λ (same : q ≡ name). let no : None ≡ Some j = sym (finds q ∙ ap (λ b. cond b None (find nat_cmp q es)) (eq-eqb q name same)) ∙ e in cc)
          (λ (apart : q ≢ name).
          let old : find nat_cmp q es ≡ Some j = sym (finds q ∙ ap (λ b. cond b None (find nat_cmp q es)) (ne_eqb q name apart)) ∙ e in
          let far = one_name here q j old apart in
          (entry_after w.nodes.items w'.nodes.items i j others far (queue.found q j old).0, others.names j far ∙ (queue.found q j old).1))
          (cases_eq q name);
      named = λ j e.
          let far : j ≢ i = λ (same : j ≡ i). let live = e.live in let f : place_of w'.nodes.items j ≡ place_of w'.nodes.items i = ap (place_of w'.nodes.items) same in omega (arith, live, f, gone) in
          let old = queue.named j (entry_before w.nodes.items w'.nodes.items i j others far e) in
          let there : find nat_cmp (name_of w'.nodes.items j) es ≡ Some j = ap (λ k. find nat_cmp k es) (others.names j far) ∙ old in
          let apart : name_of w'.nodes.items j ≢ name = λ (same : name_of w'.nodes.items j ≡ name). far (some_is j i (sym there ∙ ap (λ k. find nat_cmp k es) same ∙ here)) in
          finds (name_of w'.nodes.items j) ∙ ap (λ b. cond b None (find nat_cmp (name_of w'.nodes.items j) es)) (ne_eqb (name_of w'.nodes.items j) name apart) ∙ there;
    }

pub finds_put : (name i : ℕ) (es : List (ℕ × ℕ)) (q : ℕ) → find nat_cmp q (put nat_cmp name i es) ≡ cond (q == name) (Some i) (find nat_cmp q es)
finds_put name i es q = find-put nat_cmp nat_cmp_total q name i es ∙ ap (λ b. cond b (Some i) (find nat_cmp q es)) (unsigned_tied q name)

pub finds_without : (name : ℕ) (es : List (ℕ × ℕ)) (q : ℕ) → find nat_cmp q (without nat_cmp name es) ≡ cond (q == name) None (find nat_cmp q es)
finds_without name es q = find-without nat_cmp_total name q es ∙ ap (λ b. cond b None (find nat_cmp q es)) (unsigned_tied q name)

-- ---- what the queue answers

module _ (es : List (ℕ × ℕ)) (w : Wheel) (queue : IsQueue es w) where
  abbrev times : maps.FinMap nat_cmp Time
  times = times_of es w.nodes.items

  abbrev no_times : maps.FinMap nat_cmp Time
  no_times = maps.empty

  pub none_held : ((i : ℕ) → IsEntry w.nodes.items i → ⊥) → times ≡ maps.empty
  none_held none = same_gets maps.empty times (λ q. by_case q (find nat_cmp q es) refl)
    where
      by_case : (q : ℕ) (o : Option ℕ) → find nat_cmp q es ≡ o → maps.get times q ≡ maps.get no_times q
      by_case q None h = get-times_of es w.nodes.items q ∙ ap (option_map (time_at w.nodes.items)) h ∙ sym (maps.get-empty nat_cmp q)
      by_case q (Some i) h = absurd (none i (queue.found q i h).0)

  -- no node holds an entry where no name has one
  pub nothing_held : (length es == 0) ≡ true → (i : ℕ) → IsEntry w.nodes.items i → ⊥
  nothing_held none i e = by_case es none (queue.named i e)
    where
      by_case : (es : List (ℕ × ℕ)) → (length es == 0) ≡ true → find nat_cmp (name_of w.nodes.items i) es ≡ Some i → ⊥
      by_case [] t found = let no : None ≡ Some i = found in cc
      by_case (x ∷ xs) t found = omega (arith, eqb-true (length (x ∷ xs)) 0 t)

  pub entry_time : (i : ℕ) → IsEntry w.nodes.items i → maps.get times (name_of w.nodes.items i) ≡ Some (time_at w.nodes.items i)
  entry_time i e = time_found es w.nodes.items (name_of w.nodes.items i) i (queue.named i e)

  pub some_held : (i : ℕ) → IsEntry w.nodes.items i → times ≢ maps.empty
  some_held i e none = let no : None ≡ Some (time_at w.nodes.items i) = sym (maps.get-empty nat_cmp (name_of w.nodes.items i)) ∙ ap (λ m. maps.get m (name_of w.nodes.items i)) (sym none) ∙ entry_time i e in cc

  pub from_all : (t : ℕ) → AreFrom w.nodes.items t → (name : ℕ) (other : Time) → maps.get times name ≡ Some other → t ≤ other.0
  from_all t from name other e =
      let f = node_found es w.nodes.items name other e in
      let late = from f.0 (queue.found name f.0 f.1).0 in let at = f.2 in omega (arith, late, at)

  pub earliest_is : (t : ℕ) → IsLeastTime w.nodes.items t → IsEarliest times (record { 0 = t })
  earliest_is t least = record {
    held = (name_of w.nodes.items least.held.0, entry_time least.held.0 least.held.1 ∙ ap (λ (u : ℕ). Some (record { 0 = u })) least.held.2);
    least = from_all t least.least;
  }

  pub due_is : (t : Time) (i : ℕ) → IsDueNode w.nodes.items t.0 i → is_due times t (name_of w.nodes.items i) ≡ true
  due_is t i due = ap (is_at t) (entry_time i due.there) ∙ eq-eqb (time_of w.nodes.items i) t.0 due.due

  pub none_is_due : (t : Time) → ((i : ℕ) → IsEntry w.nodes.items i → time_of w.nodes.items i ≢ t.0) → (q : ℕ) → is_due times t q ≡ false
  none_is_due t none q = by_case (find nat_cmp q es) refl
    where
      by_case : (o : Option ℕ) → find nat_cmp q es ≡ o → is_due times t q ≡ false
      by_case None h = ap (is_at t) (get-times_of es w.nodes.items q ∙ ap (option_map (time_at w.nodes.items)) h)
      by_case (Some i) h = ap (is_at t) (time_found es w.nodes.items q i h) ∙ ne_eqb (time_of w.nodes.items i) t.0 (none i (queue.found q i h).0)

-- a name that is not there is not there any more
pub unfound : (name : ℕ) (es es' : List (ℕ × ℕ)) → ((q : ℕ) → find nat_cmp q es' ≡ cond (q == name) None (find nat_cmp q es)) → find nat_cmp name es ≡ None → (q : ℕ) → find nat_cmp q es' ≡ find nat_cmp q es
unfound name es es' finds none q = ⊎_elim
    (λ (same : q ≡ name). finds q ∙ ap (λ b. cond b None (find nat_cmp q es)) (eq-eqb q name same) ∙ sym (ap (λ k. find nat_cmp k es) same ∙ none))
    (λ (apart : q ≢ name). finds q ∙ ap (λ b. cond b None (find nat_cmp q es)) (ne_eqb q name apart))
    (cases_eq q name)

pub queue_unfound : (es es' : List (ℕ × ℕ)) (w : Wheel) → IsQueue es w → IsRising nat_cmp es' → ((q : ℕ) → find nat_cmp q es' ≡ find nat_cmp q es) → IsQueue es' w
queue_unfound es es' w queue rises same = record {
  rises = rises;
  sound = queue.sound;
  settled = queue.settled;
  found = λ q i e. queue.found q i (sym (same q) ∙ e);
  named = λ i e. same (name_of w.nodes.items i) ∙ queue.named i e;
}

pub finds_itself : (name i : ℕ) (es : List (ℕ × ℕ)) → find nat_cmp name es ≡ Some i → (q : ℕ) → find nat_cmp q es ≡ cond (q == name) (Some i) (find nat_cmp q es)
finds_itself name i es here q = ⊎_elim
    (λ (same : q ≡ name). ap (λ k. find nat_cmp k es) same ∙ here ∙ sym (ap (λ b. cond b (Some i) (find nat_cmp q es)) (eq-eqb q name same)))
    (λ (apart : q ≢ name). sym (ap (λ b. cond b (Some i) (find nat_cmp q es)) (ne_eqb q name apart)))
    (cases_eq q name)

-- ---- more room

module _ (es : List (ℕ × ℕ)) (w w' : Wheel) (queue : IsQueue es w) (grown : Grown w.nodes.items w'.nodes.items) where
  entry_there : (i : ℕ) → IsEntry w'.nodes.items i → i < length w.nodes.items
  entry_there i e = ⊎_elim
      (λ (less : i < length w.nodes.items). less)
      (λ (past : length w.nodes.items ≤ i). let none = grown.none i past e.within e.entry in let live = e.live in absurd (omega (arith, none, live)))
      (cases_lt i (length w.nodes.items))

  entry_kept : (i : ℕ) → IsEntry w'.nodes.items i → IsEntry w.nodes.items i
  entry_kept i e =
      let l = entry_there i e in
      let p : place_of w'.nodes.items i ≡ place_of w.nodes.items i = ap (λ (n : Node). n.place) (grown.stay i l) in
      record { within = l; entry = e.entry; live = let live = e.live in omega (arith, p, live) }

  entry_grown : (i : ℕ) → IsEntry w.nodes.items i → IsEntry w'.nodes.items i
  entry_grown i e =
      let p : place_of w'.nodes.items i ≡ place_of w.nodes.items i = ap (λ (n : Node). n.place) (grown.stay i e.within) in
      record { within = let a = e.within in let b = grown.longer in omega (arith, a, b); entry = e.entry; live = let live = e.live in omega (arith, p, live) }

  settled_grown : w'.origin ≡ w.origin → IsSettled w'
  settled_grown origin i e =
      let old = queue.settled i (entry_kept i e) in
      let n = grown.stay i (entry_there i e) in
      let t : time_of w'.nodes.items i ≡ time_of w.nodes.items i = ap (λ (n : Node). n.time) n in
      record {
        late = let a = old.late in omega (arith, a, t, origin);
        fits = let a = old.fits in omega (arith, a, t);
        at = ap (λ (n : Node). n.place) n ∙ old.at ∙ (λ k. place_at 10 (sym t k) (sym origin k));
      }

  pub queue_grown : IsWheel w' → w'.origin ≡ w.origin → IsQueue es w'
  queue_grown sound origin = record {
    rises = queue.rises;
    sound = sound;
    settled = settled_grown origin;
    found = λ q i e. let f = queue.found q i e in (entry_grown i f.0, ap (λ (n : Node). n.name) (grown.stay i f.0.within) ∙ f.1);
    named = λ i e. ap (λ (n : Node). find nat_cmp n.name es) (grown.stay i (entry_there i e)) ∙ queue.named i (entry_kept i e);
  }

  pub times_grown : times_of es w'.nodes.items ≡ times_of es w.nodes.items
  times_grown = times_kept es w.nodes.items w'.nodes.items (λ q j e. ap (λ (n : Node). n.time) (grown.stay j (queue.found q j e).0.within))
