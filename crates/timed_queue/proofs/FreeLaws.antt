-- A wheel is whole again where a free node is taken, where one becomes free, and where one gets another name and time.
use Rattle.std.proofs.Common.{◌≡◌, ◌≢◌, ℕ, ◌+◌, ◌-◌, ◌<◌, ◌≤◌, cond, eqb, List, length, length-set, refl, sym, ap, ◌∙◌, subst, inl, inr, ⊎_elim, arith, eq-eqb, ne_eqb}
use Rattle.std.proofs.lemmas.Bool.{cases_eq}
use Rattle.timed_queue.specs.declared.chains.Node.{Node}
use Rattle.timed_queue.specs.Nodes.{IsLinked, IsFreeList, Moved, node_at, next_of, before_of, place_of, name_of, time_of, with_place, with_next, with_entry}
use Rattle.timed_queue.specs.Marked.{mark_of}
use Rattle.timed_queue.specs.Sound.{IsWhole}
use Rattle.timed_queue.proofs.NodeLaws.{kept, changed, other}

pub moved_twice : (a b c : List Node) (i p q : ℕ) → Moved a b i p → Moved b c i q → Moved a c i q
moved_twice a b c i p q one two = record {
  as_many = two.as_many ∙ one.as_many;
  here = two.here;
  others = λ j apart. two.others j apart ∙ one.others j apart;
  names = λ j. two.names j ∙ one.names j;
  times = λ j. two.times j ∙ one.times j;
}

-- the rings stay where nothing of their nodes changes and no other node comes to a place
rings_stay : (len : ℕ) (next before place next' before' place' up : ℕ → ℕ) → IsLinked len next before place up
    → ((j : ℕ) → place j < 704 → (next' j ≡ next j) × (before' j ≡ before j) × (place' j ≡ place j)) → ((j : ℕ) → place' j < 704 → place j < 704)
    → IsLinked len next' before' place' up
rings_stay len next before place next' before' place' up is stays only = record {
  next_in = λ j jin low. let old = only j low in let e = (stays j old).0 in let g = is.next_in j jin old in omega (arith, e, g);
  next_place = λ j jin low.
      let old = only j low in let there = is.next_place j jin old in
      ap place' (stays j old).0 ∙ (stays (next j) (omega (arith, there, old))).2 ∙ there ∙ sym (stays j old).2;
  next_back = λ j jin low.
      let old = only j low in let there = is.next_place j jin old in
      ap before' (stays j old).0 ∙ (stays (next j) (omega (arith, there, old))).1 ∙ is.next_back j jin old;
  before_in = λ j jin low. let old = only j low in let e = (stays j old).1 in let g = is.before_in j jin old in omega (arith, e, g);
  before_place = λ j jin low.
      let old = only j low in let there = is.before_place j jin old in
      ap place' (stays j old).1 ∙ (stays (before j) (omega (arith, there, old))).2 ∙ there ∙ sym (stays j old).2;
  before_back = λ j jin low.
      let old = only j low in let there = is.before_place j jin old in
      ap next' (stays j old).1 ∙ (stays (before j) (omega (arith, there, old))).0 ∙ is.before_back j jin old;
  rises = λ j jin big low. let old = only j low in let e : up (before' j) ≡ up (before j) = ap up (stays j old).1 in let g = is.rises j jin big old in omega (arith, e, g);
  heads = λ j jin low. let e = is.heads j jin low in (stays j (omega (arith, e, low))).2 ∙ e;
}

-- whatever is done to the free nodes alone leaves the wheel whole
whole_stays : (ns new : List Node) (words : List ℕ) (free room free' room' : ℕ) (depth : ℕ → ℕ) → IsWhole ns words free room → length new ≡ length ns
    → ((j : ℕ) → place_of ns j < 704 → (next_of new j ≡ next_of ns j) × (before_of new j ≡ before_of ns j) × (place_of new j ≡ place_of ns j))
    → ((j : ℕ) → place_of new j < 704 → place_of ns j < 704) → IsFreeList (length ns) (next_of new) (place_of new) depth free' room' → IsWhole new words free' room'
whole_stays ns new words free room free' room' depth is as_many stays only stack = record {
  up = is.up;
  rings = subst (λ (n : ℕ). IsLinked n (next_of new) (before_of new) (place_of new) is.up) (sym as_many)
      (rings_stay (length ns) (next_of ns) (before_of ns) (place_of ns) (next_of new) (before_of new) (place_of new) is.up is.rings stays only);
  depth = depth;
  stack = subst (λ (n : ℕ). IsFreeList n (next_of new) (place_of new) depth free' room') (sym as_many) stack;
  marked = λ p low mark.
      let old = is.marked p low mark in
      let at = is.rings.heads p old.0 low in
      (omega (arith, as_many, old.0), λ loop. old.1 (sym (stays p (omega (arith, at, low))).0 ∙ loop));
  held = λ j jin big low.
      let old = only j low in
      subst (λ (q : ℕ). mark_of words q ≡ 1) (sym (stays j old).2) (is.held j (omega (arith, as_many, jin)) big old);
  heads = ⊎_elim (λ (none : length ns ≡ 0). inl (as_many ∙ none)) (λ (some : 704 ≤ length ns). inr (omega (arith, as_many, some))) is.heads;
  few = omega (arith, as_many, is.few);
}

module _ (ns : List Node) (words : List ℕ) (free room : ℕ) (is : IsWhole ns words free room) where
  module _ (some : 0 < room) where
    top_in : free < length ns
    top_in = (is.stack.top some).0

    top_at : place_of ns free ≡ 704
    top_at = (is.stack.top some).2

    top_depth : is.depth free ≡ room
    top_depth = (is.stack.top some).3

    abbrev taken : List Node
    taken = with_place ns free 705

    abbrev v : Node
    v = record (node_at ns free) { place = 705 }

    pub moved_free : Moved ns taken free 705
    moved_free = record {
      as_many = length-set ns free v;
      here = changed (λ n. n.place) ns free v top_in;
      others = λ j apart. other (λ n. n.place) ns free v j apart;
      names = kept (λ n. n.name) ns free v top_in refl;
      times = kept (λ n. n.time) ns free v top_in refl;
    }

    next_same : (j : ℕ) → next_of taken j ≡ next_of ns j
    next_same = kept (λ n. n.next) ns free v top_in refl

    left_free : (j : ℕ) → place_of taken j ≡ 704 → j ≢ free
    left_free j at same = let e : place_of taken j ≡ 705 = ap (place_of taken) same ∙ moved_free.here in omega (arith, e, at)

    was_free : (j : ℕ) → place_of taken j ≡ 704 → place_of ns j ≡ 704
    was_free j at = sym (moved_free.others j (left_free j at)) ∙ at

    lower : (j : ℕ) → j < length ns → place_of taken j ≡ 704 → is.depth j < room
    lower j jin at =
        let most = (is.stack.each j jin (was_free j at)).2 in
        let apart : is.depth j ≢ room = λ same. left_free j at (is.stack.one j free jin top_in (was_free j at) top_at (same ∙ sym top_depth)) in
        omega (arith, most, apart)

    still_free : (j : ℕ) → j < length ns → place_of ns j ≡ 704 → is.depth j < room → place_of taken j ≡ 704
    still_free j jin at less = moved_free.others j (λ (same : j ≡ free). let e : is.depth j ≡ room = ap is.depth same ∙ top_depth in omega (arith, e, less)) ∙ at

    pub whole_taken : IsWhole taken words (next_of ns free) (room - 1)
    whole_taken = whole_stays ns taken words free room (next_of ns free) (room - 1) is.depth is moved_free.as_many
        (λ j live. (
          next_same j,
          kept (λ n. n.before) ns free v top_in refl j,
          moved_free.others j (λ (same : j ≡ free). let e : place_of ns j ≡ 704 = ap (place_of ns) same ∙ top_at in omega (arith, e, live)),
        ))
        (λ j low.
        let apart : j ≢ free = λ (same : j ≡ free). let e : place_of taken j ≡ 705 = ap (place_of taken) same ∙ moved_free.here in omega (arith, e, low) in
        let e = moved_free.others j apart in omega (arith, e, low))
        (record {
          top = λ more.
              let b = is.stack.below free top_in top_at (omega (arith, top_depth, more)) in
              let less : is.depth (next_of ns free) < room = omega (arith, b.2, top_depth) in
              (b.0, (is.stack.each (next_of ns free) b.0 b.1).0, still_free (next_of ns free) b.0 b.1 less, omega (arith, b.2, top_depth));
          each = λ j jin at.
              let old = is.stack.each j jin (was_free j at) in let less = lower j jin at in (old.0, old.1, omega (arith, less));
          below = λ j jin at deep.
              let b = is.stack.below j jin (was_free j at) deep in
              let less = lower j jin at in
              let e = next_same j in
              let f : is.depth (next_of taken j) ≡ is.depth (next_of ns j) = ap is.depth e in
              (omega (arith, e, b.0), ap (place_of taken) e ∙ still_free (next_of ns j) b.0 b.1 (omega (arith, b.2, less)), omega (arith, f, b.2));
          one = λ i j iin jin ati atj same. is.stack.one i j iin jin (was_free i ati) (was_free j atj) same;
        })

  module _ (i : ℕ) (within : i < length ns) (entry : 704 ≤ i) (loose : place_of ns i ≡ 705) where
    abbrev g1 : List Node
    g1 = with_place ns i 704

    abbrev w1 : Node
    w1 = record (node_at ns i) { place = 704 }

    abbrev given : List Node
    given = with_next g1 i free

    abbrev w2 : Node
    w2 = record (node_at g1 i) { next = free }

    in1 : i < length g1
    in1 = let e = length-set ns i w1 in omega (arith, e, within)

    pub moved_given : Moved ns given i 704
    moved_given = record {
      as_many = length-set g1 i w2 ∙ length-set ns i w1;
      here = kept (λ n. n.place) g1 i w2 in1 refl i ∙ changed (λ n. n.place) ns i w1 within;
      others = λ j apart. kept (λ n. n.place) g1 i w2 in1 refl j ∙ other (λ n. n.place) ns i w1 j apart;
      names = λ j. kept (λ n. n.name) g1 i w2 in1 refl j ∙ kept (λ n. n.name) ns i w1 within refl j;
      times = λ j. kept (λ n. n.time) g1 i w2 in1 refl j ∙ kept (λ n. n.time) ns i w1 within refl j;
    }

    next_given : next_of given i ≡ free
    next_given = changed (λ n. n.next) g1 i w2 in1

    next_old : (j : ℕ) → j ≢ i → next_of given j ≡ next_of ns j
    next_old j apart = other (λ n. n.next) g1 i w2 j apart ∙ kept (λ n. n.next) ns i w1 within refl j

    abbrev depth' : ℕ → ℕ
    depth' j = cond (eqb j i) (room + 1) (is.depth j)

    depth_given : (j : ℕ) → j ≡ i → depth' j ≡ room + 1
    depth_given j same = ap (λ b. cond b (room + 1) (is.depth j)) (eq-eqb j i same)

    depth_old : (j : ℕ) → j ≢ i → depth' j ≡ is.depth j
    depth_old j apart = ap (λ b. cond b (room + 1) (is.depth j)) (ne_eqb j i apart)

    not_loose : (j : ℕ) → place_of ns j ≢ 705 → j ≢ i
    not_loose j other_place same = other_place (ap (place_of ns) same ∙ loose)

    old_free : (j : ℕ) → j ≢ i → place_of given j ≡ 704 → place_of ns j ≡ 704
    old_free j apart at = sym (moved_given.others j apart) ∙ at

    free_apart : (j : ℕ) → place_of ns j ≡ 704 → j ≢ i
    free_apart j at = not_loose j (λ e. omega (arith, e, at))

    pub whole_given : IsWhole given words i (room + 1)
    whole_given = whole_stays ns given words free room i (room + 1) depth' is moved_given.as_many
        (λ j live. let apart = not_loose j (λ e. omega (arith, e, live)) in
        (next_old j apart, kept (λ n. n.before) g1 i w2 in1 refl j ∙ kept (λ n. n.before) ns i w1 within refl j, moved_given.others j apart))
        (λ j low.
        let apart : j ≢ i = λ (same : j ≡ i). let e : place_of given j ≡ 704 = ap (place_of given) same ∙ moved_given.here in omega (arith, e, low) in
        let e = moved_given.others j apart in omega (arith, e, low))
        (record {
          top = λ more. (within, entry, moved_given.here, depth_given i refl);
          each = λ j jin at. ⊎_elim
              (λ (same : j ≡ i). let d = depth_given j same in (omega (arith, same, entry), omega (arith, d), omega (arith, d)))
              (λ (apart : j ≢ i). let d = depth_old j apart in let old = is.stack.each j jin (old_free j apart at) in (old.0, omega (arith, d, old.1), omega (arith, d, old.2)))
              (cases_eq j i);
          below = λ j jin at deep. ⊎_elim
              (λ (same : j ≡ i).
              let d = depth_given j same in
              let t = is.stack.top (omega (arith, d, deep)) in
              let e : next_of given j ≡ free = ap (next_of given) same ∙ next_given in
              let apart = free_apart free t.2 in
              let f : depth' (next_of given j) ≡ room = ap depth' e ∙ depth_old free apart ∙ t.3 in
              (omega (arith, e, t.0), ap (place_of given) e ∙ moved_given.others free apart ∙ t.2, omega (arith, f, d)))
              (λ (apart : j ≢ i).
              let d = depth_old j apart in
              let b = is.stack.below j jin (old_free j apart at) (omega (arith, d, deep)) in
              let e = next_old j apart in
              let far = free_apart (next_of ns j) b.1 in
              let f : depth' (next_of given j) ≡ is.depth (next_of ns j) = ap depth' e ∙ depth_old (next_of ns j) far in
              (omega (arith, e, b.0), ap (place_of given) e ∙ moved_given.others (next_of ns j) far ∙ b.1, omega (arith, f, d, b.2)))
              (cases_eq j i);
          one = λ k j kin jin atk atj same. ⊎_elim
              (λ (here : k ≡ i). ⊎_elim
              (λ (there : j ≡ i). here ∙ sym there)
              (λ (apart : j ≢ i).
              let d = depth_given k here in let e = depth_old j apart in let most = (is.stack.each j jin (old_free j apart atj)).2 in absurd (omega (arith, d, e, most, same)))
              (cases_eq j i))
              (λ (far : k ≢ i). ⊎_elim
              (λ (there : j ≡ i).
              let d = depth_given j there in let e = depth_old k far in let most = (is.stack.each k kin (old_free k far atk)).2 in absurd (omega (arith, d, e, most, same)))
              (λ (apart : j ≢ i). is.stack.one k j kin jin (old_free k far atk) (old_free j apart atj) (sym (depth_old k far) ∙ same ∙ depth_old j apart))
              (cases_eq j i))
              (cases_eq k i);
        })

  module _ (i name time : ℕ) (within : i < length ns) where
    abbrev filled : List Node
    filled = with_entry ns i name time

    abbrev e1 : Node
    e1 = record (node_at ns i) { name = name; time = time }

    pub filled-length : length filled ≡ length ns
    filled-length = length-set ns i e1

    pub filled-place : (j : ℕ) → place_of filled j ≡ place_of ns j
    filled-place = kept (λ n. n.place) ns i e1 within refl

    filled-next : (j : ℕ) → next_of filled j ≡ next_of ns j
    filled-next = kept (λ n. n.next) ns i e1 within refl

    pub filled-name : name_of filled i ≡ name
    filled-name = changed (λ n. n.name) ns i e1 within

    pub filled-time : time_of filled i ≡ time
    filled-time = changed (λ n. n.time) ns i e1 within

    pub other-name : (j : ℕ) → j ≢ i → name_of filled j ≡ name_of ns j
    other-name j apart = other (λ n. n.name) ns i e1 j apart

    pub other-time : (j : ℕ) → j ≢ i → time_of filled j ≡ time_of ns j
    other-time j apart = other (λ n. n.time) ns i e1 j apart

    pub whole_filled : IsWhole filled words free room
    whole_filled = whole_stays ns filled words free room free room is.depth is filled-length
        (λ j live. (filled-next j, kept (λ n. n.before) ns i e1 within refl j, filled-place j))
        (λ j low. let e = filled-place j in omega (arith, e, low))
        (record {
          top = λ some. let t = is.stack.top some in (t.0, t.1, filled-place free ∙ t.2, t.3);
          each = λ j jin at. is.stack.each j jin (sym (filled-place j) ∙ at);
          below = λ j jin at deep.
              let b = is.stack.below j jin (sym (filled-place j) ∙ at) deep in
              let e = filled-next j in
              let f : is.depth (next_of filled j) ≡ is.depth (next_of ns j) = ap is.depth e in
              (omega (arith, e, b.0), ap (place_of filled) e ∙ filled-place (next_of ns j) ∙ b.1, omega (arith, f, b.2));
          one = λ k j kin jin atk atj same. is.stack.one k j kin jin (sym (filled-place k) ∙ atk) (sym (filled-place j) ∙ atj) same;
        })
