-- A wheel is whole again after each move of a node.
use Rattle.std.proofs.Common.{◌≡◌, ◌≢◌, ℕ, ◌+◌, ◌<◌, ◌≤◌, cond, eqb, List, length, refl, sym, ap, ◌∙◌, subst, inl, inr, ⊎_elim, arith, eq-eqb, ne_eqb}
use Rattle.std.proofs.lemmas.Bool.{cases_eq}
use Rattle.timed_queue.specs.declared.chains.Node.{Node}
use Rattle.timed_queue.specs.Nodes.{IsLinked, IsFreeList, Moved, next_of, before_of, place_of, unlinked, linked}
use Rattle.timed_queue.specs.Marked.{mark_of, Marks}
use Rattle.timed_queue.specs.Sound.{IsWhole}
use Rattle.timed_queue.proofs.LinkLaws.{unlinks, links, reach}
use Rattle.timed_queue.proofs.NodeLaws.{moved_out, out_next_at, out_next_other, out_before_at, out_before_other, moved_in, in_next_last, in_next_at, in_next_other, in_before_head, in_before_at, in_before_other}

-- the free nodes stay where nothing of them changes and no other becomes one
pub stack_stays : (len : ℕ) (next place next' place' depth : ℕ → ℕ) (free room : ℕ) → IsFreeList len next place depth free room
    → ((j : ℕ) → j < len → place j ≡ 704 → (place' j ≡ 704) × (next' j ≡ next j)) → ((j : ℕ) → j < len → place' j ≡ 704 → place j ≡ 704)
    → IsFreeList len next' place' depth free room
stack_stays len next place next' place' depth free room is stays only = record {
  top = λ some. let t = is.top some in (t.0, t.1, (stays free t.0 t.2).0, t.3);
  each = λ j within at. is.each j within (only j within at);
  below = λ j within at deep.
      let b = is.below j within (only j within at) deep in
      let e : next' j ≡ next j = (stays j within (only j within at)).1 in
      let f : depth (next' j) ≡ depth (next j) = ap depth e in
      (omega (arith, e, b.0), ap place' e ∙ (stays (next j) b.0 b.1).0, omega (arith, f, b.2));
  one = λ i j iin jin ati atj same. is.one i j iin jin (only i iin ati) (only j jin atj) same;
}

module _ (ns : List Node) (words : List ℕ) (free room : ℕ) (is : IsWhole ns words free room) (i : ℕ) (within : i < length ns) (entry : 704 ≤ i) where
  module _ (live : place_of ns i < 704) where
    pub next_in : next_of ns i < length ns
    next_in = is.rings.next_in i within live

    pub before_in : before_of ns i < length ns
    before_in = is.rings.before_in i within live

    pub moves : Moved ns (unlinked ns i) i 705
    moves = moved_out ns i within next_in before_in

    rings' : IsLinked (length ns) (next_of (unlinked ns i)) (before_of (unlinked ns i)) (place_of (unlinked ns i)) is.up
    rings' = unlinks (length ns) (next_of ns) (before_of ns) (place_of ns) is.up is.rings i within entry live (next_of (unlinked ns i)) (before_of (unlinked ns i)) (place_of (unlinked ns i))
        (out_next_at ns i within next_in before_in) (out_next_other ns i within next_in before_in) (out_before_at ns i within next_in before_in) (out_before_other ns i within next_in before_in)
        moves.here moves.others

    low_before : place_of ns (before_of ns i) < 704
    low_before = let e : place_of ns (before_of ns i) ≡ place_of ns i = is.rings.before_place i within live in omega (arith, e, live)

    stack' : IsFreeList (length ns) (next_of (unlinked ns i)) (place_of (unlinked ns i)) is.depth free room
    stack' = stack_stays (length ns) (next_of ns) (place_of ns) (next_of (unlinked ns i)) (place_of (unlinked ns i)) is.depth free room is.stack
        (λ j jin at. (
          moves.others j (λ (same : j ≡ i). let e : place_of ns j ≡ place_of ns i = ap (place_of ns) same in omega (arith, e, at, live)) ∙ at,
          out_next_other ns i within next_in before_in j (λ (same : j ≡ before_of ns i). let e : place_of ns j ≡ place_of ns (before_of ns i) = ap (place_of ns) same in omega (arith, e, at, low_before)),
        ))
        (λ j jin at. sym (moves.others j (λ (same : j ≡ i). let e : place_of (unlinked ns i) j ≡ 705 = ap (place_of (unlinked ns i)) same ∙ moves.here in omega (arith, e, at))) ∙ at)

    gone : (j : ℕ) → place_of (unlinked ns i) j < 704 → j ≢ i
    gone j low same = let e : place_of (unlinked ns i) j ≡ 705 = ap (place_of (unlinked ns i)) same ∙ moves.here in omega (arith, e, low)

    -- a head after which another node comes is that of the place
    head_before : (p : ℕ) → p < 704 → p < length ns → p ≡ before_of ns i → p ≡ place_of ns i
    head_before p low pin same = sym (is.rings.heads p pin low) ∙ ap (place_of ns) same ∙ is.rings.before_place i within live

    whole_out : (words' : List ℕ) → ((q : ℕ) → q < 704 → mark_of words' q ≡ 1 → mark_of words q ≡ 1)
        → (mark_of words' (place_of ns i) ≡ 1 → next_of (unlinked ns i) (place_of ns i) ≢ place_of ns i)
        → ((j : ℕ) → j < length ns → 704 ≤ j → place_of (unlinked ns i) j < 704 → mark_of words' (place_of ns j) ≡ 1) → IsWhole (unlinked ns i) words' free room
    whole_out words' fewer here holds = record {
      up = is.up;
      rings = subst (λ (n : ℕ). IsLinked n (next_of (unlinked ns i)) (before_of (unlinked ns i)) (place_of (unlinked ns i)) is.up) (sym moves.as_many) rings';
      depth = is.depth;
      stack = subst (λ (n : ℕ). IsFreeList n (next_of (unlinked ns i)) (place_of (unlinked ns i)) is.depth free room) (sym moves.as_many) stack';
      marked = λ p low mark.
          let old = is.marked p low (fewer p low mark) in
          let e : length (unlinked ns i) ≡ length ns = moves.as_many in (
            omega (arith, e, old.0),
            ⊎_elim
                (λ (same : p ≡ before_of ns i) (loop : next_of (unlinked ns i) p ≡ p).
                let at = head_before p low old.0 same in
                here (subst (λ (q : ℕ). mark_of words' q ≡ 1) at mark) (subst (λ (q : ℕ). next_of (unlinked ns i) q ≡ q) at loop))
                (λ (apart : p ≢ before_of ns i) (loop : next_of (unlinked ns i) p ≡ p). old.1 (sym (out_next_other ns i within next_in before_in p apart) ∙ loop))
                (cases_eq p (before_of ns i)),
          );
      held = λ j jin big low.
          let e : length (unlinked ns i) ≡ length ns = moves.as_many in
          let f = moves.others j (gone j low) in
          subst (λ (q : ℕ). mark_of words' q ≡ 1) (sym f) (holds j (omega (arith, e, jin)) big low);
      heads = let e : length (unlinked ns i) ≡ length ns = moves.as_many in ⊎_elim (λ (none : length ns ≡ 0). inl (e ∙ none)) (λ (some : 704 ≤ length ns). inr (omega (arith, e, some))) is.heads;
      few = let e : length (unlinked ns i) ≡ length ns = moves.as_many in omega (arith, e, is.few);
    }

    -- where another entry is left in the place
    pub out_more : next_of (unlinked ns i) (place_of ns i) ≢ place_of ns i → IsWhole (unlinked ns i) words free room
    out_more more = whole_out words (λ q low mark. mark) (λ _. more) (λ j jin big low.
        let f : place_of (unlinked ns i) j ≡ place_of ns j = moves.others j (gone j low) in is.held j jin big (omega (arith, f, low)))

    alone : next_of (unlinked ns i) (place_of ns i) ≡ place_of ns i → (j : ℕ) → j < length ns → 704 ≤ j → place_of (unlinked ns i) j < 704 → place_of ns j ≢ place_of ns i
    alone last j jin big low same =
        let f = moves.others j (gone j low) in
        let here : j ≡ place_of ns i = reach (length ns) (next_of (unlinked ns i)) (before_of (unlinked ns i)) (place_of (unlinked ns i)) is.up rings' (λ (k : ℕ). k ≡ place_of ns i) (place_of ns i) live refl
        (λ k kin at is_head. ap (next_of (unlinked ns i)) is_head ∙ last) j jin (f ∙ same) in
        omega (arith, here, live, big)

    -- where none is, and the mark is taken back
    pub out_last : (words' : List ℕ) → Marks words words' (place_of ns i) 0 → next_of (unlinked ns i) (place_of ns i) ≡ place_of ns i → IsWhole (unlinked ns i) words' free room
    out_last words' marks last = whole_out words'
        (λ q low mark. sym (marks.others q (λ (same : q ≡ place_of ns i). let e : mark_of words' q ≡ 0 = ap (mark_of words') same ∙ marks.here in omega (arith, e, mark))) ∙ mark)
        (λ mark _. let e : mark_of words' (place_of ns i) ≡ 0 = marks.here in omega (arith, e, mark))
        (λ j jin big low.
        let f : place_of (unlinked ns i) j ≡ place_of ns j = moves.others j (gone j low) in
        marks.others (place_of ns j) (alone last j jin big low) ∙ is.held j jin big (omega (arith, f, low)))

  module _ (loose : place_of ns i ≡ 705) (q : ℕ) (low_q : q < 704) where
    pub q_within : q < length ns
    q_within = omega (arith, within, entry, low_q)

    q_at : place_of ns q ≡ q
    q_at = is.rings.heads q q_within low_q

    q_lives : place_of ns q < 704
    q_lives = omega (arith, q_at, low_q)

    pub last_within : before_of ns q < length ns
    last_within = is.rings.before_in q q_within q_lives

    old_node : (j : ℕ) → place_of ns j < 704 → j ≢ i
    old_node j low same = let e : place_of ns j ≡ place_of ns i = ap (place_of ns) same in omega (arith, e, low, loose)

    last_at : place_of ns (before_of ns q) ≡ q
    last_at = is.rings.before_place q q_within q_lives ∙ q_at

    last_apart : before_of ns q ≢ i
    last_apart = old_node (before_of ns q) (omega (arith, last_at, low_q))

    q_apart : q ≢ i
    q_apart = old_node q q_lives

    pub comes : Moved ns (linked ns i q) i q
    comes = moved_in ns i q within q_within last_within

    abbrev up' : ℕ → ℕ
    up' j = cond (eqb j i) (is.up (before_of ns q) + 1) (is.up j)

    pub whole_in : (words' : List ℕ) → Marks words words' q 1 → IsWhole (linked ns i q) words' free room
    whole_in words' marks = record {
      up = up';
      rings = subst (λ (n : ℕ). IsLinked n (next_of (linked ns i q)) (before_of (linked ns i q)) (place_of (linked ns i q)) up') (sym comes.as_many)
          (links (length ns) (next_of ns) (before_of ns) (place_of ns) is.up is.rings i q within entry (omega (arith, loose)) low_q q_within (next_of (linked ns i q)) (before_of (linked ns i q)) (place_of (linked ns i q)) up'
          (in_next_last ns i q within q_within last_within last_apart) (in_next_at ns i q within q_within last_within) (in_next_other ns i q within q_within last_within)
          (in_before_head ns i q within q_within last_within q_apart) (in_before_at ns i q within q_within last_within) (in_before_other ns i q within q_within last_within)
          comes.here comes.others
          (ap (λ b. cond b (is.up (before_of ns q) + 1) (is.up i)) (eq-eqb i i refl)) (λ j apart. ap (λ b. cond b (is.up (before_of ns q) + 1) (is.up j)) (ne_eqb j i apart)));
      depth = is.depth;
      stack = subst (λ (n : ℕ). IsFreeList n (next_of (linked ns i q)) (place_of (linked ns i q)) is.depth free room) (sym comes.as_many)
          (stack_stays (length ns) (next_of ns) (place_of ns) (next_of (linked ns i q)) (place_of (linked ns i q)) is.depth free room is.stack
          (λ j jin at.
          let apart : j ≢ i = λ (same : j ≡ i). let e : place_of ns j ≡ place_of ns i = ap (place_of ns) same in omega (arith, e, at, loose) in (
            comes.others j apart ∙ at,
            in_next_other ns i q within q_within last_within j (λ (same : j ≡ before_of ns q). let e : place_of ns j ≡ place_of ns (before_of ns q) = ap (place_of ns) same in omega (arith, e, at, last_at, low_q)) apart,
          ))
          (λ j jin at. sym (comes.others j (λ (same : j ≡ i). let e : place_of (linked ns i q) j ≡ q = ap (place_of (linked ns i q)) same ∙ comes.here in omega (arith, e, at, low_q))) ∙ at));
      marked = λ p low mark.
          let e : length (linked ns i q) ≡ length ns = comes.as_many in ⊎_elim
          (λ (same : p ≡ q). (
            omega (arith, same, e, q_within),
            λ (loop : next_of (linked ns i q) p ≡ p). ⊎_elim
                (λ (lone : q ≡ before_of ns q).
                let g : next_of (linked ns i q) p ≡ i = ap (next_of (linked ns i q)) (same ∙ lone) ∙ in_next_last ns i q within q_within last_within last_apart in
                omega (arith, g, loop, low, entry))
                (λ (more : q ≢ before_of ns q).
                let g : next_of (linked ns i q) q ≡ next_of ns q = in_next_other ns i q within q_within last_within q more q_apart in
                let h : next_of ns q ≡ q = sym g ∙ ap (next_of (linked ns i q)) (sym same) ∙ loop ∙ same in
                more (sym (is.rings.next_back q q_within q_lives) ∙ ap (before_of ns) h))
                (cases_eq q (before_of ns q)),
          ))
          (λ (apart : p ≢ q).
          let old = is.marked p low (sym (marks.others p apart) ∙ mark) in (
            omega (arith, e, old.0),
            λ (loop : next_of (linked ns i q) p ≡ p). ⊎_elim
                (λ (last : p ≡ before_of ns q).
                let g : next_of (linked ns i q) p ≡ i = ap (next_of (linked ns i q)) last ∙ in_next_last ns i q within q_within last_within last_apart in
                omega (arith, g, loop, low, entry))
                (λ (far : p ≢ before_of ns q).
                old.1 (sym (in_next_other ns i q within q_within last_within p far (λ (same : p ≡ i). omega (arith, same, low, entry))) ∙ loop))
                (cases_eq p (before_of ns q)),
          ))
          (cases_eq p q);
      held = λ j jin big low.
          let e : length (linked ns i q) ≡ length ns = comes.as_many in ⊎_elim
          (λ (same : j ≡ i). subst (λ (r : ℕ). mark_of words' r ≡ 1) (sym (ap (place_of (linked ns i q)) same ∙ comes.here)) marks.here)
          (λ (apart : j ≢ i).
          let f = comes.others j apart in
          let old : mark_of words (place_of ns j) ≡ 1 = is.held j (omega (arith, e, jin)) big (omega (arith, f, low)) in
          subst (λ (r : ℕ). mark_of words' r ≡ 1) (sym f) (⊎_elim
          (λ (same : place_of ns j ≡ q). ap (mark_of words') same ∙ marks.here)
          (λ (far : place_of ns j ≢ q). marks.others (place_of ns j) far ∙ old)
          (cases_eq (place_of ns j) q)))
          (cases_eq j i);
      heads = inr (let e : length (linked ns i q) ≡ length ns = comes.as_many in omega (arith, e, within, entry));
      few = let e : length (linked ns i q) ≡ length ns = comes.as_many in omega (arith, e, is.few);
    }
