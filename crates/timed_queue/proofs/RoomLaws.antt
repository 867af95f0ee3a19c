-- A wheel is whole where it has no node yet, once it has the heads, and where a free node is added.
use Rattle.std.proofs.Common.{◌≡◌, ◌≢◌, ℕ, ◌+◌, ◌<◌, ◌≤◌, ◌^◌, cond, eqb, List, [], ◌∷◌, ◌++◌, length, refl, sym, ap, ◌∙◌, subst, inl, inr, ⊎_elim, arith, eq-eqb, ne_eqb, length-append}
use Rattle.std.proofs.lemmas.Bool.{cases_eq, cases_lt}
use Rattle.std.proofs.lemmas.List.{get_or_append_left}
use Rattle.std.proofs.Math.Seq.{get_or-append_seam}
use Rattle.timed_queue.specs.declared.chains.Node.{Node}
use Rattle.timed_queue.specs.Nodes.{Grown, blank, node_at, next_of, before_of, place_of}
use Rattle.timed_queue.specs.Marked.{mark_of}
use Rattle.timed_queue.specs.Sound.{IsWhole}

pub whole_none : (ns : List Node) (words : List ℕ) → length ns ≡ 0 → ((q : ℕ) → mark_of words q ≡ 0) → IsWhole ns words 0 0
whole_none ns words none unmarked = record {
  up = λ j. 0;
  rings = record {
    next_in = λ i w l. absurd (omega (arith, w, none));
    next_place = λ i w l. absurd (omega (arith, w, none));
    next_back = λ i w l. absurd (omega (arith, w, none));
    before_in = λ i w l. absurd (omega (arith, w, none));
    before_place = λ i w l. absurd (omega (arith, w, none));
    before_back = λ i w l. absurd (omega (arith, w, none));
    rises = λ i w e l. absurd (omega (arith, w, none));
    heads = λ i w l. absurd (omega (arith, w, none));
  };
  depth = λ j. 0;
  stack = record {
    top = λ some. absurd (omega (arith, some));
    each = λ i w at. absurd (omega (arith, w, none));
    below = λ i w at deep. absurd (omega (arith, w, none));
    one = λ i j iw jw ati atj same. absurd (omega (arith, iw, none));
  };
  marked = λ p low mark. let e = unmarked p in absurd (omega (arith, mark, e));
  held = λ i w e l. absurd (omega (arith, w, none));
  heads = inl none;
  few = omega (arith, none);
}

abbrev pub lone : ℕ → Node
lone j = record { name = 0; time = 0; place = j; next = j; before = j }

-- the heads alone
pub whole_heads : (os ns : List Node) (words : List ℕ) (free room : ℕ) → IsWhole os words free room → length os ≡ 0 → length ns ≡ 704 → ((j : ℕ) → j < 704 → node_at ns j ≡ lone j) → IsWhole ns words free room
whole_heads os ns words free room is none many heads = record {
  up = λ j. 0;
  rings = record {
    next_in = λ i w l. let e = at_next i (lower i w) in omega (arith, e, w);
    next_place = λ i w l. ap (place_of ns) (at_next i (lower i w));
    next_back = λ i w l. ap (before_of ns) (at_next i (lower i w)) ∙ at_before i (lower i w);
    before_in = λ i w l. let e = at_before i (lower i w) in omega (arith, e, w);
    before_place = λ i w l. ap (place_of ns) (at_before i (lower i w));
    before_back = λ i w l. ap (next_of ns) (at_before i (lower i w)) ∙ at_next i (lower i w);
    rises = λ i w e l. absurd (omega (arith, w, many, e));
    heads = λ i w l. at_place i l;
  };
  depth = λ j. 0;
  stack = record {
    top = λ some. let t = is.stack.top some in absurd (omega (arith, t.0, none));
    each = λ i w at. let e = at_place i (lower i w) in let l = lower i w in absurd (omega (arith, e, at, l));
    below = λ i w at deep. let e = at_place i (lower i w) in let l = lower i w in absurd (omega (arith, e, at, l));
    one = λ i j iw jw ati atj same. let e = at_place i (lower i iw) in let l = lower i iw in absurd (omega (arith, e, ati, l));
  };
  marked = λ p low mark. let m = is.marked p low mark in absurd (omega (arith, m.0, none));
  held = λ i w e l. absurd (omega (arith, w, many, e));
  heads = inr (omega (arith, many));
  few = omega (arith, many);
}
  where
    lower : (i : ℕ) → i < length ns → i < 704
    lower i w = omega (arith, w, many)

    at_next : (i : ℕ) → i < 704 → next_of ns i ≡ i
    at_next i l = ap (λ (n : Node). n.next) (heads i l)

    at_before : (i : ℕ) → i < 704 → before_of ns i ≡ i
    at_before i l = ap (λ (n : Node). n.before) (heads i l)

    at_place : (i : ℕ) → i < 704 → place_of ns i ≡ i
    at_place i l = ap (λ (n : Node). n.place) (heads i l)

-- a head more
pub head_more : (ns : List Node) (n : ℕ) → length ns ≡ n → ((j : ℕ) → j < n → node_at ns j ≡ lone j) → (j : ℕ) → j < n + 1 → node_at (ns ++ lone n ∷ []) j ≡ lone j
head_more ns n len heads j less = ⊎_elim
    (λ (same : j ≡ n). ap (λ k. node_at (ns ++ lone n ∷ []) k) (same ∙ sym len) ∙ get_or-append_seam ns (lone n) [] blank ∙ ap lone (sym same))
    (λ (apart : j ≢ n). get_or_append_left ns (lone n ∷ []) blank j (omega (arith, len, less, apart)) ∙ heads j (omega (arith, less, apart)))
    (cases_eq j n)

pub grown_refl : (ns : List Node) → Grown ns ns
grown_refl ns = record { longer = omega arith; stay = λ j l. refl; none = λ j a b e. absurd (omega (arith, a, b)) }

pub grown_trans : (a b c : List Node) → Grown a b → Grown b c → Grown a c
grown_trans a b c one two = record {
  longer = let x = one.longer in let y = two.longer in omega (arith, x, y);
  stay = λ j l. let x = one.longer in two.stay j (omega (arith, l, x)) ∙ one.stay j l;
  none = λ j past within e. ⊎_elim
      (λ (l : j < length b). let x = one.none j past l e in let y : place_of c j ≡ place_of b j = ap (λ (n : Node). n.place) (two.stay j l) in omega (arith, x, y))
      (λ (l : length b ≤ j). two.none j l within e)
      (cases_lt j (length b));
}

-- nothing was there, and what comes are heads
pub grown_heads : (os ns : List Node) → length os ≡ 0 → length ns ≡ 704 → Grown os ns
grown_heads os ns none many = record {
  longer = omega (arith, none, many);
  stay = λ j l. absurd (omega (arith, l, none));
  none = λ j past within e. absurd (omega (arith, within, many, e));
}

module _ (ns : List Node) (words : List ℕ) (free room : ℕ) (is : IsWhole ns words free room) (some : 704 ≤ length ns) (fits : length ns + 1 < 2 ^ 32) where
  abbrev free_one : Node
  free_one = record { name = 0; time = 0; place = 704; next = free; before = 0 }

  abbrev pushed : List Node
  pushed = ns ++ free_one ∷ []

  abbrev last : ℕ
  last = length ns

  more : length pushed ≡ length ns + 1
  more = length-append ns (free_one ∷ [])

  old : (j : ℕ) → j < length ns → node_at pushed j ≡ node_at ns j
  old j l = get_or_append_left ns (free_one ∷ []) blank j l

  new : node_at pushed last ≡ free_one
  new = get_or-append_seam ns free_one [] blank

  next_old : (j : ℕ) → j < length ns → next_of pushed j ≡ next_of ns j
  next_old j l = ap (λ (n : Node). n.next) (old j l)

  before_old : (j : ℕ) → j < length ns → before_of pushed j ≡ before_of ns j
  before_old j l = ap (λ (n : Node). n.before) (old j l)

  place_old : (j : ℕ) → j < length ns → place_of pushed j ≡ place_of ns j
  place_old j l = ap (λ (n : Node). n.place) (old j l)

  place_new : place_of pushed last ≡ 704
  place_new = ap (λ (n : Node). n.place) new

  next_new : next_of pushed last ≡ free
  next_new = ap (λ (n : Node). n.next) new

  within : (j : ℕ) → j < length pushed → j ≢ last → j < length ns
  within j l apart = omega (arith, l, more, apart)

  live_old : (j : ℕ) → j < length pushed → place_of pushed j < 704 → j < length ns
  live_old j l low = within j l (λ (same : j ≡ last). let e : place_of pushed j ≡ 704 = ap (place_of pushed) same ∙ place_new in omega (arith, e, low))

  low_old : (j : ℕ) → j < length ns → place_of pushed j < 704 → place_of ns j < 704
  low_old j l low = let e = place_old j l in omega (arith, e, low)

  abbrev depth' : ℕ → ℕ
  depth' j = cond (eqb j last) (room + 1) (is.depth j)

  depth_new : (j : ℕ) → j ≡ last → depth' j ≡ room + 1
  depth_new j same = ap (λ b. cond b (room + 1) (is.depth j)) (eq-eqb j last same)

  depth_old : (j : ℕ) → j < length ns → depth' j ≡ is.depth j
  depth_old j l = ap (λ b. cond b (room + 1) (is.depth j)) (ne_eqb j last (λ (same : j ≡ last). omega (arith, same, l)))

  pub whole_pushed : IsWhole pushed words last (room + 1)
  whole_pushed = record {
    up = is.up;
    rings = record {
      next_in = λ j w low. let l = live_old j w low in let e = next_old j l in let g = is.rings.next_in j l (low_old j l low) in omega (arith, e, g, more);
      next_place = λ j w low. let l = live_old j w low in let g = is.rings.next_in j l (low_old j l low) in
          ap (place_of pushed) (next_old j l) ∙ place_old (next_of ns j) g ∙ is.rings.next_place j l (low_old j l low) ∙ sym (place_old j l);
      next_back = λ j w low. let l = live_old j w low in let g = is.rings.next_in j l (low_old j l low) in
          ap (before_of pushed) (next_old j l) ∙ before_old (next_of ns j) g ∙ is.rings.next_back j l (low_old j l low);
      before_in = λ j w low. let l = live_old j w low in let e = before_old j l in let g = is.rings.before_in j l (low_old j l low) in omega (arith, e, g, more);
      before_place = λ j w low. let l = live_old j w low in let g = is.rings.before_in j l (low_old j l low) in
          ap (place_of pushed) (before_old j l) ∙ place_old (before_of ns j) g ∙ is.rings.before_place j l (low_old j l low) ∙ sym (place_old j l);
      before_back = λ j w low. let l = live_old j w low in let g = is.rings.before_in j l (low_old j l low) in
          ap (next_of pushed) (before_old j l) ∙ next_old (before_of ns j) g ∙ is.rings.before_back j l (low_old j l low);
      rises = λ j w big low. let l = live_old j w low in let e : is.up (before_of pushed j) ≡ is.up (before_of ns j) = ap is.up (before_old j l) in let g = is.rings.rises j l big (low_old j l low) in omega (arith, e, g);
      heads = λ j w small. let l : j < length ns = omega (arith, small, some) in place_old j l ∙ is.rings.heads j l small;
    };
    depth = depth';
    stack = record {
      top = λ _. (omega (arith, more), some, place_new, depth_new last refl);
      each = λ j w at. ⊎_elim
          (λ (same : j ≡ last). let d = depth_new j same in (omega (arith, same, some), omega (arith, d), omega (arith, d)))
          (λ (apart : j ≢ last). let l = within j w apart in let d = depth_old j l in let o = is.stack.each j l (sym (place_old j l) ∙ at) in (o.0, omega (arith, d, o.1), omega (arith, d, o.2)))
          (cases_eq j last);
      below = λ j w at deep. ⊎_elim
          (λ (same : j ≡ last).
          let d = depth_new j same in
          let t = is.stack.top (omega (arith, d, deep)) in
          let e : next_of pushed j ≡ free = ap (next_of pushed) same ∙ next_new in
          let f : depth' (next_of pushed j) ≡ room = ap depth' e ∙ depth_old free t.0 ∙ t.3 in
          (omega (arith, e, t.0, more), ap (place_of pushed) e ∙ place_old free t.0 ∙ t.2, omega (arith, f, d)))
          (λ (apart : j ≢ last).
          let l = within j w apart in
          let d = depth_old j l in
          let b = is.stack.below j l (sym (place_old j l) ∙ at) (omega (arith, d, deep)) in
          let e = next_old j l in
          let f : depth' (next_of pushed j) ≡ is.depth (next_of ns j) = ap depth' e ∙ depth_old (next_of ns j) b.0 in
          (omega (arith, e, b.0, more), ap (place_of pushed) e ∙ place_old (next_of ns j) b.0 ∙ b.1, omega (arith, f, d, b.2)))
          (cases_eq j last);
      one = λ k j kw jw atk atj same. ⊎_elim
          (λ (here : k ≡ last). ⊎_elim
          (λ (there : j ≡ last). here ∙ sym there)
          (λ (apart : j ≢ last).
          let l = within j jw apart in let d = depth_new k here in let e = depth_old j l in let most = (is.stack.each j l (sym (place_old j l) ∙ atj)).2 in absurd (omega (arith, d, e, most, same)))
          (cases_eq j last))
          (λ (far : k ≢ last). ⊎_elim
          (λ (there : j ≡ last).
          let l = within k kw far in let d = depth_new j there in let e = depth_old k l in let most = (is.stack.each k l (sym (place_old k l) ∙ atk)).2 in absurd (omega (arith, d, e, most, same)))
          (λ (apart : j ≢ last).
          let l = within k kw far in let m = within j jw apart in
          is.stack.one k j l m (sym (place_old k l) ∙ atk) (sym (place_old j m) ∙ atj) (sym (depth_old k l) ∙ same ∙ depth_old j m))
          (cases_eq j last))
          (cases_eq k last);
    };
    marked = λ p low mark.
        let m = is.marked p low mark in
        (omega (arith, m.0, more), λ (loop : next_of pushed p ≡ p). m.1 (sym (next_old p m.0) ∙ loop));
    held = λ j w big low. let l = live_old j w low in
        subst (λ (q : ℕ). mark_of words q ≡ 1) (sym (place_old j l)) (is.held j l big (low_old j l low));
    heads = inr (omega (arith, more, some));
    few = omega (arith, more, fits);
  }
