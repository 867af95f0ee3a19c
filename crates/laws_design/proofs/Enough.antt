-- Where no module has itself, as many instances, one in the other, suffice as there are modules.
use Rattle.std.proofs.Common.{◌≡◌, ◌<◌, ◌≤◌, ◌==◌, ℕ, zero, suc, ◌+◌, ◌-◌, Bool, true, false, cond, List, [], ◌∷◌, length, replicate, Option, Some, None, refl, sym, ap, ◌∙◌, subst, inl, inr, arith}
use Rattle.std.specs.Prelude.{◌||◌, slice_set, option_map, Contains}
use Rattle.std.specs.List.{AllByRecursion, find, flat_map, list_any}
use Rattle.std.proofs.lemmas.Bool.{eqb-true, eq-eqb, false≢true, cases_lt, or_cases, or_left, or_right, false_from_ne_true}
use Rattle.std.proofs.lemmas.List.{length-set, length-replicate}
use Rattle.std.proofs.lemmas.List.Elements.{Contains-append_right}
use Rattle.std.proofs.lemmas.Option.{slice_get_past}
use Rattle.elaborate_objects.specs.ModelTree.Tree as tree
use Rattle.elaborate_objects.specs.ModelTree.declared.items.PlainKind.TheVariants as plain
use Rattle.elaborate_objects.specs.ModelTree.declared.items.InitiatorRole.TheVariants as initiator
use Rattle.elaborate_objects.specs.ModelTree.declared.items.TargetRole.TheVariants as target
use Rattle.elaborate_objects.specs.FlatDesign.declared.objects.ObjectForm.TheVariants as form
use Rattle.elaborate_objects.proofs.ModelRules.Firsts.{or_none}
use Rattle.elaborate_objects.specs.DesignRules.declared.made.Made.{Made}
use Rattle.elaborate_objects.specs.DesignRules.Forms.{Around, around, items_at, items_in, object_form}
use Rattle.elaborate_objects.specs.DesignRules.ObjectFaults.{made_by, made_at, has_within, leads_to, first_of_itself, cycle_at, cycle_from, cycle_fault}
use Rattle.elaborate_objects.specs.Rows.{Row, row_if, rows_in, rows_of}
use Rattle.elaborate_objects.specs.Left.{rows_at}
use Rattle.elaborate_objects.proofs.RowLemmas.{rows_at_place}
use Rattle.elaborate_objects.specs.Marks.{is_marked, count_of, AreFound}
use Rattle.elaborate_objects.proofs.Closed.{any_from, marked_only, none_marked, count_more, count_within, nothing_in}
use Rattle.laws_design.proofs.Children.{Enough, all_append, all_map}

any_in : {X : Type 0} (p : X → Bool) (xs : List X) (x : X) → Contains xs x → p x ≡ true → list_any p xs ≡ true
any_in p [] x at h = absurd (nothing_in x at)
any_in p (y ∷ ys) x (zero, below, is) h = or_left (p y) (list_any p ys) (ap p is ∙ h)
any_in p (y ∷ ys) x (suc k, below, is) h = or_right (p y) (list_any p ys) (any_in p ys x (k, omega arith, is) h)

none_by : (p : Made → Bool) (x : Made) (xs : List Made) (b : Bool) → p x ≡ b → cond b (Some x) (find p xs) ≡ None → (find p xs ≡ None → list_any p xs ≡ false) → (b || list_any p xs) ≡ false
none_by p x xs true e h rest = cc
none_by p x xs false e h rest = rest h

none_any : (p : Made → Bool) (xs : List Made) → find p xs ≡ None → list_any p xs ≡ false
none_any p [] h = refl
none_any p (x ∷ xs) h = none_by p x xs (p x) refl h (none_any p xs)

mapped_none : {A B : Type 0} (f : A → B) (o : Option A) → option_map f o ≡ None → o ≡ None
mapped_none f None h = refl
mapped_none f (Some x) h = cc

-- the rows of instances are those of what a module has
abbrev IsMade : List tree.Module → List tree.Item → Row → Type 0
IsMade ms is r = (p : ℕ) → r.form ≡ form.Instance p → (x : Made) × Contains (flat_map (made_by ms) is) x × (x.place ≡ p)

made_more : (ms : List tree.Module) (i : tree.Item) (is : List tree.Item) (r : Row) → IsMade ms is r → IsMade ms (i ∷ is) r
made_more ms i is r h p e = let x = h p e in (x.0, Contains-append_right (made_by ms i) (flat_map (made_by ms) is) x.0 x.1, x.2)

abbrev place_in : Rattle.elaborate_objects.specs.FlatDesign.declared.objects.ObjectForm.ObjectForm → ℕ
place_in (form.Instance q) = q
place_in other = 0

one_made : (a : Around) (i : tree.Item) (is : List tree.Item) → AllByRecursion (IsMade a.modules (i ∷ is)) (row_if i (object_form a i))
one_made a (tree.instance line kind name) is = (λ p e. (_, (0, omega arith, refl), ap place_in e), tt)
one_made a (tree.plain line plain.Mutex name) is = (λ p e. cc, tt)
one_made a (tree.plain line plain.Event name) is = (λ p e. cc, tt)
one_made a (tree.plain line plain.Keeper name) is = (λ p e. cc, tt)
one_made a (tree.initiator line name initiator.Pass) is = (λ p e. cc, tt)
one_made a (tree.initiator line name (initiator.Own backward)) is = (λ p e. cc, tt)
one_made a (tree.target line name target.Pass) is = (λ p e. cc, tt)
one_made a (tree.target line name (target.Own blocking forward)) is = (λ p e. cc, tt)
one_made a (tree.bind line left right) is = tt
one_made a (tree.function line f) is = tt
one_made a (tree.signal line s) is = (λ p e. cc, tt)
one_made a (tree.resolved line name) is = (λ p e. cc, tt)
one_made a (tree.clock line c) is = (λ p e. cc, tt)
one_made a (tree.fifo line t name size) is = (λ p e. cc, tt)
one_made a (tree.semaphore line name c) is = (λ p e. cc, tt)
one_made a (tree.memory line name size) is = (λ p e. cc, tt)
one_made a (tree.variable line t name c) is = (λ p e. cc, tt)
one_made a (tree.port line i name size) is = (λ p e. cc, tt)
one_made a (tree.export line i name) is = (λ p e. cc, tt)
one_made a (tree.process line r) is = (λ p e. cc, tt)

all_made : (a : Around) (is : List tree.Item) → AllByRecursion (IsMade a.modules is) (rows_in a is)
all_made a [] = tt
all_made a (i ∷ is) =
    all_append (IsMade a.modules (i ∷ is)) (row_if i (object_form a i)) (rows_in a is) (one_made a i is)
    (all_map (IsMade a.modules is) (IsMade a.modules (i ∷ is)) (made_more a.modules i is) (rows_in a is) (all_made a is))

module _ (ms : List tree.Module) where
  -- one instance more
  more_has : (place n j : ℕ) → has_within n ms place j ≡ true → has_within (suc n) ms place j ≡ true
  unfolding has_within
  more_has place zero j h = cc
  more_has place (suc n) j h =
      let w = any_from (λ (x : Made). x.place == place || has_within n ms place x.place) (made_at ms j) h in
      any_in (λ (x : Made). x.place == place || has_within (suc n) ms place x.place) (made_at ms j) w.0 w.1
      (elim (or_cases (w.0.place == place) (has_within n ms place w.0.place) w.2) [
        | inl same ↦ or_left (w.0.place == place) (has_within (suc n) ms place w.0.place) same
        | inr deeper ↦ or_right (w.0.place == place) (has_within (suc n) ms place w.0.place) (more_has place n w.0.place deeper)
      ])

  all_has : (place n d j : ℕ) → has_within n ms place j ≡ true → has_within (n + d) ms place j ≡ true
  all_has place n zero j h = let e : n ≡ n + 0 = omega arith in subst (λ k. has_within k ms place j ≡ true) e h
  all_has place n (suc d) j h = let e : suc (n + d) ≡ n + suc d = omega arith in subst (λ k. has_within k ms place j ≡ true) e (more_has place (n + d) j (all_has place n d j h))

  -- what has a module has those that it has
  module _ (q : ℕ) (x : Made) (made : Contains (made_at ms q) x) where
    directly : (n : ℕ) → has_within (suc n) ms x.place q ≡ true
    unfolding has_within
    directly n = any_in (λ (y : Made). y.place == x.place || has_within n ms x.place y.place) (made_at ms q) x made (or_left (x.place == x.place) (has_within n ms x.place x.place) (eq-eqb x.place x.place refl))

    further : (n k : ℕ) → has_within n ms q k ≡ true → has_within (suc n) ms x.place k ≡ true
    unfolding has_within
    further zero k h = cc
    further (suc n) k h =
        let w = any_from (λ (y : Made). y.place == q || has_within n ms q y.place) (made_at ms k) h in
        any_in (λ (y : Made). y.place == x.place || has_within (suc n) ms x.place y.place) (made_at ms k) w.0 w.1
        (or_right (w.0.place == x.place) (has_within (suc n) ms x.place w.0.place)
        (elim (or_cases (w.0.place == q) (has_within n ms q w.0.place) w.2) [
          | inl same ↦ subst (λ j. has_within (suc n) ms x.place j ≡ true) (sym (eqb-true w.0.place q same)) (directly n)
          | inr deeper ↦ further n w.0.place deeper
        ]))

  -- none has itself
  no_first : (place : ℕ) (more : List tree.Module) → cycle_from ms place more ≡ None → (k : ℕ) → k < length more → first_of_itself ms (place + k) ≡ None
  no_first place [] h k below = absurd (omega (arith, below))
  no_first place (m ∷ more) h zero below =
      let e : place ≡ place + 0 = omega arith in subst (λ j. first_of_itself ms j ≡ None) e (mapped_none _ (first_of_itself ms place) (or_none (cycle_at ms place m) (cycle_from ms (place + 1) more) h).0)
  no_first place (m ∷ more) h (suc k) below =
      let e : place + 1 + k ≡ place + suc k = omega arith in
      subst (λ j. first_of_itself ms j ≡ None) e (no_first (place + 1) more (or_none (cycle_at ms place m) (cycle_from ms (place + 1) more) h).1 k (omega (arith, below)))

  module _ (none : cycle_from ms 0 ms ≡ None) where
    not_itself : (n k : ℕ) → n ≤ length ms → has_within n ms k k ≡ true → ⊥
    unfolding has_within
    not_itself n k few h =
        elim (cases_lt k (length ms)) [
          | inl below ↦
              let e : n + (length ms - n) ≡ length ms = omega (arith, few) in
              let all = subst (λ i. has_within i ms k k ≡ true) e (all_has k n (length ms - n) k h) in
              let one = more_has k (length ms) k all in
              let off = none_any (leads_to ms k) (made_at ms k) (subst (λ j. first_of_itself ms j ≡ None) (let z : 0 + k ≡ k = omega arith in z) (no_first 0 ms none k below)) in
              false≢true (sym off ∙ one)
          | inr past ↦
              let one = more_has k n k h in
              false≢true (ap (λ (o : Option tree.Module). list_any (λ (x : Made). x.place == k || has_within n ms k x.place) (flat_map (made_by ms) (items_in o))) (sym (slice_get_past ms k past)) ∙ one)
        ]

    rows_past : (q : ℕ) → length ms ≤ q → rows_at (rows_of ms) q ≡ []
    rows_past q past = rows_at_place ms q ∙ ap (λ (o : Option tree.Module). rows_in (around ms q) (items_in o)) (slice_get_past ms q past)

    -- the modules on the way are marked
    enough : (n q : ℕ) (marks : List Bool) → length marks ≡ length ms → count_of marks + n ≡ length ms → AreFound ms q marks → is_marked marks q ≡ false → Enough n (rows_of ms) q
    unfolding Enough
    enough zero q marks long count found new =
        elim (cases_lt q (length ms)) [
          | inl below ↦
              let c = count_more marks q (omega (arith, below, long)) new in
              let w = count_within (slice_set marks q true) in
              let l = length-set marks q true in
              absurd (omega (arith, c, w, l, long, count))
          | inr past ↦ rows_past q past
        ]
    enough (suc n) q marks long count found new =
        elim (cases_lt q (length ms)) [
          | inl below ↦
              let c = count_more marks q (omega (arith, below, long)) new in
              let l = length-set marks q true in
              subst (AllByRecursion (λ (r : Row). (p : ℕ) → r.form ≡ form.Instance p → Enough n (rows_of ms) p)) (sym (rows_at_place ms q))
              (all_map (IsMade ms (items_at ms q)) (λ (r : Row). (p : ℕ) → r.form ≡ form.Instance p → Enough n (rows_of ms) p)
              (λ r made p e.
              let x = made p e in
              let now : AreFound ms x.0.place (slice_set marks q true) =
              λ j marked.
              let z : suc (count_of marks) ≡ count_of (slice_set marks q true) = omega (arith, c) in
              subst (λ i. has_within i ms x.0.place j ≡ true) z
              (elim (marked_only marks q j marked) [
                | inl before ↦ further q x.0 x.1 (count_of marks) j (found j before)
                | inr same ↦ subst (λ i. has_within (suc (count_of marks)) ms x.0.place i ≡ true) (sym same) (directly q x.0 x.1 (count_of marks))
              ]) in
              subst (Enough n (rows_of ms)) x.2
              (enough n x.0.place (slice_set marks q true) (l ∙ long) (omega (arith, c, count)) now
              (false_from_ne_true (is_marked (slice_set marks q true) x.0.place) (λ marked. not_itself (count_of (slice_set marks q true)) x.0.place (omega (arith, c, count)) (now x.0.place marked)))))
              (rows_in (around ms q) (items_at ms q)) (all_made (around ms q) (items_at ms q)))
          | inr past ↦ subst (AllByRecursion (λ (r : Row). (p : ℕ) → r.form ≡ form.Instance p → Enough n (rows_of ms) p)) (sym (rows_past q past)) tt
        ]

count_none : (n : ℕ) → count_of (replicate n false) ≡ 0
count_none zero = refl
count_none (suc n) = let rest = count_none n in omega (arith, rest)

pub enough_at_top : (m : tree.Model) → cycle_fault m ≡ None → (q : ℕ) → Enough (length m.modules) (rows_of m.modules) q
enough_at_top m none q =
    let n = length m.modules in
    let c = count_none n in
    enough m.modules none n q (replicate n false) (length-replicate n false) (omega (arith, c))
    (λ j marked. absurd (false≢true (sym (none_marked m.modules n j) ∙ marked))) (none_marked m.modules n q)
