-- Marks that are set along bindings: how often each channel is reached.
use Rattle.std.proofs.Common.{◌≡◌, ◌<◌, ◌≤◌, ◌+◌, ◌⊎◌, ℕ, zero, suc, Bool, true, false, List, [], ◌∷◌, ◌++◌, length, take, drop, get_or, Some, refl, sym, ap, ◌∙◌, subst, inl, inr, arith, eq-eqb, zero-add, add-zero, add_assoc}
use Rattle.std.specs.Prelude.{◌==◌, ◌||◌, ◌&&◌, not, slice_get, slice_set, Contains}
use Rattle.std.specs.List.{flat_map}
use Rattle.std.proofs.lemmas.Bool.Decides.{nat_tests}
use Rattle.std.proofs.lemmas.List.{append-nil, length-take, take-append-drop, take_more, drop_more, nil_from_length}
use Rattle.std.proofs.lemmas.List.Concat.{flat_map-append}
use Rattle.std.proofs.lemmas.List.Elements.{Contains-append_left, Contains-push}
use Rattle.design_rules.specs.FlatDesign.declared.objects.Binding.{Binding}
use Rattle.design_rules.specs.FlatDesign.declared.objects.Objects.{Objects}
use Rattle.design_rules.specs.Objects.{form_at}
use Rattle.design_rules.specs.Paths.{is_end, itself_or, ends_of}
use Rattle.binding.specs.Rows.{row_at, AreRows}
use Rattle.binding.specs.Ends.{kept_ends, leads}
use Rattle.binding.specs.Twice.{if_so, times, reached, all_leads, leads_on, is_marked, marked_if, MeetsTwice, AreMarked}
use Rattle.binding.proofs.Linked.{no_binding}
use Rattle.binding.proofs.Sums.{sum_marked, sum_within, times-append}

once_itself : (x : ℕ) (xs : List ℕ) → 1 ≤ times x (x ∷ xs)
once_itself x xs = let e : (x == x) ≡ true = eq-eqb x x refl in let one = ap (if_so 1) e in omega (arith, one)

some_of : (xs : List ℕ) → (length xs ≡ 0 → ⊥) → (c : ℕ) × (1 ≤ times c xs)
some_of [] h = absurd (h refl)
some_of (x ∷ xs) h = (x, once_itself x xs)

-- of marks by places
marked_at : (marks : List Bool) (i : ℕ) → is_marked marks i ≡ true → slice_get marks i ≡ Some true
marked_at [] i h = cc
marked_at (b ∷ bs) zero h = ap Some h
marked_at (b ∷ bs) (suc i) h = marked_at bs i h

unmarked_at : (marks : List Bool) (i : ℕ) → i < length marks → is_marked marks i ≡ false → slice_get marks i ≡ Some false
unmarked_at [] i below h = absurd (omega arith)
unmarked_at (b ∷ bs) zero below h = ap Some h
unmarked_at (b ∷ bs) (suc i) below h = unmarked_at bs i (omega arith) h

set_only : (marks : List Bool) (i j : ℕ) → slice_get (slice_set marks i true) j ≡ Some true → (slice_get marks j ≡ Some true) ⊎ (j ≡ i)
set_only [] i j h = inl h
set_only (b ∷ bs) zero zero h = inr refl
set_only (b ∷ bs) zero (suc j) h = inl h
set_only (b ∷ bs) (suc i) zero h = inl h
set_only (b ∷ bs) (suc i) (suc j) h = elim (set_only bs i j h) [ inl there ↦ inl there | inr same ↦ inr (ap suc same) ]

and_true : (a b : Bool) → (a && b) ≡ true → (a ≡ true) × (b ≡ true)
and_true true b h = (refl, h)
and_true false b h = cc

module _ (os : Objects) where
  all_leads-split : (links : List Binding) (k : ℕ) → k < length links
      → all_leads os links ≡ all_leads os (take k links) ++ (leads os (ends_of os) (get_or links k no_binding).right ++ all_leads os (drop (k + 1) links))
  all_leads-split links k below =
      let g : Binding → List ℕ = λ b. leads os (ends_of os) b.right in
      ap (flat_map g) (sym (take-append-drop k links)) ∙ flat_map-append g (take k links) (drop k links)
      ∙ ap (λ xs. flat_map g (take k links) ++ flat_map g xs) (drop_more links k no_binding below)

  all_leads-more : (links : List Binding) (k : ℕ) → k < length links
      → all_leads os (take (k + 1) links) ≡ all_leads os (take k links) ++ leads os (ends_of os) (get_or links k no_binding).right
  all_leads-more links k below =
      let g : Binding → List ℕ = λ b. leads os (ends_of os) b.right in
      ap (flat_map g) (take_more links k no_binding below) ∙ flat_map-append g (take k links) (get_or links k no_binding ∷ [])
      ∙ ap (λ xs. flat_map g (take k links) ++ xs) (append-nil (g (get_or links k no_binding)))

  module _ (ends : List (List ℕ)) (ended : AreRows (kept_ends os) ends) where
    short_row : (i : ℕ) → length (row_at ends i) ≡ 0 → ends_of os i ≡ []
    short_row i none =
        let e = ap (λ (xs : List ℕ). length xs) (ended i) ∙ length-take 65 (ends_of os i) in
        nil_from_length (ends_of os i) (omega (arith, e, none))

    nothing_or : (c i : ℕ) (e : Bool) → (e || not (length (row_at ends i) == 0)) ≡ false → times c (itself_or (ends_of os i) i e) ≡ 0
    nothing_or c i true h = cc
    nothing_or c i false h =
        let none : length (row_at ends i) ≡ 0 = grind (arith, nat_tests) in
        ap (times c) (short_row i none)

    something_or : (i : ℕ) (e : Bool) → (e || not (length (row_at ends i) == 0)) ≡ true → (c : ℕ) × (1 ≤ times c (itself_or (ends_of os i) i e))
    something_or i true h = (i, once_itself i [])
    something_or i false h =
        some_of (ends_of os i)
        (λ none.
        let e = ap (λ (xs : List ℕ). length xs) (ended i) ∙ length-take 65 (ends_of os i) in
        let short : length (row_at ends i) ≡ 0 = omega (arith, e, none) in
        grind (arith, nat_tests))

    -- one object is marked
    step_counts : (i c : ℕ) (marks : List Bool) → i < length marks → (on : Bool) → leads_on os ends i ≡ on → (on && is_marked marks i) ≡ false
        → reached os c (marked_if marks i on) ≡ reached os c marks + times c (leads os (ends_of os) i)
    step_counts i c marks below true is met = sum_marked (λ j. times c (leads os (ends_of os) j)) 0 marks i (unmarked_at marks i below met)
        ∙ ap (λ j. reached os c marks + times c (leads os (ends_of os) j)) (zero-add i)
    step_counts i c marks below false is met =
        sym (ap (λ n. reached os c marks + n) (nothing_or c i (is_end (form_at os i)) is) ∙ add-zero (reached os c marks))

    step_only : (i j : ℕ) (marks : List Bool) (on : Bool) → slice_get (marked_if marks i on) j ≡ Some true → (slice_get marks j ≡ Some true) ⊎ (j ≡ i)
    step_only i j marks true h = set_only marks i j h
    step_only i j marks false h = inl h

    module _ (links : List Binding) (first marks : List Bool) (k : ℕ) (below : k < length links) (so_far : AreMarked os (take k links) first marks) where
      -- one that was marked before
      pub met_again : (leads_on os ends (get_or links k no_binding).right && is_marked marks (get_or links k no_binding).right) ≡ true → MeetsTwice os first links
      met_again h =
          let i = (get_or links k no_binding).right in
          let both = and_true (leads_on os ends i) (is_marked marks i) h in
          let some = something_or i (is_end (form_at os i)) both.0 in
          let c = some.0 in
          let within = sum_within (λ j. times c (leads os (ends_of os) j)) 0 marks i (marked_at marks i both.1) in
          let here : times c (leads os (ends_of os) (0 + i)) ≡ times c (leads os (ends_of os) i) = ap (λ j. times c (leads os (ends_of os) j)) (zero-add i) in
          let one : 1 ≤ times c (leads os (ends_of os) i) = some.1 in
          let counted = so_far.counts c in
          let split = ap (times c) (all_leads-split links k below) ∙ times-append c (all_leads os (take k links)) (leads os (ends_of os) i ++ all_leads os (drop (k + 1) links)) in
          let rest = times-append c (leads os (ends_of os) i) (all_leads os (drop (k + 1) links)) in
          (c, omega (arith, within, here, one, counted, split, rest))

      pub marked_more : (new : List Bool) → (get_or links k no_binding).right < length marks
          → (leads_on os ends (get_or links k no_binding).right && is_marked marks (get_or links k no_binding).right) ≡ false
          → new ≡ marked_if marks (get_or links k no_binding).right (leads_on os ends (get_or links k no_binding).right)
          → AreMarked os (take (k + 1) links) first new
      marked_more new within h is =
          let b = get_or links k no_binding in
          let i = b.right in
          let on = leads_on os ends i in
          record {
            counts = λ c.
                ap (reached os c) is ∙ step_counts i c marks within on refl h ∙ ap (λ n. n + times c (leads os (ends_of os) i)) (so_far.counts c)
                ∙ add_assoc (reached os c first) (times c (all_leads os (take k links))) (times c (leads os (ends_of os) i))
                ∙ ap (λ n. reached os c first + n) (sym (ap (times c) (all_leads-more links k below) ∙ times-append c (all_leads os (take k links)) (leads os (ends_of os) i)));
            only = λ j at.
                elim (step_only i j marks on (subst (λ (ms : List Bool). slice_get ms j ≡ Some true) is at)) [
                  | inl before ↦
                      elim (so_far.only j before) [
                        | inl first_one ↦ inl first_one
                        | inr w ↦ inr (w.0, subst (λ (bs : List Binding). Contains bs w.0) (sym (take_more links k no_binding below)) (Contains-append_left (take k links) (b ∷ []) w.0 w.1), w.2)
                      ]
                  | inr same ↦ inr (b, subst (λ (bs : List Binding). Contains bs b) (sym (take_more links k no_binding below)) (Contains-push (take k links) b), sym same)
                ];
          }
