-- Each move keeps marks nested.
use Rattle.std.proofs.Common.{◌≡◌, ◌≢◌, ◌+◌, ℕ, Bool, true, false, cond, List, [], ◌∷◌, ◌++◌, length, slice_get, Option, Some, None, option_map, refl, sym, ap, ◌∙◌, subst, ⊎_elim, append-nil, add-one, ne_eqb}
use Rattle.std.proofs.lemmas.Bool.{cases_eq}
use Rattle.std.proofs.lemmas.Option.{same_Some, slice_get-map}
use Rattle.sim_model.specs.LogicValues.declared.kinds.Value.{Value}
use Rattle.sim_model.specs.Residual.{Residual, goal, Mark, enter, leave, begin, finish, skip, settle, fall, put, taken_off, guard, block, entered, begun, next_of, statement}
use Rattle.sim_model.specs.Unwinding.{unw, raise, returned, return_marks}
use Rattle.sim_model.specs.Storing.{with_local}
use Rattle.sim_model.specs.Configuration.{Instance, change}
use Rattle.laws_runs.proofs.Changes.{change-here, change-other, change-none, last-here, last-other, past-end}
use Rattle.laws_runs.specs.Standing.{code_of}
use Rattle.laws_runs.proofs.GoalParts.{Parts, changed_in, residual_in, At, Alike, IsOver, IsKept, IsSettled, IsKeptBetween, IsKeptByTakings}
use Rattle.laws_runs.proofs.Each.{Each, each-change, each-last, each-map}
use Rattle.laws_runs.specs.Nesting.{Part, unbegun, on_some, after_marks, parts_of, parts_at, numbers_entered, first_numbers}
use Rattle.laws_runs.proofs.Roots.{IsRooted, IsInside, rooted-over, rooted-unbegun, settle-rooted, put-rooted, passes-not_over, normal-inside, block-inside, called-inside, returned-rooted, local-rooted, off-rooted, unwound-rooted, raised-rooted, begun-rooted}
use Rattle.laws_runs.proofs.Nested.{Own, marks-then, own-apart, fall-own, return-own, enters-one, fall-nested, return-nested, past-parts, put-parts, no_guards-parts, local-parts, off-parts, unw-parts, raise-parts, block-parts, entered-parts, bare-parts}
use Rattle.laws_runs.proofs.Shaped.{standing-shaped}

-- ---- bodies are bodies

abbrev pub AllRooted : Parts → Type 0
AllRooted x = Each (λ p (i : Instance). IsRooted i.started i.residual) x.instances

rooted_alike : (i j : Instance) → Alike i j → IsRooted i.started i.residual → IsRooted j.started j.residual
rooted_alike i j alike h = subst (λ b. IsRooted b j.residual) (sym alike.started) (subst (IsRooted i.started) (sym alike.residual) h)

rooted_change : (x : Parts) (q : ℕ) (f : Instance → Instance) → ((i : Instance) → slice_get x.instances q ≡ Some i → IsRooted i.started i.residual → IsRooted (f i).started (f i).residual) → AllRooted x → AllRooted (changed_in x q f)
rooted_change x q f becomes h = each-change (λ p (i : Instance). IsRooted i.started i.residual) x.instances q f becomes h

-- of an instance of which more is known
rooted_to : (x : Parts) (q : ℕ) (i : Instance) (r : Residual) → slice_get x.instances q ≡ Some i → (IsRooted i.started i.residual → IsRooted i.started r) → AllRooted x → AllRooted (residual_in x q r)
rooted_to x q i r at becomes h =
    rooted_change x q (λ j. record j { residual = r }) (λ j there k. subst (λ (z : Instance). IsRooted z.started r) (same_Some i j (sym at ∙ there)) (becomes (subst (λ (z : Instance). IsRooted z.started z.residual) (same_Some j i (sym there ∙ at)) k))) h

-- ---- parts and marks

abbrev pub AllNested : Parts → Type 0
AllNested x = (p : ℕ) → after_marks p x.marks [] ≡ Some (parts_at (slice_get x.instances p))

parts_changed : (is : List Instance) (q : ℕ) (f : Instance → Instance) (o : Option Instance) → slice_get is q ≡ o → ((i : Instance) → slice_get is q ≡ Some i → parts_of (f i).residual ≡ parts_of i.residual) → parts_at (slice_get (change is q f) q) ≡ parts_at (slice_get is q)
parts_changed is q f None at same = ap (λ js. parts_at (slice_get js q)) (change-none is q f at)
parts_changed is q f (Some i) at same = ap parts_at (change-here is q f i at) ∙ same i at ∙ sym (ap parts_at at)

-- without marks, where one is changed and keeps its guards
nested_same : (x : Parts) (q : ℕ) (f : Instance → Instance) → ((i : Instance) → slice_get x.instances q ≡ Some i → parts_of (f i).residual ≡ parts_of i.residual) → AllNested x → AllNested (changed_in x q f)
nested_same x q f same h p = h p ∙ ap Some (sym (⊎_elim
    (λ e. subst (λ n. parts_at (slice_get (change x.instances q f) n) ≡ parts_at (slice_get x.instances n)) (sym e) (parts_changed x.instances q f (slice_get x.instances q) refl same))
    (λ apart. ap parts_at (change-other x.instances q p f apart))
    (cases_eq p q)))

nested_to : (x : Parts) (q : ℕ) (i : Instance) (r : Residual) → slice_get x.instances q ≡ Some i → parts_of r ≡ parts_of i.residual → AllNested x → AllNested (residual_in x q r)
nested_to x q i r at same h = nested_same x q (λ j. record j { residual = r }) (λ j there. same ∙ ap (λ (z : Instance). parts_of z.residual) (same_Some i j (sym at ∙ there))) h

-- with marks of its own
nested_marked : (x : Parts) (p : ℕ) (i : Instance) (r : Residual) (ms : List Mark) → slice_get x.instances p ≡ Some i → ((q : ℕ) (s : List Part) → q ≢ p → after_marks q ms s ≡ Some s) → after_marks p ms (parts_of i.residual) ≡ Some (parts_of r)
    → AllNested x → AllNested (record (residual_in x p r) { marks = x.marks ++ ms })
nested_marked x p i r ms at others own h q = ⊎_elim
    (λ e. subst (λ n. after_marks n (x.marks ++ ms) [] ≡ Some (parts_at (slice_get (change x.instances p (λ j. record j { residual = r })) n))) (sym e)
    (marks-then p x.marks ms [] (parts_of i.residual) (h p ∙ ap (λ o. Some (parts_at o)) at) ∙ own ∙ ap (λ o. Some (parts_at o)) (sym (change-here x.instances p (λ j. record j { residual = r }) i at))))
    (λ apart. marks-then q x.marks ms [] (parts_at (slice_get x.instances q)) (h q) ∙ others q (parts_at (slice_get x.instances q)) apart ∙ ap (λ o. Some (parts_at o)) (sym (change-other x.instances p q (λ j. record j { residual = r }) apart)))
    (cases_eq q p)

nothing_behind : (xs : List Part) → xs ≡ xs ++ []
nothing_behind xs = sym (append-nil xs)

-- ---- numbers

abbrev pub IsNumbered : Parts → Type 0
IsNumbered x = numbers_entered x.marks ≡ first_numbers x.next_guard

numbers_append : (ms ns : List Mark) → numbers_entered (ms ++ ns) ≡ numbers_entered ms ++ numbers_entered ns
numbers_append [] ns = refl
numbers_append (enter p g ∷ ms) ns = ap (λ xs. g ∷ xs) (numbers_append ms ns)
numbers_append (leave p g ∷ ms) ns = numbers_append ms ns
numbers_append (begin p g ∷ ms) ns = numbers_append ms ns
numbers_append (finish p g ∷ ms) ns = numbers_append ms ns

own_numbers : (p : ℕ) (ms : List Mark) → Own p ms → numbers_entered ms ≡ []
own_numbers p [] own = refl
own_numbers p (enter q g ∷ ms) own = absurd own
own_numbers p (leave q g ∷ ms) own = own_numbers p ms own.1
own_numbers p (begin q g ∷ ms) own = own_numbers p ms own.1
own_numbers p (finish q g ∷ ms) own = own_numbers p ms own.1

numbered_own : (p : ℕ) (ms ns : List Mark) → Own p ns → numbers_entered (ms ++ ns) ≡ numbers_entered ms
numbered_own p ms ns own = numbers_append ms ns ∙ ap (λ xs. numbers_entered ms ++ xs) (own_numbers p ns own) ∙ append-nil (numbers_entered ms)

next_numbers : (n : ℕ) → first_numbers (n + 1) ≡ first_numbers n ++ n ∷ []
unfolding first_numbers
next_numbers n = ap first_numbers (add-one n)

-- ---- all together

pub record Marked (x : Parts) : Type 0 where
  pub rooted : AllRooted x
  pub nested : AllNested x
  pub numbered : IsNumbered x

enter_apart : (p q g : ℕ) (s : List Part) → q ≢ p → after_marks q (enter p g ∷ []) s ≡ Some s
enter_apart p q g s apart = ap (λ b. on_some (after_marks q []) (cond b (Some (unbegun g ∷ s)) (Some s))) (ne_eqb p q (λ same. apart (sym same)))

module _ (p : ℕ) where
  pub marked-settled : IsSettled p Marked
  marked-settled x i at h = record {
    rooted = rooted_to x p i (settle (code_of x.design) i.residual) at (settle-rooted (code_of x.design) i.started i.residual) h.rooted;
    nested = nested_marked x p i (settle (code_of x.design) i.residual) (fall p (code_of x.design) i.residual) at (λ q s apart. own-apart p q (fall p (code_of x.design) i.residual) s apart (fall-own p (code_of x.design) i.residual))
        (ap (after_marks p (fall p (code_of x.design) i.residual)) (nothing_behind (parts_of i.residual)) ∙ fall-nested p (code_of x.design) i.residual [] ∙ ap Some (append-nil (parts_of (settle (code_of x.design) i.residual)))) h.nested;
    numbered = numbered_own p x.marks (fall p (code_of x.design) i.residual) (fall-own p (code_of x.design) i.residual) ∙ h.numbered;
  }

  marked_to : (x : Parts) (q : ℕ) (i : Instance) (r : Residual) → slice_get x.instances q ≡ Some i → (IsRooted i.started i.residual → IsRooted i.started r) → parts_of r ≡ parts_of i.residual → Marked x → Marked (residual_in x q r)
  marked_to x q i r at rooted same h = record { rooted = rooted_to x q i r at rooted h.rooted; nested = nested_to x q i r at same h.nested; numbered = h.numbered }

  same_marked : (x : Parts) (q : ℕ) (f : Instance → Instance) → ((i : Instance) → Alike i (f i)) → Marked x → Marked (changed_in x q f)
  same_marked x q f alike h = record {
    rooted = rooted_change x q f (λ i at k. rooted_alike i (f i) (alike i) k) h.rooted;
    nested = nested_same x q f (λ i at. ap parts_of (alike i).residual) h.nested;
    numbered = h.numbered;
  }

  -- what is in place of a statement, and without marks
  module _ (x : Parts) (i : Instance) (r : Residual) (here : slice_get x.instances p ≡ Some i) (is : i.residual ≡ r) where
    rooted_here : (b : Residual → Residual) → ((s : Bool) → IsRooted s r → IsRooted s (b r)) → IsRooted i.started i.residual → IsRooted i.started (b r)
    rooted_here b becomes k = becomes i.started (subst (IsRooted i.started) is k)

    put_marked : (new : Residual) → IsInside new → (IsOver (next_of r) → ⊥) → parts_of (put r new) ≡ parts_of r → Marked x → Marked (residual_in x p (put r new))
    put_marked new inside not same h = marked_to x p i (put r new) here (rooted_here (λ q. put q new) (λ s k. put-rooted new inside s r k not)) (same ∙ ap parts_of (sym is)) h

  over_parts : (x : Parts) (i : Instance) (r : Residual) → At x p i r → IsOver (next_of r) → Marked x → parts_of i.residual ≡ []
  over_parts x i r at over h =
      ap parts_of at.is ∙ bare-parts r (rooted-over i.started r (subst (IsRooted i.started) at.is (h.rooted p i at.here)) at.tight over)

  over_marked : (x : Parts) (i : Instance) (r : Residual) → At x p i r → IsOver (next_of r) → (f : Instance → Instance) → ((j : Instance) → (f j).residual ≡ skip) → Marked x → Marked (changed_in x p f)
  over_marked x i r at over f none h = record {
    rooted = rooted_change x p f (λ j there k. subst (IsRooted (f j).started) (sym (none j)) tt) h.rooted;
    nested = nested_same x p f (λ j there. ap parts_of (none j) ∙ sym (ap (λ (z : Instance). parts_of z.residual) (same_Some j i (sym there ∙ at.here)) ∙ over_parts x i r at over h)) h.nested;
    numbered = h.numbered;
  }

  returns_marked : (x : Parts) (i : Instance) (r : Residual) (n : ℕ) → At x p i r → next_of r ≡ statement n → (v : Option Value) → Marked x → Marked (record (residual_in x p (returned v r)) { marks = x.marks ++ return_marks p r })
  returns_marked x i r n at next v h = record {
    rooted = rooted_to x p i (returned v r) at.here (rooted_here x i r at.here at.is (returned v) (λ s k. returned-rooted v s r k)) h.rooted;
    nested = nested_marked x p i (returned v r) (return_marks p r) at.here (λ q s apart. own-apart p q (return_marks p r) s apart (return-own p r))
        (ap (after_marks p (return_marks p r)) (ap parts_of at.is ∙ nothing_behind (parts_of r)) ∙ return-nested p v r n (standing-shaped x.design i.home r at.stands) next [] ∙ ap Some (append-nil (parts_of (returned v r)))) h.nested;
    numbered = numbered_own p x.marks (return_marks p r) (return-own p r) ∙ h.numbered;
  }

  guards_marked : (x : Parts) (i : Instance) (r : Residual) (n : ℕ) → At x p i r → next_of r ≡ statement n → (b u : ℕ) → Marked x
      → Marked (record (residual_in x p (put r (guard (block (code_of x.design) b) x.next_guard u))) { marks = x.marks ++ enter p x.next_guard ∷ []; next_guard = x.next_guard + 1 })
  guards_marked x i r n at next b u h =
      let g = x.next_guard in
      let new = guard (block (code_of x.design) b) g u in
      let grown : parts_of (put r new) ≡ unbegun g ∷ parts_of r = put-parts r new n next ∙ ap (λ ys. (ys ++ unbegun g ∷ []) ++ parts_of r) (block-parts (code_of x.design) b) in
      record {
        rooted = rooted_to x p i (put r new) at.here (rooted_here x i r at.here at.is (λ q. put q new) (λ s k. put-rooted new (block-inside (code_of x.design) b) s r k (λ over. subst IsOver next over))) h.rooted;
        nested = nested_marked x p i (put r new) (enter p g ∷ []) at.here (λ q s apart. enter_apart p q g s apart)
            (ap (on_some (after_marks p [])) (enters-one p g (parts_of i.residual)) ∙ ap (λ ys. Some (unbegun g ∷ ys)) (ap parts_of at.is) ∙ ap Some (sym grown)) h.nested;
        numbered = numbers_append x.marks (enter p g ∷ []) ∙ ap (λ xs. xs ++ g ∷ []) h.numbered ∙ sym (next_numbers g);
      }

  begins_parts : (x : Parts) (q : ℕ) (i : Instance) → slice_get x.instances q ≡ Some i → (i.started ≡ true → i.residual ≡ skip) → Marked x → parts_of i.residual ≡ []
  begins_parts x q i at left h = by i.started refl (h.rooted q i at)
    where
      by : (b : Bool) → i.started ≡ b → IsRooted b i.residual → parts_of i.residual ≡ []
      by true is k = ap parts_of (left is)
      by false is k = bare-parts i.residual (rooted-unbegun i.residual k)

  begins_marked : (x : Parts) (q : ℕ) (i : Instance) (f : ℕ) (args : List Value) → slice_get x.instances q ≡ Some i → (i.started ≡ true → i.residual ≡ skip) → Marked x
      → Marked (changed_in x q (λ j. record j { residual = begun (code_of x.design) f args; started = true }))
  begins_marked x q i f args at left h = record {
    rooted = rooted_change x q _ (λ j there k. begun-rooted (code_of x.design) f args) h.rooted;
    nested = nested_same x q _ (λ j there. entered-parts (code_of x.design) f args None None ∙ sym (ap (λ (z : Instance). parts_of z.residual) (same_Some j i (sym there ∙ at)) ∙ begins_parts x q i at left h)) h.nested;
    numbered = h.numbered;
  }

  spawned_marked : (x : Parts) (new : Instance) → new.residual ≡ skip → Marked x → Marked (record x { instances = x.instances ++ new ∷ [] })
  spawned_marked x new none h = record {
    rooted = each-last (λ q (i : Instance). IsRooted i.started i.residual) x.instances new (subst (IsRooted new.started) (sym none) tt) h.rooted;
    nested = λ q. h.nested q ∙ ap Some (sym (⊎_elim
        (λ e. ap (λ n. parts_at (slice_get (x.instances ++ new ∷ []) n)) e ∙ ap parts_at (last-here x.instances new) ∙ ap parts_of none ∙ sym (ap (λ n. parts_at (slice_get x.instances n)) e ∙ ap parts_at (past-end x.instances)))
        (λ apart. ap parts_at (last-other x.instances new q apart))
        (cases_eq q (length x.instances))));
    numbered = h.numbered;
  }

  pub marked-kept : IsKept p Marked
  marked-kept = record {
    same = same_marked;
    leaves = λ x more top none h. record { rooted = h.rooted; nested = h.nested; numbered = h.numbered };
    pushes = λ x q more top off h. record { rooted = h.rooted; nested = h.nested; numbered = h.numbered };
    passes = λ x i r at may h. put_marked x i r at.here at.is skip tt (passes-not_over x.design (next_of r) may) (past-parts r) h;
    puts = λ x i r n at next new is_new h. put_marked x i r at.here at.is new (normal-inside new is_new.normal is_new.calls) (λ over. subst IsOver next over) (put-parts r new n next ∙ ap (λ ys. ys ++ parts_of r) (no_guards-parts new is_new.guards)) h;
    takes_off = λ x i r at h. marked_to x p i (taken_off r) at.here (rooted_here x i r at.here at.is taken_off (λ s k. off-rooted s r k)) (off-parts r ∙ ap parts_of (sym at.is)) h;
    guards = guards_marked;
    returns = returns_marked;
    locals = λ x n v h. record {
      rooted = rooted_change x p _ (λ j there k. local-rooted n v j.started j.residual k) h.rooted;
      nested = nested_same x p _ (λ j there. local-parts (with_local n v) j.residual) h.nested;
      numbered = h.numbered;
    };
    raises = λ x q i r e k at is stands none caught inner h. let g = marked_to x q i (raise (code_of x.design) r e k) at (λ s. raised-rooted (code_of x.design) e k inner i.started r (subst (IsRooted i.started) is s) none) (raise-parts (code_of x.design) e k r ∙ ap parts_of (sym is)) h in
        record { rooted = g.rooted; nested = g.nested; numbered = g.numbered };
    unwinds = λ x q i k at stands none outer h. let g = marked_to x q i (goal (unw i.residual) k) at (λ s. unwound-rooted i.started i.residual k s none outer) (unw-parts i.residual) h in
        record { rooted = g.rooted; nested = g.nested; numbered = g.numbered };
    over = λ x i r at over f none stays h. over_marked x i r at over f none h;
    begins = begins_marked;
    spawned = λ x new none begun_ lives h. spawned_marked x new none h;
    tries_hop = λ x s hop t e blocking entry unbroken h. record { rooted = h.rooted; nested = h.nested; numbered = h.numbered };
    calls_hop = λ x i r n at next via f args e hop entry unbroken h.
        let new = entered (code_of x.design) f args (Some n) (Some via) in
        let g = put_marked x i r at.here at.is new (called-inside (code_of x.design) f args n (Some via)) (λ over. subst IsOver next over) (put-parts r new n next ∙ ap (λ ys. ys ++ parts_of r) (entered-parts (code_of x.design) f args (Some n) (Some via))) h in
        record { rooted = g.rooted; nested = g.nested; numbered = g.numbered };
    returns_hop = λ x i r y at next via e over entry unbroken h.
        let g = put_marked x i r at.here at.is skip tt (λ o. subst IsOver next o) (past-parts r) h in
        record { rooted = g.rooted; nested = g.nested; numbered = g.numbered };
  }

pub marked-between : IsKeptBetween Marked
marked-between = record {
  same = same_marked 0;
  alike = λ x f alike h. record {
    rooted = each-map (λ q (i : Instance). IsRooted i.started i.residual) x.instances f (λ q i k. rooted_alike i (f i) (alike i) k) h.rooted;
    nested = λ p. h.nested p ∙ ap Some (sym (ap parts_at (slice_get-map f x.instances p) ∙ mapped f alike (slice_get x.instances p)));
    numbered = h.numbered;
  };
}
  where
    mapped : (f : Instance → Instance) → ((i : Instance) → Alike i (f i)) → (o : Option Instance) → parts_at (option_map f o) ≡ parts_at o
    mapped f alike None = refl
    mapped f alike (Some i) = ap parts_of (alike i).residual

pub marked-taken : IsKeptByTakings Marked
marked-taken = record {
  taken = λ x p empty h. record { rooted = h.rooted; nested = h.nested; numbered = h.numbered };
  begins = begins_marked 0;
}
