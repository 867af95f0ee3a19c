-- The unwind blocks of a clocked thread's body store to other local variables than the one that its loop asks.
use Rattle.std.proofs.Common.{◌≡◌, ◌⊎◌, ◌<◌, ℕ, zero, suc, true, false, List, [], ◌∷◌, ◌++◌, map, length, slice_index_or, Contains, Some, refl, sym, ap, ◌∙◌, subst, arith, inl, inr, ⊎_elim}
use Rattle.std.proofs.lemmas.Option.{same_Some}
use Rattle.laws_runs.specs.LogicValues.declared.kinds.Value.TheVariants as value
use Rattle.laws_runs.specs.FlatDesign.Code as code
use Rattle.laws_runs.specs.FlatDesign.Code.{Arena, Statement, block_at, statement_at}
use Rattle.laws_runs.specs.FlatDesign.Reach.{Inside, itself, deeper, IsIn, InBody, inner_blocks}
use Rattle.laws_runs.specs.FlatDesign.Typed.{EachOf}
use Rattle.laws_runs.specs.FlatDesign.declared.code.CodeBody.{CodeBody}
use Rattle.laws_runs.specs.FlatDesign.declared.code.Handler.{Handler}
use Rattle.laws_runs.specs.FlatDesign.declared.names.NameUse.TheVariants as name_use
use Rattle.laws_runs.specs.FlatDesign.declared.value_types.ValueType.TheVariants as type
use Rattle.laws_clocked.specs.Stores.{UnwindsSpare}
use Rattle.laws_clocked.specs.Again.{Around}
use Rattle.laws_clocked.specs.Clocked.{SparesIt, HasClocked}
use Rattle.laws_clocked.proofs.Owned.{inner-spares}

-- ---- an element of a list

at_index : {A : Type 0} (P : A → Type 0) (xs : List A) (k : ℕ) (x : A) → k < length xs → slice_index_or xs k x ≡ x → EachOf P xs → P x
at_index P [] k x within is h = absurd (omega (arith, within))
at_index P (y ∷ ys) zero x within is h = subst P is h.0
at_index P (y ∷ ys) (suc k) x within is h = at_index P ys k x (omega (arith, within)) is h.1

each_in : {A : Type 0} (P : A → Type 0) (xs : List A) (x : A) → EachOf P xs → Contains xs x → P x
each_in P xs x h c = at_index P xs c.0 x c.1 c.2 h

each_more : {A : Type 0} (P : A → Type 0) (xs : List A) (y : A) → EachOf P xs → P y → EachOf P (xs ++ y ∷ [])
each_more P [] y h so = (so, tt)
each_more P (x ∷ xs) y h so = (h.0, each_more P xs y h.1 so)

each_weaker : {A : Type 0} (P Q : A → Type 0) → ((x : A) → P x → Q x) → (xs : List A) → EachOf P xs → EachOf Q xs
each_weaker P Q weak [] h = tt
each_weaker P Q weak (x ∷ xs) h = (weak x h.0, each_weaker P Q weak xs h.1)

module _ (a : Arena) (b : Around) (e f : ℕ) (has : HasClocked a b e f) where
  -- ---- the blocks of the body

  data Part (j : ℕ) : Type 0 where
    whole : j ≡ has.body.block → Part j
    the_round : j ≡ b.round → Part j
    the_inside : j ≡ b.inside → Part j
    the_handler : j ≡ has.handler.block → Part j
    in_front : EachOf (SparesIt a b.again) (block_at a j) → Part j

  -- what stands in each, by its number
  abbrev IsOne : ℕ → ℕ → Type 0
  IsOne m n = n ≡ m

  found_as : (m n : ℕ) (s x : Statement) → n ≡ m → statement_at a m ≡ Some x → statement_at a n ≡ Some s → s ≡ x
  found_as m n s x same is found = same_Some s x (sym found ∙ ap (statement_at a) same ∙ is)

  no_block : (j : ℕ) → Contains [] j → ⊥
  no_block j c = let within = c.1 in omega (arith, within)

  one_block : (i j : ℕ) → Contains (i ∷ []) j → j ≡ i
  one_block i j c = each_in (λ n. n ≡ i) (i ∷ []) j (refl, tt) c

  -- the statements of the try's block spare the variable, or are the last
  abbrev IsFront : ℕ → Type 0
  IsFront n = SparesIt a b.again n ⊎ (n ≡ has.last)

  fronts : EachOf IsFront (block_at a b.inside)
  fronts =
      subst (EachOf IsFront) (sym (has.around.inside ∙ has.own))
      (each_more IsFront has.front has.last (each_weaker (SparesIt a b.again) IsFront (λ x h. inl h) has.front has.spares) (inr refl))

  abbrev declaration : Statement
  declaration = code.var b.again type.Bool (Some (code.literal (value.Bool true)))

  abbrev loop : Statement
  loop = code.while_ (code.name (name_use.Local b.again)) b.round

  abbrev last_one : Statement
  last_one = code.assign (code.to_name (record { name = name_use.Local b.again; value_type = type.Bool })) (code.literal (value.Bool false))

  -- a statement of the body's block is the declaration or the loop; and so on
  in_whole : (s : Statement) → IsIn a has.body.block s → (s ≡ declaration) ⊎ (s ≡ loop)
  in_whole s i = each_in (λ n. statement_at a n ≡ Some s → (s ≡ declaration) ⊎ (s ≡ loop)) (block_at a has.body.block) i.number
      (subst (EachOf (λ n. statement_at a n ≡ Some s → (s ≡ declaration) ⊎ (s ≡ loop))) (sym has.begins)
      ((λ found. inl (found_as has.declares has.declares s declaration refl has.first_true found)), ((λ found. inr (found_as b.loops b.loops s loop refl has.around.loops found)), tt)))
      i.listed_there i.found

  in_round : (s : Statement) → IsIn a b.round s → s ≡ code.try_ b.inside b.handlers
  in_round s i = each_in (λ n. statement_at a n ≡ Some s → s ≡ code.try_ b.inside b.handlers) (block_at a b.round) i.number
      (subst (EachOf (λ n. statement_at a n ≡ Some s → s ≡ code.try_ b.inside b.handlers)) (sym has.around.round)
      ((λ found. found_as b.tries b.tries s (code.try_ b.inside b.handlers) refl has.around.tries found), tt))
      i.listed_there i.found

  in_handler : (s : Statement) → IsIn a has.handler.block s → ⊥
  in_handler s i = no_block i.number (subst (λ ns. Contains ns i.number) has.does_nothing i.listed_there)

  -- the blocks of a statement of one of these blocks are such too
  inner_part : (k j : ℕ) (s : Statement) → Part k → IsIn a k s → Contains (inner_blocks s) j → Part j
  inner_part k j s (whole is) i inner = ⊎_elim
      (λ same. absurd (no_block j (subst (λ x. Contains (inner_blocks x) j) same inner)))
      (λ same. the_round (one_block b.round j (subst (λ x. Contains (inner_blocks x) j) same inner)))
      (in_whole s (subst (λ n. IsIn a n s) is i))
  inner_part k j s (the_round is) i inner =
      let there = subst (λ x. Contains (inner_blocks x) j) (in_round s (subst (λ n. IsIn a n s) is i)) inner in
      each_in Part (b.inside ∷ map (λ (h : Handler). h.block) b.handlers) j
      (the_inside refl, subst (λ hs. EachOf Part (map (λ (h : Handler). h.block) hs)) (sym has.only) (the_handler refl, tt)) there
  inner_part k j s (the_inside is) i inner =
      let at = subst (λ n. IsIn a n s) is i in
      ⊎_elim
      (λ spares. in_front (inner-spares a b.again at.number j s spares at.found inner))
      (λ last. absurd (no_block j (subst (λ x. Contains (inner_blocks x) j) (found_as has.last at.number s last_one last has.last_false at.found) inner)))
      (each_in IsFront (block_at a b.inside) at.number fronts at.listed_there)
  inner_part k j s (the_handler is) i inner = absurd (in_handler s (subst (λ n. IsIn a n s) is i))
  inner_part k j s (in_front h) i inner = in_front (inner-spares a b.again i.number j s (each_in (SparesIt a b.again) (block_at a k) i.number h i.listed_there) i.found inner)

  all_parts : (j : ℕ) → Inside a has.body.block j → Part j
  all_parts _ (itself _) = whole refl
  all_parts j (deeper _ k _ s l stands inner) = inner_part k j s (all_parts k l) stands inner

  -- ---- a guard among them

  abbrev is_guard : Statement → Type 0
  is_guard (code.guard m u) = Unit {0}
  is_guard other = ⊥

  guard_spares : (k m u : ℕ) → Part k → (i : IsIn a k (code.guard m u)) → SparesIt a b.again i.number
  guard_spares k m u (whole is) i = ⊎_elim (λ same. absurd (subst is_guard same tt)) (λ same. absurd (subst is_guard same tt)) (in_whole (code.guard m u) (subst (λ n. IsIn a n (code.guard m u)) is i))
  guard_spares k m u (the_round is) i = absurd (subst is_guard (in_round (code.guard m u) (subst (λ n. IsIn a n (code.guard m u)) is i)) tt)
  guard_spares k m u (the_inside is) i = ⊎_elim
      (λ spares. spares)
      (λ last. absurd (subst is_guard (found_as has.last i.number (code.guard m u) last_one last has.last_false i.found) tt))
      (each_in IsFront (block_at a b.inside) i.number fronts (subst (λ n. Contains (block_at a n) i.number) is i.listed_there))
  guard_spares k m u (the_handler is) i = absurd (in_handler (code.guard m u) (subst (λ n. IsIn a n (code.guard m u)) is i))
  guard_spares k m u (in_front h) i = each_in (SparesIt a b.again) (block_at a k) i.number h i.listed_there

  pub unwinds-spare : UnwindsSpare a f b.again
  unwinds-spare y m u x found guards held =
      let same : y ≡ has.body = same_Some y has.body (sym found ∙ has.found) in
      let within = subst (λ (z : CodeBody). InBody a z (code.guard m u)) same guards in
      let spares = guard_spares within.block m u (all_parts within.block within.inside) within.stands in
      spares.inside (code.guard m u) u x within.stands.found (suc zero, omega arith, refl) held
