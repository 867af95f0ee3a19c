-- So many steps suffice: where a port leads is where its bindings lead, one after another.
use Rattle.std.proofs.Common.{◌≡◌, ◌<◌, ◌≤◌, ◌+◌, ◌-◌, ◌*◌, ℕ, zero, suc, Bool, true, false, List, [], ◌∷◌, ◌++◌, length, refl, sym, ap, ◌∙◌, subst, arith}
use Rattle.std.specs.Prelude.{◌==◌, Contains}
use Rattle.std.specs.List.{flat_map, AllByRecursion}
use Rattle.std.proofs.lemmas.Bool.{eqb-true}
use Rattle.code_rules.specs.FlatDesign.declared.objects.Binding.{Binding}
use Rattle.code_rules.specs.FlatDesign.declared.objects.Objects.{Objects}
use Rattle.design_rules.specs.Objects.{form_at, bindings_of, bindings_to}
use Rattle.design_rules.specs.Formed.{AreFormed}
use Rattle.design_rules.specs.Paths.{is_end, is_beginning, itself_or, ends_within, leaders_within, ends_of, leaders_of, steps}
use Rattle.design_rules.proofs.Lists.{filter_from, each_of, flat_map_same, flat_map_none}
use Rattle.design_rules.proofs.Ranks.{rank, rank-le, falls}

module _ (os : Objects) (formed : AreFormed os) where
  -- one step more makes no difference, where the rank is not above the steps
  ends_stay : (n i : ℕ) → rank os i ≤ n → ends_within n os i ≡ ends_within (suc n) os i
  unfolding ends_within
  ends_stay zero i low =
      sym (flat_map_none (bindings_of os i))
      ∙ flat_map_same (λ (b : Binding). []) (λ (b : Binding). itself_or [] b.right (is_end (form_at os b.right))) (bindings_of os i)
      (each_of (λ (b : Binding). [] ≡ itself_or [] b.right (is_end (form_at os b.right))) (bindings_of os i)
      (λ b stands.
      let f = filter_from (λ (c : Binding). c.left == i) os.binds b stands in
      let down = falls os formed b f.0 in
      let at = ap (rank os) (eqb-true b.left i f.1) in
      absurd (omega arith)))
  ends_stay (suc n) i low =
      flat_map_same (λ (b : Binding). itself_or (ends_within n os b.right) b.right (is_end (form_at os b.right)))
      (λ (b : Binding). itself_or (ends_within (suc n) os b.right) b.right (is_end (form_at os b.right))) (bindings_of os i)
      (each_of (λ (b : Binding). itself_or (ends_within n os b.right) b.right (is_end (form_at os b.right)) ≡ itself_or (ends_within (suc n) os b.right) b.right (is_end (form_at os b.right))) (bindings_of os i)
      (λ b stands.
      let f = filter_from (λ (c : Binding). c.left == i) os.binds b stands in
      let down = falls os formed b f.0 in
      let at = ap (rank os) (eqb-true b.left i f.1) in
      ap (λ others. itself_or others b.right (is_end (form_at os b.right))) (ends_stay n b.right (omega arith))))

  pub ends_follow : (i : ℕ)
      → ends_of os i ≡ flat_map (λ (b : Binding). itself_or (ends_of os b.right) b.right (is_end (form_at os b.right))) (bindings_of os i)
  unfolding ends_within
  ends_follow i = ends_stay (steps os) i (rank-le os formed i)

  leaders_stay : (n i : ℕ) → steps os ≤ n + rank os i → leaders_within n os i ≡ leaders_within (suc n) os i
  unfolding leaders_within
  leaders_stay zero i high =
      sym (flat_map_none (bindings_to os i))
      ∙ flat_map_same (λ (b : Binding). []) (λ (b : Binding). itself_or [] b.left (is_beginning (form_at os b.left))) (bindings_to os i)
      (each_of (λ (b : Binding). [] ≡ itself_or [] b.left (is_beginning (form_at os b.left))) (bindings_to os i)
      (λ b stands.
      let f = filter_from (λ (c : Binding). c.right == i) os.binds b stands in
      let down = falls os formed b f.0 in
      let at = ap (rank os) (eqb-true b.right i f.1) in
      let most = rank-le os formed b.left in
      absurd (omega arith)))
  leaders_stay (suc n) i high =
      flat_map_same (λ (b : Binding). itself_or (leaders_within n os b.left) b.left (is_beginning (form_at os b.left)))
      (λ (b : Binding). itself_or (leaders_within (suc n) os b.left) b.left (is_beginning (form_at os b.left))) (bindings_to os i)
      (each_of (λ (b : Binding). itself_or (leaders_within n os b.left) b.left (is_beginning (form_at os b.left)) ≡ itself_or (leaders_within (suc n) os b.left) b.left (is_beginning (form_at os b.left))) (bindings_to os i)
      (λ b stands.
      let f = filter_from (λ (c : Binding). c.right == i) os.binds b stands in
      let down = falls os formed b f.0 in
      let at = ap (rank os) (eqb-true b.right i f.1) in
      ap (λ others. itself_or others b.left (is_beginning (form_at os b.left))) (leaders_stay n b.left (omega arith))))

  pub leaders_follow : (i : ℕ)
      → leaders_of os i ≡ flat_map (λ (b : Binding). itself_or (leaders_of os b.left) b.left (is_beginning (form_at os b.left))) (bindings_to os i)
  unfolding leaders_within
  leaders_follow i = leaders_stay (steps os) i (omega arith)
