-- Where bindings lead is reached by a path of them.
use Rattle.std.proofs.Common.{◌≡◌, ℕ, zero, suc, Bool, true, false, List, [], ◌∷◌, ◌++◌, refl, sym, ap, ◌∙◌, subst}
use Rattle.std.specs.Prelude.{◌==◌, Contains}
use Rattle.std.proofs.lemmas.Bool.{eqb-true}
use Rattle.code_rules.specs.FlatDesign.declared.objects.Binding.{Binding}
use Rattle.code_rules.specs.FlatDesign.declared.objects.Objects.{Objects}
use Rattle.design_rules.specs.Objects.{form_at, bindings_of, bindings_to}
use Rattle.design_rules.specs.Paths.{is_end, is_beginning, itself_or, ends_within, leaders_within, Reaches, Directly, Through}
use Rattle.design_rules.proofs.Lists.{nothing_in, only_in, flat_map_from, filter_from}

-- a path may be prolonged at its end
pub further : (os : Objects) (i : ℕ) (b : Binding) → Contains os.binds b → (l : ℕ) → l ≡ b.left → Reaches os i l → Reaches os i b.right
further os i b stands l is (Directly c here) = Through c b.right here (subst (λ j. Reaches os j b.right) (sym is) (Directly b stands))
further os i b stands l is (Through c j here rest) = Through c b.right here (further os c.right b stands l is rest)

module _ (os : Objects) where
  ended : (i c : ℕ) (b : Binding) (others : List ℕ) → Contains os.binds b → b.left ≡ i → (Contains others c → Reaches os b.right c)
      → (e : Bool) → Contains (itself_or others b.right e) c → Reaches os i c
  ended i c b others stands left rest true h =
      subst (λ j. Reaches os j c) left (subst (λ d. Reaches os b.left d) (sym (only_in c b.right h)) (Directly b stands))
  ended i c b others stands left rest false h = subst (λ j. Reaches os j c) left (Through b c stands (rest h))

  pub ends_reached : (n i c : ℕ) → Contains (ends_within n os i) c → Reaches os i c
  unfolding ends_within
  ends_reached zero i c h = absurd (nothing_in c h)
  ends_reached (suc n) i c h =
      let w = flat_map_from (λ (b : Binding). itself_or (ends_within n os b.right) b.right (is_end (form_at os b.right))) (bindings_of os i) c h in
      let f = filter_from (λ (b : Binding). b.left == i) os.binds w.0 w.1 in
      ended i c w.0 (ends_within n os w.0.right) f.0 (eqb-true w.0.left i f.1) (ends_reached n w.0.right c) (is_end (form_at os w.0.right)) w.2

  begun : (t i : ℕ) (b : Binding) (others : List ℕ) → Contains os.binds b → b.right ≡ t → (Contains others i → Reaches os i b.left)
      → (e : Bool) → Contains (itself_or others b.left e) i → Reaches os i t
  begun t i b others stands right rest true h =
      subst (λ j. Reaches os i j) right (subst (λ d. Reaches os d b.right) (sym (only_in i b.left h)) (Directly b stands))
  begun t i b others stands right rest false h = subst (λ j. Reaches os i j) right (further os i b stands b.left refl (rest h))

  pub leaders_reach : (n t i : ℕ) → Contains (leaders_within n os t) i → Reaches os i t
  unfolding leaders_within
  leaders_reach zero t i h = absurd (nothing_in i h)
  leaders_reach (suc n) t i h =
      let w = flat_map_from (λ (b : Binding). itself_or (leaders_within n os b.left) b.left (is_beginning (form_at os b.left))) (bindings_to os t) i h in
      let f = filter_from (λ (b : Binding). b.right == t) os.binds w.0 w.1 in
      begun t i w.0 (leaders_within n os w.0.left) f.0 (eqb-true w.0.right t f.1) (leaders_reach n w.0.left i) (is_beginning (form_at os w.0.left)) w.2
