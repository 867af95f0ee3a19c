-- What the laws ask for is needed: two runs that are not typed.
use Rattle.std.proofs.Common.{◌≡◌, ◌<◌, ◌+◌, ℕ, zero, suc, Bool, true, false, [], ◌∷◌, slice_get, Option, Some, None, refl, sym, ap, ◌∙◌, subst, arith, inl, inr, true≢false}
use Rattle.std.specs.Prelude.{◌⊎◌}
use Rattle.std.proofs.lemmas.Option.{none-some, same_Some}
use Rattle.sim_model.specs.LogicValues.declared.kinds.Value.{Value}
use Rattle.sim_model.specs.FlatDesign.ValueTypes.{type_of_value}
use Rattle.sim_model.specs.FlatDesign.Code.{Statement, body_at}
use Rattle.sim_model.specs.FlatDesign.Denotes.{denoted_at}
use Rattle.sim_model.specs.FlatDesign.Reach.{Reached, here, through, IsIn}
use Rattle.sim_model.specs.FlatDesign.Sound.{SoundDesign, DenotedFits, IsHomeOf, ProcessFits}
use Rattle.sim_model.specs.FlatDesign.declared.value_types.ValueType.{ValueType}
use Rattle.sim_model.specs.FlatDesign.declared.value_types.ValueType.TheVariants as type
use Rattle.sim_model.specs.FlatDesign.declared.code.CodeBody.{CodeBody}
use Rattle.sim_model.specs.FlatDesign.declared.objects.Object.{Object}
use Rattle.sim_model.specs.Configuration.{Config, start}
use Rattle.sim_model.specs.Runs.{after}
use Rattle.laws_runs.specs.Standing.{code_of}
use Rattle.laws_runs.specs.Contents.{Pairwise, LocalFits}
use Rattle.laws_runs.specs.TypedConfig.{BodyHasValues, TypesHaveValues, IsTypedConfig}
use Rattle.laws_runs.specs.Unfit.{tried, runs, sets_a_time}

-- ---- the design is sound, whatever the width

no_statement : (w b : ℕ) (s : Statement) → IsIn (code_of (tried w)) b s → ⊥
no_statement w b s h = none-some s h.found

no_reached : (w b : ℕ) (s : Statement) → Reached (code_of (tried w)) b s → ⊥
no_reached w b s (here _ _ h) = no_statement w h.block s h.stands
no_reached w b s (through _ f x arguments body _ h found later) = no_statement w h.block _ h.stands

first_of_one : {A : Type 0} (x : A) (P : ℕ → A → Type 0) → P 0 x → (n : ℕ) (y : A) → slice_get (x ∷ []) n ≡ Some y → P n y
first_of_one x P h zero y at = subst (P 0) (same_Some x y at) h
first_of_one x P h (suc n) y at = absurd (none-some y at)

names_fit : (w home n : ℕ) → DenotedFits (tried w) (denoted_at (tried w) home n)
names_fit w zero zero = omega arith
names_fit w zero (suc zero) = (_, refl, refl, omega arith)
names_fit w zero (suc (suc n)) = tt
names_fit w (suc home) n = tt

parents_fit : (w i : ℕ) (o : Object) → slice_get (tried w).objects.list i ≡ Some o → (o.parent < i) ⊎ ((i ≡ 0) × (o.parent ≡ 0))
parents_fit w zero o at = inr (refl, sym (ap (λ (x : Object). x.parent) (same_Some _ o at)))
parents_fit w (suc zero) o at = inl (subst (λ (x : Object). x.parent < 1) (same_Some _ o at) (omega arith))
parents_fit w (suc (suc zero)) o at = inl (subst (λ (x : Object). x.parent < 2) (same_Some _ o at) (omega arith))
parents_fit w (suc (suc (suc i))) o at = absurd (none-some o at)

home_fits : (w : ℕ) (b : CodeBody) → b.module_place ≡ 0 → IsHomeOf (tried w) 0 b
home_fits w b e = record { instance = _; found = refl; same = sym e }

pub sound-tried : (w : ℕ) → SoundDesign (tried w)
sound-tried w = record {
  parents = parents_fit w;
  names = names_fit w;
  signals = first_of_one _ (λ n p. (type_of_value p.initial ≡ p.value_type) × (p.events + 2 < 3)) (refl, omega arith);
  resolved = λ n p at. absurd (none-some p at);
  fifos = λ n p at. absurd (none-some p at);
  variables = λ n p at. absurd (none-some p at);
  ports = λ n p at. absurd (none-some p at);
  processes = first_of_one _ (λ n p. ProcessFits (tried w) p) (record { body = _; found = refl; home = home_fits w _ refl; kind = inl refl; parameters = refl; answer = refl; sensitive = tt });
  hops = λ n p at. absurd (none-some p at);
  nested = λ b j s h inner. absurd (no_statement w b s h);
  typed = λ f b home s found home_of h. absurd (no_statement w h.block s h.stands);
  methods = λ f b home s found root home_of h. absurd (no_reached w b.block s h);
  handlers = λ f b home s found root home_of h. absurd (no_reached w b.block s h);
  unwinding = λ f b home body unwind s found home_of h reached. absurd (no_statement w h.block _ h.stands);
  threads = λ f b home s found root home_of h. absurd (no_reached w b.block s h);
  waits = λ f b home s found home_of h. absurd (no_statement w h.block s h.stands);
  room = λ f b home s found home_of h. absurd (no_statement w h.block s h.stands);
}

-- ---- a configuration that is reached, and is not typed

IsUnfit : Option Config → Type 0
IsUnfit None = ⊥
IsUnfit (Some c) = IsTypedConfig c → ⊥

unfit : (o : Option Config) → IsUnfit o → (last : Config) × (o ≡ Some last) × (IsTypedConfig last → ⊥)
unfolding IsUnfit
unfit None h = absurd h
unfit (Some c) h = (c, refl, h)

width_of : ValueType → ℕ
width_of (type.Vector width) = width
width_of other = 0

wide_local : (b : CodeBody) (v : Value) → body_at (code_of (tried 65)) 0 ≡ Some b → type_of_value v ≡ type.Vector 64 → Pairwise LocalFits b.locals (v ∷ []) → ⊥
unfolding width_of
wide_local b v found narrow fits =
    let own = subst (λ (c : CodeBody). Pairwise LocalFits c.locals (v ∷ [])) (sym (same_Some _ b found)) fits in
    let wide : 64 ≡ 65 = ap width_of (sym narrow ∙ own.0) in
    omega (arith, wide)

pub wide-run : (last : Config) × (after 3 (0 ∷ []) (start (tried 65) runs) ≡ Some last) × (IsTypedConfig last → ⊥)
unfolding IsUnfit
wide-run = unfit (after 3 (0 ∷ []) (start (tried 65) runs)) (λ t. let f = t.instances.0.left.0 in wide_local f.body _ f.found refl f.locals_fit)

is_time : ValueType → Bool
is_time type.Time = true
is_time other = false

pub set-run : (last : Config) × (after 1 [] (start (tried 1) sets_a_time) ≡ Some last) × (IsTypedConfig last → ⊥)
unfolding IsUnfit is_time
set-run = unfit (after 1 [] (start (tried 1) sets_a_time)) (λ t. true≢false (ap is_time t.contents.signals.0.1))

pub types-tried : TypesHaveValues (tried 1)
types-tried = record { bodies = first_of_one _ (λ f b. BodyHasValues b) (record { locals = ((omega arith, omega arith), tt); answer = tt }) }
