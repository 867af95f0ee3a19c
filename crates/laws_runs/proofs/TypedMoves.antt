-- What each move of a configuration keeps: contents, instances and the script stay typed; and of the instance that moves, the
-- call in place is of the same body.
use Rattle.std.proofs.Common.{◌≡◌, ℕ, List, [], ◌∷◌, ◌++◌, slice_get, slice_set, option_map, Some, None, sym, ap, ◌∙◌, subst, ⊎_elim}
use Rattle.std.specs.Prelude.{Result, Ok, Err, IfOk}
use Rattle.std.proofs.lemmas.Bool.{cases_eq}
use Rattle.std.proofs.lemmas.Option.{same_Some}
use Rattle.sim_model.specs.LogicValues.declared.kinds.Value.{Value}
use Rattle.sim_model.specs.EventCore.declared.event.Ev.{Ev}
use Rattle.sim_model.specs.FlatDesign.Code.{body_at}
use Rattle.sim_model.specs.FlatDesign.Denotes.{denoted_at, type_of_variable, variable_type}
use Rattle.sim_model.specs.FlatDesign.Typed.{EachOf, parameters_of}
use Rattle.sim_model.specs.FlatDesign.Sound.{IsHomeOf}
use Rattle.sim_model.specs.FlatDesign.declared.value_types.ValueType.{ValueType}
use Rattle.sim_model.specs.FlatDesign.declared.names.NameUse.{NameUse}
use Rattle.sim_model.specs.FlatDesign.declared.names.NameUse.TheVariants as name_use
use Rattle.sim_model.specs.FlatDesign.declared.code.CodeBody.{CodeBody}
use Rattle.sim_model.specs.FlatDesign.declared.code.Local.{Local}
use Rattle.sim_model.specs.FlatDesign.declared.design.VariablePart.{VariablePart}
use Rattle.sim_model.specs.FlatDesign.declared.design.Denoted.{Denoted}
use Rattle.sim_model.specs.FlatDesign.declared.design.Denoted.TheVariants as denoted
use Rattle.sim_model.specs.FlatDesign.declared.design.Design.{Design}
use Rattle.sim_model.specs.FlatDesign.declared.faults.RunFault.{RunFault}
use Rattle.sim_model.specs.Values.{on_ok}
use Rattle.sim_model.specs.Residual.{Residual, in_innermost}
use Rattle.sim_model.specs.Configuration.{Config, Instance, change, change_instance, with_residual}
use Rattle.sim_model.specs.Reading.{Here, denotes}
use Rattle.sim_model.specs.Waits.{fire}
use Rattle.sim_model.specs.Storing.{with_local, set_local, set_variable, set_denoted, set_name}
use Rattle.laws_runs.proofs.Changes.{change-here, change-other}
use Rattle.laws_runs.specs.Standing.{code_of}
use Rattle.laws_runs.specs.Contents.{Pairwise, IsOf, LocalFits, VariableFits, Contents}
use Rattle.laws_runs.proofs.TypedLists.{pair-set}
use Rattle.laws_runs.specs.Frames.{LeftFits, InstanceFits}
use Rattle.laws_runs.specs.TypedConfig.{CommandFits}
use Rattle.laws_runs.proofs.EachLists.{each-change, get-more}
use Rattle.laws_runs.proofs.TypedLeft.{inner}
use Rattle.laws_runs.proofs.TypedUnwound.{local-fits, local-inner}
use Rattle.laws_runs.proofs.TypedWakes.{Alike, fire-keeps}

-- ---- one instance

pub alike-fits : (d : Design) (i j : Instance) → Alike i j → InstanceFits d i → InstanceFits d j
alike-fits d i j a h = record {
  body = h.body;
  found = ap (body_at (code_of d)) a.code ∙ h.found;
  home_of = subst (λ home. IsHomeOf d home h.body) (sym a.home) h.home_of;
  arguments = subst (Pairwise LocalFits (parameters_of h.body)) (sym a.arguments) h.arguments;
  left = subst (LeftFits d None j.home) (sym a.residual) (subst (λ home. LeftFits d None home i.residual) (sym a.home) h.left);
}

pub left-fits : (d : Design) (i : Instance) (x : Residual) → LeftFits d None i.home x → InstanceFits d i → InstanceFits d (record i { residual = x })
left-fits d i x fits h = record { body = h.body; found = h.found; home_of = h.home_of; arguments = h.arguments; left = fits }

-- ---- answers

pub if-any : {A B : Type 0} (P : B → Type 0) (m : Result A RunFault) (f : A → Result B RunFault) → ((x : A) → IfOk (f x) P) → IfOk (on_ok m f) P
if-any P (Ok x) f h = h x
if-any P (Err e) f h = tt

pub if-is : {A B : Type 0} (P : B → Type 0) (Q : A → Type 0) (m : Result A RunFault) (f : A → Result B RunFault) → IfOk m Q → ((x : A) → Q x → IfOk (f x) P) → IfOk (on_ok m f) P
if-is P Q (Ok x) f q h = h x q
if-is P Q (Err e) f q h = tt

-- ---- configurations over a design

module _ (d : Design) where
  abbrev pub Fits : Config → Type 0
  Fits e = (e.design ≡ d) × Contents d e.store e.channels e.transactions.pool e.quantum.keepers × EachOf (InstanceFits d) e.processes.instances × EachOf (CommandFits d) e.script

  pub same-fits : (e : Config) (q : ℕ) (f : Instance → Instance) → ((i : Instance) → Alike i (f i)) → Fits e → Fits (change_instance e q f)
  same-fits e q f alike h = (h.0, h.1, each-change (InstanceFits d) e.processes.instances q f (λ i at fits. alike-fits d i (f i) (alike i) fits) h.2, h.3)

  pub fire-fits : (e : Config) (x : Ev) → Fits e → Fits (fire e x)
  fire-fits e x h = fire-keeps Fits same-fits (λ c rs k. k) e x h

  -- another residual of an instance of which more is known
  pub residual-fits : (e : Config) (q : ℕ) (x : Residual) → ((i : Instance) → slice_get e.processes.instances q ≡ Some i → InstanceFits d i → LeftFits d None i.home x) → Fits e → Fits (with_residual e q x)
  residual-fits e q x fits h = (h.0, h.1, each-change (InstanceFits d) e.processes.instances q (λ i. record i { residual = x }) (λ i at k. left-fits d i x (fits i at k) k) h.2, h.3)

  -- ---- with the call in place of one instance

  module _ (p f : ℕ) where
    -- the call in place of the instance p is of the body f
    abbrev pub IsIn : List Instance → Type 0
    IsIn is = (j : Instance) × (slice_get is p ≡ Some j) × (inner None j.residual ≡ Some f)

    abbrev pub FitsHere : Config → Type 0
    FitsHere e = Fits e × IsIn e.processes.instances

    change_in : (is : List Instance) (q : ℕ) (g : Instance → Instance) → ((i : Instance) → slice_get is p ≡ Some i → inner None (g i).residual ≡ inner None i.residual) → IsIn is → IsIn (change is q g)
    change_in is q g keeps h =
        ⊎_elim
        (λ same. (g h.0, subst (λ n. slice_get (change is n g) p ≡ Some (g h.0)) same (change-here is p g h.0 h.1), keeps h.0 h.1 ∙ h.2))
        (λ apart. (h.0, change-other is q p g apart ∙ h.1, h.2))
        (cases_eq p q)

    pub same-in : (e : Config) (q : ℕ) (g : Instance → Instance) → ((i : Instance) → Alike i (g i)) → FitsHere e → FitsHere (change_instance e q g)
    same-in e q g alike h = (same-fits e q g alike h.0, change_in e.processes.instances q g (λ i at. ap (inner None) (alike i).residual) h.1)

    pub fire-in : (e : Config) (x : Ev) → FitsHere e → FitsHere (fire e x)
    fire-in e x h = fire-keeps FitsHere same-in (λ c rs k. k) e x h

    -- one instance more
    pub more-in : (is : List Instance) (new : Instance) → IsIn is → IsIn (is ++ new ∷ [])
    more-in is new h = (h.0, get-more is (new ∷ []) p h.0 h.1, h.2)

    module _ (b : CodeBody) (found : body_at (code_of d) f ≡ Some b) where
      pub local-in : (e : Config) (n : ℕ) (v : Value) → ((l : Local) → slice_get b.locals n ≡ Some l → LocalFits l v) → FitsHere e → FitsHere (set_local e p n v)
      local-in e n v typed h = (
        (h.0.0, h.0.1, each-change (InstanceFits d) e.processes.instances p (λ i. record i { residual = in_innermost (with_local n v) i.residual }) set h.0.2, h.0.3),
        change_in e.processes.instances p (λ i. record i { residual = in_innermost (with_local n v) i.residual }) (λ i at. local-inner n v None i.residual) h.1,
      )
        where
          set : (i : Instance) → slice_get e.processes.instances p ≡ Some i → InstanceFits d i → InstanceFits d (record i { residual = in_innermost (with_local n v) i.residual })
          set i at k =
              left-fits d i (in_innermost (with_local n v) i.residual)
              (local-fits d f b found n v typed None i.home i.residual k.left (ap (λ (j : Instance). inner None j.residual) (same_Some i h.1.0 (sym at ∙ h.1.1)) ∙ h.1.2)) k

      module _ (h : Here) (same : h.config.design ≡ d) where
        variable_set : (e : Config) (n : ℕ) (t : ValueType) (v : Value) → option_map (λ (p : VariablePart). p.value_type) (slice_get d.variables n) ≡ Some t → IsOf t v → FitsHere e → FitsHere (set_variable e n v)
        variable_set e n t v is typed k = ((k.0.0, contents, k.0.2, k.0.3), k.1)
          where
            contents : Contents d (record e.store { variables = slice_set e.store.variables n v }) e.channels e.transactions.pool e.quantum.keepers
            contents = record {
              variables = pair-set VariableFits d.variables e.store.variables n v (λ x at. typed ∙ sym (same_Some x.value_type t (ap (option_map (λ (p : VariablePart). p.value_type)) (sym at) ∙ is))) k.0.1.variables;
              memories = k.0.1.memories;
              signals = k.0.1.signals;
              resolved = k.0.1.resolved;
              fifos = k.0.1.fifos;
              payloads = k.0.1.payloads;
              keepers_there = k.0.1.keepers_there;
            }

        denoted_set : (e : Config) (x : Denoted) (t : ValueType) (v : Value) → type_of_variable d x ≡ Some t → IsOf t v → FitsHere e → FitsHere (set_denoted e x v)
        denoted_set e denoted.Nothing t v is typed k = k
        denoted_set e (denoted.Channel ch) t v is typed k = k
        denoted_set e (denoted.Event n) t v is typed k = k
        denoted_set e (denoted.Keeper n) t v is typed k = k
        denoted_set e (denoted.Memory n) t v is typed k = k
        denoted_set e (denoted.Variable n) t v is typed k = variable_set e n t v is typed k
        denoted_set e (denoted.Port n) t v is typed k = k
        denoted_set e (denoted.Process n) t v is typed k = k
        denoted_set e (denoted.Socket hop forward) t v is typed k = k

        -- a variable gets a value of its type
        pub name-in : (e : Config) (n : NameUse) (t : ValueType) (v : Value) → variable_type (record { design = d; home = h.home; locals = b.locals }) n ≡ Some t → IsOf t v → FitsHere e → FitsHere (set_name e p h n v)
        name-in e (name_use.Local n) t v is typed k =
            local-in e n v (λ l at. typed ∙ sym (same_Some l.value_type t (ap (option_map (λ (l : Local). l.value_type)) (sym at) ∙ is))) k
        name-in e (name_use.Declared n) t v is typed k =
            denoted_set e (denotes h n) t v (subst (λ x. type_of_variable d (denoted_at x h.home n) ≡ Some t) (sym same) is) typed k
