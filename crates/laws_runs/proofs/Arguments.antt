-- Arguments of calls have the types of the parameters, and what is handed back has the types of the caller's variables.
use Rattle.std.proofs.Common.{◌≡◌, ◌+◌, ℕ, zero, suc, Bool, List, [], ◌∷◌, take, slice_get, option_map, unwrap_or, Some, refl, sym, ap, ◌∙◌, subst, arith}
use Rattle.std.specs.Prelude.{Result, Ok, Err, IfOk}
use Rattle.std.proofs.lemmas.Option.{none-some, same_Some}
use Rattle.sim_model.specs.LogicValues.declared.kinds.Value.{Value}
use Rattle.sim_model.specs.FlatDesign.Code as code
use Rattle.sim_model.specs.FlatDesign.Code.{Term, ArgumentTerm}
use Rattle.sim_model.specs.FlatDesign.ValueTypes.{in_expressions}
use Rattle.sim_model.specs.FlatDesign.Typed.{Gives, FitsIn, IsArgument, AreArguments, AreFirstArguments}
use Rattle.sim_model.specs.FlatDesign.Sound.{SoundDesign, HasParameters}
use Rattle.sim_model.specs.FlatDesign.declared.value_types.ValueType.{ValueType}
use Rattle.sim_model.specs.FlatDesign.declared.value_types.ValueType.TheVariants as type
use Rattle.sim_model.specs.FlatDesign.declared.code.Local.{Local}
use Rattle.sim_model.specs.FlatDesign.declared.faults.RunFault.{RunFault}
use Rattle.sim_model.specs.Values.{cut_to}
use Rattle.sim_model.specs.Residual.{Frame}
use Rattle.sim_model.specs.Reading.{Here, val}
use Rattle.sim_model.specs.Calls.{for_parameter, argument_value, argument_values, first_arguments, final_value}
use Rattle.laws_runs.specs.Contents.{Pairwise, IsOf, LocalFits, PlaceFits, context_of}
use Rattle.laws_runs.proofs.TypedLists.{partner-at}
use Rattle.laws_runs.proofs.Types.{cut-type}
use Rattle.laws_runs.proofs.TypedNames.{variable-type}
use Rattle.laws_runs.proofs.TermTypes.{term-type}
use Rattle.laws_runs.proofs.TypedMoves.{if-is}

-- ---- values that are cut to a type

pub cut-same : (t : ValueType) (v : Value) → IsOf t v → IsOf t (cut_to t v)
cut-same type.Bool v e = e
cut-same (type.Int width) v e = refl
cut-same (type.Uint width) v e = refl
cut-same type.Logic v e = e
cut-same (type.Vector width) v e = e
cut-same type.Time v e = e
cut-same type.Process v e = e
cut-same type.Payload v e = e

NoInteger : ValueType → Type 0
NoInteger type.Bool = Unit {0}
NoInteger (type.Int width) = ⊥
NoInteger (type.Uint width) = ⊥
NoInteger type.Logic = Unit {0}
NoInteger (type.Vector width) = Unit {0}
NoInteger type.Time = Unit {0}
NoInteger type.Process = Unit {0}
NoInteger type.Payload = Unit {0}

-- a type that is no integer is the same in expressions
same_outside : (s t : ValueType) → NoInteger t → in_expressions s ≡ t → s ≡ t
unfolding NoInteger
same_outside type.Bool t plain e = e
same_outside (type.Int width) t plain e = absurd (subst NoInteger (sym e) plain)
same_outside (type.Uint width) t plain e = absurd (subst NoInteger (sym e) plain)
same_outside type.Logic t plain e = e
same_outside (type.Vector width) t plain e = e
same_outside type.Time t plain e = e
same_outside type.Process t plain e = e
same_outside type.Payload t plain e = e

pub store-type : (t s : ValueType) (v : Value) → FitsIn t (in_expressions s) → IsOf s v → IsOf t (cut_to t v)
unfolding NoInteger
store-type type.Bool s v f e = e ∙ same_outside s type.Bool tt f
store-type (type.Int width) s v f e = refl
store-type (type.Uint width) s v f e = refl
store-type type.Logic s v f e = e ∙ same_outside s type.Logic tt f
store-type (type.Vector width) s v f e = e ∙ same_outside s (type.Vector width) tt f
store-type type.Time s v f e = e ∙ same_outside s type.Time tt f
store-type type.Process s v f e = e ∙ same_outside s type.Process tt f
store-type type.Payload s v f e = e ∙ same_outside s type.Payload tt f

-- ---- parameters, by their places among the local variables

abbrev pub Follows : List Local → ℕ → List Local → Type 0
Follows ls i [] = Unit {0}
Follows ls i (q ∷ qs) = (slice_get ls i ≡ Some q) × Follows ls (suc i) qs

follows_take : (ls all : List Local) (i k : ℕ) → ((j m : ℕ) → m ≡ j + i → slice_get all m ≡ slice_get ls j) → Follows all i (take k ls)
follows_take ls all i zero same = tt
follows_take [] all i (suc k) same = tt
follows_take (l ∷ ls) all i (suc k) same = (same 0 i (omega arith), follows_take ls all (suc i) k (λ j m e. same (suc j) m (omega (arith, e))))

pub follows : (ls : List Local) (k : ℕ) → Follows ls 0 (take k ls)
follows ls k = follows_take ls ls 0 k (λ j m e. ap (slice_get ls) (omega (arith, e)))

-- the final value of a parameter
pub final-type : (ls : List Local) (x : Frame) (i : ℕ) (q : Local) (v : Value) → slice_get ls i ≡ Some q → Pairwise LocalFits ls x.locals → IsOf q.value_type (final_value x i v)
final-type ls x i q v at fits = let p = partner-at LocalFits ls x.locals i q fits at in subst (λ o. IsOf q.value_type (unwrap_or o v)) (sym p.at) p.fits

-- ---- the parameters of a handler

abbrev pub OfFirst : ValueType × Bool → Value → Type 0
OfFirst t v = IsOf t.0 v

pub handler-fits : (ls : List Local) (ts : List (ValueType × Bool)) (vs : List Value) → HasParameters ls ts → Pairwise OfFirst ts vs → Pairwise LocalFits ls vs
handler-fits [] [] vs h fits = handler_none vs fits
  where
    handler_none : (vs : List Value) → Pairwise OfFirst [] vs → Pairwise LocalFits [] vs
    handler_none [] fits = tt
    handler_none (v ∷ vs) fits = absurd fits
handler-fits [] (t ∷ ts) vs h fits = absurd h
handler-fits (l ∷ ls) [] vs h fits = absurd h
handler-fits (l ∷ ls) (t ∷ ts) [] h fits = absurd fits
handler-fits (l ∷ ls) (t ∷ ts) (v ∷ vs) h fits = (fits.0 ∙ sym h.0, handler-fits ls ts vs h.2 fits.1)

pub record Parameter (ls : List Local) (i : ℕ) (t : ValueType) : Type 0 where
  pub local : Local
  pub at : slice_get ls i ≡ Some local
  pub is : local.value_type ≡ t

-- the parameter at this place, among all local variables
pub parameter-at : (k : ℕ) (ls : List Local) (ts : List (ValueType × Bool)) (i : ℕ) (t : ValueType × Bool) → HasParameters (take k ls) ts → slice_get ts i ≡ Some t → Parameter ls i t.0
parameter-at zero ls [] i t h at = absurd (none-some t at)
parameter-at zero ls (u ∷ ts) i t h at = absurd h
parameter-at (suc k) [] [] i t h at = absurd (none-some t at)
parameter-at (suc k) [] (u ∷ ts) i t h at = absurd h
parameter-at (suc k) (l ∷ ls) [] i t h at = absurd h
parameter-at (suc k) (l ∷ ls) (u ∷ ts) zero t h at = record { local = l; at = refl; is = h.0 ∙ ap (λ (x : ValueType × Bool). x.0) (same_Some u t at) }
parameter-at (suc k) (l ∷ ls) (u ∷ ts) (suc i) t h at = let p = parameter-at k ls ts i t h.2 at in record { local = p.local; at = p.at; is = p.is }

pub parameter-final : (k : ℕ) (ls : List Local) (ts : List (ValueType × Bool)) (i : ℕ) (t : ValueType × Bool) (x : Frame) (v : Value) → HasParameters (take k ls) ts → slice_get ts i ≡ Some t → Pairwise LocalFits ls x.locals → IsOf t.0 (final_value x i v)
parameter-final k ls ts i t x v h at fits = let p = parameter-at k ls ts i t h at in final-type ls x i p.local v p.at fits ∙ p.is

-- ---- the values of expressions and arguments

module _ (h : Here) (sound : SoundDesign h.config.design) (locals : List Local) (place : PlaceFits locals h) where
  pub cut-value : (e : Term) (t : ValueType) → Gives (context_of locals h) e t → IfOk (val h e) (λ v. IsOf t (cut_to t v))
  cut-value e t g = weaker (val h e) (term-type h sound locals place e g.0 g.1)
    where
      weaker : (m : Result Value RunFault) → IfOk m (IsOf g.0) → IfOk m (λ v. IsOf t (cut_to t v))
      weaker (Ok v) is = cut-type t g.0 v g.2 is
      weaker (Err f) is = tt

  argument : (q : Local) (x : ArgumentTerm) → IsArgument (context_of locals h) q x → IfOk (argument_value h x) (λ v. IsOf q.value_type (cut_to q.value_type v))
  argument q (code.by_value e) is = cut-value e q.value_type is.1
  argument q (code.inout n) is = weaker (argument_value h (code.inout n)) (variable-type h sound locals place n q.value_type is.1)
    where
      weaker : (m : Result Value RunFault) → IfOk m (IsOf q.value_type) → IfOk m (λ v. IsOf q.value_type (cut_to q.value_type v))
      weaker (Ok v) is = cut-same q.value_type v is
      weaker (Err f) is = tt

  parameter_type : (ls : List Local) (i : ℕ) (q : Local) (v : Value) → slice_get ls i ≡ Some q → IsOf q.value_type (cut_to q.value_type v) → LocalFits q (for_parameter ls i v)
  parameter_type ls i q v at is = subst (λ o. IsOf q.value_type (unwrap_or (option_map (λ (l : Local). cut_to l.value_type v) o) v)) (sym at) is

  pub arguments-fit : (ls : List Local) (i : ℕ) (ps : List Local) (xs : List ArgumentTerm) → Follows ls i ps → AreArguments (context_of locals h) ps xs → IfOk (argument_values h ls i xs) (Pairwise LocalFits ps)
  arguments-fit ls i [] [] f a = tt
  arguments-fit ls i [] (x ∷ xs) f a = absurd a
  arguments-fit ls i (q ∷ qs) [] f a = absurd a
  arguments-fit ls i (q ∷ qs) (x ∷ xs) f a =
      if-is (Pairwise LocalFits (q ∷ qs)) (λ v. IsOf q.value_type (cut_to q.value_type v)) (argument_value h x) _ (argument q x a.0)
      (λ v is. if-is (Pairwise LocalFits (q ∷ qs)) (Pairwise LocalFits qs) (argument_values h ls (suc i) xs) _ (arguments-fit ls (suc i) qs xs f.1 a.1) (λ vs fits. (parameter_type ls i q v f.0 is, fits)))

  pub first-arguments : (ls : List Local) (i : ℕ) (ps : List Local) (es : List Term) → Follows ls i ps → AreFirstArguments (context_of locals h) ps es → IfOk (first_arguments h ls i es) (Pairwise LocalFits ps)
  first-arguments ls i [] [] f a = tt
  first-arguments ls i [] (e ∷ es) f a = absurd a
  first-arguments ls i (q ∷ qs) [] f a = absurd a
  first-arguments ls i (q ∷ qs) (e ∷ es) f a =
      if-is (Pairwise LocalFits (q ∷ qs)) (λ v. IsOf q.value_type (cut_to q.value_type v)) (val h e) _ (cut-value e q.value_type a.1)
      (λ v is. if-is (Pairwise LocalFits (q ∷ qs)) (Pairwise LocalFits qs) (first_arguments h ls (suc i) es) _ (first-arguments ls (suc i) qs es f.1 a.2) (λ vs fits. (parameter_type ls i q v f.0 is, fits)))
