-- Bodies that begin: their statements are their own, and their parameters and local variables have values of their types.
use Rattle.std.proofs.Common.{◌≡◌, ◌≤◌, ℕ, zero, suc, cond, List, [], ◌∷◌, map, take, length, replicate, Contains, unwrap_or, Option, Some, None, refl, sym, ap, ◌∙◌, subst, arith}
use Rattle.std.specs.Prelude.{nat_lt}
use Rattle.std.proofs.lemmas.Bool.Decides.{nat_tests}
use Rattle.std.proofs.lemmas.List.{length-take}
use Rattle.std.proofs.lemmas.Option.{same_Some}
use Rattle.sim_model.specs.LogicValues.declared.kinds.Digit.{Digit}
use Rattle.sim_model.specs.LogicValues.declared.kinds.Digit.TheVariants as digit
use Rattle.sim_model.specs.LogicValues.declared.kinds.Value.{Value}
use Rattle.sim_model.specs.LogicValues.Planes.{clipped}
use Rattle.sim_model.specs.FlatDesign.Code.{Statement, block_at, statement_at, body_at}
use Rattle.sim_model.specs.FlatDesign.ValueTypes.{default_value}
use Rattle.sim_model.specs.FlatDesign.Typed.{EachOf, parameters_of}
use Rattle.sim_model.specs.FlatDesign.Reach.{itself, deeper, InBody, inner_blocks}
use Rattle.sim_model.specs.FlatDesign.Sound.{IsHomeOf}
use Rattle.sim_model.specs.FlatDesign.declared.value_types.ValueType.{ValueType}
use Rattle.sim_model.specs.FlatDesign.declared.value_types.ValueType.TheVariants as type
use Rattle.sim_model.specs.FlatDesign.declared.code.CodeBody.{CodeBody}
use Rattle.sim_model.specs.FlatDesign.declared.code.Local.{Local}
use Rattle.sim_model.specs.FlatDesign.declared.design.Design.{Design}
use Rattle.sim_model.specs.Residual.{Frame, first_locals, entered_in, entered, begun}
use Rattle.sim_model.specs.Reading.{home_of_via}
use Rattle.sim_model.specs.Clean.{EachInBlock}
use Rattle.sim_model.specs.Calls.{answer_in, default_answer, answer_of}
use Rattle.sim_model.specs.declared.plain.Via.{Via}
use Rattle.laws_runs.specs.Standing.{code_of, IsOverHop}
use Rattle.laws_runs.proofs.Blocks.{each-from}
use Rattle.laws_runs.specs.Contents.{Pairwise, IsOf, LocalFits}
use Rattle.laws_runs.specs.Frames.{IsInside, AnswerFits, CallFits, LeftFits}
use Rattle.laws_runs.specs.TypedConfig.{HasValues, AnswerHasValues, BodyHasValues}
use Rattle.laws_runs.proofs.TypedLeft.{statements-fit}

-- ---- first values

clipped_all : (ds : List Digit) → 1 ≤ length ds → length ds ≤ 64 → length (clipped ds) ≡ length ds
clipped_all [] some most = absurd (omega (arith, some))
clipped_all (d ∷ ds) some most = omega (arith, length-take 63 ds, most)

replicate_all : (n : ℕ) (x : Digit) → length (replicate n x) ≡ n
replicate_all zero x = refl
replicate_all (suc n) x = ap suc (replicate_all n x)

within_64 : (width : ℕ) → width ≤ 64 → cond (nat_lt 64 width) 64 width ≡ width
within_64 width most = grind (arith, nat_tests)

unknown_type : (n width : ℕ) → n ≡ width → 1 ≤ width → width ≤ 64 → length (clipped (replicate n digit.X)) ≡ width
unknown_type n width e some most =
    let many = replicate_all n digit.X in
    clipped_all (replicate n digit.X) (omega (arith, many, e, some)) (omega (arith, many, e, most)) ∙ many ∙ e

pub default-type : (t : ValueType) → HasValues t → IsOf t (default_value t)
default-type type.Bool h = refl
default-type (type.Int width) h = refl
default-type (type.Uint width) h = refl
default-type type.Logic h = refl
default-type (type.Vector width) h = ap type.Vector (unknown_type (cond (nat_lt 64 width) 64 width) width (within_64 width h.1) h.0 h.1)
default-type type.Time h = refl
default-type type.Process h = refl
default-type type.Payload h = refl

default_locals : (ls : List Local) → EachOf (λ (l : Local). HasValues l.value_type) ls → Pairwise LocalFits ls (map (λ (l : Local). default_value l.value_type) ls)
default_locals [] h = tt
default_locals (l ∷ ls) h = (default-type l.value_type h.0, default_locals ls h.1)

pub first-locals : (k : ℕ) (args : List Value) (ls : List Local) → EachOf (λ (l : Local). HasValues l.value_type) ls → Pairwise LocalFits (take k ls) args → Pairwise LocalFits ls (first_locals args ls)
first-locals k [] ls h fits = default_locals ls h
first-locals zero (v ∷ vs) ls h fits = absurd fits
first-locals (suc k) (v ∷ vs) [] h fits = absurd fits
first-locals (suc k) (v ∷ vs) (l ∷ ls) h fits = (fits.0, first-locals k vs ls h.1 fits.1)

-- ---- the statements of a body, and of a block in it

module _ (d : Design) where
  pub body-inside : (f : ℕ) (b : CodeBody) → body_at (code_of d) f ≡ Some b → EachInBlock (IsInside d (Some f)) (code_of d) b.block
  body-inside f b is =
      each-from (IsInside d (Some f)) (block_at (code_of d) b.block)
      (λ m listed c x at found. subst (λ (y : CodeBody). InBody (code_of d) y x) (same_Some b c (sym is ∙ at)) (record { block = b.block; inside = itself b.block; stands = record { number = m; listed_there = listed; found = found } }))

  pub inner-inside : (o : Option ℕ) (n j : ℕ) (s : Statement) → IsInside d o n → statement_at (code_of d) n ≡ Some s → Contains (inner_blocks s) j → EachInBlock (IsInside d o) (code_of d) j
  inner-inside None n j s h is inner = absurd h
  inner-inside (Some f) n j s h is inner =
      each-from (IsInside d (Some f)) (block_at (code_of d) j)
      (λ m listed c x at found.
      let out = h c s at is in
      record { block = j; inside = deeper c.block out.block j s out.inside out.stands inner; stands = record { number = m; listed_there = listed; found = found } })

  -- a body that begins, or that is called
  pub entered-fits : (o : Option ℕ) (home f : ℕ) (b : CodeBody) (args : List Value) (call : Option ℕ) (via : Option Via) → body_at (code_of d) f ≡ Some b → IsHomeOf d (home_of_via d home via) b → IsOverHop d via
      → BodyHasValues b → Pairwise LocalFits (parameters_of b) args → CallFits d o call f b → LeftFits d o home (entered (code_of d) f args call via)
  entered-fits o home f b args call via is home_of over types fits call_fits =
      subst (λ m. LeftFits d o home (entered_in (code_of d) f args call via m)) (sym is) (
        record { body = b; found = is; home_of = home_of; over = over; locals_fit = first-locals b.parameters args b.locals types.locals fits; answer_fits = tt; call_fits = call_fits },
        statements-fit d (Some f) (home_of_via d home via) (block_at (code_of d) b.block) (body-inside f b is),
      )

  pub begun-fits : (home f : ℕ) (b : CodeBody) (args : List Value) → body_at (code_of d) f ≡ Some b → IsHomeOf d home b → BodyHasValues b → Pairwise LocalFits (parameters_of b) args → LeftFits d None home (begun (code_of d) f args)
  begun-fits home f b args is home_of types fits = entered-fits None home f b args None None is home_of tt types fits tt

  -- ---- the answer of a call

  kept_type : (t : ValueType) (v : Option Value) → HasValues t → AnswerFits (Some t) v → IsOf t (unwrap_or v (default_value t))
  kept_type t None has fits = default-type t has
  kept_type t (Some v) has fits = fits

  pub answer-type : (x : Frame) (b : CodeBody) (t : ValueType) → body_at (code_of d) x.body ≡ Some b → b.answer ≡ Some t → AnswerHasValues b.answer → AnswerFits b.answer x.answer → IsOf t (answer_of (code_of d) x)
  answer-type x b t is answers has fits =
      subst (λ m. IsOf t (unwrap_or x.answer (default_answer (answer_in m)))) (sym is)
      (subst (λ a. IsOf t (unwrap_or x.answer (default_answer a))) (sym answers) (kept_type t x.answer (subst AnswerHasValues answers has) (subst (λ a. AnswerFits a x.answer) answers fits)))
