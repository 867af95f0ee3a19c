-- The value of a typed expression has its type, and its operators meet operands of theirs.
use Rattle.std.proofs.Common.{◌≡◌, ℕ, Bool, true, false, cond, List, Some, refl, sym, ◌∙◌, subst}
use Rattle.std.specs.Prelude.{Result, Ok, Err, IfOk}
use Rattle.sim_model.specs.LogicValues.declared.kinds.Value.{Value}
use Rattle.sim_model.specs.ModelTree.declared.expressions.BinaryOp.{BinaryOp}
use Rattle.sim_model.specs.FlatDesign.Code as code
use Rattle.sim_model.specs.FlatDesign.Code.{Term}
use Rattle.sim_model.specs.FlatDesign.ValueTypes.{type_of_value}
use Rattle.sim_model.specs.FlatDesign.Typed.{IsInteger, BinaryType, HasType}
use Rattle.sim_model.specs.FlatDesign.Sound.{SoundDesign}
use Rattle.sim_model.specs.FlatDesign.declared.value_types.ValueType.{ValueType}
use Rattle.sim_model.specs.FlatDesign.declared.value_types.ValueType.TheVariants as type
use Rattle.sim_model.specs.FlatDesign.declared.code.Local.{Local}
use Rattle.sim_model.specs.FlatDesign.declared.faults.RunFault.{RunFault}
use Rattle.sim_model.specs.Values.{on_ok, bits, bool_value, truth, binary, decides, index_within}
use Rattle.sim_model.specs.Reading.{Here, val, memory_here, payload_here, payload_bytes, byte_in}
use Rattle.laws_runs.specs.Contents.{IsOf, PlaceFits, context_of}
use Rattle.laws_runs.specs.Operands.{GivesInteger, OperandsFit}
use Rattle.laws_runs.proofs.Types.{if-any, if-is, unary-type, binary-type, decided-type, digit-type, digits-type, convert-type, concat-type}
use Rattle.laws_runs.proofs.TypedNames.{name-type, placed-type, placed_member-type, member-type}

weaker : (P Q : Value → Type 0) (m : Result Value RunFault) → ((v : Value) → P v → Q v) → IfOk m P → IfOk m Q
weaker P Q (Ok v) h p = h v p
weaker P Q (Err e) h p = tt

module _ (h : Here) (sound : SoundDesign h.config.design) (locals : List Local) (place : PlaceFits locals h) where
  byte_type : (xs : List ℕ) (i : ℕ) → IfOk (byte_in xs i) (IsOf (type.Uint 64))
  byte_type xs i = if-any (IsOf (type.Uint 64)) (index_within i _) _ (λ n. refl)

  chosen_type : (o : BinaryOp) (s u t : ValueType) (x : Value) (r : Result Value RunFault) → BinaryType o s u t → IsOf s x → IfOk r (IsOf u) → (b : Bool) → decides o x ≡ b
      → IfOk (cond b (Ok (bool_value (truth x))) (on_ok r (λ y. binary o s x y))) (IsOf t)
  chosen_type o s u t x r types is right true e = decided-type o s u t x types e
  chosen_type o s u t x r types is right false e = if-is (IsOf u) (IsOf t) r _ right (λ y k. binary-type o s u t x y types is k)

  pub term-type : (e : Term) (t : ValueType) → HasType (context_of locals h) e t → IfOk (val h e) (IsOf t)
  term-type (code.literal v) t is = sym is.0
  term-type code.now t is = sym is
  term-type code.myself t is = sym is
  term-type (code.name n) t is = name-type h sound locals place n t is
  term-type (code.placed n e) t is = if-any (IsOf t) (val h e) _ (λ k. placed-type h sound locals place n (Some (bits k)) is.2.0 t is.2.1 is.2.2)
  term-type (code.member n m) t is = member-type h sound locals place n m t is
  term-type (code.placed_member n e m) t is = if-any (IsOf t) (val h e) _ (λ k. placed_member-type h sound locals place n (Some (bits k)) m t is.2)
  term-type (code.element n e) t is = if-any (IsOf t) (val h e) _ (λ i. subst (λ t. IfOk (byte_in (memory_here h n) (bits i)) (IsOf t)) (sym is.2) (byte_type (memory_here h n) (bits i)))
  term-type (code.payload_byte n b e) t is =
      if-any (IsOf t) (val h e) _ (λ i. if-any (IsOf t) (payload_here h n) _ (λ p. subst (λ t. IfOk (byte_in (payload_bytes b p) (bits i)) (IsOf t)) (sym is.2) (byte_type (payload_bytes b p) (bits i))))
  term-type (code.digit s e i) t is = if-any (IsOf t) (val h e) _ (λ v. if-any (IsOf t) (val h i) _ (λ k. digit-type s t v (bits k) is.2))
  term-type (code.digits s e high low) t is = if-is (IsOf s) (IsOf t) (val h e) _ (term-type e s is.0) (λ v typed. digits-type s t v high low is.1 typed)
  term-type (code.unary o s e) t is = if-is (IsOf s) (IsOf t) (val h e) _ (term-type e s is.0) (λ v typed. unary-type o s t v is.1 typed)
  term-type (code.binary o s l r) t is =
      if-is (IsOf s) (IsOf t) (val h l) _ (term-type l s is.0) (λ x typed. chosen_type o s is.1.0 t x (val h r) is.1.2 typed (term-type r is.1.0 is.1.1) (decides o x) refl)
  term-type (code.convert to from e) t is = if-is (IsOf from) (IsOf t) (val h e) _ (term-type e from is.0) (λ v typed. convert-type to from v is.1 ∙ sym is.2)
  term-type (code.concat u l) t is =
      if-is (IsOf (type.Vector is.0)) (IsOf t) (val h u) _ (term-type u (type.Vector is.0) is.2)
      (λ x one. if-is (IsOf (type.Vector is.1)) (IsOf t) (val h l) _ (term-type l (type.Vector is.1) is.3) (λ y two. concat-type is.0 is.1 x y one two is.4 ∙ sym is.5))

  integer_given : (e : Term) (t : ValueType) → HasType (context_of locals h) e t → IsInteger t → GivesInteger h e
  integer_given e t is integer = weaker (IsOf t) (λ v. IsInteger (type_of_value v)) (val h e) (λ v typed. subst IsInteger (sym typed) integer) (term-type e t is)

  pub operands-fit : (e : Term) (t : ValueType) → HasType (context_of locals h) e t → OperandsFit h e
  operands-fit (code.literal v) t is = tt
  operands-fit code.now t is = tt
  operands-fit code.myself t is = tt
  operands-fit (code.name n) t is = tt
  operands-fit (code.placed n e) t is = let i = is.1 in (operands-fit e i.0 i.1, integer_given e i.0 i.1 i.2)
  operands-fit (code.member n m) t is = tt
  operands-fit (code.placed_member n e m) t is = let i = is.1 in (operands-fit e i.0 i.1, integer_given e i.0 i.1 i.2)
  operands-fit (code.element n e) t is = let i = is.1 in (operands-fit e i.0 i.1, integer_given e i.0 i.1 i.2)
  operands-fit (code.payload_byte n b e) t is = let i = is.1 in (operands-fit e i.0 i.1, integer_given e i.0 i.1 i.2)
  operands-fit (code.digit s e k) t is = let i = is.1 in (operands-fit e s is.0, operands-fit k i.0 i.1, term-type e s is.0, integer_given k i.0 i.1 i.2, (t, is.2))
  operands-fit (code.digits s e high low) t is = (operands-fit e s is.0, term-type e s is.0, (t, is.1))
  operands-fit (code.unary o s e) t is = (operands-fit e s is.0, term-type e s is.0, (t, is.1))
  operands-fit (code.binary o s l r) t is = (operands-fit l s is.0, operands-fit r is.1.0 is.1.1, term-type l s is.0, (is.1.0, term-type r is.1.0 is.1.1, (t, is.1.2)))
  operands-fit (code.convert to from e) t is = (operands-fit e from is.0, term-type e from is.0, is.1)
  operands-fit (code.concat u l) t is =
      (operands-fit u (type.Vector is.0) is.2, operands-fit l (type.Vector is.1) is.3, (is.0, term-type u (type.Vector is.0) is.2), (is.1, term-type l (type.Vector is.1) is.3))
