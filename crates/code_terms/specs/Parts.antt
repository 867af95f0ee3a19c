-- What is known of an expression on the way to its code: what it stands for, and what it is made into. Each form of an
-- expression by its parts.
use Rattle.std.specs.Prelude.{ℕ, ◌*◌, ◌&&◌, List, option_map, option_and_then, Option, Some, None}
use Rattle.std.specs.Global.{Box}
use Rattle.code_rules.specs.LogicValues.declared.kinds.Value.TheVariants as value
use Rattle.code_rules.specs.SimTime.Times.{picoseconds_in}
use Rattle.code_rules.specs.SimTime.declared.moments.Unit.{Unit as TimeUnit}
use Rattle.model_tree.specs.Tree as tree
use Rattle.model_tree.specs.declared.expressions.UnaryOp.{UnaryOp}
use Rattle.model_tree.specs.declared.expressions.BinaryOp.{BinaryOp}
use Rattle.model_tree.specs.declared.expressions.Conversion.{Conversion}
use Rattle.flat_design.specs.Code as code
use Rattle.flat_design.specs.Code.{Term, term_of}
use Rattle.flat_design.specs.declared.terms.Expr.{Expr}
use Rattle.flat_design.specs.declared.value_types.ValueType.TheVariants as type
use Rattle.code_rules.specs.ModelRules.Meanings.{is_width}
use Rattle.code_rules.specs.ModelRules.Scopes.{Scope, meaning_of, use_of}
use Rattle.code_rules.specs.ModelRules.Operators.{option_if, both, evaluated_as, operands, given, unary_type, conversion_type, becomes_vector, concat_type, slice_type}
use Rattle.code_rules.specs.ModelRules.Types.{value_if, object_if, at_number, at_computed, type_seen, is_time_literal, member_seen, element_seen, seen_of}
use Rattle.code_rules.specs.ModelRules.declared.meanings.ExpressionType.{ExpressionType}
use Rattle.code_rules.specs.ModelRules.declared.meanings.ExpressionType.TheVariants as t
use Rattle.code_rules.specs.ModelRules.Members.{row_of, value_member}
use Rattle.code_rules.specs.ModelRules.declared.meanings.Meaning.{Meaning}
use Rattle.code_rules.specs.ModelRules.declared.meanings.ValueMember.{ValueMember}
use Rattle.code_rules.specs.ModelRules.declared.meanings.Seen.{Seen}
use Rattle.code_rules.specs.ModelRules.declared.meanings.Seen.TheVariants as seen
use Rattle.code_rules.specs.Terms as terms
use Rattle.code_rules.specs.Terms.{Typed, typed, term_made, made_of, if_typed, converted_to, convert_term, binary_term, element_at, member_made}
use Rattle.code_terms.specs.declared.parts.Made.{Made}
use Rattle.code_terms.specs.declared.parts.Made.TheVariants as kept
use Rattle.code_terms.specs.declared.parts.Coded.{Coded}
use Rattle.code_terms.specs.declared.parts.TypedTerm.{TypedTerm}

-- how they are kept

abbrev pub boxed_term : Option (Box Expr) → Option Term
boxed_term e = option_map (λ (b : Box Expr). term_of b.value) e

abbrev pub made_seen : Made → terms.Made
made_seen kept.Nothing = terms.nothing
made_seen (kept.Object n p m) = terms.object n (boxed_term p) m
made_seen (kept.Bytes n b) = terms.bytes n b
made_seen (kept.Value e) = terms.value_made (term_of e)

abbrev pub typed_seen : TypedTerm → Typed
typed_seen x = record { type_ = x.expression_type; term = term_of x.term }

-- an expression's part in what holds it
pub record Part : Type 0 where
  pub seen : Seen
  pub made : terms.Made

abbrev pub part_of : Coded → Part
part_of c = record { seen = c.seen; made = made_seen c.made }

abbrev pub part_at : Scope → tree.Expression → Part
part_at s e = record { seen = seen_of s e; made = made_of s e }

-- the forms

abbrev pub part_type : Part → Option ExpressionType
part_type p = type_seen p.seen

abbrev pub typed_part : Part → Option Typed
typed_part p = typed (type_seen p.seen) (term_made p.made)

abbrev pub value_part : ExpressionType → Term → Part
value_part e x = record { seen = seen.Value e; made = terms.value_made x }

abbrev pub time_part : ℕ → TimeUnit → Part
time_part n unit =
    record {
      seen = value_if (option_if (is_time_literal n unit) t.Time);
      made = terms.value_if (option_if (is_time_literal n unit) (code.literal (value.Moment (n * picoseconds_in unit))));
    }

-- a value where its type is known, of its code where there is some
abbrev pub given_part : Option ExpressionType → Option Term → Part
given_part e x = record { seen = value_if e; made = if_typed (type_seen (value_if e)) x }

abbrev pub paren_part : Part → Part
paren_part p = record { seen = value_if (type_seen p.seen); made = terms.value_if (term_made p.made) }

abbrev pub convert_part : Conversion → Part → Part
convert_part c p = given_part (option_and_then (conversion_type c) (part_type p)) (option_map (convert_term (converted_to c)) (typed_part p))

abbrev pub vector_given : ℕ → Option ExpressionType → Option ExpressionType
vector_given width e = option_and_then (λ x. option_if (is_width width && becomes_vector width x) (t.Vector width)) e

abbrev pub to_vector_part : ℕ → Part → Part
to_vector_part width p = given_part (vector_given width (part_type p)) (option_map (convert_term (type.Vector width)) (typed_part p))

abbrev pub concat_term : Option Term → Option Term → Option Term
concat_term u l = both (λ x y. Some (code.concat x y)) u l

abbrev pub concat_part : Part → Part → Part
concat_part u l = given_part (both concat_type (part_type u) (part_type l)) (concat_term (term_made u.made) (term_made l.made))

abbrev pub named_part : Scope → List ℕ → Part
named_part s name = record { seen = object_if (meaning_of s name); made = terms.object_if None (use_of s name) (meaning_of s name) }

abbrev pub placed_part : Scope → List ℕ → ℕ → Part
placed_part s name n =
    record {
      seen = object_if (option_and_then (at_number n) (meaning_of s name));
      made = terms.object_if (Some (terms.number n)) (use_of s name) (option_and_then (at_number n) (meaning_of s name));
    }

abbrev pub placed_by_part : Scope → List ℕ → Part → Part
placed_by_part s name p =
    record {
      seen = object_if (option_and_then (at_computed (part_type p)) (meaning_of s name));
      made = terms.placed_made (term_made p.made) (use_of s name) (option_and_then (at_computed (part_type p)) (meaning_of s name));
    }

abbrev pub member_of : Meaning → List ℕ → Option ValueMember
member_of m name = option_and_then (λ row. value_member row name) (row_of m)

abbrev pub member_part : List ℕ → Part → Part
member_part name p = record { seen = member_seen p.seen name; made = member_made name p.made }

abbrev pub element_part : Part → Part → Part
element_part p i =
    record {
      seen = element_seen p.seen (part_type i);
      made = if_typed (type_seen (element_seen p.seen (part_type i))) (option_and_then (element_at p.made (part_type p)) (term_made i.made));
    }

abbrev pub slice_term : ℕ → ℕ → Typed → Term
slice_term high low x = code.digits (evaluated_as x.type_) x.term high low

abbrev pub slice_part : ℕ → ℕ → Part → Part
slice_part high low p =
    given_part (option_and_then (slice_type high low) (part_type p)) (option_map (slice_term high low) (typed_part p))

abbrev pub unary_term : UnaryOp → Typed → Term
unary_term o x = code.unary o (evaluated_as x.type_) x.term

abbrev pub unary_part : UnaryOp → Part → Part
unary_part o p =
    given_part (option_and_then (unary_type o) (part_type p)) (option_map (unary_term o) (typed_part p))

abbrev pub binary_part : BinaryOp → Part → Part → Part
binary_part o l r =
    record {
      seen = value_if (option_map (given o) (both (operands o) (part_type l) (part_type r)));
      made = terms.value_if (both (binary_term o) (typed_part l) (typed_part r));
    }
