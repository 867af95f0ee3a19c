-- The code of an expression has the expression's type.
use Rattle.std.proofs.Common.{◌≡◌, ◌≤◌, ◌<◌, inl, ℕ, suc, Bool, true, false, ◌&&◌, List, [], ◌∷◌, length, Option, Some, None, refl, sym, ◌∙◌, ap, subst, true≢false, arith, nat_lt}
use Rattle.std.proofs.lemmas.Bool.Decides.{nat_tests}
use Rattle.std.proofs.lemmas.List.{length-take}
use Rattle.std.specs.Prelude.{⊤, nat_le, option_map, option_and_then, if◌then◌else◌}
use Rattle.code_rules.specs.LogicValues.declared.kinds.Digit.{Digit}
use Rattle.code_rules.specs.LogicValues.declared.kinds.Value.TheVariants as value
use Rattle.code_rules.specs.LogicValues.Planes.{clipped}
use Rattle.code_rules.specs.ModelTree.Tree as tree
use Rattle.code_rules.specs.ModelTree.Limits.{is_number, is_formed, primary_level, chain_level, operand_level, level}
use Rattle.code_rules.specs.ModelTree.Leaves.{is_name}
use Rattle.code_rules.specs.ModelTree.declared.expressions.BinaryOp.{BinaryOp}
use Rattle.code_rules.specs.FlatDesign.Code as code
use Rattle.code_rules.specs.FlatDesign.Code.{Term}
use Rattle.code_rules.specs.FlatDesign.Denotes.{Context}
use Rattle.code_rules.specs.FlatDesign.Typed.{IsInteger, IsPayload, HasType, GivesInteger}
use Rattle.code_rules.specs.FlatDesign.declared.value_types.ValueType.TheVariants as type
use Rattle.code_rules.specs.FlatDesign.declared.names.NameUse.{NameUse}
use Rattle.code_rules.specs.FlatDesign.declared.names.NameUse.TheVariants as name_use
use Rattle.code_rules.specs.ModelRules.Meanings.{is_width}
use Rattle.code_rules.specs.ModelRules.Members.{row_of, value_member, value_members}
use Rattle.code_rules.specs.ModelRules.Scopes.{Scope, meaning_of, use_of}
use Rattle.code_rules.specs.ModelRules.Operators.{option_if, both, evaluated_as, operands, given, unary_type, conversion_type, becomes_vector, concat_type, digit_type, slice_type}
use Rattle.code_rules.specs.ModelRules.Types.{value_of, type_seen, value_if as seen_if, object_if as seen_object, is_port, at_number, is_integer_type, at_computed, is_time_literal, logic_type, seen_member, member_seen, element_type, seen_of, type_of}
use Rattle.code_rules.specs.ModelRules.declared.meanings.ExpressionType.{ExpressionType}
use Rattle.code_rules.specs.ModelRules.declared.meanings.ExpressionType.TheVariants as t
use Rattle.code_rules.specs.ModelRules.declared.meanings.Meaning.{Meaning}
use Rattle.code_rules.specs.ModelRules.declared.meanings.Meaning.TheVariants as meaning
use Rattle.code_rules.specs.ModelRules.declared.meanings.ValueMember.{ValueMember}
use Rattle.code_rules.specs.ModelRules.declared.meanings.ValueMember.TheVariants as reached
use Rattle.code_rules.specs.ModelRules.declared.meanings.Seen.{Seen}
use Rattle.code_rules.specs.ModelRules.declared.meanings.Seen.TheVariants as seen
use Rattle.code_rules.specs.Terms.{logic_value, constant_bits, Typed, typed, Made, object, bytes, value_made, value_if, object_if, placed_made, placed_term, name_term, term_made, member_if, member_made, memory_element, digit_term, object_element, element_at, converted_to, convert_term, joined, if_typed, binary_term, number, made_of, term_of}
use Rattle.laws_code.proofs.Coded.{same_some, if_some, number_placed}
use Rattle.laws_code.specs.Standing.{NamesStand}
use Rattle.laws_code.proofs.Has.{Has}
use Rattle.laws_code.proofs.Operands.{both_true, integer_type, taken_has, operands_fit, unary_fit, conversion_fit, vector_fit, Joins, concat_fit, digit_fit, slice_fit}
use Rattle.laws_code.proofs.Places.{UseStands, mapped_is, use_stands}
use Rattle.laws_code.proofs.ReadTypes.{ObjectStands, MemberFits, entry_has, use_reads, placed_reads, members_fit}

-- a term that has a type
abbrev pub TermHas : Context → Option Term → ExpressionType → Type 0
TermHas c o e = Has (λ x. HasType c x (evaluated_as e)) o

abbrev pub Follows : Context → Option ExpressionType → Option Term → Type 0
Follows c o x = (e : ExpressionType) → o ≡ Some e → TermHas c x e

-- what an expression is made into is typed as what it stands for
abbrev pub TypedAs : Context → Seen → Made → Type 0
TypedAs c seen.Nothing d = ⊤
TypedAs c (seen.Object m) d = (n : NameUse) × (place : Option Term) × (d ≡ object n place m) × ObjectStands c n place m
TypedAs c (seen.Bytes b) d = (n : NameUse) × (d ≡ bytes n b) × IsPayload c n
TypedAs c (seen.Value e) d = (x : Term) × (d ≡ value_made x) × HasType c x (evaluated_as e)

bound_is : {A B : Type 0} (f : A → Option B) (o : Option A) (y : B) → option_and_then f o ≡ Some y → (x : A) × (o ≡ Some x) × (f x ≡ Some y)
bound_is f None y h = cc
bound_is f (Some x) y h = (x, refl, h)

both_is : {A B C : Type 0} (f : A → B → Option C) (a : Option A) (b : Option B) (z : C) → both f a b ≡ Some z → (x : A) × (y : B) × (a ≡ Some x) × (b ≡ Some y) × (f x y ≡ Some z)
both_is f None b z h = cc
both_is f (Some x) None z h = cc
both_is f (Some x) (Some y) z h = (x, y, refl, refl, h)

integer_is : (o : Option ExpressionType) → is_integer_type o ≡ true → (e : ExpressionType) × (o ≡ Some e) × IsInteger (evaluated_as e)
integer_is None h = cc
integer_is (Some e) h = (e, refl, integer_type e h)

-- a literal of digits
some_digits : (ds : List Digit) → nat_lt 0 (length ds) ≡ true → nat_le (length ds) 64 ≡ true → length (clipped ds) ≡ length ds
some_digits [] h k = absurd (let x : 0 < 0 = grind (arith, nat_tests) in omega arith)
some_digits (d ∷ ds) h k = let most : length (d ∷ ds) ≤ 64 = grind (arith, nat_tests) in omega (arith, length-take 63 ds)

module _ (c : Context) where
  logic_has : (ds : List Digit) → nat_lt 0 (length ds) ≡ true → nat_le (length ds) 64 ≡ true → HasType c (code.literal (logic_value ds)) (evaluated_as (logic_type ds))
  logic_has [] h k = cc
  logic_has (d ∷ []) h k = (refl, refl)
  logic_has (d ∷ e ∷ ds) h k = (ap type.Vector (sym (some_digits (d ∷ e ∷ ds) h k)), refl)

  -- what matches a value has a term
  placed_has : (n : NameUse) (place : Option Term) (m : Meaning) (e : ExpressionType) → ObjectStands c n place m → value_of m ≡ Some e → TermHas c (placed_term n place) e
  placed_has n None m e h k = (code.name n, refl, use_reads c n m e h k)
  placed_has (name_use.Local i) (Some place) m e h k = absurd h
  placed_has (name_use.Declared n) (Some place) m e h k = (code.placed n place, refl, placed_reads c n place m e h.0 h.1 h.2 k)

  name_has : (n : NameUse) (place : Option Term) (m : Meaning) (e : ExpressionType) → ObjectStands c n place m → value_of m ≡ Some e → TermHas c (name_term n place (value_of m)) e
  name_has n place m e h k = subst (λ o. TermHas c (name_term n place o) e) (sym k) (placed_has n place m e h k)

  pub has_term : (k : Seen) (d : Made) → TypedAs c k d → Follows c (type_seen k) (term_made d)
  has_term seen.Nothing d h e k = cc
  has_term (seen.Object m) d h e k = subst (λ x. TermHas c (term_made x) e) (sym h.2) (name_has h.0 h.1 m e h.3 k)
  has_term (seen.Bytes b) d h e k = cc
  has_term (seen.Value v) d h e k = (h.0, ap term_made h.1, subst (λ y. HasType c h.0 (evaluated_as y)) (same_some v e k) h.2)

  -- objects
  plain_typed : (u : Option NameUse) (o : Option Meaning) → ((m : Meaning) → o ≡ Some m → Has (λ n. UseStands c n m) u) → TypedAs c (seen_object o) (object_if None u o)
  plain_typed u None f = tt
  plain_typed u (Some m) f = let x = f m refl in (x.0, None, ap (λ v. object_if None v (Some m)) x.1, x.2)

  with_port : (n : NameUse) (place : Term) (m : Meaning) → UseStands c n m → is_port m ≡ true → GivesInteger c place → ObjectStands c n (Some place) m
  with_port (name_use.Local i) place m h k i' = absurd (true≢false (sym k ∙ ap is_port h.1))
  with_port (name_use.Declared n) place m h k i' = (h, k, i')

  placed_at : (u : Option NameUse) (place : Term) (m : Meaning) (o : Option Meaning) → GivesInteger c place → Has (λ n. UseStands c n m) u → ((k : Meaning) → o ≡ Some k → (m ≡ k) × (is_port m ≡ true))
      → TypedAs c (seen_object o) (object_if (Some place) u o)
  placed_at u place m None i x f = tt
  placed_at u place m (Some k) i x f =
      let g = f k refl in
      (x.0, Some place, ap (λ v. object_if (Some place) v (Some k)) x.1, subst (ObjectStands c x.0 (Some place)) g.0 (with_port x.0 place m x.2 g.1 i))

  placed_typed : (u : Option NameUse) (place : Term) (f : Meaning → Option Meaning) (o : Option Meaning) → GivesInteger c place → ((m : Meaning) → o ≡ Some m → Has (λ n. UseStands c n m) u)
      → ((m k : Meaning) → f m ≡ Some k → (m ≡ k) × (is_port m ≡ true)) → TypedAs c (seen_object (option_and_then f o)) (object_if (Some place) u (option_and_then f o))
  placed_typed u place f None i h g = tt
  placed_typed u place f (Some m) i h g = placed_at u place m (f m) i (h m refl) (g m)

  -- values
  value_typed : (o : Option ExpressionType) (x : Option Term) → Follows c o x → TypedAs c (seen_if o) (value_if x)
  value_typed None x f = tt
  value_typed (Some e) x f = let h = f e refl in (h.0, ap value_if h.1, h.2)

  if_has_type : (o : Option ExpressionType) (x : Option Term) → Follows c o x → TypedAs c (seen_if o) (if_typed (type_seen (seen_if o)) x)
  if_has_type None x f = tt
  if_has_type (Some e) x f = let h = f e refl in (h.0, ap value_if h.1, h.2)

  -- one part
  part_has : (g : Typed → Term) (f : ExpressionType → Option ExpressionType) (o : Option ExpressionType) (x : Option Term) → Follows c o x
      → ((a b : ExpressionType) (y : Term) → f a ≡ Some b → HasType c y (evaluated_as a) → HasType c (g (record { type_ = a; term = y })) (evaluated_as b))
      → Follows c (option_and_then f o) (option_map g (typed o x))
  part_has g f None x h k e is = cc
  part_has g f (Some a) x h k e is = let y = h a refl in (g (record { type_ = a; term = y.0 }), ap (λ v. option_map g (typed (Some a) v)) y.1, k a e y.0 is y.2)

  -- operands
  given_is : (o : BinaryOp) (a b : ExpressionType) (x y : Term) (taken e : ExpressionType) → operands o a b ≡ Some taken → given o taken ≡ e → HasType c x (evaluated_as a) → HasType c y (evaluated_as b)
      → HasType c (joined o (record { type_ = a; term = x }) (record { type_ = b; term = y }) taken) (evaluated_as e)
  given_is o a b x y taken e h k left right =
      let f = operands_fit c o a b taken h in
      subst (λ z. HasType c (joined o (record { type_ = a; term = x }) (record { type_ = b; term = y }) taken) (evaluated_as z)) k
      (taken_has c a taken x left f.0, (f.1.kind, f.1.has y right, f.1.typed))

  binary_has : (o : BinaryOp) (a b : Option ExpressionType) (x y : Option Term) → Follows c a x → Follows c b y → Follows c (option_map (given o) (both (operands o) a b)) (both (binary_term o) (typed a x) (typed b y))
  binary_has o None b x y h k e is = cc
  binary_has o (Some a) None x y h k e is = cc
  binary_has o (Some a) (Some b) x y h k e is =
      let l = h a refl in
      let r = k b refl in
      let m = mapped_is (given o) (operands o a b) e is in (
        joined o (record { type_ = a; term = l.0 }) (record { type_ = b; term = r.0 }) m.0,
        (λ i. both (binary_term o) (typed (Some a) (l.1 i)) (typed (Some b) (r.1 i))) ∙ ap (option_map (joined o (record { type_ = a; term = l.0 }) (record { type_ = b; term = r.0 }))) m.1,
        given_is o a b l.0 r.0 m.0 e m.1 m.2 l.2 r.2,
      )

  joined_has : (u l f : ExpressionType) (x y : Term) → Joins u l f → HasType c x (evaluated_as u) → HasType c y (evaluated_as l) → HasType c (code.concat x y) (evaluated_as f)
  joined_has u l f x y j h k = (j.upper, j.lower, subst (HasType c x) j.upper_is h, subst (HasType c y) j.lower_is k, j.room, j.whole)

  concat_has : (a b : Option ExpressionType) (x y : Option Term) → Follows c a x → Follows c b y → Follows c (both concat_type a b) (both (λ u l. Some (code.concat u l)) x y)
  concat_has None b x y h k e is = cc
  concat_has (Some a) None x y h k e is = cc
  concat_has (Some a) (Some b) x y h k e is =
      let l = h a refl in
      let r = k b refl in
      (code.concat l.0 r.0, (λ i. both (λ u l. Some (code.concat u l)) (l.1 i) (r.1 i)), joined_has a b e l.0 r.0 (concat_fit a b e is) l.2 r.2)

  -- members
  member_typed : (n : NameUse) (place : Option Term) (o : Option ValueMember) → ((v : ValueMember) → o ≡ Some v → MemberFits c n place v) → TypedAs c (seen_member o) (member_if n place o)
  member_typed n place None f = tt
  member_typed n None (Some (reached.One x)) f = (code.member n x, refl, f (reached.One x) refl)
  member_typed n None (Some (reached.Many b)) f = (n, refl, f (reached.Many b) refl)
  member_typed (name_use.Local i) (Some place) (Some v) f = absurd (f v refl)
  member_typed (name_use.Declared n) (Some place) (Some (reached.One x)) f = (code.placed_member n place x, refl, f (reached.One x) refl)
  member_typed (name_use.Declared n) (Some place) (Some (reached.Many b)) f = absurd (f (reached.Many b) refl)

  object_member : (name : List ℕ) (n : NameUse) (place : Option Term) (m : Meaning) → ObjectStands c n place m
      → TypedAs c (seen_member (option_and_then (λ r. value_member r name) (row_of m))) (member_if n place (option_and_then (λ r. value_member r name) (row_of m)))
  object_member name n place m h =
      member_typed n place (option_and_then (λ r. value_member r name) (row_of m))
      (λ v e. let r = bound_is (λ x. value_member x name) (row_of m) v e in entry_has (MemberFits c n place) name (value_members r.0) v (members_fit c n place m r.0 h r.1) r.2)

  member_of : (name : List ℕ) (k : Seen) (d : Made) → TypedAs c k d → TypedAs c (member_seen k name) (member_made name d)
  member_of name seen.Nothing d h = tt
  member_of name (seen.Object m) d h = subst (λ x. TypedAs c (member_seen (seen.Object m) name) (member_made name x)) (sym h.2) (object_member name h.0 h.1 m h.3)
  member_of name (seen.Bytes b) d h = tt
  member_of name (seen.Value e) d h = tt

  -- elements
  digit_has : (o : Option ExpressionType) (x : Option Term) (index : Term) (e : ExpressionType) → Follows c o x → GivesInteger c index → option_and_then digit_type o ≡ Some e → TermHas c (digit_term o x index) e
  digit_has None x index e f i h = cc
  digit_has (Some a) x index e f i h = let y = f a refl in (code.digit (evaluated_as a) y.0 index, ap (λ v. digit_term (Some a) v index) y.1, (y.2, i, digit_fit a e h))

  memory_has : (n : NameUse) (place : Option Term) (index : Term) (e : ExpressionType) → ObjectStands c n place meaning.Memory → GivesInteger c index → Some t.Unsigned ≡ Some e → TermHas c (memory_element n index) e
  memory_has (name_use.Local i) None index e h g k = cc h.1
  memory_has (name_use.Local i) (Some place) index e h g k = absurd h
  memory_has (name_use.Declared n) None index e h g k = (code.element n index, refl, (h, g, sym (ap evaluated_as (same_some t.Unsigned e k))))
  memory_has (name_use.Declared n) (Some place) index e h g k = absurd (true≢false (sym h.1))

  object_has : (n : NameUse) (place : Option Term) (m : Meaning) (index : Term) (e : ExpressionType) → ObjectStands c n place m → GivesInteger c index → element_type (seen.Object m) ≡ Some e
      → TermHas c (object_element n m (value_of m) (name_term n place (value_of m)) index) e
  object_has n place meaning.Memory index e h i k = memory_has n place index e h i k
  object_has n place other index e h i k = digit_has (value_of other) (name_term n place (value_of other)) index e (λ a is. name_has n place other a h is) i k

  element_has : (k : Seen) (d : Made) (index : Term) → TypedAs c k d → GivesInteger c index → Follows c (element_type k) (element_at d (type_seen k) index)
  element_has seen.Nothing d index h i e is = cc
  element_has (seen.Object m) d index h i e is = subst (λ x. TermHas c (element_at x (value_of m) index) e) (sym h.2) (object_has h.0 h.1 m index e h.3 i is)
  element_has (seen.Bytes b) d index h i e is =
      (code.payload_byte h.0 b index, ap (λ x. element_at x None index) h.1, (h.2, i, sym (ap evaluated_as (same_some t.Unsigned e is))))
  element_has (seen.Value a) d index h i e is =
      subst (λ x. TermHas c (element_at x (Some a) index) e) (sym h.1)
      (digit_has (Some a) (Some h.0) index e (λ b eq. (h.0, refl, subst (λ y. HasType c h.0 (evaluated_as y)) (same_some a b eq) h.2)) i is)

  indexed : (k : Seen) (d : Made) (x : Option Term) → TypedAs c k d → Has (GivesInteger c) x → Follows c (element_type k) (option_and_then (element_at d (type_seen k)) x)
  indexed k d x h i e is =
      let y = element_has k d i.0 h i.2 e is in (y.0, ap (option_and_then (element_at d (type_seen k))) i.1 ∙ y.1, y.2)

  element_by : (b : Bool) (k : Seen) (d : Made) (x : Option Term) → (b ≡ true → Has (GivesInteger c) x) → TypedAs c k d
      → TypedAs c (if b then seen_if (element_type k) else seen.Nothing) (if_typed (type_seen (if b then seen_if (element_type k) else seen.Nothing)) (option_and_then (element_at d (type_seen k)) x))
  element_by false k d x f h = tt
  element_by true k d x f h = if_has_type (element_type k) (option_and_then (element_at d (type_seen k)) x) (indexed k d x h (f refl))

  -- an integer
  pub gives_integer : (o : Option ExpressionType) (x : Option Term) → Follows c o x → is_integer_type o ≡ true → Has (GivesInteger c) x
  gives_integer o x f h = let e = integer_is o h in let y = f e.0 e.1 in (y.0, y.1, (evaluated_as e.0, y.2, e.2))

  pub number_has : (n : ℕ) → GivesInteger c (number n)
  number_has n = (type.Int 64, (refl, refl), inl refl)

  computed_at : (e : Option ExpressionType) (x : Option Term) (u : Option NameUse) (m : Meaning) (r : Option Meaning) → at_computed e m ≡ r → Follows c e x → Has (λ n. UseStands c n m) u
      → TypedAs c (seen_object r) (placed_made x u r)
  computed_at e x u m None is f w = tt
  computed_at e x u m (Some k) is f w =
      let p = if_some (is_port m && is_integer_type e) m k is in
      let two = both_true (is_port m) (is_integer_type e) p.0 in
      let g = gives_integer e x f two.1 in
      (w.0, Some g.0, ap (λ v. placed_made v u (Some k)) g.1 ∙ ap (λ v. object_if (Some g.0) v (Some k)) w.1, subst (ObjectStands c w.0 (Some g.0)) p.1 (with_port w.0 g.0 m w.2 two.0 g.2))

  computed_typed : (e : Option ExpressionType) (x : Option Term) (u : Option NameUse) (o : Option Meaning) → Follows c e x → ((m : Meaning) → o ≡ Some m → Has (λ n. UseStands c n m) u)
      → TypedAs c (seen_object (option_and_then (at_computed e) o)) (placed_made x u (option_and_then (at_computed e) o))
  computed_typed e x u None f h = tt
  computed_typed e x u (Some m) f h = computed_at e x u m (at_computed e m) refl f (h m refl)

  time_has : (b : Bool) (n : ℕ) → Follows c (option_if b t.Time) (option_if b (code.literal (value.Moment n)))
  time_has true n e is = (code.literal (value.Moment n), refl, subst (λ y. HasType c (code.literal (value.Moment n)) (evaluated_as y)) (same_some t.Time e is) (refl, refl))
  time_has false n e is = cc

  module _ (s : Scope) (names : NamesStand s c) where
    pub typed_made : (e : tree.Expression) (at : ℕ) → is_formed e at ≡ true → TypedAs c (seen_of s e) (made_of s e)
    typed_made (tree.number line n) at h = (number n, refl, (refl, refl))
    typed_made (tree.time line n unit) at h = value_typed (option_if (is_time_literal n unit) t.Time) _ (time_has (is_time_literal n unit) _)
    typed_made (tree.logic line digits) at h =
        let two = both_true (nat_lt 0 (length digits)) (nat_le (length digits) 64) (both_true (nat_le at primary_level) (nat_lt 0 (length digits) && nat_le (length digits) 64) h).1 in
        (code.literal (logic_value digits), refl, logic_has digits two.0 two.1)
    typed_made (tree.truth line b) at h = (code.literal (value.Bool b), refl, (refl, refl))
    typed_made (tree.now line) at h = (code.now, refl, refl)
    typed_made (tree.myself line) at h = (code.myself, refl, refl)
    typed_made (tree.constant line word) at h = (number (constant_bits word), refl, (refl, refl))
    typed_made (tree.paren line e) at h =
        value_typed (type_of s e) (term_of s e) (has_term (seen_of s e) (made_of s e) (typed_made e 0 (both_true (nat_le at primary_level) (is_formed e 0) h).1))
    typed_made (tree.convert line n e) at h =
        if_has_type (option_and_then (conversion_type n) (type_of s e)) (option_map (convert_term (converted_to n)) (typed (type_of s e) (term_of s e)))
        (part_has (convert_term (converted_to n)) (conversion_type n) (type_of s e) (term_of s e)
        (has_term (seen_of s e) (made_of s e) (typed_made e 0 (both_true (nat_le at primary_level) (is_formed e 0) h).1))
        (λ a b y is has. let k = conversion_fit n a b is in (has, k.0, k.1)))
    typed_made (tree.to_vector line width e) at h =
        if_has_type (option_and_then (λ x. option_if (is_width width && becomes_vector width x) (t.Vector width)) (type_of s e)) (option_map (convert_term (type.Vector width)) (typed (type_of s e) (term_of s e)))
        (part_has (convert_term (type.Vector width)) (λ x. option_if (is_width width && becomes_vector width x) (t.Vector width)) (type_of s e) (term_of s e)
        (has_term (seen_of s e) (made_of s e) (typed_made e 0 (both_true (is_number width) (is_formed e 0) (both_true (nat_le at primary_level) (is_number width && is_formed e 0) h).1).1))
        (λ a b y is has. let k = vector_fit width a b is in (has, k.0, k.1)))
    typed_made (tree.concat line upper lower) at h =
        let two = both_true (is_formed upper 0) (is_formed lower 0) (both_true (nat_le at primary_level) (is_formed upper 0 && is_formed lower 0) h).1 in
        if_has_type (both concat_type (type_of s upper) (type_of s lower)) (both (λ u l. Some (code.concat u l)) (term_of s upper) (term_of s lower))
        (concat_has (type_of s upper) (type_of s lower) (term_of s upper) (term_of s lower)
        (has_term (seen_of s upper) (made_of s upper) (typed_made upper 0 two.0)) (has_term (seen_of s lower) (made_of s lower) (typed_made lower 0 two.1)))
    typed_made (tree.named line name) at h = plain_typed (use_of s name) (meaning_of s name) (use_stands s c names name)
    typed_made (tree.placed line name n) at h = placed_typed (use_of s name) (number n) (at_number n) (meaning_of s name) (number_has n) (use_stands s c names name) (number_placed n)
    typed_made (tree.placed_by line name e) at h =
        computed_typed (type_of s e) (term_of s e) (use_of s name) (meaning_of s name)
        (has_term (seen_of s e) (made_of s e) (typed_made e 0 (both_true (is_name name) (is_formed e 0) h).1)) (use_stands s c names name)
    typed_made (tree.member e name) at h = member_of name (seen_of s e) (made_of s e) (typed_made e chain_level (both_true (is_formed e chain_level) (is_name name) h).0)
    typed_made (tree.element e index) at h =
        let two = both_true (is_formed e chain_level) (is_formed index 0) h in
        element_by (is_integer_type (type_of s index)) (seen_of s e) (made_of s e) (term_of s index)
        (gives_integer (type_of s index) (term_of s index) (has_term (seen_of s index) (made_of s index) (typed_made index 0 two.1))) (typed_made e chain_level two.0)
    typed_made (tree.slice e high low) at h =
        if_has_type (option_and_then (slice_type high low) (type_of s e)) (option_map (λ (x : Typed). code.digits (evaluated_as x.type_) x.term high low) (typed (type_of s e) (term_of s e)))
        (part_has (λ (x : Typed). code.digits (evaluated_as x.type_) x.term high low) (slice_type high low) (type_of s e) (term_of s e)
        (has_term (seen_of s e) (made_of s e) (typed_made e chain_level (both_true (is_formed e chain_level) (is_number high && is_number low) h).0))
        (λ a b y is has. (has, slice_fit high low a b is)))
    typed_made (tree.unary line o e) at h =
        if_has_type (option_and_then (unary_type o) (type_of s e)) (option_map (λ (x : Typed). code.unary o (evaluated_as x.type_) x.term) (typed (type_of s e) (term_of s e)))
        (part_has (λ (x : Typed). code.unary o (evaluated_as x.type_) x.term) (unary_type o) (type_of s e) (term_of s e)
        (has_term (seen_of s e) (made_of s e) (typed_made e primary_level (both_true (nat_le at operand_level) (is_formed e primary_level) h).1))
        (λ a b y is has. (has, unary_fit o a b is)))
    typed_made (tree.binary o left right) at h =
        let two = both_true (is_formed left (level o)) (is_formed right (suc (level o))) (both_true (nat_le at (level o)) (is_formed left (level o) && is_formed right (suc (level o))) h).1 in
        value_typed (option_map (given o) (both (operands o) (type_of s left) (type_of s right))) (both (binary_term o) (typed (type_of s left) (term_of s left)) (typed (type_of s right) (term_of s right)))
        (binary_has o (type_of s left) (type_of s right) (term_of s left) (term_of s right)
        (has_term (seen_of s left) (made_of s left) (typed_made left (level o) two.0)) (has_term (seen_of s right) (made_of s right) (typed_made right (suc (level o)) two.1)))

    -- the term of an expression has its type
    pub term_typed : (e : tree.Expression) (at : ℕ) → is_formed e at ≡ true → Follows c (type_of s e) (term_of s e)
    term_typed e at h = has_term (seen_of s e) (made_of s e) (typed_made e at h)
