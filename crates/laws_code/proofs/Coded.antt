-- An expression that has a type has code.
use Rattle.std.proofs.Common.{◌≡◌, ℕ, Bool, true, false, cond, not, ◌&&◌, ◌+◌, List, [], ◌∷◌, Option, Some, None, refl, sym, ap, subst, true≢false, length, arith}
use Rattle.std.proofs.lemmas.Bool.Decides.{nat_tests}
use Rattle.std.specs.Prelude.{⊤, is_some, option_map, option_and_then, unwrap_or, nat_lt, find, position, bytes_eq, codes, if◌then◌else◌}
use Rattle.std.specs.List.{position_or_len}
use Rattle.std.specs.Option.{option_or}
use Rattle.code_rules.specs.ModelTree.Tree as tree
use Rattle.code_rules.specs.ModelTree.declared.expressions.BinaryOp.{BinaryOp}
use Rattle.code_rules.specs.FlatDesign.Code.{Term}
use Rattle.code_rules.specs.FlatDesign.declared.value_types.ValueType.TheVariants as type
use Rattle.code_rules.specs.FlatDesign.declared.names.NameUse.{NameUse}
use Rattle.code_rules.specs.FlatDesign.declared.names.NameUse.TheVariants as name_use
use Rattle.code_rules.specs.ModelRules.Meanings.{Declared, declarations, is_width}
use Rattle.code_rules.specs.ModelRules.Members.{row_of, value_member}
use Rattle.code_rules.specs.ModelRules.Scopes.{Scope, Local, is_declared, local_named, meaning_of, use_of}
use Rattle.code_rules.specs.ModelRules.Operators.{option_if, both, operands, given, unary_type, conversion_type, becomes_vector, concat_type, digit_type, slice_type}
use Rattle.code_rules.specs.ModelRules.Types.{value_of, type_seen, value_if as seen_if, object_if as seen_object, places, is_port, is_below, at_number, is_integer_type, at_computed, is_time_literal, seen_member, member_seen, element_type, seen_of, type_of}
use Rattle.code_rules.specs.ModelRules.declared.meanings.ExpressionType.{ExpressionType}
use Rattle.code_rules.specs.ModelRules.declared.meanings.ExpressionType.TheVariants as t
use Rattle.code_rules.specs.ModelRules.declared.meanings.Meaning.{Meaning}
use Rattle.code_rules.specs.ModelRules.declared.meanings.Meaning.TheVariants as meaning
use Rattle.code_rules.specs.ModelRules.declared.meanings.ValueMember.{ValueMember}
use Rattle.code_rules.specs.ModelRules.declared.meanings.ValueMember.TheVariants as reached
use Rattle.code_rules.specs.ModelRules.declared.meanings.Seen.{Seen}
use Rattle.code_rules.specs.ModelRules.declared.meanings.Seen.TheVariants as seen
use Rattle.code_rules.specs.ModelRules.Names.{is_variable}
use Rattle.code_rules.specs.Terms.{Typed, typed, Made, object, bytes, value_made, value_if, object_if, placed_made, placed_term, name_term, term_made, member_if, member_made, memory_element, digit_term, object_element, element_at, converted_to, convert_term, if_typed, binary_term, joined, number, constant_bits, made_of, term_of}

pub some_none : {R : Type 0} → false ≡ true → R
some_none h = absurd (true≢false (sym h))

mapped_some : {A B : Type 0} (f : A → B) (o : Option A) → is_some o ≡ true → is_some (option_map f o) ≡ true
mapped_some f None h = h
mapped_some f (Some x) h = refl

mapped_back : {A B : Type 0} (f : A → B) (o : Option A) → is_some (option_map f o) ≡ true → is_some o ≡ true
mapped_back f None h = h
mapped_back f (Some x) h = refl

pub bound_back : {A B : Type 0} (f : A → Option B) (o : Option A) → is_some (option_and_then f o) ≡ true → is_some o ≡ true
bound_back f None h = h
bound_back f (Some x) h = refl

-- names

below_at : {A : Type 0} (p : A → Bool) (x : A) (xs : List A) (b : Bool) → (is_some (find p xs) ≡ true → nat_lt (position_or_len p xs) (length xs) ≡ true) → is_some (cond b (Some x) (find p xs)) ≡ true
    → nat_lt (cond (not b) (1 + position_or_len p xs) 0) (length (x ∷ xs)) ≡ true
below_at p x xs true rest h = grind (arith, nat_tests)
below_at p x xs false rest h = let r = rest h in grind (arith, nat_tests, r)

pub below : {A : Type 0} (p : A → Bool) (xs : List A) → is_some (find p xs) ≡ true → nat_lt (position_or_len p xs) (length xs) ≡ true
below p [] h = some_none h
below p (x ∷ xs) h = below_at p x xs (p x) (below p xs) h

pub positioned : (b : Bool) (k : ℕ) → b ≡ true → cond b (Some k) None ≡ Some k
positioned true k h = refl
positioned false k h = cc

pub same_some : {A : Type 0} (x y : A) → Some x ≡ Some y → x ≡ y
same_some x y h = ap (λ o. unwrap_or o x) h

-- what a name is in the code: a local variable is a variable, and a place stands on a port of the module alone
abbrev pub Stands : NameUse → Option Term → Meaning → Type 0
Stands (name_use.Local i) None m = is_variable m ≡ true
Stands (name_use.Local i) (Some place) m = ⊥
Stands (name_use.Declared n) None m = ⊤
Stands (name_use.Declared n) (Some place) m = is_port m ≡ true

-- what an expression is made into goes with what it stands for
abbrev pub Matches : Seen → Made → Type 0
Matches seen.Nothing d = ⊤
Matches (seen.Object m) d = (n : NameUse) × (place : Option Term) × (d ≡ object n place m) × Stands n place m
Matches (seen.Bytes b) d = (n : NameUse) × (d ≡ bytes n b)
Matches (seen.Value e) d = (x : Term) × (d ≡ value_made x)

-- by the local variable of the name, and what the module declares
abbrev is_variable_there : Option Meaning → Bool
is_variable_there None = false
is_variable_there (Some m) = is_variable m

stands_by : (l : Option Local) (ds : List Declared) (name : List ℕ) (m : Meaning)
    → option_or (option_map (λ (x : Local). meaning.Variable x.value_type) l) (option_map (λ (d : Declared). d.meaning) (find (is_declared name) ds)) ≡ Some m
    → (n : NameUse) × (option_or (option_map (λ (x : Local). name_use.Local x.number) l) (option_map name_use.Declared (position (is_declared name) ds)) ≡ Some n) × Stands n None m
stands_by None ds name m h =
    let there = below (is_declared name) ds (mapped_back (λ (d : Declared). d.meaning) (find (is_declared name) ds) (ap is_some h)) in
    (name_use.Declared (position_or_len (is_declared name) ds), ap (option_map name_use.Declared) (positioned (nat_lt (position_or_len (is_declared name) ds) (length ds)) (position_or_len (is_declared name) ds) there), tt)
stands_by (Some l) ds name m h = (name_use.Local l.number, refl, ap is_variable_there (sym h))

pub stands : (s : Scope) (name : List ℕ) (m : Meaning) → meaning_of s name ≡ Some m → (n : NameUse) × (use_of s name ≡ Some n) × Stands n None m
stands s name m h = stands_by (local_named s name) (declarations s.items) name m h

no_port : {R : Type 0} (m : Meaning) → is_variable m ≡ true → is_port m ≡ true → R
no_port (meaning.Variable t) h k = absurd (true≢false (sym k))
no_port other h k = absurd (true≢false (sym h))

with_port : (n : NameUse) (place : Term) (m : Meaning) → Stands n None m → is_port m ≡ true → Stands n (Some place) m
with_port (name_use.Local i) place m h k = no_port m h k
with_port (name_use.Declared n) place m h k = k

-- objects
abbrev Found : Option NameUse → Meaning → Type 0
Found u m = (n : NameUse) × (u ≡ Some n) × Stands n None m

plain_matches : (u : Option NameUse) (o : Option Meaning) → ((m : Meaning) → o ≡ Some m → Found u m) → Matches (seen_object o) (object_if None u o)
plain_matches u None f = tt
plain_matches u (Some m) f = let x = f m refl in (x.0, None, ap (λ v. object_if None v (Some m)) x.1, x.2)

placed_at : (u : Option NameUse) (place : Term) (m : Meaning) (o : Option Meaning) → Found u m → ((k : Meaning) → o ≡ Some k → (m ≡ k) × (is_port m ≡ true)) → Matches (seen_object o) (object_if (Some place) u o)
placed_at u place m None x f = tt
placed_at u place m (Some k) x f =
    let g = f k refl in
    (x.0, Some place, ap (λ v. object_if (Some place) v (Some k)) x.1, subst (Stands x.0 (Some place)) g.0 (with_port x.0 place m x.2 g.1))

placed_matches : (u : Option NameUse) (place : Term) (f : Meaning → Option Meaning) (o : Option Meaning) → ((m : Meaning) → o ≡ Some m → Found u m)
    → ((m k : Meaning) → f m ≡ Some k → (m ≡ k) × (is_port m ≡ true)) → Matches (seen_object (option_and_then f o)) (object_if (Some place) u (option_and_then f o))
placed_matches u place f None h g = tt
placed_matches u place f (Some m) h g = placed_at u place m (f m) (h m refl) (g m)

pub if_some : {A : Type 0} (b : Bool) (x y : A) → option_if b x ≡ Some y → (b ≡ true) × (x ≡ y)
if_some true x y h = (refl, same_some x y h)
if_some false x y h = cc

below_port : (n : ℕ) (o : Option ℕ) → is_below n o ≡ true → is_some o ≡ true
below_port n None h = h
below_port n (Some size) h = refl

pub number_placed : (n : ℕ) (m k : Meaning) → at_number n m ≡ Some k → (m ≡ k) × (is_port m ≡ true)
number_placed n m k h = let x = if_some (is_below n (places m)) m k h in (x.1, below_port n (places m) x.0)

first_true : (a b : Bool) → (a && b) ≡ true → a ≡ true
first_true true b h = refl
first_true false b h = h

pub computed_placed : (e : Option ExpressionType) (m k : Meaning) → at_computed e m ≡ Some k → (m ≡ k) × (is_port m ≡ true)
computed_placed e m k h = let x = if_some (is_port m && is_integer_type e) m k h in (x.1, first_true (is_port m) (is_integer_type e) x.0)

nowhere : (b : Bool) (m : Meaning) (d : Made) → Matches (seen_object (option_if (b && false) m)) d
nowhere true m d = tt
nowhere false m d = tt

computed_matches : (e : Option ExpressionType) (x : Option Term) (u : Option NameUse) (o : Option Meaning) → (is_some e ≡ true → is_some x ≡ true) → ((m : Meaning) → o ≡ Some m → Found u m)
    → Matches (seen_object (option_and_then (at_computed e) o)) (placed_made x u (option_and_then (at_computed e) o))
computed_matches None x u None f h = tt
computed_matches None x u (Some m) f h = nowhere (is_port m) m (placed_made x u (at_computed None m))
computed_matches (Some e) None u o f h = some_none (f refl)
computed_matches (Some e) (Some place) u o f h = placed_matches u place (at_computed (Some e)) o h (computed_placed (Some e))

-- what matches a value has a term
placed_has : (n : NameUse) (place : Option Term) (m : Meaning) → Stands n place m → is_some (placed_term n place) ≡ true
placed_has n None m h = refl
placed_has (name_use.Local i) (Some place) m h = absurd h
placed_has (name_use.Declared n) (Some place) m h = refl

name_has : (n : NameUse) (place : Option Term) (m : Meaning) (e : Option ExpressionType) → Stands n place m → is_some e ≡ true → is_some (name_term n place e) ≡ true
name_has n place m None h k = some_none k
name_has n place m (Some e) h k = placed_has n place m h

pub has_term : (k : Seen) (d : Made) → Matches k d → is_some (type_seen k) ≡ true → is_some (term_made d) ≡ true
has_term seen.Nothing d h k = some_none k
has_term (seen.Object m) d h k = subst (λ x. is_some (term_made x) ≡ true) (sym h.2) (name_has h.0 h.1 m (value_of m) h.3 k)
has_term (seen.Bytes b) d h k = some_none k
has_term (seen.Value e) d h k = subst (λ x. is_some (term_made x) ≡ true) (sym h.1) refl

-- values
value_matches : (o : Option ExpressionType) (x : Option Term) → (is_some o ≡ true → is_some x ≡ true) → Matches (seen_if o) (value_if x)
value_matches None x f = tt
value_matches (Some e) None f = some_none (f refl)
value_matches (Some e) (Some x) f = (x, refl)

typed_matches : (o : Option ExpressionType) (x : Option Term) → (is_some o ≡ true → is_some x ≡ true) → Matches (seen_if o) (if_typed (type_seen (seen_if o)) x)
typed_matches None x f = tt
typed_matches (Some e) None f = some_none (f refl)
typed_matches (Some e) (Some x) f = (x, refl)

typed_some : (e : Option ExpressionType) (x : Option Term) → is_some e ≡ true → is_some x ≡ true → is_some (typed e x) ≡ true
typed_some None x h k = some_none h
typed_some (Some e) None h k = some_none k
typed_some (Some e) (Some x) h k = refl

pub two_some : {A B C : Type 0} (f : A → B → C) (a : Option A) (b : Option B) → is_some a ≡ true → is_some b ≡ true → is_some (both (λ x y. Some (f x y)) a b) ≡ true
two_some f None b h k = some_none h
two_some f (Some x) None h k = some_none k
two_some f (Some x) (Some y) h k = refl

pub both_first : {A B C : Type 0} (f : A → B → Option C) (a : Option A) (b : Option B) → is_some (both f a b) ≡ true → (is_some a ≡ true) × (is_some b ≡ true)
both_first f None b h = some_none h
both_first f (Some x) None h = some_none h
both_first f (Some x) (Some y) h = (refl, refl)

-- one part
pub one_part : (f : ExpressionType → Option ExpressionType) (g : Typed → Term) (e : Option ExpressionType) (x : Option Term) → (is_some e ≡ true → is_some x ≡ true)
    → is_some (option_and_then f e) ≡ true → is_some (option_map g (typed e x)) ≡ true
one_part f g e x h k = let some = bound_back f e k in mapped_some g (typed e x) (typed_some e x some (h some))

-- operands
binary_some : (o : BinaryOp) (a b : Option ExpressionType) (x y : Option Term) → (is_some a ≡ true → is_some x ≡ true) → (is_some b ≡ true → is_some y ≡ true)
    → is_some (option_map (given o) (both (operands o) a b)) ≡ true → is_some (both (binary_term o) (typed a x) (typed b y)) ≡ true
binary_some o None b x y h k e = some_none e
binary_some o (Some a) None x y h k e = some_none e
binary_some o (Some a) (Some b) None y h k e = some_none (h refl)
binary_some o (Some a) (Some b) (Some x) None h k e = some_none (k refl)
binary_some o (Some a) (Some b) (Some x) (Some y) h k e =
    mapped_some (joined o (record { type_ = a; term = x }) (record { type_ = b; term = y })) (operands o a b) (mapped_back (given o) (operands o a b) e)

-- members: a port has no bytes
abbrev IsOne : Option ValueMember → Type 0
IsOne None = ⊤
IsOne (Some (reached.One m)) = ⊤
IsOne (Some (reached.Many b)) = ⊥

member_matches : (n : NameUse) (place : Option Term) (m : Meaning) (o : Option ValueMember) → Stands n place m → (is_port m ≡ true → IsOne o) → Matches (seen_member o) (member_if n place o)
member_matches n place m None h f = tt
member_matches n None m (Some (reached.One x)) h f = (_, refl)
member_matches n None m (Some (reached.Many b)) h f = (n, refl)
member_matches (name_use.Local i) (Some place) m (Some (reached.One x)) h f = absurd h
member_matches (name_use.Local i) (Some place) m (Some (reached.Many b)) h f = absurd h
member_matches (name_use.Declared n) (Some place) m (Some (reached.One x)) h f = (_, refl)
member_matches (name_use.Declared n) (Some place) m (Some (reached.Many b)) h f = absurd (f h)

one_entry : (b : Bool) (x : List ℕ × ValueMember) (o : Option (List ℕ × ValueMember)) → IsOne (Some x.1) → IsOne (option_map (λ e. e.1) o) → IsOne (option_map (λ e. e.1) (cond b (Some x) o))
one_entry true x o h k = h
one_entry false x o h k = k

-- the rows of ports have values alone
port_row : (name : List ℕ) (m : Meaning) → is_port m ≡ true → IsOne (option_and_then (λ r. value_member r name) (row_of m))
port_row name (meaning.In s size) h = one_entry (bytes_eq (codes "changed") name) _ None tt tt
port_row name (meaning.Out s size) h = one_entry (bytes_eq (codes "changed") name) _ None tt tt
port_row name (meaning.FifoIn s size) h = one_entry (bytes_eq (codes "available") name) _ _ tt (one_entry (bytes_eq (codes "free") name) _ None tt tt)
port_row name (meaning.FifoOut s size) h = one_entry (bytes_eq (codes "available") name) _ _ tt (one_entry (bytes_eq (codes "free") name) _ None tt tt)
port_row name (meaning.MutexPort size) h = tt
port_row name (meaning.SemaphorePort size) h = one_entry (bytes_eq (codes "value") name) _ None tt tt
port_row name other h = absurd (true≢false (sym h))

member_of : (name : List ℕ) (k : Seen) (d : Made) → Matches k d → Matches (member_seen k name) (member_made name d)
member_of name seen.Nothing d h = tt
member_of name (seen.Object m) d h =
    subst (λ x. Matches (member_seen (seen.Object m) name) (member_made name x)) (sym h.2)
    (member_matches h.0 h.1 m (option_and_then (λ r. value_member r name) (row_of m)) h.3 (port_row name m))
member_of name (seen.Bytes b) d h = tt
member_of name (seen.Value e) d h = tt

-- elements
digit_some : (e : Option ExpressionType) (x : Option Term) (index : Term) → is_some e ≡ true → is_some x ≡ true → is_some (digit_term e x index) ≡ true
digit_some None x index h k = some_none h
digit_some (Some e) None index h k = some_none k
digit_some (Some e) (Some x) index h k = refl

memory_some : (n : NameUse) (place : Option Term) (index : Term) → Stands n place meaning.Memory → is_some (memory_element n index) ≡ true
memory_some (name_use.Local i) None index h = absurd (true≢false (sym h))
memory_some (name_use.Local i) (Some place) index h = absurd h
memory_some (name_use.Declared n) place index h = refl

object_some : (n : NameUse) (place : Option Term) (m : Meaning) (index : Term) → Stands n place m → is_some (element_type (seen.Object m)) ≡ true
    → is_some (object_element n m (value_of m) (name_term n place (value_of m)) index) ≡ true
object_some n place meaning.Memory index h k = memory_some n place index h
object_some n place other index h k =
    let some = bound_back digit_type (value_of other) k in digit_some (value_of other) (name_term n place (value_of other)) index some (name_has n place other (value_of other) h some)

element_some : (k : Seen) (d : Made) (index : Term) → Matches k d → is_some (element_type k) ≡ true → is_some (element_at d (type_seen k) index) ≡ true
element_some seen.Nothing d index h e = some_none e
element_some (seen.Object m) d index h e = subst (λ x. is_some (element_at x (value_of m) index) ≡ true) (sym h.2) (object_some h.0 h.1 m index h.3 e)
element_some (seen.Bytes b) d index h e = subst (λ x. is_some (element_at x None index) ≡ true) (sym h.1) refl
element_some (seen.Value t) d index h e = subst (λ x. is_some (element_at x (Some t) index) ≡ true) (sym h.1) refl

element_by : (i : Bool) (k : Seen) (d : Made) (x : Option Term) → (i ≡ true → is_some x ≡ true) → Matches k d
    → Matches (if i then seen_if (element_type k) else seen.Nothing) (if_typed (type_seen (if i then seen_if (element_type k) else seen.Nothing)) (option_and_then (element_at d (type_seen k)) x))
element_by false k d x f h = tt
element_by true k d None f h = some_none (f refl)
element_by true k d (Some index) f h = typed_matches (element_type k) (element_at d (type_seen k) index) (element_some k d index h)

integer_some : (o : Option ExpressionType) → is_integer_type o ≡ true → is_some o ≡ true
integer_some None h = h
integer_some (Some e) h = refl

timed : (b : Bool) (x : Term) → is_some (option_if b t.Time) ≡ true → is_some (option_if b x) ≡ true
timed true x h = refl
timed false x h = h

module _ (s : Scope) where
  pub matches : (e : tree.Expression) → Matches (seen_of s e) (made_of s e)
  matches (tree.number line n) = (number n, refl)
  matches (tree.time line n unit) = value_matches (option_if (is_time_literal n unit) t.Time) _ (timed (is_time_literal n unit) _)
  matches (tree.logic line digits) = (_, refl)
  matches (tree.truth line b) = (_, refl)
  matches (tree.now line) = (_, refl)
  matches (tree.myself line) = (_, refl)
  matches (tree.constant line word) = (number (constant_bits word), refl)
  matches (tree.paren line e) = value_matches (type_of s e) (term_of s e) (has_term (seen_of s e) (made_of s e) (matches e))
  matches (tree.convert line c e) =
      typed_matches (option_and_then (conversion_type c) (type_of s e)) (option_map (convert_term (converted_to c)) (typed (type_of s e) (term_of s e)))
      (one_part (conversion_type c) (convert_term (converted_to c)) (type_of s e) (term_of s e) (has_term (seen_of s e) (made_of s e) (matches e)))
  matches (tree.to_vector line width e) =
      typed_matches (option_and_then (λ x. option_if (is_width width && becomes_vector width x) (t.Vector width)) (type_of s e)) (option_map (convert_term (type.Vector width)) (typed (type_of s e) (term_of s e)))
      (one_part (λ x. option_if (is_width width && becomes_vector width x) (t.Vector width)) (convert_term (type.Vector width)) (type_of s e) (term_of s e) (has_term (seen_of s e) (made_of s e) (matches e)))
  matches (tree.concat line upper lower) =
      typed_matches (both concat_type (type_of s upper) (type_of s lower)) _
      (λ h. let two = both_first concat_type (type_of s upper) (type_of s lower) h in
      two_some _ (term_of s upper) (term_of s lower) (has_term (seen_of s upper) (made_of s upper) (matches upper) two.0) (has_term (seen_of s lower) (made_of s lower) (matches lower) two.1))
  matches (tree.named line name) = plain_matches (use_of s name) (meaning_of s name) (stands s name)
  matches (tree.placed line name n) = placed_matches (use_of s name) (number n) (at_number n) (meaning_of s name) (stands s name) (number_placed n)
  matches (tree.placed_by line name e) = computed_matches (type_of s e) (term_of s e) (use_of s name) (meaning_of s name) (has_term (seen_of s e) (made_of s e) (matches e)) (stands s name)
  matches (tree.member e name) = member_of name (seen_of s e) (made_of s e) (matches e)
  matches (tree.element e index) =
      element_by (is_integer_type (type_of s index)) (seen_of s e) (made_of s e) (term_of s index)
      (λ h. has_term (seen_of s index) (made_of s index) (matches index) (integer_some (type_of s index) h)) (matches e)
  matches (tree.slice e high low) =
      typed_matches (option_and_then (slice_type high low) (type_of s e)) _ (one_part (slice_type high low) _ (type_of s e) (term_of s e) (has_term (seen_of s e) (made_of s e) (matches e)))
  matches (tree.unary line o e) =
      typed_matches (option_and_then (unary_type o) (type_of s e)) _ (one_part (unary_type o) _ (type_of s e) (term_of s e) (has_term (seen_of s e) (made_of s e) (matches e)))
  matches (tree.binary o left right) =
      value_matches (option_map (given o) (both (operands o) (type_of s left) (type_of s right))) (both (binary_term o) (typed (type_of s left) (term_of s left)) (typed (type_of s right) (term_of s right)))
      (binary_some o (type_of s left) (type_of s right) (term_of s left) (term_of s right) (has_term (seen_of s left) (made_of s left) (matches left)) (has_term (seen_of s right) (made_of s right) (matches right)))

  -- an expression that has a type has code
  pub coded : (e : tree.Expression) → is_some (type_of s e) ≡ true → is_some (term_of s e) ≡ true
  coded e h = has_term (seen_of s e) (made_of s e) (matches e) h
