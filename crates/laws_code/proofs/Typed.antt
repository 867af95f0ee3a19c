-- Where no part of an expression has a fault and all types are known, the expression stands for what is needed.
use Rattle.std.proofs.Common.{◌≡◌, ℕ, Bool, true, false, not, ◌&&◌, ◌||◌, List, [], ◌∷◌, ◌++◌, Option, Some, None, refl, sym, ◌∙◌, subst, true≢false}
use Rattle.std.specs.Prelude.{is_some, is_none, option_map, option_and_then, nat_lt, if◌then◌else◌}
use Rattle.code_rules.specs.ModelTree.Tree as tree
use Rattle.code_rules.specs.ModelTree.Lines.{first_line}
use Rattle.code_rules.specs.ModelRules.Meanings.{is_width}
use Rattle.code_rules.specs.ModelRules.Members.{row_of, value_member}
use Rattle.code_rules.specs.ModelRules.Scopes.{Scope, meaning_of}
use Rattle.code_rules.specs.ModelRules.Operators.{option_if, both, seen_as, is_integer, operands, given, unary_type, conversion_type, becomes_vector, concat_type, digit_type, digit_count, is_within, digits_of, slice_in, slice_type}
use Rattle.code_rules.specs.ModelRules.Types.{value_of, type_seen, value_if, object_if, places, is_port, is_below, at_number, is_integer_type, at_computed, is_time_literal, seen_member, member_seen, is_array, element_seen, seen_of, type_of}
use Rattle.code_rules.specs.ModelRules.declared.meanings.ExpressionType.{ExpressionType}
use Rattle.code_rules.specs.ModelRules.declared.meanings.ExpressionType.TheVariants as t
use Rattle.code_rules.specs.ModelRules.declared.meanings.Meaning.{Meaning}
use Rattle.code_rules.specs.ModelRules.declared.meanings.Meaning.TheVariants as meaning
use Rattle.code_rules.specs.ModelRules.declared.meanings.Row.{Row}
use Rattle.code_rules.specs.ModelRules.declared.meanings.ValueMember.{ValueMember}
use Rattle.code_rules.specs.ModelRules.declared.meanings.ValueMember.TheVariants as reached
use Rattle.code_rules.specs.ModelRules.declared.meanings.Seen.{Seen}
use Rattle.code_rules.specs.ModelRules.declared.meanings.Seen.TheVariants as seen
use Rattle.code_rules.specs.ModelRules.declared.needs.Need.{Need}
use Rattle.code_rules.specs.ModelRules.declared.needs.Need.TheVariants as need_of
use Rattle.code_rules.specs.ModelRules.Sites as part
use Rattle.code_rules.specs.ModelRules.Sites.{Site, site, channel_site, expression_site, has_index, sites_as}
use Rattle.code_rules.specs.ModelRules.Names.{first, name_if, meets, is_value, is_memory, row_lacks, unknown_in_row, wrong_in_row, is_no_value, named, named_head, computed_head, object_name, head_of, unknown_of_head, wrong_of_head, wrong_use, is_static, is_wrong_place, wrong_place}
use Rattle.code_rules.specs.ModelRules.Values.{fails, refuses, refuse, element_differs, place_differs, is_beyond, is_past, wide_place}
use Rattle.code_rules.specs.ModelRules.Passes.{constructs, fault_at, fault_of}
use Rattle.code_rules.proofs.ModelRules.Firsts.{or_none, first_append}
use Rattle.laws_code.specs.Known.{is_type_known, TypesAreKnown}
use Rattle.laws_code.proofs.FaultlessConstructs.{keeps}
use Rattle.laws_code.proofs.NamesMet.{site_met}

-- truth values

pub same_false : (b : Bool) → not b ≡ false → b ≡ true
same_false true h = refl
same_false false h = cc

pub neither : (a b : Bool) → (a || b) ≡ false → (a ≡ false) × (b ≡ false)
neither true b h = cc
neither false b h = (refl, h)

pub some_of : {A : Type 0} (o : Option A) → is_none o ≡ false → is_some o ≡ true
some_of o h = same_false (is_some o) h

pub not_named : (b : Bool) (name : List ℕ) → name_if b name ≡ None → b ≡ false
not_named false name h = refl
not_named true name h = cc

pub mapped_some : {A B : Type 0} (f : A → B) (o : Option A) → is_some o ≡ true → is_some (option_map f o) ≡ true
mapped_some f None h = h
mapped_some f (Some x) h = refl

pub option_if_true : {A : Type 0} (b : Bool) (x : A) → b ≡ true → is_some (option_if b x) ≡ true
option_if_true true x h = refl
option_if_true false x h = cc

-- lists of sites

pub parts_none : (xs ys : List Site) → fault_of constructs (xs ++ ys) ≡ None → (fault_of constructs xs ≡ None) × (fault_of constructs ys ≡ None)
parts_none xs ys h = or_none (fault_of constructs xs) (fault_of constructs ys) (sym (first_append (fault_at constructs) xs ys) ∙ h)

pub head_none : (x : Site) (xs : List Site) → fault_of constructs (x ∷ xs) ≡ None → (fault_at constructs x ≡ None) × (fault_of constructs xs ≡ None)
head_none x xs h = or_none (fault_at constructs x) (fault_of constructs xs) h

-- what is needed of what an expression stands for
abbrev pub is_good : Need → Seen → Bool
is_good need_of.Readable k = is_some (type_seen k)
is_good need_of.Indexed k = is_array k || is_some (type_seen k)
is_good need_of.Object seen.Nothing = false
is_good need_of.Object (seen.Object m) = true
is_good need_of.Object (seen.Bytes b) = true
is_good need_of.Object (seen.Value e) = true
is_good other k = true

value_good : (need : Need) (e : ExpressionType) → is_good need (seen.Value e) ≡ true
value_good need_of.Readable e = refl
value_good need_of.Indexed e = refl
value_good need_of.Object e = refl
value_good other e = refl

value_if_good : (need : Need) (o : Option ExpressionType) → is_some o ≡ true → is_good need (value_if o) ≡ true
value_if_good need None h = absurd (true≢false (sym h))
value_if_good need (Some e) h = value_good need e

-- names

readable : (m : Meaning) → is_value m ≡ true → is_type_known m ≡ true → is_some (value_of m) ≡ true
readable (meaning.Signal s) h k = mapped_some seen_as s k
readable meaning.Resolved h k = refl
readable meaning.Clock h k = refl
readable (meaning.Variable s) h k = mapped_some seen_as s k
readable (meaning.In s size) h k = mapped_some seen_as s k
readable (meaning.Out s size) h k = mapped_some seen_as s k
readable meaning.Process h k = refl
readable other h k = cc

indexed : (m : Meaning) → (is_memory m || is_value m) ≡ true → is_type_known m ≡ true → (is_array (seen.Object m) || is_some (value_of m)) ≡ true
indexed meaning.Memory h k = refl
indexed (meaning.Signal s) h k = mapped_some seen_as s k
indexed meaning.Resolved h k = refl
indexed meaning.Clock h k = refl
indexed (meaning.Variable s) h k = mapped_some seen_as s k
indexed (meaning.In s size) h k = mapped_some seen_as s k
indexed (meaning.Out s size) h k = mapped_some seen_as s k
indexed meaning.Process h k = refl
indexed other h k = cc

object_good : (need : Need) (m : Meaning) → meets need m ≡ true → is_type_known m ≡ true → is_good need (seen.Object m) ≡ true
object_good need_of.Readable m h k = readable m h k
object_good need_of.Indexed m h k = indexed m h k
object_good need_of.Object m h k = refl
object_good other m h k = refl

-- a channel in an expression: its name is known and what is needed, and its place is right
pub record IsChannelKept (s : Scope) (need : Need) (name : List ℕ) (place : tree.Place) : Type 0 where
  pub meaning_ : Meaning
  pub known : meaning_of s name ≡ Some meaning_
  pub met : meets need meaning_ ≡ true
  pub right_place : is_wrong_place need place (Some meaning_) ≡ false
  pub place_type : place_differs s place ≡ false
  pub place_range : wide_place place (Some meaning_) ≡ false

pub channel_kept : (s : Scope) (need : Need) (c : tree.Channel) → fault_at constructs (channel_site s need c) ≡ None → IsChannelKept s need c.name c.place
channel_kept s need c h =
    let k = keeps (channel_site s need c) h in
    let m = (site_met (channel_site s need c) k.known k.kind).0 in
    let w = (or_none (first (wrong_use s) ((c.name, need) ∷ [])) (wrong_place s need c) k.kind).1 in
    record {
      meaning_ = m.meaning;
      known = m.known;
      met = m.meets_need;
      right_place = subst (λ o. is_wrong_place need c.place o ≡ false) m.known (not_named (is_wrong_place need c.place (meaning_of s c.name)) c.name w);
      place_type = not_named (place_differs s c.place) s.around k.types;
      place_range = subst (λ o. wide_place c.place o ≡ false) m.known (not_named (wide_place c.place (meaning_of s c.name)) s.around k.widths);
    }

-- a place that is written is one of the port's
at_places : (n : ℕ) (m : Meaning) (o : Option ℕ) → places m ≡ o → not (is_some o) ≡ false → is_past n o ≡ false → is_below n o ≡ true
at_places n m None e port past = cc
at_places n m (Some size) e port past = same_false (nat_lt n size) past

if_true : {A : Type 0} (b : Bool) (x : A) → b ≡ true → option_if b x ≡ Some x
if_true true x h = refl
if_true false x h = cc

pub number_placed : (n : ℕ) (m : Meaning) → not (is_port m) ≡ false → is_past n (places m) ≡ false → at_number n m ≡ Some m
number_placed n m port past = if_true (is_below n (places m)) m (at_places n m (places m) refl port past)

pub both_true : (a b : Bool) → a ≡ true → b ≡ true → (a && b) ≡ true
both_true true b h k = k
both_true false b h k = cc

pub integer_known : (o : Option ExpressionType) → is_some o ≡ true → fails is_integer o ≡ false → is_integer_type o ≡ true
integer_known None h k = cc
integer_known (Some e) h k = same_false (is_integer e) k

pub computed_placed : (o : Option ExpressionType) (m : Meaning) → not (is_port m) ≡ false → is_some o ≡ true → fails is_integer o ≡ false → at_computed o m ≡ Some m
computed_placed o m port some fits = if_true (is_port m && is_integer_type o) m (both_true (is_port m) (is_integer_type o) (same_false (is_port m) port) (integer_known o some fits))

-- members

indexed_need : (need : Need) (b : _) → not (has_index need) ≡ false → is_good need (seen.Bytes b) ≡ true
indexed_need need_of.Indexed b h = refl
indexed_need need_of.Readable b h = cc
indexed_need need_of.Object b h = cc
indexed_need other b h = refl

value_member_good : (need : Need) (o : Option ValueMember) → is_no_value (has_index need) o ≡ false → is_good need (seen_member o) ≡ true
value_member_good need None h = cc
value_member_good need (Some (reached.One m)) h = value_good need _
value_member_good need (Some (reached.Many b)) h = indexed_need need b h

pub and_true : (a b : Bool) → (a && not b) ≡ false → b ≡ false → a ≡ false
and_true true true h k = cc
and_true true false h k = cc
and_true false b h k = refl

row_good : (need : Need) (of name : List ℕ) (o : Option Row) → unknown_in_row name o ≡ None → wrong_in_row (λ r. is_no_value (has_index need) (value_member r name)) of name o ≡ None
    → is_good need (seen_member (option_and_then (λ r. value_member r name) o)) ≡ true
row_good need of name None h k = cc
row_good need of name (Some r) h k =
    value_member_good need (value_member r name)
    (and_true (is_no_value (has_index need) (value_member r name)) (row_lacks r name)
    (not_named (is_no_value (has_index need) (value_member r name) && not (row_lacks r name)) name k) (not_named (row_lacks r name) name h))

member_good : (need : Need) (of name : List ℕ) (m : Meaning) → unknown_of_head name (named of m) ≡ None → wrong_of_head (has_index need) name (named of m) ≡ None
    → is_good need (member_seen (seen.Object m) name) ≡ true
member_good need of name m h k = row_good need of name (row_of m) h k

-- what is no name has no members
no_member : {R : Type 0} (indexed : Bool) (name of : List ℕ) (k : Seen) → is_good need_of.Object k ≡ true → wrong_of_head indexed name (computed_head of k) ≡ None → R
no_member indexed name of seen.Nothing h w = absurd (true≢false (sym h))
no_member indexed name of (seen.Object m) h w = cc
no_member indexed name of (seen.Bytes b) h w = cc
no_member indexed name of (seen.Value e) h w = cc

-- elements, slices and operators

by_array : (need : Need) (a : Bool) (o : Option ExpressionType) (i : Bool) → (a || is_some o) ≡ true → (a && not i) ≡ false → (is_some o && (refuses digit_type o || not i)) ≡ false
    → is_good need (if i then value_if (if a then Some t.Unsigned else option_and_then digit_type o) else seen.Nothing) ≡ true
by_array need true o true h d e = value_good need t.Unsigned
by_array need true o false h d e = cc
by_array need false None i h d e = absurd (true≢false (sym h))
by_array need false (Some x) true h d e = value_if_good need (digit_type x) (some_of (digit_type x) (neither (is_none (digit_type x)) false e).0)
by_array need false (Some x) false h d e = absurd (true≢false (neither (is_none (digit_type x)) true e).1)

element_good : (need : Need) (of : Seen) (o : Option ExpressionType) → (is_array of || is_some (type_seen of)) ≡ true → is_some o ≡ true → element_differs of o ≡ false
    → is_good need (element_seen of o) ≡ true
element_good need of None h some d = absurd (true≢false (sym some))
element_good need of (Some index) h some d =
    let two = neither (is_array of && not (is_integer index)) (is_some (type_seen of) && (refuses digit_type (type_seen of) || not (is_integer index))) d in
    by_array need (is_array of) (type_seen of) (is_integer index) h two.0 two.1

one_type : (f : ExpressionType → Option ExpressionType) (o : Option ExpressionType) → is_some o ≡ true → refuses f o ≡ false → is_some (option_and_then f o) ≡ true
one_type f None h d = cc
one_type f (Some e) h d = some_of (f e) d

two_types : (f : ExpressionType → ExpressionType → Option ExpressionType) (a b : Option ExpressionType) → is_some a ≡ true → is_some b ≡ true → refuse f a b ≡ false → is_some (both f a b) ≡ true
two_types f None b h k d = cc
two_types f (Some x) None h k d = cc
two_types f (Some x) (Some y) h k d = some_of (f x y) d

slice_some : (high low : ℕ) (e : ExpressionType) (count : Option ℕ) → is_none count ≡ false → is_beyond high low count ≡ false → is_some (slice_in high low e count) ≡ true
slice_some high low e None h d = cc
slice_some high low e (Some count) h d = option_if_true (is_within high low count) (digits_of high low e) (same_false (is_within high low count) d)

slice_known : (high low : ℕ) (o : Option ExpressionType) → is_some o ≡ true → refuses digit_count o ≡ false → is_beyond high low (option_and_then digit_count o) ≡ false
    → is_some (option_and_then (slice_type high low) o) ≡ true
slice_known high low None h d b = cc
slice_known high low (Some e) h d b = slice_some high low e (digit_count e) d b

vector_known : (width : ℕ) (o : Option ExpressionType) → is_some o ≡ true → not (is_width width) ≡ false → fails (becomes_vector width) o ≡ false
    → is_some (option_and_then (λ x. option_if (is_width width && becomes_vector width x) (t.Vector width)) o) ≡ true
vector_known width None h w d = cc
vector_known width (Some e) h w d =
    option_if_true (is_width width && becomes_vector width e) (t.Vector width) (both_true (is_width width) (becomes_vector width e) (same_false (is_width width) w) (same_false (becomes_vector width e) d))

-- a port at a computed place is there only where the type of the place is known
placed_known : (o : Option ExpressionType) (b : Bool) (m : Meaning) → is_good need_of.Object (object_if (option_if (b && is_integer_type o) m)) ≡ true → is_some o ≡ true
placed_known None true m h = cc
placed_known None false m h = cc
placed_known (Some e) b m h = refl

-- a name, with its place
module _ (s : Scope) (known : TypesAreKnown s) where
  -- by what the name stands for
  named_good : (need : Need) (name : List ℕ) (line : ℕ) → IsChannelKept s need name tree.first → is_good need (seen_of s (tree.named line name)) ≡ true
  named_good need name line k =
      subst (λ o. is_good need (object_if o) ≡ true) (sym k.known) (object_good need k.meaning_ k.met (known name k.meaning_ k.known))

  at_place : (need : Need) (name : List ℕ) (place : tree.Place) (f : Meaning → Option Meaning) (k : IsChannelKept s need name place) → f k.meaning_ ≡ Some k.meaning_
      → is_good need (object_if (option_and_then f (meaning_of s name))) ≡ true
  at_place need name place f k placed =
      subst (λ o. is_good need (object_if (option_and_then f o)) ≡ true) (sym k.known)
      (subst (λ o. is_good need (object_if o) ≡ true) (sym placed) (object_good need k.meaning_ k.met (known name k.meaning_ k.known)))

  -- a member of a name at a place
  member_of_name : (need : Need) (of name : List ℕ) (place : tree.Place) (f : Meaning → Option Meaning) (k : IsChannelKept s need_of.Object of place) → f k.meaning_ ≡ Some k.meaning_
      → unknown_of_head name (named_head of (meaning_of s of)) ≡ None → wrong_of_head (has_index need) name (named_head of (meaning_of s of)) ≡ None
      → is_good need (member_seen (object_if (option_and_then f (meaning_of s of))) name) ≡ true
  member_of_name need of name place f k placed h w =
      subst (λ o. is_good need (member_seen (object_if (option_and_then f o)) name) ≡ true) (sym k.known)
      (subst (λ o. is_good need (member_seen (object_if o) name) ≡ true) (sym placed)
      (member_good need of name k.meaning_
      (subst (λ o. unknown_of_head name (named_head of o) ≡ None) k.known h)
      (subst (λ o. wrong_of_head (has_index need) name (named_head of o) ≡ None) k.known w)))

  member_of_plain : (need : Need) (of name : List ℕ) (k : IsChannelKept s need_of.Object of tree.first)
      → unknown_of_head name (named_head of (meaning_of s of)) ≡ None → wrong_of_head (has_index need) name (named_head of (meaning_of s of)) ≡ None
      → is_good need (member_seen (object_if (meaning_of s of)) name) ≡ true
  member_of_plain need of name k h w =
      subst (λ o. is_good need (member_seen (object_if o) name) ≡ true) (sym k.known)
      (member_good need of name k.meaning_
      (subst (λ o. unknown_of_head name (named_head of o) ≡ None) k.known h)
      (subst (λ o. wrong_of_head (has_index need) name (named_head of o) ≡ None) k.known w))

  abbrev member_site : Need → tree.Expression → List ℕ → Site
  member_site need e name = site s (first_line e) (part.of_member (has_index need) e name)

  -- where a port at a computed place is an object, the type of the place is known
  place_known : (e : tree.Expression) (m : Meaning) → is_good need_of.Object (object_if (at_computed (type_of s e) m)) ≡ true → is_some (type_of s e) ≡ true
  place_known e m h = placed_known (type_of s e) (is_port m) m h

  -- a member, where what it is of is good as an object
  member_typed : (need : Need) (e : tree.Expression) (name : List ℕ) → fault_of constructs (sites_as need_of.Object s e) ≡ None → is_good need_of.Object (seen_of s e) ≡ true
      → unknown_of_head name (head_of s e) ≡ None → wrong_of_head (has_index need) name (head_of s e) ≡ None → is_good need (member_seen (seen_of s e) name) ≡ true
  member_typed need (tree.named line of) name clean good h w =
      member_of_plain need of name (channel_kept s need_of.Object (record { line = line; name = of; place = tree.first }) (head_none (channel_site s need_of.Object (record { line = line; name = of; place = tree.first })) [] clean).0) h w
  member_typed need (tree.placed line of n) name clean good h w =
      let k = channel_kept s need_of.Object (record { line = line; name = of; place = tree.place_number n }) (head_none (channel_site s need_of.Object (record { line = line; name = of; place = tree.place_number n })) [] clean).0 in
      member_of_name need of name (tree.place_number n) (at_number n) k (number_placed n k.meaning_ k.right_place k.place_range) h w
  member_typed need (tree.placed_by line of e) name clean good h w =
      let k = channel_kept s need_of.Object (record { line = line; name = of; place = tree.computed e }) (head_none (channel_site s need_of.Object (record { line = line; name = of; place = tree.computed e })) (sites_as need_of.Readable s e) clean).0 in
      member_of_name need of name (tree.computed e) (at_computed (type_of s e)) k
      (computed_placed (type_of s e) k.meaning_ (neither (not (is_port k.meaning_)) (is_static need_of.Object) k.right_place).0 (place_known e k.meaning_ (subst (λ o. is_good need_of.Object (object_if (option_and_then (at_computed (type_of s e)) o)) ≡ true) k.known good)) k.place_type) h w
  member_typed need other name clean good h w = no_member (has_index need) name (object_name other) (seen_of s other) good w

  -- expressions
  pub typed : (need : Need) (e : tree.Expression) → fault_of constructs (sites_as need s e) ≡ None → is_good need (seen_of s e) ≡ true
  typed need (tree.number line n) h = value_good need t.Free
  typed need (tree.time line n unit) h =
      let k = keeps (expression_site s (tree.time line n unit)) (head_none (expression_site s (tree.time line n unit)) [] h).0 in
      value_if_good need (option_if (is_time_literal n unit) t.Time) (option_if_true (is_time_literal n unit) t.Time (same_false (is_time_literal n unit) (not_named (not (is_time_literal n unit)) s.around k.literals)))
  typed need (tree.logic line digits) h = value_good need _
  typed need (tree.truth line b) h = value_good need t.Bool
  typed need (tree.now line) h = value_good need t.Time
  typed need (tree.myself line) h = value_good need t.Process
  typed need (tree.constant line word) h = value_good need t.Free
  typed need (tree.paren line e) h = value_if_good need (type_of s e) (typed need_of.Readable e (head_none (expression_site s (tree.paren line e)) (sites_as need_of.Readable s e) h).1)
  typed need (tree.convert line c e) h =
      let p = head_none (expression_site s (tree.convert line c e)) (sites_as need_of.Readable s e) h in
      let k = keeps (expression_site s (tree.convert line c e)) p.0 in
      value_if_good need (option_and_then (conversion_type c) (type_of s e)) (one_type (conversion_type c) (type_of s e) (typed need_of.Readable e p.1) (not_named (refuses (conversion_type c) (type_of s e)) s.around k.types))
  typed need (tree.to_vector line width e) h =
      let p = head_none (expression_site s (tree.to_vector line width e)) (sites_as need_of.Readable s e) h in
      let k = keeps (expression_site s (tree.to_vector line width e)) p.0 in
      value_if_good need _ (vector_known width (type_of s e) (typed need_of.Readable e p.1) (not_named (not (is_width width)) s.around k.widths) (not_named (fails (becomes_vector width) (type_of s e)) s.around k.types))
  typed need (tree.concat line upper lower) h =
      let p = head_none (expression_site s (tree.concat line upper lower)) (sites_as need_of.Readable s upper ++ sites_as need_of.Readable s lower) h in
      let q = parts_none (sites_as need_of.Readable s upper) (sites_as need_of.Readable s lower) p.1 in
      let k = keeps (expression_site s (tree.concat line upper lower)) p.0 in
      value_if_good need (both concat_type (type_of s upper) (type_of s lower))
      (two_types concat_type (type_of s upper) (type_of s lower) (typed need_of.Readable upper q.0) (typed need_of.Readable lower q.1) (not_named (refuse concat_type (type_of s upper) (type_of s lower)) s.around k.types))
  typed need (tree.named line name) h = named_good need name line (channel_kept s need (record { line = line; name = name; place = tree.first }) (head_none (channel_site s need (record { line = line; name = name; place = tree.first })) [] h).0)
  typed need (tree.placed line name n) h =
      let k = channel_kept s need (record { line = line; name = name; place = tree.place_number n }) (head_none (channel_site s need (record { line = line; name = name; place = tree.place_number n })) [] h).0 in
      at_place need name (tree.place_number n) (at_number n) k (number_placed n k.meaning_ k.right_place k.place_range)
  typed need (tree.placed_by line name e) h =
      let p = head_none (channel_site s need (record { line = line; name = name; place = tree.computed e })) (sites_as need_of.Readable s e) h in
      let k = channel_kept s need (record { line = line; name = name; place = tree.computed e }) p.0 in
      at_place need name (tree.computed e) (at_computed (type_of s e)) k
      (computed_placed (type_of s e) k.meaning_ (neither (not (is_port k.meaning_)) (is_static need) k.right_place).0 (typed need_of.Readable e p.1) k.place_type)
  typed need (tree.member e name) h =
      let p = head_none (member_site need e name) (sites_as need_of.Object s e) h in
      let k = keeps (member_site need e name) p.0 in
      member_typed need e name p.1 (typed need_of.Object e p.1) k.known k.kind
  typed need (tree.element e index) h =
      let p = head_none (expression_site s (tree.element e index)) (sites_as need_of.Indexed s e ++ sites_as need_of.Readable s index) h in
      let q = parts_none (sites_as need_of.Indexed s e) (sites_as need_of.Readable s index) p.1 in
      let k = keeps (expression_site s (tree.element e index)) p.0 in
      element_good need (seen_of s e) (type_of s index) (typed need_of.Indexed e q.0) (typed need_of.Readable index q.1) (not_named (element_differs (seen_of s e) (type_of s index)) s.around k.types)
  typed need (tree.slice e high low) h =
      let p = head_none (expression_site s (tree.slice e high low)) (sites_as need_of.Readable s e) h in
      let k = keeps (expression_site s (tree.slice e high low)) p.0 in
      value_if_good need (option_and_then (slice_type high low) (type_of s e))
      (slice_known high low (type_of s e) (typed need_of.Readable e p.1) (not_named (refuses digit_count (type_of s e)) s.around k.types) (not_named (is_beyond high low (option_and_then digit_count (type_of s e))) s.around k.widths))
  typed need (tree.unary line o e) h =
      let p = head_none (expression_site s (tree.unary line o e)) (sites_as need_of.Readable s e) h in
      let k = keeps (expression_site s (tree.unary line o e)) p.0 in
      value_if_good need (option_and_then (unary_type o) (type_of s e)) (one_type (unary_type o) (type_of s e) (typed need_of.Readable e p.1) (not_named (refuses (unary_type o) (type_of s e)) s.around k.types))
  typed need (tree.binary o left right) h =
      let p = head_none (expression_site s (tree.binary o left right)) (sites_as need_of.Readable s left ++ sites_as need_of.Readable s right) h in
      let q = parts_none (sites_as need_of.Readable s left) (sites_as need_of.Readable s right) p.1 in
      let k = keeps (expression_site s (tree.binary o left right)) p.0 in
      value_if_good need (option_map (given o) (both (operands o) (type_of s left) (type_of s right)))
      (mapped_some (given o) (both (operands o) (type_of s left) (type_of s right))
      (two_types (operands o) (type_of s left) (type_of s right) (typed need_of.Readable left q.0) (typed need_of.Readable right q.1) (not_named (refuse (operands o) (type_of s left) (type_of s right)) s.around k.types)))
