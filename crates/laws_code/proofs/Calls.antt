-- Arguments, results, assignments and returned values fit.
use Rattle.std.proofs.Common.{◌≡◌, ◌⊎◌, inl, inr, ℕ, Bool, true, false, not, List, [], ◌∷◌, Option, Some, None, refl, sym, ◌∙◌, ap, subst, true≢false, length, arith}
use Rattle.std.specs.Prelude.{is_some, is_none, option_map, option_and_then}
use Rattle.std.specs.List.{AllByRecursion}
use Rattle.code_rules.specs.ModelTree.Tree as tree
use Rattle.code_rules.specs.ModelTree.Limits.{fits, fits_option, fits_all, fits_index}
use Rattle.code_rules.specs.ModelTree.declared.types.VarType.{VarType}
use Rattle.code_rules.specs.ModelTree.declared.types.Parameter.{Parameter}
use Rattle.code_rules.specs.FlatDesign.Code as code
use Rattle.code_rules.specs.FlatDesign.Code.{Term, DestinationTerm}
use Rattle.code_rules.specs.FlatDesign.Denotes.{Context, declared, variable_type as code_type}
use Rattle.code_rules.specs.FlatDesign.Typed.{IsPayload, IsMemory, FitsIn, Gives, GivesInteger, IfWritten, Stores, StoresAnswer, IsArgument, AreArguments, AreFirstArguments, IsDestination, IsReturned, IsPrinted, field_type}
use Rattle.code_rules.specs.FlatDesign.declared.value_types.ValueType.{ValueType}
use Rattle.code_rules.specs.FlatDesign.declared.value_types.ValueType.TheVariants as type
use Rattle.code_rules.specs.FlatDesign.declared.names.Member.TheVariants as member
use Rattle.code_rules.specs.FlatDesign.declared.code.Local.{Local}
use Rattle.code_rules.specs.FlatDesign.declared.code.Store.{Store}
use Rattle.code_rules.specs.ModelRules.Meanings.{variable_type}
use Rattle.code_rules.specs.ModelRules.Scopes.{Scope, use_of, place_of}
use Rattle.code_rules.specs.ModelRules.Operators.{seen_as, is_integer, evaluated_as}
use Rattle.code_rules.specs.ModelRules.Types.{is_integer_type, type_of}
use Rattle.code_rules.specs.ModelRules.Targets.{misfits, differ, to_field, to_byte, member_assigned, destination_type, held_by, variable_named, result_type, gives_nothing}
use Rattle.code_rules.specs.ModelRules.declared.meanings.Destination.TheVariants as to
use Rattle.code_rules.specs.ModelRules.declared.meanings.ExpressionType.{ExpressionType}
use Rattle.code_rules.specs.ModelRules.declared.meanings.ExpressionType.TheVariants as t
use Rattle.code_rules.specs.ModelRules.declared.meanings.Meaning.{Meaning}
use Rattle.code_rules.specs.ModelRules.declared.meanings.Meaning.TheVariants as meaning
use Rattle.code_rules.specs.ModelRules.declared.meanings.ValueMember.{ValueMember}
use Rattle.code_rules.specs.ModelRules.declared.meanings.ValueMember.TheVariants as reached
use Rattle.code_rules.specs.ModelRules.declared.needs.Need.TheVariants as need_of
use Rattle.code_rules.specs.ModelRules.Sites.{channel_site, expression_sites, option_sites, argument_sites}
use Rattle.code_rules.specs.ModelRules.Names.{is_variable, is_memory, goes_nowhere, optional}
use Rattle.code_rules.specs.ModelRules.Values.{fails, option_type, argument_differs, arguments_differ, is_printed, result_differs}
use Rattle.code_rules.specs.ModelRules.Calls.{same_bool, has_inout, is_other_variable, is_no_inout, inout_wrong, inouts_wrong}
use Rattle.code_rules.specs.ModelRules.Passes.{constructs, fault_of}
use Rattle.code_rules.specs.Terms.{term_of}
use Rattle.code_rules.specs.Deeds.{if_written, each, store, argument, inout_argument, arguments, to_index, destination_term}
use Rattle.code_rules.specs.Bodies.{IsAnswer}
use Rattle.laws_code.specs.Known.{TypesAreKnown}
use Rattle.laws_code.specs.Met.{IsMet}
use Rattle.laws_code.proofs.Typed.{neither, parts_none, head_none, channel_kept}
use Rattle.laws_code.specs.Standing.{Standing, NamesStand}
use Rattle.laws_code.specs.Functions.{AreParameters}
use Rattle.laws_code.proofs.Has.{Has, map_has, two_has, weaker}
use Rattle.laws_code.proofs.Operands.{both_true, seen_type}
use Rattle.laws_code.proofs.Channels.{within_is, fits_in, tested, type_there, integer_there, gives_there, follows, of_type, store_there, standing_there, IsStore}

-- a printed type
printed : (e : ExpressionType) → is_printed e ≡ true → ((evaluated_as e ≡ type.Process) → ⊥) × ((evaluated_as e ≡ type.Payload) → ⊥)
printed t.Process h = cc
printed t.Payload h = cc
printed t.Free h = ((λ k. cc), (λ k. cc))
printed t.Signed h = ((λ k. cc), (λ k. cc))
printed t.Unsigned h = ((λ k. cc), (λ k. cc))
printed t.Bool h = ((λ k. cc), (λ k. cc))
printed t.Logic h = ((λ k. cc), (λ k. cc))
printed (t.Vector width) h = ((λ k. cc), (λ k. cc))
printed t.Time h = ((λ k. cc), (λ k. cc))

other_is : (o : Option ValueType) (m : Meaning) → is_other_variable o (Some m) ≡ false → (is_variable m ≡ true) × (differ o (held_by m) ≡ false)
other_is o (meaning.Variable s) h = (refl, h)
other_is o other h = absurd (true≢false h)

no_length : {A : Type 0} (x : A) (xs : List A) → length {A = A} [] ≡ length (x ∷ xs) → ⊥
no_length x xs h = omega arith

rest_length : {A B : Type 0} (x : A) (xs : List A) (y : B) (ys : List B) → length (x ∷ xs) ≡ length (y ∷ ys) → length xs ≡ length ys
rest_length x xs y ys h = omega arith

module _ (s : Scope) (c : Context) (names : NamesStand s c) (known : TypesAreKnown s) where
  pub print_there : (n : ℕ) (e : Option tree.Expression) → fits_option n e ≡ true → fault_of constructs (option_sites s e) ≡ None → fails is_printed (option_type s e) ≡ false → Has (IfWritten (IsPrinted c)) (if_written (term_of s) e)
  print_there n None h clean ok = (None, refl, tt)
  print_there n (Some e) h clean ok =
      let x = type_there s c names known e clean in
      let y = follows s c names known n e h x.0 x.1 in
      let p = printed x.0 (tested s c names known is_printed (type_of s e) x.0 x.1 ok) in
      (Some y.0, ap (option_map Some) y.1, (evaluated_as x.0, y.2, p.0, p.1))

  pub integer_option : (n : ℕ) (e : Option tree.Expression) → fits_option n e ≡ true → fault_of constructs (option_sites s e) ≡ None → fails is_integer (option_type s e) ≡ false → Has (IfWritten (GivesInteger c)) (if_written (term_of s) e)
  integer_option n None h clean ok = (None, refl, tt)
  integer_option n (Some e) h clean ok = let g = integer_there s c names known n e h clean ok in (Some g.0, ap (option_map Some) g.1, g.2)

  pub gives_option : (n : ℕ) (e : Option tree.Expression) (o : Option ValueType) (target : ValueType) → o ≡ Some target → fits_option n e ≡ true → fault_of constructs (option_sites s e) ≡ None → misfits o (option_type s e) ≡ false
      → Has (IfWritten (λ x. Gives c x target)) (if_written (term_of s) e)
  gives_option n None o target is h clean ok = (None, refl, tt)
  gives_option n (Some e) o target is h clean ok = let g = gives_there s c names known n e o target is h clean ok in (Some g.0, ap (option_map Some) g.1, g.2)

  -- arguments
  inout_there : (p : Parameter) (l : Local) (e : tree.Expression) → variable_type p.var_type ≡ Some l.value_type → l.inout ≡ true → is_no_inout s p e ≡ false → fault_of constructs (expression_sites s e) ≡ None → Has (IsArgument c l) (inout_argument s e)
  inout_there p l (tree.named line name) is way w clean =
      let k = channel_kept s need_of.Readable (record { line = line; name = name; place = tree.first }) (head_none (channel_site s need_of.Readable (record { line = line; name = name; place = tree.first })) [] clean).0 in
      let v = other_is (variable_type p.var_type) k.meaning_ (subst (λ o. is_other_variable (variable_type p.var_type) o ≡ false) k.known w) in
      let same = (λ i. differ (sym is i) (ap (option_and_then held_by) k.known i)) ∙ v.1 in
      map_has (λ n. code_type c n ≡ Some l.value_type) (IsArgument c l) code.inout (use_of s name) (λ n h. (way, h))
      (of_type s c names known name l.value_type (record { meaning = k.meaning_; known = k.known; meets_need = v.0 }) same)
  inout_there p l other is way w clean = absurd (true≢false w)

  argument_there : (n : ℕ) (b : Bool) (p : Parameter) (l : Local) (e : tree.Expression) → variable_type p.var_type ≡ Some l.value_type → l.inout ≡ b → inout_wrong s b p e ≡ false → argument_differs s b p e ≡ false
      → fits n e ≡ true → fault_of constructs (expression_sites s e) ≡ None → Has (IsArgument c l) (argument s b e)
  argument_there n true p l e is way w ok h clean = inout_there p l e is way w clean
  argument_there n false p l e is way w ok h clean =
      map_has (λ x. Gives c x l.value_type) (IsArgument c l) code.by_value (term_of s e) (λ x g. (way, g)) (gives_there s c names known n e (variable_type p.var_type) l.value_type is h clean ok)

  pub arguments_there : (n : ℕ) (ps : List Parameter) (ls : List Local) (es : List tree.Expression) → AreParameters ps ls → length ps ≡ length es → inouts_wrong s ps es ≡ false → arguments_differ s ps es ≡ false
      → fits_all n es ≡ true → fault_of constructs (argument_sites s es) ≡ None → Has (AreArguments c ls) (arguments s ps es)
  arguments_there n [] [] [] a len w ok h clean = ([], refl, tt)
  arguments_there n [] [] (e ∷ es) a len w ok h clean = absurd (no_length e es len)
  arguments_there n [] (l ∷ ls) es a len w ok h clean = absurd a
  arguments_there n (p ∷ ps) [] es a len w ok h clean = absurd a
  arguments_there n (p ∷ ps) (l ∷ ls) [] a len w ok h clean = absurd (no_length p ps (sym len))
  arguments_there n (p ∷ ps) (l ∷ ls) (e ∷ es) a len w ok h clean =
      let x = neither (inout_wrong s p.inout p e) (inouts_wrong s ps es) w in
      let y = neither (argument_differs s p.inout p e) (arguments_differ s ps es) ok in
      let z = both_true (fits n e) (fits_all n es) h in
      let q = parts_none (expression_sites s e) (argument_sites s es) clean in
      two_has (IsArgument c l) (AreArguments c ls) (AreArguments c (l ∷ ls)) (λ u us. u ∷ us) (argument s p.inout e) (arguments s ps es) (λ u us f g. (f, g))
      (argument_there n p.inout p l e a.0 a.1 x.0 y.0 z.0 q.0) (arguments_there n ps ls es a.2 (rest_length p ps e es len) x.1 y.1 z.1 q.1)

  -- the arguments of a spawned function, none of whose parameters is inout
  first_there : (n : ℕ) (b : Bool) (p : Parameter) (l : Local) (e : tree.Expression) → variable_type p.var_type ≡ Some l.value_type → l.inout ≡ b → b ≡ false → argument_differs s b p e ≡ false
      → fits n e ≡ true → fault_of constructs (expression_sites s e) ≡ None → (l.inout ≡ false) × Has (λ x. Gives c x l.value_type) (term_of s e)
  first_there n true p l e is way plain ok h clean = absurd (true≢false plain)
  first_there n false p l e is way plain ok h clean = (way, gives_there s c names known n e (variable_type p.var_type) l.value_type is h clean ok)

  pub firsts_there : (n : ℕ) (ps : List Parameter) (ls : List Local) (es : List tree.Expression) → AreParameters ps ls → length ps ≡ length es → has_inout ps ≡ false → arguments_differ s ps es ≡ false
      → fits_all n es ≡ true → fault_of constructs (argument_sites s es) ≡ None → Has (AreFirstArguments c ls) (each (term_of s) es)
  firsts_there n [] [] [] a len w ok h clean = ([], refl, tt)
  firsts_there n [] [] (e ∷ es) a len w ok h clean = absurd (no_length e es len)
  firsts_there n [] (l ∷ ls) es a len w ok h clean = absurd a
  firsts_there n (p ∷ ps) [] es a len w ok h clean = absurd a
  firsts_there n (p ∷ ps) (l ∷ ls) [] a len w ok h clean = absurd (no_length p ps (sym len))
  firsts_there n (p ∷ ps) (l ∷ ls) (e ∷ es) a len w ok h clean =
      let x = neither p.inout (has_inout ps) w in
      let y = neither (argument_differs s p.inout p e) (arguments_differ s ps es) ok in
      let z = both_true (fits n e) (fits_all n es) h in
      let q = parts_none (expression_sites s e) (argument_sites s es) clean in
      let f = first_there n p.inout p l e a.0 a.1 x.0 y.0 z.0 q.0 in
      two_has (λ u. Gives c u l.value_type) (AreFirstArguments c ls) (AreFirstArguments c (l ∷ ls)) (λ u us. u ∷ us) (term_of s e) (each (term_of s) es) (λ u us g r. (f.0, g, r)) f.1
      (firsts_there n ps ls es a.2 (rest_length p ps e es len) x.1 y.1 z.1 q.1)

  -- the variable that gets a result
  abbrev pub ResultIs : tree.Operation → Option Store → Type 0
  ResultIs o x = IfWritten (λ (z : Store). (code_type c z.name ≡ Some z.value_type) × (gives_nothing s o ≡ false) × (misfits (Some z.value_type) (result_type s o) ≡ false)) x

  pub result_there : (name : Option (List ℕ)) (o : tree.Operation) → AllByRecursion (IsMet s) (optional name need_of.Variable) → result_differs s name o ≡ false → Has (ResultIs o) (if_written (store s) name)
  result_there None o k ok = (None, refl, tt)
  result_there (Some name) o k ok =
      let two = neither (gives_nothing s o) (misfits (variable_named s name) (result_type s o)) ok in
      let z = store_there s c names known name k.0 in
      (Some z.0, ap (option_map Some) z.1, (z.2.0, two.0, subst (λ y. misfits y (result_type s o) ≡ false) z.2.1 two.1))

  pub stores : (o : tree.Operation) (x : Option Store) (v : ValueType) → ResultIs o x → result_type s o ≡ Some (seen_as v) → IfWritten (Stores c v) x
  stores o None v r is = tt
  stores o (Some z) v r is = (r.0, subst (FitsIn z.value_type) (seen_type v) (fits_in z.value_type (seen_as v) (Some z.value_type) (result_type s o) refl is r.2))

  -- an answer
  pub stores_answer : (o : tree.Operation) (x : Option Store) (written : Option VarType) (answer : Option ValueType) → ResultIs o x → (gives_nothing s o ≡ is_none written) → (result_type s o ≡ option_map seen_as (option_and_then variable_type written))
      → IsAnswer written answer → IfWritten (StoresAnswer c answer) x
  stores_answer o None written answer r none is a = tt
  stores_answer o (Some z) None answer r none is a = absurd (true≢false (sym none ∙ r.1))
  stores_answer o (Some z) (Some v) answer r none is a =
      subst (λ y. IfWritten (StoresAnswer c y) (Some z)) (sym a.2) (stores o (Some z) a.0 r (is ∙ ap (option_map seen_as) a.1))

  -- returned values
  pub returned : (n : ℕ) (written : Option VarType) (answer : Option ValueType) (e : Option tree.Expression) → IsAnswer written answer → not (same_bool (is_some written) (is_some e)) ≡ false
      → misfits (option_and_then variable_type written) (option_type s e) ≡ false → fits_option n e ≡ true → fault_of constructs (option_sites s e) ≡ None → Has (IsReturned c answer) (if_written (term_of s) e)
  returned n None answer None a way ok h clean = (None, refl, subst (λ y. IsReturned c y None) (sym a) tt)
  returned n None answer (Some e) a way ok h clean = absurd (true≢false way)
  returned n (Some v) answer None a way ok h clean = absurd (true≢false way)
  returned n (Some v) answer (Some e) a way ok h clean =
      let g = gives_there s c names known n e (variable_type v) a.0 a.1 h clean ok in
      (Some g.0, ap (option_map Some) g.1, subst (λ y. IsReturned c y (Some g.0)) (sym a.2) g.2)

  -- assignments
  abbrev pub Goes : Term → DestinationTerm → Type 0
  Goes e z = IsDestination c z e

  pub index_is : (n : ℕ) (e : tree.Expression) → fits_index n (Some e) ≡ true → fault_of constructs (expression_sites s e) ≡ None → fails is_integer (type_of s e) ≡ false → Has (GivesInteger c) (term_of s e)
  index_is n e h clean ok = let w = within_is n (λ m. fits m e) h in integer_there s c names known w.0 e w.1 clean ok

  pub indexes : (e : tree.Expression) → fault_of constructs (expression_sites s e) ≡ None → fails is_integer (type_of s e) ≡ false → is_integer_type (type_of s e) ≡ true
  indexes e clean ok = let x = type_there s c names known e clean in ap is_integer_type x.1 ∙ tested s c names known is_integer (type_of s e) x.0 x.1 ok

  pub variable_target : (name : List ℕ) (o : Option ValueType) (e : Term) → IsMet s (name, need_of.Variable) → variable_named s name ≡ o → ((v : ValueType) → o ≡ Some v → Gives c e v)
      → Has (Goes e) (destination_term s (record { name = name; member = None; index = None }) (to.Variable o))
  variable_target name o e k is f =
      map_has (IsStore s c names known name) (Goes e) code.to_name (store s name) (λ z h. (h.0, f z.value_type (sym is ∙ h.1))) (store_there s c names known name k)

  memory_of : (m : Meaning) (n : ℕ) → is_memory m ≡ true → Standing c.design m (declared c n) → IsMemory c n
  memory_of meaning.Memory n h k = (k.0, k.1, k.2, k.3)
  memory_of other n h k = absurd (true≢false (sym h))

  pub memory_there : (name : List ℕ) → IsMet s (name, need_of.Memory) → Has (IsMemory c) (place_of s name)
  memory_there name k = weaker _ (IsMemory c) (place_of s name) (λ n x. memory_of k.meaning n k.meets_need x) (standing_there s c names known (name, need_of.Memory) (λ o. refl) k)

  -- by what the member of the target is
  pub field_target : (x : tree.Target) (o : Option ValueMember) (e : Term) → Has (IsPayload c) (use_of s x.name) → goes_nowhere (to_field o) ≡ false → ((v : ValueType) → destination_type (to_field o) ≡ Some v → Gives c e v)
      → Has (Goes e) (destination_term s x (to_field o))
  field_target x None e u h f = absurd (true≢false h)
  field_target x (Some (reached.One (member.Field k))) e u h f = map_has (IsPayload c) (Goes e) (λ n. code.to_field n k) (use_of s x.name) (λ n p. (p, f (field_type k) refl)) u
  field_target x (Some (reached.One other)) e u h f = absurd (true≢false h)
  field_target x (Some (reached.Many b)) e u h f = absurd (true≢false h)

  -- a byte takes any integer
  byte_value : (e : Term) → ((v : ValueType) → Some (type.Uint 8) ≡ Some v → Gives c e v) → GivesInteger c e
  byte_value e f = let g = f (type.Uint 8) refl in (g.0, g.1, g.2)

  pub byte_target : (n : ℕ) (name : List ℕ) (member : List ℕ) (index : tree.Expression) (o : Option ValueMember) (e : Term) → Has (IsPayload c) (use_of s name) → goes_nowhere (to_byte o) ≡ false
      → Has (GivesInteger c) (term_of s index) → ((v : ValueType) → destination_type (to_byte o) ≡ Some v → Gives c e v)
      → Has (Goes e) (destination_term s (record { name = name; member = Some member; index = Some index }) (to_byte o))
  byte_target n name member index None e u h i f = absurd (true≢false h)
  byte_target n name member index (Some (reached.One x)) e u h i f = absurd (true≢false h)
  byte_target n name member index (Some (reached.Many b)) e u h i f = (
    code.to_payload_byte u.0 b i.0,
    (λ k. option_and_then (λ x. to_index (code.to_payload_byte x b) s (Some index)) (u.1 k)) ∙ ap (option_map (code.to_payload_byte u.0 b)) i.1,
    (u.2, i.2, byte_value e f),
  )

  pub element_target : (name : List ℕ) (index : tree.Expression) (e : Term) → Has (IsMemory c) (place_of s name) → Has (GivesInteger c) (term_of s index) → ((v : ValueType) → Some (type.Uint 8) ≡ Some v → Gives c e v)
      → Has (Goes e) (destination_term s (record { name = name; member = None; index = Some index }) to.Element)
  element_target name index e u i f =
      (code.to_element u.0 i.0, (λ k. option_and_then (λ x. to_index (code.to_element x) s (Some index)) (u.1 k)) ∙ ap (option_map (code.to_element u.0)) i.1, (u.2, i.2, byte_value e f))

  -- only what is assigned of a payload has a destination
  pub payload_member : (m : Meaning) (name : List ℕ) → goes_nowhere (to_field (member_assigned name (Some m))) ≡ false ⊎ (goes_nowhere (to_byte (member_assigned name (Some m))) ≡ false) → m ≡ meaning.Variable (Some type.Payload)
  payload_member (meaning.Variable (Some type.Payload)) name h = refl
  payload_member (meaning.Variable (Some type.Process)) name h = nowhere h
    where
      nowhere : {R : Type 0} → (true ≡ false) ⊎ (true ≡ false) → R
      nowhere (inl x) = absurd (true≢false x)
      nowhere (inr x) = absurd (true≢false x)
  payload_member other name (inl x) = absurd (true≢false x)
  payload_member other name (inr x) = absurd (true≢false x)
