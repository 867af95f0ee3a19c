-- The tests of a tick and what lowers its count, as they are read.
use Rattle.std.proofs.Common.{◌≡◌, ℕ, Bool, false, List, [], ◌∷◌, ◌++◌, Option, Some, None, option_map, refl, sym, ap, ◌∙◌}
use Rattle.std.specs.Prelude.{bytes_eq}
use Rattle.std.specs.List.{AllZip}
use Rattle.code_rules.specs.LogicValues.declared.kinds.Value.TheVariants as value
use Rattle.code_rules.specs.ModelTree.Tree as tree
use Rattle.code_rules.specs.ModelTree.declared.expressions.BinaryOp.TheVariants as op
use Rattle.code_rules.specs.FlatDesign.Code as code
use Rattle.code_rules.specs.FlatDesign.Code.{Arena, Term, statement_at}
use Rattle.code_rules.specs.FlatDesign.declared.names.NameUse.{NameUse}
use Rattle.code_rules.specs.FlatDesign.declared.value_types.ValueType.TheVariants as type
use Rattle.code_rules.specs.ModelRules.Scopes.{Scope, use_of, meaning_of, behind}
use Rattle.code_rules.specs.ModelRules.Operators.{both}
use Rattle.code_rules.specs.ModelRules.Types as types
use Rattle.code_rules.specs.ModelRules.Types.{type_seen, value_of}
use Rattle.code_rules.specs.ModelRules.declared.meanings.ExpressionType.{ExpressionType}
use Rattle.code_rules.specs.ModelRules.declared.meanings.ExpressionType.TheVariants as t
use Rattle.code_rules.specs.ModelRules.declared.meanings.Meaning.{Meaning}
use Rattle.code_rules.specs.Terms.{Typed, typed, term_made, term_of, object_if, value_if, binary_term, name_term, number}
use Rattle.code_rules.specs.Deeds.{Home, with_two, single, exception_number}
use Rattle.code_rules.specs.Numbered.{IsStatement, IsBlock, assign_code}
use Rattle.expanded_text.specs.Clocked as form
use Rattle.expanded_text.specs.Clocked.{Reset, count_name, reset_name, is_kept, has_kept, Avoids, tested, target_of, test_form, tests_form, count_form}
use Rattle.laws_clocked.specs.Ticks.{Test, numbers, IsTest, AreTests}
use Rattle.laws_clocked.specs.Coded.{IsTestOf}
use Rattle.laws_clocked.proofs.Lookups.{none_left, none_right, not_count, turned}
use Rattle.laws_clocked.proofs.Reading.{first_is, coded_is, block_is}
use Rattle.laws_clocked.proofs.Variables.{IsVariable, read_at, stored_at, variable_typed, variable_stored}

-- ---- what a test reads

abbrev with_level : Option Typed → Bool → Option Term
with_level x v = term_made (value_if (both (binary_term op.Equal) x (Some (record { type_ = t.Bool; term = code.literal (value.Bool v) }))))

abbrev asked : NameUse → Bool → Term
asked n v = code.binary op.Equal type.Bool (code.name n) (code.literal (value.Bool v))

same_term : (x y : Term) → Some x ≡ Some y → y ≡ x
same_term x y e = cc

by_kind : (n : NameUse) (v : Bool) (k : ExpressionType) (x : Term) → with_level (Some (record { type_ = k; term = code.name n })) v ≡ Some x → x ≡ asked n v
by_kind n v t.Free x e = cc
by_kind n v t.Signed x e = cc
by_kind n v t.Unsigned x e = cc
by_kind n v t.Bool x e = same_term (asked n v) x e
by_kind n v t.Logic x e = cc
by_kind n v (t.Vector width) x e = cc
by_kind n v t.Time x e = cc
by_kind n v t.Process x e = cc
by_kind n v t.Payload x e = cc

by_value : (n : NameUse) (v : Bool) (o : Option ExpressionType) (x : Term) → with_level (typed o (name_term n None o)) v ≡ Some x → x ≡ asked n v
by_value n v None x e = cc
by_value n v (Some k) x e = by_kind n v k x e

no_term : (o : Option ExpressionType) → typed o None ≡ None
no_term None = refl
no_term (Some k) = refl

test_reads : (u : Option NameUse) (m : Option Meaning) (v : Bool) (x : Term) → with_level (typed (type_seen (types.object_if m)) (term_made (object_if None u m))) v ≡ Some x → (n : NameUse) × (u ≡ Some n) × (x ≡ asked n v)
test_reads u None v x e = cc
test_reads None (Some m) v x e = let no : None ≡ Some x = sym (ap (λ o. with_level o v) (no_term (value_of m))) ∙ e in cc
test_reads (Some n) (Some m) v x e = (n, refl, by_value n v (value_of m) x e)

-- ---- the count

-- the variable of a tick is visible, with this number
abbrev pub Counts : Scope → ℕ → Type 0
Counts s k = IsVariable s count_name k (type.Uint 32)

-- what lowers it
abbrev pub less_one : ℕ → code.Statement
less_one k = code.assign (code.to_name (stored_at k (type.Uint 32))) (code.binary op.Subtract (type.Uint 64) (read_at k) (code.literal (value.Uint 64 1)))

lowered : (s : Scope) (k : ℕ) (at : ℕ → ℕ) → Counts s k
    → assign_code s (target_of count_name) (tree.binary op.Subtract (tree.named (at 1) count_name) (tree.number (at 2) 1)) ≡ Some (less_one k ∷ [])
lowered s k at c =
    let e : term_of s (tree.binary op.Subtract (tree.named (at 1) count_name) (tree.number (at 2) 1)) ≡ Some (code.binary op.Subtract (type.Uint 64) (read_at k) (code.literal (value.Uint 64 1))) =
    ap (λ x. term_made (value_if (both (binary_term op.Subtract) x (Some (record { type_ = t.Free; term = number 1 }))))) (variable_typed s count_name k (type.Uint 32) c (at 1)) in
    ap (λ x. single (with_two code.assign x (term_of s (tree.binary op.Subtract (tree.named (at 1) count_name) (tree.number (at 2) 1))))) (variable_stored s count_name k (type.Uint 32) c)
    ∙ ap (λ x. single (with_two code.assign (Some (code.to_name (stored_at k (type.Uint 32)))) x)) e

-- ---- the tests

module _ (h : Home) (a : Arena) (e : ℕ) (numbered : exception_number h reset_name ≡ Some e) where
  record OneTest (s : Scope) (r : Reset) (ids rest : List ℕ) : Type 0 where
    pub test : Test
    pub numbers : ids ≡ test.test ∷ rest
    pub is : IsTest a test
    pub of : IsTestOf s e r test

  one_test : (s : Scope) (at : ℕ → ℕ) (r : Reset) (ids rest : List ℕ) → IsStatement (test_form at r) h a s ids rest → OneTest s r ids rest
  one_test s at r ids rest k =
      let reads = test_reads (use_of s r.signal) (meaning_of s r.signal) r.level k.0 k.3 in
      let first = first_is a (code.if_ k.0 k.1 k.2) ids rest k.4 in
      let thrown = coded_is a (single (option_map code.throw (exception_number h reset_name))) (code.throw e) k.5.0 k.5.2.0 (ap (λ o. single (option_map code.throw o)) numbered) k.5.2.1 in
      record {
        test = record { test = first.number; is_at_level = k.0; block = k.1; throws = thrown.number; exception = e };
        numbers = first.numbers;
        is = record {
          left = code.name reads.0;
          right = code.literal (value.Bool r.level);
          of_type = type.Bool;
          compares = reads.2;
          tests = first.found ∙ ap (λ o. Some (code.if_ k.0 k.1 o)) k.6;
          inside = block_is a k.1 k.5.0 k.5.1 ∙ thrown.numbers ∙ ap (λ (xs : List ℕ). thrown.number ∷ xs) k.5.2.2;
          throw = thrown.found;
        };
        of = record { reads = reads.0; stands_for = reads.1; asks = reads.2; throws = refl };
      }

  -- a round of the loop behind its wait, at a place s; the tests are those of the place of the tick
  pub record Rounds (tick : Scope) (k : ℕ) (rs : List Reset) (ids : List ℕ) : Type 0 where
    pub tests : List Test
    pub lowers : ℕ
    pub numbers : ids ≡ numbers tests ++ lowers ∷ []
    pub are : AreTests a tests
    pub of : AllZip (IsTestOf tick e) rs tests
    pub lowering : statement_at a lowers ≡ Some (less_one k)

  abbrev pub SameUses : Scope → Scope → Type 0
  SameUses s tick = (x : List ℕ) → bytes_eq count_name x ≡ false → use_of s x ≡ use_of tick x

  moved_test : (s tick : Scope) (r : Reset) (x : Test) → use_of s r.signal ≡ use_of tick r.signal → IsTestOf s e r x → IsTestOf tick e r x
  moved_test s tick r x same i = record { reads = i.reads; stands_for = sym same ∙ i.stands_for; asks = i.asks; throws = i.throws }

  pub rounds : (tick s : Scope) (k : ℕ) → Counts s k → SameUses s tick → (at last : ℕ → ℕ) (rs : List Reset) (ids : List ℕ) → Avoids (tested rs)
      → IsBlock (tests_form at rs (count_form last)) h a s ids → Rounds tick k rs ids
  rounds tick s k c same at last [] ids others read =
      let low = coded_is a (assign_code s (target_of count_name) (tree.binary op.Subtract (tree.named (last 1) count_name) (tree.number (last 2) 1))) (less_one k) ids read.0 (lowered s k last c) read.1 in
      record { tests = []; lowers = low.number; numbers = low.numbers ∙ ap (λ (xs : List ℕ). low.number ∷ xs) read.2; are = tt; of = tt; lowering = low.found }
  rounds tick s k c same at last (r ∷ rs) ids others read =
      let one = one_test s at r ids read.0 read.1 in
      let apart = none_left (is_kept r.signal) (has_kept (tested rs)) others in
      let more = rounds tick (behind (test_form at r) s) k (record { stands = c.stands; means = c.means }) same (form.behind at 4) last rs read.0 (none_right (is_kept r.signal) (has_kept (tested rs)) others) read.2 in
      record {
        tests = one.test ∷ more.tests;
        lowers = more.lowers;
        numbers = one.numbers ∙ ap (λ (xs : List ℕ). one.test.test ∷ xs) more.numbers;
        are = (one.is, more.are);
        of = (moved_test s tick r one.test (same r.signal (turned r.signal count_name (not_count r.signal apart))) one.of, more.of);
        lowering = more.lowering;
      }
