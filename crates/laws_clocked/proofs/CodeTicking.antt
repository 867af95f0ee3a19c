-- A tick of a tree, as it is read.
use Rattle.std.proofs.Common.{◌≡◌, ◌&&◌, ◌^◌, ◌<◌, ◌≤◌, ℕ, Bool, true, false, List, ◌∷◌, Some, None, refl, sym, ap, ◌∙◌, arith}
use Rattle.std.specs.Prelude.{nat_le}
use Rattle.std.specs.List.{AllZip}
use Rattle.std.proofs.lemmas.Bool.{leb-true}
use Rattle.code_rules.specs.LogicValues.declared.kinds.Value.TheVariants as value
use Rattle.code_rules.specs.ModelTree.Tree as tree
use Rattle.code_rules.specs.ModelTree.declared.expressions.BinaryOp.TheVariants as op
use Rattle.code_rules.specs.ModelTree.declared.types.TypeForm.TheVariants as type_form
use Rattle.code_rules.specs.FlatDesign.Code as code
use Rattle.code_rules.specs.FlatDesign.Code.{Arena, Term}
use Rattle.code_rules.specs.FlatDesign.declared.value_types.ValueType.TheVariants as type
use Rattle.code_rules.specs.ModelRules.Meanings.{variable_type}
use Rattle.code_rules.specs.ModelRules.Scopes.{Scope, local_named, with_local}
use Rattle.code_rules.specs.ModelRules.Operators.{both}
use Rattle.code_rules.specs.ModelRules.declared.meanings.ExpressionType.TheVariants as t
use Rattle.code_rules.specs.Terms.{term_made, term_of, value_if, binary_term, number}
use Rattle.code_rules.specs.Deeds.{Home, exception_number, action_code}
use Rattle.code_rules.specs.Numbered.{IsStatement, var_code}
use Rattle.expanded_text.specs.Clocked as form
use Rattle.expanded_text.specs.Clocked.{Tick, count_name, reset_name, Avoids, tested, plain_type, tick_form}
use Rattle.laws_clocked.specs.Ticks as coded
use Rattle.laws_clocked.specs.Ticks.{HasTick, behind, numbers}
use Rattle.laws_clocked.specs.Coded.{IsTestOf}
use Rattle.laws_clocked.proofs.Lookups.{declared_as, behind-new, use-behind}
use Rattle.laws_clocked.proofs.Reading.{first_is, coded_is, block_is}
use Rattle.laws_clocked.proofs.Variables.{variable_is, read_at, variable_typed}
use Rattle.laws_clocked.proofs.Tests.{Counts, rounds}

and_right : (b c : Bool) → (b && c) ≡ true → c ≡ true
and_right true c e = e
and_right false c e = cc

in_range : (n : ℕ) → (nat_le 1 n && nat_le n 4294967295) ≡ true → n < 2 ^ 32
in_range n e = let most : n ≤ 4294967295 = leb-true n 4294967295 (and_right (nat_le 1 n) (nat_le n 4294967295) e) in omega arith

same_term : (x y : Term) → Some x ≡ Some y → y ≡ x
same_term x y e = cc

-- behind the declaration of the count it is visible
counted : (s : Scope) (line : ℕ) → local_named s count_name ≡ None → Counts (with_local s count_name (plain_type line (type_form.Uint 32))) s.count
counted s line free =
    let count_type = plain_type line (type_form.Uint 32) in
    variable_is (with_local s count_name count_type) count_name (declared_as s count_name count_type) (type.Uint 32) (behind-new s count_name count_type refl free) refl

compared : (s : Scope) (k : ℕ) (at : ℕ → ℕ) → Counts s k
    → term_of s (tree.binary op.Greater (tree.named (at 1) count_name) (tree.number (at 2) 0)) ≡ Some (code.binary op.Greater (type.Uint 64) (read_at k) (code.literal (value.Uint 64 0)))
compared s k at c = ap (λ x. term_made (value_if (both (binary_term op.Greater) x (Some (record { type_ = t.Free; term = number 0 }))))) (variable_typed s count_name k (type.Uint 32) c (at 1))

module _ (h : Home) (a : Arena) (e : ℕ) (numbered : exception_number h reset_name ≡ Some e) where
  -- a tick of the code that is read from one of the tree, at a place
  pub record Ticking (s : Scope) (x : Tick) (ids rest : List ℕ) : Type 0 where
    pub tick : coded.Tick
    pub numbers : ids ≡ tick.whole ∷ rest
    pub has : HasTick a tick
    pub edges : tick.edges ≡ x.edges
    pub local : tick.local ≡ s.count
    pub tests : AllZip (IsTestOf s e) x.resets tick.tests

  pub ticking : (s : Scope) (at : ℕ → ℕ) (x : Tick) (ids rest : List ℕ) → local_named s count_name ≡ None → (nat_le 1 x.edges && nat_le x.edges 4294967295) ≡ true → Avoids (tested x.resets)
      → IsStatement (tick_form at x) h a s ids rest → Ticking s x ids rest
  ticking s at x ids rest free counts others k =
      let count_type = plain_type (at 3) (type_form.Uint 32) in
      let after = with_local s count_name count_type in
      let c = counted s (at 3) free in
      let first = first_is a (code.if_ k.0 k.1 k.2) ids rest k.4 in
      let inside = k.5.2 in
      let declares = coded_is a (var_code s (variable_type count_type) (Some (tree.number (at 4) x.edges))) (code.var s.count (type.Uint 32) (Some (code.literal (value.Int 64 x.edges)))) k.5.0 inside.0 refl inside.1 in
      let loop = inside.2.1 in
      let loops = first_is a (code.while_ loop.0 loop.1) inside.0 inside.2.0 loop.3 in
      let round = loop.4 in
      let waits = coded_is a (action_code h after (tree.wait tree.static)) (code.wait code.static) round.0 round.2.0 refl round.2.1 in
      let rest_of = rounds h a e numbered s after s.count c (λ y apart. use-behind s count_name y count_type apart) (form.behind (form.behind at 5) 7) (form.behind (form.behind at 5) 4) x.resets round.2.0 others round.2.2 in
      record {
        tick = record {
          edges = x.edges;
          local = s.count;
          whole = first.number;
          inside = k.1;
          declares = declares.number;
          loops = loops.number;
          round = loop.1;
          waits = waits.number;
          tests = rest_of.tests;
          lowers = rest_of.lowers;
        };
        numbers = first.numbers;
        has = record {
          fits = in_range x.edges counts;
          whole = first.found ∙ ap (λ o. Some (code.if_ k.0 k.1 o)) k.6 ∙ ap (λ y. Some (code.if_ y k.1 None)) (same_term (code.literal (value.Bool true)) k.0 k.3);
          inside = block_is a k.1 k.5.0 k.5.1 ∙ declares.numbers ∙ ap (λ (xs : List ℕ). declares.number ∷ xs) loops.numbers ∙ ap (λ (xs : List ℕ). declares.number ∷ loops.number ∷ xs) inside.2.2;
          first = value.Int 64 x.edges;
          edges = refl;
          declares = declares.found;
          zero_width = 64;
          zero = value.Uint 64 0;
          is_zero = refl;
          loops = loops.found ∙ ap (λ y. Some (code.while_ y loop.1)) (same_term (code.binary op.Greater (type.Uint 64) (read_at s.count) (code.literal (value.Uint 64 0))) loop.0 (sym (compared after s.count (form.behind at 5) c) ∙ loop.2));
          round = block_is a loop.1 round.0 round.1 ∙ waits.numbers ∙ ap (λ (xs : List ℕ). waits.number ∷ xs) rest_of.numbers;
          waits = waits.found;
          tests = rest_of.are;
          one_width = 64;
          unit = value.Uint 64 1;
          is_one = refl;
          lowers = rest_of.lowering;
        };
        edges = refl;
        local = refl;
        tests = rest_of.of;
      }
