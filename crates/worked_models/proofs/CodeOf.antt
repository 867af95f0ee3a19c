-- The ticks of the model whose thread is reset at an edge, in its code.
use Rattle.std.proofs.Common.{◌≡◌, ℕ, true, List, [], ◌∷◌, Some, None, option_map, refl, sym, ap, ◌∙◌, subst}
use Rattle.std.specs.Prelude.{codes, position}
use Rattle.std.specs.List.{AllZip}
use Rattle.std.specs.Option.{option_or}
use Rattle.code_rules.specs.LogicValues.declared.kinds.Value.TheVariants as value
use Rattle.code_rules.specs.ModelTree.declared.expressions.BinaryOp.TheVariants as op
use Rattle.code_rules.specs.ModelTree.Tree as tree
use Rattle.code_rules.specs.FlatDesign.Code as code
use Rattle.code_rules.specs.FlatDesign.Code.{Arena}
use Rattle.code_rules.specs.FlatDesign.declared.value_types.ValueType.TheVariants as type
use Rattle.code_rules.specs.FlatDesign.declared.names.NameUse.{NameUse}
use Rattle.code_rules.specs.FlatDesign.declared.names.NameUse.TheVariants as name_use
use Rattle.code_rules.specs.ModelRules.Meanings.{declarations}
use Rattle.code_rules.specs.ModelRules.Scopes.{Scope, Local, is_declared, local_named, use_of}
use Rattle.expanded_text.specs.Clocked.{Tick}
use Rattle.laws_clocked.specs.Ticks as coded
use Rattle.laws_clocked.specs.Coded.{IsTestOf, NoneNamed, IsTickOf}
use Rattle.worked_models.specs.ClockedCoded.{HasTickWith}
use Rattle.worked_models.specs.ClockedTrees.{r_is_true}

same_use : (x y : NameUse) → Some x ≡ Some y → y ≡ x
same_use x y e = cc

-- a name that no variable hides is that of its place
declared_use : (s from : Scope) (name : List ℕ) (n : ℕ) → s.items ≡ from.items → local_named s name ≡ None → position (is_declared name) (declarations from.items) ≡ Some n → use_of s name ≡ Some (name_use.Declared n)
declared_use s from name n items free there =
    ap (λ o. option_or (option_map (λ (l : Local). name_use.Local l.number) o) (option_map name_use.Declared (position (is_declared name) (declarations s.items)))) free
    ∙ ap (λ (is : List tree.Item). option_map name_use.Declared (position (is_declared name) (declarations is))) items ∙ ap (λ o. option_map name_use.Declared o) there

module _ (a : Arena) (e : ℕ) (from : Scope) (body : tree.Block) (b n : ℕ) (there : position (is_declared (codes "r")) (declarations from.items) ≡ Some n) (free : local_named from (codes "r") ≡ None) (none : NoneNamed (codes "r") body) where
  with_tests : (t : Tick) (u : coded.Tick) (i : IsTickOf a e from body b t u) (xs : List coded.Test) → u.tests ≡ xs → AllZip (IsTestOf i.scope e) (r_is_true ∷ []) xs → HasTickWith a t.edges n
  with_tests t u i [] same k = absurd k
  with_tests t u i (x ∷ []) same k =
      let reads = same_use (name_use.Declared n) k.0.reads (sym (declared_use i.scope from (codes "r") n i.items (i.hides (codes "r") none free) there) ∙ k.0.stands_for) in
      record { tick = u; has = i.has; edges = i.edges; test = x; alone = same; asks = k.0.asks ∙ ap (λ q. code.binary op.Equal type.Bool (code.name q) (code.literal (value.Bool true))) reads }
  with_tests t u i (x ∷ y ∷ xs) same k = absurd k.1

  one_tick : (t : Tick) (u : coded.Tick) → t.resets ≡ r_is_true ∷ [] → IsTickOf a e from body b t u → HasTickWith a t.edges n
  one_tick t u alone i = with_tests t u i u.tests refl (subst (λ rs. AllZip (IsTestOf i.scope e) rs u.tests) alone i.tests)

  pub two_ticks : (t q : Tick) (us : List coded.Tick) → t.resets ≡ r_is_true ∷ [] → q.resets ≡ r_is_true ∷ [] → AllZip (IsTickOf a e from body b) (t ∷ q ∷ []) us → HasTickWith a t.edges n × HasTickWith a q.edges n
  two_ticks t q [] first second k = absurd k
  two_ticks t q (u ∷ []) first second k = absurd k.1
  two_ticks t q (u ∷ v ∷ []) first second k = (one_tick t u first k.0, one_tick q v second k.1.0)
  two_ticks t q (u ∷ v ∷ w ∷ us) first second k = absurd k.1.1
