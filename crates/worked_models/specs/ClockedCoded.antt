-- What the code of a model that the texts become has.
use Rattle.std.specs.Prelude.{◌≡◌, ℕ, true, [], ◌∷◌}
use Rattle.code_rules.specs.LogicValues.declared.kinds.Value.TheVariants as value
use Rattle.code_rules.specs.ModelTree.declared.expressions.BinaryOp.TheVariants as op
use Rattle.code_rules.specs.FlatDesign.Code as code
use Rattle.code_rules.specs.FlatDesign.Code.{Arena}
use Rattle.code_rules.specs.FlatDesign.declared.names.NameUse.TheVariants as name_use
use Rattle.code_rules.specs.FlatDesign.declared.value_types.ValueType.TheVariants as type
use Rattle.laws_clocked.specs.Ticks.{Tick, Test, HasTick}

-- a tick of n edges, with one test: whether what the module declares at this place is true
pub record HasTickWith (a : Arena) (n place : ℕ) : Type 0 where
  pub tick : Tick
  pub has : HasTick a tick
  pub edges : tick.edges ≡ n
  pub test : Test
  pub alone : tick.tests ≡ test ∷ []
  pub asks : test.is_at_level ≡ code.binary op.Equal type.Bool (code.name (name_use.Declared place)) (code.literal (value.Bool true))
