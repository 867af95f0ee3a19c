-- What a design has beside code that reads back as its model's: nothing stands outside its bodies, and the handlers of its hops
-- are functions that sockets name.
use Rattle.std.specs.Prelude.{◌≡◌, ℕ, Bool, true, List, slice_get, Some}
use Rattle.code_rules.specs.ModelTree.Tree as tree
use Rattle.code_rules.specs.FlatDesign.Code.{Statement, arena_of, body_at}
use Rattle.code_rules.specs.FlatDesign.Reach.{IsIn, InBody}
use Rattle.code_rules.specs.FlatDesign.Sound.{IsNonblockingHandler, IsAnyHandler}
use Rattle.code_rules.specs.FlatDesign.declared.code.BodyKind.TheVariants as body_kind
use Rattle.code_rules.specs.FlatDesign.declared.code.CodeBody.{CodeBody}
use Rattle.code_rules.specs.FlatDesign.declared.design.Design.{Design}
use Rattle.code_rules.specs.ModelRules.Reach.{is_nonblocking_handler, is_handler}

-- a statement stands in some body of the code
pub record IsInSomeBody (d : Design) (s : Statement) : Type 0 where
  pub function : ℕ
  pub body : CodeBody
  pub found : body_at (arena_of d.code) function ≡ Some body
  pub stands : InBody (arena_of d.code) body s

-- so does each of a block
abbrev pub StatementsStand : Design → Type 0
StatementsStand d = (b : ℕ) (s : Statement) → IsIn (arena_of d.code) b s → IsInSomeBody d s

-- a body is that of a function, whose name passes a test among the items of its module
pub record IsNamedBy (m : tree.Model) (test : List tree.Item → List ℕ → Bool) (b : CodeBody) : Type 0 where
  pub module_around : tree.Module
  pub is_function : b.kind ≡ body_kind.Function
  pub there : slice_get m.modules b.module_place ≡ Some module_around
  pub named : test module_around.items b.name ≡ true

-- each handler of a hop is a function that a socket of its module names as one
pub record HandlersStand (m : tree.Model) (d : Design) : Type 0 where
  pub nonblocking : (f : ℕ) (b : CodeBody) → IsNonblockingHandler d f → body_at (arena_of d.code) f ≡ Some b → IsNamedBy m is_nonblocking_handler b
  pub all : (f : ℕ) (b : CodeBody) → IsAnyHandler d f → body_at (arena_of d.code) f ≡ Some b → IsNamedBy m is_handler b
