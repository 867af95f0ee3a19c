-- Statements, blocks and bodies that have code, each at its place of a model.
use Rattle.std.specs.Prelude.{◌≡◌, ℕ, ◌+◌, true, ⊤, List, [], ◌∷◌, is_some, Option, Some, None}
use Rattle.std.specs.List.{AllByRecursion}
use Rattle.code_rules.specs.ModelTree.Tree as tree
use Rattle.code_rules.specs.ModelTree.declared.types.VarType.{VarType}
use Rattle.code_rules.specs.ModelRules.Meanings.{variable_type}
use Rattle.code_rules.specs.ModelRules.Scopes.{Scope, item_scope, with_parameters, place_of, locals_in_block, past, behind, in_unwind}
use Rattle.code_rules.specs.Terms.{term_of}
use Rattle.code_rules.specs.Deeds.{Home, if_written, store, action_code, exception_number}
use Rattle.code_rules.specs.Numbered.{var_code, assign_code, operate_code}
use Rattle.code_rules.specs.Bodies as source
use Rattle.code_rules.specs.Bodies.{LocalSource, Source, source_of, source_locals, source_answer, around_item, body_count, exceptions_of}

abbrev pub IsThere : {A : Type 0} → Option A → Type 0
IsThere x = is_some x ≡ true

-- exceptions that have numbers
abbrev pub AreNumbered : Home → List (List ℕ) → Type 0
AreNumbered h names = AllByRecursion (λ name. IsThere (exception_number h name)) names

-- A statement has code: one that holds no others by what it is made into, any other by its condition, its handlers' exceptions
-- and its blocks, each where its local variables are visible.
abbrev mutual
  pub HasCode : tree.Statement → Home → Scope → Type 0
  HasCode (tree.var line t name e) h s = IsThere (var_code s (variable_type t) e)
  HasCode (tree.assign line target e) h s = IsThere (assign_code s target e)
  HasCode (tree.operate line name at o) h s = IsThere (operate_code h s (if_written (store s) name) o)
  HasCode (tree.act line a) h s = IsThere (action_code h s a)
  HasCode (tree.if_ line e body other) h s = IsThere (term_of s e) × BlockHasCode body h s × ElseHasCode other h (past (locals_in_block body) s)
  HasCode (tree.while_ line e body) h s = IsThere (term_of s e) × BlockHasCode body h s
  HasCode (tree.guard line body undo) h s = BlockHasCode body h s × BlockHasCode undo h (in_unwind (past (locals_in_block body) s))
  HasCode (tree.try_ line body handlers) h s = BlockHasCode body h s × HandlersHaveCode handlers h (past (locals_in_block body) s)

  pub BlockHasCode : tree.Block → Home → Scope → Type 0
  BlockHasCode tree.over h s = ⊤
  BlockHasCode (tree.then x xs) h s = HasCode x h s × BlockHasCode xs h (behind x s)

  pub ElseHasCode : tree.Else → Home → Scope → Type 0
  ElseHasCode tree.no_else h s = ⊤
  ElseHasCode (tree.else_block body) h s = BlockHasCode body h s

  pub HandlersHaveCode : tree.Handlers → Home → Scope → Type 0
  HandlersHaveCode tree.no_more h s = ⊤
  HandlersHaveCode (tree.handler name body more) h s =
      IsThere (exception_number h name) × BlockHasCode body h s × HandlersHaveCode more h (past (locals_in_block body) s)

-- types that are known: of local variables, and of an answer
abbrev pub LocalsHaveTypes : List LocalSource → Type 0
LocalsHaveTypes xs = AllByRecursion (λ (x : LocalSource). IsThere (variable_type x.1)) xs

abbrev pub AnswerHasType : Option VarType → Type 0
AnswerHasType None = ⊤
AnswerHasType (Some t) = IsThere (variable_type t)

-- the block of a body has code; a clock has its signal
abbrev pub SourceHasCode : Source → Home → Scope → Type 0
SourceHasCode (source.of_function f) h s = BlockHasCode f.body h (with_parameters (record s { answer = f.answer }) f.parameters)
SourceHasCode (source.of_process p) h s = BlockHasCode p.body h s
SourceHasCode (source.of_clock c) h s = IsThere (place_of s c.name)

-- what a body is that of has all that the body is made of
pub record BodyHasCode (h : Home) (s : Scope) (x : Source) : Type 0 where
  pub locals : LocalsHaveTypes (source_locals x)
  pub answer : AnswerHasType (source_answer x)
  pub statements : SourceHasCode x h s

abbrev pub BodyIfHasCode : Home → Scope → Option Source → Type 0
BodyIfHasCode h s None = ⊤
BodyIfHasCode h s (Some x) = BodyHasCode h s x

abbrev pub ItemsHaveCode : List tree.Module → List tree.Item → Home → List tree.Item → Type 0
ItemsHaveCode modules all h [] = ⊤
ItemsHaveCode modules all h (i ∷ is) = BodyIfHasCode h (item_scope modules all (around_item i)) (source_of i) × ItemsHaveCode modules all h is

-- the modules from one on whose first body has this number
abbrev pub ModulesHaveCode : List tree.Module → List (List ℕ) → ℕ → List tree.Module → Type 0
ModulesHaveCode modules exceptions first [] = ⊤
ModulesHaveCode modules exceptions first (m ∷ ms) =
    ItemsHaveCode modules m.items (record { first_body = first; exceptions = exceptions }) m.items
    × ModulesHaveCode modules exceptions (first + body_count m.items) ms

abbrev pub ModelHasCode : tree.Model → Type 0
ModelHasCode m = ModulesHaveCode m.modules (exceptions_of m) 0 m.modules
