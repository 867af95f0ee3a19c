-- That numbered blocks of numbered statements are those of a tree, at a place of it.
use Rattle.std.specs.Prelude.{◌≡◌, ℕ, List, [], ◌∷◌, slice_get, Option, Some, None}
use Rattle.model_rules.specs.ModelTree.Tree as tree
use Rattle.model_rules.specs.FlatDesign.Code as code
use Rattle.model_rules.specs.FlatDesign.Code.{Arena, Term, statement_at}
use Rattle.model_rules.specs.FlatDesign.declared.value_types.ValueType.{ValueType}
use Rattle.model_rules.specs.FlatDesign.declared.code.Handler.{Handler}
use Rattle.model_rules.specs.FlatDesign.declared.code.Store.{Store}
use Rattle.model_rules.specs.Meanings.{variable_type}
use Rattle.model_rules.specs.Scopes.{Scope, locals_in_block, past, behind, in_unwind}
use Rattle.model_rules.specs.Targets.{destination_of}
use Rattle.code_rules.specs.Terms.{term_of}
use Rattle.code_rules.specs.Deeds.{Home, with_two, if_written, single, store, destination_term, operation_code, action_code, exception_number}

-- the block of this number
abbrev pub AtBlock : Arena → ℕ → (List ℕ → Type 0) → Type 0
AtBlock a b P = (ids : List ℕ) × (slice_get a.blocks b ≡ Some ids) × P ids

-- these statements are the first of the numbers, which leave the rest
abbrev pub AreFirst : Arena → List code.Statement → List ℕ → List ℕ → Type 0
AreFirst a [] ids rest = ids ≡ rest
AreFirst a (f ∷ fs) ids rest = (i : ℕ) × (more : List ℕ) × (ids ≡ i ∷ more) × (statement_at a i ≡ Some f) × AreFirst a fs more rest

abbrev pub IsFirst : Arena → code.Statement → List ℕ → List ℕ → Type 0
IsFirst a f ids rest = AreFirst a (f ∷ []) ids rest

-- what code there is, is there
abbrev pub IsCoded : Arena → Option (List code.Statement) → List ℕ → List ℕ → Type 0
IsCoded a fs ids rest = (found : List code.Statement) × (fs ≡ Some found) × AreFirst a found ids rest

-- statements that hold no others

abbrev pub var_code : Scope → Option ValueType → Option tree.Expression → Option (List code.Statement)
var_code s t e = single (with_two (code.var s.count) t (if_written (term_of s) e))

abbrev pub assign_code : Scope → tree.Target → tree.Expression → Option (List code.Statement)
assign_code s target e = single (with_two code.assign (destination_term s target (destination_of s target)) (term_of s e))

abbrev pub operate_code : Home → Scope → Option (Option Store) → tree.Operation → Option (List code.Statement)
operate_code h s None o = None
operate_code h s (Some x) o = single (operation_code h s x o)

-- A statement is the first of the numbers, which leave the rest. Its blocks are read where their local variables are visible.
abbrev mutual
  pub IsStatement : tree.Statement → Home → Arena → Scope → List ℕ → List ℕ → Type 0
  IsStatement (tree.var line t name e) h a s ids rest = IsCoded a (var_code s (variable_type t) e) ids rest
  IsStatement (tree.assign line target e) h a s ids rest = IsCoded a (assign_code s target e) ids rest
  IsStatement (tree.operate line name at o) h a s ids rest = IsCoded a (operate_code h s (if_written (store s) name) o) ids rest
  IsStatement (tree.act line action) h a s ids rest = IsCoded a (action_code h s action) ids rest
  IsStatement (tree.if_ line e body other) h a s ids rest =
      (t : Term) × (b : ℕ) × (o : Option ℕ) × (term_of s e ≡ Some t) × IsFirst a (code.if_ t b o) ids rest
      × AtBlock a b (IsBlock body h a s) × IsElse other h a (past (locals_in_block body) s) o
  IsStatement (tree.while_ line e body) h a s ids rest =
      (t : Term) × (b : ℕ) × (term_of s e ≡ Some t) × IsFirst a (code.while_ t b) ids rest × AtBlock a b (IsBlock body h a s)
  IsStatement (tree.guard line body undo) h a s ids rest =
      (b : ℕ) × (u : ℕ) × IsFirst a (code.guard b u) ids rest
      × AtBlock a b (IsBlock body h a s) × AtBlock a u (IsBlock undo h a (in_unwind (past (locals_in_block body) s)))
  IsStatement (tree.try_ line body handlers) h a s ids rest =
      (b : ℕ) × (hs : List Handler) × IsFirst a (code.try_ b hs) ids rest
      × AtBlock a b (IsBlock body h a s) × AreHandlers handlers h a (past (locals_in_block body) s) hs

  -- the statements of a block are all of the numbers
  pub IsBlock : tree.Block → Home → Arena → Scope → List ℕ → Type 0
  IsBlock tree.over h a s ids = ids ≡ []
  IsBlock (tree.then x xs) h a s ids = (rest : List ℕ) × IsStatement x h a s ids rest × IsBlock xs h a (behind x s) rest

  pub IsElse : tree.Else → Home → Arena → Scope → Option ℕ → Type 0
  IsElse tree.no_else h a s o = o ≡ None
  IsElse (tree.else_block body) h a s o = (b : ℕ) × (o ≡ Some b) × AtBlock a b (IsBlock body h a s)

  pub AreHandlers : tree.Handlers → Home → Arena → Scope → List Handler → Type 0
  AreHandlers tree.no_more h a s hs = hs ≡ []
  AreHandlers (tree.handler name body more) h a s hs =
      (e : ℕ) × (b : ℕ) × (rest : List Handler) × (hs ≡ (record { exception = e; block = b }) ∷ rest) × (exception_number h name ≡ Some e)
      × AtBlock a b (IsBlock body h a s) × AreHandlers more h a (past (locals_in_block body) s) rest
