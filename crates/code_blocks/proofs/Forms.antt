-- Statements by their parts: how each is read, and that its inner blocks are there.
use Rattle.std.proofs.Common.{◌≡◌, ◌<◌, ℕ, List, [], ◌∷◌, ◌++◌, length, map, Option, Some, refl, sym, ap, ◌∙◌, subst, append_assoc}
use Rattle.std.specs.List.{AllByRecursion}
use Rattle.std.proofs.lemmas.Option.{slice_get_within}
use Rattle.model_tree.specs.Tree as tree
use Rattle.flat_design.specs.Code as code
use Rattle.flat_design.specs.Code.{Arena, Term, statement_at}
use Rattle.flat_design.specs.Reach.{listed}
use Rattle.flat_design.specs.declared.code.Handler.{Handler}
use Rattle.code_deeds.specs.ModelRules.Scopes.{Scope, in_unwind, locals_in_block, past}
use Rattle.code_deeds.specs.CodeRules.Terms.{term_of}
use Rattle.code_deeds.specs.CodeRules.Deeds.{Home}
use Rattle.code_deeds.specs.CodeRules.Numbered.{AreHandlers, AtBlock, IsBlock, IsCoded, IsElse, IsStatement}
use Rattle.laws_code.proofs.Plain.{HasNoBlocks, NoneHasBlocks, Only}
use Rattle.code_blocks.specs.declared.laid.Laid.{Laid}
use Rattle.code_blocks.specs.Laid.{Adds, Forms, FromNowOn, Grows, InnerBelow}
use Rattle.code_blocks.proofs.Growth.{alone, begins_alone, block_there}

-- statements that hold no others

pub none_inner : (n : ℕ) (f : code.Statement) → HasNoBlocks f → InnerBelow n f
none_inner n f none = subst (AllByRecursion (λ j. j < n)) (sym none) tt

pub one_plain : (n : ℕ) (f : code.Statement) → Only NoneHasBlocks (Some (f ∷ [])) → InnerBelow n f
one_plain n f plain = none_inner n f (plain (f ∷ []) refl).0

pub two_plain : (n m : ℕ) (f g : code.Statement) → Only NoneHasBlocks (Some (f ∷ g ∷ [])) → InnerBelow n f × InnerBelow m g
two_plain n m f g plain = (none_inner n f (plain (f ∷ g ∷ []) refl).0, none_inner m g (plain (f ∷ g ∷ []) refl).1.0)

pub one_code : (l : Laid) (old new : List ℕ) (f : code.Statement) (i : ℕ) → new ≡ old ++ i ∷ [] → FromNowOn l (λ a. statement_at a i ≡ Some f) → Adds l old new (λ a ids rest. IsCoded a (Some (f ∷ [])) ids rest)
one_code l old new f i grown at = (i ∷ [], grown, λ a begins rest. (f ∷ [], refl, (i, rest, refl, at a begins, refl)))

pub two_code : (mid l : Laid) (old between new : List ℕ) (f g : code.Statement) (i j : ℕ) → between ≡ old ++ i ∷ [] → new ≡ between ++ j ∷ [] → Grows mid l
    → FromNowOn mid (λ a. statement_at a i ≡ Some f) → FromNowOn l (λ a. statement_at a j ≡ Some g)
    → Adds l old new (λ a ids rest. IsCoded a (Some (f ∷ g ∷ [])) ids rest)
two_code mid l old between new f g i j first second grows at_first at_second = (
  i ∷ j ∷ [],
  second ∙ ap (λ ns. ns ++ j ∷ []) first ∙ append_assoc old (i ∷ []) (j ∷ []),
  λ a begins rest. (f ∷ g ∷ [], refl, (i, j ∷ rest, refl, at_first a (grows a begins), (j, rest, refl, at_second a begins, refl))),
)

-- a statement that is numbered now
pub added : (mid l : Laid) (old new : List ℕ) (P : Arena → List ℕ → List ℕ → Type 0) (f : code.Statement) (i : ℕ) → Grows mid l → Forms mid f P → new ≡ old ++ i ∷ [] → FromNowOn l (λ a. statement_at a i ≡ Some f) → Adds l old new P
added mid l old new P f i grows form grown at = (i ∷ [], grown, λ a begins rest. form a (grows a begins) (i ∷ rest) rest (i, rest, refl, at a begins, refl))

-- blocks that are there

later_there : (mid l : Laid) (b : ℕ) (P : Arena → List ℕ → Type 0) → Grows mid l → FromNowOn mid (λ a. AtBlock a b (P a)) → b < length l.blocks
later_there mid l b P grows h = block_there l b P (λ a begins. h a (grows a begins))

else_there : (h : Home) (a : Arena) (other : tree.Else) (s : Scope) (o : Option ℕ) → IsElse other h a s o → AllByRecursion (λ j. j < length a.blocks) (listed o)
else_there h a tree.no_else s o none = subst (λ (x : Option ℕ). AllByRecursion (λ j. j < length a.blocks) (listed x)) (sym none) tt
else_there h a (tree.else_block body) s o some = subst (λ (x : Option ℕ). AllByRecursion (λ j. j < length a.blocks) (listed x)) (sym some.1) (slice_get_within a.blocks some.0 some.2.0 some.2.1, tt)

handlers_there : (h : Home) (a : Arena) (hs : tree.Handlers) (s : Scope) (found : List Handler) → AreHandlers hs h a s found → AllByRecursion (λ j. j < length a.blocks) (map (λ (x : Handler). x.block) found)
handlers_there h a tree.no_more s found none = subst (λ (xs : List Handler). AllByRecursion (λ j. j < length a.blocks) (map (λ (x : Handler). x.block) xs)) (sym none) tt
handlers_there h a (tree.handler name body more) s found (e, b, rest, is, number, at, others) =
    subst (λ (xs : List Handler). AllByRecursion (λ j. j < length a.blocks) (map (λ (x : Handler). x.block) xs)) (sym is) (slice_get_within a.blocks b at.0 at.1, handlers_there h a more (past (locals_in_block body) s) rest others)

module _ (h : Home) (s : Scope) (mid l : Laid) (grows : Grows mid l) (body : tree.Block) (b : ℕ) (block : FromNowOn mid (λ a. AtBlock a b (IsBlock body h a s))) where
  -- `if`
  module _ (e : tree.Expression) (other : tree.Else) (t : Term) (o : Option ℕ) (more : FromNowOn l (λ a. IsElse other h a (past (locals_in_block body) s) o)) where
    pub if_inner : InnerBelow (length l.blocks) (code.if_ t b o)
    if_inner = (later_there mid l b (λ a. IsBlock body h a s) grows block, else_there h (alone l) other (past (locals_in_block body) s) o (more (alone l) (begins_alone l)))

    pub if_laid : (line : ℕ) → term_of s e ≡ Some t → Forms l (code.if_ t b o) (λ a ids rest. IsStatement (tree.if_ line e body other) h a s ids rest)
    if_laid line is = λ a begins ids rest first. (t, b, o, is, first, block a (grows a begins), more a begins)

  -- `guard`
  module _ (undo : tree.Block) (u : ℕ) (more : FromNowOn l (λ a. AtBlock a u (IsBlock undo h a (in_unwind (past (locals_in_block body) s))))) where
    pub guard_inner : InnerBelow (length l.blocks) (code.guard b u)
    guard_inner = (later_there mid l b (λ a. IsBlock body h a s) grows block, (block_there l u (λ a. IsBlock undo h a (in_unwind (past (locals_in_block body) s))) more, tt))

    pub guard_laid : (line : ℕ) → Forms l (code.guard b u) (λ a ids rest. IsStatement (tree.guard line body undo) h a s ids rest)
    guard_laid line = λ a begins ids rest first. (b, u, first, block a (grows a begins), more a begins)

  -- `try`
  module _ (handlers : tree.Handlers) (hs : List Handler) (more : FromNowOn l (λ a. AreHandlers handlers h a (past (locals_in_block body) s) hs)) where
    pub try_inner : InnerBelow (length l.blocks) (code.try_ b hs)
    try_inner = (later_there mid l b (λ a. IsBlock body h a s) grows block, handlers_there h (alone l) handlers (past (locals_in_block body) s) hs (more (alone l) (begins_alone l)))

    pub try_laid : (line : ℕ) → Forms l (code.try_ b hs) (λ a ids rest. IsStatement (tree.try_ line body handlers) h a s ids rest)
    try_laid line = λ a begins ids rest first. (b, hs, first, block a (grows a begins), more a begins)

-- `while`
module _ (h : Home) (s : Scope) (l : Laid) (body : tree.Block) (b : ℕ) (block : FromNowOn l (λ a. AtBlock a b (IsBlock body h a s))) (t : Term) where
  pub while_inner : InnerBelow (length l.blocks) (code.while_ t b)
  while_inner = (block_there l b (λ a. IsBlock body h a s) block, tt)

  pub while_laid : (line : ℕ) (e : tree.Expression) → term_of s e ≡ Some t → Forms l (code.while_ t b) (λ a ids rest. IsStatement (tree.while_ line e body) h a s ids rest)
  while_laid line e is = λ a begins ids rest first. (t, b, is, first, block a begins)
