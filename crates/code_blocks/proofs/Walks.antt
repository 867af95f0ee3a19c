-- The walk along the statements of a block, and along handlers.
use Rattle.std.proofs.Common.{◌≡◌, ℕ, ◌+◌, ◌<◌, List, [], ◌∷◌, ◌++◌, map, length, get_or, drop, Some, refl, sym, ap, ◌∙◌, subst, append_assoc}
use Rattle.std.specs.Prelude.{slice_get}
use Rattle.std.proofs.lemmas.List.{append-nil, at_drop_more}
use Rattle.model_tree.specs.Tree as tree
use Rattle.model_tree.specs.Views.{block_of, body_of, statement_of}
use Rattle.model_tree.specs.declared.statements.Statement.{Statement}
use Rattle.flat_design.specs.Code.{Arena}
use Rattle.flat_design.specs.declared.code.Handler.{Handler}
use Rattle.code_deeds.specs.ModelRules.Scopes.{Scope, behind, locals_in_block, locals_in_handlers, past}
use Rattle.code_deeds.specs.CodeRules.Deeds.{Home, exception_number}
use Rattle.code_deeds.specs.CodeRules.Numbered.{AreHandlers, AtBlock, IsBlock, IsStatement}
use Rattle.laws_code.specs.HasCode.{BlockHasCode, HandlersHaveCode, HasCode, IsThere}
use Rattle.check_statements.specs.Behind.{behind_all}
use Rattle.check_statements.proofs.Behind.{past_past}
use Rattle.code_blocks.specs.declared.laid.Laid.{Laid}
use Rattle.code_blocks.specs.Laid.{Adds, BeginsWith, FromNowOn, Grows}

-- the items around are the same behind a statement
pub same_items : (x : tree.Statement) (s : Scope) → (behind x s).items ≡ s.items
same_items (tree.var line t name e) s = refl
same_items (tree.assign line target e) s = refl
same_items (tree.operate line name at o) s = refl
same_items (tree.act line a) s = refl
same_items (tree.if_ line e body other) s = refl
same_items (tree.while_ line e body) s = refl
same_items (tree.guard line body undo) s = refl
same_items (tree.try_ line body handlers) s = refl

-- the statements from one on
pub next_statement : (ss : List Statement) (i : ℕ) (x : Statement) → i < length ss → x ≡ get_or ss i x → body_of (drop i ss) ≡ tree.then (statement_of x) (body_of (drop (i + 1) ss))
next_statement ss i x within is = ap block_of (at_drop_more (map statement_of) ss i x within ∙ ap (λ y. y ∷ map statement_of (drop (i + 1) ss)) (ap statement_of (sym is)))

-- a block from some of its statements on, at the place t with these numbers before
pub record AreBefore (h : Home) (whole : tree.Block) (s : Scope) (l : Laid) (here : tree.Block) (t : Scope) (ids : List ℕ) : Type 0 where
  pub moves : behind_all here t ≡ behind_all whole s
  pub coded : BlockHasCode here h t
  pub reads : (a : Arena) → BeginsWith l a → (rest : List ℕ) → IsBlock here h a t rest → IsBlock whole h a s (ids ++ rest)

module _ (h : Home) (whole : tree.Block) (s : Scope) where
  pub at_start : (l : Laid) → BlockHasCode whole h s → AreBefore h whole s l whole s []
  at_start l has = record { moves = refl; coded = has; reads = λ a begins rest block. block }

  module _ (old : Laid) (here : tree.Block) (t : Scope) (ids : List ℕ) (x : tree.Statement) (xs : tree.Block) (is : here ≡ tree.then x xs) (before : AreBefore h whole s old here t ids) where
    both_coded : HasCode x h t × BlockHasCode xs h (behind x t)
    both_coded = subst (λ (b : tree.Block). BlockHasCode b h t) is before.coded

    pub statement_coded : HasCode x h t
    statement_coded = both_coded.0

    pub one_more : (new : Laid) (u : Scope) (more : List ℕ) → Grows old new → u ≡ behind x t → Adds new ids more (λ a ns rest. IsStatement x h a t ns rest) → AreBefore h whole s new xs u more
    one_more new u more grows moved adds = record {
      moves = ap (behind_all xs) moved ∙ sym (ap (λ (b : tree.Block). behind_all b t) is) ∙ before.moves;
      coded = subst (BlockHasCode xs h) (sym moved) both_coded.1;
      reads = λ a begins rest block.
          let behind_x : IsBlock xs h a (behind x t) rest = subst (λ (v : Scope). IsBlock xs h a v rest) moved block in
          let both : IsBlock (tree.then x xs) h a t (adds.0 ++ rest) = (rest, adds.2 a begins rest, behind_x) in
          let all : IsBlock whole h a s (ids ++ (adds.0 ++ rest)) = before.reads a (grows a begins) (adds.0 ++ rest) (subst (λ (b : tree.Block). IsBlock b h a t (adds.0 ++ rest)) (sym is) both) in
          subst (IsBlock whole h a s) (sym (append_assoc ids adds.0 rest) ∙ ap (λ ns. ns ++ rest) (sym adds.1)) all;
    }

  pub at_end : (old new : Laid) (t : Scope) (ids : List ℕ) (b : ℕ) → AreBefore h whole s old tree.over t ids → Grows old new → FromNowOn new (λ a. slice_get a.blocks b ≡ Some ids) → FromNowOn new (λ a. AtBlock a b (IsBlock whole h a s))
  at_end old new t ids b before grows at = λ a begins. (ids, at a begins, subst (IsBlock whole h a s) (append-nil ids) (before.reads a (grows a begins) [] refl))

-- the same of handlers
pub record AreHandled (h : Home) (whole : tree.Handlers) (s : Scope) (l : Laid) (here : tree.Handlers) (t : Scope) (done : List Handler) : Type 0 where
  pub moves : past (locals_in_handlers here) t ≡ past (locals_in_handlers whole) s
  pub coded : HandlersHaveCode here h t
  pub reads : (a : Arena) → BeginsWith l a → (rest : List Handler) → AreHandlers here h a t rest → AreHandlers whole h a s (done ++ rest)

module _ (h : Home) (whole : tree.Handlers) (s : Scope) where
  pub handlers_start : (l : Laid) → HandlersHaveCode whole h s → AreHandled h whole s l whole s []
  handlers_start l has = record { moves = refl; coded = has; reads = λ a begins rest are. are }

  module _ (old : Laid) (here : tree.Handlers) (t : Scope) (done : List Handler) (name : List ℕ) (body : tree.Block) (xs : tree.Handlers) (is : here ≡ tree.handler name body xs) (before : AreHandled h whole s old here t done) where
    pub handler_coded : IsThere (exception_number h name) × BlockHasCode body h t × HandlersHaveCode xs h (past (locals_in_block body) t)
    handler_coded = subst (λ (x : tree.Handlers). HandlersHaveCode x h t) is before.coded

    pub handler_more : (new : Laid) (u : Scope) (more : List Handler) (e b : ℕ) → Grows old new → exception_number h name ≡ Some e → u ≡ past (locals_in_block body) t → FromNowOn new (λ a. AtBlock a b (IsBlock body h a t))
        → more ≡ done ++ (record { exception = e; block = b }) ∷ [] → AreHandled h whole s new xs u more
    handler_more new u more e b grows number moved block pushed = record {
      moves = ap (past (locals_in_handlers xs)) moved ∙ past_past (locals_in_block body) (locals_in_handlers xs) t ∙ sym (ap (λ (x : tree.Handlers). past (locals_in_handlers x) t) is) ∙ before.moves;
      coded = subst (HandlersHaveCode xs h) (sym moved) handler_coded.2;
      reads = λ a begins rest are.
          let behind_body : AreHandlers xs h a (past (locals_in_block body) t) rest = subst (λ (v : Scope). AreHandlers xs h a v rest) moved are in
          let both : AreHandlers (tree.handler name body xs) h a t ((record { exception = e; block = b }) ∷ rest) = (e, b, rest, refl, number, block a begins, behind_body) in
          let all = before.reads a (grows a begins) ((record { exception = e; block = b }) ∷ rest) (subst (λ (x : tree.Handlers). AreHandlers x h a t ((record { exception = e; block = b }) ∷ rest)) (sym is) both) in
          subst (AreHandlers whole h a s) (sym (append_assoc done ((record { exception = e; block = b }) ∷ []) rest) ∙ ap (λ hs. hs ++ rest) (sym pushed)) all;
    }

  pub handlers_end : (l : Laid) (t : Scope) (done : List Handler) → AreHandled h whole s l tree.no_more t done → FromNowOn l (λ a. AreHandlers whole h a s done)
  handlers_end l t done before = λ a begins. subst (AreHandlers whole h a s) (append-nil done) (before.reads a begins [] refl)
