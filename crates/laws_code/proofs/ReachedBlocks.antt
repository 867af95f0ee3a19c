-- Each statement that a block of a body holds is the code of one of the body's, at any depth.
use Rattle.std.proofs.Common.{◌≡◌, inl, inr, ℕ, Bool, true, List, [], ◌∷◌, ◌++◌, map, Option, Some, None, refl, sym, ap, subst}
use Rattle.std.specs.Prelude.{⊤, unwrap_or}
use Rattle.std.specs.List.{AllByRecursion}
use Rattle.code_rules.specs.ModelTree.Tree as tree
use Rattle.code_rules.specs.FlatDesign.Code as code
use Rattle.code_rules.specs.FlatDesign.Code.{Arena, block_at, statement_at}
use Rattle.code_rules.specs.FlatDesign.Typed.{EachOf}
use Rattle.code_rules.specs.FlatDesign.Reach.{inner_blocks, listed, Holds}
use Rattle.code_rules.specs.FlatDesign.declared.code.Handler.{Handler}
use Rattle.code_rules.specs.ModelRules.Meanings.{variable_type}
use Rattle.code_rules.specs.ModelRules.Scopes.{Scope, locals_in_block, past, behind, in_unwind}
use Rattle.code_rules.specs.ModelRules.Sites as part
use Rattle.code_rules.specs.ModelRules.Sites.{Site, site, expression_sites, action_parts, statement_sites, block_sites, else_sites, handler_sites}
use Rattle.code_rules.specs.ModelRules.Passes.{constructs, reaches, fault_at}
use Rattle.code_rules.specs.ModelRules.Reach.{Body, Placed, all_in_statement, all_in_block, all_in_else, all_in_handlers, statements_of}
use Rattle.code_rules.specs.Deeds.{Home, if_written, store, action_code}
use Rattle.code_rules.specs.Numbered.{AtBlock, IsCoded, IsStatement, IsBlock, IsElse, AreHandlers, var_code, assign_code, operate_code}
use Rattle.laws_code.proofs.Blocks.{all_parts}
use Rattle.laws_code.proofs.Plain.{HasNoBlocks, NoneHasBlocks, var_plain, assign_plain, operate_plain, action_plain}
use Rattle.laws_code.proofs.TypedBlocks.{firsts, held}
use Rattle.laws_code.proofs.Lists.{IsOf, of_left, of_right}
use Rattle.laws_code.proofs.Leaves.{Shows, quiet, EachShows, AllShow, var_shows, assign_shows, operate_shows, action_shows}

-- a construct breaks no rule, neither one on constructs nor one on what is reached
abbrev pub IsKept : Site → Type 0
IsKept x = (fault_at constructs x ≡ None) × (fault_at reaches x ≡ None)

constructs_kept : (xs : List Site) → AllByRecursion IsKept xs → AllByRecursion (λ x. fault_at constructs x ≡ None) xs
constructs_kept [] h = tt
constructs_kept (x ∷ xs) h = (h.0.0, constructs_kept xs h.1)

behind_unwinding : (x : tree.Statement) (s : Scope) → (behind x s).unwinding ≡ s.unwinding
behind_unwinding (tree.var line t name e) s = refl
behind_unwinding (tree.assign line target e) s = refl
behind_unwinding (tree.operate line name at o) s = refl
behind_unwinding (tree.act line a) s = refl
behind_unwinding (tree.if_ line e body other) s = refl
behind_unwinding (tree.while_ line e body) s = refl
behind_unwinding (tree.guard line body undo) s = refl
behind_unwinding (tree.try_ line body handlers) s = refl

module _ (h : Home) (a : Arena) (items : List tree.Item) (b : Body) where
  -- a scope of the body's statements; where v is told, one in an unwind block
  pub record Place (v : Bool) (s : Scope) : Type 0 where
    pub items_are : s.items ≡ items
    pub around_is : s.around ≡ b.name
    pub unwinds : v ≡ true → s.unwinding ≡ true

  past_place : (v : Bool) (n : ℕ) (s : Scope) → Place v s → Place v (past n s)
  past_place v n s p = record { items_are = p.items_are; around_is = p.around_is; unwinds = p.unwinds }

  unwind_place : (v w : Bool) (s : Scope) → Place v s → Place w (in_unwind s)
  unwind_place v w s p = record { items_are = p.items_are; around_is = p.around_is; unwinds = λ e. refl }

  behind_place : (v : Bool) (x : tree.Statement) (s : Scope) → Place v s → Place v (behind x s)
  behind_place v (tree.var line t name e) s p = record { items_are = p.items_are; around_is = p.around_is; unwinds = p.unwinds }
  behind_place v (tree.assign line target e) s p = p
  behind_place v (tree.operate line name at o) s p = p
  behind_place v (tree.act line x) s p = p
  behind_place v (tree.if_ line e body other) s p = record { items_are = p.items_are; around_is = p.around_is; unwinds = p.unwinds }
  behind_place v (tree.while_ line e body) s p = record { items_are = p.items_are; around_is = p.around_is; unwinds = p.unwinds }
  behind_place v (tree.guard line body undo) s p = record { items_are = p.items_are; around_is = p.around_is; unwinds = p.unwinds }
  behind_place v (tree.try_ line body handlers) s p = record { items_are = p.items_are; around_is = p.around_is; unwinds = p.unwinds }

  -- these are statements of the body
  abbrev pub AreInside : List Placed → Type 0
  AreInside xs = (x : Placed) → IsOf x xs → IsOf x (statements_of b)

  inside_parts : (xs ys : List Placed) → AreInside (xs ++ ys) → AreInside xs × AreInside ys
  inside_parts xs ys k = ((λ x m. k x (of_left x xs ys m)), (λ x m. k x (of_right x xs ys m)))

  -- the numbers are those of a block of the body, whose statements break no rule
  pub record BlockOf (v : Bool) (ids : List ℕ) : Type 0 where
    pub block : tree.Block
    pub scope : Scope
    pub place : Place v scope
    pub inside : AreInside (all_in_block block scope.unwinding)
    pub kept : AllByRecursion IsKept (block_sites block scope)
    pub read : IsBlock block h a scope ids

  abbrev pub IsGood : Bool → ℕ → Type 0
  IsGood v j = AtBlock a j (BlockOf v)

  -- the unwind block of a guard is one of the body's
  abbrev pub UnwindsWell : code.Statement → Type 0
  UnwindsWell (code.guard j u) = IsGood true u
  UnwindsWell other = ⊤

  -- a statement of the code is that of a statement of the body, which breaks no rule
  pub record IsCodeIn (v : Bool) (f : code.Statement) : Type 0 where
    pub scope : Scope
    pub place : Place v scope
    pub statement : tree.Statement
    pub line : ℕ
    pub inside : IsOf (statement, scope.unwinding) (statements_of b)
    pub kept : fault_at reaches (site scope line (part.of_statement statement)) ≡ None
    pub shows : Shows h scope statement f
    pub unwinding : UnwindsWell f

  abbrev IsFine : Bool → code.Statement → Type 0
  IsFine v f = IsCodeIn v f × AllByRecursion (IsGood v) (inner_blocks f)

  abbrev AllFine : Bool → List ℕ → Type 0
  AllFine v ids = AllByRecursion (λ i. (f : code.Statement) → statement_at a i ≡ Some f → IsFine v f) ids

  -- statements without blocks
  no_unwinding : (f : code.Statement) → HasNoBlocks f → UnwindsWell f
  no_unwinding (code.guard j u) k = cc
  no_unwinding other k = tt

  module _ (v : Bool) (s : Scope) (p : Place v s) (x : tree.Statement) (line : ℕ) (inside : IsOf (x, s.unwinding) (statements_of b)) (kept : fault_at reaches (site s line (part.of_statement x)) ≡ None) where
    code_in : (f : code.Statement) → Shows h s x f → UnwindsWell f → IsCodeIn v f
    code_in f shows unwinding = record { scope = s; place = p; statement = x; line = line; inside = inside; kept = kept; shows = shows; unwinding = unwinding }

    plain_each : (fs : List code.Statement) → EachShows h s x fs → NoneHasBlocks fs → EachOf (IsFine v) fs
    plain_each [] k n = tt
    plain_each (f ∷ fs) k n = ((code_in f k.0 (no_unwinding f n.0), subst (AllByRecursion (IsGood v)) (sym n.0) tt), plain_each fs k.1 n.1)

    coded : (o : Option (List code.Statement)) (ids rest : List ℕ) → AllShow h s x o → ((fs : List code.Statement) → o ≡ Some fs → NoneHasBlocks fs) → IsCoded a o ids rest → AllFine v rest → AllFine v ids
    coded o ids rest shows plain r l = firsts a (IsFine v) r.0 ids rest r.2 (plain_each r.0 (shows r.0 r.1) (plain r.0 r.1)) l

  inner : (v : Bool) (blk : tree.Block) (s : Scope) (j : ℕ) → Place v s → AreInside (all_in_block blk s.unwinding) → AllByRecursion IsKept (block_sites blk s) → AtBlock a j (IsBlock blk h a s) → IsGood v j
  inner v blk s j p inside kept read = (read.0, read.1, record { block = blk; scope = s; place = p; inside = inside; kept = kept; read = read.2 })

  else_good : (v : Bool) (o : tree.Else) (s : Scope) (j : Option ℕ) → Place v s → AreInside (all_in_else o s.unwinding) → AllByRecursion IsKept (else_sites o s) → IsElse o h a s j → AllByRecursion (IsGood v) (listed j)
  else_good v tree.no_else s j p inside kept read = subst (λ x. AllByRecursion (IsGood v) (listed x)) (sym read) tt
  else_good v (tree.else_block body) s j p inside kept read = subst (λ x. AllByRecursion (IsGood v) (listed x)) (sym read.1) (inner v body s read.0 p inside kept read.2, tt)

  handlers_good : (v : Bool) (hs : tree.Handlers) (s : Scope) (js : List Handler) → Place v s → AreInside (all_in_handlers hs s.unwinding) → AllByRecursion IsKept (handler_sites hs s) → AreHandlers hs h a s js
      → AllByRecursion (IsGood v) (map (λ (x : Handler). x.block) js)
  handlers_good v tree.no_more s js p inside kept read = subst (λ xs. AllByRecursion (IsGood v) (map (λ (x : Handler). x.block) xs)) (sym read) tt
  handlers_good v (tree.handler name body more) s js p inside kept read =
      let i = inside_parts (all_in_block body s.unwinding) (all_in_handlers more s.unwinding) inside in
      let k = all_parts IsKept (block_sites body s) (handler_sites more (past (locals_in_block body) s)) kept in
      subst (λ xs. AllByRecursion (IsGood v) (map (λ (x : Handler). x.block) xs)) (sym read.3)
      (inner v body s read.1 p i.0 k.0 read.5, handlers_good v more (past (locals_in_block body) s) read.2 (past_place v (locals_in_block body) s p) i.1 k.1 read.6)

  statement_fine : (v : Bool) (x : tree.Statement) (s : Scope) (ids rest : List ℕ) → Place v s → AreInside (all_in_statement x s.unwinding) → AllByRecursion IsKept (statement_sites x s) → IsStatement x h a s ids rest → AllFine v rest → AllFine v ids
  statement_fine v (tree.var line t name e) s ids rest p inside kept read l =
      coded v s p (tree.var line t name e) line (inside (tree.var line t name e, s.unwinding) (inl refl)) kept.0.1 (var_code s (variable_type t) e) ids rest (var_shows h s line t name (variable_type t) e) (var_plain s (variable_type t) e) read l
  statement_fine v (tree.assign line target e) s ids rest p inside kept read l =
      coded v s p (tree.assign line target e) line (inside (tree.assign line target e, s.unwinding) (inl refl)) kept.0.1 (assign_code s target e) ids rest (assign_shows h s line target e) (assign_plain s target e) read l
  statement_fine v (tree.operate line name at o) s ids rest p inside kept read l =
      coded v s p (tree.operate line name at o) line (inside (tree.operate line name at o, s.unwinding) (inl refl)) kept.0.1 (operate_code h s (if_written (store s) name) o) ids rest
      (operate_shows h s line name at (if_written (store s) name) o) (operate_plain h s (if_written (store s) name) o) read l
  statement_fine v (tree.act line x) s ids rest p inside kept read l =
      coded v s p (tree.act line x) line (inside (tree.act line x, s.unwinding) (inl refl)) kept.0.1 (action_code h s x) ids rest
      (action_shows h s line x (constructs_kept (action_parts s x) kept.1)) (action_plain h s x) read l
  statement_fine v (tree.if_ line e body other) s ids rest p inside kept read l =
      let k = all_parts IsKept (expression_sites s e ++ block_sites body s) (else_sites other (past (locals_in_block body) s)) kept.1 in
      let u = all_parts IsKept (expression_sites s e) (block_sites body s) k.0 in
      let i = inside_parts (all_in_block body s.unwinding) (all_in_else other s.unwinding) (λ y m. inside y (inr m)) in
      let f = code.if_ read.0 read.1 read.2 in
      firsts a (IsFine v) (f ∷ []) ids rest read.4 (
        (
          code_in v s p (tree.if_ line e body other) line (inside (tree.if_ line e body other, s.unwinding) (inl refl)) kept.0.1 f (quiet h s (tree.if_ line e body other) f (λ d home. tt, tt, tt, tt, tt)) tt,
          (inner v body s read.1 p i.0 u.1 read.5, else_good v other (past (locals_in_block body) s) read.2 (past_place v (locals_in_block body) s p) i.1 k.1 read.6),
        ),
        tt,
      ) l
  statement_fine v (tree.while_ line e body) s ids rest p inside kept read l =
      let u = all_parts IsKept (expression_sites s e) (block_sites body s) kept.1 in
      let f = code.while_ read.0 read.1 in
      firsts a (IsFine v) (f ∷ []) ids rest read.3 (
        (
          code_in v s p (tree.while_ line e body) line (inside (tree.while_ line e body, s.unwinding) (inl refl)) kept.0.1 f (quiet h s (tree.while_ line e body) f (λ d home. tt, tt, tt, tt, tt)) tt,
          (inner v body s read.1 p (λ y m. inside y (inr m)) u.1 read.4, tt),
        ),
        tt,
      ) l
  statement_fine v (tree.guard line body undo) s ids rest p inside kept read l =
      let u = all_parts IsKept (block_sites body s) (block_sites undo (in_unwind (past (locals_in_block body) s))) kept.1 in
      let i = inside_parts (all_in_block body s.unwinding) (all_in_block undo true) (λ y m. inside y (inr m)) in
      let f = code.guard read.0 read.1 in
      let undone = λ (w : Bool). inner w undo (in_unwind (past (locals_in_block body) s)) read.1 (unwind_place v w (past (locals_in_block body) s) (past_place v (locals_in_block body) s p)) i.1 u.1 read.4 in
      firsts a (IsFine v) (f ∷ []) ids rest read.2 (
        (
          code_in v s p (tree.guard line body undo) line (inside (tree.guard line body undo, s.unwinding) (inl refl)) kept.0.1 f (quiet h s (tree.guard line body undo) f (λ d home. tt, tt, tt, tt, tt)) (undone true),
          (inner v body s read.0 p i.0 u.0 read.3, (undone v, tt)),
        ),
        tt,
      ) l
  statement_fine v (tree.try_ line body handlers) s ids rest p inside kept read l =
      let u = all_parts IsKept (block_sites body s) (handler_sites handlers (past (locals_in_block body) s)) kept.1 in
      let i = inside_parts (all_in_block body s.unwinding) (all_in_handlers handlers s.unwinding) (λ y m. inside y (inr m)) in
      let f = code.try_ read.0 read.1 in
      firsts a (IsFine v) (f ∷ []) ids rest read.2 (
        (
          code_in v s p (tree.try_ line body handlers) line (inside (tree.try_ line body handlers, s.unwinding) (inl refl)) kept.0.1 f (quiet h s (tree.try_ line body handlers) f (λ d home. tt, tt, tt, tt, tt)) tt,
          (inner v body s read.0 p i.0 u.0 read.3, handlers_good v handlers (past (locals_in_block body) s) read.1 (past_place v (locals_in_block body) s p) i.1 u.1 read.4),
        ),
        tt,
      ) l

  block_fine : (v : Bool) (blk : tree.Block) (s : Scope) (ids : List ℕ) → Place v s → AreInside (all_in_block blk s.unwinding) → AllByRecursion IsKept (block_sites blk s) → IsBlock blk h a s ids → AllFine v ids
  block_fine v tree.over s ids p inside kept read = subst (AllFine v) (sym read) tt
  block_fine v (tree.then x xs) s ids p inside kept read =
      let k = all_parts IsKept (statement_sites x s) (block_sites xs (behind x s)) kept in
      let i = inside_parts (all_in_statement x s.unwinding) (all_in_block xs s.unwinding) inside in
      statement_fine v x s ids read.0 p i.0 k.0 read.1
      (block_fine v xs (behind x s) read.0 (behind_place v x s p) (subst (λ u. AreInside (all_in_block xs u)) (sym (behind_unwinding x s)) i.1) k.1 read.2)

  -- at any depth
  good_fine : (v : Bool) (j : ℕ) → IsGood v j → AllFine v (block_at a j)
  good_fine v j g =
      let k = g.2 in
      subst (AllFine v) (sym (ap (λ o. unwrap_or o []) g.1)) (block_fine v k.block k.scope g.0 k.place k.inside k.kept k.read)

  pub held_in : (v : Bool) (j : ℕ) (f : code.Statement) → IsGood v j → Holds a j f → IsCodeIn v f
  held_in v j f g x = held a (IsCodeIn v) (IsGood v) (good_fine v) j f g x
