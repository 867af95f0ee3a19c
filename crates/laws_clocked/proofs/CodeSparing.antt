-- No statement of a block that leaves the names of clocked threads alone stores to the variable `tick_again`, and no try of it has a
-- handler for `tick_reset`, at any depth.
use Rattle.std.proofs.Common.{◌≡◌, ◌==◌, ℕ, true, false, cond, inl, inr, List, [], ◌∷◌, ◌++◌, map, Option, Some, refl, sym, ap, ◌∙◌, subst, arith}
use Rattle.std.specs.Prelude.{slice_get, find, is_some, bytes_eq, Contains, ⊤}
use Rattle.std.specs.List.{AllByRecursion}
use Rattle.std.proofs.lemmas.Bool.Decides.{Decides-eqb}
use Rattle.std.proofs.lemmas.List.Elements.{All-from_recursion, All-contains}
use Rattle.std.proofs.lemmas.List.Quantifiers.{position-Some}
use Rattle.std.proofs.lemmas.Slice.Eq.{bytes_eq-Decides}
use Rattle.code_rules.specs.ModelTree.Tree as tree
use Rattle.code_rules.specs.FlatDesign.Code as code
use Rattle.code_rules.specs.FlatDesign.Code.{Arena, Term, DestinationTerm, block_at, statement_at}
use Rattle.code_rules.specs.FlatDesign.Reach.{Inside, Holds, itself, deeper, listed, inner_blocks}
use Rattle.code_rules.specs.FlatDesign.Typed.{EachOf}
use Rattle.code_rules.specs.FlatDesign.declared.code.Handler.{Handler}
use Rattle.code_rules.specs.ModelRules.Meanings.{variable_type}
use Rattle.code_rules.specs.ModelRules.Scopes.{Scope, Local, locals_in, locals_in_block, past, behind, in_unwind}
use Rattle.code_rules.specs.Deeds.{Home, if_written, store, action_code, exception_number}
use Rattle.code_rules.specs.Numbered.{AtBlock, AreFirst, IsCoded, IsStatement, IsBlock, IsElse, AreHandlers, var_code, assign_code, operate_code}
use Rattle.expanded_text.specs.Named.{name_if, in_expression, in_target, in_operation, in_action}
use Rattle.expanded_text.specs.Clocked as form
use Rattle.expanded_text.specs.Clocked.{Reset, Tick, IsTick, Ticks, HasTicks, ElseTicks, HandlerTicks, again_name, reset_name, is_kept, has_kept, test_form, tests_form, count_form, tick_form}
use Rattle.laws_clocked.specs.Stores.{OnlyStores}
use Rattle.laws_clocked.specs.Again.{Around}
use Rattle.laws_clocked.specs.Clocked.{SparesIt, UncaughtIn}
use Rattle.laws_clocked.proofs.Lookups.{none_left, not_reset, not_so, declared_as}
use Rattle.laws_clocked.proofs.Reading.{block_is}
use Rattle.laws_clocked.proofs.Walk.{all_joined}
use Rattle.laws_clocked.proofs.CodeStoring.{NotAgain, avoids_again, Fits, Leaf, var_fits, assign_fits, operate_fits, action_fits}

-- ---- blocks that leave the names alone

abbrev mutual
  pub Shuns : tree.Statement → Type 0
  Shuns (tree.var line t x e) = ⊤
  Shuns (tree.assign line t e) = bytes_eq t.name again_name ≡ false
  Shuns (tree.operate line x at o) = NotAgain (name_if x ++ in_operation o)
  Shuns (tree.act line a) = NotAgain (in_action a)
  Shuns (tree.if_ line e body other) = ShunsBlock body × ShunsElse other
  Shuns (tree.while_ line e body) = ShunsBlock body
  Shuns (tree.guard line body undo) = ShunsBlock body × ShunsBlock undo
  Shuns (tree.try_ line body hs) = ShunsBlock body × ShunsHandlers hs

  pub ShunsBlock : tree.Block → Type 0
  ShunsBlock tree.over = ⊤
  ShunsBlock (tree.then x xs) = Shuns x × ShunsBlock xs

  pub ShunsElse : tree.Else → Type 0
  ShunsElse tree.no_else = ⊤
  ShunsElse (tree.else_block body) = ShunsBlock body

  pub ShunsHandlers : tree.Handlers → Type 0
  ShunsHandlers tree.no_more = ⊤
  ShunsHandlers (tree.handler x body more) = (bytes_eq x reset_name ≡ false) × ShunsBlock body × ShunsHandlers more

tests_shun : (at last : ℕ → ℕ) (rs : List Reset) → ShunsBlock (tests_form at rs (count_form last))
tests_shun at last [] = (refl, tt)
tests_shun at last (r ∷ rs) = ((((refl, tt), tt), tt), tests_shun (form.behind at 4) last rs)

tick_shuns : (at : ℕ → ℕ) (t : Tick) → Shuns (tick_form at t)
tick_shuns at t = ((tt, ((tt, tests_shun (form.behind (form.behind at 5) 7) (form.behind (form.behind at 5) 4) t.resets), tt)), tt)

mutual
  statement_shuns : (x : tree.Statement) (ts : List Tick) → Ticks x ts → Shuns x
  statement_shuns (tree.var line t x e) ts h = tt
  statement_shuns (tree.assign line t e) ts h = (avoids_again (in_target t ++ in_expression e) h.0).0
  statement_shuns (tree.operate line x at o) ts h = avoids_again (name_if x ++ in_operation o) h.0
  statement_shuns (tree.act line a) ts h = avoids_again (in_action a) h.0
  statement_shuns (tree.if_ line e body other) ts (inl h) = subst Shuns (sym h.1.form) (tick_shuns h.1.at h.0)
  statement_shuns (tree.if_ line e body other) ts (inr h) = (block_shuns body h.1.0 h.1.3, else_shuns other h.1.1 h.1.4)
  statement_shuns (tree.while_ line e body) ts h = block_shuns body ts h.1
  statement_shuns (tree.guard line body undo) ts h = (block_shuns body h.0 h.3, block_shuns undo h.1 h.4)
  statement_shuns (tree.try_ line body hs) ts h = (block_shuns body h.0 h.3, handlers_shun hs h.1 h.4)

  pub block_shuns : (x : tree.Block) (ts : List Tick) → HasTicks x ts → ShunsBlock x
  block_shuns tree.over ts h = tt
  block_shuns (tree.then x xs) ts h = (statement_shuns x h.0 h.3, block_shuns xs h.1 h.4)

  else_shuns : (x : tree.Else) (ts : List Tick) → ElseTicks x ts → ShunsElse x
  else_shuns tree.no_else ts h = tt
  else_shuns (tree.else_block body) ts h = block_shuns body ts h

  handlers_shun : (x : tree.Handlers) (ts : List Tick) → HandlerTicks x ts → ShunsHandlers x
  handlers_shun tree.no_more ts h = tt
  handlers_shun (tree.handler x body more) ts h = (not_reset x (none_left (is_kept x) (has_kept []) h.0), block_shuns body h.1.0 h.1.3, handlers_shun more h.1.1 h.1.4)

-- ---- their code

-- exceptions of the same number have the same name
same_name : (h : Home) (x y : List ℕ) (e : ℕ) → exception_number h x ≡ Some e → exception_number h y ≡ Some e → x ≡ y
same_name h x y e k l =
    let first = (position-Some (λ z. bytes_eq z x) h.exceptions e [] k).1 in
    let other = (position-Some (λ z. bytes_eq z y) h.exceptions e [] l).1 in
    sym ((bytes_eq-Decides _ x).0 first) ∙ (bytes_eq-Decides _ y).0 other

module _ (P : ℕ → Type 0) (h : Home) (a : Arena) (e : ℕ) (numbered : exception_number h reset_name ≡ Some e) where
  past_fits : (n : ℕ) (s : Scope) → Fits P s → Fits P (past n s)
  past_fits n s fits = (fits.0, λ k l. fits.1 k (omega arith))

  behind_fits : (x : tree.Statement) (s : Scope) → Fits P s → Fits P (behind x s)
  behind_fits (tree.var line t x e) s fits = (
    all_joined (λ (l : Local). bytes_eq l.name again_name ≡ false → P l.number) s.locals (declared_as s x t ∷ []) fits.0 ((λ apart. fits.1 s.count (omega arith)), tt),
    λ k l. fits.1 k (omega arith),
  )
  behind_fits (tree.assign line t e) s fits = fits
  behind_fits (tree.operate line x at o) s fits = fits
  behind_fits (tree.act line y) s fits = fits
  behind_fits (tree.if_ line e body other) s fits = past_fits (locals_in (tree.if_ line e body other)) s fits
  behind_fits (tree.while_ line e body) s fits = past_fits (locals_in (tree.while_ line e body)) s fits
  behind_fits (tree.guard line body undo) s fits = past_fits (locals_in (tree.guard line body undo)) s fits
  behind_fits (tree.try_ line body hs) s fits = past_fits (locals_in (tree.try_ line body hs)) s fits

  pub record GoodBlock (ids : List ℕ) : Type 0 where
    pub block : tree.Block
    pub scope : Scope
    pub fits : Fits P scope
    pub shuns : ShunsBlock block
    pub read : IsBlock block h a scope ids

  abbrev pub IsGood : ℕ → Type 0
  IsGood j = (ids : List ℕ) × (slice_get a.blocks j ≡ Some ids) × GoodBlock ids

  -- where it is a try, it has no handler for the exception e
  abbrev pub Lets : code.Statement → Type 0
  Lets (code.try_ b hs) = is_some (find (λ (y : Handler). y.exception == e) hs) ≡ false
  Lets other = ⊤

  abbrev pub IsFine : code.Statement → Type 0
  IsFine f = OnlyStores P f × AllByRecursion IsGood (inner_blocks f) × Lets f

  abbrev pub AllFine : List ℕ → Type 0
  AllFine ids = AllByRecursion (λ i. (f : code.Statement) → statement_at a i ≡ Some f → IsFine f) ids

  same_statement : (f g : code.Statement) → Some f ≡ Some g → f ≡ g
  same_statement f g e = cc

  firsts : (fs : List code.Statement) (ids rest : List ℕ) → AreFirst a fs ids rest → AllByRecursion IsFine fs → AllFine rest → AllFine ids
  firsts [] ids rest k each l = subst AllFine (sym k) l
  firsts (f ∷ fs) ids rest k each l =
      subst AllFine (sym k.2) ((λ g e. subst IsFine (same_statement f g (sym k.3 ∙ e)) each.0), firsts fs k.1 rest k.4 each.1 l)

  leaf_lets : (f : code.Statement) → inner_blocks f ≡ [] → Lets f
  leaf_lets (code.try_ b hs) k = cc
  leaf_lets other k = tt

  leaves : (fs : List code.Statement) → AllByRecursion (Leaf P) fs → AllByRecursion IsFine fs
  leaves [] k = tt
  leaves (f ∷ fs) k = ((k.0.0, subst (AllByRecursion IsGood) (sym k.0.1) tt, leaf_lets f k.0.1), leaves fs k.1)

  coded : (o : Option (List code.Statement)) (ids rest : List ℕ) → ((fs : List code.Statement) → o ≡ Some fs → AllByRecursion (Leaf P) fs) → IsCoded a o ids rest → AllFine rest → AllFine ids
  coded o ids rest each r l = firsts r.0 ids rest r.2 (leaves r.0 (each r.0 r.1)) l

  inner : (b : tree.Block) (s : Scope) (j : ℕ) → Fits P s → ShunsBlock b → AtBlock a j (IsBlock b h a s) → IsGood j
  inner b s j fits shuns read = (read.0, read.1, record { block = b; scope = s; fits = fits; shuns = shuns; read = read.2 })

  else_good : (o : tree.Else) (s : Scope) (j : Option ℕ) → Fits P s → ShunsElse o → IsElse o h a s j → AllByRecursion IsGood (listed j)
  else_good tree.no_else s j fits shuns read = subst (λ x. AllByRecursion IsGood (listed x)) (sym read) tt
  else_good (tree.else_block body) s j fits shuns read = subst (λ x. AllByRecursion IsGood (listed x)) (sym read.1) (inner body s read.0 fits shuns read.2, tt)

  handlers_good : (hs : tree.Handlers) (s : Scope) (js : List Handler) → Fits P s → ShunsHandlers hs → AreHandlers hs h a s js → AllByRecursion IsGood (map (λ (x : Handler). x.block) js)
  handlers_good tree.no_more s js fits shuns read = subst (λ xs. AllByRecursion IsGood (map (λ (x : Handler). x.block) xs)) (sym read) tt
  handlers_good (tree.handler name body more) s js fits shuns read =
      subst (λ xs. AllByRecursion IsGood (map (λ (x : Handler). x.block) xs)) (sym read.3)
      (inner body s read.1 fits shuns.1 read.5, handlers_good more (past (locals_in_block body) s) read.2 (past_fits (locals_in_block body) s fits) shuns.2 read.6)

  -- another name has another number
  another : (name : List ℕ) (n : ℕ) → bytes_eq name reset_name ≡ false → exception_number h name ≡ Some n → (n == e) ≡ false
  another name n shuns number =
      not_so (n == e)
      (λ same.
      let is : n ≡ e = (Decides-eqb n e).0 same in
      let named : name ≡ reset_name = same_name h name reset_name e (number ∙ ap (λ k. Some k) is) numbered in
      let apart : true ≡ false = sym ((bytes_eq-Decides name reset_name).1 named) ∙ shuns in
      cc)

  handlers_let : (hs : tree.Handlers) (s : Scope) (js : List Handler) → ShunsHandlers hs → AreHandlers hs h a s js → is_some (find (λ (y : Handler). y.exception == e) js) ≡ false
  handlers_let tree.no_more s js shuns read = ap (λ (xs : List Handler). is_some (find (λ (y : Handler). y.exception == e) xs)) read
  handlers_let (tree.handler name body more) s js shuns read =
      let first : Handler = record { exception = read.0; block = read.1 } in
      let others : Option Handler = find (λ (y : Handler). y.exception == e) read.2 in
      ap (λ (xs : List Handler). is_some (find (λ (y : Handler). y.exception == e) xs)) read.3
      ∙ ap (λ c. is_some (cond c (Some first) others)) (another name read.0 shuns.0 read.4)
      ∙ handlers_let more (past (locals_in_block body) s) read.2 shuns.2 read.6

  statement_fine : (x : tree.Statement) (s : Scope) (ids rest : List ℕ) → Fits P s → Shuns x → IsStatement x h a s ids rest → AllFine rest → AllFine ids
  statement_fine (tree.var line t x e) s ids rest fits shuns read l = coded (var_code s (variable_type t) e) ids rest (var_fits P s fits (variable_type t) e) read l
  statement_fine (tree.assign line t e) s ids rest fits shuns read l = coded (assign_code s t e) ids rest (λ fs k. assign_fits P s fits t e fs shuns k) read l
  statement_fine (tree.operate line x at o) s ids rest fits shuns read l =
      coded (operate_code h s (if_written (store s) x) o) ids rest (λ fs k. operate_fits P s fits h x o fs shuns k) read l
  statement_fine (tree.act line y) s ids rest fits shuns read l = coded (action_code h s y) ids rest (λ fs k. action_fits P s fits h y fs shuns k) read l
  statement_fine (tree.if_ line e body other) s ids rest fits shuns read l =
      firsts (code.if_ read.0 read.1 read.2 ∷ []) ids rest read.4
      ((tt, (inner body s read.1 fits shuns.0 read.5, else_good other (past (locals_in_block body) s) read.2 (past_fits (locals_in_block body) s fits) shuns.1 read.6), tt), tt) l
  statement_fine (tree.while_ line e body) s ids rest fits shuns read l =
      firsts (code.while_ read.0 read.1 ∷ []) ids rest read.3 ((tt, (inner body s read.1 fits shuns read.4, tt), tt), tt) l
  statement_fine (tree.guard line body undo) s ids rest fits shuns read l =
      firsts (code.guard read.0 read.1 ∷ []) ids rest read.2
      ((tt, (inner body s read.0 fits shuns.0 read.3, (inner undo (in_unwind (past (locals_in_block body) s)) read.1 (past_fits (locals_in_block body) s fits) shuns.1 read.4, tt)), tt), tt) l
  statement_fine (tree.try_ line body hs) s ids rest fits shuns read l =
      firsts (code.try_ read.0 read.1 ∷ []) ids rest read.2
      ((tt, (inner body s read.0 fits shuns.0 read.3, handlers_good hs (past (locals_in_block body) s) read.1 (past_fits (locals_in_block body) s fits) shuns.1 read.4), handlers_let hs (past (locals_in_block body) s) read.1 shuns.1 read.4), tt) l

  pub block_fine : (b : tree.Block) (s : Scope) (ids : List ℕ) → Fits P s → ShunsBlock b → IsBlock b h a s ids → AllFine ids
  block_fine tree.over s ids fits shuns read = subst AllFine (sym read) tt
  block_fine (tree.then x xs) s ids fits shuns read =
      statement_fine x s ids read.0 fits shuns.0 read.1 (block_fine xs (behind x s) read.0 (behind_fits x s fits) shuns.1 read.2)

  good_fine : (j : ℕ) → IsGood j → AllFine (block_at a j)
  good_fine j g = subst AllFine (sym (block_is a j g.0 g.1)) (block_fine g.2.block g.2.scope g.0 g.2.fits g.2.shuns g.2.read)

  in_fine : (ids : List ℕ) (i : ℕ) → AllFine ids → Contains ids i → (f : code.Statement) → statement_at a i ≡ Some f → IsFine f
  in_fine ids i all there f e =
      All-contains (λ k. (g : code.Statement) → statement_at a k ≡ Some g → IsFine g) ids i (All-from_recursion (λ k. (g : code.Statement) → statement_at a k ≡ Some g → IsFine g) ids all) there f e

  good_in : (js : List ℕ) (j : ℕ) → AllByRecursion IsGood js → Contains js j → IsGood j
  good_in js j all there = All-contains IsGood js j (All-from_recursion IsGood js all) there

  inside_good : (b j : ℕ) → IsGood b → Inside a b j → IsGood j
  inside_good b _ g (itself _) = g
  inside_good b _ g (deeper _ k j s inside is there) =
      good_in (inner_blocks s) j (in_fine (block_at a k) is.number (good_fine k (inside_good b k g inside)) is.listed_there s is.found).1 there

  held_fine : (b : ℕ) (y : code.Statement) → IsGood b → Holds a b y → OnlyStores P y
  held_fine b y g k = (in_fine (block_at a k.block) k.stands.number (good_fine k.block (inside_good b k.block g k.inside)) k.stands.listed_there y k.stands.found).0

  -- ---- no try inside a block of such statements, and of one behind them, has a handler for the exception

  abbrev IsLetting : code.Statement → Type 0
  IsLetting f = AllByRecursion IsGood (inner_blocks f) × Lets f

  abbrev Letting : ℕ → Type 0
  Letting i = (f : code.Statement) → statement_at a i ≡ Some f → IsLetting f

  fine_let : (ids : List ℕ) → AllFine ids → AllByRecursion Letting ids
  fine_let [] all = tt
  fine_let (i ∷ ids) all = ((λ f is. let k = all.0 f is in (k.1, k.2)), fine_let ids all.1)

  in_let : (ids : List ℕ) (i : ℕ) → AllByRecursion Letting ids → Contains ids i → Letting i
  in_let ids i all there = All-contains Letting ids i (All-from_recursion Letting ids all) there

  inside_let : (b j : ℕ) → AllByRecursion Letting (block_at a b) → Inside a b j → AllByRecursion Letting (block_at a j)
  inside_let b _ all (itself _) = all
  inside_let b _ all (deeper _ k j s inside is there) =
      fine_let (block_at a j) (good_fine j (good_in (inner_blocks s) j (in_let (block_at a k) is.number (inside_let b k all inside) is.listed_there s is.found).0 there))

  pub none_caught : (own : List ℕ) (last : ℕ) (b : Around) (d : DestinationTerm) (t : Term) → AllFine own → statement_at a last ≡ Some (code.assign d t) → block_at a b.inside ≡ own ++ last ∷ [] → UncaughtIn a b e
  none_caught own last b d t all found whole body hs k =
      let each = subst (AllByRecursion Letting) (sym whole) (all_joined Letting own (last ∷ []) (fine_let own all) ((λ f is. subst IsLetting (same_statement (code.assign d t) f (sym found ∙ is)) (tt, tt)), tt)) in
      (in_let (block_at a k.block) k.stands.number (inside_let b.inside k.block each k.inside) k.stands.listed_there (code.try_ body hs) k.stands.found).1

pub each_spared : (k : ℕ) (h : Home) (a : Arena) (e : ℕ) (numbered : exception_number h reset_name ≡ Some e) (ids : List ℕ) → AllFine (λ n. n ≡ k → ⊥) h a e numbered ids → EachOf (SparesIt a k) ids
each_spared k h a e numbered [] all = tt
each_spared k h a e numbered (i ∷ ids) all = (
  record {
    itself = λ x is. (all.0 x is).0;
    inside = λ x j y is within holds. held_fine (λ n. n ≡ k → ⊥) h a e numbered j y (good_in (λ n. n ≡ k → ⊥) h a e numbered (inner_blocks x) j (all.0 x is).1 within) holds;
  },
  each_spared k h a e numbered ids all.1,
)
