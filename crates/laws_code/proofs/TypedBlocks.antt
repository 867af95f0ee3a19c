-- Each statement of a block is typed, at any depth.
use Rattle.std.proofs.Common.{◌≡◌, ℕ, zero, suc, ◌+◌, ◌<◌, true, false, ◌&&◌, List, [], ◌∷◌, ◌++◌, map, length, Option, Some, None, refl, sym, ◌∙◌, ap, subst, arith, length-append}
use Rattle.std.specs.Prelude.{slice_index_or, unwrap_or, Contains}
use Rattle.std.specs.List.{AllByRecursion}
use Rattle.code_rules.specs.ModelTree.Tree as tree
use Rattle.code_rules.specs.ModelTree.Limits.{fits, fits_statement, fits_block, fits_else, fits_handlers, has_handler, within}
use Rattle.code_rules.specs.ModelTree.Leaves.{is_name}
use Rattle.code_rules.specs.ModelTree.declared.types.VarType.{VarType}
use Rattle.code_rules.specs.FlatDesign.Code as code
use Rattle.code_rules.specs.FlatDesign.Code.{Term, Arena, block_at, statement_at}
use Rattle.code_rules.specs.FlatDesign.Denotes.{Context}
use Rattle.code_rules.specs.FlatDesign.Typed.{EachOf, IsTyped, HasType}
use Rattle.code_rules.specs.FlatDesign.Reach.{inner_blocks, listed, Inside, itself, deeper, Holds}
use Rattle.code_rules.specs.FlatDesign.declared.value_types.ValueType.{ValueType}
use Rattle.code_rules.specs.FlatDesign.declared.value_types.ValueType.TheVariants as type
use Rattle.code_rules.specs.FlatDesign.declared.code.Handler.{Handler}
use Rattle.code_rules.specs.FlatDesign.declared.code.Local.{Local as CodeLocal}
use Rattle.code_rules.specs.ModelRules.Meanings.{variable_type}
use Rattle.code_rules.specs.ModelRules.Scopes.{Scope, with_local, locals_in, locals_in_block, locals_in_else, locals_in_handlers, past, behind, in_unwind}
use Rattle.code_rules.specs.ModelRules.Operators.{is_bool, evaluated_as}
use Rattle.code_rules.specs.ModelRules.Types.{type_of}
use Rattle.code_rules.specs.ModelRules.Sites as part
use Rattle.code_rules.specs.ModelRules.Sites.{site, expression_sites, statement_sites, block_sites, else_sites, handler_sites}
use Rattle.code_rules.specs.ModelRules.Values.{fails}
use Rattle.code_rules.specs.ModelRules.Passes.{constructs, fault_of}
use Rattle.code_rules.specs.Terms.{term_of}
use Rattle.code_rules.specs.Deeds.{Home, if_written, store, action_code}
use Rattle.code_rules.specs.Numbered.{AtBlock, AreFirst, IsCoded, IsStatement, IsBlock, IsElse, AreHandlers, var_code, assign_code, operate_code}
use Rattle.code_rules.specs.Bodies.{LocalSource, variables_in, variables_in_block, variables_in_else, variables_in_handlers, exceptions_in, exceptions_in_block, exceptions_in_else, exceptions_in_handlers}
use Rattle.laws_code.specs.Known.{TypesAreKnown}
use Rattle.laws_code.proofs.FaultlessConstructs.{keeps}
use Rattle.laws_code.proofs.Coded.{same_some}
use Rattle.laws_code.proofs.Typed.{not_named, parts_none, head_none}
use Rattle.laws_code.specs.HasCode.{AreNumbered}
use Rattle.laws_code.proofs.Blocks.{all_parts, behind_known}
use Rattle.laws_code.proofs.Models.{all_joined}
use Rattle.laws_code.specs.Standing.{LocalStands}
use Rattle.laws_code.specs.Functions.{VariablesStand}
use Rattle.laws_code.specs.Ready.{Ready}
use Rattle.laws_code.proofs.Has.{Has}
use Rattle.laws_code.proofs.Operands.{both_true, bool_type}
use Rattle.laws_code.proofs.Channels.{within_is, type_there, tested, follows}
use Rattle.laws_code.proofs.Actions.{var_fine, assign_fine, operate_fine, act_fine}
use Rattle.laws_code.proofs.Plain.{NoneHasBlocks, var_plain, assign_plain, operate_plain, action_plain}

-- what is so of all is so of each
at_index : {A : Type 0} (P : A → Type 0) (xs : List A) (x : A) (k : ℕ) → AllByRecursion P xs → k < length xs → slice_index_or xs k x ≡ x → P x
at_index P [] x k h l e = absurd (omega arith)
at_index P (y ∷ ys) x zero h l e = subst P e h.0
at_index P (y ∷ ys) x (suc k) h l e = at_index P ys x k h.1 (omega arith) e

pub each_of : {A : Type 0} (P : A → Type 0) (xs : List A) (x : A) → AllByRecursion P xs → Contains xs x → P x
each_of P xs x h k = at_index P xs x k.0 h k.1 k.2

-- the first statements of a list of numbers
pub firsts : (a : Arena) (T : code.Statement → Type 0) (fs : List code.Statement) (ids rest : List ℕ) → AreFirst a fs ids rest → EachOf T fs → AllByRecursion (λ i. (f : code.Statement) → statement_at a i ≡ Some f → T f) rest
    → AllByRecursion (λ i. (f : code.Statement) → statement_at a i ≡ Some f → T f) ids
firsts a T [] ids rest r k l = subst (AllByRecursion (λ i. (f : code.Statement) → statement_at a i ≡ Some f → T f)) (sym r) l
firsts a T (f ∷ fs) ids rest r k l =
    subst (AllByRecursion (λ i. (f : code.Statement) → statement_at a i ≡ Some f → T f)) (sym r.2) ((λ g e. subst T (same_some f g (sym r.3 ∙ e)) k.0), firsts a T fs r.1 rest r.4 k.1 l)

-- what is so of the statements of good blocks, whose inner blocks are good, is so of all that a good block holds
module _ (a : Arena) (T : code.Statement → Type 0) (G : ℕ → Type 0) (step : (j : ℕ) → G j → AllByRecursion (λ i. (f : code.Statement) → statement_at a i ≡ Some f → T f × AllByRecursion G (inner_blocks f)) (block_at a j)) where
  inside_good : (b j : ℕ) → Inside a b j → G b → G j
  inside_good b _ (itself _) g = g
  inside_good b _ (deeper _ k j f i s m) g =
      each_of G (inner_blocks f) j ((each_of (λ n. (f : code.Statement) → statement_at a n ≡ Some f → T f × AllByRecursion G (inner_blocks f)) (block_at a k) s.number (step k (inside_good b k i g)) s.listed_there) f s.found).1 m

  pub held : (b : ℕ) (f : code.Statement) → G b → Holds a b f → T f
  held b f g x =
      ((each_of (λ n. (f : code.Statement) → statement_at a n ≡ Some f → T f × AllByRecursion G (inner_blocks f)) (block_at a x.block) x.stands.number (step x.block (inside_good b x.block x.inside g)) x.stands.listed_there)
      f x.stands.found).0

-- how many local variables there are
mutual
  count_is : (x : tree.Statement) → length (variables_in x) ≡ locals_in x
  count_is (tree.var line t name e) = refl
  count_is (tree.assign line target e) = refl
  count_is (tree.operate line name at o) = refl
  count_is (tree.act line a) = refl
  count_is (tree.if_ line e body other) = length-append (variables_in_block body) (variables_in_else other) ∙ (λ i. block_count body i + else_count other i)
  count_is (tree.while_ line e body) = block_count body
  count_is (tree.guard line body undo) = length-append (variables_in_block body) (variables_in_block undo) ∙ (λ i. block_count body i + block_count undo i)
  count_is (tree.try_ line body handlers) = length-append (variables_in_block body) (variables_in_handlers handlers) ∙ (λ i. block_count body i + handlers_count handlers i)

  block_count : (b : tree.Block) → length (variables_in_block b) ≡ locals_in_block b
  block_count tree.over = refl
  block_count (tree.then x xs) = length-append (variables_in x) (variables_in_block xs) ∙ (λ i. count_is x i + block_count xs i)

  else_count : (o : tree.Else) → length (variables_in_else o) ≡ locals_in_else o
  else_count tree.no_else = refl
  else_count (tree.else_block body) = block_count body

  handlers_count : (hs : tree.Handlers) → length (variables_in_handlers hs) ≡ locals_in_handlers hs
  handlers_count tree.no_more = refl
  handlers_count (tree.handler name body more) = length-append (variables_in_block body) (variables_in_handlers more) ∙ (λ i. block_count body i + handlers_count more i)

variables_parts : (ls : List CodeLocal) (n : ℕ) (xs ys : List LocalSource) → VariablesStand ls n (xs ++ ys) → VariablesStand ls n xs × VariablesStand ls (n + length xs) ys
variables_parts ls n [] ys h = (tt, subst (λ k. VariablesStand ls k ys) (let e : n ≡ n + 0 = omega arith in e) h)
variables_parts ls n (x ∷ xs) ys h =
    let p = variables_parts ls (n + 1) xs ys h.1 in
    ((h.0, p.0), subst (λ k. VariablesStand ls k ys) (let e : (n + 1) + length xs ≡ n + length (x ∷ xs) = omega arith in e) p.1)

variables_behind : (ls : List CodeLocal) (n k : ℕ) (xs ys : List LocalSource) → length xs ≡ k → VariablesStand ls n (xs ++ ys) → VariablesStand ls n xs × VariablesStand ls (n + k) ys
variables_behind ls n k xs ys e h = let p = variables_parts ls n xs ys h in (p.0, subst (λ j. VariablesStand ls (n + j) ys) e p.1)

module _ (h : Home) (a : Arena) (place : ℕ) (answer : Option ValueType) (c : Context) where
  abbrev pub IsReady : Scope → Type 0
  IsReady s = Ready h a place answer c s

  pub past_ready : (n : ℕ) (s : Scope) → IsReady s → IsReady (past n s)
  past_ready n s r = record { names = record { names = r.names.names; locals = r.names.locals }; known = r.known; functions = r.functions; returns = r.returns }

  unwind_ready : (s : Scope) → IsReady s → IsReady (in_unwind s)
  unwind_ready s r = record { names = record { names = r.names.names; locals = r.names.locals }; known = r.known; functions = r.functions; returns = r.returns }

  pub local_ready : (s : Scope) (name : List ℕ) (t : VarType) → IsReady s → TypesAreKnown (with_local s name t) → VariablesStand c.locals s.count ((name, t, false) ∷ []) → IsReady (with_local s name t)
  local_ready s name t r known v =
      record {
        names =
            record {
              names = r.names.names;
              locals = all_joined (LocalStands c) s.locals ((record { name = name; number = s.count; value_type = variable_type t }) ∷ []) r.names.locals ((v.0.0, v.0.1, v.0.2), tt);
            };
        known = known;
        functions = r.functions;
        returns = r.returns;
      }

  behind_ready : (x : tree.Statement) (s : Scope) → IsReady s → VariablesStand c.locals s.count (variables_in x) → fault_of constructs (statement_sites x s) ≡ None → IsReady (behind x s)
  behind_ready (tree.var line t name e) s r v clean = local_ready s name t r (behind_known (tree.var line t name e) s r.known clean) v
  behind_ready (tree.assign line target e) s r v clean = r
  behind_ready (tree.operate line name at o) s r v clean = r
  behind_ready (tree.act line x) s r v clean = r
  behind_ready (tree.if_ line e body other) s r v clean = past_ready (locals_in (tree.if_ line e body other)) s r
  behind_ready (tree.while_ line e body) s r v clean = past_ready (locals_in (tree.while_ line e body)) s r
  behind_ready (tree.guard line body undo) s r v clean = past_ready (locals_in (tree.guard line body undo)) s r
  behind_ready (tree.try_ line body handlers) s r v clean = past_ready (locals_in (tree.try_ line body handlers)) s r

  behind_count : (x : tree.Statement) (s : Scope) → (behind x s).count ≡ s.count + locals_in x
  behind_count (tree.var line t name e) s = refl
  behind_count (tree.assign line target e) s = omega arith
  behind_count (tree.operate line name at o) s = omega arith
  behind_count (tree.act line x) s = omega arith
  behind_count (tree.if_ line e body other) s = refl
  behind_count (tree.while_ line e body) s = refl
  behind_count (tree.guard line body undo) s = refl
  behind_count (tree.try_ line body handlers) s = refl

  -- the numbers are those of a block of the tree, whose statements stand at a scope and break no rule
  pub record BlockOf (ids : List ℕ) : Type 0 where
    pub block : tree.Block
    pub scope : Scope
    pub ready : IsReady scope
    pub variables : VariablesStand c.locals scope.count (variables_in_block block)
    pub numbered : AreNumbered h (exceptions_in_block block)
    pub depth : ℕ
    pub within_limits : fits_block block depth ≡ true
    pub clean : fault_of constructs (block_sites block scope) ≡ None
    pub read : IsBlock block h a scope ids

  abbrev pub IsGood : ℕ → Type 0
  IsGood j = AtBlock a j BlockOf

  -- a statement is typed, and so are its blocks
  abbrev pub IsFineAt : ℕ → Type 0
  IsFineAt i = (f : code.Statement) → statement_at a i ≡ Some f → IsTyped a place answer c f × AllByRecursion IsGood (inner_blocks f)

  abbrev AllFineAt : List ℕ → Type 0
  AllFineAt ids = AllByRecursion IsFineAt ids

  pub first_fine : (fs : List code.Statement) (ids rest : List ℕ) → AreFirst a fs ids rest → EachOf (λ f. IsTyped a place answer c f × AllByRecursion IsGood (inner_blocks f)) fs → AllFineAt rest → AllFineAt ids
  first_fine [] ids rest r k l = subst AllFineAt (sym r) l
  first_fine (f ∷ fs) ids rest r k l =
      subst AllFineAt (sym r.2)
      ((λ g e. subst (λ x. IsTyped a place answer c x × AllByRecursion IsGood (inner_blocks x)) (same_some f g (sym r.3 ∙ e)) k.0), first_fine fs r.1 rest r.4 k.1 l)

  -- statements without blocks
  plain_each : (fs : List code.Statement) → EachOf (λ f. IsTyped a place answer c f) fs → NoneHasBlocks fs → EachOf (λ f. IsTyped a place answer c f × AllByRecursion IsGood (inner_blocks f)) fs
  plain_each [] k l = tt
  plain_each (f ∷ fs) k l = ((k.0, subst (AllByRecursion IsGood) (sym l.0) tt), plain_each fs k.1 l.1)

  coded_fine : (o : Option (List code.Statement)) (ids rest : List ℕ) → IsCoded a o ids rest → Has (λ fs. EachOf (λ f. IsTyped a place answer c f) fs) o → ((fs : List code.Statement) → o ≡ Some fs → NoneHasBlocks fs) → AllFineAt rest → AllFineAt ids
  coded_fine o ids rest r k plain l =
      let same = same_some k.0 r.0 (sym k.1 ∙ r.1) in
      first_fine r.0 ids rest r.2 (plain_each r.0 (subst (λ fs. EachOf (λ f. IsTyped a place answer c f) fs) same k.2) (plain r.0 r.1)) l

  -- a condition is a truth value
  condition : (s : Scope) (r : IsReady s) (n : ℕ) (e : tree.Expression) (t : Term) → fits n e ≡ true → fault_of constructs (expression_sites s e) ≡ None → fails is_bool (type_of s e) ≡ false → term_of s e ≡ Some t → HasType c t type.Bool
  condition s r n e t fit clean ok is =
      let x = type_there s c r.names r.known e clean in
      let y = follows s c r.names r.known n e fit x.0 x.1 in
      subst (HasType c t) (bool_type x.0 (tested s c r.names r.known is_bool (type_of s e) x.0 x.1 ok)) (subst (λ z. HasType c z (evaluated_as x.0)) (same_some y.0 t (sym y.1 ∙ is)) y.2)

  inner : (b : tree.Block) (s : Scope) (n j : ℕ) → IsReady s → VariablesStand c.locals s.count (variables_in_block b) → AreNumbered h (exceptions_in_block b) → within n (fits_block b) ≡ true → fault_of constructs (block_sites b s) ≡ None
      → AtBlock a j (IsBlock b h a s) → IsGood j
  inner b s n j r v m fit clean read =
      let w = within_is n (fits_block b) fit in
      (read.0, read.1, record { block = b; scope = s; ready = r; variables = v; numbered = m; depth = w.0; within_limits = w.1; clean = clean; read = read.2 })

  else_good : (o : tree.Else) (s : Scope) (n : ℕ) (j : Option ℕ) → IsReady s → VariablesStand c.locals s.count (variables_in_else o) → AreNumbered h (exceptions_in_else o) → fits_else o n ≡ true → fault_of constructs (else_sites o s) ≡ None
      → IsElse o h a s j → AllByRecursion IsGood (listed j)
  else_good tree.no_else s n j r v m fit clean read = subst (λ x. AllByRecursion IsGood (listed x)) (sym read) tt
  else_good (tree.else_block body) s n j r v m fit clean read = subst (λ x. AllByRecursion IsGood (listed x)) (sym read.1) (inner body s n read.0 r v m fit clean read.2, tt)

  handlers_good : (hs : tree.Handlers) (s : Scope) (n : ℕ) (js : List Handler) → IsReady s → VariablesStand c.locals s.count (variables_in_handlers hs) → AreNumbered h (exceptions_in_handlers hs) → fits_handlers hs n ≡ true
      → fault_of constructs (handler_sites hs s) ≡ None → AreHandlers hs h a s js → AllByRecursion IsGood (map (λ (x : Handler). x.block) js)
  handlers_good tree.no_more s n js r v m fit clean read = subst (λ xs. AllByRecursion IsGood (map (λ (x : Handler). x.block) xs)) (sym read) tt
  handlers_good (tree.handler name body more) s n js r v m fit clean read =
      let p = parts_none (block_sites body s) (handler_sites more (past (locals_in_block body) s)) clean in
      let q = all_parts _ (exceptions_in_block body) (exceptions_in_handlers more) m.1 in
      let w = variables_behind c.locals s.count (locals_in_block body) (variables_in_block body) (variables_in_handlers more) (block_count body) v in
      let f = both_true (within n (fits_block body)) (fits_handlers more n) (both_true (is_name name) (within n (fits_block body) && fits_handlers more n) fit).1 in
      subst (λ xs. AllByRecursion IsGood (map (λ (x : Handler). x.block) xs)) (sym read.3)
      (inner body s n read.1 r w.0 q.0 f.0 p.0 read.5, handlers_good more (past (locals_in_block body) s) n read.2 (past_ready (locals_in_block body) s r) w.1 q.1 f.1 p.1 read.6)

  statement_fine : (x : tree.Statement) (s : Scope) (n : ℕ) (ids rest : List ℕ) → IsReady s → VariablesStand c.locals s.count (variables_in x) → AreNumbered h (exceptions_in x) → fits_statement x n ≡ true
      → fault_of constructs (statement_sites x s) ≡ None → IsStatement x h a s ids rest → AllFineAt rest → AllFineAt ids
  statement_fine (tree.var line t name e) s n ids rest r v m fit clean read l =
      coded_fine (var_code s (variable_type t) e) ids rest read (var_fine s c r.names r.known h a place r.functions answer line n t name e v fit clean) (var_plain s (variable_type t) e) l
  statement_fine (tree.assign line target e) s n ids rest r v m fit clean read l =
      coded_fine (assign_code s target e) ids rest read (assign_fine s c r.names r.known h a place r.functions answer line n target e fit clean) (assign_plain s target e) l
  statement_fine (tree.operate line name at o) s n ids rest r v m fit clean read l =
      coded_fine (operate_code h s (if_written (store s) name) o) ids rest read (operate_fine s c r.names r.known h a place r.functions answer line at n name o fit clean) (operate_plain h s (if_written (store s) name) o) l
  statement_fine (tree.act line x) s n ids rest r v m fit clean read l =
      coded_fine (action_code h s x) ids rest read (act_fine s c r.names r.known h a place r.functions answer line n x m r.returns fit clean) (action_plain h s x) l
  statement_fine (tree.if_ line e body other) s n ids rest r v m fit clean read l =
      let p = head_none (site s line (part.of_statement (tree.if_ line e body other))) (expression_sites s e ++ block_sites body s ++ else_sites other (past (locals_in_block body) s)) clean in
      let q = parts_none (expression_sites s e ++ block_sites body s) (else_sites other (past (locals_in_block body) s)) p.1 in
      let u = parts_none (expression_sites s e) (block_sites body s) q.0 in
      let k = keeps (site s line (part.of_statement (tree.if_ line e body other))) p.0 in
      let w = variables_behind c.locals s.count (locals_in_block body) (variables_in_block body) (variables_in_else other) (block_count body) v in
      let o = all_parts _ (exceptions_in_block body) (exceptions_in_else other) m in
      let f = both_true (fits n e) (within n (fits_block body) && fits_else other n) fit in
      let g = both_true (within n (fits_block body)) (fits_else other n) f.1 in
      first_fine (code.if_ read.0 read.1 read.2 ∷ []) ids rest read.4 (
        (
          condition s r n e read.0 f.0 u.0 (not_named (fails is_bool (type_of s e)) s.around k.types) read.3,
          (inner body s n read.1 r w.0 o.0 g.0 u.1 read.5, else_good other (past (locals_in_block body) s) n read.2 (past_ready (locals_in_block body) s r) w.1 o.1 g.1 q.1 read.6),
        ),
        tt,
      ) l
  statement_fine (tree.while_ line e body) s n ids rest r v m fit clean read l =
      let p = head_none (site s line (part.of_statement (tree.while_ line e body))) (expression_sites s e ++ block_sites body s) clean in
      let u = parts_none (expression_sites s e) (block_sites body s) p.1 in
      let k = keeps (site s line (part.of_statement (tree.while_ line e body))) p.0 in
      let f = both_true (fits n e) (within n (fits_block body)) fit in
      first_fine (code.while_ read.0 read.1 ∷ []) ids rest read.3
      ((condition s r n e read.0 f.0 u.0 (not_named (fails is_bool (type_of s e)) s.around k.types) read.2, (inner body s n read.1 r v m f.1 u.1 read.4, tt)), tt) l
  statement_fine (tree.guard line body undo) s n ids rest r v m fit clean read l =
      let p = head_none (site s line (part.of_statement (tree.guard line body undo))) (block_sites body s ++ block_sites undo (in_unwind (past (locals_in_block body) s))) clean in
      let u = parts_none (block_sites body s) (block_sites undo (in_unwind (past (locals_in_block body) s))) p.1 in
      let w = variables_behind c.locals s.count (locals_in_block body) (variables_in_block body) (variables_in_block undo) (block_count body) v in
      let o = all_parts _ (exceptions_in_block body) (exceptions_in_block undo) m in
      let f = both_true (within n (fits_block body)) (within n (fits_block undo)) fit in
      first_fine (code.guard read.0 read.1 ∷ []) ids rest read.2 (
        (
          tt,
          (
            inner body s n read.0 r w.0 o.0 f.0 u.0 read.3,
            (inner undo (in_unwind (past (locals_in_block body) s)) n read.1 (unwind_ready (past (locals_in_block body) s) (past_ready (locals_in_block body) s r)) w.1 o.1 f.1 u.1 read.4, tt),
          ),
        ),
        tt,
      ) l
  statement_fine (tree.try_ line body handlers) s n ids rest r v m fit clean read l =
      let p = head_none (site s line (part.of_statement (tree.try_ line body handlers))) (block_sites body s ++ handler_sites handlers (past (locals_in_block body) s)) clean in
      let u = parts_none (block_sites body s) (handler_sites handlers (past (locals_in_block body) s)) p.1 in
      let w = variables_behind c.locals s.count (locals_in_block body) (variables_in_block body) (variables_in_handlers handlers) (block_count body) v in
      let o = all_parts _ (exceptions_in_block body) (exceptions_in_handlers handlers) m in
      let f = both_true (within n (fits_block body)) (has_handler handlers && fits_handlers handlers n) fit in
      first_fine (code.try_ read.0 read.1 ∷ []) ids rest read.2 (
        (
          tt,
          (
            inner body s n read.0 r w.0 o.0 f.0 u.0 read.3,
            handlers_good handlers (past (locals_in_block body) s) n read.1 (past_ready (locals_in_block body) s r) w.1 o.1 (both_true (has_handler handlers) (fits_handlers handlers n) f.1).1 u.1 read.4,
          ),
        ),
        tt,
      ) l

  pub block_fine : (b : tree.Block) (s : Scope) (n : ℕ) (ids : List ℕ) → IsReady s → VariablesStand c.locals s.count (variables_in_block b) → AreNumbered h (exceptions_in_block b) → fits_block b n ≡ true
      → fault_of constructs (block_sites b s) ≡ None → IsBlock b h a s ids → AllFineAt ids
  block_fine tree.over s n ids r v m fit clean read = subst AllFineAt (sym read) tt
  block_fine (tree.then x xs) s n ids r v m fit clean read =
      let p = parts_none (statement_sites x s) (block_sites xs (behind x s)) clean in
      let w = variables_behind c.locals s.count (locals_in x) (variables_in x) (variables_in_block xs) (count_is x) v in
      let o = all_parts _ (exceptions_in x) (exceptions_in_block xs) m in
      let f = both_true (fits_statement x n) (fits_block xs n) fit in
      statement_fine x s n ids read.0 r w.0 o.0 f.0 p.0 read.1
      (block_fine xs (behind x s) n read.0 (behind_ready x s r w.0 p.0) (subst (λ k. VariablesStand c.locals k (variables_in_block xs)) (sym (behind_count x s)) w.1) o.1 f.1 p.1 read.2)

  -- at any depth
  good_fine : (j : ℕ) → IsGood j → AllFineAt (block_at a j)
  good_fine j g =
      let b = g.2 in
      subst AllFineAt (sym (ap (λ o. unwrap_or o []) g.1)) (block_fine b.block b.scope b.depth g.0 b.ready b.variables b.numbered b.within_limits b.clean b.read)

  pub held_fine : (b : ℕ) (f : code.Statement) → IsGood b → Holds a b f → IsTyped a place answer c f
  held_fine b f g x = held a (λ f. IsTyped a place answer c f) IsGood good_fine b f g x
