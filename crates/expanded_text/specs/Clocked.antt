-- Clocked threads, over the tree alone: the form of a thread that begins its block anew whenever a reset is seen, and of the ticks
-- in that block. Whoever wrote it, and on which lines: `at` gives the lines of a form, one after another.
use Rattle.std.specs.Prelude.{◌≡◌, ℕ, ◌+◌, ◌&&◌, ◌||◌, Bool, true, false, List, [], ◌∷◌, ◌++◌, ◌⊎◌, codes, nat_le, Option, Some, None}
use Rattle.std.specs.Str.{bytes_eq}
use Rattle.model_tree.specs.Tree as tree
use Rattle.model_tree.specs.declared.expressions.BinaryOp.TheVariants as op
use Rattle.model_tree.specs.declared.items.ProcessKind.TheVariants as process
use Rattle.model_tree.specs.declared.types.TypeForm.{TypeForm}
use Rattle.model_tree.specs.declared.types.TypeForm.TheVariants as type_form
use Rattle.model_tree.specs.declared.types.VarType.{VarType}
use Rattle.model_tree.specs.declared.types.VarType.TheVariants as variable
use Rattle.expanded_text.specs.Named.{Names, name_if, in_expression, in_expression_if, in_target, in_operation, in_action}

-- ---- the three names

abbrev pub count_name : List ℕ
count_name = codes "tick_count"

abbrev pub again_name : List ℕ
again_name = codes "tick_again"

abbrev pub reset_name : List ℕ
reset_name = codes "tick_reset"

abbrev pub is_kept : List ℕ → Bool
is_kept x = bytes_eq x count_name || (bytes_eq x again_name || bytes_eq x reset_name)

-- whether one of the names is among these
abbrev pub has_kept : Names → Bool
has_kept [] = false
has_kept (x ∷ xs) = is_kept x || has_kept xs

-- none of them is
abbrev pub Avoids : Names → Type 0
Avoids xs = has_kept xs ≡ false

-- ---- a tick

-- a reset: a signal, and the level at which it resets
pub record Reset : Type 0 where
  pub signal : List ℕ
  pub level : Bool

-- a tick: how many edges it takes, and the resets that it tests
pub record Tick : Type 0 where
  pub edges : ℕ
  pub resets : List Reset

abbrev pub behind : (ℕ → ℕ) → ℕ → ℕ → ℕ
behind at n k = at (n + k)

abbrev pub plain_type : ℕ → TypeForm → VarType
plain_type line form = variable.Plain (record { line = line; form = form })

abbrev pub target_of : List ℕ → tree.Target
target_of x = record { name = x; member = None; index = None }

-- if r == v { throw tick_reset; }
abbrev pub test_form : (ℕ → ℕ) → Reset → tree.Statement
test_form at r =
    tree.if_ (at 0) (tree.binary op.Equal (tree.named (at 1) r.signal) (tree.truth (at 2) r.level))
    (tree.then (tree.act (at 3) (tree.throw reset_name)) tree.over) tree.no_else

-- the tests of these resets, and a statement behind them
abbrev pub tests_form : (ℕ → ℕ) → List Reset → tree.Statement → tree.Block
tests_form at [] last = tree.then last tree.over
tests_form at (r ∷ rs) last = tree.then (test_form at r) (tests_form (behind at 4) rs last)

-- tick_count = tick_count - 1;
abbrev pub count_form : (ℕ → ℕ) → tree.Statement
count_form at = tree.assign (at 0) (target_of count_name) (tree.binary op.Subtract (tree.named (at 1) count_name) (tree.number (at 2) 1))

-- while tick_count > 0 { wait; TESTS tick_count = tick_count - 1; }
abbrev pub wait_form : (ℕ → ℕ) → List Reset → tree.Statement
wait_form at rs =
    tree.while_ (at 0) (tree.binary op.Greater (tree.named (at 1) count_name) (tree.number (at 2) 0))
    (tree.then (tree.act (at 3) (tree.wait tree.static)) (tests_form (behind at 7) rs (count_form (behind at 4))))

-- var uint<32> tick_count = n; WAIT
abbrev pub tick_block : (ℕ → ℕ) → Tick → tree.Block
tick_block at t =
    tree.then (tree.var (at 2) (plain_type (at 3) (type_form.Uint 32)) count_name (Some (tree.number (at 4) t.edges)))
    (tree.then (wait_form (behind at 5) t.resets) tree.over)

-- if true { BLOCK }
abbrev pub tick_form : (ℕ → ℕ) → Tick → tree.Statement
tick_form at t = tree.if_ (at 0) (tree.truth (at 1) true) (tick_block at t) tree.no_else

-- the names of signals that are tested
abbrev pub tested : List Reset → Names
tested [] = []
tested (r ∷ rs) = r.signal ∷ tested rs

-- the statement is this tick
pub record IsTick (t : Tick) (x : tree.Statement) : Type 0 where
  pub at : ℕ → ℕ
  pub form : x ≡ tick_form at t
  pub counts : (nat_le 1 t.edges && nat_le t.edges 4294967295) ≡ true
  pub others : Avoids (tested t.resets)

-- ---- the ticks of a block

-- no tick, where a piece names none of the three
abbrev pub NoTick : Names → List Tick → Type 0
NoTick names ts = Avoids names × (ts ≡ [])

-- The names stand in the ticks alone, and those are the ticks in text order.
abbrev mutual
  pub Ticks : tree.Statement → List Tick → Type 0
  Ticks (tree.var line t x e) ts = NoTick (x ∷ in_expression_if e) ts
  Ticks (tree.assign line t e) ts = NoTick (in_target t ++ in_expression e) ts
  Ticks (tree.operate line x at o) ts = NoTick (name_if x ++ in_operation o) ts
  Ticks (tree.act line a) ts = NoTick (in_action a) ts
  Ticks (tree.if_ line e body other) ts =
      ((t : Tick) × IsTick t (tree.if_ line e body other) × (ts ≡ t ∷ []))
      ⊎ (Avoids (in_expression e) × ((us : List Tick) × (vs : List Tick) × (ts ≡ us ++ vs) × HasTicks body us × ElseTicks other vs))
  Ticks (tree.while_ line e body) ts = Avoids (in_expression e) × HasTicks body ts
  Ticks (tree.guard line body undo) ts = (us : List Tick) × (vs : List Tick) × (ts ≡ us ++ vs) × HasTicks body us × HasTicks undo vs
  Ticks (tree.try_ line body hs) ts = (us : List Tick) × (vs : List Tick) × (ts ≡ us ++ vs) × HasTicks body us × HandlerTicks hs vs

  pub HasTicks : tree.Block → List Tick → Type 0
  HasTicks tree.over ts = ts ≡ []
  HasTicks (tree.then x xs) ts = (us : List Tick) × (vs : List Tick) × (ts ≡ us ++ vs) × Ticks x us × HasTicks xs vs

  pub ElseTicks : tree.Else → List Tick → Type 0
  ElseTicks tree.no_else ts = ts ≡ []
  ElseTicks (tree.else_block body) ts = HasTicks body ts

  pub HandlerTicks : tree.Handlers → List Tick → Type 0
  HandlerTicks tree.no_more ts = ts ≡ []
  HandlerTicks (tree.handler x body more) ts = Avoids (x ∷ []) × ((us : List Tick) × (vs : List Tick) × (ts ≡ us ++ vs) × HasTicks body us × HandlerTicks more vs)

-- ---- a clocked thread

-- a block with a statement behind it
abbrev pub with_last : tree.Block → tree.Statement → tree.Block
with_last tree.over last = tree.then last tree.over
with_last (tree.then x xs) last = tree.then x (with_last xs last)

-- tick_again = false;
abbrev pub last_form : (ℕ → ℕ) → tree.Statement
last_form at = tree.assign (at 6) (target_of again_name) (tree.truth (at 7) false)

-- try { BLOCK LAST } catch tick_reset { }
abbrev pub try_form : (ℕ → ℕ) → tree.Block → tree.Statement
try_form at block = tree.try_ (at 5) (with_last block (last_form at)) (tree.handler reset_name tree.over tree.no_more)

-- var bool tick_again = true; while tick_again { TRY }
abbrev pub body_form : (ℕ → ℕ) → tree.Block → tree.Block
body_form at block =
    tree.then (tree.var (at 0) (plain_type (at 1) type_form.Bool) again_name (Some (tree.truth (at 2) true)))
    (tree.then (tree.while_ (at 3) (tree.named (at 4) again_name) (tree.then (try_form at block) tree.over)) tree.over)

-- `pos` or `neg`
abbrev pub IsEdgeName : Option (List ℕ) → Type 0
IsEdgeName None = ⊥
IsEdgeName (Some x) = (bytes_eq x (codes "pos") || bytes_eq x (codes "neg")) ≡ true

-- one event, an edge
abbrev pub IsEdge : List tree.Event → Type 0
IsEdge [] = ⊥
IsEdge (e ∷ []) = IsEdgeName e.member
IsEdge (e ∷ f ∷ es) = ⊥

-- The process is a clocked thread with this block, which has these ticks, in text order.
pub record IsClocked (p : tree.ProcessItem) (block : tree.Block) (ticks : List Tick) : Type 0 where
  pub thread : p.kind ≡ process.Thread
  pub edge : IsEdge p.sensitive
  pub later : p.dont_initialize ≡ true
  pub at : ℕ → ℕ
  pub form : p.body ≡ body_form at block
  pub only : HasTicks block ticks
