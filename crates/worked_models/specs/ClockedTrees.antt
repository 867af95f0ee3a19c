-- The trees of the whole models that the texts become, with the block of the clocked thread of each, and its ticks.
use Rattle.std.specs.Prelude.{ℕ, Bool, true, false, List, [], ◌∷◌, if◌then◌else◌, nat_lt, codes, Option, Some, None}
use Rattle.model_lexer.specs.ModelTree.Tree as tree
use Rattle.model_lexer.specs.SimTime.declared.moments.Unit.TheVariants as unit
use Rattle.model_lexer.specs.ModelTree.declared.expressions.BinaryOp.TheVariants as op
use Rattle.model_lexer.specs.ModelTree.declared.items.SignalKind.TheVariants as signal_kind
use Rattle.model_lexer.specs.ModelTree.declared.items.ProcessKind.TheVariants as process
use Rattle.model_lexer.specs.ModelTree.declared.statements.Control.TheVariants as control
use Rattle.model_lexer.specs.ModelTree.declared.statements.Who.TheVariants as who
use Rattle.model_lexer.specs.ModelTree.declared.types.TypeForm.TheVariants as type_form
use Rattle.expanded_text.specs.Clocked.{Reset, Tick, tick_form, body_form}

-- ---- pieces on a line

abbrev pub on_line : ℕ → ℕ → ℕ
on_line line k = line

abbrev pub named : ℕ → List ℕ → tree.Expression
named line x = tree.named line x

abbrev pub channel : ℕ → List ℕ → tree.Channel
channel line x = record { line = line; name = x; place = tree.first }

abbrev pub event : ℕ → List ℕ → Option (List ℕ) → tree.Event
event line x member = record { channel = channel line x; member = member }

abbrev pub prints : ℕ → List ℕ → tree.Statement
prints line told = tree.act line (tree.print told None)

abbrev pub waits : ℕ → ℕ → tree.Statement
waits line n = tree.act line (tree.wait (tree.for_ (tree.time line n unit.Ns)))

abbrev pub writes : ℕ → List ℕ → Bool → tree.Statement
writes line x b = tree.act line (tree.write (channel line x) (tree.truth line b))

abbrev pub ticks : ℕ → Tick → tree.Statement
ticks line t = tick_form (on_line line) t

-- clock clk period 10 ns high 5 ns;
abbrev pub the_clock : tree.Item
the_clock = tree.clock 1 (record { name = codes "clk"; period = record { count = 10; unit = unit.Ns }; high = record { count = 5; unit = unit.Ns }; start = None })

-- signal bool r;
abbrev pub the_signal : tree.Item
the_signal = tree.signal 1 (record { kind = signal_kind.Signal; many = false; value_type = record { line = 1; form = type_form.Bool }; name = codes "r"; initial = None })

-- thread k, which waits, writes true, waits 10 ns and writes false
abbrev pub writer : ℕ → ℕ → tree.Item
writer line n =
    tree.process line (record {
      kind = process.Thread;
      name = codes "k";
      sensitive = [];
      dont_initialize = false;
      body = tree.then (waits line n) (tree.then (writes line (codes "r") true) (tree.then (waits line 10) (tree.then (writes line (codes "r") false) tree.over)));
    })

-- thread t sensitive clk.EDGE dont_initialize
abbrev pub thread_of : ℕ → List ℕ → tree.Block → tree.ProcessItem
thread_of line edge body =
    record { kind = process.Thread; name = codes "t"; sensitive = event line (codes "clk") (Some edge) ∷ []; dont_initialize = true; body = body }

-- module M { ITEMS } top M m;
abbrev pub model_of : ℕ → List tree.Item → tree.Model
model_of line items = record { modules = (record { line = 1; name = codes "M"; items = items }) ∷ []; top = record { line = line; «module» = codes "M"; name = codes "m" } }

-- ---- a thread that is reset at an edge

abbrev pub r_is_true : Reset
r_is_true = record { signal = codes "r"; level = true }

abbrev pub two_edges : Tick
two_edges = record { edges = 2; resets = r_is_true ∷ [] }

abbrev pub one_edge : Tick
one_edge = record { edges = 1; resets = r_is_true ∷ [] }

abbrev pub at_an_edge_block : tree.Block
at_an_edge_block =
    tree.then (prints 1 (codes "start"))
    (tree.then (ticks 1 two_edges) (tree.then (prints 1 (codes "two")) (tree.then (ticks 1 one_edge) (tree.then (prints 1 (codes "three")) tree.over))))

abbrev pub at_an_edge_thread : tree.ProcessItem
at_an_edge_thread = thread_of 1 (codes "pos") (body_form (on_line 1) at_an_edge_block)

abbrev pub at_an_edge_model : tree.Model
at_an_edge_model = model_of 1 (the_clock ∷ the_signal ∷ tree.process 1 at_an_edge_thread ∷ writer 1 15 ∷ [])

-- ---- a thread that is reset at once

abbrev pub five_edges : Tick
five_edges = record { edges = 5; resets = r_is_true ∷ [] }

abbrev pub at_once_block : tree.Block
at_once_block =
    tree.then
    (tree.guard 3 (tree.then (prints 3 (codes "s")) (tree.then (ticks 3 five_edges) (tree.then (prints 3 (codes "never")) tree.over))) (tree.then (prints 3 (codes "u")) tree.over))
    tree.over

-- what is put in before the statements of the block is on line 2, and what is put in behind them on line 3
abbrev pub at_once_lines : ℕ → ℕ
at_once_lines k = if nat_lt k 6 then 2 else 3

abbrev pub at_once_thread : tree.ProcessItem
at_once_thread = thread_of 2 (codes "pos") (body_form at_once_lines at_once_block)

-- method t_areset sensitive r dont_initialize { if r == true { reset t; } }
abbrev pub reset_method : tree.Item
reset_method =
    tree.process 4 (record {
      kind = process.Method;
      name = codes "t_areset";
      sensitive = event 4 (codes "r") None ∷ [];
      dont_initialize = true;
      body = tree.then
          (tree.if_ 4 (tree.binary op.Equal (named 4 (codes "r")) (tree.truth 4 true)) (tree.then (tree.act 4 (tree.control control.Reset (who.Named 4 (codes "t")) false)) tree.over) tree.no_else)
          tree.over;
    })

abbrev pub at_once_model : tree.Model
at_once_model = model_of 5 (the_clock ∷ the_signal ∷ tree.process 2 at_once_thread ∷ reset_method ∷ writer 5 22 ∷ [])

-- ---- a thread without resets

abbrev pub three_alone : Tick
three_alone = record { edges = 3; resets = [] }

abbrev pub one_alone : Tick
one_alone = record { edges = 1; resets = [] }

abbrev pub without_block : tree.Block
without_block =
    tree.then (prints 2 (codes "a"))
    (tree.then (ticks 2 three_alone)
    (tree.then (tree.operate 2 None 2 (tree.call (codes "f") []))
    (tree.then (tree.while_ 2 (tree.truth 2 true) (tree.then (ticks 2 one_alone) (tree.then (prints 2 (codes "b")) tree.over))) tree.over)))

abbrev pub without_thread : tree.ProcessItem
without_thread = thread_of 2 (codes "neg") (body_form (on_line 2) without_block)

abbrev pub the_function : tree.Item
the_function = tree.function 1 (record { name = codes "f"; parameters = []; answer = None; body = tree.then (waits 1 1) tree.over })

abbrev pub without_model : tree.Model
without_model = model_of 3 (the_clock ∷ the_function ∷ tree.process 2 without_thread ∷ [])
