-- A model as its text, as its tree and as its flat design: a method follows a signal, and another one follows that one.
use Rattle.std.specs.Prelude.{ℕ, Bool, true, false, List, [], ◌∷◌, codes, None, Some}
use Rattle.model_lexer.specs.ModelTree.Tree as tree
use Rattle.model_lexer.specs.ModelTree.declared.items.SignalKind.TheVariants as signal_kind
use Rattle.model_lexer.specs.ModelTree.declared.items.ProcessKind.TheVariants as process
use Rattle.model_lexer.specs.ModelTree.declared.types.TypeForm.TheVariants as type_form
use Rattle.code_rules.specs.EventCore.declared.event.Ev.TheVariants as ev
use Rattle.code_rules.specs.FlatDesign.declared.value_types.ValueType.TheVariants as type
use Rattle.code_rules.specs.FlatDesign.declared.design.Design.{Design}
use Rattle.worked_runs.specs.Body.{end, then, branch, item, named, say_value, write}
use Rattle.worked_runs.specs.Build.{design_of, signal, method, process_of}
use Rattle.worked_runs.specs.Rows.{one}

-- the text, in one line
abbrev pub text : List ℕ
text = codes "module M { signal bool a; signal bool b; method s sensitive a { if a { write b true; } print \"b\" b; } method w sensitive b dont_initialize { print \"w\" b; } } top M m;"

-- its tree

abbrev pub bool_signal : List ℕ → tree.Item
bool_signal name = tree.signal 1 (record { kind = signal_kind.Signal; many = false; value_type = record { line = 1; form = type_form.Bool }; name = name; initial = None })

abbrev pub channel : List ℕ → tree.Channel
channel name = record { line = 1; name = name; place = tree.first }

abbrev pub writes : tree.Statement
writes = tree.act 1 (tree.write (channel (codes "b")) (tree.truth 1 true))

abbrev pub prints : List ℕ → tree.Statement
prints told = tree.act 1 (tree.print told (Some (tree.named 1 (codes "b"))))

abbrev pub method_item : List ℕ → List ℕ → Bool → tree.Block → tree.Item
method_item name signal_name dont_initialize body =
    tree.process 1 (record { kind = process.Method; name = name; sensitive = (record { channel = channel signal_name; member = None }) ∷ []; dont_initialize = dont_initialize; body = body })

abbrev pub model : tree.Model
model = record {
  modules = (record {
    line = 1;
    name = codes "M";
    items = bool_signal (codes "a")
        ∷ bool_signal (codes "b")
        ∷ method_item (codes "s") (codes "a") false (tree.then (tree.if_ 1 (tree.named 1 (codes "a")) (tree.then writes tree.over) tree.no_else) (tree.then (prints (codes "b")) tree.over))
        ∷ method_item (codes "w") (codes "b") true (tree.then (prints (codes "w")) tree.over)
        ∷ [];
  }) ∷ [];
  top = record { line = 1; «module» = codes "M"; name = codes "m" };
}

-- its flat design
abbrev pub follows : Design
follows = design_of (signal (codes "a") type.Bool ∷ signal (codes "b") type.Bool
    ∷ method (codes "s") (ev.Fixed 0 ∷ []) (branch (named (item 0)) (then (write 1 type.Bool one) end) (then (say_value (codes "b") (named (item 1))) end))
    ∷ process_of process.Method (codes "w") [] (ev.Fixed 3 ∷ []) true (then (say_value (codes "w") (named (item 1))) end)
    ∷ [])
