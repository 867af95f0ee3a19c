-- More texts, of one statement each, in a thread of a module that has one object of each kind.
use Rattle.std.specs.Prelude.{ℕ, Bool, true, false, List, [], ◌∷◌, ◌++◌, codes, Option, Some, None}
use Rattle.model_lexer.specs.SimTime.declared.moments.Unit.TheVariants as unit
use Rattle.model_lexer.specs.ModelTree.Tree as tree
use Rattle.model_lexer.specs.ModelTree.Views.{block_of}
use Rattle.model_lexer.specs.ModelTree.declared.types.TypeForm.TheVariants as form
use Rattle.model_lexer.specs.ModelTree.declared.types.VarType.TheVariants as var_type
use Rattle.model_lexer.specs.ModelTree.declared.types.Interface.TheVariants as interface
use Rattle.model_lexer.specs.ModelTree.declared.types.BoundRule.TheVariants as bound_rule
use Rattle.model_lexer.specs.ModelTree.declared.types.ConstantForm.TheVariants as constant_form
use Rattle.model_lexer.specs.ModelTree.declared.statements.Who.TheVariants as who
use Rattle.model_lexer.specs.ModelTree.declared.statements.Control.TheVariants as control
use Rattle.model_lexer.specs.ModelTree.declared.items.PlainKind.TheVariants as plain_kind
use Rattle.model_lexer.specs.ModelTree.declared.items.InitiatorRole.TheVariants as initiator
use Rattle.model_lexer.specs.ModelTree.declared.items.ProcessKind.TheVariants as process_kind
use Rattle.worked_models.specs.FormTrees.{model, typed, plain, constant, signal, clock, span, thread, function, local, yes_}

-- On lines 2 to 9: signals b (bool), u (uint<8>), v (lv<40>); the clock c; the fifo f of uint<8>; the mutex x, the event e, the keeper
-- k; the semaphore s; the memory m; ports p (in bool, 2 channels) and o (out bool); a function g; a thread w; a variable h of a
-- process. In the thread t on line 10: n (uint<8>), z (bool), q (payload), d (time).
abbrev pub items : List tree.Item
items =
    signal 2 form.Bool (codes "b") ∷ signal 2 (form.Uint 8) (codes "u") ∷ signal 2 (form.Vector 40) (codes "v")
    ∷ clock 3 (codes "c") (span 10 unit.Ns) (span 5 unit.Ns)
    ∷ tree.fifo 4 (typed 4 (form.Uint 8)) (codes "f") None
    ∷ tree.plain 5 plain_kind.Mutex (codes "x") ∷ tree.plain 5 plain_kind.Event (codes "e") ∷ tree.plain 5 plain_kind.Keeper (codes "k")
    ∷ tree.semaphore 6 (codes "s") (constant 6 (constant_form.Number 1))
    ∷ tree.memory 6 (codes "m") 16
    ∷ tree.port 7 (interface.In (typed 7 form.Bool)) (codes "p") (Some (record { count = 2; rule = bound_rule.One }))
    ∷ tree.port 7 (interface.Out (typed 7 form.Bool)) (codes "o") None
    ∷ function 8 (codes "g") [] (Some (plain 8 form.Bool)) (tree.act 8 (tree.return_ (Some (yes_ 8))) ∷ [])
    ∷ thread 9 (codes "w") []
    ∷ tree.variable 9 var_type.Process (codes "h") None
    ∷ []

abbrev pub locals : List tree.Statement
locals = local 11 (plain 11 (form.Uint 8)) (codes "n") ∷ local 11 (plain 11 form.Bool) (codes "z") ∷ local 11 var_type.Payload (codes "q") ∷ local 11 var_type.Time (codes "d") ∷ []

-- a text with this statement, whose lines are from 20 on
abbrev pub doing : tree.Statement → tree.Model
doing x = model (items ++ thread 10 (codes "t") (locals ++ x ∷ []) ∷ [])

abbrev pub acting : tree.Action → tree.Model
acting a = doing (tree.act 20 a)

abbrev pub showing : tree.Expression → tree.Model
showing e = acting (tree.print [] (Some e))

abbrev pub taking : List ℕ → tree.Operation → tree.Model
taking name o = doing (tree.operate 20 (Some name) 20 o)

abbrev pub storing : List ℕ → Option (List ℕ) → Option tree.Expression → tree.Expression → tree.Model
storing name member index e = doing (tree.assign 20 (record { name = name; member = member; index = index }) e)

-- a text with a thread of this sensitivity
abbrev pub sensing : tree.Event → tree.Model
sensing e = model (items ++ tree.process 20 (record { kind = process_kind.Thread; name = codes "t"; sensitive = e ∷ []; dont_initialize = false; body = tree.over }) ∷ [])

abbrev pub at_place : List ℕ → tree.Place → tree.Event
at_place name place = record { channel = record { line = 21; name = name; place = place }; member = None }

abbrev pub spawning : List ℕ → tree.Model
spawning handle = acting (tree.spawn (record { handle = Some handle; method = false; function = codes "g"; arguments = []; sensitive = []; dont_initialize = false }))

abbrev pub killing : List ℕ → tree.Model
killing name = acting (tree.control control.Kill (who.Named 21 name) false)

abbrev pub syncing_in_unwind : tree.Model
syncing_in_unwind = doing (tree.guard 20 tree.over (block_of (tree.act 21 (tree.qk_sync (codes "k")) ∷ [])))

-- initiator i; and a transport call in an unwind block, a blocking one or another
abbrev pub called_through : Bool → tree.Statement
called_through true = tree.act 21 (tree.b_transport (codes "i") (codes "q") (codes "d"))
called_through false = tree.operate 21 None 21 (tree.nb_transport (codes "i") (codes "q") (codes "r") (codes "d"))

abbrev pub transporting_in_unwind : Bool → tree.Model
transporting_in_unwind blocking =
    model (tree.initiator 1 (codes "i") (initiator.Own None) ∷ items ++ thread 10 (codes "t")
    (locals ++ local 11 (plain 11 (form.Int 32)) (codes "r") ∷ tree.guard 20 tree.over (block_of (called_through blocking ∷ [])) ∷ []) ∷ [])
