-- The places and expressions of the worked code: signals b (bool), u (uint<8>), i (int<8>), v (lv<9>), a memory m, a port p of two
-- channels, a keeper k, a fifo f of uint<8>, a function g(inout uint<8> x, bool y) -> int<8>; in a body with the local variable n
-- (uint<8>), the payload q and the time d, which are numbers 0, 1 and 2.
use Rattle.std.specs.Prelude.{ℕ, true, false, List, [], ◌∷◌, codes, Some, None}
use Rattle.model_lexer.specs.ModelTree.Tree as tree
use Rattle.model_lexer.specs.ModelTree.declared.types.TypeForm.TheVariants as form
use Rattle.model_lexer.specs.ModelTree.declared.types.VarType.TheVariants as var_type
use Rattle.model_lexer.specs.ModelTree.declared.types.Interface.TheVariants as interface
use Rattle.model_lexer.specs.ModelTree.declared.types.BoundRule.TheVariants as bound_rule
use Rattle.model_lexer.specs.ModelTree.declared.items.PlainKind.TheVariants as plain_kind
use Rattle.code_rules.specs.ModelRules.Scopes.{Scope, item_scope, with_local}
use Rattle.code_rules.specs.Deeds.{Home}
use Rattle.worked_models.specs.FormTrees.{typed, plain, signal, parameter, function}

abbrev pub items : List tree.Item
items =
    signal 1 form.Bool (codes "b") ∷ signal 1 (form.Uint 8) (codes "u") ∷ signal 1 (form.Int 8) (codes "i") ∷ signal 1 (form.Vector 9) (codes "v")
    ∷ tree.memory 1 (codes "m") 16
    ∷ tree.port 1 (interface.In (typed 1 form.Bool)) (codes "p") (Some (record { count = 2; rule = bound_rule.One }))
    ∷ tree.plain 1 plain_kind.Keeper (codes "k")
    ∷ tree.fifo 1 (typed 1 (form.Uint 8)) (codes "f") None
    ∷ function 1 (codes "g") (parameter 1 true (plain 1 (form.Uint 8)) (codes "x") ∷ parameter 1 false (plain 1 form.Bool) (codes "y") ∷ []) (Some (plain 1 (form.Int 8))) []
    ∷ []

abbrev pub scope : Scope
scope =
    with_local (with_local (with_local (item_scope [] items (codes "t")) (codes "n") (plain 1 (form.Uint 8))) (codes "q") var_type.Payload) (codes "d") var_type.Time

-- the module's first body is the sixth one; two exceptions are named in the text
abbrev pub home : Home
home = record { first_body = 5; exceptions = codes "Halt" ∷ codes "Bad" ∷ [] }

abbrev pub named : List ℕ → tree.Expression
named name = tree.named 1 name

abbrev pub number : ℕ → tree.Expression
number n = tree.number 1 n

abbrev pub channel : List ℕ → tree.Channel
channel name = record { line = 1; name = name; place = tree.first }
