-- A text with a clock and a thread that syncs, and code written by hand that reads back as it.
use Rattle.std.specs.Prelude.{ℕ, Bool, true, false, List, [], ◌∷◌, codes, Some, None}
use Rattle.model_lexer.specs.LogicValues.declared.kinds.Value.TheVariants as value
use Rattle.model_lexer.specs.SimTime.declared.moments.Unit.TheVariants as unit
use Rattle.model_lexer.specs.ModelTree.Tree as tree
use Rattle.model_lexer.specs.ModelTree.Views.{block_of}
use Rattle.model_lexer.specs.ModelTree.declared.types.TypeForm.TheVariants as form
use Rattle.model_lexer.specs.ModelTree.declared.items.PlainKind.TheVariants as plain_kind
use Rattle.code_rules.specs.FlatDesign.Code as code
use Rattle.code_rules.specs.FlatDesign.Code.{Arena}
use Rattle.code_rules.specs.FlatDesign.declared.value_types.ValueType.TheVariants as type
use Rattle.code_rules.specs.FlatDesign.declared.names.NameUse.TheVariants as name_use
use Rattle.code_rules.specs.FlatDesign.declared.names.Member.TheVariants as member
use Rattle.code_rules.specs.FlatDesign.declared.code.BodyKind.TheVariants as body_kind
use Rattle.code_rules.specs.FlatDesign.declared.code.CodeBody.{CodeBody}
use Rattle.code_rules.specs.Bodies.{AreModules, exceptions_of}
use Rattle.worked_models.specs.FormTrees.{model, thread, span, local, plain, yes_}

-- clock c period 10 ns high 4 ns start 1 ns; keeper k; thread t { while true { var uint<8> n; qk_sync k; } }
abbrev pub text : tree.Model
text =
    model (tree.clock 2 (record { name = codes "c"; period = span 10 unit.Ns; high = span 4 unit.Ns; start = Some (span 1 unit.Ns) })
    ∷ tree.plain 3 plain_kind.Keeper (codes "k")
    ∷ thread 4 (codes "t") (tree.while_ 5 (yes_ 5) (block_of (local 6 (plain 6 (form.Uint 8)) (codes "n") ∷ tree.act 7 (tree.qk_sync (codes "k")) ∷ [])) ∷ [])
    ∷ [])

abbrev pub wait_for : ℕ → code.Statement
wait_for time = code.wait (code.for_ (code.literal (value.Moment time)))

abbrev pub write : Bool → code.Statement
write b = code.write (record { channel_name = 0; place = None }) type.Bool (code.literal (value.Bool b))

abbrev pub forever : ℕ → code.Statement
forever b = code.while_ (code.literal (value.Bool true)) b

-- the code, with the time for which the clock is high
abbrev pub arena : ℕ → Arena
arena high = record {
  bodies = [];
  blocks = (0 ∷ 1 ∷ 2 ∷ 3 ∷ []) ∷ (4 ∷ 5 ∷ []) ∷ (6 ∷ 7 ∷ 8 ∷ []) ∷ (9 ∷ []) ∷ [];
  statements =
      write true ∷ wait_for high ∷ write false ∷ wait_for 6000 ∷ wait_for 1000 ∷ forever 0
      ∷ code.var 0 (type.Uint 8) None ∷ code.wait (code.for_ (code.member (name_use.Declared 1) member.Local)) ∷ code.qk_reset 1 ∷ forever 2 ∷ [];
}

abbrev pub bodies : List CodeBody
bodies =
    (record { kind = body_kind.Clock; module_place = 0; name = codes "c"; locals = []; parameters = 0; answer = None; block = 1; room = 0 })
    ∷ (record { kind = body_kind.Thread; module_place = 0; name = codes "t"; locals = (record { name = codes "n"; value_type = type.Uint 8; inout = false }) ∷ []; parameters = 0; answer = None; block = 3; room = 0 })
    ∷ []

abbrev pub ReadsBack : ℕ → Type 0
ReadsBack high = AreModules text.modules (exceptions_of text) (arena high) 0 0 text.modules bodies
