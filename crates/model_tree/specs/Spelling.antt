-- How operators, conversions, constants, units and kinds are written: their symbols and words.
use Rattle.std.specs.Prelude.{ℕ, Bool, true, false, List, codes}
use Rattle.sim_time.specs.declared.moments.Unit.{Unit as TimeUnit}
use Rattle.sim_time.specs.declared.moments.Unit.TheVariants as unit
use Rattle.model_tree.specs.declared.vocabulary.Word.{Word}
use Rattle.model_tree.specs.declared.vocabulary.Word.TheVariants as w
use Rattle.model_tree.specs.declared.vocabulary.Symbol.{Symbol}
use Rattle.model_tree.specs.declared.vocabulary.Symbol.TheVariants as s
use Rattle.model_tree.specs.declared.expressions.UnaryOp.{UnaryOp}
use Rattle.model_tree.specs.declared.expressions.UnaryOp.TheVariants as sign
use Rattle.model_tree.specs.declared.expressions.BinaryOp.{BinaryOp}
use Rattle.model_tree.specs.declared.expressions.BinaryOp.TheVariants as op
use Rattle.model_tree.specs.declared.expressions.Conversion.{Conversion}
use Rattle.model_tree.specs.declared.expressions.Conversion.TheVariants as conversion
use Rattle.model_tree.specs.declared.expressions.NamedConstant.{NamedConstant}
use Rattle.model_tree.specs.declared.expressions.NamedConstant.TheVariants as constant
use Rattle.model_tree.specs.declared.statements.Control.{Control}
use Rattle.model_tree.specs.declared.statements.Control.TheVariants as control
use Rattle.model_tree.specs.declared.items.SignalKind.{SignalKind}
use Rattle.model_tree.specs.declared.items.SignalKind.TheVariants as kind
use Rattle.model_tree.specs.declared.items.PlainKind.{PlainKind}
use Rattle.model_tree.specs.declared.items.PlainKind.TheVariants as plain
use Rattle.model_tree.specs.declared.items.ProcessKind.{ProcessKind}
use Rattle.model_tree.specs.declared.items.ProcessKind.TheVariants as process

abbrev pub unary_symbol : UnaryOp → Symbol
unary_symbol sign.Negate = s.Minus
unary_symbol sign.Not = s.Bang
unary_symbol sign.Complement = s.Tilde

abbrev pub binary_symbol : BinaryOp → Symbol
binary_symbol op.OrElse = s.OrOr
binary_symbol op.AndThen = s.AndAnd
binary_symbol op.BitOr = s.Bar
binary_symbol op.BitXor = s.Caret
binary_symbol op.BitAnd = s.Ampersand
binary_symbol op.Equal = s.EqualEqual
binary_symbol op.NotEqual = s.NotEqual
binary_symbol op.Less = s.Less
binary_symbol op.LessEqual = s.LessEqual
binary_symbol op.Greater = s.Greater
binary_symbol op.GreaterEqual = s.GreaterEqual
binary_symbol op.ShiftLeft = s.ShiftLeft
binary_symbol op.ShiftRight = s.ShiftRight
binary_symbol op.Add = s.Plus
binary_symbol op.Subtract = s.Minus
binary_symbol op.Multiply = s.Star
binary_symbol op.Divide = s.Slash
binary_symbol op.Remainder = s.Percent

abbrev pub truth_word : Bool → Word
truth_word true = w.True
truth_word false = w.False

abbrev pub conversion_word : Conversion → Word
conversion_word conversion.Int = w.Int
conversion_word conversion.Uint = w.Uint
conversion_word conversion.Bool = w.Bool
conversion_word conversion.Logic = w.Logic

abbrev pub constant_word : NamedConstant → Word
constant_word constant.Read = w.ReadCommand
constant_word constant.Write = w.WriteCommand
constant_word constant.Ignore = w.IgnoreCommand
constant_word constant.OkResponse = w.OkResponse
constant_word constant.Incomplete = w.IncompleteResponse
constant_word constant.GenericError = w.GenericResponse
constant_word constant.AddressError = w.AddressResponse
constant_word constant.CommandError = w.CommandResponse
constant_word constant.BurstError = w.BurstResponse
constant_word constant.ByteEnableError = w.ByteEnableResponse
constant_word constant.BeginReq = w.BeginReq
constant_word constant.EndReq = w.EndReq
constant_word constant.BeginResp = w.BeginResp
constant_word constant.EndResp = w.EndResp
constant_word constant.Accepted = w.Accepted
constant_word constant.Updated = w.Updated
constant_word constant.Completed = w.Completed

abbrev pub unit_name : TimeUnit → List ℕ
unit_name unit.Fs = codes "fs"
unit_name unit.Ps = codes "ps"
unit_name unit.Ns = codes "ns"
unit_name unit.Us = codes "us"
unit_name unit.Ms = codes "ms"
unit_name unit.S = codes "s"

abbrev pub control_word : Control → Word
control_word control.Suspend = w.Suspend
control_word control.Resume = w.Resume
control_word control.Disable = w.Disable
control_word control.Enable = w.Enable
control_word control.Kill = w.Kill
control_word control.Reset = w.Reset

abbrev pub signal_word : SignalKind → Word
signal_word kind.Signal = w.Signal
signal_word kind.Buffer = w.Buffer

abbrev pub plain_word : PlainKind → Word
plain_word plain.Mutex = w.Mutex
plain_word plain.Event = w.Event
plain_word plain.Keeper = w.Keeper

abbrev pub process_word : ProcessKind → Word
process_word process.Thread = w.Thread
process_word process.Method = w.Method
