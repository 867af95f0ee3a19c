-- The words and symbols that a tree chooses are cut as they stand.
use Rattle.std.proofs.Common.{◌≡◌, Bool, true, false, refl}
use Rattle.model_print.specs.ModelTree.declared.expressions.BinaryOp.{BinaryOp}
use Rattle.model_print.specs.ModelTree.declared.expressions.BinaryOp.TheVariants as op
use Rattle.model_print.specs.ModelTree.declared.expressions.UnaryOp.{UnaryOp}
use Rattle.model_print.specs.ModelTree.declared.expressions.UnaryOp.TheVariants as sign
use Rattle.model_print.specs.ModelTree.declared.expressions.Conversion.{Conversion}
use Rattle.model_print.specs.ModelTree.declared.expressions.Conversion.TheVariants as conversion
use Rattle.model_print.specs.ModelTree.declared.expressions.NamedConstant.{NamedConstant}
use Rattle.model_print.specs.ModelTree.declared.expressions.NamedConstant.TheVariants as named_constant
use Rattle.model_print.specs.ModelTree.declared.statements.Control.{Control}
use Rattle.model_print.specs.ModelTree.declared.statements.Control.TheVariants as control
use Rattle.model_print.specs.ModelTree.declared.items.SignalKind.{SignalKind}
use Rattle.model_print.specs.ModelTree.declared.items.SignalKind.TheVariants as signal_kind
use Rattle.model_print.specs.ModelTree.declared.items.PlainKind.{PlainKind}
use Rattle.model_print.specs.ModelTree.declared.items.PlainKind.TheVariants as plain_kind
use Rattle.model_print.specs.ModelTree.declared.items.ProcessKind.{ProcessKind}
use Rattle.model_print.specs.ModelTree.declared.items.ProcessKind.TheVariants as process_kind
use Rattle.model_print.specs.ModelTree.Spelling.{unary_symbol, binary_symbol, truth_word, conversion_word, constant_word, control_word, signal_word, plain_word, process_word}
use Rattle.model_print.specs.ModelTree.Tree as tree
use Rattle.model_tree.specs.Parts.{word_of_action}
use Rattle.model_lexer.specs.Tokens.{word}
use Rattle.model_lexer.specs.Languages.{behind_other, behind_symbol}
use Rattle.laws_texts.proofs.Reading.{as_cut}

pub truth_same : (b : Bool) → as_cut (word (truth_word b)) ≡ word (truth_word b)
truth_same true = refl
truth_same false = refl

pub conversion_same : (c : Conversion) → as_cut (word (conversion_word c)) ≡ word (conversion_word c)
conversion_same conversion.Int = refl
conversion_same _ = refl

pub constant_same : (c : NamedConstant) → as_cut (word (constant_word c)) ≡ word (constant_word c)
constant_same named_constant.Read = refl
constant_same _ = refl

pub control_same : (c : Control) → as_cut (word (control_word c)) ≡ word (control_word c)
control_same control.Suspend = refl
control_same _ = refl

pub signal_same : (k : SignalKind) → as_cut (word (signal_word k)) ≡ word (signal_word k)
signal_same signal_kind.Signal = refl
signal_same _ = refl

pub kind_same : (k : PlainKind) → as_cut (word (plain_word k)) ≡ word (plain_word k)
kind_same plain_kind.Mutex = refl
kind_same _ = refl

pub process_same : (k : ProcessKind) → as_cut (word (process_word k)) ≡ word (process_word k)
process_same process_kind.Thread = refl
process_same _ = refl

pub unary_calm : (o : UnaryOp) → behind_symbol (unary_symbol o) ≡ behind_other
unary_calm sign.Negate = refl
unary_calm _ = refl

pub binary_calm : (o : BinaryOp) → behind_symbol (binary_symbol o) ≡ behind_other
binary_calm op.OrElse = refl
binary_calm _ = refl

pub action_same : (a : tree.Action) → as_cut (word (word_of_action a)) ≡ word (word_of_action a)
action_same (tree.control c x all) = control_same c
action_same _ = refl
