-- The texts of the worked rules, as trees: each breaks a rule, or comes as near as a text may.
use Rattle.std.specs.Prelude.{ℕ, if◌then◌else◌, Bool, true, false, List, [], ◌∷◌, ◌++◌, codes, Some, None}
use Rattle.model_lexer.specs.SimTime.declared.moments.Unit.TheVariants as unit
use Rattle.model_lexer.specs.ModelTree.Tree as tree
use Rattle.model_lexer.specs.ModelTree.declared.types.TypeForm.TheVariants as form
use Rattle.model_lexer.specs.ModelTree.declared.types.VarType.TheVariants as var_type
use Rattle.model_lexer.specs.ModelTree.declared.types.Interface.TheVariants as interface
use Rattle.model_lexer.specs.ModelTree.declared.types.BoundRule.TheVariants as bound_rule
use Rattle.model_lexer.specs.ModelTree.declared.types.ConstantForm.TheVariants as constant_form
use Rattle.model_lexer.specs.ModelTree.declared.expressions.BinaryOp.TheVariants as op
use Rattle.model_lexer.specs.ModelTree.declared.expressions.UnaryOp.TheVariants as unary_op
use Rattle.model_lexer.specs.ModelTree.declared.items.PlainKind.TheVariants as plain_kind
use Rattle.model_lexer.specs.ModelTree.declared.items.InitiatorRole.TheVariants as initiator
use Rattle.model_lexer.specs.ModelTree.declared.items.TargetRole.TheVariants as target
use Rattle.worked_models.specs.FormTrees.{models, module_of, model, typed, plain, constant, signal, signal_at, clock, span, thread, method, parameter, function, end, named, number, yes_, local, local_at, assign, call, print, write, wait_on, wait_delta, if_true, if_else, guard, spawn, returns}

-- names

-- signal bool a; signal bool a;
abbrev pub two_of_one_name : tree.Model
two_of_one_name = model (signal 2 form.Bool (codes "a") ∷ signal 3 form.Bool (codes "a") ∷ [])

abbrev pub two_names : tree.Model
two_names = model (signal 2 form.Bool (codes "a") ∷ signal 3 form.Bool (codes "b") ∷ [])

-- two modules of one name, of which one has two signals of one name: the module's own name comes first
abbrev pub two_modules : tree.Model
two_modules = models (module_of 1 (codes "M") [] ∷ module_of 2 (codes "M") (signal 3 form.Bool (codes "a") ∷ signal 4 form.Bool (codes "a") ∷ []) ∷ [])

-- signal bool a; thread t { var bool a; }
abbrev pub local_like_item : tree.Model
local_like_item = model (signal 2 form.Bool (codes "a") ∷ thread 3 (codes "t") (local 4 (plain 4 form.Bool) (codes "a") ∷ []) ∷ [])

-- thread t { var bool M; }
abbrev pub local_like_module : tree.Model
local_like_module = model (thread 3 (codes "t") (local 4 (plain 4 form.Bool) (codes "M") ∷ []) ∷ [])

-- thread t { if true { var bool x; } else { var bool x; } }
abbrev pub locals_beside : tree.Model
locals_beside = model (thread 3 (codes "t") (if_else 4 (local 5 (plain 5 form.Bool) (codes "x") ∷ []) (local 6 (plain 6 form.Bool) (codes "x") ∷ []) ∷ []) ∷ [])

-- thread t { var bool x; if true { var bool x; } }
abbrev pub local_inside : tree.Model
local_inside = model (thread 3 (codes "t") (local 4 (plain 4 form.Bool) (codes "x") ∷ if_true 5 (local 6 (plain 6 form.Bool) (codes "x") ∷ []) ∷ []) ∷ [])

-- thread t { var bool x = x; }
abbrev pub local_of_itself : tree.Model
local_of_itself = model (thread 3 (codes "t") (local_at 4 (plain 4 form.Bool) (codes "x") (named 4 (codes "x")) ∷ []) ∷ [])

-- thread t { if true { var bool x; } x = true; }
abbrev pub local_behind_its_block : tree.Model
local_behind_its_block = model (thread 3 (codes "t") (if_true 4 (local 5 (plain 5 form.Bool) (codes "x") ∷ []) ∷ assign 6 (codes "x") (yes_ 6) ∷ []) ∷ [])

-- func f(bool x, bool x) { }
abbrev pub parameters_of_one_name : tree.Model
parameters_of_one_name = model (function 2 (codes "f") (parameter 3 false (plain 3 form.Bool) (codes "x") ∷ parameter 4 false (plain 4 form.Bool) (codes "x") ∷ []) None [] ∷ [])

-- top of a module that is not there
abbrev pub no_module : tree.Model
no_module = models (module_of 1 (codes "N") [] ∷ [])

-- event e; thread t { write e true; }
abbrev pub event_written : tree.Model
event_written = model (tree.plain 2 plain_kind.Event (codes "e") ∷ thread 3 (codes "t") (write 4 (codes "e") (yes_ 4) ∷ []) ∷ [])

-- a signal, and one use of a member of it as a value
abbrev pub member_of : tree.Item → List ℕ → List ℕ → tree.Model
member_of item name member = model (item ∷ thread 3 (codes "t") (print 4 (tree.member (named 4 name) member) ∷ []) ∷ [])

abbrev pub member_unknown : tree.Model
member_unknown = member_of (signal 2 form.Bool (codes "s")) (codes "s") (codes "foo")

abbrev pub member_in_the_other_column : tree.Model
member_in_the_other_column = member_of (signal 2 form.Bool (codes "s")) (codes "s") (codes "pos")

abbrev pub member_of_an_event : tree.Model
member_of_an_event = member_of (tree.plain 2 plain_kind.Event (codes "e")) (codes "e") (codes "foo")

abbrev pub member_that_is_there : tree.Model
member_that_is_there = member_of (signal 2 form.Bool (codes "s")) (codes "s") (codes "changed")

-- signal T s; thread t { wait s.M; }
abbrev pub waited_member : tree.Item → List ℕ → tree.Model
waited_member item member = model (item ∷ thread 3 (codes "t") (wait_on 4 (codes "s") (Some member) ∷ []) ∷ [])

abbrev pub edge_of_a_number : tree.Model
edge_of_a_number = waited_member (signal 2 (form.Uint 8) (codes "s")) (codes "pos")

abbrev pub edge_of_a_logic : tree.Model
edge_of_a_logic = waited_member (signal 2 form.Logic (codes "s")) (codes "pos")

abbrev pub value_waited_for : tree.Model
value_waited_for = waited_member (signal 2 form.Bool (codes "s")) (codes "changed")

-- inst N c; in a model without N
abbrev pub instance_of_nothing : tree.Model
instance_of_nothing = model (tree.instance 2 (codes "N") (codes "c") ∷ [])

-- module C with one item; inst C c; bind left to right;
abbrev pub bound : tree.Item → List tree.Item → tree.Item → tree.Model
bound child own binding =
    models (module_of 1 (codes "C") (child ∷ []) ∷ module_of 3 (codes "M") (tree.instance 4 (codes "C") (codes "c") ∷ own ++ binding ∷ []) ∷ [])

abbrev pub in_port : tree.Item
in_port = tree.port 2 (interface.In (typed 2 form.Bool)) (codes "p") None

abbrev pub port_to_signal : tree.Model
port_to_signal = bound in_port (signal 5 form.Bool (codes "a") ∷ []) (tree.bind 6 (end 6 (codes "c") (Some (codes "p"))) (end 7 (codes "a") None))

abbrev pub port_that_the_child_lacks : tree.Model
port_that_the_child_lacks = bound in_port (signal 5 form.Bool (codes "a") ∷ []) (tree.bind 6 (end 6 (codes "c") (Some (codes "q"))) (end 7 (codes "a") None))

abbrev pub end_of_a_signal : tree.Model
end_of_a_signal = bound in_port (signal 5 form.Bool (codes "a") ∷ []) (tree.bind 6 (end 6 (codes "a") (Some (codes "p"))) (end 7 (codes "a") None))

-- the left end is an own signal; the right end is not declared, which comes later
abbrev pub left_without_form : tree.Model
left_without_form = bound in_port (signal 5 form.Bool (codes "a") ∷ []) (tree.bind 6 (end 6 (codes "a") None) (end 7 (codes "zz") None))

abbrev pub right_without_form : tree.Model
right_without_form = bound in_port (tree.plain 5 plain_kind.Event (codes "e") ∷ []) (tree.bind 6 (end 6 (codes "c") (Some (codes "p"))) (end 7 (codes "e") None))

-- values

-- signal bool b; signal uint<8> u; signal int<8> i; thread t { print e; }
abbrev pub printed : tree.Expression → tree.Model
printed e = model (signal 2 form.Bool (codes "b") ∷ signal 2 (form.Uint 8) (codes "u") ∷ signal 2 (form.Int 8) (codes "i") ∷ signal 2 (form.Vector 9) (codes "v") ∷ thread 3 (codes "t") (print 4 e ∷ []) ∷ [])

abbrev pub sum : tree.Expression → tree.Expression → tree.Expression
sum left right = tree.binary op.Add left right

abbrev pub truth_and_number : tree.Model
truth_and_number = printed (sum (named 5 (codes "b")) (number 6 1))

abbrev pub unsigned_and_free : tree.Model
unsigned_and_free = printed (sum (named 5 (codes "u")) (number 6 1))

abbrev pub unsigned_and_signed : tree.Model
unsigned_and_signed = printed (sum (named 5 (codes "u")) (named 6 (codes "i")))

-- a negated unsigned integer is unsigned, and a shift has the sign of its left operand
abbrev pub negated_and_signed : tree.Model
negated_and_signed = printed (sum (named 5 (codes "i")) (tree.unary 6 unary_op.Negate (named 6 (codes "u"))))

abbrev pub shifted_by_unsigned : tree.Model
shifted_by_unsigned = printed (sum (named 5 (codes "i")) (tree.paren 6 (tree.binary op.ShiftLeft (named 6 (codes "i")) (named 6 (codes "u")))))

-- nothing is asked of a sum whose operand is not declared
abbrev pub sum_of_unknown : tree.Model
sum_of_unknown = printed (sum (yes_ 5) (named 6 (codes "zz")))

abbrev pub slice_to : ℕ → tree.Model
slice_to high = printed (tree.slice (named 5 (codes "v")) high 2)

abbrev pub slice_of_truth : tree.Model
slice_of_truth = printed (tree.slice (named 5 (codes "b")) 99 2)

abbrev pub time_of : ℕ → tree.Model
time_of n = printed (tree.time 5 n unit.Ns)

-- signal lv<65> a = true;
abbrev pub wide_signal : tree.Model
wide_signal = model (signal_at 2 (form.Vector 65) (codes "a") (constant 2 (constant_form.Truth true)) ∷ [])

abbrev pub signal_of_another_type : tree.Model
signal_of_another_type = model (signal_at 2 (form.Vector 64) (codes "a") (constant 2 (constant_form.Truth true)) ∷ [])

-- var process p; thread t { print p; }
abbrev pub handle_printed : tree.Model
handle_printed = model (tree.variable 2 var_type.Process (codes "p") None ∷ thread 3 (codes "t") (print 4 (named 4 (codes "p")) ∷ []) ∷ [])

-- in bool p[2]; thread t { print p@n; }
abbrev pub place_of : ℕ → tree.Model
place_of n = model (tree.port 2 (interface.In (typed 2 form.Bool)) (codes "p") (Some (record { count = 2; rule = bound_rule.One })) ∷ thread 3 (codes "t") (print 4 (tree.placed 4 (codes "p") n) ∷ []) ∷ [])

-- calls

-- func f(uint<8> x) { } thread t { call f(..); }
abbrev pub called : List tree.Expression → tree.Model
called arguments = model (function 2 (codes "f") (parameter 2 false (plain 2 (form.Uint 8)) (codes "x") ∷ []) None [] ∷ thread 3 (codes "t") (call 4 None (codes "f") arguments ∷ []) ∷ [])

abbrev pub called_with_one : tree.Model
called_with_one = called (number 4 1 ∷ [])

-- too many arguments, one of which is not declared: the call begins before it
abbrev pub called_with_too_many : tree.Model
called_with_too_many = called (named 5 (codes "zz") ∷ number 5 1 ∷ [])

abbrev pub called_with_unknown : tree.Model
called_with_unknown = called (named 5 (codes "zz") ∷ [])

abbrev pub called_with_truth : tree.Model
called_with_truth = called (yes_ 5 ∷ [])

-- func f(inout uint<8> x) { } thread t { var T y; call f(e); }
abbrev pub called_inout : ℕ → tree.Expression → tree.Model
called_inout width e =
    model (function 2 (codes "f") (parameter 2 true (plain 2 (form.Uint 8)) (codes "x") ∷ []) None []
    ∷ thread 3 (codes "t") (local 4 (plain 4 (form.Uint width)) (codes "y") ∷ call 5 None (codes "f") (e ∷ []) ∷ []) ∷ [])

abbrev pub inout_in_parentheses : tree.Model
inout_in_parentheses = called_inout 8 (tree.paren 5 (named 5 (codes "y")))

-- func f() { } thread t { var bool x; x = call f(); }
abbrev pub answer_of_nothing : tree.Model
answer_of_nothing = model (function 2 (codes "f") [] None [] ∷ thread 3 (codes "t") (local 4 (plain 4 form.Bool) (codes "x") ∷ call 5 (Some (codes "x")) (codes "f") [] ∷ []) ∷ [])

-- func f(inout bool x) { } thread t { spawn f(); }
abbrev pub spawned_with_inout : tree.Model
spawned_with_inout = model (function 2 (codes "f") (parameter 2 true (plain 2 form.Bool) (codes "x") ∷ []) None [] ∷ thread 3 (codes "t") (spawn 4 false (codes "f") [] ∷ []) ∷ [])

-- func f() -> bool { return ..; }
abbrev pub returned_from : Bool → tree.Model
returned_from value = model (function 2 (codes "f") [] (Some (plain 2 form.Bool)) (returns 3 (if value then Some (yes_ 3) else None) ∷ []) ∷ [])

-- thread t { return true; }
abbrev pub returned_from_thread : tree.Model
returned_from_thread = model (thread 2 (codes "t") (returns 3 (Some (yes_ 3)) ∷ []) ∷ [])

-- target s bt b; with a handler of these parameters
abbrev pub handled : Bool → tree.Model
handled inout =
    model (tree.target 2 (codes "s") (target.Own (Some (codes "b")) None)
    ∷ function 3 (codes "b") (parameter 3 false var_type.Payload (codes "p") ∷ parameter 3 inout var_type.Time (codes "d") ∷ []) None [] ∷ [])

-- initiator s pass; event e; thread t { nb_transport s, p, e, zz; }
abbrev pub transported : List ℕ → List ℕ → tree.Model
transported socket delay =
    model (tree.initiator 2 (codes "s") initiator.Pass ∷ tree.initiator 2 (codes "o") (initiator.Own None) ∷ tree.plain 2 plain_kind.Event (codes "e")
    ∷ thread 3 (codes "t")
    (local 4 var_type.Payload (codes "p") ∷ local 4 (plain 4 (form.Int 32)) (codes "h") ∷ local 4 var_type.Time (codes "d")
    ∷ tree.operate 5 None 5 (tree.nb_transport socket (codes "p") (codes "h") delay) ∷ []) ∷ [])

-- items

abbrev pub clocked : ℕ → ℕ → tree.Model
clocked period high = model (clock 2 (codes "c") (span period unit.Ns) (span high unit.Ns) ∷ [])

abbrev pub with_fifo : ℕ → tree.Model
with_fifo size = model (tree.fifo 2 (typed 2 form.Bool) (codes "f") (Some size) ∷ [])

abbrev pub with_semaphore : ℕ → tree.Model
with_semaphore n = model (tree.semaphore 2 (codes "s") (constant 2 (constant_form.Number n)) ∷ [])

-- reach

-- method m { call f(); } func f() { wait delta; }
abbrev pub method_before_its_function : tree.Model
method_before_its_function = model (method 2 (codes "m") [] (call 3 None (codes "f") [] ∷ []) ∷ function 4 (codes "f") [] None (wait_delta 5 ∷ []) ∷ [])

-- func f() { wait delta; } method m { call f(); }
abbrev pub function_before_its_method : tree.Model
function_before_its_method = model (function 2 (codes "f") [] None (wait_delta 3 ∷ []) ∷ method 4 (codes "m") [] (call 5 None (codes "f") [] ∷ []) ∷ [])

-- func f() { wait delta; } thread t { call f(); } method m { }
abbrev pub function_of_a_thread : tree.Model
function_of_a_thread = model (function 2 (codes "f") [] None (wait_delta 3 ∷ []) ∷ thread 4 (codes "t") (call 5 None (codes "f") [] ∷ []) ∷ method 6 (codes "m") [] [] ∷ [])

-- func g() { call g(); call f(); } func f() { wait delta; } thread t { spawn method g(); }
abbrev pub spawned_as : Bool → tree.Model
spawned_as as_method =
    model (function 2 (codes "g") [] None (call 3 None (codes "g") [] ∷ call 4 None (codes "f") [] ∷ []) ∷ function 5 (codes "f") [] None (wait_delta 6 ∷ [])
    ∷ thread 7 (codes "t") (spawn 8 as_method (codes "g") [] ∷ []) ∷ [])

-- func f() { next_trigger delta; } thread t { spawn f(); }
abbrev pub triggered_in : Bool → tree.Model
triggered_in as_method = model (function 2 (codes "f") [] None (tree.act 3 (tree.next_trigger tree.delta) ∷ []) ∷ thread 4 (codes "t") (spawn 5 as_method (codes "f") [] ∷ []) ∷ [])

-- a handler of non-blocking calls that waits, and one of blocking calls
abbrev pub waiting_handler : tree.Model
waiting_handler =
    model (tree.target 2 (codes "s") (target.Own None (Some (codes "f")))
    ∷ function 3 (codes "f") (parameter 3 false var_type.Payload (codes "p") ∷ parameter 3 true (plain 3 (form.Int 32)) (codes "h") ∷ parameter 3 true var_type.Time (codes "d") ∷ []) (Some (plain 3 (form.Int 32)))
    (wait_delta 4 ∷ returns 5 (Some (number 5 0)) ∷ []) ∷ [])

abbrev pub waiting_blocking_handler : tree.Model
waiting_blocking_handler =
    model (tree.target 2 (codes "s") (target.Own (Some (codes "b")) None)
    ∷ function 3 (codes "b") (parameter 3 false var_type.Payload (codes "p") ∷ parameter 3 true var_type.Time (codes "d") ∷ []) None (wait_delta 4 ∷ []) ∷ [])

-- thread t { guard { .. } unwind { .. } }
abbrev pub unwound : List tree.Statement → List tree.Statement → tree.Model
unwound body undo = model (function 2 (codes "f") [] None (tree.act 3 (tree.throw (codes "Bad")) ∷ []) ∷ thread 4 (codes "t") (guard 5 body undo ∷ []) ∷ [])

abbrev pub wait_in_guard : tree.Model
wait_in_guard = unwound (wait_delta 6 ∷ []) []

abbrev pub wait_in_unwind : tree.Model
wait_in_unwind = unwound [] (wait_delta 6 ∷ [])

abbrev pub throw_reached : tree.Model
throw_reached = unwound [] (call 6 None (codes "f") [] ∷ [])

abbrev pub spawn_in_unwind : tree.Model
spawn_in_unwind = unwound [] (spawn 6 false (codes "f") [] ∷ [])

-- passes: the names that differ come first, then the rules on one construct, then those on what is reached

-- method m { wait delta; write zz true; }
abbrev pub wait_before_unknown : tree.Model
wait_before_unknown = model (method 2 (codes "m") [] (wait_delta 3 ∷ write 4 (codes "zz") (yes_ 4) ∷ []) ∷ [])

-- thread t { write zz true; } signal bool a; signal bool a;
abbrev pub unknown_before_double : tree.Model
unknown_before_double = model (thread 2 (codes "t") (write 3 (codes "zz") (yes_ 3) ∷ []) ∷ signal 4 form.Bool (codes "a") ∷ signal 5 form.Bool (codes "a") ∷ [])
