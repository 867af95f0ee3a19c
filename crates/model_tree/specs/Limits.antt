-- The limits and levels of the language, as tests of a tree: a tree that passes them can be written and read again.
use Rattle.std.specs.Prelude.{ℕ, zero, suc, ◌+◌, ◌^◌, max, Bool, true, false, ◌&&◌, nat_le, nat_lt, List, [], ◌∷◌, length, Option, Some, None}
use Rattle.model_tree.specs.Leaves.{is_name, is_print_text}
use Rattle.model_tree.specs.Tree as tree
use Rattle.model_tree.specs.Parts as part
use Rattle.model_tree.specs.Parts.{Part, parts_of, joined}
use Rattle.model_tree.specs.declared.expressions.BinaryOp.{BinaryOp}
use Rattle.model_tree.specs.declared.expressions.BinaryOp.TheVariants as op
use Rattle.model_tree.specs.declared.types.SignalType.{SignalType}
use Rattle.model_tree.specs.declared.types.TypeForm.{TypeForm}
use Rattle.model_tree.specs.declared.types.TypeForm.TheVariants as form
use Rattle.model_tree.specs.declared.types.VarType.{VarType}
use Rattle.model_tree.specs.declared.types.VarType.TheVariants as var_type
use Rattle.model_tree.specs.declared.types.Constant.{Constant}
use Rattle.model_tree.specs.declared.types.ConstantForm.{ConstantForm}
use Rattle.model_tree.specs.declared.types.ConstantForm.TheVariants as constant
use Rattle.model_tree.specs.declared.types.Span.{Span}
use Rattle.model_tree.specs.declared.items.ResolutionLine.{ResolutionLine}
use Rattle.model_tree.specs.declared.items.Head.{Head}
use Rattle.model_tree.specs.declared.items.Head.TheVariants as head
use Rattle.model_tree.specs.declared.types.Interface.{Interface}
use Rattle.model_tree.specs.declared.types.Interface.TheVariants as interface
use Rattle.model_tree.specs.declared.types.PortSize.{PortSize}
use Rattle.model_tree.specs.declared.types.Parameter.{Parameter}
use Rattle.model_tree.specs.declared.types.End.{End}
use Rattle.model_tree.specs.declared.statements.Who.{Who}
use Rattle.model_tree.specs.declared.statements.Who.TheVariants as who
use Rattle.model_tree.specs.declared.items.InitiatorRole.{InitiatorRole}
use Rattle.model_tree.specs.declared.items.InitiatorRole.TheVariants as initiator
use Rattle.model_tree.specs.declared.items.TargetRole.{TargetRole}
use Rattle.model_tree.specs.declared.items.TargetRole.TheVariants as target

-- how tightly a binary operator binds
abbrev pub level : BinaryOp → ℕ
level op.OrElse = 0
level op.AndThen = 1
level op.BitOr = 2
level op.BitXor = 3
level op.BitAnd = 4
level op.Equal = 5
level op.NotEqual = 5
level op.Less = 6
level op.LessEqual = 6
level op.Greater = 6
level op.GreaterEqual = 6
level op.ShiftLeft = 7
level op.ShiftRight = 7
level op.Add = 8
level op.Subtract = 8
level op.Multiply = 9
level op.Divide = 9
level op.Remainder = 9

-- the level of an operand with its prefix operator, that of an operand, and that of what members and indices follow
abbrev pub operand_level : ℕ
operand_level = 10

abbrev pub primary_level : ℕ
primary_level = 11

abbrev pub chain_level : ℕ
chain_level = 12

-- a number that a token can have
abbrev pub is_number : ℕ → Bool
is_number n = nat_lt n (2 ^ 64)

-- the levels of its operators, names and numbers: whether an expression may stand where this level is wanted
abbrev pub is_formed : tree.Expression → ℕ → Bool
is_formed (tree.number line n) at = nat_le at primary_level && is_number n
is_formed (tree.time line n unit) at = nat_le at primary_level && is_number n
is_formed (tree.logic line digits) at = nat_le at primary_level && (nat_lt 0 (length digits) && nat_le (length digits) 64)
is_formed (tree.truth line b) at = nat_le at primary_level
is_formed (tree.now line) at = nat_le at primary_level
is_formed (tree.myself line) at = nat_le at primary_level
is_formed (tree.constant line word) at = nat_le at primary_level
is_formed (tree.paren line e) at = nat_le at primary_level && is_formed e 0
is_formed (tree.convert line conversion e) at = nat_le at primary_level && is_formed e 0
is_formed (tree.to_vector line width e) at = nat_le at primary_level && (is_number width && is_formed e 0)
is_formed (tree.concat line upper lower) at = nat_le at primary_level && (is_formed upper 0 && is_formed lower 0)
is_formed (tree.named line name) at = is_name name
is_formed (tree.placed line name n) at = is_name name && is_number n
is_formed (tree.placed_by line name e) at = is_name name && is_formed e 0
is_formed (tree.member e name) at = is_formed e chain_level && is_name name
is_formed (tree.element e index) at = is_formed e chain_level && is_formed index 0
is_formed (tree.slice e high low) at = is_formed e chain_level && (is_number high && is_number low)
is_formed (tree.unary line o e) at = nat_le at operand_level && is_formed e primary_level
is_formed (tree.binary o left right) at = nat_le at (level o) && (is_formed left (level o) && is_formed right (suc (level o)))

-- how many tokens an expression has
abbrev pub token_count : tree.Expression → ℕ
token_count (tree.number line n) = 1
token_count (tree.time line n unit) = 2
token_count (tree.logic line digits) = 1
token_count (tree.truth line b) = 1
token_count (tree.now line) = 1
token_count (tree.myself line) = 1
token_count (tree.constant line word) = 1
token_count (tree.paren line e) = token_count e + 2
token_count (tree.convert line conversion e) = token_count e + 3
token_count (tree.to_vector line width e) = token_count e + 6
token_count (tree.concat line upper lower) = token_count upper + token_count lower + 4
token_count (tree.named line name) = 1
token_count (tree.placed line name n) = 3
token_count (tree.placed_by line name e) = token_count e + 4
token_count (tree.member e name) = token_count e + 2
token_count (tree.element e index) = token_count e + token_count index + 2
token_count (tree.slice e high low) = token_count e + 5
token_count (tree.unary line o e) = token_count e + 1
token_count (tree.binary o left right) = token_count left + token_count right + 1

-- how many brackets are open at the deepest place of an expression
abbrev pub depth : tree.Expression → ℕ
depth (tree.number line n) = 0
depth (tree.time line n unit) = 0
depth (tree.logic line digits) = 0
depth (tree.truth line b) = 0
depth (tree.now line) = 0
depth (tree.myself line) = 0
depth (tree.constant line word) = 0
depth (tree.paren line e) = suc (depth e)
depth (tree.convert line conversion e) = suc (depth e)
depth (tree.to_vector line width e) = suc (depth e)
depth (tree.concat line upper lower) = suc (max (depth upper) (depth lower))
depth (tree.named line name) = 0
depth (tree.placed line name n) = 0
depth (tree.placed_by line name e) = suc (depth e)
depth (tree.member e name) = depth e
depth (tree.element e index) = max (depth e) (suc (depth index))
depth (tree.slice e high low) = max (depth e) 1
depth (tree.unary line o e) = depth e
depth (tree.binary o left right) = max (depth left) (depth right)

-- the limits of tokens and brackets
abbrev pub token_limit : ℕ
token_limit = 256

abbrev pub bracket_limit : ℕ
bracket_limit = 64

-- an expression that may stand where n brackets may still be opened
abbrev pub fits : ℕ → tree.Expression → Bool
fits n e = (is_formed e 0 && nat_le (token_count e) token_limit) && nat_le (depth e) n

-- the same of what may be there
abbrev pub fits_option : ℕ → Option tree.Expression → Bool
fits_option n None = true
fits_option n (Some e) = fits n e

abbrev pub fits_all : ℕ → List tree.Expression → Bool
fits_all n [] = true
fits_all n (e ∷ es) = fits n e && fits_all n es

-- what stands in brackets, where n may still be opened
abbrev pub within : ℕ → (ℕ → Bool) → Bool
within zero test = false
within (suc n) test = test n

abbrev pub fits_place : ℕ → tree.Place → Bool
fits_place n tree.first = true
fits_place n (tree.place_number at) = is_number at
fits_place n (tree.computed e) = within n (λ m. fits m e)

abbrev pub fits_channel : ℕ → tree.Channel → Bool
fits_channel n c = is_name c.name && fits_place n c.place

abbrev pub option_name : Option (List ℕ) → Bool
option_name None = true
option_name (Some name) = is_name name

abbrev pub fits_event : ℕ → tree.Event → Bool
fits_event n e = fits_channel n e.channel && option_name e.member

abbrev pub fits_events : ℕ → List tree.Event → Bool
fits_events n [] = true
fits_events n (e ∷ es) = fits_event n e && fits_events n es

abbrev pub is_some_of : {A : Type 0} → List A → Bool
is_some_of [] = false
is_some_of (x ∷ xs) = true

abbrev pub fits_waiting : ℕ → tree.Waiting → Bool
fits_waiting n tree.static = true
fits_waiting n tree.delta = true
fits_waiting n (tree.for_ e) = fits n e
fits_waiting n (tree.one e t) = fits_event n e && fits_option n t
fits_waiting n (tree.any es t) = is_some_of es && (fits_events n es && fits_option n t)
fits_waiting n (tree.all es t) = is_some_of es && (fits_events n es && fits_option n t)

abbrev pub fits_notification : ℕ → tree.Notification → Bool
fits_notification n tree.immediate = true
fits_notification n tree.next_delta = true
fits_notification n (tree.after e) = fits n e

abbrev pub fits_index : ℕ → Option tree.Expression → Bool
fits_index n None = true
fits_index n (Some e) = within n (λ m. fits m e)

abbrev pub fits_target : ℕ → tree.Target → Bool
fits_target n t = (is_name t.name && option_name t.member) && fits_index n t.index

abbrev pub fits_operation : ℕ → tree.Operation → Bool
fits_operation n (tree.call name arguments) = is_name name && within n (λ m. fits_all m arguments)
fits_operation n (tree.read c) = fits_channel n c
fits_operation n (tree.nb_read c name) = fits_channel n c && is_name name
fits_operation n (tree.nb_write c e) = fits_channel n c && fits n e
fits_operation n (tree.trylock c) = fits_channel n c
fits_operation n (tree.unlock c) = fits_channel n c
fits_operation n (tree.sem_trywait c) = fits_channel n c
fits_operation n (tree.nb_transport s p phase t) = (is_name s && is_name p) && (is_name phase && is_name t)

abbrev pub fits_spawn : ℕ → tree.Spawn → Bool
fits_spawn n s = (option_name s.handle && is_name s.function) && (within n (λ m. fits_all m s.arguments) && fits_events n s.sensitive)

abbrev pub fits_who : Who → Bool
fits_who (who.Named line name) = is_name name
fits_who (who.Myself line) = true

abbrev pub fits_part : ℕ → Part → Bool
fits_part n (part.name r x) = is_name x
fits_part n (part.next_name r x) = is_name x
fits_part n (part.reaching_name r x all) = is_name x
fits_part n (part.text x) = is_print_text x
fits_part n (part.term u e) = fits n e
fits_part n (part.term_if u e) = fits_option n e
fits_part n (part.next_term u e) = fits n e
fits_part n (part.next_term_if u e) = fits_option n e
fits_part n (part.channel u c) = fits_channel n c
fits_part n (part.waiting t) = fits_waiting n t
fits_part n (part.notification t) = fits_notification n t
fits_part n (part.instance x) = fits_spawn n x
fits_part n (part.process x) = fits_who x
fits_part n (part.reaching_process x all) = fits_who x

abbrev pub fits_action : ℕ → tree.Action → Bool
fits_action n a = joined (fits_part n) (λ x y. x && y) true (parts_of a)

abbrev pub fits_form : TypeForm → Bool
fits_form form.Bool = true
fits_form form.Logic = true
fits_form (form.Int width) = is_number width
fits_form (form.Uint width) = is_number width
fits_form (form.Vector width) = is_number width

abbrev pub fits_type : SignalType → Bool
fits_type t = fits_form t.form

abbrev pub fits_var_type : VarType → Bool
fits_var_type (var_type.Plain t) = fits_type t
fits_var_type var_type.Time = true
fits_var_type var_type.Process = true
fits_var_type var_type.Payload = true

abbrev pub fits_interface : Interface → Bool
fits_interface (interface.In t) = fits_type t
fits_interface (interface.Out t) = fits_type t
fits_interface (interface.FifoIn t) = fits_type t
fits_interface (interface.FifoOut t) = fits_type t
fits_interface interface.Mutex = true
fits_interface interface.Semaphore = true

abbrev pub fits_constant_form : ConstantForm → Bool
fits_constant_form (constant.Number n) = is_number n
fits_constant_form (constant.Negative n) = is_number n
fits_constant_form (constant.Time n unit) = is_number n
fits_constant_form (constant.Logic digits) = true
fits_constant_form (constant.Truth b) = true

abbrev pub fits_constant : Option Constant → Bool
fits_constant None = true
fits_constant (Some c) = fits_constant_form c.form

abbrev pub fits_span : Option Span → Bool
fits_span None = true
fits_span (Some s) = is_number s.count

abbrev pub fits_number : Option ℕ → Bool
fits_number None = true
fits_number (Some n) = is_number n

abbrev pub fits_size : Option PortSize → Bool
fits_size None = true
fits_size (Some s) = is_number s.count

abbrev pub fits_initiator : InitiatorRole → Bool
fits_initiator initiator.Pass = true
fits_initiator (initiator.Own bw) = option_name bw

abbrev pub fits_socket : TargetRole → Bool
fits_socket target.Pass = true
fits_socket (target.Own bt fw) = option_name bt && option_name fw

abbrev pub fits_end : End → Bool
fits_end e = is_name e.name && option_name e.member

abbrev pub fits_parameters : List Parameter → Bool
fits_parameters [] = true
fits_parameters (p ∷ ps) = (is_name p.name && fits_var_type p.var_type) && fits_parameters ps

abbrev pub fits_answer : Option VarType → Bool
fits_answer None = true
fits_answer (Some t) = fits_var_type t

abbrev mutual
  pub fits_statement : tree.Statement → ℕ → Bool
  fits_statement (tree.var line t name e) n = fits_var_type t && (is_name name && fits_option n e)
  fits_statement (tree.assign line t e) n = fits_target n t && fits n e
  fits_statement (tree.operate line name at o) n = option_name name && fits_operation n o
  fits_statement (tree.act line a) n = fits_action n a
  fits_statement (tree.if_ line e body other) n = fits n e && (within n (fits_block body) && fits_else other n)
  fits_statement (tree.while_ line e body) n = fits n e && within n (fits_block body)
  fits_statement (tree.guard line body undo) n = within n (fits_block body) && within n (fits_block undo)
  fits_statement (tree.try_ line body handlers) n = within n (fits_block body) && (has_handler handlers && fits_handlers handlers n)

  pub fits_block : tree.Block → ℕ → Bool
  fits_block tree.over n = true
  fits_block (tree.then s ss) n = fits_statement s n && fits_block ss n

  pub fits_else : tree.Else → ℕ → Bool
  fits_else tree.no_else n = true
  fits_else (tree.else_block body) n = within n (fits_block body)

  pub fits_handlers : tree.Handlers → ℕ → Bool
  fits_handlers tree.no_more n = true
  fits_handlers (tree.handler name body more) n = is_name name && (within n (fits_block body) && fits_handlers more n)

  pub has_handler : tree.Handlers → Bool
  has_handler tree.no_more = false
  has_handler (tree.handler name body more) = true

-- an item of a module, whose brace is open
abbrev pub fits_item : tree.Item → ℕ → Bool
fits_item (tree.signal line s) n = is_name s.name && (fits_type s.value_type && fits_constant s.initial)
fits_item (tree.resolved line name) n = is_name name
fits_item (tree.clock line c) n = is_name c.name && (is_number c.period.count && (is_number c.high.count && fits_span c.start))
fits_item (tree.fifo line t name size) n = is_name name && (fits_type t && fits_number size)
fits_item (tree.plain line kind name) n = is_name name
fits_item (tree.semaphore line name c) n = is_name name && fits_constant_form c.form
fits_item (tree.memory line name size) n = is_name name && is_number size
fits_item (tree.variable line t name c) n = is_name name && (fits_var_type t && fits_constant c)
fits_item (tree.port line i name size) n = is_name name && (fits_interface i && fits_size size)
fits_item (tree.export line i name) n = is_name name && fits_interface i
fits_item (tree.initiator line name role) n = is_name name && fits_initiator role
fits_item (tree.target line name role) n = is_name name && fits_socket role
fits_item (tree.instance line kind name) n = is_name kind && is_name name
fits_item (tree.bind line left right) n = fits_end left && fits_end right
fits_item (tree.function line f) n = (is_name f.name && fits_parameters f.parameters) && (fits_answer f.answer && within n (fits_block f.body))
fits_item (tree.process line p) n = is_name p.name && (fits_events n p.sensitive && within n (fits_block p.body))

abbrev pub fits_items : List tree.Item → ℕ → Bool
fits_items [] n = true
fits_items (i ∷ is) n = fits_item i n && fits_items is n

abbrev pub fits_modules : List tree.Module → ℕ → Bool
fits_modules [] n = true
fits_modules (m ∷ ms) n = (is_name m.name && within n (fits_items m.items)) && fits_modules ms n

-- a whole text within the limits
abbrev pub is_sound : tree.Model → Bool
is_sound m = fits_modules m.modules bracket_limit && (is_name m.top.module && is_name m.top.name)

-- the number of a resolution keeps the limit of numbers
abbrev pub fits_resolution : Option ResolutionLine → Bool
fits_resolution None = true
fits_resolution (Some r) = is_number r.span.count

abbrev pub fits_head : Head → Bool
fits_head head.First = true
fits_head (head.Second r) = fits_resolution r
