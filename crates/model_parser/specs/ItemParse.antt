-- Parser functions on lists of tokens for the items of modules that have no body. They are no definition of the
-- language: the grammar is.
use Rattle.std.specs.Prelude.{ℕ, Bool, true, false, ◌&&◌, cond, nat_le, length, List, Option, Some, None}
use Rattle.parse_statements.specs.LogicValues.declared.kinds.Digit.{Digit}
use Rattle.parse_statements.specs.LogicValues.Planes.{lv_of}
use Rattle.parse_statements.specs.SimTime.declared.moments.Unit.{Unit as TimeUnit}
use Rattle.model_tree.specs.declared.vocabulary.Word.{Word}
use Rattle.model_tree.specs.declared.vocabulary.Word.TheVariants as w
use Rattle.model_tree.specs.declared.vocabulary.Symbol.TheVariants as s
use Rattle.model_tree.specs.declared.types.Constant.{Constant}
use Rattle.model_tree.specs.declared.types.ConstantForm.TheVariants as constant_form
use Rattle.model_tree.specs.declared.types.Span.{Span}
use Rattle.model_tree.specs.declared.types.Interface.{Interface}
use Rattle.model_tree.specs.declared.types.Interface.TheVariants as interface_form
use Rattle.model_tree.specs.declared.types.BoundRule.{BoundRule}
use Rattle.model_tree.specs.declared.types.BoundRule.TheVariants as bound
use Rattle.model_tree.specs.declared.types.PortSize.{PortSize}
use Rattle.model_tree.specs.declared.types.End.{End}
use Rattle.model_tree.specs.declared.items.SignalKind.{SignalKind}
use Rattle.model_tree.specs.declared.items.PlainKind.{PlainKind}
use Rattle.model_tree.specs.declared.items.InitiatorRole.{InitiatorRole}
use Rattle.model_tree.specs.declared.items.InitiatorRole.TheVariants as initiator
use Rattle.model_tree.specs.declared.items.TargetRole.{TargetRole}
use Rattle.model_tree.specs.declared.items.TargetRole.TheVariants as target
use Rattle.model_tree.specs.Tree as tree
use Rattle.parse_statements.specs.ModelLexer.Expressions.{is_the_symbol, sees}
use Rattle.model_tree.specs.Spelling.{signal_word, plain_word}
use Rattle.parse_statements.specs.ParseExpressions.Parse.{Parser, ◌>>=◌, pure, refuse, choose, where_some, skip, word, is_the_word, flag, symbol, named, name, numbered, number, logical, sees_number, unit_ahead, opened}
use Rattle.parse_statements.specs.ParseActions.ChannelParse.{signal_type, variable_type, optional_member}
use Rattle.model_parser.specs.declared.starts.Direction.{Direction}
use Rattle.model_parser.specs.declared.starts.PortStart.{PortStart}
use Rattle.model_parser.specs.declared.starts.PortStart.TheVariants as port
use Rattle.model_parser.specs.Starts.{direction_word, leading, port_ahead}

-- times

abbrev pub unit_behind : TimeUnit → Parser TimeUnit
unit_behind u = do
  line ← skip
  pure u

unfoldable pub time_unit : Parser TimeUnit
time_unit ts = where_some (unit_ahead ts) refuse unit_behind ts

unfoldable pub time_span : Parser Span
time_span = do
  n ← number
  u ← time_unit
  pure (record { count = n; unit = u })

-- constants

abbrev pub constant_with_unit : ℕ × ℕ → TimeUnit → Parser Constant
constant_with_unit x u = do
  line ← skip
  pure (record { line = x.0; form = constant_form.Time x.1 u })

abbrev pub constant_or_time : ℕ × ℕ → Parser Constant
constant_or_time x ts = where_some (unit_ahead ts) (pure (record { line = x.0; form = constant_form.Number x.1 })) (constant_with_unit x) ts

unfoldable pub number_constant : Parser Constant
number_constant = do
  x ← numbered
  constant_or_time x

unfoldable pub negative_constant : Parser Constant
negative_constant = do
  line ← symbol s.Minus
  n ← number
  pure (record { line = line; form = constant_form.Negative n })

unfoldable pub truth_constant : Word → Bool → Parser Constant
truth_constant v b = do
  line ← word v
  pure (record { line = line; form = constant_form.Truth b })

-- the vector of these digits, of which there are 1 to 64
abbrev pub vector_constant : ℕ × List Digit → Parser Constant
vector_constant x ts = cond (nat_le 1 (length x.1) && nat_le (length x.1) 64) (Some (record { line = x.0; form = constant_form.Logic (lv_of x.1) }, ts)) None

unfoldable pub logic_constant : Parser Constant
logic_constant = do
  x ← logical
  vector_constant x

abbrev pub false_or_logic : Parser Constant
false_or_logic = choose (sees (is_the_word w.False)) (truth_constant w.False false) logic_constant

abbrev pub truth_or_logic : Parser Constant
truth_or_logic = choose (sees (is_the_word w.True)) (truth_constant w.True true) false_or_logic

abbrev pub negative_or_less : Parser Constant
negative_or_less = choose (sees (is_the_symbol s.Minus)) negative_constant truth_or_logic

unfoldable pub constant : Parser Constant
constant = choose sees_number number_constant negative_or_less

abbrev pub some_value : Parser (Option Constant)
some_value = do
  equal ← symbol s.Equal
  c ← constant
  pure (Some c)

-- a first value, if one is written
unfoldable pub first_value : Parser (Option Constant)
first_value = choose (sees (is_the_symbol s.Equal)) some_value (pure None)

-- signals, clocks and what has a name alone

unfoldable pub signal_item : SignalKind → Parser tree.Item
signal_item k = do
  line ← word (signal_word k)
  several ← flag w.Many
  value_type ← signal_type
  x ← name
  initial ← first_value
  end ← symbol s.Semicolon
  pure (tree.signal line (record { kind = k; many = several; value_type = value_type; name = x; initial = initial }))

unfoldable pub resolved_item : Parser tree.Item
resolved_item = do
  line ← word w.Resolved
  x ← name
  end ← symbol s.Semicolon
  pure (tree.resolved line x)

abbrev pub some_start : Parser (Option Span)
some_start = do
  line ← word w.Start
  x ← time_span
  pure (Some x)

-- when a clock starts, if that is written
unfoldable pub clock_start : Parser (Option Span)
clock_start = choose (sees (is_the_word w.Start)) some_start (pure None)

unfoldable pub clock_item : Parser tree.Item
clock_item = do
  line ← word w.Clock
  x ← name
  first ← word w.Period
  period ← time_span
  second ← word w.High
  high ← time_span
  start ← clock_start
  end ← symbol s.Semicolon
  pure (tree.clock line (record { name = x; period = period; high = high; start = start }))

abbrev pub some_size : Parser (Option ℕ)
some_size = do
  line ← word w.Size
  n ← number
  pure (Some n)

-- the size of a fifo, if it is written
unfoldable pub fifo_size : Parser (Option ℕ)
fifo_size = choose (sees (is_the_word w.Size)) some_size (pure None)

unfoldable pub fifo_item : Parser tree.Item
fifo_item = do
  line ← word w.Fifo
  value_type ← signal_type
  x ← name
  size ← fifo_size
  end ← symbol s.Semicolon
  pure (tree.fifo line value_type x size)

unfoldable pub plain_item : PlainKind → Parser tree.Item
plain_item k = do
  line ← word (plain_word k)
  x ← name
  end ← symbol s.Semicolon
  pure (tree.plain line k x)

unfoldable pub semaphore_item : Parser tree.Item
semaphore_item = do
  line ← word w.Semaphore
  x ← name
  c ← constant
  end ← symbol s.Semicolon
  pure (tree.semaphore line x c)

-- the number is how many brackets may still be opened
unfoldable pub memory_item : ℕ → Parser tree.Item
memory_item depth = do
  line ← word w.Memory
  x ← name
  bracket ← opened depth s.LeftBracket
  n ← number
  close ← symbol s.RightBracket
  end ← symbol s.Semicolon
  pure (tree.memory line x n)

unfoldable pub variable_item : Parser tree.Item
variable_item = do
  line ← word w.Var
  value_type ← variable_type
  x ← name
  initial ← first_value
  end ← symbol s.Semicolon
  pure (tree.variable line value_type.1 x initial)

-- ports and exports

unfoldable pub typed_interface : Direction → Parser (ℕ × Interface)
typed_interface d = do
  line ← word (direction_word d)
  value_type ← signal_type
  pure (line, leading d value_type)

unfoldable pub plain_interface : Word → Interface → Parser (ℕ × Interface)
plain_interface v i = do
  line ← word v
  pure (line, i)

abbrev pub started_interface : PortStart → Parser (ℕ × Interface)
started_interface (port.Typed d) = typed_interface d
started_interface port.Mutex = plain_interface w.MutexPort interface_form.Mutex
started_interface port.Semaphore = plain_interface w.SemaphorePort interface_form.Semaphore
started_interface port.Nothing = refuse

unfoldable pub interface : Parser (ℕ × Interface)
interface ts = started_interface (port_ahead ts) ts

unfoldable pub bound_word : Word → BoundRule → Parser BoundRule
bound_word v r = do
  line ← word v
  pure r

abbrev pub all_bound_or_one : Parser BoundRule
all_bound_or_one = choose (sees (is_the_word w.AllBound)) (bound_word w.AllBound bound.All) (pure bound.One)

unfoldable pub bound_rule : Parser BoundRule
bound_rule = choose (sees (is_the_word w.Zero)) (bound_word w.Zero bound.Zero) all_bound_or_one

abbrev pub some_port_size : ℕ → Parser (Option PortSize)
some_port_size depth = do
  bracket ← opened depth s.LeftBracket
  n ← number
  r ← bound_rule
  close ← symbol s.RightBracket
  pure (Some (record { count = n; rule = r }))

-- the size of a port, if it is written
unfoldable pub port_size : ℕ → Parser (Option PortSize)
port_size depth = choose (sees (is_the_symbol s.LeftBracket)) (some_port_size depth) (pure None)

unfoldable pub port_item : ℕ → Parser tree.Item
port_item depth = do
  i ← interface
  x ← name
  size ← port_size depth
  end ← symbol s.Semicolon
  pure (tree.port i.0 i.1 x size)

unfoldable pub export_item : Parser tree.Item
export_item = do
  line ← word w.Export
  i ← interface
  x ← name
  end ← symbol s.Semicolon
  pure (tree.export line i.1 x)

-- sockets

abbrev pub some_handler : Word → Parser (Option (List ℕ))
some_handler v = do
  line ← word v
  x ← name
  pure (Some x)

-- the name of a handler, if its word comes
unfoldable pub optional_handler : Word → Parser (Option (List ℕ))
optional_handler v = choose (sees (is_the_word v)) (some_handler v) (pure None)

abbrev pub passing_initiator : Parser InitiatorRole
passing_initiator = do
  line ← word w.Pass
  pure initiator.Pass

abbrev pub own_initiator : Parser InitiatorRole
own_initiator = do
  backward ← optional_handler w.Bw
  pure (initiator.Own backward)

unfoldable pub initiator_role : Parser InitiatorRole
initiator_role = choose (sees (is_the_word w.Pass)) passing_initiator own_initiator

unfoldable pub initiator_item : Parser tree.Item
initiator_item = do
  line ← word w.Initiator
  x ← name
  role ← initiator_role
  end ← symbol s.Semicolon
  pure (tree.initiator line x role)

abbrev pub passing_target : Parser TargetRole
passing_target = do
  line ← word w.Pass
  pure target.Pass

abbrev pub own_target : Parser TargetRole
own_target = do
  blocking ← optional_handler w.Bt
  forward ← optional_handler w.Fw
  pure (target.Own blocking forward)

unfoldable pub target_role : Parser TargetRole
target_role = choose (sees (is_the_word w.Pass)) passing_target own_target

unfoldable pub target_item : Parser tree.Item
target_item = do
  line ← word w.Target
  x ← name
  role ← target_role
  end ← symbol s.Semicolon
  pure (tree.target line x role)

-- instances and bindings

unfoldable pub instance_item : Parser tree.Item
instance_item = do
  line ← word w.Inst
  of ← name
  x ← name
  end ← symbol s.Semicolon
  pure (tree.instance line of x)

unfoldable pub binding_end : Parser End
binding_end = do
  x ← named
  m ← optional_member
  pure (record { line = x.0; name = x.1; member = m })

unfoldable pub bind_item : Parser tree.Item
bind_item = do
  line ← word w.Bind
  left ← binding_end
  to ← word w.To
  right ← binding_end
  end ← symbol s.Semicolon
  pure (tree.bind line left right)
