-- What an item is by its first word.
use Rattle.model_tree.specs.declared.vocabulary.Word.{Word}
use Rattle.model_tree.specs.declared.vocabulary.Word.TheVariants as w
use Rattle.model_tree.specs.declared.types.SignalType.{SignalType}
use Rattle.model_tree.specs.declared.types.Interface.{Interface}
use Rattle.model_tree.specs.declared.types.Interface.TheVariants as interface
use Rattle.model_tree.specs.declared.items.SignalKind.TheVariants as kind
use Rattle.model_tree.specs.declared.items.PlainKind.TheVariants as plain
use Rattle.model_tree.specs.declared.items.ProcessKind.TheVariants as process
use Rattle.parse_statements.specs.ModelLexer.Tokens as t
use Rattle.std.specs.Prelude.{Option, Some, None}
use Rattle.parse_statements.specs.ParseExpressions.Parse.{word_ahead}
use Rattle.model_parser.specs.declared.starts.Direction.{Direction}
use Rattle.model_parser.specs.declared.starts.Direction.TheVariants as direction
use Rattle.model_parser.specs.declared.starts.PortStart.{PortStart}
use Rattle.model_parser.specs.declared.starts.PortStart.TheVariants as port
use Rattle.model_parser.specs.declared.starts.ItemStart.{ItemStart}
use Rattle.model_parser.specs.declared.starts.ItemStart.TheVariants as item

abbrev pub direction_word : Direction → Word
direction_word direction.In = w.In
direction_word direction.Out = w.Out
direction_word direction.FifoIn = w.FifoIn
direction_word direction.FifoOut = w.FifoOut

abbrev pub leading : Direction → SignalType → Interface
leading direction.In t = interface.In t
leading direction.Out t = interface.Out t
leading direction.FifoIn t = interface.FifoIn t
leading direction.FifoOut t = interface.FifoOut t

abbrev pub port_start : Word → PortStart
port_start w.In = port.Typed direction.In
port_start w.Out = port.Typed direction.Out
port_start w.FifoIn = port.Typed direction.FifoIn
port_start w.FifoOut = port.Typed direction.FifoOut
port_start w.MutexPort = port.Mutex
port_start w.SemaphorePort = port.Semaphore
port_start _ = port.Nothing

abbrev pub item_start : Word → ItemStart
item_start w.Signal = item.Signal kind.Signal
item_start w.Buffer = item.Signal kind.Buffer
item_start w.Resolved = item.Resolved
item_start w.Clock = item.Clock
item_start w.Fifo = item.Fifo
item_start w.Mutex = item.Plain plain.Mutex
item_start w.Event = item.Plain plain.Event
item_start w.Keeper = item.Plain plain.Keeper
item_start w.Semaphore = item.Semaphore
item_start w.Memory = item.Memory
item_start w.Var = item.Variable
item_start w.In = item.Port
item_start w.Out = item.Port
item_start w.FifoIn = item.Port
item_start w.FifoOut = item.Port
item_start w.MutexPort = item.Port
item_start w.SemaphorePort = item.Port
item_start w.Export = item.Export
item_start w.Initiator = item.Initiator
item_start w.Target = item.Target
item_start w.Inst = item.Instance
item_start w.Bind = item.Bind
item_start w.Func = item.Function
item_start w.Thread = item.Process process.Thread
item_start w.Method = item.Process process.Method
item_start _ = item.Nothing

abbrev pub port_from : Option Word → PortStart
port_from None = port.Nothing
port_from (Some v) = port_start v

-- the port that comes
abbrev pub port_ahead : t.Tokens → PortStart
port_ahead ts = port_from (word_ahead ts)

abbrev pub item_from : Option Word → ItemStart
item_from None = item.Nothing
item_from (Some v) = item_start v

-- the item that comes
abbrev pub item_ahead : t.Tokens → ItemStart
item_ahead ts = item_from (word_ahead ts)
