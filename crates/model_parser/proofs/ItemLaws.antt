-- The laws of any item, both ways.
use Rattle.std.proofs.Common.{◌≡◌, ℕ, ◌≤◌, true, false, List, [], ◌∷◌, Some, refl, sym, ◌∙◌, subst, arith}
use Rattle.model_tree.specs.declared.vocabulary.Word.{Word}
use Rattle.model_tree.specs.declared.vocabulary.Word.TheVariants as w
use Rattle.model_tree.specs.declared.types.Interface.{Interface}
use Rattle.model_tree.specs.declared.types.Interface.TheVariants as interface_form
use Rattle.model_tree.specs.declared.items.SignalKind.{SignalKind}
use Rattle.model_tree.specs.declared.items.SignalKind.TheVariants as kind
use Rattle.model_tree.specs.declared.items.PlainKind.{PlainKind}
use Rattle.model_tree.specs.declared.items.PlainKind.TheVariants as plain
use Rattle.model_tree.specs.declared.items.ProcessKind.{ProcessKind}
use Rattle.model_tree.specs.declared.items.ProcessKind.TheVariants as process
use Rattle.model_tree.specs.Tree as tree
use Rattle.parse_statements.specs.ModelLexer.Tokens as t
use Rattle.parse_statements.specs.ModelLexer.Tokens.{Tokens}
use Rattle.parse_statements.specs.ModelLexer.Rules.{At, Each}
use Rattle.parse_statements.specs.ModelLexer.Items.{DerivesInterface, DerivesItem}
use Rattle.model_tree.specs.Spelling.{signal_word, plain_word, process_word}
use Rattle.parse_statements.specs.ModelLexer.Brackets.{in_item, in_items}
use Rattle.parse_statements.proofs.ModelLexer.Shrinks.{item_shortens}
use Rattle.parse_statements.proofs.ParseExpressions.Many.{Every, many_ok, many_reads}
use Rattle.parse_statements.specs.Parse.{at_right_brace}
use Rattle.model_parser.specs.declared.starts.ItemStart.{ItemStart}
use Rattle.model_parser.specs.declared.starts.ItemStart.TheVariants as start
use Rattle.model_parser.specs.Starts.{item_start, item_ahead}
use Rattle.model_parser.specs.Bodies.{started_item, item, items}
use Rattle.model_parser.proofs.PlainItemLaws.{Within, signal_item_ok, signal_item_reads, resolved_item_ok, resolved_item_reads, plain_item_ok, plain_item_reads, clock_item_ok, clock_item_reads, fifo_item_ok, fifo_item_reads, semaphore_item_ok, semaphore_item_reads, memory_item_ok, memory_item_reads, variable_item_ok, variable_item_reads}
use Rattle.model_parser.proofs.PortLaws.{port_item_ok, port_item_reads, export_item_ok, export_item_reads}
use Rattle.model_parser.proofs.SocketLaws.{initiator_item_ok, initiator_item_reads, target_item_ok, target_item_reads, instance_item_ok, instance_item_reads, bind_item_ok, bind_item_reads}
use Rattle.model_parser.proofs.BodyLaws.{function_item_ok, function_item_reads, process_item_ok, process_item_reads}

started_item_ok : (a : ItemStart) (d : ℕ) (ts rest : Tokens) (x : tree.Item) → started_item a d ts ≡ Some (x, rest) → Within d ts x rest
started_item_ok (start.Signal k) d ts rest x h = signal_item_ok k d ts rest x h
started_item_ok start.Resolved d ts rest x h = resolved_item_ok d ts rest x h
started_item_ok start.Clock d ts rest x h = clock_item_ok d ts rest x h
started_item_ok start.Fifo d ts rest x h = fifo_item_ok d ts rest x h
started_item_ok (start.Plain k) d ts rest x h = plain_item_ok k d ts rest x h
started_item_ok start.Semaphore d ts rest x h = semaphore_item_ok d ts rest x h
started_item_ok start.Memory d ts rest x h = memory_item_ok d ts rest x h
started_item_ok start.Variable d ts rest x h = variable_item_ok d ts rest x h
started_item_ok start.Port d ts rest x h = port_item_ok d ts rest x h
started_item_ok start.Export d ts rest x h = export_item_ok d ts rest x h
started_item_ok start.Initiator d ts rest x h = initiator_item_ok d ts rest x h
started_item_ok start.Target d ts rest x h = target_item_ok d ts rest x h
started_item_ok start.Instance d ts rest x h = instance_item_ok d ts rest x h
started_item_ok start.Bind d ts rest x h = bind_item_ok d ts rest x h
started_item_ok start.Function d ts rest x h = function_item_ok d ts rest x h
started_item_ok (start.Process k) d ts rest x h = process_item_ok k d ts rest x h
started_item_ok start.Nothing d ts rest x h = cc

pub item_ok : (d : ℕ) (ts rest : Tokens) (x : tree.Item) → item d ts ≡ Some (x, rest) → DerivesItem x ts rest × (in_item x ≤ d)
unfolding item
item_ok d ts rest x h = started_item_ok (item_ahead ts) d ts rest x h

-- each item is known by its first word

by_start : (a : ItemStart) (d : ℕ) (ts : Tokens) (r : tree.Item × Tokens) → item_ahead ts ≡ a → started_item a d ts ≡ Some r → item d ts ≡ Some r
unfolding item
by_start a d ts r e h = rw e h

by_word : (v : Word) (line : ℕ) (ts rest : Tokens) → At line (t.word v) ts rest → item_ahead ts ≡ item_start v
by_word v line ts rest h = rw h refl

signal_start : (k : SignalKind) → item_start (signal_word k) ≡ start.Signal k
signal_start kind.Signal = refl
signal_start kind.Buffer = refl

plain_start : (k : PlainKind) → item_start (plain_word k) ≡ start.Plain k
plain_start plain.Mutex = refl
plain_start plain.Event = refl
plain_start plain.Keeper = refl

process_start : (k : ProcessKind) → item_start (process_word k) ≡ start.Process k
process_start process.Thread = refl
process_start process.Method = refl

port_start : (line : ℕ) (i : Interface) (ts rest : Tokens) → DerivesInterface (At line) i ts rest → (item_ahead ts ≡ start.Port) × (at_right_brace ts ≡ false)
port_start line (interface_form.In x) ts rest (a, one, two) = (rw one refl, rw one refl)
port_start line (interface_form.Out x) ts rest (a, one, two) = (rw one refl, rw one refl)
port_start line (interface_form.FifoIn x) ts rest (a, one, two) = (rw one refl, rw one refl)
port_start line (interface_form.FifoOut x) ts rest (a, one, two) = (rw one refl, rw one refl)
port_start line interface_form.Mutex ts rest h = (rw h refl, rw h refl)
port_start line interface_form.Semaphore ts rest h = (rw h refl, rw h refl)

pub item_reads : (d : ℕ) (x : tree.Item) (ts rest : Tokens) → DerivesItem x ts rest → in_item x ≤ d → item d ts ≡ Some (x, rest)
item_reads d (tree.signal line i) ts rest h few = by_start (start.Signal i.kind) d ts _ (by_word (signal_word i.kind) line ts h.0 h.1 ∙ signal_start i.kind) (signal_item_reads i.kind line i ts rest refl h)
item_reads d (tree.resolved line x) ts rest h few = by_start start.Resolved d ts _ (by_word w.Resolved line ts h.0 h.1) (resolved_item_reads line x ts rest h)
item_reads d (tree.clock line c) ts rest h few = by_start start.Clock d ts _ (by_word w.Clock line ts h.0 h.1) (clock_item_reads line c ts rest h)
item_reads d (tree.fifo line x name size) ts rest h few = by_start start.Fifo d ts _ (by_word w.Fifo line ts h.0 h.1) (fifo_item_reads line x name size ts rest h)
item_reads d (tree.plain line k x) ts rest h few = by_start (start.Plain k) d ts _ (by_word (plain_word k) line ts h.0 h.1 ∙ plain_start k) (plain_item_reads k line x ts rest h)
item_reads d (tree.semaphore line x c) ts rest h few = by_start start.Semaphore d ts _ (by_word w.Semaphore line ts h.0 h.1) (semaphore_item_reads line x c ts rest h)
item_reads d (tree.memory line x n) ts rest h few = by_start start.Memory d ts _ (by_word w.Memory line ts h.0 h.1) (memory_item_reads d line x n ts rest few h)
item_reads d (tree.variable line v x c) ts rest h few = by_start start.Variable d ts _ (by_word w.Var line ts h.0 h.1) (variable_item_reads line v x c ts rest h)
item_reads d (tree.port line i x size) ts rest h few = by_start start.Port d ts _ (port_start line i ts h.0 h.1).0 (port_item_reads d line i x size ts rest few h)
item_reads d (tree.export line i x) ts rest h few = by_start start.Export d ts _ (by_word w.Export line ts h.0 h.1) (export_item_reads line i x ts rest h)
item_reads d (tree.initiator line x role) ts rest h few = by_start start.Initiator d ts _ (by_word w.Initiator line ts h.0 h.1) (initiator_item_reads line x role ts rest h)
item_reads d (tree.target line x role) ts rest h few = by_start start.Target d ts _ (by_word w.Target line ts h.0 h.1) (target_item_reads line x role ts rest h)
item_reads d (tree.instance line of x) ts rest h few = by_start start.Instance d ts _ (by_word w.Inst line ts h.0 h.1) (instance_item_reads line of x ts rest h)
item_reads d (tree.bind line left right) ts rest h few = by_start start.Bind d ts _ (by_word w.Bind line ts h.0 h.1) (bind_item_reads line left right ts rest h)
item_reads d (tree.function line f) ts rest h few = by_start start.Function d ts _ (by_word w.Func line ts h.0 h.1) (function_item_reads d line f ts rest few h)
item_reads d (tree.process line p) ts rest h few = by_start (start.Process p.kind) d ts _ (by_word (process_word p.kind) line ts h.0 h.1 ∙ process_start p.kind) (process_item_reads p.kind d line p ts rest refl few h)

-- an item begins with a word

word_begins : (v : Word) (line : ℕ) (ts rest : Tokens) → At line (t.word v) ts rest → at_right_brace ts ≡ false
word_begins v line ts rest h = rw h refl

item_begins : (x : tree.Item) (ts rest : Tokens) → DerivesItem x ts rest → at_right_brace ts ≡ false
item_begins (tree.port line i x size) ts rest h = (port_start line i ts h.0 h.1).1
item_begins (tree.signal line i) ts rest h = word_begins _ line ts h.0 h.1
item_begins (tree.resolved line x) ts rest h = word_begins _ line ts h.0 h.1
item_begins (tree.clock line c) ts rest h = word_begins _ line ts h.0 h.1
item_begins (tree.fifo line x name size) ts rest h = word_begins _ line ts h.0 h.1
item_begins (tree.plain line k x) ts rest h = word_begins _ line ts h.0 h.1
item_begins (tree.semaphore line x c) ts rest h = word_begins _ line ts h.0 h.1
item_begins (tree.memory line x n) ts rest h = word_begins _ line ts h.0 h.1
item_begins (tree.variable line v x c) ts rest h = word_begins _ line ts h.0 h.1
item_begins (tree.export line i x) ts rest h = word_begins _ line ts h.0 h.1
item_begins (tree.initiator line x role) ts rest h = word_begins _ line ts h.0 h.1
item_begins (tree.target line x role) ts rest h = word_begins _ line ts h.0 h.1
item_begins (tree.instance line of x) ts rest h = word_begins _ line ts h.0 h.1
item_begins (tree.bind line left right) ts rest h = word_begins _ line ts h.0 h.1
item_begins (tree.function line f) ts rest h = word_begins _ line ts h.0 h.1
item_begins (tree.process line p) ts rest h = word_begins _ line ts h.0 h.1

-- the items of a module

abbrev Few : ℕ → tree.Item → Type 0
Few d x = in_item x ≤ d

all_few : (d : ℕ) (xs : List tree.Item) → Every (Few d) xs → in_items xs ≤ d
all_few d [] h = omega arith
all_few d (x ∷ xs) (one, more) = let two = all_few d xs more in omega arith

each_few : (d : ℕ) (xs : List tree.Item) → in_items xs ≤ d → Every (Few d) xs
each_few d [] h = tt
each_few d (x ∷ xs) h = (omega (arith, h), each_few d xs (omega (arith, h)))

pub items_ok : (d : ℕ) (ts rest : Tokens) (xs : List tree.Item) → items d ts ≡ Some (xs, rest) → Each DerivesItem xs ts rest × (in_items xs ≤ d)
unfolding items
items_ok d ts rest xs h =
    let (ys, whole, each, every, stop) = many_ok at_right_brace (item d) DerivesItem (Few d) (item_ok d) [] xs ts rest h in
    subst (λ z. Each DerivesItem z ts rest × (in_items z ≤ d)) (sym whole) (each, all_few d ys every)

pub items_reads : (d : ℕ) (xs : List tree.Item) (ts rest : Tokens) → Each DerivesItem xs ts rest → in_items xs ≤ d → at_right_brace rest ≡ true → items d ts ≡ Some (xs, rest)
unfolding items
items_reads d xs ts rest h few end = many_reads at_right_brace (item d) DerivesItem (Few d) (λ ts. Unit {0}) (λ x ts rest is few follow. item_reads d x ts rest is few) (λ x ts rest is. (item_begins x ts rest is, tt)) (λ x ts rest is. (item_shortens x).leaves ts rest is) xs [] ts rest h (each_few d xs few) end tt
