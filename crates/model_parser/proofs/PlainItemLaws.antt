-- The laws of signals, clocks, fifos and other items that have names, types and numbers alone, both ways.
use Rattle.std.proofs.Common.{◌≡◌, ℕ, ◌≤◌, false, List, Option, Some, None, refl, sym, arith}
use Rattle.std.specs.Prelude.{is_some}
use Rattle.model_tree.specs.declared.vocabulary.Word.TheVariants as w
use Rattle.model_tree.specs.declared.vocabulary.Symbol.TheVariants as s
use Rattle.model_tree.specs.declared.types.SignalType.{SignalType}
use Rattle.model_tree.specs.declared.types.VarType.{VarType}
use Rattle.model_tree.specs.declared.types.Constant.{Constant}
use Rattle.model_tree.specs.declared.types.Span.{Span}
use Rattle.model_tree.specs.declared.items.SignalItem.{SignalItem}
use Rattle.model_tree.specs.declared.items.ClockItem.{ClockItem}
use Rattle.model_tree.specs.declared.items.SignalKind.{SignalKind}
use Rattle.model_tree.specs.declared.items.PlainKind.{PlainKind}
use Rattle.model_tree.specs.Tree as tree
use Rattle.parse_statements.specs.ModelLexer.Tokens as t
use Rattle.parse_statements.specs.ModelLexer.Tokens.{Tokens}
use Rattle.parse_statements.specs.ModelLexer.Rules.{Takes, Maybe}
use Rattle.parse_statements.specs.ModelLexer.Expressions.{is_the_symbol, sees, unit_in}
use Rattle.parse_statements.specs.ModelLexer.Items.{DerivesStart, DerivesFifoSize, DerivesItem}
use Rattle.model_tree.specs.Spelling.{signal_word, plain_word}
use Rattle.parse_statements.specs.ModelLexer.Brackets.{in_item}
use Rattle.parse_statements.specs.ParseExpressions.Parse.{pure, word, is_the_word, flag, symbol, name, number, opened}
use Rattle.parse_statements.proofs.ParseExpressions.Parsers.{and_then_ok, choose_cases, choose_first, choose_other, made}
use Rattle.parse_statements.proofs.ParseExpressions.OneToken.{symbol_ok, symbol_reads, opened_ok, opened_reads, name_ok, name_reads, number_ok, number_reads, this_word_at, word_ok, word_reads, word_sees, flag_ok, flag_reads}
use Rattle.parse_statements.specs.ParseActions.ChannelParse.{signal_type, variable_type}
use Rattle.parse_statements.proofs.ParseActions.TypeLaws.{signal_type_ok, signal_type_reads, variable_type_ok, variable_type_reads, form_begins_not}
use Rattle.model_parser.specs.ItemParse.{time_span, constant, first_value, signal_item, resolved_item, some_start, clock_start, clock_item, some_size, fifo_size, fifo_item, plain_item, semaphore_item, memory_item, variable_item}
use Rattle.model_parser.proofs.ValueLaws.{time_span_ok, time_span_reads, constant_ok, constant_reads, first_value_ok, first_value_reads}

-- an item that is derived, with at most so many brackets open in it
abbrev pub Within : ℕ → Tokens → tree.Item → Tokens → Type 0
Within d ts x rest = DerivesItem x ts rest × (in_item x ≤ d)

-- signals

pub signal_item_ok : (k : SignalKind) (d : ℕ) (ts rest : Tokens) (x : tree.Item) → signal_item k ts ≡ Some (x, rest) → Within d ts x rest
unfolding signal_item
signal_item_ok k d ts rest x h =
    let (line, a, one, h1) = and_then_ok (word (signal_word k) ts) _ (x, rest) h in
    let (several, b, two, h2) = and_then_ok (flag w.Many a) _ (x, rest) h1 in
    let (value_type, c, three, h3) = and_then_ok (signal_type b) _ (x, rest) h2 in
    let (bytes, e, four, h4) = and_then_ok (name c) _ (x, rest) h3 in
    let (initial, f, five, h5) = and_then_ok (first_value e) _ (x, rest) h4 in
    let (end, g, six, h6) = and_then_ok (symbol s.Semicolon f) _ (x, rest) h5 in
    made (Within d ts) h6
    ((a, this_word_at (signal_word k) ts a line one, (b, flag_ok w.Many a b several two, (c, signal_type_ok b c value_type three, (e, name_ok c e bytes four, (f, first_value_ok e f initial five, symbol_ok s.Semicolon f g end six))))), omega arith)

-- where a semicolon comes, no first value and no unit does
value_free : (ts rest : Tokens) → Takes (t.symbol s.Semicolon) ts rest → (sees (is_the_symbol s.Equal) ts ≡ false) × (sees (λ x. is_some (unit_in x)) ts ≡ false)
value_free ts rest h = (rw h.1 refl, rw h.1 refl)

pub signal_item_reads : (k : SignalKind) (line : ℕ) (i : SignalItem) (ts rest : Tokens) → i.kind ≡ k → DerivesItem (tree.signal line i) ts rest → signal_item k ts ≡ Some (tree.signal line i, rest)
unfolding signal_item
signal_item_reads k line i ts rest same (a, one, (b, two, (c, three, (d, four, (e, five, six))))) =
    let free = value_free e rest six in
    let read = word_reads (signal_word i.kind) ts a (line, one) in
    rw (sym same) (rw (read, flag_reads w.Many i.many a b two (λ none. form_begins_not (is_the_word w.Many) (refl, refl, refl, refl, refl) i.value_type.line i.value_type.form b c three), signal_type_reads i.value_type b c three, name_reads i.name c d four, first_value_reads i.initial d e five free.0 free.1, symbol_reads s.Semicolon e rest six) refl)

-- resolved signals and what has a name alone

pub resolved_item_ok : (d : ℕ) (ts rest : Tokens) (x : tree.Item) → resolved_item ts ≡ Some (x, rest) → Within d ts x rest
unfolding resolved_item
resolved_item_ok d ts rest x h =
    let (line, a, one, h1) = and_then_ok (word w.Resolved ts) _ (x, rest) h in
    let (bytes, b, two, h2) = and_then_ok (name a) _ (x, rest) h1 in
    let (end, c, three, h3) = and_then_ok (symbol s.Semicolon b) _ (x, rest) h2 in
    made (Within d ts) h3 ((a, this_word_at w.Resolved ts a line one, (b, name_ok a b bytes two, symbol_ok s.Semicolon b c end three)), omega arith)

pub resolved_item_reads : (line : ℕ) (x : List ℕ) (ts rest : Tokens) → DerivesItem (tree.resolved line x) ts rest → resolved_item ts ≡ Some (tree.resolved line x, rest)
unfolding resolved_item
resolved_item_reads line x ts rest (a, one, (b, two, three)) = rw (word_reads w.Resolved ts a (line, one), name_reads x a b two, symbol_reads s.Semicolon b rest three) refl

pub plain_item_ok : (k : PlainKind) (d : ℕ) (ts rest : Tokens) (x : tree.Item) → plain_item k ts ≡ Some (x, rest) → Within d ts x rest
unfolding plain_item
plain_item_ok k d ts rest x h =
    let (line, a, one, h1) = and_then_ok (word (plain_word k) ts) _ (x, rest) h in
    let (bytes, b, two, h2) = and_then_ok (name a) _ (x, rest) h1 in
    let (end, c, three, h3) = and_then_ok (symbol s.Semicolon b) _ (x, rest) h2 in
    made (Within d ts) h3 ((a, this_word_at (plain_word k) ts a line one, (b, name_ok a b bytes two, symbol_ok s.Semicolon b c end three)), omega arith)

pub plain_item_reads : (k : PlainKind) (line : ℕ) (x : List ℕ) (ts rest : Tokens) → DerivesItem (tree.plain line k x) ts rest → plain_item k ts ≡ Some (tree.plain line k x, rest)
unfolding plain_item
plain_item_reads k line x ts rest (a, one, (b, two, three)) =
    let read = word_reads (plain_word k) ts a (line, one) in
    rw (read, name_reads x a b two, symbol_reads s.Semicolon b rest three) refl

-- clocks

clock_start_ok : (ts rest : Tokens) (o : Option Span) → clock_start ts ≡ Some (o, rest) → Maybe DerivesStart o ts rest
unfolding clock_start
clock_start_ok ts rest o h =
    choose_cases (sees (is_the_word w.Start)) some_start (pure None) ts (o, rest) h
    (λ is h.
    let (line, a, one, h1) = and_then_ok (word w.Start ts) _ (o, rest) h in
    let (x, b, two, h2) = and_then_ok (time_span a) _ (o, rest) h1 in
    made (λ o b. Maybe DerivesStart o ts b) h2 (a, word_ok w.Start ts a line one, time_span_ok a b x two))
    (λ is h. made (λ o b. Maybe DerivesStart o ts b) h refl)

clock_start_reads : (o : Option Span) (ts rest : Tokens) → Maybe DerivesStart o ts rest → sees (is_the_word w.Start) rest ≡ false → clock_start ts ≡ Some (o, rest)
unfolding clock_start
clock_start_reads None ts rest h free = choose_other (sees (is_the_word w.Start)) some_start (pure None) ts _ (rw h free) (rw h refl)
clock_start_reads (Some x) ts rest (a, one, two) free =
    let read : some_start ts ≡ Some (Some x, rest) = rw (word_reads w.Start ts a one, time_span_reads x a rest two) refl in
    choose_first (sees (is_the_word w.Start)) some_start (pure None) ts _ (word_sees w.Start ts a one) read

pub clock_item_ok : (d : ℕ) (ts rest : Tokens) (x : tree.Item) → clock_item ts ≡ Some (x, rest) → Within d ts x rest
unfolding clock_item
clock_item_ok d ts rest x h =
    let (line, a, one, h1) = and_then_ok (word w.Clock ts) _ (x, rest) h in
    let (bytes, b, two, h2) = and_then_ok (name a) _ (x, rest) h1 in
    let (p, c, three, h3) = and_then_ok (word w.Period b) _ (x, rest) h2 in
    let (period, e, four, h4) = and_then_ok (time_span c) _ (x, rest) h3 in
    let (q, f, five, h5) = and_then_ok (word w.High e) _ (x, rest) h4 in
    let (high, g, six, h6) = and_then_ok (time_span f) _ (x, rest) h5 in
    let (start, i, seven, h7) = and_then_ok (clock_start g) _ (x, rest) h6 in
    let (end, j, eight, h8) = and_then_ok (symbol s.Semicolon i) _ (x, rest) h7 in
    made (Within d ts) h8
    ((a, this_word_at w.Clock ts a line one, (b, name_ok a b bytes two, (c, word_ok w.Period b c p three, (e, time_span_ok c e period four, (f, word_ok w.High e f q five, (g, time_span_ok f g high six, (i, clock_start_ok g i start seven, symbol_ok s.Semicolon i j end eight))))))), omega arith)

pub clock_item_reads : (line : ℕ) (c : ClockItem) (ts rest : Tokens) → DerivesItem (tree.clock line c) ts rest → clock_item ts ≡ Some (tree.clock line c, rest)
unfolding clock_item
clock_item_reads line c ts rest (a, one, (b, two, (d, three, (e, four, (f, five, (g, six, (i, seven, eight))))))) =
    rw (word_reads w.Clock ts a (line, one), name_reads c.name a b two, word_reads w.Period b d three, time_span_reads c.period d e four, word_reads w.High e f five, time_span_reads c.high f g six, clock_start_reads c.start g i seven (rw eight.1 refl), symbol_reads s.Semicolon i rest eight) refl

-- fifos

fifo_size_ok : (ts rest : Tokens) (o : Option ℕ) → fifo_size ts ≡ Some (o, rest) → Maybe DerivesFifoSize o ts rest
unfolding fifo_size
fifo_size_ok ts rest o h =
    choose_cases (sees (is_the_word w.Size)) some_size (pure None) ts (o, rest) h
    (λ is h.
    let (line, a, one, h1) = and_then_ok (word w.Size ts) _ (o, rest) h in
    let (x, b, two, h2) = and_then_ok (number a) _ (o, rest) h1 in
    made (λ o b. Maybe DerivesFifoSize o ts b) h2 (a, word_ok w.Size ts a line one, number_ok a b x two))
    (λ is h. made (λ o b. Maybe DerivesFifoSize o ts b) h refl)

fifo_size_reads : (o : Option ℕ) (ts rest : Tokens) → Maybe DerivesFifoSize o ts rest → sees (is_the_word w.Size) rest ≡ false → fifo_size ts ≡ Some (o, rest)
unfolding fifo_size
fifo_size_reads None ts rest h free = choose_other (sees (is_the_word w.Size)) some_size (pure None) ts _ (rw h free) (rw h refl)
fifo_size_reads (Some x) ts rest (a, one, two) free =
    let read : some_size ts ≡ Some (Some x, rest) = rw (word_reads w.Size ts a one, number_reads x a rest two) refl in
    choose_first (sees (is_the_word w.Size)) some_size (pure None) ts _ (word_sees w.Size ts a one) read

pub fifo_item_ok : (d : ℕ) (ts rest : Tokens) (x : tree.Item) → fifo_item ts ≡ Some (x, rest) → Within d ts x rest
unfolding fifo_item
fifo_item_ok d ts rest x h =
    let (line, a, one, h1) = and_then_ok (word w.Fifo ts) _ (x, rest) h in
    let (value_type, b, two, h2) = and_then_ok (signal_type a) _ (x, rest) h1 in
    let (bytes, c, three, h3) = and_then_ok (name b) _ (x, rest) h2 in
    let (size, e, four, h4) = and_then_ok (fifo_size c) _ (x, rest) h3 in
    let (end, f, five, h5) = and_then_ok (symbol s.Semicolon e) _ (x, rest) h4 in
    made (Within d ts) h5
    ((a, this_word_at w.Fifo ts a line one, (b, signal_type_ok a b value_type two, (c, name_ok b c bytes three, (e, fifo_size_ok c e size four, symbol_ok s.Semicolon e f end five)))), omega arith)

pub fifo_item_reads : (line : ℕ) (value_type : SignalType) (x : List ℕ) (size : Option ℕ) (ts rest : Tokens) → DerivesItem (tree.fifo line value_type x size) ts rest → fifo_item ts ≡ Some (tree.fifo line value_type x size, rest)
unfolding fifo_item
fifo_item_reads line value_type x size ts rest (a, one, (b, two, (c, three, (d, four, five)))) =
    rw (word_reads w.Fifo ts a (line, one), signal_type_reads value_type a b two, name_reads x b c three, fifo_size_reads size c d four (rw five.1 refl), symbol_reads s.Semicolon d rest five) refl

-- semaphores, memories and variables

pub semaphore_item_ok : (d : ℕ) (ts rest : Tokens) (x : tree.Item) → semaphore_item ts ≡ Some (x, rest) → Within d ts x rest
unfolding semaphore_item
semaphore_item_ok d ts rest x h =
    let (line, a, one, h1) = and_then_ok (word w.Semaphore ts) _ (x, rest) h in
    let (bytes, b, two, h2) = and_then_ok (name a) _ (x, rest) h1 in
    let (c, e, three, h3) = and_then_ok (constant b) _ (x, rest) h2 in
    let (end, f, four, h4) = and_then_ok (symbol s.Semicolon e) _ (x, rest) h3 in
    made (Within d ts) h4
    ((a, this_word_at w.Semaphore ts a line one, (b, name_ok a b bytes two, (e, constant_ok b e c three, symbol_ok s.Semicolon e f end four))), omega arith)

pub semaphore_item_reads : (line : ℕ) (x : List ℕ) (c : Constant) (ts rest : Tokens) → DerivesItem (tree.semaphore line x c) ts rest → semaphore_item ts ≡ Some (tree.semaphore line x c, rest)
unfolding semaphore_item
semaphore_item_reads line x c ts rest (a, one, (b, two, (d, three, four))) =
    rw (word_reads w.Semaphore ts a (line, one), name_reads x a b two, constant_reads c b d three (rw four.1 refl), symbol_reads s.Semicolon d rest four) refl

pub memory_item_ok : (d : ℕ) (ts rest : Tokens) (x : tree.Item) → memory_item d ts ≡ Some (x, rest) → Within d ts x rest
unfolding memory_item
memory_item_ok d ts rest x h =
    let (line, a, one, h1) = and_then_ok (word w.Memory ts) _ (x, rest) h in
    let (bytes, b, two, h2) = and_then_ok (name a) _ (x, rest) h1 in
    let (left, c, three, h3) = and_then_ok (opened d s.LeftBracket b) _ (x, rest) h2 in
    let (n, e, four, h4) = and_then_ok (number c) _ (x, rest) h3 in
    let (right, f, five, h5) = and_then_ok (symbol s.RightBracket e) _ (x, rest) h4 in
    let (end, g, six, h6) = and_then_ok (symbol s.Semicolon f) _ (x, rest) h5 in
    let bracket = opened_ok d s.LeftBracket b c left three in
    made (Within d ts) h6
    ((a, this_word_at w.Memory ts a line one, (b, name_ok a b bytes two, (c, (left, bracket.0), (e, number_ok c e n four, (f, symbol_ok s.RightBracket e f right five, symbol_ok s.Semicolon f g end six))))), bracket.1)

pub memory_item_reads : (d : ℕ) (line : ℕ) (x : List ℕ) (n : ℕ) (ts rest : Tokens) → 1 ≤ d → DerivesItem (tree.memory line x n) ts rest → memory_item d ts ≡ Some (tree.memory line x n, rest)
unfolding memory_item
memory_item_reads d line x n ts rest few (a, one, (b, two, (c, three, (e, four, (f, five, six))))) =
    rw (word_reads w.Memory ts a (line, one), name_reads x a b two, opened_reads d s.LeftBracket b c three few, number_reads n c e four, symbol_reads s.RightBracket e f five, symbol_reads s.Semicolon f rest six) refl

pub variable_item_ok : (d : ℕ) (ts rest : Tokens) (x : tree.Item) → variable_item ts ≡ Some (x, rest) → Within d ts x rest
unfolding variable_item
variable_item_ok d ts rest x h =
    let (line, a, one, h1) = and_then_ok (word w.Var ts) _ (x, rest) h in
    let (value_type, b, two, h2) = and_then_ok (variable_type a) _ (x, rest) h1 in
    let (bytes, c, three, h3) = and_then_ok (name b) _ (x, rest) h2 in
    let (initial, e, four, h4) = and_then_ok (first_value c) _ (x, rest) h3 in
    let (end, f, five, h5) = and_then_ok (symbol s.Semicolon e) _ (x, rest) h4 in
    made (Within d ts) h5
    ((a, this_word_at w.Var ts a line one, (b, (value_type.0, variable_type_ok a b value_type two), (c, name_ok b c bytes three, (e, first_value_ok c e initial four, symbol_ok s.Semicolon e f end five)))), omega arith)

pub variable_item_reads : (line : ℕ) (value_type : VarType) (x : List ℕ) (initial : Option Constant) (ts rest : Tokens) → DerivesItem (tree.variable line value_type x initial) ts rest → variable_item ts ≡ Some (tree.variable line value_type x initial, rest)
unfolding variable_item
variable_item_reads line value_type x initial ts rest (a, one, (b, two, (c, three, (d, four, five)))) =
    let free = value_free d rest five in
    rw (word_reads w.Var ts a (line, one), variable_type_reads two.0 value_type a b two.1, name_reads x b c three, first_value_reads initial c d four free.0 free.1, symbol_reads s.Semicolon d rest five) refl
