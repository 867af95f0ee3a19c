-- The laws of ports and exports, both ways.
use Rattle.std.proofs.Common.{◌≡◌, ℕ, ◌≤◌, false, List, Option, Some, None, refl, arith}
use Rattle.model_tree.specs.declared.vocabulary.Word.{Word}
use Rattle.model_tree.specs.declared.vocabulary.Word.TheVariants as w
use Rattle.model_tree.specs.declared.vocabulary.Symbol.TheVariants as s
use Rattle.model_tree.specs.declared.types.Interface.{Interface}
use Rattle.model_tree.specs.declared.types.Interface.TheVariants as interface_form
use Rattle.model_tree.specs.declared.types.BoundRule.{BoundRule}
use Rattle.model_tree.specs.declared.types.BoundRule.TheVariants as bound
use Rattle.model_tree.specs.declared.types.PortSize.{PortSize}
use Rattle.model_tree.specs.Tree as tree
use Rattle.parse_statements.specs.ModelLexer.Tokens as t
use Rattle.parse_statements.specs.ModelLexer.Tokens.{Tokens}
use Rattle.parse_statements.specs.ModelLexer.Rules.{At, Takes, Maybe}
use Rattle.parse_statements.specs.ModelLexer.Expressions.{is_the_symbol, sees}
use Rattle.parse_statements.specs.ModelLexer.Items.{DerivesInterface, DerivesBound, DerivesPortSize, DerivesItem}
use Rattle.parse_statements.specs.ModelLexer.Brackets.{in_size}
use Rattle.parse_statements.specs.ParseExpressions.Parse.{pure, word, is_the_word, symbol, name, number, opened}
use Rattle.parse_statements.proofs.ParseExpressions.Parsers.{and_then_ok, choose_cases, choose_first, choose_other, made}
use Rattle.parse_statements.proofs.ParseExpressions.OneToken.{symbol_ok, symbol_reads, symbol_sees, opened_ok, opened_reads, name_ok, name_reads, number_ok, number_reads, this_word_at, word_ok, word_reads}
use Rattle.parse_statements.specs.ParseActions.ChannelParse.{signal_type}
use Rattle.parse_statements.proofs.ParseActions.TypeLaws.{signal_type_ok, signal_type_reads}
use Rattle.model_parser.specs.declared.starts.Direction.{Direction}
use Rattle.model_parser.specs.declared.starts.Direction.TheVariants as direction
use Rattle.model_parser.specs.declared.starts.PortStart.{PortStart}
use Rattle.model_parser.specs.declared.starts.PortStart.TheVariants as start
use Rattle.model_parser.specs.Starts.{port_ahead}
use Rattle.model_parser.specs.ItemParse.{typed_interface, plain_interface, started_interface, interface, bound_word, all_bound_or_one, bound_rule, some_port_size, port_size, port_item, export_item}
use Rattle.model_parser.proofs.PlainItemLaws.{Within}

-- what a port or an export leads to, its first token on the line

typed_ok : (d : Direction) (ts rest : Tokens) (x : ℕ × Interface) → typed_interface d ts ≡ Some (x, rest) → DerivesInterface (At x.0) x.1 ts rest
unfolding typed_interface
typed_ok direction.In ts rest x h =
    let (line, a, one, h1) = and_then_ok (word w.In ts) _ (x, rest) h in
    let (value_type, b, two, h2) = and_then_ok (signal_type a) _ (x, rest) h1 in
    made (λ (x : ℕ × Interface) b. DerivesInterface (At x.0) x.1 ts b) h2 (a, this_word_at w.In ts a line one, signal_type_ok a b value_type two)
typed_ok direction.Out ts rest x h =
    let (line, a, one, h1) = and_then_ok (word w.Out ts) _ (x, rest) h in
    let (value_type, b, two, h2) = and_then_ok (signal_type a) _ (x, rest) h1 in
    made (λ (x : ℕ × Interface) b. DerivesInterface (At x.0) x.1 ts b) h2 (a, this_word_at w.Out ts a line one, signal_type_ok a b value_type two)
typed_ok direction.FifoIn ts rest x h =
    let (line, a, one, h1) = and_then_ok (word w.FifoIn ts) _ (x, rest) h in
    let (value_type, b, two, h2) = and_then_ok (signal_type a) _ (x, rest) h1 in
    made (λ (x : ℕ × Interface) b. DerivesInterface (At x.0) x.1 ts b) h2 (a, this_word_at w.FifoIn ts a line one, signal_type_ok a b value_type two)
typed_ok direction.FifoOut ts rest x h =
    let (line, a, one, h1) = and_then_ok (word w.FifoOut ts) _ (x, rest) h in
    let (value_type, b, two, h2) = and_then_ok (signal_type a) _ (x, rest) h1 in
    made (λ (x : ℕ × Interface) b. DerivesInterface (At x.0) x.1 ts b) h2 (a, this_word_at w.FifoOut ts a line one, signal_type_ok a b value_type two)

plain_ok : (v : Word) (i : Interface) (ts rest : Tokens) (x : ℕ × Interface) → ((line : ℕ) (mid : Tokens) → At line (t.word v) ts mid → DerivesInterface (At line) i ts mid) → plain_interface v i ts ≡ Some (x, rest) → DerivesInterface (At x.0) x.1 ts rest
unfolding plain_interface
plain_ok v i ts rest x is h =
    let (line, a, one, h1) = and_then_ok (word v ts) _ (x, rest) h in
    made (λ (x : ℕ × Interface) b. DerivesInterface (At x.0) x.1 ts b) h1 (is line a (this_word_at v ts a line one))

started_interface_ok : (p : PortStart) (ts rest : Tokens) (x : ℕ × Interface) → started_interface p ts ≡ Some (x, rest) → DerivesInterface (At x.0) x.1 ts rest
started_interface_ok (start.Typed d) ts rest x h = typed_ok d ts rest x h
started_interface_ok start.Mutex ts rest x h = plain_ok w.MutexPort interface_form.Mutex ts rest x (λ line mid at. at) h
started_interface_ok start.Semaphore ts rest x h = plain_ok w.SemaphorePort interface_form.Semaphore ts rest x (λ line mid at. at) h
started_interface_ok start.Nothing ts rest x h = cc

interface_ok : (ts rest : Tokens) (x : ℕ × Interface) → interface ts ≡ Some (x, rest) → DerivesInterface (At x.0) x.1 ts rest
unfolding interface
interface_ok ts rest x h = started_interface_ok (port_ahead ts) ts rest x h

interface_reads : (line : ℕ) (i : Interface) (ts rest : Tokens) → DerivesInterface (At line) i ts rest → interface ts ≡ Some ((line, i), rest)
unfolding interface typed_interface plain_interface word
interface_reads line (interface_form.In value_type) ts rest (a, one, two) = rw (one, signal_type_reads value_type a rest two) refl
interface_reads line (interface_form.Out value_type) ts rest (a, one, two) = rw (one, signal_type_reads value_type a rest two) refl
interface_reads line (interface_form.FifoIn value_type) ts rest (a, one, two) = rw (one, signal_type_reads value_type a rest two) refl
interface_reads line (interface_form.FifoOut value_type) ts rest (a, one, two) = rw (one, signal_type_reads value_type a rest two) refl
interface_reads line interface_form.Mutex ts rest h = rw h refl
interface_reads line interface_form.Semaphore ts rest h = rw h refl

-- the same on any line

on_some_line : (line : ℕ) (i : Interface) (ts rest : Tokens) → DerivesInterface (At line) i ts rest → DerivesInterface Takes i ts rest
on_some_line line (interface_form.In value_type) ts rest (a, one, two) = (a, (line, one), two)
on_some_line line (interface_form.Out value_type) ts rest (a, one, two) = (a, (line, one), two)
on_some_line line (interface_form.FifoIn value_type) ts rest (a, one, two) = (a, (line, one), two)
on_some_line line (interface_form.FifoOut value_type) ts rest (a, one, two) = (a, (line, one), two)
on_some_line line interface_form.Mutex ts rest h = (line, h)
on_some_line line interface_form.Semaphore ts rest h = (line, h)

its_line : (i : Interface) (ts rest : Tokens) → DerivesInterface Takes i ts rest → (line : ℕ) × DerivesInterface (At line) i ts rest
its_line (interface_form.In value_type) ts rest (a, (line, one), two) = (line, (a, one, two))
its_line (interface_form.Out value_type) ts rest (a, (line, one), two) = (line, (a, one, two))
its_line (interface_form.FifoIn value_type) ts rest (a, (line, one), two) = (line, (a, one, two))
its_line (interface_form.FifoOut value_type) ts rest (a, (line, one), two) = (line, (a, one, two))
its_line interface_form.Mutex ts rest h = h
its_line interface_form.Semaphore ts rest h = h

-- how many have to be bound

bound_word_ok : (v : Word) (r : BoundRule) (ts rest : Tokens) (x : BoundRule) → ((mid : Tokens) → Takes (t.word v) ts mid → DerivesBound r ts mid) → bound_word v r ts ≡ Some (x, rest) → DerivesBound x ts rest
unfolding bound_word
bound_word_ok v r ts rest x is h =
    let (line, a, one, h1) = and_then_ok (word v ts) _ (x, rest) h in
    made (λ x b. DerivesBound x ts b) h1 (is a (word_ok v ts a line one))

bound_rule_ok : (ts rest : Tokens) (x : BoundRule) → bound_rule ts ≡ Some (x, rest) → DerivesBound x ts rest
unfolding bound_rule
bound_rule_ok ts rest x h =
    choose_cases (sees (is_the_word w.Zero)) (bound_word w.Zero bound.Zero) all_bound_or_one ts (x, rest) h
    (λ is h. bound_word_ok w.Zero bound.Zero ts rest x (λ mid at. at) h)
    (λ is h. choose_cases (sees (is_the_word w.AllBound)) (bound_word w.AllBound bound.All) (pure bound.One) ts (x, rest) h
    (λ is h. bound_word_ok w.AllBound bound.All ts rest x (λ mid at. at) h)
    (λ is h. made (λ x b. DerivesBound x ts b) h refl))

bound_rule_reads : (x : BoundRule) (ts mid rest : Tokens) → DerivesBound x ts mid → Takes (t.symbol s.RightBracket) mid rest → bound_rule ts ≡ Some (x, mid)
unfolding bound_rule bound_word word
bound_rule_reads bound.One ts mid rest h k = rw (h, k.1) refl
bound_rule_reads bound.Zero ts mid rest h k = rw h.1 refl
bound_rule_reads bound.All ts mid rest h k = rw h.1 refl

port_size_ok : (d : ℕ) (ts rest : Tokens) (o : Option PortSize) → port_size d ts ≡ Some (o, rest) → Maybe DerivesPortSize o ts rest × (in_size o ≤ d)
unfolding port_size
port_size_ok d ts rest o h =
    choose_cases (sees (is_the_symbol s.LeftBracket)) (some_port_size d) (pure None) ts (o, rest) h
    (λ is h.
    let (left, a, one, h1) = and_then_ok (opened d s.LeftBracket ts) _ (o, rest) h in
    let (n, b, two, h2) = and_then_ok (number a) _ (o, rest) h1 in
    let (r, c, three, h3) = and_then_ok (bound_rule b) _ (o, rest) h2 in
    let (right, e, four, h4) = and_then_ok (symbol s.RightBracket c) _ (o, rest) h3 in
    let bracket = opened_ok d s.LeftBracket ts a left one in
    made (λ o b. Maybe DerivesPortSize o ts b × (in_size o ≤ d)) h4
    ((a, (left, bracket.0), (b, number_ok a b n two, (c, bound_rule_ok b c r three, symbol_ok s.RightBracket c e right four))), bracket.1))
    (λ is h. made (λ o b. Maybe DerivesPortSize o ts b × (in_size o ≤ d)) h (refl, omega arith))

port_size_reads : (d : ℕ) (o : Option PortSize) (ts rest : Tokens) → Maybe DerivesPortSize o ts rest → in_size o ≤ d → sees (is_the_symbol s.LeftBracket) rest ≡ false → port_size d ts ≡ Some (o, rest)
unfolding port_size
port_size_reads d None ts rest h few free = choose_other (sees (is_the_symbol s.LeftBracket)) (some_port_size d) (pure None) ts _ (rw h free) (rw h refl)
port_size_reads d (Some p) ts rest (a, one, (b, two, (c, three, four))) few free =
    let read : some_port_size d ts ≡ Some (Some p, rest) = rw (opened_reads d s.LeftBracket ts a one few, number_reads p.count a b two, bound_rule_reads p.rule b c rest three four, symbol_reads s.RightBracket c rest four) refl in
    choose_first (sees (is_the_symbol s.LeftBracket)) (some_port_size d) (pure None) ts _ (symbol_sees s.LeftBracket ts a one) read

-- ports and exports

pub port_item_ok : (d : ℕ) (ts rest : Tokens) (x : tree.Item) → port_item d ts ≡ Some (x, rest) → Within d ts x rest
unfolding port_item
port_item_ok d ts rest x h =
    let (i, a, one, h1) = and_then_ok (interface ts) _ (x, rest) h in
    let (bytes, b, two, h2) = and_then_ok (name a) _ (x, rest) h1 in
    let (size, c, three, h3) = and_then_ok (port_size d b) _ (x, rest) h2 in
    let (end, e, four, h4) = and_then_ok (symbol s.Semicolon c) _ (x, rest) h3 in
    let sized = port_size_ok d b c size three in
    made (Within d ts) h4 ((a, interface_ok ts a i one, (b, name_ok a b bytes two, (c, sized.0, symbol_ok s.Semicolon c e end four))), sized.1)

pub port_item_reads : (d : ℕ) (line : ℕ) (i : Interface) (x : List ℕ) (size : Option PortSize) (ts rest : Tokens) → in_size size ≤ d → DerivesItem (tree.port line i x size) ts rest → port_item d ts ≡ Some (tree.port line i x size, rest)
unfolding port_item
port_item_reads d line i x size ts rest few (a, one, (b, two, (c, three, four))) =
    rw (interface_reads line i ts a one, name_reads x a b two, port_size_reads d size b c three few (rw four.1 refl), symbol_reads s.Semicolon c rest four) refl

pub export_item_ok : (d : ℕ) (ts rest : Tokens) (x : tree.Item) → export_item ts ≡ Some (x, rest) → Within d ts x rest
unfolding export_item
export_item_ok d ts rest x h =
    let (line, a, one, h1) = and_then_ok (word w.Export ts) _ (x, rest) h in
    let (i, b, two, h2) = and_then_ok (interface a) _ (x, rest) h1 in
    let (bytes, c, three, h3) = and_then_ok (name b) _ (x, rest) h2 in
    let (end, e, four, h4) = and_then_ok (symbol s.Semicolon c) _ (x, rest) h3 in
    made (Within d ts) h4 ((a, this_word_at w.Export ts a line one, (b, on_some_line i.0 i.1 a b (interface_ok a b i two), (c, name_ok b c bytes three, symbol_ok s.Semicolon c e end four))), omega arith)

pub export_item_reads : (line : ℕ) (i : Interface) (x : List ℕ) (ts rest : Tokens) → DerivesItem (tree.export line i x) ts rest → export_item ts ≡ Some (tree.export line i x, rest)
unfolding export_item
export_item_reads line i x ts rest (a, one, (b, two, (c, three, four))) =
    let (at, read) = its_line i a b two in
    rw (word_reads w.Export ts a (line, one), interface_reads at i a b read, name_reads x b c three, symbol_reads s.Semicolon c rest four) refl
