-- What the parser functions of waits, notifications, processes and new instances read, and what they read is derived.
use Rattle.std.proofs.Common.{◌≡◌, ℕ, suc, ◌≤◌, Bool, true, false, List, [], ◌∷◌, Option, Some, None, refl, arith}
use Rattle.std.specs.Prelude.{max}
use Rattle.model_tree.specs.declared.statements.Who.{Who}
use Rattle.model_tree.specs.declared.statements.Who.TheVariants as who_is
use Rattle.model_tree.specs.declared.vocabulary.Word.TheVariants as w
use Rattle.model_tree.specs.declared.vocabulary.Symbol.TheVariants as s
use Rattle.model_tree.specs.Tree as tree
use Rattle.model_tree.specs.Limits.{depth}
use Rattle.parse_expressions.specs.ModelLexer.Tokens as t
use Rattle.parse_expressions.specs.ModelLexer.Tokens.{Tokens}
use Rattle.parse_expressions.specs.ModelLexer.Rules.{At, Takes, Separated, Maybe, Written}
use Rattle.parse_expressions.specs.ModelLexer.Expressions.{DerivesExpression, is_the_symbol, sees}
use Rattle.parse_expressions.specs.ModelLexer.Statements.{DerivesEvent, DerivesSensitive, DerivesArguments, DerivesSpan, DerivesWaiting, DerivesNotification, DerivesHandle, DerivesSpawn, DerivesWho}
use Rattle.parse_expressions.specs.ModelLexer.Brackets.{in_option, in_all, in_channel, in_events, in_waiting, in_notification}
use Rattle.parse_expressions.specs.Parse.{pure, word, is_the_word, sees_second, flag, symbol, named, name, expression}
use Rattle.parse_expressions.proofs.Parsers.{choose_cases, choose_first, choose_other, and_then_ok, made}
use Rattle.parse_expressions.proofs.OneToken.{symbol_ok, symbol_reads, named_ok, name_ok, name_reads, word_ok, this_word_at, word_reads, word_sees, flag_ok, flag_reads}
use Rattle.parse_expressions.proofs.Sound.{expression_ok}
use Rattle.parse_actions.specs.ChannelParse.{event, events, sensitive, arguments, at_semicolon}
use Rattle.parse_actions.specs.Waits.{some_span, optional_span, for_delta, for_span, for_any, for_all, for_one, all_or_one, for_events, span_or_events, some_waiting, waiting, in_delta, after_span, later, notification, myself, process_name, who, some_handle, optional_handle, spawn}
use Rattle.parse_actions.proofs.ChannelLaws.{event_ok, event_reads, events_ok, events_reads, sensitive_ok, sensitive_reads}
use Rattle.parse_actions.proofs.ArgumentLaws.{arguments_ok, arguments_reads}
use Rattle.parse_actions.proofs.PartLaws.{expression_before}

-- what is read is derived

span_ok : (d : ℕ) (ts rest : Tokens) (x : Option tree.Expression) → optional_span d ts ≡ Some (x, rest) → Maybe DerivesSpan x ts rest × (in_option x ≤ d)
unfolding optional_span
span_ok d ts rest x h =
    choose_cases (sees (is_the_word w.For)) (some_span d) (pure None) ts (x, rest) h
    (λ is h.
    let (line, a, one, h1) = and_then_ok (word w.For ts) _ (x, rest) h in
    let (e, b, two, h2) = and_then_ok (expression d a) _ (x, rest) h1 in
    let inner = expression_ok d a b e two in
    made (λ z r. Maybe DerivesSpan z ts r × (in_option z ≤ d)) h2 ((a, word_ok w.For ts a line one, inner.0), inner.1))
    (λ is h. made (λ z r. Maybe DerivesSpan z ts r × (in_option z ≤ d)) h (refl, omega arith))

abbrev Waits : ℕ → Tokens → tree.Waiting → Tokens → Type 0
Waits d ts x rest = DerivesWaiting x ts rest × (in_waiting x ≤ d)

delta_ok : (d : ℕ) (ts rest : Tokens) (x : tree.Waiting) → for_delta ts ≡ Some (x, rest) → Waits d ts x rest
unfolding for_delta
delta_ok d ts rest x h =
    let (line, a, one, h1) = and_then_ok (word w.Delta ts) _ (x, rest) h in
    made (Waits d ts) h1 (word_ok w.Delta ts a line one, omega arith)

for_span_ok : (d : ℕ) (ts rest : Tokens) (x : tree.Waiting) → for_span d ts ≡ Some (x, rest) → Waits d ts x rest
unfolding for_span
for_span_ok d ts rest x h =
    let (line, a, one, h1) = and_then_ok (word w.For ts) _ (x, rest) h in
    let (e, b, two, h2) = and_then_ok (expression d a) _ (x, rest) h1 in
    let inner = expression_ok d a b e two in
    made (Waits d ts) h2 ((a, word_ok w.For ts a line one, inner.0), inner.1)

any_ok : (d : ℕ) (ts rest : Tokens) (x : tree.Waiting) → for_any d ts ≡ Some (x, rest) → Waits d ts x rest
unfolding for_any
any_ok d ts rest x h =
    let (line, a, one, h1) = and_then_ok (word w.Any ts) _ (x, rest) h in
    let (es, b, two, h2) = and_then_ok (events d a) _ (x, rest) h1 in
    let (y, c, three, h3) = and_then_ok (optional_span d b) _ (x, rest) h2 in
    let left = events_ok d a b es two in
    let right = span_ok d b c y three in
    let few : max (in_events es) (in_option y) ≤ d = omega (arith, left.1, right.1) in
    made (Waits d ts) h3 ((a, word_ok w.Any ts a line one, (b, left.0, right.0)), few)

all_ok : (d : ℕ) (ts rest : Tokens) (x : tree.Waiting) → for_all d ts ≡ Some (x, rest) → Waits d ts x rest
unfolding for_all
all_ok d ts rest x h =
    let (line, a, one, h1) = and_then_ok (word w.All ts) _ (x, rest) h in
    let (es, b, two, h2) = and_then_ok (events d a) _ (x, rest) h1 in
    let (y, c, three, h3) = and_then_ok (optional_span d b) _ (x, rest) h2 in
    let left = events_ok d a b es two in
    let right = span_ok d b c y three in
    let few : max (in_events es) (in_option y) ≤ d = omega (arith, left.1, right.1) in
    made (Waits d ts) h3 ((a, word_ok w.All ts a line one, (b, left.0, right.0)), few)

one_ok : (d : ℕ) (ts rest : Tokens) (x : tree.Waiting) → for_one d ts ≡ Some (x, rest) → Waits d ts x rest
unfolding for_one
one_ok d ts rest x h =
    let (e, a, one, h1) = and_then_ok (event d ts) _ (x, rest) h in
    let (y, b, two, h2) = and_then_ok (optional_span d a) _ (x, rest) h1 in
    let left = event_ok d ts a e one in
    let right = span_ok d a b y two in
    let few : max (in_channel e.channel) (in_option y) ≤ d = omega (arith, left.1, right.1) in
    made (Waits d ts) h2 ((a, left.0, right.0), few)

for_events_ok : (d : ℕ) (ts rest : Tokens) (x : tree.Waiting) → for_events d ts ≡ Some (x, rest) → Waits d ts x rest
unfolding for_events
for_events_ok d ts rest x h =
    choose_cases (sees (is_the_word w.Any)) (for_any d) (all_or_one d) ts (x, rest) h
    (λ is h. any_ok d ts rest x h)
    (λ is h. choose_cases (sees (is_the_word w.All)) (for_all d) (for_one d) ts (x, rest) h
    (λ is h. all_ok d ts rest x h)
    (λ is h. one_ok d ts rest x h))

pub waiting_ok : (d : ℕ) (ts rest : Tokens) (x : tree.Waiting) → waiting d ts ≡ Some (x, rest) → DerivesWaiting x ts rest × (in_waiting x ≤ d)
unfolding waiting
waiting_ok d ts rest x h =
    choose_cases at_semicolon (pure tree.static) (some_waiting d) ts (x, rest) h
    (λ is h. made (Waits d ts) h (refl, omega arith))
    (λ is h. choose_cases (sees (is_the_word w.Delta)) for_delta (span_or_events d) ts (x, rest) h
    (λ is h. delta_ok d ts rest x h)
    (λ is h. choose_cases (sees (is_the_word w.For)) (for_span d) (for_events d) ts (x, rest) h
    (λ is h. for_span_ok d ts rest x h)
    (λ is h. for_events_ok d ts rest x h)))

abbrev Notifies : ℕ → Tokens → tree.Notification → Tokens → Type 0
Notifies d ts x rest = DerivesNotification x ts rest × (in_notification x ≤ d)

in_delta_ok : (d : ℕ) (ts rest : Tokens) (x : tree.Notification) → in_delta ts ≡ Some (x, rest) → Notifies d ts x rest
unfolding in_delta
in_delta_ok d ts rest x h =
    let (line, a, one, h1) = and_then_ok (word w.Delta ts) _ (x, rest) h in
    made (Notifies d ts) h1 (word_ok w.Delta ts a line one, omega arith)

after_ok : (d : ℕ) (ts rest : Tokens) (x : tree.Notification) → after_span d ts ≡ Some (x, rest) → Notifies d ts x rest
unfolding after_span
after_ok d ts rest x h =
    let (line, a, one, h1) = and_then_ok (word w.After ts) _ (x, rest) h in
    let (e, b, two, h2) = and_then_ok (expression d a) _ (x, rest) h1 in
    let inner = expression_ok d a b e two in
    made (Notifies d ts) h2 ((a, word_ok w.After ts a line one, inner.0), inner.1)

pub notification_ok : (d : ℕ) (ts rest : Tokens) (x : tree.Notification) → notification d ts ≡ Some (x, rest) → DerivesNotification x ts rest × (in_notification x ≤ d)
unfolding notification
notification_ok d ts rest x h =
    choose_cases at_semicolon (pure tree.immediate) (later d) ts (x, rest) h
    (λ is h. made (Notifies d ts) h (refl, omega arith))
    (λ is h. choose_cases (sees (is_the_word w.Delta)) in_delta (after_span d) ts (x, rest) h
    (λ is h. in_delta_ok d ts rest x h)
    (λ is h. after_ok d ts rest x h))

myself_ok : (ts rest : Tokens) (x : Who) → myself ts ≡ Some (x, rest) → DerivesWho x ts rest
unfolding myself
myself_ok ts rest x h =
    let (line, a, one, h1) = and_then_ok (word w.SelfProcess ts) _ (x, rest) h in
    made (λ z. DerivesWho z ts) h1 (this_word_at w.SelfProcess ts a line one)

process_name_ok : (ts rest : Tokens) (x : Who) → process_name ts ≡ Some (x, rest) → DerivesWho x ts rest
unfolding process_name
process_name_ok ts rest x h =
    let (y, a, one, h1) = and_then_ok (named ts) _ (x, rest) h in
    made (λ z. DerivesWho z ts) h1 (named_ok ts a y one)

pub who_ok : (ts rest : Tokens) (x : Who) → who ts ≡ Some (x, rest) → DerivesWho x ts rest
unfolding who
who_ok ts rest x h =
    choose_cases (sees (is_the_word w.SelfProcess)) myself process_name ts (x, rest) h
    (λ is h. myself_ok ts rest x h)
    (λ is h. process_name_ok ts rest x h)

handle_ok : (ts rest : Tokens) (x : Option (List ℕ)) → optional_handle ts ≡ Some (x, rest) → Maybe DerivesHandle x ts rest
unfolding optional_handle
handle_ok ts rest x h =
    choose_cases (sees_second (is_the_symbol s.Equal)) some_handle (pure None) ts (x, rest) h
    (λ is h.
    let (y, a, one, h1) = and_then_ok (name ts) _ (x, rest) h in
    let (equal, b, two, h2) = and_then_ok (symbol s.Equal a) _ (x, rest) h1 in
    made (λ z. Maybe DerivesHandle z ts) h2 (a, name_ok ts a y one, symbol_ok s.Equal a b equal two))
    (λ is h. made (λ z. Maybe DerivesHandle z ts) h refl)

abbrev Spawns : ℕ → Tokens → tree.Spawn → Tokens → Type 0
Spawns d ts x rest = DerivesSpawn x ts rest × (max (suc (in_all x.arguments)) (in_events x.sensitive) ≤ d)

pub spawn_ok : (d : ℕ) (ts rest : Tokens) (x : tree.Spawn) → spawn d ts ≡ Some (x, rest) → DerivesSpawn x ts rest × (max (suc (in_all x.arguments)) (in_events x.sensitive) ≤ d)
unfolding spawn
spawn_ok d ts rest x h =
    let (handle, a, one, h1) = and_then_ok (optional_handle ts) _ (x, rest) h in
    let (method, b, two, h2) = and_then_ok (flag w.Method a) _ (x, rest) h1 in
    let (function, c, three, h3) = and_then_ok (name b) _ (x, rest) h2 in
    let (es, f, four, h4) = and_then_ok (arguments d c) _ (x, rest) h3 in
    let (vs, g, five, h5) = and_then_ok (sensitive d f) _ (x, rest) h4 in
    let (quiet, k, six, h6) = and_then_ok (flag w.DontInitialize g) _ (x, rest) h5 in
    let left = arguments_ok d c f es four in
    let right = sensitive_ok d f g vs five in
    let few : max (suc (in_all es)) (in_events vs) ≤ d = omega (arith, left.1, right.1) in
    made (Spawns d ts) h6 ((a, handle_ok ts a handle one, (b, flag_ok w.Method a b method two, (c, name_ok b c function three, (f, left.0, (g, right.0, flag_ok w.DontInitialize g k quiet six))))), few)

-- what is derived is read

span_reads : (d : ℕ) (x : Option tree.Expression) (ts rest last : Tokens) → Maybe DerivesSpan x ts rest → in_option x ≤ d → Takes (t.symbol s.Semicolon) rest last → optional_span d ts ≡ Some (x, rest)
unfolding optional_span
span_reads d None ts rest last h few end = choose_other (sees (is_the_word w.For)) (some_span d) (pure None) ts _ (rw (h, end.1) refl) (rw h refl)
span_reads d (Some e) ts rest last (a, one, two) few end =
    let inner : some_span d ts ≡ Some (Some e, rest) = rw (word_reads w.For ts a one, expression_before d e a rest last two few end) refl in
    choose_first (sees (is_the_word w.For)) (some_span d) (pure None) ts _ (word_sees w.For ts a one) inner

-- what comes where a time-out or a semicolon comes
span_is_no : (test : t.Token → Bool) → test (t.word w.For) ≡ false → test (t.symbol s.Semicolon) ≡ false → (x : Option tree.Expression) (ts rest last : Tokens) → Maybe DerivesSpan x ts rest → Takes (t.symbol s.Semicolon) rest last → sees test ts ≡ false
span_is_no test f g None ts rest last h end = rw (h, end.1) g
span_is_no test f g (Some e) ts rest last h end = rw h.1.1 f

events_read : (d : ℕ) (es : List tree.Event) (x : Option tree.Expression) (ts a rest last : Tokens) → Separated (t.symbol s.Comma) DerivesEvent es ts a → Maybe DerivesSpan x a rest → in_events es ≤ d → Takes (t.symbol s.Semicolon) rest last → events d ts ≡ Some (es, a)
events_read d es x ts a rest last h g few end =
    events_reads d es ts a h few (span_is_no (is_the_symbol s.Comma) refl refl x a rest last g end, (span_is_no (is_the_symbol s.At) refl refl x a rest last g end, span_is_no (is_the_symbol s.Dot) refl refl x a rest last g end))

any_reads : (d : ℕ) (es : List tree.Event) (x : Option tree.Expression) (ts a b rest last : Tokens) → Takes (t.word w.Any) ts a → Separated (t.symbol s.Comma) DerivesEvent es a b → Maybe DerivesSpan x b rest → max (in_events es) (in_option x) ≤ d → Takes (t.symbol s.Semicolon) rest last → for_any d ts ≡ Some (tree.any es x, rest)
unfolding for_any
any_reads d es x ts a b rest last one two three few end =
    rw (word_reads w.Any ts a one, events_read d es x a b rest last two three (omega (arith, few)) end, span_reads d x b rest last three (omega (arith, few)) end) refl

all_reads : (d : ℕ) (es : List tree.Event) (x : Option tree.Expression) (ts a b rest last : Tokens) → Takes (t.word w.All) ts a → Separated (t.symbol s.Comma) DerivesEvent es a b → Maybe DerivesSpan x b rest → max (in_events es) (in_option x) ≤ d → Takes (t.symbol s.Semicolon) rest last → for_all d ts ≡ Some (tree.all es x, rest)
unfolding for_all
all_reads d es x ts a b rest last one two three few end =
    rw (word_reads w.All ts a one, events_read d es x a b rest last two three (omega (arith, few)) end, span_reads d x b rest last three (omega (arith, few)) end) refl

one_reads : (d : ℕ) (e : tree.Event) (x : Option tree.Expression) (ts a rest last : Tokens) → DerivesEvent e ts a → Maybe DerivesSpan x a rest → max (in_channel e.channel) (in_option x) ≤ d → Takes (t.symbol s.Semicolon) rest last → for_one d ts ≡ Some (tree.one e x, rest)
unfolding for_one
one_reads d e x ts a rest last one two few end =
    rw (event_reads d e ts a one (omega (arith, few)) (span_is_no (is_the_symbol s.At) refl refl x a rest last two end) (span_is_no (is_the_symbol s.Dot) refl refl x a rest last two end), span_reads d x a rest last two (omega (arith, few)) end) refl

-- the way to each
by_span : (d : ℕ) (x : tree.Waiting) (ts a rest : Tokens) → Takes (t.word w.For) ts a → for_span d ts ≡ Some (x, rest) → waiting d ts ≡ Some (x, rest)
unfolding waiting
by_span d x ts a rest at h =
    choose_other at_semicolon (pure tree.static) (some_waiting d) ts _ (rw at.1 refl)
    (choose_other (sees (is_the_word w.Delta)) for_delta (span_or_events d) ts _ (rw at.1 refl)
    (choose_first (sees (is_the_word w.For)) (for_span d) (for_events d) ts _ (rw at.1 refl) h))

by_any : (d : ℕ) (x : tree.Waiting) (ts a rest : Tokens) → Takes (t.word w.Any) ts a → for_any d ts ≡ Some (x, rest) → waiting d ts ≡ Some (x, rest)
unfolding waiting for_events
by_any d x ts a rest at h =
    choose_other at_semicolon (pure tree.static) (some_waiting d) ts _ (rw at.1 refl)
    (choose_other (sees (is_the_word w.Delta)) for_delta (span_or_events d) ts _ (rw at.1 refl)
    (choose_other (sees (is_the_word w.For)) (for_span d) (for_events d) ts _ (rw at.1 refl)
    (choose_first (sees (is_the_word w.Any)) (for_any d) (all_or_one d) ts _ (rw at.1 refl) h)))

by_all : (d : ℕ) (x : tree.Waiting) (ts a rest : Tokens) → Takes (t.word w.All) ts a → for_all d ts ≡ Some (x, rest) → waiting d ts ≡ Some (x, rest)
unfolding waiting for_events
by_all d x ts a rest at h =
    choose_other at_semicolon (pure tree.static) (some_waiting d) ts _ (rw at.1 refl)
    (choose_other (sees (is_the_word w.Delta)) for_delta (span_or_events d) ts _ (rw at.1 refl)
    (choose_other (sees (is_the_word w.For)) (for_span d) (for_events d) ts _ (rw at.1 refl)
    (choose_other (sees (is_the_word w.Any)) (for_any d) (all_or_one d) ts _ (rw at.1 refl)
    (choose_first (sees (is_the_word w.All)) (for_all d) (for_one d) ts _ (rw at.1 refl) h))))

by_one : (d line : ℕ) (v : List ℕ) (x : tree.Waiting) (ts a rest : Tokens) → At line (t.name v) ts a → for_one d ts ≡ Some (x, rest) → waiting d ts ≡ Some (x, rest)
unfolding waiting for_events
by_one d line v x ts a rest at h =
    choose_other at_semicolon (pure tree.static) (some_waiting d) ts _ (rw at refl)
    (choose_other (sees (is_the_word w.Delta)) for_delta (span_or_events d) ts _ (rw at refl)
    (choose_other (sees (is_the_word w.For)) (for_span d) (for_events d) ts _ (rw at refl)
    (choose_other (sees (is_the_word w.Any)) (for_any d) (all_or_one d) ts _ (rw at refl)
    (choose_other (sees (is_the_word w.All)) (for_all d) (for_one d) ts _ (rw at refl) h))))

span_waits : (d : ℕ) (e : tree.Expression) (ts rest last : Tokens) → DerivesSpan e ts rest → depth e ≤ d → Takes (t.symbol s.Semicolon) rest last → for_span d ts ≡ Some (tree.for_ e, rest)
unfolding for_span
span_waits d e ts rest last (a, one, two) few end = rw (word_reads w.For ts a one, expression_before d e a rest last two few end) refl

pub waiting_reads : (d : ℕ) (x : tree.Waiting) (ts rest last : Tokens) → DerivesWaiting x ts rest → in_waiting x ≤ d → Takes (t.symbol s.Semicolon) rest last → waiting d ts ≡ Some (x, rest)
unfolding waiting for_delta word
waiting_reads d tree.static ts rest last h few end = rw (h, end.1) refl
waiting_reads d tree.delta ts rest last h few end = rw h.1 refl
waiting_reads d (tree.for_ e) ts rest last h few end = by_span d (tree.for_ e) ts h.0 rest h.1 (span_waits d e ts rest last h few end)
waiting_reads d (tree.one e x) ts rest last (a, one, two) few end = by_one d e.channel.line e.channel.name (tree.one e x) ts one.1.0 rest one.1.1 (one_reads d e x ts a rest last one two few end)
waiting_reads d (tree.any es x) ts rest last (a, one, (b, two, three)) few end = by_any d (tree.any es x) ts a rest one (any_reads d es x ts a b rest last one two three few end)
waiting_reads d (tree.all es x) ts rest last (a, one, (b, two, three)) few end = by_all d (tree.all es x) ts a rest one (all_reads d es x ts a b rest last one two three few end)

after_reads : (d : ℕ) (e : tree.Expression) (ts a rest last : Tokens) → Takes (t.word w.After) ts a → DerivesExpression e a rest → depth e ≤ d → Takes (t.symbol s.Semicolon) rest last → after_span d ts ≡ Some (tree.after e, rest)
unfolding after_span
after_reads d e ts a rest last one two few end = rw (word_reads w.After ts a one, expression_before d e a rest last two few end) refl

pub notification_reads : (d : ℕ) (x : tree.Notification) (ts rest last : Tokens) → DerivesNotification x ts rest → in_notification x ≤ d → Takes (t.symbol s.Semicolon) rest last → notification d ts ≡ Some (x, rest)
unfolding notification in_delta word
notification_reads d tree.immediate ts rest last h few end = rw (h, end.1) refl
notification_reads d tree.next_delta ts rest last h few end = rw h.1 refl
notification_reads d (tree.after e) ts rest last (a, one, two) few end =
    choose_other at_semicolon (pure tree.immediate) (later d) ts _ (rw one.1 refl)
    (choose_other (sees (is_the_word w.Delta)) in_delta (after_span d) ts _ (rw one.1 refl) (after_reads d e ts a rest last one two few end))

pub who_reads : (x : Who) (ts rest : Tokens) → DerivesWho x ts rest → who ts ≡ Some (x, rest)
unfolding who myself process_name word named
who_reads (who_is.Named line x) ts rest h = rw h refl
who_reads (who_is.Myself line) ts rest h = rw h refl

-- a parenthesis begins arguments
arguments_begin : (es : List tree.Expression) (ts rest : Tokens) → DerivesArguments es ts rest → (mid : Tokens) × Takes (t.symbol s.LeftParen) ts mid
arguments_begin [] ts rest h = (h.0, h.1)
arguments_begin (e ∷ es) ts rest h = (h.0, h.1)

no_equal : (b : Bool) (x : List ℕ) (es : List tree.Expression) (ts a c rest : Tokens) → Written (t.word w.Method) b ts a → Takes (t.name x) a c → DerivesArguments es c rest → sees_second (is_the_symbol s.Equal) ts ≡ false
no_equal true x es ts a c rest h one two = rw (h.1, one.1) refl
no_equal false x es ts a c rest h one two =
    let paren = arguments_begin es c rest two in
    rw (h, one.1, paren.1.1) refl

handle_reads : (x : Option (List ℕ)) (ts rest : Tokens) → Maybe DerivesHandle x ts rest → (x ≡ None → sees_second (is_the_symbol s.Equal) rest ≡ false) → optional_handle ts ≡ Some (x, rest)
unfolding optional_handle
handle_reads None ts rest h f = choose_other (sees_second (is_the_symbol s.Equal)) some_handle (pure None) ts _ (rw h (f refl)) (rw h refl)
handle_reads (Some x) ts rest (a, one, two) f =
    let inner : some_handle ts ≡ Some (Some x, rest) = rw (name_reads x ts a one, symbol_reads s.Equal a rest two) refl in
    choose_first (sees_second (is_the_symbol s.Equal)) some_handle (pure None) ts _ (rw (one.1, two.1) refl) inner

-- what comes where `dont_initialize` or a semicolon comes
flag_is_no : (test : t.Token → Bool) → test (t.word w.DontInitialize) ≡ false → test (t.symbol s.Semicolon) ≡ false → (b : Bool) (ts rest last : Tokens) → Written (t.word w.DontInitialize) b ts rest → Takes (t.symbol s.Semicolon) rest last → sees test ts ≡ false
flag_is_no test f g true ts rest last h end = rw h.1 f
flag_is_no test f g false ts rest last h end = rw (h, end.1) g

sensitive_read : (d : ℕ) (es : List tree.Event) (b : Bool) (ts a rest last : Tokens) → DerivesSensitive es ts a → Written (t.word w.DontInitialize) b a rest → in_events es ≤ d → Takes (t.symbol s.Semicolon) rest last → sensitive d ts ≡ Some (es, a)
sensitive_read d es b ts a rest last h g few end =
    sensitive_reads d es ts a h few (flag_is_no (is_the_word w.Sensitive) refl refl b a rest last g end) (flag_is_no (is_the_symbol s.Comma) refl refl b a rest last g end, (flag_is_no (is_the_symbol s.At) refl refl b a rest last g end, flag_is_no (is_the_symbol s.Dot) refl refl b a rest last g end))

pub spawn_reads : (d : ℕ) (x : tree.Spawn) (ts rest last : Tokens) → DerivesSpawn x ts rest → max (suc (in_all x.arguments)) (in_events x.sensitive) ≤ d → Takes (t.symbol s.Semicolon) rest last → spawn d ts ≡ Some (x, rest)
unfolding spawn
spawn_reads d x ts rest last (a, one, (b, two, (c, three, (f, four, (g, five, six))))) few end =
    rw (handle_reads x.handle ts a one (λ e. no_equal x.method x.function x.arguments a b c f two three four), flag_reads w.Method x.method a b two (λ e. rw three.1 refl), name_reads x.function b c three, arguments_reads d x.arguments c f four (omega (arith, few)), sensitive_read d x.sensitive x.dont_initialize f g rest last five six (omega (arith, few)) end, flag_reads w.DontInitialize x.dont_initialize g rest six (λ e. rw end.1 refl)) refl
