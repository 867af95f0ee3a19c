-- What the parser functions of channels and events read is derived, and what is derived is read.
use Rattle.std.proofs.Common.{◌≡◌, ℕ, ◌<◌, ◌≤◌, max, false, List, [], ◌∷◌, length, Option, Some, None, refl, ap, sym, subst, arith}
use Rattle.model_tree.specs.declared.vocabulary.Word.TheVariants as w
use Rattle.model_tree.specs.declared.vocabulary.Symbol.TheVariants as s
use Rattle.model_tree.specs.Tree as tree
use Rattle.parse_expressions.specs.ModelLexer.Tokens as t
use Rattle.parse_expressions.specs.ModelLexer.Tokens.{Tokens}
use Rattle.parse_expressions.specs.ModelLexer.Rules.{Rule, ◌⨾◌, Takes, Each, Separated, Maybe}
use Rattle.parse_expressions.specs.ModelLexer.Expressions.{is_the_symbol, sees}
use Rattle.parse_expressions.specs.ModelLexer.Statements.{DerivesPlace, DerivesChannel, DerivesMember, DerivesEvent, DerivesSensitive}
use Rattle.parse_expressions.specs.ModelLexer.Brackets.{in_place, in_channel, in_events}
use Rattle.parse_expressions.specs.Parse.{pure, symbol, word, is_the_word, named, name, number, sees_number, inside, group}
use Rattle.parse_expressions.proofs.Parsers.{choose_cases, choose_first, choose_other, and_then_ok, made}
use Rattle.parse_expressions.proofs.OneToken.{symbol_ok, named_ok, name_ok, number_ok, symbol_reads, named_reads, name_reads, number_reads, symbol_sees, word_ok, word_reads, word_sees}
use Rattle.parse_expressions.proofs.Many.{Every, many_ok, many_reads}
use Rattle.parse_expressions.proofs.Sound.{inside_ok, parens_ok}
use Rattle.parse_expressions.proofs.ModelLexer.SoundExpressions.{at_takes, takes_one, counted}
use Rattle.parse_expressions.proofs.Complete.{inside_reads, parens_read}
use Rattle.parse_actions.specs.ChannelParse.{numbered_place, computed_place, some_place, place, channel, some_member, optional_member, event, next_event, at_no_comma, more_events, events, some_sensitivity, sensitive}

-- places and channels

place_ok : (d : ℕ) (ts rest : Tokens) (p : tree.Place) → place d ts ≡ Some (p, rest) → DerivesPlace p ts rest × (in_place p ≤ d)
unfolding place numbered_place computed_place
place_ok d ts rest p h =
    choose_cases (sees (is_the_symbol s.At)) (some_place d) (pure tree.first) ts (p, rest) h
    (λ is h.
    let (sign, a, one, h1) = and_then_ok (symbol s.At ts) _ (p, rest) h in
    choose_cases sees_number numbered_place (computed_place d) a (p, rest) h1
    (λ is h2.
    let (n, b, two, h3) = and_then_ok (number a) _ (p, rest) h2 in
    made (λ z r. DerivesPlace z ts r × (in_place z ≤ d)) h3 ((a, symbol_ok s.At ts a sign one, number_ok a b n two), omega arith))
    (λ is h2.
    let (e, b, two, h3) = and_then_ok (group d (inside d) a) _ (p, rest) h2 in
    let (g, few) = parens_ok d (inside d) (inside_ok d) a b e two in
    made (λ z r. DerivesPlace z ts r × (in_place z ≤ d)) h3 ((a, symbol_ok s.At ts a sign one, g), few)))
    (λ is h. made (λ z r. DerivesPlace z ts r × (in_place z ≤ d)) h (refl, omega arith))

place_reads : (d : ℕ) (p : tree.Place) (ts rest : Tokens) → DerivesPlace p ts rest → in_place p ≤ d → sees (is_the_symbol s.At) rest ≡ false → place d ts ≡ Some (p, rest)
unfolding place numbered_place computed_place
place_reads d tree.first ts rest h few free = rw (h, free) refl
place_reads d (tree.place_number n) ts rest (a, one, two) few free =
    choose_first (sees (is_the_symbol s.At)) (some_place d) (pure tree.first) ts _ (symbol_sees s.At ts a one)
    (rw (symbol_reads s.At ts a one) (choose_first sees_number numbered_place (computed_place d) a _ (rw two.1 refl) (rw (number_reads n a rest two) refl)))
place_reads d (tree.computed e) ts rest (a, one, two) few free =
    choose_first (sees (is_the_symbol s.At)) (some_place d) (pure tree.first) ts _ (symbol_sees s.At ts a one)
    (rw (symbol_reads s.At ts a one) (choose_other sees_number numbered_place (computed_place d) a _ (rw two.1.1 refl) (rw (parens_read d (inside d) (inside_reads d) e a rest two few) refl)))

pub channel_ok : (d : ℕ) (ts rest : Tokens) (c : tree.Channel) → channel d ts ≡ Some (c, rest) → DerivesChannel c ts rest × (in_channel c ≤ d)
unfolding channel
channel_ok d ts rest c h =
    let (x, a, one, h1) = and_then_ok (named ts) _ (c, rest) h in
    let (p, b, two, h2) = and_then_ok (place d a) _ (c, rest) h1 in
    let (g, few) = place_ok d a b p two in
    made (λ z r. DerivesChannel z ts r × (in_channel z ≤ d)) h2 ((a, named_ok ts a x one, g), few)

pub channel_reads : (d : ℕ) (c : tree.Channel) (ts rest : Tokens) → DerivesChannel c ts rest → in_channel c ≤ d → sees (is_the_symbol s.At) rest ≡ false → channel d ts ≡ Some (c, rest)
unfolding channel
channel_reads d c ts rest (a, one, two) few free = rw (named_reads c.line c.name ts a one, place_reads d c.place a rest two few free) refl

place_keeps : (p : tree.Place) (ts rest : Tokens) → DerivesPlace p ts rest → length rest ≤ length ts
place_keeps tree.first ts rest h = let same : length ts ≡ length rest = ap length h in omega (arith, same)
place_keeps (tree.place_number n) ts rest (a, one, two) = omega (arith, takes_one _ ts a one, takes_one _ a rest two)
place_keeps (tree.computed e) ts rest (a, one, (b, two, (c, three, four))) = omega (arith, takes_one _ ts a one, takes_one _ a b two, counted e 0 b c three.0, takes_one _ c rest four)

-- a channel takes a token
pub channel_shorter : (c : tree.Channel) (ts rest : Tokens) → DerivesChannel c ts rest → length rest < length ts
channel_shorter c ts rest (a, one, two) = omega (arith, at_takes _ _ ts a one, place_keeps c.place a rest two)

-- members

pub optional_member_ok : (ts rest : Tokens) (o : Option (List ℕ)) → optional_member ts ≡ Some (o, rest) → Maybe DerivesMember o ts rest
unfolding optional_member
optional_member_ok ts rest o h =
    choose_cases (sees (is_the_symbol s.Dot)) some_member (pure None) ts (o, rest) h
    (λ is h.
    let (dot, a, one, h1) = and_then_ok (symbol s.Dot ts) _ (o, rest) h in
    let (x, b, two, h2) = and_then_ok (name a) _ (o, rest) h1 in
    made (λ z. Maybe DerivesMember z ts) h2 (a, symbol_ok s.Dot ts a dot one, name_ok a b x two))
    (λ is h. made (λ z. Maybe DerivesMember z ts) h refl)

pub optional_member_reads : (o : Option (List ℕ)) (ts rest : Tokens) → Maybe DerivesMember o ts rest → sees (is_the_symbol s.Dot) rest ≡ false → optional_member ts ≡ Some (o, rest)
unfolding optional_member
optional_member_reads None ts rest h free = rw (h, free) refl
optional_member_reads (Some x) ts rest (a, one, two) free =
    choose_first (sees (is_the_symbol s.Dot)) some_member (pure None) ts _ (symbol_sees s.Dot ts a one)
    (rw (symbol_reads s.Dot ts a one, name_reads x a rest two) refl)

member_keeps : (o : Option (List ℕ)) (ts rest : Tokens) → Maybe DerivesMember o ts rest → length rest ≤ length ts
member_keeps None ts rest h = let same : length ts ≡ length rest = ap length h in omega (arith, same)
member_keeps (Some x) ts rest (a, one, two) = omega (arith, takes_one _ ts a one, takes_one _ a rest two)

-- no place comes behind a member, written or not, where none comes behind it
member_free : (o : Option (List ℕ)) (ts rest : Tokens) → Maybe DerivesMember o ts rest → sees (is_the_symbol s.At) rest ≡ false → sees (is_the_symbol s.At) ts ≡ false
member_free None ts rest h free = rw h free
member_free (Some x) ts rest (a, one, two) free = rw one.1 refl

-- events

pub event_ok : (d : ℕ) (ts rest : Tokens) (e : tree.Event) → event d ts ≡ Some (e, rest) → DerivesEvent e ts rest × (in_channel e.channel ≤ d)
unfolding event
event_ok d ts rest e h =
    let (c, a, one, h1) = and_then_ok (channel d ts) _ (e, rest) h in
    let (x, b, two, h2) = and_then_ok (optional_member a) _ (e, rest) h1 in
    let (g, few) = channel_ok d ts a c one in
    made (λ z r. DerivesEvent z ts r × (in_channel z.channel ≤ d)) h2 ((a, g, optional_member_ok a b x two), few)

pub event_reads : (d : ℕ) (e : tree.Event) (ts rest : Tokens) → DerivesEvent e ts rest → in_channel e.channel ≤ d → sees (is_the_symbol s.At) rest ≡ false → sees (is_the_symbol s.Dot) rest ≡ false → event d ts ≡ Some (e, rest)
unfolding event
event_reads d e ts rest (a, one, two) few no_place no_member =
    rw (channel_reads d e.channel ts a one few (member_free e.member a rest two no_place), optional_member_reads e.member a rest two no_member) refl

-- an event takes a token
pub event_shorter : (e : tree.Event) (ts rest : Tokens) → DerivesEvent e ts rest → length rest < length ts
event_shorter e ts rest (a, one, two) = omega (arith, channel_shorter e.channel ts a one, member_keeps e.member a rest two)

-- lists of events

-- an event behind a comma
abbrev Next : tree.Event → Rule
Next e = Takes (t.symbol s.Comma) ⨾ DerivesEvent e

-- no more brackets are open in it than that
abbrev Few : ℕ → tree.Event → Type 0
Few d e = in_channel e.channel ≤ d

next_event_ok : (d : ℕ) (ts rest : Tokens) (e : tree.Event) → next_event d ts ≡ Some (e, rest) → Next e ts rest × Few d e
unfolding next_event
next_event_ok d ts rest e h =
    let (comma, a, one, h1) = and_then_ok (symbol s.Comma ts) _ (e, rest) h in
    let (g, few) = event_ok d a rest e h1 in
    ((a, symbol_ok s.Comma ts a comma one, g), few)

-- neither a place nor a member comes
abbrev pub EventEnds : Tokens → Type 0
EventEnds ts = (sees (is_the_symbol s.At) ts ≡ false) × (sees (is_the_symbol s.Dot) ts ≡ false)

next_event_reads : (d : ℕ) (e : tree.Event) (ts rest : Tokens) → Next e ts rest → Few d e → EventEnds rest → next_event d ts ≡ Some (e, rest)
unfolding next_event
next_event_reads d e ts rest (a, one, two) few ends = rw (symbol_reads s.Comma ts a one) (event_reads d e a rest two few ends.0 ends.1)

next_begins : (e : tree.Event) (ts rest : Tokens) → Next e ts rest → (at_no_comma ts ≡ false) × EventEnds ts
next_begins e ts rest (a, one, two) = (rw one.1 refl, (rw one.1 refl, rw one.1 refl))

next_shorter : (e : tree.Event) (ts rest : Tokens) → Next e ts rest → length rest < length ts
next_shorter e ts rest (a, one, two) = omega (arith, takes_one _ ts a one, event_shorter e a rest two)

all_few : (d : ℕ) (es : List tree.Event) → Every (Few d) es → in_events es ≤ d
all_few d [] h = omega arith
all_few d (e ∷ es) h = omega (arith, h.0, all_few d es h.1)

each_few : (d : ℕ) (es : List tree.Event) → in_events es ≤ d → Every (Few d) es
each_few d [] h = tt
each_few d (e ∷ es) h = (omega (arith, h), each_few d es (omega (arith, h)))

-- where none of `,`, `@` and `.` comes, the events are over
abbrev pub EventsEnd : Tokens → Type 0
EventsEnd ts = (sees (is_the_symbol s.Comma) ts ≡ false) × EventEnds ts

pub events_ok : (d : ℕ) (ts rest : Tokens) (es : List tree.Event) → events d ts ≡ Some (es, rest) → Separated (t.symbol s.Comma) DerivesEvent es ts rest × (in_events es ≤ d)
unfolding events more_events
events_ok d ts rest es h =
    let (e, a, one, h1) = and_then_ok (event d ts) _ (es, rest) h in
    let (g, few) = event_ok d ts a e one in
    let (ys, whole, each, every, stop) = many_ok at_no_comma (next_event d) Next (Few d) (next_event_ok d) (e ∷ []) es a rest h1 in
    let few_all : max (in_channel e.channel) (in_events ys) ≤ d = omega (arith, few, all_few d ys every) in
    subst (λ z. Separated (t.symbol s.Comma) DerivesEvent z ts rest × (in_events z ≤ d)) (sym whole) ((a, g, each), few_all)

next_or_end : (es : List tree.Event) (ts rest : Tokens) → Each Next es ts rest → EventEnds rest → EventEnds ts
next_or_end [] ts rest h ends = subst EventEnds (sym h) ends
next_or_end (e ∷ es) ts rest (a, one, more) ends = (next_begins e ts a one).1

pub events_reads : (d : ℕ) (es : List tree.Event) (ts rest : Tokens) → Separated (t.symbol s.Comma) DerivesEvent es ts rest → in_events es ≤ d → EventsEnd rest → events d ts ≡ Some (es, rest)
unfolding events more_events
events_reads d [] ts rest h few ends = absurd h
events_reads d (e ∷ es) ts rest (a, one, more) few (none, ends) =
    let begins = next_or_end es a rest more ends in
    rw (event_reads d e ts a one (omega (arith, few)) begins.0 begins.1)
    (many_reads at_no_comma (next_event d) Next (Few d) EventEnds (next_event_reads d) next_begins next_shorter es (e ∷ []) a rest more (each_few d es (omega (arith, few))) (rw none refl) ends)

-- static sensitivities

sensitive_some : (es : List tree.Event) (ts a rest : Tokens) → Takes (t.word w.Sensitive) ts a → Separated (t.symbol s.Comma) DerivesEvent es a rest → DerivesSensitive es ts rest
sensitive_some [] ts a rest one two = absurd two
sensitive_some (e ∷ es) ts a rest one two = (a, one, two)

pub sensitive_ok : (d : ℕ) (ts rest : Tokens) (es : List tree.Event) → sensitive d ts ≡ Some (es, rest) → DerivesSensitive es ts rest × (in_events es ≤ d)
unfolding sensitive
sensitive_ok d ts rest es h =
    choose_cases (sees (is_the_word w.Sensitive)) (some_sensitivity d) (pure []) ts (es, rest) h
    (λ is h.
    let (line, a, one, h1) = and_then_ok (word w.Sensitive ts) _ (es, rest) h in
    let (g, few) = events_ok d a rest es h1 in
    (sensitive_some es ts a rest (word_ok w.Sensitive ts a line one) g, few))
    (λ is h. made (λ z r. DerivesSensitive z ts r × (in_events z ≤ d)) h (refl, omega arith))

pub sensitive_reads : (d : ℕ) (es : List tree.Event) (ts rest : Tokens) → DerivesSensitive es ts rest → in_events es ≤ d → sees (is_the_word w.Sensitive) rest ≡ false → EventsEnd rest → sensitive d ts ≡ Some (es, rest)
unfolding sensitive
sensitive_reads d [] ts rest h few none ends = rw (h, none) refl
sensitive_reads d (e ∷ es) ts rest (a, one, two) few none ends =
    choose_first (sees (is_the_word w.Sensitive)) (some_sensitivity d) (pure []) ts _ (word_sees w.Sensitive ts a one)
    (rw (word_reads w.Sensitive ts a one) (events_reads d (e ∷ es) a rest two few ends))
