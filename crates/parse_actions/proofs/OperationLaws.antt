-- What the parser functions of operations read, and what they read is derived.
use Rattle.std.proofs.Common.{◌≡◌, ℕ, suc, ◌≤◌, List, Some, refl, arith}
use Rattle.std.specs.Prelude.{max}
use Rattle.model_tree.specs.declared.vocabulary.Word.{Word}
use Rattle.model_tree.specs.declared.vocabulary.Word.TheVariants as w
use Rattle.model_tree.specs.declared.vocabulary.Symbol.TheVariants as s
use Rattle.model_tree.specs.Tree as tree
use Rattle.model_tree.specs.Limits.{depth}
use Rattle.parse_expressions.specs.ModelLexer.Tokens as t
use Rattle.parse_expressions.specs.ModelLexer.Tokens.{Tokens}
use Rattle.parse_expressions.specs.ModelLexer.Rules.{At, Takes}
use Rattle.parse_expressions.specs.ModelLexer.Statements.{DerivesChannel, NextName, NextExpression, DerivesArguments, DerivesOperation}
use Rattle.parse_expressions.specs.ModelLexer.Brackets.{in_all, in_channel, in_operation}
use Rattle.parse_expressions.specs.Parse.{name}
use Rattle.parse_expressions.proofs.Parsers.{and_then_ok, made}
use Rattle.parse_expressions.proofs.OneToken.{name_ok, name_reads}
use Rattle.parse_actions.specs.ChannelParse.{channel, arguments}
use Rattle.parse_actions.specs.Operations.{next_name, next_expression, call, nb_read, nb_write, nb_transport, of_channel, operation_start, started_operation}
use Rattle.parse_actions.proofs.ChannelLaws.{channel_ok, channel_reads}
use Rattle.parse_actions.proofs.ArgumentLaws.{arguments_ok, arguments_reads}
use Rattle.parse_actions.proofs.PartLaws.{next_name_ok, next_name_reads, next_expression_ok, next_expression_before}

-- what is made of a channel

pub of_channel_ok : {A : Type 0} (P : A → Tokens → Type 0) (d : ℕ) (make : tree.Channel → A) (ts rest : Tokens) (o : A) → ((c : tree.Channel) (mid : Tokens) → DerivesChannel c ts mid → in_channel c ≤ d → P (make c) mid) → of_channel d make ts ≡ Some (o, rest) → P o rest
of_channel_ok P d make ts rest o f h =
    let (c, a, one, h1) = and_then_ok (channel d ts) _ (o, rest) h in
    let inner = channel_ok d ts a c one in
    made P h1 (f c a inner.0 inner.1)

pub of_channel_reads : {A : Type 0} (d : ℕ) (make : tree.Channel → A) (c : tree.Channel) (ts rest last : Tokens) → DerivesChannel c ts rest → in_channel c ≤ d → Takes (t.symbol s.Semicolon) rest last → of_channel d make ts ≡ Some (make c, rest)
of_channel_reads d make c ts rest last h few end = rw (channel_reads d c ts rest h few (rw end.1 refl)) refl

-- what is read is derived

abbrev pub Operates : ℕ → ℕ → Tokens → tree.Operation → Tokens → Type 0
Operates d line ts o rest = DerivesOperation line o ts rest × (in_operation o ≤ d)

call_ok : (d line : ℕ) (ts a rest : Tokens) (o : tree.Operation) → At line (t.word w.Call) ts a → call d a ≡ Some (o, rest) → Operates d line ts o rest
unfolding call
call_ok d line ts a rest o at h =
    let (x, b, one, h1) = and_then_ok (name a) _ (o, rest) h in
    let (es, c, two, h2) = and_then_ok (arguments d b) _ (o, rest) h1 in
    let inner = arguments_ok d b c es two in
    made (Operates d line ts) h2 ((a, at, (b, name_ok a b x one, inner.0)), inner.1)

nb_read_ok : (d line : ℕ) (ts a rest : Tokens) (o : tree.Operation) → At line (t.word w.NbRead) ts a → nb_read d a ≡ Some (o, rest) → Operates d line ts o rest
unfolding nb_read
nb_read_ok d line ts a rest o at h =
    let (c, b, one, h1) = and_then_ok (channel d a) _ (o, rest) h in
    let (x, f, two, h2) = and_then_ok (next_name b) _ (o, rest) h1 in
    let inner = channel_ok d a b c one in
    made (Operates d line ts) h2 ((a, at, (b, inner.0, next_name_ok b f x two)), inner.1)

nb_write_ok : (d line : ℕ) (ts a rest : Tokens) (o : tree.Operation) → At line (t.word w.NbWrite) ts a → nb_write d a ≡ Some (o, rest) → Operates d line ts o rest
unfolding nb_write
nb_write_ok d line ts a rest o at h =
    let (c, b, one, h1) = and_then_ok (channel d a) _ (o, rest) h in
    let (e, f, two, h2) = and_then_ok (next_expression d b) _ (o, rest) h1 in
    let left = channel_ok d a b c one in
    let right = next_expression_ok d b f e two in
    let few : max (in_channel c) (depth e) ≤ d = omega (arith, left.1, right.1) in
    made (Operates d line ts) h2 ((a, at, (b, left.0, right.0)), few)

nb_transport_ok : (d line : ℕ) (ts a rest : Tokens) (o : tree.Operation) → At line (t.word w.NbTransport) ts a → nb_transport a ≡ Some (o, rest) → Operates d line ts o rest
unfolding nb_transport
nb_transport_ok d line ts a rest o at h =
    let (x, b, one, h1) = and_then_ok (name a) _ (o, rest) h in
    let (y, c, two, h2) = and_then_ok (next_name b) _ (o, rest) h1 in
    let (z, f, three, h3) = and_then_ok (next_name c) _ (o, rest) h2 in
    let (u, g, four, h4) = and_then_ok (next_name f) _ (o, rest) h3 in
    made (Operates d line ts) h4 ((a, at, (b, name_ok a b x one, (c, next_name_ok b c y two, (f, next_name_ok c f z three, next_name_ok f g u four)))), omega arith)

pub started_operation_ok : (v : Word) (d line : ℕ) (ts a rest : Tokens) (o : tree.Operation) → At line (t.word v) ts a → started_operation d (operation_start v) a ≡ Some (o, rest) → Operates d line ts o rest
unfolding started_operation
started_operation_ok w.Call d line ts a rest o at h = call_ok d line ts a rest o at h
started_operation_ok w.Read d line ts a rest o at h = of_channel_ok (Operates d line ts) d tree.read a rest o (λ c mid one few. ((a, at, one), few)) h
started_operation_ok w.NbRead d line ts a rest o at h = nb_read_ok d line ts a rest o at h
started_operation_ok w.NbWrite d line ts a rest o at h = nb_write_ok d line ts a rest o at h
started_operation_ok w.Trylock d line ts a rest o at h = of_channel_ok (Operates d line ts) d tree.trylock a rest o (λ c mid one few. ((a, at, one), few)) h
started_operation_ok w.Unlock d line ts a rest o at h = of_channel_ok (Operates d line ts) d tree.unlock a rest o (λ c mid one few. ((a, at, one), few)) h
started_operation_ok w.SemTrywait d line ts a rest o at h = of_channel_ok (Operates d line ts) d tree.sem_trywait a rest o (λ c mid one few. ((a, at, one), few)) h
started_operation_ok w.NbTransport d line ts a rest o at h = nb_transport_ok d line ts a rest o at h
started_operation_ok _ d line ts a rest o at h = cc

-- what is derived is read

pub call_reads : (d : ℕ) (x : List ℕ) (es : List tree.Expression) (ts a rest : Tokens) → Takes (t.name x) ts a → DerivesArguments es a rest → suc (in_all es) ≤ d → call d ts ≡ Some (tree.call x es, rest)
unfolding call
call_reads d x es ts a rest one two few = rw (name_reads x ts a one, arguments_reads d es a rest two few) refl

pub nb_read_reads : (d : ℕ) (c : tree.Channel) (x : List ℕ) (ts a rest : Tokens) → DerivesChannel c ts a → NextName x a rest → in_channel c ≤ d → nb_read d ts ≡ Some (tree.nb_read c x, rest)
unfolding nb_read
nb_read_reads d c x ts a rest one two few = rw (channel_reads d c ts a one few (rw two.1.1 refl), next_name_reads x a rest two) refl

pub nb_write_reads : (d : ℕ) (c : tree.Channel) (e : tree.Expression) (ts a rest last : Tokens) → DerivesChannel c ts a → NextExpression e a rest → max (in_channel c) (depth e) ≤ d → Takes (t.symbol s.Semicolon) rest last → nb_write d ts ≡ Some (tree.nb_write c e, rest)
unfolding nb_write
nb_write_reads d c e ts a rest last one two few end =
    rw (channel_reads d c ts a one (omega (arith, few)) (rw two.1.1 refl), next_expression_before d e a rest last two (omega (arith, few)) end) refl

pub nb_transport_reads : (x y z u : List ℕ) (ts a b c rest : Tokens) → Takes (t.name x) ts a → NextName y a b → NextName z b c → NextName u c rest → nb_transport ts ≡ Some (tree.nb_transport x y z u, rest)
unfolding nb_transport
nb_transport_reads x y z u ts a b c rest one two three four =
    rw (name_reads x ts a one, next_name_reads y a b two, next_name_reads z b c three, next_name_reads u c rest four) refl
