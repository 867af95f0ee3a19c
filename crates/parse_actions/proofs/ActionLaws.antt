-- What the parser functions of actions read, and what they read is derived.
use Rattle.std.proofs.Common.{◌≡◌, ℕ, ◌≤◌, Bool, List, Option, Some, None, refl, arith}
use Rattle.std.specs.Prelude.{max}
use Rattle.model_tree.specs.declared.statements.Who.{Who}
use Rattle.model_tree.specs.declared.statements.Control.{Control}
use Rattle.model_tree.specs.declared.statements.Control.TheVariants as order
use Rattle.model_tree.specs.declared.vocabulary.Word.{Word}
use Rattle.model_tree.specs.declared.vocabulary.Word.TheVariants as w
use Rattle.model_tree.specs.declared.vocabulary.Symbol.TheVariants as s
use Rattle.model_tree.specs.Tree as tree
use Rattle.model_tree.specs.Limits.{depth}
use Rattle.parse_expressions.specs.ModelLexer.Tokens as t
use Rattle.parse_expressions.specs.ModelLexer.Tokens.{Tokens}
use Rattle.parse_expressions.specs.ModelLexer.Rules.{At, Takes, Maybe, Written}
use Rattle.parse_expressions.specs.ModelLexer.Expressions.{DerivesExpression, is_the_symbol, sees}
use Rattle.parse_expressions.specs.ModelLexer.Statements.{DerivesChannel, NextName, NextExpression, DerivesWaiting, DerivesNotification, DerivesSpawn, DerivesWho, DerivesAction}
use Rattle.parse_expressions.specs.ModelLexer.Brackets.{in_option, in_channel, in_notification, in_waiting, in_action}
use Rattle.parse_expressions.specs.Parse.{pure, text, name, flag, expression}
use Rattle.parse_expressions.proofs.Parsers.{choose_cases, choose_first, choose_other, and_then_ok, made}
use Rattle.parse_expressions.proofs.OneToken.{name_ok, name_reads, text_ok, text_reads, flag_ok, flag_reads}
use Rattle.parse_expressions.proofs.Sound.{expression_ok}
use Rattle.parse_expressions.proofs.Complete.{at_begins_none}
use Rattle.parse_actions.specs.ChannelParse.{channel, optional_expression}
use Rattle.parse_actions.proofs.ChannelLaws.{channel_ok, channel_reads}
use Rattle.parse_actions.proofs.ArgumentLaws.{optional_expression_ok, optional_expression_reads}
use Rattle.parse_actions.specs.Operations.{next_name, next_expression}
use Rattle.parse_actions.specs.Waits.{waiting, notification, who, spawn}
use Rattle.parse_actions.specs.Actions.{write, print, notify, some_next_expression, optional_next_expression, make, carry, b_transport, name_and_expression, control, throw_it, of_name, of_name_and_expression, of_waiting, of_expression, of_spawn, of_answer, action_start, started_action}
use Rattle.parse_actions.proofs.PartLaws.{next_name_ok, next_name_reads, next_expression_ok, next_expression_before, next_expression_between, expression_before}
use Rattle.parse_actions.proofs.OperationLaws.{of_channel_ok}
use Rattle.parse_actions.proofs.WaitLaws.{waiting_ok, waiting_reads, notification_ok, notification_reads, who_ok, who_reads, spawn_ok, spawn_reads}

-- what is read is derived

-- the brackets of a part that has none are not counted
pub within : (n d : ℕ) → max 0 n ≤ d → n ≤ d
within n d few = omega (arith, few)

counted : (n d : ℕ) → n ≤ d → max 0 n ≤ d
counted n d few = omega (arith, few)

abbrev pub Acts : ℕ → ℕ → Tokens → tree.Action → Tokens → Type 0
Acts d line ts o rest = DerivesAction line o ts rest × (in_action o ≤ d)

write_ok : (d line : ℕ) (ts a rest : Tokens) (o : tree.Action) → At line (t.word w.Write) ts a → write d a ≡ Some (o, rest) → Acts d line ts o rest
unfolding write
write_ok d line ts a rest o at h =
    let (c, b, one, h1) = and_then_ok (channel d a) _ (o, rest) h in
    let (e, f, two, h2) = and_then_ok (expression d b) _ (o, rest) h1 in
    let left = channel_ok d a b c one in
    let right = expression_ok d b f e two in
    let few : max (in_channel c) (depth e) ≤ d = omega (arith, left.1, right.1) in
    made (Acts d line ts) h2 ((a, at, (b, left.0, right.0)), few)

print_ok : (d line : ℕ) (ts a rest : Tokens) (o : tree.Action) → At line (t.word w.Print) ts a → print d a ≡ Some (o, rest) → Acts d line ts o rest
unfolding print
print_ok d line ts a rest o at h =
    let (x, b, one, h1) = and_then_ok (text a) _ (o, rest) h in
    let (e, f, two, h2) = and_then_ok (optional_expression d b) _ (o, rest) h1 in
    let right = optional_expression_ok d b f e two in
    let few : max 0 (in_option e) ≤ d = omega (arith, right.1) in
    made (Acts d line ts) h2 ((a, at, (b, text_ok a b x one, right.0)), few)

notify_ok : (d line : ℕ) (ts a rest : Tokens) (o : tree.Action) → At line (t.word w.Notify) ts a → notify d a ≡ Some (o, rest) → Acts d line ts o rest
unfolding notify
notify_ok d line ts a rest o at h =
    let (x, b, one, h1) = and_then_ok (name a) _ (o, rest) h in
    let (n, f, two, h2) = and_then_ok (notification d b) _ (o, rest) h1 in
    let right = notification_ok d b f n two in
    let few : max 0 (in_notification n) ≤ d = omega (arith, right.1) in
    made (Acts d line ts) h2 ((a, at, (b, name_ok a b x one, right.0)), few)

optional_next_ok : (d : ℕ) (ts rest : Tokens) (x : Option tree.Expression) → optional_next_expression d ts ≡ Some (x, rest) → Maybe NextExpression x ts rest × (in_option x ≤ d)
unfolding optional_next_expression
optional_next_ok d ts rest x h =
    choose_cases (sees (is_the_symbol s.Comma)) (some_next_expression d) (pure None) ts (x, rest) h
    (λ is h.
    let (e, a, one, h1) = and_then_ok (next_expression d ts) _ (x, rest) h in
    made (λ z r. Maybe NextExpression z ts r × (in_option z ≤ d)) h1 (next_expression_ok d ts a e one))
    (λ is h. made (λ z r. Maybe NextExpression z ts r × (in_option z ≤ d)) h (refl, omega arith))

make_ok : (d line : ℕ) (ts a rest : Tokens) (o : tree.Action) → At line (t.word w.Make) ts a → make d a ≡ Some (o, rest) → Acts d line ts o rest
unfolding make
make_ok d line ts a rest o at h =
    let (x, b, one, h1) = and_then_ok (name a) _ (o, rest) h in
    let (e, c, two, h2) = and_then_ok (next_expression d b) _ (o, rest) h1 in
    let (y, f, three, h3) = and_then_ok (optional_next_expression d c) _ (o, rest) h2 in
    let left = next_expression_ok d b c e two in
    let right = optional_next_ok d c f y three in
    let few : max 0 (max (depth e) (in_option y)) ≤ d = omega (arith, left.1, right.1) in
    made (Acts d line ts) h3 ((a, at, (b, name_ok a b x one, (c, left.0, right.0))), few)

carry_ok : (d line : ℕ) (ts a rest : Tokens) (o : tree.Action) → At line (t.word w.Carry) ts a → carry a ≡ Some (o, rest) → Acts d line ts o rest
unfolding carry
carry_ok d line ts a rest o at h =
    let (x, b, one, h1) = and_then_ok (name a) _ (o, rest) h in
    let (y, c, two, h2) = and_then_ok (next_name b) _ (o, rest) h1 in
    made (Acts d line ts) h2 ((a, at, (b, name_ok a b x one, next_name_ok b c y two)), omega arith)

b_transport_ok : (d line : ℕ) (ts a rest : Tokens) (o : tree.Action) → At line (t.word w.BTransport) ts a → b_transport a ≡ Some (o, rest) → Acts d line ts o rest
unfolding b_transport
b_transport_ok d line ts a rest o at h =
    let (x, b, one, h1) = and_then_ok (name a) _ (o, rest) h in
    let (y, c, two, h2) = and_then_ok (next_name b) _ (o, rest) h1 in
    let (z, f, three, h3) = and_then_ok (next_name c) _ (o, rest) h2 in
    made (Acts d line ts) h3 ((a, at, (b, name_ok a b x one, (c, next_name_ok b c y two, next_name_ok c f z three))), omega arith)

throw_it_ok : (d line : ℕ) (ts a rest : Tokens) (o : tree.Action) → At line (t.word w.ThrowIt) ts a → throw_it a ≡ Some (o, rest) → Acts d line ts o rest
unfolding throw_it
throw_it_ok d line ts a rest o at h =
    let (p, b, one, h1) = and_then_ok (who a) _ (o, rest) h in
    let (x, c, two, h2) = and_then_ok (name b) _ (o, rest) h1 in
    let (all, e, three, h3) = and_then_ok (flag w.Descendants c) _ (o, rest) h2 in
    made (Acts d line ts) h3 ((a, at, (b, who_ok a b p one, (c, name_ok b c x two, flag_ok w.Descendants c e all three))), omega arith)

control_ok : (P : tree.Action → Tokens → Type 0) (c : Control) (ts rest : Tokens) (o : tree.Action) → ((x : Who) (all : Bool) (mid last : Tokens) → DerivesWho x ts mid → Written (t.word w.Descendants) all mid last → P (tree.control c x all) last) → control c ts ≡ Some (o, rest) → P o rest
unfolding control
control_ok P c ts rest o f h =
    let (x, a, one, h1) = and_then_ok (who ts) _ (o, rest) h in
    let (all, b, two, h2) = and_then_ok (flag w.Descendants a) _ (o, rest) h1 in
    made P h2 (f x all a b (who_ok ts a x one) (flag_ok w.Descendants a b all two))

-- what is made of a part

of_name_ok : (P : tree.Action → Tokens → Type 0) (act : List ℕ → tree.Action) (ts rest : Tokens) (o : tree.Action) → ((x : List ℕ) (mid : Tokens) → Takes (t.name x) ts mid → P (act x) mid) → of_name act ts ≡ Some (o, rest) → P o rest
of_name_ok P act ts rest o f h =
    let (x, a, one, h1) = and_then_ok (name ts) _ (o, rest) h in
    made P h1 (f x a (name_ok ts a x one))

of_both_ok : (P : tree.Action → Tokens → Type 0) (d : ℕ) (act : List ℕ → tree.Expression → tree.Action) (ts rest : Tokens) (o : tree.Action) → ((x : List ℕ) (e : tree.Expression) (mid last : Tokens) → Takes (t.name x) ts mid → DerivesExpression e mid last → depth e ≤ d → P (act x e) last) → of_name_and_expression d act ts ≡ Some (o, rest) → P o rest
unfolding name_and_expression
of_both_ok P d act ts rest o f h =
    let (p, a, one, h1) = and_then_ok (name_and_expression d ts) _ (o, rest) h in
    let (x, b, two, h2) = and_then_ok (name ts) _ (p, a) one in
    let (e, c, three, h3) = and_then_ok (expression d b) _ (p, a) h2 in
    let inner = expression_ok d b c e three in
    made P h1 (made (λ (z : List ℕ × tree.Expression) r. P (act z.0 z.1) r) h3 (f x e b c (name_ok ts b x two) inner.0 inner.1))

of_waiting_ok : (P : tree.Action → Tokens → Type 0) (d : ℕ) (act : tree.Waiting → tree.Action) (ts rest : Tokens) (o : tree.Action) → ((x : tree.Waiting) (mid : Tokens) → DerivesWaiting x ts mid → in_waiting x ≤ d → P (act x) mid) → of_waiting d act ts ≡ Some (o, rest) → P o rest
of_waiting_ok P d act ts rest o f h =
    let (x, a, one, h1) = and_then_ok (waiting d ts) _ (o, rest) h in
    let inner = waiting_ok d ts a x one in
    made P h1 (f x a inner.0 inner.1)

of_expression_ok : (d line : ℕ) (ts a rest : Tokens) (o : tree.Action) → At line (t.word w.QkGlobal) ts a → of_expression d a ≡ Some (o, rest) → Acts d line ts o rest
of_expression_ok d line ts a rest o at h =
    let (e, b, one, h1) = and_then_ok (expression d a) _ (o, rest) h in
    let inner = expression_ok d a b e one in
    made (Acts d line ts) h1 ((a, at, inner.0), inner.1)

of_spawn_ok : (d line : ℕ) (ts a rest : Tokens) (o : tree.Action) → At line (t.word w.Spawn) ts a → of_spawn d a ≡ Some (o, rest) → Acts d line ts o rest
of_spawn_ok d line ts a rest o at h =
    let (x, b, one, h1) = and_then_ok (spawn d a) _ (o, rest) h in
    let inner = spawn_ok d a b x one in
    made (Acts d line ts) h1 ((a, at, inner.0), inner.1)

of_answer_ok : (d line : ℕ) (ts a rest : Tokens) (o : tree.Action) → At line (t.word w.Return) ts a → of_answer d a ≡ Some (o, rest) → Acts d line ts o rest
of_answer_ok d line ts a rest o at h =
    let (e, b, one, h1) = and_then_ok (optional_expression d a) _ (o, rest) h in
    let inner = optional_expression_ok d a b e one in
    made (Acts d line ts) h1 ((a, at, inner.0), inner.1)

pub started_action_ok : (v : Word) (d line : ℕ) (ts a rest : Tokens) (o : tree.Action) → At line (t.word v) ts a → started_action d (action_start v) a ≡ Some (o, rest) → Acts d line ts o rest
unfolding started_action
started_action_ok w.Write d line ts a rest o at h = write_ok d line ts a rest o at h
started_action_ok w.Print d line ts a rest o at h = print_ok d line ts a rest o at h
started_action_ok w.Notify d line ts a rest o at h = notify_ok d line ts a rest o at h
started_action_ok w.Cancel d line ts a rest o at h = of_name_ok (Acts d line ts) tree.cancel a rest o (λ x mid one. ((a, at, one), omega arith)) h
started_action_ok w.Wait d line ts a rest o at h = of_waiting_ok (Acts d line ts) d tree.wait a rest o (λ x mid one few. ((a, at, one), few)) h
started_action_ok w.NextTrigger d line ts a rest o at h = of_waiting_ok (Acts d line ts) d tree.next_trigger a rest o (λ x mid one few. ((a, at, one), few)) h
started_action_ok w.Lock d line ts a rest o at h = of_channel_ok (Acts d line ts) d tree.lock a rest o (λ c mid one few. ((a, at, one), few)) h
started_action_ok w.SemWait d line ts a rest o at h = of_channel_ok (Acts d line ts) d tree.sem_wait a rest o (λ c mid one few. ((a, at, one), few)) h
started_action_ok w.Post d line ts a rest o at h = of_channel_ok (Acts d line ts) d tree.post a rest o (λ c mid one few. ((a, at, one), few)) h
started_action_ok w.Make d line ts a rest o at h = make_ok d line ts a rest o at h
started_action_ok w.Acquire d line ts a rest o at h = of_name_ok (Acts d line ts) tree.acquire a rest o (λ x mid one. ((a, at, one), omega arith)) h
started_action_ok w.Release d line ts a rest o at h = of_name_ok (Acts d line ts) tree.release a rest o (λ x mid one. ((a, at, one), omega arith)) h
started_action_ok w.Carry d line ts a rest o at h = carry_ok d line ts a rest o at h
started_action_ok w.BTransport d line ts a rest o at h = b_transport_ok d line ts a rest o at h
started_action_ok w.QkGlobal d line ts a rest o at h = of_expression_ok d line ts a rest o at h
started_action_ok w.QkInc d line ts a rest o at h = of_both_ok (Acts d line ts) d tree.qk_inc a rest o (λ x e mid last one two few. ((a, at, (mid, one, two)), counted (depth e) d few)) h
started_action_ok w.QkSet d line ts a rest o at h = of_both_ok (Acts d line ts) d tree.qk_set a rest o (λ x e mid last one two few. ((a, at, (mid, one, two)), counted (depth e) d few)) h
started_action_ok w.QkReset d line ts a rest o at h = of_name_ok (Acts d line ts) tree.qk_reset a rest o (λ x mid one. ((a, at, one), omega arith)) h
started_action_ok w.QkSync d line ts a rest o at h = of_name_ok (Acts d line ts) tree.qk_sync a rest o (λ x mid one. ((a, at, one), omega arith)) h
started_action_ok w.Spawn d line ts a rest o at h = of_spawn_ok d line ts a rest o at h
started_action_ok w.Suspend d line ts a rest o at h = control_ok (Acts d line ts) order.Suspend a rest o (λ x all mid last one two. ((a, at, (mid, one, two)), omega arith)) h
started_action_ok w.Resume d line ts a rest o at h = control_ok (Acts d line ts) order.Resume a rest o (λ x all mid last one two. ((a, at, (mid, one, two)), omega arith)) h
started_action_ok w.Disable d line ts a rest o at h = control_ok (Acts d line ts) order.Disable a rest o (λ x all mid last one two. ((a, at, (mid, one, two)), omega arith)) h
started_action_ok w.Enable d line ts a rest o at h = control_ok (Acts d line ts) order.Enable a rest o (λ x all mid last one two. ((a, at, (mid, one, two)), omega arith)) h
started_action_ok w.Kill d line ts a rest o at h = control_ok (Acts d line ts) order.Kill a rest o (λ x all mid last one two. ((a, at, (mid, one, two)), omega arith)) h
started_action_ok w.Reset d line ts a rest o at h = control_ok (Acts d line ts) order.Reset a rest o (λ x all mid last one two. ((a, at, (mid, one, two)), omega arith)) h
started_action_ok w.ThrowIt d line ts a rest o at h = throw_it_ok d line ts a rest o at h
started_action_ok w.Throw d line ts a rest o at h = of_name_ok (Acts d line ts) tree.throw a rest o (λ x mid one. ((a, at, one), omega arith)) h
started_action_ok w.Return d line ts a rest o at h = of_answer_ok d line ts a rest o at h
started_action_ok w.Stop d line ts a rest o at h = made (Acts d line ts) h (at, omega arith)
started_action_ok _ d line ts a rest o at h = cc

-- what is derived is read

pub write_reads : (d : ℕ) (c : tree.Channel) (e : tree.Expression) (ts a rest last : Tokens) → DerivesChannel c ts a → DerivesExpression e a rest → max (in_channel c) (depth e) ≤ d → Takes (t.symbol s.Semicolon) rest last → write d ts ≡ Some (tree.write c e, rest)
unfolding write
write_reads d c e ts a rest last one two few end =
    rw (channel_reads d c ts a one (omega (arith, few)) (at_begins_none e 0 a rest two.0), expression_before d e a rest last two (omega (arith, few)) end) refl

pub print_reads : (d : ℕ) (x : List ℕ) (e : Option tree.Expression) (ts a rest last : Tokens) → Takes (t.quoted x) ts a → Maybe DerivesExpression e a rest → in_option e ≤ d → Takes (t.symbol s.Semicolon) rest last → print d ts ≡ Some (tree.print x e, rest)
unfolding print
print_reads d x e ts a rest last one two few end = rw (text_reads x ts a one, optional_expression_reads d e a rest two few (rw end.1 refl)) refl

pub notify_reads : (d : ℕ) (x : List ℕ) (n : tree.Notification) (ts a rest last : Tokens) → Takes (t.name x) ts a → DerivesNotification n a rest → in_notification n ≤ d → Takes (t.symbol s.Semicolon) rest last → notify d ts ≡ Some (tree.notify x n, rest)
unfolding notify
notify_reads d x n ts a rest last one two few end = rw (name_reads x ts a one, notification_reads d n a rest last two few end) refl

-- the second expression, and what comes where it may
optional_next_reads : (d : ℕ) (x : Option tree.Expression) (ts rest last : Tokens) → Maybe NextExpression x ts rest → in_option x ≤ d → Takes (t.symbol s.Semicolon) rest last → optional_next_expression d ts ≡ Some (x, rest)
unfolding optional_next_expression
optional_next_reads d None ts rest last h few end = choose_other (sees (is_the_symbol s.Comma)) (some_next_expression d) (pure None) ts _ (rw (h, end.1) refl) (rw h refl)
optional_next_reads d (Some e) ts rest last h few end =
    let inner : some_next_expression d ts ≡ Some (Some e, rest) = rw (next_expression_before d e ts rest last h few end) refl in
    choose_first (sees (is_the_symbol s.Comma)) (some_next_expression d) (pure None) ts _ (rw h.1.1 refl) inner

first_reads : (d : ℕ) (e : tree.Expression) (x : Option tree.Expression) (ts a rest last : Tokens) → NextExpression e ts a → Maybe NextExpression x a rest → depth e ≤ d → Takes (t.symbol s.Semicolon) rest last → next_expression d ts ≡ Some (e, a)
first_reads d e None ts a rest last h g few end = next_expression_before d e ts a last h few (end.0, rw g end.1)
first_reads d e (Some x) ts a rest last h g few end = next_expression_between d e ts a g.0 h few g.1

pub make_reads : (d : ℕ) (x : List ℕ) (e : tree.Expression) (y : Option tree.Expression) (ts a b rest last : Tokens) → Takes (t.name x) ts a → NextExpression e a b → Maybe NextExpression y b rest → max (depth e) (in_option y) ≤ d → Takes (t.symbol s.Semicolon) rest last → make d ts ≡ Some (tree.make x e y, rest)
unfolding make
make_reads d x e y ts a b rest last one two three few end =
    rw (name_reads x ts a one, first_reads d e y a b rest last two three (omega (arith, few)) end, optional_next_reads d y b rest last three (omega (arith, few)) end) refl

pub carry_reads : (x y : List ℕ) (ts a rest : Tokens) → Takes (t.name x) ts a → NextName y a rest → carry ts ≡ Some (tree.carry x y, rest)
unfolding carry
carry_reads x y ts a rest one two = rw (name_reads x ts a one, next_name_reads y a rest two) refl

pub b_transport_reads : (x y z : List ℕ) (ts a b rest : Tokens) → Takes (t.name x) ts a → NextName y a b → NextName z b rest → b_transport ts ≡ Some (tree.b_transport x y z, rest)
unfolding b_transport
b_transport_reads x y z ts a b rest one two three = rw (name_reads x ts a one, next_name_reads y a b two, next_name_reads z b rest three) refl

pub throw_it_reads : (p : Who) (x : List ℕ) (all : Bool) (ts a b rest last : Tokens) → DerivesWho p ts a → Takes (t.name x) a b → Written (t.word w.Descendants) all b rest → Takes (t.symbol s.Semicolon) rest last → throw_it ts ≡ Some (tree.throw_it p x all, rest)
unfolding throw_it
throw_it_reads p x all ts a b rest last one two three end = rw (who_reads p ts a one, name_reads x a b two, flag_reads w.Descendants all b rest three (λ e. rw end.1 refl)) refl

pub control_reads : (c : Control) (x : Who) (all : Bool) (ts a rest last : Tokens) → DerivesWho x ts a → Written (t.word w.Descendants) all a rest → Takes (t.symbol s.Semicolon) rest last → control c ts ≡ Some (tree.control c x all, rest)
unfolding control
control_reads c x all ts a rest last one two end = rw (who_reads x ts a one, flag_reads w.Descendants all a rest two (λ e. rw end.1 refl)) refl

pub of_name_reads : (act : List ℕ → tree.Action) (x : List ℕ) (ts rest : Tokens) → Takes (t.name x) ts rest → of_name act ts ≡ Some (act x, rest)
of_name_reads act x ts rest h = rw (name_reads x ts rest h) refl

pub of_both_reads : (d : ℕ) (act : List ℕ → tree.Expression → tree.Action) (x : List ℕ) (e : tree.Expression) (ts a rest last : Tokens) → Takes (t.name x) ts a → DerivesExpression e a rest → depth e ≤ d → Takes (t.symbol s.Semicolon) rest last → of_name_and_expression d act ts ≡ Some (act x e, rest)
unfolding name_and_expression
of_both_reads d act x e ts a rest last one two few end = rw (name_reads x ts a one, expression_before d e a rest last two few end) refl

pub of_waiting_reads : (d : ℕ) (act : tree.Waiting → tree.Action) (x : tree.Waiting) (ts rest last : Tokens) → DerivesWaiting x ts rest → in_waiting x ≤ d → Takes (t.symbol s.Semicolon) rest last → of_waiting d act ts ≡ Some (act x, rest)
of_waiting_reads d act x ts rest last h few end = rw (waiting_reads d x ts rest last h few end) refl

pub of_expression_reads : (d : ℕ) (e : tree.Expression) (ts rest last : Tokens) → DerivesExpression e ts rest → depth e ≤ d → Takes (t.symbol s.Semicolon) rest last → of_expression d ts ≡ Some (tree.qk_global e, rest)
of_expression_reads d e ts rest last h few end = rw (expression_before d e ts rest last h few end) refl

pub of_spawn_reads : (d : ℕ) (x : tree.Spawn) (ts rest last : Tokens) → DerivesSpawn x ts rest → in_action (tree.spawn x) ≤ d → Takes (t.symbol s.Semicolon) rest last → of_spawn d ts ≡ Some (tree.spawn x, rest)
of_spawn_reads d x ts rest last h few end = rw (spawn_reads d x ts rest last h few end) refl

pub of_answer_reads : (d : ℕ) (x : Option tree.Expression) (ts rest last : Tokens) → Maybe DerivesExpression x ts rest → in_option x ≤ d → Takes (t.symbol s.Semicolon) rest last → of_answer d ts ≡ Some (tree.return_ x, rest)
of_answer_reads d x ts rest last h few end = rw (optional_expression_reads d x ts rest h few (rw end.1 refl)) refl
