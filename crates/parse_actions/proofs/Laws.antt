-- Operations and actions: what is read is derived, what is derived is read, and what each begins with.
use Rattle.std.specs.Prelude.{max}
use Rattle.std.proofs.Common.{◌≡◌, ℕ, ◌≤◌, Bool, true, false, Some, refl, sym, ◌∙◌, ⊎_elim}
use Rattle.std.proofs.lemmas.Bool.{cases_Bool}
use denote.Enum.Bare.{sameb, same_true}
use Rattle.model_tree.specs.contracts.vocabulary.Word.{the_type as the_word}
use Rattle.model_tree.specs.declared.vocabulary.Symbol.{Symbol}
use Rattle.model_tree.specs.declared.statements.Control.{Control}
use Rattle.model_tree.specs.declared.statements.Control.TheVariants as control
use Rattle.model_tree.specs.declared.vocabulary.Word.{Word}
use Rattle.model_tree.specs.declared.vocabulary.Word.TheVariants as w
use Rattle.model_tree.specs.declared.vocabulary.Symbol.TheVariants as s
use Rattle.model_tree.specs.Tree as tree
use Rattle.model_tree.specs.Limits.{depth}
use Rattle.model_tree.specs.Parts.{word_of_action}
use Rattle.parse_expressions.specs.ModelLexer.Tokens as t
use Rattle.parse_expressions.specs.ModelLexer.Tokens.{Tokens}
use Rattle.parse_expressions.specs.ModelLexer.Rules.{At, Takes}
use Rattle.parse_expressions.specs.ModelLexer.Expressions.{is_the_symbol, sees}
use Rattle.parse_expressions.specs.ModelLexer.Statements.{DerivesOperation, DerivesAction}
use Rattle.model_tree.specs.Spelling.{control_word}
use Rattle.parse_expressions.specs.ModelLexer.Brackets.{in_operation, in_action, in_option, in_notification}
use Rattle.parse_expressions.specs.Parse.{refuse, skip, is_the_word, word_ahead}
use Rattle.parse_expressions.proofs.Parsers.{where_cases, and_then_ok, made}
use Rattle.parse_expressions.proofs.OneToken.{skip_reads}
use Rattle.parse_actions.specs.declared.actions.ActionStart.TheVariants as acts
use Rattle.parse_actions.specs.Operations.{operation_start, begins_operation, started_operation}
use Rattle.parse_actions.specs.Actions.{action_start, begins_action, started_action}
use Rattle.parse_actions.specs.Parse.{sees_operation, sees_action, operation_by, operation, action_by, action}
use Rattle.parse_actions.proofs.PartLaws.{word_at, word_comes, semicolon_comes}
use Rattle.parse_actions.proofs.OperationLaws.{of_channel_reads, started_operation_ok, call_reads, nb_read_reads, nb_write_reads, nb_transport_reads}
use Rattle.parse_actions.proofs.ActionLaws.{within, started_action_ok, write_reads, print_reads, notify_reads, make_reads, carry_reads, b_transport_reads, throw_it_reads, of_name_reads, of_both_reads, of_waiting_reads, of_expression_reads, of_spawn_reads, of_answer_reads, control_reads}

-- operations

pub operation_ok : (d : ℕ) (ts rest : Tokens) (x : ℕ × tree.Operation) → operation d ts ≡ Some (x, rest) → DerivesOperation x.0 x.1 ts rest × (in_operation x.1 ≤ d)
unfolding operation operation_by
operation_ok d ts rest x h =
    where_cases (word_ahead ts) refuse (operation_by d) ts (x, rest) h
    (λ none h1. absurd (cc h1))
    (λ v some h1.
    let (line, a, one, h2) = and_then_ok (skip ts) _ (x, rest) h1 in
    let (o, b, two, h3) = and_then_ok (started_operation d (operation_start v) a) _ (x, rest) h2 in
    made (λ (z : ℕ × tree.Operation) r. DerivesOperation z.0 z.1 ts r × (in_operation z.1 ≤ d)) h3 (started_operation_ok v d line ts a b o (word_at v line ts a some one) two))

operation_so : (v : Word) (d line : ℕ) (o : tree.Operation) (ts a rest : Tokens) → At line (t.word v) ts a → started_operation d (operation_start v) a ≡ Some (o, rest) → operation d ts ≡ Some ((line, o), rest)
unfolding operation operation_by
operation_so v d line o ts a rest at h = rw (word_comes v line ts a at, skip_reads _ line ts a at, h) refl

operation_before : (d line : ℕ) (o : tree.Operation) (ts rest last : Tokens) → DerivesOperation line o ts rest → in_operation o ≤ d → Takes (t.symbol s.Semicolon) rest last → operation d ts ≡ Some ((line, o), rest)
unfolding started_operation
operation_before d line (tree.call x es) ts rest last (a, at, (b, one, two)) few end = operation_so w.Call d line (tree.call x es) ts a rest at (call_reads d x es a b rest one two few)
operation_before d line (tree.read c) ts rest last (a, at, one) few end = operation_so w.Read d line (tree.read c) ts a rest at (of_channel_reads d tree.read c a rest last one few end)
operation_before d line (tree.nb_read c x) ts rest last (a, at, (b, one, two)) few end = operation_so w.NbRead d line (tree.nb_read c x) ts a rest at (nb_read_reads d c x a b rest one two few)
operation_before d line (tree.nb_write c e) ts rest last (a, at, (b, one, two)) few end = operation_so w.NbWrite d line (tree.nb_write c e) ts a rest at (nb_write_reads d c e a b rest last one two few end)
operation_before d line (tree.trylock c) ts rest last (a, at, one) few end = operation_so w.Trylock d line (tree.trylock c) ts a rest at (of_channel_reads d tree.trylock c a rest last one few end)
operation_before d line (tree.unlock c) ts rest last (a, at, one) few end = operation_so w.Unlock d line (tree.unlock c) ts a rest at (of_channel_reads d tree.unlock c a rest last one few end)
operation_before d line (tree.sem_trywait c) ts rest last (a, at, one) few end = operation_so w.SemTrywait d line (tree.sem_trywait c) ts a rest at (of_channel_reads d tree.sem_trywait c a rest last one few end)
operation_before d line (tree.nb_transport x y z u) ts rest last (a, at, (b, one, (c, two, (f, three, four)))) few end = operation_so w.NbTransport d line (tree.nb_transport x y z u) ts a rest at (nb_transport_reads x y z u a b c f rest one two three four)

pub operation_reads : (d line : ℕ) (o : tree.Operation) (ts rest : Tokens) → DerivesOperation line o ts rest → in_operation o ≤ d → sees (is_the_symbol s.Semicolon) rest ≡ true → operation d ts ≡ Some ((line, o), rest)
operation_reads d line o ts rest h few end = let (last, comes) = semicolon_comes rest end in operation_before d line o ts rest last h few comes

-- actions

pub action_ok : (d : ℕ) (ts rest : Tokens) (x : ℕ × tree.Action) → action d ts ≡ Some (x, rest) → DerivesAction x.0 x.1 ts rest × (in_action x.1 ≤ d)
unfolding action action_by
action_ok d ts rest x h =
    where_cases (word_ahead ts) refuse (action_by d) ts (x, rest) h
    (λ none h1. absurd (cc h1))
    (λ v some h1.
    let (line, a, one, h2) = and_then_ok (skip ts) _ (x, rest) h1 in
    let (o, b, two, h3) = and_then_ok (started_action d (action_start v) a) _ (x, rest) h2 in
    made (λ (z : ℕ × tree.Action) r. DerivesAction z.0 z.1 ts r × (in_action z.1 ≤ d)) h3 (started_action_ok v d line ts a b o (word_at v line ts a some one) two))

action_so : (v : Word) (d line : ℕ) (o : tree.Action) (ts a rest : Tokens) → At line (t.word v) ts a → started_action d (action_start v) a ≡ Some (o, rest) → action d ts ≡ Some ((line, o), rest)
unfolding action action_by
action_so v d line o ts a rest at h = rw (word_comes v line ts a at, skip_reads _ line ts a at, h) refl

pub control_starts : (c : Control) → action_start (control_word c) ≡ acts.Control c
control_starts control.Suspend = refl
control_starts control.Resume = refl
control_starts control.Disable = refl
control_starts control.Enable = refl
control_starts control.Kill = refl
control_starts control.Reset = refl

action_before : (d line : ℕ) (o : tree.Action) (ts rest last : Tokens) → DerivesAction line o ts rest → in_action o ≤ d → Takes (t.symbol s.Semicolon) rest last → action d ts ≡ Some ((line, o), rest)
unfolding started_action
action_before d line (tree.write c e) ts rest last (a, at, (b, one, two)) few end = action_so w.Write d line (tree.write c e) ts a rest at (write_reads d c e a b rest last one two few end)
action_before d line (tree.print x e) ts rest last (a, at, (b, one, two)) few end = action_so w.Print d line (tree.print x e) ts a rest at (print_reads d x e a b rest last one two (within (in_option e) d few) end)
action_before d line (tree.notify x n) ts rest last (a, at, (b, one, two)) few end = action_so w.Notify d line (tree.notify x n) ts a rest at (notify_reads d x n a b rest last one two (within (in_notification n) d few) end)
action_before d line (tree.cancel x) ts rest last (a, at, one) few end = action_so w.Cancel d line (tree.cancel x) ts a rest at (of_name_reads tree.cancel x a rest one)
action_before d line (tree.wait x) ts rest last (a, at, one) few end = action_so w.Wait d line (tree.wait x) ts a rest at (of_waiting_reads d tree.wait x a rest last one few end)
action_before d line (tree.next_trigger x) ts rest last (a, at, one) few end = action_so w.NextTrigger d line (tree.next_trigger x) ts a rest at (of_waiting_reads d tree.next_trigger x a rest last one few end)
action_before d line (tree.lock c) ts rest last (a, at, one) few end = action_so w.Lock d line (tree.lock c) ts a rest at (of_channel_reads d tree.lock c a rest last one few end)
action_before d line (tree.sem_wait c) ts rest last (a, at, one) few end = action_so w.SemWait d line (tree.sem_wait c) ts a rest at (of_channel_reads d tree.sem_wait c a rest last one few end)
action_before d line (tree.post c) ts rest last (a, at, one) few end = action_so w.Post d line (tree.post c) ts a rest at (of_channel_reads d tree.post c a rest last one few end)
action_before d line (tree.make x e y) ts rest last (a, at, (b, one, (c, two, three))) few end = action_so w.Make d line (tree.make x e y) ts a rest at (make_reads d x e y a b c rest last one two three (within (max (depth e) (in_option y)) d few) end)
action_before d line (tree.acquire x) ts rest last (a, at, one) few end = action_so w.Acquire d line (tree.acquire x) ts a rest at (of_name_reads tree.acquire x a rest one)
action_before d line (tree.release x) ts rest last (a, at, one) few end = action_so w.Release d line (tree.release x) ts a rest at (of_name_reads tree.release x a rest one)
action_before d line (tree.carry x y) ts rest last (a, at, (b, one, two)) few end = action_so w.Carry d line (tree.carry x y) ts a rest at (carry_reads x y a b rest one two)
action_before d line (tree.b_transport x y z) ts rest last (a, at, (b, one, (c, two, three))) few end = action_so w.BTransport d line (tree.b_transport x y z) ts a rest at (b_transport_reads x y z a b c rest one two three)
action_before d line (tree.qk_global e) ts rest last (a, at, one) few end = action_so w.QkGlobal d line (tree.qk_global e) ts a rest at (of_expression_reads d e a rest last one few end)
action_before d line (tree.qk_inc x e) ts rest last (a, at, (b, one, two)) few end = action_so w.QkInc d line (tree.qk_inc x e) ts a rest at (of_both_reads d tree.qk_inc x e a b rest last one two (within (depth e) d few) end)
action_before d line (tree.qk_set x e) ts rest last (a, at, (b, one, two)) few end = action_so w.QkSet d line (tree.qk_set x e) ts a rest at (of_both_reads d tree.qk_set x e a b rest last one two (within (depth e) d few) end)
action_before d line (tree.qk_reset x) ts rest last (a, at, one) few end = action_so w.QkReset d line (tree.qk_reset x) ts a rest at (of_name_reads tree.qk_reset x a rest one)
action_before d line (tree.qk_sync x) ts rest last (a, at, one) few end = action_so w.QkSync d line (tree.qk_sync x) ts a rest at (of_name_reads tree.qk_sync x a rest one)
action_before d line (tree.spawn x) ts rest last (a, at, one) few end = action_so w.Spawn d line (tree.spawn x) ts a rest at (of_spawn_reads d x a rest last one few end)
action_before d line (tree.control c x all) ts rest last (a, at, (b, one, two)) few end = action_so (control_word c) d line (tree.control c x all) ts a rest at (rw (control_starts c) (control_reads c x all a b rest last one two end))
action_before d line (tree.throw_it p x all) ts rest last (a, at, (b, one, (c, two, three))) few end = action_so w.ThrowIt d line (tree.throw_it p x all) ts a rest at (throw_it_reads p x all a b c rest last one two three end)
action_before d line (tree.throw x) ts rest last (a, at, one) few end = action_so w.Throw d line (tree.throw x) ts a rest at (of_name_reads tree.throw x a rest one)
action_before d line (tree.return_ x) ts rest last (a, at, one) few end = action_so w.Return d line (tree.return_ x) ts a rest at (of_answer_reads d x a rest last one few end)
action_before d line tree.stop ts rest last at few end = action_so w.Stop d line tree.stop ts rest rest at refl

pub action_reads : (d line : ℕ) (o : tree.Action) (ts rest : Tokens) → DerivesAction line o ts rest → in_action o ≤ d → sees (is_the_symbol s.Semicolon) rest ≡ true → action d ts ≡ Some ((line, o), rest)
action_reads d line o ts rest h few end = let (last, comes) = semicolon_comes rest end in action_before d line o ts rest last h few comes

-- what each begins with

-- the word that an operation begins with
abbrev pub operation_word : tree.Operation → Word
operation_word (tree.call x es) = w.Call
operation_word (tree.read c) = w.Read
operation_word (tree.nb_read c x) = w.NbRead
operation_word (tree.nb_write c e) = w.NbWrite
operation_word (tree.trylock c) = w.Trylock
operation_word (tree.unlock c) = w.Unlock
operation_word (tree.sem_trywait c) = w.SemTrywait
operation_word (tree.nb_transport x y z u) = w.NbTransport

-- the word that an action begins with
abbrev pub action_word : tree.Action → Word
action_word a = word_of_action a

pub operation_begins : (line : ℕ) (o : tree.Operation) (ts rest : Tokens) → DerivesOperation line o ts rest → (mid : Tokens) × At line (t.word (operation_word o)) ts mid
operation_begins line (tree.call x es) ts rest h = (h.0, h.1)
operation_begins line (tree.read c) ts rest h = (h.0, h.1)
operation_begins line (tree.nb_read c x) ts rest h = (h.0, h.1)
operation_begins line (tree.nb_write c e) ts rest h = (h.0, h.1)
operation_begins line (tree.trylock c) ts rest h = (h.0, h.1)
operation_begins line (tree.unlock c) ts rest h = (h.0, h.1)
operation_begins line (tree.sem_trywait c) ts rest h = (h.0, h.1)
operation_begins line (tree.nb_transport x y z u) ts rest h = (h.0, h.1)

pub action_begins : (line : ℕ) (o : tree.Action) (ts rest : Tokens) → DerivesAction line o ts rest → (mid : Tokens) × At line (t.word (action_word o)) ts mid
action_begins line tree.stop ts rest h = (rest, h)
action_begins line _ ts rest h = (h.0, h.1)

-- each begins as it should, and no operation as an action does

operation_words : (o : tree.Operation) → (begins_operation (operation_word o) ≡ true) × (begins_action (operation_word o) ≡ false)
operation_words (tree.call x es) = (refl, refl)
operation_words (tree.read c) = (refl, refl)
operation_words (tree.nb_read c x) = (refl, refl)
operation_words (tree.nb_write c e) = (refl, refl)
operation_words (tree.trylock c) = (refl, refl)
operation_words (tree.unlock c) = (refl, refl)
operation_words (tree.sem_trywait c) = (refl, refl)
operation_words (tree.nb_transport x y z u) = (refl, refl)

control_words : (c : Control) → begins_action (control_word c) ≡ true
control_words control.Suspend = refl
control_words control.Resume = refl
control_words control.Disable = refl
control_words control.Enable = refl
control_words control.Kill = refl
control_words control.Reset = refl

action_words : (o : tree.Action) → begins_action (action_word o) ≡ true
action_words (tree.control c x all) = control_words c
action_words _ = refl

pub operation_sees : (line : ℕ) (o : tree.Operation) (ts rest : Tokens) → DerivesOperation line o ts rest → sees_operation ts ≡ true
operation_sees line o ts rest h = rw (operation_begins line o ts rest h).1 (operation_words o).0

pub operation_sees_no_action : (line : ℕ) (o : tree.Operation) (ts rest : Tokens) → DerivesOperation line o ts rest → sees_action ts ≡ false
operation_sees_no_action line o ts rest h = rw (operation_begins line o ts rest h).1 (operation_words o).1

pub action_sees : (line : ℕ) (o : tree.Action) (ts rest : Tokens) → DerivesAction line o ts rest → sees_action ts ≡ true
action_sees line o ts rest h = rw (action_begins line o ts rest h).1 (action_words o)

-- no operation and no action begins with a symbol, nor with a word that begins none: the premise on it is `refl`

pub operation_begins_no_symbol : (v : Symbol) (line : ℕ) (o : tree.Operation) (ts rest : Tokens) → DerivesOperation line o ts rest → sees (is_the_symbol v) ts ≡ false
operation_begins_no_symbol v line o ts rest h = rw (operation_begins line o ts rest h).1 refl

pub action_begins_no_symbol : (v : Symbol) (line : ℕ) (o : tree.Action) (ts rest : Tokens) → DerivesAction line o ts rest → sees (is_the_symbol v) ts ≡ false
action_begins_no_symbol v line o ts rest h = rw (action_begins line o ts rest h).1 refl

other_word : (test : Word → Bool) (u v : Word) → test u ≡ true → test v ≡ false → sameb the_word u v ≡ false
other_word test u v f g =
    ⊎_elim
    (λ (e : sameb the_word u v ≡ true). let same : u ≡ v = same_true the_word tt u v e in absurd (cc (sym (rw same at f) ∙ g)))
    (λ (e : sameb the_word u v ≡ false). e)
    (cases_Bool (sameb the_word u v))

pub operation_begins_no : (v : Word) → begins_operation v ≡ false → (line : ℕ) (o : tree.Operation) (ts rest : Tokens) → DerivesOperation line o ts rest → sees (is_the_word v) ts ≡ false
operation_begins_no v f line o ts rest h = rw (operation_begins line o ts rest h).1 (other_word begins_operation (operation_word o) v (operation_words o).0 f)

pub action_begins_no : (v : Word) → begins_action v ≡ false → (line : ℕ) (o : tree.Action) (ts rest : Tokens) → DerivesAction line o ts rest → sees (is_the_word v) ts ≡ false
action_begins_no v f line o ts rest h = rw (action_begins line o ts rest h).1 (other_word begins_action (action_word o) v (action_words o) f)
