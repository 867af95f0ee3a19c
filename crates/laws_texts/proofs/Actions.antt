-- The printed tokens of operations and actions are those of the same ones, but for line numbers.
use Rattle.std.proofs.Common.{◌≡◌, ℕ, true, false, ◌&&◌, List, [], ◌∷◌, ◌++◌, append_assoc, Option, ◌∙◌, refl, sym, ap}
use Rattle.std.proofs.lemmas.Bool.{and_parts}
use Rattle.model_print.specs.ModelTree.declared.vocabulary.Word.{Word}
use Rattle.model_print.specs.ModelTree.declared.vocabulary.Word.TheVariants as w
use Rattle.model_print.specs.ModelTree.declared.vocabulary.Symbol.TheVariants as s
use Rattle.model_print.specs.ModelTree.declared.statements.Who.{Who}
use Rattle.model_print.specs.ModelTree.declared.statements.Who.TheVariants as who
use Rattle.model_print.specs.ModelTree.Leaves.{is_name, is_print_text}
use Rattle.model_print.specs.ModelTree.Limits.{fits, fits_option, fits_all, within, fits_channel, option_name, fits_events, fits_notification, fits_operation, fits_spawn, fits_who, fits_action}
use Rattle.model_print.specs.ModelTree.Tree as tree
use Rattle.model_lexer.specs.Tokens.{name, quoted, word, symbol}
use Rattle.model_lexer.specs.Rules.{Rule, ◌⨾◌, At, Takes, Maybe}
use Rattle.model_lexer.specs.Statements.{NextExpression, DerivesOperation, DerivesHandle, DerivesSpawn, DerivesWho, DerivesAction}
use Rattle.model_print.specs.ModelTree.Spelling.{control_word}
use Rattle.model_print.specs.Layout.{Piece}
use Rattle.model_print.specs.Pieces as piece
use Rattle.model_print.specs.Leaves as leaf
use Rattle.model_print.specs.Printed as printed
use Rattle.laws_texts.specs.Unlined as unlined
use Rattle.laws_texts.proofs.Pieces.{word_piece, name_piece, quoted_piece, operator_piece}
use Rattle.laws_texts.proofs.Spelled.{Spelled, both, as_one, moved, loose, led, led_at, one, one_at}
use Rattle.laws_texts.proofs.Lists.{name_spelled, flag_spelled, maybe_fixed, maybe_spelled}
use Rattle.laws_texts.proofs.PrintedExpressions.{whole_spelled}
use Rattle.laws_texts.proofs.PrintedStatements.{Fixed, channel_spelled, arguments_spelled, sensitive_spelled, optional_spelled, next_spelled, next_name, waiting_spelled, notification_spelled, option_fits, option_named}

-- a word in front, on the line that is kept
abbrev pub headed : {A : Type 0} {R : A → Rule} {S : A → Type 0} {xs : List Piece} → (x : Word) → Spelled false R S xs → Spelled true (λ (y : ℕ × A). At y.0 (word x) ⨾ R y.1) (λ (y : ℕ × A). S y.1) (piece.word x ∷ xs)
headed x a = led_at true (piece.word x) (word x) (word_piece x) refl a

-- and a name behind it
abbrev pub headed_name : {A : Type 0} {R : A → Rule} {S : A → Type 0} {xs : List Piece} → (x : Word) (z : List ℕ) → is_name z ≡ true → Spelled false R S xs
    → Spelled true (λ (y : ℕ × A). At y.0 (word x) ⨾ Takes (name z) ⨾ R y.1) (λ (y : ℕ × A). S y.1) (piece.word x ∷ piece.name z ∷ xs)
headed_name x z h a = headed x (led false (piece.name z) (name z) (name_piece z h) refl a)

-- an operation with the line of its word
pub operation_spelled : (n : ℕ) (o : tree.Operation) → fits_operation n o ≡ true
    → Spelled true (λ (y : ℕ × tree.Operation). DerivesOperation y.0 y.1) (λ (y : ℕ × tree.Operation). unlined.operation y.1 ≡ unlined.operation o) (printed.operation o)
operation_spelled n (tree.call x es) h =
    let parts = and_parts (is_name x) (within n (λ m. fits_all m es)) h in
    as_one (λ y. (y.0, tree.call x y.1)) (λ y s. ap (tree.call x) s) (λ y ts rest d. d) (headed_name w.Call x parts.0 (arguments_spelled n es parts.1))
operation_spelled n (tree.read c) h =
    as_one (λ y. (y.0, tree.read y.1)) (λ y s. ap tree.read s) (λ y ts rest d. d) (headed w.Read (loose (channel_spelled n c h)))
operation_spelled n (tree.nb_read c x) h =
    let parts = and_parts (fits_channel n c) (is_name x) h in
    as_one (λ y. (y.0, tree.nb_read y.1.0 x)) (λ y s. ap (λ z. tree.nb_read z x) s.0) (λ y ts rest d. d) (headed w.NbRead (both (loose (channel_spelled n c parts.0)) (next_name x parts.1)))
operation_spelled n (tree.nb_write c e) h =
    let parts = and_parts (fits_channel n c) (fits n e) h in
    as_one (λ y. (y.0, tree.nb_write y.1.0 y.1.1)) (λ y s. rw (s.0, s.1) refl) (λ y ts rest d. d) (headed w.NbWrite (both (loose (channel_spelled n c parts.0)) (next_spelled n e parts.1)))
operation_spelled n (tree.trylock c) h =
    as_one (λ y. (y.0, tree.trylock y.1)) (λ y s. ap tree.trylock s) (λ y ts rest d. d) (headed w.Trylock (loose (channel_spelled n c h)))
operation_spelled n (tree.unlock c) h =
    as_one (λ y. (y.0, tree.unlock y.1)) (λ y s. ap tree.unlock s) (λ y ts rest d. d) (headed w.Unlock (loose (channel_spelled n c h)))
operation_spelled n (tree.sem_trywait c) h =
    as_one (λ y. (y.0, tree.sem_trywait y.1)) (λ y s. ap tree.sem_trywait s) (λ y ts rest d. d) (headed w.SemTrywait (loose (channel_spelled n c h)))
operation_spelled n (tree.nb_transport x p phase t) h =
    let parts = and_parts (is_name x && is_name p) (is_name phase && is_name t) h in
    let one = and_parts (is_name x) (is_name p) parts.0 in
    let two = and_parts (is_name phase) (is_name t) parts.1 in
    as_one (λ y. (y.0, tree.nb_transport x p phase t)) (λ y s. refl) (λ y ts rest d. d)
    (headed_name w.NbTransport x one.0 (both (next_name p one.1) (both (next_name phase two.0) (next_name t two.1))))

-- a new instance of a function
pub handle_spelled : (x : Option (List ℕ)) → option_name x ≡ true → Fixed false (Maybe DerivesHandle x) (printed.stored x)
handle_spelled x h =
    maybe_fixed DerivesHandle (λ y. piece.name y ∷ piece.operator s.Equal ∷ []) x
    (λ y e. led false (piece.name y) (name y) (name_piece y (option_named x y h e)) refl (one false (piece.operator s.Equal) (symbol s.Equal) (operator_piece s.Equal) refl refl))

pub five : (a b c d e : List Piece) → a ++ (b ++ (c ++ (d ++ e))) ≡ a ++ b ++ c ++ d ++ e
five a b c d e = sym (append_assoc a b (c ++ (d ++ e))) ∙ sym (append_assoc (a ++ b) c (d ++ e)) ∙ sym (append_assoc (a ++ b ++ c) d e)

pub spawn_spelled : (n : ℕ) (x : tree.Spawn) → fits_spawn n x ≡ true
    → Spelled true (λ (y : ℕ × tree.Spawn). At y.0 (word w.Spawn) ⨾ DerivesSpawn y.1) (λ (y : ℕ × tree.Spawn). unlined.spawn y.1 ≡ unlined.spawn x) (printed.spawn x)
spawn_spelled n x h =
    let parts = and_parts (option_name x.handle && is_name x.function) (within n (λ m. fits_all m x.arguments) && fits_events n x.sensitive) h in
    let names = and_parts (option_name x.handle) (is_name x.function) parts.0 in
    let lists = and_parts (within n (λ m. fits_all m x.arguments)) (fits_events n x.sensitive) parts.1 in
    as_one (λ y. (y.0, record { handle = x.handle; method = x.method; function = x.function; arguments = y.1.1.1.0; sensitive = y.1.1.1.1.0; dont_initialize = x.dont_initialize }))
    (λ y s. rw (s.1.1.0, s.1.1.1.0) refl) (λ y ts rest d. d)
    (headed w.Spawn
    (moved (five (printed.stored x.handle) (piece.flag w.Method x.method) (piece.name x.function ∷ printed.arguments x.arguments) (printed.sensitive x.sensitive) (piece.flag w.DontInitialize x.dont_initialize))
    (both (handle_spelled x.handle names.0)
    (both (flag_spelled w.Method x.method)
    (led false (piece.name x.function) (name x.function) (name_piece x.function names.1) refl
    (both (arguments_spelled n x.arguments lists.0) (both (sensitive_spelled n x.sensitive lists.1) (flag_spelled w.DontInitialize x.dont_initialize))))))))

-- the process of a control call
pub who_spelled : (x : Who) → fits_who x ≡ true → Spelled true DerivesWho (λ y. unlined.process y ≡ unlined.process x) (leaf.who x ∷ [])
who_spelled (who.Named line x) h = as_one (λ l. who.Named l x) (λ y s. refl) (λ y ts rest d. d) (one_at true (piece.name x) (name x) (name_piece x h) refl refl)
who_spelled (who.Myself line) h = as_one (λ l. who.Myself l) (λ y s. refl) (λ y ts rest d. d) (one_at true (piece.word w.SelfProcess) (word w.SelfProcess) (word_piece w.SelfProcess) refl refl)

-- an action with the line of its word
abbrev pub SpelledAction : tree.Action → Type 0
SpelledAction x = Spelled true (λ (y : ℕ × tree.Action). DerivesAction y.0 y.1) (λ (y : ℕ × tree.Action). unlined.action y.1 ≡ unlined.action x) (printed.action x)

only_name : (v : Word) (x : List ℕ) → is_name x ≡ true → Spelled true (λ (line : ℕ). At line (word v) ⨾ Takes (name x)) (λ (line : ℕ). Unit {0}) (piece.word v ∷ piece.name x ∷ [])
only_name v x h = as_one (λ y. y.0) (λ y s. tt) (λ y ts rest d. d) (headed v (name_spelled false x h))

pub action_spelled : (n : ℕ) (a : tree.Action) → fits_action n a ≡ true → SpelledAction a
action_spelled n (tree.write c e) h =
    let parts = and_parts (fits_channel n c) (fits n e) h in
    as_one (λ y. (y.0, tree.write y.1.0 y.1.1)) (λ y s. rw (s.0, s.1) refl) (λ y ts rest d. d) (headed w.Write (both (loose (channel_spelled n c parts.0)) (loose (whole_spelled n e parts.1))))
action_spelled n (tree.print text e) h =
    let parts = and_parts (is_print_text text) (fits_option n e) h in
    as_one (λ y. (y.0, tree.print text y.1)) (λ y s. ap (tree.print text) s) (λ y ts rest d. d)
    (headed w.Print (led false (piece.quoted text) (quoted text) (quoted_piece text parts.0) refl (optional_spelled n e parts.1)))
action_spelled n (tree.notify x t) h =
    let parts = and_parts (is_name x) (fits_notification n t) h in
    as_one (λ y. (y.0, tree.notify x y.1)) (λ y s. ap (tree.notify x) s) (λ y ts rest d. d) (headed_name w.Notify x parts.0 (notification_spelled n t parts.1))
action_spelled n (tree.cancel x) h = as_one (λ l. (l, tree.cancel x)) (λ y s. refl) (λ y ts rest d. d) (only_name w.Cancel x h)
action_spelled n (tree.wait t) h = as_one (λ y. (y.0, tree.wait y.1)) (λ y s. ap tree.wait s) (λ y ts rest d. d) (headed w.Wait (waiting_spelled n t h))
action_spelled n (tree.next_trigger t) h = as_one (λ y. (y.0, tree.next_trigger y.1)) (λ y s. ap tree.next_trigger s) (λ y ts rest d. d) (headed w.NextTrigger (waiting_spelled n t h))
action_spelled n (tree.lock c) h = as_one (λ y. (y.0, tree.lock y.1)) (λ y s. ap tree.lock s) (λ y ts rest d. d) (headed w.Lock (loose (channel_spelled n c h)))
action_spelled n (tree.sem_wait c) h = as_one (λ y. (y.0, tree.sem_wait y.1)) (λ y s. ap tree.sem_wait s) (λ y ts rest d. d) (headed w.SemWait (loose (channel_spelled n c h)))
action_spelled n (tree.post c) h = as_one (λ y. (y.0, tree.post y.1)) (λ y s. ap tree.post s) (λ y ts rest d. d) (headed w.Post (loose (channel_spelled n c h)))
action_spelled n (tree.make x len enables) h =
    let parts = and_parts (is_name x) (fits n len && fits_option n enables) h in
    let more = and_parts (fits n len) (fits_option n enables) parts.1 in
    as_one (λ y. (y.0, tree.make x y.1.0 y.1.1)) (λ y s. rw (s.0, s.1) refl) (λ y ts rest d. d)
    (headed_name w.Make x parts.0
    (both (next_spelled n len more.0)
    (maybe_spelled unlined.expression NextExpression (λ e. piece.comma ∷ printed.expression e) enables (λ e is. next_spelled n e (option_fits n enables e more.1 is)))))
action_spelled n (tree.acquire x) h = as_one (λ l. (l, tree.acquire x)) (λ y s. refl) (λ y ts rest d. d) (only_name w.Acquire x h)
action_spelled n (tree.release x) h = as_one (λ l. (l, tree.release x)) (λ y s. refl) (λ y ts rest d. d) (only_name w.Release x h)
action_spelled n (tree.carry p m) h =
    let parts = and_parts (is_name p) (is_name m) h in
    as_one (λ y. (y.0, tree.carry p m)) (λ y s. refl) (λ y ts rest d. d) (headed_name w.Carry p parts.0 (next_name m parts.1))
action_spelled n (tree.b_transport x p t) h =
    let parts = and_parts (is_name x) (is_name p && is_name t) h in
    let more = and_parts (is_name p) (is_name t) parts.1 in
    as_one (λ y. (y.0, tree.b_transport x p t)) (λ y s. refl) (λ y ts rest d. d) (headed_name w.BTransport x parts.0 (both (next_name p more.0) (next_name t more.1)))
action_spelled n (tree.qk_global e) h = as_one (λ y. (y.0, tree.qk_global y.1)) (λ y s. ap tree.qk_global s) (λ y ts rest d. d) (headed w.QkGlobal (loose (whole_spelled n e h)))
action_spelled n (tree.qk_inc x e) h =
    let parts = and_parts (is_name x) (fits n e) h in
    as_one (λ y. (y.0, tree.qk_inc x y.1)) (λ y s. ap (tree.qk_inc x) s) (λ y ts rest d. d) (headed_name w.QkInc x parts.0 (loose (whole_spelled n e parts.1)))
action_spelled n (tree.qk_set x e) h =
    let parts = and_parts (is_name x) (fits n e) h in
    as_one (λ y. (y.0, tree.qk_set x y.1)) (λ y s. ap (tree.qk_set x) s) (λ y ts rest d. d) (headed_name w.QkSet x parts.0 (loose (whole_spelled n e parts.1)))
action_spelled n (tree.qk_reset x) h = as_one (λ l. (l, tree.qk_reset x)) (λ y s. refl) (λ y ts rest d. d) (only_name w.QkReset x h)
action_spelled n (tree.qk_sync x) h = as_one (λ l. (l, tree.qk_sync x)) (λ y s. refl) (λ y ts rest d. d) (only_name w.QkSync x h)
action_spelled n (tree.spawn x) h = as_one (λ y. (y.0, tree.spawn y.1)) (λ y s. ap tree.spawn s) (λ y ts rest d. d) (spawn_spelled n x h)
action_spelled n (tree.control c x all) h =
    as_one (λ y. (y.0, tree.control c y.1.0 all)) (λ y s. ap (λ z. tree.control c z all) s.0) (λ y ts rest d. d) (headed (control_word c) (both (loose (who_spelled x h)) (flag_spelled w.Descendants all)))
action_spelled n (tree.throw_it p x all) h =
    let parts = and_parts (fits_who p) (is_name x) h in
    as_one (λ y. (y.0, tree.throw_it y.1.0 x all)) (λ y s. ap (λ z. tree.throw_it z x all) s.0) (λ y ts rest d. d)
    (headed w.ThrowIt (both (loose (who_spelled p parts.0)) (led false (piece.name x) (name x) (name_piece x parts.1) refl (flag_spelled w.Descendants all))))
action_spelled n (tree.throw x) h = as_one (λ l. (l, tree.throw x)) (λ y s. refl) (λ y ts rest d. d) (only_name w.Throw x h)
action_spelled n (tree.return_ e) h = as_one (λ y. (y.0, tree.return_ y.1)) (λ y s. ap tree.return_ s) (λ y ts rest d. d) (headed w.Return (optional_spelled n e h))
action_spelled n tree.stop h = as_one (λ l. (l, tree.stop)) (λ y s. refl) (λ y ts rest d. d) (one_at true (piece.word w.Stop) (word w.Stop) (word_piece w.Stop) refl refl)
