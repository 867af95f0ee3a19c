-- The printed tokens of statements are those of the same statements, but for line numbers.
use Rattle.std.proofs.Common.{◌≡◌, ℕ, zero, suc, ◌≤◌, Bool, true, false, ◌&&◌, List, [], ◌∷◌, ◌++◌, Option, Some, refl, ap, subst, arith}
use Rattle.std.specs.Prelude.{map, option_map}
use Rattle.std.proofs.lemmas.Bool.{and_parts, leb-true}
use Rattle.model_print.specs.ModelTree.declared.vocabulary.Word.TheVariants as w
use Rattle.model_print.specs.ModelTree.declared.vocabulary.Symbol.TheVariants as s
use Rattle.model_print.specs.ModelTree.declared.types.SignalType.{SignalType}
use Rattle.model_print.specs.ModelTree.declared.types.TypeForm.{TypeForm}
use Rattle.model_print.specs.ModelTree.declared.types.TypeForm.TheVariants as form
use Rattle.model_print.specs.ModelTree.declared.types.VarType.{VarType}
use Rattle.model_print.specs.ModelTree.declared.types.VarType.TheVariants as var_type
use Rattle.model_print.specs.ModelTree.Leaves.{is_name}
use Rattle.model_print.specs.ModelTree.Limits.{token_count, token_limit, fits, fits_option, fits_all, within, fits_place, fits_channel, option_name, fits_event, fits_events, fits_waiting, fits_notification, fits_index, fits_target, fits_form, fits_type, fits_var_type}
use Rattle.model_print.specs.ModelTree.Tree as tree
use Rattle.model_lexer.specs.Tokens.{name, number, word, symbol}
use Rattle.model_lexer.specs.Rules.{Rule, Maybe}
use Rattle.model_lexer.specs.Expressions.{Parenthesized, DerivesAt, DerivesExpression}
use Rattle.model_lexer.specs.Statements.{DerivesForm, DerivesType, DerivesVarTypeAt, DerivesVarType, DerivesPlace, DerivesChannel, DerivesMember, DerivesEvent, DerivesSensitive, DerivesArguments, DerivesIndex, DerivesTarget, NextName, NextExpression, DerivesSpan, DerivesWaiting, DerivesNotification}
use Rattle.model_print.specs.Layout.{Piece}
use Rattle.model_print.specs.Pieces as piece
use Rattle.model_print.specs.Leaves as leaf
use Rattle.model_print.specs.Printed as printed
use Rattle.laws_texts.specs.Unlined as unlined
use Rattle.laws_texts.proofs.Pieces.{word_piece, type_word_piece, name_piece, number_piece, dot_piece, at_piece, left_paren_piece, left_bracket_piece, right_paren_piece, right_bracket_piece, comma_piece}
use Rattle.laws_texts.proofs.Spelled.{Spelled, both, as_one, loose, led, led_at, one, one_at, one_wide, ended_by, of_nothing}
use Rattle.laws_texts.proofs.Lists.{name_spelled, maybe_fixed, maybe_spelled, All, some_spelled}
use Rattle.laws_texts.proofs.PrintedExpressions.{Alike, in_brackets, expression_spelled, whole_spelled}

-- something that has no line
abbrev pub Fixed : Bool → Rule → List Piece → Type 0
Fixed firm R xs = Spelled firm (λ (y : Unit {0}). R) (λ (y : Unit {0}). Unit {0}) xs

-- what stands in brackets that may be opened
pub opened : (n : ℕ) (test : ℕ → Bool) → within n test ≡ true → (m : ℕ) × (test m ≡ true)
opened zero test h = cc
opened (suc n) test h = (n, h)

pub bracketed_spelled : (firm : Bool) (n : ℕ) (e : tree.Expression) → fits n e ≡ true → Spelled firm (λ y. Parenthesized (DerivesAt 0 y)) (Alike e) (piece.bracketed (printed.expression e))
bracketed_spelled firm n e h =
    let one = and_parts _ _ h in
    let two = and_parts _ _ one.0 in
    let few : token_count e ≤ token_limit = leb-true (token_count e) token_limit two.1 in
    let a = expression_spelled e 0 two.0 few in
    in_brackets firm a.0 (omega (arith, a.1))

-- types
pub form_spelled : (t : TypeForm) → fits_form t ≡ true → Spelled true (λ (line : ℕ). DerivesForm line t) (λ (line : ℕ). Unit {0}) (leaf.type_form t ∷ [])
form_spelled form.Bool h = one_at true (piece.type_word w.Bool) (word w.Bool) (type_word_piece w.Bool) refl refl
form_spelled form.Logic h = one_at true (piece.type_word w.Logic) (word w.Logic) (type_word_piece w.Logic) refl refl
form_spelled (form.Int width) h = one_wide true w.Int width h
form_spelled (form.Uint width) h = one_wide true w.Uint width h
form_spelled (form.Vector width) h = one_wide true w.Lv width h

pub type_spelled : (t : SignalType) → fits_type t ≡ true → Spelled true DerivesType (λ y. unlined.signal_type y ≡ unlined.signal_type t) (leaf.type_form t.form ∷ [])
type_spelled t h = as_one (λ line. record { line = line; form = t.form }) (λ y s. refl) (λ y ts rest d. d) (form_spelled t.form h)

pub typed_at : (t : VarType) → fits_var_type t ≡ true
    → Spelled true (λ (y : ℕ × VarType). DerivesVarTypeAt y.0 y.1) (λ (y : ℕ × VarType). unlined.var_type y.1 ≡ unlined.var_type t) (leaf.var_type t ∷ [])
typed_at (var_type.Plain t) h = as_one (λ y. (y.line, var_type.Plain y)) (λ y s. ap var_type.Plain s) (λ y ts rest d. (refl, d)) (type_spelled t h)
typed_at var_type.Time h = as_one (λ line. (line, var_type.Time)) (λ y s. refl) (λ y ts rest d. d) (one_at true (piece.type_word w.Time) (word w.Time) (type_word_piece w.Time) refl refl)
typed_at var_type.Process h = as_one (λ line. (line, var_type.Process)) (λ y s. refl) (λ y ts rest d. d) (one_at true (piece.type_word w.Process) (word w.Process) (type_word_piece w.Process) refl refl)
typed_at var_type.Payload h = as_one (λ line. (line, var_type.Payload)) (λ y s. refl) (λ y ts rest d. d) (one_at true (piece.type_word w.Payload) (word w.Payload) (type_word_piece w.Payload) refl refl)

pub typed : (t : VarType) → fits_var_type t ≡ true → Spelled true DerivesVarType (λ y. unlined.var_type y ≡ unlined.var_type t) (leaf.var_type t ∷ [])
typed t h = as_one (λ y. y.1) (λ y s. s) (λ y ts rest d. (y.0, d)) (typed_at t h)

-- channels and events
pub place_spelled : (n : ℕ) (p : tree.Place) → fits_place n p ≡ true → Spelled false DerivesPlace (λ y. unlined.place y ≡ unlined.place p) (printed.place p)
place_spelled n tree.first h = as_one (λ y. tree.first) (λ y s. refl) (λ y ts rest d. d) of_nothing
place_spelled n (tree.place_number at) h =
    as_one (λ y. tree.place_number at) (λ y s. refl) (λ y ts rest d. d)
    (led false (piece.joint s.At) (symbol s.At) at_piece refl (one true (piece.number at) (number at) (number_piece at h) refl refl))
place_spelled n (tree.computed e) h =
    let inner = opened n (λ m. fits m e) h in
    as_one (λ y. tree.computed y) (λ y s. ap tree.computed s) (λ y ts rest d. d)
    (led false (piece.joint s.At) (symbol s.At) at_piece refl (bracketed_spelled true inner.0 e inner.1))

pub channel_spelled : (n : ℕ) (c : tree.Channel) → fits_channel n c ≡ true → Spelled true DerivesChannel (λ y. unlined.channel y ≡ unlined.channel c) (printed.channel c)
channel_spelled n c h =
    let parts = and_parts (is_name c.name) (fits_place n c.place) h in
    as_one (λ y. record { line = y.0; name = c.name; place = y.1 }) (λ y s. rw s refl) (λ y ts rest d. d)
    (led_at true (piece.name c.name) (name c.name) (name_piece c.name parts.0) refl (place_spelled n c.place parts.1))

pub option_named : (o : Option (List ℕ)) (x : List ℕ) → option_name o ≡ true → o ≡ Some x → is_name x ≡ true
option_named o x h e = subst (λ (z : Option (List ℕ)). option_name z ≡ true) e h

pub member_spelled : (x : Option (List ℕ)) → option_name x ≡ true → Fixed false (Maybe DerivesMember x) (leaf.member x)
member_spelled x h =
    maybe_fixed DerivesMember (λ y. piece.joint s.Dot ∷ piece.name y ∷ []) x
    (λ y e. led false (piece.joint s.Dot) (symbol s.Dot) dot_piece refl (name_spelled true y (option_named x y h e)))

pub event_spelled : (n : ℕ) (e : tree.Event) → fits_event n e ≡ true → Spelled true DerivesEvent (λ y. unlined.event y ≡ unlined.event e) (printed.event e)
event_spelled n e h =
    let parts = and_parts (fits_channel n e.channel) (option_name e.member) h in
    as_one (λ y. record { channel = y.0; member = e.member }) (λ y s. rw s.0 refl) (λ y ts rest d. d)
    (both (channel_spelled n e.channel parts.0) (member_spelled e.member parts.1))

-- lists of events and of expressions
pub events_all : (n : ℕ) (es : List tree.Event) → fits_events n es ≡ true → All unlined.event DerivesEvent printed.event es
events_all n [] h = tt
events_all n (e ∷ es) h = let parts = and_parts (fits_event n e) (fits_events n es) h in (event_spelled n e parts.0, events_all n es parts.1)

pub expressions_all : (n : ℕ) (es : List tree.Expression) → fits_all n es ≡ true → All unlined.expression DerivesExpression printed.expression es
expressions_all n [] h = tt
expressions_all n (e ∷ es) h = let parts = and_parts (fits n e) (fits_all n es) h in (whole_spelled n e parts.0, expressions_all n es parts.1)

pub arguments_spelled : (n : ℕ) (es : List tree.Expression) → within n (λ m. fits_all m es) ≡ true → Spelled false DerivesArguments (λ ys. map unlined.expression ys ≡ map unlined.expression es) (printed.arguments es)
arguments_spelled n [] h =
    as_one (λ y. []) (λ y s. refl) (λ y ts rest d. d)
    (led false (piece.opening s.LeftParen) (symbol s.LeftParen) left_paren_piece refl (one true (piece.closing s.RightParen) (symbol s.RightParen) right_paren_piece refl refl))
arguments_spelled n (e ∷ es) h =
    let inner = opened n (λ m. fits_all m (e ∷ es)) h in
    as_one (λ y. y.0 ∷ y.1) (λ y s. s) (λ y ts rest d. d)
    (led false (piece.opening s.LeftParen) (symbol s.LeftParen) left_paren_piece refl
    (ended_by (piece.closing s.RightParen) (symbol s.RightParen) right_paren_piece refl
    (some_spelled unlined.expression DerivesExpression printed.expression e es (expressions_all inner.0 (e ∷ es) inner.1))))

pub sensitive_spelled : (n : ℕ) (es : List tree.Event) → fits_events n es ≡ true → Spelled false DerivesSensitive (λ ys. map unlined.event ys ≡ map unlined.event es) (printed.sensitive es)
sensitive_spelled n [] h = as_one (λ y. []) (λ y s. refl) (λ y ts rest d. d) of_nothing
sensitive_spelled n (e ∷ es) h =
    as_one (λ y. y.0 ∷ y.1) (λ y s. s) (λ y ts rest d. d)
    (led false (piece.word w.Sensitive) (word w.Sensitive) (word_piece w.Sensitive) refl
    (loose (some_spelled unlined.event DerivesEvent printed.event e es (events_all n (e ∷ es) h))))

-- what is written or not
pub option_fits : (n : ℕ) (o : Option tree.Expression) (e : tree.Expression) → fits_option n o ≡ true → o ≡ Some e → fits n e ≡ true
option_fits n o e h is = subst (λ (z : Option tree.Expression). fits_option n z ≡ true) is h

abbrev pub LikeOption : Option tree.Expression → Option tree.Expression → Type 0
LikeOption o y = option_map unlined.expression y ≡ option_map unlined.expression o

pub optional_spelled : (n : ℕ) (o : Option tree.Expression) → fits_option n o ≡ true → Spelled false (λ (y : Option tree.Expression). Maybe DerivesExpression y) (LikeOption o) (piece.maybe printed.expression o)
optional_spelled n o h = maybe_spelled unlined.expression DerivesExpression printed.expression o (λ e is. loose (whole_spelled n e (option_fits n o e h is)))

pub span_spelled : (n : ℕ) (e : tree.Expression) → fits n e ≡ true → Spelled false DerivesSpan (Alike e) (piece.word w.For ∷ printed.expression e)
span_spelled n e h = led false (piece.word w.For) (word w.For) (word_piece w.For) refl (loose (whole_spelled n e h))

pub time_out_spelled : (n : ℕ) (o : Option tree.Expression) → fits_option n o ≡ true → Spelled false (λ (y : Option tree.Expression). Maybe DerivesSpan y) (LikeOption o) (printed.time_out o)
time_out_spelled n o h = maybe_spelled unlined.expression DerivesSpan (λ e. piece.word w.For ∷ printed.expression e) o (λ e is. span_spelled n e (option_fits n o e h is))

pub next_spelled : (n : ℕ) (e : tree.Expression) → fits n e ≡ true → Spelled false NextExpression (Alike e) (piece.comma ∷ printed.expression e)
next_spelled n e h = led false piece.comma (symbol s.Comma) comma_piece refl (loose (whole_spelled n e h))

pub next_name : (x : List ℕ) → is_name x ≡ true → Fixed false (NextName x) (piece.comma ∷ piece.name x ∷ [])
next_name x h = led false piece.comma (symbol s.Comma) comma_piece refl (name_spelled false x h)

-- waiting
pub waiting_spelled : (n : ℕ) (x : tree.Waiting) → fits_waiting n x ≡ true → Spelled false DerivesWaiting (λ y. unlined.waiting y ≡ unlined.waiting x) (printed.waiting x)
waiting_spelled n tree.static h = as_one (λ y. tree.static) (λ y s. refl) (λ y ts rest d. d) of_nothing
waiting_spelled n tree.delta h = as_one (λ y. tree.delta) (λ y s. refl) (λ y ts rest d. d) (one false (piece.word w.Delta) (word w.Delta) (word_piece w.Delta) refl refl)
waiting_spelled n (tree.for_ e) h = as_one (λ y. tree.for_ y) (λ y s. ap tree.for_ s) (λ y ts rest d. d) (span_spelled n e h)
waiting_spelled n (tree.one e t) h =
    let parts = and_parts (fits_event n e) (fits_option n t) h in
    as_one (λ y. tree.one y.0 y.1) (λ y s. rw (s.0, s.1) refl) (λ y ts rest d. d) (both (loose (event_spelled n e parts.0)) (time_out_spelled n t parts.1))
waiting_spelled n (tree.any [] t) h = cc
waiting_spelled n (tree.any (e ∷ es) t) h =
    let parts = and_parts (fits_events n (e ∷ es)) (fits_option n t) h in
    as_one (λ y. tree.any (y.0.0 ∷ y.0.1) y.1) (λ y s. rw (s.0, s.1) refl) (λ y ts rest d. d)
    (led false (piece.word w.Any) (word w.Any) (word_piece w.Any) refl
    (both (loose (some_spelled unlined.event DerivesEvent printed.event e es (events_all n (e ∷ es) parts.0))) (time_out_spelled n t parts.1)))
waiting_spelled n (tree.all [] t) h = cc
waiting_spelled n (tree.all (e ∷ es) t) h =
    let parts = and_parts (fits_events n (e ∷ es)) (fits_option n t) h in
    as_one (λ y. tree.all (y.0.0 ∷ y.0.1) y.1) (λ y s. rw (s.0, s.1) refl) (λ y ts rest d. d)
    (led false (piece.word w.All) (word w.All) (word_piece w.All) refl
    (both (loose (some_spelled unlined.event DerivesEvent printed.event e es (events_all n (e ∷ es) parts.0))) (time_out_spelled n t parts.1)))

pub notification_spelled : (n : ℕ) (x : tree.Notification) → fits_notification n x ≡ true → Spelled false DerivesNotification (λ y. unlined.notification y ≡ unlined.notification x) (printed.notification x)
notification_spelled n tree.immediate h = as_one (λ y. tree.immediate) (λ y s. refl) (λ y ts rest d. d) of_nothing
notification_spelled n tree.next_delta h = as_one (λ y. tree.next_delta) (λ y s. refl) (λ y ts rest d. d) (one false (piece.word w.Delta) (word w.Delta) (word_piece w.Delta) refl refl)
notification_spelled n (tree.after e) h =
    as_one (λ y. tree.after y) (λ y s. ap tree.after s) (λ y ts rest d. d) (led false (piece.word w.After) (word w.After) (word_piece w.After) refl (loose (whole_spelled n e h)))

-- targets
index_fits : (n : ℕ) (o : Option tree.Expression) (e : tree.Expression) → fits_index n o ≡ true → o ≡ Some e → within n (λ m. fits m e) ≡ true
index_fits n o e h is = subst (λ (z : Option tree.Expression). fits_index n z ≡ true) is h

pub index_spelled : (n : ℕ) (o : Option tree.Expression) → fits_index n o ≡ true → Spelled false (λ (y : Option tree.Expression). Maybe DerivesIndex y) (LikeOption o) (printed.index o)
index_spelled n o h =
    maybe_spelled unlined.expression DerivesIndex (λ e. piece.opening s.LeftBracket ∷ printed.expression e ++ piece.closing s.RightBracket ∷ []) o (λ e is.
    let inner = opened n (λ m. fits m e) (index_fits n o e h is) in
    led false (piece.opening s.LeftBracket) (symbol s.LeftBracket) left_bracket_piece refl
    (ended_by (piece.closing s.RightBracket) (symbol s.RightBracket) right_bracket_piece refl (whole_spelled inner.0 e inner.1)))

pub target_spelled : (n : ℕ) (t : tree.Target) → fits_target n t ≡ true
    → Spelled true (λ (y : ℕ × tree.Target). DerivesTarget y.0 y.1) (λ (y : ℕ × tree.Target). unlined.target y.1 ≡ unlined.target t) (printed.target t)
target_spelled n t h =
    let parts = and_parts (is_name t.name && option_name t.member) (fits_index n t.index) h in
    let more = and_parts (is_name t.name) (option_name t.member) parts.0 in
    as_one (λ y. (y.0, record { name = t.name; member = t.member; index = y.1.1 })) (λ y s. rw s.1 refl) (λ y ts rest d. d)
    (led_at true (piece.name t.name) (name t.name) (name_piece t.name more.0) refl (both (member_spelled t.member more.1) (index_spelled n t.index parts.1)))
