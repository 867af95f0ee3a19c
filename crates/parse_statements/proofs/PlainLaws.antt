-- What the parser functions of statements without blocks read is derived, and what is derived is read.
use Rattle.std.proofs.Common.{◌≡◌, ℕ, ◌≤◌, max, true, false, List, [], ◌∷◌, Option, Some, None, refl, sym, ◌∙◌, subst, arith}
use Rattle.model_tree.specs.declared.vocabulary.Word.TheVariants as w
use Rattle.model_tree.specs.declared.vocabulary.Symbol.TheVariants as s
use Rattle.model_tree.specs.declared.types.VarType.{VarType}
use Rattle.model_tree.specs.Limits.{depth}
use Rattle.model_tree.specs.Tree as tree
use Rattle.parse_actions.specs.ModelLexer.Tokens as t
use Rattle.parse_actions.specs.ModelLexer.Tokens.{Tokens}
use Rattle.parse_actions.specs.ModelLexer.Rules.{Rule, At, Takes, Maybe}
use Rattle.parse_actions.specs.ModelLexer.Expressions.{sees, is_the_symbol, DerivesExpression}
use Rattle.parse_actions.specs.ModelLexer.Statements.{DerivesTarget, DerivesInitial, DerivesMember, DerivesIndex, DerivesOperation, DerivesStatement}
use Rattle.parse_actions.specs.ModelLexer.Brackets.{in_option, in_index, in_operation, in_action, in_statement}
use Rattle.parse_actions.specs.ParseExpressions.Parse.{pure, choose, word, is_the_word, symbol, named, name, expression}
use Rattle.parse_actions.proofs.ParseExpressions.Parsers.{and_then_ok, choose_cases, choose_first, choose_other, made}
use Rattle.parse_actions.proofs.ParseExpressions.OneToken.{symbol_ok, named_ok, name_ok, this_word_at, symbol_reads, named_reads, name_reads, word_reads, symbol_sees, word_sees}
use Rattle.parse_actions.proofs.ParseExpressions.Sound.{expression_ok}
use Rattle.parse_actions.proofs.ParseExpressions.Complete.{begins_expression, expression_begins}
use Rattle.parse_actions.specs.ChannelParse.{variable_type, optional_member, optional_index}
use Rattle.parse_actions.proofs.TypeLaws.{variable_type_ok, variable_type_reads}
use Rattle.parse_actions.proofs.ChannelLaws.{optional_member_ok, optional_member_reads}
use Rattle.parse_actions.proofs.ArgumentLaws.{optional_index_ok, optional_index_reads}
use Rattle.parse_actions.specs.Parse.{sees_operation, sees_action, operation, action}
use Rattle.parse_actions.proofs.PartLaws.{expression_before}
use Rattle.parse_actions.proofs.Laws.{operation_ok, operation_reads, operation_sees, operation_sees_no_action, action_ok, action_reads, action_sees}
use Rattle.parse_statements.specs.Parse.{some_initial, initial, var_statement, assign_statement, result_statement, operate_statement, ended, act_statement, plain_target, equated, target_statement, equated_or_target, name_statement, var_or_name, operate_or_less, plain}

-- a statement that is derived, with no more brackets open in it than that
abbrev pub Within : ℕ → tree.Statement → Rule
Within d x ts rest = DerivesStatement x ts rest × (in_statement x ≤ d)

-- what is read is derived

initial_ok : (d : ℕ) (ts rest : Tokens) (o : Option tree.Expression) → initial d ts ≡ Some (o, rest) → Maybe DerivesInitial o ts rest × (in_option o ≤ d)
unfolding initial
initial_ok d ts rest o h =
    choose_cases (sees (is_the_symbol s.Equal)) (some_initial d) (pure None) ts (o, rest) h
    (λ e h.
    let (sign, a, one, h1) = and_then_ok (symbol s.Equal ts) _ (o, rest) h in
    let (v, b, two, h2) = and_then_ok (expression d a) _ (o, rest) h1 in
    let value = expression_ok d a b v two in
    made (λ z r. Maybe DerivesInitial z ts r × (in_option z ≤ d)) h2 ((a, symbol_ok s.Equal ts a sign one, value.0), value.1))
    (λ e h. made (λ z r. Maybe DerivesInitial z ts r × (in_option z ≤ d)) h (refl, omega arith))

var_ok : (d : ℕ) (ts rest : Tokens) (x : tree.Statement) → var_statement d ts ≡ Some (x, rest) → Within d x ts rest
unfolding var_statement
var_ok d ts rest x h =
    let (line, a, one, h1) = and_then_ok (word w.Var ts) _ (x, rest) h in
    let (type_at, b, two, h2) = and_then_ok (variable_type a) _ (x, rest) h1 in
    let (bytes, c, three, h3) = and_then_ok (name b) _ (x, rest) h2 in
    let (value, f, four, h4) = and_then_ok (initial d c) _ (x, rest) h3 in
    let (end, g, five, h5) = and_then_ok (symbol s.Semicolon f) _ (x, rest) h4 in
    let value_at = initial_ok d c f value four in
    made (λ z. Within d z ts) h5
    ((a, this_word_at w.Var ts a line one, (b, (type_at.0, variable_type_ok a b type_at two), (c, name_ok b c bytes three, (f, value_at.0, symbol_ok s.Semicolon f g end five)))), value_at.1)

assign_statement_ok : (d line : ℕ) (place : tree.Target) (ts rest : Tokens) (x : tree.Statement) → assign_statement d line place ts ≡ Some (x, rest) → (first mid : Tokens) → DerivesTarget line place first mid → Takes (t.symbol s.Equal) mid ts → in_index place.index ≤ d → Within d x first rest
unfolding assign_statement
assign_statement_ok d line place ts rest x h first mid place_at equal_at few =
    let (e, a, one, h1) = and_then_ok (expression d ts) _ (x, rest) h in
    let (end, b, two, h2) = and_then_ok (symbol s.Semicolon a) _ (x, rest) h1 in
    let value = expression_ok d ts a e one in
    let all : max (in_index place.index) (depth e) ≤ d = omega (arith, few, value.1) in
    made (λ z. Within d z first) h2
    ((mid, place_at, (ts, equal_at, (a, value.0, symbol_ok s.Semicolon a b end two))), all)

result_statement_ok : (d line : ℕ) (bytes : List ℕ) (ts rest : Tokens) (x : tree.Statement) → result_statement d (line, bytes) ts ≡ Some (x, rest) → (first mid : Tokens) → At line (t.name bytes) first mid → Takes (t.symbol s.Equal) mid ts → Within d x first rest
unfolding result_statement
result_statement_ok d line bytes ts rest x h first mid name_at equal_at =
    let (o, a, one, h1) = and_then_ok (operation d ts) _ (x, rest) h in
    let (end, b, two, h2) = and_then_ok (symbol s.Semicolon a) _ (x, rest) h1 in
    let operation_at = operation_ok d ts a o one in
    made (λ z. Within d z first) h2
    ((ts, (mid, name_at, equal_at), (a, operation_at.0, symbol_ok s.Semicolon a b end two)), operation_at.1)

operate_statement_ok : (d : ℕ) (ts rest : Tokens) (x : tree.Statement) → operate_statement d ts ≡ Some (x, rest) → Within d x ts rest
unfolding operate_statement
operate_statement_ok d ts rest x h =
    let (o, a, one, h1) = and_then_ok (operation d ts) _ (x, rest) h in
    let (end, b, two, h2) = and_then_ok (symbol s.Semicolon a) _ (x, rest) h1 in
    let operation_at = operation_ok d ts a o one in
    made (λ z. Within d z ts) h2
    ((ts, (refl, refl), (a, operation_at.0, symbol_ok s.Semicolon a b end two)), operation_at.1)

act_statement_ok : (d : ℕ) (ts rest : Tokens) (x : tree.Statement) → act_statement d ts ≡ Some (x, rest) → Within d x ts rest
unfolding act_statement ended
act_statement_ok d ts rest x h =
    let (o, a, one, h1) = and_then_ok (action d ts) _ (x, rest) h in
    let (end, b, two, h2) = and_then_ok (symbol s.Semicolon a) _ (x, rest) h1 in
    let action_at = action_ok d ts a o one in
    made (λ z. Within d z ts) h2
    ((a, action_at.0, symbol_ok s.Semicolon a b end two), action_at.1)

equated_ok : (d line : ℕ) (bytes : List ℕ) (ts rest : Tokens) (x : tree.Statement) → equated d (line, bytes) ts ≡ Some (x, rest) → (first : Tokens) → At line (t.name bytes) first ts → Within d x first rest
unfolding equated
equated_ok d line bytes ts rest x h first name_at =
    let (sign, a, one, h1) = and_then_ok (symbol s.Equal ts) _ (x, rest) h in
    let equal_at = symbol_ok s.Equal ts a sign one in
    choose_cases sees_operation (result_statement d (line, bytes)) (assign_statement d line (plain_target bytes)) a (x, rest) h1
    (λ e h. result_statement_ok d line bytes a rest x h first ts name_at equal_at)
    (λ e h. assign_statement_ok d line (plain_target bytes) a rest x h first ts (ts, name_at, (ts, refl, refl)) equal_at (omega arith))

target_statement_ok : (d line : ℕ) (bytes : List ℕ) (ts rest : Tokens) (x : tree.Statement) → target_statement d (line, bytes) ts ≡ Some (x, rest) → (first : Tokens) → At line (t.name bytes) first ts → Within d x first rest
unfolding target_statement
target_statement_ok d line bytes ts rest x h first name_at =
    let (m, a, one, h1) = and_then_ok (optional_member ts) _ (x, rest) h in
    let (i, b, two, h2) = and_then_ok (optional_index d a) _ (x, rest) h1 in
    let (sign, c, three, h3) = and_then_ok (symbol s.Equal b) _ (x, rest) h2 in
    let index_at = optional_index_ok d a b i two in
    assign_statement_ok d line (record { name = bytes; member = m; index = i }) c rest x h3 first b (ts, name_at, (a, optional_member_ok ts a m one, index_at.0)) (symbol_ok s.Equal b c sign three) index_at.1

name_statement_ok : (d : ℕ) (ts rest : Tokens) (x : tree.Statement) → name_statement d ts ≡ Some (x, rest) → Within d x ts rest
unfolding name_statement
name_statement_ok d ts rest x h =
    let (y, a, one, h1) = and_then_ok (named ts) _ (x, rest) h in
    let name_at = named_ok ts a y one in
    choose_cases (sees (is_the_symbol s.Equal)) (equated d y) (target_statement d y) a (x, rest) h1
    (λ e h. equated_ok d y.0 y.1 a rest x h ts name_at)
    (λ e h. target_statement_ok d y.0 y.1 a rest x h ts name_at)

pub plain_ok : (d : ℕ) (ts rest : Tokens) (x : tree.Statement) → plain d ts ≡ Some (x, rest) → Within d x ts rest
unfolding plain
plain_ok d ts rest x h =
    choose_cases sees_action (act_statement d) (operate_or_less d) ts (x, rest) h
    (λ e h. act_statement_ok d ts rest x h)
    (λ e h. choose_cases sees_operation (operate_statement d) (var_or_name d) ts (x, rest) h
    (λ e h. operate_statement_ok d ts rest x h)
    (λ e h. choose_cases (sees (is_the_word w.Var)) (var_statement d) (name_statement d) ts (x, rest) h
    (λ e h. var_ok d ts rest x h)
    (λ e h. name_statement_ok d ts rest x h)))

-- what is derived is read

initial_reads : (d : ℕ) (o : Option tree.Expression) (ts a rest : Tokens) → Maybe DerivesInitial o ts a → in_option o ≤ d → Takes (t.symbol s.Semicolon) a rest → initial d ts ≡ Some (o, a)
unfolding initial
initial_reads d None ts a rest h few end = choose_other (sees (is_the_symbol s.Equal)) (some_initial d) (pure None) ts _ (rw (h, end.1) refl) (rw h refl)
initial_reads d (Some e) ts a rest (b, one, two) few end =
    choose_first (sees (is_the_symbol s.Equal)) (some_initial d) (pure None) ts _ (symbol_sees s.Equal ts b one)
    (rw (symbol_reads s.Equal ts b one, expression_before d e b a rest two few end) refl)

pub var_reads : (d line : ℕ) (v : VarType) (bytes : List ℕ) (o : Option tree.Expression) (ts rest : Tokens) → DerivesStatement (tree.var line v bytes o) ts rest → in_option o ≤ d → plain d ts ≡ Some (tree.var line v bytes o, rest)
unfolding plain var_statement
var_reads d line v bytes o ts rest (a, word_at, (b, type_at, (c, name_at, (f, value_at, end_at)))) few =
    choose_other sees_action (act_statement d) (operate_or_less d) ts _ (rw word_at refl)
    (choose_other sees_operation (operate_statement d) (var_or_name d) ts _ (rw word_at refl)
    (choose_first (sees (is_the_word w.Var)) (var_statement d) (name_statement d) ts _ (word_sees w.Var ts a (line, word_at))
    (rw (word_reads w.Var ts a (line, word_at), variable_type_reads type_at.0 v a b type_at.1, name_reads bytes b c name_at, initial_reads d o c f rest value_at few end_at, symbol_reads s.Semicolon f rest end_at) refl)))

-- a statement that begins with a name
name_reads_as : (d line : ℕ) (bytes : List ℕ) (ts a : Tokens) (r : tree.Statement × Tokens) → At line (t.name bytes) ts a → equated_or_target d (line, bytes) a ≡ Some r → plain d ts ≡ Some r
unfolding plain name_statement
name_reads_as d line bytes ts a r name_at h =
    choose_other sees_action (act_statement d) (operate_or_less d) ts r (rw name_at refl)
    (choose_other sees_operation (operate_statement d) (var_or_name d) ts r (rw name_at refl)
    (choose_other (sees (is_the_word w.Var)) (var_statement d) (name_statement d) ts r (rw name_at refl)
    (rw (named_reads line bytes ts a name_at) h)))

pub result_statement_reads : (d line : ℕ) (bytes : List ℕ) (at : ℕ) (o : tree.Operation) (ts rest : Tokens) → DerivesStatement (tree.operate line (Some bytes) at o) ts rest → in_operation o ≤ d → plain d ts ≡ Some (tree.operate line (Some bytes) at o, rest)
unfolding equated result_statement
result_statement_reads d line bytes at o ts rest (a, (b, name_at, equal_at), (c, operation_at, end_at)) few =
    let r : tree.Statement × Tokens = (tree.operate line (Some bytes) at o, rest) in
    let inner : result_statement d (line, bytes) a ≡ Some r = rw (operation_reads d at o a c operation_at few (symbol_sees s.Semicolon c rest end_at), symbol_reads s.Semicolon c rest end_at) refl in
    let chosen : choose sees_operation (result_statement d (line, bytes)) (assign_statement d line (plain_target bytes)) a ≡ Some r = choose_first sees_operation (result_statement d (line, bytes)) (assign_statement d line (plain_target bytes)) a r (operation_sees at o a c operation_at) inner in
    let whole : equated d (line, bytes) b ≡ Some r = rw (symbol_reads s.Equal b a equal_at) chosen in
    name_reads_as d line bytes ts b r name_at
    (choose_first (sees (is_the_symbol s.Equal)) (equated d (line, bytes)) (target_statement d (line, bytes)) b r (symbol_sees s.Equal b a equal_at) whole)

-- no expression begins with an operation's word

operation_is_not : (x : t.Token) (line : ℕ) (ts : Tokens) → begins_expression x ≡ true → sees_operation ((x, line) ∷ ts) ≡ false
operation_is_not (t.word w.Call) line ts h = cc
operation_is_not (t.word w.Read) line ts h = cc
operation_is_not (t.word w.NbRead) line ts h = cc
operation_is_not (t.word w.NbWrite) line ts h = cc
operation_is_not (t.word w.Trylock) line ts h = cc
operation_is_not (t.word w.Unlock) line ts h = cc
operation_is_not (t.word w.SemTrywait) line ts h = cc
operation_is_not (t.word w.NbTransport) line ts h = cc
operation_is_not (t.word _) line ts h = refl
operation_is_not (t.name x) line ts h = refl
operation_is_not (t.number x) line ts h = refl
operation_is_not (t.logic x) line ts h = refl
operation_is_not (t.quoted x) line ts h = refl
operation_is_not (t.symbol x) line ts h = refl

no_operation : (ts : Tokens) → sees begins_expression ts ≡ true → sees_operation ts ≡ false
no_operation [] h = refl
no_operation (x ∷ ts) h = operation_is_not x.0 x.1 ts h

assign_statement_reads : (d line : ℕ) (place : tree.Target) (e : tree.Expression) (ts a rest : Tokens) → DerivesExpression e ts a → depth e ≤ d → Takes (t.symbol s.Semicolon) a rest → assign_statement d line place ts ≡ Some (tree.assign line place e, rest)
unfolding assign_statement
assign_statement_reads d line place e ts a rest value_at few end_at = rw (expression_before d e ts a rest value_at few end_at, symbol_reads s.Semicolon a rest end_at) refl

no_dot : (i : Option tree.Expression) (ts a rest : Tokens) → Maybe DerivesIndex i ts a → Takes (t.symbol s.Equal) a rest → sees (is_the_symbol s.Dot) ts ≡ false
no_dot None ts a rest h end = rw (h, end.1) refl
no_dot (Some e) ts a rest h end = rw h.1.1 refl

target_statement_reads : (d line : ℕ) (bytes : List ℕ) (m : Option (List ℕ)) (i : Option tree.Expression) (e : tree.Expression) (a b c f g rest : Tokens) → Maybe DerivesMember m a b → Maybe DerivesIndex i b c → Takes (t.symbol s.Equal) c f → DerivesExpression e f g → Takes (t.symbol s.Semicolon) g rest → in_index i ≤ d → depth e ≤ d → target_statement d (line, bytes) a ≡ Some (tree.assign line (record { name = bytes; member = m; index = i }) e, rest)
unfolding target_statement
target_statement_reads d line bytes m i e a b c f g rest member_at index_at equal_at value_at end_at few less =
    rw (optional_member_reads m a b member_at (no_dot i b c f index_at equal_at), optional_index_reads d i b c index_at few (rw equal_at.1 refl), symbol_reads s.Equal c f equal_at)
    (assign_statement_reads d line (record { name = bytes; member = m; index = i }) e f g rest value_at less end_at)

target_reads : (d line : ℕ) (bytes : List ℕ) (m : Option (List ℕ)) (i : Option tree.Expression) (e : tree.Expression) (a b c f g rest : Tokens) → Maybe DerivesMember m a b → Maybe DerivesIndex i b c → Takes (t.symbol s.Equal) c f → DerivesExpression e f g → Takes (t.symbol s.Semicolon) g rest → in_index i ≤ d → depth e ≤ d → equated_or_target d (line, bytes) a ≡ Some (tree.assign line (record { name = bytes; member = m; index = i }) e, rest)
unfolding equated
target_reads d line bytes None None e a b c f g rest member_at index_at equal_at value_at end_at few less =
    let r : tree.Statement × Tokens = (tree.assign line (plain_target bytes) e, rest) in
    let equal_first : Takes (t.symbol s.Equal) a f = subst (λ z. Takes (t.symbol s.Equal) z f) (sym (member_at ∙ index_at)) equal_at in
    let chosen : choose sees_operation (result_statement d (line, bytes)) (assign_statement d line (plain_target bytes)) f ≡ Some r = choose_other sees_operation (result_statement d (line, bytes)) (assign_statement d line (plain_target bytes)) f r (no_operation f (expression_begins e 0 f g value_at.0)) (assign_statement_reads d line (plain_target bytes) e f g rest value_at less end_at) in
    let whole : equated d (line, bytes) a ≡ Some r = rw (symbol_reads s.Equal a f equal_first) chosen in
    choose_first (sees (is_the_symbol s.Equal)) (equated d (line, bytes)) (target_statement d (line, bytes)) a r (symbol_sees s.Equal a f equal_first) whole
target_reads d line bytes (Some x) i e a b c f g rest member_at index_at equal_at value_at end_at few less =
    choose_other (sees (is_the_symbol s.Equal)) (equated d (line, bytes)) (target_statement d (line, bytes)) a _ (rw member_at.1.1 refl)
    (target_statement_reads d line bytes (Some x) i e a b c f g rest member_at index_at equal_at value_at end_at few less)
target_reads d line bytes None (Some x) e a b c f g rest member_at index_at equal_at value_at end_at few less =
    choose_other (sees (is_the_symbol s.Equal)) (equated d (line, bytes)) (target_statement d (line, bytes)) a _ (rw (member_at, index_at.1.1) refl)
    (target_statement_reads d line bytes None (Some x) e a b c f g rest member_at index_at equal_at value_at end_at few less)

pub assign_reads : (d line : ℕ) (place : tree.Target) (e : tree.Expression) (ts rest : Tokens) → DerivesStatement (tree.assign line place e) ts rest → max (in_index place.index) (depth e) ≤ d → plain d ts ≡ Some (tree.assign line place e, rest)
assign_reads d line place e ts rest (a, (b, name_at, (c, member_at, index_at)), (f, equal_at, (g, value_at, end_at))) few =
    let one : in_index place.index ≤ d = omega arith in
    let two : depth e ≤ d = omega arith in
    name_reads_as d line place.name ts b _ name_at
    (target_reads d line place.name place.member place.index e b c a f g rest member_at index_at equal_at value_at end_at one two)

pub operate_statement_reads : (d line at : ℕ) (o : tree.Operation) (ts rest : Tokens) → DerivesStatement (tree.operate line None at o) ts rest → in_operation o ≤ d → plain d ts ≡ Some (tree.operate line None at o, rest)
unfolding plain operate_statement
operate_statement_reads d line at o ts rest (a, (same, none), (c, operation_at, end_at)) few =
    let first : DerivesOperation at o ts c = subst (λ z. DerivesOperation at o z c) (sym none) operation_at in
    choose_other sees_action (act_statement d) (operate_or_less d) ts _ (operation_sees_no_action at o ts c first)
    (choose_first sees_operation (operate_statement d) (var_or_name d) ts _ (operation_sees at o ts c first)
    (rw (operation_reads d at o ts c first few (symbol_sees s.Semicolon c rest end_at), symbol_reads s.Semicolon c rest end_at, same) refl))

pub act_statement_reads : (d line : ℕ) (o : tree.Action) (ts rest : Tokens) → DerivesStatement (tree.act line o) ts rest → in_action o ≤ d → plain d ts ≡ Some (tree.act line o, rest)
unfolding plain act_statement ended
act_statement_reads d line o ts rest (a, action_at, end_at) few =
    choose_first sees_action (act_statement d) (operate_or_less d) ts _ (action_sees line o ts a action_at)
    (rw (action_reads d line o ts a action_at few (symbol_sees s.Semicolon a rest end_at), symbol_reads s.Semicolon a rest end_at) refl)
