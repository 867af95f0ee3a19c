-- The laws of sockets, instances and bindings, both ways.
use Rattle.std.proofs.Common.{◌≡◌, ℕ, false, List, Option, Some, None, refl, arith}
use Rattle.model_tree.specs.declared.vocabulary.Word.{Word}
use Rattle.model_tree.specs.declared.vocabulary.Word.TheVariants as w
use Rattle.model_tree.specs.declared.vocabulary.Symbol.TheVariants as s
use Rattle.model_tree.specs.declared.types.End.{End}
use Rattle.model_tree.specs.declared.items.InitiatorRole.{InitiatorRole}
use Rattle.model_tree.specs.declared.items.InitiatorRole.TheVariants as initiator
use Rattle.model_tree.specs.declared.items.TargetRole.{TargetRole}
use Rattle.model_tree.specs.declared.items.TargetRole.TheVariants as target
use Rattle.model_tree.specs.Tree as tree
use Rattle.parse_statements.specs.ModelLexer.Tokens as t
use Rattle.parse_statements.specs.ModelLexer.Tokens.{Tokens}
use Rattle.parse_statements.specs.ModelLexer.Rules.{Takes, Maybe}
use Rattle.parse_statements.specs.ModelLexer.Expressions.{is_the_symbol, sees}
use Rattle.parse_statements.specs.ModelLexer.Items.{DerivesHandler, DerivesInitiatorRole, DerivesTargetRole, DerivesEnd, DerivesItem}
use Rattle.parse_statements.specs.ParseExpressions.Parse.{pure, word, is_the_word, symbol, named, name}
use Rattle.parse_statements.proofs.ParseExpressions.Parsers.{and_then_ok, choose_cases, choose_first, choose_other, made}
use Rattle.parse_statements.proofs.ParseExpressions.OneToken.{symbol_ok, symbol_reads, named_ok, named_reads, name_ok, name_reads, this_word_at, word_ok, word_reads, word_sees}
use Rattle.parse_statements.specs.ParseActions.ChannelParse.{optional_member}
use Rattle.parse_statements.proofs.ParseActions.ChannelLaws.{optional_member_ok, optional_member_reads}
use Rattle.model_parser.specs.ItemParse.{some_handler, optional_handler, passing_initiator, own_initiator, initiator_role, initiator_item, passing_target, own_target, target_role, target_item, instance_item, binding_end, bind_item}
use Rattle.model_parser.proofs.PlainItemLaws.{Within}

-- handlers

handler_ok : (v : Word) (ts rest : Tokens) (o : Option (List ℕ)) → optional_handler v ts ≡ Some (o, rest) → Maybe (DerivesHandler v) o ts rest
unfolding optional_handler
handler_ok v ts rest o h =
    choose_cases (sees (is_the_word v)) (some_handler v) (pure None) ts (o, rest) h
    (λ is h.
    let (line, a, one, h1) = and_then_ok (word v ts) _ (o, rest) h in
    let (x, b, two, h2) = and_then_ok (name a) _ (o, rest) h1 in
    made (λ o b. Maybe (DerivesHandler v) o ts b) h2 (a, word_ok v ts a line one, name_ok a b x two))
    (λ is h. made (λ o b. Maybe (DerivesHandler v) o ts b) h refl)

handler_reads : (v : Word) (o : Option (List ℕ)) (ts rest : Tokens) → Maybe (DerivesHandler v) o ts rest → sees (is_the_word v) rest ≡ false → optional_handler v ts ≡ Some (o, rest)
unfolding optional_handler
handler_reads v None ts rest h free = choose_other (sees (is_the_word v)) (some_handler v) (pure None) ts _ (rw h free) (rw h refl)
handler_reads v (Some x) ts rest (a, one, two) free =
    let read : some_handler v ts ≡ Some (Some x, rest) = rw (word_reads v ts a one, name_reads x a rest two) refl in
    choose_first (sees (is_the_word v)) (some_handler v) (pure None) ts _ (word_sees v ts a one) read

-- initiators

initiator_role_ok : (ts rest : Tokens) (x : InitiatorRole) → initiator_role ts ≡ Some (x, rest) → DerivesInitiatorRole x ts rest
unfolding initiator_role
initiator_role_ok ts rest x h =
    choose_cases (sees (is_the_word w.Pass)) passing_initiator own_initiator ts (x, rest) h
    (λ is h.
    let (line, a, one, h1) = and_then_ok (word w.Pass ts) _ (x, rest) h in
    made (λ x b. DerivesInitiatorRole x ts b) h1 (word_ok w.Pass ts a line one))
    (λ is h.
    let (o, a, one, h1) = and_then_ok (optional_handler w.Bw ts) _ (x, rest) h in
    made (λ x b. DerivesInitiatorRole x ts b) h1 (handler_ok w.Bw ts a o one))

-- a handler of a word other than `pass`, or what comes behind it, begins with no `pass`
no_pass : (v : Word) (o : Option (List ℕ)) (ts rest : Tokens) → is_the_word w.Pass (t.word v) ≡ false → Maybe (DerivesHandler v) o ts rest → sees (is_the_word w.Pass) rest ≡ false → sees (is_the_word w.Pass) ts ≡ false
no_pass v None ts rest other h free = rw h free
no_pass v (Some x) ts rest other (a, one, two) free = rw one.1 other

initiator_role_reads : (x : InitiatorRole) (ts mid rest : Tokens) → DerivesInitiatorRole x ts mid → Takes (t.symbol s.Semicolon) mid rest → initiator_role ts ≡ Some (x, mid)
unfolding initiator_role
initiator_role_reads initiator.Pass ts mid rest h k =
    let read : passing_initiator ts ≡ Some (initiator.Pass, mid) = rw (word_reads w.Pass ts mid h) refl in
    choose_first (sees (is_the_word w.Pass)) passing_initiator own_initiator ts _ (word_sees w.Pass ts mid h) read
initiator_role_reads (initiator.Own o) ts mid rest h k =
    let read : own_initiator ts ≡ Some (initiator.Own o, mid) = rw (handler_reads w.Bw o ts mid h (rw k.1 refl)) refl in
    choose_other (sees (is_the_word w.Pass)) passing_initiator own_initiator ts _ (no_pass w.Bw o ts mid refl h (rw k.1 refl)) read

pub initiator_item_ok : (d : ℕ) (ts rest : Tokens) (x : tree.Item) → initiator_item ts ≡ Some (x, rest) → Within d ts x rest
unfolding initiator_item
initiator_item_ok d ts rest x h =
    let (line, a, one, h1) = and_then_ok (word w.Initiator ts) _ (x, rest) h in
    let (bytes, b, two, h2) = and_then_ok (name a) _ (x, rest) h1 in
    let (role, c, three, h3) = and_then_ok (initiator_role b) _ (x, rest) h2 in
    let (end, e, four, h4) = and_then_ok (symbol s.Semicolon c) _ (x, rest) h3 in
    made (Within d ts) h4 ((a, this_word_at w.Initiator ts a line one, (b, name_ok a b bytes two, (c, initiator_role_ok b c role three, symbol_ok s.Semicolon c e end four))), omega arith)

pub initiator_item_reads : (line : ℕ) (x : List ℕ) (role : InitiatorRole) (ts rest : Tokens) → DerivesItem (tree.initiator line x role) ts rest → initiator_item ts ≡ Some (tree.initiator line x role, rest)
unfolding initiator_item
initiator_item_reads line x role ts rest (a, one, (b, two, (c, three, four))) =
    rw (word_reads w.Initiator ts a (line, one), name_reads x a b two, initiator_role_reads role b c rest three four, symbol_reads s.Semicolon c rest four) refl

-- targets

target_role_ok : (ts rest : Tokens) (x : TargetRole) → target_role ts ≡ Some (x, rest) → DerivesTargetRole x ts rest
unfolding target_role
target_role_ok ts rest x h =
    choose_cases (sees (is_the_word w.Pass)) passing_target own_target ts (x, rest) h
    (λ is h.
    let (line, a, one, h1) = and_then_ok (word w.Pass ts) _ (x, rest) h in
    made (λ x b. DerivesTargetRole x ts b) h1 (word_ok w.Pass ts a line one))
    (λ is h.
    let (o, a, one, h1) = and_then_ok (optional_handler w.Bt ts) _ (x, rest) h in
    let (p, b, two, h2) = and_then_ok (optional_handler w.Fw a) _ (x, rest) h1 in
    made (λ x b. DerivesTargetRole x ts b) h2 (a, handler_ok w.Bt ts a o one, handler_ok w.Fw a b p two))

no_blocking : (o : Option (List ℕ)) (ts mid rest : Tokens) → Maybe (DerivesHandler w.Fw) o ts mid → Takes (t.symbol s.Semicolon) mid rest → sees (is_the_word w.Bt) ts ≡ false
no_blocking None ts mid rest h k = rw (h, k.1) refl
no_blocking (Some x) ts mid rest (a, one, two) k = rw one.1 refl

target_role_reads : (x : TargetRole) (ts mid rest : Tokens) → DerivesTargetRole x ts mid → Takes (t.symbol s.Semicolon) mid rest → target_role ts ≡ Some (x, mid)
unfolding target_role
target_role_reads target.Pass ts mid rest h k =
    let read : passing_target ts ≡ Some (target.Pass, mid) = rw (word_reads w.Pass ts mid h) refl in
    choose_first (sees (is_the_word w.Pass)) passing_target own_target ts _ (word_sees w.Pass ts mid h) read
target_role_reads (target.Own o p) ts mid rest (a, one, two) k =
    let later : sees (is_the_word w.Pass) a ≡ false = no_pass w.Fw p a mid refl two (rw k.1 refl) in
    let read : own_target ts ≡ Some (target.Own o p, mid) = rw (handler_reads w.Bt o ts a one (no_blocking p a mid rest two k), handler_reads w.Fw p a mid two (rw k.1 refl)) refl in
    choose_other (sees (is_the_word w.Pass)) passing_target own_target ts _ (no_pass w.Bt o ts a refl one later) read

pub target_item_ok : (d : ℕ) (ts rest : Tokens) (x : tree.Item) → target_item ts ≡ Some (x, rest) → Within d ts x rest
unfolding target_item
target_item_ok d ts rest x h =
    let (line, a, one, h1) = and_then_ok (word w.Target ts) _ (x, rest) h in
    let (bytes, b, two, h2) = and_then_ok (name a) _ (x, rest) h1 in
    let (role, c, three, h3) = and_then_ok (target_role b) _ (x, rest) h2 in
    let (end, e, four, h4) = and_then_ok (symbol s.Semicolon c) _ (x, rest) h3 in
    made (Within d ts) h4 ((a, this_word_at w.Target ts a line one, (b, name_ok a b bytes two, (c, target_role_ok b c role three, symbol_ok s.Semicolon c e end four))), omega arith)

pub target_item_reads : (line : ℕ) (x : List ℕ) (role : TargetRole) (ts rest : Tokens) → DerivesItem (tree.target line x role) ts rest → target_item ts ≡ Some (tree.target line x role, rest)
unfolding target_item
target_item_reads line x role ts rest (a, one, (b, two, (c, three, four))) =
    rw (word_reads w.Target ts a (line, one), name_reads x a b two, target_role_reads role b c rest three four, symbol_reads s.Semicolon c rest four) refl

-- instances and bindings

pub instance_item_ok : (d : ℕ) (ts rest : Tokens) (x : tree.Item) → instance_item ts ≡ Some (x, rest) → Within d ts x rest
unfolding instance_item
instance_item_ok d ts rest x h =
    let (line, a, one, h1) = and_then_ok (word w.Inst ts) _ (x, rest) h in
    let (of, b, two, h2) = and_then_ok (name a) _ (x, rest) h1 in
    let (bytes, c, three, h3) = and_then_ok (name b) _ (x, rest) h2 in
    let (end, e, four, h4) = and_then_ok (symbol s.Semicolon c) _ (x, rest) h3 in
    made (Within d ts) h4 ((a, this_word_at w.Inst ts a line one, (b, name_ok a b of two, (c, name_ok b c bytes three, symbol_ok s.Semicolon c e end four))), omega arith)

pub instance_item_reads : (line : ℕ) (of x : List ℕ) (ts rest : Tokens) → DerivesItem (tree.instance line of x) ts rest → instance_item ts ≡ Some (tree.instance line of x, rest)
unfolding instance_item
instance_item_reads line of x ts rest (a, one, (b, two, (c, three, four))) =
    rw (word_reads w.Inst ts a (line, one), name_reads of a b two, name_reads x b c three, symbol_reads s.Semicolon c rest four) refl

end_ok : (ts rest : Tokens) (e : End) → binding_end ts ≡ Some (e, rest) → DerivesEnd e ts rest
unfolding binding_end
end_ok ts rest e h =
    let (x, a, one, h1) = and_then_ok (named ts) _ (e, rest) h in
    let (m, b, two, h2) = and_then_ok (optional_member a) _ (e, rest) h1 in
    made (λ e b. DerivesEnd e ts b) h2 (a, named_ok ts a x one, optional_member_ok a b m two)

end_reads : (e : End) (ts rest : Tokens) → DerivesEnd e ts rest → sees (is_the_symbol s.Dot) rest ≡ false → binding_end ts ≡ Some (e, rest)
unfolding binding_end
end_reads e ts rest (a, one, two) free = rw (named_reads e.line e.name ts a one, optional_member_reads e.member a rest two free) refl

pub bind_item_ok : (d : ℕ) (ts rest : Tokens) (x : tree.Item) → bind_item ts ≡ Some (x, rest) → Within d ts x rest
unfolding bind_item
bind_item_ok d ts rest x h =
    let (line, a, one, h1) = and_then_ok (word w.Bind ts) _ (x, rest) h in
    let (left, b, two, h2) = and_then_ok (binding_end a) _ (x, rest) h1 in
    let (to, c, three, h3) = and_then_ok (word w.To b) _ (x, rest) h2 in
    let (right, e, four, h4) = and_then_ok (binding_end c) _ (x, rest) h3 in
    let (end, f, five, h5) = and_then_ok (symbol s.Semicolon e) _ (x, rest) h4 in
    made (Within d ts) h5 ((a, this_word_at w.Bind ts a line one, (b, end_ok a b left two, (c, word_ok w.To b c to three, (e, end_ok c e right four, symbol_ok s.Semicolon e f end five)))), omega arith)

pub bind_item_reads : (line : ℕ) (left right : End) (ts rest : Tokens) → DerivesItem (tree.bind line left right) ts rest → bind_item ts ≡ Some (tree.bind line left right, rest)
unfolding bind_item
bind_item_reads line left right ts rest (a, one, (b, two, (c, three, (d, four, five)))) =
    rw (word_reads w.Bind ts a (line, one), end_reads left a b two (rw three.1 refl), word_reads w.To b c three, end_reads right c d four (rw five.1 refl), symbol_reads s.Semicolon d rest five) refl
