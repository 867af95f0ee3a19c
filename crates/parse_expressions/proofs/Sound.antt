-- What the parser functions read is derived, and over.
use Rattle.std.proofs.Common.{◌≡◌, ℕ, zero, suc, ◌+◌, ◌<◌, ◌≤◌, Bool, true, false, List, [], ◌∷◌, length, Option, Some, None, refl, sym, subst, ⊎_elim, arith}
use Rattle.std.specs.Prelude.{◌||◌, ◌==◌, not, is_some, max, nat_le}
use Rattle.std.proofs.lemmas.Bool.{cases_Bool}
use Rattle.std.proofs.lemmas.Bool.Decides.{nat_tests}
use Rattle.std.proofs.lemmas.Option.{cond_some}
use Rattle.model_lexer.specs.SimTime.declared.moments.Unit.{Unit as TimeUnit}
use Rattle.model_tree.specs.declared.vocabulary.Symbol.TheVariants as s
use Rattle.model_tree.specs.declared.expressions.UnaryOp.{UnaryOp}
use Rattle.model_tree.specs.declared.expressions.BinaryOp.{BinaryOp}
use Rattle.model_tree.specs.declared.expressions.BinaryOp.TheVariants as op
use Rattle.model_tree.specs.declared.expressions.Conversion.{Conversion}
use Rattle.model_tree.specs.Limits.{level, depth}
use Rattle.model_tree.specs.Tree as tree
use Rattle.model_lexer.specs.Tokens as t
use Rattle.model_lexer.specs.Tokens.{Tokens}
use Rattle.model_lexer.specs.Rules.{◌⨾◌, At, Takes}
use Rattle.parse_expressions.specs.declared.starts.Leaf.{Leaf}
use Rattle.parse_expressions.specs.declared.starts.Leaf.TheVariants as leaf
use Rattle.parse_expressions.specs.declared.starts.Start.{Start}
use Rattle.parse_expressions.specs.declared.starts.Start.TheVariants as start
use Rattle.model_lexer.specs.Expressions.{Short, Parenthesized, DerivesAt, unit_in, operator_in, is_the_symbol, is_link, extends, goes_on, sees, BeginsWith}
use Rattle.parse_expressions.specs.Parse.{Parser, pure, skip, named, name, numbered, number, logical, symbol, opened, unit_ahead, operator_ahead, sign_ahead, start_of, leaf_tree, with_unit, number_or_time, literal, leaf_expression, member, bounds, measured, short, at_no_link, is_not_of, at_none_of, with_operator, binary, levelled, sees_number, sees_bounds, group, paren, convert, vector, concat, placed, placed_by, place, channel, element, index, link, chain, primary_of, primary, unary, operand, climb, inside, expression}
use Rattle.parse_expressions.proofs.Parsers.{choose_cases, where_cases, and_then_ok, made, repeat_ok}
use Rattle.parse_expressions.proofs.OneToken.{symbol_ok, opened_ok, named_ok, name_ok, numbered_ok, number_ok, logical_ok, unit_in_named, sign_at, operator_at, leaf_word, leaf_at, conversion_at, vector_at, concat_at, at_front}

-- what binds tightly may stand where less is wanted
pub lower : (e : tree.Expression) (n m : ℕ) (ts rest : Tokens) → n ≤ m → DerivesAt m e ts rest → DerivesAt n e ts rest
lower (tree.number line v) n m ts rest k h = (omega (arith, h.0), h.1)
lower (tree.time line v u) n m ts rest k h = (omega (arith, h.0), h.1)
lower (tree.logic line v) n m ts rest k h = (omega (arith, h.0), h.1)
lower (tree.truth line b) n m ts rest k h = (omega (arith, h.0), h.1)
lower (tree.now line) n m ts rest k h = (omega (arith, h.0), h.1)
lower (tree.myself line) n m ts rest k h = (omega (arith, h.0), h.1)
lower (tree.constant line c) n m ts rest k h = (omega (arith, h.0), h.1)
lower (tree.paren line e) n m ts rest k h = (omega (arith, h.0), h.1)
lower (tree.convert line c e) n m ts rest k h = (omega (arith, h.0), h.1)
lower (tree.to_vector line width e) n m ts rest k h = (omega (arith, h.0), h.1)
lower (tree.concat line a b) n m ts rest k h = (omega (arith, h.0), h.1)
lower (tree.named line x) n m ts rest k h = h
lower (tree.placed line x v) n m ts rest k h = h
lower (tree.placed_by line x e) n m ts rest k h = h
lower (tree.member e x) n m ts rest k h = h
lower (tree.element e i) n m ts rest k h = h
lower (tree.slice e a b) n m ts rest k h = h
lower (tree.unary line o e) n m ts rest k h = (omega (arith, h.0), h.1)
lower (tree.binary o a b) n m ts rest k h = (omega (arith, h.0), h.1)

-- the level of an operator is one of ten
pub level_small : (o : BinaryOp) → level o < 10
level_small op.OrElse = omega arith
level_small op.AndThen = omega arith
level_small op.BitOr = omega arith
level_small op.BitXor = omega arith
level_small op.BitAnd = omega arith
level_small op.Equal = omega arith
level_small op.NotEqual = omega arith
level_small op.Less = omega arith
level_small op.LessEqual = omega arith
level_small op.Greater = omega arith
level_small op.GreaterEqual = omega arith
level_small op.ShiftLeft = omega arith
level_small op.ShiftRight = omega arith
level_small op.Add = omega arith
level_small op.Subtract = omega arith
level_small op.Multiply = omega arith
level_small op.Divide = omega arith
level_small op.Remainder = omega arith

-- where a test refuses each token, no token passes it
pub unseen : (test : t.Token → Bool) (ts : Tokens) → ((x : t.Token) → test x ≡ false) → sees test ts ≡ false
unseen test [] f = refl
unseen test (x ∷ ts) f = f x.0

-- read at this level, with at most so many brackets open, where no unit, place or link comes
abbrev pub Good : ℕ → ℕ → Tokens → tree.Expression → Tokens → Type 0
Good n d ts e rest = DerivesAt n e ts rest × (depth e ≤ d) × (sees (extends e) rest ≡ false)

unit_unseen : (ts : Tokens) → unit_ahead ts ≡ None → sees (λ x. is_some (unit_in x)) ts ≡ false
unit_unseen [] h = refl
unit_unseen (y ∷ ts) h = let e : unit_in y.0 ≡ None = h in rw e refl

pub unit_taken : (u : TimeUnit) (line : ℕ) (ts rest : Tokens) → unit_ahead ts ≡ Some u → skip ts ≡ Some (line, rest) → Takes (t.unit_token u) ts rest
unfolding skip
unit_taken u line [] rest h k = cc
unit_taken u line (y ∷ ts) rest h k =
    let p : ◌≡◌ {A = ℕ × Tokens} (y.1, ts) (line, rest) = cc k in
    subst (λ (z : ℕ × Tokens). Takes (t.unit_token u) (y ∷ ts) z.1) p (y.1, at_front y.0 _ y.1 ts (unit_in_named y.0 u h))

number_or_time_ok : (d : ℕ) (ts rest : Tokens) (e : tree.Expression) → number_or_time ts ≡ Some (e, rest) → Good 11 d ts e rest
unfolding number_or_time
number_or_time_ok d ts rest e h =
    let (x, a, one, h1) = and_then_ok (numbered ts) _ (e, rest) h in
    where_cases (unit_ahead a) (pure (tree.number x.0 x.1)) (with_unit x) a (e, rest) h1
    (λ none h2. made (Good 11 d ts) h2 ((omega arith, numbered_ok ts a x one), omega arith, unit_unseen a none))
    (λ u some h2.
    let (line, b, two, h3) = and_then_ok (skip a) _ (e, rest) h2 in
    made (Good 11 d ts) h3 ((omega arith, (a, numbered_ok ts a x one, unit_taken u line a b some two)), omega arith, unseen _ b (λ x. refl)))

literal_ok : (d : ℕ) (ts rest : Tokens) (e : tree.Expression) → literal ts ≡ Some (e, rest) → Good 11 d ts e rest
unfolding literal
literal_ok d ts rest e h =
    let (x, a, one, h1) = and_then_ok (logical ts) _ (e, rest) h in
    made (Good 11 d ts) h1 ((omega arith, logical_ok ts a x one), omega arith, unseen _ a (λ x. refl))

leaf_good : (l : Leaf) (d line : ℕ) (ts rest : Tokens) → At line (t.word (leaf_word l)) ts rest → Good 11 d ts (leaf_tree line l) rest
leaf_good (leaf.Truth b) d line ts rest h = ((omega arith, h), omega arith, unseen _ rest (λ x. refl))
leaf_good leaf.Now d line ts rest h = ((omega arith, h), omega arith, unseen _ rest (λ x. refl))
leaf_good leaf.Myself d line ts rest h = ((omega arith, h), omega arith, unseen _ rest (λ x. refl))
leaf_good (leaf.Constant c) d line ts rest h = ((omega arith, h), omega arith, unseen _ rest (λ x. refl))

leaf_ok : (l : Leaf) (d : ℕ) (ts rest : Tokens) (e : tree.Expression) → start_of ts ≡ start.Leaf l → leaf_expression l ts ≡ Some (e, rest) → Good 11 d ts e rest
unfolding leaf_expression
leaf_ok l d ts rest e begins h =
    let (line, a, one, h1) = and_then_ok (skip ts) _ (e, rest) h in
    made (Good 11 d ts) h1 (leaf_good l d line ts a (leaf_at l line ts a begins one))

-- a name goes on with its place
abbrev pub AtFree : tree.Expression → Tokens → Type 0
AtFree (tree.named line x) ts = sees (is_the_symbol s.At) ts ≡ false
AtFree _ ts = Unit {0}

-- what a chain is, up to where a link may come
abbrev pub Chained : ℕ → Tokens → tree.Expression → Tokens → Type 0
Chained d ts e rest = DerivesAt 12 e ts rest × (depth e ≤ d) × AtFree e rest

-- what goes on with a chain is a link, or a place behind a name
link_unseen : (ts : Tokens) → at_no_link ts ≡ true → sees is_link ts ≡ false
link_unseen [] h = refl
link_unseen (y ∷ ts) h = ⊎_elim (λ (e : is_link y.0 ≡ true). absurd (cc (rw e at h))) (λ (e : is_link y.0 ≡ false). e) (cases_Bool (is_link y.0))

named_unseen : (ts : Tokens) → sees (is_the_symbol s.At) ts ≡ false → sees is_link ts ≡ false → sees (λ x. is_the_symbol s.At x || is_link x) ts ≡ false
named_unseen [] h k = refl
named_unseen (y ∷ ts) h k = rw (h, k) refl

chain_over : (e : tree.Expression) (ts rest : Tokens) → DerivesAt 12 e ts rest → AtFree e rest → sees is_link rest ≡ false → sees (extends e) rest ≡ false
chain_over (tree.named line x) ts rest h f k = named_unseen rest f k
chain_over (tree.placed line x v) ts rest h f k = k
chain_over (tree.placed_by line x e) ts rest h f k = k
chain_over (tree.member e x) ts rest h f k = k
chain_over (tree.element e i) ts rest h f k = k
chain_over (tree.slice e a b) ts rest h f k = k
chain_over (tree.binary o a b) ts rest h f k = let small = level_small o in absurd (omega (arith, h.0))
chain_over _ ts rest h f k = absurd (omega (arith, h.0))

member_ok : (d : ℕ) (first ts rest : Tokens) (e x : tree.Expression) → Chained d first x ts → member x ts ≡ Some (e, rest) → Chained d first e rest
unfolding member
member_ok d first ts rest e x c h =
    let (line, a, one, h1) = and_then_ok (symbol s.Dot ts) _ (e, rest) h in
    let (y, b, two, h2) = and_then_ok (name a) _ (e, rest) h1 in
    made (Chained d first) h2 ((ts, c.0, (a, symbol_ok s.Dot ts a line one, name_ok a b y two)), c.1, tt)

bounds_ok : (d : ℕ) (first ts mid rest : Tokens) (e x : tree.Expression) → Chained d first x ts → 1 ≤ d → Takes (t.symbol s.LeftBracket) ts mid → bounds x mid ≡ Some (e, rest) → Chained d first e rest
unfolding bounds
bounds_ok d first ts mid rest e x c some bracket h =
    let (high, a, one, h1) = and_then_ok (number mid) _ (e, rest) h in
    let (colon, b, two, h2) = and_then_ok (symbol s.Colon a) _ (e, rest) h1 in
    let (low, f, three, h3) = and_then_ok (number b) _ (e, rest) h2 in
    let (close, g, four, h4) = and_then_ok (symbol s.RightBracket f) _ (e, rest) h3 in
    let few : max (depth x) 1 ≤ d = omega (arith, c.1) in
    made (Chained d first) h4 ((ts, c.0, (mid, bracket, (a, number_ok mid a high one, (b, symbol_ok s.Colon a b colon two, (f, number_ok b f low three, symbol_ok s.RightBracket f g close four))))), few, tt)

-- what stands in brackets, where so many may still be opened
module _ (d : ℕ) (within : Parser tree.Expression) (within_ok : (ts rest : Tokens) (e : tree.Expression) → within ts ≡ Some (e, rest) → Short (DerivesAt 0 e) ts rest × (suc (depth e) ≤ d)) where
  pub group_ok : (ts rest : Tokens) (x : ℕ × tree.Expression) → group d within ts ≡ Some (x, rest) → (At x.0 (t.symbol s.LeftParen) ⨾ Short (DerivesAt 0 x.1) ⨾ Takes (t.symbol s.RightParen)) ts rest × (suc (depth x.1) ≤ d)
  unfolding group
  group_ok ts rest x h =
      let (line, a, one, h1) = and_then_ok (opened d s.LeftParen ts) _ (x, rest) h in
      let (e, b, two, h2) = and_then_ok (within a) _ (x, rest) h1 in
      let (close, c, three, h3) = and_then_ok (symbol s.RightParen b) _ (x, rest) h2 in
      let same : ◌≡◌ {A = (ℕ × tree.Expression) × Tokens} ((line, e), c) (x, rest) = cc h3 in
      let inner = within_ok a b e two in
      subst (λ (z : (ℕ × tree.Expression) × Tokens). (At z.0.0 (t.symbol s.LeftParen) ⨾ Short (DerivesAt 0 z.0.1) ⨾ Takes (t.symbol s.RightParen)) ts z.1 × (suc (depth z.0.1) ≤ d)) same
      ((a, (opened_ok d s.LeftParen ts a line one).0, (b, inner.0, symbol_ok s.RightParen b c close three)), inner.1)

  -- the same whatever the line
  pub parens_ok : (ts rest : Tokens) (x : ℕ × tree.Expression) → group d within ts ≡ Some (x, rest) → Parenthesized (DerivesAt 0 x.1) ts rest × (suc (depth x.1) ≤ d)
  parens_ok ts rest x h =
      let (g, few) = group_ok ts rest x h in
      ((g.0, (x.0, g.1), g.2), few)

  paren_ok : (ts rest : Tokens) (e : tree.Expression) → paren d within ts ≡ Some (e, rest) → Good 11 d ts e rest
  unfolding paren
  paren_ok ts rest e h =
      let (x, a, one, h1) = and_then_ok (group d within ts) _ (e, rest) h in
      let (g, few) = group_ok ts a x one in
      made (Good 11 d ts) h1 ((omega arith, g), few, unseen _ a (λ x. refl))

  convert_ok : (c : Conversion) (ts rest : Tokens) (e : tree.Expression) → start_of ts ≡ start.Convert c → convert d within c ts ≡ Some (e, rest) → Good 11 d ts e rest
  unfolding convert
  convert_ok c ts rest e begins h =
      let (line, a, one, h1) = and_then_ok (skip ts) _ (e, rest) h in
      let (x, b, two, h2) = and_then_ok (group d within a) _ (e, rest) h1 in
      let (g, few) = parens_ok a b x two in
      made (Good 11 d ts) h2 ((omega arith, (a, conversion_at c line ts a begins one, g)), few, unseen _ b (λ x. refl))

  vector_ok : (ts rest : Tokens) (e : tree.Expression) → start_of ts ≡ start.Vector → vector d within ts ≡ Some (e, rest) → Good 11 d ts e rest
  unfolding vector
  vector_ok ts rest e begins h =
      let (line, a, one, h1) = and_then_ok (skip ts) _ (e, rest) h in
      let (less, b, two, h2) = and_then_ok (symbol s.Less a) _ (e, rest) h1 in
      let (width, c, three, h3) = and_then_ok (number b) _ (e, rest) h2 in
      let (more, f, four, h4) = and_then_ok (symbol s.Greater c) _ (e, rest) h3 in
      let (x, g, five, h5) = and_then_ok (group d within f) _ (e, rest) h4 in
      let (inner, few) = parens_ok f g x five in
      made (Good 11 d ts) h5 ((omega arith, (a, vector_at line ts a begins one, (b, symbol_ok s.Less a b less two, (c, number_ok b c width three, (f, symbol_ok s.Greater c f more four, inner))))), few, unseen _ g (λ x. refl))

  concat_ok : (ts rest : Tokens) (e : tree.Expression) → start_of ts ≡ start.Concat → concat d within ts ≡ Some (e, rest) → Good 11 d ts e rest
  unfolding concat
  concat_ok ts rest e begins h =
      let (line, a, one, h1) = and_then_ok (skip ts) _ (e, rest) h in
      let (paren, b, two, h2) = and_then_ok (opened d s.LeftParen a) _ (e, rest) h1 in
      let (x, c, three, h3) = and_then_ok (within b) _ (e, rest) h2 in
      let (comma, f, four, h4) = and_then_ok (symbol s.Comma c) _ (e, rest) h3 in
      let (y, g, five, h5) = and_then_ok (within f) _ (e, rest) h4 in
      let (close, i, six, h6) = and_then_ok (symbol s.RightParen g) _ (e, rest) h5 in
      let upper = within_ok b c x three in
      let lower = within_ok f g y five in
      let few : suc (max (depth x) (depth y)) ≤ d = omega (arith, upper.1, lower.1) in
      made (Good 11 d ts) h6 ((omega arith, (a, concat_at line ts a begins one, (b, (paren, (opened_ok d s.LeftParen a b paren two).0), (c, upper.0, (f, symbol_ok s.Comma c f comma four, (g, lower.0, symbol_ok s.RightParen g i close six)))))), few, unseen _ i (λ x. refl))

  place_ok : (x : ℕ × List ℕ) (ts mid rest : Tokens) (e : tree.Expression) → At x.0 (t.name x.1) ts mid → place d within x mid ≡ Some (e, rest) → Chained d ts e rest
  unfolding place
  place_ok x ts mid rest e name_at h =
      let (line, a, one, h1) = and_then_ok (symbol s.At mid) _ (e, rest) h in
      choose_cases sees_number (placed d within x) (placed_by d within x) a (e, rest) h1
      (λ is h2.
      let (v, b, two, h3) = and_then_ok (number a) _ (e, rest) h2 in
      made (Chained d ts) h3 ((mid, name_at, (a, symbol_ok s.At mid a line one, number_ok a b v two)), omega arith, tt))
      (λ is h2.
      let (y, b, two, h3) = and_then_ok (group d within a) _ (e, rest) h2 in
      let (g, few) = parens_ok a b y two in
      made (Chained d ts) h3 ((mid, name_at, (a, symbol_ok s.At mid a line one, g)), few, tt))

  channel_ok : (ts rest : Tokens) (e : tree.Expression) → channel d within ts ≡ Some (e, rest) → Chained d ts e rest
  unfolding channel
  channel_ok ts rest e h =
      let (x, a, one, h1) = and_then_ok (named ts) _ (e, rest) h in
      choose_cases (sees (is_the_symbol s.At)) (place d within x) (pure (tree.named x.0 x.1)) a (e, rest) h1
      (λ is h2. place_ok x ts a rest e (named_ok ts a x one) h2)
      (λ is h2. made (Chained d ts) h2 (named_ok ts a x one, omega arith, is))

  index_ok : (first ts rest : Tokens) (e x : tree.Expression) → Chained d first x ts → index d within x ts ≡ Some (e, rest) → Chained d first e rest
  unfolding index
  index_ok first ts rest e x c h =
      let (line, a, one, h1) = and_then_ok (opened d s.LeftBracket ts) _ (e, rest) h in
      let (bracket, some) = opened_ok d s.LeftBracket ts a line one in
      choose_cases sees_bounds (bounds x) (element d within x) a (e, rest) h1
      (λ is h2. bounds_ok d first ts a rest e x c some (line, bracket) h2)
      (λ is h2.
      let (i, b, two, h3) = and_then_ok (within a) _ (e, rest) h2 in
      let (close, f, three, h4) = and_then_ok (symbol s.RightBracket b) _ (e, rest) h3 in
      let inner = within_ok a b i two in
      let few : max (depth x) (suc (depth i)) ≤ d = omega (arith, c.1, inner.1) in
      made (Chained d first) h4 ((ts, c.0, (a, (line, bracket), (b, inner.0, symbol_ok s.RightBracket b f close three))), few, tt))

  link_ok : (first ts rest : Tokens) (e x : tree.Expression) → Chained d first x ts → link d within x ts ≡ Some (e, rest) → Chained d first e rest
  unfolding link
  link_ok first ts rest e x c h =
      choose_cases (sees (is_the_symbol s.Dot)) (member x) (index d within x) ts (e, rest) h
      (λ is h1. member_ok d first ts rest e x c h1)
      (λ is h1. index_ok first ts rest e x c h1)

  chain_ok : (ts rest : Tokens) (e : tree.Expression) → chain d within ts ≡ Some (e, rest) → Good 11 d ts e rest
  unfolding chain
  chain_ok ts rest e h =
      let (x, a, one, h1) = and_then_ok (channel d within ts) _ (e, rest) h in
      let (c, stop) = repeat_ok at_no_link (link d within) (Chained d ts) (λ x y ts' rest' k go more. link_ok ts ts' rest' y x k more) 257 x e a rest (channel_ok ts a x one) h1 in
      (lower e 11 12 ts rest (omega arith) c.0, c.1, chain_over e ts rest c.0 c.2 (link_unseen rest stop))

  primary_by : (x : Start) (ts rest : Tokens) (e : tree.Expression) → start_of ts ≡ x → primary_of d within x ts ≡ Some (e, rest) → Good 11 d ts e rest
  primary_by start.Number ts rest e begins h = number_or_time_ok d ts rest e h
  primary_by start.Logic ts rest e begins h = literal_ok d ts rest e h
  primary_by start.Name ts rest e begins h = chain_ok ts rest e h
  primary_by start.Paren ts rest e begins h = paren_ok ts rest e h
  primary_by (start.Leaf l) ts rest e begins h = leaf_ok l d ts rest e begins h
  primary_by (start.Convert c) ts rest e begins h = convert_ok c ts rest e begins h
  primary_by start.Vector ts rest e begins h = vector_ok ts rest e begins h
  primary_by start.Concat ts rest e begins h = concat_ok ts rest e begins h
  primary_by start.Nothing ts rest e begins h = cc

  primary_ok : (ts rest : Tokens) (e : tree.Expression) → primary d within ts ≡ Some (e, rest) → Good 11 d ts e rest
  unfolding primary
  primary_ok ts rest e h = primary_by (start_of ts) ts rest e refl h

  unary_ok : (o : UnaryOp) (ts rest : Tokens) (e : tree.Expression) → sign_ahead ts ≡ Some o → unary d within o ts ≡ Some (e, rest) → Good 10 d ts e rest
  unfolding unary
  unary_ok o ts rest e is h =
      let (line, a, one, h1) = and_then_ok (skip ts) _ (e, rest) h in
      let (x, b, two, h2) = and_then_ok (primary d within a) _ (e, rest) h1 in
      let inner = primary_ok a b x two in
      made (Good 10 d ts) h2 ((omega arith, (a, sign_at o line ts a is one, inner.0)), inner.1, inner.2)

  operand_ok : (ts rest : Tokens) (e : tree.Expression) → operand d within ts ≡ Some (e, rest) → Good 10 d ts e rest
  unfolding operand
  operand_ok ts rest e h =
      where_cases (sign_ahead ts) (primary d within) (unary d within) ts (e, rest) h
      (λ none h1. let one = primary_ok ts rest e h1 in (lower e 10 11 ts rest (omega arith) one.0, one.1, one.2))
      (λ o some h1. unary_ok o ts rest e some h1)

-- levels

-- no operator of this level or a tighter one comes
abbrev pub NoneFrom : ℕ → Tokens → Type 0
NoneFrom n ts = (o : BinaryOp) → operator_ahead ts ≡ Some o → level o < n

abbrev pub Levelled : ℕ → ℕ → Tokens → tree.Expression → Tokens → Type 0
Levelled n d ts e rest = Good n d ts e rest × NoneFrom n rest

other_less : (m n : ℕ) → not (m == n) ≡ true → m < suc n → m < n
other_less m n h k = grind (arith, nat_tests)

not_other : (m n : ℕ) → not (m == n) ≡ false → m ≡ n
not_other m n h = grind (arith, nat_tests)

pub not_of : (n : ℕ) (o : BinaryOp) → is_not_of n (Some o) ≡ true → level o < suc n → level o < n
not_of n o h k = other_less (level o) n h k

pub of_level : (n : ℕ) (o : BinaryOp) → is_not_of n (Some o) ≡ false → level o ≡ n
of_level n o h = not_other (level o) n h

none_of_level : (n : ℕ) (ts : Tokens) → at_none_of n ts ≡ true → NoneFrom (suc n) ts → NoneFrom n ts
none_of_level n ts h k o e = not_of n o (rw e at h) (k o e)

some_operator : (n : ℕ) (x : Option BinaryOp) → is_not_of n x ≡ false → (o : BinaryOp) × (x ≡ Some o) × (level o ≡ n)
some_operator n None h = cc
some_operator n (Some o) h = (o, refl, of_level n o h)

-- an operator and what its right operand's parser reads
binary_ok : (next : Parser tree.Expression) (n d : ℕ) (next_ok : (ts rest : Tokens) (e : tree.Expression) → next ts ≡ Some (e, rest) → Levelled (suc n) d ts e rest) (first ts rest : Tokens) (x e : tree.Expression) → Good n d first x ts → at_none_of n ts ≡ false → binary next x ts ≡ Some (e, rest) → Good n d first e rest × NoneFrom (suc n) rest
unfolding binary
binary_ok next n d next_ok first ts rest x e g go h =
    let (o, is, same) = some_operator n (operator_ahead ts) go in
    let h0 : with_operator next x (Some o) ts ≡ Some (e, rest) = rw is at h in
    let (line, a, one, h1) = and_then_ok (skip ts) _ (e, rest) h0 in
    let (y, b, two, h2) = and_then_ok (next a) _ (e, rest) h1 in
    let (right, free) = next_ok a b y two in
    let left_at : DerivesAt (level o) x first ts = subst (λ m. DerivesAt m x first ts) (sym same) g.0 in
    let right_at : DerivesAt (suc (level o)) y a b = subst (λ m. DerivesAt (suc m) y a b) (sym same) right.0 in
    let few : max (depth x) (depth y) ≤ d = omega (arith, g.1, right.1) in
    made (λ z r. Good n d first z r × NoneFrom (suc n) r) h2 (((omega (arith, same), (ts, left_at, (a, (line, operator_at o line ts a is one), right_at))), few, right.2), free)

levelled_ok : (next : Parser tree.Expression) (n d : ℕ) (next_ok : (ts rest : Tokens) (e : tree.Expression) → next ts ≡ Some (e, rest) → Levelled (suc n) d ts e rest) (ts rest : Tokens) (e : tree.Expression) → levelled n next ts ≡ Some (e, rest) → Levelled n d ts e rest
unfolding levelled
levelled_ok next n d next_ok ts rest e h =
    let (x, a, one, h1) = and_then_ok (next ts) _ (e, rest) h in
    let (first, free) = next_ok ts a x one in
    let (all, stop) = repeat_ok (at_none_of n) (binary next) (λ z r. Good n d ts z r × NoneFrom (suc n) r) (λ x y ts' rest' k go more. binary_ok next n d next_ok ts ts' rest' x y k.0 go more) 257 x e a rest ((lower x n (suc n) ts a (omega arith) first.0, first.1, first.2), free) h1 in
    (all.0, none_of_level n rest stop all.1)

module _ (d : ℕ) (within : Parser tree.Expression) (within_ok : (ts rest : Tokens) (e : tree.Expression) → within ts ≡ Some (e, rest) → Short (DerivesAt 0 e) ts rest × (suc (depth e) ≤ d)) where
  climb_ok : (k n : ℕ) → n + k ≡ 10 → (ts rest : Tokens) (e : tree.Expression) → climb d within k n ts ≡ Some (e, rest) → Levelled n d ts e rest
  unfolding climb
  climb_ok zero n ten ts rest e h =
      let one = operand_ok d within within_ok ts rest e h in
      ((lower e n 10 ts rest (omega arith) one.0, one.1, one.2), λ o is. let small = level_small o in omega arith)
  climb_ok (suc k) n ten ts rest e h = levelled_ok (climb d within k (suc n)) n d (climb_ok k (suc n) (omega arith)) ts rest e h

pub is_le : (a b : ℕ) → nat_le a b ≡ true → a ≤ b
is_le a b h = grind (arith, nat_tests)

pub short_ok : (p : Parser tree.Expression) (ts rest : Tokens) (e : tree.Expression) → short p ts ≡ Some (e, rest) → (p ts ≡ Some (e, rest)) × (length ts ≤ 256 + length rest)
short_ok p ts rest e h =
    let (x, a, one, h1) = and_then_ok (p ts) (measured ts) (e, rest) h in
    let (few, same) = cond_some (nat_le (length ts) (256 + length a)) (x, a) (e, rest) h1 in
    subst (λ (z : tree.Expression × Tokens). (p ts ≡ Some z) × (length ts ≤ 256 + length z.1)) same (one, is_le (length ts) (256 + length a) few)

pub inside_ok : (d : ℕ) (ts rest : Tokens) (e : tree.Expression) → inside d ts ≡ Some (e, rest) → Short (DerivesAt 0 e) ts rest × (suc (depth e) ≤ d)
unfolding inside
inside_ok zero ts rest e h = cc
inside_ok (suc d) ts rest e h =
    let (one, few) = short_ok (climb d (inside d) 10 0) ts rest e h in
    let good = (climb_ok d (inside d) (inside_ok d) 10 0 refl ts rest e one).0 in
    ((good.0, few), omega (arith, good.1))

no_operator : (o : Option BinaryOp) → ((x : BinaryOp) → o ≡ Some x → level x < 0) → is_some o ≡ false
no_operator None f = refl
no_operator (Some x) f = absurd (omega (arith, f x refl))

pub is_over : (e : tree.Expression) (rest : Tokens) → NoneFrom 0 rest → sees (extends e) rest ≡ false → sees (goes_on e) rest ≡ false
is_over e [] free k = refl
is_over e (y ∷ ts) free k = rw (no_operator (operator_in y.0) free, k) refl

pub expression_ok : (d : ℕ) (ts rest : Tokens) (e : tree.Expression) → expression d ts ≡ Some (e, rest) → BeginsWith d e ts rest
unfolding expression
expression_ok d ts rest e h =
    let (one, few) = short_ok (climb d (inside d) 10 0) ts rest e h in
    let (good, free) = climb_ok d (inside d) (inside_ok d) 10 0 refl ts rest e one in
    ((good.0, few), good.1, is_over e rest free good.2)
