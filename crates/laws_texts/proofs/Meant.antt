-- The tokens of a tree that keeps to its language are the same again, once they are cut as a text is and read in that language.
use Rattle.std.proofs.Common.{◌≡◌, ℕ, Bool, true, false, ◌&&◌, ◌||◌, List, [], ◌∷◌, ◌++◌, Option, Some, None, refl, sym, ap, subst, ◌∙◌}
use Rattle.std.specs.Prelude.{not, is_some}
use Rattle.std.specs.List.{flat_map, list_all}
use Rattle.std.proofs.lemmas.Bool.{and_parts}
use Rattle.std.proofs.lemmas.List.Folds.{list_all-append}
use Rattle.model_print.specs.SimTime.declared.moments.Unit.{Unit as TimeUnit}
use Rattle.model_print.specs.SimTime.declared.moments.Unit.TheVariants as unit
use Rattle.model_print.specs.LogicValues.declared.kinds.Digit.{Digit}
use Rattle.model_print.specs.ModelTree.declared.types.SignalType.{SignalType}
use Rattle.model_print.specs.ModelTree.declared.types.TypeForm.{TypeForm}
use Rattle.model_print.specs.ModelTree.declared.types.TypeForm.TheVariants as form
use Rattle.model_print.specs.ModelTree.declared.types.VarType.{VarType}
use Rattle.model_print.specs.ModelTree.declared.types.VarType.TheVariants as var_type
use Rattle.model_print.specs.ModelTree.declared.types.Constant.{Constant}
use Rattle.model_print.specs.ModelTree.declared.types.ConstantForm.{ConstantForm}
use Rattle.model_print.specs.ModelTree.declared.types.ConstantForm.TheVariants as constant
use Rattle.model_print.specs.ModelTree.declared.types.Span.{Span}
use Rattle.model_print.specs.ModelTree.declared.types.Interface.{Interface}
use Rattle.model_print.specs.ModelTree.declared.types.Interface.TheVariants as interface
use Rattle.model_print.specs.ModelTree.declared.types.BoundRule.{BoundRule}
use Rattle.model_print.specs.ModelTree.declared.types.BoundRule.TheVariants as bound
use Rattle.model_print.specs.ModelTree.declared.types.PortSize.{PortSize}
use Rattle.model_print.specs.ModelTree.declared.types.Parameter.{Parameter}
use Rattle.model_print.specs.ModelTree.declared.types.End.{End}
use Rattle.model_print.specs.ModelTree.declared.statements.Who.{Who}
use Rattle.model_print.specs.ModelTree.declared.statements.Who.TheVariants as who
use Rattle.model_print.specs.ModelTree.declared.items.InitiatorRole.{InitiatorRole}
use Rattle.model_print.specs.ModelTree.declared.items.InitiatorRole.TheVariants as initiator
use Rattle.model_print.specs.ModelTree.declared.items.TargetRole.{TargetRole}
use Rattle.model_print.specs.ModelTree.declared.items.TargetRole.TheVariants as target
use Rattle.model_print.specs.ModelTree.declared.items.Top.{Top}
use Rattle.model_print.specs.ModelTree.declared.items.ResolutionLine.{ResolutionLine}
use Rattle.model_print.specs.ModelTree.declared.items.Head.{Head}
use Rattle.model_print.specs.ModelTree.declared.items.Head.TheVariants as head
use Rattle.model_print.specs.ModelTree.declared.vocabulary.Word.{Word}
use Rattle.model_print.specs.ModelTree.declared.vocabulary.Word.TheVariants as w
use Rattle.model_print.specs.ModelTree.declared.vocabulary.Symbol.{Symbol}
use Rattle.model_print.specs.ModelTree.declared.vocabulary.Symbol.TheVariants as s
use Rattle.model_print.specs.ModelTree.Vocabulary.{later_word_of}
use Rattle.model_print.specs.ModelTree.Tree as tree
use Rattle.model_tree.specs.Parts as made
use Rattle.model_tree.specs.Parts.{Part, word_of_action, parts_of}
use Rattle.model_print.specs.ModelTree.Languages as leaf
use Rattle.model_print.specs.ModelTree.Languages.{Leaf, Leaves, named, in_unit, descending, may_have}
use Rattle.model_lexer.specs.Tokens.{Token, Tokens, name, number, logic, quoted, word, symbol, unit_token}
use Rattle.model_lexer.specs.Languages.{Front, behind_number, behind_at, behind_other, behind_symbol, behind, word_or_same, later_token, in_second, says_second, in_language}
use Rattle.model_lexer.specs.Rules.{Rule, ◌⨾◌, At, Takes, Nothing, Never, Each, Separated, Maybe, Written, Binds, OnLine}
use Rattle.model_lexer.specs.Expressions.{Short, Parenthesized, DerivesAt, DerivesExpression}
use Rattle.model_lexer.specs.Statements.{DerivesForm, DerivesType, DerivesVarTypeAt, DerivesVarType, DerivesPlace, DerivesChannel, DerivesMember, DerivesEvent, DerivesSensitive, DerivesArguments, DerivesIndex, DerivesTarget, NextName, NextExpression, DerivesOperation, DerivesResult, DerivesSpan, DerivesWaiting, DerivesNotification, DerivesHandle, DerivesSpawn, DerivesWho, DerivesPart, DerivesParts, DerivesAction, Braced, DerivesInitial, DerivesStatement, DerivesStatements, DerivesElse, HasHandler, DerivesHandlers}
use Rattle.model_lexer.specs.Items.{DerivesConstantForm, DerivesFirstValue, DerivesTime, DerivesStart, DerivesFifoSize, DerivesInterface, DerivesBound, DerivesPortSize, DerivesHandler, DerivesInitiatorRole, DerivesTargetRole, DerivesEnd, DerivesMode, DerivesParameter, DerivesParameters, DerivesAnswer, DerivesItem, DerivesModule, DerivesTop, DerivesModel, DerivesResolution, DerivesHead, DerivesSource}
use Rattle.laws_texts.proofs.ChosenWords.{truth_same, conversion_same, constant_same, signal_same, kind_same, process_same, unary_calm, binary_calm, action_same}
use Rattle.laws_texts.proofs.Reading.{as_cut}

-- tokens as a text is cut into them, and these as their language has them, behind what stands in front

abbrev pub cut : Tokens → Tokens
cut [] = []
cut (t ∷ ts) = (as_cut t.0, t.1) ∷ cut ts

abbrev pub in_head : Head → Front → Tokens → Tokens
in_head head.First f ts = ts
in_head (head.Second r) f ts = in_second f ts

abbrev meant : Head → Front → Token → Token
meant head.First f t = t
meant (head.Second r) f t = later_token f t

one_token : (h : Head) (f : Front) (t : Token) (line : ℕ) (ts : Tokens) → meant h f (as_cut t) ≡ t → in_head h (behind f (as_cut t)) (cut ts) ≡ ts → in_head h f (cut ((t, line) ∷ ts)) ≡ (t, line) ∷ ts
one_token head.First f t line ts e more = ap (λ (u : Token). (u, line) ∷ cut ts) e ∙ ap (λ (us : Tokens). (t, line) ∷ us) more
one_token (head.Second r) f t line ts e more = ap (λ (u : Token). (u, line) ∷ in_second (behind f (as_cut t)) (cut ts)) e ∙ ap (λ (us : Tokens). (t, line) ∷ us) more

-- what may stand in front

abbrev Any : Front → Type 0
Any f = Unit {0}

abbrev Calm : Front → Type 0
Calm f = f ≡ behind_other

abbrev Counted : Front → Type 0
Counted f = f ≡ behind_number

abbrev Placed : Front → Type 0
Placed f = f ≡ behind_at

-- the tokens that a rule takes behind such a front are the same again, and leave such a one
record Told (h : Head) (A : Front → Type 0) (P : Rule) (B : Front → Type 0) : Type 0 where
  pub told : (f : Front) → A f → (ts rest : Tokens) → P ts rest → ((g : Front) → B g → in_head h g (cut rest) ≡ rest) → in_head h f (cut ts) ≡ ts

-- single tokens

meant_symbol : (h : Head) (f : Front) (u : Symbol) → meant h f (symbol u) ≡ symbol u
meant_symbol head.First f u = refl
meant_symbol (head.Second r) f u = refl

meant_number : (h : Head) (f : Front) (n : ℕ) → meant h f (number n) ≡ number n
meant_number head.First f n = refl
meant_number (head.Second r) f n = refl

meant_logic : (h : Head) (f : Front) (ds : List Digit) → meant h f (logic ds) ≡ logic ds
meant_logic head.First f ds = refl
meant_logic (head.Second r) f ds = refl

meant_quoted : (h : Head) (f : Front) (x : List ℕ) → meant h f (quoted x) ≡ quoted x
meant_quoted head.First f x = refl
meant_quoted (head.Second r) f x = refl

meant_word : (h : Head) (f : Front) (u : Word) → meant h f (word u) ≡ word u
meant_word head.First f u = refl
meant_word (head.Second r) f u = refl

no_word : (o : Option Word) (x : List ℕ) → not (is_some o) ≡ true → word_or_same o x ≡ name x
no_word None x k = refl
no_word (Some u) x k = cc

meant_name : (h : Head) (x : List ℕ) → may_have h (named x) ≡ true → meant h behind_other (name x) ≡ name x
meant_name head.First x k = refl
meant_name (head.Second r) x k = no_word (later_word_of x) x k

meant_unit : (h : Head) (u : TimeUnit) → may_have h (in_unit u) ≡ true → meant h behind_number (as_cut (unit_token u)) ≡ unit_token u
unfolding later_word_of
meant_unit head.First unit.Fs k = cc
meant_unit head.First unit.Ps k = refl
meant_unit head.First unit.Ns k = refl
meant_unit head.First unit.Us k = refl
meant_unit head.First unit.Ms k = refl
meant_unit head.First unit.S k = refl
meant_unit (head.Second r) unit.Fs k = refl
meant_unit (head.Second r) unit.Ps k = refl
meant_unit (head.Second r) unit.Ns k = refl
meant_unit (head.Second r) unit.Us k = refl
meant_unit (head.Second r) unit.Ms k = refl
meant_unit (head.Second r) unit.S k = refl

unit_calm : (u : TimeUnit) (f : Front) → behind f (as_cut (unit_token u)) ≡ behind_other
unit_calm unit.Fs f = refl
unit_calm _ f = refl

meant_descendants : (h : Head) → may_have h descending ≡ true → meant h behind_other (as_cut (word w.Descendants)) ≡ word w.Descendants
unfolding later_word_of
meant_descendants head.First k = cc
meant_descendants (head.Second r) k = refl

-- parts of an action: whether a word or a name may stand behind one, and whether it begins with a comma
abbrev is_calm : Part → Bool
is_calm (made.name r x) = true
is_calm (made.next_name r x) = true
is_calm (made.reaching_name r x all) = true
is_calm (made.text x) = true
is_calm (made.term u e) = false
is_calm (made.term_if u e) = false
is_calm (made.next_term u e) = false
is_calm (made.next_term_if u e) = false
is_calm (made.channel u c) = true
is_calm (made.waiting t) = false
is_calm (made.notification t) = false
is_calm (made.instance x) = true
is_calm (made.process p) = true
is_calm (made.reaching_process p all) = true

abbrev is_next : Part → Bool
is_next (made.name r x) = false
is_next (made.next_name r x) = true
is_next (made.reaching_name r x all) = false
is_next (made.text x) = false
is_next (made.term u e) = false
is_next (made.term_if u e) = false
is_next (made.next_term u e) = true
is_next (made.next_term_if u e) = true
is_next (made.channel u c) = false
is_next (made.waiting t) = false
is_next (made.notification t) = false
is_next (made.instance x) = false
is_next (made.process p) = false
is_next (made.reaching_process p all) = false

abbrev Left : Bool → Front → Type 0
Left true = Calm
Left false = Any

abbrev is_well : Part → List Part → Bool
is_well p [] = true
is_well p (q ∷ qs) = (is_calm p || is_next q) && is_well q qs

abbrev are_well : List Part → Bool
are_well [] = true
are_well (p ∷ ps) = is_well p ps

action_well : (a : tree.Action) → are_well (parts_of a) ≡ true
action_well tree.stop = refl
action_well _ = refl

abbrev Fine : Head → (Front → Type 0) → Token → (Front → Type 0) → Type 0
Fine h A t B = (f : Front) → A f → (meant h f (as_cut t) ≡ t) × B (behind f (as_cut t))

at : {h : Head} {A B : Front → Type 0} {line : ℕ} {t : Token} → Fine h A t B → Told h A (At line t) B
at {h} {A} {B} {line} {t} fine = record {
  told = λ f a ts rest is more.
      subst (λ (ys : Tokens). in_head h f (cut ys) ≡ ys) (sym is) (one_token h f t line rest (fine f a).0 (more (behind f (as_cut t)) (fine f a).1));
}

takes : {h : Head} {A B : Front → Type 0} {t : Token} → Fine h A t B → Told h A (Takes t) B
takes {h} {A} {B} {t} fine = record { told = λ f a ts rest is more. (at {h = h} {A = A} {B = B} fine).told f a ts rest is.1 more }

nothing : {h : Head} {A : Front → Type 0} → Told h A Nothing A
nothing {h} {A} = record { told = λ f a ts rest is more. subst (λ (ys : Tokens). in_head h f (cut ys) ≡ ys) (sym is) (more f a) }

infixr 2 ◌>>◌
◌>>◌ : {h : Head} {A B C : Front → Type 0} {P Q : Rule} → Told h A P B → Told h B Q C → Told h A (P ⨾ Q) C
first >> second = record { told = λ f a ts rest is more. first.told f a ts is.0 is.1 (λ g b. second.told g b is.0 rest is.2 more) }

loose : {h : Head} {A B : Front → Type 0} {P : Rule} → Told h A P B → Told h A P Any
loose rule = record { told = λ f a ts rest is more. rule.told f a ts rest is (λ g b. more g tt) }

never : {h : Head} {A B : Front → Type 0} → Told h A Never B
never = record { told = λ f a ts rest is more. absurd is }

short : {h : Head} {A B : Front → Type 0} {P : Rule} → Told h A P B → Told h A (Short P) B
short rule = record { told = λ f a ts rest is more. rule.told f a ts rest is.0 more }

binds : {h : Head} {A B : Front → Type 0} {wanted own : ℕ} {P : Rule} → Told h A P B → Told h A (Binds wanted own P) B
binds rule = record { told = λ f a ts rest is more. rule.told f a ts rest is.1 more }

on_line : {h : Head} {A B : Front → Type 0} {line at : ℕ} {P : Rule} → Told h A P B → Told h A (OnLine line at P) B
on_line rule = record { told = λ f a ts rest is more. rule.told f a ts rest is.1 more }

any_line : {h : Head} {A B : Front → Type 0} {P : ℕ → Rule} → ((line : ℕ) → Told h A (P line) B) → Told h A (λ ts rest. (line : ℕ) × P line ts rest) B
any_line rule = record { told = λ f a ts rest is more. (rule is.0).told f a ts rest is.1 more }

-- tokens, on their line and on any

word_fine : (h : Head) (A : Front → Type 0) (u : Word) → as_cut (word u) ≡ word u → Fine h A (word u) Calm
word_fine h A u e = λ f a. (ap (meant h f) e ∙ meant_word h f u, ap (behind f) e)

word_at : {h : Head} {A : Front → Type 0} {line : ℕ} {u : Word} → as_cut (word u) ≡ word u → Told h A (At line (word u)) Calm
word_at {h} {A} {line} {u} e = at {h = h} {A = A} {B = Calm} (word_fine h A u e)

word_taken : {h : Head} {A : Front → Type 0} {u : Word} → as_cut (word u) ≡ word u → Told h A (Takes (word u)) Calm
word_taken {h} {A} {u} e = takes {h = h} {A = A} {B = Calm} (word_fine h A u e)

written : {h : Head} (u : Word) (b : Bool) → as_cut (word u) ≡ word u → Told h Calm (Written (word u) b) Calm
written u true e = word_taken e
written u false e = nothing

mark_fine : (h : Head) (A : Front → Type 0) (u : Symbol) → behind_symbol u ≡ behind_other → Fine h A (symbol u) Calm
mark_fine h A u e = λ f a. (meant_symbol h f u, e)

mark_at : {h : Head} {A : Front → Type 0} {line : ℕ} {u : Symbol} → behind_symbol u ≡ behind_other → Told h A (At line (symbol u)) Calm
mark_at {h} {A} {line} {u} e = at {h = h} {A = A} {B = Calm} (mark_fine h A u e)

mark : {h : Head} {A : Front → Type 0} {u : Symbol} → behind_symbol u ≡ behind_other → Told h A (Takes (symbol u)) Calm
mark {h} {A} {u} e = takes {h = h} {A = A} {B = Calm} (mark_fine h A u e)

name_fine : (h : Head) (x : List ℕ) → may_have h (named x) ≡ true → Fine h Calm (name x) Calm
name_fine h x k = λ f is. (subst (λ (g : Front). meant h g (name x) ≡ name x) (sym is) (meant_name h x k), refl)

name_at : {h : Head} {line : ℕ} {x : List ℕ} → may_have h (named x) ≡ true → Told h Calm (At line (name x)) Calm
name_at {h} {line} {x} k = at {h = h} {A = Calm} {B = Calm} (name_fine h x k)

name_taken : {h : Head} {x : List ℕ} → may_have h (named x) ≡ true → Told h Calm (Takes (name x)) Calm
name_taken {h} {x} k = takes {h = h} {A = Calm} {B = Calm} (name_fine h x k)

number_at : {h : Head} {A : Front → Type 0} {line n : ℕ} → Told h A (At line (number n)) Any
number_at {h} {A} {line} {n} = at {h = h} {A = A} {B = Any} (λ f a. (meant_number h f n, tt))

number_taken : {h : Head} {A : Front → Type 0} {n : ℕ} → Told h A (Takes (number n)) Any
number_taken {h} {A} {n} = takes {h = h} {A = A} {B = Any} (λ f a. (meant_number h f n, tt))

logic_at : {h : Head} {A : Front → Type 0} {line : ℕ} {ds : List Digit} → Told h A (At line (logic ds)) Calm
logic_at {h} {A} {line} {ds} = at {h = h} {A = A} {B = Calm} (λ f a. (meant_logic h f ds, refl))

quoted_taken : {h : Head} {A : Front → Type 0} {x : List ℕ} → Told h A (Takes (quoted x)) Calm
quoted_taken {h} {A} {x} = takes {h = h} {A = A} {B = Calm} (λ f a. (meant_quoted h f x, refl))

-- a number and its unit

number_first : (h : Head) (n : ℕ) → Fine h Calm (number n) Counted
number_first h n = λ f is. (meant_number h f n, ap (λ (g : Front). behind g (number n)) is)

unit_taken : {h : Head} (u : TimeUnit) → may_have h (in_unit u) ≡ true → Told h Counted (Takes (unit_token u)) Calm
unit_taken {h} u k = takes {h = h} {A = Counted} {B = Calm} (λ f is. (subst (λ (g : Front). meant h g (as_cut (unit_token u)) ≡ unit_token u) (sym is) (meant_unit h u k), unit_calm u f))

timed_at : {h : Head} {line n : ℕ} (u : TimeUnit) → may_have h (in_unit u) ≡ true → Told h Calm (At line (number n) ⨾ Takes (unit_token u)) Calm
timed_at {h} {line} {n} u k = at {h = h} {A = Calm} {B = Counted} (number_first h n) >> unit_taken u k

time : {h : Head} (t : Span) → may_have h (in_unit t.unit) ≡ true → Told h Calm (DerivesTime t) Calm
time {h} t k = takes {h = h} {A = Calm} {B = Counted} (number_first h t.count) >> unit_taken t.unit k

-- the number behind an `@`

at_sign : {h : Head} {A : Front → Type 0} → Told h A (Takes (symbol s.At)) Placed
at_sign {h} {A} = takes {h = h} {A = A} {B = Placed} (λ f a. (meant_symbol h f s.At, refl))

placed : {h : Head} {n : ℕ} → Told h Placed (Takes (number n)) Calm
placed {h} {n} = takes {h = h} {A = Placed} {B = Calm} (λ f is. (meant_number h f n, ap (λ (g : Front). behind g (number n)) is))

-- what stands in brackets

parenthesized : {h : Head} {A : Front → Type 0} {P : Rule} → Told h Calm P Any → Told h A (Parenthesized P) Calm
parenthesized rule = mark refl >> short rule >> mark refl

braced : {h : Head} {A : Front → Type 0} {P : Rule} → Told h Calm P Calm → Told h A (Braced P) Calm
braced rule = mark refl >> rule >> mark refl

module _ (h : Head) where
  abbrev Has : Leaves → Type 0
  Has xs = list_all (may_have h) xs ≡ true

  leaf_parts : (x : Leaf) (xs : Leaves) → Has (x ∷ xs) → (may_have h x ≡ true) × Has xs
  leaf_parts x xs k = and_parts (may_have h x) (list_all (may_have h) xs) k

  parts : (xs ys : Leaves) → Has (xs ++ ys) → Has xs × Has ys
  parts xs ys k = and_parts (list_all (may_have h) xs) (list_all (may_have h) ys) (sym (list_all-append (may_have h) xs ys) ∙ k)

  only : (x : Leaf) → Has (x ∷ []) → may_have h x ≡ true
  only x k = (leaf_parts x [] k).0

  -- control that reaches descendants

  descending_taken : (all : Bool) → Has (leaf.descending_if all) → Told h Calm (Written (word w.Descendants) all) Calm
  descending_taken true k =
      takes {h = h} {A = Calm} {B = Calm} (λ f is. (subst (λ (g : Front). meant h g (as_cut (word w.Descendants)) ≡ word w.Descendants) (sym is) (meant_descendants h (only descending k)), refl))
  descending_taken false k = nothing

  -- lists

  each : {A : Type 0} (R : A → Rule) (in_one : A → Leaves) → ((x : A) → Has (in_one x) → Told h Calm (R x) Calm) → (xs : List A) → Has (flat_map in_one xs) → Told h Calm (Each R xs) Calm
  each R in_one rule [] k = nothing
  each R in_one rule (x ∷ xs) k = let (a, b) = parts (in_one x) (flat_map in_one xs) k in rule x a >> each R in_one rule xs b

  -- of what may end anyhow, with a comma between two
  more_loose : {A : Type 0} (R : A → Rule) (in_one : A → Leaves) → ((x : A) → Has (in_one x) → Told h Calm (R x) Any) → (xs : List A) → Has (flat_map in_one xs) → Told h Any (Each (λ y. Takes (symbol s.Comma) ⨾ R y) xs) Any
  more_loose R in_one rule [] k = nothing
  more_loose R in_one rule (x ∷ xs) k = let (a, b) = parts (in_one x) (flat_map in_one xs) k in (mark refl >> rule x a) >> more_loose R in_one rule xs b

  separated_loose : {A : Type 0} (R : A → Rule) (in_one : A → Leaves) → ((x : A) → Has (in_one x) → Told h Calm (R x) Any) → (xs : List A) → Has (flat_map in_one xs) → Told h Calm (Separated (symbol s.Comma) R xs) Any
  separated_loose R in_one rule [] k = never
  separated_loose R in_one rule (x ∷ xs) k = let (a, b) = parts (in_one x) (flat_map in_one xs) k in rule x a >> more_loose R in_one rule xs b

  separated : {A : Type 0} (R : A → Rule) (in_one : A → Leaves) → ((x : A) → Has (in_one x) → Told h Calm (R x) Calm) → (xs : List A) → Has (flat_map in_one xs) → Told h Calm (Separated (symbol s.Comma) R xs) Calm
  separated R in_one rule [] k = never
  separated R in_one rule (x ∷ xs) k =
      let (a, b) = parts (in_one x) (flat_map in_one xs) k in
      rule x a >> each (λ y. Takes (symbol s.Comma) ⨾ R y) in_one (λ y q. mark refl >> rule y q) xs b

  -- expressions

  expression : (e : tree.Expression) (n : ℕ) → Has (leaf.in_expression e) → Told h Calm (DerivesAt n e) Any
  expression (tree.number line v) n k = binds number_at
  expression (tree.time line v u) n k = binds (loose (timed_at u (only (in_unit u) k)))
  expression (tree.logic line ds) n k = binds (loose logic_at)
  expression (tree.truth line b) n k = binds (loose (word_at (truth_same b)))
  expression (tree.now line) n k = binds (loose (word_at refl))
  expression (tree.myself line) n k = binds (loose (word_at refl))
  expression (tree.constant line c) n k = binds (loose (word_at (constant_same c)))
  expression (tree.paren line e) n k = binds (loose (mark_at refl >> short (expression e 0 k) >> mark refl))
  expression (tree.convert line c e) n k = binds (loose (word_at (conversion_same c) >> parenthesized (expression e 0 k)))
  expression (tree.to_vector line width e) n k = binds (loose (word_at refl >> mark refl >> number_taken >> mark refl >> parenthesized (expression e 0 k)))
  expression (tree.concat line upper lower) n k =
      let (a, b) = parts (leaf.in_expression upper) (leaf.in_expression lower) k in
      binds (loose (word_at refl >> mark refl >> short (expression upper 0 a) >> mark refl >> short (expression lower 0 b) >> mark refl))
  expression (tree.named line x) n k = loose (name_at (only (named x) k))
  expression (tree.placed line x m) n k = loose (name_at (only (named x) k) >> at_sign >> placed)
  expression (tree.placed_by line x e) n k =
      let (a, b) = leaf_parts (named x) (leaf.in_expression e) k in
      loose (name_at a >> at_sign >> parenthesized (expression e 0 b))
  expression (tree.member e x) n k =
      let (a, b) = parts (leaf.in_expression e) (named x ∷ []) k in
      loose (expression e _ a >> mark refl >> name_taken (only (named x) b))
  expression (tree.element e index) n k =
      let (a, b) = parts (leaf.in_expression e) (leaf.in_expression index) k in
      loose (expression e _ a >> mark refl >> short (expression index 0 b) >> mark refl)
  expression (tree.slice e high low) n k = loose (expression e _ k >> mark refl >> number_taken >> mark refl >> number_taken >> mark refl)
  expression (tree.unary line o e) n k = binds (mark_at (unary_calm o) >> expression e _ k)
  expression (tree.binary o left right) n k =
      let (a, b) = parts (leaf.in_expression left) (leaf.in_expression right) k in
      binds (expression left _ a >> mark (binary_calm o) >> expression right _ b)

  whole : (e : tree.Expression) → Has (leaf.in_expression e) → Told h Calm (DerivesExpression e) Any
  whole e k = short (expression e 0 k)

  optional : {A : Front → Type 0} (R : tree.Expression → Rule) → ((e : tree.Expression) → Has (leaf.in_expression e) → Told h A (R e) Any) → (o : Option tree.Expression) → Has (leaf.in_expression_if o) → Told h A (Maybe R o) Any
  optional R rule None k = loose nothing
  optional R rule (Some e) k = rule e k

  -- types

  type_form : {A : Front → Type 0} (line : ℕ) (f : TypeForm) → Told h A (DerivesForm line f) Calm
  type_form line form.Bool = word_at refl
  type_form line form.Logic = word_at refl
  type_form line (form.Int n) = word_at refl >> mark refl >> number_taken >> mark refl
  type_form line (form.Uint n) = word_at refl >> mark refl >> number_taken >> mark refl
  type_form line (form.Vector n) = word_at refl >> mark refl >> number_taken >> mark refl

  signal_type : {A : Front → Type 0} (t : SignalType) → Told h A (DerivesType t) Calm
  signal_type t = type_form t.line t.form

  var_type_at : {A : Front → Type 0} (line : ℕ) (t : VarType) → Told h A (DerivesVarTypeAt line t) Calm
  var_type_at line (var_type.Plain t) = on_line (signal_type t)
  var_type_at line var_type.Time = word_at refl
  var_type_at line var_type.Process = word_at refl
  var_type_at line var_type.Payload = word_at refl

  variable_type : {A : Front → Type 0} (t : VarType) → Told h A (DerivesVarType t) Calm
  variable_type t = any_line (λ line. var_type_at line t)

  -- channels, events, arguments

  place : (p : tree.Place) → Has (leaf.in_place p) → Told h Calm (DerivesPlace p) Calm
  place tree.first k = nothing
  place (tree.place_number n) k = at_sign >> placed
  place (tree.computed e) k = at_sign >> parenthesized (expression e 0 k)

  channel : (c : tree.Channel) → Has (leaf.in_channel c) → Told h Calm (DerivesChannel c) Calm
  channel c k = let (a, b) = leaf_parts (named c.name) (leaf.in_place c.place) k in name_at a >> place c.place b

  member : (o : Option (List ℕ)) → Has (leaf.name_if o) → Told h Calm (Maybe DerivesMember o) Calm
  member None k = nothing
  member (Some x) k = mark refl >> name_taken (only (named x) k)

  event : (e : tree.Event) → Has (leaf.in_event e) → Told h Calm (DerivesEvent e) Calm
  event e k = let (a, b) = parts (leaf.in_channel e.channel) (leaf.name_if e.member) k in channel e.channel a >> member e.member b

  events : (es : List tree.Event) → Has (leaf.in_events es) → Told h Calm (Separated (symbol s.Comma) DerivesEvent es) Calm
  events es k = separated DerivesEvent leaf.in_event event es k

  sensitive : (es : List tree.Event) → Has (leaf.in_events es) → Told h Calm (DerivesSensitive es) Calm
  sensitive [] k = nothing
  sensitive (e ∷ es) k = word_taken refl >> events (e ∷ es) k

  arguments : (es : List tree.Expression) → Has (leaf.in_expressions es) → Told h Calm (DerivesArguments es) Calm
  arguments [] k = mark refl >> mark refl
  arguments (e ∷ es) k = mark refl >> separated_loose DerivesExpression leaf.in_expression whole (e ∷ es) k >> mark refl

  index : (o : Option tree.Expression) → Has (leaf.in_expression_if o) → Told h Calm (Maybe DerivesIndex o) Calm
  index None k = nothing
  index (Some e) k = mark refl >> whole e k >> mark refl

  stored : (line : ℕ) (t : tree.Target) → Has (leaf.in_target t) → Told h Calm (DerivesTarget line t) Calm
  stored line t k =
      let (a, rest) = leaf_parts (named t.name) (leaf.name_if t.member ++ leaf.in_expression_if t.index) k in
      let (b, c) = parts (leaf.name_if t.member) (leaf.in_expression_if t.index) rest in
      name_at a >> member t.member b >> index t.index c

  next_name : {A : Front → Type 0} (x : List ℕ) → may_have h (named x) ≡ true → Told h A (NextName x) Calm
  next_name x k = mark refl >> name_taken k

  next_expression : {A : Front → Type 0} (e : tree.Expression) → Has (leaf.in_expression e) → Told h A (NextExpression e) Any
  next_expression e k = mark refl >> whole e k

  operation : (line : ℕ) (o : tree.Operation) → Has (leaf.in_operation o) → Told h Calm (DerivesOperation line o) Any
  operation line (tree.call x es) k = let (a, b) = leaf_parts (named x) (leaf.in_expressions es) k in loose (word_at refl >> name_taken a >> arguments es b)
  operation line (tree.read c) k = loose (word_at refl >> channel c k)
  operation line (tree.nb_read c x) k = let (a, b) = parts (leaf.in_channel c) (named x ∷ []) k in loose (word_at refl >> channel c a >> next_name x (only (named x) b))
  operation line (tree.nb_write c e) k = let (a, b) = parts (leaf.in_channel c) (leaf.in_expression e) k in word_at refl >> channel c a >> next_expression e b
  operation line (tree.trylock c) k = loose (word_at refl >> channel c k)
  operation line (tree.unlock c) k = loose (word_at refl >> channel c k)
  operation line (tree.sem_trywait c) k = loose (word_at refl >> channel c k)
  operation line (tree.nb_transport x p phase t) k =
      let (a, rest) = leaf_parts (named x) (named p ∷ named phase ∷ named t ∷ []) k in
      let (b, rest) = leaf_parts (named p) (named phase ∷ named t ∷ []) rest in
      let (c, rest) = leaf_parts (named phase) (named t ∷ []) rest in
      loose (word_at refl >> name_taken a >> next_name p b >> next_name phase c >> next_name t (only (named t) rest))

  result : (line : ℕ) (x : Option (List ℕ)) (on : ℕ) → Has (leaf.name_if x) → Told h Calm (DerivesResult line x on) Calm
  result line None on k = on_line nothing
  result line (Some x) on k = name_at (only (named x) k) >> mark refl

  span_of : (o : Option tree.Expression) → Has (leaf.in_expression_if o) → Told h Calm (Maybe DerivesSpan o) Any
  span_of o k = optional DerivesSpan (λ e q. word_taken refl >> whole e q) o k

  waiting : (t : tree.Waiting) → Has (leaf.in_waiting t) → Told h Calm (DerivesWaiting t) Any
  waiting tree.static k = loose nothing
  waiting tree.delta k = loose (word_taken refl)
  waiting (tree.for_ e) k = word_taken refl >> whole e k
  waiting (tree.one e t) k = let (a, b) = parts (leaf.in_event e) (leaf.in_expression_if t) k in event e a >> span_of t b
  waiting (tree.any es t) k = let (a, b) = parts (leaf.in_events es) (leaf.in_expression_if t) k in word_taken refl >> events es a >> span_of t b
  waiting (tree.all es t) k = let (a, b) = parts (leaf.in_events es) (leaf.in_expression_if t) k in word_taken refl >> events es a >> span_of t b

  notification : (t : tree.Notification) → Has (leaf.in_notification t) → Told h Calm (DerivesNotification t) Any
  notification tree.immediate k = loose nothing
  notification tree.next_delta k = loose (word_taken refl)
  notification (tree.after e) k = word_taken refl >> whole e k

  handle : (o : Option (List ℕ)) → Has (leaf.name_if o) → Told h Calm (Maybe DerivesHandle o) Calm
  handle None k = nothing
  handle (Some x) k = name_taken (only (named x) k) >> mark refl

  spawn : (x : tree.Spawn) → Has (leaf.in_spawn x) → Told h Calm (DerivesSpawn x) Calm
  spawn x k =
      let (a, rest) = parts (leaf.name_if x.handle) (named x.function ∷ (leaf.in_expressions x.arguments ++ leaf.in_events x.sensitive)) k in
      let (b, last) = leaf_parts (named x.function) (leaf.in_expressions x.arguments ++ leaf.in_events x.sensitive) rest in
      let (c, d) = parts (leaf.in_expressions x.arguments) (leaf.in_events x.sensitive) last in
      handle x.handle a >> written w.Method x.method refl >> name_taken b >> arguments x.arguments c >> sensitive x.sensitive d >> written w.DontInitialize x.dont_initialize refl

  process_of : (x : Who) → Has (leaf.in_who x) → Told h Calm (DerivesWho x) Calm
  process_of (who.Named line x) k = name_at (only (named x) k)
  process_of (who.Myself line) k = word_at refl

  part : (p : Part) → Has (leaf.in_part p) → Told h Calm (DerivesPart p) (Left (is_calm p))
  part (made.name r x) k = name_taken (only (named x) k)
  part (made.next_name r x) k = next_name x (only (named x) k)
  part (made.reaching_name r x all) k = let (a, b) = leaf_parts (named x) (leaf.descending_if all) k in name_taken a >> descending_taken all b
  part (made.text x) k = quoted_taken
  part (made.term u e) k = whole e k
  part (made.term_if u o) k = optional DerivesExpression whole o k
  part (made.next_term u e) k = next_expression e k
  part (made.next_term_if u o) k = optional NextExpression next_expression o k
  part (made.channel u c) k = channel c k
  part (made.waiting t) k = waiting t k
  part (made.notification t) k = notification t k
  part (made.instance x) k = spawn x k
  part (made.process x) k = process_of x k
  part (made.reaching_process x all) k = let (a, b) = parts (leaf.in_who x) (leaf.descending_if all) k in process_of x a >> descending_taken all b

  -- a part that may stand behind anything
  next : (p : Part) → is_next p ≡ true → Has (leaf.in_part p) → Told h Any (DerivesPart p) (Left (is_calm p))
  next (made.next_name r x) c k = next_name x (only (named x) k)
  next (made.next_term u e) c k = next_expression e k
  next (made.next_term_if u o) c k = optional NextExpression next_expression o k
  next _ c k = absurd (cc c)

  behind_part : (b : Bool) (q : Part) → (b || is_next q) ≡ true → Has (leaf.in_part q) → Told h (Left b) (DerivesPart q) (Left (is_calm q))
  behind_part true q c k = part q k
  behind_part false q c k = next q c k

  loosened : {A : Front → Type 0} {P : Rule} (b : Bool) → Told h A P (Left b) → Told h A P Any
  loosened true rule = loose rule
  loosened false rule = rule

  first_has : (p : Part) (ps : List Part) → Has (made.behind leaf.in_part (λ xs ys. xs ++ ys) [] p ps) → Has (leaf.in_part p)
  first_has p [] k = k
  first_has p (q ∷ qs) k = (parts (leaf.in_part p) (made.behind leaf.in_part (λ xs ys. xs ++ ys) [] q qs) k).0

  told_behind : {A : Front → Type 0} {P : Rule} (p : Part) (ps : List Part) → is_well p ps ≡ true → Has (made.behind leaf.in_part (λ xs ys. xs ++ ys) [] p ps) → Told h A P (Left (is_calm p)) → Told h A (DerivesParts P ps) Any
  told_behind {A = A} {P = P} p [] c k rule = loosened (is_calm p) rule
  told_behind {A = A} {P = P} p (q ∷ qs) c k rule =
      let (d, e) = and_parts (is_calm p || is_next q) (is_well q qs) c in
      let (a, b) = parts (leaf.in_part p) (made.behind leaf.in_part (λ xs ys. xs ++ ys) [] q qs) k in
      rule >> told_behind {A = Left (is_calm p)} {P = DerivesPart q} q qs e b (behind_part (is_calm p) q d (first_has q qs b))

  told_all : (line : ℕ) (v : Word) → as_cut (word v) ≡ word v → (ps : List Part) → are_well ps ≡ true → Has (made.joined leaf.in_part (λ xs ys. xs ++ ys) [] ps) → Told h Calm (DerivesParts (At line (word v)) ps) Any
  told_all line v same [] c k = loose (word_at same)
  told_all line v same (p ∷ ps) c k = word_at same >> told_behind {A = Calm} {P = DerivesPart p} p ps c k (part p (first_has p ps k))

  action : (line : ℕ) (a : tree.Action) → Has (leaf.in_action a) → Told h Calm (DerivesAction line a) Any
  action line a k = told_all line (word_of_action a) (action_same a) (parts_of a) (action_well a) k

  -- statements

  some_handler : (x : tree.Handlers) → Told h Calm (DerivesHandlers x) Calm → Told h Calm (HasHandler x (DerivesHandlers x)) Calm
  some_handler tree.no_more rule = never
  some_handler (tree.handler x body more) rule = rule

  mutual
    statement : (x : tree.Statement) → Has (leaf.in_statement x) → Told h Calm (DerivesStatement x) Calm
    statement (tree.var line t x o) k =
        let (a, b) = leaf_parts (named x) (leaf.in_expression_if o) k in
        word_at refl >> variable_type t >> name_taken a >> optional DerivesInitial (λ e q. mark refl >> whole e q) o b >> mark refl
    statement (tree.assign line t e) k = let (a, b) = parts (leaf.in_target t) (leaf.in_expression e) k in stored line t a >> mark refl >> whole e b >> mark refl
    statement (tree.operate line x on o) k = let (a, b) = parts (leaf.name_if x) (leaf.in_operation o) k in result line x on a >> operation on o b >> mark refl
    statement (tree.act line a) k = action line a k >> mark refl
    statement (tree.if_ line e body other) k =
        let (a, rest) = parts (leaf.in_expression e) (leaf.in_block body ++ leaf.in_else other) k in
        let (b, c) = parts (leaf.in_block body) (leaf.in_else other) rest in
        word_at refl >> whole e a >> braced (statements body b) >> otherwise other c
    statement (tree.while_ line e body) k = let (a, b) = parts (leaf.in_expression e) (leaf.in_block body) k in word_at refl >> whole e a >> braced (statements body b)
    statement (tree.guard line body undo) k = let (a, b) = parts (leaf.in_block body) (leaf.in_block undo) k in word_at refl >> braced (statements body a) >> word_taken refl >> braced (statements undo b)
    statement (tree.try_ line body hs) k = let (a, b) = parts (leaf.in_block body) (leaf.in_handlers hs) k in word_at refl >> braced (statements body a) >> some_handler hs (handlers hs b)

    statements : (x : tree.Block) → Has (leaf.in_block x) → Told h Calm (DerivesStatements x) Calm
    statements tree.over k = nothing
    statements (tree.then x xs) k = let (a, b) = parts (leaf.in_statement x) (leaf.in_block xs) k in statement x a >> statements xs b

    otherwise : (x : tree.Else) → Has (leaf.in_else x) → Told h Calm (DerivesElse x) Calm
    otherwise tree.no_else k = nothing
    otherwise (tree.else_block body) k = word_taken refl >> braced (statements body k)

    handlers : (x : tree.Handlers) → Has (leaf.in_handlers x) → Told h Calm (DerivesHandlers x) Calm
    handlers tree.no_more k = nothing
    handlers (tree.handler x body more) k =
        let (a, rest) = leaf_parts (named x) (leaf.in_block body ++ leaf.in_handlers more) k in
        let (b, c) = parts (leaf.in_block body) (leaf.in_handlers more) rest in
        word_taken refl >> name_taken a >> braced (statements body b) >> handlers more c

  -- items

  constant_form : (line : ℕ) (f : ConstantForm) → Has (leaf.in_form f) → Told h Calm (DerivesConstantForm line f) Any
  constant_form line (constant.Number n) k = number_at
  constant_form line (constant.Negative n) k = mark_at refl >> number_taken
  constant_form line (constant.Time n u) k = loose (timed_at u (only (in_unit u) k))
  constant_form line (constant.Logic value) k = loose logic_at
  constant_form line (constant.Truth b) k = loose (word_at (truth_same b))

  first_value : (o : Option Constant) → Has (leaf.in_constant o) → Told h Calm (Maybe DerivesFirstValue o) Any
  first_value None k = loose nothing
  first_value (Some c) k = mark refl >> constant_form c.line c.form k

  start : (o : Option Span) → Has (leaf.in_span o) → Told h Calm (Maybe DerivesStart o) Calm
  start None k = nothing
  start (Some t) k = word_taken refl >> time t (only (in_unit t.unit) k)

  interface_begun : (First : Token → Rule) (i : Interface) → ((u : Word) → as_cut (word u) ≡ word u → Told h Calm (First (word u)) Calm) → Told h Calm (DerivesInterface First i) Calm
  interface_begun First (interface.In t) begins = begins w.In refl >> signal_type t
  interface_begun First (interface.Out t) begins = begins w.Out refl >> signal_type t
  interface_begun First (interface.FifoIn t) begins = begins w.FifoIn refl >> signal_type t
  interface_begun First (interface.FifoOut t) begins = begins w.FifoOut refl >> signal_type t
  interface_begun First interface.Mutex begins = begins w.MutexPort refl
  interface_begun First interface.Semaphore begins = begins w.SemaphorePort refl

  bound_rule : (b : BoundRule) → Told h Any (DerivesBound b) Any
  bound_rule bound.One = nothing
  bound_rule bound.Zero = loose (word_taken refl)
  bound_rule bound.All = loose (word_taken refl)

  port_size : (o : Option PortSize) → Told h Calm (Maybe DerivesPortSize o) Calm
  port_size None = nothing
  port_size (Some p) = mark refl >> number_taken >> bound_rule p.rule >> mark refl

  handler : (u : Word) (o : Option (List ℕ)) → as_cut (word u) ≡ word u → Has (leaf.name_if o) → Told h Calm (Maybe (DerivesHandler u) o) Calm
  handler u None e k = nothing
  handler u (Some x) e k = word_taken e >> name_taken (only (named x) k)

  initiator_role : (x : InitiatorRole) → Has (leaf.in_initiator x) → Told h Calm (DerivesInitiatorRole x) Calm
  initiator_role initiator.Pass k = word_taken refl
  initiator_role (initiator.Own bw) k = handler w.Bw bw refl k

  target_role : (x : TargetRole) → Has (leaf.in_socket x) → Told h Calm (DerivesTargetRole x) Calm
  target_role target.Pass k = word_taken refl
  target_role (target.Own bt fw) k = let (a, b) = parts (leaf.name_if bt) (leaf.name_if fw) k in handler w.Bt bt refl a >> handler w.Fw fw refl b

  binding_end : (e : End) → Has (leaf.in_end e) → Told h Calm (DerivesEnd e) Calm
  binding_end e k = let (a, b) = leaf_parts (named e.name) (leaf.name_if e.member) k in name_at a >> member e.member b

  mode : (inout : Bool) (line : ℕ) (t : VarType) → Told h Calm (DerivesMode inout line t) Calm
  mode true line t = word_at refl >> variable_type t
  mode false line t = var_type_at line t

  parameter : (p : Parameter) → Has (leaf.in_parameter p) → Told h Calm (DerivesParameter p) Calm
  parameter p k = mode p.inout p.line p.var_type >> name_taken (only (named p.name) k)

  parameters : (ps : List Parameter) → Has (flat_map leaf.in_parameter ps) → Told h Calm (DerivesParameters ps) Calm
  parameters [] k = mark refl >> mark refl
  parameters (p ∷ ps) k = mark refl >> separated DerivesParameter leaf.in_parameter parameter (p ∷ ps) k >> mark refl

  answer : (o : Option VarType) → Told h Calm (Maybe DerivesAnswer o) Calm
  answer None = nothing
  answer (Some t) = mark refl >> variable_type t

  fifo_size : (o : Option ℕ) → Told h Calm (Maybe DerivesFifoSize o) Any
  fifo_size None = loose nothing
  fifo_size (Some n) = word_taken refl >> number_taken

  item : (x : tree.Item) → Has (leaf.in_item x) → Told h Calm (DerivesItem x) Calm
  item (tree.signal line i) k =
      let (a, b) = leaf_parts (named i.name) (leaf.in_constant i.initial) k in
      word_at (signal_same i.kind) >> written w.Many i.many refl >> signal_type i.value_type >> name_taken a >> first_value i.initial b >> mark refl
  item (tree.resolved line x) k = word_at refl >> name_taken (only (named x) k) >> mark refl
  item (tree.clock line c) k =
      let (a, rest) = leaf_parts (named c.name) (in_unit c.period.unit ∷ in_unit c.high.unit ∷ leaf.in_span c.start) k in
      let (b, rest) = leaf_parts (in_unit c.period.unit) (in_unit c.high.unit ∷ leaf.in_span c.start) rest in
      let (d, last) = leaf_parts (in_unit c.high.unit) (leaf.in_span c.start) rest in
      word_at refl >> name_taken a >> word_taken refl >> time c.period b >> word_taken refl >> time c.high d >> start c.start last >> mark refl
  item (tree.fifo line t x size) k = word_at refl >> signal_type t >> name_taken (only (named x) k) >> fifo_size size >> mark refl
  item (tree.plain line kind x) k = word_at (kind_same kind) >> name_taken (only (named x) k) >> mark refl
  item (tree.semaphore line x c) k = let (a, b) = leaf_parts (named x) (leaf.in_form c.form) k in word_at refl >> name_taken a >> constant_form c.line c.form b >> mark refl
  item (tree.memory line x size) k = word_at refl >> name_taken (only (named x) k) >> mark refl >> number_taken >> mark refl >> mark refl
  item (tree.variable line t x c) k = let (a, b) = leaf_parts (named x) (leaf.in_constant c) k in word_at refl >> variable_type t >> name_taken a >> first_value c b >> mark refl
  item (tree.port line i x size) k = interface_begun (At line) i (λ u e. word_at e) >> name_taken (only (named x) k) >> port_size size >> mark refl
  item (tree.export line i x) k = word_at refl >> interface_begun Takes i (λ u e. word_taken e) >> name_taken (only (named x) k) >> mark refl
  item (tree.initiator line x role) k = let (a, b) = leaf_parts (named x) (leaf.in_initiator role) k in word_at refl >> name_taken a >> initiator_role role b >> mark refl
  item (tree.target line x role) k = let (a, b) = leaf_parts (named x) (leaf.in_socket role) k in word_at refl >> name_taken a >> target_role role b >> mark refl
  item (tree.instance line kind x) k = let (a, b) = leaf_parts (named kind) (named x ∷ []) k in word_at refl >> name_taken a >> name_taken (only (named x) b) >> mark refl
  item (tree.bind line left right) k = let (a, b) = parts (leaf.in_end left) (leaf.in_end right) k in word_at refl >> binding_end left a >> word_taken refl >> binding_end right b >> mark refl
  item (tree.function line f) k =
      let (a, rest) = leaf_parts (named f.name) (flat_map leaf.in_parameter f.parameters ++ leaf.in_block f.body) k in
      let (b, c) = parts (flat_map leaf.in_parameter f.parameters) (leaf.in_block f.body) rest in
      word_at refl >> name_taken a >> parameters f.parameters b >> answer f.answer >> braced (statements f.body c)
  item (tree.process line p) k =
      let (a, rest) = leaf_parts (named p.name) (leaf.in_events p.sensitive ++ leaf.in_block p.body) k in
      let (b, c) = parts (leaf.in_events p.sensitive) (leaf.in_block p.body) rest in
      word_at (process_same p.kind) >> name_taken a >> sensitive p.sensitive b >> written w.DontInitialize p.dont_initialize refl >> braced (statements p.body c)

  module_text : (m : tree.Module) → Has (leaf.in_module m) → Told h Calm (DerivesModule m) Calm
  module_text m k =
      let (a, b) = leaf_parts (named m.name) (flat_map leaf.in_item m.items) k in
      word_at refl >> name_taken a >> mark refl >> each DerivesItem leaf.in_item item m.items b >> mark refl

  top : (t : Top) → may_have h (named t.module) ≡ true → may_have h (named t.name) ≡ true → Told h Calm (DerivesTop t) Calm
  top t a b = word_at refl >> name_taken a >> name_taken b >> mark refl

  model : (m : tree.Model) → Has (leaf.leaves_of m) → Told h Calm (DerivesModel m) Calm
  model m k =
      let (a, rest) = parts (flat_map leaf.in_module m.modules) (named m.top.module ∷ named m.top.name ∷ []) k in
      let (b, c) = leaf_parts (named m.top.module) (named m.top.name ∷ []) rest in
      each DerivesModule leaf.in_module module_text m.modules a >> top m.top b (only (named m.top.name) c)

nothing_left : (h : Head) (g : Front) → in_head h g (cut []) ≡ []
nothing_left head.First g = refl
nothing_left (head.Second r) g = refl

-- the words of a head, which only a text of language 2 has

abbrev seconds : Option ResolutionLine → Head
seconds r = head.Second r

language_fine : (r : Option ResolutionLine) → Fine (seconds r) Calm (word w.Language) Calm
unfolding later_word_of
language_fine r = λ f is. (subst (λ (g : Front). later_token g (as_cut (word w.Language)) ≡ word w.Language) (sym is) refl, refl)

resolution_fine : (r : Option ResolutionLine) → Fine (seconds r) Calm (word w.Resolution) Calm
unfolding later_word_of
resolution_fine r = λ f is. (subst (λ (g : Front). later_token g (as_cut (word w.Resolution)) ≡ word w.Resolution) (sym is) refl, refl)

resolution_told : (r o : Option ResolutionLine) → Told (seconds r) Calm (Maybe DerivesResolution o) Calm
resolution_told r None = nothing
resolution_told r (Some x) = at {h = seconds r} {A = Calm} {B = Calm} (resolution_fine r) >> time x.span refl >> mark refl

head_told : (x : Head) → Told x Calm (DerivesHead x) Calm
head_told head.First = nothing
head_told (head.Second r) = takes {h = seconds r} {A = Calm} {B = Calm} (language_fine r) >> number_taken >> mark refl >> resolution_told r r

source_told : (x : tree.Source) (ts : Tokens) → leaf.keeps_language x.head x.model ≡ true → DerivesSource x ts [] → in_head x.head behind_other (cut ts) ≡ ts
source_told x ts keeps derived = (head_told x.head >> model x.head x.model keeps).told behind_other refl ts [] derived (λ g b. nothing_left x.head g)

-- which language the tokens are of is seen at the first one

first_told : (m : tree.Model) (ts : Tokens) → DerivesModel m ts [] → says_second ts ≡ false
first_told m ts derived = begun m.modules derived
  where
    begun : (ms : List tree.Module) → DerivesModel (record { modules = ms; top = m.top }) ts [] → says_second ts ≡ false
    begun [] (mid, none, (a, one, more)) = rw (none, one) refl
    begun (x ∷ xs) (mid, (b, (a, one, more), others), last) = rw one refl

by_head : (h : Head) (m : tree.Model) (ts : Tokens) → DerivesSource (record { head = h; model = m }) ts [] → in_head h behind_other (cut ts) ≡ ts → in_language (cut ts) ≡ ts
by_head head.First m ts (mid, none, derived) same =
    let apart : says_second (cut ts) ≡ false = ap says_second same ∙ first_told m ts (subst (λ (us : Tokens). DerivesModel m us []) (sym none) derived) in
    rw apart same
by_head (head.Second r) m ts ((mid, (a, (line, one), more), derived)) same =
    let second : says_second (cut ts) ≡ true = rw one refl in
    rw second same

-- the tokens of a text, cut and read in the language that it says
pub language_told : (x : tree.Source) (ts : Tokens) → leaf.keeps_language x.head x.model ≡ true → DerivesSource x ts [] → in_language (cut ts) ≡ ts
language_told x ts keeps derived = by_head x.head x.model ts derived (source_told x ts keeps derived)
