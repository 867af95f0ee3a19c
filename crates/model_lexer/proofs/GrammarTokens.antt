-- That the tokens of a text are those of the version that it says.
use Rattle.std.proofs.Common.{◌≡◌, ℕ, ◌≤◌, Bool, true, false, not, ◌||◌, List, [], ◌∷◌, Option, Some, None, refl, sym, subst, ap, ◌∙◌}
use Rattle.std.specs.Prelude.{codes, if◌then◌else◌}
use Rattle.std.specs.Str.{bytes_eq}
use Rattle.std.proofs.lemmas.Bool.{and_from, and_parts}
use Rattle.std.proofs.lemmas.Slice.Eq.{bytes_eq-Decides}
use denote.Enum.Bare.{sameb}
use Rattle.model_tree.specs.contracts.vocabulary.Word.{the_type as the_word}
use Rattle.model_tree.specs.declared.vocabulary.Word.{Word}
use Rattle.model_tree.specs.declared.vocabulary.Word.TheVariants as w
use Rattle.model_tree.specs.declared.items.ResolutionLine.{ResolutionLine}
use Rattle.model_tree.specs.declared.items.Head.{Head}
use Rattle.model_tree.specs.declared.items.Head.TheVariants as head
use Rattle.model_tree.specs.declared.items.Top.{Top}
use Rattle.model_tree.specs.Vocabulary.{later_word_of}
use Rattle.model_tree.specs.Languages.{keeps_language}
use Rattle.model_tree.specs.Tree as tree
use Rattle.model_tree.specs.Leaves.{is_name}
use Rattle.model_tree.specs.Limits.{is_sound, bracket_limit, fits_resolution, fits_head}
use Rattle.model_lexer.specs.Brackets.{brackets}
use Rattle.model_lexer.specs.Tokens.{Token, Tokens, name, number, logic, quoted, word, symbol, each_is, is_limited, are_limited}
use Rattle.model_lexer.proofs.SoundItems.{model_sound}
use Rattle.model_lexer.specs.Languages.{Front, behind_number, behind_at, behind_other, behind, later_token, later_name, word_or_same, unit_or_name, in_second, in_language, says_language}
use Rattle.model_lexer.specs.Versions.{is_plain, may_word, may_token}
use Rattle.model_lexer.specs.Rules.{Maybe}
use Rattle.model_lexer.specs.Items.{DerivesHead, DerivesResolution, DerivesSource, DerivesModel}
use Rattle.model_lexer.proofs.Keeps.{KeepsBy, at, takes, nothing, ◌>>=◌, so, ends}
use Rattle.model_lexer.proofs.Versions.{keeps}

-- language 2

either_way : (a : Bool) (x y : Bool) → x ≡ true → y ≡ true → (if a then x else y) ≡ true
either_way true x y p q = p
either_way false x y p q = q

word_in_second : (r : Option ResolutionLine) (u : Word) → may_word (head.Second r) u ≡ true
word_in_second r u = either_way (sameb the_word u w.Fs) true _ refl (either_way (sameb the_word u w.Descendants) true true refl refl)

name_in_second : (r : Option ResolutionLine) (x : List ℕ) (o : Option Word) → later_word_of x ≡ o → may_token (head.Second r) (word_or_same o x) ≡ true
name_in_second r x None is = rw is refl
name_in_second r x (Some u) is = word_in_second r u

later_name_fine : (r : Option ResolutionLine) (x : List ℕ) → may_token (head.Second r) (later_name x) ≡ true
later_name_fine r x = name_in_second r x (later_word_of x) refl

unit_fine : (r : Option ResolutionLine) (b : Bool) (x : List ℕ) → may_token (head.Second r) (if b then word w.Fs else later_name x) ≡ true
unit_fine r true x = refl
unit_fine r false x = later_name_fine r x

named_fine : (r : Option ResolutionLine) (f : Front) (x : List ℕ) → may_token (head.Second r) (unit_or_name f x) ≡ true
named_fine r behind_number x = unit_fine r (bytes_eq x (codes "fs")) x
named_fine r behind_at x = later_name_fine r x
named_fine r behind_other x = later_name_fine r x

token_in_second : (r : Option ResolutionLine) (f : Front) (t : Token) → may_token (head.Second r) (later_token f t) ≡ true
token_in_second r f (name x) = named_fine r f x
token_in_second r f (number n) = refl
token_in_second r f (logic ds) = refl
token_in_second r f (quoted x) = refl
token_in_second r f (word u) = word_in_second r u
token_in_second r f (symbol u) = refl

tokens_in_second : (r : Option ResolutionLine) (f : Front) (ts : Tokens) → each_is (may_token (head.Second r)) (in_second f ts) ≡ true
tokens_in_second r f [] = refl
tokens_in_second r f (t ∷ ts) = and_from (may_token (head.Second r) (later_token f t.0)) (each_is (may_token (head.Second r)) (in_second (behind f t.0) ts)) (token_in_second r f t.0) (tokens_in_second r (behind f t.0) ts)

-- language 1

word_in_first : (a b c d : Bool) (x y : Bool) → not ((a || b) || (c || d)) ≡ true → (if d then x else (if c then y else true)) ≡ true
word_in_first true b c d x y h = absurd cc
word_in_first false true c d x y h = absurd cc
word_in_first false false true d x y h = absurd cc
word_in_first false false false true x y h = absurd cc
word_in_first false false false false x y h = refl

token_in_first : (t : Token) → is_plain t ≡ true → may_token head.First t ≡ true
token_in_first (name x) h = refl
token_in_first (number n) h = refl
token_in_first (logic ds) h = refl
token_in_first (quoted x) h = refl
token_in_first (word u) h = word_in_first (sameb the_word u w.Language) (sameb the_word u w.Resolution) (sameb the_word u w.Descendants) (sameb the_word u w.Fs) _ _ h
token_in_first (symbol u) h = refl

tokens_in_first : (ts : Tokens) → each_is is_plain ts ≡ true → each_is (may_token head.First) ts ≡ true
tokens_in_first [] h = refl
tokens_in_first (t ∷ ts) h =
    let parts = and_parts (is_plain t.0) (each_is is_plain ts) h in
    and_from (may_token head.First t.0) (each_is (may_token head.First) ts) (token_in_first t.0 parts.0) (tokens_in_first ts parts.1)

-- what stands before the modules

resolution_passed : {test : Token → Bool} (o : Option ResolutionLine) → KeepsBy test (Maybe DerivesResolution o) (Unit {0})
resolution_passed None = nothing
resolution_passed (Some r) = at >>= λ a. (takes >>= λ b. takes) >>= λ c. ends tt

pub head_passed : {test : Token → Bool} (x : Head) → KeepsBy test (DerivesHead x) (Unit {0})
head_passed head.First = nothing
head_passed (head.Second r) = takes >>= λ a. takes >>= λ b. takes >>= λ c. resolution_passed r

derived_keeps : (x : tree.Source) (ts : Tokens) → DerivesSource x ts [] → each_is (may_token x.head) ts ≡ true → keeps_language x.head x.model ≡ true
derived_keeps x ts (mid, first, rest) all = keeps x.head x.model mid [] rest ((head_passed x.head).kept ts mid first all).1

-- no module and no top begins with the word of language 2

abbrev is_language : Token → Bool
is_language (name x) = false
is_language (number n) = false
is_language (logic ds) = false
is_language (quoted x) = false
is_language (word u) = sameb the_word u w.Language
is_language (symbol u) = false

abbrev begins_second : Tokens → Bool
begins_second [] = false
begins_second (t ∷ ts) = is_language t.0

abbrev begins_plain : Tokens → Bool
begins_plain [] = true
begins_plain (t ∷ ts) = is_plain t.0

modules_begin : (ms : List tree.Module) (t : Top) (line : ℕ) (ts : Tokens) → DerivesModel (record { modules = ms; top = t }) ((word w.Language, line) ∷ ts) [] → ⊥
modules_begin [] t line ts (mid, none, (a, top, more)) = let no : true ≡ false = ap begins_second (none ∙ top) in cc
modules_begin (m ∷ ms) t line ts (mid, (b, (a, first, more), others), top) = let no : true ≡ false = ap begins_second first in cc

second_only : (h : Head) (m : tree.Model) (line : ℕ) (ts : Tokens) → DerivesSource (record { head = h; model = m }) ((word w.Language, line) ∷ ts) [] → (r : Option ResolutionLine) × (h ≡ head.Second r)
second_only head.First m line ts (mid, none, derived) = absurd (modules_begin m.modules m.top line ts (subst (λ (ys : Tokens). DerivesModel m ys []) (sym none) derived))
second_only (head.Second r) m line ts derived = (r, refl)

first_only : (h : Head) (m : tree.Model) (t : Token) (line : ℕ) (ts : Tokens) → is_plain t ≡ true → DerivesSource (record { head = h; model = m }) ((t, line) ∷ ts) [] → h ≡ head.First
first_only head.First m t line ts plain derived = refl
first_only (head.Second r) m t line ts plain (mid, (a, (at_line, is), more), derived) = absurd (never_both (sym plain ∙ ap begins_plain is))
  where
    never_both : true ≡ false → ⊥
    never_both e = cc

language_word : (t : Token) → says_language t ≡ true → later_token behind_other t ≡ word w.Language
unfolding later_word_of
language_word (name x) h = let e : x ≡ codes "language" = (bytes_eq-Decides x (codes "language")).0 h in rw e refl
language_word (number n) h = cc
language_word (logic ds) h = cc
language_word (quoted x) h = cc
language_word (word u) h = cc
language_word (symbol u) h = cc

by_first : (x : tree.Source) (t : Token × ℕ) (ts : Tokens) (b : Bool) → says_language t.0 ≡ b → each_is is_plain (t ∷ ts) ≡ true
    → DerivesSource x (if b then in_second behind_other (t ∷ ts) else t ∷ ts) [] → keeps_language x.head x.model ≡ true
by_first x t ts true says plain derived =
    let named : (later_token behind_other t.0, t.1) ≡ (word w.Language, t.1) = ap (λ (y : Token). (y, t.1)) (language_word t.0 says) in
    let found = second_only x.head x.model t.1 (in_second (behind behind_other t.0) ts) (subst (λ (y : Token × ℕ). DerivesSource x (y ∷ in_second (behind behind_other t.0) ts) []) named derived) in
    derived_keeps x (in_second behind_other (t ∷ ts)) derived (subst (λ (h : Head). each_is (may_token h) (in_second behind_other (t ∷ ts)) ≡ true) (sym found.1) (tokens_in_second found.0 behind_other (t ∷ ts)))
by_first x t ts false says plain derived =
    let is = first_only x.head x.model t.0 t.1 ts (and_parts (is_plain t.0) (each_is is_plain ts) plain).0 derived in
    derived_keeps x (t ∷ ts) derived (subst (λ (h : Head). each_is (may_token h) (t ∷ ts) ≡ true) (sym is) (tokens_in_first (t ∷ ts) plain))

pub keeps_to : (x : tree.Source) (ts : Tokens) → DerivesSource x (in_language ts) [] → each_is is_plain ts ≡ true → keeps_language x.head x.model ≡ true
keeps_to x [] derived plain = derived_keeps x [] derived refl
keeps_to x (t ∷ ts) derived plain = by_first x t ts (says_language t.0) refl plain derived

-- no word of a language is past a limit

name_limited : (o : Option Word) (x : List ℕ) → is_name x ≡ true → is_limited (word_or_same o x) ≡ true
name_limited None x h = h
name_limited (Some u) x h = refl

unit_limited : (b : Bool) (x : List ℕ) → is_name x ≡ true → is_limited (if b then word w.Fs else later_name x) ≡ true
unit_limited true x h = refl
unit_limited false x h = name_limited (later_word_of x) x h

named_limited : (f : Front) (x : List ℕ) → is_name x ≡ true → is_limited (unit_or_name f x) ≡ true
named_limited behind_number x h = unit_limited (bytes_eq x (codes "fs")) x h
named_limited behind_at x h = name_limited (later_word_of x) x h
named_limited behind_other x h = name_limited (later_word_of x) x h

token_limited : (f : Front) (t : Token) → is_limited t ≡ true → is_limited (later_token f t) ≡ true
token_limited f (name x) h = named_limited f x h
token_limited f (number n) h = h
token_limited f (logic ds) h = h
token_limited f (quoted x) h = h
token_limited f (word u) h = h
token_limited f (symbol u) h = h

second_limited : (f : Front) (ts : Tokens) → are_limited ts ≡ true → are_limited (in_second f ts) ≡ true
second_limited f [] h = refl
second_limited f (t ∷ ts) h =
    let both = and_parts (is_limited t.0) (are_limited ts) h in
    and_from (is_limited (later_token f t.0)) (are_limited (in_second (behind f t.0) ts)) (token_limited f t.0 both.0) (second_limited (behind f t.0) ts both.1)

limited_by : (b : Bool) (ts : Tokens) → are_limited ts ≡ true → are_limited (if b then in_second behind_other ts else ts) ≡ true
limited_by true ts h = second_limited behind_other ts h
limited_by false ts h = h

-- the tokens of a text, in its language, keep the limits of their form
pub language_limited : (ts : Tokens) → are_limited ts ≡ true → are_limited (in_language ts) ≡ true
language_limited [] h = refl
language_limited (t ∷ ts) h = limited_by (says_language t.0) (t ∷ ts) h

-- and so does the tree that they derive
pub source_sound : (x : tree.Source) (ts : Tokens) → DerivesSource x ts [] → are_limited ts ≡ true → brackets x.model ≤ bracket_limit → is_sound x.model ≡ true
source_sound x ts (mid, first, derived) limited few = model_sound x.model mid derived ((head_passed x.head).kept ts mid first limited).1 few

resolution_fits : (o : Option ResolutionLine) → KeepsBy is_limited (Maybe DerivesResolution o) (fits_resolution o ≡ true)
resolution_fits None = so nothing (λ e. refl)
resolution_fits (Some r) = at >>= λ a. (takes >>= λ f. so takes (λ b. f)) >>= λ f. ends f

head_fits : (x : Head) → KeepsBy is_limited (DerivesHead x) (fits_head x ≡ true)
head_fits head.First = so nothing (λ e. refl)
head_fits (head.Second r) = takes >>= λ a. takes >>= λ b. takes >>= λ c. resolution_fits r

pub source_fits : (x : tree.Source) (ts : Tokens) → DerivesSource x ts [] → are_limited ts ≡ true → fits_head x.head ≡ true
source_fits x ts (mid, first, derived) limited = ((head_fits x.head).kept ts mid first limited).0
