-- Names that are known have a place in the code: among the names that a module declares, among its functions, and its bodies.
use Rattle.std.proofs.Common.{◌≡◌, ℕ, Bool, true, false, cond, List, [], ◌∷◌, Option, Some, None, refl, sym, ◌∙◌, ap, subst, true≢false}
use Rattle.std.specs.Prelude.{is_some, option_map, option_and_then, find, position, length, filter_map, bytes_eq, nat_lt}
use Rattle.std.specs.List.{position_or_len}
use Rattle.std.specs.Option.{option_or}
use Rattle.std.proofs.lemmas.Slice.Eq.{bytes_eq-Decides}
use Rattle.code_rules.specs.ModelTree.Tree as tree
use Rattle.code_rules.specs.ModelTree.declared.types.Interface.TheVariants as interface
use Rattle.code_rules.specs.ModelTree.declared.items.PlainKind.TheVariants as plain
use Rattle.code_rules.specs.FlatDesign.declared.value_types.ValueType.{ValueType}
use Rattle.code_rules.specs.ModelRules.Meanings.{Declared, declaration, declarations}
use Rattle.code_rules.specs.ModelRules.Scopes.{Scope, Local, is_declared, local_named, meaning_of, use_of, place_of, function_named}
use Rattle.code_rules.specs.ModelRules.Targets.{held_by, variable_named}
use Rattle.code_rules.specs.ModelRules.declared.meanings.Meaning.{Meaning}
use Rattle.code_rules.specs.ModelRules.declared.meanings.Meaning.TheVariants as meaning
use Rattle.code_rules.specs.ModelRules.declared.needs.Need.{Need}
use Rattle.code_rules.specs.ModelRules.declared.needs.Need.TheVariants as need_of
use Rattle.code_rules.specs.ModelRules.Names.{Used, meets, is_variable, is_function}
use Rattle.code_rules.specs.Deeds.{Home, has_body, body_number, function_number, store}
use Rattle.laws_code.specs.Known.{is_type_known, TypesAreKnown}
use Rattle.laws_code.specs.Met.{IsMet}
use Rattle.laws_code.proofs.Coded.{some_none, stands, below, positioned, two_some}

-- a position is there where something is found
pub is_placed : {A : Type 0} (p : A → Bool) (xs : List A) → is_some (find p xs) ≡ true → is_some (position p xs) ≡ true
is_placed p xs h = ap is_some (positioned (nat_lt (position_or_len p xs) (length xs)) (position_or_len p xs) (below p xs h))

mapped_back : {A B : Type 0} (f : A → B) (o : Option A) → is_some (option_map f o) ≡ true → is_some o ≡ true
mapped_back f None h = h
mapped_back f (Some x) h = refl

-- what a name stands for that is no variable, the module declares
abbrev is_variable_there : Option Meaning → Bool
is_variable_there None = false
is_variable_there (Some m) = is_variable m

pub declared_by : (l : Option Local) (o : Option Meaning) (m : Meaning) → option_or (option_map (λ (x : Local). meaning.Variable x.value_type) l) o ≡ Some m → is_variable m ≡ false
    → (l ≡ None) × (o ≡ Some m)
declared_by None o m h k = (refl, h)
declared_by (Some l) o m h k = absurd (true≢false (ap is_variable_there h ∙ k))

pub has_place : (s : Scope) (name : List ℕ) (m : Meaning) → meaning_of s name ≡ Some m → is_variable m ≡ false → is_some (place_of s name) ≡ true
has_place s name m h k =
    let found = (declared_by (local_named s name) (option_map (λ (d : Declared). d.meaning) (find (is_declared name) (declarations s.items))) m h k).1 in
    is_placed (is_declared name) (declarations s.items) (mapped_back (λ (d : Declared). d.meaning) (find (is_declared name) (declarations s.items)) (ap is_some found))

pub has_use : (s : Scope) (name : List ℕ) (m : Meaning) → meaning_of s name ≡ Some m → is_some (use_of s name) ≡ true
has_use s name m h = ap is_some (stands s name m h).1

-- what is needed is no variable, where no variable meets the need
pub no_variable : (need : Need) → ((t : Option ValueType) → meets need (meaning.Variable t) ≡ false) → (m : Meaning) → meets need m ≡ true → is_variable m ≡ false
no_variable need f (meaning.Variable t) h = absurd (true≢false (sym h ∙ f t))
no_variable need f other h = refl

-- a name that is used
pub used_place : (s : Scope) (u : Used) → ((t : Option ValueType) → meets u.1 (meaning.Variable t) ≡ false) → IsMet s u → is_some (place_of s u.0) ≡ true
used_place s u f k = has_place s u.0 k.meaning k.known (no_variable u.1 f k.meaning k.meets_need)

pub used_name : (s : Scope) (u : Used) → IsMet s u → is_some (use_of s u.0) ≡ true
used_name s u k = has_use s u.0 k.meaning k.known

-- a variable has a type
held_some : (m : Meaning) → is_variable m ≡ true → is_type_known m ≡ true → is_some (held_by m) ≡ true
held_some (meaning.Variable t) h k = k
held_some other h k = absurd (true≢false (sym h))

pub variable_has_type : (s : Scope) (name : List ℕ) → TypesAreKnown s → IsMet s (name, need_of.Variable) → is_some (variable_named s name) ≡ true
variable_has_type s name known k =
    subst (λ o. is_some (option_and_then held_by o) ≡ true) (sym k.known) (held_some k.meaning k.meets_need (known name k.meaning k.known))

pub has_store : (s : Scope) (name : List ℕ) → TypesAreKnown s → IsMet s (name, need_of.Variable) → is_some (store s name) ≡ true
has_store s name known k = two_some _ (use_of s name) (variable_named s name) (used_name s (name, need_of.Variable) k) (variable_has_type s name known k)

-- functions

abbrev meaning_found : Option Declared → Option Meaning
meaning_found o = option_map (λ (d : Declared). d.meaning) o

abbrev is_function_there : Option Meaning → Bool
is_function_there None = false
is_function_there (Some m) = is_function m

-- behind a declaration that is no function
behind_other : (b : Bool) (d : Declared) (o : Option Declared) (m : Meaning) → meaning_found (cond b (Some d) o) ≡ Some m → is_function m ≡ true → is_function d.meaning ≡ false → meaning_found o ≡ Some m
behind_other true d o m h k e = absurd (true≢false (sym k ∙ sym (ap is_function_there h) ∙ e))
behind_other false d o m h k e = h

by_name : (b : Bool) (d : Declared) (f : tree.FunctionItem) (o : Option Declared) (x : Option tree.FunctionItem) (m : Meaning) → meaning_found (cond b (Some d) o) ≡ Some m
    → (meaning_found o ≡ Some m → is_some x ≡ true) → is_some (cond b (Some f) x) ≡ true
by_name true d f o x m h rest = refl
by_name false d f o x m h rest = rest h

abbrev declares : List ℕ → List tree.Item → Option Declared
declares name items = find (is_declared name) (declarations items)

no_port : (i : _) (size : ℕ) → is_function (Rattle.code_rules.specs.ModelRules.Meanings.port_meaning i size) ≡ false
no_port (interface.In t) size = refl
no_port (interface.Out t) size = refl
no_port (interface.FifoIn t) size = refl
no_port (interface.FifoOut t) size = refl
no_port interface.Mutex size = refl
no_port interface.Semaphore size = refl

no_plain : (k : _) → is_function (Rattle.code_rules.specs.ModelRules.Meanings.plain_meaning k) ≡ false
no_plain plain.Mutex = refl
no_plain plain.Event = refl
no_plain plain.Keeper = refl

-- a name that stands for a function is that of one
pub function_found : (items : List tree.Item) (name : List ℕ) (m : Meaning) → meaning_found (declares name items) ≡ Some m → is_function m ≡ true → is_some (function_named items name) ≡ true
function_found [] name m h k = cc
function_found (tree.signal line s ∷ is) name m h k = function_found is name m (behind_other _ _ (declares name is) m h k refl) k
function_found (tree.resolved line n ∷ is) name m h k = function_found is name m (behind_other _ _ (declares name is) m h k refl) k
function_found (tree.clock line c ∷ is) name m h k = function_found is name m (behind_other _ _ (declares name is) m h k refl) k
function_found (tree.fifo line t n size ∷ is) name m h k = function_found is name m (behind_other _ _ (declares name is) m h k refl) k
function_found (tree.plain line kind n ∷ is) name m h k = function_found is name m (behind_other _ _ (declares name is) m h k (no_plain kind)) k
function_found (tree.semaphore line n c ∷ is) name m h k = function_found is name m (behind_other _ _ (declares name is) m h k refl) k
function_found (tree.memory line n size ∷ is) name m h k = function_found is name m (behind_other _ _ (declares name is) m h k refl) k
function_found (tree.variable line t n c ∷ is) name m h k = function_found is name m (behind_other _ _ (declares name is) m h k refl) k
function_found (tree.port line i n size ∷ is) name m h k = function_found is name m (behind_other _ _ (declares name is) m h k (no_port i _)) k
function_found (tree.export line i n ∷ is) name m h k = function_found is name m (behind_other _ _ (declares name is) m h k refl) k
function_found (tree.initiator line n role ∷ is) name m h k = function_found is name m (behind_other _ _ (declares name is) m h k refl) k
function_found (tree.target line n role ∷ is) name m h k = function_found is name m (behind_other _ _ (declares name is) m h k refl) k
function_found (tree.instance line kind n ∷ is) name m h k = function_found is name m (behind_other _ _ (declares name is) m h k refl) k
function_found (tree.bind line left right ∷ is) name m h k = function_found is name m h k
function_found (tree.function line f ∷ is) name m h k =
    by_name (bytes_eq f.name name) (record { name = f.name; meaning = meaning.Function }) f (declares name is) (function_named is name) m h (λ e. function_found is name m e k)
function_found (tree.process line p ∷ is) name m h k = function_found is name m (behind_other _ _ (declares name is) m h k refl) k

-- and each function has a body
abbrev body_named : List ℕ → List tree.Item → Option (List ℕ)
body_named name items = find (λ x. bytes_eq x name) (filter_map has_body items)

pub at_least : {A : Type 0} (b : Bool) (x : A) (o : Option A) → is_some o ≡ true → is_some (cond b (Some x) o) ≡ true
at_least true x o h = refl
at_least false x o h = h

same_body : (f g : tree.FunctionItem) → g ≡ f → bytes_eq g.name f.name ≡ true
same_body f g e = (bytes_eq-Decides g.name f.name).1 (ap (λ (x : tree.FunctionItem). x.name) e)

pub at_true : {A : Type 0} (b : Bool) (x : A) (o : Option A) → b ≡ true → is_some (cond b (Some x) o) ≡ true
at_true true x o h = refl
at_true false x o h = cc

function_of : Option tree.FunctionItem → tree.FunctionItem → tree.FunctionItem
function_of None g = g
function_of (Some f) g = f

by_function : (b : Bool) (g f : tree.FunctionItem) (o : Option tree.FunctionItem) (x : Option (List ℕ)) → cond b (Some g) o ≡ Some f → (o ≡ Some f → is_some x ≡ true)
    → is_some (cond (bytes_eq g.name f.name) (Some g.name) x) ≡ true
by_function true g f o x h rest = at_true (bytes_eq g.name f.name) g.name x (same_body f g cc)
by_function false g f o x h rest = at_least (bytes_eq g.name f.name) g.name x (rest h)

body_found : (items : List tree.Item) (name : List ℕ) (f : tree.FunctionItem) → function_named items name ≡ Some f → is_some (body_named f.name items) ≡ true
body_found [] name f h = cc
body_found (tree.signal line s ∷ is) name f h = body_found is name f h
body_found (tree.resolved line n ∷ is) name f h = body_found is name f h
body_found (tree.clock line c ∷ is) name f h = at_least (bytes_eq c.name f.name) c.name (body_named f.name is) (body_found is name f h)
body_found (tree.fifo line t n size ∷ is) name f h = body_found is name f h
body_found (tree.plain line kind n ∷ is) name f h = body_found is name f h
body_found (tree.semaphore line n c ∷ is) name f h = body_found is name f h
body_found (tree.memory line n size ∷ is) name f h = body_found is name f h
body_found (tree.variable line t n c ∷ is) name f h = body_found is name f h
body_found (tree.port line i n size ∷ is) name f h = body_found is name f h
body_found (tree.export line i n ∷ is) name f h = body_found is name f h
body_found (tree.initiator line n role ∷ is) name f h = body_found is name f h
body_found (tree.target line n role ∷ is) name f h = body_found is name f h
body_found (tree.instance line kind n ∷ is) name f h = body_found is name f h
body_found (tree.bind line left right ∷ is) name f h = body_found is name f h
body_found (tree.function line g ∷ is) name f h = by_function (bytes_eq g.name name) g f (function_named is name) (body_named f.name is) h (body_found is name f)
body_found (tree.process line p ∷ is) name f h = at_least (bytes_eq p.name f.name) p.name (body_named f.name is) (body_found is name f h)

mapped_some : {A B : Type 0} (f : A → B) (o : Option A) → is_some o ≡ true → is_some (option_map f o) ≡ true
mapped_some f None h = h
mapped_some f (Some x) h = refl

body_numbered : (h : Home) (items : List tree.Item) (name : List ℕ) (o : Option tree.FunctionItem) → function_named items name ≡ o → is_some o ≡ true
    → is_some (option_and_then (λ (f : tree.FunctionItem). body_number h items f.name) o) ≡ true
body_numbered h items name None e k = some_none k
body_numbered h items name (Some f) e k =
    mapped_some _ (position (λ x. bytes_eq x f.name) (filter_map has_body items)) (is_placed (λ x. bytes_eq x f.name) (filter_map has_body items) (body_found items name f e))

pub is_function_named : (s : Scope) (name : List ℕ) → IsMet s (name, need_of.Function) → is_some (function_named s.items name) ≡ true
is_function_named s name k =
    function_found s.items name k.meaning
    (declared_by (local_named s name) (meaning_found (declares name s.items)) k.meaning k.known (no_variable need_of.Function (λ t. refl) k.meaning k.meets_need)).1 k.meets_need

pub has_number : (h : Home) (s : Scope) (name : List ℕ) → IsMet s (name, need_of.Function) → is_some (function_number h s name) ≡ true
has_number h s name k = body_numbered h s.items name (function_named s.items name) refl (is_function_named s name k)
