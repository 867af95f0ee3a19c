-- Where the bodies of code are those of a model.
use Rattle.std.proofs.Common.{◌≡◌, ℕ, suc, ◌+◌, Bool, true, false, cond, not, List, [], ◌∷◌, ◌++◌, map, length, take, Option, Some, None, refl, sym, ◌∙◌, ap, subst, true≢false, arith}
use Rattle.std.specs.Prelude.{option_and_then, filter_map, bytes_eq, slice_get, position, nat_lt, option_to_list}
use Rattle.std.specs.List.{AllByRecursion, IsDistinct, cons_option, position_or_len}
use Rattle.std.proofs.lemmas.Slice.Eq.{bytes_eq-Decides}
use Rattle.code_rules.specs.ModelTree.Tree as tree
use Rattle.code_rules.specs.ModelTree.declared.types.Parameter.{Parameter}
use Rattle.code_rules.specs.FlatDesign.Code.{Arena}
use Rattle.code_rules.specs.FlatDesign.declared.code.CodeBody.{CodeBody}
use Rattle.code_rules.specs.FlatDesign.declared.code.Local.{Local}
use Rattle.code_rules.specs.ModelRules.Meanings.{Declared, declaration, declarations}
use Rattle.code_rules.specs.ModelRules.Scopes.{Scope, item_scope, function_named}
use Rattle.code_rules.specs.ModelRules.Distinct.{names_of}
use Rattle.code_rules.specs.Deeds.{Home, has_body, body_number}
use Rattle.code_rules.specs.Bodies as source
use Rattle.code_rules.specs.Bodies.{LocalSource, AreLocals, Source, source_of, source_locals, source_parameters, parameter_sources, IsBody, IsBodyIf, AreBodies, around_item, body_count}
use Rattle.laws_code.proofs.Coded.{same_some}
use Rattle.laws_code.specs.Functions.{AreParameters, FunctionsStand, VariablesStand}
use Rattle.laws_code.proofs.Places.{mapped_is}

-- local variables

variables_shift : (l : Local) (ls : List Local) (n : ℕ) (xs : List LocalSource) → VariablesStand ls n xs → VariablesStand (l ∷ ls) (suc n) xs
variables_shift l ls n [] h = tt
variables_shift l ls n (x ∷ xs) h = (h.0, subst (λ k. VariablesStand (l ∷ ls) k xs) (let e : suc (n + 1) ≡ suc n + 1 = omega arith in e) (variables_shift l ls (n + 1) xs h.1))

pub locals_stand : (xs : List LocalSource) (ls : List Local) → AreLocals xs ls → VariablesStand ls 0 xs
locals_stand [] ls h = tt
locals_stand (x ∷ xs) ls h =
    subst (λ ys. VariablesStand ys 0 (x ∷ xs)) (sym h.3)
    ((record { name = x.0; value_type = h.0; inout = x.2 }, refl, h.2), variables_shift (record { name = x.0; value_type = h.0; inout = x.2 }) h.1 0 xs (locals_stand xs h.1 h.4))

pub parameters_stand : (ps : List Parameter) (xs : List LocalSource) (ls : List Local) → AreLocals (parameter_sources ps ++ xs) ls → AreParameters ps (take (length ps) ls)
parameters_stand [] xs ls h = tt
parameters_stand (p ∷ ps) xs ls h = subst (λ ys. AreParameters (p ∷ ps) (take (length (p ∷ ps)) ys)) (sym h.3) (h.2, refl, parameters_stand ps xs h.1 h.4)

-- names that differ

pub distinct_head : (x : List ℕ) (xs : List (List ℕ)) → IsDistinct bytes_eq (x ∷ xs) → AllByRecursion (λ y. bytes_eq x y ≡ false) xs × IsDistinct bytes_eq xs
unfolding IsDistinct
distinct_head x xs h = h

abbrev pub names_in : List Declared → List (List ℕ)
names_in ds = map (λ (d : Declared). d.name) ds

pub rest_distinct : (o : Option Declared) (ds : List Declared) → IsDistinct bytes_eq (names_in (cons_option o ds)) → IsDistinct bytes_eq (names_in ds)
rest_distinct None ds h = h
rest_distinct (Some d) ds h = (distinct_head d.name (names_in ds) h).1

pub all_behind : (P : List ℕ → Type 0) (o : Option Declared) (ds : List Declared) → AllByRecursion P (names_in (cons_option o ds)) → AllByRecursion P (names_in ds)
all_behind P None ds h = h
all_behind P (Some d) ds h = h.1

by_function : (P : List ℕ → Type 0) (b : Bool) (g f : tree.FunctionItem) (o : Option tree.FunctionItem) → P g.name → (o ≡ Some f → P f.name) → cond b (Some g) o ≡ Some f → P f.name
by_function P true g f o h rest e = subst (λ (x : tree.FunctionItem). P x.name) (same_some g f e) h
by_function P false g f o h rest e = rest e

function_declared : (P : List ℕ → Type 0) (is : List tree.Item) (name : List ℕ) (f : tree.FunctionItem) → AllByRecursion P (names_of is) → function_named is name ≡ Some f → P f.name
function_declared P [] name f h e = cc
function_declared P (tree.signal line x ∷ is) name f h e = function_declared P is name f h.1 e
function_declared P (tree.resolved line n ∷ is) name f h e = function_declared P is name f h.1 e
function_declared P (tree.clock line c ∷ is) name f h e = function_declared P is name f h.1 e
function_declared P (tree.fifo line t n size ∷ is) name f h e = function_declared P is name f h.1 e
function_declared P (tree.plain line kind n ∷ is) name f h e = function_declared P is name f h.1 e
function_declared P (tree.semaphore line n c ∷ is) name f h e = function_declared P is name f h.1 e
function_declared P (tree.memory line n size ∷ is) name f h e = function_declared P is name f h.1 e
function_declared P (tree.variable line t n c ∷ is) name f h e = function_declared P is name f h.1 e
function_declared P (tree.port line i n size ∷ is) name f h e = function_declared P is name f h.1 e
function_declared P (tree.export line i n ∷ is) name f h e = function_declared P is name f h.1 e
function_declared P (tree.initiator line n role ∷ is) name f h e = function_declared P is name f h.1 e
function_declared P (tree.target line n role ∷ is) name f h e = function_declared P is name f h.1 e
function_declared P (tree.instance line kind n ∷ is) name f h e = function_declared P is name f h.1 e
function_declared P (tree.bind line left right ∷ is) name f h e = function_declared P is name f h e
function_declared P (tree.function line g ∷ is) name f h e = by_function P (bytes_eq g.name name) g f (function_named is name) h.0 (function_declared P is name f h.1) e
function_declared P (tree.process line p ∷ is) name f h e = function_declared P is name f h.1 e

-- the place of a name behind another one
abbrev place_in : List ℕ → List tree.Item → ℕ
place_in name is = position_or_len (λ x. bytes_eq x name) (filter_map has_body is)

found_behind : {A : Type 0} (b : Bool) (n : ℕ) (x : A) (xs : List A) (y : A) → b ≡ false → slice_get xs n ≡ Some y → slice_get (x ∷ xs) (cond (not b) (1 + n) 0) ≡ Some y
found_behind true n x xs y h e = absurd (true≢false h)
found_behind false n x xs y h e = subst (λ k. slice_get (x ∷ xs) k ≡ Some y) (let k : suc n ≡ 1 + n = omega arith in k) e

found_here : {A : Type 0} (b : Bool) (n : ℕ) (x : A) (xs : List A) → b ≡ true → slice_get (x ∷ xs) (cond (not b) (1 + n) 0) ≡ Some x
found_here true n x xs h = refl
found_here false n x xs h = absurd (true≢false (sym h))

module _ (modules : List tree.Module) (all : List tree.Item) (place : ℕ) (h : Home) (a : Arena) where
  -- a function's body
  abbrev BodyAt : tree.FunctionItem → List CodeBody → ℕ → Type 0
  BodyAt f bodies k = (b : CodeBody) × (slice_get bodies k ≡ Some b) × IsBody place h a (item_scope modules all f.name) (source.of_function f) b

  with_first : (f : tree.FunctionItem) (name : List ℕ) (is : List tree.Item) (x : CodeBody) (bodies mid : List CodeBody) → bodies ≡ x ∷ mid → bytes_eq name f.name ≡ false → BodyAt f mid (place_in f.name is)
      → BodyAt f bodies (cond (not (bytes_eq name f.name)) (1 + place_in f.name is) 0)
  with_first f name is x bodies mid e apart k =
      (k.0, subst (λ bs. slice_get bs (cond (not (bytes_eq name f.name)) (1 + place_in f.name is) 0) ≡ Some k.0) (sym e) (found_behind (bytes_eq name f.name) (place_in f.name is) x mid k.0 apart k.1), k.2)

  by_name : (b : Bool) (g f : tree.FunctionItem) (name : List ℕ) (is : List tree.Item) (x : CodeBody) (bodies mid : List CodeBody) → bodies ≡ x ∷ mid → IsBody place h a (item_scope modules all g.name) (source.of_function g) x
      → AllByRecursion (λ y. bytes_eq g.name y ≡ false) (names_of is) → (function_named is name ≡ Some f → BodyAt f mid (place_in f.name is)) → cond b (Some g) (function_named is name) ≡ Some f
      → BodyAt f bodies (cond (not (bytes_eq g.name f.name)) (1 + place_in f.name is) 0)
  by_name true g f name is x bodies mid e body d rest k =
      let same = same_some g f k in (
        x,
        subst (λ bs. slice_get bs (cond (not (bytes_eq g.name f.name)) (1 + place_in f.name is) 0) ≡ Some x) (sym e)
            (found_here (bytes_eq g.name f.name) (place_in f.name is) x mid ((bytes_eq-Decides g.name f.name).1 (ap (λ (y : tree.FunctionItem). y.name) same))),
        subst (λ (y : tree.FunctionItem). IsBody place h a (item_scope modules all y.name) (source.of_function y) x) same body,
      )
  by_name false g f name is x bodies mid e body d rest k =
      with_first f g.name is x bodies mid e (function_declared (λ y. bytes_eq g.name y ≡ false) is name f d k) (rest k)

  without : (is : List tree.Item) (bodies mid : List CodeBody) (f : tree.FunctionItem) → bodies ≡ mid → BodyAt f mid (place_in f.name is) → BodyAt f bodies (place_in f.name is)
  without is bodies mid f e k = subst (λ bs. BodyAt f bs (place_in f.name is)) (sym e) k

  pub function_body : (is : List tree.Item) (bodies rest : List CodeBody) → IsDistinct bytes_eq (names_of is) → AreBodies modules all place h a is bodies rest → (name : List ℕ) (f : tree.FunctionItem) → function_named is name ≡ Some f
      → BodyAt f bodies (place_in f.name is)
  function_body [] bodies rest d r name f e = cc
  function_body (tree.signal line x ∷ is) bodies rest d r name f e = without is bodies r.0 f r.1 (function_body is r.0 rest (rest_distinct (declaration (tree.signal line x)) (declarations is) d) r.2 name f e)
  function_body (tree.resolved line n ∷ is) bodies rest d r name f e = without is bodies r.0 f r.1 (function_body is r.0 rest (rest_distinct (declaration (tree.resolved line n)) (declarations is) d) r.2 name f e)
  function_body (tree.fifo line t n size ∷ is) bodies rest d r name f e = without is bodies r.0 f r.1 (function_body is r.0 rest (rest_distinct (declaration (tree.fifo line t n size)) (declarations is) d) r.2 name f e)
  function_body (tree.plain line kind n ∷ is) bodies rest d r name f e = without is bodies r.0 f r.1 (function_body is r.0 rest (rest_distinct (declaration (tree.plain line kind n)) (declarations is) d) r.2 name f e)
  function_body (tree.semaphore line n c ∷ is) bodies rest d r name f e = without is bodies r.0 f r.1 (function_body is r.0 rest (rest_distinct (declaration (tree.semaphore line n c)) (declarations is) d) r.2 name f e)
  function_body (tree.memory line n size ∷ is) bodies rest d r name f e = without is bodies r.0 f r.1 (function_body is r.0 rest (rest_distinct (declaration (tree.memory line n size)) (declarations is) d) r.2 name f e)
  function_body (tree.variable line t n c ∷ is) bodies rest d r name f e = without is bodies r.0 f r.1 (function_body is r.0 rest (rest_distinct (declaration (tree.variable line t n c)) (declarations is) d) r.2 name f e)
  function_body (tree.port line i n size ∷ is) bodies rest d r name f e = without is bodies r.0 f r.1 (function_body is r.0 rest (rest_distinct (declaration (tree.port line i n size)) (declarations is) d) r.2 name f e)
  function_body (tree.export line i n ∷ is) bodies rest d r name f e = without is bodies r.0 f r.1 (function_body is r.0 rest (rest_distinct (declaration (tree.export line i n)) (declarations is) d) r.2 name f e)
  function_body (tree.initiator line n role ∷ is) bodies rest d r name f e = without is bodies r.0 f r.1 (function_body is r.0 rest (rest_distinct (declaration (tree.initiator line n role)) (declarations is) d) r.2 name f e)
  function_body (tree.target line n role ∷ is) bodies rest d r name f e = without is bodies r.0 f r.1 (function_body is r.0 rest (rest_distinct (declaration (tree.target line n role)) (declarations is) d) r.2 name f e)
  function_body (tree.instance line kind n ∷ is) bodies rest d r name f e = without is bodies r.0 f r.1 (function_body is r.0 rest (rest_distinct (declaration (tree.instance line kind n)) (declarations is) d) r.2 name f e)
  function_body (tree.bind line left right ∷ is) bodies rest d r name f e = without is bodies r.0 f r.1 (function_body is r.0 rest d r.2 name f e)
  function_body (tree.clock line c ∷ is) bodies rest d r name f e =
      let two = distinct_head c.name (names_of is) d in
      with_first f c.name is r.1.0 bodies r.0 r.1.1 (function_declared (λ y. bytes_eq c.name y ≡ false) is name f two.0 e) (function_body is r.0 rest two.1 r.2 name f e)
  function_body (tree.process line p ∷ is) bodies rest d r name f e =
      let two = distinct_head p.name (names_of is) d in
      with_first f p.name is r.1.0 bodies r.0 r.1.1 (function_declared (λ y. bytes_eq p.name y ≡ false) is name f two.0 e) (function_body is r.0 rest two.1 r.2 name f e)
  function_body (tree.function line g ∷ is) bodies rest d r name f e =
      let two = distinct_head g.name (names_of is) d in
      by_name (bytes_eq g.name name) g f name is r.1.0 bodies r.0 r.1.1 r.1.2 two.0 (function_body is r.0 rest two.1 r.2 name f) e

  -- how many bodies there are
  abbrev pub Used : List tree.Item → List CodeBody → List CodeBody → Type 0
  Used is bodies rest = (used : List CodeBody) × (bodies ≡ used ++ rest) × (length used ≡ body_count is)

  used_if : (o : Option Source) (s : Scope) (is : List tree.Item) (bodies mid rest : List CodeBody) → IsBodyIf place h a s o bodies mid → Used is mid rest → (used : List CodeBody) × (bodies ≡ used ++ rest) × (length used ≡ length (option_to_list o) + body_count is)
  used_if None s is bodies mid rest r k = (k.0, r ∙ k.1, k.2 ∙ (let e : body_count is ≡ length (option_to_list {X = Source} None) + body_count is = omega arith in e))
  used_if (Some x) s is bodies mid rest r k =
      (r.0 ∷ k.0, r.1 ∙ ap (λ bs. r.0 ∷ bs) k.1, (let l = k.2 in let e : length (r.0 ∷ k.0) ≡ length (option_to_list (Some x)) + body_count is = omega arith in e))

  pub used_bodies : (is : List tree.Item) (bodies rest : List CodeBody) → AreBodies modules all place h a is bodies rest → Used is bodies rest
  used_bodies [] bodies rest r = ([], r, refl)
  used_bodies (i ∷ is) bodies rest r = used_if (source_of i) (item_scope modules all (around_item i)) is bodies r.0 rest r.1 (used_bodies is r.0 rest r.2)

-- numbers of bodies over all modules
pub slice_behind : {A : Type 0} (pre xs : List A) (k : ℕ) → slice_get (pre ++ xs) (length pre + k) ≡ slice_get xs k
slice_behind [] xs k = ap (slice_get xs) (let e : 0 + k ≡ k = omega arith in e)
slice_behind (x ∷ pre) xs k = ap (slice_get (x ∷ pre ++ xs)) (let e : length (x ∷ pre) + k ≡ suc (length pre + k) = omega arith in e) ∙ slice_behind pre xs k

pub pos_is : (b : Bool) (n k : ℕ) → cond b (Some n) None ≡ Some k → n ≡ k
pos_is true n k h = same_some n k h
pos_is false n k h = cc

-- a function that is found by its name is the body of its number
pub functions_stand : (modules : List tree.Module) (all : List tree.Item) (place first : ℕ) (exceptions : List (List ℕ)) (a : Arena) (pre bodies rest : List CodeBody) → a.bodies ≡ pre ++ bodies → length pre ≡ first
    → IsDistinct bytes_eq (names_of all) → AreBodies modules all place (record { first_body = first; exceptions = exceptions }) a all bodies rest → (around : List ℕ)
    → FunctionsStand (record { first_body = first; exceptions = exceptions }) a place (item_scope modules all around)
functions_stand modules all place first exceptions a pre bodies rest total len d r around name f n named numbered =
    let h : Home = record { first_body = first; exceptions = exceptions } in
    let x = function_body modules all place (record { first_body = first; exceptions = exceptions }) a all bodies rest d r name f named in
    let m = mapped_is (λ k. first + k) (position (λ y. bytes_eq y f.name) (filter_map has_body all)) n (sym (ap (option_and_then (λ (g : tree.FunctionItem). body_number (record { first_body = first; exceptions = exceptions }) all g.name)) named) ∙ numbered) in
    let k = pos_is (nat_lt (place_in f.name all) (length (filter_map has_body all))) (place_in f.name all) m.0 m.1 in
    let at : slice_get a.bodies n ≡ Some x.0 =
    ap (λ bs. slice_get bs n) total ∙ ap (slice_get (pre ++ bodies)) (sym m.2 ∙ (λ i. sym len i + sym k i)) ∙ slice_behind pre bodies (place_in f.name all) ∙ x.1 in
    record {
      body = x.0;
      here = record { found = at; is_function = x.2.kind; here = x.2.in_module };
      parameters = subst (λ j. AreParameters f.parameters (take j x.0.locals)) (sym x.2.parameters) (parameters_stand f.parameters _ x.0.locals x.2.locals);
      answer = x.2.answer;
    }
