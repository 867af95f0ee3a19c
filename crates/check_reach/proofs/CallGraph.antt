-- The bodies of a module, the numbers of their names, and the calls among them.
use Rattle.std.proofs.Common.{◌≡◌, ◌<◌, ℕ, Bool, true, false, List, [], map, filter_map, length, get_or, Option, Some, None, refl, sym, ap, ◌∙◌, subst, arith}
use Rattle.std.specs.Prelude.{bytes_eq, is_some, option_map, option_and_then}
use Rattle.std.specs.List.{list_any}
use Rattle.std.proofs.lemmas.List.Quantifiers.{position-Some}
use Rattle.model_tree.specs.Tree as tree
use Rattle.model_tree.specs.declared.items.ProcessKind.{ProcessKind}
use Rattle.model_tree.specs.declared.items.ProcessKind.TheVariants as process
use Rattle.flat_design.specs.declared.code.BodyKind.{BodyKind}
use Rattle.flat_design.specs.declared.code.BodyKind.TheVariants as body_kind
use Rattle.check_expressions.specs.ModelRules.Meanings.{Declared, declaration, declarations}
use Rattle.check_expressions.specs.ModelRules.declared.meanings.Meaning.TheVariants as meaning
use Rattle.check_expressions.specs.ModelRules.Scopes.{is_declared, as_function, functions_in, function_named}
use Rattle.check_expressions.specs.ModelRules.Names.{name_if}
use Rattle.check_expressions.specs.ModelRules.Reach.{Body, Names, Placed, body_of, bodies_in, functions, process_kind, is_of_kind, statements_of, is_among, names_where, calls, is_call_of, calls_in_operation, has_blocking, is_caller, is_called_by, roots}
use Rattle.check_reach.specs.declared.edges.Edge.{Edge}
use Rattle.check_reach.specs.Flat.{Flat, flat_of, flats_in, only_if, called, called_in, is_blocking_body, blocking_bodies}
use Rattle.check_reach.specs.Sets.{number_of, function_number, function_numbers, edge, turned, edge_of, edges_from, caller_number, edges_in, edges_of}
use Rattle.check_reach.proofs.Members.{In, and_true, and_both, same_bytes, equal_bytes, any_in, in_any, in_map, map_in, in_filter_map, filter_map_in, length_filtered, in_flat_map, flat_map_in, in_filter, filter_in, found_any, any_found, any_position, among_in, in_among, in_where, where_in}
use Rattle.check_reach.proofs.SpreadLaws.{AreEdges, AreRoots, IsNumbering}

-- the names of bodies are declared

abbrev body_name : Option Body → List ℕ
body_name None = []
body_name (Some b) = b.name

abbrev body_kind_of : Option Body → BodyKind
body_kind_of None = body_kind.Clock
body_kind_of (Some b) = b.kind

body_declared : (i : tree.Item) (b : Body) → body_of i ≡ Some b → (d : Declared) × (declaration i ≡ Some d) × (d.name ≡ b.name)
body_declared (tree.signal line s) b h = cc
body_declared (tree.resolved line name) b h = cc
body_declared (tree.clock line c) b h = cc
body_declared (tree.fifo line t name size) b h = cc
body_declared (tree.plain line kind name) b h = cc
body_declared (tree.semaphore line name c) b h = cc
body_declared (tree.memory line name size) b h = cc
body_declared (tree.variable line t name c) b h = cc
body_declared (tree.port line i name size) b h = cc
body_declared (tree.export line i name) b h = cc
body_declared (tree.initiator line name role) b h = cc
body_declared (tree.target line name role) b h = cc
body_declared (tree.instance line kind name) b h = cc
body_declared (tree.bind line left right) b h = cc
body_declared (tree.function line f) b h = (record { name = f.name; meaning = meaning.Function }, refl, ap body_name h)
body_declared (tree.process line p) b h = (record { name = p.name; meaning = meaning.Process }, refl, ap body_name h)

declared_any : (items : List tree.Item) (b : Body) → In b (bodies_in items) → list_any (is_declared b.name) (declarations items) ≡ true
declared_any items b at =
    let w = in_filter_map body_of items b at in
    let d = body_declared w.0 b w.2 in
    in_any (is_declared b.name) (declarations items) d.0 (filter_map_in declaration items w.0 d.0 w.1 d.1)
    (subst (λ n. bytes_eq n b.name ≡ true) (sym d.2) (same_bytes b.name))

pub body_number : (items : List tree.Item) (b : Body) → In b (bodies_in items) → (k : ℕ) × (number_of items b.name ≡ Some k)
body_number items b at = any_position (is_declared b.name) (declarations items) (declared_any items b at)

abbrev nothing : Declared
nothing = record { name = []; meaning = meaning.Mutex }

abbrev pub name_at : List tree.Item → ℕ → List ℕ
name_at items k = (get_or (declarations items) k nothing).name

pub number_within : (items : List tree.Item) (count : ℕ) → count ≡ length items → (n : List ℕ) (k : ℕ) → number_of items n ≡ Some k → k < count
number_within items count is n k h =
    let at = position-Some (is_declared n) (declarations items) k nothing h in
    let below = at.0 in
    let few = length_filtered declaration items in
    omega (arith, is, below, few)

pub number_back : (items : List tree.Item) (n : List ℕ) (k : ℕ) → number_of items n ≡ Some k → name_at items k ≡ n
number_back items n k h = let at = position-Some (is_declared n) (declarations items) k nothing h in equal_bytes (name_at items k) n at.1

in_bodies : (items : List tree.Item) (b : Body) → In b (functions items) → In b (bodies_in items)
in_bodies items b at = (in_filter (λ (x : Body). is_of_kind body_kind.Function x.kind) (bodies_in items) b at).0

pub numbering : (items : List tree.Item) (count : ℕ) → count ≡ length items → IsNumbering (functions items) (number_of items) (name_at items) count
numbering items count is = record {
  within = number_within items count is;
  back = number_back items;
  all = λ b at. body_number items b (in_bodies items b at);
}

-- functions

abbrev function_name : Option tree.FunctionItem → List ℕ
function_name None = []
function_name (Some f) = f.name

function_body : (i : tree.Item) (f : tree.FunctionItem) → as_function i ≡ Some f → (b : Body) × (body_of i ≡ Some b) × (is_of_kind body_kind.Function b.kind ≡ true) × (b.name ≡ f.name)
function_body (tree.signal line s) f h = cc
function_body (tree.resolved line name) f h = cc
function_body (tree.clock line c) f h = cc
function_body (tree.fifo line t name size) f h = cc
function_body (tree.plain line kind name) f h = cc
function_body (tree.semaphore line name c) f h = cc
function_body (tree.memory line name size) f h = cc
function_body (tree.variable line t name c) f h = cc
function_body (tree.port line i name size) f h = cc
function_body (tree.export line i name) f h = cc
function_body (tree.initiator line name role) f h = cc
function_body (tree.target line name role) f h = cc
function_body (tree.instance line kind name) f h = cc
function_body (tree.bind line left right) f h = cc
function_body (tree.function line g) f h = (record { kind = body_kind.Function; name = g.name; block = g.body }, refl, refl, ap function_name h)
function_body (tree.process line p) f h = cc

no_function : (k : ProcessKind) → is_of_kind body_kind.Function (process_kind k) ≡ true → ⊥
no_function process.Thread h = cc
no_function process.Method h = cc

body_function : (i : tree.Item) (b : Body) → body_of i ≡ Some b → is_of_kind body_kind.Function b.kind ≡ true → (f : tree.FunctionItem) × (as_function i ≡ Some f) × (f.name ≡ b.name)
body_function (tree.signal line s) b h k = cc
body_function (tree.resolved line name) b h k = cc
body_function (tree.clock line c) b h k = cc
body_function (tree.fifo line t name size) b h k = cc
body_function (tree.plain line kind name) b h k = cc
body_function (tree.semaphore line name c) b h k = cc
body_function (tree.memory line name size) b h k = cc
body_function (tree.variable line t name c) b h k = cc
body_function (tree.port line i name size) b h k = cc
body_function (tree.export line i name) b h k = cc
body_function (tree.initiator line name role) b h k = cc
body_function (tree.target line name role) b h k = cc
body_function (tree.instance line kind name) b h k = cc
body_function (tree.bind line left right) b h k = cc
body_function (tree.function line g) b h k = (g, refl, ap body_name h)
body_function (tree.process line p) b h k = absurd (no_function p.kind (subst (λ (x : BodyKind). is_of_kind body_kind.Function x ≡ true) (sym (ap body_kind_of h)) k))

abbrev is_function_body : Body → Bool
is_function_body x = is_of_kind body_kind.Function x.kind

function_known : (items : List tree.Item) (n : List ℕ) → is_some (function_named items n) ≡ true → (b : Body) × In b (functions items) × (b.name ≡ n)
function_known items n h =
    let w = any_in (λ (f : tree.FunctionItem). bytes_eq f.name n) (functions_in items) (found_any (λ (f : tree.FunctionItem). bytes_eq f.name n) (functions_in items) h) in
    let i = in_filter_map as_function items w.0 w.1 in
    let b = function_body i.0 w.0 i.2 in
    (b.0, filter_in is_function_body (bodies_in items) b.0 (filter_map_in body_of items i.0 b.0 i.1 b.1) b.2, b.3 ∙ equal_bytes w.0.name n w.2)

known_function : (items : List tree.Item) (b : Body) → In b (functions items) → is_some (function_named items b.name) ≡ true
known_function items b at =
    let f = in_filter is_function_body (bodies_in items) b at in
    let i = in_filter_map body_of items b f.0 in
    let g = body_function i.0 b i.2 f.1 in
    any_found (λ (x : tree.FunctionItem). bytes_eq x.name b.name) (functions_in items)
    (in_any (λ (x : tree.FunctionItem). bytes_eq x.name b.name) (functions_in items) g.0 (filter_map_in as_function items i.0 g.0 i.1 g.1)
    (subst (λ n. bytes_eq n b.name ≡ true) (sym g.2) (same_bytes b.name)))

pub only_true : {A : Type 0} (b : Bool) (o : Option A) (x : A) → only_if b o ≡ Some x → (b ≡ true) × (o ≡ Some x)
only_true true o x h = (refl, h)
only_true false o x h = cc

pub true_only : {A : Type 0} (b : Bool) (o : Option A) → b ≡ true → only_if b o ≡ o
true_only true o h = refl
true_only false o h = cc

pub number_function : (items : List tree.Item) (n : List ℕ) (k : ℕ) → function_number items n ≡ Some k → (b : Body) × In b (functions items) × (b.name ≡ n) × (number_of items n ≡ Some k)
number_function items n k h =
    let w = only_true (is_some (function_named items n)) (number_of items n) k h in
    let b = function_known items n w.0 in
    (b.0, b.1, b.2, w.1)

pub function_numbered : (items : List tree.Item) (b : Body) (k : ℕ) → In b (functions items) → number_of items b.name ≡ Some k → function_number items b.name ≡ Some k
function_numbered items b k at h = true_only (is_some (function_named items b.name)) (number_of items b.name) (known_function items b at) ∙ h

-- calls

abbrev name_told : Option (List ℕ) → List ℕ
name_told None = []
name_told (Some n) = n

call_in : (o : tree.Operation) (f : List ℕ) → called_in o ≡ Some f → calls_in_operation f o ≡ true
call_in (tree.call name arguments) f h = subst (λ n. bytes_eq name n ≡ true) (ap name_told h) (same_bytes name)
call_in (tree.read c) f h = cc
call_in (tree.nb_read c name) f h = cc
call_in (tree.nb_write c e) f h = cc
call_in (tree.trylock c) f h = cc
call_in (tree.unlock c) f h = cc
call_in (tree.sem_trywait c) f h = cc
call_in (tree.nb_transport socket p phase delay) f h = cc

in_call : (o : tree.Operation) (f : List ℕ) → calls_in_operation f o ≡ true → called_in o ≡ Some f
in_call (tree.call name arguments) f h = ap Some (equal_bytes name f h)
in_call (tree.read c) f h = cc
in_call (tree.nb_read c name) f h = cc
in_call (tree.nb_write c e) f h = cc
in_call (tree.trylock c) f h = cc
in_call (tree.unlock c) f h = cc
in_call (tree.sem_trywait c) f h = cc
in_call (tree.nb_transport socket p phase delay) f h = cc

pub call_of : (s : tree.Statement) (f : List ℕ) → called s ≡ Some f → is_call_of f s ≡ true
call_of (tree.var line t name e) f h = cc
call_of (tree.assign line target e) f h = cc
call_of (tree.operate line name at o) f h = call_in o f h
call_of (tree.act line a) f h = cc
call_of (tree.if_ line e body other) f h = cc
call_of (tree.while_ line e body) f h = cc
call_of (tree.guard line body undo) f h = cc
call_of (tree.try_ line body handlers) f h = cc

pub of_call : (s : tree.Statement) (f : List ℕ) → is_call_of f s ≡ true → called s ≡ Some f
of_call (tree.var line t name e) f h = cc
of_call (tree.assign line target e) f h = cc
of_call (tree.operate line name at o) f h = in_call o f h
of_call (tree.act line a) f h = cc
of_call (tree.if_ line e body other) f h = cc
of_call (tree.while_ line e body) f h = cc
of_call (tree.guard line body undo) f h = cc
of_call (tree.try_ line body handlers) f h = cc

-- the edges of calls

abbrev some_value : {A : Type 0} → A → Option A → A
some_value d None = d
some_value d (Some x) = x

some_same : {A : Type 0} (x y : A) → Some x ≡ Some y → x ≡ y
some_same x y h = ap (some_value x) h

mapped_some : {A B : Type 0} (f : A → B) (o : Option A) (y : B) → option_map f o ≡ Some y → (x : A) × (o ≡ Some x) × (f x ≡ y)
mapped_some f None y h = cc
mapped_some f (Some x) y h = (x, refl, some_same (f x) y h)

then_some : {A B : Type 0} (f : A → Option B) (o : Option A) (y : B) → option_and_then f o ≡ Some y → (x : A) × (o ≡ Some x) × (f x ≡ Some y)
then_some f None y h = cc
then_some f (Some x) y h = (x, refl, h)

edges_from_in : (items : List tree.Item) (o : Option ℕ) (xs : List Placed) (e : Edge) → In e (edges_from items o xs) → (k : ℕ) × (o ≡ Some k) × In e (filter_map (edge_of items k) xs)
edges_from_in items None xs e at = absurd at
edges_from_in items (Some k) xs e at = (k, refl, at)

edge_from : (items : List tree.Item) (e : Edge) → In e (edges_of items (flats_in items))
    → (c : Body) × (b : Body) × In c (functions items) × In b (functions items) × (calls b.name c ≡ true) × (number_of items c.name ≡ Some e.source) × (number_of items b.name ≡ Some e.target)
edge_from items e at =
    let f = in_flat_map (edges_in items) (flats_in items) e at in
    let c = in_map flat_of (bodies_in items) f.0 f.1 in
    let here : In e (edges_in items (flat_of c.0)) = subst (λ (x : Flat). In e (edges_in items x)) c.2 f.2 in
    let k = edges_from_in items (caller_number items (flat_of c.0)) (statements_of c.0) e here in
    let caller = only_true (is_of_kind body_kind.Function c.0.kind) (number_of items c.0.name) k.0 k.1 in
    let x = in_filter_map (edge_of items k.0) (statements_of c.0) e k.2 in
    let j = mapped_some (edge k.0) (option_and_then (function_number items) (called x.0.0)) e x.2 in
    let n = then_some (function_number items) (called x.0.0) j.0 j.1 in
    let b = number_function items n.0 j.0 n.2 in (
      c.0,
      b.0,
      filter_in is_function_body (bodies_in items) c.0 c.1 caller.0,
      b.1,
      in_any (λ (y : Placed). is_call_of b.0.name y.0) (statements_of c.0) x.0 x.1 (subst (λ m. is_call_of m x.0.0 ≡ true) (sym b.2) (call_of x.0.0 n.0 n.1)),
      caller.1 ∙ ap (λ (y : Edge). Some y.source) j.2,
      ap (number_of items) b.2 ∙ b.3 ∙ ap (λ (y : Edge). Some y.target) j.2,
    )

edge_to : (items : List tree.Item) (c b : Body) (k j : ℕ) → In c (functions items) → In b (functions items) → calls b.name c ≡ true → number_of items c.name ≡ Some k → number_of items b.name ≡ Some j
    → In (edge k j) (edges_of items (flats_in items))
edge_to items c b k j in_c in_b h hk hj =
    let f = in_filter is_function_body (bodies_in items) c in_c in
    let x = any_in (λ (y : Placed). is_call_of b.name y.0) (statements_of c) h in
    let target : edge_of items k x.0 ≡ Some (edge k j) =
    ap (λ (o : Option (List ℕ)). option_map (edge k) (option_and_then (function_number items) o)) (of_call x.0.0 b.name x.2)
    ∙ ap (option_map (edge k)) (function_numbered items b j in_b hj) in
    let at = filter_map_in (edge_of items k) (statements_of c) x.0 (edge k j) x.1 target in
    let source : caller_number items (flat_of c) ≡ Some k = true_only (is_of_kind body_kind.Function c.kind) (number_of items c.name) f.1 ∙ hk in
    flat_map_in (edges_in items) (flats_in items) (flat_of c) (edge k j) (map_in flat_of (bodies_in items) c f.0)
    (subst (λ (o : Option ℕ). In (edge k j) (edges_from items o (statements_of c))) (sym source) at)

pub forward : (items : List tree.Item) (edges : List Edge) → edges ≡ edges_of items (flats_in items) → AreEdges is_caller (functions items) (number_of items) edges
forward items edges is = record {
  to = λ c b k j in_c in_b h hk hj. subst (λ (es : List Edge). In (edge k j) es) (sym is) (edge_to items c b k j in_c in_b h hk hj);
  from = λ e at. edge_from items e (subst (λ (es : List Edge). In e es) is at);
}

pub backward : (items : List tree.Item) (edges : List Edge) → edges ≡ map turned (edges_of items (flats_in items)) → AreEdges is_called_by (functions items) (number_of items) edges
backward items edges is = record {
  to = λ c b k j in_c in_b h hk hj.
      subst (λ (es : List Edge). In (edge k j) es) (sym is)
      (map_in turned (edges_of items (flats_in items)) (edge j k) (edge_to items b c j k in_b in_c h hj hk));
  from = λ e at.
      let w = in_map turned (edges_of items (flats_in items)) e (subst (λ (es : List Edge). In e es) is at) in
      let f = edge_from items w.0 w.1 in
      (f.1, f.0, f.3, f.2, f.4, f.6 ∙ ap (λ (y : Edge). Some y.source) (sym w.2), f.5 ∙ ap (λ (y : Edge). Some y.target) (sym w.2));
}

-- the functions that closures begin with

pub tested_roots : (items : List tree.Item) (names : Names) (test : List ℕ → Bool) → ((n : List ℕ) → is_among names n ≡ test n)
    → AreRoots (functions items) (number_of items) (roots items test) (function_numbers items names)
tested_roots items names test same = record {
  to = λ b k at named hk.
      let w = in_where (λ (x : Body). test x.name) (functions items) b.name named in
      let passes : test b.name ≡ true = subst (λ n. test n ≡ true) (sym w.3) w.2 in
      filter_map_in (function_number items) names b.name k (among_in names b.name (same b.name ∙ passes)) (function_numbered items b k at hk);
  from = λ k at.
      let w = in_filter_map (function_number items) names k at in
      let f = number_function items w.0 k w.2 in
      let passes : test f.0.name ≡ true = ap test f.2 ∙ sym (same w.0) ∙ in_among names w.0 w.1 in
      (f.0, f.1, where_in (λ (x : Body). test x.name) (functions items) f.0 f.1 passes, ap (number_of items) f.2 ∙ f.3);
  only = λ n at. let w = in_where (λ (x : Body). test x.name) (functions items) n at in (w.0, w.1, w.3);
}

pub name_if_true : (b : Bool) (name n : List ℕ) → name_if b name ≡ Some n → (b ≡ true) × (name ≡ n)
name_if_true true name n h = (refl, some_same name n h)
name_if_true false name n h = cc

pub true_name_if : (b : Bool) (name : List ℕ) → b ≡ true → name_if b name ≡ Some name
true_name_if true name h = refl
true_name_if false name h = cc

abbrev blocking_name : List tree.Item → Flat → Option (List ℕ)
blocking_name items f = name_if (is_blocking_body items f) f.name

pub blocking_roots : (items : List tree.Item) → AreRoots (functions items) (number_of items) (names_where (has_blocking items) (functions items)) (function_numbers items (blocking_bodies items (flats_in items)))
blocking_roots items = record {
  to = λ b k at named hk.
      let w = in_where (has_blocking items) (functions items) b.name named in
      let f = in_filter is_function_body (bodies_in items) w.0 w.1 in
      let blocks = and_both (is_of_kind body_kind.Function w.0.kind) (has_blocking items w.0) f.1 w.2 in
      let here = filter_map_in (blocking_name items) (flats_in items) (flat_of w.0) w.0.name (map_in flat_of (bodies_in items) w.0 f.0) (true_name_if (is_blocking_body items (flat_of w.0)) w.0.name blocks) in
      filter_map_in (function_number items) (blocking_bodies items (flats_in items)) b.name k
      (subst (λ n. In n (blocking_bodies items (flats_in items))) (sym w.3) here) (function_numbered items b k at hk);
  from = λ k at.
      let w = in_filter_map (function_number items) (blocking_bodies items (flats_in items)) k at in
      let g = in_filter_map (blocking_name items) (flats_in items) w.0 w.1 in
      let c = in_map flat_of (bodies_in items) g.0 g.1 in
      let said : blocking_name items (flat_of c.0) ≡ Some w.0 = ap (blocking_name items) (sym c.2) ∙ g.2 in
      let told = name_if_true (is_blocking_body items (flat_of c.0)) c.0.name w.0 said in
      let parts = and_true (is_of_kind body_kind.Function c.0.kind) (has_blocking items c.0) told.0 in
      let there = filter_in is_function_body (bodies_in items) c.0 c.1 parts.0 in
      let n = number_function items w.0 k w.2 in
      (c.0, there, where_in (has_blocking items) (functions items) c.0 there parts.1, ap (number_of items) told.1 ∙ n.3);
  only = λ n at. let w = in_where (has_blocking items) (functions items) n at in (w.0, w.1, w.3);
}
