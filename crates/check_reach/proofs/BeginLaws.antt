-- What is begun and handled, as tests of names.
use Rattle.std.proofs.Common.{◌≡◌, ℕ, Bool, true, false, ◌||◌, ◌&&◌, ◌⊎◌, List, ◌++◌, Option, Some, None, refl, sym, ap, ◌∙◌, subst, inl, inr}
use Rattle.std.specs.Prelude.{bytes_eq, option_to_list}
use Rattle.std.specs.Option.{option_or}
use Rattle.std.specs.List.{list_any, flat_map}
use Rattle.std.proofs.lemmas.List.Folds.{list_any-append}
use Rattle.model_tree.specs.Tree as tree
use Rattle.model_tree.specs.declared.items.InitiatorRole.{InitiatorRole}
use Rattle.model_tree.specs.declared.items.InitiatorRole.TheVariants as initiator
use Rattle.model_tree.specs.declared.items.TargetRole.{TargetRole}
use Rattle.model_tree.specs.declared.items.TargetRole.TheVariants as target
use Rattle.flat_design.specs.declared.code.BodyKind.{BodyKind}
use Rattle.flat_design.specs.declared.code.BodyKind.TheVariants as body_kind
use Rattle.check_expressions.specs.ModelRules.Names.{name_if}
use Rattle.check_expressions.specs.ModelRules.Reach.{Body, Placed, bodies_in, is_of_kind, statements_of, is_among, calls, calls_unwinding, is_call_of, is_spawn_of, same_way, spawns, begun_from, is_process_of, is_name, handles_nonblocking, handles_blocking, is_nonblocking_handler, is_handler}
use Rattle.check_reach.specs.Flat.{Flat, flat_of, flats_in, only_if, called, spawned, spawned_in, picked, picked_in, begun, named_of, nonblocking_handlers, blocking_handlers, all_handlers}
use Rattle.check_reach.specs.declared.begun.Begin.{Begin}
use Rattle.check_reach.specs.declared.begun.Begin.TheVariants as begin
use Rattle.check_reach.specs.Sets.{number_of}
use Rattle.check_reach.proofs.Members.{In, and_true, and_both, or_cases, or_left, or_right, same_test, same_bytes, equal_bytes, any_in, in_any, in_map, map_in, in_filter_map, filter_map_in, in_flat_map, flat_map_in, among_in, in_among, among_flat, any_same}
use Rattle.check_reach.proofs.CallGraph.{call_of, of_call, only_true, true_only, name_if_true, true_name_if, body_number}

-- what statements begin

spawn_in : (method : Bool) (a : tree.Action) (f : List ℕ) (line : ℕ) → spawned_in method a ≡ Some f → is_spawn_of method f (tree.act line a) ≡ true
spawn_in method (tree.spawn x) f line h =
    let w = name_if_true (same_way method x.method) x.function f h in
    and_both (same_way method x.method) (bytes_eq x.function f) w.0 (subst (λ n. bytes_eq x.function n ≡ true) w.1 (same_bytes x.function))
spawn_in method _ f line h = cc

in_spawn : (method : Bool) (a : tree.Action) (f : List ℕ) (line : ℕ) → is_spawn_of method f (tree.act line a) ≡ true → spawned_in method a ≡ Some f
in_spawn method (tree.spawn x) f line h =
    let w = and_true (same_way method x.method) (bytes_eq x.function f) h in
    true_name_if (same_way method x.method) x.function w.0 ∙ ap Some (equal_bytes x.function f w.1)
in_spawn method _ f line h = cc

spawn_of : (method : Bool) (s : tree.Statement) (f : List ℕ) → spawned method s ≡ Some f → is_spawn_of method f s ≡ true
spawn_of method (tree.var line t name e) f h = cc
spawn_of method (tree.assign line target e) f h = cc
spawn_of method (tree.operate line name at o) f h = cc
spawn_of method (tree.act line a) f h = spawn_in method a f line h
spawn_of method (tree.if_ line e body other) f h = cc
spawn_of method (tree.while_ line e body) f h = cc
spawn_of method (tree.guard line body undo) f h = cc
spawn_of method (tree.try_ line body handlers) f h = cc

of_spawn : (method : Bool) (s : tree.Statement) (f : List ℕ) → is_spawn_of method f s ≡ true → (spawned method s ≡ Some f) × (called s ≡ None)
of_spawn method (tree.var line t name e) f h = cc
of_spawn method (tree.assign line target e) f h = cc
of_spawn method (tree.operate line name at o) f h = cc
of_spawn method (tree.act line a) f h = (in_spawn method a f line h, refl)
of_spawn method (tree.if_ line e body other) f h = cc
of_spawn method (tree.while_ line e body) f h = cc
of_spawn method (tree.guard line body undo) f h = cc
of_spawn method (tree.try_ line body handlers) f h = cc

either : {A : Type 0} (o p : Option A) (x : A) → option_or o p ≡ Some x → (o ≡ Some x) ⊎ (p ≡ Some x)
either None p x h = inr h
either (Some y) p x h = inl h

only_none : {A : Type 0} (b : Bool) → only_if {A = A} b None ≡ None
only_none true = refl
only_none false = refl

-- a name that a process calls or spawns
abbrev begins : BodyKind → Bool → List ℕ → Placed → BodyKind → Bool
begins kind method f x of = (is_of_kind kind of && is_call_of f x.0) || is_spawn_of method f x.0

abbrev taken : BodyKind → Bool → BodyKind → Placed → Option (List ℕ)
taken kind method of x = option_or (only_if (is_of_kind kind of) (called x.0)) (spawned method x.0)

taken_begins : (kind : BodyKind) (method : Bool) (of : BodyKind) (x : Placed) (f : List ℕ) → taken kind method of x ≡ Some f → ((is_of_kind kind of ≡ true) × (is_call_of f x.0 ≡ true)) ⊎ (is_spawn_of method f x.0 ≡ true)
taken_begins kind method of x f h =
    elim (either (only_if (is_of_kind kind of) (called x.0)) (spawned method x.0) f h) [
      | inl calls ↦ let w = only_true (is_of_kind kind of) (called x.0) f calls in inl (w.0, call_of x.0 f w.1)
      | inr spawn ↦ inr (spawn_of method x.0 f spawn)
    ]

called_taken : (kind : BodyKind) (method : Bool) (of : BodyKind) (x : Placed) (f : List ℕ) → is_of_kind kind of ≡ true → is_call_of f x.0 ≡ true → taken kind method of x ≡ Some f
called_taken kind method of x f k h =
    ap (λ o. option_or o (spawned method x.0)) (true_only (is_of_kind kind of) (called x.0) k ∙ of_call x.0 f h)

spawned_taken : (kind : BodyKind) (method : Bool) (of : BodyKind) (x : Placed) (f : List ℕ) → is_spawn_of method f x.0 ≡ true → taken kind method of x ≡ Some f
spawned_taken kind method of x f h =
    let w = of_spawn method x.0 f h in
    ap (λ o. option_or (only_if (is_of_kind kind of) o) (spawned method x.0)) w.1
    ∙ ap (λ o. option_or o (spawned method x.0)) (only_none (is_of_kind kind of)) ∙ w.0

module _ (items : List tree.Item) (f : List ℕ) where
  abbrev starts : BodyKind → Bool → Body → Bool
  starts kind method b = (is_of_kind kind b.kind && calls f b) || spawns method f b

  module _ (way : Begin) (kind : BodyKind) (method : Bool) (same : (of : BodyKind) (x : Placed) → picked way of x ≡ taken kind method of x) where
    begun_starts : is_among (begun way (flats_in items)) f ≡ true → begun_from items kind method f ≡ true
    begun_starts h =
        let g = in_flat_map (picked_in way) (flats_in items) f (among_in (begun way (flats_in items)) f h) in
        let b = in_map flat_of (bodies_in items) g.0 g.1 in
        let here : In f (picked_in way (flat_of b.0)) = subst (λ (x : Flat). In f (picked_in way x)) b.2 g.2 in
        let x = in_filter_map (picked way b.0.kind) (statements_of b.0) f here in
        in_any (starts kind method) (bodies_in items) b.0 b.1
        (elim (taken_begins kind method b.0.kind x.0 f (sym (same b.0.kind x.0) ∙ x.2)) [
          | inl w ↦
              or_left (is_of_kind kind b.0.kind && calls f b.0) (spawns method f b.0)
              (and_both (is_of_kind kind b.0.kind) (calls f b.0) w.0 (in_any (λ (y : Placed). is_call_of f y.0) (statements_of b.0) x.0 x.1 w.1))
          | inr w ↦
              or_right (is_of_kind kind b.0.kind && calls f b.0) (spawns method f b.0)
              (in_any (λ (y : Placed). is_spawn_of method f y.0) (statements_of b.0) x.0 x.1 w)
        ])

    put : (b : Body) (x : Placed) → In b (bodies_in items) → In x (statements_of b) → picked way b.kind x ≡ Some f → is_among (begun way (flats_in items)) f ≡ true
    put b x at in_x h =
        in_among (begun way (flats_in items)) f
        (flat_map_in (picked_in way) (flats_in items) (flat_of b) f (map_in flat_of (bodies_in items) b at) (filter_map_in (picked way b.kind) (statements_of b) x f in_x h))

    starts_begun : begun_from items kind method f ≡ true → is_among (begun way (flats_in items)) f ≡ true
    starts_begun h =
        let b = any_in (starts kind method) (bodies_in items) h in
        elim (or_cases (is_of_kind kind b.0.kind && calls f b.0) (spawns method f b.0) b.2) [
          | inl w ↦
              let both = and_true (is_of_kind kind b.0.kind) (calls f b.0) w in
              let x = any_in (λ (y : Placed). is_call_of f y.0) (statements_of b.0) both.1 in
              put b.0 x.0 b.1 x.1 (same b.0.kind x.0 ∙ called_taken kind method b.0.kind x.0 f both.0 x.2)
          | inr w ↦
              let x = any_in (λ (y : Placed). is_spawn_of method f y.0) (statements_of b.0) w in
              put b.0 x.0 b.1 x.1 (same b.0.kind x.0 ∙ spawned_taken kind method b.0.kind x.0 f x.2)
        ]

    pub begun_same : is_among (begun way (flats_in items)) f ≡ begun_from items kind method f
    begun_same = same_test (is_among (begun way (flats_in items)) f) (begun_from items kind method f) begun_starts starts_begun

  unwinding_calls : is_among (begun begin.Unwinding (flats_in items)) f ≡ true → list_any (calls_unwinding f) (bodies_in items) ≡ true
  unwinding_calls h =
      let g = in_flat_map (picked_in begin.Unwinding) (flats_in items) f (among_in (begun begin.Unwinding (flats_in items)) f h) in
      let b = in_map flat_of (bodies_in items) g.0 g.1 in
      let here : In f (picked_in begin.Unwinding (flat_of b.0)) = subst (λ (x : Flat). In f (picked_in begin.Unwinding x)) b.2 g.2 in
      let x = in_filter_map (picked begin.Unwinding b.0.kind) (statements_of b.0) f here in
      let w = only_true x.0.1 (called x.0.0) f x.2 in
      in_any (calls_unwinding f) (bodies_in items) b.0 b.1
      (in_any (λ (y : Placed). y.1 && is_call_of f y.0) (statements_of b.0) x.0 x.1 (and_both x.0.1 (is_call_of f x.0.0) w.0 (call_of x.0.0 f w.1)))

  calls_picked : list_any (calls_unwinding f) (bodies_in items) ≡ true → is_among (begun begin.Unwinding (flats_in items)) f ≡ true
  calls_picked h =
      let b = any_in (calls_unwinding f) (bodies_in items) h in
      let x = any_in (λ (y : Placed). y.1 && is_call_of f y.0) (statements_of b.0) b.2 in
      let w = and_true x.0.1 (is_call_of f x.0.0) x.2 in
      in_among (begun begin.Unwinding (flats_in items)) f
      (flat_map_in (picked_in begin.Unwinding) (flats_in items) (flat_of b.0) f (map_in flat_of (bodies_in items) b.0 b.1)
      (filter_map_in (picked begin.Unwinding b.0.kind) (statements_of b.0) x.0 f x.1 (true_only x.0.1 (called x.0.0) w.0 ∙ of_call x.0.0 f w.1)))

  pub unwinding_same : is_among (begun begin.Unwinding (flats_in items)) f ≡ list_any (calls_unwinding f) (bodies_in items)
  unwinding_same = same_test (is_among (begun begin.Unwinding (flats_in items)) f) (list_any (calls_unwinding f) (bodies_in items)) unwinding_calls calls_picked

pub methods_begin : (items : List tree.Item) (f : List ℕ) → is_among (begun begin.Methods (flats_in items)) f ≡ begun_from items body_kind.Method true f
methods_begin items f = begun_same items f begin.Methods body_kind.Method true (λ of x. refl)

pub threads_begin : (items : List tree.Item) (f : List ℕ) → is_among (begun begin.Threads (flats_in items)) f ≡ begun_from items body_kind.Thread false f
threads_begin items f = begun_same items f begin.Threads body_kind.Thread false (λ of x. refl)

-- handlers

or_false : (b : Bool) → (b || false) ≡ b
or_false true = refl
or_false false = refl

told_same : (f : List ℕ) (o : Option (List ℕ)) → is_among (option_to_list o) f ≡ is_name f o
told_same f None = refl
told_same f (Some n) = or_false (bytes_eq n f)

initiator_same : (f : List ℕ) (line : ℕ) (name : List ℕ) (role : InitiatorRole) → is_among (nonblocking_handlers (tree.initiator line name role)) f ≡ handles_nonblocking f (tree.initiator line name role)
initiator_same f line name initiator.Pass = refl
initiator_same f line name (initiator.Own backward) = told_same f backward

target_same : (f : List ℕ) (line : ℕ) (name : List ℕ) (role : TargetRole) → is_among (nonblocking_handlers (tree.target line name role)) f ≡ handles_nonblocking f (tree.target line name role)
target_same f line name target.Pass = refl
target_same f line name (target.Own blocking forward) = told_same f forward

blocking_same : (f : List ℕ) (line : ℕ) (name : List ℕ) (role : TargetRole) → is_among (blocking_handlers (tree.target line name role)) f ≡ handles_blocking f (tree.target line name role)
blocking_same f line name target.Pass = refl
blocking_same f line name (target.Own blocking forward) = told_same f blocking

nonblocking_in : (f : List ℕ) (i : tree.Item) → is_among (nonblocking_handlers i) f ≡ handles_nonblocking f i
nonblocking_in f (tree.signal line s) = refl
nonblocking_in f (tree.resolved line name) = refl
nonblocking_in f (tree.clock line c) = refl
nonblocking_in f (tree.fifo line t name size) = refl
nonblocking_in f (tree.plain line kind name) = refl
nonblocking_in f (tree.semaphore line name c) = refl
nonblocking_in f (tree.memory line name size) = refl
nonblocking_in f (tree.variable line t name c) = refl
nonblocking_in f (tree.port line i name size) = refl
nonblocking_in f (tree.export line i name) = refl
nonblocking_in f (tree.initiator line name role) = initiator_same f line name role
nonblocking_in f (tree.target line name role) = target_same f line name role
nonblocking_in f (tree.instance line kind name) = refl
nonblocking_in f (tree.bind line left right) = refl
nonblocking_in f (tree.function line g) = refl
nonblocking_in f (tree.process line p) = refl

blocking_in : (f : List ℕ) (i : tree.Item) → is_among (blocking_handlers i) f ≡ handles_blocking f i
blocking_in f (tree.signal line s) = refl
blocking_in f (tree.resolved line name) = refl
blocking_in f (tree.clock line c) = refl
blocking_in f (tree.fifo line t name size) = refl
blocking_in f (tree.plain line kind name) = refl
blocking_in f (tree.semaphore line name c) = refl
blocking_in f (tree.memory line name size) = refl
blocking_in f (tree.variable line t name c) = refl
blocking_in f (tree.port line i name size) = refl
blocking_in f (tree.export line i name) = refl
blocking_in f (tree.initiator line name role) = refl
blocking_in f (tree.target line name role) = blocking_same f line name role
blocking_in f (tree.instance line kind name) = refl
blocking_in f (tree.bind line left right) = refl
blocking_in f (tree.function line g) = refl
blocking_in f (tree.process line p) = refl

all_in : (f : List ℕ) (i : tree.Item) → is_among (all_handlers i) f ≡ (handles_nonblocking f i || handles_blocking f i)
all_in f i =
    list_any-append (λ n. bytes_eq n f) (nonblocking_handlers i) (blocking_handlers i)
    ∙ ap (λ b. b || is_among (blocking_handlers i) f) (nonblocking_in f i) ∙ ap (λ b. handles_nonblocking f i || b) (blocking_in f i)

pub nonblocking_same : (items : List tree.Item) (f : List ℕ) → is_among (flat_map nonblocking_handlers items) f ≡ is_nonblocking_handler items f
nonblocking_same items f = among_flat nonblocking_handlers items f ∙ any_same (λ i. is_among (nonblocking_handlers i) f) (handles_nonblocking f) (nonblocking_in f) items

pub handlers_same : (items : List tree.Item) (f : List ℕ) → is_among (flat_map all_handlers items) f ≡ is_handler items f
handlers_same items f =
    among_flat all_handlers items f ∙ any_same (λ i. is_among (all_handlers i) f) (λ i. handles_nonblocking f i || handles_blocking f i) (all_in f) items

pub threads_and_handlers : (items : List tree.Item) (f : List ℕ)
    → is_among (begun begin.Threads (flats_in items) ++ flat_map all_handlers items) f ≡ (begun_from items body_kind.Thread false f || is_handler items f)
threads_and_handlers items f =
    list_any-append (λ n. bytes_eq n f) (begun begin.Threads (flats_in items)) (flat_map all_handlers items)
    ∙ ap (λ b. b || is_among (flat_map all_handlers items) f) (threads_begin items f)
    ∙ ap (λ b. begun_from items body_kind.Thread false f || b) (handlers_same items f)

-- processes of a kind

module _ (items : List tree.Item) (kind : BodyKind) (n : List ℕ) where
  abbrev is_that : Body → Bool
  is_that b = is_of_kind kind b.kind && bytes_eq b.name n

  pub named_process : In n (named_of kind (flats_in items)) → is_process_of items kind n ≡ true
  named_process at =
      let g = in_filter_map (λ (x : Flat). name_if (is_of_kind kind x.kind) x.name) (flats_in items) n at in
      let b = in_map flat_of (bodies_in items) g.0 g.1 in
      let said : name_if (is_of_kind kind b.0.kind) b.0.name ≡ Some n = ap (λ (x : Flat). name_if (is_of_kind kind x.kind) x.name) (sym b.2) ∙ g.2 in
      let w = name_if_true (is_of_kind kind b.0.kind) b.0.name n said in
      in_any is_that (bodies_in items) b.0 b.1 (and_both (is_of_kind kind b.0.kind) (bytes_eq b.0.name n) w.0 (subst (λ m. bytes_eq b.0.name m ≡ true) w.1 (same_bytes b.0.name)))

  pub process_named : is_process_of items kind n ≡ true → In n (named_of kind (flats_in items)) × ((k : ℕ) × (number_of items n ≡ Some k))
  process_named h =
      let b = any_in is_that (bodies_in items) h in
      let w = and_true (is_of_kind kind b.0.kind) (bytes_eq b.0.name n) b.2 in
      let same = equal_bytes b.0.name n w.1 in (
        filter_map_in (λ (x : Flat). name_if (is_of_kind kind x.kind) x.name) (flats_in items) (flat_of b.0) n (map_in flat_of (bodies_in items) b.0 b.1)
            (true_name_if (is_of_kind kind b.0.kind) b.0.name w.0 ∙ ap Some same),
        subst (λ m. (k : ℕ) × (number_of items m ≡ Some k)) same (body_number items b.0 b.1),
      )
