-- Bodies of a module that are of a kind, or are functions that are reached from some: a function that such a body calls is one
-- too.
use Rattle.std.proofs.Common.{◌≡◌, ◌⊎◌, inl, inr, ℕ, Bool, true, false, ◌&&◌, ◌||◌, List, refl, ◌∙◌, ap}
use Rattle.std.specs.Prelude.{bytes_eq}
use Rattle.std.specs.List.{list_any}
use Rattle.std.proofs.lemmas.Slice.Eq.{bytes_eq-Decides}
use Rattle.code_rules.specs.ModelTree.Tree as tree
use Rattle.code_rules.specs.FlatDesign.declared.code.BodyKind.{BodyKind}
use Rattle.code_rules.specs.FlatDesign.declared.code.BodyKind.TheVariants as body_kind
use Rattle.code_rules.specs.ModelRules.Reach.{Body, Names, Placed, bodies_in, is_of_kind, is_among, statements_of, is_call_of, calls, calls_unwinding, spawns, functions, is_next, is_caller, reached_from, begun_from, is_handler, roots, is_process_of}
use Rattle.code_rules.specs.ModelRules.Closed.{IsLeast}
use Rattle.code_rules.proofs.ModelRules.Closures.{named, is_least}
use Rattle.laws_code.proofs.Typed.{both_true}
use Rattle.laws_code.proofs.Lists.{IsOf, of_all, of_any, of_filter, or_left, or_right}

pub same_name : (name : List ℕ) → bytes_eq name name ≡ true
same_name name = (bytes_eq-Decides name name).1 refl

-- a body calls a function, in a statement that is or is not in an unwind block
pub record IsCaller (c b : Body) (v : Bool) : Type 0 where
  pub statement : Placed
  pub inside : IsOf statement (statements_of c)
  pub unwinds : v ≡ true → statement.1 ≡ true
  pub call : is_call_of b.name statement.0 ≡ true

calls_it : (c b : Body) (v : Bool) → IsCaller c b v → calls b.name c ≡ true
calls_it c b v k = of_any (λ (x : Placed). is_call_of b.name x.0) k.statement (statements_of c) k.inside k.call

-- marks of bodies that go along calls, each with whether its statements are those of unwind blocks
abbrev pub GoesAlong : List tree.Item → (Body → Bool → Type 0) → Type 0
GoesAlong items Mark =
    (c b : Body) (v : Bool) → IsOf c (bodies_in items) → Mark c v → IsCaller c b v → IsOf b (bodies_in items) → b.kind ≡ body_kind.Function → Mark b false

module _ (items : List tree.Item) (is_root : List ℕ → Bool) where
  abbrev from : Names
  from = reached_from items (roots items is_root)

  -- a function that is reached
  abbrev pub IsFrom : Body → Bool → Type 0
  IsFrom b v = (b.kind ≡ body_kind.Function) × (is_among from b.name ≡ true)

  among_functions : (b : Body) → IsOf b (bodies_in items) → b.kind ≡ body_kind.Function → IsOf b (functions items)
  among_functions b here kind = of_filter (λ (x : Body). is_of_kind body_kind.Function x.kind) b (bodies_in items) here (ap (is_of_kind body_kind.Function) kind)

  least : IsLeast is_caller (functions items) (roots items is_root) from
  least = is_least is_caller (functions items) (roots items is_root)

  pub root_from : (b : Body) → IsOf b (bodies_in items) → b.kind ≡ body_kind.Function → is_root b.name ≡ true → IsFrom b false
  root_from b here kind root =
      let there = among_functions b here kind in
      let named_root =
      of_all (λ (x : Body). is_root x.name ≡ true → is_among (roots items is_root) x.name ≡ true) b (functions items) there (named (λ (x : Body). is_root x.name) (functions items)) root in
      (kind, of_all (λ (x : Body). is_among (roots items is_root) x.name ≡ true → is_among from x.name ≡ true) b (functions items) there (IsLeast.has_roots least) named_root)

  pub from_along : GoesAlong items IsFrom
  from_along c b v caller k call here kind =
      let next =
      of_any (λ (x : Body). is_among from x.name && is_caller x b) c (functions items) (among_functions c caller k.0) (both_true (is_among from c.name) (calls b.name c) k.1 (calls_it c b v call)) in
      (kind, of_all (λ (x : Body). is_next is_caller (functions items) from x ≡ true → is_among from x.name ≡ true) b (functions items) (among_functions b here kind) (IsLeast.closed least) next)

  -- a body of a kind, or such a function
  abbrev pub IsKindOrFrom : BodyKind → Body → Bool → Type 0
  IsKindOrFrom kind b v = (b.kind ≡ kind) ⊎ IsFrom b v

  -- where the functions are roots that bodies of this kind call, and those that are spawned in this way
  module _ (kind : BodyKind) (method : Bool) (begins : (f : List ℕ) → begun_from items kind method f ≡ true → is_root f ≡ true) (same : is_of_kind kind kind ≡ true) where
    abbrev begins_it : List ℕ → Body → Bool
    begins_it f x = (is_of_kind kind x.kind && calls f x) || spawns method f x

    begun : (c b : Body) → IsOf c (bodies_in items) → begins_it b.name c ≡ true → IsOf b (bodies_in items) → b.kind ≡ body_kind.Function → IsFrom b false
    begun c b caller k here function = root_from b here function (begins b.name (of_any (begins_it b.name) c (bodies_in items) caller k))

    pub kind_along : GoesAlong items (IsKindOrFrom kind)
    kind_along c b v caller (inl e) call here function =
        inr
        (begun c b caller
        (or_left (is_of_kind kind c.kind && calls b.name c) (spawns method b.name c) (both_true (is_of_kind kind c.kind) (calls b.name c) (ap (is_of_kind kind) e ∙ same) (calls_it c b v call))) here function)
    kind_along c b v caller (inr k) call here function = inr (from_along c b v caller k call here function)

    pub spawned_from : (c b : Body) → IsOf c (bodies_in items) → spawns method b.name c ≡ true → IsOf b (bodies_in items) → b.kind ≡ body_kind.Function → IsKindOrFrom kind b false
    spawned_from c b spawner spawn here function = inr (begun c b spawner (or_right (is_of_kind kind c.kind && calls b.name c) (spawns method b.name c) spawn) here function)

    pub kind_named : (b : Body) (v : Bool) → IsOf b (bodies_in items) → IsKindOrFrom kind b v → (is_process_of items kind b.name || is_among from b.name) ≡ true
    kind_named b v here (inl e) =
        or_left (is_process_of items kind b.name) (is_among from b.name)
        (of_any (λ (x : Body). is_of_kind kind x.kind && bytes_eq x.name b.name) b (bodies_in items) here (both_true (is_of_kind kind b.kind) (bytes_eq b.name b.name) (ap (is_of_kind kind) e ∙ same) (same_name b.name)))
    kind_named b v here (inr k) = or_right (is_process_of items kind b.name) (is_among from b.name) k.1

-- methods, threads, handlers of non-blocking calls, and unwind blocks

module _ (items : List tree.Item) where
  abbrev pub begins_method : List ℕ → Bool
  begins_method f = begun_from items body_kind.Method true f

  abbrev pub IsMethodMarked : Body → Bool → Type 0
  IsMethodMarked b v = IsKindOrFrom items begins_method body_kind.Method b v

  abbrev pub begins_thread : List ℕ → Bool
  begins_thread f = begun_from items body_kind.Thread false f || is_handler items f

  pub spawn_begins : (f : List ℕ) → begun_from items body_kind.Thread false f ≡ true → begins_thread f ≡ true
  spawn_begins f e = or_left (begun_from items body_kind.Thread false f) (is_handler items f) e

  abbrev pub IsThreadMarked : Body → Bool → Type 0
  IsThreadMarked b v = IsKindOrFrom items begins_thread body_kind.Thread b v

  abbrev pub unwinds_it : List ℕ → Bool
  unwinds_it f = list_any (calls_unwinding f) (bodies_in items)

  abbrev pub IsUnwindMarked : Body → Bool → Type 0
  IsUnwindMarked b v = (v ≡ true) ⊎ IsFrom items unwinds_it b v

  pub unwind_along : GoesAlong items IsUnwindMarked
  unwind_along c b v caller (inl e) call here function =
      inr
      (root_from items unwinds_it b here function
      (of_any (calls_unwinding b.name) c (bodies_in items) caller
      (of_any (λ (x : Placed). x.1 && is_call_of b.name x.0) call.statement (statements_of c) call.inside (both_true call.statement.1 (is_call_of b.name call.statement.0) (call.unwinds e) call.call))))
  unwind_along c b v caller (inr k) call here function = inr (from_along items unwinds_it c b v caller k call here function)
