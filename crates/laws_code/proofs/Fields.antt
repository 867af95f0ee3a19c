-- What is reached from methods, threads, handlers and unwind blocks.
use Rattle.std.proofs.Common.{◌≡◌, ◌⊎◌, inl, inr, ℕ, Bool, true, false, List, Some, None, refl, sym, ◌∙◌, ap, subst}
use Rattle.std.specs.Prelude.{slice_get}
use Rattle.std.proofs.lemmas.Slice.Eq.{bytes_eq-Decides}
use Rattle.code_rules.specs.ModelTree.Tree as tree
use Rattle.code_rules.specs.ModelTree.declared.items.ProcessKind.{ProcessKind}
use Rattle.code_rules.specs.ModelTree.declared.items.ProcessKind.TheVariants as process
use Rattle.code_rules.specs.FlatDesign.Code as code
use Rattle.code_rules.specs.FlatDesign.Code.{arena_of, body_at}
use Rattle.code_rules.specs.FlatDesign.Reach.{InBody, Reached}
use Rattle.code_rules.specs.FlatDesign.Blocking.{DoesNotBlock, IsPlain, SetsNoTrigger}
use Rattle.code_rules.specs.FlatDesign.Sound.{IsHomeOf, IsSpawnedAs, IsMethodBody, IsThreadBody, IsNonblockingHandler, IsAnyHandler, EachReached}
use Rattle.code_rules.specs.FlatDesign.declared.code.BodyKind.TheVariants as body_kind
use Rattle.code_rules.specs.FlatDesign.declared.code.CodeBody.{CodeBody}
use Rattle.code_rules.specs.FlatDesign.declared.design.Design.{Design}
use Rattle.code_rules.specs.ModelRules.Passes.{first_fault}
use Rattle.code_rules.specs.ModelRules.Reach.{Body, Placed, bodies_in, statements_of, spawns, is_spawn_of, is_nonblocking_handler, is_handler, begun_from}
use Rattle.code_rules.specs.Deeds.{spawned_kind}
use Rattle.code_rules.specs.Bodies.{IsCodeOf}
use Rattle.laws_code.proofs.Coded.{same_some}
use Rattle.laws_code.specs.Standing.{DesignStands}
use Rattle.laws_code.specs.Bodies.{StatementsStand, IsNamedBy, HandlersStand}
use Rattle.laws_code.proofs.Lists.{IsOf, of_any, or_right}
use Rattle.laws_code.proofs.Marks.{IsFrom, root_from, from_along, kind_along, spawned_from, begins_method, begins_thread, spawn_begins, IsMethodMarked, IsThreadMarked, IsUnwindMarked, unwind_along}
use Rattle.laws_code.proofs.Leaves.{NamesIn}
use Rattle.laws_code.proofs.ReachedBlocks.{IsCodeIn, held_in}
use Rattle.laws_code.proofs.ReachedModels.{function_at, body_there}
use Rattle.laws_code.proofs.ReachRules.{method_free, handler_free, thread_calm, unwind_plain}
use Rattle.laws_code.proofs.Rooted.{IsOfClock, IsClockBody, clock_holds, clock_reaches, body_of_function, function_is, IsOfTree, tree_or_clock, reached}

clock_calm : (f : code.Statement) → IsOfClock f → SetsNoTrigger f
clock_calm (code.wait w) k = tt
clock_calm (code.write c t e) k = tt
clock_calm (code.while_ e j) k = tt
clock_calm other k = absurd k

module _ (m : tree.Model) (d : Design) (none : first_fault m ≡ None) (read : IsCodeOf m d.code) where
  abbrev IsBodyOfTree : CodeBody → Type 0
  IsBodyOfTree b = IsOfTree m (arena_of d.code) b

  abbrev IsEither : CodeBody → Type 0
  IsEither b = IsBodyOfTree b ⊎ IsClockBody (arena_of d.code) b

  origin : (f : ℕ) (b : CodeBody) → body_at (arena_of d.code) f ≡ Some b → IsEither b
  origin f b found = tree_or_clock m (arena_of d.code) b (body_there m (arena_of d.code) none read f b found)

  -- the names of a body's module stand for what they are declared as in an instance of it
  names_at : DesignStands m d → (b : CodeBody) (t : IsBodyOfTree b) (home : ℕ) → IsHomeOf d home b → NamesIn (IsOfTree.module_around t).items d home
  names_at stands b t home k n y e = stands.names home n k.instance t.module_around y k.found (ap (slice_get m.modules) (k.same ∙ t.is_body.in_place) ∙ t.at.there) e

  -- functions that are spawned

  record IsSpawned (method : Bool) (b : CodeBody) : Type 0 where
    tree_of : IsBodyOfTree b
    is_function : tree_of.tree_body.kind ≡ body_kind.Function
    spawner : Body
    there : IsOf spawner (bodies_in tree_of.module_around.items)
    spawn : spawns method tree_of.tree_body.name spawner ≡ true

  spawned_in : (f : ℕ) (b : CodeBody) (p : code.SpawnTerm) → p.function ≡ f → body_at (arena_of d.code) f ≡ Some b → (c : CodeBody) → InBody (arena_of d.code) c (code.spawn p) → IsEither c
      → (method : Bool) × (p.kind ≡ spawned_kind method) × IsSpawned method b
  spawned_in f b p is found c stands (inl t) =
      let k = held_in t.home (arena_of d.code) t.module_around.items t.tree_body false c.block (code.spawn p) t.is_body.good stands in
      let s = k.shows.spawned in
      let y = function_at m (arena_of d.code) t.module_around t.place t.home t.at k.scope k.place.items_are s.0 p.function b s.4 (ap (body_at (arena_of d.code)) is ∙ found) in
      let g = function_is m (arena_of d.code) t.module_around t.place t.home t.at y.line y.function y.here b y.body in
      let spawn = subst (λ z. is_spawn_of s.1 z k.statement ≡ true) (sym ((bytes_eq-Decides y.function.name s.0).0 y.named)) s.3 in (
        s.1,
        s.2,
        record {
          tree_of = record { module_around = t.module_around; place = t.place; home = t.home; at = t.at; tree_body = body_of_function y.function; is_body = g; no_clock = λ e. cc };
          is_function = refl;
          spawner = t.tree_body;
          there = t.is_body.here;
          spawn = of_any (λ (z : Placed). is_spawn_of s.1 y.function.name z.0) (k.statement, k.scope.unwinding) (statements_of t.tree_body) k.inside spawn;
        },
      )
  spawned_in f b p is found c stands (inr k) = absurd (clock_holds (arena_of d.code) c (code.spawn p) k stands)

  spawned : StatementsStand d → (kind : ProcessKind) (f : ℕ) (b : CodeBody) → IsSpawnedAs (arena_of d.code) kind f → body_at (arena_of d.code) f ≡ Some b → (method : Bool) × (kind ≡ spawned_kind method) × IsSpawned method b
  spawned all kind f b k found =
      let p = all k.block (code.spawn k.spawn) k.stands in
      let y = spawned_in f b k.spawn k.function found p.body p.stands (origin p.function p.body p.found) in
      (y.0, sym k.spawned_kind ∙ y.1, y.2)

  -- methods

  abbrev MethodMarked : (b : CodeBody) → IsBodyOfTree b → Type 0
  MethodMarked b t = IsMethodMarked t.module_around.items t.tree_body false

  method_reached : DesignStands m d → (b : CodeBody) (home : ℕ) (s : code.Statement) (t : IsBodyOfTree b) → MethodMarked b t → IsHomeOf d home b → Reached (arena_of d.code) b.block s → DoesNotBlock d home s
  method_reached stands b home s t mark home_of k =
      reached m (arena_of d.code) t.module_around t.place t.home t.at (IsMethodMarked t.module_around.items) (DoesNotBlock d home)
      (kind_along t.module_around.items (begins_method t.module_around.items) body_kind.Method true (λ g e. e) refl)
      (λ x v f here mark y. method_free t.home (arena_of d.code) t.module_around.items x v here f y d home (names_at stands b t home home_of) mark)
      t.tree_body false b.block s t.is_body.here mark t.is_body.good k

  method_process : DesignStands m d → (b : CodeBody) (home : ℕ) (s : code.Statement) → b.kind ≡ body_kind.Method → IsEither b → IsHomeOf d home b → Reached (arena_of d.code) b.block s → DoesNotBlock d home s
  method_process stands b home s e (inl t) home_of k = method_reached stands b home s t (inl (t.is_body.kind ∙ e)) home_of k
  method_process stands b home s e (inr c) home_of k = cc (sym e ∙ c.kind)

  spawned_method : (b : CodeBody) (method : Bool) → process.Method ≡ spawned_kind method → (k : IsSpawned method b) → MethodMarked b (IsSpawned.tree_of k)
  spawned_method b true e k =
      let t = k.tree_of in
      spawned_from t.module_around.items (begins_method t.module_around.items) body_kind.Method true (λ g e. e) refl k.spawner t.tree_body k.there k.spawn t.is_body.here k.is_function
  spawned_method b false e k = cc

  pub methods : DesignStands m d → StatementsStand d → EachReached d (IsMethodBody (arena_of d.code)) (λ home s. DoesNotBlock d home s)
  methods stands all f b home s found (inl e) home_of k = method_process stands b home s e (origin f b found) home_of k
  methods stands all f b home s found (inr spawn) home_of k =
      let y = spawned all process.Method f b spawn found in
      method_reached stands b home s y.2.tree_of (spawned_method b y.0 y.1 y.2) home_of k

  -- threads

  abbrev ThreadMarked : (b : CodeBody) → IsBodyOfTree b → Type 0
  ThreadMarked b t = IsThreadMarked t.module_around.items t.tree_body false

  thread_reached : (b : CodeBody) (s : code.Statement) (t : IsBodyOfTree b) → ThreadMarked b t → Reached (arena_of d.code) b.block s → SetsNoTrigger s
  thread_reached b s t mark k =
      reached m (arena_of d.code) t.module_around t.place t.home t.at (IsThreadMarked t.module_around.items) SetsNoTrigger
      (kind_along t.module_around.items (begins_thread t.module_around.items) body_kind.Thread false (spawn_begins t.module_around.items) refl)
      (λ x v f here mark y. thread_calm t.home (arena_of d.code) t.module_around.items x v here f y mark)
      t.tree_body false b.block s t.is_body.here mark t.is_body.good k

  thread_or_clock : (b : CodeBody) (s : code.Statement) → ((t : IsBodyOfTree b) → ThreadMarked b t) → IsEither b → Reached (arena_of d.code) b.block s → SetsNoTrigger s
  thread_or_clock b s marks (inl t) k = thread_reached b s t (marks t) k
  thread_or_clock b s marks (inr c) k = clock_calm s (clock_reaches (arena_of d.code) b s c k)

  spawned_thread : (b : CodeBody) (method : Bool) → process.Thread ≡ spawned_kind method → (k : IsSpawned method b) → ThreadMarked b (IsSpawned.tree_of k)
  spawned_thread b true e k = cc
  spawned_thread b false e k =
      let t = k.tree_of in
      spawned_from t.module_around.items (begins_thread t.module_around.items) body_kind.Thread false (spawn_begins t.module_around.items) refl k.spawner t.tree_body k.there k.spawn t.is_body.here k.is_function

  -- the module of a body that a socket names
  named_there : (test : List tree.Item → List ℕ → Bool) (b : CodeBody) → IsNamedBy m test b → (t : IsBodyOfTree b) → test (IsOfTree.module_around t).items (IsOfTree.tree_body t).name ≡ true
  named_there test b k t =
      let same = same_some k.module_around t.module_around (sym k.there ∙ ap (slice_get m.modules) t.is_body.in_place ∙ t.at.there) in
      (λ i. test (sym same i).items (t.is_body.name i)) ∙ k.named

  handler_thread : (b : CodeBody) → IsNamedBy m is_handler b → (t : IsBodyOfTree b) → ThreadMarked b t
  handler_thread b k t =
      inr
      (root_from t.module_around.items (begins_thread t.module_around.items) t.tree_body t.is_body.here (t.is_body.kind ∙ k.is_function)
      (or_right (begun_from t.module_around.items body_kind.Thread false t.tree_body.name) (is_handler t.module_around.items t.tree_body.name) (named_there is_handler b k t)))

  thread_body : StatementsStand d → (f : ℕ) (b : CodeBody) (s : code.Statement) → body_at (arena_of d.code) f ≡ Some b → IsThreadBody (arena_of d.code) f b → Reached (arena_of d.code) b.block s → SetsNoTrigger s
  thread_body all f b s found (inl e) k = thread_or_clock b s (λ t. inl (t.is_body.kind ∙ e)) (origin f b found) k
  thread_body all f b s found (inr (inl e)) k = thread_or_clock b s (λ t. absurd (t.no_clock (t.is_body.kind ∙ e))) (origin f b found) k
  thread_body all f b s found (inr (inr spawn)) k =
      let y = spawned all process.Thread f b spawn found in
      thread_reached b s y.2.tree_of (spawned_thread b y.0 y.1 y.2) k

  pub threads : StatementsStand d → HandlersStand m d → EachReached d (λ f b. IsThreadBody (arena_of d.code) f b ⊎ IsAnyHandler d f) (λ home s. SetsNoTrigger s)
  threads all handlers f b home s found (inl k) home_of r = thread_body all f b s found k r
  threads all handlers f b home s found (inr k) home_of r = thread_or_clock b s (handler_thread b (handlers.all f b k found)) (origin f b found) r

  -- handlers of non-blocking calls

  handler_or_clock : DesignStands m d → (b : CodeBody) (home : ℕ) (s : code.Statement) → IsNamedBy m is_nonblocking_handler b → IsEither b → IsHomeOf d home b → Reached (arena_of d.code) b.block s → DoesNotBlock d home s
  handler_or_clock stands b home s named (inl t) home_of k =
      reached m (arena_of d.code) t.module_around t.place t.home t.at (IsFrom t.module_around.items (is_nonblocking_handler t.module_around.items)) (DoesNotBlock d home)
      (from_along t.module_around.items (is_nonblocking_handler t.module_around.items))
      (λ x v f here mark y. handler_free t.home (arena_of d.code) t.module_around.items x v here f y d home (names_at stands b t home home_of) mark)
      t.tree_body false b.block s t.is_body.here
      (root_from t.module_around.items (is_nonblocking_handler t.module_around.items) t.tree_body t.is_body.here (t.is_body.kind ∙ named.is_function) (named_there is_nonblocking_handler b named t))
      t.is_body.good k
  handler_or_clock stands b home s named (inr c) home_of k = cc (sym named.is_function ∙ c.kind)

  pub handlers : DesignStands m d → HandlersStand m d → EachReached d (λ f b. IsNonblockingHandler d f) (λ home s. DoesNotBlock d home s)
  handlers stands named f b home s found k home_of r = handler_or_clock stands b home s (named.nonblocking f b k found) (origin f b found) home_of r

  -- unwind blocks

  unwind_or_clock : DesignStands m d → (b : CodeBody) (home body unwind : ℕ) (s : code.Statement) → IsEither b → IsHomeOf d home b → InBody (arena_of d.code) b (code.guard body unwind) → Reached (arena_of d.code) unwind s
      → DoesNotBlock d home s × IsPlain s
  unwind_or_clock stands b home body unwind s (inl t) home_of held k =
      reached m (arena_of d.code) t.module_around t.place t.home t.at (IsUnwindMarked t.module_around.items) (λ f. DoesNotBlock d home f × IsPlain f) (unwind_along t.module_around.items)
      (λ x v f here mark y. unwind_plain t.home (arena_of d.code) t.module_around.items x v here f y d home (names_at stands b t home home_of) mark)
      t.tree_body true unwind s t.is_body.here (inl refl)
      (IsCodeIn.unwinding (held_in t.home (arena_of d.code) t.module_around.items t.tree_body false b.block (code.guard body unwind) t.is_body.good held)) k
  unwind_or_clock stands b home body unwind s (inr c) home_of held k = absurd (clock_holds (arena_of d.code) b (code.guard body unwind) c held)

  pub unwinding : DesignStands m d → (f : ℕ) (b : CodeBody) (home body unwind : ℕ) (s : code.Statement) → body_at (arena_of d.code) f ≡ Some b → IsHomeOf d home b → InBody (arena_of d.code) b (code.guard body unwind)
      → Reached (arena_of d.code) unwind s → DoesNotBlock d home s × IsPlain s
  unwinding stands f b home body unwind s found home_of held k = unwind_or_clock stands b home body unwind s (origin f b found) home_of held k
