-- What the rules on what is reached say of the code of marked bodies.
use Rattle.std.proofs.Common.{◌≡◌, inl, inr, ℕ, Bool, true, false, ◌&&◌, List, Option, Some, None, refl, sym, ◌∙◌, subst}
use Rattle.std.specs.Prelude.{option_map}
use Rattle.std.specs.List.{list_any}
use Rattle.code_rules.specs.ModelTree.Tree as tree
use Rattle.code_rules.specs.FlatDesign.Code as code
use Rattle.code_rules.specs.FlatDesign.Code.{Arena}
use Rattle.code_rules.specs.FlatDesign.Blocking.{DoesNotBlock, IsPlain, SetsNoTrigger}
use Rattle.code_rules.specs.FlatDesign.declared.code.BodyKind.TheVariants as body_kind
use Rattle.code_rules.specs.FlatDesign.declared.design.Design.{Design}
use Rattle.code_rules.specs.ModelRules.Scopes.{Scope}
use Rattle.code_rules.specs.ModelRules.Sites as part
use Rattle.code_rules.specs.ModelRules.Sites.{Site, site}
use Rattle.code_rules.specs.ModelRules.Passes.{reaches, fault_by, fault_at}
use Rattle.code_rules.specs.ModelRules.Reach.{Body, bodies_in, is_call_of, is_among, from_unwinding, blocking_functions, blocks_itself, is_blocking, is_nonblocking_handler, in_method, in_thread, in_nonblocking, unwinds, is_next_trigger, is_throw, is_spawn, acts, transports, reached_where, wait_in_method, trigger_in_thread, blocking_in_nonblocking, wait_in_unwind, throw_in_unwind, spawn_in_unwind, transport_in_unwind}
use Rattle.code_rules.proofs.ModelRules.Firsts.{all_none}
use Rattle.code_rules.specs.Deeds.{Home}
use Rattle.laws_code.proofs.Typed.{not_named, neither}
use Rattle.laws_code.proofs.Lists.{IsOf, or_left, or_right, and_false}
use Rattle.laws_code.proofs.Marks.{IsFrom, kind_named, begins_method, begins_thread, spawn_begins, IsMethodMarked, IsThreadMarked, IsUnwindMarked}
use Rattle.laws_code.proofs.Leaves.{NamesIn}
use Rattle.laws_code.proofs.ReachedBlocks.{IsCodeIn}

mapped_none : {A B : Type 0} (f : A → B) (o : Option A) → option_map f o ≡ None → o ≡ None
mapped_none f None h = refl
mapped_none f (Some x) h = cc

-- a construct breaks none of the rules
record IsUnbroken (x : Site) : Type 0 where
  methods : wait_in_method x ≡ None
  threads : trigger_in_thread x ≡ None
  handlers : blocking_in_nonblocking x ≡ None
  waits : wait_in_unwind x ≡ None
  throws : throw_in_unwind x ≡ None
  spawns : spawn_in_unwind x ≡ None
  transport_calls : transport_in_unwind x ≡ None

unbroken : (x : Site) → fault_at reaches x ≡ None → IsUnbroken x
unbroken x h =
    let all = all_none (fault_by x) reaches h in
    record {
      methods = mapped_none _ (wait_in_method x) all.0;
      threads = mapped_none _ (trigger_in_thread x) all.1.0;
      handlers = mapped_none _ (blocking_in_nonblocking x) all.1.1.0;
      waits = mapped_none _ (wait_in_unwind x) all.1.1.1.0;
      throws = mapped_none _ (throw_in_unwind x) all.1.1.1.1.0;
      spawns = mapped_none _ (spawn_in_unwind x) all.1.1.1.1.1.0;
      transport_calls = mapped_none _ (transport_in_unwind x) all.1.1.1.1.1.1.0;
    }

-- where a rule asks, its test fails
passes_not : (test : tree.Statement → Bool) (stands : Site → Bool) (s : Scope) (line : ℕ) (x : tree.Statement) → reached_where test stands (site s line (part.of_statement x)) ≡ None
    → stands (site s line (part.of_statement x)) ≡ true → test x ≡ false
passes_not test stands s line x h k = and_false (test x) (stands (site s line (part.of_statement x))) (not_named (test x && stands (site s line (part.of_statement x))) s.around h) k

module _ (h : Home) (a : Arena) (items : List tree.Item) (t : Body) (v : Bool) (here : IsOf t (bodies_in items)) (f : code.Statement) (k : IsCodeIn h a items t v f) where
  abbrev the_site : Site
  the_site = site k.scope k.line (part.of_statement k.statement)

  kept : IsUnbroken the_site
  kept = unbroken the_site k.kept

  -- what a test says of the items and the body's name
  at_scope : (test : List tree.Item → List ℕ → Bool) → test items t.name ≡ true → test k.scope.items k.scope.around ≡ true
  at_scope test e = (λ i. test (k.place.items_are i) (k.place.around_is i)) ∙ e

  -- a statement that is not one that blocks
  free : (d : Design) (home : ℕ) → NamesIn items d home → is_blocking k.scope.items k.statement ≡ false → DoesNotBlock d home f
  free d home names e =
      k.shows.free d home (subst (λ (is : List tree.Item). NamesIn is d home) (sym k.place.items_are) names)
      (neither (blocks_itself k.scope.items k.statement) (list_any (λ (n : List ℕ). is_call_of n k.statement) (blocking_functions k.scope.items)) e).0

  pub method_free : (d : Design) (home : ℕ) → NamesIn items d home → IsMethodMarked items t v → DoesNotBlock d home f
  method_free d home names mark =
      free d home names
      (passes_not (is_blocking k.scope.items) in_method k.scope k.line k.statement kept.methods
      (at_scope (λ is around. in_method (site (record k.scope { items = is; around = around }) k.line (part.of_statement k.statement)))
      (kind_named items (begins_method items) body_kind.Method true (λ g e. e) refl t v here mark)))

  pub handler_free : (d : Design) (home : ℕ) → NamesIn items d home → IsFrom items (is_nonblocking_handler items) t v → DoesNotBlock d home f
  handler_free d home names mark =
      free d home names
      (passes_not (is_blocking k.scope.items) in_nonblocking k.scope k.line k.statement kept.handlers
      (at_scope (λ is around. in_nonblocking (site (record k.scope { items = is; around = around }) k.line (part.of_statement k.statement))) mark.1))

  pub thread_calm : IsThreadMarked items t v → SetsNoTrigger f
  thread_calm mark =
      k.shows.no_trigger
      (passes_not (acts is_next_trigger) in_thread k.scope k.line k.statement kept.threads
      (at_scope (λ is around. in_thread (site (record k.scope { items = is; around = around }) k.line (part.of_statement k.statement)))
      (kind_named items (begins_thread items) body_kind.Thread false (spawn_begins items) refl t v here mark)))

  in_unwinding : IsUnwindMarked items t v → unwinds the_site ≡ true
  in_unwinding (inl e) = or_left k.scope.unwinding (is_among (from_unwinding k.scope.items) k.scope.around) (k.place.unwinds e)
  in_unwinding (inr mark) =
      or_right k.scope.unwinding (is_among (from_unwinding k.scope.items) k.scope.around) (at_scope (λ is around. is_among (from_unwinding is) around) mark.1)

  pub unwind_plain : (d : Design) (home : ℕ) → NamesIn items d home → IsUnwindMarked items t v → DoesNotBlock d home f × IsPlain f
  unwind_plain d home names mark =
      let stands = in_unwinding mark in (
        free d home names (passes_not (is_blocking k.scope.items) unwinds k.scope k.line k.statement kept.waits stands),
        k.shows.plain (passes_not (acts is_throw) unwinds k.scope k.line k.statement kept.throws stands) (passes_not (acts is_spawn) unwinds k.scope k.line k.statement kept.spawns stands)
            (passes_not transports unwinds k.scope k.line k.statement kept.transport_calls stands),
      )
