-- Bodies of the code as those of functions and processes of the tree, or of clocks; and what they reach.
use Rattle.std.proofs.Common.{◌≡◌, ◌⊎◌, inl, inr, ℕ, ◌==◌, Bool, true, false, List, [], ◌∷◌, ◌++◌, Option, Some, None, refl, sym, ◌∙◌, ap, subst}
use Rattle.std.specs.Prelude.{⊤, unwrap_or, if◌then◌else◌}
use Rattle.std.specs.List.{AllByRecursion}
use Rattle.std.proofs.lemmas.Slice.Eq.{bytes_eq-Decides}
use Rattle.code_rules.specs.LogicValues.declared.kinds.Value.TheVariants as value
use Rattle.code_rules.specs.ModelTree.Tree as tree
use Rattle.code_rules.specs.ModelTree.declared.types.Parameter.{Parameter}
use Rattle.code_rules.specs.ModelTree.declared.items.ClockItem.{ClockItem}
use Rattle.code_rules.specs.ModelTree.declared.items.ProcessKind.{ProcessKind}
use Rattle.code_rules.specs.ModelTree.declared.items.ProcessKind.TheVariants as process
use Rattle.code_rules.specs.FlatDesign.Code as code
use Rattle.code_rules.specs.FlatDesign.Code.{Arena, block_at, statement_at}
use Rattle.code_rules.specs.FlatDesign.Typed.{EachOf}
use Rattle.code_rules.specs.FlatDesign.Reach as reach
use Rattle.code_rules.specs.FlatDesign.Reach.{inner_blocks, Holds, Reached}
use Rattle.code_rules.specs.FlatDesign.declared.code.BodyKind.TheVariants as body_kind
use Rattle.code_rules.specs.FlatDesign.declared.code.CodeBody.{CodeBody}
use Rattle.code_rules.specs.ModelRules.Scopes.{Scope, item_scope, with_local, with_parameters, place_of}
use Rattle.code_rules.specs.ModelRules.Sites.{parameter_sites, answer_sites, events_sites, block_sites, function_scope, around_item}
use Rattle.code_rules.specs.ModelRules.Reach.{Body, Placed, process_kind, body_of, bodies_in, all_in_block, statements_of, is_call_of}
use Rattle.code_rules.specs.Deeds.{Home}
use Rattle.code_rules.specs.Numbered.{AtBlock, AreFirst}
use Rattle.code_rules.specs.Bodies as source
use Rattle.code_rules.specs.Bodies.{Source, source_of, start_of, span_of, wait_for, write_truth, one_period, waits_first, IsClockBlock, IsBody}
use Rattle.laws_code.proofs.Coded.{same_some}
use Rattle.laws_code.proofs.Blocks.{all_parts}
use Rattle.laws_code.proofs.TypedBlocks.{firsts, held}
use Rattle.laws_code.proofs.Lists.{IsOf, of_made}
use Rattle.laws_code.proofs.Marks.{IsCaller, GoesAlong}
use Rattle.laws_code.proofs.ReachedBlocks.{IsKept, Place, IsGood, IsCodeIn, held_in}
use Rattle.laws_code.proofs.ReachedModels.{ModuleAt, function_at, BodyAt}

-- clocks

-- what the thread of a clock does
abbrev pub IsOfClock : code.Statement → Type 0
IsOfClock (code.wait w) = ⊤
IsOfClock (code.write c t e) = ⊤
IsOfClock (code.while_ e j) = ⊤
IsOfClock other = ⊥

module _ (a : Arena) (n : ℕ) (clk : ClockItem) where
  abbrev IsInner : ℕ → Type 0
  IsInner j = AtBlock a j (λ ids. AreFirst a (one_period n clk) ids [])

  abbrev IsOuter : ℕ → Type 0
  IsOuter j = (b : ℕ) × AtBlock a j (λ ids. AreFirst a (waits_first (start_of clk.start) ++ code.while_ (code.literal (value.Bool true)) b ∷ []) ids []) × IsInner b

  abbrev IsPart : ℕ → Type 0
  IsPart j = IsOuter j ⊎ IsInner j

  abbrev IsTicking : code.Statement → Type 0
  IsTicking f = IsOfClock f × AllByRecursion IsPart (inner_blocks f)

  first_ticking : (b : Bool) (t : ℕ) (fs : List code.Statement) → EachOf IsTicking fs → EachOf IsTicking ((if b then [] else wait_for t ∷ []) ++ fs)
  first_ticking true t fs k = k
  first_ticking false t fs k = ((tt, tt), k)

  part_ticking : (j : ℕ) → IsPart j → AllByRecursion (λ i. (f : code.Statement) → statement_at a i ≡ Some f → IsTicking f) (block_at a j)
  part_ticking j (inl k) =
      subst (AllByRecursion (λ i. (f : code.Statement) → statement_at a i ≡ Some f → IsTicking f)) (sym (ap (λ o. unwrap_or o []) k.1.1))
      (firsts a IsTicking (waits_first (start_of clk.start) ++ code.while_ (code.literal (value.Bool true)) k.0 ∷ []) k.1.0 [] k.1.2
      (first_ticking (start_of clk.start == 0) (start_of clk.start) (code.while_ (code.literal (value.Bool true)) k.0 ∷ []) ((tt, (inr k.2, tt)), tt)) tt)
  part_ticking j (inr k) =
      subst (AllByRecursion (λ i. (f : code.Statement) → statement_at a i ≡ Some f → IsTicking f)) (sym (ap (λ o. unwrap_or o []) k.1))
      (firsts a IsTicking (one_period n clk) k.0 [] k.2 ((tt, tt), ((tt, tt), ((tt, tt), ((tt, tt), tt)))) tt)

  outer_holds : (j : ℕ) (f : code.Statement) → IsOuter j → Holds a j f → IsOfClock f
  outer_holds j f k x = held a IsOfClock IsPart part_ticking j f (inl k) x

-- a body of a clock
pub record IsClockBody (a : Arena) (b : CodeBody) : Type 0 where
  pub kind : b.kind ≡ body_kind.Clock
  pub clock : ClockItem
  pub number : Option ℕ
  pub statements : AtBlock a b.block (IsClockBlock a number clock)

clock_by : (a : Arena) (j : ℕ) (f : code.Statement) (clk : ClockItem) (o : Option ℕ) → AtBlock a j (IsClockBlock a o clk) → Holds a j f → IsOfClock f
clock_by a j f clk None k x = absurd k.2
clock_by a j f clk (Some n) k x = outer_holds a n clk j f (k.2.0, (k.0, k.1, k.2.1), k.2.2) x

pub clock_holds : (a : Arena) (b : CodeBody) (f : code.Statement) → IsClockBody a b → Holds a b.block f → IsOfClock f
clock_holds a b f k x = clock_by a b.block f k.clock k.number k.statements x

-- it reaches nothing else
clock_reached_from : (a : Arena) (j : ℕ) (f : code.Statement) → ((g : code.Statement) → Holds a j g → IsOfClock g) → Reached a j f → IsOfClock f
clock_reached_from a _ _ k (reach.here j f x) = k f x
clock_reached_from a _ _ k (reach.through j n to arguments body f call found more) = absurd (k (code.call to n arguments) call)

pub clock_reaches : (a : Arena) (b : CodeBody) (f : code.Statement) → IsClockBody a b → Reached a b.block f → IsOfClock f
clock_reaches a b f k x = clock_reached_from a b.block f (λ g y. clock_holds a b g k y) x

-- functions and processes

abbrev pub body_of_function : tree.FunctionItem → Body
body_of_function f = record { kind = body_kind.Function; name = f.name; block = f.body }

abbrev body_of_process : tree.ProcessItem → Body
body_of_process p = record { kind = process_kind p.kind; name = p.name; block = p.body }

same_kind : (k : ProcessKind) → process_kind k ≡ source.process_kind k
same_kind process.Thread = refl
same_kind process.Method = refl

is_no_clock : (k : ProcessKind) → process_kind k ≡ body_kind.Clock → ⊥
is_no_clock process.Thread e = cc
is_no_clock process.Method e = cc

module _ (m : tree.Model) (a : Arena) where
  module _ (x : tree.Module) (place : ℕ) (h : Home) where
    -- a body of the code is that of this body of the tree
    pub record IsBodyOf (t : Body) (b : CodeBody) : Type 0 where
      pub here : IsOf t (bodies_in x.items)
      pub in_place : b.module_place ≡ place
      pub kind : t.kind ≡ b.kind
      pub name : t.name ≡ b.name
      pub good : IsGood h a x.items t false b.block

    parameters_place : (t : Body) (ps : List Parameter) (s : Scope) → Place h a x.items t false s → s.unwinding ≡ false → Place h a x.items t false (with_parameters s ps) × ((with_parameters s ps).unwinding ≡ false)
    parameters_place t [] s p u = (p, u)
    parameters_place t (q ∷ ps) s p u = parameters_place t ps (with_local s q.name q.var_type) (record { items_are = p.items_are; around_is = p.around_is; unwinds = p.unwinds }) u

    pub function_is : ModuleAt m a x place h → (line : ℕ) (f : tree.FunctionItem) → IsOf (tree.function line f) x.items → (b : CodeBody) → IsBody place h a (item_scope m.modules x.items f.name) (source.of_function f) b → IsBodyOf (body_of_function f) b
    function_is at line f here b body =
        let kept = (all_parts IsKept (parameter_sites (item_scope m.modules x.items f.name) f.parameters ++ answer_sites (item_scope m.modules x.items f.name) f.answer)
        (block_sites f.body (function_scope (item_scope m.modules x.items f.name) f)) (at.kept (tree.function line f) here)).1 in
        let p = parameters_place (body_of_function f) f.parameters (record (item_scope m.modules x.items f.name) { answer = f.answer }) (record { items_are = refl; around_is = refl; unwinds = λ e. e }) refl in
        record {
          here = of_made body_of (tree.function line f) (body_of_function f) x.items here refl;
          in_place = body.in_module;
          kind = sym body.kind;
          name = sym body.name;
          good = (
            body.statements.0,
            body.statements.1,
            record {
              block = f.body;
              scope = function_scope (item_scope m.modules x.items f.name) f;
              place = p.0;
              inside = subst (λ u. (y : Placed) → IsOf y (all_in_block f.body u) → IsOf y (statements_of (body_of_function f))) (sym p.1) (λ y k. k);
              kept = kept;
              read = body.statements.2;
            },
          );
        }

    process_is : ModuleAt m a x place h → (line : ℕ) (p : tree.ProcessItem) → IsOf (tree.process line p) x.items → (b : CodeBody) → IsBody place h a (item_scope m.modules x.items p.name) (source.of_process p) b → IsBodyOf (body_of_process p) b
    process_is at line p here b body =
        let kept = (all_parts IsKept (events_sites (item_scope m.modules x.items p.name) true p.sensitive) (block_sites p.body (item_scope m.modules x.items p.name)) (at.kept (tree.process line p) here)).1 in
        record {
          here = of_made body_of (tree.process line p) (body_of_process p) x.items here refl;
          in_place = body.in_module;
          kind = same_kind p.kind ∙ sym body.kind;
          name = sym body.name;
          good = (
            body.statements.0,
            body.statements.1,
            record {
              block = p.body;
              scope = item_scope m.modules x.items p.name;
              place = record { items_are = refl; around_is = refl; unwinds = λ e. e };
              inside = λ y k. k;
              kept = kept;
              read = body.statements.2;
            },
          );
        }

  -- some body of the tree
  pub record IsOfTree (b : CodeBody) : Type 0 where
    pub module_around : tree.Module
    pub place : ℕ
    pub home : Home
    pub at : ModuleAt m a module_around place home
    pub tree_body : Body
    pub is_body : IsBodyOf module_around place home tree_body b
    pub no_clock : tree_body.kind ≡ body_kind.Clock → ⊥

  by_item : (x : tree.Module) (place : ℕ) (h : Home) → ModuleAt m a x place h → (b : CodeBody) (i : tree.Item) (origin : Source) → IsOf i x.items → source_of i ≡ Some origin
      → IsBody place h a (item_scope m.modules x.items (around_item i)) origin b → IsOfTree b ⊎ IsClockBody a b
  by_item x place h at b (tree.function line f) origin here is_origin body =
      inl
      (record {
        module_around = x;
        place = place;
        home = h;
        at = at;
        tree_body = body_of_function f;
        is_body =
            function_is x place h at line f here b
            (subst (λ o. IsBody place h a (item_scope m.modules x.items f.name) o b) (sym (same_some (source.of_function f) origin is_origin)) body);
        no_clock = λ e. cc;
      })
  by_item x place h at b (tree.process line p) origin here is_origin body =
      inl
      (record {
        module_around = x;
        place = place;
        home = h;
        at = at;
        tree_body = body_of_process p;
        is_body =
            process_is x place h at line p here b
            (subst (λ o. IsBody place h a (item_scope m.modules x.items p.name) o b) (sym (same_some (source.of_process p) origin is_origin)) body);
        no_clock = is_no_clock p.kind;
      })
  by_item x place h at b (tree.clock line clk) origin here is_origin body =
      let k = subst (λ o. IsBody place h a (item_scope m.modules x.items clk.name) o b) (sym (same_some (source.of_clock clk) origin is_origin)) body in
      inr (record { kind = k.kind; clock = clk; number = place_of (item_scope m.modules x.items clk.name) clk.name; statements = k.statements })
  by_item x place h at b other origin here is_origin body = cc

  pub tree_or_clock : (b : CodeBody) → BodyAt m a b → IsOfTree b ⊎ IsClockBody a b
  tree_or_clock b k = by_item k.module_around k.place k.home k.at b k.item k.origin k.here k.is_origin k.body

  -- What is so of the statements of marked bodies is so of all that they reach, where a function that a marked body calls is
  -- marked. A mark tells too whether the statements are those of unwind blocks.
  module _ (x : tree.Module) (place : ℕ) (h : Home) (at : ModuleAt m a x place h) (Mark : Body → Bool → Type 0) (P : code.Statement → Type 0) (along : GoesAlong x.items Mark)
      (fine : (b : Body) (v : Bool) (f : code.Statement) → IsOf b (bodies_in x.items) → Mark b v → IsCodeIn h a x.items b v f → P f) where
    pub reached : (b : Body) (v : Bool) (j : ℕ) (f : code.Statement) → IsOf b (bodies_in x.items) → Mark b v → IsGood h a x.items b v j → Reached a j f → P f
    reached b v _ _ here k g (reach.here j f y) = fine b v f here k (held_in h a x.items b v j f g y)
    reached b v _ _ here k g (reach.through j n to arguments body f call found more) =
        let c = held_in h a x.items b v j (code.call to n arguments) g call in
        let named = c.shows.called in
        let y = function_at m a x place h at c.scope c.place.items_are named.0 n body named.2 found in
        let t = function_is x place h at y.line y.function y.here body y.body in
        let calls = subst (λ z. is_call_of z c.statement ≡ true) (sym ((bytes_eq-Decides y.function.name named.0).0 y.named)) named.1 in
        let caller : IsCaller b (body_of_function y.function) v = record { statement = (c.statement, c.scope.unwinding); inside = c.inside; unwinds = c.place.unwinds; call = calls } in
        reached (body_of_function y.function) false body.block f t.here (along b (body_of_function y.function) v here k caller t.here refl) t.good more
