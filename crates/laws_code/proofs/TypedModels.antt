-- The code of a model is typed.
use Rattle.std.proofs.Common.{◌≡◌, ◌⊎◌, inl, inr, ℕ, zero, suc, ◌+◌, ◌-◌, ◌==◌, Bool, true, false, cond, ◌&&◌, List, [], ◌∷◌, ◌++◌, length, append_assoc, Option, Some, None, refl, sym, ◌∙◌, ap, subst, true≢false, arith, length-append}
use Rattle.std.specs.Prelude.{find, bytes_eq, nat_lt, slice_get, unwrap_or, if◌then◌else◌}
use Rattle.std.specs.List.{AllByRecursion, IsDistinct, cons_option, flat_map, position_or_len}
use Rattle.std.proofs.lemmas.Slice.Eq.{bytes_eq-Decides}
use Rattle.std.proofs.lemmas.List.Folds.{find_at}
use Rattle.code_rules.specs.LogicValues.declared.kinds.Value.TheVariants as value
use Rattle.code_rules.specs.ModelTree.Tree as tree
use Rattle.code_rules.specs.ModelTree.Lines.{item_line}
use Rattle.code_rules.specs.ModelTree.Limits.{fits_block, fits_events, fits_parameters, fits_answer, fits_item, fits_items, fits_modules, within, is_sound, bracket_limit}
use Rattle.code_rules.specs.ModelTree.Leaves.{is_name}
use Rattle.code_rules.specs.ModelTree.declared.types.Parameter.{Parameter}
use Rattle.code_rules.specs.ModelTree.declared.items.ClockItem.{ClockItem}
use Rattle.code_rules.specs.FlatDesign.Code as code
use Rattle.code_rules.specs.FlatDesign.Code.{Arena, arena_of, block_at, statement_at}
use Rattle.code_rules.specs.FlatDesign.Denotes.{Context, declared, denoted_at}
use Rattle.code_rules.specs.FlatDesign.Typed.{EachOf, IsTyped, Offers}
use Rattle.code_rules.specs.FlatDesign.Reach.{inner_blocks, Holds, InBody}
use Rattle.code_rules.specs.FlatDesign.Sound.{IsHomeOf}
use Rattle.code_rules.specs.FlatDesign.declared.value_types.ValueType.{ValueType}
use Rattle.code_rules.specs.FlatDesign.declared.value_types.ValueType.TheVariants as type
use Rattle.code_rules.specs.FlatDesign.declared.objects.LeadsTo.TheVariants as leads
use Rattle.code_rules.specs.FlatDesign.declared.code.CodeBody.{CodeBody}
use Rattle.code_rules.specs.FlatDesign.declared.design.Design.{Design}
use Rattle.code_rules.specs.ModelRules.Meanings.{Declared, declaration, declarations}
use Rattle.code_rules.specs.ModelRules.Scopes.{Scope, is_declared, item_scope, with_local, with_parameters, place_of}
use Rattle.code_rules.specs.ModelRules.declared.meanings.Meaning.TheVariants as meaning
use Rattle.code_rules.specs.ModelRules.Sites as part
use Rattle.code_rules.specs.ModelRules.Sites.{site, block_sites, parameter_sites, answer_sites, events_sites, function_scope, item_parts, item_sites, around_item, items_sites, module_sites, modules_sites, top_site, sites}
use Rattle.code_rules.specs.ModelRules.Names.{first}
use Rattle.code_rules.specs.ModelRules.Passes.{doubles, constructs, reaches, fault_of, first_fault}
use Rattle.code_rules.specs.ModelRules.Distinct.{names_of, HasDistinctNames}
use Rattle.code_rules.proofs.ModelRules.Firsts.{or_none}
use Rattle.code_rules.proofs.ModelRules.Doubles.{distinct}
use Rattle.code_rules.specs.Deeds.{Home}
use Rattle.code_rules.specs.Numbered.{AtBlock, AreFirst}
use Rattle.code_rules.specs.Bodies as source
use Rattle.code_rules.specs.Bodies.{LocalSource, Source, source_of, parameter_sources, variables_in_block, exceptions_in_item, exceptions_of, start_of, span_of, wait_for, write_truth, one_period, waits_first, IsClockBlock, IsBody, IsBodyIf, AreBodies, body_count, AreModules, IsCodeOf}
use Rattle.laws_code.proofs.Coded.{same_some}
use Rattle.laws_code.proofs.Typed.{parts_none, head_none}
use Rattle.laws_code.specs.HasCode.{AreNumbered}
use Rattle.laws_code.proofs.Known.{local_known}
use Rattle.laws_code.proofs.Declared.{IsKnown, items_known, scope_known, AreTyped, parameters_typed}
use Rattle.laws_code.proofs.Exceptions.{all_numbered}
use Rattle.laws_code.proofs.Blocks.{all_parts}
use Rattle.laws_code.proofs.Models.{constructs_none}
use Rattle.laws_code.specs.Standing.{Standing, DesignStands}
use Rattle.laws_code.specs.Ready.{Ready}
use Rattle.laws_code.specs.Functions.{FunctionsStand, VariablesStand}
use Rattle.laws_code.specs.TypedCode.{IsTypedCode}
use Rattle.laws_code.proofs.Operands.{both_true}
use Rattle.laws_code.proofs.Places.{signal_offers}
use Rattle.laws_code.proofs.Channels.{within_is}
use Rattle.laws_code.proofs.TypedBlocks.{firsts, held, local_ready, held_fine}
use Rattle.laws_code.proofs.Bodies.{names_in, distinct_head, all_behind, pos_is, locals_stand, functions_stand, used_bodies, slice_behind}

-- clocks

module _ (a : Arena) (place : ℕ) (answer : Option ValueType) (c : Context) (n : ℕ) (writes : Offers c.design (declared c n) (leads.Out type.Bool)) (clk : ClockItem) where
  Fine : code.Statement → Type 0
  Fine f = IsTyped a place answer c f

  -- the block of a clock's thread, and that of its loop
  abbrev IsOuter : ℕ → Type 0
  IsOuter j = (b : ℕ) × AtBlock a j (λ ids. AreFirst a (waits_first (start_of clk.start) ++ code.while_ (code.literal (value.Bool true)) b ∷ []) ids []) × AtBlock a b (λ inner. AreFirst a (one_period n clk) inner [])

  abbrev IsInner : ℕ → Type 0
  IsInner j = AtBlock a j (λ inner. AreFirst a (one_period n clk) inner [])

  abbrev IsClockPart : ℕ → Type 0
  IsClockPart j = IsOuter j ⊎ IsInner j

  abbrev Typed : code.Statement → Type 0
  Typed f = IsTyped a place answer c f × AllByRecursion IsClockPart (inner_blocks f)

  wait_typed : (t : ℕ) → Typed (wait_for t)
  wait_typed t = ((refl, refl), tt)

  write_typed : (b : Bool) → Typed (write_truth n b)
  write_typed b = ((inl (writes, tt), (type.Bool, (refl, refl), refl)), tt)

  period_typed : EachOf Typed (one_period n clk)
  period_typed = (write_typed true, (wait_typed (span_of clk.high), (write_typed false, (wait_typed (span_of clk.period - span_of clk.high), tt))))

  first_typed : (b : Bool) (t : ℕ) (fs : List code.Statement) → EachOf Typed fs → EachOf Typed ((if b then [] else wait_for t ∷ []) ++ fs)
  first_typed true t fs k = k
  first_typed false t fs k = (wait_typed t, k)

  part_typed : (j : ℕ) → IsClockPart j → AllByRecursion (λ i. (f : code.Statement) → statement_at a i ≡ Some f → Typed f) (block_at a j)
  part_typed j (inl k) =
      subst (AllByRecursion (λ i. (f : code.Statement) → statement_at a i ≡ Some f → Typed f)) (sym (ap (λ o. unwrap_or o []) k.1.1))
      (firsts a Typed (waits_first (start_of clk.start) ++ code.while_ (code.literal (value.Bool true)) k.0 ∷ []) k.1.0 [] k.1.2
      (first_typed (start_of clk.start == 0) (start_of clk.start) (code.while_ (code.literal (value.Bool true)) k.0 ∷ []) (((refl, refl), (inr k.2, tt)), tt)) tt)
  part_typed j (inr k) =
      subst (AllByRecursion (λ i. (f : code.Statement) → statement_at a i ≡ Some f → Typed f)) (sym (ap (λ o. unwrap_or o []) k.1)) (firsts a Typed (one_period n clk) k.0 [] k.2 period_typed tt)

  pub clock_typed : (j : ℕ) (f : code.Statement) → IsOuter j → Holds a j f → IsTyped a place answer c f
  clock_typed j f k x = held a (λ g. IsTyped a place answer c g) IsClockPart part_typed j f (inl k) x

-- parameters

module _ (h : Home) (a : Arena) (place : ℕ) (answer : Option ValueType) (c : Context) where
  pub record Entered (s : Scope) (xs : List LocalSource) : Type 0 where
    pub ready : Ready h a place answer c s
    pub variables : VariablesStand c.locals s.count xs

  pub entered : (s : Scope) (ps : List Parameter) (xs : List LocalSource) → Ready h a place answer c s → AreTyped ps → VariablesStand c.locals s.count (parameter_sources ps ++ xs) → Entered (with_parameters s ps) xs
  entered s [] xs r t v = record { ready = r; variables = v }
  entered s (p ∷ ps) xs r t v =
      entered (with_local s p.name p.var_type) ps xs (local_ready h a place answer c s p.name p.var_type r (local_known s p.name p.var_type (Ready.known r) t.0) (v.0, tt)) t.1 v.1

-- a clock is found by its name, since names differ

clock_in : (P : List ℕ → Type 0) (before is : List tree.Item) (line : ℕ) (clk : ClockItem) → AllByRecursion P (names_of (before ++ tree.clock line clk ∷ is)) → P clk.name
clock_in P [] is line clk h = h.0
clock_in P (i ∷ before) is line clk h = clock_in P before is line clk (all_behind P (declaration i) (declarations (before ++ tree.clock line clk ∷ is)) h)

abbrev clock_declared : ClockItem → Declared
clock_declared clk = record { name = clk.name; meaning = meaning.Clock }

found_true : {A : Type 0} (b : Bool) (x : A) (o : Option A) → b ≡ true → cond b (Some x) o ≡ Some x
found_true true x o h = refl
found_true false x o h = absurd (true≢false (sym h))

found_false : {A : Type 0} (b : Bool) (x y : A) (o : Option A) → b ≡ false → o ≡ Some y → cond b (Some x) o ≡ Some y
found_false true x y o h e = absurd (true≢false h)
found_false false x y o h e = e

find_behind : (o : Option Declared) (before is : List tree.Item) (line : ℕ) (clk : ClockItem) → IsDistinct bytes_eq (names_in (cons_option o (declarations (before ++ tree.clock line clk ∷ is))))
    → (IsDistinct bytes_eq (names_of (before ++ tree.clock line clk ∷ is)) → find (is_declared clk.name) (declarations (before ++ tree.clock line clk ∷ is)) ≡ Some (clock_declared clk))
    → find (is_declared clk.name) (cons_option o (declarations (before ++ tree.clock line clk ∷ is))) ≡ Some (clock_declared clk)
find_behind None before is line clk h rest = rest h
find_behind (Some d) before is line clk h rest =
    let two = distinct_head d.name (names_of (before ++ tree.clock line clk ∷ is)) h in
    found_false (bytes_eq d.name clk.name) d (clock_declared clk) (find (is_declared clk.name) (declarations (before ++ tree.clock line clk ∷ is))) (clock_in (λ y. bytes_eq d.name y ≡ false) before is line clk two.0) (rest two.1)

find_clock : (before is : List tree.Item) (line : ℕ) (clk : ClockItem) → IsDistinct bytes_eq (names_of (before ++ tree.clock line clk ∷ is))
    → find (is_declared clk.name) (declarations (before ++ tree.clock line clk ∷ is)) ≡ Some (clock_declared clk)
find_clock [] is line clk h = found_true (bytes_eq clk.name clk.name) (clock_declared clk) (find (is_declared clk.name) (declarations is)) ((bytes_eq-Decides clk.name clk.name).1 refl)
find_clock (i ∷ before) is line clk h = find_behind (declaration i) before is line clk h (find_clock before is line clk)

-- bodies

at_slice : {A : Type 0} (P : A → Type 0) (xs : List A) (x : A) (k : ℕ) → AllByRecursion P xs → slice_get xs k ≡ Some x → P x
at_slice P [] x k h e = cc
at_slice P (y ∷ ys) x zero h e = subst P (same_some y x e) h.0
at_slice P (y ∷ ys) x (suc k) h e = at_slice P ys x k h.1 e

plus_zero : (n : ℕ) → n ≡ n + 0
plus_zero n = omega arith

module _ (m : tree.Model) (d : Design) (stands : DesignStands m d) where
  -- the statements of a body are typed
  abbrev Good : CodeBody → Type 0
  Good b =
      (home : ℕ) → IsHomeOf d home b → (f : code.Statement) → InBody (arena_of d.code) b f
      → IsTyped (arena_of d.code) b.module_place b.answer (record { design = d; home = home; locals = b.locals }) f

  module _ (x : tree.Module) (place : ℕ) (there : slice_get m.modules place ≡ Some x) (h : Home) (declared_known : AllByRecursion IsKnown (declarations x.items))
      (functions : (around : List ℕ) → FunctionsStand h (arena_of d.code) place (item_scope m.modules x.items around)) where
    context : ℕ → CodeBody → Context
    context home b = record { design = d; home = home; locals = b.locals }

    names_at : (home : ℕ) (b : CodeBody) → b.module_place ≡ place → IsHomeOf d home b → (n : ℕ) (y : Declared) → slice_get (declarations x.items) n ≡ Some y → Standing d y.meaning (denoted_at d home n)
    names_at home b here k n y e = stands.names home n k.instance x y k.found (ap (slice_get m.modules) (k.same ∙ here) ∙ there) e

    in_place : (b : CodeBody) (c : Context) (f : code.Statement) → b.module_place ≡ place → IsTyped (arena_of d.code) place b.answer c f → IsTyped (arena_of d.code) b.module_place b.answer c f
    in_place b c f here k = subst (λ j. IsTyped (arena_of d.code) j b.answer c f) (sym here) k

    function_good : (f : tree.FunctionItem) (b : CodeBody) (n : ℕ) → IsBody place h (arena_of d.code) (item_scope m.modules x.items f.name) (source.of_function f) b → AreNumbered h (exceptions_in_item (tree.function 0 f))
        → fits_item (tree.function 0 f) n ≡ true → fault_of constructs (item_parts (item_scope m.modules x.items f.name) (tree.function 0 f)) ≡ None → Good b
    function_good f b n body numbered fit clean home k g held_there =
        let p = parts_none (parameter_sites (item_scope m.modules x.items f.name) f.parameters ++ answer_sites (item_scope m.modules x.items f.name) f.answer) (block_sites f.body (function_scope (item_scope m.modules x.items f.name) f)) clean in
        let q = parts_none (parameter_sites (item_scope m.modules x.items f.name) f.parameters) (answer_sites (item_scope m.modules x.items f.name) f.answer) p.0 in
        let w = within_is n (fits_block f.body) (both_true (fits_answer f.answer) (within n (fits_block f.body)) (both_true (is_name f.name && fits_parameters f.parameters) (fits_answer f.answer && within n (fits_block f.body)) fit).1).1 in
        let e =
        entered h (arena_of d.code) place b.answer (record { design = d; home = home; locals = b.locals }) (record (item_scope m.modules x.items f.name) { answer = f.answer }) f.parameters (variables_in_block f.body)
        (record { names = record { names = names_at home b body.in_module k; locals = tt }; known = scope_known m.modules x.items f.name declared_known; functions = functions f.name; returns = body.answer })
        (parameters_typed (item_scope m.modules x.items f.name) f.parameters q.0) (locals_stand (parameter_sources f.parameters ++ variables_in_block f.body) b.locals body.locals) in
        in_place b (record { design = d; home = home; locals = b.locals }) g body.in_module
        (held_fine h (arena_of d.code) place b.answer (record { design = d; home = home; locals = b.locals }) b.block g (
          body.statements.0,
          body.statements.1,
          record { block = f.body; scope = function_scope (item_scope m.modules x.items f.name) f; ready = e.ready; variables = e.variables; numbered = numbered; depth = w.0; within_limits = w.1; clean = p.1; read = body.statements.2 },
        ) held_there)

    process_good : (r : tree.ProcessItem) (b : CodeBody) (n : ℕ) → IsBody place h (arena_of d.code) (item_scope m.modules x.items r.name) (source.of_process r) b → AreNumbered h (exceptions_in_item (tree.process 0 r))
        → fits_item (tree.process 0 r) n ≡ true → fault_of constructs (item_parts (item_scope m.modules x.items r.name) (tree.process 0 r)) ≡ None → Good b
    process_good r b n body numbered fit clean home k g held_there =
        let p = parts_none (events_sites (item_scope m.modules x.items r.name) true r.sensitive) (block_sites r.body (item_scope m.modules x.items r.name)) clean in
        let w = within_is n (fits_block r.body) (both_true (fits_events n r.sensitive) (within n (fits_block r.body)) (both_true (is_name r.name) (fits_events n r.sensitive && within n (fits_block r.body)) fit).1).1 in
        in_place b (record { design = d; home = home; locals = b.locals }) g body.in_module
        (held_fine h (arena_of d.code) place b.answer (record { design = d; home = home; locals = b.locals }) b.block g (
          body.statements.0,
          body.statements.1,
          record {
            block = r.body;
            scope = item_scope m.modules x.items r.name;
            ready = record { names = record { names = names_at home b body.in_module k; locals = tt }; known = scope_known m.modules x.items r.name declared_known; functions = functions r.name; returns = body.answer };
            variables = locals_stand (variables_in_block r.body) b.locals body.locals;
            numbered = numbered;
            depth = w.0;
            within_limits = w.1;
            clean = p.1;
            read = body.statements.2;
          },
        ) held_there)

    -- a clock's name is that of its signal
    clock_at : (o : Option ℕ) (b : CodeBody) (clk : ClockItem) (home : ℕ) → IsHomeOf d home b → b.module_place ≡ place → ((n : ℕ) → o ≡ Some n → Standing d meaning.Clock (denoted_at d home n))
        → AtBlock (arena_of d.code) b.block (IsClockBlock (arena_of d.code) o clk) → (f : code.Statement) → Holds (arena_of d.code) b.block f → IsTyped (arena_of d.code) place b.answer (record { design = d; home = home; locals = b.locals }) f
    clock_at None b clk home k here standing at f g = absurd at.2
    clock_at (Some n) b clk home k here standing at f g =
        let y = signal_offers d (denoted_at d home n) (Some type.Bool) (standing n refl) in
        clock_typed (arena_of d.code) place b.answer (record { design = d; home = home; locals = b.locals }) n
        (subst (λ v. Offers d (denoted_at d home n) (leads.Out v)) (sym (same_some type.Bool y.0 y.1)) y.3) clk b.block f (at.2.0, (at.0, at.1, at.2.1), at.2.2) g

    clock_stands : (before is : List tree.Item) (line : ℕ) (clk : ClockItem) (b : CodeBody) (home : ℕ) → x.items ≡ before ++ tree.clock line clk ∷ is → IsDistinct bytes_eq (names_of x.items) → b.module_place ≡ place → IsHomeOf d home b
        → (n : ℕ) → place_of (item_scope m.modules x.items clk.name) clk.name ≡ Some n → Standing d meaning.Clock (denoted_at d home n)
    clock_stands before is line clk b home e differ here k n at =
        let found =
        subst (λ (xs : List tree.Item). find (is_declared clk.name) (declarations xs) ≡ Some (clock_declared clk)) (sym e) (find_clock before is line clk (subst (λ (xs : List tree.Item). IsDistinct bytes_eq (names_of xs)) e differ)) in
        let number = pos_is (nat_lt (position_or_len (is_declared clk.name) (declarations x.items)) (length (declarations x.items))) (position_or_len (is_declared clk.name) (declarations x.items)) n at in
        names_at home b here k n (clock_declared clk) (ap (slice_get (declarations x.items)) (sym number) ∙ sym (find_at (is_declared clk.name) (declarations x.items)) ∙ found)

    clock_good : (before is : List tree.Item) (line : ℕ) (clk : ClockItem) (b : CodeBody) → x.items ≡ before ++ tree.clock line clk ∷ is → IsDistinct bytes_eq (names_of x.items)
        → IsBody place h (arena_of d.code) (item_scope m.modules x.items clk.name) (source.of_clock clk) b → Good b
    clock_good before is line clk b e differ body home k g held_there =
        in_place b (record { design = d; home = home; locals = b.locals }) g body.in_module
        (clock_at (place_of (item_scope m.modules x.items clk.name) clk.name) b clk home k body.in_module (clock_stands before is line clk b home e differ body.in_module k) body.statements g held_there)

    -- the bodies of items
    without : (bodies mid : List CodeBody) → bodies ≡ mid → AllByRecursion Good mid → AllByRecursion Good bodies
    without bodies mid e k = subst (AllByRecursion Good) (sym e) k

    with_one : (b : CodeBody) (bodies mid : List CodeBody) → bodies ≡ b ∷ mid → Good b → AllByRecursion Good mid → AllByRecursion Good bodies
    with_one b bodies mid e g k = subst (AllByRecursion Good) (sym e) (g, k)

    item_good : (before is : List tree.Item) (i : tree.Item) (n : ℕ) (bodies mid : List CodeBody) → x.items ≡ before ++ i ∷ is → IsDistinct bytes_eq (names_of x.items)
        → IsBodyIf place h (arena_of d.code) (item_scope m.modules x.items (around_item i)) (source_of i) bodies mid → AreNumbered h (exceptions_in_item i) → fits_item i n ≡ true
        → fault_of constructs (item_parts (item_scope m.modules x.items (around_item i)) i) ≡ None → AllByRecursion Good mid → AllByRecursion Good bodies
    item_good before is (tree.signal line y) n bodies mid e differ r numbered fit clean k = without bodies mid r k
    item_good before is (tree.resolved line y) n bodies mid e differ r numbered fit clean k = without bodies mid r k
    item_good before is (tree.clock line clk) n bodies mid e differ r numbered fit clean k = with_one r.0 bodies mid r.1 (clock_good before is line clk r.0 e differ r.2) k
    item_good before is (tree.fifo line t y size) n bodies mid e differ r numbered fit clean k = without bodies mid r k
    item_good before is (tree.plain line kind y) n bodies mid e differ r numbered fit clean k = without bodies mid r k
    item_good before is (tree.semaphore line y c) n bodies mid e differ r numbered fit clean k = without bodies mid r k
    item_good before is (tree.memory line y size) n bodies mid e differ r numbered fit clean k = without bodies mid r k
    item_good before is (tree.variable line t y c) n bodies mid e differ r numbered fit clean k = without bodies mid r k
    item_good before is (tree.port line i y size) n bodies mid e differ r numbered fit clean k = without bodies mid r k
    item_good before is (tree.export line i y) n bodies mid e differ r numbered fit clean k = without bodies mid r k
    item_good before is (tree.initiator line y role) n bodies mid e differ r numbered fit clean k = without bodies mid r k
    item_good before is (tree.target line y role) n bodies mid e differ r numbered fit clean k = without bodies mid r k
    item_good before is (tree.instance line kind y) n bodies mid e differ r numbered fit clean k = without bodies mid r k
    item_good before is (tree.bind line left right) n bodies mid e differ r numbered fit clean k = without bodies mid r k
    item_good before is (tree.function line f) n bodies mid e differ r numbered fit clean k = with_one r.0 bodies mid r.1 (function_good f r.0 n r.2 numbered fit clean) k
    item_good before is (tree.process line p) n bodies mid e differ r numbered fit clean k = with_one r.0 bodies mid r.1 (process_good p r.0 n r.2 numbered fit clean) k

    items_good : (before is : List tree.Item) (n : ℕ) (bodies rest : List CodeBody) → x.items ≡ before ++ is → IsDistinct bytes_eq (names_of x.items) → AreBodies m.modules x.items place h (arena_of d.code) is bodies rest
        → AreNumbered h (flat_map exceptions_in_item is) → fits_items is n ≡ true → fault_of constructs (items_sites m.modules x.items before is) ≡ None → AllByRecursion Good rest → AllByRecursion Good bodies
    items_good before [] n bodies rest e differ r numbered fit clean k = without bodies rest r k
    items_good before (i ∷ is) n bodies rest e differ r numbered fit clean k =
        let p = parts_none (item_sites (item_scope m.modules x.items (around_item i)) before i) (items_sites m.modules x.items (before ++ i ∷ []) is) clean in
        let q = head_none (site (item_scope m.modules x.items (around_item i)) (item_line i) (part.of_item before i)) (item_parts (item_scope m.modules x.items (around_item i)) i) p.0 in
        let o = all_parts _ (exceptions_in_item i) (flat_map exceptions_in_item is) numbered in
        let f = both_true (fits_item i n) (fits_items is n) fit in
        item_good before is i n bodies r.0 e differ r.1 o.0 f.0 q.1 (items_good (before ++ i ∷ []) is n r.0 rest (e ∙ sym (append_assoc before (i ∷ []) is)) differ r.2 o.1 f.1 p.1 k)

  -- the bodies of modules
  modules_good : (exceptions : List (List ℕ)) (before ms : List tree.Module) (place k n : ℕ) (pre bodies : List CodeBody) → m.modules ≡ before ++ ms → length before ≡ place → (arena_of d.code).bodies ≡ pre ++ bodies → length pre ≡ k
      → AllByRecursion (λ (x : tree.Module). IsDistinct bytes_eq (names_of x.items)) ms
      → ((j : ℕ) → AreNumbered (record { first_body = j; exceptions = exceptions }) (flat_map (λ (x : tree.Module). flat_map exceptions_in_item x.items) ms))
      → fits_modules ms n ≡ true → fault_of constructs (modules_sites m.modules before ms) ≡ None → AreModules m.modules exceptions (arena_of d.code) place k ms bodies → AllByRecursion Good bodies
  modules_good exceptions before [] place k n pre bodies e at total len differ numbered fit clean r = subst (AllByRecursion Good) (sym r) tt
  modules_good exceptions before (x ∷ ms) place k n pre bodies e at total len differ numbered fit clean r =
      let p = parts_none (module_sites m.modules before x) (modules_sites m.modules (before ++ x ∷ []) ms) clean in
      let q = head_none (site (item_scope m.modules x.items x.name) x.line (part.of_module before x)) (items_sites m.modules x.items [] x.items) p.0 in
      let rest = λ (j : ℕ). all_parts _ (flat_map exceptions_in_item x.items) (flat_map (λ (y : tree.Module). flat_map exceptions_in_item y.items) ms) (numbered j) in
      let f = both_true (is_name x.name && within n (fits_items x.items)) (fits_modules ms n) fit in
      let w = within_is n (fits_items x.items) (both_true (is_name x.name) (within n (fits_items x.items)) f.0).1 in
      let u = used_bodies m.modules x.items place (record { first_body = k; exceptions = exceptions }) (arena_of d.code) x.items bodies r.0 r.1 in
      let there = ap (λ (xs : List tree.Module). slice_get xs place) e ∙ ap (slice_get (before ++ x ∷ ms)) (sym at ∙ plus_zero (length before)) ∙ slice_behind before (x ∷ ms) 0 in
      items_good x place there (record { first_body = k; exceptions = exceptions }) (items_known m.modules x.items [] x.items q.1)
      (functions_stand m.modules x.items place k exceptions (arena_of d.code) pre bodies r.0 total len differ.0 r.1) [] x.items w.0 bodies r.0 refl differ.0 r.1 (rest k).0 w.1 q.1
      (modules_good exceptions (before ++ x ∷ []) ms (place + 1) (k + body_count x.items) n (pre ++ u.0) r.0 (e ∙ sym (append_assoc before (x ∷ []) ms)) (length-append before (x ∷ []) ∙ ap (λ j. j + 1) at)
      (total ∙ ap (λ bs. pre ++ bs) u.1 ∙ sym (append_assoc pre u.0 r.0)) (length-append pre u.0 ∙ (λ i. len i + u.2 i)) differ.1 (λ j. (rest j).1) f.1 p.1 r.2)

  pub model_typed : first_fault m ≡ None → is_sound m ≡ true → IsCodeOf m d.code → IsTypedCode d
  model_typed none sound read f b home g found k held_there =
      let p = parts_none (modules_sites m.modules [] m.modules) (top_site m.modules m.top ∷ []) (constructs_none m none) in
      let names = distinct m (or_none (fault_of doubles (sites m)) (first (λ rules. fault_of rules (sites m)) (constructs ∷ reaches ∷ [])) none).0 in
      let all =
      modules_good (exceptions_of m) [] m.modules 0 0 bracket_limit [] (arena_of d.code).bodies refl refl refl refl (HasDistinctNames.items names)
      (λ j. all_numbered j (flat_map (λ (x : tree.Module). flat_map exceptions_in_item x.items) m.modules)) (both_true (fits_modules m.modules bracket_limit) (is_name m.top.module && is_name m.top.name) sound).0 p.0 read in
      at_slice Good (arena_of d.code).bodies b f all found home k g held_there
