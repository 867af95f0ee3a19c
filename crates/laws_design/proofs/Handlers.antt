-- The handlers of the hops of a design are functions that sockets of their module name as such.
use Rattle.std.proofs.Common.{◌≡◌, ◌||◌, ℕ, zero, suc, ◌+◌, Bool, true, false, cond, List, [], ◌∷◌, ◌++◌, append_assoc, take, length, Option, Some, None, refl, sym, ap, ◌∙◌, subst, inl, inr, arith, length-append}
use Rattle.std.specs.Prelude.{slice_get, bytes_eq, find, is_some, option_map, position, nat_lt, filter_map, Contains}
use Rattle.std.specs.List.{AllByRecursion, IsDistinct, list_any, position_or_len}
use Rattle.std.proofs.lemmas.Bool.{or_left, or_right}
use Rattle.std.proofs.lemmas.List.Elements.{Contains-append_cases}
use Rattle.std.proofs.lemmas.Option.{slice_get-map}
use Rattle.std.proofs.lemmas.Slice.Eq.{bytes_eq-Decides}
use Rattle.elaborate_objects.specs.ModelTree.Tree as tree
use Rattle.elaborate_objects.specs.ModelTree.Lines.{item_line}
use Rattle.elaborate_objects.specs.ModelTree.declared.items.PlainKind.TheVariants as plain
use Rattle.elaborate_objects.specs.ModelTree.declared.items.InitiatorRole.TheVariants as initiator
use Rattle.elaborate_objects.specs.ModelTree.declared.items.TargetRole.TheVariants as target
use Rattle.elaborate_objects.specs.FlatDesign.Code.{Arena, arena_of, body_at}
use Rattle.elaborate_objects.specs.FlatDesign.Sound.{IsNonblockingHandler, IsAnyHandler}
use Rattle.elaborate_objects.specs.FlatDesign.declared.code.CodeBody.{CodeBody}
use Rattle.elaborate_objects.specs.FlatDesign.declared.objects.Object.{Object}
use Rattle.elaborate_objects.specs.FlatDesign.declared.objects.Objects.{Objects}
use Rattle.elaborate_objects.specs.FlatDesign.declared.objects.ObjectForm.{ObjectForm}
use Rattle.elaborate_objects.specs.FlatDesign.declared.design.Hop.{Hop}
use Rattle.elaborate_objects.specs.FlatDesign.declared.design.Design.{Design}
use Rattle.elaborate_objects.specs.ModelRules.Scopes.{Scope, item_scope, function_named, functions_in}
use Rattle.elaborate_objects.specs.ModelRules.declared.needs.Need.TheVariants as need_of
use Rattle.elaborate_objects.specs.ModelRules.Sites as part
use Rattle.elaborate_objects.specs.ModelRules.Sites.{site, around_item}
use Rattle.elaborate_objects.specs.ModelRules.Names.{item_uses}
use Rattle.elaborate_objects.specs.ModelRules.Passes.{first_fault}
use Rattle.elaborate_objects.specs.ModelRules.Distinct.{names_of}
use Rattle.elaborate_objects.specs.ModelRules.Reach.{handles_nonblocking, handles_blocking, is_nonblocking_handler, is_handler}
use Rattle.laws_code.specs.Met.{IsMet}
use Rattle.laws_code.proofs.FaultlessConstructs.{keeps}
use Rattle.laws_code.proofs.NamesMet.{site_met}
use Rattle.laws_code.specs.CodeRules.Deeds.{Home, has_body, body_number}
use Rattle.laws_code.specs.CodeRules.Bodies as source
use Rattle.laws_code.specs.CodeRules.Bodies.{IsBody, AreBodies, body_count, exceptions_of, AreModules}
use Rattle.laws_code.proofs.Named.{is_function_named}
use Rattle.elaborate_objects.specs.DesignRules.Forms.{Name, Around, around, items_at, items_in, bodies_in, handler, object_form}
use Rattle.elaborate_objects.specs.DesignRules.Listing.{list_of, top_object}
use Rattle.elaborate_objects.specs.Rows.{Row, row_if, rows_in}
use Rattle.elaborate_objects.specs.DesignRules.declared.bindings.Joined.{Joined}
use Rattle.elaborate_objects.specs.DesignRules.Bound.{bound}
use Rattle.elaborate_objects.proofs.DesignRules.Lists.{nothing_in, only_in, head_in, tail_in}
use Rattle.elaborate_objects.specs.DesignRules.Parts.{Handlers, no_handlers, handlers_of, handlers_at, hop_of}
use Rattle.elaborate_objects.specs.DesignRules.Designs.{IsDesignOf}
use Rattle.laws_code.proofs.Places.{mapped_is}
use Rattle.laws_code.proofs.Bodies.{function_body, used_bodies, slice_behind, pos_is}
use Rattle.laws_design.proofs.Children.{same_some}
use Rattle.laws_design.proofs.Models.{comes_from}
use Rattle.laws_design.proofs.BoundEnds.{kept_at, distinct_at}
use Rattle.laws_code.specs.Bodies.{IsNamedBy, HandlersStand}

-- an item that names a handler, which has this number
pub record IsHandler (a : Around) (i : tree.Item) (f : ℕ) (test : Name → tree.Item → Bool) : Type 0 where
  pub name : Name
  pub number : handler a (Some name) ≡ Some f
  pub tested : test name i ≡ true
  pub used : (s : Scope) → AllByRecursion (IsMet s) (item_uses i) → IsMet s (name, need_of.Function)

same_name : (a : Name) → bytes_eq a a ≡ true
same_name a = (bytes_eq-Decides a a).1 refl

backward_item : (a : Around) (i : tree.Item) (f : ℕ) → (handlers_of (object_form a i)).backward ≡ Some f → IsHandler a i f handles_nonblocking
backward_item a (tree.initiator line x (initiator.Own (Some name))) f e = record { name = name; number = e; tested = same_name name; used = λ s k. k.0 }
backward_item a (tree.initiator line x (initiator.Own None)) f e = cc
backward_item a (tree.initiator line x initiator.Pass) f e = cc
backward_item a (tree.target line x target.Pass) f e = cc
backward_item a (tree.target line x (target.Own blocking forward)) f e = cc
backward_item a (tree.plain line plain.Mutex x) f e = cc
backward_item a (tree.plain line plain.Event x) f e = cc
backward_item a (tree.plain line plain.Keeper x) f e = cc
backward_item a other f e = cc

forward_item : (a : Around) (i : tree.Item) (f : ℕ) → (handlers_of (object_form a i)).forward ≡ Some f → IsHandler a i f handles_nonblocking
forward_item a (tree.target line x (target.Own None (Some name))) f e = record { name = name; number = e; tested = same_name name; used = λ s k. k.0 }
forward_item a (tree.target line x (target.Own (Some blocking) (Some name))) f e = record { name = name; number = e; tested = same_name name; used = λ s k. k.1.0 }
forward_item a (tree.target line x (target.Own blocking None)) f e = cc
forward_item a (tree.target line x target.Pass) f e = cc
forward_item a (tree.initiator line x initiator.Pass) f e = cc
forward_item a (tree.initiator line x (initiator.Own backward)) f e = cc
forward_item a (tree.plain line plain.Mutex x) f e = cc
forward_item a (tree.plain line plain.Event x) f e = cc
forward_item a (tree.plain line plain.Keeper x) f e = cc
forward_item a other f e = cc

blocking_item : (a : Around) (i : tree.Item) (f : ℕ) → (handlers_of (object_form a i)).blocking ≡ Some f → IsHandler a i f handles_blocking
blocking_item a (tree.target line x (target.Own (Some name) forward)) f e = record { name = name; number = e; tested = same_name name; used = λ s k. k.0 }
blocking_item a (tree.target line x (target.Own None forward)) f e = cc
blocking_item a (tree.target line x target.Pass) f e = cc
blocking_item a (tree.initiator line x initiator.Pass) f e = cc
blocking_item a (tree.initiator line x (initiator.Own backward)) f e = cc
blocking_item a (tree.plain line plain.Mutex x) f e = cc
blocking_item a (tree.plain line plain.Event x) f e = cc
blocking_item a (tree.plain line plain.Keeper x) f e = cc
blocking_item a other f e = cc

-- lists

any_in : {X : Type 0} (p : X → Bool) (xs : List X) (x : X) → Contains xs x → p x ≡ true → list_any p xs ≡ true
any_in p [] x at h = absurd (nothing_in x at)
any_in p (y ∷ ys) x (zero, below, is) h = or_left (p y) (list_any p ys) (ap p is ∙ h)
any_in p (y ∷ ys) x (suc k, below, is) h = or_right (p y) (list_any p ys) (any_in p ys x (k, omega arith, is) h)

found_some : {X : Type 0} (p : X → Bool) (xs : List X) (o : Option X) → find p xs ≡ o → is_some o ≡ true → (x : X) × (find p xs ≡ Some x)
found_some p xs None e h = cc
found_some p xs (Some x) e h = (x, e)

passes_by : {X : Type 0} (p : X → Bool) (x y : X) (xs : List X) (b : Bool) → p x ≡ b → cond b (Some x) (find p xs) ≡ Some y → (find p xs ≡ Some y → p y ≡ true) → p y ≡ true
passes_by p x y xs true e h rest = subst (λ z. p z ≡ true) (same_some x y h) e
passes_by p x y xs false e h rest = rest h

pub passes : {X : Type 0} (p : X → Bool) (xs : List X) (y : X) → find p xs ≡ Some y → p y ≡ true
passes p [] y h = cc
passes p (x ∷ xs) y h = passes_by p x y xs (p x) refl h (passes p xs y)

-- rows and their items

one_row : (x : tree.Item) (o : Option ObjectForm) (r : Row) → Contains (row_if x o) r → o ≡ Some r.form
one_row x None r c = absurd (nothing_in r c)
one_row x (Some f) r c = sym (ap (λ (q : Row). Some q.form) (only_in r _ c))

pub row_item : (a : Around) (is : List tree.Item) (r : Row) → Contains (rows_in a is) r → (i : tree.Item) × Contains is i × (object_form a i ≡ Some r.form)
row_item a [] r c = absurd (nothing_in r c)
row_item a (x ∷ is) r c =
    elim (Contains-append_cases (row_if x (object_form a x)) (rows_in a is) r c) [
      | inl here ↦ (x, head_in x is, one_row x (object_form a x) r here)
      | inr there ↦ let w = row_item a is r there in (w.0, tail_in w.0 x is w.1, w.2)
    ]

module _ (m : tree.Model) where
  -- what an object has as handlers, its item names
  pub record Names (sel : Handlers → Option ℕ) (f : ℕ) : Type 0 where
    pub place : ℕ
    pub item : tree.Item
    pub listed : Contains (items_at m.modules place) item
    pub selected : sel (handlers_of (object_form (around m.modules place) item)) ≡ Some f

  abbrev pub form_of : Option Object → Option ObjectForm
  form_of o = option_map (λ (x : Object). x.form) o

  names_by : (sel : Handlers → Option ℕ) (f : ℕ) → sel no_handlers ≡ None → (i : ℕ) (o : Option Object) → slice_get (list_of m) i ≡ o → sel (handlers_of (form_of o)) ≡ Some f → Names sel f
  names_by sel f none i None e h = let no : None ≡ Some f = sym none ∙ h in cc
  names_by sel f none zero (Some o) e h =
      let no : None ≡ Some f = sym none ∙ ap (λ (x : Object). sel (handlers_of (Some x.form))) (same_some (top_object m) o e) ∙ h in cc
  names_by sel f none (suc k) (Some o) e h =
      let c = comes_from m k o e in
      let w = row_item (around m.modules c.place) (items_at m.modules c.place) c.row c.listed in
      record {
        place = c.place;
        item = w.0;
        listed = w.1;
        selected = ap (λ p. sel (handlers_of p)) w.2 ∙ sym (ap (λ (x : Object). sel (handlers_of (Some x.form))) c.is) ∙ h;
      }

  -- the bodies of a module
  module _ (a : Arena) where
    pub record ModuleBodies (x : tree.Module) (place n : ℕ) : Type 0 where
      pub before : List CodeBody
      pub bodies : List CodeBody
      pub rest : List CodeBody
      pub total : a.bodies ≡ before ++ bodies
      pub count : length before ≡ n
      pub read : AreBodies m.modules x.items place (record { first_body = n; exceptions = exceptions_of m }) a x.items bodies rest

    moved : (x : tree.Module) (p q n k : ℕ) → p ≡ q → n ≡ k → ModuleBodies x p n → ModuleBodies x q k
    moved x p q n k e f w = subst (ModuleBodies x q) f (subst (λ j. ModuleBodies x j n) e w)

    bodies_of : (place n : ℕ) (ms : List tree.Module) (pre bodies : List CodeBody) → a.bodies ≡ pre ++ bodies → length pre ≡ n → AreModules m.modules (exceptions_of m) a place n ms bodies → (k : ℕ) (x : tree.Module)
        → slice_get ms k ≡ Some x → ModuleBodies x (place + k) (n + bodies_in (take k ms))
    bodies_of place n [] pre bodies total len r k x at = cc
    bodies_of place n (y ∷ ms) pre bodies total len r zero x at =
        moved x place (place + 0) n (n + 0) (omega arith) (omega arith)
        (subst (λ z. ModuleBodies z place n) (same_some y x at) (record { before = pre; bodies = bodies; rest = r.0; total = total; count = len; read = r.1 }))
    bodies_of place n (y ∷ ms) pre bodies total len r (suc k) x at =
        let u = used_bodies m.modules y.items place (record { first_body = n; exceptions = exceptions_of m }) a y.items bodies r.0 r.1 in
        let l = length-append pre u.0 in
        let c = u.2 in
        let p : place + 1 + k ≡ place + suc k = omega arith in
        let q : n + body_count y.items + bodies_in (take k ms) ≡ n + (body_count y.items + bodies_in (take k ms)) = omega arith in
        moved x (place + 1 + k) (place + suc k) (n + body_count y.items + bodies_in (take k ms)) (n + (body_count y.items + bodies_in (take k ms))) p q
        (bodies_of (place + 1) (n + body_count y.items) ms (pre ++ u.0) r.0 (total ∙ ap (λ bs. pre ++ bs) u.1 ∙ sym (append_assoc pre u.0 r.0)) (omega (arith, l, len, c)) r.2 k x at)

module _ (m : tree.Model) (clean : first_fault m ≡ None) (d : Design) (design : IsDesignOf m d) where
  abbrev pub a : Arena
  a = arena_of d.code

  pub module_there : (place : ℕ) (i : tree.Item) (o : Option tree.Module) → slice_get m.modules place ≡ o → Contains (items_in o) i → (x : tree.Module) × (slice_get m.modules place ≡ Some x)
  module_there place i None e c = absurd (nothing_in i c)
  module_there place i (Some x) e c = (x, e)

  -- a body by its number among those of its module
  pub placed : (before bodies : List CodeBody) (n q k f : ℕ) (t : CodeBody) → a.bodies ≡ before ++ bodies → length before ≡ n → q ≡ k → n + k ≡ f → slice_get bodies q ≡ Some t → body_at a f ≡ Some t
  placed before bodies n q k f t total count same number there =
      let e : f ≡ length before + q = omega (arith, count, same, number) in
      ap (λ bs. slice_get bs f) total ∙ ap (slice_get (before ++ bodies)) e ∙ slice_behind before bodies q ∙ there

  -- the number of the first body of the module at a place, and where its code is read
  abbrev pub first_at : ℕ → ℕ
  first_at place = bodies_in (take place m.modules)

  abbrev pub home_at : ℕ → Home
  home_at place = record { first_body = first_at place; exceptions = exceptions_of m }

  module _ (place : ℕ) (x : tree.Module) (there : slice_get m.modules place ≡ Some x) where
    pub bodies_there : ModuleBodies m a x place (first_at place)
    bodies_there = moved m a x (0 + place) place (0 + first_at place) (first_at place) (omega arith) (omega arith) (bodies_of m a 0 0 m.modules [] a.bodies refl refl design.code place x there)

    pub differ : IsDistinct bytes_eq (names_of x.items)
    differ = subst (λ (is : List tree.Item). IsDistinct bytes_eq (names_of is)) (ap items_in there) (distinct_at m clean place)

    numbered_body : (name : Name) (g : tree.FunctionItem) → function_named x.items name ≡ Some g → (f : ℕ) → body_number (record { first_body = first_at place; exceptions = [] }) x.items g.name ≡ Some f
        → (b : CodeBody) → body_at a f ≡ Some b → IsBody place (home_at place) a (item_scope m.modules x.items g.name) (source.of_function g) b
    numbered_body name g named f number b found =
        let z = bodies_there in
        let t = function_body m.modules x.items place (home_at place) a x.items z.bodies z.rest differ z.read name g named in
        let q = position_or_len (λ y. bytes_eq y g.name) (filter_map has_body x.items) in
        let p = mapped_is (λ j. first_at place + j) (position (λ y. bytes_eq y g.name) (filter_map has_body x.items)) f number in
        let same = pos_is (nat_lt q (length (filter_map has_body x.items))) q p.0 p.1 in
        let at = placed z.before z.bodies (first_at place) q p.0 f t.0 z.total z.count same p.2 t.1 in
        subst (IsBody place (home_at place) a (item_scope m.modules x.items g.name) (source.of_function g)) (same_some t.0 b (sym at ∙ found)) t.2

  -- the function that a handler's name is that of
  pub function_of : (place : ℕ) (i : tree.Item) → Contains (items_at m.modules place) i → (name : Name) → ((s : Scope) → AllByRecursion (IsMet s) (item_uses i) → IsMet s (name, need_of.Function))
      → (g : tree.FunctionItem) × (function_named (items_at m.modules place) name ≡ Some g)
  function_of place i listed name used =
      let is = items_at m.modules place in
      let k = kept_at m clean place i listed in
      let s = item_scope m.modules is (around_item i) in
      let kept = keeps (site s (item_line i) (part.of_item k.before i)) k.own in
      let met = used s (site_met (site s (item_line i) (part.of_item k.before i)) kept.known kept.kind) in
      found_some (λ (g : tree.FunctionItem). bytes_eq g.name name) (functions_in is) (function_named is name) refl (is_function_named s name met)

  -- the body of a handler
  pub record IsBodyOf (place : ℕ) (name : Name) (b : CodeBody) : Type 0 where
    pub module_around : tree.Module
    pub there : slice_get m.modules place ≡ Some module_around
    pub function : tree.FunctionItem
    pub named : function.name ≡ name
    pub body : IsBody place (home_at place) a (item_scope m.modules module_around.items function.name) (source.of_function function) b

  body_in : (place : ℕ) (x : tree.Module) → slice_get m.modules place ≡ Some x → (name : Name) (g : tree.FunctionItem) → function_named (items_at m.modules place) name ≡ Some g → (f : ℕ)
      → body_number (record { first_body = first_at place; exceptions = [] }) (items_at m.modules place) name ≡ Some f → (b : CodeBody) → body_at a f ≡ Some b → IsBodyOf place name b
  body_in place x there name g found f number b at =
      let items : items_at m.modules place ≡ x.items = ap items_in there in
      let same : g.name ≡ name = (bytes_eq-Decides g.name name).0 (passes (λ (h : tree.FunctionItem). bytes_eq h.name name) (functions_in (items_at m.modules place)) g found) in
      record {
        module_around = x;
        there = there;
        function = g;
        named = same;
        body = numbered_body place x there name g (subst (λ (is : List tree.Item). function_named is name ≡ Some g) items found) f
            (subst (λ (is : List tree.Item). body_number (record { first_body = first_at place; exceptions = [] }) is g.name ≡ Some f) items
            (subst (λ y. body_number (record { first_body = first_at place; exceptions = [] }) (items_at m.modules place) y ≡ Some f) (sym same) number))
            b at;
      }

  handler_body : (place : ℕ) (i : tree.Item) → Contains (items_at m.modules place) i → (f : ℕ) (test : Name → tree.Item → Bool) (w : IsHandler (around m.modules place) i f test) (b : CodeBody) → body_at a f ≡ Some b
      → IsBodyOf place w.name b
  handler_body place i listed f test w b found =
      let x = module_there place i (slice_get m.modules place) refl listed in
      let g = function_of place i listed w.name w.used in
      body_in place x.0 x.1 w.name g.0 g.1 f w.number b found

  named_by : (tests : List tree.Item → Name → Bool) (test : Name → tree.Item → Bool)
      → ((is : List tree.Item) (i : tree.Item) (name : Name) → Contains is i → test name i ≡ true → tests is name ≡ true)
      → (place : ℕ) (i : tree.Item) → Contains (items_at m.modules place) i → (f : ℕ) → IsHandler (around m.modules place) i f test → (b : CodeBody) → body_at a f ≡ Some b → IsNamedBy m tests b
  named_by tests test all place i listed f w b found =
      let h = handler_body place i listed f test w b found in
      record {
        module_around = h.module_around;
        is_function = h.body.kind;
        there = subst (λ k. slice_get m.modules k ≡ Some h.module_around) (sym h.body.in_module) h.there;
        named = subst (λ n. tests h.module_around.items n ≡ true) (sym (h.body.name ∙ h.named)) (subst (λ (ys : List tree.Item). tests ys w.name ≡ true) (ap items_in h.there) (all (items_at m.modules place) i w.name listed w.tested));
      }

  -- what a test says of one of the items
  nonblocking_any : (is : List tree.Item) (i : tree.Item) (name : Name) → Contains is i → handles_nonblocking name i ≡ true → is_nonblocking_handler is name ≡ true
  nonblocking_any is i name c h = any_in (handles_nonblocking name) is i c h

  handler_any : (is : List tree.Item) (i : tree.Item) (name : Name) → Contains is i → handles_nonblocking name i ≡ true → is_handler is name ≡ true
  handler_any is i name c h = any_in (λ j. handles_nonblocking name j || handles_blocking name j) is i c (or_left (handles_nonblocking name i) (handles_blocking name i) h)

  blocking_any : (is : List tree.Item) (i : tree.Item) (name : Name) → Contains is i → handles_blocking name i ≡ true → is_handler is name ≡ true
  blocking_any is i name c h = any_in (λ j. handles_nonblocking name j || handles_blocking name j) is i c (or_right (handles_nonblocking name i) (handles_blocking name i) h)

  -- what the hops of the design have
  hop_from : (n : ℕ) (h : Hop) → slice_get d.hops n ≡ Some h → (j : Joined) × (hop_of d.objects j ≡ h)
  hop_from n h at =
      let w = mapped_is (hop_of d.objects) (slice_get (bound d.objects).hops n) h (sym (slice_get-map (hop_of d.objects) (bound d.objects).hops n) ∙ sym (ap (λ (xs : List Hop). slice_get xs n) design.hops) ∙ at) in
      (w.0, w.2)

  names : (sel : Handlers → Option ℕ) (f i : ℕ) → sel no_handlers ≡ None → sel (handlers_at d.objects i) ≡ Some f → Names m sel f
  names sel f i none h = names_by m sel f none i (slice_get (list_of m) i) refl (sym (ap (λ (os : Objects). sel (handlers_at os i)) design.objects) ∙ h)

  nonblocking : (tests : List tree.Item → Name → Bool) → ((is : List tree.Item) (i : tree.Item) (name : Name) → Contains is i → handles_nonblocking name i ≡ true → tests is name ≡ true)
      → (f : ℕ) (b : CodeBody) → IsNonblockingHandler d f → body_at a f ≡ Some b → IsNamedBy m tests b
  nonblocking tests all f b (n, h, at, inl e) found =
      let j = hop_from n h at in
      let w = names (λ x. x.backward) f j.0.initiator refl (ap (λ (x : Hop). x.backward) j.1 ∙ e) in
      named_by tests handles_nonblocking all w.place w.item w.listed f (backward_item (around m.modules w.place) w.item f w.selected) b found
  nonblocking tests all f b (n, h, at, inr e) found =
      let j = hop_from n h at in
      let w = names (λ x. x.forward) f j.0.target refl (ap (λ (x : Hop). x.forward) j.1 ∙ e) in
      named_by tests handles_nonblocking all w.place w.item w.listed f (forward_item (around m.modules w.place) w.item f w.selected) b found

  any_handler : (f : ℕ) (b : CodeBody) → IsAnyHandler d f → body_at a f ≡ Some b → IsNamedBy m is_handler b
  any_handler f b (inl h) found = nonblocking is_handler handler_any f b h found
  any_handler f b (inr (n, h, at, e)) found =
      let j = hop_from n h at in
      let w = names (λ x. x.blocking) f j.0.target refl (ap (λ (x : Hop). x.blocking) j.1 ∙ e) in
      named_by is_handler handles_blocking blocking_any w.place w.item w.listed f (blocking_item (around m.modules w.place) w.item f w.selected) b found

  pub handlers_stand : HandlersStand m d
  handlers_stand = record { nonblocking = nonblocking is_nonblocking_handler nonblocking_any; all = any_handler }
