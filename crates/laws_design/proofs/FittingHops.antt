-- The ends of the hops of a design are objects, and their handlers are functions with the parameters of handlers.
use Rattle.std.proofs.Common.{◌≡◌, ℕ, zero, suc, ◌+◌, Bool, true, false, not, ◌||◌, List, [], ◌∷◌, take, Option, Some, None, refl, sym, ap, ◌∙◌, subst, true≢false}
use Rattle.std.specs.Prelude.{slice_get, bytes_eq, filter_map, length, position, nat_lt, Contains}
use Rattle.std.specs.List.{AllByRecursion, position_or_len}
use Rattle.std.proofs.lemmas.List.Elements.{All-contains, All-from_recursion}
use Rattle.std.proofs.lemmas.Option.{slice_get_within, slice_get-map, get_or_from_slice_get}
use Rattle.std.proofs.lemmas.Slice.Eq.{bytes_eq-Decides}
use Rattle.elaborate_objects.specs.ModelTree.Tree as tree
use Rattle.elaborate_objects.specs.ModelTree.Lines.{item_line}
use Rattle.elaborate_objects.specs.ModelTree.declared.types.VarType.{VarType}
use Rattle.elaborate_objects.specs.ModelTree.declared.types.Parameter.{Parameter}
use Rattle.elaborate_objects.specs.ModelTree.declared.items.PlainKind.TheVariants as plain
use Rattle.elaborate_objects.specs.ModelTree.declared.items.InitiatorRole.TheVariants as initiator
use Rattle.elaborate_objects.specs.ModelTree.declared.items.TargetRole.TheVariants as target
use Rattle.elaborate_objects.specs.FlatDesign.Code.{arena_of, body_at}
use Rattle.elaborate_objects.specs.FlatDesign.Typed.{parameters_of}
use Rattle.elaborate_objects.specs.FlatDesign.Sound.{IsThere, HasParameters, IsHandler, HandlerFits, HopFits, blocking_parameters, nonblocking_parameters}
use Rattle.elaborate_objects.specs.FlatDesign.declared.value_types.ValueType.{ValueType}
use Rattle.elaborate_objects.specs.FlatDesign.declared.value_types.ValueType.TheVariants as type
use Rattle.elaborate_objects.specs.FlatDesign.declared.code.CodeBody.{CodeBody}
use Rattle.elaborate_objects.specs.FlatDesign.declared.code.Local.{Local}
use Rattle.elaborate_objects.specs.FlatDesign.declared.objects.Object.{Object}
use Rattle.elaborate_objects.specs.FlatDesign.declared.objects.Objects.{Objects}
use Rattle.elaborate_objects.specs.FlatDesign.declared.design.Hop.{Hop}
use Rattle.elaborate_objects.specs.FlatDesign.declared.design.Design.{Design}
use Rattle.elaborate_objects.specs.ModelRules.Meanings.{variable_type}
use Rattle.elaborate_objects.specs.ModelRules.Targets.{same_type, differ}
use Rattle.elaborate_objects.specs.ModelRules.Scopes.{Scope, item_scope, function_named, functions_in}
use Rattle.elaborate_objects.specs.ModelRules.declared.needs.Need.TheVariants as need_of
use Rattle.elaborate_objects.specs.ModelRules.Sites as part
use Rattle.elaborate_objects.specs.ModelRules.Sites.{site, around_item}
use Rattle.elaborate_objects.specs.ModelRules.Names.{item_uses}
use Rattle.elaborate_objects.specs.ModelRules.Calls.{same_bool, parameters_differ, answer_differs, is_bad_handler, blocking_handler, nonblocking_handler, handler_in_item}
use Rattle.elaborate_objects.specs.ModelRules.Passes.{first_fault}
use Rattle.elaborate_objects.proofs.ModelRules.Firsts.{or_none}
use Rattle.laws_code.specs.Met.{IsMet}
use Rattle.laws_code.proofs.FaultlessConstructs.{keeps}
use Rattle.laws_code.proofs.Typed.{neither, same_false, not_named}
use Rattle.laws_code.specs.CodeRules.Deeds.{has_body, body_number}
use Rattle.laws_code.specs.CodeRules.Bodies as source
use Rattle.laws_code.specs.CodeRules.Bodies.{IsAnswer, IsBody, variables_in_block}
use Rattle.elaborate_objects.specs.DesignRules.Forms.{Name, Around, around, items_at, items_in, bodies_in, handler, object_form}
use Rattle.elaborate_objects.specs.DesignRules.Listing.{list_of, top_object}
use Rattle.elaborate_objects.specs.DesignRules.ObjectFaults.{cycle_fault, limit_fault}
use Rattle.elaborate_objects.specs.DesignRules.declared.bindings.Joined.{Joined}
use Rattle.elaborate_objects.specs.DesignRules.Objects.{parent_of, parent_at}
use Rattle.elaborate_objects.specs.DesignRules.Paths.{Reaches, Directly, Through}
use Rattle.elaborate_objects.specs.DesignRules.Formed.{HasForm, AreFormed}
use Rattle.elaborate_objects.specs.DesignRules.Bound.{bound}
use Rattle.elaborate_objects.proofs.DesignRules.Listed.{targets_reached}
use Rattle.elaborate_objects.specs.DesignRules.Parts.{Handlers, no_handlers, handlers_of, handlers_at, home_of, hop_of}
use Rattle.elaborate_objects.specs.DesignRules.Designs.{IsDesignOf}
use Rattle.laws_code.proofs.Places.{mapped_is}
use Rattle.laws_code.specs.Functions.{AreParameters}
use Rattle.laws_code.proofs.Channels.{same_types}
use Rattle.laws_code.proofs.Bodies.{function_body, parameters_stand, pos_is}
use Rattle.laws_design.proofs.Children.{same_some}
use Rattle.laws_design.proofs.Models.{comes_from}
use Rattle.laws_design.proofs.BoundEnds.{kept_at}
use Rattle.laws_design.proofs.SocketEnds.{Joins, all_join}
use Rattle.laws_design.proofs.Handlers.{passes, row_item, form_of, module_there, home_at, placed, bodies_there, differ as names_differ, function_of}
use Rattle.laws_design.proofs.SocketHops.{formed}
use Rattle.laws_design.proofs.Homes.{IsHome, instance_there, home_of_body}

contains_at : {X : Type 0} (xs : List X) (k : ℕ) (x : X) → slice_get xs k ≡ Some x → Contains xs x
contains_at xs k x e = (k, slice_get_within xs k x e, get_or_from_slice_get xs k x x e)

-- parameters and answers

same_kind : (a b : Bool) → same_bool a b ≡ true → a ≡ b
same_kind true true h = refl
same_kind true false h = cc
same_kind false true h = cc
same_kind false false h = refl

alike : (x y : ValueType) (o : Option ValueType) → o ≡ Some y → differ (Some x) o ≡ false → x ≡ y
alike x y o e h = same_types x y (same_false (same_type x y) (sym (ap (differ (Some x)) e) ∙ h))

has_parameters : (ws : List (ValueType × Bool)) (ps : List Parameter) (ls : List Local) → parameters_differ ws ps ≡ false → AreParameters ps ls → HasParameters ls ws
has_parameters [] [] [] h k = tt
has_parameters [] [] (l ∷ ls) h k = absurd k
has_parameters [] (p ∷ ps) ls h k = absurd (true≢false h)
has_parameters (w ∷ ws) [] ls h k = absurd (true≢false h)
has_parameters (w ∷ ws) (p ∷ ps) [] h k = absurd k
has_parameters (w ∷ ws) (p ∷ ps) (l ∷ ls) h k =
    let one = neither (differ (Some w.0) (variable_type p.var_type)) (not (same_bool w.1 p.inout) || parameters_differ ws ps) h in
    let two = neither (not (same_bool w.1 p.inout)) (parameters_differ ws ps) one.1 in
    (sym (alike w.0 l.value_type (variable_type p.var_type) k.0 one.0), k.1 ∙ sym (same_kind w.1 p.inout (same_false (same_bool w.1 p.inout) two.0)), has_parameters ws ps ls two.1 k.2)

has_answer : (w : Option ValueType) (t : Option VarType) (a : Option ValueType) → answer_differs w t ≡ false → IsAnswer t a → a ≡ w
has_answer None None a h k = k
has_answer None (Some t) a h k = absurd (true≢false h)
has_answer (Some w) None a h k = absurd (true≢false h)
has_answer (Some w) (Some t) a h k = k.2 ∙ ap Some (sym (alike w k.0 (variable_type t) k.1 h))

-- an item that names a handler, which has this number, these parameters and this answer
pub record NamesHandler (a : Around) (i : tree.Item) (f : ℕ) (parameters : List (ValueType × Bool)) (answer : Option ValueType) : Type 0 where
  pub name : Name
  pub number : handler a (Some name) ≡ Some f
  pub used : (s : Scope) → AllByRecursion (IsMet s) (item_uses i) → IsMet s (name, need_of.Function)
  pub fits : (s : Scope) → handler_in_item s i ≡ None → is_bad_handler parameters answer (function_named s.items name) ≡ false

nonblocking_fits : (s : Scope) (name : Name) → nonblocking_handler s (Some name) ≡ None → is_bad_handler nonblocking_parameters (Some (type.Int 32)) (function_named s.items name) ≡ false
nonblocking_fits s name h = not_named (is_bad_handler nonblocking_parameters (Some (type.Int 32)) (function_named s.items name)) name h

blocking_fits : (s : Scope) (name : Name) → blocking_handler s (Some name) ≡ None → is_bad_handler blocking_parameters None (function_named s.items name) ≡ false
blocking_fits s name h = not_named (is_bad_handler blocking_parameters None (function_named s.items name)) name h

backward_item : (a : Around) (i : tree.Item) (f : ℕ) → (handlers_of (object_form a i)).backward ≡ Some f → NamesHandler a i f nonblocking_parameters (Some (type.Int 32))
backward_item a (tree.initiator line x (initiator.Own (Some name))) f e = record { name = name; number = e; used = λ s k. k.0; fits = λ s h. nonblocking_fits s name h }
backward_item a (tree.initiator line x (initiator.Own None)) f e = cc
backward_item a (tree.initiator line x initiator.Pass) f e = cc
backward_item a (tree.target line x target.Pass) f e = cc
backward_item a (tree.target line x (target.Own blocking forward)) f e = cc
backward_item a (tree.plain line plain.Mutex x) f e = cc
backward_item a (tree.plain line plain.Event x) f e = cc
backward_item a (tree.plain line plain.Keeper x) f e = cc
backward_item a other f e = cc

forward_item : (a : Around) (i : tree.Item) (f : ℕ) → (handlers_of (object_form a i)).forward ≡ Some f → NamesHandler a i f nonblocking_parameters (Some (type.Int 32))
forward_item a (tree.target line x (target.Own None (Some name))) f e =
    record { name = name; number = e; used = λ s k. k.0; fits = λ s h. nonblocking_fits s name (or_none (blocking_handler s None) (nonblocking_handler s (Some name)) h).1 }
forward_item a (tree.target line x (target.Own (Some blocking) (Some name))) f e =
    record { name = name; number = e; used = λ s k. k.1.0; fits = λ s h. nonblocking_fits s name (or_none (blocking_handler s (Some blocking)) (nonblocking_handler s (Some name)) h).1 }
forward_item a (tree.target line x (target.Own blocking None)) f e = cc
forward_item a (tree.target line x target.Pass) f e = cc
forward_item a (tree.initiator line x initiator.Pass) f e = cc
forward_item a (tree.initiator line x (initiator.Own backward)) f e = cc
forward_item a (tree.plain line plain.Mutex x) f e = cc
forward_item a (tree.plain line plain.Event x) f e = cc
forward_item a (tree.plain line plain.Keeper x) f e = cc
forward_item a other f e = cc

blocking_item : (a : Around) (i : tree.Item) (f : ℕ) → (handlers_of (object_form a i)).blocking ≡ Some f → NamesHandler a i f blocking_parameters None
blocking_item a (tree.target line x (target.Own (Some name) forward)) f e =
    record { name = name; number = e; used = λ s k. k.0; fits = λ s h. blocking_fits s name (or_none (blocking_handler s (Some name)) (nonblocking_handler s forward) h).0 }
blocking_item a (tree.target line x (target.Own None forward)) f e = cc
blocking_item a (tree.target line x target.Pass) f e = cc
blocking_item a (tree.initiator line x initiator.Pass) f e = cc
blocking_item a (tree.initiator line x (initiator.Own backward)) f e = cc
blocking_item a (tree.plain line plain.Mutex x) f e = cc
blocking_item a (tree.plain line plain.Event x) f e = cc
blocking_item a (tree.plain line plain.Keeper x) f e = cc
blocking_item a other f e = cc

module _ (m : tree.Model) (clean : first_fault m ≡ None) (d : Design) (design : IsDesignOf m d) where
  lists : d.objects.list ≡ list_of m
  lists = ap (λ (os : Objects). os.list) design.objects

  -- the item of an object with a handler, in an instance of its module
  pub record HandlerItem (sel : Handlers → Option ℕ) (i f : ℕ) : Type 0 where
    pub place : ℕ
    pub item : tree.Item
    pub listed : Contains (items_at m.modules place) item
    pub selected : sel (handlers_of (object_form (around m.modules place) item)) ≡ Some f
    pub home : IsHome m d design (home_of d.objects.list (parent_at d.objects i)) place

  item_by : (sel : Handlers → Option ℕ) (f : ℕ) → sel no_handlers ≡ None → (i : ℕ) (o : Option Object) → slice_get (list_of m) i ≡ o → sel (handlers_of (form_of m o)) ≡ Some f → HandlerItem sel i f
  item_by sel f none i None e h = let no : None ≡ Some f = sym none ∙ h in cc
  item_by sel f none zero (Some o) e h =
      let no : None ≡ Some f = sym none ∙ ap (λ (x : Object). sel (handlers_of (Some x.form))) (same_some (top_object m) o e) ∙ h in cc
  item_by sel f none (suc k) (Some o) e h =
      let c = comes_from m k o e in
      let w = row_item (around m.modules c.place) (items_at m.modules c.place) c.row c.listed in
      let parent : parent_at d.objects (suc k) ≡ o.parent = ap parent_of (ap (λ (xs : List Object). slice_get xs (suc k)) lists ∙ e) in
      record {
        place = c.place;
        item = w.0;
        listed = w.1;
        selected = ap (λ p. sel (handlers_of p)) w.2 ∙ sym (ap (λ (x : Object). sel (handlers_of (Some x.form))) c.is) ∙ h;
        home =
            subst (λ j. IsHome m d design (home_of d.objects.list j) c.place) (sym parent)
            (instance_there m d design o.parent c.place c.outer (ap (λ (xs : List Object). slice_get xs o.parent) lists ∙ c.there) c.is_instance);
      }

  -- the body of a function of a module, by the number of its name
  pub record HasFunction (place : ℕ) (g : tree.FunctionItem) (f : ℕ) : Type 0 where
    pub body : CodeBody
    pub found : body_at (arena_of d.code) f ≡ Some body
    pub is_body : IsBody place (home_at m clean d design place) (arena_of d.code) (item_scope m.modules (items_at m.modules place) g.name) (source.of_function g) body

  function_in : (place : ℕ) (z : tree.Module) → slice_get m.modules place ≡ Some z → (g : tree.FunctionItem) (name : Name) (f : ℕ) → function_named (items_at m.modules place) name ≡ Some g → handler (around m.modules place) (Some name) ≡ Some f
      → HasFunction place g f
  function_in place z there g name f named number =
      let items : items_at m.modules place ≡ z.items = ap items_in there in
      let same : g.name ≡ name = (bytes_eq-Decides g.name name).0 (passes (λ (h : tree.FunctionItem). bytes_eq h.name name) (functions_in (items_at m.modules place)) g named) in
      let b = bodies_there m clean d design place z there in
      let h = home_at m clean d design place in
      let t = function_body m.modules z.items place h (arena_of d.code) z.items b.bodies b.rest (names_differ m clean d design place z there) b.read name g (subst (λ (is : List tree.Item). function_named is name ≡ Some g) items named) in
      let q = position_or_len (λ y. bytes_eq y g.name) (filter_map has_body z.items) in
      let numbered : body_number (record { first_body = bodies_in (take place m.modules); exceptions = [] }) z.items g.name ≡ Some f =
      subst (λ (is : List tree.Item). body_number (record { first_body = bodies_in (take place m.modules); exceptions = [] }) is g.name ≡ Some f) items
      (subst (λ y. body_number (record { first_body = bodies_in (take place m.modules); exceptions = [] }) (items_at m.modules place) y ≡ Some f) (sym same) number) in
      let p = mapped_is (λ j. bodies_in (take place m.modules) + j) (position (λ y. bytes_eq y g.name) (filter_map has_body z.items)) f numbered in
      let at = pos_is (nat_lt q (length (filter_map has_body z.items))) q p.0 p.1 in
      record {
        body = t.0;
        found = placed m clean d design b.before b.bodies (bodies_in (take place m.modules)) q p.0 f t.0 b.total b.count at p.2 t.1;
        is_body = subst (λ (is : List tree.Item). IsBody place h (arena_of d.code) (item_scope m.modules is g.name) (source.of_function g) t.0) (sym items) t.2;
      }

  are_parameters : (place : ℕ) (g : tree.FunctionItem) (f : ℕ) (b : HasFunction place g f) → AreParameters g.parameters (parameters_of b.body)
  are_parameters place g f b =
      subst (λ j. AreParameters g.parameters (take j b.body.locals)) (sym b.is_body.parameters) (parameters_stand g.parameters (variables_in_block g.body) b.body.locals b.is_body.locals)

  module _ (sel : Handlers → Option ℕ) (none : sel no_handlers ≡ None) (parameters : List (ValueType × Bool)) (answer : Option ValueType)
      (named : (a : Around) (i : tree.Item) (f : ℕ) → sel (handlers_of (object_form a i)) ≡ Some f → NamesHandler a i f parameters answer) where
    is_handler : (i f : ℕ) → sel (handlers_at d.objects i) ≡ Some f → IsHandler d (home_of d.objects.list (parent_at d.objects i)) parameters answer f
    is_handler i f h =
        let w = item_by sel f none i (slice_get (list_of m) i) refl (sym (ap (λ (os : Objects). sel (handlers_at os i)) design.objects) ∙ h) in
        let n = named (around m.modules w.place) w.item f w.selected in
        let z = module_there m clean d design w.place w.item (slice_get m.modules w.place) refl w.listed in
        let g = function_of m clean d design w.place w.item w.listed n.name n.used in
        let b = function_in w.place z.0 z.1 g.0 n.name f g.1 n.number in
        let k = kept_at m clean w.place w.item w.listed in
        let s = item_scope m.modules (items_at m.modules w.place) (around_item w.item) in
        let good = subst (λ o. is_bad_handler parameters answer o ≡ false) g.1 (n.fits s (keeps (site s (item_line w.item) (part.of_item k.before w.item)) k.own).handler) in
        let two = neither (parameters_differ parameters g.0.parameters) (answer_differs answer g.0.answer) good in
        record {
          body = b.body;
          found = b.found;
          home_of = home_of_body m d design (home_of d.objects.list (parent_at d.objects i)) w.place b.body w.home b.is_body.in_module;
          is_function = b.is_body.kind;
          has_parameters = has_parameters parameters g.0.parameters (parameters_of b.body) two.0 (are_parameters w.place g.0 f b);
          has_answer = has_answer answer g.0.answer b.body.answer two.1 b.is_body.answer;
        }

    fits_by : (i : ℕ) (o : Option ℕ) → sel (handlers_at d.objects i) ≡ o → HandlerFits d (home_of d.objects.list (parent_at d.objects i)) parameters answer o
    fits_by i None e = tt
    fits_by i (Some f) e = is_handler i f e

    handler_fits : (i : ℕ) → HandlerFits d (home_of d.objects.list (parent_at d.objects i)) parameters answer (sel (handlers_at d.objects i))
    handler_fits i = fits_by i (sel (handlers_at d.objects i)) refl

  -- what a hop joins
  pub record IsJoined (h : Hop) : Type 0 where
    pub joined : Joined
    pub listed : Contains (bound d.objects).hops joined
    pub is : hop_of d.objects joined ≡ h

  joined_at : (n : ℕ) (h : Hop) → slice_get d.hops n ≡ Some h → IsJoined h
  joined_at n h at =
      let hs = (bound d.objects).hops in
      let w = mapped_is (hop_of d.objects) (slice_get hs n) h (sym (slice_get-map (hop_of d.objects) hs n) ∙ sym (ap (λ (xs : List Hop). slice_get xs n) design.hops) ∙ at) in
      record { joined = w.0; listed = contains_at hs n w.0 w.1; is = w.2 }

  -- the ends
  right_there : (os : Objects) → AreFormed os → (i t : ℕ) → Reaches os i t → IsThere os.list t
  right_there os f _ _ (Directly b there) = let w = All-contains (HasForm os) os.binds b f.bindings there in slice_get_within os.list b.right w.right w.right_found
  right_there os f _ i (Through b _ there more) = right_there os f b.right i more

  pub hops_fit : cycle_fault m ≡ None → limit_fault m ≡ None → (n : ℕ) (h : Hop) → slice_get d.hops n ≡ Some h → HopFits d h
  hops_fit acyclic limits n h at =
      let w = joined_at n h at in
      let j = w.joined in
      let good : AreFormed d.objects = subst AreFormed (sym design.objects) (formed m clean acyclic limits) in
      let ends = All-contains (Joins d.objects) (bound d.objects).hops j (All-from_recursion (Joins d.objects) (bound d.objects).hops (all_join d.objects)) w.listed in
      subst (HopFits d) w.is
      (record {
        initiator = slice_get_within d.objects.list j.initiator ends.initiator ends.found;
        target = right_there d.objects good j.initiator j.target (targets_reached d.objects 0 d.objects.list j w.listed);
        backward = handler_fits (λ x. x.backward) refl nonblocking_parameters (Some (type.Int 32)) backward_item j.initiator;
        blocking = handler_fits (λ x. x.blocking) refl blocking_parameters None blocking_item j.target;
        forward = handler_fits (λ x. x.forward) refl nonblocking_parameters (Some (type.Int 32)) forward_item j.target;
      })
