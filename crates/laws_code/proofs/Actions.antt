-- Statements that hold no others are typed.
use Rattle.std.proofs.Common.{◌≡◌, ◌⊎◌, inl, inr, ℕ, true, false, not, ◌&&◌, ◌||◌, ◌==◌, List, [], ◌∷◌, ◌++◌, Option, Some, None, refl, sym, ◌∙◌, ap, subst, true≢false, length, arith}
use Rattle.std.proofs.lemmas.Bool.Decides.{nat_tests}
use Rattle.std.specs.Prelude.{⊤, is_some, option_map, option_and_then, if◌then◌else◌}
use Rattle.std.specs.List.{AllByRecursion}
use Rattle.code_rules.specs.ModelTree.Tree as tree
use Rattle.code_rules.specs.ModelTree.Limits.{fits, fits_option, fits_all, fits_index, fits_channel, fits_events, fits_notification, fits_target, fits_operation, fits_action, fits_var_type, fits_statement, within, option_name}
use Rattle.code_rules.specs.ModelTree.Leaves.{is_name, is_print_text}
use Rattle.code_rules.specs.ModelTree.declared.types.VarType.{VarType}
use Rattle.code_rules.specs.ModelTree.declared.statements.Who.{Who}
use Rattle.code_rules.specs.ModelTree.declared.statements.Who.TheVariants as who
use Rattle.code_rules.specs.FlatDesign.Code as code
use Rattle.code_rules.specs.FlatDesign.Code.{Term, ChannelTerm, DestinationTerm, Arena}
use Rattle.code_rules.specs.FlatDesign.Denotes.{Context, declared}
use Rattle.code_rules.specs.FlatDesign.Typed.{IsPayload, IsKeeper, IsMemory, IsEvent, IsProcess, IsSocket, IsForwardSocket, IsOfType, IsControlled, IsTyped, HasType, FitsIn, Gives, GivesInteger, GivesTime, IsPrinted, IfWritten, EachOf, Stores, StoresInteger, StoresTruth, UsesAs, AreArguments, AreFirstArguments, IsStaticUse, IsAwait, IsReturned, Offers, parameters_of as code_parameters}
use Rattle.code_rules.specs.FlatDesign.declared.value_types.ValueType.{ValueType}
use Rattle.code_rules.specs.FlatDesign.declared.value_types.ValueType.TheVariants as type
use Rattle.code_rules.specs.FlatDesign.declared.objects.LeadsTo.TheVariants as leads
use Rattle.code_rules.specs.FlatDesign.declared.code.Store.{Store}
use Rattle.code_rules.specs.FlatDesign.declared.code.Controlled.TheVariants as controlled
use Rattle.code_rules.specs.ModelRules.Meanings.{variable_type}
use Rattle.code_rules.specs.ModelRules.Scopes.{Scope, meaning_of, use_of, place_of, function_named}
use Rattle.code_rules.specs.ModelRules.Operators.{seen_as, is_integer, evaluated_as}
use Rattle.code_rules.specs.ModelRules.Types.{type_of}
use Rattle.code_rules.specs.ModelRules.Targets.{misfits, differ, written_type, taken_type, put_type, written_to, put_into, taken_from, to_variable, to_element, to_field, to_byte, member_assigned, destination, destination_of, destination_type, is_index, target_type, held_by, variable_named, answer_of, has_no_answer}
use Rattle.code_rules.specs.ModelRules.declared.meanings.Destination.{Destination}
use Rattle.code_rules.specs.ModelRules.declared.meanings.Destination.TheVariants as to
use Rattle.code_rules.specs.ModelRules.declared.meanings.Meaning.{Meaning}
use Rattle.code_rules.specs.ModelRules.declared.meanings.Meaning.TheVariants as meaning
use Rattle.code_rules.specs.ModelRules.declared.needs.Need.TheVariants as need_of
use Rattle.code_rules.specs.ModelRules.Sites as part
use Rattle.code_rules.specs.ModelRules.Sites.{Site, site, channel_sites, variable_type_sites, expression_sites, option_sites, argument_sites, events_sites, notification_sites, who_sites, operation_parts, action_parts, statement_sites}
use Rattle.code_rules.specs.ModelRules.Names.{first, is_memory, is_plain_event, is_keeper, is_initiator, is_target, goes_nowhere, optional, action_uses, target_need, unknown_use, wrong_use, unknown_assigned, wrong_assigned}
use Rattle.code_rules.specs.ModelRules.Values.{fails, option_type, parameters_of, called_parameters, arguments_differ, operation_differs, action_differs, statement_differs, result_differs, notification_differs, option_variable}
use Rattle.code_rules.specs.ModelRules.Calls.{same_bool, has_inout, inouts_wrong, count_differs}
use Rattle.code_rules.specs.ModelRules.Items.{is_pass}
use Rattle.code_rules.specs.ModelRules.Passes.{constructs, fault_of}
use Rattle.code_rules.proofs.ModelRules.Firsts.{or_none}
use Rattle.code_rules.specs.Terms.{term_of}
use Rattle.code_rules.specs.Deeds.{Home, with_two, with_three, with_four, if_written, single, store, channel_term, await_term, arguments, controlled_by, function_number, exception_number, spawned_kind, destination_term, operation_code, notification_code, synced, spawn_term, action_code}
use Rattle.code_rules.specs.Numbered.{var_code, assign_code, operate_code}
use Rattle.code_rules.specs.Bodies.{IsAnswer, thrown_in}
use Rattle.laws_code.specs.Known.{TypesAreKnown}
use Rattle.laws_code.specs.Met.{IsMet}
use Rattle.laws_code.proofs.FaultlessConstructs.{Keeps, keeps}
use Rattle.laws_code.proofs.NamesMet.{site_met}
use Rattle.laws_code.proofs.Typed.{neither, not_named, parts_none, head_none}
use Rattle.laws_code.specs.HasCode.{AreNumbered}
use Rattle.laws_code.proofs.Named.{is_function_named, has_number}
use Rattle.laws_code.proofs.Deeds.{member_leads}
use Rattle.laws_code.specs.Standing.{Standing, NamesStand}
use Rattle.laws_code.specs.Functions.{FunctionStands, FunctionsStand, VariablesStand}
use Rattle.laws_code.proofs.Has.{Has, map_has, bind_has, two_has, three_has, four_has, weaker}
use Rattle.laws_code.proofs.Operands.{both_true, seen_type}
use Rattle.laws_code.proofs.Places.{UseStands, use_stands}
use Rattle.laws_code.proofs.Channels.{within_is, is_there, fits_in, mutex_offers, semaphore_offers, taken_offers, put_offers, written_offers, use_variable, held_is, follows, type_there, integer_there, time_there, gives_there, of_type, store_there, process_there, payload_there, standing_there}
use Rattle.laws_code.proofs.Events.{channel_is, uses_as, await_there, statics_there}
use Rattle.laws_code.proofs.Calls.{print_there, integer_option, gives_option, arguments_there, firsts_there, ResultIs, result_there, stores, stores_answer, returned, Goes, index_is, indexes, variable_target, field_target, byte_target, element_target, payload_member, memory_there}

same_number : (m n : ℕ) → not (m == n) ≡ false → m ≡ n
same_number m n h = grind (arith, nat_tests)

same_parameters : (o : Option tree.FunctionItem) (f : tree.FunctionItem) → o ≡ Some f → parameters_of o ≡ f.parameters
same_parameters o f h = ap parameters_of h

module _ (s : Scope) (c : Context) (names : NamesStand s c) (known : TypesAreKnown s) (h : Home) (a : Arena) (place : ℕ) (functions : FunctionsStand h a place s) (answer : Option ValueType) where
  abbrev pub Fine : code.Statement → Type 0
  Fine f = IsTyped a place answer c f

  abbrev pub AllFine : List code.Statement → Type 0
  AllFine fs = EachOf Fine fs

  single_fine : (o : Option code.Statement) → Has Fine o → Has AllFine (single o)
  single_fine o k = map_has Fine AllFine (λ f. f ∷ []) o (λ f p. (p, tt)) k

  -- a function that is called
  pub record Called (name : List ℕ) : Type 0 where
    pub function : tree.FunctionItem
    pub is_function : function_named s.items name ≡ Some function
    pub number : ℕ
    pub is_number : function_number h s name ≡ Some number
    pub stands : FunctionStands a place function number

  called : (name : List ℕ) → IsMet s (name, need_of.Function) → Called name
  called name k =
      let f = is_there (function_named s.items name) (is_function_named s name k) in
      let n = is_there (function_number h s name) (has_number h s name k) in
      record { function = f.0; is_function = f.1; number = n.0; is_number = n.1; stands = functions name f.0 n.0 f.1 n.1 }

  -- sockets
  socket_of : (m : Meaning) (n : ℕ) → (is_initiator m || is_target m) ≡ true → is_pass (Some m) ≡ false → Standing c.design m (declared c n) → IsSocket c n
  socket_of (meaning.Initiator false) n k p x = (x.0, true, x.1, x.2, x.3)
  socket_of (meaning.Target false) n k p x = (x.0, false, x.1, x.2, x.3)
  socket_of (meaning.Initiator true) n k p x = absurd (true≢false p)
  socket_of (meaning.Target true) n k p x = absurd (true≢false p)
  socket_of other n k p x = absurd (true≢false (sym k))

  forward_of : (m : Meaning) (n : ℕ) → is_initiator m ≡ true → is_pass (Some m) ≡ false → Standing c.design m (declared c n) → IsForwardSocket c n
  forward_of (meaning.Initiator false) n k p x = (x.0, x.1, x.2, x.3)
  forward_of (meaning.Initiator true) n k p x = absurd (true≢false p)
  forward_of other n k p x = absurd (true≢false (sym k))

  event_of : (m : Meaning) (n : ℕ) → is_plain_event m ≡ true → Standing c.design m (declared c n) → IsEvent c n
  event_of meaning.Event n k x = (x.0, x.1, x.2)
  event_of other n k x = absurd (true≢false (sym k))

  keeper_of : (m : Meaning) (n : ℕ) → is_keeper m ≡ true → Standing c.design m (declared c n) → IsKeeper c n
  keeper_of meaning.Keeper n k x = (x.0, x.1, x.2)
  keeper_of other n k x = absurd (true≢false (sym k))

  event_there : (name : List ℕ) → IsMet s (name, need_of.PlainEvent) → Has (IsEvent c) (place_of s name)
  event_there name k = weaker _ (IsEvent c) (place_of s name) (λ n x. event_of k.meaning n k.meets_need x) (standing_there s c names known (name, need_of.PlainEvent) (λ o. refl) k)

  keeper_there : (name : List ℕ) → IsMet s (name, need_of.Keeper) → Has (IsKeeper c) (place_of s name)
  keeper_there name k = weaker _ (IsKeeper c) (place_of s name) (λ n x. keeper_of k.meaning n k.meets_need x) (standing_there s c names known (name, need_of.Keeper) (λ o. refl) k)

  socket_there : (name : List ℕ) → IsMet s (name, need_of.Socket) → is_pass (meaning_of s name) ≡ false → Has (IsSocket c) (place_of s name)
  socket_there name k p =
      weaker _ (IsSocket c) (place_of s name) (λ n x. socket_of k.meaning n k.meets_need (subst (λ o. is_pass o ≡ false) k.known p) x) (standing_there s c names known (name, need_of.Socket) (λ o. refl) k)

  forward_there : (name : List ℕ) → IsMet s (name, need_of.Initiator) → is_pass (meaning_of s name) ≡ false → Has (IsForwardSocket c) (place_of s name)
  forward_there name k p =
      weaker _ (IsForwardSocket c) (place_of s name) (λ n x. forward_of k.meaning n k.meets_need (subst (λ o. is_pass o ≡ false) k.known p) x) (standing_there s c names known (name, need_of.Initiator) (λ o. refl) k)

  -- operations
  operation_fine : (x : Option Store) (line : ℕ) (n : ℕ) (o : tree.Operation) → ResultIs s c names known o x → fits_operation n o ≡ true → Keeps (site s line (part.of_operation o)) → fault_of constructs (operation_parts s o) ≡ None
      → Has Fine (operation_code h s x o)
  operation_fine x line n (tree.call name es) r fit k parts =
      let m = site_met (site s line (part.of_operation (tree.call name es))) k.known k.kind in
      let f = called name m.0 in
      let w = neither (count_differs (function_named s.items name) es) (inouts_wrong s (called_parameters s name) es) (not_named (count_differs (function_named s.items name) es || inouts_wrong s (called_parameters s name) es) name k.count) in
      let same = same_parameters (function_named s.items name) f.function f.is_function in
      let e = within_is n (λ j. fits_all j es) (both_true (is_name name) (within n (λ j. fits_all j es)) fit).1 in
      let args =
      arguments_there s c names known e.0 f.function.parameters (code_parameters f.stands.body) es f.stands.parameters
      (same_number (length f.function.parameters) (length es) (subst (λ o. count_differs o es ≡ false) f.is_function w.0)) (subst (λ ps. inouts_wrong s ps es ≡ false) same w.1)
      (subst (λ ps. arguments_differ s ps es ≡ false) same (not_named (arguments_differ s (called_parameters s name) es) s.around k.types)) e.1 parts in (
        code.call x f.number args.0,
        (λ i. with_two (code.call x) (f.is_number i) (option_and_then (λ (g : tree.FunctionItem). arguments s g.parameters es) (f.is_function i))) ∙ (λ i. with_two (code.call x) (Some f.number) (args.1 i)),
        (
          f.stands.body,
          f.stands.here,
          args.2,
          stores_answer s c names known (tree.call name es) x f.function.answer f.stands.body.answer r (ap has_no_answer f.is_function) (ap (λ o. option_map seen_as (option_and_then answer_of o)) f.is_function) f.stands.answer,
        ),
      )
  operation_fine x line n (tree.read ch) r fit k parts =
      let z = channel_is c s names known n need_of.Taken (λ o. refl) ch fit parts in
      let t = taken_offers c.design z.meaning_ (declared c z.there.0.channel_name) z.met z.there.2.0 in (
        code.read x z.there.0,
        ap (option_map (code.read x)) z.there.1,
        (t.0, (t.2, z.there.2.1), stores s c names known (tree.read ch) x t.0 r (ap (λ o. option_map seen_as (option_and_then taken_type o)) z.of_channel ∙ ap (option_map seen_as) t.1)),
      )
  operation_fine x line n (tree.nb_read ch name) r fit k parts =
      let m = site_met (site s line (part.of_operation (tree.nb_read ch name))) k.known k.kind in
      let z = channel_is c s names known n need_of.Taken (λ o. refl) ch (both_true (fits_channel n ch) (is_name name) fit).0 parts in
      let t = taken_offers c.design z.meaning_ (declared c z.there.0.channel_name) z.met z.there.2.0 in
      let y = store_there s c names known name m.0 in
      let taken = ap (λ o. option_map seen_as (option_and_then taken_type o)) z.of_channel ∙ ap (option_map seen_as) t.1 in (
        code.nb_read x z.there.0 y.0,
        (λ i. with_two (code.nb_read x) (z.there.1 i) (y.1 i)),
        (
          t.0,
          (t.2, z.there.2.1),
          stores s c names known (tree.nb_read ch name) x type.Bool r refl,
          (
            y.2.0,
            subst (FitsIn y.0.value_type) (seen_type t.0)
                (fits_in y.0.value_type (seen_as t.0) (variable_named s name) (option_map seen_as (taken_from s ch)) y.2.1 taken (not_named (misfits (variable_named s name) (option_map seen_as (taken_from s ch))) s.around k.types)),
          ),
        ),
      )
  operation_fine x line n (tree.nb_write ch e) r fit k parts =
      let p = parts_none (channel_sites s need_of.Put ch) (expression_sites s e) parts in
      let two = both_true (fits_channel n ch) (fits n e) fit in
      let z = channel_is c s names known n need_of.Put (λ o. refl) ch two.0 p.0 in
      let t = put_offers c.design z.meaning_ (declared c z.there.0.channel_name) z.met z.there.2.0 in
      let into = ap (option_and_then put_type) z.of_channel ∙ t.1 in
      let g = gives_there s c names known n e (put_into s ch) t.0 into two.1 p.1 (not_named (misfits (put_into s ch) (type_of s e)) s.around k.types) in
      (code.nb_write x z.there.0 t.0 g.0, (λ i. with_three (code.nb_write x) (z.there.1 i) (into i) (g.1 i)), ((t.2, z.there.2.1), g.2, stores s c names known (tree.nb_write ch e) x type.Bool r refl))
  operation_fine x line n (tree.trylock ch) r fit k parts =
      let z = channel_is c s names known n need_of.Mutex (λ o. refl) ch fit parts in
      map_has (λ u. UsesAs c u leads.Mutex) Fine (code.trylock x) (channel_term s ch) (λ u p. (p, stores s c names known (tree.trylock ch) x (type.Int 32) r refl))
      (uses_as c s names known need_of.Mutex ch leads.Mutex z (λ y st. mutex_offers c.design z.meaning_ y z.met st))
  operation_fine x line n (tree.unlock ch) r fit k parts =
      let z = channel_is c s names known n need_of.Mutex (λ o. refl) ch fit parts in
      map_has (λ u. UsesAs c u leads.Mutex) Fine (code.unlock x) (channel_term s ch) (λ u p. (p, stores s c names known (tree.unlock ch) x (type.Int 32) r refl))
      (uses_as c s names known need_of.Mutex ch leads.Mutex z (λ y st. mutex_offers c.design z.meaning_ y z.met st))
  operation_fine x line n (tree.sem_trywait ch) r fit k parts =
      let z = channel_is c s names known n need_of.Semaphore (λ o. refl) ch fit parts in
      map_has (λ u. UsesAs c u leads.Semaphore) Fine (code.sem_trywait x) (channel_term s ch) (λ u p. (p, stores s c names known (tree.sem_trywait ch) x (type.Int 32) r refl))
      (uses_as c s names known need_of.Semaphore ch leads.Semaphore z (λ y st. semaphore_offers c.design z.meaning_ y z.met st))
  operation_fine x line n (tree.nb_transport socket p phase delay) r fit k parts =
      let m = site_met (site s line (part.of_operation (tree.nb_transport socket p phase delay))) k.known k.kind in
      let w = neither (differ (Some type.Payload) (variable_named s p) || differ (Some (type.Int 32)) (variable_named s phase)) (differ (Some type.Time) (variable_named s delay)) (not_named (operation_differs s (tree.nb_transport socket p phase delay)) s.around k.types) in
      let v = neither (differ (Some type.Payload) (variable_named s p)) (differ (Some (type.Int 32)) (variable_named s phase)) w.0 in
      four_has (IsSocket c) (IsPayload c) (λ u. IsOfType c u (type.Int 32)) (λ u. IsOfType c u type.Time) Fine (code.nb_transport x) (place_of s socket) (use_of s p) (use_of s phase) (use_of s delay)
      (λ b d e f i j l q. (i, j, l, q, stores s c names known (tree.nb_transport socket p phase delay) x (type.Int 32) r refl))
      (socket_there socket m.0 (not_named (is_pass (meaning_of s socket)) socket k.binding)) (of_type s c names known p type.Payload m.1.0 v.0) (of_type s c names known phase (type.Int 32) m.1.1.0 v.1) (of_type s c names known delay type.Time m.1.1.1.0 w.1)

  result_fine : (x : Option (Option Store)) (o : tree.Operation) → Has (ResultIs s c names known o) x → ((y : Option Store) → ResultIs s c names known o y → Has Fine (operation_code h s y o)) → Has AllFine (operate_code h s x o)
  result_fine x o k f =
      let g = single_fine (operation_code h s k.0 o) (f k.0 k.2) in
      (g.0, ap (λ y. operate_code h s y o) k.1 ∙ g.1, g.2)

  pub operate_fine : (line at n : ℕ) (name : Option (List ℕ)) (o : tree.Operation) → fits_statement (tree.operate line name at o) n ≡ true → fault_of constructs (statement_sites (tree.operate line name at o) s) ≡ None
      → Has AllFine (operate_code h s (if_written (store s) name) o)
  operate_fine line at n name o fit clean =
      let p = head_none (site s line (part.of_statement (tree.operate line name at o))) (site s at (part.of_operation o) ∷ operation_parts s o) clean in
      let q = head_none (site s at (part.of_operation o)) (operation_parts s o) p.1 in
      let k = keeps (site s line (part.of_statement (tree.operate line name at o))) p.0 in
      result_fine (if_written (store s) name) o
      (result_there s c names known name o (site_met (site s line (part.of_statement (tree.operate line name at o))) k.known k.kind) (not_named (result_differs s name o) s.around k.types))
      (λ y r. operation_fine y at n o r (both_true (option_name name) (fits_operation n o) fit).1 (keeps (site s at (part.of_operation o)) q.0) q.1)

  -- local variables
  pub var_fine : (line n : ℕ) (t : VarType) (name : List ℕ) (e : Option tree.Expression) → VariablesStand c.locals s.count ((name, t, false) ∷ []) → fits_statement (tree.var line t name e) n ≡ true
      → fault_of constructs (statement_sites (tree.var line t name e) s) ≡ None → Has AllFine (var_code s (variable_type t) e)
  var_fine line n t name e v fit clean =
      let p = head_none (site s line (part.of_statement (tree.var line t name e))) (variable_type_sites s t ++ option_sites s e) clean in
      let q = parts_none (variable_type_sites s t) (option_sites s e) p.1 in
      let k = keeps (site s line (part.of_statement (tree.var line t name e))) p.0 in
      let l = v.0 in
      let g =
      gives_option s c names known n e (variable_type t) l.0.value_type l.2 (both_true (is_name name) (fits_option n e) (both_true (fits_var_type t) (is_name name && fits_option n e) fit).1).1 q.1
      (not_named (misfits (variable_type t) (option_type s e)) s.around k.types) in
      (code.var s.count l.0.value_type g.0 ∷ [], (λ i. single (with_two (code.var s.count) (l.2 i) (g.1 i))), (((l.0, l.1, refl), g.2), tt))

  -- assignments
  module _ (n : ℕ) (x : tree.Target) (e : Term) (gives : (v : ValueType) → destination_type (destination_of s x) ≡ Some v → Gives c e v) where
    at : (d : Destination) → destination_of s x ≡ d → (v : ValueType) → destination_type d ≡ Some v → Gives c e v
    at d is v h = gives v (ap destination_type is ∙ h)

    leads_to : (d : Destination) → destination_of s x ≡ d → Has (Goes s c names known e) (destination_term s x d) → Has (Goes s c names known e) (destination_term s x (destination_of s x))
    leads_to d is k = subst (λ y. Has (Goes s c names known e) (destination_term s x y)) (sym is) k

  payload_use : (name : List ℕ) (k : IsMet s (name, need_of.Object)) → k.meaning ≡ meaning.Variable (Some type.Payload) → Has (IsPayload c) (use_of s name)
  payload_use name k is =
      let y = use_stands s c names name k.meaning k.known in (y.0, y.1, use_variable c y.0 (Some type.Payload) (subst (UseStands c y.0) is y.2))

  memory_leads : (m : Meaning) → is_memory m ≡ true → to_element (Some m) ≡ to.Element
  memory_leads meaning.Memory k = refl
  memory_leads other k = absurd (true≢false (sym k))

  index_good : (index : Option tree.Expression) → fault_of constructs (option_sites s index) ≡ None → fails is_integer (option_type s index) ≡ false → is_index s index ≡ true
  index_good None clean ok = refl
  index_good (Some e) clean ok = indexes s c names known e clean ok

  target_fine : (n : ℕ) (name : List ℕ) (member : Option (List ℕ)) (index : Option tree.Expression) (e : Term) → IsMet s (name, target_need member index) → unknown_assigned s name member ≡ None
      → wrong_assigned s (record { name = name; member = member; index = index }) member ≡ None → fits_index n index ≡ true → fault_of constructs (option_sites s index) ≡ None → fails is_integer (option_type s index) ≡ false
      → ((v : ValueType) → destination_type (destination (meaning_of s name) member index) ≡ Some v → Gives c e v)
      → Has (Goes s c names known e) (destination_term s (record { name = name; member = member; index = index }) (destination (meaning_of s name) member index))
  target_fine n name None None e k u w fit clean ok f =
      let is = ap to_variable k.known ∙ ap (λ (m : Meaning). to_variable (Some m)) (held_is k.meaning k.meets_need) in
      leads_to n (record { name = name; member = None; index = None }) e f (to.Variable (held_by k.meaning)) is
      (variable_target s c names known name (held_by k.meaning) e k (ap (option_and_then held_by) k.known) (at n (record { name = name; member = None; index = None }) e f (to.Variable (held_by k.meaning)) is))
  target_fine n name None (Some index) e k u w fit clean ok f =
      let is = ap to_element k.known ∙ memory_leads k.meaning k.meets_need in
      leads_to n (record { name = name; member = None; index = Some index }) e f to.Element is
      (element_target s c names known name index e (memory_there s c names known name k) (index_is s c names known n index fit clean ok) (at n (record { name = name; member = None; index = Some index }) e f to.Element is))
  target_fine n name (Some member) None e k u w fit clean ok f =
      let there = member_leads s known (record { name = name; member = Some member; index = None }) member k.meaning k.known u w in
      field_target s c names known (record { name = name; member = Some member; index = None }) (member_assigned member (meaning_of s name)) e
      (payload_use name k (payload_member s c names known k.meaning member (inl (subst (λ o. goes_nowhere (to_field (member_assigned member o)) ≡ false) k.known there)))) there f
  target_fine n name (Some member) (Some index) e k u w fit clean ok f =
      let there = member_leads s known (record { name = name; member = Some member; index = Some index }) member k.meaning k.known u w in
      byte_target s c names known n name member index (member_assigned member (meaning_of s name)) e
      (payload_use name k (payload_member s c names known k.meaning member (inr (subst (λ o. goes_nowhere (to_byte (member_assigned member o)) ≡ false) k.known there)))) there (index_is s c names known n index fit clean ok) f

  pub assign_fine : (line n : ℕ) (x : tree.Target) (e : tree.Expression) → fits_statement (tree.assign line x e) n ≡ true → fault_of constructs (statement_sites (tree.assign line x e) s) ≡ None → Has AllFine (assign_code s x e)
  assign_fine line n x e fit clean =
      let p = head_none (site s line (part.of_statement (tree.assign line x e))) (option_sites s x.index ++ expression_sites s e) clean in
      let q = parts_none (option_sites s x.index) (expression_sites s e) p.1 in
      let k = keeps (site s line (part.of_statement (tree.assign line x e))) p.0 in
      let m = site_met (site s line (part.of_statement (tree.assign line x e))) k.known k.kind in
      let u = or_none (first (unknown_use s) ((x.name, target_need x.member x.index) ∷ [])) (unknown_assigned s x.name x.member) k.known in
      let w = or_none (first (wrong_use s) ((x.name, target_need x.member x.index) ∷ [])) (wrong_assigned s x x.member) k.kind in
      let ok = neither (fails is_integer (option_type s x.index)) (misfits (target_type s x) (type_of s e)) (not_named (statement_differs s (tree.assign line x e)) s.around k.types) in
      let fits_two = both_true (fits_target n x) (fits n e) fit in
      let v = type_there s c names known e q.1 in
      let y = follows s c names known n e fits_two.1 v.0 v.1 in
      let index = ap (λ b. if b then destination_type (destination_of s x) else None) (index_good x.index q.0 ok.0) in
      let z =
      target_fine n x.name x.member x.index y.0 m.0 u.1 w.1 (both_true (is_name x.name && option_name x.member) (fits_index n x.index) fits_two.0).1 q.0 ok.0
      (λ target is. (evaluated_as v.0, y.2, fits_in target v.0 (target_type s x) (type_of s e) (index ∙ is) v.1 ok.1)) in
      (code.assign z.0 y.0 ∷ [], (λ i. single (with_two code.assign (z.1 i) (y.1 i))), (z.2, tt))

  -- actions
  abbrev act_site : ℕ → tree.Action → Site
  act_site line x = site s line (part.of_statement (tree.act line x))

  acts_met : (line : ℕ) (x : tree.Action) → Keeps (act_site line x) → AllByRecursion (IsMet s) (action_uses x)
  acts_met line x k = site_met (act_site line x) k.known k.kind

  acts_fit : (line : ℕ) (x : tree.Action) → Keeps (act_site line x) → action_differs s x ≡ false
  acts_fit line x k = not_named (action_differs s x) s.around k.types

  notified : (n : ℕ) (w : tree.Notification) (at : ℕ) → IsEvent c at → fits_notification n w ≡ true → fault_of constructs (notification_sites s w) ≡ None → notification_differs s w ≡ false → Has Fine (notification_code s w at)
  notified n tree.immediate at k fit clean ok = (code.notify at, refl, k)
  notified n tree.next_delta at k fit clean ok = (code.notify_delta at, refl, k)
  notified n (tree.after e) at k fit clean ok = map_has (GivesTime c) Fine (code.notify_after at) (term_of s e) (λ x p. (k, p)) (time_there s c names known n e fit clean ok)

  controlled_fine : (w : Who) → fault_of constructs (who_sites s w) ≡ None → Has (IsControlled c) (controlled_by s w)
  controlled_fine (who.Named line name) clean =
      let k = keeps (site s line (part.of_who (who.Named line name))) (head_none (site s line (part.of_who (who.Named line name))) [] clean).0 in
      map_has (IsProcess c) (IsControlled c) controlled.Named (use_of s name) (λ n p. p) (process_there s c names known name (site_met (site s line (part.of_who (who.Named line name))) k.known k.kind).0)
  controlled_fine (who.Myself line) clean = (controlled.Myself, refl, tt)

  handle_fine : (name : Option (List ℕ)) (u : _) → AllByRecursion (IsMet s) (optional name need_of.Variable ++ u ∷ []) → differ (Some type.Process) (option_variable s name) ≡ false
      → Has (IfWritten (λ x. IsOfType c x type.Process)) (if_written (use_of s) name) × IsMet s u
  handle_fine None u k ok = ((None, refl, tt), k.0)
  handle_fine (Some name) u k ok = let g = of_type s c names known name type.Process k.0 ok in ((Some g.0, ap (option_map Some) g.1, g.2), k.1.0)

  exception_fine : (name : List ℕ) → is_some (exception_number h name) ≡ true → Has (λ n. ⊤) (exception_number h name)
  exception_fine name k = let x = is_there (exception_number h name) k in (x.0, x.1, tt)

  with_semaphore : (n : ℕ) (f : ChannelTerm → code.Statement) (ch : tree.Channel) → ((z : ChannelTerm) → UsesAs c z leads.Semaphore → Fine (f z)) → fits_channel n ch ≡ true → fault_of constructs (channel_sites s need_of.Semaphore ch) ≡ None
      → Has AllFine (single (option_map f (channel_term s ch)))
  with_semaphore n f ch g fit clean =
      let z = channel_is c s names known n need_of.Semaphore (λ o. refl) ch fit clean in
      single_fine (option_map f (channel_term s ch))
      (map_has (λ u. UsesAs c u leads.Semaphore) Fine f (channel_term s ch) g (uses_as c s names known need_of.Semaphore ch leads.Semaphore z (λ y st. semaphore_offers c.design z.meaning_ y z.met st)))

  mapped_fine : {A : Type 0} (P : A → Type 0) (f : A → code.Statement) (o : Option A) → ((x : A) → P x → Fine (f x)) → Has P o → Has AllFine (single (option_map f o))
  mapped_fine P f o g k = single_fine (option_map f o) (map_has P Fine f o g k)

  as_written : (z : ChannelTerm) (v : ValueType) → Rattle.code_rules.specs.FlatDesign.Typed.PlaceFits c z.channel_name z.place
      → Offers c.design (declared c z.channel_name) (leads.Out v) ⊎ Offers c.design (declared c z.channel_name) (leads.FifoOut v) → UsesAs c z (leads.Out v) ⊎ UsesAs c z (leads.FifoOut v)
  as_written z v p (inl o) = inl (o, p)
  as_written z v p (inr o) = inr (o, p)

  action_fine : (line n : ℕ) (x : tree.Action) → AreNumbered h (thrown_in x) → IsAnswer s.answer answer → fits_action n x ≡ true → Keeps (act_site line x) → fault_of constructs (action_parts s x) ≡ None → Has AllFine (action_code h s x)
  action_fine line n (tree.write ch e) m ret fit k parts =
      let p = parts_none (channel_sites s need_of.Written ch) (expression_sites s e) parts in
      let two = both_true (fits_channel n ch) (fits n e) fit in
      let z = channel_is c s names known n need_of.Written (λ o. refl) ch two.0 p.0 in
      let t = written_offers c.design z.meaning_ (declared c z.there.0.channel_name) z.met z.there.2.0 in
      let into = ap (option_and_then written_type) z.of_channel ∙ t.1 in
      let g = gives_there s c names known n e (written_to s ch) t.0 into two.1 p.1 (acts_fit line (tree.write ch e) k) in
      (code.write z.there.0 t.0 g.0 ∷ [], (λ i. single (with_three code.write (z.there.1 i) (into i) (g.1 i))), ((as_written z.there.0 t.0 z.there.2.1 t.2, g.2), tt))
  action_fine line n (tree.print text e) m ret fit k parts =
      mapped_fine (IfWritten (IsPrinted c)) (code.print text) (if_written (term_of s) e) (λ y p. p) (print_there s c names known n e (both_true (is_print_text text) (fits_option n e) fit).1 parts (acts_fit line (tree.print text e) k))
  action_fine line n (tree.notify name w) m ret fit k parts =
      single_fine (option_and_then (notification_code s w) (place_of s name))
      (bind_has (IsEvent c) Fine (notification_code s w) (place_of s name) (λ at p. notified n w at p (both_true (is_name name) (fits_notification n w) fit).1 parts (acts_fit line (tree.notify name w) k)) (event_there name (acts_met line (tree.notify name w) k).0))
  action_fine line n (tree.cancel name) m ret fit k parts = mapped_fine (IsEvent c) code.cancel (place_of s name) (λ y p. p) (event_there name (acts_met line (tree.cancel name) k).0)
  action_fine line n (tree.wait w) m ret fit k parts = mapped_fine (IsAwait c) code.wait (await_term s w) (λ y p. p) (await_there c s names known n w fit parts (acts_fit line (tree.wait w) k))
  action_fine line n (tree.next_trigger w) m ret fit k parts = mapped_fine (IsAwait c) code.next_trigger (await_term s w) (λ y p. p) (await_there c s names known n w fit parts (acts_fit line (tree.next_trigger w) k))
  action_fine line n (tree.lock ch) m ret fit k parts =
      let z = channel_is c s names known n need_of.Mutex (λ o. refl) ch fit parts in
      mapped_fine (λ u. UsesAs c u leads.Mutex) code.lock (channel_term s ch) (λ y p. p) (uses_as c s names known need_of.Mutex ch leads.Mutex z (λ y st. mutex_offers c.design z.meaning_ y z.met st))
  action_fine line n (tree.sem_wait ch) m ret fit k parts = with_semaphore n code.sem_wait ch (λ z p. p) fit parts
  action_fine line n (tree.post ch) m ret fit k parts = with_semaphore n code.post ch (λ z p. p) fit parts
  action_fine line n (tree.make name e enables) m ret fit k parts =
      let p = parts_none (expression_sites s e) (option_sites s enables) parts in
      let two = both_true (fits n e) (fits_option n enables) (both_true (is_name name) (fits n e && fits_option n enables) fit).1 in
      let ok = neither (fails is_integer (type_of s e)) (fails is_integer (option_type s enables)) (acts_fit line (tree.make name e enables) k) in
      single_fine _
      (three_has (IsPayload c) (GivesInteger c) (IfWritten (GivesInteger c)) Fine code.make (use_of s name) (term_of s e) (if_written (term_of s) enables) (λ u v w i j l. (i, j, l))
      (payload_there s c names known name (acts_met line (tree.make name e enables) k).0) (integer_there s c names known n e two.0 p.0 ok.0) (integer_option s c names known n enables two.1 p.1 ok.1))
  action_fine line n (tree.acquire name) m ret fit k parts = mapped_fine (IsPayload c) code.acquire (use_of s name) (λ y p. p) (payload_there s c names known name (acts_met line (tree.acquire name) k).0)
  action_fine line n (tree.release name) m ret fit k parts = mapped_fine (IsPayload c) code.release (use_of s name) (λ y p. p) (payload_there s c names known name (acts_met line (tree.release name) k).0)
  action_fine line n (tree.carry p q) m ret fit k parts =
      let met = acts_met line (tree.carry p q) k in
      single_fine _ (two_has (IsPayload c) (IsMemory c) Fine code.carry (use_of s p) (place_of s q) (λ u v i j. (i, j)) (payload_there s c names known p met.0) (memory_there s c names known q met.1.0))
  action_fine line n (tree.b_transport socket p delay) m ret fit k parts =
      let met = acts_met line (tree.b_transport socket p delay) k in
      let ok = neither (differ (Some type.Payload) (variable_named s p)) (differ (Some type.Time) (variable_named s delay)) (acts_fit line (tree.b_transport socket p delay) k) in
      single_fine _
      (three_has (IsForwardSocket c) (IsPayload c) (λ u. IsOfType c u type.Time) Fine code.b_transport (place_of s socket) (use_of s p) (use_of s delay) (λ u v w i j l. (i, j, l))
      (forward_there socket met.0 (not_named (is_pass (meaning_of s socket)) socket k.binding)) (of_type s c names known p type.Payload met.1.0 ok.0) (of_type s c names known delay type.Time met.1.1.0 ok.1))
  action_fine line n (tree.qk_global e) m ret fit k parts = mapped_fine (GivesTime c) code.qk_global (term_of s e) (λ y p. p) (time_there s c names known n e fit parts (acts_fit line (tree.qk_global e) k))
  action_fine line n (tree.qk_inc name e) m ret fit k parts =
      single_fine _
      (two_has (IsKeeper c) (GivesTime c) Fine code.qk_inc (place_of s name) (term_of s e) (λ u v i j. (i, j)) (keeper_there name (acts_met line (tree.qk_inc name e) k).0)
      (time_there s c names known n e (both_true (is_name name) (fits n e) fit).1 parts (acts_fit line (tree.qk_inc name e) k)))
  action_fine line n (tree.qk_set name e) m ret fit k parts =
      single_fine _
      (two_has (IsKeeper c) (GivesTime c) Fine code.qk_set (place_of s name) (term_of s e) (λ u v i j. (i, j)) (keeper_there name (acts_met line (tree.qk_set name e) k).0)
      (time_there s c names known n e (both_true (is_name name) (fits n e) fit).1 parts (acts_fit line (tree.qk_set name e) k)))
  action_fine line n (tree.qk_reset name) m ret fit k parts = mapped_fine (IsKeeper c) code.qk_reset (place_of s name) (λ y p. p) (keeper_there name (acts_met line (tree.qk_reset name) k).0)
  action_fine line n (tree.qk_sync name) m ret fit k parts =
      map_has (IsKeeper c) AllFine synced (place_of s name) (λ y p. ((p, refl), (p, tt))) (keeper_there name (acts_met line (tree.qk_sync name) k).0)
  action_fine line n (tree.spawn x) m ret fit k parts =
      let ok = neither (differ (Some type.Process) (option_variable s x.handle)) (arguments_differ s (called_parameters s x.function) x.arguments) (acts_fit line (tree.spawn x) k) in
      let met = handle_fine x.handle (x.function, need_of.Function) (acts_met line (tree.spawn x) k) ok.0 in
      let f = called x.function met.1 in
      let same = same_parameters (function_named s.items x.function) f.function f.is_function in
      let p = parts_none (argument_sites s x.arguments) (events_sites s true x.sensitive) parts in
      let inner = both_true (within n (λ j. fits_all j x.arguments)) (fits_events n x.sensitive) (both_true (option_name x.handle && is_name x.function) (within n (λ j. fits_all j x.arguments) && fits_events n x.sensitive) fit).1 in
      let e = within_is n (λ j. fits_all j x.arguments) inner.0 in
      let args =
      firsts_there s c names known e.0 f.function.parameters (code_parameters f.stands.body) x.arguments f.stands.parameters
      (same_number (length f.function.parameters) (length x.arguments) (subst (λ o. count_differs o x.arguments ≡ false) f.is_function (not_named (count_differs (function_named s.items x.function) x.arguments) x.function k.count)))
      (subst (λ ps. has_inout ps ≡ false) same (not_named (has_inout (called_parameters s x.function)) x.function k.spawn)) (subst (λ ps. arguments_differ s ps x.arguments ≡ false) same ok.1) e.1 p.0 in
      let events = statics_there c s names known x.sensitive p.1 in
      mapped_fine (λ (z : code.SpawnTerm). Fine (code.spawn z)) code.spawn (spawn_term h s x) (λ z q. q) (
        (record { handle = met.0.0; kind = spawned_kind x.method; function = f.number; arguments = args.0; sensitive = events.0; dont_initialize = x.dont_initialize }),
        (λ i. with_four (λ handle g es sens. record { handle = handle; kind = spawned_kind x.method; function = g; arguments = es; sensitive = sens; dont_initialize = x.dont_initialize }) (met.0.1 i) (f.is_number i) (args.1 i) (events.1 i)),
        (f.stands.body, f.stands.here, args.2, events.2, met.0.2),
      )
  action_fine line n (tree.control q w all) m ret fit k parts = mapped_fine (IsControlled c) (λ y. code.control q y all) (controlled_by s w) (λ y p. p) (controlled_fine w parts)
  action_fine line n (tree.throw_it w name all) m ret fit k parts =
      single_fine _ (two_has (IsControlled c) (λ y. ⊤) Fine (λ q e. code.throw_it q e all) (controlled_by s w) (exception_number h name) (λ u v i j. i) (controlled_fine w parts) (exception_fine name m.0))
  action_fine line n (tree.throw name) m ret fit k parts = mapped_fine (λ y. ⊤) code.throw (exception_number h name) (λ y p. tt) (exception_fine name m.0)
  action_fine line n (tree.return_ e) m ret fit k parts =
      mapped_fine (IsReturned c answer) code.return_ (if_written (term_of s) e) (λ y p. p)
      (returned s c names known n s.answer answer e ret (not_named (not (same_bool (is_some s.answer) (is_some e))) s.around k.returned) (acts_fit line (tree.return_ e) k) fit parts)
  action_fine line n tree.stop m ret fit k parts = (code.stop ∷ [], refl, (tt, tt))

  pub act_fine : (line n : ℕ) (x : tree.Action) → AreNumbered h (thrown_in x) → IsAnswer s.answer answer → fits_statement (tree.act line x) n ≡ true → fault_of constructs (statement_sites (tree.act line x) s) ≡ None → Has AllFine (action_code h s x)
  act_fine line n x m ret fit clean = let p = head_none (act_site line x) (action_parts s x) clean in action_fine line n x m ret fit (keeps (act_site line x) p.0) p.1
