-- Statements that hold no others have code.
use Rattle.std.proofs.Common.{◌≡◌, ℕ, true, false, not, ◌&&◌, ◌||◌, List, [], ◌∷◌, ◌++◌, Option, Some, None, refl, sym, subst, true≢false}
use Rattle.std.specs.Prelude.{is_some, option_and_then}
use Rattle.std.specs.List.{AllByRecursion}
use Rattle.code_rules.specs.ModelTree.Tree as tree
use Rattle.code_rules.specs.ModelTree.declared.types.VarType.{VarType}
use Rattle.code_rules.specs.FlatDesign.Code as code
use Rattle.code_rules.specs.FlatDesign.Code.{DestinationTerm}
use Rattle.code_rules.specs.FlatDesign.declared.value_types.ValueType.{ValueType}
use Rattle.code_rules.specs.FlatDesign.declared.names.Member.TheVariants as member
use Rattle.code_rules.specs.FlatDesign.declared.code.Store.{Store}
use Rattle.code_rules.specs.ModelRules.Meanings.{variable_type}
use Rattle.code_rules.specs.ModelRules.Members.{row_of}
use Rattle.code_rules.specs.ModelRules.Scopes.{Scope, meaning_of, use_of, place_of, function_named}
use Rattle.code_rules.specs.ModelRules.Types.{with_place, type_of}
use Rattle.code_rules.specs.ModelRules.Targets.{written_type, put_type, written_to, put_into, to_variable, to_element, to_field, to_byte, member_assigned, destination, destination_of}
use Rattle.code_rules.specs.ModelRules.declared.meanings.Destination.{Destination}
use Rattle.code_rules.specs.ModelRules.declared.meanings.Row.{Row}
use Rattle.code_rules.specs.ModelRules.declared.meanings.ValueMember.{ValueMember}
use Rattle.code_rules.specs.ModelRules.declared.meanings.ValueMember.TheVariants as reached
use Rattle.code_rules.specs.ModelRules.declared.meanings.Meaning.{Meaning}
use Rattle.code_rules.specs.ModelRules.declared.meanings.Meaning.TheVariants as meaning
use Rattle.code_rules.specs.ModelRules.declared.needs.Need.{Need}
use Rattle.code_rules.specs.ModelRules.declared.needs.Need.TheVariants as need_of
use Rattle.code_rules.specs.ModelRules.Sites as part
use Rattle.code_rules.specs.ModelRules.Sites.{Site, site, channel_site, channel_sites, place_sites, variable_type_sites, expression_sites, option_sites, argument_sites, events_sites, operation_parts, action_parts, statement_sites}
use Rattle.code_rules.specs.ModelRules.Names.{first, meets, is_variable, is_memory, row_lacks, unknown_use, wrong_use, is_signal_written, is_fifo_written, goes_nowhere, optional, action_uses, target_need, unknown_in_row, wrong_in_row, unknown_member, wrong_member, unknown_assigned, wrong_assigned}
use Rattle.code_rules.specs.ModelRules.Calls.{count_differs, inouts_wrong}
use Rattle.code_rules.specs.ModelRules.Values.{called_parameters}
use Rattle.code_rules.specs.ModelRules.Passes.{constructs, fault_at, fault_of}
use Rattle.code_rules.specs.Terms.{term_of}
use Rattle.code_rules.specs.Deeds.{Home, if_written, each, single, store, channel_term, static_use, await_term, call_arguments, controlled_by, function_number, exception_number, to_index, destination_term, operation_code, notification_code, synced, spawn_term, action_code}
use Rattle.code_rules.specs.Numbered.{var_code, assign_code, operate_code}
use Rattle.code_rules.specs.Bodies.{thrown_in}
use Rattle.code_rules.proofs.ModelRules.Firsts.{or_none}
use Rattle.laws_code.specs.Known.{is_type_known, TypesAreKnown}
use Rattle.laws_code.specs.Met.{IsMet}
use Rattle.laws_code.proofs.FaultlessConstructs.{keeps}
use Rattle.laws_code.proofs.NamesMet.{site_met}
use Rattle.laws_code.proofs.Coded.{some_none, two_some}
use Rattle.laws_code.proofs.Typed.{typed, neither, not_named, parts_none, head_none, mapped_some, channel_kept, IsChannelKept, number_placed, computed_placed, and_true}
use Rattle.laws_code.specs.HasCode.{AreNumbered}
use Rattle.laws_code.proofs.Known.{variable_known}
use Rattle.laws_code.proofs.Named.{used_place, used_name, has_store, is_function_named, has_number}
use Rattle.laws_code.proofs.Parts.{three_some, four_some, expression_there, option_there, each_there, channel_there, await_there, static_events_there, call_there, who_there}

pub bound_some : {A B : Type 0} (f : A → Option B) (o : Option A) → is_some o ≡ true → ((x : A) → is_some (f x) ≡ true) → is_some (option_and_then f o) ≡ true
bound_some f None h k = some_none h
bound_some f (Some x) h k = k x

-- what is written to a channel, and put into one
put_some : (m : Meaning) → is_fifo_written m ≡ true → is_type_known m ≡ true → is_some (put_type m) ≡ true
put_some (meaning.Fifo t) h k = k
put_some (meaning.FifoOut t size) h k = k
put_some other h k = absurd (true≢false (sym h))

written_some : (m : Meaning) → (is_signal_written m || is_fifo_written m) ≡ true → is_type_known m ≡ true → is_some (written_type m) ≡ true
written_some (meaning.Signal t) h k = k
written_some meaning.Resolved h k = refl
written_some (meaning.Out t size) h k = k
written_some (meaning.Fifo t) h k = k
written_some (meaning.FifoOut t size) h k = k
written_some other h k = absurd (true≢false (sym h))

-- targets
abbrev Leads : Destination → Type 0
Leads d = goes_nowhere d ≡ false

assigned : (r : Option Row) (d : Destination) (of name : List ℕ) → unknown_in_row name r ≡ None → wrong_in_row (λ x. goes_nowhere d) of name r ≡ None → Leads d
assigned None d of name h k = cc
assigned (Some r) d of name h k =
    and_true (goes_nowhere d) (row_lacks r name) (not_named (goes_nowhere d && not (row_lacks r name)) name k) (not_named (row_lacks r name) name h)

module _ (s : Scope) (known : TypesAreKnown s) where
  -- a channel at its place
  pub placed_right : (need : Need) (name : List ℕ) (place : tree.Place) (k : IsChannelKept s need name place) → fault_of constructs (place_sites s place) ≡ None → with_place s place k.meaning_ ≡ Some k.meaning_
  placed_right need name tree.first k h = refl
  placed_right need name (tree.place_number n) k h = number_placed n k.meaning_ k.right_place k.place_range
  placed_right need name (tree.computed e) k h =
      computed_placed (type_of s e) k.meaning_ (neither _ _ k.right_place).0 (typed s known need_of.Readable e h) k.place_type

  pub of_channel : (f : Meaning → Option ValueType) (need : Need) → ((m : Meaning) → meets need m ≡ true → is_type_known m ≡ true → is_some (f m) ≡ true)
      → (c : tree.Channel) → fault_of constructs (channel_sites s need c) ≡ None → is_some (option_and_then f (option_and_then (with_place s c.place) (meaning_of s c.name))) ≡ true
  of_channel f need g c h =
      let p = head_none (channel_site s need c) (place_sites s c.place) h in
      let k = channel_kept s need c p.0 in
      subst (λ o. is_some (option_and_then f (option_and_then (with_place s c.place) o)) ≡ true) (sym k.known)
      (subst (λ o. is_some (option_and_then f o) ≡ true) (sym (placed_right need c.name c.place k p.1)) (g k.meaning_ k.met (known c.name k.meaning_ k.known)))

  -- a variable that gets a result
  result_there : (name : Option (List ℕ)) → AllByRecursion (IsMet s) (optional name need_of.Variable) → is_some (if_written (store s) name) ≡ true
  result_there None k = refl
  result_there (Some name) k = mapped_some Some (store s name) (has_store s name known k.0)

  handle_there : (name : Option (List ℕ)) (u : _) → AllByRecursion (IsMet s) (optional name need_of.Variable ++ u ∷ []) → (is_some (if_written (use_of s) name) ≡ true) × IsMet s u
  handle_there None u k = (refl, k.0)
  handle_there (Some name) u k = (mapped_some Some (use_of s name) (used_name s (name, need_of.Variable) k.0), k.1.0)

  single_some : (o : Option code.Statement) → is_some o ≡ true → is_some (single o) ≡ true
  single_some o h = mapped_some _ o h

  -- assignments
  index_there : (f : code.Term → DestinationTerm) (e : Option tree.Expression) → is_some e ≡ true → fault_of constructs (option_sites s e) ≡ None → is_some (to_index f s e) ≡ true
  index_there f None h k = some_none h
  index_there f (Some e) h k = mapped_some f (term_of s e) (expression_there s known e k)

  -- by what the name of the target stands for
  variable_target : (name : List ℕ) (m : Meaning) → is_variable m ≡ true → is_some (store s name) ≡ true
      → is_some (destination_term s (record { name = name; member = None; index = None }) (to_variable (Some m))) ≡ true
  variable_target name (meaning.Variable t) h k = mapped_some code.to_name (store s name) k
  variable_target name other h k = absurd (true≢false (sym h))

  element_target : (name : List ℕ) (index : tree.Expression) (m : Meaning) → is_memory m ≡ true → is_some (place_of s name) ≡ true → fault_of constructs (expression_sites s index) ≡ None
      → is_some (destination_term s (record { name = name; member = None; index = Some index }) (to_element (Some m))) ≡ true
  element_target name index meaning.Memory h k clean = bound_some (λ n. to_index (code.to_element n) s (Some index)) (place_of s name) k (λ n. index_there (code.to_element n) (Some index) refl clean)
  element_target name index other h k clean = absurd (true≢false (sym h))

  field_target : (t : tree.Target) (o : Option ValueMember) → Leads (to_field o) → is_some (use_of s t.name) ≡ true → is_some (destination_term s t (to_field o)) ≡ true
  field_target t None h k = absurd (true≢false h)
  field_target t (Some (reached.One (member.Field f))) h k = mapped_some _ (use_of s t.name) k
  field_target t (Some (reached.One other)) h k = absurd (true≢false h)
  field_target t (Some (reached.Many b)) h k = absurd (true≢false h)

  byte_target : (t : tree.Target) (o : Option ValueMember) → Leads (to_byte o) → is_some (use_of s t.name) ≡ true → is_some t.index ≡ true → fault_of constructs (option_sites s t.index) ≡ None
      → is_some (destination_term s t (to_byte o)) ≡ true
  byte_target t None h k i clean = absurd (true≢false h)
  byte_target t (Some (reached.One m)) h k i clean = absurd (true≢false h)
  byte_target t (Some (reached.Many b)) h k i clean = bound_some (λ n. to_index (code.to_payload_byte n b) s t.index) (use_of s t.name) k (λ n. index_there (code.to_payload_byte n b) t.index i clean)

  -- a member that is assigned leads somewhere
  pub member_leads : (t : tree.Target) (name : List ℕ) (m : Meaning) → meaning_of s t.name ≡ Some m → unknown_assigned s t.name (Some name) ≡ None → wrong_assigned s t (Some name) ≡ None → Leads (destination_of s t)
  member_leads t name m is h k =
      assigned (row_of m) (destination_of s t) t.name name (subst (λ o. unknown_member o name ≡ None) is h)
      (subst (λ o. wrong_member (λ row. goes_nowhere (destination_of s t)) t.name name o ≡ None) is k)

  target_there : (name : List ℕ) (member : Option (List ℕ)) (index : Option tree.Expression) → IsMet s (name, target_need member index) → unknown_assigned s name member ≡ None
      → wrong_assigned s (record { name = name; member = member; index = index }) member ≡ None → fault_of constructs (option_sites s index) ≡ None
      → is_some (destination_term s (record { name = name; member = member; index = index }) (destination (meaning_of s name) member index)) ≡ true
  target_there name None None k u w clean =
      subst (λ o. is_some (destination_term s (record { name = name; member = None; index = None }) (to_variable o)) ≡ true) (sym k.known)
      (variable_target name k.meaning k.meets_need (has_store s name known k))
  target_there name None (Some index) k u w clean =
      subst (λ o. is_some (destination_term s (record { name = name; member = None; index = Some index }) (to_element o)) ≡ true) (sym k.known)
      (element_target name index k.meaning k.meets_need (used_place s (name, need_of.Memory) (λ t. refl) k) clean)
  target_there name (Some member) None k u w clean =
      field_target (record { name = name; member = Some member; index = None }) (member_assigned member (meaning_of s name))
      (member_leads (record { name = name; member = Some member; index = None }) member k.meaning k.known u w) (used_name s (name, need_of.Object) k)
  target_there name (Some member) (Some index) k u w clean =
      byte_target (record { name = name; member = Some member; index = Some index }) (member_assigned member (meaning_of s name))
      (member_leads (record { name = name; member = Some member; index = Some index }) member k.meaning k.known u w) (used_name s (name, need_of.Object) k) refl clean

  pub assign_there : (line : ℕ) (t : tree.Target) (e : tree.Expression) → fault_of constructs (statement_sites (tree.assign line t e) s) ≡ None → is_some (assign_code s t e) ≡ true
  assign_there line t e clean =
      let p = head_none (site s line (part.of_statement (tree.assign line t e))) (option_sites s t.index ++ expression_sites s e) clean in
      let q = parts_none (option_sites s t.index) (expression_sites s e) p.1 in
      let k = keeps (site s line (part.of_statement (tree.assign line t e))) p.0 in
      let m = site_met (site s line (part.of_statement (tree.assign line t e))) k.known k.kind in
      let u = or_none (first (unknown_use s) ((t.name, target_need t.member t.index) ∷ [])) (unknown_assigned s t.name t.member) k.known in
      let w = or_none (first (wrong_use s) ((t.name, target_need t.member t.index) ∷ [])) (wrong_assigned s t t.member) k.kind in
      single_some _
      (two_some code.assign (destination_term s t (destination_of s t)) (term_of s e) (target_there t.name t.member t.index m.0 u.1 w.1 q.0) (expression_there s known e q.1))

  -- local variables
  pub var_there : (line : ℕ) (t : VarType) (name : List ℕ) (e : Option tree.Expression) → fault_of constructs (statement_sites (tree.var line t name e) s) ≡ None → is_some (var_code s (variable_type t) e) ≡ true
  var_there line t name e clean =
      let p = head_none (site s line (part.of_statement (tree.var line t name e))) (variable_type_sites s t ++ option_sites s e) clean in
      let q = parts_none (variable_type_sites s t) (option_sites s e) p.1 in
      single_some _ (two_some (code.var s.count) (variable_type t) (if_written (term_of s) e) (variable_known s t q.0) (option_there s known e q.1))

  -- operations
  operation_there : (h : Home) (x : Option Store) (line : ℕ) (o : tree.Operation) → fault_at constructs (site s line (part.of_operation o)) ≡ None → fault_of constructs (operation_parts s o) ≡ None
      → is_some (operation_code h s x o) ≡ true
  operation_there h x line (tree.call name es) a parts =
      let k = keeps (site s line (part.of_operation (tree.call name es))) a in
      let m = site_met (site s line (part.of_operation (tree.call name es))) k.known k.kind in
      two_some (code.call x) (function_number h s name) (call_arguments s name es) (has_number h s name m.0)
      (call_there s known name es (is_function_named s name m.0) (not_named (count_differs (function_named s.items name) es || inouts_wrong s (called_parameters s name) es) name k.count) parts)
  operation_there h x line (tree.read c) a parts = mapped_some (code.read x) (channel_term s c) (channel_there s known need_of.Taken (λ t. refl) c parts)
  operation_there h x line (tree.nb_read c name) a parts =
      let k = keeps (site s line (part.of_operation (tree.nb_read c name))) a in
      let m = site_met (site s line (part.of_operation (tree.nb_read c name))) k.known k.kind in
      two_some (code.nb_read x) (channel_term s c) (store s name) (channel_there s known need_of.Taken (λ t. refl) c parts) (has_store s name known m.0)
  operation_there h x line (tree.nb_write c e) a parts =
      let p = parts_none (channel_sites s need_of.Put c) (expression_sites s e) parts in
      three_some (code.nb_write x) (channel_term s c) (put_into s c) (term_of s e)
      (channel_there s known need_of.Put (λ t. refl) c p.0) (of_channel put_type need_of.Put put_some c p.0) (expression_there s known e p.1)
  operation_there h x line (tree.trylock c) a parts = mapped_some (code.trylock x) (channel_term s c) (channel_there s known need_of.Mutex (λ t. refl) c parts)
  operation_there h x line (tree.unlock c) a parts = mapped_some (code.unlock x) (channel_term s c) (channel_there s known need_of.Mutex (λ t. refl) c parts)
  operation_there h x line (tree.sem_trywait c) a parts = mapped_some (code.sem_trywait x) (channel_term s c) (channel_there s known need_of.Semaphore (λ t. refl) c parts)
  operation_there h x line (tree.nb_transport socket p phase delay) a parts =
      let k = keeps (site s line (part.of_operation (tree.nb_transport socket p phase delay))) a in
      let m = site_met (site s line (part.of_operation (tree.nb_transport socket p phase delay))) k.known k.kind in
      four_some (code.nb_transport x) (place_of s socket) (use_of s p) (use_of s phase) (use_of s delay)
      (used_place s (socket, need_of.Socket) (λ t. refl) m.0) (used_name s (p, need_of.Variable) m.1.0) (used_name s (phase, need_of.Variable) m.1.1.0) (used_name s (delay, need_of.Variable) m.1.1.1.0)

  with_result : (h : Home) (x : Option (Option Store)) (o : tree.Operation) → is_some x ≡ true → ((y : Option Store) → is_some (operation_code h s y o) ≡ true) → is_some (operate_code h s x o) ≡ true
  with_result h None o k f = some_none k
  with_result h (Some x) o k f = single_some (operation_code h s x o) (f x)

  pub operate_there : (h : Home) (line at : ℕ) (name : Option (List ℕ)) (o : tree.Operation) → fault_of constructs (statement_sites (tree.operate line name at o) s) ≡ None
      → is_some (operate_code h s (if_written (store s) name) o) ≡ true
  operate_there h line at name o clean =
      let p = head_none (site s line (part.of_statement (tree.operate line name at o))) (site s at (part.of_operation o) ∷ operation_parts s o) clean in
      let q = head_none (site s at (part.of_operation o)) (operation_parts s o) p.1 in
      let k = keeps (site s line (part.of_statement (tree.operate line name at o))) p.0 in
      with_result h (if_written (store s) name) o (result_there name (site_met (site s line (part.of_statement (tree.operate line name at o))) k.known k.kind))
      (λ x. operation_there h x at o q.0 q.1)

  -- actions
  abbrev act_site : ℕ → tree.Action → Site
  act_site line a = site s line (part.of_statement (tree.act line a))

  acts_met : (line : ℕ) (a : tree.Action) → fault_at constructs (act_site line a) ≡ None → AllByRecursion (IsMet s) (action_uses a)
  acts_met line a h = let k = keeps (act_site line a) h in site_met (act_site line a) k.known k.kind

  notified : (n : tree.Notification) (place : ℕ) → fault_of constructs (Rattle.code_rules.specs.ModelRules.Sites.notification_sites s n) ≡ None → is_some (notification_code s n place) ≡ true
  notified tree.immediate place h = refl
  notified tree.next_delta place h = refl
  notified (tree.after e) place h = mapped_some (code.notify_after place) (term_of s e) (expression_there s known e h)

  action_there : (h : Home) (line : ℕ) (a : tree.Action) → AreNumbered h (thrown_in a) → fault_at constructs (act_site line a) ≡ None → fault_of constructs (action_parts s a) ≡ None
      → is_some (action_code h s a) ≡ true
  action_there h line (tree.write c e) n a parts =
      let p = parts_none (channel_sites s need_of.Written c) (expression_sites s e) parts in
      single_some _
      (three_some code.write (channel_term s c) (written_to s c) (term_of s e)
      (channel_there s known need_of.Written (λ t. refl) c p.0) (of_channel written_type need_of.Written written_some c p.0) (expression_there s known e p.1))
  action_there h line (tree.print text e) n a parts = single_some _ (mapped_some (code.print text) (if_written (term_of s) e) (option_there s known e parts))
  action_there h line (tree.notify name w) n a parts =
      let m = acts_met line (tree.notify name w) a in
      single_some _ (bound_some (notification_code s w) (place_of s name) (used_place s (name, need_of.PlainEvent) (λ t. refl) m.0) (λ place. notified w place parts))
  action_there h line (tree.cancel name) n a parts =
      let m = acts_met line (tree.cancel name) a in
      single_some _ (mapped_some code.cancel (place_of s name) (used_place s (name, need_of.PlainEvent) (λ t. refl) m.0))
  action_there h line (tree.wait w) n a parts = single_some _ (mapped_some code.wait (await_term s w) (await_there s known w parts))
  action_there h line (tree.next_trigger w) n a parts = single_some _ (mapped_some code.next_trigger (await_term s w) (await_there s known w parts))
  action_there h line (tree.lock c) n a parts = single_some _ (mapped_some code.lock (channel_term s c) (channel_there s known need_of.Mutex (λ t. refl) c parts))
  action_there h line (tree.sem_wait c) n a parts = single_some _ (mapped_some code.sem_wait (channel_term s c) (channel_there s known need_of.Semaphore (λ t. refl) c parts))
  action_there h line (tree.post c) n a parts = single_some _ (mapped_some code.post (channel_term s c) (channel_there s known need_of.Semaphore (λ t. refl) c parts))
  action_there h line (tree.make name e enables) n a parts =
      let m = acts_met line (tree.make name e enables) a in
      let p = parts_none (expression_sites s e) (option_sites s enables) parts in
      single_some _
      (three_some code.make (use_of s name) (term_of s e) (if_written (term_of s) enables)
      (used_name s (name, need_of.Payload) m.0) (expression_there s known e p.0) (option_there s known enables p.1))
  action_there h line (tree.acquire name) n a parts = single_some _ (mapped_some code.acquire (use_of s name) (used_name s (name, need_of.Payload) (acts_met line (tree.acquire name) a).0))
  action_there h line (tree.release name) n a parts = single_some _ (mapped_some code.release (use_of s name) (used_name s (name, need_of.Payload) (acts_met line (tree.release name) a).0))
  action_there h line (tree.carry p m) n a parts =
      let met = acts_met line (tree.carry p m) a in
      single_some _ (two_some code.carry (use_of s p) (place_of s m) (used_name s (p, need_of.Payload) met.0) (used_place s (m, need_of.Memory) (λ t. refl) met.1.0))
  action_there h line (tree.b_transport socket p delay) n a parts =
      let m = acts_met line (tree.b_transport socket p delay) a in
      single_some _
      (three_some code.b_transport (place_of s socket) (use_of s p) (use_of s delay)
      (used_place s (socket, need_of.Initiator) (λ t. refl) m.0) (used_name s (p, need_of.Variable) m.1.0) (used_name s (delay, need_of.Variable) m.1.1.0))
  action_there h line (tree.qk_global e) n a parts = single_some _ (mapped_some code.qk_global (term_of s e) (expression_there s known e parts))
  action_there h line (tree.qk_inc name e) n a parts =
      let m = acts_met line (tree.qk_inc name e) a in
      single_some _ (two_some code.qk_inc (place_of s name) (term_of s e) (used_place s (name, need_of.Keeper) (λ t. refl) m.0) (expression_there s known e parts))
  action_there h line (tree.qk_set name e) n a parts =
      let m = acts_met line (tree.qk_set name e) a in
      single_some _ (two_some code.qk_set (place_of s name) (term_of s e) (used_place s (name, need_of.Keeper) (λ t. refl) m.0) (expression_there s known e parts))
  action_there h line (tree.qk_reset name) n a parts =
      let m = acts_met line (tree.qk_reset name) a in
      single_some _ (mapped_some code.qk_reset (place_of s name) (used_place s (name, need_of.Keeper) (λ t. refl) m.0))
  action_there h line (tree.qk_sync name) n a parts =
      let m = acts_met line (tree.qk_sync name) a in
      mapped_some synced (place_of s name) (used_place s (name, need_of.Keeper) (λ t. refl) m.0)
  action_there h line (tree.spawn x) n a parts =
      let m = handle_there x.handle (x.function, need_of.Function) (acts_met line (tree.spawn x) a) in
      let p = parts_none (argument_sites s x.arguments) (events_sites s true x.sensitive) parts in
      single_some _
      (mapped_some code.spawn (spawn_term h s x)
      (four_some _ (if_written (use_of s) x.handle) (function_number h s x.function) (each (term_of s) x.arguments) (each (static_use s) x.sensitive)
      m.0 (has_number h s x.function m.1) (each_there s known x.arguments p.0) (static_events_there s known x.sensitive p.1)))
  action_there h line (tree.control c w all) n a parts = single_some _ (mapped_some (λ q. code.control c q all) (controlled_by s w) (who_there s known w parts))
  action_there h line (tree.throw_it w name all) n a parts = single_some _ (two_some (λ q e. code.throw_it q e all) (controlled_by s w) (exception_number h name) (who_there s known w parts) n.0)
  action_there h line (tree.throw name) n a parts = single_some _ (mapped_some code.throw (exception_number h name) n.0)
  action_there h line (tree.return_ e) n a parts = single_some _ (mapped_some code.return_ (if_written (term_of s) e) (option_there s known e parts))
  action_there h line tree.stop n a parts = refl

  pub act_there : (h : Home) (line : ℕ) (a : tree.Action) → AreNumbered h (thrown_in a) → fault_of constructs (statement_sites (tree.act line a) s) ≡ None → is_some (action_code h s a) ≡ true
  act_there h line a n clean = let p = head_none (act_site line a) (action_parts s a) clean in action_there h line a n p.0 p.1
