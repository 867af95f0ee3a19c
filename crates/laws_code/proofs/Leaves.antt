-- What the code of a statement that holds no others is.
use Rattle.std.proofs.Common.{◌≡◌, ℕ, Bool, true, false, List, [], ◌∷◌, length, Option, Some, None, refl, sym, ◌∙◌, ap, subst, true≢false}
use Rattle.std.specs.Prelude.{⊤, bytes_eq, find, nat_lt, slice_get, option_map, option_and_then}
use Rattle.std.specs.List.{AllByRecursion, position_or_len}
use Rattle.std.proofs.lemmas.List.Folds.{find_at}
use Rattle.code_rules.specs.ModelTree.Tree as tree
use Rattle.code_rules.specs.FlatDesign.Code as code
use Rattle.code_rules.specs.FlatDesign.Code.{ChannelTerm}
use Rattle.code_rules.specs.FlatDesign.Denotes.{denoted_at}
use Rattle.code_rules.specs.FlatDesign.Typed.{EachOf}
use Rattle.code_rules.specs.FlatDesign.Blocking.{PortTakes, Takes, DoesNotBlock, IsPlain, SetsNoTrigger}
use Rattle.code_rules.specs.FlatDesign.declared.value_types.ValueType.{ValueType}
use Rattle.code_rules.specs.FlatDesign.declared.code.Store.{Store}
use Rattle.code_rules.specs.FlatDesign.declared.design.Denoted.{Denoted}
use Rattle.code_rules.specs.FlatDesign.declared.design.PortPart.{PortPart}
use Rattle.code_rules.specs.FlatDesign.declared.design.Design.{Design}
use Rattle.code_rules.specs.ModelRules.Meanings.{Declared, declarations}
use Rattle.code_rules.specs.ModelRules.Scopes.{Scope, is_declared, local_named, use_of, place_of}
use Rattle.code_rules.specs.ModelRules.Targets.{written_to, put_into, destination_of}
use Rattle.code_rules.specs.ModelRules.declared.meanings.Meaning.{Meaning}
use Rattle.code_rules.specs.ModelRules.declared.meanings.Meaning.TheVariants as meaning
use Rattle.code_rules.specs.ModelRules.declared.needs.Need.TheVariants as need_of
use Rattle.code_rules.specs.ModelRules.Sites.{channel_site, action_parts}
use Rattle.code_rules.specs.ModelRules.Names.{is_signal_written, is_fifo_written}
use Rattle.code_rules.specs.ModelRules.Passes.{constructs, fault_at}
use Rattle.code_rules.specs.ModelRules.Reach.{is_call_of, same_way, is_spawn_of, meaning_in, is_fifo, blocks_itself, is_next_trigger, is_throw, is_spawn, acts, transports}
use Rattle.code_rules.specs.Terms.{term_of}
use Rattle.code_rules.specs.Deeds.{Home, with_two, with_three, if_written, single, store, place_term, channel_term, await_term, call_arguments, controlled_by, spawned_kind, function_number, exception_number, each, static_use, destination_term, operation_code, notification_code, synced, spawn_term, action_code}
use Rattle.code_rules.specs.Numbered.{var_code, assign_code, operate_code}
use Rattle.laws_code.proofs.Coded.{same_some}
use Rattle.laws_code.proofs.Typed.{both_true, channel_kept}
use Rattle.laws_code.proofs.Named.{declared_by, no_variable}
use Rattle.laws_code.specs.Standing.{Standing}
use Rattle.laws_code.proofs.Places.{mapped_is}
use Rattle.laws_code.proofs.Bodies.{pos_is}
use Rattle.laws_code.proofs.Lists.{or_first, bound_is, two_are, three_are, four_are}
use Rattle.laws_code.proofs.Marks.{same_name}

same_same : (b : Bool) → same_way b b ≡ true
same_same true = refl
same_same false = refl

-- what is declared as a signal, or as a port to one, is written without waiting
takes_signal : (d : Design) (m : Meaning) (x : Denoted) → is_signal_written m ≡ true → Standing d m x → Takes d x
takes_signal d (meaning.Signal t) x h k = subst (Takes d) (sym k.3) tt
takes_signal d meaning.Resolved x h k = subst (Takes d) (sym k.2) tt
takes_signal d (meaning.Out t size) x h k =
    let port = k.2 in
    subst (Takes d) (sym port.2) (λ q e. subst (λ (r : PortPart). PortTakes r.leads_to) (same_some port.1 q (sym port.3 ∙ e)) (subst PortTakes (sym port.4) tt))
takes_signal d other x h k = absurd (true≢false (sym h))

-- the names that these items declare stand for what they are declared as in this instance
abbrev pub NamesIn : List tree.Item → Design → ℕ → Type 0
NamesIn items d home = (n : ℕ) (y : Declared) → slice_get (declarations items) n ≡ Some y → Standing d y.meaning (denoted_at d home n)

module _ (h : Home) (s : Scope) where
  -- a call is that of a function by its name, and so is a spawn
  abbrev pub IsCallBy : tree.Statement → code.Statement → Type 0
  IsCallBy x (code.call to n arguments) = (name : List ℕ) × (is_call_of name x ≡ true) × (function_number h s name ≡ Some n)
  IsCallBy x other = ⊤

  abbrev pub IsSpawnBy : tree.Statement → code.Statement → Type 0
  IsSpawnBy x (code.spawn p) = (name : List ℕ) × (method : Bool) × (p.kind ≡ spawned_kind method) × (is_spawn_of method name x ≡ true) × (function_number h s name ≡ Some p.function)
  IsSpawnBy x other = ⊤

  -- what a statement of the code is, of what the statement is that it is the code of
  pub record Shows (x : tree.Statement) (f : code.Statement) : Type 0 where
    pub free : (d : Design) (home : ℕ) → NamesIn s.items d home → blocks_itself s.items x ≡ false → DoesNotBlock d home f
    pub plain : acts is_throw x ≡ false → acts is_spawn x ≡ false → transports x ≡ false → IsPlain f
    pub no_trigger : acts is_next_trigger x ≡ false → SetsNoTrigger f
    pub called : IsCallBy x f
    pub spawned : IsSpawnBy x f

  -- a statement that neither blocks nor throws, spawns, makes a transport call or sets a next trigger
  abbrev pub IsQuiet : tree.Statement → code.Statement → Type 0
  IsQuiet x f = ((d : Design) (home : ℕ) → DoesNotBlock d home f) × IsPlain f × SetsNoTrigger f × IsCallBy x f × IsSpawnBy x f

  pub quiet : (x : tree.Statement) (f : code.Statement) → IsQuiet x f → Shows x f
  quiet x f k = record { free = λ d home names e. k.0 d home; plain = λ t p c. k.1; no_trigger = λ e. k.2; called = k.3; spawned = k.4 }

  -- one that blocks
  blocks : (x : tree.Statement) (f : code.Statement) → blocks_itself s.items x ≡ true → (transports x ≡ false → IsPlain f) → SetsNoTrigger f → IsCallBy x f → IsSpawnBy x f → Shows x f
  blocks x f b p t c k = record { free = λ d home names e. absurd (true≢false (sym b ∙ e)); plain = λ u v w. p w; no_trigger = λ e. t; called = c; spawned = k }

  -- a channel that is written and is no fifo
  write_takes : (c : tree.Channel) (x : ChannelTerm) → fault_at constructs (channel_site s need_of.Written c) ≡ None → channel_term s c ≡ Some x → (d : Design) (home : ℕ) → NamesIn s.items d home
      → is_fifo (meaning_in s.items c.name) ≡ false → Takes d (denoted_at d home x.channel_name)
  write_takes c x clean made d home names e =
      let k = channel_kept s need_of.Written c clean in
      let found = (declared_by (local_named s c.name) (option_map (λ (y : Declared). y.meaning) (find (is_declared c.name) (declarations s.items))) k.meaning_ k.known (no_variable need_of.Written (λ t. refl) k.meaning_ k.met)).1 in
      let signal = or_first (is_signal_written k.meaning_) (is_fifo_written k.meaning_) k.met (sym (ap is_fifo found) ∙ e) in
      let y = mapped_is (λ (y : Declared). y.meaning) (find (is_declared c.name) (declarations s.items)) k.meaning_ found in
      let parts = two_are (λ n p. record { channel_name = n; place = p }) (place_of s c.name) (place_term s c.place) x made in
      let number = pos_is (nat_lt (position_or_len (is_declared c.name) (declarations s.items)) (length (declarations s.items))) (position_or_len (is_declared c.name) (declarations s.items)) parts.0 parts.2 in
      let standing = names parts.0 y.0 (ap (slice_get (declarations s.items)) (sym number) ∙ sym (find_at (is_declared c.name) (declarations s.items)) ∙ y.1) in
      subst (λ (z : ChannelTerm). Takes d (denoted_at d home z.channel_name)) parts.4
      (takes_signal d k.meaning_ (denoted_at d home parts.0) signal (subst (λ z. Standing d z (denoted_at d home parts.0)) y.2 standing))

  module _ (x : tree.Statement) where
    abbrev pub EachShows : List code.Statement → Type 0
    EachShows fs = EachOf (Shows x) fs

    -- what there is shows this
    abbrev pub AllShow : Option (List code.Statement) → Type 0
    AllShow o = (fs : List code.Statement) → o ≡ Some fs → EachShows fs

    alone : (o : Option code.Statement) → ((f : code.Statement) → o ≡ Some f → Shows x f) → AllShow (single o)
    alone o k fs e = let y = mapped_is (λ f. f ∷ []) o fs e in subst EachShows y.2 (k y.0 y.1, tt)

    one : {A : Type 0} (f : A → code.Statement) (o : Option A) → ((y : A) → o ≡ Some y → Shows x (f y)) → (g : code.Statement) → option_map f o ≡ Some g → Shows x g
    one f o k g e = let y = mapped_is f o g e in subst (Shows x) y.2 (k y.0 y.1)

    two : {A B : Type 0} (f : A → B → code.Statement) (a : Option A) (b : Option B) → ((y : A) (z : B) → a ≡ Some y → Shows x (f y z)) → (g : code.Statement) → with_two f a b ≡ Some g → Shows x g
    two f a b k g e = let y = two_are f a b g e in subst (Shows x) y.4 (k y.0 y.1 y.2)

    three : {A B C : Type 0} (f : A → B → C → code.Statement) (a : Option A) (b : Option B) (c : Option C) → ((y : A) (z : B) (w : C) → a ≡ Some y → Shows x (f y z w))
        → (g : code.Statement) → with_three f a b c ≡ Some g → Shows x g
    three f a b c k g e = let y = three_are f a b c g e in subst (Shows x) y.6 (k y.0 y.1 y.2 y.3)

  -- statements that hold no others

  pub var_shows : (line : ℕ) (v : _) (name : List ℕ) (t : Option ValueType) (e : Option tree.Expression) → AllShow (tree.var line v name e) (var_code s t e)
  var_shows line v name t e =
      alone (tree.var line v name e) _
      (two (tree.var line v name e) (code.var s.count) t (if_written (term_of s) e) (λ y z k. quiet (tree.var line v name e) (code.var s.count y z) (λ d home. tt, tt, tt, tt, tt)))

  pub assign_shows : (line : ℕ) (to : tree.Target) (e : tree.Expression) → AllShow (tree.assign line to e) (assign_code s to e)
  assign_shows line to e =
      alone (tree.assign line to e) _
      (two (tree.assign line to e) code.assign (destination_term s to (destination_of s to)) (term_of s e) (λ y z k. quiet (tree.assign line to e) (code.assign y z) (λ d home. tt, tt, tt, tt, tt)))

  module _ (line : ℕ) (name : Option (List ℕ)) (at : ℕ) where
    abbrev By : tree.Operation → tree.Statement
    By o = tree.operate line name at o

    operation_shows : (x : Option Store) (o : tree.Operation) (g : code.Statement) → operation_code h s x o ≡ Some g → Shows (By o) g
    operation_shows x (tree.call f es) =
        two (By (tree.call f es)) (code.call x) (function_number h s f) (call_arguments s f es) (λ y z k. quiet (By (tree.call f es)) (code.call x y z) (λ d home. tt, tt, tt, (f, same_name f, k), tt))
    operation_shows x (tree.read c) = one (By (tree.read c)) (code.read x) (channel_term s c) (λ y k. blocks (By (tree.read c)) (code.read x y) refl (λ e. tt) tt tt tt)
    operation_shows x (tree.nb_read c v) = two (By (tree.nb_read c v)) (code.nb_read x) (channel_term s c) (store s v) (λ y z k. quiet (By (tree.nb_read c v)) (code.nb_read x y z) (λ d home. tt, tt, tt, tt, tt))
    operation_shows x (tree.nb_write c e) =
        three (By (tree.nb_write c e)) (code.nb_write x) (channel_term s c) (put_into s c) (term_of s e) (λ y z w k. quiet (By (tree.nb_write c e)) (code.nb_write x y z w) (λ d home. tt, tt, tt, tt, tt))
    operation_shows x (tree.trylock c) = one (By (tree.trylock c)) (code.trylock x) (channel_term s c) (λ y k. quiet (By (tree.trylock c)) (code.trylock x y) (λ d home. tt, tt, tt, tt, tt))
    operation_shows x (tree.unlock c) = one (By (tree.unlock c)) (code.unlock x) (channel_term s c) (λ y k. quiet (By (tree.unlock c)) (code.unlock x y) (λ d home. tt, tt, tt, tt, tt))
    operation_shows x (tree.sem_trywait c) = one (By (tree.sem_trywait c)) (code.sem_trywait x) (channel_term s c) (λ y k. quiet (By (tree.sem_trywait c)) (code.sem_trywait x y) (λ d home. tt, tt, tt, tt, tt))
    operation_shows x (tree.nb_transport socket p phase delay) = λ g e.
        let y = four_are (code.nb_transport x) (place_of s socket) (use_of s p) (use_of s phase) (use_of s delay) g e in
        subst (Shows (By (tree.nb_transport socket p phase delay))) y.8 (record { free = λ d home names e. tt; plain = λ t u c. absurd (true≢false c); no_trigger = λ e. tt; called = tt; spawned = tt })

    pub operate_shows : (x : Option (Option Store)) (o : tree.Operation) → AllShow (By o) (operate_code h s x o)
    operate_shows None o fs e = cc
    operate_shows (Some x) o fs e = alone (By o) (operation_code h s x o) (operation_shows x o) fs e

  module _ (line : ℕ) where
    abbrev Does : tree.Action → tree.Statement
    Does a = tree.act line a

    notification_shows : (name : List ℕ) (n : tree.Notification) (at : ℕ) (g : code.Statement) → notification_code s n at ≡ Some g → Shows (Does (tree.notify name n)) g
    notification_shows name tree.immediate at = λ g e. subst (Shows (Does (tree.notify name tree.immediate))) (same_some (code.notify at) g e) (quiet (Does (tree.notify name tree.immediate)) (code.notify at) (λ d home. tt, tt, tt, tt, tt))
    notification_shows name tree.next_delta at = λ g e. subst (Shows (Does (tree.notify name tree.next_delta))) (same_some (code.notify_delta at) g e) (quiet (Does (tree.notify name tree.next_delta)) (code.notify_delta at) (λ d home. tt, tt, tt, tt, tt))
    notification_shows name (tree.after t) at = one (Does (tree.notify name (tree.after t))) (code.notify_after at) (term_of s t) (λ y k. quiet (Does (tree.notify name (tree.after t))) (code.notify_after at y) (λ d home. tt, tt, tt, tt, tt))

    -- an action with one part, two parts or three
    action_one : {A : Type 0} (a : tree.Action) (f : A → code.Statement) (o : Option A) → ((y : A) → o ≡ Some y → Shows (Does a) (f y)) → AllShow (Does a) (single (option_map f o))
    action_one a f o k = alone (Does a) (option_map f o) (one (Does a) f o k)

    action_two : {A B : Type 0} (a : tree.Action) (f : A → B → code.Statement) (o : Option A) (p : Option B) → ((y : A) (z : B) → o ≡ Some y → Shows (Does a) (f y z))
        → AllShow (Does a) (single (with_two f o p))
    action_two a f o p k = alone (Does a) (with_two f o p) (two (Does a) f o p k)

    action_three : {A B C : Type 0} (a : tree.Action) (f : A → B → C → code.Statement) (o : Option A) (p : Option B) (q : Option C) → ((y : A) (z : B) (w : C) → o ≡ Some y → Shows (Does a) (f y z w))
        → AllShow (Does a) (single (with_three f o p q))
    action_three a f o p q k = alone (Does a) (with_three f o p q) (three (Does a) f o p q k)

    spawn_shows : (x : tree.Spawn) (p : code.SpawnTerm) → spawn_term h s x ≡ Some p → Shows (Does (tree.spawn x)) (code.spawn p)
    spawn_shows x p e =
        let y = four_are (λ handle f es events. record { handle = handle; kind = spawned_kind x.method; function = f; arguments = es; sensitive = events; dont_initialize = x.dont_initialize })
        (if_written (use_of s) x.handle) (function_number h s x.function) (each (term_of s) x.arguments) (each (static_use s) x.sensitive) p e in
        record {
          free = λ d home names e. tt;
          plain = λ t u c. absurd (true≢false u);
          no_trigger = λ e. tt;
          called = tt;
          spawned = (
            x.function,
            x.method,
            sym (ap (λ (q : code.SpawnTerm). q.kind) y.8),
            both_true (same_way x.method x.method) (bytes_eq x.function x.function) (same_same x.method) (same_name x.function),
            y.5 ∙ ap (λ (q : code.SpawnTerm). Some q.function) y.8,
          );
        }

    pub action_shows : (a : tree.Action) → AllByRecursion (λ x. fault_at constructs x ≡ None) (action_parts s a) → AllShow (Does a) (action_code h s a)
    action_shows (tree.write c e) clean =
        action_three (tree.write c e) code.write (channel_term s c) (written_to s c) (term_of s e)
        (λ y z w k. record { free = write_takes c y clean.0 k; plain = λ t u v. tt; no_trigger = λ e. tt; called = tt; spawned = tt })
    action_shows (tree.print text e) clean = action_one (tree.print text e) (code.print text) (if_written (term_of s) e) (λ y k. quiet (Does (tree.print text e)) (code.print text y) (λ d home. tt, tt, tt, tt, tt))
    action_shows (tree.notify name n) clean =
        alone (Does (tree.notify name n)) (option_and_then (notification_code s n) (place_of s name))
        (λ g e. let y = bound_is (notification_code s n) (place_of s name) g e in notification_shows name n y.0 g y.2)
    action_shows (tree.cancel name) clean = action_one (tree.cancel name) code.cancel (place_of s name) (λ y k. quiet (Does (tree.cancel name)) (code.cancel y) (λ d home. tt, tt, tt, tt, tt))
    action_shows (tree.wait w) clean = action_one (tree.wait w) code.wait (await_term s w) (λ y k. blocks (Does (tree.wait w)) (code.wait y) refl (λ e. tt) tt tt tt)
    action_shows (tree.next_trigger w) clean =
        action_one (tree.next_trigger w) code.next_trigger (await_term s w)
        (λ y k. record { free = λ d home names e. tt; plain = λ t u v. tt; no_trigger = λ e. absurd (true≢false e); called = tt; spawned = tt })
    action_shows (tree.lock c) clean = action_one (tree.lock c) code.lock (channel_term s c) (λ y k. blocks (Does (tree.lock c)) (code.lock y) refl (λ e. tt) tt tt tt)
    action_shows (tree.sem_wait c) clean = action_one (tree.sem_wait c) code.sem_wait (channel_term s c) (λ y k. blocks (Does (tree.sem_wait c)) (code.sem_wait y) refl (λ e. tt) tt tt tt)
    action_shows (tree.post c) clean = action_one (tree.post c) code.post (channel_term s c) (λ y k. quiet (Does (tree.post c)) (code.post y) (λ d home. tt, tt, tt, tt, tt))
    action_shows (tree.make name n enables) clean =
        action_three (tree.make name n enables) code.make (use_of s name) (term_of s n) (if_written (term_of s) enables) (λ y z w k. quiet (Does (tree.make name n enables)) (code.make y z w) (λ d home. tt, tt, tt, tt, tt))
    action_shows (tree.acquire name) clean = action_one (tree.acquire name) code.acquire (use_of s name) (λ y k. quiet (Does (tree.acquire name)) (code.acquire y) (λ d home. tt, tt, tt, tt, tt))
    action_shows (tree.release name) clean = action_one (tree.release name) code.release (use_of s name) (λ y k. quiet (Does (tree.release name)) (code.release y) (λ d home. tt, tt, tt, tt, tt))
    action_shows (tree.carry p m) clean = action_two (tree.carry p m) code.carry (use_of s p) (place_of s m) (λ y z k. quiet (Does (tree.carry p m)) (code.carry y z) (λ d home. tt, tt, tt, tt, tt))
    action_shows (tree.b_transport socket p delay) clean =
        action_three (tree.b_transport socket p delay) code.b_transport (place_of s socket) (use_of s p) (use_of s delay)
        (λ y z w k. blocks (Does (tree.b_transport socket p delay)) (code.b_transport y z w) refl (λ e. absurd (true≢false e)) tt tt tt)
    action_shows (tree.qk_global e) clean = action_one (tree.qk_global e) code.qk_global (term_of s e) (λ y k. quiet (Does (tree.qk_global e)) (code.qk_global y) (λ d home. tt, tt, tt, tt, tt))
    action_shows (tree.qk_inc name e) clean = action_two (tree.qk_inc name e) code.qk_inc (place_of s name) (term_of s e) (λ y z k. quiet (Does (tree.qk_inc name e)) (code.qk_inc y z) (λ d home. tt, tt, tt, tt, tt))
    action_shows (tree.qk_set name e) clean = action_two (tree.qk_set name e) code.qk_set (place_of s name) (term_of s e) (λ y z k. quiet (Does (tree.qk_set name e)) (code.qk_set y z) (λ d home. tt, tt, tt, tt, tt))
    action_shows (tree.qk_reset name) clean = action_one (tree.qk_reset name) code.qk_reset (place_of s name) (λ y k. quiet (Does (tree.qk_reset name)) (code.qk_reset y) (λ d home. tt, tt, tt, tt, tt))
    action_shows (tree.qk_sync name) clean = λ fs e.
        let y = mapped_is synced (place_of s name) fs e in
        subst (EachShows (Does (tree.qk_sync name))) y.2
        (blocks (Does (tree.qk_sync name)) _ refl (λ e. tt) tt tt tt, (blocks (Does (tree.qk_sync name)) (code.qk_reset y.0) refl (λ e. tt) tt tt tt, tt))
    action_shows (tree.spawn x) clean = action_one (tree.spawn x) code.spawn (spawn_term h s x) (spawn_shows x)
    action_shows (tree.control c w all) clean = action_one (tree.control c w all) (λ q. code.control c q all) (controlled_by s w) (λ y k. quiet (Does (tree.control c w all)) (code.control c y all) (λ d home. tt, tt, tt, tt, tt))
    action_shows (tree.throw_it w name all) clean =
        action_two (tree.throw_it w name all) (λ q e. code.throw_it q e all) (controlled_by s w) (exception_number h name) (λ y z k. quiet (Does (tree.throw_it w name all)) (code.throw_it y z all) (λ d home. tt, tt, tt, tt, tt))
    action_shows (tree.throw name) clean =
        action_one (tree.throw name) code.throw (exception_number h name)
        (λ y k. record { free = λ d home names e. tt; plain = λ t u v. absurd (true≢false t); no_trigger = λ e. tt; called = tt; spawned = tt })
    action_shows (tree.return_ e) clean = action_one (tree.return_ e) code.return_ (if_written (term_of s) e) (λ y k. quiet (Does (tree.return_ e)) (code.return_ y) (λ d home. tt, tt, tt, tt, tt))
    action_shows tree.stop clean = alone (Does tree.stop) (Some code.stop) (λ g e. subst (Shows (Does tree.stop)) (same_some code.stop g e) (quiet (Does tree.stop) code.stop (λ d home. tt, tt, tt, tt, tt)))
