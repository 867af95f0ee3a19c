-- To which local variables the code of a statement that holds no others stores, where the statement names no `tick_again`.
use Rattle.std.proofs.Common.{◌≡◌, ◌≤◌, ℕ, Bool, true, false, cond, List, [], ◌∷◌, ◌++◌, Option, Some, None, option_map, refl, sym, subst, arith}
use Rattle.std.specs.Prelude.{option_and_then, find, position, bytes_eq}
use Rattle.std.specs.List.{AllByRecursion}
use Rattle.std.specs.Option.{option_or}
use Rattle.std.proofs.lemmas.Slice.Eq.{bytes_eq-Decides}
use Rattle.code_rules.specs.ModelTree.Tree as tree
use Rattle.code_rules.specs.ModelTree.declared.types.Parameter.{Parameter}
use Rattle.code_rules.specs.FlatDesign.Code as code
use Rattle.code_rules.specs.FlatDesign.Code.{ArgumentTerm, DestinationTerm, SpawnTerm, Term}
use Rattle.code_rules.specs.FlatDesign.Reach.{inner_blocks}
use Rattle.code_rules.specs.FlatDesign.declared.code.Store.{Store}
use Rattle.code_rules.specs.FlatDesign.declared.names.NameUse.{NameUse}
use Rattle.code_rules.specs.FlatDesign.declared.names.NameUse.TheVariants as name_use
use Rattle.code_rules.specs.FlatDesign.declared.value_types.ValueType.{ValueType}
use Rattle.code_rules.specs.ModelRules.Meanings.{declarations}
use Rattle.code_rules.specs.ModelRules.Scopes.{Scope, Local, is_local, is_declared, local_named, use_of, place_of, function_named}
use Rattle.code_rules.specs.ModelRules.Targets.{destination_of, variable_named, put_into, written_to}
use Rattle.code_rules.specs.ModelRules.declared.meanings.Destination.{Destination}
use Rattle.code_rules.specs.ModelRules.declared.meanings.Destination.TheVariants as to
use Rattle.code_rules.specs.Terms.{term_of}
use Rattle.code_rules.specs.Deeds.{Home, with_two, with_three, with_four, if_written, single, store, destination_term, to_index, argument, arguments, call_arguments, function_number, operation_code, notification_code, action_code, spawn_term, channel_term, await_term, controlled_by, exception_number, synced, static_use, each}
use Rattle.code_rules.specs.Numbered.{var_code, assign_code, operate_code}
use Rattle.expanded_text.specs.Named.{Names, name_if, in_expression, in_expressions, in_operation, in_action, in_channel, in_events}
use Rattle.expanded_text.specs.Clocked.{again_name, is_kept, has_kept, Avoids}
use Rattle.laws_clocked.specs.Stores.{StoresTo, StoresIf, StoresTarget, StoresArguments, StoresDestination, OnlyStores}
use Rattle.laws_clocked.proofs.Lookups.{none_left, none_right, not_again}
use Rattle.laws_clocked.proofs.Walk.{all_parts}

-- ---- what is there

two_is : {A B C : Type 0} (f : A → B → C) (a : Option A) (b : Option B) (c : C) → with_two f a b ≡ Some c → (x : A) × (y : B) × (a ≡ Some x) × (b ≡ Some y) × (f x y ≡ c)
two_is f None b c e = cc
two_is f (Some x) None c e = cc
two_is f (Some x) (Some y) c e = (x, y, refl, refl, cc)

three_is : {A B C D : Type 0} (f : A → B → C → D) (a : Option A) (b : Option B) (c : Option C) (d : D) → with_three f a b c ≡ Some d
    → (x : A) × (y : B) × (z : C) × (a ≡ Some x) × (b ≡ Some y) × (c ≡ Some z) × (f x y z ≡ d)
three_is f None b c d e = cc
three_is f (Some x) None c d e = cc
three_is f (Some x) (Some y) None d e = cc
three_is f (Some x) (Some y) (Some z) d e = (x, y, z, refl, refl, refl, cc)

four_is : {A B C D E : Type 0} (f : A → B → C → D → E) (a : Option A) (b : Option B) (c : Option C) (d : Option D) (r : E) → with_four f a b c d ≡ Some r
    → (x : A) × (y : B) × (z : C) × (w : D) × (a ≡ Some x) × (b ≡ Some y) × (c ≡ Some z) × (d ≡ Some w) × (f x y z w ≡ r)
four_is f None b c d r e = cc
four_is f (Some x) None c d r e = cc
four_is f (Some x) (Some y) None d r e = cc
four_is f (Some x) (Some y) (Some z) None r e = cc
four_is f (Some x) (Some y) (Some z) (Some w) r e = (x, y, z, w, refl, refl, refl, refl, cc)

map_is : {A B : Type 0} (f : A → B) (a : Option A) (b : B) → option_map f a ≡ Some b → (x : A) × (a ≡ Some x) × (f x ≡ b)
map_is f None b e = cc
map_is f (Some x) b e = (x, refl, cc)

then_is : {A B : Type 0} (f : A → Option B) (a : Option A) (b : B) → option_and_then f a ≡ Some b → (x : A) × (a ≡ Some x) × (f x ≡ Some b)
then_is f None b e = cc
then_is f (Some x) b e = (x, refl, e)

-- ---- names that are not `tick_again`

abbrev pub NotAgain : Names → Type 0
NotAgain xs = AllByRecursion (λ x. bytes_eq x again_name ≡ false) xs

pub avoids_again : (xs : Names) → Avoids xs → NotAgain xs
avoids_again [] e = tt
avoids_again (x ∷ xs) e = (not_again x (none_left (is_kept x) (has_kept xs) e), avoids_again xs (none_right (is_kept x) (has_kept xs) e))

pub not_again_left : (xs ys : Names) → NotAgain (xs ++ ys) → NotAgain xs
not_again_left xs ys k = (all_parts (λ x. bytes_eq x again_name ≡ false) xs ys k).0

pub not_again_right : (xs ys : Names) → NotAgain (xs ++ ys) → NotAgain ys
not_again_right xs ys k = (all_parts (λ x. bytes_eq x again_name ≡ false) xs ys k).1

module _ (P : ℕ → Type 0) where
  -- of a place: the number of each local variable that is visible, and of another name than the loop's, is so, and each that is declared later
  abbrev pub Fits : Scope → Type 0
  Fits s = AllByRecursion (λ (l : Local). bytes_eq l.name again_name ≡ false → P l.number) s.locals × ((n : ℕ) → s.count ≤ n → P n)

  by_truth : (b : Bool) (l m : Local) (o : Option Local) (x : List ℕ) → b ≡ bytes_eq l.name x → bytes_eq x again_name ≡ false → (bytes_eq l.name again_name ≡ false → P l.number)
      → (o ≡ Some m → P m.number) → cond b (Some l) o ≡ Some m → P m.number
  by_truth true l m o x same apart first rest e =
      let named : l.name ≡ x = (bytes_eq-Decides l.name x).0 (sym same) in
      let here : l ≡ m = cc in
      subst (λ (y : Local). P y.number) here (first (subst (λ y. bytes_eq y again_name ≡ false) (sym named) apart))
  by_truth false l m o x same apart first rest e = rest e

  found_fits : (ls : List Local) (x : List ℕ) (m : Local) → AllByRecursion (λ (l : Local). bytes_eq l.name again_name ≡ false → P l.number) ls → bytes_eq x again_name ≡ false → find (is_local x) ls ≡ Some m → P m.number
  found_fits [] x m all apart e = cc
  found_fits (l ∷ ls) x m all apart e = by_truth (bytes_eq l.name x) l m (find (is_local x) ls) x refl apart all.0 (found_fits ls x m all.1 apart) e

  by_local : (s : Scope) (x : List ℕ) (o : Option Local) (p : Option ℕ) (u : NameUse) → ((l : Local) → o ≡ Some l → P l.number)
      → option_or (option_map (λ (l : Local). name_use.Local l.number) o) (option_map name_use.Declared p) ≡ Some u → StoresTo P u
  by_local s x (Some l) p u all e = let same : name_use.Local l.number ≡ u = cc in subst (StoresTo P) same (all l refl)
  by_local s x None None u all e = cc
  by_local s x None (Some n) u all e = let same : name_use.Declared n ≡ u = cc in subst (StoresTo P) same tt

  -- a statement without blocks, which stores to no others
  abbrev pub Leaf : code.Statement → Type 0
  Leaf f = OnlyStores P f × (inner_blocks f ≡ [])

  module _ (s : Scope) (fits : Fits s) where
    use_fits : (x : List ℕ) (u : NameUse) → bytes_eq x again_name ≡ false → use_of s x ≡ Some u → StoresTo P u
    use_fits x u apart e = by_local s x (local_named s x) (position (is_declared x) (declarations s.items)) u (λ l found. found_fits s.locals x l fits.0 apart found) e

    store_fits : (x : List ℕ) (t : Store) → bytes_eq x again_name ≡ false → store s x ≡ Some t → StoresTo P t.name
    store_fits x t apart e =
        let r = two_is _ (use_of s x) (variable_named s x) t e in
        subst (λ (y : Store). StoresTo P y.name) r.4 (use_fits x r.0 apart r.2)

    abbrev pub All : List code.Statement → Type 0
    All fs = AllByRecursion Leaf fs

    single_fits : (o : Option code.Statement) (fs : List code.Statement) → ((f : code.Statement) → o ≡ Some f → Leaf f) → single o ≡ Some fs → All fs
    single_fits o fs each e = let r = map_is (λ f. f ∷ []) o fs e in subst All r.2 (each r.0 r.1, tt)

    pub var_fits : (t : Option ValueType) (e : Option tree.Expression) (fs : List code.Statement) → var_code s t e ≡ Some fs → All fs
    var_fits t e fs k =
        single_fits (with_two (code.var s.count) t (if_written (term_of s) e)) fs
        (λ f g. let r = two_is (code.var s.count) t (if_written (term_of s) e) f g in subst Leaf r.4 ((fits.1 s.count (omega arith)), refl)) k

    destination_fits : (target : tree.Target) (d : Destination) (x : DestinationTerm) → bytes_eq target.name again_name ≡ false → destination_term s target d ≡ Some x → StoresDestination P x
    destination_fits target to.Nowhere x apart e = cc
    destination_fits target (to.Variable t) x apart e =
        let r = map_is code.to_name (store s target.name) x e in subst (StoresDestination P) r.2 (store_fits target.name r.0 apart r.1)
    destination_fits target (to.Field f) x apart e = let r = map_is (λ n. code.to_field n f) (use_of s target.name) x e in subst (StoresDestination P) r.2 tt
    destination_fits target (to.Byte b) x apart e =
        let r = then_is (λ n. to_index (code.to_payload_byte n b) s target.index) (use_of s target.name) x e in
        index_fits (code.to_payload_byte r.0 b) target.index x (λ i. tt) r.2
      where
        index_fits : (f : Term → DestinationTerm) (o : Option tree.Expression) (y : DestinationTerm) → ((i : Term) → StoresDestination P (f i)) → to_index f s o ≡ Some y → StoresDestination P y
        index_fits f None y each g = cc
        index_fits f (Some i) y each g = let q = map_is f (term_of s i) y g in subst (StoresDestination P) q.2 (each q.0)
    destination_fits target to.Element x apart e =
        let r = then_is (λ n. to_index (code.to_element n) s target.index) (place_of s target.name) x e in
        element_fits (code.to_element r.0) target.index x (λ i. tt) r.2
      where
        element_fits : (f : Term → DestinationTerm) (o : Option tree.Expression) (y : DestinationTerm) → ((i : Term) → StoresDestination P (f i)) → to_index f s o ≡ Some y → StoresDestination P y
        element_fits f None y each g = cc
        element_fits f (Some i) y each g = let q = map_is f (term_of s i) y g in subst (StoresDestination P) q.2 (each q.0)

    pub assign_fits : (target : tree.Target) (e : tree.Expression) (fs : List code.Statement) → bytes_eq target.name again_name ≡ false → assign_code s target e ≡ Some fs → All fs
    assign_fits target e fs apart k =
        single_fits (with_two code.assign (destination_term s target (destination_of s target)) (term_of s e)) fs
        (λ f g. let r = two_is code.assign (destination_term s target (destination_of s target)) (term_of s e) f g in
        subst Leaf r.4 ((destination_fits target (destination_of s target) r.0 apart r.2), refl)) k

    -- ---- operations

    target_fits : (name : Option (List ℕ)) (x : Option Store) → NotAgain (name_if name) → if_written (store s) name ≡ Some x → StoresTarget P x
    target_fits None x av e = let same : None ≡ x = cc in subst (StoresTarget P) same tt
    target_fits (Some n) x av e = let r = map_is Some (store s n) x e in subst (StoresTarget P) r.2 (store_fits n r.0 (av.0) r.1)

    handle_fits : (name : Option (List ℕ)) (x : Option NameUse) → NotAgain (name_if name) → if_written (use_of s) name ≡ Some x → StoresIf P x
    handle_fits None x av e = let same : None ≡ x = cc in subst (StoresIf P) same tt
    handle_fits (Some n) x av e = let r = map_is Some (use_of s n) x e in subst (StoresIf P) r.2 (use_fits n r.0 (av.0) r.1)

    argument_fits : (b : Bool) (e : tree.Expression) (x : ArgumentTerm) (more : List ArgumentTerm) → NotAgain (in_expression e) → argument s b e ≡ Some x → StoresArguments P more → StoresArguments P (x ∷ more)
    argument_fits false e x more av k rest = let r = map_is code.by_value (term_of s e) x k in subst (λ y. StoresArguments P (y ∷ more)) r.2 rest
    argument_fits true (tree.number line v) x more av k rest = cc
    argument_fits true (tree.time line v u) x more av k rest = cc
    argument_fits true (tree.logic line ds) x more av k rest = cc
    argument_fits true (tree.truth line b) x more av k rest = cc
    argument_fits true (tree.now line) x more av k rest = cc
    argument_fits true (tree.myself line) x more av k rest = cc
    argument_fits true (tree.constant line c) x more av k rest = cc
    argument_fits true (tree.paren line e) x more av k rest = cc
    argument_fits true (tree.convert line c e) x more av k rest = cc
    argument_fits true (tree.to_vector line width e) x more av k rest = cc
    argument_fits true (tree.concat line upper lower) x more av k rest = cc
    argument_fits true (tree.named line n) x more av k rest = let r = map_is code.inout (use_of s n) x k in subst (λ y. StoresArguments P (y ∷ more)) r.2 (use_fits n r.0 (av.0) r.1, rest)
    argument_fits true (tree.placed line n at) x more av k rest = cc
    argument_fits true (tree.placed_by line n e) x more av k rest = cc
    argument_fits true (tree.member e n) x more av k rest = cc
    argument_fits true (tree.element e index) x more av k rest = cc
    argument_fits true (tree.slice e high low) x more av k rest = cc
    argument_fits true (tree.unary line o e) x more av k rest = cc
    argument_fits true (tree.binary o left right) x more av k rest = cc

    arguments_fit : (ps : List Parameter) (es : List tree.Expression) (xs : List ArgumentTerm) → NotAgain (in_expressions es) → arguments s ps es ≡ Some xs → StoresArguments P xs
    arguments_fit [] [] xs av k = let same : [] ≡ xs = cc in subst (StoresArguments P) same tt
    arguments_fit [] (e ∷ es) xs av k = cc
    arguments_fit (p ∷ ps) [] xs av k = cc
    arguments_fit (p ∷ ps) (e ∷ es) xs av k =
        let r = two_is (λ y ys. y ∷ ys) (argument s p.inout e) (arguments s ps es) xs k in
        subst (StoresArguments P) r.4
        (argument_fits p.inout e r.0 r.1 (not_again_left (in_expression e) (in_expressions es) av) r.2 (arguments_fit ps es r.1 (not_again_right (in_expression e) (in_expressions es) av) r.3))

    operation_fits : (h : Home) (x : Option Store) (o : tree.Operation) (f : code.Statement) → StoresTarget P x → NotAgain (in_operation o) → operation_code h s x o ≡ Some f → Leaf f
    operation_fits h x (tree.call name es) f target av k =
        let r = two_is (code.call x) (function_number h s name) (call_arguments s name es) f k in
        let q = then_is (λ (y : tree.FunctionItem). arguments s y.parameters es) (function_named s.items name) r.1 r.3 in
        subst Leaf r.4 ((target, arguments_fit q.0.parameters es r.1 (av.1) q.2), refl)
    operation_fits h x (tree.read c) f target av k = let r = map_is (code.read x) (channel_term s c) f k in subst Leaf r.2 (target, refl)
    operation_fits h x (tree.nb_read c name) f target av k =
        let r = two_is (code.nb_read x) (channel_term s c) (store s name) f k in
        subst Leaf r.4 ((target, store_fits name r.1 (not_again_right (in_channel c) (name ∷ []) av).0 r.3), refl)
    operation_fits h x (tree.nb_write c e) f target av k = let r = three_is (code.nb_write x) (channel_term s c) (put_into s c) (term_of s e) f k in subst Leaf r.6 (target, refl)
    operation_fits h x (tree.trylock c) f target av k = let r = map_is (code.trylock x) (channel_term s c) f k in subst Leaf r.2 (target, refl)
    operation_fits h x (tree.unlock c) f target av k = let r = map_is (code.unlock x) (channel_term s c) f k in subst Leaf r.2 (target, refl)
    operation_fits h x (tree.sem_trywait c) f target av k = let r = map_is (code.sem_trywait x) (channel_term s c) f k in subst Leaf r.2 (target, refl)
    operation_fits h x (tree.nb_transport socket p phase delay) f target av k =
        let r = four_is (code.nb_transport x) (place_of s socket) (use_of s p) (use_of s phase) (use_of s delay) f k in
        let third = av.1.1 in
        subst Leaf r.8 ((target, use_fits phase r.2 (third.0) r.6, use_fits delay r.3 third.1.0 r.7), refl)

    operate_by : (h : Home) (name : Option (List ℕ)) (o : tree.Operation) (x : Option (Option Store)) (fs : List code.Statement) → if_written (store s) name ≡ x → NotAgain (name_if name ++ in_operation o) → operate_code h s x o ≡ Some fs → All fs
    operate_by h name o None fs same av k = cc
    operate_by h name o (Some x) fs same av k =
        single_fits (operation_code h s x o) fs
        (λ f g. operation_fits h x o f (target_fits name x (not_again_left (name_if name) (in_operation o) av) same) (not_again_right (name_if name) (in_operation o) av) g) k

    pub operate_fits : (h : Home) (name : Option (List ℕ)) (o : tree.Operation) (fs : List code.Statement) → NotAgain (name_if name ++ in_operation o) → operate_code h s (if_written (store s) name) o ≡ Some fs → All fs
    operate_fits h name o fs av k = operate_by h name o (if_written (store s) name) fs refl av k

    -- ---- actions

    notification_fits : (n : tree.Notification) (p : ℕ) (f : code.Statement) → notification_code s n p ≡ Some f → Leaf f
    notification_fits tree.immediate p f k = let same : code.notify p ≡ f = cc in subst Leaf same (tt, refl)
    notification_fits tree.next_delta p f k = let same : code.notify_delta p ≡ f = cc in subst Leaf same (tt, refl)
    notification_fits (tree.after e) p f k = let r = map_is (code.notify_after p) (term_of s e) f k in subst Leaf r.2 (tt, refl)

    -- a form that stores nothing
    mapped_fits : {A : Type 0} (g : A → code.Statement) (o : Option A) (fs : List code.Statement) → ((x : A) → Leaf (g x)) → single (option_map g o) ≡ Some fs → All fs
    mapped_fits g o fs each k = single_fits (option_map g o) fs (λ f e. let r = map_is g o f e in subst Leaf r.2 (each r.0)) k

    pub action_fits : (h : Home) (a : tree.Action) (fs : List code.Statement) → NotAgain (in_action a) → action_code h s a ≡ Some fs → All fs
    action_fits h (tree.write c e) fs av k =
        single_fits (with_three code.write (channel_term s c) (written_to s c) (term_of s e)) fs (λ f g. let r = three_is code.write (channel_term s c) (written_to s c) (term_of s e) f g in subst Leaf r.6 (tt, refl)) k
    action_fits h (tree.print text e) fs av k = mapped_fits (code.print text) (if_written (term_of s) e) fs (λ x. (tt, refl)) k
    action_fits h (tree.notify name n) fs av k =
        single_fits (option_and_then (notification_code s n) (place_of s name)) fs (λ f g. let r = then_is (notification_code s n) (place_of s name) f g in notification_fits n r.0 f r.2) k
    action_fits h (tree.cancel name) fs av k = mapped_fits code.cancel (place_of s name) fs (λ x. (tt, refl)) k
    action_fits h (tree.wait w) fs av k = mapped_fits code.wait (await_term s w) fs (λ x. (tt, refl)) k
    action_fits h (tree.next_trigger w) fs av k = mapped_fits code.next_trigger (await_term s w) fs (λ x. (tt, refl)) k
    action_fits h (tree.lock c) fs av k = mapped_fits code.lock (channel_term s c) fs (λ x. (tt, refl)) k
    action_fits h (tree.sem_wait c) fs av k = mapped_fits code.sem_wait (channel_term s c) fs (λ x. (tt, refl)) k
    action_fits h (tree.post c) fs av k = mapped_fits code.post (channel_term s c) fs (λ x. (tt, refl)) k
    action_fits h (tree.make name n enables) fs av k =
        single_fits (with_three code.make (use_of s name) (term_of s n) (if_written (term_of s) enables)) fs
        (λ f g. let r = three_is code.make (use_of s name) (term_of s n) (if_written (term_of s) enables) f g in
        subst Leaf r.6 ((use_fits name r.0 (av.0) r.3), refl)) k
    action_fits h (tree.acquire name) fs av k = mapped_fits code.acquire (use_of s name) fs (λ x. (tt, refl)) k
    action_fits h (tree.release name) fs av k = mapped_fits code.release (use_of s name) fs (λ x. (tt, refl)) k
    action_fits h (tree.carry p m) fs av k =
        single_fits (with_two code.carry (use_of s p) (place_of s m)) fs (λ f g. let r = two_is code.carry (use_of s p) (place_of s m) f g in subst Leaf r.4 (tt, refl)) k
    action_fits h (tree.b_transport socket p delay) fs av k =
        single_fits (with_three code.b_transport (place_of s socket) (use_of s p) (use_of s delay)) fs
        (λ f g. let r = three_is code.b_transport (place_of s socket) (use_of s p) (use_of s delay) f g in
        subst Leaf r.6 ((use_fits delay r.2 av.1.1.0 r.5), refl)) k
    action_fits h (tree.qk_global e) fs av k = mapped_fits code.qk_global (term_of s e) fs (λ x. (tt, refl)) k
    action_fits h (tree.qk_inc name e) fs av k =
        single_fits (with_two code.qk_inc (place_of s name) (term_of s e)) fs (λ f g. let r = two_is code.qk_inc (place_of s name) (term_of s e) f g in subst Leaf r.4 (tt, refl)) k
    action_fits h (tree.qk_set name e) fs av k =
        single_fits (with_two code.qk_set (place_of s name) (term_of s e)) fs (λ f g. let r = two_is code.qk_set (place_of s name) (term_of s e) f g in subst Leaf r.4 (tt, refl)) k
    action_fits h (tree.qk_reset name) fs av k = mapped_fits code.qk_reset (place_of s name) fs (λ x. (tt, refl)) k
    action_fits h (tree.qk_sync name) fs av k = let r = map_is synced (place_of s name) fs k in subst All r.2 ((tt, refl), ((tt, refl), tt))
    action_fits h (tree.spawn x) fs av k =
        single_fits (option_map code.spawn (spawn_term h s x)) fs
        (λ f g. let r = map_is code.spawn (spawn_term h s x) f g in subst Leaf r.2 ((spawn_fits r.0 r.1), refl)) k
      where
        spawn_fits : (t : SpawnTerm) → spawn_term h s x ≡ Some t → StoresIf P t.handle
        spawn_fits t e =
            let r = four_is _ (if_written (use_of s) x.handle) (function_number h s x.function) (each (term_of s) x.arguments) (each (static_use s) x.sensitive) t e in
            subst (λ (y : SpawnTerm). StoresIf P y.handle) r.8 (handle_fits x.handle r.0 (not_again_left (name_if x.handle) (x.function ∷ (in_expressions x.arguments ++ in_events x.sensitive)) av) r.4)
    action_fits h (tree.control c w all) fs av k = mapped_fits (λ q. code.control c q all) (controlled_by s w) fs (λ x. (tt, refl)) k
    action_fits h (tree.throw_it w name all) fs av k =
        single_fits (with_two (λ q e. code.throw_it q e all) (controlled_by s w) (exception_number h name)) fs
        (λ f g. let r = two_is (λ q e. code.throw_it q e all) (controlled_by s w) (exception_number h name) f g in subst Leaf r.4 (tt, refl)) k
    action_fits h (tree.throw name) fs av k = mapped_fits code.throw (exception_number h name) fs (λ x. (tt, refl)) k
    action_fits h (tree.return_ e) fs av k = mapped_fits code.return_ (if_written (term_of s) e) fs (λ x. (tt, refl)) k
    action_fits h tree.stop fs av k = let same : code.stop ∷ [] ≡ fs = cc in subst All same ((tt, refl), tt)
