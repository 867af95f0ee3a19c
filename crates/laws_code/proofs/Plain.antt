-- The code of statements that hold no others has no inner blocks.
use Rattle.std.proofs.Common.{◌≡◌, ℕ, List, [], ◌∷◌, Option, Some, None, refl, subst}
use Rattle.std.specs.Prelude.{option_map, option_and_then}
use Rattle.code_rules.specs.ModelTree.Tree as tree
use Rattle.code_rules.specs.FlatDesign.Code as code
use Rattle.code_rules.specs.FlatDesign.Reach.{inner_blocks}
use Rattle.code_rules.specs.FlatDesign.Typed.{EachOf}
use Rattle.code_rules.specs.FlatDesign.declared.value_types.ValueType.{ValueType}
use Rattle.code_rules.specs.FlatDesign.declared.code.Store.{Store}
use Rattle.code_rules.specs.ModelRules.Scopes.{Scope, use_of, place_of}
use Rattle.code_rules.specs.ModelRules.Targets.{written_to, put_into, destination_of}
use Rattle.code_rules.specs.Terms.{term_of}
use Rattle.code_rules.specs.Deeds.{Home, with_two, with_three, with_four, if_written, single, store, channel_term, await_term, call_arguments, controlled_by, function_number, exception_number, destination_term, operation_code, notification_code, synced, spawn_term, action_code}
use Rattle.code_rules.specs.Numbered.{var_code, assign_code, operate_code}
use Rattle.laws_code.proofs.Coded.{same_some}

abbrev pub HasNoBlocks : code.Statement → Type 0
HasNoBlocks f = inner_blocks f ≡ []

abbrev pub NoneHasBlocks : List code.Statement → Type 0
NoneHasBlocks fs = EachOf HasNoBlocks fs

-- whatever is there is so
abbrev pub Only : {A : Type 0} → (A → Type 0) → Option A → Type 0
Only {A} P o = (x : A) → o ≡ Some x → P x

only_here : {A : Type 0} (P : A → Type 0) (x : A) → P x → Only P (Some x)
only_here P x p y e = subst P (same_some x y e) p

only_map : {A B : Type 0} (P : B → Type 0) (f : A → B) (o : Option A) → ((x : A) → P (f x)) → Only P (option_map f o)
only_map P f None g y e = cc
only_map P f (Some x) g y e = subst P (same_some (f x) y e) (g x)

only_bind : {A B : Type 0} (P : B → Type 0) (f : A → Option B) (o : Option A) → ((x : A) → Only P (f x)) → Only P (option_and_then f o)
only_bind P f None g y e = cc
only_bind P f (Some x) g y e = g x y e

only_two : {A B C : Type 0} (P : C → Type 0) (f : A → B → C) (a : Option A) (b : Option B) → ((x : A) (y : B) → P (f x y)) → Only P (with_two f a b)
only_two P f None b g z e = cc
only_two P f (Some x) None g z e = cc
only_two P f (Some x) (Some y) g z e = subst P (same_some (f x y) z e) (g x y)

only_three : {A B C D : Type 0} (P : D → Type 0) (f : A → B → C → D) (a : Option A) (b : Option B) (c : Option C) → ((x : A) (y : B) (z : C) → P (f x y z)) → Only P (with_three f a b c)
only_three P f None b c g z e = cc
only_three P f (Some x) None c g z e = cc
only_three P f (Some x) (Some y) None g z e = cc
only_three P f (Some x) (Some y) (Some w) g z e = subst P (same_some (f x y w) z e) (g x y w)

only_four : {A B C D E : Type 0} (P : E → Type 0) (f : A → B → C → D → E) (a : Option A) (b : Option B) (c : Option C) (d : Option D) → ((x : A) (y : B) (z : C) (w : D) → P (f x y z w)) → Only P (with_four f a b c d)
only_four P f None b c d g z e = cc
only_four P f (Some x) None c d g z e = cc
only_four P f (Some x) (Some y) None d g z e = cc
only_four P f (Some x) (Some y) (Some w) None g z e = cc
only_four P f (Some x) (Some y) (Some w) (Some v) g z e = subst P (same_some (f x y w v) z e) (g x y w v)

only_single : (o : Option code.Statement) → Only HasNoBlocks o → Only NoneHasBlocks (single o)
only_single None k y e = cc
only_single (Some x) k y e = subst NoneHasBlocks (same_some (x ∷ []) y e) (k x refl, tt)

pub var_plain : (s : Scope) (t : Option ValueType) (e : Option tree.Expression) → Only NoneHasBlocks (var_code s t e)
var_plain s t e = only_single _ (only_two HasNoBlocks (code.var s.count) t (if_written (term_of s) e) (λ x y. refl))

pub assign_plain : (s : Scope) (x : tree.Target) (e : tree.Expression) → Only NoneHasBlocks (assign_code s x e)
assign_plain s x e = only_single _ (only_two HasNoBlocks code.assign (destination_term s x (destination_of s x)) (term_of s e) (λ y z. refl))

operation_plain : (h : Home) (s : Scope) (x : Option Store) (o : tree.Operation) → Only HasNoBlocks (operation_code h s x o)
operation_plain h s x (tree.call name es) = only_two HasNoBlocks (code.call x) (function_number h s name) (call_arguments s name es) (λ y z. refl)
operation_plain h s x (tree.read c) = only_map HasNoBlocks (code.read x) (channel_term s c) (λ y. refl)
operation_plain h s x (tree.nb_read c name) = only_two HasNoBlocks (code.nb_read x) (channel_term s c) (store s name) (λ y z. refl)
operation_plain h s x (tree.nb_write c e) = only_three HasNoBlocks (code.nb_write x) (channel_term s c) (put_into s c) (term_of s e) (λ y z w. refl)
operation_plain h s x (tree.trylock c) = only_map HasNoBlocks (code.trylock x) (channel_term s c) (λ y. refl)
operation_plain h s x (tree.unlock c) = only_map HasNoBlocks (code.unlock x) (channel_term s c) (λ y. refl)
operation_plain h s x (tree.sem_trywait c) = only_map HasNoBlocks (code.sem_trywait x) (channel_term s c) (λ y. refl)
operation_plain h s x (tree.nb_transport socket p phase delay) = only_four HasNoBlocks (code.nb_transport x) (place_of s socket) (use_of s p) (use_of s phase) (use_of s delay) (λ y z w v. refl)

pub operate_plain : (h : Home) (s : Scope) (x : Option (Option Store)) (o : tree.Operation) → Only NoneHasBlocks (operate_code h s x o)
operate_plain h s None o y e = cc
operate_plain h s (Some x) o y e = only_single (operation_code h s x o) (operation_plain h s x o) y e

notification_plain : (s : Scope) (n : tree.Notification) (at : ℕ) → Only HasNoBlocks (notification_code s n at)
notification_plain s tree.immediate at = only_here HasNoBlocks (code.notify at) refl
notification_plain s tree.next_delta at = only_here HasNoBlocks (code.notify_delta at) refl
notification_plain s (tree.after e) at = only_map HasNoBlocks (code.notify_after at) (term_of s e) (λ y. refl)

module _ (h : Home) (s : Scope) where
  one : {A : Type 0} (f : A → code.Statement) (o : Option A) → ((x : A) → HasNoBlocks (f x)) → Only NoneHasBlocks (single (option_map f o))
  one f o g = only_single (option_map f o) (only_map HasNoBlocks f o g)

  two : {A B : Type 0} (f : A → B → code.Statement) (a : Option A) (b : Option B) → ((x : A) (y : B) → HasNoBlocks (f x y)) → Only NoneHasBlocks (single (with_two f a b))
  two f a b g = only_single (with_two f a b) (only_two HasNoBlocks f a b g)

  three : {A B C : Type 0} (f : A → B → C → code.Statement) (a : Option A) (b : Option B) (c : Option C) → ((x : A) (y : B) (z : C) → HasNoBlocks (f x y z)) → Only NoneHasBlocks (single (with_three f a b c))
  three f a b c g = only_single (with_three f a b c) (only_three HasNoBlocks f a b c g)

  pub action_plain : (a : tree.Action) → Only NoneHasBlocks (action_code h s a)
  action_plain (tree.write c e) = three code.write (channel_term s c) (written_to s c) (term_of s e) (λ x y z. refl)
  action_plain (tree.print text e) = one (code.print text) (if_written (term_of s) e) (λ x. refl)
  action_plain (tree.notify name n) = only_single (option_and_then (notification_code s n) (place_of s name)) (only_bind HasNoBlocks (notification_code s n) (place_of s name) (notification_plain s n))
  action_plain (tree.cancel name) = one code.cancel (place_of s name) (λ x. refl)
  action_plain (tree.wait w) = one code.wait (await_term s w) (λ x. refl)
  action_plain (tree.next_trigger w) = one code.next_trigger (await_term s w) (λ x. refl)
  action_plain (tree.lock c) = one code.lock (channel_term s c) (λ x. refl)
  action_plain (tree.sem_wait c) = one code.sem_wait (channel_term s c) (λ x. refl)
  action_plain (tree.post c) = one code.post (channel_term s c) (λ x. refl)
  action_plain (tree.make name n enables) = three code.make (use_of s name) (term_of s n) (if_written (term_of s) enables) (λ x y z. refl)
  action_plain (tree.acquire name) = one code.acquire (use_of s name) (λ x. refl)
  action_plain (tree.release name) = one code.release (use_of s name) (λ x. refl)
  action_plain (tree.carry p m) = two code.carry (use_of s p) (place_of s m) (λ x y. refl)
  action_plain (tree.b_transport socket p delay) = three code.b_transport (place_of s socket) (use_of s p) (use_of s delay) (λ x y z. refl)
  action_plain (tree.qk_global e) = one code.qk_global (term_of s e) (λ x. refl)
  action_plain (tree.qk_inc name e) = two code.qk_inc (place_of s name) (term_of s e) (λ x y. refl)
  action_plain (tree.qk_set name e) = two code.qk_set (place_of s name) (term_of s e) (λ x y. refl)
  action_plain (tree.qk_reset name) = one code.qk_reset (place_of s name) (λ x. refl)
  action_plain (tree.qk_sync name) = only_map NoneHasBlocks synced (place_of s name) (λ x. (refl, (refl, tt)))
  action_plain (tree.spawn x) = one code.spawn (spawn_term h s x) (λ y. refl)
  action_plain (tree.control c w all) = one (λ q. code.control c q all) (controlled_by s w) (λ x. refl)
  action_plain (tree.throw_it w name all) = two (λ q e. code.throw_it q e all) (controlled_by s w) (exception_number h name) (λ x y. refl)
  action_plain (tree.throw name) = one code.throw (exception_number h name) (λ x. refl)
  action_plain (tree.return_ e) = one code.return_ (if_written (term_of s) e) (λ x. refl)
  action_plain tree.stop = only_single (Some code.stop) (only_here HasNoBlocks code.stop refl)
