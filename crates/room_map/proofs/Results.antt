-- What a call leaves of a map, as its clauses see it.
use Rattle.std.proofs.Common.{◌≡◌, ℕ, ◌+◌, ◌-◌, ◌<◌, ◌≤◌, ◌^◌, Bool, true, cond, List, ◌++◌, length, Option, None, take, drop, refl, sym, ap, ◌∙◌, subst, arith}
use Rattle.std.specs.Prelude.{slice_get, is_some}
use Rattle.std.specs.declared.cmp.Ordering.{Ordering}
use Rattle.std.specs.Cmp.{IsTotalOrder}
use Rattle.std.specs.FinMap as map
use Rattle.std.specs.FinMap.{find, put}
use Rattle.room_map.specs.declared.nodes.Node.{Node}
use Rattle.room_map.specs.Room.{Room}
use Rattle.room_map.specs.Entries.{without, as_map}
use Rattle.room_map.specs.Shape.{Shape, is_at, entries, height, times}
use Rattle.room_map.specs.Nodes.{Under, Changed, CanEnter, HasEntered, HasKey, HasValue, CanLeave, HasLeft}
use Rattle.room_map.specs.Layout.{among, falling, tree, next_at, IsChain, IsKept}
use Rattle.room_map.proofs.Maps.{as_map-put, as_map-without, length-put_new, length-without}
use Rattle.room_map.proofs.Chains.{chain_grown}
use Rattle.room_map.proofs.CallEffects.{first_free, can_enter, kept_entered, has_key, kept_value, can_leave, left_there, kept_left, kept_grown, kept_tree, kept_as, written, changed_in, enter_in, has_in, leave_in, kept_in, front_stays}

-- a map with an entry more than there were
pub record IsInserted {K V : Type 0} (R : K → K → Ordering) (old : Room K V) (key : K) (value : V) (ns : List (Node K V)) (root free spare : ℕ) : Type 0 where
  pub kept : IsKept R ns root free spare (tree ns root)
  pub has : entries (tree ns root) ≡ put R key value old.entries
  pub in_map : as_map R (entries (tree ns root)) ≡ map.insert (as_map R old.entries) key value
  pub one_more : length (entries (tree ns root)) ≡ length old.entries + 1

-- a map with another value at a key
pub record IsReplaced {K V : Type 0} (R : K → K → Ordering) (old : Room K V) (key : K) (value : V) (ns : List (Node K V)) (root free spare : ℕ) : Type 0 where
  pub kept : IsKept R ns root free spare (tree ns root)
  pub has : entries (tree ns root) ≡ put R key value old.entries
  pub in_map : as_map R (entries (tree ns root)) ≡ map.insert (as_map R old.entries) key value
  pub as_many : length (entries (tree ns root)) ≡ length old.entries

-- a map without a key that there was
pub record IsRemoved {K V : Type 0} (R : K → K → Ordering) (old : Room K V) (key : K) (ns : List (Node K V)) (root free spare : ℕ) : Type 0 where
  pub kept : IsKept R ns root free spare (tree ns root)
  pub has : entries (tree ns root) ≡ without R key old.entries
  pub in_map : map.IsAntisymmetric R → as_map R (entries (tree ns root)) ≡ map.remove (as_map R old.entries) key
  pub same_places : length (entries (tree ns root)) + spare ≡ length old.entries + old.spare

-- a map with the entries that there were
pub record IsGrown {K V : Type 0} (R : K → K → Ordering) (old : Room K V) (ns : List (Node K V)) (root free spare : ℕ) : Type 0 where
  pub kept : IsKept R ns root free spare (tree ns root)
  pub has : entries (tree ns root) ≡ old.entries

module _ {K V : Type 0} {R : K → K → Ordering} {ns : List (Node K V)} {root free spare : ℕ} {t : Shape K V} {old : Room K V} where
  -- ---- an entry more

  pub may_enter : {ms : List (Node K V)} {key : K} → IsKept R ns root free spare t → ◌≡◌ {A = Room K V} (record { entries = entries t; spare = spare; depth = height t }) old
      → find R key old.entries ≡ None → 0 < old.spare → ms ≡ ns → CanEnter R ms root key free t
  may_enter {key = key} k view absent room is =
      let some : 0 < spare = subst (λ (w : Room K V). 0 < w.spare) (sym view) room in
      enter_in is (can_enter k (first_free k some) (ap (λ (w : Room K V). find R key w.entries) view ∙ absent))

  inserted_as : IsTotalOrder R → {ms xs : List (Node K V)} {key : K} {value : V} {top first : ℕ} {u : Shape K V} → IsKept R ns root free spare t → ◌≡◌ {A = Room K V} (record { entries = entries t; spare = spare; depth = height t }) old
      → 0 < spare → find R key (entries t) ≡ None → xs ≡ ms → first ≡ next_at ns free
      → Under ms top u → HasEntered R t free key value u → Changed (λ q. times q t + is_at free q) ns ms → IsInserted R old key value xs top first (spare - 1)
  inserted_as ord {ms} {xs} {key} {value} {top} {first} {u} k view some absent is next under h d =
      let one : spare - 1 + 1 ≡ spare = omega (arith, some) in
      let all : IsKept R xs top first (spare - 1) u = kept_in is next (kept_entered ord k (first_free k some) one absent under h d) in
      let same : entries (tree xs top) ≡ put R key value (entries t) = ap entries (kept_tree all) ∙ h.has in
      record {
        kept = kept_as all;
        has = same ∙ ap (λ (w : Room K V). put R key value w.entries) view;
        in_map = ap (as_map R) same ∙ as_map-put ord key value (entries t) k.rises ∙ ap (λ (w : Room K V). map.insert (as_map R w.entries) key value) view;
        one_more = ap length same ∙ length-put_new ord key value (entries t) k.rises absent ∙ ap (λ (w : Room K V). length w.entries + 1) view;
      }

  pub inserted : IsTotalOrder R → {vs ms new : List (Node K V)} {key : K} {value : V} {top first : ℕ} (n : ℕ) → IsKept R ns root free spare t → ◌≡◌ {A = Room K V} (record { entries = entries t; spare = spare; depth = height t }) old
      → find R key old.entries ≡ None → 0 < old.spare → n ≡ length ns → vs ≡ ns → first ≡ next_at vs free → ms ≡ ns
      → ((t : Shape K V) → CanEnter R ms root key free t → (u : Shape K V) × Under new top u × HasEntered R t free key value u × Changed (λ q. times q t + is_at free q) ms new)
      → IsInserted R old key value (take n (new ++ drop (length new) ns)) top first (spare - 1)
  inserted ord {ms = ms} {new} {key} {value} {top} {first} n k view absent room full at next is run =
      let done = run t (may_enter k view absent room is) in
      let d = changed_in is done.3 in
      let some : 0 < spare = subst (λ (w : Room K V). 0 < w.spare) (sym view) room in
      inserted_as ord k view some (ap (λ (w : Room K V). find R key w.entries) view ∙ absent) (written ns new n full d.long) (next ∙ ap (λ xs. next_at xs free) at) done.1 done.2 d

  -- ---- another value

  pub may_replace : {ms : List (Node K V)} {key : K} → IsKept R ns root free spare t → ◌≡◌ {A = Room K V} (record { entries = entries t; spare = spare; depth = height t }) old
      → is_some (find R key old.entries) ≡ true → ms ≡ ns → HasKey R ms root key t
  may_replace {key = key} k view present is = has_in is (has_key k (ap (λ (w : Room K V). is_some (find R key w.entries)) view ∙ present))

  replaced_as : IsTotalOrder R → {ms xs : List (Node K V)} {key : K} {value : V} {u : Shape K V} → IsKept R ns root free spare t → ◌≡◌ {A = Room K V} (record { entries = entries t; spare = spare; depth = height t }) old
      → xs ≡ ms → Under ms root u → HasValue R t key value u → Changed (λ q. times q t) ns ms → IsReplaced R old key value xs root free spare
  replaced_as ord {ms} {xs} {key} {value} {u} k view is under h d =
      let all : IsKept R xs root free spare u = kept_in is refl (kept_value ord k under h d) in
      let same : entries (tree xs root) ≡ put R key value (entries t) = ap entries (kept_tree all) ∙ h.has in
      record {
        kept = kept_as all;
        has = same ∙ ap (λ (w : Room K V). put R key value w.entries) view;
        in_map = ap (as_map R) same ∙ as_map-put ord key value (entries t) k.rises ∙ ap (λ (w : Room K V). map.insert (as_map R w.entries) key value) view;
        as_many = ap length (ap entries (kept_tree all)) ∙ h.as_many ∙ ap (λ (w : Room K V). length w.entries) view;
      }

  pub replaced : IsTotalOrder R → {ms new : List (Node K V)} {key : K} {value : V} (n : ℕ) → IsKept R ns root free spare t → ◌≡◌ {A = Room K V} (record { entries = entries t; spare = spare; depth = height t }) old
      → is_some (find R key old.entries) ≡ true → n ≡ length ns → ms ≡ ns
      → ((t : Shape K V) → HasKey R ms root key t → (u : Shape K V) × Under new root u × HasValue R t key value u × Changed (λ q. times q t) ms new)
      → IsReplaced R old key value (take n (new ++ drop (length new) ns)) root free spare
  replaced ord {ms} {new} {key} {value} n k view present full is run =
      let done = run t (may_replace k view present is) in
      let d = changed_in is done.3 in
      replaced_as ord k view (written ns new n full d.long) done.1 done.2 d

  -- ---- an entry less

  pub may_leave : {ms : List (Node K V)} {key : K} {found : Option V} {b : Bool} → IsKept R ns root free spare t → ◌≡◌ {A = Room K V} (record { entries = entries t; spare = spare; depth = height t }) old
      → found ≡ find R key old.entries → b ≡ is_some found → b ≡ true → ms ≡ ns → CanLeave R ms root key t
  may_leave {key = key} k view value told is_true is =
      leave_in is (can_leave k (ap (λ (w : Room K V). is_some (find R key w.entries)) view ∙ ap is_some (sym value) ∙ sym told ∙ is_true))

  pub freed_there : {ms new xs : List (Node K V)} {key : K} {found : Option V} {b : Bool} {top x : ℕ} (n : ℕ) → IsKept R ns root free spare t → ◌≡◌ {A = Room K V} (record { entries = entries t; spare = spare; depth = height t }) old
      → found ≡ find R key old.entries → b ≡ is_some found → b ≡ true → n ≡ length ns → ms ≡ ns
      → ((t : Shape K V) → CanLeave R ms root key t → (u : Shape K V) × Under new top u × HasLeft R t key x u × Changed (λ q. times q t) ms new)
      → xs ≡ take n (new ++ drop (length new) ns) → x < length xs
  freed_there {new = new} {xs} {x = x} n k view value told is_true full is run again =
      let done = run t (may_leave k view value told is_true is) in
      let d = changed_in is done.3 in
      let long : length xs ≡ length new = ap length (again ∙ written ns new n full d.long) in
      subst (λ (l : ℕ). x < l) (sym long) (left_there k done.2 d)

  removed_as : IsTotalOrder R → {ms os xs : List (Node K V)} {key : K} {top x : ℕ} {u : Shape K V} → IsKept R ns root free spare t → ◌≡◌ {A = Room K V} (record { entries = entries t; spare = spare; depth = height t }) old
      → is_some (find R key (entries t)) ≡ true → Under ms top u → HasLeft R t key x u → Changed (λ q. times q t) ns ms → next_at os x ≡ free → Changed (is_at x) ms os → xs ≡ os
      → IsRemoved R old key xs top x (spare + 1)
  removed_as ord {ms} {os} {xs} {key} {top} {x} {u} k view there under h d next e is =
      let one : length (without R key (entries t)) + 1 ≡ length (entries t) = ap (λ b. length (without R key (entries t)) + cond b 1 0) (sym there) ∙ length-without ord key (entries t) k.rises in
      let fewer : length (entries u) + 1 ≡ length (entries t) = ap (λ es. length es + 1) h.has ∙ one in
      let all : IsKept R xs top x (spare + 1) u = kept_in is refl (kept_left ord k fewer under h d next e) in
      let same : entries (tree xs top) ≡ without R key (entries t) = ap entries (kept_tree all) ∙ h.has in
      record {
        kept = kept_as all;
        has = same ∙ ap (λ (w : Room K V). without R key w.entries) view;
        in_map = λ exact. ap (as_map R) same ∙ as_map-without ord exact key (entries t) ∙ ap (λ (w : Room K V). map.remove (as_map R w.entries) key) view;
        same_places = omega (arith, ap (λ u. length (entries u)) (kept_tree all), fewer, ap (λ (w : Room K V). length w.entries) view, ap (λ (w : Room K V). w.spare) view);
      }

  pub removed : IsTotalOrder R → {ms new xs os : List (Node K V)} {key : K} {found : Option V} {b : Bool} {top x : ℕ} (n : ℕ) → IsKept R ns root free spare t → ◌≡◌ {A = Room K V} (record { entries = entries t; spare = spare; depth = height t }) old
      → found ≡ find R key old.entries → b ≡ is_some found → b ≡ true → n ≡ length ns → ms ≡ ns
      → ((t : Shape K V) → CanLeave R ms root key t → (u : Shape K V) × Under new top u × HasLeft R t key x u × Changed (λ q. times q t) ms new)
      → xs ≡ take n (new ++ drop (length new) ns) → next_at os x ≡ free → Changed (is_at x) xs os
      → IsRemoved R old key (take n (os ++ drop (length os) (take n (new ++ drop (length new) ns)))) top x (spare + 1)
  removed ord {ms} {new} {xs} {os} {key} {x = x} n k view value told is_true full is run again next e =
      let done = run t (may_leave k view value told is_true is) in
      let d = changed_in is done.3 in
      let first : take n (new ++ drop (length new) ns) ≡ new = written ns new n full d.long in
      let f : Changed (is_at x) new os = changed_in (again ∙ first) e in
      let long : length (take n (new ++ drop (length new) ns)) ≡ length new = ap length first in
      removed_as ord k view (ap (λ (w : Room K V). is_some (find R key w.entries)) view ∙ ap is_some (sym value) ∙ sym told ∙ is_true) done.1 done.2 d next f
      (written (take n (new ++ drop (length new) ns)) os n (full ∙ sym d.long ∙ sym long) (f.long ∙ sym long))

  -- ---- more room

  pub grown : (ys os : List (Node K V)) (more : ℕ) {ms xs : List (Node K V)} {count places n first : ℕ} → IsKept R ns root free spare t → ◌≡◌ {A = Room K V} (record { entries = entries t; spare = spare; depth = height t }) old
      → count ≡ length old.entries → places ≡ count + spare + more → places < 2 ^ 32
      → ms ≡ take places ns ++ ys → n ≡ places → n ≡ length ms → xs ≡ ms
      → length os ≡ length xs → ((q : ℕ) → q < count + spare → slice_get os q ≡ slice_get xs q)
      → ((is : List ℕ) → IsChain xs free is → ((q : ℕ) → count + spare ≤ q → among q is ≡ 0) → IsChain os first (falling (count + spare) (places - (count + spare)) is))
      → IsGrown R old (take n (os ++ drop (length os) ms)) root first (spare + more)
  grown ys os more {ms} {xs} {count} {places} {n} {first} k view counted sum small items wide full is long before run =
      let had : count + spare ≡ length ns = ap (λ c. c + spare) (counted ∙ sym (ap (λ (w : Room K V). length w.entries) view)) ∙ k.all in
      let all_long : length ms ≡ length ns + more = sym full ∙ wide ∙ sum ∙ ap (λ c. c + more) had in
      let few : length os < 2 ^ 32 = subst (λ (l : ℕ). l < 2 ^ 32) (sym (long ∙ ap length is ∙ sym full ∙ wide)) small in
      let front : (q : ℕ) → q < length ns → slice_get ms q ≡ slice_get ns q = λ q h. ap (λ zs. slice_get zs q) items ∙ front_stays places ns ys q (omega (arith, sum, had)) h in
      let same : (q : ℕ) → q < length ns → slice_get os q ≡ slice_get ns q = λ q h. before q (omega (arith, had, h)) ∙ ap (λ zs. slice_get zs q) is ∙ front q h in
      let rest : places - (count + spare) ≡ more = omega (arith, sum) in
      let chain : (js : List ℕ) → IsChain ns free js → ((q : ℕ) → length ns ≤ q → among q js ≡ 0) → IsChain os first (falling (length ns) more js) = λ js ch none.
      subst (λ (x : ℕ). IsChain os first (falling x more js)) had (subst (λ (x : ℕ). IsChain os first (falling (count + spare) x js)) rest
      (run js (subst (λ zs. IsChain zs free js) (sym is) (chain_grown ns ms free js front (omega (arith, all_long)) ch)) (λ q h. none q (omega (arith, had, h))))) in
      let all : IsKept R (take n (os ++ drop (length os) ms)) root first (spare + more) t =
      kept_in (written ms os n full (long ∙ ap length is)) refl (kept_grown first more k same (long ∙ ap length is ∙ all_long) few chain) in
      record { kept = kept_as all; has = ap entries (kept_tree all) ∙ ap (λ (w : Room K V). w.entries) view }

-- an entry less is a place more
pub gives_one : {V : Type 0} (found : Option V) {b : Bool} {spare had : ℕ} → spare ≡ had → b ≡ is_some found → b ≡ true → spare + 1 ≡ cond (is_some found) (had + 1) had
gives_one found {had = had} same told is_true = ap (λ n. n + 1) same ∙ ap (λ b. cond b (had + 1) had) (sym is_true ∙ told)
