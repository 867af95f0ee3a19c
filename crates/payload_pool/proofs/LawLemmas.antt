-- What the definition of the transfer comes to for each byte.
use Rattle.std.proofs.Common.{◌≡◌, ◌≢◌, ℕ, zero, suc, ◌+◌, ◌<◌, ◌≤◌, ◌^◌, ◌⊎◌, inl, inr, Bool, true, false, cond, not, ◌&&◌, ◌||◌, List, [], ◌∷◌, ◌++◌, Some, length, get_or, refl, sym, ap, ◌∙◌, subst, ⊎_elim, arith, true≢false, eq-eqb, append-nil}
use Rattle.std.specs.Prelude.{ℤ, map, filter, slice_index, ◌==◌, nat_le}
use Rattle.std.specs.List.{list_any, range_with_len}
use Rattle.std.specs.Ordering.{int_eq}
use Rattle.std.proofs.lemmas.Bool.{cases_eq, leb-true}
use Rattle.std.proofs.lemmas.Bool.Decides.{Decides-int_eq, Decides-eqb}
use Rattle.std.proofs.lemmas.List.Elements.{filter-append}
use Rattle.std.proofs.lemmas.List.FromFn.{length-range_with_len, get_or-range_with_len, length-map-range_with_len, get_or-map-range_with_len}
use Rattle.payload_pool.specs.declared.payload.Payload.{Payload}
use Rattle.payload_pool.specs.declared.payload.TheConstants.{READ, WRITE, IGNORE, OK, ADDRESS, COMMAND, BURST, BYTE_ENABLE}
use Rattle.payload_pool.specs.Transfer.{places, address_of, is_enabled, is_command, is_bad_enable, is_outside, leaves, status_of, moves, goes_to, last_of, byte_or, written_at, read_at, memory_after, bytes_after}
use Rattle.payload_pool.specs.Carried.{IsDone, GoesTo, IsLastTo, IsOutside}
use Rattle.payload_pool.proofs.TransferLemmas.{address_inside, range_more, last_of-push}

-- ---- tests

other_bool : (b : Bool) → (b ≡ true → ⊥) → b ≡ false
other_bool true isnt = absurd (isnt refl)
other_bool false isnt = refl

no_and : (a b : Bool) → b ≡ false → (a && b) ≡ false
no_and true b isnt = isnt
no_and false b isnt = refl

int_same : (x y : ℤ) → x ≡ y → int_eq x y ≡ true
int_same x y same = (Decides-int_eq x y).1 same

int_other : (x y : ℤ) → x ≢ y → int_eq x y ≡ false
int_other x y apart = other_bool (int_eq x y) (λ is. apart ((Decides-int_eq x y).0 is))

-- ---- whether bytes are moved

moves-done : (p : Payload) (size : ℕ) (command : ℤ) → IsDone p size command → moves p size command ≡ true
moves-done p size command done =
    ap (λ b. b && int_eq p.command command) (int_same (status_of p size) OK done.done) ∙ int_same p.command command done.asked

moves-refused : (p : Payload) (size : ℕ) (command : ℤ) → status_of p size ≢ OK → moves p size command ≡ false
moves-refused p size command refused = ap (λ b. b && int_eq p.command command) (int_other (status_of p size) OK refused)

moves-other : (p : Payload) (size : ℕ) (asked command : ℤ) → p.command ≡ asked → int_eq asked command ≡ false → moves p size command ≡ false
moves-other p size asked command is apart = no_and (int_eq (status_of p size) OK) (int_eq p.command command) (ap (λ c. int_eq c command) is ∙ apart)

memory-unmoved : (p : Payload) (m : List ℕ) → moves p (length m) WRITE ≡ false → memory_after p m ≡ m
memory-unmoved p m none = ap (λ b. cond b (map (written_at p m) (places m)) m) none

bytes-unmoved : (p : Payload) (m : List ℕ) → moves p (length m) READ ≡ false → bytes_after p m ≡ p.bytes
bytes-unmoved p m none = ap (λ b. cond b (map (read_at p m) (places p.bytes)) p.bytes) none

-- ---- IGNORE, and a status that is not OK

pub status-ignore : (p : Payload) (size : ℕ) → p.command ≡ IGNORE → status_of p size ≡ OK
status-ignore p size is = ap (λ c. cond (not (is_command c)) COMMAND (cond (int_eq c IGNORE) OK later)) is
  where
    later : ℤ
    later = cond (p.width == 0) BURST (cond (list_any is_bad_enable p.enables) BYTE_ENABLE (cond (leaves p size) ADDRESS OK))

pub memory-ignore : (p : Payload) (m : List ℕ) → p.command ≡ IGNORE → memory_after p m ≡ m
memory-ignore p m is = memory-unmoved p m (moves-other p (length m) IGNORE WRITE is refl)

pub bytes-ignore : (p : Payload) (m : List ℕ) → p.command ≡ IGNORE → bytes_after p m ≡ p.bytes
bytes-ignore p m is = bytes-unmoved p m (moves-other p (length m) IGNORE READ is refl)

pub memory-refused : (p : Payload) (m : List ℕ) → status_of p (length m) ≢ OK → memory_after p m ≡ m
memory-refused p m refused = memory-unmoved p m (moves-refused p (length m) WRITE refused)

pub bytes-refused : (p : Payload) (m : List ℕ) → status_of p (length m) ≢ OK → bytes_after p m ≡ p.bytes
bytes-refused p m refused = bytes-unmoved p m (moves-refused p (length m) READ refused)

pub bytes-write : (p : Payload) (m : List ℕ) → p.command ≡ WRITE → bytes_after p m ≡ p.bytes
bytes-write p m is = bytes-unmoved p m (moves-other p (length m) WRITE READ is refl)

pub memory-read : (p : Payload) (m : List ℕ) → p.command ≡ READ → memory_after p m ≡ m
memory-read p m is = memory-unmoved p m (moves-other p (length m) READ WRITE is refl)

-- ---- each byte has a place

apart_by : (x y : ℤ) → int_eq x y ≡ false → x ≢ y
apart_by x y isnt same = true≢false (sym (int_same x y same) ∙ isnt)

fits : (none ignored flat bad out : Bool) → cond none COMMAND (cond ignored OK (cond flat BURST (cond bad BYTE_ENABLE (cond out ADDRESS OK)))) ≡ OK
    → ignored ≡ false → out ≡ false
fits true _ _ _ _ is isnt = absurd (apart_by COMMAND OK refl is)
fits false true _ _ _ is isnt = absurd (true≢false isnt)
fits false false true _ _ is isnt = absurd (apart_by BURST OK refl is)
fits false false false true _ is isnt = absurd (apart_by BYTE_ENABLE OK refl is)
fits false false false false true is isnt = absurd (apart_by ADDRESS OK refl is)
fits false false false false false is isnt = refl

leaves_out : (none ignored flat bad out : Bool) → cond none COMMAND (cond ignored OK (cond flat BURST (cond bad BYTE_ENABLE (cond out ADDRESS OK)))) ≡ ADDRESS
    → out ≡ true
leaves_out true _ _ _ _ is = absurd (apart_by COMMAND ADDRESS refl is)
leaves_out false true _ _ _ is = absurd (apart_by OK ADDRESS refl is)
leaves_out false false true _ _ is = absurd (apart_by BURST ADDRESS refl is)
leaves_out false false false true _ is = absurd (apart_by BYTE_ENABLE ADDRESS refl is)
leaves_out false false false false true is = refl
leaves_out false false false false false is = absurd (apart_by OK ADDRESS refl is)

pub place-done : (p : Payload) (size i : ℕ) → status_of p size ≡ OK → p.command ≢ IGNORE → i < length p.bytes → address_of p i < size
place-done p size i done asked within = (address_inside p size i none_out within).1
  where
    none_out : leaves p size ≡ false
    none_out = fits (not (is_command p.command)) (int_eq p.command IGNORE) (p.width == 0) (list_any is_bad_enable p.enables) (leaves p size)
        done (int_other p.command IGNORE asked)

some_of : (test : ℕ → Bool) (xs : List ℕ) → list_any test xs ≡ true → (i : ℕ) × (i < length xs) × (test (get_or xs i 0) ≡ true)
some_of test [] is = absurd (true≢false (sym is))
some_of test (x ∷ xs) is = at (test x) refl is (some_of test xs)
  where
    at : (b : Bool) → test x ≡ b → (b || list_any test xs) ≡ true → (list_any test xs ≡ true → (i : ℕ) × (i < length xs) × (test (get_or xs i 0) ≡ true))
        → (i : ℕ) × (i < length (x ∷ xs)) × (test (get_or (x ∷ xs) i 0) ≡ true)
    at true here _ _ = (0, omega arith, here)
    at false _ there later = let found = later there in (suc found.0, omega (arith, found.1), found.2)

past_of : (a size address : ℕ) → (nat_le a address || nat_le size address) ≡ true → (a ≤ address) ⊎ (size ≤ address)
past_of a size address is = at (nat_le a address) refl is
  where
    at : (t : Bool) → nat_le a address ≡ t → (t || nat_le size address) ≡ true → (a ≤ address) ⊎ (size ≤ address)
    at true here _ = inl (leb-true a address here)
    at false _ there = inr (leb-true size address there)

pub cause-address : (p : Payload) (size : ℕ) → status_of p size ≡ ADDRESS → (i : ℕ) × IsOutside p size i
cause-address p size is =
    let out : leaves p size ≡ true
    = leaves_out (not (is_command p.command)) (int_eq p.command IGNORE) (p.width == 0) (list_any is_bad_enable p.enables) (leaves p size) is in
    let found = some_of (λ k. is_outside size (address_of p k)) (places p.bytes) out in
    let within : found.0 < length p.bytes = subst (λ n. found.0 < n) (length-range_with_len 0 (length p.bytes)) found.1 in
    let here : get_or (places p.bytes) found.0 0 ≡ found.0 = get_or-range_with_len 0 (length p.bytes) found.0 0 within ∙ zero_more found.0 in (
      found.0,
      record {
        within = within;
        past = past_of (2 ^ 64) size (address_of p found.0) (subst (λ k. is_outside size (address_of p k) ≡ true) here found.2);
      },
    )
  where
    zero_more : (k : ℕ) → 0 + k ≡ k
    zero_more k = omega arith

-- ---- the last of the places that pass a test

filter-none : (test : ℕ → Bool) (n : ℕ) → ((j : ℕ) → j < n → test j ≡ false) → filter test (range_with_len 0 n) ≡ []
filter-none test zero none = refl
filter-none test (suc n) none =
    ap (λ k. filter test (range_with_len 0 k)) (one_more n) ∙ ap (filter test) (range_more n) ∙ filter-append test (range_with_len 0 n) (n ∷ [])
    ∙ ap (λ b. filter test (range_with_len 0 n) ++ cond b (n ∷ []) []) (none n (omega arith))
    ∙ append-nil (filter test (range_with_len 0 n)) ∙ filter-none test n (λ j below. none j (omega arith))
  where
    one_more : (k : ℕ) → suc k ≡ k + 1
    one_more k = omega arith

last_of-filter : (test : ℕ → Bool) (i n : ℕ) → i < n → test i ≡ true → ((j : ℕ) → i < j → j < n → test j ≡ false) → last_of (filter test (range_with_len 0 n)) ≡ Some i
last_of-filter test i zero within passes none = absurd (omega arith)
last_of-filter test i (suc n) within passes none =
    ap (λ k. last_of (filter test (range_with_len 0 k))) (one_more n) ∙ ap (λ l. last_of (filter test l)) (range_more n)
    ∙ ap last_of (filter-append test (range_with_len 0 n) (n ∷ []))
    ∙ ⊎_elim
    (λ same. ap (λ b. last_of (filter test (range_with_len 0 n) ++ cond b (n ∷ []) [])) (ap test (sym same) ∙ passes)
    ∙ last_of-push (filter test (range_with_len 0 n)) n ∙ ap (λ k. Some k) (sym same))
    (λ apart. let below : i < n = omega (arith, within, apart) in
    ap (λ b. last_of (filter test (range_with_len 0 n) ++ cond b (n ∷ []) [])) (none n below (omega arith))
    ∙ ap last_of (append-nil (filter test (range_with_len 0 n)))
    ∙ last_of-filter test i n below passes (λ j later under. none j later (omega arith)))
    (cases_eq i n)
  where
    one_more : (k : ℕ) → suc k ≡ k + 1
    one_more k = omega arith

-- ---- WRITE

goes_to-true : (p : Payload) (i a : ℕ) → GoesTo p i a → goes_to p a i ≡ true
goes_to-true p i a goes = ap (λ b. b && (address_of p i == a)) goes.enabled ∙ eq-eqb (address_of p i) a goes.address

goes_to-false : (p : Payload) (i a : ℕ) → i < length p.bytes → (GoesTo p i a → ⊥) → goes_to p a i ≡ false
goes_to-false p i a within isnt = other_bool (goes_to p a i) (λ is. isnt (goes (is_enabled p.enables i) refl is))
  where
    goes : (b : Bool) → is_enabled p.enables i ≡ b → (b && (address_of p i == a)) ≡ true → GoesTo p i a
    goes true on here = record { within = within; enabled = on; address = (Decides-eqb (address_of p i) a).0 here }
    goes false _ here = absurd (true≢false (sym here))

is_write : (p : Payload) → p.command ≡ WRITE → p.command ≢ IGNORE
is_write p is same = apart_by WRITE IGNORE refl (sym is ∙ same)

index-written : (p : Payload) (m : List ℕ) (a : ℕ) → IsDone p (length m) WRITE → a < length m → slice_index (memory_after p m) a ≡ written_at p m a
index-written p m a done within =
    ap (λ b. slice_index (cond b (map (written_at p m) (places m)) m) a) (moves-done p (length m) WRITE done)
    ∙ get_or-map-range_with_len (written_at p m) 0 (length m) a a 0 within (omega arith)

pub written-last : (p : Payload) (m : List ℕ) (i a : ℕ) → IsDone p (length m) WRITE → IsLastTo p i a → slice_index (memory_after p m) a ≡ slice_index p.bytes i
written-last p m i a done last =
    index-written p m a done inside
    ∙ ap (byte_or p.bytes (slice_index m a)) (last_of-filter (goes_to p a) i (length p.bytes) last.goes.within (goes_to-true p i a last.goes)
    (λ j later within. goes_to-false p j a within (last.last j later)))
  where
    inside : a < length m
    inside = subst (λ k. k < length m) last.goes.address (place-done p (length m) i done.done (is_write p done.asked) last.goes.within)

pub written-others : (p : Payload) (m : List ℕ) (a : ℕ) → IsDone p (length m) WRITE → a < length m → ((i : ℕ) → GoesTo p i a → ⊥)
    → slice_index (memory_after p m) a ≡ slice_index m a
written-others p m a done within none =
    index-written p m a done within
    ∙ ap (λ l. byte_or p.bytes (slice_index m a) (last_of l)) (filter-none (goes_to p a) (length p.bytes) (λ j below. goes_to-false p j a below (none j)))

pub length-memory : (p : Payload) (m : List ℕ) → length (memory_after p m) ≡ length m
length-memory p m = at (moves p (length m) WRITE)
  where
    at : (b : Bool) → length (cond b (map (written_at p m) (places m)) m) ≡ length m
    at true = length-map-range_with_len (written_at p m) 0 (length m)
    at false = refl

-- ---- READ

index-read : (p : Payload) (m : List ℕ) (i : ℕ) → IsDone p (length m) READ → i < length p.bytes → slice_index (bytes_after p m) i ≡ read_at p m i
index-read p m i done within =
    ap (λ b. slice_index (cond b (map (read_at p m) (places p.bytes)) p.bytes) i) (moves-done p (length m) READ done)
    ∙ get_or-map-range_with_len (read_at p m) 0 (length p.bytes) i i 0 within (omega arith)

pub read-enabled : (p : Payload) (m : List ℕ) (i : ℕ) → IsDone p (length m) READ → i < length p.bytes → is_enabled p.enables i ≡ true
    → slice_index (bytes_after p m) i ≡ slice_index m (address_of p i)
read-enabled p m i done within on = index-read p m i done within ∙ ap (λ b. cond b (slice_index m (address_of p i)) (slice_index p.bytes i)) on

pub read-others : (p : Payload) (m : List ℕ) (i : ℕ) → IsDone p (length m) READ → i < length p.bytes → is_enabled p.enables i ≡ false
    → slice_index (bytes_after p m) i ≡ slice_index p.bytes i
read-others p m i done within off = index-read p m i done within ∙ ap (λ b. cond b (slice_index m (address_of p i)) (slice_index p.bytes i)) off

pub length-bytes : (p : Payload) (m : List ℕ) → length (bytes_after p m) ≡ length p.bytes
length-bytes p m = at (moves p (length m) READ)
  where
    at : (b : Bool) → length (cond b (map (read_at p m) (places p.bytes)) p.bytes) ≡ length p.bytes
    at true = length-map-range_with_len (read_at p m) 0 (length p.bytes)
    at false = refl
