-- What single bytes of a transfer make together.
use Rattle.std.proofs.Common.{◌≡◌, ℕ, zero, suc, ◌+◌, ◌<◌, ◌^◌, Bool, true, false, cond, ◌&&◌, List, [], ◌∷◌, ◌++◌, Some, length, drop, get_or, set, refl, sym, ap, ◌∙◌, subst, ⊎_elim, arith, eq-eqb, ne_eqb, append_assoc, append-nil, length-append, length-drop, length-set, get_or-set_same, get_or-set_other}
use Rattle.std.specs.Prelude.{map, filter, unwrap_or, slice_index, ◌==◌, nat_le}
use Rattle.std.specs.List.{list_any, range_with_len}
use Rattle.std.proofs.lemmas.Bool.{cases_eq, or_parts, leb-false}
use Rattle.std.proofs.lemmas.List.{map-id, set_at, drop_more, drop_all}
use Rattle.std.proofs.lemmas.List.Elements.{filter-append}
use Rattle.std.proofs.lemmas.List.FromFn.{length-range_with_len, get_or-range_with_len, length-map-range_with_len, map-range_with_len_more, fill_by_all}
use Rattle.payload_pool.specs.declared.payload.Payload.{Payload}
use Rattle.payload_pool.specs.Transfer.{places, address_of, is_enabled, is_outside, leaves, goes_to, last_of, byte_or, written_at, read_at}
use Rattle.payload_pool.specs.Moves.{after_sent, after_fetched}

-- ---- where no byte is outside

none_of : (test : ℕ → Bool) (xs : List ℕ) → list_any test xs ≡ false → (i : ℕ) → i < length xs → test (get_or xs i 0) ≡ false
none_of test [] none i within = absurd (omega arith)
none_of test (x ∷ xs) none zero within = (or_parts (test x) (list_any test xs) none).0
none_of test (x ∷ xs) none (suc i) within = none_of test xs (or_parts (test x) (list_any test xs) none).1 i (omega arith)

pub address_inside : (p : Payload) (size i : ℕ) → leaves p size ≡ false → i < length p.bytes → (address_of p i < 2 ^ 64) × (address_of p i < size)
address_inside p size i fits within =
    let outside : is_outside size (address_of p (get_or (range_with_len 0 (length p.bytes)) i 0)) ≡ false
    = none_of (λ k. is_outside size (address_of p k)) (places p.bytes) fits i (rw (length-range_with_len 0 (length p.bytes)) within) in
    let here : is_outside size (address_of p i) ≡ false
    = subst (λ k. is_outside size (address_of p k) ≡ false) (get_or-range_with_len 0 (length p.bytes) i 0 within ∙ zero_more i) outside in
    let parts = or_parts (nat_le (2 ^ 64) (address_of p i)) (nat_le size (address_of p i)) here in
    (leb-false (2 ^ 64) (address_of p i) parts.0, leb-false size (address_of p i) parts.1)
  where
    zero_more : (k : ℕ) → 0 + k ≡ k
    zero_more k = omega arith

-- ---- a write, byte by byte

pub range_more : (n : ℕ) → range_with_len 0 (n + 1) ≡ range_with_len 0 n ++ n ∷ []
range_more n =
    sym (map-id (range_with_len 0 (n + 1))) ∙ map-range_with_len_more (λ (k : ℕ). k) 0 n n (omega arith)
    ∙ ap (λ l. l ++ n ∷ []) (map-id (range_with_len 0 n))

pub last_of-push : (xs : List ℕ) (x : ℕ) → last_of (xs ++ x ∷ []) ≡ Some x
last_of-push [] x = refl
last_of-push (y ∷ xs) x = ap (λ o. Some (unwrap_or o y)) (last_of-push xs x)

-- what the first n bytes leave at the address a
abbrev pub written_up_to : Payload → List ℕ → ℕ → ℕ → ℕ
written_up_to p memory n a = byte_or p.bytes (slice_index memory a) (last_of (filter (goes_to p a) (range_with_len 0 n)))

abbrev pub IsWritten : Payload → List ℕ → ℕ → List ℕ → Type 0
IsWritten p before n memory = (length memory ≡ length before) × ((a : ℕ) → a < length before → slice_index memory a ≡ written_up_to p before n a)

-- byte n more: it counts where it is enabled and goes to this address
written-more : (p : Payload) (memory : List ℕ) (n a : ℕ) →
    written_up_to p memory (n + 1) a ≡ cond (goes_to p a n) (slice_index p.bytes n) (written_up_to p memory n a)
written-more p memory n a =
    ap (λ l. byte_or p.bytes (slice_index memory a) (last_of l)) (ap (filter (goes_to p a)) (range_more n) ∙ filter-append (goes_to p a) (range_with_len 0 n) (n ∷ []))
    ∙ last (goes_to p a n)
  where
    last : (b : Bool) → byte_or p.bytes (slice_index memory a) (last_of (filter (goes_to p a) (range_with_len 0 n) ++ cond b (n ∷ []) []))
        ≡ cond b (slice_index p.bytes n) (written_up_to p memory n a)
    last true = ap (byte_or p.bytes (slice_index memory a)) (last_of-push (filter (goes_to p a) (range_with_len 0 n)) n)
    last false = ap (λ l. byte_or p.bytes (slice_index memory a) (last_of l)) (append-nil (filter (goes_to p a) (range_with_len 0 n)))

pub written-first : (p : Payload) (before : List ℕ) → IsWritten p before 0 before
written-first p before = (refl, λ a within. refl)

length-sent : (p : Payload) (n : ℕ) (memory : List ℕ) → length (after_sent p n memory) ≡ length memory
length-sent p n memory = elim (is_enabled p.enables n) as (λ b. length (cond b (set memory (address_of p n) (slice_index p.bytes n)) memory) ≡ length memory) [
  | true ↦ length-set memory (address_of p n) (slice_index p.bytes n)
  | false ↦ refl
]

index-sent : (p : Payload) (n : ℕ) (memory : List ℕ) (a : ℕ) → a < length memory →
    slice_index (after_sent p n memory) a ≡ cond (goes_to p a n) (slice_index p.bytes n) (slice_index memory a)
index-sent p n memory a within = at (is_enabled p.enables n)
  where
    at : (b : Bool) → slice_index (cond b (set memory (address_of p n) (slice_index p.bytes n)) memory) a
        ≡ cond (b && (address_of p n == a)) (slice_index p.bytes n) (slice_index memory a)
    at false = refl
    at true = ⊎_elim
        (λ same. subst (λ k. get_or (set memory k (slice_index p.bytes n)) a 0 ≡ slice_index p.bytes n) (sym same) (get_or-set_same memory a (slice_index p.bytes n) 0 within)
        ∙ sym (ap (λ t. cond t (slice_index p.bytes n) (slice_index memory a)) (eq-eqb (address_of p n) a same)))
        (λ apart. get_or-set_other memory (address_of p n) a (slice_index p.bytes n) 0 (λ e. apart (sym e))
        ∙ sym (ap (λ t. cond t (slice_index p.bytes n) (slice_index memory a)) (ne_eqb (address_of p n) a apart)))
        (cases_eq (address_of p n) a)

pub written-next : (p : Payload) (before : List ℕ) (n : ℕ) (memory : List ℕ) → IsWritten p before n memory → IsWritten p before (n + 1) (after_sent p n memory)
written-next p before n memory so_far = (
  length-sent p n memory ∙ so_far.0,
  λ a within. index-sent p n memory a (subst (λ k. a < k) (sym so_far.0) within)
      ∙ ap (cond (goes_to p a n) (slice_index p.bytes n)) (so_far.1 a within)
      ∙ sym (written-more p before n a),
)

pub written-all : (p : Payload) (before memory : List ℕ) → IsWritten p before (length p.bytes) memory → memory ≡ map (written_at p before) (places before)
written-all p before memory done = fill_by_all (written_at p before) memory (length before) 0 done.0 done.1

-- ---- a read, byte by byte

-- the first n bytes are read, and the others are as before
abbrev pub read_up_to : Payload → List ℕ → ℕ → Payload
read_up_to p memory n = record p { bytes = map (read_at p memory) (range_with_len 0 n) ++ drop n p.bytes }

pub read-first : (p : Payload) (memory : List ℕ) → p ≡ read_up_to p memory 0
read-first p memory = refl

read-more : (p : Payload) (memory : List ℕ) (n : ℕ) → n < length p.bytes →
    map (read_at p memory) (range_with_len 0 n) ++ read_at p memory n ∷ drop (n + 1) p.bytes ≡ map (read_at p memory) (range_with_len 0 (n + 1)) ++ drop (n + 1) p.bytes
read-more p memory n within =
    sym (append_assoc (map (read_at p memory) (range_with_len 0 n)) (read_at p memory n ∷ []) (drop (n + 1) p.bytes))
    ∙ ap (λ l. l ++ drop (n + 1) p.bytes) (sym (map-range_with_len_more (read_at p memory) 0 n n (omega arith)))

pub read-next : (p : Payload) (memory : List ℕ) (n : ℕ) → n < length p.bytes → after_fetched (read_up_to p memory n) n memory ≡ read_up_to p memory (n + 1)
read-next p memory n within = at (is_enabled p.enables n) (read_at p memory n) refl ∙ ap with_bytes (read-more p memory n within)
  where
    with_bytes : List ℕ → Payload
    with_bytes bs = record p { bytes = bs }

    front : List ℕ
    front = map (read_at p memory) (range_with_len 0 n)

    at : (b : Bool) (r : ℕ) → r ≡ cond b (slice_index memory (address_of p n)) (slice_index p.bytes n)
        → cond b (with_bytes (set (front ++ drop n p.bytes) n (slice_index memory (address_of p n)))) (with_bytes (front ++ drop n p.bytes))
        ≡ with_bytes (front ++ r ∷ drop (n + 1) p.bytes)
    at true r is = ap with_bytes (ap (λ l. set (front ++ l) n (slice_index memory (address_of p n))) (drop_more p.bytes n 0 within)
        ∙ set_at front (get_or p.bytes n 0) (drop (n + 1) p.bytes) (slice_index memory (address_of p n)) n (length-map-range_with_len (read_at p memory) 0 n)
        ∙ ap (λ y. front ++ y ∷ drop (n + 1) p.bytes) (sym is))
    at false r is = ap with_bytes (ap (λ l. front ++ l) (drop_more p.bytes n 0 within) ∙ ap (λ y. front ++ y ∷ drop (n + 1) p.bytes) (sym is))

pub length-read : (p : Payload) (memory : List ℕ) (n : ℕ) → n < length p.bytes → length (read_up_to p memory n).bytes ≡ length p.bytes
length-read p memory n within = omega (
  arith,
  length-append (map (read_at p memory) (range_with_len 0 n)) (drop n p.bytes),
  length-map-range_with_len (read_at p memory) 0 n,
  length-drop n p.bytes,
)

pub leaves-read : (p : Payload) (memory : List ℕ) (n size : ℕ) → n < length p.bytes → leaves (read_up_to p memory n) size ≡ leaves p size
leaves-read p memory n size within = ap (λ k. list_any (λ i. is_outside size (address_of p i)) (range_with_len 0 k)) (length-read p memory n within)

pub read-all : (p : Payload) (memory : List ℕ) → read_up_to p memory (length p.bytes) ≡ record p { bytes = map (read_at p memory) (places p.bytes) }
read-all p memory = ap (λ bs. record p { bytes = map (read_at p memory) (places p.bytes) ++ bs }) (drop_all (length p.bytes) p.bytes (omega arith))
    ∙ ap (λ bs. record p { bytes = bs }) (append-nil (map (read_at p memory) (places p.bytes)))
