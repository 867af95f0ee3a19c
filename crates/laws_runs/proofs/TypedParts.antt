-- The parts of the contents, one of them changed.
use Rattle.std.proofs.Common.{◌≡◌, ◌≤◌, ℕ, zero, suc, Bool, true, false, cond, List, [], ◌∷◌, ◌++◌, map, length, slice_get, slice_set, unwrap_or, Option, Some, None, refl, sym, ◌∙◌, subst, arith}
use Rattle.std.specs.Prelude.{IfOk, slice_index, ◌==◌, ◌-◌, ◌+◌, drop}
use Rattle.std.proofs.Math.Nat.{mod-lt}
use Rattle.std.proofs.lemmas.List.{length-map}
use Rattle.std.proofs.lemmas.List.FromFn.{length-range_with_len}
use Rattle.sim_model.specs.PayloadPool.declared.payload.TheConstants.{WRITE}
use Rattle.std.proofs.lemmas.Option.{none-some}
use Rattle.sim_model.specs.LogicValues.declared.kinds.Value.{Value}
use Rattle.sim_model.specs.SignalChannel.declared.signal.Signal.{Signal}
use Rattle.sim_model.specs.FifoSync.Fifos.{Queued, available, free, readable, after_read, after_write}
use Rattle.sim_model.specs.PayloadPool.Payloads.{new_payload, payload_in, one_more, one_less, rewritten}
use Rattle.sim_model.specs.PayloadPool.Transfer.{places, is_enabled, address_of, moves, byte_or, written_at, read_at, memory_after, carried}
use Rattle.sim_model.specs.PayloadPool.declared.payload.Payload.{Payload}
use Rattle.sim_model.specs.PayloadPool.declared.pool.Counted.{Counted}
use Rattle.sim_model.specs.QuantumKeeper.declared.keeper.Keeper.{Keeper}
use Rattle.sim_model.specs.FlatDesign.Typed.{EachOf}
use Rattle.sim_model.specs.FlatDesign.declared.names.PayloadField.{PayloadField}
use Rattle.sim_model.specs.FlatDesign.declared.names.PayloadField.TheVariants as field
use Rattle.sim_model.specs.FlatDesign.declared.names.PayloadBytes.{PayloadBytes}
use Rattle.sim_model.specs.FlatDesign.declared.names.PayloadBytes.TheVariants as bytes_of
use Rattle.sim_model.specs.FlatDesign.declared.design.SignalPart.{SignalPart}
use Rattle.sim_model.specs.FlatDesign.declared.design.FifoPart.{FifoPart}
use Rattle.sim_model.specs.FlatDesign.declared.design.MemoryPart.{MemoryPart}
use Rattle.sim_model.specs.FlatDesign.declared.design.Design.{Design}
use Rattle.sim_model.specs.Values.{bits}
use Rattle.sim_model.specs.Payloads.{Payloads, counted_at, with_made, with_acquired, with_released, with_payload}
use Rattle.sim_model.specs.Configuration.{Config, Channels}
use Rattle.sim_model.specs.Reading.{not_freed, live_payload, memory_at}
use Rattle.sim_model.specs.Storing.{low_byte, set_memory, with_field, with_byte}
use Rattle.sim_model.specs.Channels.{set_signal, drive, set_fifo, set_mutex, set_semaphore}
use Rattle.sim_model.specs.Transport.{with_pool, with_keeper}
use Rattle.laws_runs.specs.Contents.{Pairwise, IsOf, SignalFits, FifoFits, IsByte, MemoryFits, PayloadFits, CountedFits, Contents}
use Rattle.laws_runs.proofs.TypedLists.{partner-at, pair-set}
use Rattle.laws_runs.proofs.EachLists.{each-set, each-get, each-more, each-drop, each-replicate, length-set, length-change}
use Rattle.laws_runs.proofs.TypedMoves.{Fits}

-- ---- bytes

pub low-byte : (v : Value) → IsByte (low_byte v)
low-byte v = mod-lt (bits v) (omega arith)

byte_at : (xs : List ℕ) (i : ℕ) → EachOf IsByte xs → IsByte (slice_index xs i)
byte_at [] i h = omega arith
byte_at (x ∷ xs) zero h = h.0
byte_at (x ∷ xs) (suc i) h = byte_at xs i h.1

pub memory-bytes : (p : MemoryPart) (xs : List ℕ) (k : ℕ) (v : Value) → MemoryFits p xs → MemoryFits p (slice_set xs k (low_byte v))
memory-bytes p xs k v h = (length-set xs k (low_byte v) ∙ h.0, each-set IsByte xs k (low_byte v) h.1 (low-byte v))

-- ---- payloads

pub counted-at : (ps : Payloads) (t : ℕ) → EachOf CountedFits ps → CountedFits (counted_at ps t)
counted-at ps t h = at (slice_get ps t) refl
  where
    at : (o : Option (Option Counted)) → slice_get ps t ≡ o → CountedFits (unwrap_or o None)
    at None e = tt
    at (Some x) e = each-get CountedFits ps t x h e

live_fits : (t : ℕ) (o : Option Counted) → CountedFits o → IfOk (not_freed t (payload_in o)) PayloadFits
live_fits t None h = tt
live_fits t (Some x) h = h

pub live-fits : (c : Config) (t : ℕ) → EachOf CountedFits c.transactions.pool → IfOk (live_payload c t) PayloadFits
live-fits c t h = live_fits t (counted_at c.transactions.pool t) (counted-at c.transactions.pool t h)

rewritten_fits : (o : Option Counted) (q : Payload) → PayloadFits q → CountedFits (rewritten o q)
rewritten_fits None q h = tt
rewritten_fits (Some x) q h = h

pub payload-written : (ps : Payloads) (t : ℕ) (q : Payload) → PayloadFits q → EachOf CountedFits ps → EachOf CountedFits (with_payload ps t q)
payload-written ps t q fits h = each-set CountedFits ps t (rewritten (counted_at ps t) q) h (rewritten_fits (counted_at ps t) q fits)

more_fits : (o : Option Counted) → CountedFits o → CountedFits (one_more o)
more_fits None h = tt
more_fits (Some x) h = h

counted_if : (b : Bool) (o p : Option Counted) → CountedFits o → CountedFits p → CountedFits (cond b o p)
counted_if true o p one_ two = one_
counted_if false o p one_ two = two

less_fits : (o : Option Counted) → CountedFits o → CountedFits (one_less o)
less_fits None h = tt
less_fits (Some x) h = counted_if _ None (Some (record x { count = x.count - 1 })) tt h

pub payload-acquired : (ps : Payloads) (t : ℕ) → EachOf CountedFits ps → EachOf CountedFits (with_acquired ps t)
payload-acquired ps t h = each-set CountedFits ps t (one_more (counted_at ps t)) h (more_fits (counted_at ps t) (counted-at ps t h))

pub payload-released : (ps : Payloads) (t : ℕ) → EachOf CountedFits ps → EachOf CountedFits (with_released ps t)
payload-released ps t h = each-set CountedFits ps t (one_less (counted_at ps t)) h (less_fits (counted_at ps t) (counted-at ps t h))

pub payload-made : (ps : Payloads) (len enables : ℕ) → len ≤ 4096 → EachOf CountedFits ps → EachOf CountedFits (with_made ps len enables)
payload-made ps len enables most h =
    each-more CountedFits ps (Some (record { payload = new_payload len enables; count = 1 }) ∷ []) h
    (record { bytes = each-replicate IsByte len 0 (omega arith); enables = each-replicate IsByte enables 255 (omega arith); width = omega (arith, most) }, tt)

pub field-written : (f : PayloadField) (v : Value) (q : Payload) → PayloadFits q → PayloadFits (with_field f v q)
field-written field.Command v q h = record { bytes = h.bytes; enables = h.enables; width = h.width }
field-written field.Status v q h = record { bytes = h.bytes; enables = h.enables; width = h.width }
field-written field.Address v q h = record { bytes = h.bytes; enables = h.enables; width = h.width }
field-written field.Width v q h = record { bytes = h.bytes; enables = h.enables; width = mod-lt (bits v) (omega arith) }

pub byte-written : (b : PayloadBytes) (k : ℕ) (v : Value) (q : Payload) → PayloadFits q → PayloadFits (with_byte b k (low_byte v) q)
byte-written bytes_of.Data k v q h = record { bytes = each-set IsByte q.bytes k (low_byte v) h.bytes (low-byte v); enables = h.enables; width = h.width }
byte-written bytes_of.ByteEnable k v q h = record { bytes = h.bytes; enables = each-set IsByte q.enables k (low_byte v) h.enables (low-byte v); width = h.width }

-- ---- what a payload carries

each_mapped : (f : ℕ → ℕ) → ((n : ℕ) → IsByte (f n)) → (xs : List ℕ) → EachOf IsByte (map f xs)
each_mapped f is [] = tt
each_mapped f is (x ∷ xs) = (is x, each_mapped f is xs)

or_byte : (xs : List ℕ) (n : ℕ) (o : Option ℕ) → EachOf IsByte xs → IsByte n → IsByte (byte_or xs n o)
or_byte xs n None h is = is
or_byte xs n (Some i) h is = byte_at xs i h

byte_if : (b : Bool) (m n : ℕ) → IsByte m → IsByte n → IsByte (cond b m n)
byte_if true m n one_ two = one_
byte_if false m n one_ two = two

bytes_if : (b : Bool) (xs ys : List ℕ) → EachOf IsByte xs → EachOf IsByte ys → EachOf IsByte (cond b xs ys)
bytes_if true xs ys one_ two = one_
bytes_if false xs ys one_ two = two

pub payload-carried : (q : Payload) (memory : List ℕ) → EachOf IsByte memory → PayloadFits q → PayloadFits (carried q memory)
payload-carried q memory m h = record {
  bytes = bytes_if _ (map (read_at q memory) (places q.bytes)) q.bytes
      (each_mapped (read_at q memory) (λ i. byte_if (is_enabled q.enables i) (slice_index memory (address_of q i)) (slice_index q.bytes i) (byte_at memory (address_of q i) m) (byte_at q.bytes i h.bytes)) (places q.bytes)) h.bytes;
  enables = h.enables;
  width = h.width;
}

pub memory-carried : (p : MemoryPart) (q : Payload) (memory : List ℕ) → PayloadFits q → MemoryFits p memory → MemoryFits p (memory_after q memory)
memory-carried p q memory h m = at (moves q (length memory) WRITE)
  where
    at : (b : Bool) → MemoryFits p (cond b (map (written_at q memory) (places memory)) memory)
    at true = (
      length-map (places memory) (written_at q memory) ∙ length-range_with_len 0 (length memory) ∙ m.0,
      each_mapped (written_at q memory) (λ a. or_byte q.bytes (slice_index memory a) _ h.bytes (byte_at memory a m.1)) (places memory),
    )
    at false = m

-- ---- fifos

pub oldest-fits : (p : FifoPart) (q : Queued) (v : Value) → FifoFits p q → readable q ≡ Some v → IsOf p.value_type v
oldest-fits p q v h is = at (available q == 0) is
  where
    at : (b : Bool) → cond b None (slice_get q.unread 0) ≡ Some v → IsOf p.value_type v
    at true e = absurd (none-some v e)
    at false e = each-get (IsOf p.value_type) q.unread 0 v h e

queued_if : (p : FifoPart) (b : Bool) (q r : Queued) → FifoFits p q → FifoFits p r → FifoFits p (cond b q r)
queued_if p true q r one_ two = one_
queued_if p false q r one_ two = two

pub read-fits : (p : FifoPart) (q : Queued) → FifoFits p q → FifoFits p (after_read q)
read-fits p q h = queued_if p (available q == 0) q (record q { unread = drop 1 q.unread; read = q.read + 1 }) h (each-drop (IsOf p.value_type) 1 q.unread h)

pub write-fits : (p : FifoPart) (q : Queued) (v : Value) → IsOf p.value_type v → FifoFits p q → FifoFits p (after_write q v)
write-fits p q v is h = queued_if p (free q == 0) q (record q { unread = q.unread ++ v ∷ []; written = q.written + 1 }) h (each-more (IsOf p.value_type) q.unread (v ∷ []) h (is, tt))

-- ---- configurations

module _ (d : Design) where
  -- the channels, with these in place of those
  pub channels-fit : (e : Config) (x : Channels) → Pairwise SignalFits d.signals x.signals → length x.resolved ≡ length d.resolved → Pairwise FifoFits d.fifos x.fifos → Fits d e → Fits d (record e { channels = x })
  channels-fit e x signals resolved fifos k = (k.0, contents, k.2, k.3)
    where
      contents : Contents d e.store x e.transactions.pool e.quantum.keepers
      contents = record { variables = k.1.variables; memories = k.1.memories; signals = signals; resolved = resolved; fifos = fifos; payloads = k.1.payloads; keepers_there = k.1.keepers_there }

  pub signal-fits : (e : Config) (n : ℕ) (s : Signal) → ((x : SignalPart) → slice_get d.signals n ≡ Some x → SignalFits x s) → Fits d e → Fits d (set_signal e n s)
  signal-fits e n s fits k = channels-fit e (record e.channels { signals = slice_set e.channels.signals n s }) (pair-set SignalFits d.signals e.channels.signals n s fits k.1.signals) k.1.resolved k.1.fifos k

  pub drive-fits : (e : Config) (n : ℕ) (v : Value) (p : ℕ) → Fits d e → Fits d (drive e n v p)
  drive-fits e n v p k =
      channels-fit e (drive e n v p).channels k.1.signals (length-change e.channels.resolved n _ ∙ k.1.resolved) k.1.fifos k

  pub fifo-fits : (e : Config) (n : ℕ) (q : Queued) → ((x : FifoPart) → slice_get d.fifos n ≡ Some x → FifoFits x q) → Fits d e → Fits d (set_fifo e n q)
  fifo-fits e n q fits k = channels-fit e (record e.channels { fifos = slice_set e.channels.fifos n q }) k.1.signals k.1.resolved (pair-set FifoFits d.fifos e.channels.fifos n q fits k.1.fifos) k

  pub mutex-fits : (e : Config) (n : ℕ) (m : Option ℕ) → Fits d e → Fits d (set_mutex e n m)
  mutex-fits e n m k = channels-fit e (record e.channels { mutexes = slice_set e.channels.mutexes n m }) k.1.signals k.1.resolved k.1.fifos k

  pub semaphore-fits : (e : Config) (n v : ℕ) → Fits d e → Fits d (set_semaphore e n v)
  semaphore-fits e n v k = channels-fit e (record e.channels { semaphores = slice_set e.channels.semaphores n v }) k.1.signals k.1.resolved k.1.fifos k

  pub pool-fits : (e : Config) (pool : Payloads) → EachOf CountedFits pool → Fits d e → Fits d (with_pool e pool)
  pool-fits e pool fits k = (k.0, contents, k.2, k.3)
    where
      contents : Contents d e.store e.channels pool e.quantum.keepers
      contents = record { variables = k.1.variables; memories = k.1.memories; signals = k.1.signals; resolved = k.1.resolved; fifos = k.1.fifos; payloads = fits; keepers_there = k.1.keepers_there }

  -- the bytes of a memory where it is one
  pub memory-fits : (e : Config) (o : Option ℕ) (bytes : List ℕ) → ((m : ℕ) (x : MemoryPart) → o ≡ Some m → slice_get d.memories m ≡ Some x → MemoryFits x bytes) → Fits d e → Fits d (set_memory e o bytes)
  memory-fits e None bytes fits k = k
  memory-fits e (Some m) bytes fits k = (k.0, contents, k.2, k.3)
    where
      contents : Contents d (record e.store { memories = slice_set e.store.memories m bytes }) e.channels e.transactions.pool e.quantum.keepers
      contents = record {
        variables = k.1.variables;
        memories = pair-set MemoryFits d.memories e.store.memories m bytes (λ x at. fits m x refl at) k.1.memories;
        signals = k.1.signals;
        resolved = k.1.resolved;
        fifos = k.1.fifos;
        payloads = k.1.payloads;
        keepers_there = k.1.keepers_there;
      }

  pub memory-here : (e : Config) (o : Option ℕ) (m : ℕ) (x : MemoryPart) → Fits d e → o ≡ Some m → slice_get d.memories m ≡ Some x → MemoryFits x (memory_at e o)
  memory-here e o m x k is at =
      let p = partner-at MemoryFits d.memories e.store.memories m x k.1.memories at in
      subst (λ o. MemoryFits x (memory_at e o)) (sym is) (subst (λ y. MemoryFits x (unwrap_or y [])) (sym p.at) p.fits)

  pub keeper-fits : (e : Config) (o : Option ℕ) (y : Keeper) → Fits d e → Fits d (with_keeper e o y)
  keeper-fits e None y k = k
  keeper-fits e (Some n) y k = (k.0, contents, k.2, k.3)
    where
      contents : Contents d e.store e.channels e.transactions.pool (slice_set e.quantum.keepers n y)
      contents = record {
        variables = k.1.variables;
        memories = k.1.memories;
        signals = k.1.signals;
        resolved = k.1.resolved;
        fifos = k.1.fifos;
        payloads = k.1.payloads;
        keepers_there = length-set e.quantum.keepers n y ∙ k.1.keepers_there;
      }
