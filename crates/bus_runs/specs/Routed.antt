-- Traffic of which nothing is direct: the times of accesses that all go through the router, what they read and write, and their
-- text. Grants and invalidations have no part in it.
use Rattle.std.specs.Prelude.{◌≡◌, ℕ, ◌+◌, ◌<◌, ◌↔◌, false, List, ◌++◌, None, length, take, codes, max, Contains, slice_index}
use Rattle.std.specs.List.{flat_map}
use Rattle.std.specs.Ordering.{int_eq}
use Rattle.bus_router.specs.DmiMap.declared.order.Rank.{Rank}
use Rattle.bus_router.specs.DmiMap.Ranks.{AreInOrder}
use Rattle.bus_router.specs.PayloadPool.declared.payload.Payload.{Payload}
use Rattle.bus_router.specs.PayloadPool.declared.payload.TheConstants.{ADDRESS, OK}
use Rattle.bus_router.specs.DmiMap.Accesses.{accessed}
use Rattle.bus_router.specs.TrafficFile.declared.Bus.{Bus}
use Rattle.bus_router.specs.TrafficFile.Traffic.{line_at, target_at, initiator_at, home_of}
use Rattle.bus_router.specs.declared.rows.BusRow.{BusRow}
use Rattle.bus_router.specs.Times.{Table, row_at, IsFirst, IsBefore, Earlier, IsNowhere, IsServed}
use Rattle.bus_router.specs.Answers.{IsOf, asked, low_of, memory_behind, payload_at}
use Rattle.result_texts.specs.Lines.{access_head, status_word, data_text, end_line, IsReturnOrder}

-- no initiator keeps grants
abbrev pub NoneKeeps : Bus → Type 0
NoneKeeps bus = (i : ℕ) → i < length bus.initiators → (initiator_at bus i).dmi ≡ false

-- ---- times

-- none of a home's accesses comes before k
abbrev pub IsFirstThere : Bus → Table → ℕ → ℕ → Type 0
IsFirstThere bus table home k = (m : ℕ) → IsOf bus home m → Earlier table m k → ⊥

-- j is the one before k
pub record IsBeforeThere (bus : Bus) (table : Table) (home j k : ℕ) : Type 0 where
  pub of : IsOf bus home j
  pub earlier : Earlier table j k
  pub none_between : (m : ℕ) → IsOf bus home m → Earlier table j m → Earlier table m k → ⊥

-- an access begins at its time, but not before the response to the one before is back; a delay later it arrives; its home begins to
-- serve it when it has arrived and the one before it there is served, and takes its latency; a delay later it is back
pub record AllRouted (bus : Bus) (table : Table) : Type 0 where
  pub routed : (k : ℕ) → k < length bus.lines → (table k).direct ≡ false
  pub begins : (k : ℕ) → k < length bus.lines → IsFirst bus k → (table k).b ≡ (line_at bus k).time
  pub goes_on : (j k : ℕ) → k < length bus.lines → IsBefore bus j k → (table k).b ≡ max (line_at bus k).time (table j).r
  pub arrives : (k : ℕ) → k < length bus.lines → (table k).a ≡ (table k).b + bus.delay
  pub nowhere : (k : ℕ) → k < length bus.lines → home_of bus k ≡ None → IsNowhere bus.delay (table k)
  pub alone : (home k : ℕ) → IsOf bus home k → IsFirstThere bus table home k → (table k).s ≡ (table k).a
  pub behind : (home j k : ℕ) → IsOf bus home k → IsBeforeThere bus table home j k → (table k).s ≡ max (table k).a (table j).e
  pub served : (home k : ℕ) → IsOf bus home k → IsServed bus.delay (target_at bus home).latency (table k)

pub record IsRoutedTable (bus : Bus) (rows : List BusRow) : Type 0 where
  pub many : length rows ≡ length bus.lines
  pub routed : AllRouted bus (row_at rows)

-- ---- answers

-- the accesses of a home come in the order in which they arrive, at one time in that of the file
abbrev pub arrived_rank : BusRow → Rank
arrived_rank row = record { first = row.a; second = 0 }

pub record IsArrivalOrder (bus : Bus) (table : Table) (home : ℕ) (ks : List ℕ) : Type 0 where
  pub all : (k : ℕ) → Contains ks k ↔ IsOf bus home k
  pub order : AreInOrder (λ k. arrived_rank (table k)) ks

-- each finds the memory as those before it left it
pub record AreServedInTurn (bus : Bus) (table : Table) (payloads : List Payload) (home : ℕ) : Type 0 where
  pub ks : List ℕ
  pub order : IsArrivalOrder bus table home ks
  pub each : (i : ℕ) → i < length ks
      → payload_at payloads (slice_index ks i) ≡ accessed (low_of bus (slice_index ks i)) (asked bus (slice_index ks i)) (memory_behind bus home (take i ks))

pub record AreRoutedAnswers (bus : Bus) (table : Table) (payloads : List Payload) : Type 0 where
  pub many : length payloads ≡ length bus.lines
  pub nowhere : (k : ℕ) → k < length bus.lines → home_of bus k ≡ None → payload_at payloads k ≡ record (asked bus k) { status = ADDRESS }
  pub served : (home : ℕ) → home < length bus.targets → AreServedInTurn bus table payloads home

-- ---- text

-- the line of an access, with no mark
abbrev pub plain_line : Bus → BusRow → ℕ → Payload → List ℕ
plain_line bus row k p = access_head bus row.r k ++ status_word (int_eq p.status OK) ++ data_text (int_eq p.status OK) p ++ codes "\n"

pub record IsPlainText (bus : Bus) (rows : List BusRow) (payloads : ℕ → Payload) (text : List ℕ) : Type 0 where
  pub ks : List ℕ
  pub order : IsReturnOrder bus rows ks
  pub is : text ≡ flat_map (λ k. plain_line bus (row_at rows k) k (payloads k)) ks ++ end_line rows

-- the text of traffic that all goes through the router
pub record IsRoutedText (bus : Bus) (out : List ℕ) : Type 0 where
  pub rows : List BusRow
  pub payloads : List Payload
  pub table : IsRoutedTable bus rows
  pub answers : AreRoutedAnswers bus (row_at rows) payloads
  pub written : IsPlainText bus rows (payload_at payloads) out
