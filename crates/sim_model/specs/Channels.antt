-- Statements on channels (IEEE 1666-2011, clause 6).
use Rattle.std.specs.Prelude.{ℕ, ◌+◌, ◌-◌, ◌==◌, Bool, true, false, List, [], ◌∷◌, slice_get, slice_set, Option, Some, None, Result, Ok, Err, if◌then◌else◌}
use Rattle.signal_channel.specs.LogicValues.declared.kinds.Value.{Value}
use Rattle.signal_channel.specs.LogicValues.declared.kinds.Value.TheVariants as value
use Rattle.signal_channel.specs.LogicValues.Integers.{bits_of}
use Rattle.flat_design.specs.EventCore.declared.event.Ev.{Ev}
use Rattle.signal_channel.specs.Signals.{written, conflict_of}
use Rattle.signal_channel.specs.Drivers.{driven_by}
use Rattle.signal_channel.specs.declared.signal.Signal.{Signal}
use Rattle.signal_channel.specs.declared.signal.WriterConflict.{WriterConflict}
use Rattle.fifo_sync.specs.Fifos.{Queued, free, readable, after_read, after_write}
use Rattle.fifo_sync.specs.Locks.{answer, is_unlocked, is_owner, locked_by, unlocked_by, is_used_up}
use Rattle.flat_design.specs.Code.{Term, ChannelTerm}
use Rattle.flat_design.specs.declared.value_types.ValueType.{ValueType}
use Rattle.flat_design.specs.declared.names.EventMember.TheVariants as event
use Rattle.flat_design.specs.declared.code.Store.{Store as Target}
use Rattle.flat_design.specs.declared.design.ChannelId.{ChannelId}
use Rattle.flat_design.specs.declared.design.ChannelId.TheVariants as channel
use Rattle.flat_design.specs.declared.faults.RunFault.{RunFault}
use Rattle.flat_design.specs.declared.faults.RunFault.TheVariants as fault
use Rattle.sim_model.specs.Values.{on_ok, cut_to, one_digit, digit_list, signed}
use Rattle.sim_model.specs.Residual.{Residual}
use Rattle.sim_model.specs.Configuration.{Config, Channels, waits_for_any, no_deadline, change, with_residual}
use Rattle.sim_model.specs.Waits.{fire, waits}
use Rattle.sim_model.specs.Reading.{Here, channel_here, val, place_in}
use Rattle.sim_model.specs.Storing.{passes, stored, stored_if}
use Rattle.sim_model.specs.Waiting.{channel_event}

abbrev pub with_channels : Config → (Channels → Channels) → Config
with_channels c f = record c { channels = f c.channels }

-- a channel that a statement names, its place evaluated before what else it evaluates
abbrev pub channel_in : Here → ChannelTerm → Option ℕ → Result ChannelId RunFault
channel_in h ch k = channel_here h ch.channel_name k

-- a blocked call leaves the same statement, and waits for the channel's event
abbrev pub blocks : Config → ℕ → Residual → Ev → Config
blocks c p r e = waits (with_residual c p r) p (waits_for_any (e ∷ [])) no_deadline

-- signals: a write asks for an update; another writer is a fault

abbrev pub set_signal : Config → ℕ → Signal → Config
set_signal c n s = with_channels c (λ (x : Channels). record x { signals = slice_set x.signals n s })

abbrev pub written_unless : Config → ℕ → Signal → Value → ℕ → Option WriterConflict → Result Config RunFault
written_unless c n s v p None = Ok (set_signal c n (written (Some p) v s))
written_unless c n s v p (Some w) = Err (fault.WriterConflict w.first w.second)

abbrev pub write_signal : Config → ℕ → Value → ℕ → Option Signal → Result Config RunFault
write_signal c n v p None = Ok c
write_signal c n v p (Some s) = written_unless c n s v p (conflict_of (Some p) s.writer)

-- a resolved signal has a driver for each serial that wrote it
abbrev pub drive : Config → ℕ → Value → ℕ → Config
drive c n v p = with_channels c (λ (x : Channels).
    record x { resolved = change x.resolved n (driven_by p (one_digit (digit_list v))); resolved_asked = slice_set x.resolved_asked n true })

-- fifos

abbrev pub set_fifo : Config → ℕ → Queued → Config
set_fifo c n q = with_channels c (λ (x : Channels). record x { fifos = slice_set x.fifos n q })

abbrev pub write_fifo : Config → ℕ → Residual → ℕ → ChannelId → Value → Option Queued → Config
write_fifo c p r n ch v None = passes c p r
write_fifo c p r n ch v (Some q) = if free q == 0 then blocks c p r (channel_event event.DataRead ch) else set_fifo (passes c p r) n (after_write q v)

-- a write by its channel; a mutex and a semaphore take none
abbrev pub write_channel : Config → ℕ → Residual → Value → ChannelId → Result Config RunFault
write_channel c p r v (channel.Signal n events) = write_signal (passes c p r) n v p (slice_get c.channels.signals n)
write_channel c p r v (channel.Resolved n events) = Ok (drive (passes c p r) n v p)
write_channel c p r v (channel.Fifo n events) = Ok (write_fifo c p r n (channel.Fifo n events) v (slice_get c.channels.fifos n))
write_channel c p r v (channel.Mutex n events) = Ok (passes c p r)
write_channel c p r v (channel.Semaphore n events) = Ok (passes c p r)

abbrev pub do_write : Config → ℕ → Residual → Here → ChannelTerm → ValueType → Term → Result Config RunFault
do_write c p r h ch t e = on_ok (place_in h ch.place) (λ k. on_ok (val h e) (λ v. on_ok (channel_in h ch k) (write_channel c p r (cut_to t v))))

-- the number of a channel among those of its kind, where it is of this kind

abbrev pub fifo_of : ChannelId → Option ℕ
fifo_of (channel.Signal n events) = None
fifo_of (channel.Resolved n events) = None
fifo_of (channel.Fifo n events) = Some n
fifo_of (channel.Mutex n events) = None
fifo_of (channel.Semaphore n events) = None

abbrev pub mutex_of : ChannelId → Option ℕ
mutex_of (channel.Signal n events) = None
mutex_of (channel.Resolved n events) = None
mutex_of (channel.Fifo n events) = None
mutex_of (channel.Mutex n events) = Some n
mutex_of (channel.Semaphore n events) = None

abbrev pub semaphore_of : ChannelId → Option ℕ
semaphore_of (channel.Signal n events) = None
semaphore_of (channel.Resolved n events) = None
semaphore_of (channel.Fifo n events) = None
semaphore_of (channel.Mutex n events) = None
semaphore_of (channel.Semaphore n events) = Some n

abbrev pub element : {A : Type 0} → List A → Option ℕ → Option A
element xs None = None
element xs (Some n) = slice_get xs n

abbrev pub fifo_here : Config → ChannelId → Option Queued
fifo_here c ch = element c.channels.fifos (fifo_of ch)

abbrev pub with_fifo : Config → Option ℕ → Queued → Config
with_fifo c None q = c
with_fifo c (Some n) q = set_fifo c n q

-- a read: the oldest value, or the wait for one
abbrev pub read_value : Config → ℕ → Residual → Here → Option Target → ChannelId → Queued → Option Value → Config
read_value c p r h x ch q None = blocks c p r (channel_event event.DataWritten ch)
read_value c p r h x ch q (Some v) = stored_if (with_fifo (passes c p r) (fifo_of ch) (after_read q)) p h x v

abbrev pub read_fifo : Config → ℕ → Residual → Here → Option Target → ChannelId → Option Queued → Config
read_fifo c p r h x ch None = passes c p r
read_fifo c p r h x ch (Some q) = read_value c p r h x ch q (readable q)

abbrev pub do_read : Config → ℕ → Residual → Here → Option Target → ChannelTerm → Result Config RunFault
do_read c p r h x t = on_ok (place_in h t.place) (λ k. on_ok (channel_in h t k) (λ ch. Ok (read_fifo c p r h x ch (fifo_here c ch))))

-- a read that does not block: first whether it was done is stored, and then the value
abbrev pub nb_read_value : Config → ℕ → Residual → Here → Option Target → Target → ChannelId → Queued → Option Value → Config
nb_read_value c p r h x y ch q None = stored_if (passes c p r) p h x (value.Bool false)
nb_read_value c p r h x y ch q (Some v) = stored (stored_if (with_fifo (passes c p r) (fifo_of ch) (after_read q)) p h x (value.Bool true)) p h y v

abbrev pub nb_read_fifo : Config → ℕ → Residual → Here → Option Target → Target → ChannelId → Option Queued → Config
nb_read_fifo c p r h x y ch None = passes c p r
nb_read_fifo c p r h x y ch (Some q) = nb_read_value c p r h x y ch q (readable q)

abbrev pub do_nb_read : Config → ℕ → Residual → Here → Option Target → ChannelTerm → Target → Result Config RunFault
do_nb_read c p r h x t y = on_ok (place_in h t.place) (λ k. on_ok (channel_in h t k) (λ ch. Ok (nb_read_fifo c p r h x y ch (fifo_here c ch))))

abbrev pub nb_write_fifo : Config → ℕ → Residual → Here → Option Target → ChannelId → Value → Option Queued → Config
nb_write_fifo c p r h x ch v None = passes c p r
nb_write_fifo c p r h x ch v (Some q) =
    if free q == 0 then stored_if (passes c p r) p h x (value.Bool false)
    else stored_if (with_fifo (passes c p r) (fifo_of ch) (after_write q v)) p h x (value.Bool true)

abbrev pub do_nb_write : Config → ℕ → Residual → Here → Option Target → ChannelTerm → ValueType → Term → Result Config RunFault
do_nb_write c p r h x t s e =
    on_ok (place_in h t.place) (λ k. on_ok (val h e) (λ v. on_ok (channel_in h t k) (λ ch. Ok (nb_write_fifo c p r h x ch (cut_to s v) (fifo_here c ch)))))

-- mutexes

abbrev pub set_mutex : Config → ℕ → Option ℕ → Config
set_mutex c n m = with_channels c (λ (x : Channels). record x { mutexes = slice_set x.mutexes n m })

abbrev pub answered : Config → ℕ → Here → Option Target → Bool → Config
answered c p h x done = stored_if c p h x (signed (bits_of (answer done)))

abbrev pub lock_mutex : Config → ℕ → Residual → ℕ → ChannelId → Option (Option ℕ) → Config
lock_mutex c p r n ch None = passes c p r
lock_mutex c p r n ch (Some m) = if is_unlocked m then set_mutex (passes c p r) n (locked_by p m) else blocks c p r (channel_event event.Own ch)

abbrev pub lock_at : Config → ℕ → Residual → ChannelId → Option ℕ → Config
lock_at c p r ch None = passes c p r
lock_at c p r ch (Some n) = lock_mutex c p r n ch (slice_get c.channels.mutexes n)

abbrev pub do_lock : Config → ℕ → Residual → Here → ChannelTerm → Result Config RunFault
do_lock c p r h t = on_ok (place_in h t.place) (λ k. on_ok (channel_in h t k) (λ ch. Ok (lock_at c p r ch (mutex_of ch))))

abbrev pub trylock_mutex : Config → ℕ → Here → Option Target → ℕ → Option (Option ℕ) → Config
trylock_mutex c p h x n None = c
trylock_mutex c p h x n (Some m) = answered (set_mutex c n (locked_by p m)) p h x (is_unlocked m)

abbrev pub trylock_at : Config → ℕ → Here → Option Target → Option ℕ → Config
trylock_at c p h x None = c
trylock_at c p h x (Some n) = trylock_mutex c p h x n (slice_get c.channels.mutexes n)

abbrev pub do_trylock : Config → ℕ → Residual → Here → Option Target → ChannelTerm → Result Config RunFault
do_trylock c p r h x t = on_ok (place_in h t.place) (λ k. on_ok (channel_in h t k) (λ ch. Ok (trylock_at (passes c p r) p h x (mutex_of ch))))

-- an unlock by the owner wakes all who wait for the mutex
abbrev pub unlock_mutex : Config → ℕ → Here → Option Target → ℕ → ChannelId → Option (Option ℕ) → Config
unlock_mutex c p h x n ch None = c
unlock_mutex c p h x n ch (Some m) =
    if is_owner p m then answered (fire (set_mutex c n (unlocked_by p m)) (channel_event event.Own ch)) p h x true
    else answered c p h x false

abbrev pub unlock_at : Config → ℕ → Here → Option Target → ChannelId → Option ℕ → Config
unlock_at c p h x ch None = c
unlock_at c p h x ch (Some n) = unlock_mutex c p h x n ch (slice_get c.channels.mutexes n)

abbrev pub do_unlock : Config → ℕ → Residual → Here → Option Target → ChannelTerm → Result Config RunFault
do_unlock c p r h x t = on_ok (place_in h t.place) (λ k. on_ok (channel_in h t k) (λ ch. Ok (unlock_at (passes c p r) p h x ch (mutex_of ch))))

-- semaphores

abbrev pub set_semaphore : Config → ℕ → ℕ → Config
set_semaphore c n v = with_channels c (λ (x : Channels). record x { semaphores = slice_set x.semaphores n v })

-- one less; `less one` of a value that is not used up
abbrev pub taken_from : ℕ → ℕ
taken_from v = v - 1

abbrev pub sem_wait_value : Config → ℕ → Residual → ℕ → ChannelId → Option ℕ → Config
sem_wait_value c p r n ch None = passes c p r
sem_wait_value c p r n ch (Some v) = if is_used_up v then blocks c p r (channel_event event.Own ch) else set_semaphore (passes c p r) n (taken_from v)

abbrev pub sem_wait_at : Config → ℕ → Residual → ChannelId → Option ℕ → Config
sem_wait_at c p r ch None = passes c p r
sem_wait_at c p r ch (Some n) = sem_wait_value c p r n ch (slice_get c.channels.semaphores n)

abbrev pub do_sem_wait : Config → ℕ → Residual → Here → ChannelTerm → Result Config RunFault
do_sem_wait c p r h t = on_ok (place_in h t.place) (λ k. on_ok (channel_in h t k) (λ ch. Ok (sem_wait_at c p r ch (semaphore_of ch))))

abbrev pub sem_trywait_value : Config → ℕ → Here → Option Target → ℕ → Option ℕ → Config
sem_trywait_value c p h x n None = c
sem_trywait_value c p h x n (Some v) = if is_used_up v then answered c p h x false else answered (set_semaphore c n (taken_from v)) p h x true

abbrev pub sem_trywait_at : Config → ℕ → Here → Option Target → Option ℕ → Config
sem_trywait_at c p h x None = c
sem_trywait_at c p h x (Some n) = sem_trywait_value c p h x n (slice_get c.channels.semaphores n)

abbrev pub do_sem_trywait : Config → ℕ → Residual → Here → Option Target → ChannelTerm → Result Config RunFault
do_sem_trywait c p r h x t = on_ok (place_in h t.place) (λ k. on_ok (channel_in h t k) (λ ch. Ok (sem_trywait_at (passes c p r) p h x (semaphore_of ch))))

-- a post wakes all who wait for the semaphore
abbrev pub post_value : Config → ℕ → ChannelId → Option ℕ → Config
post_value c n ch None = c
post_value c n ch (Some v) = fire (set_semaphore c n (v + 1)) (channel_event event.Own ch)

abbrev pub post_at : Config → ChannelId → Option ℕ → Config
post_at c ch None = c
post_at c ch (Some n) = post_value c n ch (slice_get c.channels.semaphores n)

abbrev pub do_post : Config → ℕ → Residual → Here → ChannelTerm → Result Config RunFault
do_post c p r h t = on_ok (place_in h t.place) (λ k. on_ok (channel_in h t k) (λ ch. Ok (post_at (passes c p r) ch (semaphore_of ch))))
