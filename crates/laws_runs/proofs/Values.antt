-- Where values go, and what channels, keepers and hops do by themselves, is made of moves.
use Rattle.std.proofs.Common.{◌≡◌, ℕ, suc, ◌+◌, ◌==◌, Bool, true, false, cond, List, [], ◌∷◌, slice_get, Option, Some, None, refl}
use Rattle.std.specs.Prelude.{Result, Ok, Err}
use Rattle.std.specs.Result.{IfOk}
use Rattle.sim_model.specs.LogicValues.declared.kinds.Value.{Value}
use Rattle.sim_model.specs.LogicValues.declared.kinds.Value.TheVariants as value
use Rattle.sim_model.specs.EventCore.declared.event.Ev.{Ev}
use Rattle.sim_model.specs.SignalChannel.Signals.{conflict_of}
use Rattle.sim_model.specs.SignalChannel.declared.signal.Signal.{Signal}
use Rattle.sim_model.specs.SignalChannel.declared.signal.WriterConflict.{WriterConflict}
use Rattle.sim_model.specs.FifoSync.Fifos.{Queued, readable, free, after_read, after_write}
use Rattle.sim_model.specs.FifoSync.Locks.{locked_by, unlocked_by}
use Rattle.sim_model.specs.QuantumKeeper.declared.keeper.Keeper.{Keeper}
use Rattle.sim_model.specs.FlatDesign.Code as code
use Rattle.sim_model.specs.FlatDesign.Code.{ArgumentTerm}
use Rattle.sim_model.specs.FlatDesign.declared.names.NameUse.{NameUse}
use Rattle.sim_model.specs.FlatDesign.declared.names.NameUse.TheVariants as name_use
use Rattle.sim_model.specs.FlatDesign.declared.code.Store.{Store as Target}
use Rattle.sim_model.specs.FlatDesign.declared.design.ChannelId.{ChannelId}
use Rattle.sim_model.specs.FlatDesign.declared.design.ChannelId.TheVariants as channel
use Rattle.sim_model.specs.FlatDesign.declared.design.Denoted.{Denoted}
use Rattle.sim_model.specs.FlatDesign.declared.design.Denoted.TheVariants as denoted
use Rattle.sim_model.specs.FlatDesign.declared.faults.RunFault.{RunFault}
use Rattle.sim_model.specs.Values.{on_ok}
use Rattle.sim_model.specs.Residual.{Frame}
use Rattle.sim_model.specs.Configuration.{Config}
use Rattle.sim_model.specs.Reading.{Here, denotes}
use Rattle.sim_model.specs.Waits.{fire}
use Rattle.sim_model.specs.Waiting.{channel_event}
use Rattle.sim_model.specs.FlatDesign.declared.names.EventMember.TheVariants as event
use Rattle.sim_model.specs.Storing.{set_local, set_denoted, set_name, stored, stored_if, set_memory}
use Rattle.sim_model.specs.Channels.{written_unless, write_signal, fifo_of, fifo_here, with_fifo, answered, set_mutex, set_semaphore, taken_from, trylock_mutex, trylock_at, unlock_mutex, unlock_at, sem_trywait_value, sem_trywait_at, post_value, post_at}
use Rattle.sim_model.specs.Calls.{final_value, given_back, call_ends, handle_stored}
use Rattle.sim_model.specs.Transport.{with_keeper, kept, on_keeper}
use Rattle.laws_runs.specs.Moves.{setting_local, setting_variable, setting_memory, writing, reading_fifo, writing_fifo, locking, unlocking, taking_semaphore, posting, setting_keeper, Moves, then}
use Rattle.laws_runs.proofs.WakeMoves.{fire-keeps, moves-wakes}

module _ (who : Option ℕ) (o : Config) where
  -- ---- answers

  pub if-ok : {A : Type 0} (m : Result A RunFault) (f : A → Result Config RunFault) → ((x : A) → IfOk (f x) (Moves who o)) → IfOk (on_ok m f) (Moves who o)
  if-ok (Ok x) f h = h x
  if-ok (Err e) f h = tt

  -- on from a value, with what it is
  pub if_ok-by : {A : Type 0} (m : Result A RunFault) (f : A → Result Config RunFault) → ((x : A) → m ≡ Ok x → IfOk (f x) (Moves who o)) → IfOk (on_ok m f) (Moves who o)
  if_ok-by (Ok x) f h = h x refl
  if_ok-by (Err e) f h = tt

  -- on from a configuration that moves led to
  pub if_went-ok : (m : Result Config RunFault) (f : Config → Result Config RunFault) → IfOk m (Moves who o) → ((d : Config) → Moves who o d → IfOk (f d) (Moves who o)) → IfOk (on_ok m f) (Moves who o)
  if_went-ok (Ok d) f s h = h d s
  if_went-ok (Err e) f s h = tt

  pub either-moves : (b : Bool) (c d : Config) → Moves who o c → Moves who o d → Moves who o (cond b c d)
  either-moves true c d one two = one
  either-moves false c d one two = two

  pub either_ok-moves : (b : Bool) (m n : Result Config RunFault) → IfOk m (Moves who o) → IfOk n (Moves who o) → IfOk (cond b m n) (Moves who o)
  either_ok-moves true m n one two = one
  either_ok-moves false m n one two = two

  pub fire-moves : (c : Config) (e : Ev) → Moves who o c → Moves who o (fire c e)
  fire-moves c e h = fire-keeps (Moves who o) (moves-wakes who o) c e h

-- ---- where values go, in the turn of p

module _ (who : Option ℕ) (o : Config) (p : ℕ) (mine : who ≡ Some p) where
  pub local-moves : (c : Config) (n : ℕ) (v : Value) → Moves who o c → Moves who o (set_local c p n v)
  local-moves c n v h = then c (setting_local p n v) h mine

  denoted_moves : (c : Config) (x : Denoted) (v : Value) → Moves who o c → Moves who o (set_denoted c x v)
  denoted_moves c (denoted.Variable n) v h = then c (setting_variable n v) h (p, mine)
  denoted_moves c other v h = h

  pub name-moves : (c : Config) (h : Here) (n : NameUse) (v : Value) → Moves who o c → Moves who o (set_name c p h n v)
  name-moves c h (name_use.Local n) v s = local-moves c n v s
  name-moves c h (name_use.Declared n) v s = denoted_moves c (denotes h n) v s

  pub stored-moves : (c : Config) (h : Here) (target : Target) (v : Value) → Moves who o c → Moves who o (stored c p h target v)
  stored-moves c h target v s = name-moves c h target.name _ s

  pub stored_if-moves : (c : Config) (h : Here) (target : Option Target) (v : Value) → Moves who o c → Moves who o (stored_if c p h target v)
  stored_if-moves c h None v s = s
  stored_if-moves c h (Some target) v s = stored-moves c h target v s

  pub memory-moves : (c : Config) (m : Option ℕ) (bytes : List ℕ) → Moves who o c → Moves who o (set_memory c m bytes)
  memory-moves c None bytes s = s
  memory-moves c (Some m) bytes s = then c (setting_memory m bytes) s (p, mine)

  pub handle-moves : (c : Config) (h : Here) (n : Option NameUse) (q : ℕ) → Moves who o c → Moves who o (handle_stored c p h n q)
  handle-moves c h None q s = s
  handle-moves c h (Some n) q s = name-moves c h n (value.Handle (Some q)) s

  given_moves : (c : Config) (h : Here) (x : Frame) (i : ℕ) (arguments : List ArgumentTerm) → Moves who o c → Moves who o (given_back c p h x i arguments)
  given_moves c h x i [] s = s
  given_moves c h x i (code.by_value e ∷ more) s = given_moves c h x (suc i) more s
  given_moves c h x i (code.inout n ∷ more) s =
      given_moves (set_name c p h n (final_value x i (value.Bool false))) h x (suc i) more (name-moves c h n (final_value x i (value.Bool false)) s)

  pub call_ends-moves : (c : Config) (h : Here) (x : Frame) (target : Option Target) (arguments : List ArgumentTerm) → Moves who o c → Moves who o (call_ends c p h x target arguments)
  call_ends-moves c h x target arguments s = stored_if-moves (given_back c p h x 0 arguments) h target _ (given_moves c h x 0 arguments s)

  -- ---- channels

  unless_moves : (c : Config) (n : ℕ) (x : Signal) (v : Value) (w : Option WriterConflict) → slice_get c.channels.signals n ≡ Some x → conflict_of (Some p) x.writer ≡ w → Moves who o c → IfOk (written_unless c n x v p w) (Moves who o)
  unless_moves c n x v None at is s = then c (writing n p v x) s (mine, at, is)
  unless_moves c n x v (Some w) at is s = tt

  pub signal-moves : (c : Config) (n : ℕ) (v : Value) (x : Option Signal) → slice_get c.channels.signals n ≡ x → Moves who o c → IfOk (write_signal c n v p x) (Moves who o)
  signal-moves c n v None at s = s
  signal-moves c n v (Some x) at s = unless_moves c n x v (conflict_of (Some p) x.writer) at refl s

  pub read-moves : (c : Config) (ch : ChannelId) (q : Queued) (v : Value) → fifo_here c ch ≡ Some q → readable q ≡ Some v → Moves who o c → Moves who o (with_fifo c (fifo_of ch) (after_read q))
  read-moves c (channel.Fifo n events) q v at is s = then c (reading_fifo n q) s ((p, mine), at, v, is)
  read-moves c other q v at is s = s

  pub written-moves : (c : Config) (ch : ChannelId) (q : Queued) (v : Value) → fifo_here c ch ≡ Some q → (free q == 0) ≡ false → Moves who o c → Moves who o (with_fifo c (fifo_of ch) (after_write q v))
  written-moves c (channel.Fifo n events) q v at is s = then c (writing_fifo n q v) s ((p, mine), at, is)
  written-moves c other q v at is s = s

  pub answered-moves : (c : Config) (h : Here) (x : Option Target) (done : Bool) → Moves who o c → Moves who o (answered c p h x done)
  answered-moves c h x done s = search (stored_if-moves, s)

  trylock_mutex_moves : (c : Config) (h : Here) (x : Option Target) (n : ℕ) (m : Option (Option ℕ)) → slice_get c.channels.mutexes n ≡ m → Moves who o c → Moves who o (trylock_mutex c p h x n m)
  trylock_mutex_moves c h x n None at s = s
  trylock_mutex_moves c h x n (Some m) at s = answered-moves (set_mutex c n (locked_by p m)) h x _ (then c (locking n p m) s (mine, at))

  pub trylock-moves : (c : Config) (h : Here) (x : Option Target) (n : Option ℕ) → Moves who o c → Moves who o (trylock_at c p h x n)
  trylock-moves c h x None s = s
  trylock-moves c h x (Some n) s = trylock_mutex_moves c h x n (slice_get c.channels.mutexes n) refl s

  unlock_mutex_moves : (c : Config) (h : Here) (x : Option Target) (n : ℕ) (ch : ChannelId) (m : Option (Option ℕ)) → slice_get c.channels.mutexes n ≡ m → Moves who o c → Moves who o (unlock_mutex c p h x n ch m)
  unlock_mutex_moves c h x n ch None at s = s
  unlock_mutex_moves c h x n ch (Some m) at s =
      let d : Moves who o (fire (set_mutex c n (unlocked_by p m)) (channel_event event.Own ch)) = fire-moves who o (set_mutex c n (unlocked_by p m)) (channel_event event.Own ch) (then c (unlocking n p m) s (mine, at)) in
      search (either-moves who o, answered-moves, d, s)

  pub unlock-moves : (c : Config) (h : Here) (x : Option Target) (ch : ChannelId) (n : Option ℕ) → Moves who o c → Moves who o (unlock_at c p h x ch n)
  unlock-moves c h x ch None s = s
  unlock-moves c h x ch (Some n) s = unlock_mutex_moves c h x n ch (slice_get c.channels.mutexes n) refl s

  trywait_value_moves : (c : Config) (h : Here) (x : Option Target) (n : ℕ) (v : Option ℕ) → slice_get c.channels.semaphores n ≡ v → Moves who o c → Moves who o (sem_trywait_value c p h x n v)
  trywait_value_moves c h x n None at s = s
  trywait_value_moves c h x n (Some v) at s =
      either-moves who o _ _ _ (answered-moves c h x false s) (answered-moves (set_semaphore c n (taken_from v)) h x true (then c (taking_semaphore n v) s ((p, mine), at)))

  pub trywait-moves : (c : Config) (h : Here) (x : Option Target) (n : Option ℕ) → Moves who o c → Moves who o (sem_trywait_at c p h x n)
  trywait-moves c h x None s = s
  trywait-moves c h x (Some n) s = trywait_value_moves c h x n (slice_get c.channels.semaphores n) refl s

  post_value_moves : (c : Config) (n : ℕ) (ch : ChannelId) (v : Option ℕ) → slice_get c.channels.semaphores n ≡ v → Moves who o c → Moves who o (post_value c n ch v)
  post_value_moves c n ch None at s = s
  post_value_moves c n ch (Some v) at s = fire-moves who o (set_semaphore c n (v + 1)) (channel_event event.Own ch) (then c (posting n v) s ((p, mine), at))

  pub post-moves : (c : Config) (ch : ChannelId) (n : Option ℕ) → Moves who o c → Moves who o (post_at c ch n)
  post-moves c ch None s = s
  post-moves c ch (Some n) s = post_value_moves c n ch (slice_get c.channels.semaphores n) refl s

  -- ---- keepers

  pub keeper-moves : (c : Config) (n : Option ℕ) (k : Keeper) → Moves who o c → Moves who o (with_keeper c n k)
  keeper-moves c None k s = s
  keeper-moves c (Some n) k s = then c (setting_keeper n k) s (p, mine)

  pub kept-moves : (c : Config) (n : Option ℕ) (k : Option Keeper) → Moves who o c → IfOk (kept c n k) (Moves who o)
  kept-moves c n None s = tt
  kept-moves c n (Some k) s = keeper-moves c n k s

  pub on_keeper-moves : (c : Config) (k : Option Keeper) (f : Keeper → Result Config RunFault) → Moves who o c → ((x : Keeper) → IfOk (f x) (Moves who o)) → IfOk (on_keeper c k f) (Moves who o)
  on_keeper-moves c None f s each = s
  on_keeper-moves c (Some k) f s each = each k
