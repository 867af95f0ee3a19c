-- What clean configurations ask of the parts that keep the processes, over these parts (IEEE 1666-2011, 4.2.1 and 5.6.6): of the wait
-- lists, the queue of times, the set of zero time-outs, the ready set, the stack of the active instances, and the table.
use Rattle.std.specs.Prelude.{◌≡◌, ◌<◌, ◌||◌, ℕ, Bool, true, false, Some, is_some}
use Rattle.std.specs.FinMap as map
use Rattle.kernel_state.specs.InstanceTable.declared.instances.Instance.{Instance as Entry}
use Rattle.kernel_state.specs.KernelProcesses.InstanceViews.{Seen, seen, is_on}
use Rattle.kernel_state.specs.KernelProcesses.Sound.{IsOnce}
use Rattle.kernel_state.specs.KernelProcesses.declared.parts.Process.{Process}
use Rattle.kernel_state.specs.KernelProcesses.declared.parts.Schedule.{Schedule}

module _ {B : Type 0} where
  -- it waits for an event, or a time ends a wait of it, zero time-outs among them
  abbrev pub waits : Seen B → Bool
  waits s = is_some s.wait || (is_some s.time || s.zero)

  -- it is runnable or active
  abbrev pub runs : Schedule B → ℕ → Bool
  runs s p = (seen s p).ready || is_on s.stack.items p

  -- an instance that was made and has not ended; the serials of all that were made are below the next one
  abbrev pub IsLive : Schedule B → ℕ → Type 0
  IsLive s p = (map.contains_key s.table.live p ≡ true) × (p < s.table.next)

  pub record IsClean (s : Schedule B) : Type 0 where
    -- what is runnable or active, waits for an event, or has a time that ends a wait of it was made and has not ended; a mark that it
    -- is kept until it is resumed stands in the table of those that have not
    pub live : (p : ℕ) → runs s p || waits (seen s p) ≡ true → IsLive s p
    -- the stack has no doubles, nor has a set, and the two have nothing in common
    pub once : IsOnce s.stack.items
    pub apart : (p : ℕ) → is_on s.stack.items p ≡ true → (seen s p).ready ≡ false
    -- what is runnable or active waits for nothing, and is not kept until it is resumed
    pub free : (p : ℕ) → runs s p ≡ true → waits (seen s p) ≡ false
    pub not_kept : (p : ℕ) (x : Entry (Process B)) → runs s p ≡ true → map.get s.table.live p ≡ Some x → x.kept ≡ false
    -- what is kept is suspended, and what is suspended is not runnable
    pub kept : (p : ℕ) (x : Entry (Process B)) → map.get s.table.live p ≡ Some x → x.kept ≡ true → x.suspended ≡ true
    pub suspended : (p : ℕ) (x : Entry (Process B)) → map.get s.table.live p ≡ Some x → x.suspended ≡ true → (seen s p).ready ≡ false
