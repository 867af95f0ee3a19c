-- The channel that a statement is for, and what becomes of it where it is tried.
use Rattle.std.specs.Prelude.{◌≡◌, ℕ, Bool, false, not, List, Option, Some, None, option_map, Result, Ok}
use Rattle.kernel_view.specs.FifoSync.Fifos.{readable}
use Rattle.kernel_view.specs.FifoSync.Locks.{is_unlocked, is_used_up}
use Rattle.flat_design.specs.Code.{ChannelTerm}
use Rattle.flat_design.specs.declared.design.ChannelId.{ChannelId}
use Rattle.flat_design.specs.declared.faults.RunFault.{RunFault}
use Rattle.kernel_view.specs.SimModel.Values.{on_ok}
use Rattle.kernel_view.specs.SimModel.Configuration.{change}
use Rattle.kernel_view.specs.SimModel.Reading.{Here, place_in}
use Rattle.kernel_view.specs.SimModel.Channels.{channel_in, element, fifo_here, mutex_of, semaphore_of}

-- its place is evaluated, and then its name is looked up
abbrev pub used_here : Here → ChannelTerm → Result ChannelId RunFault
used_here h at = on_ok (place_in h at.place) (channel_in h at)

-- the element of this number is changed, where there is a number
abbrev pub changed_in : {A : Type 0} → List A → Option ℕ → (A → A) → List A
changed_in xs None f = xs
changed_in xs (Some n) f = change xs n f

-- that channel is a mutex that somebody owns; a semaphore of which nothing is left; a fifo of which nothing can be read
abbrev pub IsOwnedHere : Here → ChannelTerm → Type 0
IsOwnedHere h at = on_ok (used_here h at) (λ ch. Ok (option_map is_unlocked (element h.config.channels.mutexes (mutex_of ch)))) ≡ Ok (Some false)

abbrev pub IsUsedUpHere : Here → ChannelTerm → Type 0
IsUsedUpHere h at = on_ok (used_here h at) (λ ch. Ok (option_map (λ v. not (is_used_up v)) (element h.config.channels.semaphores (semaphore_of ch)))) ≡ Ok (Some false)

abbrev pub IsEmptyHere : Here → ChannelTerm → Type 0
IsEmptyHere h at = on_ok (used_here h at) (λ ch. Ok (option_map readable (fifo_here h.config ch))) ≡ Ok (Some None)
