-- That a kernel is sound has one proof at most, so that a type can keep it.
use Rattle.std.specs.Prelude.{◌≡◌, ℕ, Bool, List, [], ◌∷◌, Option, Some, None, refl}
use Rattle.std.specs.Coded.{Coded, Coded-set, code_by, coded_ℕ, coded_bool, coded_list, coded_option, ×_prop, Π_prop, Unit-prop, le_prop}
use Rattle.kernel_state.specs.InstanceTable.contracts.instances.Waiting as waiting_row
use Rattle.kernel_state.specs.InstanceTable.contracts.instances.Deadline as deadline_row
use Rattle.wait_lists.specs.Waits.{Wait, wait_code}
use Rattle.kernel_state.specs.SimTime.declared.moments.Time.{Time}
use Rattle.kernel_state.specs.EventCore.declared.event.Ev.{Ev}
use Rattle.kernel_state.specs.InstanceTable.declared.instances.Instance.{Instance as Entry}
use Rattle.kernel_state.specs.InstanceTable.declared.instances.Waiting.{Waiting}
use Rattle.kernel_state.specs.InstanceTable.declared.instances.Waiting.TheVariants as waiting
use Rattle.kernel_state.specs.FlatDesign.Code.{Arena, arena_of}
use Rattle.kernel_state.specs.SimModel.Residual.{Residual}
use Rattle.kernel_state.specs.KernelBodies.Room.{FitsBlocks, FitsStatement, FitsLayer, FitsAll, FitsIn, EachFitsIn, FitsLast, FitsFrames, kept_inside}
use Rattle.kernel_state.specs.KernelBodies.declared.layers.Open.{Open}
use Rattle.kernel_state.specs.KernelBodies.declared.layers.Open.TheVariants as layer
use Rattle.kernel_state.specs.KernelBodies.declared.layers.Saved.{Saved}
use Rattle.kernel_state.specs.KernelBodies.declared.program.Program.{Program}
use Rattle.kernel_state.specs.ProcessBodies.Bodies as bodies
use Rattle.kernel_state.specs.ProcessState.Bodies.{IsOwnFirst}
use Rattle.kernel_state.specs.ProcessBodies.declared.body.Body.{Body}
use Rattle.kernel_state.specs.ProcessBodies.declared.body.Owed.{Owed}
use Rattle.kernel_state.specs.KernelProcesses.InstanceViews.{Seen, seen}
use Rattle.kernel_state.specs.KernelProcesses.Sound as schedules
use Rattle.kernel_state.specs.KernelProcesses.declared.parts.Process.{Process}
use Rattle.kernel_state.specs.KernelProcesses.declared.parts.Schedule.{Schedule}
use Rattle.kernel_state.specs.KernelTransactions.Board.{IsWithin}
use Rattle.kernel_state.specs.KernelTransactions.declared.TransactionBoard.{TransactionBoard}
use Rattle.kernel_state.specs.Kernel.{IsSound}
use Rattle.kernel_state.specs.declared.kernel.Kernel.{Kernel}

-- two truth values, lists of numbers, statements that may be none, waits, times are equal in one way at most
bool_prop : (a b : Bool) → IsProp (a ≡ b)
bool_prop a b = Coded-set coded_bool a b

list_prop : (a b : List ℕ) → IsProp (a ≡ b)
list_prop a b = Coded-set (coded_list coded_ℕ) a b

statement_in_prop : (a b : Option ℕ) → IsProp (a ≡ b)
statement_in_prop a b = Coded-set (coded_option coded_ℕ) a b

wait_prop : (a b : Option Wait) → IsProp (a ≡ b)
wait_prop a b = Coded-set (coded_option wait_code) a b

abbrev time_code : Coded Time
time_code = code_by ℕ coded_ℕ (λ t. t.0) (λ n. record { 0 = n }) (λ _. refl)

time_prop : (a b : Option Time) → IsProp (a ≡ b)
time_prop a b = Coded-set (coded_option time_code) a b

-- ---- the schedule

agrees_prop : (w : Waiting) (static : List Ev) (o : Option Wait) → IsProp (schedules.Agrees w static o)
agrees_prop waiting.None static o = wait_prop _ _
agrees_prop waiting.Static static o = wait_prop _ _
agrees_prop waiting.Any static o = wait_prop _ _
agrees_prop waiting.All static o = wait_prop _ _

once_prop : (ps : List ℕ) → IsProp (schedules.IsOnce ps)
once_prop [] = Unit-prop
once_prop (p ∷ ps) = ×_prop (bool_prop _ _) (once_prop ps)

module _ {B : Type 0} where
  free_prop : (x : Entry (Process B)) → IsProp (schedules.IsFree x)
  free_prop x a b = λ i. record {
    wait = Coded-set waiting_row.the_row.coded _ _ a.wait b.wait i;
    deadline = Coded-set deadline_row.the_row.coded _ _ a.deadline b.deadline i;
  }

  kept_prop : (x : Entry (Process B)) (s : Seen B) → IsProp (schedules.IsKept x s)
  kept_prop x s a b = λ i. record {
    wait = agrees_prop _ _ _ a.wait b.wait i;
    muted = bool_prop _ _ a.muted b.muted i;
    has_room = bool_prop _ _ a.has_room b.has_room i;
    time = time_prop _ _ a.time b.time i;
    zero = bool_prop _ _ a.zero b.zero i;
    runs = Π_prop (λ _. ×_prop (free_prop x) (bool_prop _ _)) a.runs b.runs i;
    kept = Π_prop (λ _. ×_prop (free_prop x) (bool_prop _ _)) a.kept b.kept i;
  }

  busy_prop : (x : Entry (Process B)) (s : Seen B) → IsProp (schedules.IsBusy x s)
  busy_prop x s a b = λ i. record {
    free = free_prop x a.free b.free i;
    ready = bool_prop _ _ a.ready b.ready i;
    kept = bool_prop _ _ a.kept b.kept i;
  }

  nobody_prop : (s : Seen B) → IsProp (schedules.IsNobody s)
  nobody_prop s a b = λ i. record {
    wait = wait_prop _ _ a.wait b.wait i;
    muted = bool_prop _ _ a.muted b.muted i;
    has_room = bool_prop _ _ a.has_room b.has_room i;
    time = time_prop _ _ a.time b.time i;
    zero = bool_prop _ _ a.zero b.zero i;
    ready = bool_prop _ _ a.ready b.ready i;
  }

  fits_as_prop : (e : Option (Entry (Process B))) (s : Seen B) → IsProp (schedules.FitsAs e s)
  fits_as_prop None s = nobody_prop s
  fits_as_prop (Some x) s = kept_prop x s

  schedule_prop : (s : Schedule B) → IsProp (schedules.IsSound s)
  schedule_prop s a b = λ i. record {
    each = Π_prop (λ p. fits_as_prop (seen s p).entry (seen s p)) a.each b.each i;
    active = Π_prop (λ p. Π_prop (λ _. bool_prop _ _)) a.active b.active i;
    once = once_prop _ a.once b.once i;
    busy = Π_prop (λ p. Π_prop (λ x. Π_prop (λ _. Π_prop (λ _. busy_prop x (seen s p))))) a.busy b.busy i;
    stack_room = le_prop a.stack_room b.stack_room i;
    ready_room = le_prop a.ready_room b.ready_room i;
    woken_room = le_prop a.woken_room b.woken_room i;
    due_room = le_prop a.due_room b.due_room i;
    nobody_woken = list_prop _ _ a.nobody_woken b.nobody_woken i;
    few = le_prop a.few b.few i;
    below = Π_prop (λ p. Π_prop (λ _. le_prop)) a.below b.below i;
    serials = le_prop a.serials b.serials i;
  }

-- ---- the bodies

blocks_prop : (a : Arena) (depths : List ℕ) (most i s : ℕ) → IsProp (FitsBlocks a depths most i s)
blocks_prop a depths most i s = Π_prop (λ j. Π_prop (λ _. le_prop))

statement_prop : (a : Arena) (depths : List ℕ) (most i : ℕ) (o : Option ℕ) → IsProp (FitsStatement a depths most i o)
statement_prop a depths most i None = le_prop
statement_prop a depths most i (Some s) = ×_prop le_prop (blocks_prop a depths most i s)

layer_prop : (a : Arena) (depths : List ℕ) (most t i : ℕ) (l : Open) → IsProp (FitsLayer a depths most t i l)
layer_prop a depths most t i (layer.Rest c) = le_prop
layer_prop a depths most t i (layer.Again s) = ×_prop le_prop (blocks_prop a depths most _ s)
layer_prop a depths most t i (layer.Owed u) = le_prop
layer_prop a depths most t i (layer.Guard u) = le_prop
layer_prop a depths most t i (layer.Try s) = ×_prop le_prop (blocks_prop a depths most _ s)
layer_prop a depths most t i layer.Run = le_prop
layer_prop a depths most t i (layer.Goal k) = le_prop

layers_prop : (a : Arena) (depths : List ℕ) (most t i : ℕ) (ls : List Open) → IsProp (FitsAll a depths most t i ls)
layers_prop a depths most t i [] = Unit-prop
layers_prop a depths most t i (l ∷ ls) = ×_prop (layer_prop a depths most t i l) (layers_prop a depths most (kept_inside t l) _ ls)

in_prop : (a : Arena) (depths : List ℕ) (x : Saved) (s : Option ℕ) → IsProp (FitsIn a depths x s)
in_prop a depths x s = ×_prop (layers_prop a depths _ _ _ x.blocks.items) (statement_prop a depths _ _ s)

each_prop : (a : Arena) (depths : List ℕ) (xs : List Saved) → IsProp (EachFitsIn a depths xs)
each_prop a depths [] = Unit-prop
each_prop a depths (x ∷ xs) = ×_prop (in_prop a depths x None) (each_prop a depths xs)

last_prop : (a : Arena) (depths : List ℕ) (xs : List Saved) (s : Option ℕ) → IsProp (FitsLast a depths xs s)
last_prop a depths [] s = Unit-prop
last_prop a depths (x ∷ []) s = in_prop a depths x s
last_prop a depths (x ∷ y ∷ ys) s = last_prop a depths (y ∷ ys) s

room_prop : (a : Arena) (depths : List ℕ) (xs : List Saved) (s : Option ℕ) → IsProp (FitsFrames a depths xs s)
room_prop a depths xs s x y = λ i. record {
  each = each_prop a depths xs x.each y.each i;
  last = last_prop a depths xs s x.last y.last i;
}

own_prop : (xs : List Saved) → IsProp (IsOwnFirst xs)
own_prop [] = Unit-prop
own_prop (x ∷ xs) = statement_in_prop _ _

owed_prop : (r : Residual) (o : Option Owed) → IsProp (bodies.Agrees r o)
owed_prop r None = Unit-prop
owed_prop r (Some o) = statement_in_prop _ _

body_prop : (p : Program) (b : Body) → IsProp (bodies.IsSound p b)
body_prop p b x y = λ i. record {
  calls = record {
    room = room_prop (arena_of p.code) _ b.calls.frames.items b.calls.statement x.calls.room y.calls.room i;
    own = own_prop b.calls.frames.items x.calls.own y.calls.own i;
    rests = own_prop b.calls.resting.items x.calls.rests y.calls.rests i;
    locals = le_prop x.calls.locals y.calls.locals i;
    blocks = le_prop x.calls.blocks y.calls.blocks i;
  };
  owed = owed_prop (bodies.left_in p (record b { owed = None })) b.owed x.owed y.owed i;
}

-- ---- the transactions, and all

within_prop : (n : ℕ) (b : TransactionBoard) → IsProp (IsWithin n b)
within_prop n b x y = λ i. record {
  numbers = le_prop x.numbers y.numbers i;
  counts = Π_prop (λ t. Π_prop (λ c. Π_prop (λ _. le_prop))) x.counts y.counts i;
  live = le_prop x.live y.live i;
}

pub sound_prop : (k : Kernel) → IsProp (IsSound k)
sound_prop k x y = λ i. record {
  schedule = schedule_prop k.schedule x.schedule y.schedule i;
  bodies = Π_prop (λ p. Π_prop (λ kept. Π_prop (λ _. body_prop k.program.now kept.body))) x.bodies y.bodies i;
  nobody_due = list_prop _ _ x.nobody_due y.nobody_due i;
  serials = le_prop x.serials y.serials i;
  payloads = within_prop k.made k.transactions x.payloads y.payloads i;
}
