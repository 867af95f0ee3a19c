use Rattle.std.proofs.Common.{ℕ, Option, sym, ap, ◌∙◌, subst}
use Rattle.std.specs.FinMap as map
use Rattle.exec_data.specs.InstanceTable.declared.instances.Instance.{Instance as Entry}
use Rattle.exec_data.specs.KernelProcesses.Moved.{HasRoom, IsTop}
use Rattle.exec_data.specs.KernelProcesses.declared.parts.Process.{Process}
use Rattle.exec_data.specs.KernelState.declared.kernel.Kept.{Kept}
use Rattle.exec_data.proofs.KernelState.Frames.{stays_moves, stays_sound, lives_on_top, lives_still, keeps_bodies}
use Rattle.exec_control.specs.Resting.{next_kept, rest_count}
use Rattle.exec_control.proofs.endings.hold_counted.Goals as goal

pub returns-in-Ok-clause-room : goal.returns-in-Ok-clause-room
returns-in-Ok-clause-room c =
    let n : ℕ → Type 0 = λ m. HasRoom c.args.p m c.hold.new.s in
    let t : Option (Entry (Process Kept)) → ℕ = λ x. rest_count (next_kept x) x in
    subst n (c.requires.counted ∙ ap (λ table. t (map.get table.live c.args.p)) (sym c.hold.ensures.table)) c.in-Ok.ensures.room

pub returns-in-Ok-clause-next : goal.returns-in-Ok-clause-next
returns-in-Ok-clause-next c = ap (λ table. next_kept (map.get table.live c.args.p)) c.hold.ensures.table

pub returns-in-Err-clause-next : goal.returns-in-Err-clause-next
returns-in-Err-clause-next c = ap (λ table. next_kept (map.get table.live c.args.p)) c.hold.ensures.table

pub returns-in-Ok-clause-stays : goal.returns-in-Ok-clause-stays
returns-in-Ok-clause-stays c = stays_moves c.args.k.now c.args.p c.requires.sound c.requires.top c.hold.new.s c.hold.ensures.sound c.hold.ensures.stays

pub returns-in-Ok-clause-top : goal.returns-in-Ok-clause-top
returns-in-Ok-clause-top c = subst (IsTop c.args.p) (sym c.hold.ensures.stays.stack) c.requires.top

pub returns-in-Ok-clause-lives : goal.returns-in-Ok-clause-lives
returns-in-Ok-clause-lives c = lives_still c.args.k.now (record c.args.k.now { schedule = c.hold.new.s }) c.args.p (keeps_bodies c.args.k.now c.hold.new.s c.hold.ensures.stays.bodies) (lives_on_top c.args.k.now c.args.p c.requires.sound c.requires.top)

pub returns-in-Ok-clause-sound : goal.returns-in-Ok-clause-sound
returns-in-Ok-clause-sound c = stays_sound c.args.k.now c.args.p c.requires.sound c.requires.top c.hold.new.s c.hold.ensures.sound c.hold.ensures.stays

pub returns-in-Err-clause-stays : goal.returns-in-Err-clause-stays
returns-in-Err-clause-stays c = stays_moves c.args.k.now c.args.p c.requires.sound c.requires.top c.hold.new.s c.hold.ensures.sound c.hold.ensures.stays

pub returns-in-Err-clause-top : goal.returns-in-Err-clause-top
returns-in-Err-clause-top c = subst (IsTop c.args.p) (sym c.hold.ensures.stays.stack) c.requires.top

pub returns-in-Err-clause-lives : goal.returns-in-Err-clause-lives
returns-in-Err-clause-lives c = lives_still c.args.k.now (record c.args.k.now { schedule = c.hold.new.s }) c.args.p (keeps_bodies c.args.k.now c.hold.new.s c.hold.ensures.stays.bodies) (lives_on_top c.args.k.now c.args.p c.requires.sound c.requires.top)

pub returns-in-Err-clause-sound : goal.returns-in-Err-clause-sound
returns-in-Err-clause-sound c = stays_sound c.args.k.now c.args.p c.requires.sound c.requires.top c.hold.new.s c.hold.ensures.sound c.hold.ensures.stays
