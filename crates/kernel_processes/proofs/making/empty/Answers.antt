use Rattle.kernel_processes.proofs.Emptiness.{nobody_shown, nothing_wrong}
use Rattle.kernel_processes.proofs.making.empty.Goals as goal

pub returns-clause-nobody : goal.returns-clause-nobody
returns-clause-nobody g c = nobody_shown (record { table = c.new.result; lists = c.new-2.result; deadlines = c.new-3.result; zero = c.new-4.result; ready = c.new-5.result; stack = c.new-6.result; woken = c.new-7.result; due = c.new-8.result }) c.new.ensures.empty c.new.ensures.first c.new-2.ensures.waits c.new-2.ensures.muted c.new-2.ensures.room c.new-3.ensures c.new-4.ensures c.new-5.ensures c.new-6.ensures.items c.new-7.ensures.items

pub returns-clause-sound : goal.returns-clause-sound
returns-clause-sound g c = nothing_wrong (record { table = c.new.result; lists = c.new-2.result; deadlines = c.new-3.result; zero = c.new-4.result; ready = c.new-5.result; stack = c.new-6.result; woken = c.new-7.result; due = c.new-8.result }) c.new.ensures.empty c.new.ensures.first c.new-2.ensures.waits c.new-2.ensures.muted c.new-2.ensures.room c.new-3.ensures c.new-4.ensures c.new-5.ensures c.new-6.ensures.items c.new-7.ensures.items
