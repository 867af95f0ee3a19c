use Rattle.order_free.proofs.Noting.{noted_unfit, noted_watches, noted_quantum, noted_variables, noted_memories, noted_written_signals, noted_read_fifos, noted_written_fifos, noted_notified, noted_cancelled}
use Rattle.order_free.proofs.tables.note.Goals as goal

pub returns-in-Unfit : goal.returns-in-Unfit
returns-in-Unfit c = rw c.in-Unfit.is (noted_unfit c.args.tables.now c.args.x c.joined-tables.result c.joined-tables.ensures)

pub returns-in-Watches : goal.returns-in-Watches
returns-in-Watches c = rw c.in-Watches.is (noted_watches c.args.tables.now c.args.x c.joined-tables-in-Watches.result c.joined-tables-in-Watches.ensures)

pub returns-in-Quantum : goal.returns-in-Quantum
returns-in-Quantum c = rw c.in-Quantum.is (noted_quantum c.args.tables.now c.args.x c.joined-tables-in-Quantum.result c.joined-tables-in-Quantum.ensures)

pub returns-in-Variable : goal.returns-in-Variable
returns-in-Variable c = rw c.in-Variable.is (noted_variables c.note_at.result c.args.tables.now c.note_at.new.table c.in-Variable.n c.args.x c.note_at.ensures.here c.note_at.ensures.others)

pub returns-in-Memory : goal.returns-in-Memory
returns-in-Memory c = rw c.in-Memory.is (noted_memories c.note_at-in-Memory.result c.args.tables.now c.note_at-in-Memory.new.table c.in-Memory.n c.args.x c.note_at-in-Memory.ensures.here c.note_at-in-Memory.ensures.others)

pub returns-in-WritesSignal : goal.returns-in-WritesSignal
returns-in-WritesSignal c = rw c.in-WritesSignal.is (noted_written_signals c.note_at-in-WritesSignal.result c.args.tables.now c.note_at-in-WritesSignal.new.table c.in-WritesSignal.n c.args.x c.note_at-in-WritesSignal.ensures.here c.note_at-in-WritesSignal.ensures.others)

pub returns-in-ReadsFifo : goal.returns-in-ReadsFifo
returns-in-ReadsFifo c = rw c.in-ReadsFifo.is (noted_read_fifos c.note_at-in-ReadsFifo.result c.args.tables.now c.note_at-in-ReadsFifo.new.table c.in-ReadsFifo.n c.args.x c.note_at-in-ReadsFifo.ensures.here c.note_at-in-ReadsFifo.ensures.others)

pub returns-in-WritesFifo : goal.returns-in-WritesFifo
returns-in-WritesFifo c = rw c.in-WritesFifo.is (noted_written_fifos c.note_at-in-WritesFifo.result c.args.tables.now c.note_at-in-WritesFifo.new.table c.in-WritesFifo.n c.args.x c.note_at-in-WritesFifo.ensures.here c.note_at-in-WritesFifo.ensures.others)

pub returns-in-Notifies : goal.returns-in-Notifies
returns-in-Notifies c = rw c.in-Notifies.is (noted_notified c.note_at-in-Notifies.result c.args.tables.now c.note_at-in-Notifies.new.table c.in-Notifies.n c.args.x c.note_at-in-Notifies.ensures.here c.note_at-in-Notifies.ensures.others)

pub returns-in-Cancels : goal.returns-in-Cancels
returns-in-Cancels c = rw c.in-Cancels.is (noted_cancelled c.note_at-in-Cancels.result c.args.tables.now c.note_at-in-Cancels.new.table c.in-Cancels.n c.args.x c.note_at-in-Cancels.ensures.here c.note_at-in-Cancels.ensures.others)
