use Rattle.std.proofs.Common.{Ok, length, refl, ap, ◌∙◌, subst}
use Rattle.std.specs.Prelude.{slice_set}
use Rattle.flat_design.specs.Code.{term_of}
use Rattle.kernel_view.specs.SimModel.Values.{on_ok, bits, index_within}
use Rattle.kernel_view.specs.SimModel.Residual.{settle}
use Rattle.kernel_view.specs.SimModel.Configuration.{arena}
use Rattle.kernel_view.specs.SimModel.Statements.{settled_in}
use Rattle.kernel_view.specs.SimModel.Reading.{here, val, denotes, memory_number, memory_at, memory_here}
use Rattle.kernel_view.specs.SimModel.Storing.{passes, set_memory, low_byte}
use Rattle.kernel_view.specs.KernelState.Moves.{Follows}
use Rattle.exec_data.proofs.Following.{evaluated}
use Rattle.exec_data.proofs.elements.assign_element.Goals as goal

pub returns-clause-does : goal.returns-clause-does
returns-clause-does c =
    let k = c.args.k.now in
    let p = c.args.p in
    let n = c.args.n in
    let v = c.in_ok-i.i in
    let w = c.in_ok-value.value in
    evaluated k p (Ok v) (λ h. val h (term_of c.args.index.now)) c.in_ok-i.ensures
    (λ d q i r x. on_ok (val (here d q i r) (term_of c.args.e.now)) (λ y. on_ok (index_within (bits x) (length (memory_here (here d q i r) n))) (λ m. Ok (set_memory (passes d q r) (memory_number (denotes (here d q i r) n)) (slice_set (memory_here (here d q i r) n) m (low_byte y))))))
    c.store_in.new.k c.store_in.result v refl
    (evaluated k p (Ok w) (λ h. val h (term_of c.args.e.now)) c.in_ok-value.ensures
    (λ d q i r y. on_ok (index_within (bits v) (length (memory_here (here d q i r) n))) (λ m. Ok (set_memory (passes d q r) (memory_number (denotes (here d q i r) n)) (slice_set (memory_here (here d q i r) n) m (low_byte y)))))
    c.store_in.new.k c.store_in.result w refl
    (λ d i h there.
    let first = settled_in d p i.residual in
    let left = settle (arena d) i.residual in
    subst (λ o. Follows c.store_in.new.k c.store_in.result d (on_ok (index_within (bits v) (length (memory_at first o))) (λ m. Ok (set_memory (passes first p left) o (slice_set (memory_at first o) m (low_byte w))))))
    (c.memory_number-memory.ensures ∙ ap memory_number (c.denoted_at.ensures d i h there))
    (subst (λ b. Follows c.store_in.new.k c.store_in.result d (on_ok (index_within (bits v) (length (memory_at first c.memory_number-memory.result))) (λ m. Ok (set_memory (passes first p left) c.memory_number-memory.result (slice_set (memory_at first c.memory_number-memory.result) m b)))))
    c.low_byte.ensures
    (subst (λ a. Follows c.store_in.new.k c.store_in.result d (on_ok (index_within a (length (memory_at first c.memory_number-memory.result))) (λ m. Ok (set_memory (passes first p left) c.memory_number-memory.result (slice_set (memory_at first c.memory_number-memory.result) m c.low_byte.result)))))
    c.bits.ensures (c.store_in.ensures.does d i h there)))))
