use Rattle.std.proofs.Common.{◌≡◌, ◌≢◌, ◌≤◌, ◌+◌, Ok, Err, refl, ◌∙◌, sym, ap, subst, arith, length}
use Rattle.std.specs.Prelude.{IsOk}
use Rattle.std.specs.FinMap as map
use Rattle.sim_model.specs.PayloadPool.Payloads as pool
use Rattle.sim_model.specs.PayloadPool.declared.pool.MakeStop.TheVariants as stop
use Rattle.kernel_transactions.specs.Board.{AreWithin}
use Rattle.kernel_transactions.proofs.Pools.{made, live_read}
use Rattle.kernel_transactions.proofs.Counts.{made_within}
use Rattle.kernel_transactions.proofs.Frames.{pool_moves}
use Rattle.kernel_transactions.proofs.Making.{number_given, too_many}
use Rattle.kernel_transactions.proofs.TransactionBoard.make.Goals as goal

pub returns-in-Ok-make-clause-answer : goal.returns-in-Ok-make-clause-answer
returns-in-Ok-make-clause-answer c = λ d stands.
    let few : map.len c.args.self.now.pool.live ≤ 16384 = c.requires.live in
    let room : map.len c.args.self.now.pool.live ≢ 16384 = λ full. let no : Ok c.in-Ok-make.t ≡ Err stop.TooMany = sym c.in-Ok-make.is ∙ c.make.ensures.too_many.1 full in cc in
    number_given d c.args.len c.args.enables _ _ (sym c.in-Ok.is ∙ c.size_within.ensures.answer) (sym c.in-Ok-size_within.is ∙ c.size_within-2.ensures.answer)
    (map.len c.args.self.now.pool.live) (live_read _ _ stands.payloads) (omega arith) c.in-Ok-make.t (c.in-Ok-make.ensures.number ∙ stands.payloads.next)

pub returns-in-Ok-make-clause-number : goal.returns-in-Ok-make-clause-number
returns-in-Ok-make-clause-number c = λ x stands. c.in-Ok-make.ensures.number ∙ stands.payloads.next

pub returns-in-Ok-make-clause-moves : goal.returns-in-Ok-make-clause-moves
returns-in-Ok-make-clause-moves c = λ x stands. pool_moves _ _ _ _ x _
    (c.in-Ok-make.ensures.made ∙ ap (λ n. pool.with_made c.args.self.now.pool n c.in-Ok-size_within.enables) c.in-Ok.ensures.same
    ∙ ap (λ n. pool.with_made c.args.self.now.pool c.args.len n) c.in-Ok-size_within.ensures.same)
    (made _ _ stands.payloads c.args.len c.args.enables) stands

pub returns-in-Ok-make-clause-raised : goal.returns-in-Ok-make-clause-raised
returns-in-Ok-make-clause-raised c = λ n within.
    let room : map.len c.args.self.now.pool.live ≢ 16384 = λ full. let no : Ok c.in-Ok-make.t ≡ Err stop.TooMany = sym c.in-Ok-make.is ∙ c.make.ensures.too_many.1 full in cc in
    subst (AreWithin (n + 1)) (sym c.in-Ok-make.ensures.made) (made_within n _ within _ _ (c.make.ensures.fresh c.args.self.now.pool.next (omega arith)) room)

pub returns-in-Err-TooMany-clause-answer : goal.returns-in-Err-TooMany-clause-answer
returns-in-Err-TooMany-clause-answer c = λ d stands.
    too_many d c.args.len c.args.enables _ _ (sym c.in-Ok.is ∙ c.size_within.ensures.answer) (sym c.in-Ok-size_within.is ∙ c.size_within-2.ensures.answer)
    (map.len c.args.self.now.pool.live) (live_read _ _ stands.payloads) (c.make.ensures.too_many.0 (c.in-Err-TooMany.is ∙ ap Err c.in-Err-TooMany.field-0-is))

pub returns-in-Err-NoMemory-clause-answer : goal.returns-in-Err-NoMemory-clause-answer
returns-in-Err-NoMemory-clause-answer c = λ d stands.
    let few : map.len c.args.self.now.pool.live ≤ 16384 = c.requires.live in
    let room : map.len c.args.self.now.pool.live ≢ 16384 = λ full. let no : Err stop.NoMemory ≡ Err stop.TooMany = sym (c.in-Err-NoMemory.is ∙ ap Err c.in-Err-NoMemory.field-0-is) ∙ c.make.ensures.too_many.1 full in cc in
    subst IsOk (sym (number_given d c.args.len c.args.enables _ _ (sym c.in-Ok.is ∙ c.size_within.ensures.answer) (sym c.in-Ok-size_within.is ∙ c.size_within-2.ensures.answer)
    (map.len c.args.self.now.pool.live) (live_read _ _ stands.payloads) (omega arith) (length d.transactions.pool) refl)) refl
