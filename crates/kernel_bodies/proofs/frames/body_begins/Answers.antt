use Rattle.std.proofs.Common.{subst, sym, Option, ◌+◌, ◌≤◌}
use Rattle.sim_model.specs.FlatDesign.declared.code.CodeBody.{CodeBody}
use Rattle.kernel_bodies.specs.Room.{body_depth}
use Rattle.kernel_bodies.proofs.frames.body_begins.Goals as goal

pub returns-in-Some-clause-room : goal.returns-in-Some-clause-room
returns-in-Some-clause-room c = λ most t i h.
    let P : Option CodeBody → Type 0 = λ o. i + t + body_depth c.args.program.now.depths.items o + 1 ≤ most in
    c.block_begins.ensures.room most t i (subst P (sym c.in-Some.ensures) h)
