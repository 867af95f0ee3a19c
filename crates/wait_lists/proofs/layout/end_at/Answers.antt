use Rattle.std.proofs.Common.{refl, true, arith}
use Rattle.wait_lists.proofs.Written.{over-fit, over-few, over-shown}
use Rattle.wait_lists.proofs.layout.end_at.Goals as goal

pub returns-clause-sound : goal.returns-clause-sound
returns-clause-sound c =
    let k = c.args.kept.now in (
      over-fit k c.requires.sound c.args.at c.requires.inside true c.set_over.new.waiters.items c.set_over.ensures,
      omega (arith, c.requires.sound.1, over-few k c.requires.sound c.args.at c.requires.inside true c.set_over.new.waiters.items c.set_over.ensures),
    )

pub returns-clause-over : goal.returns-clause-over
returns-clause-over c s here =
    record { nodes = refl; heads = refl; is = over-shown c.args.kept.now c.requires.sound c.args.at c.requires.inside true c.set_over.new.waiters.items c.set_over.ensures s here }
