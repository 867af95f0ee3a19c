use Rattle.model_tree.specs.WholeTree.{model_of}
use Rattle.elaborate.proofs.LaidOut.{accepted, apart_still, at_resolution, laid_out}
use Rattle.elaborate.proofs.making.sound_design.Goals as goal

pub returns-clause-design : goal.returns-clause-design
returns-clause-design c = at_resolution (model_of c.args.checked.tree) c.in_ok-design.design c.resolution_of-resolution.result c.in_ok-design.ensures.design

pub returns-clause-sound : goal.returns-clause-sound
returns-clause-sound c =
    let m = model_of c.args.checked.tree in
    let d = record c.in_ok-design.design { resolution = c.resolution_of-resolution.result } in
    let made = c.in_ok-design.ensures in
    c.accepted_designs_are_sound.ensures m d (accepted m c.args.checked.accepted made.accepted c.requires.limits) (at_resolution m c.in_ok-design.design c.resolution_of-resolution.result made.design) (laid_out d c.args.checked.code made.code c.args.checked.nested c.requires.stand c.requires.rooms)

pub returns-clause-apart : goal.returns-clause-apart
returns-clause-apart c = apart_still c.args.checked.code c.in_ok-design.design.code c.in_ok-design.ensures.code c.args.checked.apart
