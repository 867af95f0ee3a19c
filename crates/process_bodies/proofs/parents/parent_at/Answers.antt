use Rattle.std.proofs.lemmas.List.{drop_more}
use Rattle.process_bodies.proofs.parents.parent_at.Goals as goal

pub returns : goal.returns
returns c = drop_more c.args.parents.now c.args.place _ c.requires
