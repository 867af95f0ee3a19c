use Rattle.std.proofs.Common.{◌≡◌, ◌-◌, Some, length, sym, ap, ◌∙◌, arith}
use Rattle.std.proofs.Math.Seq.{take-length}
use Rattle.sim_model.specs.Residual.{one, settle}
use Rattle.kernel_bodies.specs.declared.layers.Comes.TheVariants as comes
use Rattle.std.specs.Vec.{vec_len}
use Rattle.kernel_bodies.specs.declared.layers.Saved.{Saved}
use Rattle.kernel_bodies.specs.Layers.{inside_frames}
use Rattle.kernel_bodies.proofs.Lands.{lands_from, unfold_frame, statement_stands}
use Rattle.kernel_bodies.proofs.Rooms.{fits_last}
use Rattle.kernel_bodies.proofs.landing.land_statement.Goals as goal

pub returns-clause-lands : goal.returns-clause-lands
returns-clause-lands c = λ a depths.
    let xs = c.args.frames.now in
    let n = length xs - 1 in
    let x = c.index-frames-many.result in
    let s = c.args.statement in
    let m = c.len.result in
    let all : m ≡ length x.blocks.items = omega (arith, ap (λ (z : Saved). vec_len z.blocks) c.index-frames-many.is, x.blocks.ok.0) in
    lands_from a depths xs (Some s) (Some s) (one s) n x (record { blocks = m; comes = comes.Statement s }) (omega arith) c.index-frames-many.is
    (ap (settle a) (ap (λ zs. inside_frames a zs (one s)) (sym (take-length xs)) ∙ unfold_frame a xs (length xs) n x (one s) (omega arith) (omega arith) c.index-frames-many.is)) (statement_stands a depths x s m all)
    (λ f. fits_last a depths xs (Some s) n x (omega arith) c.index-frames-many.is f)
