use Rattle.std.proofs.Common.{◌≡◌, ◌+◌, length, take, ap, ◌∙◌, subst, arith}
use Rattle.std.proofs.Math.Seq.{take-length}
use Rattle.kernel_start.specs.Made.{AddsAll}
use Rattle.kernel_start.proofs.FirstOnes.{nobody_stands, nobody_made, adds_more, got}
use Rattle.kernel_start.proofs.processes.first_processes.Goals as goal

pub loop-part-init : goal.loop-part-init
loop-part-init c = (
  λ d parents same. nobody_stands c.args.program.now c.empty-s.result c.empty-s.ensures.nobody c.empty-s.ensures.sound d parents c.empty-s.ensures.stack c.empty-s.ensures.first,
  (nobody_made c.args.program.now c.empty-s.result c.empty-s.ensures.nobody c.empty-s.ensures.sound c.empty-s.ensures.due, c.empty-s.ensures.first),
)

pub loop-part-preserved : goal.loop-part-preserved
loop-part-preserved c = (
  adds_more c.args.program.now c.args.parts.now c.loop-part.part-index c.part-item.result c.loop-part.s c.add_process.new.s c.loop-part.invariant.0 c.in-Ok.ensures.adds (got c.args.parts.now c.loop-part.part-index c.part-item.result c.loop-part-test.true c.part-item.is),
  (c.in-Ok.ensures.sound, c.in-Ok.ensures.next ∙ ap (λ n. n + 1) c.loop-part.invariant.1.1),
)

pub returns-clause-adds : goal.returns-clause-adds
returns-clause-adds c =
    let over = c.loop-part-test.false in
    let end = c.loop-part.auto.part-index-end in
    let same : c.loop-part.part-index ≡ length c.args.parts.now = omega (arith, over, end) in
    subst (λ parts. AddsAll c.args.program.now parts c.loop-part.s) (ap (λ n. take n c.args.parts.now) same ∙ take-length c.args.parts.now) c.loop-part.invariant.0
