use Rattle.std.proofs.Common.{◌||◌, ℕ, Bool, ap, ◌∙◌}
use Rattle.check_expressions.specs.CheckNames.ModuleNames.{items_of}
use Rattle.check_reach.specs.declared.findings.Deed.{Deed}
use Rattle.check_reach.specs.declared.findings.Standing.{Standing}
use Rattle.check_reach.specs.Flat.{placed_of}
use Rattle.check_reach.specs.Findings.{statement_line, deed_of, standing_of, deed_fault}
use Rattle.check_reach.proofs.JudgeLaws.{judged_is}
use Rattle.check_reach.proofs.findings.statement_finding.Goals as goal

pub returns : goal.returns
returns c =
    let items = items_of c.args.names.now in
    let around = c.args.around.now in
    let x = placed_of c.args.placed in
    let deed = deed_of items x.0 in
    let standing = standing_of items around in
    c.deed_finding.ensures
    ∙ ap (λ (n : ℕ). deed_fault n around c.deed_of.result c.args.standing c.unwinds.result) c.statement_line.ensures
    ∙ ap (λ (d : Deed). deed_fault (statement_line x.0) around d c.args.standing c.unwinds.result) c.deed_of.ensures
    ∙ ap (λ (b : Bool). deed_fault (statement_line x.0) around deed c.args.standing b) c.unwinds.ensures
    ∙ ap (λ (s : Standing). deed_fault (statement_line x.0) around deed s (x.1 || s.in_unwinding)) c.requires.standing
    ∙ judged_is items around x
