use Rattle.std.proofs.Common.{◌≡◌, ◌-◌, suc, length, sym, ap, ◌∙◌, arith}
use Rattle.kernel_bodies.specs.FlatDesign.Code.{arena_of}
use Rattle.kernel_bodies.specs.Sought.{last_call, last_via, many_calls}
use Rattle.process_state.proofs.Showing.{calls_open, transports_open, many_open}
use Rattle.process_state.proofs.body.Body.standing.Goals as goal

pub returns-clause-calls : goal.returns-clause-calls
returns-clause-calls c =
    let b = c.args.self.now in
    let i = c.len-many.result - 1 in
    let last : suc i ≡ length b.frames.items = omega (arith, c.if-many-eq0.false, b.frames.ok.0) in
    ap last_call c.as_slice.ensures.value ∙ calls_open (arena_of c.args.program.now.code) b.goal b.frames.items b.statement i c.index.result.now (sym c.is_shell.ensures ∙ c.if-is_shell.false) last c.index.ensures

pub returns-clause-transports : goal.returns-clause-transports
returns-clause-transports c =
    let b = c.args.self.now in
    let i = c.len-many.result - 1 in
    let last : suc i ≡ length b.frames.items = omega (arith, c.if-many-eq0.false, b.frames.ok.0) in
    ap last_via c.as_slice.ensures.value ∙ transports_open (arena_of c.args.program.now.code) b.goal b.frames.items b.statement i c.index.result.now (sym c.is_shell.ensures ∙ c.if-is_shell.false) last c.index.ensures

pub returns-clause-many : goal.returns-clause-many
returns-clause-many c =
    let b = c.args.self.now in
    let i = c.len-many.result - 1 in
    let last : suc i ≡ length b.frames.items = omega (arith, c.if-many-eq0.false, b.frames.ok.0) in
    ap many_calls c.as_slice.ensures.value ∙ many_open (arena_of c.args.program.now.code) b.goal b.frames.items b.statement i c.index.result.now (sym c.is_shell.ensures ∙ c.if-is_shell.false) last c.index.ensures
