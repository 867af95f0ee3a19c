use Rattle.std.proofs.Common.{◌≡◌, ◌++◌, ◌∷◌, [], ◌-◌, take, length, vec_len, refl, sym, ap, ◌∙◌, arith}
use Rattle.kernel_processes.proofs.Sounding.{sound_without_top, top_off}
use Rattle.kernel_processes.proofs.Room.{front}
use Rattle.kernel_processes.proofs.turns.leave_stack.Goals as goal

pub returns-clause-left : goal.returns-clause-left
returns-clause-left g c =
    let many : vec_len c.args.s.now.stack ≡ length c.args.s.now.stack.items = omega arith in
    let rest = c.pop.ensures.rest ∙ ap (take (vec_len c.args.s.now.stack - 1)) c.requires.top.1 ∙ front c.requires.top.0 c.args.p (vec_len c.args.s.now.stack) (many ∙ ap length c.requires.top.1) in
    let top = c.requires.top.1 ∙ ap (λ xs. xs ++ c.args.p ∷ []) (sym rest) in
    record { stack = top; off = top_off c.args.s.now c.requires.sound c.args.p c.pop.new.self top c.pop.ensures.capacity; others = refl }

pub returns-clause-sound : goal.returns-clause-sound
returns-clause-sound g c =
    let many : vec_len c.args.s.now.stack ≡ length c.args.s.now.stack.items = omega arith in
    let rest = c.pop.ensures.rest ∙ ap (take (vec_len c.args.s.now.stack - 1)) c.requires.top.1 ∙ front c.requires.top.0 c.args.p (vec_len c.args.s.now.stack) (many ∙ ap length c.requires.top.1) in
    let top = c.requires.top.1 ∙ ap (λ xs. xs ++ c.args.p ∷ []) (sym rest) in
    sound_without_top c.args.s.now c.requires.sound c.args.p c.pop.new.self top c.pop.ensures.capacity
