use Rattle.std.proofs.Common.{◌≡◌, ◌+◌, ◌≤◌, suc, List, None, take, refl, subst, sym, ap, ◌∙◌, arith}
use Rattle.std.specs.Vec.{vec_capacity}
use Rattle.sim_model.specs.Residual.{skip}
use Rattle.kernel_bodies.specs.declared.layers.Open.{Open}
use Rattle.kernel_bodies.specs.Layers.{call_of, inside, wrapped}
use Rattle.kernel_bodies.specs.Sought.{is_run, LastIs, NoneIs}
use Rattle.kernel_bodies.proofs.Rooms.{fits_at_cap, fits_take}
use Rattle.kernel_bodies.proofs.Seeking.{ended_run, ended_call, shell_off}
use Rattle.kernel_bodies.proofs.changes.end_in.Goals as goal

pub returns-in-Some-clause-left : goal.returns-in-Some-clause-left
returns-in-Some-clause-left c = λ a r e.
    let x = c.args.saved.now in
    let ls = x.blocks.items in
    let i = c.in-Some.place in
    let P : List Open → Type 0 = λ ms. LastIs is_run ms i in
    let next : suc i ≡ i + 1 = omega arith in
    ended_run a c.args.answer x.shell (call_of x.frame) ls i r (subst P c.as_slice.ensures.value c.in-Some.ensures.last) e
    ∙ ap (λ ms. wrapped x.shell (call_of x.frame) (inside a ms skip)) (ap (λ n. take n ls) next ∙ sym c.truncate.ensures.items)

pub returns-in-Some-clause-room : goal.returns-in-Some-clause-room
returns-in-Some-clause-room c = λ a depths h.
    let x = c.args.saved.now in
    let n = c.in-Some.place + 1 in
    let wide : vec_capacity x.blocks ≤ vec_capacity c.truncate.new.self = omega (arith, c.truncate.ensures.capacity) in
    fits_at_cap a depths (vec_capacity x.blocks) (vec_capacity c.truncate.new.self) (take n x.blocks.items) c.truncate.new.self.items None None wide c.truncate.ensures.items refl (fits_take a depths (vec_capacity x.blocks) n x.blocks.items None h)

pub returns-in-None-clause-left : goal.returns-in-None-clause-left
returns-in-None-clause-left c = λ a r e.
    let x = c.args.saved.now in
    let P : List Open → Type 0 = λ ms. NoneIs is_run ms in
    let none = subst P c.as_slice.ensures.value c.in-None.ensures.last in
    ended_call a c.args.answer x.shell (call_of x.frame) x.blocks.items r (shell_off x c.requires none) none e
    ∙ ap (λ ms. wrapped x.shell (record (call_of x.frame) { answer = c.args.answer }) (inside a ms skip)) (sym c.clear.ensures.items)
