use Rattle.std.proofs.Common.{◌≡◌, length, ℕ, List, ◌+◌, [], ◌∷◌, ◌++◌, sym, ap, ◌∙◌, subst, arith}
use Rattle.timed_queue.specs.declared.chains.Node.{Node}
use Rattle.timed_queue.specs.Sound.{IsWhole}
use Rattle.timed_queue.proofs.RoomLaws.{whole_pushed}
use Rattle.timed_queue.proofs.wheel.Wheel.push_free.Goals as goal

pub returns-clause-sound : goal.returns-clause-sound
returns-clause-sound c =
    let w = c.args.self.now in
    let here : c.len-i.result ≡ length w.nodes.items = omega (arith, c.len-i.ensures, w.nodes.ok.0) in
    subst (λ (ns : List Node). IsWhole ns w.marks.words c.len-i.result (w.room + 1)) (sym (c.push_reserved.ensures.items ∙ ap (λ (n : Node). w.nodes.items ++ n ∷ []) c.free_node.ensures))
    (subst (λ (f : ℕ). IsWhole (w.nodes.items ++ record { name = 0; time = 0; place = 704; next = w.free; before = 0 } ∷ []) w.marks.words f (w.room + 1)) (sym here)
    (whole_pushed w.nodes.items w.marks.words w.free w.room c.requires.sound c.requires.heads c.requires.few))
