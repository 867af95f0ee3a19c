use Rattle.std.proofs.Common.{ℕ, ◌≡◌, ap, ◌∙◌, sym, arith}
use Rattle.std.specs.Prelude.{Some}
use Rattle.wait_lists.specs.Chains.{none, cut}
use Rattle.wait_lists.specs.Nodes.{by_event, by_wait}
use Rattle.wait_lists.proofs.NodeLemmas.{wait-there}
use Rattle.wait_lists.proofs.Moved.{IsSome-tag}
use Rattle.wait_lists.proofs.Dropped.{fit-drop, shorter-drop, cut-drop}
use Rattle.wait_lists.proofs.layout.drop_node.Goals as goal

pub cut_wait-requires-clause-home : goal.cut_wait-requires-clause-home
cut_wait-requires-clause-home c m is =
    let nodes = c.args.kept.now.nodes.items in
    let l = c.requires.used.0 in
    let here : by_wait nodes c.args.i ≡ Some m = sym (c.put_event.ensures.waits c.args.i ∙ c.cut_event.ensures.waits c.args.i) ∙ is in
    (c.requires.sound.0.homes c.args.i l.tag m.tag (IsSome-tag (by_event nodes c.args.i) l c.requires.used.1) (IsSome-tag (by_wait nodes c.args.i) m here)).at_home c.requires.used.2

pub returns-clause-sound : goal.returns-clause-sound
returns-clause-sound c =
    let k = c.args.kept.now in
    let l = c.requires.used.0 in
    let m = wait-there k.nodes.items c.args.i l c.requires.used.1 in
    let w0 = λ (j : ℕ). c.put_event.ensures.waits j ∙ c.cut_event.ensures.waits j in (
      fit-drop k (record k { waiters = c.cut_wait.new.waiters; nodes = c.cut_wait.new.nodes; heads = c.put_event.new.heads }) c.requires.sound.0
          c.cut_event.new.nodes.items c.cut_event.new.heads.events c.cut_event.new.heads.free c.args.i l m.0 c.requires.used.1 c.requires.used.2 m.1
          (c.cut_event.ensures.events l c.requires.used.1) (c.cut_event.ensures.firsts l c.requires.used.1)
          (λ j. c.cut_wait.ensures.events j ∙ c.put_event.ensures.events j) c.put_event.ensures.firsts
          (λ j. c.cut_wait.ensures.waits m.0 (w0 c.args.i ∙ m.1) j ∙ ap (λ L. cut none c.args.i m.0 L j) (λ x n. w0 n x)) (c.cut_wait.ensures.firsts m.0 (w0 c.args.i ∙ m.1))
          c.put_event.ensures.heads (c.put_event.ensures.places ∙ c.cut_event.ensures.places)
          c.cut_event.ensures.len (c.cut_wait.ensures.len ∙ c.put_event.ensures.len ∙ c.cut_event.ensures.len) c.cut_wait.ensures.waiters_len,
      omega (arith, c.requires.sound.1, c.cut_wait.ensures.waiters_len),
    )

pub returns-clause-shorter : goal.returns-clause-shorter
returns-clause-shorter c =
    let k = c.args.kept.now in
    let l = c.requires.used.0 in
    let m = wait-there k.nodes.items c.args.i l c.requires.used.1 in
    let w0 = λ (j : ℕ). c.put_event.ensures.waits j ∙ c.cut_event.ensures.waits j in
    shorter-drop k (record k { waiters = c.cut_wait.new.waiters; nodes = c.cut_wait.new.nodes; heads = c.put_event.new.heads }) c.requires.sound.0
    c.cut_event.new.nodes.items c.cut_event.new.heads.events c.cut_event.new.heads.free c.args.i l m.0 c.requires.used.1 c.requires.used.2 m.1
    (c.cut_event.ensures.events l c.requires.used.1) (c.cut_event.ensures.firsts l c.requires.used.1)
    (λ j. c.cut_wait.ensures.events j ∙ c.put_event.ensures.events j) c.put_event.ensures.firsts
    (λ j. c.cut_wait.ensures.waits m.0 (w0 c.args.i ∙ m.1) j ∙ ap (λ L. cut none c.args.i m.0 L j) (λ x n. w0 n x)) (c.cut_wait.ensures.firsts m.0 (w0 c.args.i ∙ m.1))
    c.put_event.ensures.heads (c.put_event.ensures.places ∙ c.cut_event.ensures.places)
    c.cut_event.ensures.len (c.cut_wait.ensures.len ∙ c.put_event.ensures.len ∙ c.cut_event.ensures.len) c.cut_wait.ensures.waiters_len

pub returns-clause-cut : goal.returns-clause-cut
returns-clause-cut c =
    let k = c.args.kept.now in
    let l = c.requires.used.0 in
    let m = wait-there k.nodes.items c.args.i l c.requires.used.1 in
    let w0 = λ (j : ℕ). c.put_event.ensures.waits j ∙ c.cut_event.ensures.waits j in
    cut-drop k (record k { waiters = c.cut_wait.new.waiters; nodes = c.cut_wait.new.nodes; heads = c.put_event.new.heads }) c.requires.sound.0
    c.cut_event.new.nodes.items c.cut_event.new.heads.events c.cut_event.new.heads.free c.args.i l m.0 c.requires.used.1 c.requires.used.2 m.1
    (c.cut_event.ensures.events l c.requires.used.1) (c.cut_event.ensures.firsts l c.requires.used.1)
    (λ j. c.cut_wait.ensures.events j ∙ c.put_event.ensures.events j) c.put_event.ensures.firsts
    (λ j. c.cut_wait.ensures.waits m.0 (w0 c.args.i ∙ m.1) j ∙ ap (λ L. cut none c.args.i m.0 L j) (λ x n. w0 n x)) (c.cut_wait.ensures.firsts m.0 (w0 c.args.i ∙ m.1))
    c.put_event.ensures.heads (c.put_event.ensures.places ∙ c.cut_event.ensures.places)
    c.cut_event.ensures.len (c.cut_wait.ensures.len ∙ c.put_event.ensures.len ∙ c.cut_event.ensures.len) c.cut_wait.ensures.waiters_len
