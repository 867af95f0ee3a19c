use Rattle.std.proofs.Common.{ℕ, ◌≡◌, ap, ◌∙◌, arith}
use Rattle.std.specs.Prelude.{is_some}
use Rattle.wait_lists.specs.Chains.{free, put}
use Rattle.wait_lists.specs.Nodes.{by_event}
use Rattle.wait_lists.proofs.NodeLemmas.{event-within, same_link}
use Rattle.wait_lists.proofs.Added.{free-link, room-there, fit-add, shown-add}
use Rattle.wait_lists.proofs.layout.add_node.Goals as goal

pub cut_event-requires-clause-inside : goal.cut_event-requires-clause-inside
cut_event-requires-clause-inside c =
    let k = c.args.kept.now in
    event-within k.nodes.items k.heads.free (ap is_some (free-link k c.requires.sound.0 c.args.at c.requires.inside c.requires.room).1)

pub cut_event-requires-clause-listed : goal.cut_event-requires-clause-listed
cut_event-requires-clause-listed c l is =
    let k = c.args.kept.now in
    let one = free-link k c.requires.sound.0 c.args.at c.requires.inside c.requires.room in
    let same = same_link (by_event k.nodes.items k.heads.free) one.0 l one.1 is in
    let tag : l.tag ≡ free = ap (λ x. x.tag) (λ i. same_link (by_event k.nodes.items k.heads.free) l one.0 is one.1 i) ∙ one.2 in
    omega arith

pub put_event-requires-clause-room : goal.put_event-requires-clause-room
put_event-requires-clause-room c event some none_yet =
    let k = c.args.kept.now in
    let one = free-link k c.requires.sound.0 c.args.at c.requires.inside c.requires.room in
    room-there k.places.entries k.waiters.items k.vacant.items k.nodes.items k.heads.events k.heads.free k.total c.requires.sound.0
    c.cut_event.new.nodes.items c.cut_event.new.heads.events c.cut_event.new.heads.free k.heads.free one.0 one.1 one.2
    (c.cut_event.ensures.events one.0 one.1) (c.cut_event.ensures.firsts one.0 one.1) c.cut_event.ensures.heads c.cut_event.ensures.places c.cut_event.ensures.len c.args.code c.requires.event none_yet

pub returns-clause-sound : goal.returns-clause-sound
returns-clause-sound c =
    let k = c.args.kept.now in
    let one = free-link k c.requires.sound.0 c.args.at c.requires.inside c.requires.room in
    let w0 = λ (j : ℕ). c.put_event.ensures.waits j ∙ c.cut_event.ensures.waits j in (
      fit-add k (record k { waiters = c.put_wait.new.waiters; nodes = c.put_wait.new.nodes; heads = c.put_event.new.heads }) c.requires.sound.0
          c.cut_event.new.nodes.items c.cut_event.new.heads.events c.cut_event.new.heads.free k.heads.free one.0 one.1 one.2
          (c.cut_event.ensures.events one.0 one.1) (c.cut_event.ensures.firsts one.0 one.1) c.cut_event.ensures.heads c.cut_event.ensures.places c.cut_event.ensures.len c.args.code c.requires.event c.args.at c.requires.inside
          (λ j. c.put_wait.ensures.events j ∙ c.put_event.ensures.events j) c.put_event.ensures.firsts
          (λ own owner j. c.put_wait.ensures.waits own owner j ∙ ap (λ L. put c.args.at k.heads.free own.first L j) (λ x n. w0 n x)) c.put_wait.ensures.firsts
          c.put_event.ensures.heads c.put_event.ensures.places
          (c.put_wait.ensures.len ∙ c.put_event.ensures.len ∙ c.cut_event.ensures.len) c.put_wait.ensures.waiters_len c.requires.room,
      omega (arith, c.requires.sound.1, c.put_wait.ensures.waiters_len),
    )

pub returns-clause-more : goal.returns-clause-more
returns-clause-more c =
    let k = c.args.kept.now in
    let one = free-link k c.requires.sound.0 c.args.at c.requires.inside c.requires.room in
    let w0 = λ (j : ℕ). c.put_event.ensures.waits j ∙ c.cut_event.ensures.waits j in
    shown-add k (record k { waiters = c.put_wait.new.waiters; nodes = c.put_wait.new.nodes; heads = c.put_event.new.heads }) c.requires.sound.0
    c.cut_event.new.nodes.items c.cut_event.new.heads.events c.cut_event.new.heads.free k.heads.free one.0 one.1 one.2
    (c.cut_event.ensures.events one.0 one.1) (c.cut_event.ensures.firsts one.0 one.1) c.cut_event.ensures.heads c.cut_event.ensures.places c.cut_event.ensures.len c.args.code c.requires.event c.args.at c.requires.inside
    (λ j. c.put_wait.ensures.events j ∙ c.put_event.ensures.events j) c.put_event.ensures.firsts
    (λ own owner j. c.put_wait.ensures.waits own owner j ∙ ap (λ L. put c.args.at k.heads.free own.first L j) (λ x n. w0 n x)) c.put_wait.ensures.firsts
    c.put_event.ensures.heads c.put_event.ensures.places
    (c.put_wait.ensures.len ∙ c.put_event.ensures.len ∙ c.cut_event.ensures.len) c.put_wait.ensures.waiters_len c.requires.room
