use Rattle.std.proofs.Common.{◌≡◌, length, arith}
use Rattle.wait_lists.proofs.Grown.{grown-fit, grown-shown}
use Rattle.wait_lists.proofs.growing.add_free.Goals as goal

pub returns-clause-sound : goal.returns-clause-sound
returns-clause-sound c =
    let k = c.args.kept.now in
    let i_is : c.len-i.result ≡ length k.nodes.items = omega (arith, c.len-i.ensures, k.nodes.ok.0) in (
      grown-fit k.places.entries k.waiters.items k.vacant.items k.nodes.items c.push_reserved.new.self.items c.put_event.new.nodes.items c.loose_node.result k.heads.events c.put_event.new.heads.events k.heads.free c.put_event.new.heads.free k.total
          c.requires.sound.0 c.push_reserved.ensures.items c.loose_node.ensures.event c.loose_node.ensures.wait c.requires.few c.len-i.result i_is
          c.put_event.ensures.events c.put_event.ensures.waits c.put_event.ensures.firsts c.put_event.ensures.heads c.requires.room c.put_event.ensures.places c.put_event.ensures.len,
      c.requires.sound.1,
    )

pub returns-clause-shown : goal.returns-clause-shown
returns-clause-shown c =
    let k = c.args.kept.now in
    let i_is : c.len-i.result ≡ length k.nodes.items = omega (arith, c.len-i.ensures, k.nodes.ok.0) in
    grown-shown k.places.entries k.waiters.items k.vacant.items k.nodes.items c.push_reserved.new.self.items c.put_event.new.nodes.items c.loose_node.result k.heads.events c.put_event.new.heads.events k.heads.free c.put_event.new.heads.free k.total
    c.requires.sound.0 c.push_reserved.ensures.items c.loose_node.ensures.event c.loose_node.ensures.wait c.requires.few c.len-i.result i_is
    c.put_event.ensures.events c.put_event.ensures.waits c.put_event.ensures.firsts c.put_event.ensures.heads c.requires.room c.put_event.ensures.places c.put_event.ensures.len
