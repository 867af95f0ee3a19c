use Rattle.room_map.specs.Layout.{tree}
use Rattle.room_map.proofs.Results.{may_enter, inserted}
use Rattle.room_map.proofs.RoomMap.insert.Goals as goal

pub with_entry-self-inside-requires : goal.with_entry-self-inside-requires
with_entry-self-inside-requires g c = (tree c.self.inside.nodes.items c.self.inside.root, may_enter c.self.invariant c.self.view_is c.requires.absent c.requires.room c.as_mut_slice.ensures.value)

pub invariant_of-self : goal.invariant_of-self
invariant_of-self g c = (inserted g.met.K.Ord.total c.self.inside.nodes.len c.self.invariant c.self.view_is c.requires.absent c.requires.room c.self.inside.nodes.ok.0 c.as_slice.ensures.value c.next-behind.ensures c.as_mut_slice.ensures.value c.with_entry-self-inside.ensures).kept

pub returns-clause-entries : goal.returns-clause-entries
returns-clause-entries g c = (inserted g.met.K.Ord.total c.self.inside.nodes.len c.self.invariant c.self.view_is c.requires.absent c.requires.room c.self.inside.nodes.ok.0 c.as_slice.ensures.value c.next-behind.ensures c.as_mut_slice.ensures.value c.with_entry-self-inside.ensures).has

pub returns-clause-in_map : goal.returns-clause-in_map
returns-clause-in_map g c = (inserted g.met.K.Ord.total c.self.inside.nodes.len c.self.invariant c.self.view_is c.requires.absent c.requires.room c.self.inside.nodes.ok.0 c.as_slice.ensures.value c.next-behind.ensures c.as_mut_slice.ensures.value c.with_entry-self-inside.ensures).in_map

pub returns-clause-one_more : goal.returns-clause-one_more
returns-clause-one_more g c = (inserted g.met.K.Ord.total c.self.inside.nodes.len c.self.invariant c.self.view_is c.requires.absent c.requires.room c.self.inside.nodes.ok.0 c.as_slice.ensures.value c.next-behind.ensures c.as_mut_slice.ensures.value c.with_entry-self-inside.ensures).one_more

pub returns-clause-rising : goal.returns-clause-rising
returns-clause-rising g c = (inserted g.met.K.Ord.total c.self.inside.nodes.len c.self.invariant c.self.view_is c.requires.absent c.requires.room c.self.inside.nodes.ok.0 c.as_slice.ensures.value c.next-behind.ensures c.as_mut_slice.ensures.value c.with_entry-self-inside.ensures).kept.rises
