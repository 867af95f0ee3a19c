use Rattle.room_map.specs.Layout.{tree}
use Rattle.room_map.proofs.Results.{may_replace, replaced}
use Rattle.room_map.proofs.RoomMap.replace.Goals as goal

pub set_value-requires : goal.set_value-requires
set_value-requires g c = (tree c.self.inside.nodes.items c.self.inside.root, may_replace c.self.invariant c.self.view_is c.requires c.as_mut_slice.ensures.value)

pub invariant_of-self : goal.invariant_of-self
invariant_of-self g c = (replaced g.met.K.Ord.total c.self.inside.nodes.len c.self.invariant c.self.view_is c.requires c.self.inside.nodes.ok.0 c.as_mut_slice.ensures.value c.set_value.ensures).kept

pub returns-clause-entries : goal.returns-clause-entries
returns-clause-entries g c = (replaced g.met.K.Ord.total c.self.inside.nodes.len c.self.invariant c.self.view_is c.requires c.self.inside.nodes.ok.0 c.as_mut_slice.ensures.value c.set_value.ensures).has

pub returns-clause-in_map : goal.returns-clause-in_map
returns-clause-in_map g c = (replaced g.met.K.Ord.total c.self.inside.nodes.len c.self.invariant c.self.view_is c.requires c.self.inside.nodes.ok.0 c.as_mut_slice.ensures.value c.set_value.ensures).in_map

pub returns-clause-as_many : goal.returns-clause-as_many
returns-clause-as_many g c = (replaced g.met.K.Ord.total c.self.inside.nodes.len c.self.invariant c.self.view_is c.requires c.self.inside.nodes.ok.0 c.as_mut_slice.ensures.value c.set_value.ensures).as_many

pub returns-clause-rising : goal.returns-clause-rising
returns-clause-rising g c = (replaced g.met.K.Ord.total c.self.inside.nodes.len c.self.invariant c.self.view_is c.requires c.self.inside.nodes.ok.0 c.as_mut_slice.ensures.value c.set_value.ensures).kept.rises
