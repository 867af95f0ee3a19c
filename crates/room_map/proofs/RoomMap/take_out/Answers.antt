use Rattle.std.proofs.Common.{◌≡◌, ◌+◌, false, cond, sym, ap, ◌∙◌}
use Rattle.std.specs.Prelude.{is_some}
use Rattle.std.specs.FinMap as map
use Rattle.room_map.specs.Entries.{as_map}
use Rattle.room_map.specs.Room.{Room}
use Rattle.room_map.specs.Layout.{tree}
use Rattle.room_map.proofs.Rising.{without-absent}
use Rattle.room_map.proofs.Maps.{as_map-without}
use Rattle.room_map.proofs.Results.{may_leave, freed_there, removed, gives_one}
use Rattle.room_map.proofs.RoomMap.take_out.Goals as goal

pub unlink-left-requires : goal.unlink-left-requires
unlink-left-requires g c = (
  tree c.self.inside.nodes.items c.self.inside.root,
  may_leave c.self.invariant c.self.view_is c.get-found.ensures.value c.is_some.ensures c.if-is_some.true c.as_mut_slice.ensures.value,
)

pub free_node-requires : goal.free_node-requires
free_node-requires g c = freed_there c.self.inside.nodes.len c.self.invariant c.self.view_is c.get-found.ensures.value c.is_some.ensures c.if-is_some.true c.self.inside.nodes.ok.0 c.as_mut_slice.ensures.value c.unlink-left.ensures c.as_mut_slice-then-is_some.ensures.value

pub invariant_of-self : goal.invariant_of-self
invariant_of-self g c = (removed g.met.K.Ord.total c.self.inside.nodes.len c.self.invariant c.self.view_is c.get-found.ensures.value c.is_some.ensures c.if-is_some.true c.self.inside.nodes.ok.0 c.as_mut_slice.ensures.value c.unlink-left.ensures c.as_mut_slice-then-is_some.ensures.value c.free_node.ensures.next c.free_node.ensures.changed).kept

pub returns-then-is_some-clause-entries : goal.returns-then-is_some-clause-entries
returns-then-is_some-clause-entries g c = (removed g.met.K.Ord.total c.self.inside.nodes.len c.self.invariant c.self.view_is c.get-found.ensures.value c.is_some.ensures c.if-is_some.true c.self.inside.nodes.ok.0 c.as_mut_slice.ensures.value c.unlink-left.ensures c.as_mut_slice-then-is_some.ensures.value c.free_node.ensures.next c.free_node.ensures.changed).has

pub returns-then-is_some-clause-in_map : goal.returns-then-is_some-clause-in_map
returns-then-is_some-clause-in_map g c = (removed g.met.K.Ord.total c.self.inside.nodes.len c.self.invariant c.self.view_is c.get-found.ensures.value c.is_some.ensures c.if-is_some.true c.self.inside.nodes.ok.0 c.as_mut_slice.ensures.value c.unlink-left.ensures c.as_mut_slice-then-is_some.ensures.value c.free_node.ensures.next c.free_node.ensures.changed).in_map

pub returns-then-is_some-clause-same_places : goal.returns-then-is_some-clause-same_places
returns-then-is_some-clause-same_places g c = (removed g.met.K.Ord.total c.self.inside.nodes.len c.self.invariant c.self.view_is c.get-found.ensures.value c.is_some.ensures c.if-is_some.true c.self.inside.nodes.ok.0 c.as_mut_slice.ensures.value c.unlink-left.ensures c.as_mut_slice-then-is_some.ensures.value c.free_node.ensures.next c.free_node.ensures.changed).same_places

pub returns-then-is_some-clause-rising : goal.returns-then-is_some-clause-rising
returns-then-is_some-clause-rising g c = (removed g.met.K.Ord.total c.self.inside.nodes.len c.self.invariant c.self.view_is c.get-found.ensures.value c.is_some.ensures c.if-is_some.true c.self.inside.nodes.ok.0 c.as_mut_slice.ensures.value c.unlink-left.ensures c.as_mut_slice-then-is_some.ensures.value c.free_node.ensures.next c.free_node.ensures.changed).kept.rises

pub returns-else-is_some-clause-entries : goal.returns-else-is_some-clause-entries
returns-else-is_some-clause-entries g c =
    let none : is_some (map.find g.K.Ord.cmp c.args.key c.args.self.now.entries) ≡ false = ap is_some (sym c.get-found.ensures.value) ∙ sym c.is_some.ensures ∙ c.if-is_some.false in
    sym (without-absent g.met.K.Ord.total c.args.key c.args.self.now.entries none)

pub returns-else-is_some-clause-in_map : goal.returns-else-is_some-clause-in_map
returns-else-is_some-clause-in_map g c = λ exact.
    let none : is_some (map.find g.K.Ord.cmp c.args.key c.args.self.now.entries) ≡ false = ap is_some (sym c.get-found.ensures.value) ∙ sym c.is_some.ensures ∙ c.if-is_some.false in
    ap (as_map g.K.Ord.cmp) (sym (without-absent g.met.K.Ord.total c.args.key c.args.self.now.entries none)) ∙ as_map-without g.met.K.Ord.total exact c.args.key c.args.self.now.entries

pub returns-then-is_some-clause-value : goal.returns-then-is_some-clause-value
returns-then-is_some-clause-value g c = c.get-found.ensures.value

pub returns-else-is_some-clause-value : goal.returns-else-is_some-clause-value
returns-else-is_some-clause-value g c = c.get-found.ensures.value

pub returns-then-is_some-clause-gives_one : goal.returns-then-is_some-clause-gives_one
returns-then-is_some-clause-gives_one g c = gives_one c.get-found.result (ap (λ (w : Room g.row.K.Denot g.row.V.Denot). w.spare) c.self.view_is) c.is_some.ensures c.if-is_some.true

pub returns-else-is_some-clause-gives_one : goal.returns-else-is_some-clause-gives_one
returns-else-is_some-clause-gives_one g c = ap (λ b. cond b (c.args.self.now.spare + 1) c.args.self.now.spare) (sym c.if-is_some.false ∙ c.is_some.ensures)
