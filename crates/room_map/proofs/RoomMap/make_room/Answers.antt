use Rattle.std.proofs.Common.{◌≡◌, ◌+◌, ◌<◌, ◌^◌, arith}
use Rattle.room_map.proofs.Results.{grown}
use Rattle.room_map.proofs.RoomMap.make_room.Goals as goal

pub invariant_of-self-in-Ok : goal.invariant_of-self-in-Ok
invariant_of-self-in-Ok g c =
    let sum : c.in-Some.places ≡ c.len.result + c.self.inside.spare + c.saturating_sub-more.result = omega (arith, c.in-Some.ensures) in
    let small : c.in-Some.places < 2 ^ 32 = omega (arith, c.in-Some.ensures) in
    (grown _ c.free_all-self-inside.new.nodes c.saturating_sub-more.result c.self.invariant c.self.view_is c.len.ensures.len sum small c.in-Ok.ensures.items c.in-Ok.ensures.len c.resize.new.self.ok.0 c.as_mut_slice.ensures.value c.free_all-self-inside.ensures.long c.free_all-self-inside.ensures.before c.free_all-self-inside.ensures.chain).kept

pub returns-in-Ok-clause-kept : goal.returns-in-Ok-clause-kept
returns-in-Ok-clause-kept g c =
    let sum : c.in-Some.places ≡ c.len.result + c.self.inside.spare + c.saturating_sub-more.result = omega (arith, c.in-Some.ensures) in
    let small : c.in-Some.places < 2 ^ 32 = omega (arith, c.in-Some.ensures) in
    (grown _ c.free_all-self-inside.new.nodes c.saturating_sub-more.result c.self.invariant c.self.view_is c.len.ensures.len sum small c.in-Ok.ensures.items c.in-Ok.ensures.len c.resize.new.self.ok.0 c.as_mut_slice.ensures.value c.free_all-self-inside.ensures.long c.free_all-self-inside.ensures.before c.free_all-self-inside.ensures.chain).has
