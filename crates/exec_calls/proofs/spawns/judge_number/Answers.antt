use Rattle.std.proofs.Common.{◌≡◌, ◌<◌, ◌≤◌, sym, arith}
use Rattle.std.specs.FinMap as map
use Rattle.exec_data.proofs.KernelState.Counting.{few_live, too_many_live}
use Rattle.exec_calls.proofs.Living.{as_many}
use Rattle.exec_calls.proofs.spawns.judge_number.Goals as goal

pub returns-then-living-lt-MOST_LIVE : goal.returns-then-living-lt-MOST_LIVE
returns-then-living-lt-MOST_LIVE c = λ d h.
    let same = as_many c.args.k.now.schedule c.requires.schedule in
    let test = c.instances-living.ensures in
    let few : map.len c.args.k.now.schedule.table.live < 65536 = omega arith in
    sym (few_live c.args.k.now d h few)

pub returns-else-living-lt-MOST_LIVE : goal.returns-else-living-lt-MOST_LIVE
returns-else-living-lt-MOST_LIVE c = λ d h.
    let same = as_many c.args.k.now.schedule c.requires.schedule in
    let test = c.instances-living.ensures in
    let most : map.len c.args.k.now.schedule.table.live ≤ 65536 = c.requires.schedule.few in
    let full : map.len c.args.k.now.schedule.table.live ≡ 65536 = omega arith in
    sym (too_many_live c.args.k.now d h full)
