use Rattle.std.proofs.Common.{◌≡◌, ◌↔◌, true≢false, subst, length, sym, ap, ◌∙◌}
use Rattle.std.specs.Prelude.{Ok, Err, is_ok}
use Rattle.std.specs.FinMap as map
use Rattle.instance_table.specs.declared.TheConstants.{MAX_LIVE}
use Rattle.instance_table.specs.declared.SpawnStop.TheVariants as SpawnStop
use Rattle.wait_lists.specs.Waits as lists
use Rattle.kernel_processes.proofs.Adding.{below_limit, added, added_sound, refused_stays, refused_sound}
use Rattle.kernel_processes.proofs.spawning.add.Goals as goal

absurd_ok : {A E : Type 0} {a : A} {e : E} → Ok a ≡ Err e → ⊥
absurd_ok is = true≢false (ap is_ok is)

pub returns-in-Ok-spawn-clause-adds : goal.returns-in-Ok-spawn-clause-adds
returns-in-Ok-spawn-clause-adds g c = added c.args.s.now c.reserve_lists.new.s c.args.p c.requires.sound c.requires.number c.reserve_lists.ensures.kept c.reserve_lists.ensures.others
    c.args.kind c.args.sensitive c.args.body (subst (λ es. lists.HasRoom c.reserve_lists.new.s.lists c.args.p (length es)) c.as_slice.ensures c.in-Ok.ensures.ok) c.spawn.new.self c.in-Ok-spawn.ensures.spawned

pub returns-in-Ok-spawn-clause-sound : goal.returns-in-Ok-spawn-clause-sound
returns-in-Ok-spawn-clause-sound g c = added_sound c.args.s.now c.reserve_lists.new.s c.args.p c.requires.sound c.requires.number c.reserve_lists.ensures.kept c.reserve_lists.ensures.others
    c.args.kind c.args.sensitive c.args.body (subst (λ es. lists.HasRoom c.reserve_lists.new.s.lists c.args.p (length es)) c.as_slice.ensures c.in-Ok.ensures.ok) c.spawn.new.self c.in-Ok-spawn.ensures.spawned c.requires.places (below_limit c.spawn.result (Err SpawnStop.TooMany) (map.len c.args.s.now.table.live) MAX_LIVE c.requires.sound.few (subst (λ v. (c.spawn.result ≡ Err SpawnStop.TooMany) ↔ (map.len v.table.live ≡ MAX_LIVE)) c.reserve_lists.ensures.kept c.spawn.ensures.too_many) (λ is. absurd_ok (sym c.in-Ok-spawn.is ∙ is))) c.requires.serials

pub returns-in-Err-spawn-clause-stays : goal.returns-in-Err-spawn-clause-stays
returns-in-Err-spawn-clause-stays g c = refused_stays c.args.s.now c.reserve_lists.new.s c.args.p c.requires.sound c.requires.number c.reserve_lists.ensures.kept c.reserve_lists.ensures.others
    c.spawn.new.self c.in-Err-spawn.ensures.refused c.forget.new.self c.forget.ensures

pub returns-in-Err-spawn-clause-sound : goal.returns-in-Err-spawn-clause-sound
returns-in-Err-spawn-clause-sound g c = refused_sound c.args.s.now c.reserve_lists.new.s c.args.p c.requires.sound c.requires.number c.reserve_lists.ensures.kept c.reserve_lists.ensures.others
    c.spawn.new.self c.in-Err-spawn.ensures.refused c.forget.new.self c.forget.ensures
