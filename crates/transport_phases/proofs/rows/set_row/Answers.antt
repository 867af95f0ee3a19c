use Rattle.std.proofs.Common.{◌≡◌, ◌+◌, true, false, cond, sym, ap, ◌∙◌, arith}
use Rattle.std.specs.Prelude.{is_some}
use Rattle.std.specs.Ordering.{nat_cmp}
use Rattle.std.specs.FinMap as map
use Rattle.room_map.specs.Entries.{as_map}
use Rattle.transport_phases.proofs.MapLemmas.{set_insert, set_remove, len_inserted, len_replaced, len_removed}
use Rattle.transport_phases.proofs.rows.set_row.Goals as goal

pub returns-then-is_fresh-clause-set : goal.returns-then-is_fresh-clause-set
returns-then-is_fresh-clause-set c =
    set_remove _ c.args.t c.args.kept _ (sym c.is_fresh.ensures ∙ c.if-is_fresh.true) (c.remove.ensures.in_map map.nat_cmp-IsAntisymmetric)

pub returns-then-is_fresh-clause-places : goal.returns-then-is_fresh-clause-places
returns-then-is_fresh-clause-places c =
    let there : map.contains_key (as_map nat_cmp c.args.rows.now.entries) c.args.t ≡ true = sym c.contains.ensures.in_map ∙ c.if-contains.true in
    let fewer : map.len (as_map nat_cmp c.remove.new.self.entries) + 1 ≡ map.len (as_map nat_cmp c.args.rows.now.entries) =
    ap (λ m. map.len m + 1) (c.remove.ensures.in_map map.nat_cmp-IsAntisymmetric) ∙ len_removed _ c.args.t there in
    let was : is_some c.remove.result ≡ true = ap is_some c.remove.ensures.value ∙ sym c.contains.ensures.found ∙ c.if-contains.true in
    let more : c.remove.new.self.spare ≡ c.args.rows.now.spare + 1 =
    c.remove.ensures.gives_one ∙ ap (λ b. cond b (c.args.rows.now.spare + 1) c.args.rows.now.spare) was in
    omega arith

pub returns-else-is_fresh-clause-set : goal.returns-else-is_fresh-clause-set
returns-else-is_fresh-clause-set c =
    set_insert _ c.args.t c.args.kept _ (sym c.is_fresh.ensures ∙ c.if-is_fresh.false) c.replace.ensures.in_map

pub returns-else-is_fresh-clause-places : goal.returns-else-is_fresh-clause-places
returns-else-is_fresh-clause-places c =
    let there : map.contains_key (as_map nat_cmp c.args.rows.now.entries) c.args.t ≡ true = sym c.contains.ensures.in_map ∙ c.if-contains.true in
    let as_many : map.len (as_map nat_cmp c.replace.new.self.entries) ≡ map.len (as_map nat_cmp c.args.rows.now.entries) =
    ap map.len c.replace.ensures.in_map ∙ len_replaced _ c.args.t c.args.kept there in
    let same : c.replace.new.self.spare ≡ c.args.rows.now.spare = c.replace.ensures.spare in
    omega arith

pub returns-then-not-is_fresh-clause-set : goal.returns-then-not-is_fresh-clause-set
returns-then-not-is_fresh-clause-set c =
    set_insert _ c.args.t c.args.kept _ (sym c.is_fresh-else-contains.ensures ∙ c.if-not-is_fresh.true) c.insert.ensures.in_map

pub returns-then-not-is_fresh-clause-places : goal.returns-then-not-is_fresh-clause-places
returns-then-not-is_fresh-clause-places c =
    let absent : map.contains_key (as_map nat_cmp c.args.rows.now.entries) c.args.t ≡ false = sym c.contains.ensures.in_map ∙ c.if-contains.false in
    let more : map.len (as_map nat_cmp c.insert.new.self.entries) ≡ map.len (as_map nat_cmp c.args.rows.now.entries) + 1 =
    ap map.len c.insert.ensures.in_map ∙ len_inserted _ c.args.t c.args.kept absent in
    let fewer : c.insert.new.self.spare + 1 ≡ c.args.rows.now.spare = c.insert.ensures.takes_one in
    omega arith
