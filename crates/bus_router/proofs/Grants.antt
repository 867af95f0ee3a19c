-- A grant is there in each table that has the same rows for the earlier accesses of its initiator.
use Rattle.std.proofs.Common.{◌≡◌, ℕ, ◌<◌, ◌≤◌, sym, ap, ◌∙◌, subst}
use Rattle.traffic_file.specs.DmiMap.declared.ranges.TargetRange.{TargetRange}
use Rattle.traffic_file.specs.declared.Bus.{Bus}
use Rattle.traffic_file.specs.Traffic.{initiator_of}
use Rattle.bus_router.specs.declared.rows.BusRow.{BusRow}
use Rattle.bus_router.specs.Times.{Table, IsGranted, IsLeft, IsHeld}

module _ (bus : Bus) (one other : Table) (k : ℕ) (before : (j : ℕ) → j < k → initiator_of bus j ≡ initiator_of bus k → one j ≡ other j) (time : ℕ) where
  granted_in_other : (range : TargetRange) (j : ℕ) → IsGranted bus one range j k time → IsGranted bus other range j k time
  granted_in_other range j granted =
      let same = before j granted.earlier granted.same in
      record {
        earlier = granted.earlier;
        same = granted.same;
        home_is = granted.home_is;
        routed = sym (ap (λ (row : BusRow). row.direct) same) ∙ granted.routed;
        done = granted.done;
        back = subst (λ (row : BusRow). row.r ≤ time) same granted.back;
        left = subst (λ (row : BusRow). IsLeft bus range row.e time) same granted.left;
      }

  pub held_in_other : IsHeld bus one k time → IsHeld bus other k time
  held_in_other held = record {
    keeps = held.keeps;
    range = held.range;
    home_is = held.home_is;
    whole = held.whole;
    since = held.since;
    granted = granted_in_other held.range held.since held.granted;
  }
