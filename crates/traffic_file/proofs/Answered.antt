-- What follows from an answer that is the defined one.
use Rattle.std.proofs.Common.{◌≡◌, Result, Ok, Err, refl, sym, inl, inr, IfOk, IfErr}
use Rattle.std.specs.Prelude.{IsOkUnless}
use Rattle.traffic_file.specs.declared.stops.BusStop.{BusStop}
use Rattle.traffic_file.specs.declared.stops.BusStop.TheVariants as stop
use Rattle.traffic_file.specs.Stops.{IfSyntax, IfRefused, IsJudgedAs, IsRefusedSo}

module _ {T : Type 0} where
  apart : (v : T) (s : BusStop) (r w : Result T BusStop) → r ≡ Ok v → w ≡ Err s → r ≡ w → ⊥
  apart v s r w one other is = cc

  pub read_of : (r w : Result T BusStop) → IsJudgedAs r w → IfOk r (λ v. w ≡ Ok v)
  read_of (Ok v) w h = h
  read_of (Err s) w h = tt

  pub syntax_of : (r w : Result T BusStop) → IsJudgedAs r w → IfErr r (λ s. IfSyntax s (λ line. w ≡ Err (stop.Syntax line)))
  syntax_of (Ok v) w h = tt
  syntax_of (Err (stop.Syntax line)) w h = h
  syntax_of (Err (stop.Refused kind line name)) w h = tt
  syntax_of (Err stop.NoMemory) w h = tt

  pub refused_of : (r w : Result T BusStop) → IsJudgedAs r w → IfErr r (λ s. IfRefused s (λ kind line name. w ≡ Err (stop.Refused kind line name)))
  refused_of (Ok v) w h = tt
  refused_of (Err (stop.Syntax line)) w h = tt
  refused_of (Err (stop.Refused kind line name)) w h = h
  refused_of (Err stop.NoMemory) w h = tt

  pub accepted_of : (r w : Result T BusStop) → IsJudgedAs r w → IfOk w (λ v. IsOkUnless r stop.NoMemory)
  accepted_of r (Err s) h = tt
  accepted_of (Ok v) (Ok b) h = tt
  accepted_of (Err (stop.Syntax line)) (Ok b) h = absurd (apart b (stop.Syntax line) (Ok b) (Err (stop.Syntax line)) refl refl h)
  accepted_of (Err (stop.Refused kind line name)) (Ok b) h = absurd (apart b (stop.Refused kind line name) (Ok b) (Err (stop.Refused kind line name)) refl refl h)
  accepted_of (Err stop.NoMemory) (Ok b) h = refl

  pub comes_of : (r w : Result T BusStop) → IsJudgedAs r w → IfErr w (IsRefusedSo r)
  comes_of r (Ok b) h = tt
  comes_of (Ok v) (Err s) h = absurd (apart v s (Ok v) (Err s) refl refl (sym h))
  comes_of (Err (stop.Syntax line)) (Err s) h = inl (sym h)
  comes_of (Err (stop.Refused kind line name)) (Err s) h = inl (sym h)
  comes_of (Err stop.NoMemory) (Err s) h = inr refl
