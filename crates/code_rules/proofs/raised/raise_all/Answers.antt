use Rattle.std.proofs.Common.{◌≡◌, ◌<◌, ◌^◌, ◌++◌, ◌∙◌, ℕ, List, ap, length, map, take, drop, arith, All, subst, sym, length-append, length-drop}
use Rattle.std.specs.Prelude.{slice_set}
use Rattle.std.proofs.lemmas.List.{take_more_set, length-map, length-take}
use Rattle.std.proofs.lemmas.List.Edits.{map_over_more}
use Rattle.std.proofs.lemmas.List.Elements.{All-push}
use Rattle.model_rules.specs.FlatDesign.declared.code.CodeBody.{CodeBody}
use Rattle.code_rules.specs.Tables.{with_room}
use Rattle.code_rules.proofs.raised.raise_all.Goals as goal

as_long : {A : Type 0} (f : A → A) (xs ys : List A) (i : ℕ) → ys ≡ map f (take i xs) ++ drop i xs → length ys ≡ length xs
as_long f xs ys i e =
    omega (arith, ap length e, length-append (map f (take i xs)) (drop i xs), length-map (take i xs) f, length-take i xs, length-drop i xs)

pub loop-i-preserved : goal.loop-i-preserved
loop-i-preserved c =
    let bodies = c.loop-i.bodies.items in
    let i = c.loop-i.i in
    let raise = with_room c.args.table.now c.args.functions in
    let within : i < length bodies = omega (arith, as_long raise c.args.bodies.items bodies i c.loop-i.invariant.rooms) in
    let Small : CodeBody → Type 0 = λ b. b.room < 2 ^ 32 in record {
      rooms = ap (slice_set bodies i) c.in_ok-raise_room.ensures.room
          ∙ map_over_more raise c.args.bodies.items bodies i c.index_mut.result.now (omega arith) c.loop-i.invariant.rooms c.index_mut.ensures.value;
      small = subst (All Small) (sym (take_more_set bodies i c.raise_room.new.body within)) (All-push Small _ c.raise_room.new.body c.loop-i.invariant.small c.in_ok-raise_room.ensures.small);
    }
