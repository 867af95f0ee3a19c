-- How the processes of a design begin: nobody hears of their ends, and what comes first of their bodies is their own.
use Rattle.std.proofs.Common.{◌≡◌, ℕ, false, List, [], ◌∷◌, Contains, Option, Some, None, option_map, slice_get, refl, sym, ◌∙◌, subst}
use Rattle.std.proofs.lemmas.List.Elements.{All-weaker, All-contains_itself}
use Rattle.std.proofs.lemmas.List.Folds.{list_any_none}
use Rattle.std.proofs.lemmas.Option.{none-some, same_Some, slice_get-map}
use Rattle.sim_model.specs.EventCore.Ev.{same_event}
use Rattle.sim_model.specs.EventCore.declared.event.Ev.{Ev}
use Rattle.sim_model.specs.EventCore.declared.event.Ev.TheVariants as ev
use Rattle.sim_model.specs.FlatDesign.Code.{Arena, arena_of, block_at, body_at}
use Rattle.sim_model.specs.FlatDesign.Reach as reach
use Rattle.sim_model.specs.FlatDesign.declared.code.CodeBody.{CodeBody}
use Rattle.sim_model.specs.FlatDesign.declared.design.ProcessPart.{ProcessPart}
use Rattle.sim_model.specs.FlatDesign.declared.design.Design.{Design}
use Rattle.sim_model.specs.Residual.{frame, frame_of, statements, settle, next_of, entered_in, begun}
use Rattle.sim_model.specs.Configuration.{first_instance, start}
use Rattle.sim_model.specs.Waits.{is_among}
use Rattle.sim_model.specs.declared.plain.Command.{Command}
use Rattle.order_free.specs.declared.uses.Use.TheVariants as used
use Rattle.order_free.specs.Free.{Uses, by_statement, by_sensitivity, Free}
use Rattle.laws_order.specs.Alongside.{OwnAt, OwnNext, IsDeaf, IsUnheard, AreUnheard}
use Rattle.laws_order.proofs.Reading.{contains-first}

-- ---- who hears of ends

module _ (d : Design) (free : Free d) (q : ℕ) (part : ProcessPart) (found : slice_get d.processes q ≡ Some part) where
  not_ended : (p : ℕ) (e : Ev) → Contains part.sensitive e → same_event (ev.Terminated p) e ≡ false
  not_ended p (ev.Fixed n) there = refl
  not_ended p (ev.Terminated r) there = absurd (free.watches q (by_sensitivity part (ev.Terminated r) found there (contains-first used.Watches [])))
  not_ended p (ev.Restarted r) there = refl

  not_restarted : (p : ℕ) (e : Ev) → Contains part.sensitive e → same_event (ev.Restarted p) e ≡ false
  not_restarted p (ev.Fixed n) there = refl
  not_restarted p (ev.Terminated r) there = refl
  not_restarted p (ev.Restarted r) there = absurd (free.watches q (by_sensitivity part (ev.Restarted r) found there (contains-first used.Watches [])))

  deaf_list : (v : Ev) → ((e : Ev) → Contains part.sensitive e → same_event v e ≡ false) → is_among v part.sensitive ≡ false
  deaf_list v never = list_any_none (same_event v) part.sensitive (All-weaker (Contains part.sensitive) (λ (e : Ev). same_event v e ≡ false) never part.sensitive (All-contains_itself part.sensitive))

module _ (d : Design) (script : List Command) where
  started : (v : Ev) → ((q : ℕ) (part : ProcessPart) → slice_get d.processes q ≡ Some part → is_among v part.sensitive ≡ false) → IsUnheard v (start d script)
  started v never q i at = by (slice_get d.processes q) refl (sym (slice_get-map (first_instance d) d.processes q) ∙ at)
    where
      by : (o : Option ProcessPart) → slice_get d.processes q ≡ o → option_map (first_instance d) o ≡ Some i → IsDeaf v i
      by None found is = absurd (none-some i is)
      by (Some part) found is = subst (IsDeaf v) (same_Some (first_instance d part) i is) (never q part found)

  pub start-unheard : Free d → (p : ℕ) → AreUnheard p (start d script)
  start-unheard free p = (
    started (ev.Terminated p) (λ q part found. deaf_list d free q part found (ev.Terminated p) (not_ended d free q part found p)),
    started (ev.Restarted p) (λ q part found. deaf_list d free q part found (ev.Restarted p) (not_restarted d free q part found p)),
  )

-- ---- what comes first

module _ (d : Design) (p : ℕ) (part : ProcessPart) (found : slice_get d.processes p ≡ Some part) where
  abbrev a : Arena
  a = arena_of d.code

  module _ (b : CodeBody) (body : body_at a part.code ≡ Some b) where
    own_first : (s : ℕ) (ss : List ℕ) → block_at a b.block ≡ s ∷ ss → OwnAt (Uses d p) d part.home s
    own_first s ss is w at u there =
        by_statement part b w found body
        (reach.here b.block w (record { block = b.block; inside = reach.itself b.block; stands = record { number = s; listed_there = subst (λ (ns : List ℕ). Contains ns s) (sym is) (contains-first s ss); found = at } })) there

    own_block : (ss : List ℕ) → block_at a b.block ≡ ss → OwnNext (Uses d p) d part.home (next_of (settle a (frame (statements ss) (frame_of part.code [] None None b.locals))))
    own_block [] is = tt
    own_block (s ∷ []) is = own_first s [] is
    own_block (s ∷ (n ∷ ss)) is = own_first s (n ∷ ss) is

  own_body : (o : Option CodeBody) → body_at a part.code ≡ o → OwnNext (Uses d p) d part.home (next_of (settle a (entered_in a part.code [] None None o)))
  own_body None body = tt
  own_body (Some b) body = own_block b body (block_at a b.block) refl

  pub own-begun : OwnNext (Uses d p) d part.home (next_of (settle a (begun a part.code [])))
  own-begun = own_body (body_at a part.code) refl
