-- Two texts of the same times and payloads are the same: the accesses have one order.
use Rattle.std.proofs.Common.{◌≡◌, ℕ, suc, ◌<◌, List, [], ◌∷◌, ◌++◌, length, get_or, refl, sym, ap, ◌∙◌, arith}
use Rattle.std.specs.List.{flat_map}
use Rattle.std.proofs.lemmas.List.Elements.{Contains-get_or}
use Rattle.bus_router.proofs.DmiMap.OneOrder.{same_order}
use Rattle.bus_router.specs.PayloadPool.declared.payload.Payload.{Payload}
use Rattle.bus_router.specs.TrafficFile.declared.Bus.{Bus}
use Rattle.bus_router.specs.declared.rows.BusRow.{BusRow}
use Rattle.bus_router.specs.Times.{row_at}
use Rattle.result_texts.specs.Lines.{returned_rank, access_line, end_line, IsReturnOrder, IsTextOf}

-- what two functions answer alike for each element
pub same_pieces : (f g : ℕ → List ℕ) (ks : List ℕ) → ((i : ℕ) → i < length ks → f (get_or ks i 0) ≡ g (get_or ks i 0)) → flat_map f ks ≡ flat_map g ks
same_pieces f g [] same = refl
same_pieces f g (k ∷ ks) same = ap (λ l. l ++ flat_map f ks) (same 0 (omega arith)) ∙ ap (λ l. g k ++ l) (same_pieces f g ks (λ i below. same (suc i) (omega arith)))

pub same_return : (bus : Bus) (rows : List BusRow) (ks ls : List ℕ) → IsReturnOrder bus rows ks → IsReturnOrder bus rows ls → ks ≡ ls
same_return bus rows ks ls one other =
    same_order (λ k. returned_rank (row_at rows k)) ks ls one.order other.order
    (λ k. ((λ held. (other.all k).1 ((one.all k).0 held)), (λ held. (one.all k).1 ((other.all k).0 held))))

pub same_text : (bus : Bus) (rows : List BusRow) (payloads others : ℕ → Payload) (one other : List ℕ)
    → ((k : ℕ) → k < length bus.lines → payloads k ≡ others k) → IsTextOf bus rows payloads one → IsTextOf bus rows others other → one ≡ other
same_text bus rows payloads others one other same first second =
    first.is
    ∙ ap (λ l. l ++ end_line rows)
    (same_pieces (λ k. access_line bus (row_at rows k) k (payloads k)) (λ k. access_line bus (row_at rows k) k (others k)) first.ks
    (λ i below. ap (access_line bus (row_at rows (get_or first.ks i 0)) (get_or first.ks i 0)) (same (get_or first.ks i 0) ((first.order.all (get_or first.ks i 0)).0 (Contains-get_or first.ks i 0 below)))))
    ∙ ap (λ ks. flat_map (λ k. access_line bus (row_at rows k) k (others k)) ks ++ end_line rows) (same_return bus rows first.ks second.ks first.order second.order)
    ∙ sym second.is
