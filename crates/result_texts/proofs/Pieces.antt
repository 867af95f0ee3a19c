-- What is added up, with one more.
use Rattle.std.proofs.Common.{◌≡◌, ℕ, ◌+◌, ◌<◌, List, ◌++◌, length, get_or, take, max, sym, ap, ◌∙◌}
use Rattle.std.specs.List.{flat_map}
use Rattle.std.proofs.lemmas.List.{flat_map_more, take_more}
use Rattle.std.proofs.lemmas.List.Sums.{fold_more}
use Rattle.bus_router.specs.declared.rows.BusRow.{BusRow}
use Rattle.result_texts.specs.Lines.{last_time}

pub pieces_more : {X : Type 0} (f : X → List ℕ) (d : X) (first now next : List ℕ) (xs : List X) (i : ℕ) → i < length xs
    → now ≡ first ++ flat_map f (take i xs) → next ≡ now ++ f (get_or xs i d) → next ≡ first ++ flat_map f (take (i + 1) xs)
pieces_more f d first now next xs i below is more =
    more ∙ ap (λ l. l ++ f (get_or xs i d)) is ∙ flat_map_more f first (take i xs) (get_or xs i d) ∙ ap (λ l. first ++ flat_map f l) (sym (take_more xs i d below))

pub last_more : (rows : List BusRow) (d : BusRow) (i : ℕ) → i < length rows → last_time (take (i + 1) rows) ≡ max (last_time (take i rows)) (get_or rows i d).r
last_more rows d i below = fold_more (λ last (row : BusRow). max last row.r) 0 rows i d below
