-- Bodies that got their rooms have the rooms that they need.
use Rattle.std.proofs.Common.{◌≡◌, ◌≤◌, ◌⊎◌, ℕ, List, [], ◌∷◌, map, Some, refl, sym, ap, ◌∙◌, subst, inl, inr, arith}
use Rattle.std.specs.Prelude.{Contains, slice_get, option_map}
use Rattle.std.proofs.lemmas.Option.{slice_get-map, slice_get_within, get_or_from_slice_get, slice_get-get_or}
use Rattle.model_rules.specs.FlatDesign.Code.{Arena, Statement, arena_of, body_at}
use Rattle.model_rules.specs.FlatDesign.Reach.{Holds}
use Rattle.model_rules.specs.FlatDesign.Sound.{events_of}
use Rattle.model_rules.specs.FlatDesign.declared.code.BodyKind.{BodyKind}
use Rattle.model_rules.specs.FlatDesign.declared.code.BodyKind.TheVariants as body_kind
use Rattle.model_rules.specs.FlatDesign.declared.code.CodeBody.{CodeBody}
use Rattle.model_rules.specs.FlatDesign.declared.code.Code.{Code}
use Rattle.code_rules.specs.Rooms.{IsGreatest, InFunction, NeedsRoom, HasRooms, IsNested, without_room, DiffersInRooms}
use Rattle.code_rules.specs.Tables.{in_block, table_of, if_function, in_functions, with_room}
use Rattle.code_rules.proofs.Greatest.{max_is, each_fits, reached}
use Rattle.code_rules.proofs.Tabled.{table_right}
use Rattle.code_rules.proofs.Still.{holds_still, mapped_at}

contains_found : {A : Type 0} (xs : List A) (k : ℕ) (x : A) → slice_get xs k ≡ Some x → Contains xs x
contains_found xs k x e = (k, slice_get_within xs k x e, get_or_from_slice_get xs k x x e)

found_contained : {A : Type 0} (xs : List A) (x : A) → Contains xs x → (k : ℕ) × (slice_get xs k ≡ Some x)
found_contained xs x c = (c.0, slice_get-get_or xs c.0 x c.1 ∙ ap Some c.2)

module _ (a : Arena) (nested : IsNested a) where
  abbrev table : List ℕ
  table = table_of a

  abbrev functions : ℕ
  functions = in_functions table a.bodies

  abbrev raised : Arena
  raised = record a { bodies = map (with_room table functions) a.bodies }

  -- a body, as it was
  was : (f : ℕ) (b : CodeBody) → body_at raised f ≡ Some b → (c : CodeBody) × (body_at a f ≡ Some c) × (with_room table functions c ≡ b)
  was f b found = mapped_at (with_room table functions) a.bodies f b found

  back : (b : ℕ) (s : Statement) → Holds raised b s → Holds a b s
  back b s x = holds_still raised a.bodies b s x

  function_fits : (c : CodeBody) → Contains a.bodies c → c.kind ≡ body_kind.Function → in_block table c.block ≤ functions
  function_fits c has is =
      subst (λ k. if_function k (in_block table c.block) ≤ functions) is (each_fits (λ (b : CodeBody). if_function b.kind (in_block table b.block)) a.bodies 0 c has)

  in_function_fits : (s : Statement) → InFunction raised s → events_of s ≤ functions
  in_function_fits s x =
      let w = was x.function x.body x.found in
      let own = (table_right a nested w.0.block).suffices s (subst (λ (b : CodeBody). Holds a b.block s) (sym w.2) (back x.body.block s x.stands)) in
      let fits = function_fits w.0 (contains_found a.bodies x.function w.0 w.1) (ap (λ (b : CodeBody). b.kind) w.2 ∙ x.is_function) in
      omega (arith, own, fits)

  module _ (c : CodeBody) where
    abbrev new : CodeBody
    new = with_room table functions c

    suffices_by : (s : Statement) → NeedsRoom raised new s → events_of s ≤ new.room
    suffices_by s (inl own) = let fits = (table_right a nested c.block).suffices s (back c.block s own) in omega (arith, fits)
    suffices_by s (inr x) = let fits = in_function_fits s x in omega (arith, fits)

    abbrev IsNeeded : ℕ → Type 0
    IsNeeded n = (n ≡ 0) ⊎ ((s : Statement) × NeedsRoom raised new s × (events_of s ≡ n))

    own_needed : IsNeeded (in_block table c.block)
    own_needed = elim ((table_right a nested c.block).needed) [
      | inl none ↦ inl none
      | inr w ↦ inr (w.0, inl (holds_still a raised.bodies c.block w.0 w.1), w.2)
    ]

    function_needed : (b : CodeBody) → Contains a.bodies b → (k : BodyKind) → b.kind ≡ k → if_function k (in_block table b.block) ≡ functions → IsNeeded functions
    function_needed b has body_kind.Function is e =
        elim ((table_right a nested b.block).needed) [
          | inl none ↦ inl (sym e ∙ none)
          | inr w ↦
              let found = found_contained a.bodies b has in
              let there : InFunction raised w.0 = record {
                function = found.0;
                body = with_room table functions b;
                found = slice_get-map (with_room table functions) a.bodies found.0 ∙ ap (option_map (with_room table functions)) found.1;
                is_function = is;
                stands = holds_still a raised.bodies b.block w.0 w.1;
              } in
              inr (w.0, inr there, w.2 ∙ e)
        ]
    function_needed b has body_kind.Thread is e = inl (sym e)
    function_needed b has body_kind.Method is e = inl (sym e)
    function_needed b has body_kind.Clock is e = inl (sym e)

    functions_needed : IsNeeded functions
    functions_needed = elim (reached (λ (b : CodeBody). if_function b.kind (in_block table b.block)) a.bodies 0) [
      | inl none ↦ inl none
      | inr w ↦ function_needed w.0 w.1 w.0.kind refl w.2
    ]

    room_right : IsGreatest (NeedsRoom raised new) new.room
    room_right = record {
      suffices = suffices_by;
      needed = elim (max_is functions (in_block table c.block)) [
        | inl e ↦ subst IsNeeded (sym e) functions_needed
        | inr e ↦ subst IsNeeded (sym e) own_needed
      ];
    }

  pub rooms_right : HasRooms raised
  rooms_right f b found = let w = was f b found in subst (λ (x : CodeBody). IsGreatest (NeedsRoom raised x) x.room) w.2 (room_right w.0)

-- all else stays
without_still : (t : List ℕ) (n : ℕ) (bs : List CodeBody) → map without_room (map (with_room t n) bs) ≡ map without_room bs
without_still t n [] = refl
without_still t n (b ∷ bs) = ap (λ xs. without_room b ∷ xs) (without_still t n bs)

module _ (c : Code) (bodies : List CodeBody) (table : List ℕ) (functions : ℕ) (are : bodies ≡ map (with_room table functions) c.bodies) where
  pub rooms_raised : table ≡ table_of (arena_of c) → functions ≡ in_functions table c.bodies → IsNested (arena_of c) → HasRooms (arena_of (record c { bodies = bodies }))
  rooms_raised is_table is_functions nested =
      let to : List CodeBody = map (with_room (table_of (arena_of c)) (in_functions (table_of (arena_of c)) c.bodies)) c.bodies in
      let same : bodies ≡ to =
      are ∙ ap (λ f. map (with_room table f) c.bodies) is_functions ∙ ap (λ t. map (with_room t (in_functions t c.bodies)) c.bodies) is_table in
      subst (λ bs. HasRooms (arena_of (record c { bodies = bs }))) (sym same) (rooms_right (arena_of c) nested)

  pub kept_raised : DiffersInRooms c (record c { bodies = bodies })
  kept_raised = record { blocks = refl; statements = refl; bodies = ap (map without_room) are ∙ without_still table functions c.bodies }
