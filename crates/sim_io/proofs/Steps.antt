-- What each call of a shelf in memory makes of it, said in the words of a shelf.
use Rattle.std.proofs.Common.{◌≡◌, ◌<◌, ◌≤◌, ◌+◌, ◌⊎◌, inl, inr, min, ℕ, List, [], ◌∷◌, ◌++◌, length, set, drop, take, Option, None, Some, refl, sym, ◌∙◌, ap, subst, arith, append-nil}
use Rattle.std.specs.Prelude.{Result, Ok, Err, IfOk, OnOk, MatchOption, not}
use Rattle.std.specs.Option.{option_map}
use Rattle.std.proofs.lemmas.List.Sums.{prefix_len-le-length}
use Rattle.sim_io.specs.Contents.{Lacks, Grows, text_of}
use Rattle.sim_io.specs.Writes.{taken, Creates}
use Rattle.sim_io.specs.Memory.{Entry, named, contents, place_of, bytes_at, with_empty, rest_of, reader_at, ShelfState, left_of, StandsFor, opened, given, emptied, appended}
use Rattle.sim_io.specs.declared.outside.Trouble.{Trouble}
use Rattle.sim_io.specs.declared.outside.Trouble.TheVariants.{Failed, NoMemory}
use Rattle.sim_io.specs.declared.memory_shelf.Reader.{Reader}
use Rattle.std.specs.Io.KnownBytes.{append_known, Keeps, Consumes, ReadConsumes, IsAtEnd}
use Rattle.std.proofs.lemmas.List.{length_push, get_or_push, get_or-set_same, length-set, drop-drop, take-append-drop, nil_from_length}
use Rattle.std.proofs.lemmas.Option.{slice_get-get_or}
use Rattle.sim_io.proofs.Entries.{contents_at, contents_none, contents_put, contents_put_others, contents-with_empty, others-with_empty, place_in-with_empty}

-- neither cause is there
pub neither : {A B : Type 0} → (A → ⊥) → (B → ⊥) → A ⊎ B → ⊥
neither a b (inl x) = a x
neither a b (inr y) = b y

-- a name that has a place is not lacking
pub not_lacking : (files : List Entry) (name : List ℕ) (place : ℕ) → place ≡ place_of files name → place < length files → Lacks (Some (contents files)) name → ⊥
not_lacking files name place at within lacks =
    let there = contents_at files name place (sym at) within in cc

-- a look-up of a file is a look-up of its name on the shelf
pub place_told : (files : List Entry) (name : List ℕ) (result : Option ℕ) → MatchOption result (length files ≤ place_of files name) (λ place. (place ≡ place_of files name) × (place < length files)) → MatchOption result (Lacks (Some (contents files)) name × (place_of files name ≡ length files)) (λ place. (place ≡ place_of files name) × (place < length files))
place_told files name None past = (contents_none files name past, omega (arith, past, prefix_len-le-length (λ entry. not (named name entry)) files))
place_told files name (Some place) found = found

-- bytes that are kept are known as they were
append_none : (known : Option (List ℕ)) → append_known known [] ≡ known
append_none None = refl
append_none (Some bytes) = ap (λ all. Some all) (append-nil bytes)

kept_same : (known : Option (List ℕ)) → Keeps known known
kept_same None = tt
kept_same (Some bytes) = refl

-- `open_read`: the reader has the whole file
pub open_gives : (s : ShelfState) (name : List ℕ) (result : Result ℕ Trouble) → IfOk result (λ id. id ≡ length s.readers) → OnOk result (place_of s.files name < length s.files) → IfOk result (λ id. left_of (opened s name result) id ≡ Some (text_of (contents s.files name)))
open_gives s name (Ok id) at there =
    let reader : Reader = record { file = place_of s.files name; at = 0 } in
    let within : id < length (s.readers ++ reader ∷ []) = omega (arith, at, length_push s.readers reader) in
    ap (option_map (rest_of s.files))
    (slice_get-get_or (s.readers ++ reader ∷ []) id reader within
    ∙ ap (λ found. Some found) (get_or_push s.readers reader reader id (sym at)))
    ∙ ap (λ file. Some (text_of file)) (sym (contents_at s.files name (place_of s.files name) refl there))
open_gives s name (Err e) at there = tt

-- `read`: what is given is taken from the front of what is left
pub give_consumes : (s : ShelfState) (id : ℕ) (result : Result ℕ Trouble) (into : List ℕ) (room : ℕ) → id < length s.readers → room ≡ length into → IfOk result (λ count. count ≡ min room (length (rest_of s.files (reader_at s.readers id)))) → IfOk result (λ count. take count into ≡ take count (rest_of s.files (reader_at s.readers id))) → ReadConsumes (left_of s id) (left_of (given s id result) id) result into
give_consumes s id (Ok count) into room within size counted front =
    let reader : Reader = reader_at s.readers id in
    let rest : List ℕ = rest_of s.files reader in
    let next_reader : Reader = record { file = reader.file; at = reader.at + count } in
    let before : left_of s id ≡ Some rest = ap (option_map (rest_of s.files)) (slice_get-get_or s.readers id (record { file = 0; at = 0 }) within) in
    let still : id < length (set s.readers id next_reader) = omega (arith, length-set s.readers id next_reader) in
    let after : left_of (given s id (Ok count)) id ≡ Some (drop count rest) =
    ap (option_map (rest_of s.files))
    (slice_get-get_or (set s.readers id next_reader) id next_reader still
    ∙ ap (λ found. Some found) (get_or-set_same s.readers id next_reader next_reader within))
    ∙ ap (λ bytes. Some bytes) (sym (drop-drop count reader.at (bytes_at s.files reader.file))) in
    let P : Option (List ℕ) → Type 0 = λ old. Consumes old (left_of (given s id (Ok count)) id) (take count into) × (count ≡ 0 → 0 < length into → IsAtEnd (left_of (given s id (Ok count)) id)) in
    let Q : Option (List ℕ) → Type 0 = λ new. Consumes (Some rest) new (take count into) × (count ≡ 0 → 0 < length into → IsAtEnd new) in
    subst P (sym before) (subst Q (sym after) (
      sym (take-append-drop count rest) ∙ ap (λ bytes. bytes ++ drop count rest) (sym front),
      λ none some. at_end count rest none (nil_from_length rest (omega (arith, none, some, size, counted))),
    ))
  where
    at_end : (count : ℕ) (rest : List ℕ) → count ≡ 0 → rest ≡ [] → drop count rest ≡ []
    at_end count rest none empty = ap (λ n. drop n rest) none ∙ empty
give_consumes s id (Err Failed) into room within size counted front = kept_same (left_of s id)
give_consumes s id (Err NoMemory) into room within size counted front = kept_same (left_of s id)

-- `create`: the file is empty, and its id stands for it
pub clear_creates : (s : ShelfState) (name : List ℕ) (result : Result ℕ Trouble) → Creates name result (contents s.files) (contents (emptied s name result).files)
clear_creates s name (Ok id) = (contents-with_empty s.files name, others-with_empty s.files name)
clear_creates s name (Err Failed) = (inl refl, λ other apart. refl)
clear_creates s name (Err NoMemory) = λ other. refl

pub clear_stands : (s : ShelfState) (name : List ℕ) (result : Result ℕ Trouble) → IfOk result (λ id. id ≡ place_of s.files name) → IfOk result (λ id. StandsFor (emptied s name result) id name)
clear_stands s name (Ok id) at =
    (place_in.0 ∙ sym at, omega (arith, at, place_in.1))
  where
    place_in : (place_of (with_empty s.files name) name ≡ place_of s.files name) × (place_of s.files name < length (with_empty s.files name))
    place_in = place_in-with_empty s.files name
clear_stands s name (Err e) at = tt

-- `write`: the file of the id grows by what was taken
pub append_grows : (s : ShelfState) (id : ℕ) (piece : List ℕ) (result : Result ℕ Trouble) (name : List ℕ) → StandsFor s id name → Grows name (taken result piece) (contents s.files) (contents (appended s id piece result).files)
append_grows s id piece (Ok count) name stands = record {
  grown = contents_put s.files name id (bytes_at s.files id ++ take count piece) stands.0 stands.1
      ∙ sym (ap (λ known. append_known known (take count piece)) (contents_at s.files name id stands.0 stands.1));
  others = contents_put_others s.files name id (bytes_at s.files id ++ take count piece) stands.0 stands.1;
}
append_grows s id piece (Err Failed) name stands = record { grown = sym (append_none (contents s.files name)); others = λ other apart. refl }
append_grows s id piece (Err NoMemory) name stands = record { grown = sym (append_none (contents s.files name)); others = λ other apart. refl }

pub clear_id : (s : ShelfState) (name : List ℕ) (result : Result ℕ Trouble) → IfOk result (λ id. id ≡ place_of s.files name) → IfOk result (λ id. id < length (emptied s name result).files)
clear_id s name (Ok id) at = (clear_stands s name (Ok id) at).1
clear_id s name (Err e) at = tt
