-- What a moved reading place changes: what is left of its file, and nothing else.
use Rattle.std.proofs.Common.{◌≡◌, ◌<◌, ◌≤◌, ◌+◌, ℕ, zero, suc, Bool, true, false, cond, min, List, [], ◌∷◌, ◌++◌, length, drop, take, Option, None, Some, refl, sym, ◌∙◌, ap, subst, arith, nat_lt}
use Rattle.std.specs.Prelude.{IfSome, not, find, position}
use Rattle.std.specs.Option.{option_map}
use Rattle.std.specs.Io.KnownBytes.{Consumes, IsAtEnd}
use Rattle.std.proofs.lemmas.List.{length-set, drop-drop, take-append-drop, nil_from_length}
use Rattle.std.proofs.lemmas.List.Sums.{prefix_len-le-length}
use Rattle.std.proofs.lemmas.Bool.{ltb-false}
use Rattle.sim_io.specs.Contents.{AfterTold, Same, text_of}
use Rattle.sim_io.specs.Keeps.{ReadKeeps}
use Rattle.sim_io.specs.Sound.{FileState, SoundState, named, texts, place_of, file_at, put, begun, given, rest_of, told, told_until, IsReading, IsCreated, StandsFor, writes_of}

-- the place of a name is within the files, or behind them all
pub place_within : (files : List FileState) (name : List ℕ) → place_of files name ≤ length files
place_within files name = prefix_len-le-length (λ file. not (named name file)) files

pub place_past : (files : List FileState) (name : List ℕ) → None ≡ position (named name) files → length files ≡ place_of files name
place_past files name none = by_cases (nat_lt (place_of files name) (length files)) refl none
  where
    by_cases : (b : Bool) → nat_lt (place_of files name) (length files) ≡ b → None ≡ cond b (Some (place_of files name)) None → length files ≡ place_of files name
    by_cases true is none = absurd cc
    by_cases false is none = omega (arith, ltb-false (place_of files name) (length files) is, place_within files name)

found_same : (b : Bool) (name bytes : List ℕ) (at other : ℕ) (found : Option FileState) → option_map (λ (f : FileState). f.bytes) (cond b (Some (record { name = name; bytes = bytes; at = at })) found) ≡ option_map (λ (f : FileState). f.bytes) (cond b (Some (record { name = name; bytes = bytes; at = other })) found)
found_same true name bytes at other found = refl
found_same false name bytes at other found = refl

found_after : (b : Bool) (file : FileState) (one two : Option FileState) → option_map (λ (f : FileState). f.bytes) one ≡ option_map (λ (f : FileState). f.bytes) two → option_map (λ (f : FileState). f.bytes) (cond b (Some file) one) ≡ option_map (λ (f : FileState). f.bytes) (cond b (Some file) two)
found_after true file one two same = refl
found_after false file one two same = same

pub texts_moved : (files : List FileState) (place at : ℕ) (name : List ℕ) → texts (put files place (record (file_at files place) { at = at })) name ≡ texts files name
texts_moved [] place at name = refl
texts_moved (f ∷ fs) zero at name = found_same (named name f) f.name f.bytes at f.at (find (named name) fs)
texts_moved (f ∷ fs) (suc place) at name = found_after (named name f) f (find (named name) (put fs place (record (file_at fs place) { at = at }))) (find (named name) fs) (texts_moved fs place at name)

-- what a call that reads leaves alone
told_same : (created : Bool) (files : List FileState) (place at : ℕ) → AfterTold (told_until created (texts files)) (told_until created (texts (put files place (record (file_at files place) { at = at })))) Same
told_same true files place at = tt
told_same false files place at = λ name. texts_moved files place at name

pub read_keeps : (s : SoundState) (place at : ℕ) → ReadKeeps told writes_of IsReading IsCreated StandsFor s (record s { files = put s.files place (record (file_at s.files place) { at = at }) })
read_keeps s place at = record {
  files = told_same s.created s.files place at;
  writes = refl;
  ids = record {
    reading = λ id within. omega (arith, within, length-set s.files place (record (file_at s.files place) { at = at }));
    created = λ id is. (is.0, is.1 ∙ sym (length-set s.files place (record (file_at s.files place) { at = at })));
    stands = λ id name stands. stands;
  };
}

-- the file of a name that is begun anew has its whole text to give, and one that is missing none
begun_text : (f : FileState) (fs : List FileState) (name : List ℕ) (b : Bool) (place : ℕ) (found : Option FileState) → rest_of (file_at (put fs place (begun (file_at fs place))) place) ≡ text_of (option_map (λ (g : FileState). g.bytes) found) → rest_of (file_at (put (f ∷ fs) (cond (not b) (1 + place) 0) (begun (file_at (f ∷ fs) (cond (not b) (1 + place) 0)))) (cond (not b) (1 + place) 0)) ≡ text_of (option_map (λ (g : FileState). g.bytes) (cond b (Some f) found))
begun_text f fs name true place found later = refl
begun_text f fs name false place found later =
    let P : ℕ → Type 0 = λ k. rest_of (file_at (put (f ∷ fs) k (begun (file_at (f ∷ fs) k))) k) ≡ text_of (option_map (λ (g : FileState). g.bytes) found) in
    let next : suc place ≡ 1 + place = omega arith in
    subst P next later

pub opened_text : (files : List FileState) (name : List ℕ) → rest_of (file_at (put files (place_of files name) (begun (file_at files (place_of files name)))) (place_of files name)) ≡ text_of (texts files name)
opened_text [] name = refl
opened_text (f ∷ fs) name = begun_text f fs name (named name f) (place_of fs name) (find (named name) fs) (opened_text fs name)

pub opened_left : (files : List FileState) (name : List ℕ) (id : ℕ) → place_of files name ≡ id → Some (rest_of (file_at (put files id (begun (file_at files id))) (place_of files name))) ≡ Some (text_of (texts files name))
opened_left files name id at =
    let P : ℕ → Type 0 = λ k. Some (rest_of (file_at (put files k (begun (file_at files k))) (place_of files name))) ≡ Some (text_of (texts files name)) in
    subst P at (ap (λ bytes. Some bytes) (opened_text files name))

pub opened_told : (created : Bool) (files : List FileState) (name : List ℕ) (id : ℕ) → place_of files name ≡ id → IfSome (told_until created (texts files)) (λ told. Some (rest_of (file_at (put files id (begun (file_at files id))) id)) ≡ Some (text_of (told name)))
opened_told true files name id at = tt
opened_told false files name id at =
    let P : ℕ → Type 0 = λ k. Some (rest_of (file_at (put files k (begun (file_at files k))) k)) ≡ Some (text_of (texts files name)) in
    subst P at (ap (λ bytes. Some bytes) (opened_text files name))

-- what is given is taken from the front of what was left
abbrev empty_front : ℕ → List ℕ
empty_front n = drop n []

drop_none : (n : ℕ) → empty_front n ≡ []
drop_none zero = refl
drop_none (suc n) = refl

pub given_rest : (files : List FileState) (place count : ℕ) → rest_of (file_at (put files place (given (file_at files place) count)) place) ≡ drop count (rest_of (file_at files place))
given_rest [] place count = sym (drop_none count)
given_rest (f ∷ fs) zero count = sym (drop-drop count f.at f.bytes)
given_rest (f ∷ fs) (suc place) count = given_rest fs place count

pub give_consumes : (rest : List ℕ) (new : List ℕ) (count : ℕ) (into : List ℕ) (room : ℕ) → room ≡ length into → count ≡ min room (length rest) → take count into ≡ take count rest → new ≡ drop count rest → Consumes (Some rest) (Some new) (take count into) × (count ≡ 0 → 0 < length into → IsAtEnd (Some new))
give_consumes rest new count into room size counted front left = (
  sym (take-append-drop count rest) ∙ ap (λ bytes. bytes ++ drop count rest) (sym front) ∙ ap (λ bytes. take count into ++ bytes) (sym left),
  λ none some. left ∙ at_end count rest none (nil_from_length rest (omega (arith, none, some, size, counted))),
)
  where
    at_end : (count : ℕ) (rest : List ℕ) → count ≡ 0 → rest ≡ [] → drop count rest ≡ []
    at_end count rest none empty = ap (λ n. drop n rest) none ∙ empty
