-- Which file a name finds after a change of the list of files.
use Rattle.std.proofs.Common.{◌≡◌, ◌≢◌, ◌<◌, ◌≤◌, ◌+◌, ℕ, Bool, true, false, cond, List, [], ◌∷◌, ◌++◌, length, map, get_or, set, Option, None, Some, refl, sym, ◌∙◌, ap, subst, arith, length-append, nat_lt}
use Rattle.std.specs.Prelude.{bytes_eq, find, not, position, slice_get, string_bytes, String, Vec, eqb, MatchOption}
use Rattle.std.specs.List.{prefix_len}
use Rattle.std.specs.Option.{option_map, option_or}
use Rattle.std.proofs.lemmas.List.{length-map, length-set, map-set, get_or-map}
use Rattle.std.proofs.Math.Seq.{map-set_same}
use Rattle.std.proofs.lemmas.List.Sums.{passes_at_first, prefix_len-le-length}
use Rattle.std.proofs.lemmas.List.Folds.{find_at, find-set, find_past, find-append, position_or_len-set, position_or_len_push}
use Rattle.std.proofs.lemmas.Option.{slice_get-get_or, slice_get_past}
use Rattle.std.proofs.lemmas.Slice.Eq.{bytes_eq-Decides}
use Rattle.std.proofs.lemmas.Bool.{ltb-true, ltb-false, eqb-true}
use Rattle.sim_io.specs.Contents.{Others}
use Rattle.sim_io.specs.Memory.{Entry, entries, named, contents, place_of, entry_at, bytes_at, put, with_empty}

-- the entry that stands for no file
abbrev nothing : Entry
nothing = record { name = []; bytes = [] }

not_true : (b : Bool) → (b ≡ true → ⊥) → b ≡ false
not_true true refuted = absurd (refuted refl)
not_true false refuted = refl

-- an entry has its own name, and no other
named_itself : (name bytes : List ℕ) → named name (record { name = name; bytes = bytes }) ≡ true
named_itself name bytes = (bytes_eq-Decides name name).1 refl

named_only : (name other : List ℕ) (entry : Entry) → named name entry ≡ true → other ≢ name → named other entry ≡ false
named_only name other entry is apart =
    not_true (named other entry) (λ h. apart (sym ((bytes_eq-Decides entry.name other).0 h) ∙ (bytes_eq-Decides entry.name name).0 is))

-- the file at the place of its name
pub named_at : (files : List Entry) (name : List ℕ) (place : ℕ) → place_of files name ≡ place → place < length files → named name (entry_at files place) ≡ true
named_at files name place at within =
    let P : ℕ → Type 0 = λ k. named name (entry_at files k) ≡ true in
    let here : place_of files name < length files = rw at within in
    subst P at (passes_at_first (named name) files nothing here)

pub contents_at : (files : List Entry) (name : List ℕ) (place : ℕ) → place_of files name ≡ place → place < length files → contents files name ≡ Some (bytes_at files place)
contents_at files name place at within =
    ap (option_map (λ entry. entry.bytes)) (find_at (named name) files ∙ ap (slice_get files) at ∙ slice_get-get_or files place nothing within)

find_none : (files : List Entry) (name : List ℕ) → length files ≤ place_of files name → find (named name) files ≡ None
find_none files name past = find_at (named name) files ∙ slice_get_past files (place_of files name) past

pub contents_none : (files : List Entry) (name : List ℕ) → length files ≤ place_of files name → contents files name ≡ None
contents_none files name past = ap (option_map (λ entry. entry.bytes)) (find_none files name past)

-- other bytes at the place of a name
pub contents_put : (files : List Entry) (name : List ℕ) (place : ℕ) (bytes : List ℕ) → place_of files name ≡ place → place < length files → contents (put files place bytes) name ≡ Some bytes
contents_put files name place bytes at within =
    ap (option_map (λ entry. entry.bytes))
    (find-set (named name) files place (record { name = (entry_at files place).name; bytes = bytes }) (sym at) within (named_at files name place at within))

pub contents_put_others : (files : List Entry) (name : List ℕ) (place : ℕ) (bytes : List ℕ) → place_of files name ≡ place → place < length files → Others name (contents files) (contents (put files place bytes))
contents_put_others files name place bytes at within other apart =
    let y : Entry = record { name = (entry_at files place).name; bytes = bytes } in
    let found : named name (entry_at files place) ≡ true = named_at files name place at within in
    ap (option_map (λ entry. entry.bytes))
    (find_past (named other) files place y nothing (named_only name other (entry_at files place) found apart) (named_only name other y found apart))

pub place_of-put : (files : List Entry) (place : ℕ) (bytes name : List ℕ) → place_of (put files place bytes) name ≡ place_of files name
place_of-put files place bytes name =
    position_or_len-set (named name) files place (record { name = (entry_at files place).name; bytes = bytes }) nothing refl

pub length-put : (files : List Entry) (place : ℕ) (bytes : List ℕ) → length (put files place bytes) ≡ length files
length-put files place bytes = length-set files place (record { name = (entry_at files place).name; bytes = bytes })

-- one more file
or_none : {X : Type 0} (o : Option X) → option_or o None ≡ o
or_none None = refl
or_none (Some x) = refl

pub contents_push : (files : List Entry) (name bytes : List ℕ) → length files ≤ place_of files name → contents (files ++ (record { name = name; bytes = bytes }) ∷ []) name ≡ Some bytes
contents_push files name bytes past =
    let e : Entry = record { name = name; bytes = bytes } in
    ap (option_map (λ entry. entry.bytes))
    (find-append (named name) files (e ∷ [])
    ∙ ap (λ found. option_or found (find (named name) (e ∷ []))) (find_none files name past)
    ∙ ap (λ b. cond b (Some e) None) (named_itself name bytes))

pub contents_push_others : (files : List Entry) (name bytes : List ℕ) → Others name (contents files) (contents (files ++ (record { name = name; bytes = bytes }) ∷ []))
contents_push_others files name bytes other apart =
    let e : Entry = record { name = name; bytes = bytes } in
    ap (option_map (λ entry. entry.bytes))
    (find-append (named other) files (e ∷ [])
    ∙ ap (λ b. option_or (find (named other) files) (cond b (Some e) None)) (named_only name other e (named_itself name bytes) apart)
    ∙ or_none (find (named other) files))

place_of-push : (files : List Entry) (e : Entry) (name : List ℕ) → place_of files name < length files → place_of (files ++ e ∷ []) name ≡ place_of files name
place_of-push files e name within =
    position_or_len_push (named name) files e
    ∙ ap (λ b. cond b (length files + cond (named name e) 0 1) (place_of files name))
    (not_true (eqb (place_of files name) (length files)) (λ h. absurd (omega (arith, eqb-true (place_of files name) (length files) h))))

-- an empty file of this name
-- it is found or pushed: either way it is as it should be
with_empty_elim : (P : List Entry → Type 0) (files : List Entry) (name : List ℕ) → (place_of files name < length files → P (put files (place_of files name) [])) → (length files ≤ place_of files name → P (files ++ (record { name = name; bytes = [] }) ∷ [])) → P (with_empty files name)
with_empty_elim P files name found pushed = by_cases (nat_lt (place_of files name) (length files)) refl
  where
    by_cases : (b : Bool) → nat_lt (place_of files name) (length files) ≡ b → P (cond b (put files (place_of files name) []) (files ++ (record { name = name; bytes = [] }) ∷ []))
    by_cases true is = found (ltb-true (place_of files name) (length files) is)
    by_cases false is = pushed (ltb-false (place_of files name) (length files) is)

pub contents-with_empty : (files : List Entry) (name : List ℕ) → contents (with_empty files name) name ≡ Some []
contents-with_empty files name =
    with_empty_elim (λ new. contents new name ≡ Some []) files name
    (λ within. contents_put files name (place_of files name) [] refl within)
    (λ past. contents_push files name [] past)

pub others-with_empty : (files : List Entry) (name : List ℕ) → Others name (contents files) (contents (with_empty files name))
others-with_empty files name =
    with_empty_elim (λ new. Others name (contents files) (contents new)) files name
    (λ within. contents_put_others files name (place_of files name) [] refl within)
    (λ past. contents_push_others files name [])

pub length-with_empty : (files : List Entry) (name : List ℕ) → length files ≤ length (with_empty files name)
length-with_empty files name =
    with_empty_elim (λ new. length files ≤ length new) files name
    (λ within. omega (arith, length-put files (place_of files name) []))
    (λ past. omega (arith, length-append files ((record { name = name; bytes = [] }) ∷ [])))

-- a name that is found keeps its place
pub place_of-with_empty : (files : List Entry) (name other : List ℕ) → place_of files other < length files → place_of (with_empty files name) other ≡ place_of files other
place_of-with_empty files name other there =
    with_empty_elim (λ new. place_of new other ≡ place_of files other) files name
    (λ within. place_of-put files (place_of files name) [] other)
    (λ past. place_of-push files (record { name = name; bytes = [] }) other there)

-- the lists of the code, as entries
prefix_len-map : {X Y : Type 0} (f : X → Y) (p : Y → Bool) (xs : List X) → prefix_len p (map f xs) ≡ prefix_len (λ x. p (f x)) xs
prefix_len-map f p [] = refl
prefix_len-map f p (x ∷ xs) = ap (λ n. cond (p (f x)) (1 + n) 0) (prefix_len-map f p xs)

pub position-entries : {Z : Type 0} (files : List (String Z × Vec ℕ Z)) (name : List ℕ) → position (λ file. bytes_eq (string_bytes file.0) name) files ≡ position (named name) (entries files)
position-entries {Z} files name =
    let f : (String Z × Vec ℕ Z) → Entry = λ file. record { name = string_bytes file.0; bytes = file.1.items } in
    let place = prefix_len-map f (λ entry. not (named name entry)) files in
    let size = length-map files f in
    sym (ap (λ n. cond (nat_lt n (length (map f files))) (Some n) None) place
    ∙ ap (λ n. cond (nat_lt (prefix_len (λ file. not (bytes_eq (string_bytes file.0) name)) files) n) (Some (prefix_len (λ file. not (bytes_eq (string_bytes file.0) name)) files)) None) size)

-- a look-up of a place: it is there, or past the end
pub found_place : (files : List Entry) (name : List ℕ) (result : Option ℕ) → result ≡ position (named name) files → MatchOption result (length files ≤ place_of files name) (λ place. (place ≡ place_of files name) × (place < length files))
found_place files name result is = by_cases (nat_lt (place_of files name) (length files)) refl is
  where
    by_cases : (b : Bool) → nat_lt (place_of files name) (length files) ≡ b → result ≡ cond b (Some (place_of files name)) None → MatchOption result (length files ≤ place_of files name) (λ place. (place ≡ place_of files name) × (place < length files))
    by_cases true there at = rw at (refl, ltb-true (place_of files name) (length files) there)
    by_cases false past at = rw at (ltb-false (place_of files name) (length files) past)

-- other bytes in the pair at a place
pub entries-put : {Z : Type 0} (files : List (String Z × Vec ℕ Z)) (place : ℕ) (file : String Z × Vec ℕ Z) (new : Vec ℕ Z) → place < length files → file ≡ get_or files place file → entries (set files place (file.0, new)) ≡ put (entries files) place new.items
entries-put {Z} files place file new within value =
    let f : (String Z × Vec ℕ Z) → Entry = λ pair. record { name = string_bytes pair.0; bytes = pair.1.items } in
    let there : entry_at (entries files) place ≡ f file = get_or-map f files place file nothing within ∙ ap f (sym value) in
    map-set f files place (file.0, new)
    ∙ ap (λ name. set (entries files) place (record { name = name; bytes = new.items })) (ap (λ entry. entry.name) (sym there))

pub bytes_at-entries : {Z : Type 0} (files : List (String Z × Vec ℕ Z)) (place : ℕ) (file : String Z × Vec ℕ Z) → place < length files → file ≡ get_or files place file → bytes_at (entries files) place ≡ file.1.items
bytes_at-entries {Z} files place file within value =
    let f : (String Z × Vec ℕ Z) → Entry = λ pair. record { name = string_bytes pair.0; bytes = pair.1.items } in
    ap (λ entry. entry.bytes) (get_or-map f files place file nothing within ∙ ap f (sym value))

-- the same bytes in the pair at a place
pub entries-put_same : {Z : Type 0} (files : List (String Z × Vec ℕ Z)) (place : ℕ) (file : String Z × Vec ℕ Z) (new : Vec ℕ Z) → file ≡ get_or files place file → new.items ≡ file.1.items → entries (set files place (file.0, new)) ≡ entries files
entries-put_same {Z} files place file new value same =
    let f : (String Z × Vec ℕ Z) → Entry = λ pair. record { name = string_bytes pair.0; bytes = pair.1.items } in
    map-set_same f files place (file.0, new) file
    (ap (λ items. record { name = string_bytes file.0; bytes = items }) same ∙ ap f value)

pub length-entries : {Z : Type 0} (files : List (String Z × Vec ℕ Z)) → length (entries files) ≡ length files
length-entries {Z} files =
    let f : (String Z × Vec ℕ Z) → Entry = λ pair. record { name = string_bytes pair.0; bytes = pair.1.items } in
    length-map files f

-- an empty file of a name stands at the place of its name
pub place_in-with_empty : (files : List Entry) (name : List ℕ) → (place_of (with_empty files name) name ≡ place_of files name) × (place_of files name < length (with_empty files name))
place_in-with_empty files name =
    with_empty_elim (λ new. (place_of new name ≡ place_of files name) × (place_of files name < length new)) files name
    (λ within. (place_of-put files (place_of files name) [] name, omega (arith, within, length-put files (place_of files name) [])))
    (λ past. (last past, omega (arith, at_end past, length-append files ((record { name = name; bytes = [] }) ∷ []))))
  where
    at_end : length files ≤ place_of files name → place_of files name ≡ length files
    at_end past = omega (arith, past, prefix_len-le-length (λ entry. not (named name entry)) files)

    at_last : (b : Bool) → place_of files name ≡ length files → cond b (length files + cond (named name (record { name = name; bytes = [] })) 0 1) (place_of files name) ≡ place_of files name
    at_last true at = ap (λ own. length files + cond own 0 1) (named_itself name []) ∙ omega (arith, at)
    at_last false at = refl

    last : length files ≤ place_of files name → place_of (files ++ (record { name = name; bytes = [] }) ∷ []) name ≡ place_of files name
    last past = position_or_len_push (named name) files (record { name = name; bytes = [] }) ∙ at_last (eqb (place_of files name) (length files)) (at_end past)
