-- How the facts of single calls join to those of several.
use Rattle.std.proofs.Common.{◌⊎◌, inl, inr, Result, ◌≡◌, ◌<◌, ◌≤◌, ◌+◌, ◌-◌, ℕ, List, [], ◌++◌, length, take, drop, Option, None, Some, refl, sym, ◌∙◌, ap, arith, append_assoc, append-nil, subst, length-take, length-drop, Ok, Err, length-append}
use Rattle.std.proofs.lemmas.List.{take-take}
use Rattle.std.proofs.Math.Seq.{take-add, take-append-add}
use Rattle.std.specs.Io.KnownBytes.{append_known, Consumes}
use Rattle.sim_io.specs.Contents.{Files, Same, AfterTold, WereTold, Grows, Grew, Lacks, IsText, IsLarge, IsWhole, IsPast, IsPastLimit, IsPastOf, text_of}
use Rattle.sim_io.specs.Cause.{Rose}
use Rattle.std.specs.Io.{StartsWith}
use Rattle.sim_io.specs.Writes.{PieceTaken, TookOf}
use Rattle.sim_io.specs.declared.outside.Trouble.{Trouble}
use Rattle.sim_io.specs.Keeps.{IdsStay, ReadKeeps, WriteKeeps}

-- a text that begins with one byte more than the limit is past the limit
pub longer_than_front : (limit : ℕ) (text bytes : List ℕ) → length bytes ≡ limit + 1 → StartsWith text bytes → limit < length text
longer_than_front limit text bytes count begins = omega (arith, ap length begins, length-take (length bytes) text)

-- bytes that grew twice grew by both
pub grew_on : (old mid new : Option (List ℕ)) (first second : List ℕ) → Grew old mid first → Grew mid new second → Grew old new (first ++ second)
grew_on old mid None first second a b = tt
grew_on old None (Some new) first second a b = absurd b
grew_on None (Some mid) (Some new) first second a b = absurd a
grew_on (Some old) (Some mid) (Some new) first second a b = b ∙ ap (λ bytes. bytes ++ second) a ∙ append_assoc old first second

-- bytes that are left alone grew by none
pub grew_none : (bytes : Option (List ℕ)) → Grew bytes bytes []
grew_none None = tt
grew_none (Some bytes) = sym (append-nil bytes)

-- a count that rose has risen for a look from earlier to later
pub rose_on : (earlier before now later : ℕ) → earlier ≤ before → Rose before now → now ≤ later → Rose earlier later
rose_on earlier before now later a rose b = grind arith

-- what is lacking after calls that read was lacking before them
pub lacks_before : (old mid : Option Files) (name : List ℕ) → AfterTold old mid Same → Lacks mid name → Lacks old name
lacks_before old None name a lacks = absurd lacks
lacks_before None (Some mid) name a lacks = absurd a
lacks_before (Some old) (Some mid) name a lacks = sym (a name) ∙ lacks

-- a whole file, read after calls that leave the files and before others that do
pub text_of_whole : (old mid new : Option Files) (name bytes : List ℕ) → AfterTold old mid Same → AfterTold mid new Same → IsWhole mid name bytes → IsText old new name bytes
text_of_whole old mid None name bytes a b whole = tt
text_of_whole old None (Some new) name bytes a b whole = absurd b
text_of_whole None (Some mid) (Some new) name bytes a b whole = tt
text_of_whole (Some old) (Some mid) (Some new) name bytes a b whole = whole ∙ ap text_of (a name)

-- a file past its limit, read after calls that leave the files and before others that do
pub large_of_past : (old mid new : Option Files) (name : List ℕ) (limit : ℕ) (bytes : List ℕ) → AfterTold old mid Same → AfterTold mid new Same → IsPastLimit mid name limit bytes → IsLarge old new name limit
large_of_past old mid None name limit bytes a b past = tt
large_of_past old None (Some new) name limit bytes a b past = absurd b
large_of_past None (Some mid) (Some new) name limit bytes a b past = tt
large_of_past (Some old) (Some mid) (Some new) name limit bytes a b past =
    let P : Option (List ℕ) → Type 0 = λ file. limit < length (text_of file) in
    subst P (a name) (longer_than_front limit (text_of (mid name)) bytes past.count past.begins)

-- and just one byte past it is gone, in the words of all these calls
pub past_of : (old mid new : Option Files) (name : List ℕ) (limit : ℕ) (left : Option (List ℕ)) → AfterTold old mid Same → AfterTold mid new Same → IsPast mid name limit left → IsPastOf old new name limit left
past_of old mid None name limit left a b past = tt
past_of old None (Some new) name limit left a b past = absurd b
past_of None (Some mid) (Some new) name limit left a b past = tt
past_of (Some old) (Some mid) (Some new) name limit left a b past = past ∙ ap (λ file. Some (drop (limit + 1) (text_of file))) (a name)

-- files that are left alone are as before
pub after_told_same : (files : Option Files) → AfterTold files files Same
after_told_same None = tt
after_told_same (Some files) = λ name. refl

-- files as before, and again as before
pub after_told_on : (old mid new : Option Files) → AfterTold old mid Same → AfterTold mid new Same → AfterTold old new Same
after_told_on old mid None a b = tt
after_told_on old None (Some new) a b = absurd b
after_told_on None (Some mid) (Some new) a b = absurd a
after_told_on (Some old) (Some mid) (Some new) a b = λ name. b name ∙ a name

-- what was told before a call that was told before another
pub were_told_on : (old mid new : Option Files) → WereTold old mid → WereTold mid new → WereTold old new
were_told_on old mid None a b = tt
were_told_on old None (Some new) a b = absurd b
were_told_on None (Some mid) (Some new) a b = absurd a
were_told_on (Some old) (Some mid) (Some new) a b = tt

pub were_told_same : (files : Option Files) → WereTold files files
were_told_same None = tt
were_told_same (Some files) = tt

-- known bytes that grew twice grew by both
pub append_known_on : (known : Option (List ℕ)) (first second : List ℕ) → append_known (append_known known first) second ≡ append_known known (first ++ second)
append_known_on None first second = refl
append_known_on (Some known) first second = ap (λ bytes. Some bytes) (append_assoc known first second)

-- a file that grew twice grew by both
pub grows_on : (name : List ℕ) (first second : List ℕ) (old mid new : Files) → Grows name first old mid → Grows name second mid new → Grows name (first ++ second) old new
grows_on name first second old mid new a b = record {
  grown = b.grown ∙ ap (λ known. append_known known second) a.grown ∙ append_known_on (old name) first second;
  others = λ other apart. b.others other apart ∙ a.others other apart;
}

-- the same where the files may be told
pub file_grew_on : (name : List ℕ) (first second : List ℕ) (old mid new : Option Files) → AfterTold old mid (Grows name first) → AfterTold mid new (Grows name second) → AfterTold old new (Grows name (first ++ second))
file_grew_on name first second old mid None a b = tt
file_grew_on name first second old None (Some new) a b = absurd b
file_grew_on name first second None (Some mid) (Some new) a b = absurd a
file_grew_on name first second (Some old) (Some mid) (Some new) a b = grows_on name first second old mid new a b

-- ids that stay, and stay again
pub ids_stay_on : {S : Type 0} (Reading : S → ℕ → Type 0) (Created : S → ℕ → Type 0) (StandsFor : S → ℕ → List ℕ → Type 0) (old mid new : S) → IdsStay Reading Created StandsFor old mid → IdsStay Reading Created StandsFor mid new → IdsStay Reading Created StandsFor old new
ids_stay_on Reading Created StandsFor old mid new a b = record {
  reading = λ id h. b.reading id (a.reading id h);
  created = λ id h. b.created id (a.created id h);
  stands = λ id name h. b.stands id name (a.stands id name h);
}

-- two calls that read leave alone what each leaves alone
pub read_keeps_on : {S : Type 0} (files_of : S → Option Files) (writes_of : S → ℕ) (Reading : S → ℕ → Type 0) (Created : S → ℕ → Type 0) (StandsFor : S → ℕ → List ℕ → Type 0) (old mid new : S) → ReadKeeps files_of writes_of Reading Created StandsFor old mid → ReadKeeps files_of writes_of Reading Created StandsFor mid new → ReadKeeps files_of writes_of Reading Created StandsFor old new
read_keeps_on files_of writes_of Reading Created StandsFor old mid new a b = record {
  files = after_told_on (files_of old) (files_of mid) (files_of new) a.files b.files;
  writes = b.writes ∙ a.writes;
  ids = ids_stay_on Reading Created StandsFor old mid new a.ids b.ids;
}

-- two calls that write leave alone what each leaves alone
pub write_keeps_on : {S : Type 0} (files_of : S → Option Files) (reads_of : S → ℕ) (Reading : S → ℕ → Type 0) (Created : S → ℕ → Type 0) (StandsFor : S → ℕ → List ℕ → Type 0) (old mid new : S) → WriteKeeps files_of reads_of Reading Created StandsFor old mid → WriteKeeps files_of reads_of Reading Created StandsFor mid new → WriteKeeps files_of reads_of Reading Created StandsFor old new
write_keeps_on files_of reads_of Reading Created StandsFor old mid new a b = record {
  told = were_told_on (files_of old) (files_of mid) (files_of new) a.told b.told;
  reads = b.reads ∙ a.reads;
  ids = ids_stay_on Reading Created StandsFor old mid new a.ids b.ids;
}

-- how far into a piece a write of its rest goes
pub piece_within : (piece : List ℕ) (done count : ℕ) → done ≤ length piece → count ≤ length (take (length piece - done) (drop done piece)) → done + count ≤ length piece
piece_within piece done count within bound = omega (arith, length-take (length piece - done) (drop done piece), length-drop done piece)

-- what was taken before a write of the rest, and what this took, is what was taken after it
pub piece_on : (piece : List ℕ) (done count : ℕ) → done + count ≤ length piece → take done piece ++ take count (take (length piece - done) (drop done piece)) ≡ take (done + count) piece
piece_on piece done count within =
    let inside : count ≤ length piece - done = omega arith in
    ap (λ rest. take done piece ++ rest) (take-take count (length piece - done) (drop done piece) inside) ∙ sym (take-add done count piece)

-- a sink after one more write of the rest of a piece
pub piece_grew_on : (old mid new : Option (List ℕ)) (piece : List ℕ) (done count : ℕ) → done + count ≤ length piece → Grew old mid (take done piece) → Grew mid new (take count (take (length piece - done) (drop done piece))) → Grew old new (take (done + count) piece)
piece_grew_on old mid new piece done count within a b =
    let P : List ℕ → Type 0 = λ bytes. Grew old new bytes in
    subst P (piece_on piece done count within) (grew_on old mid new (take done piece) (take count (take (length piece - done) (drop done piece))) a b)

-- a file after one more write of the rest of a piece
pub piece_file_on : (name : List ℕ) (old mid new : Option Files) (piece : List ℕ) (done count : ℕ) → done + count ≤ length piece → AfterTold old mid (Grows name (take done piece)) → AfterTold mid new (Grows name (take count (take (length piece - done) (drop done piece)))) → AfterTold old new (Grows name (take (done + count) piece))
piece_file_on name old mid new piece done count within a b =
    let P : List ℕ → Type 0 = λ bytes. AfterTold old new (Grows name bytes) in
    subst P (piece_on piece done count within) (file_grew_on name (take done piece) (take count (take (length piece - done) (drop done piece))) old mid new a b)

-- a file after a call that took nothing more
pub file_grew_none_on : (name bytes : List ℕ) (old mid new : Option Files) → AfterTold old mid (Grows name bytes) → AfterTold mid new (Grows name []) → AfterTold old new (Grows name bytes)
file_grew_none_on name bytes old mid new a b =
    let P : List ℕ → Type 0 = λ more. AfterTold old new (Grows name more) in
    subst P (append-nil bytes) (file_grew_on name bytes [] old mid new a b)

-- a shelf that was not called keeps all
pub ids_stay_same : {S : Type 0} (Reading : S → ℕ → Type 0) (Created : S → ℕ → Type 0) (StandsFor : S → ℕ → List ℕ → Type 0) (shelf : S) → IdsStay Reading Created StandsFor shelf shelf
ids_stay_same Reading Created StandsFor shelf = record { reading = λ id h. h; created = λ id h. h; stands = λ id name h. h }

pub read_keeps_same : {S : Type 0} (files_of : S → Option Files) (writes_of : S → ℕ) (Reading : S → ℕ → Type 0) (Created : S → ℕ → Type 0) (StandsFor : S → ℕ → List ℕ → Type 0) (shelf : S) → ReadKeeps files_of writes_of Reading Created StandsFor shelf shelf
read_keeps_same files_of writes_of Reading Created StandsFor shelf = record {
  files = after_told_same (files_of shelf);
  writes = refl;
  ids = ids_stay_same Reading Created StandsFor shelf;
}

pub write_keeps_same : {S : Type 0} (files_of : S → Option Files) (reads_of : S → ℕ) (Reading : S → ℕ → Type 0) (Created : S → ℕ → Type 0) (StandsFor : S → ℕ → List ℕ → Type 0) (shelf : S) → WriteKeeps files_of reads_of Reading Created StandsFor shelf shelf
write_keeps_same files_of reads_of Reading Created StandsFor shelf = record {
  told = were_told_same (files_of shelf);
  reads = refl;
  ids = ids_stay_same Reading Created StandsFor shelf;
}

-- why a later file could not be read, said from before the calls that read earlier ones
pub read_failed_on : (old mid : Option Files) (name : List ℕ) (earlier before now later : ℕ) → AfterTold old mid Same → earlier ≤ before → now ≤ later → Rose before now ⊎ Lacks mid name → Rose earlier later ⊎ Lacks old name
read_failed_on old mid name earlier before now later same a b (inl rose) = inl (rose_on earlier before now later a rose b)
read_failed_on old mid name earlier before now later same a b (inr lacks) = inr (lacks_before old mid name same lacks)

-- what a sink took of a piece after other bytes
pub took_on : (old mid new : Option (List ℕ)) (first piece : List ℕ) (result : Result Unit Trouble) → Grew old mid first → TookOf mid new piece result → (bytes : List ℕ) × Grew old new (first ++ bytes) × PieceTaken piece bytes result
took_on old mid new first piece result a (bytes, grew, taken) = (bytes, grew_on old mid new first bytes a grew, taken)

-- bytes that were consumed twice
pub consumes_on : (old mid new : Option (List ℕ)) (first second : List ℕ) → Consumes old mid first → Consumes mid new second → Consumes old new (first ++ second)
consumes_on None mid new first second a b = tt
consumes_on (Some old) None new first second a b = absurd a
consumes_on (Some old) (Some mid) None first second a b = absurd b
consumes_on (Some old) (Some mid) (Some new) first second a b = a ∙ ap (λ rest. first ++ rest) b ∙ sym (append_assoc first second new)

-- two pieces are one after the other, or a proper prefix of both
pub pieces_on : (first second a b : List ℕ) (result : Result Unit Trouble) → a ≡ first → PieceTaken second b result → PieceTaken (first ++ second) (a ++ b) result
pieces_on first second a b (Ok done) whole more = ap (λ bytes. bytes ++ b) whole ∙ ap (λ bytes. first ++ bytes) more
pieces_on first second a b (Err e) whole (count, short, more) = (
  length first + count,
  omega (arith, short, length-append first second),
  ap (λ bytes. bytes ++ b) whole ∙ ap (λ bytes. first ++ bytes) more ∙ sym (take-append-add first second count),
)

pub took_both : (old mid new : Option (List ℕ)) (first second : List ℕ) (done : Unit) (result : Result Unit Trouble) → TookOf old mid first (Ok done) → TookOf mid new second result → TookOf old new (first ++ second) result
took_both old mid new first second done result (a, grew, whole) (b, grew_more, more) =
    (a ++ b, grew_on old mid new a b grew grew_more, pieces_on first second a b result whole more)
