-- What a sink and a shelf in memory hold, and what each call makes of it.
use Rattle.std.specs.Prelude.{◌≡◌, ◌<◌, ◌+◌, ◌-◌, ◌⊎◌, ℕ, Bool, min, List, [], ◌∷◌, ◌++◌, length, map, take, drop, find, nat_eq, nat_lt, if◌then◌else◌, Option, None, Some, Result, Ok, Err, bytes_eq, slice_get, slice_set, Contains, String, Vec, string_bytes}
use Rattle.std.specs.List.{position_or_len, slice_index_or, list_any}
use Rattle.std.specs.Option.{option_map}
use Rattle.sim_io.specs.Contents.{Files}
use Rattle.sim_io.specs.Cause.{next}
use Rattle.sim_io.specs.declared.memory_shelf.Reader.{Reader}
use Rattle.sim_io.specs.declared.outside.Trouble.{Trouble}
use Rattle.sim_io.specs.declared.outside.Trouble.TheVariants.{Failed, NoMemory}

-- a sink in memory: what it took, what room is left if that is bounded, the numbers of the calls that
-- are to fail, the number of the next call, and how many failed
pub record SinkState : Type 0 where
  pub holds : List ℕ
  pub room : Option ℕ
  pub failing : List ℕ
  pub calls : ℕ
  pub faults : ℕ

-- how much of so many bytes there is room for
abbrev pub fitting : Option ℕ → ℕ → ℕ
fitting None count = count
fitting (Some left) count = min left count

-- the room that is left after so many bytes
abbrev pub room_after : Option ℕ → ℕ → Option ℕ
room_after room count = option_map (λ left. left - count) room

-- a write fails at a number that is listed, and where no room is left
abbrev pub WriteFails : SinkState → Type 0
WriteFails s = Contains s.failing s.calls ⊎ (s.room ≡ Some 0)

-- the sink after a write
abbrev pub written : SinkState → List ℕ → Result ℕ Trouble → SinkState
written s piece (Ok count) = record s { holds = s.holds ++ take count piece; room = room_after s.room count; calls = next s.calls }
written s piece (Err Failed) = record s { calls = next s.calls; faults = next s.faults }
written s piece (Err NoMemory) = s

-- a file of a shelf
pub record Entry : Type 0 where
  pub name : List ℕ
  pub bytes : List ℕ

-- the files of a list of names and bytes
abbrev pub entries : {Z : Type 0} → List (String Z × Vec ℕ Z) → List Entry
entries files = map (λ file. record { name = string_bytes file.0; bytes = file.1.items }) files

-- the file has this name
abbrev pub named : List ℕ → Entry → Bool
named name entry = bytes_eq entry.name name

-- the files by their names: of two of one name the first counts
abbrev pub contents : List Entry → Files
contents files name = option_map (λ entry. entry.bytes) (find (named name) files)

-- the place of the first file of a name, or the number of files where there is none
abbrev pub place_of : List Entry → List ℕ → ℕ
place_of files name = position_or_len (named name) files

-- the file at a place, and its bytes: none where there is no such place
abbrev pub entry_at : List Entry → ℕ → Entry
entry_at files place = slice_index_or files place (record { name = []; bytes = [] })

abbrev pub bytes_at : List Entry → ℕ → List ℕ
bytes_at files place = (entry_at files place).bytes

-- the files with other bytes at a place
abbrev pub put : List Entry → ℕ → List ℕ → List Entry
put files place bytes = slice_set files place (record { name = (entry_at files place).name; bytes = bytes })

-- the files with an empty file of this name
abbrev pub with_empty : List Entry → List ℕ → List Entry
with_empty files name =
    if nat_lt (place_of files name) (length files) then put files (place_of files name) [] else files ++ (record { name = name; bytes = [] }) ∷ []

-- the reader of an id
abbrev pub reader_at : List Reader → ℕ → Reader
reader_at readers id = slice_index_or readers id (record { file = 0; at = 0 })

-- what a reader has still to give
abbrev pub rest_of : List Entry → Reader → List ℕ
rest_of files reader = drop reader.at (bytes_at files reader.file)

-- a shelf in memory: its files, its readers, the numbers of the calls that are to fail, the number of
-- the next call, and how many calls that read and that write failed
pub record ShelfState : Type 0 where
  pub files : List Entry
  pub readers : List Reader
  pub failing : List ℕ
  pub calls : ℕ
  pub reads : ℕ
  pub writes : ℕ

-- the words of a shelf
abbrev pub told : ShelfState → Option Files
told s = Some (contents s.files)

abbrev pub IsReading : ShelfState → ℕ → Type 0
IsReading s id = id < length s.readers

abbrev pub left_of : ShelfState → ℕ → Option (List ℕ)
left_of s id = option_map (rest_of s.files) (slice_get s.readers id)

abbrev pub IsCreated : ShelfState → ℕ → Type 0
IsCreated s id = id < length s.files

abbrev pub StandsFor : ShelfState → ℕ → List ℕ → Type 0
StandsFor s id name = (place_of s.files name ≡ id) × (id < length s.files)

abbrev pub reads_of : ShelfState → ℕ
reads_of s = s.reads

abbrev pub writes_of : ShelfState → ℕ
writes_of s = s.writes

-- the number of the next call is listed
abbrev pub IsListed : ShelfState → Type 0
IsListed s = Contains s.failing s.calls

abbrev pub is_listed : ShelfState → Bool
is_listed s = list_any (λ number. nat_eq number s.calls) s.failing

-- the shelf after each call; after out of memory it is as before
abbrev pub opened : ShelfState → List ℕ → Result ℕ Trouble → ShelfState
opened s name (Ok id) = record s { readers = s.readers ++ (record { file = place_of s.files name; at = 0 }) ∷ []; calls = next s.calls }
opened s name (Err Failed) = record s { calls = next s.calls; reads = if is_listed s then next s.reads else s.reads }
opened s name (Err NoMemory) = s

abbrev pub moved : List Reader → ℕ → ℕ → List Reader
moved readers id count =
    slice_set readers id (record { file = (reader_at readers id).file; at = (reader_at readers id).at + count })

abbrev pub given : ShelfState → ℕ → Result ℕ Trouble → ShelfState
given s id (Ok count) = record s { readers = moved s.readers id count; calls = next s.calls }
given s id (Err Failed) = record s { calls = next s.calls; reads = next s.reads }
given s id (Err NoMemory) = s

abbrev pub emptied : ShelfState → List ℕ → Result ℕ Trouble → ShelfState
emptied s name (Ok id) = record s { files = with_empty s.files name; calls = next s.calls }
emptied s name (Err Failed) = record s { calls = next s.calls; writes = next s.writes }
emptied s name (Err NoMemory) = s

abbrev pub appended : ShelfState → ℕ → List ℕ → Result ℕ Trouble → ShelfState
appended s id piece (Ok count) = record s { files = put s.files id (bytes_at s.files id ++ take count piece); calls = next s.calls }
appended s id piece (Err Failed) = record s { calls = next s.calls; writes = next s.writes }
appended s id piece (Err NoMemory) = s
