-- A shelf whose calls never fail: its files stay as they were given, and only their reading places move.
use Rattle.std.specs.Prelude.{◌≡◌, ◌≤◌, ◌+◌, ℕ, Bool, true, false, List, [], length, drop, find, bytes_eq, slice_set, Option, None, Some}
use Rattle.std.specs.List.{position_or_len, slice_index_or}
use Rattle.std.specs.Option.{option_map}
use Rattle.sim_io.specs.Contents.{Files}

-- a file: its name, its bytes, and how many of them were given since it was opened
pub record FileState : Type 0 where
  pub name : List ℕ
  pub bytes : List ℕ
  pub at : ℕ

-- a shelf: its files, and whether a file was created
pub record SoundState : Type 0 where
  pub files : List FileState
  pub created : Bool

-- the file has this name
abbrev pub named : List ℕ → FileState → Bool
named name file = bytes_eq file.name name

-- the bytes of the file of a name: of two of one name the first counts
abbrev pub texts : List FileState → Files
texts files name = option_map (λ file. file.bytes) (find (named name) files)

-- the place of the first file of a name, or the number of files where there is none
abbrev pub place_of : List FileState → List ℕ → ℕ
place_of files name = position_or_len (named name) files

-- the file at a place: an empty one where there is no such place
abbrev pub file_at : List FileState → ℕ → FileState
file_at files place = slice_index_or files place (record { name = []; bytes = []; at = 0 })

-- the files with another one at a place, where there is such a place
abbrev pub put : List FileState → ℕ → FileState → List FileState
put files place file = slice_set files place file

-- a file that is opened, and one after so many more bytes
abbrev pub begun : FileState → FileState
begun file = record file { at = 0 }

abbrev pub given : FileState → ℕ → FileState
given file count = record file { at = file.at + count }

-- what a file has still to give
abbrev pub rest_of : FileState → List ℕ
rest_of file = drop file.at file.bytes

-- files are told until one is created
abbrev pub told_until : Bool → Files → Option Files
told_until true files = None
told_until false files = Some files

-- the words of a shelf
abbrev pub told : SoundState → Option Files
told s = told_until s.created (texts s.files)

-- the id behind those of the files reads as an empty file
abbrev pub IsReading : SoundState → ℕ → Type 0
IsReading s id = id ≤ length s.files

abbrev pub left_of : SoundState → ℕ → Option (List ℕ)
left_of s id = Some (rest_of (file_at s.files id))

-- there is one id to write to, from the first `create` on, and it stands for no file
abbrev pub IsCreated : SoundState → ℕ → Type 0
IsCreated s id = (s.created ≡ true) × (id ≡ length s.files)

abbrev pub StandsFor : SoundState → ℕ → List ℕ → Type 0
StandsFor s id name = ⊥

abbrev pub reads_of : SoundState → ℕ
reads_of s = 0

abbrev pub writes_of : SoundState → ℕ
writes_of s = 0
