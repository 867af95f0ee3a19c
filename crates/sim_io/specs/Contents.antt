-- Files and texts that a shelf or a sink may tell: whether they are told stands in these words alone.
use Rattle.std.specs.Prelude.{◌≡◌, ◌≢◌, ◌<◌, ◌+◌, ℕ, List, [], ◌++◌, length, drop, Option, None, Some, ⊤, unwrap_or, IfSome}
use Rattle.std.specs.Io.KnownBytes.{append_known}
use Rattle.std.specs.Io.{StartsWith}

-- the bytes of the file of each name, where there is one
abbrev pub Files : Type 0
Files = List ℕ → Option (List ℕ)

-- the bytes that reading a file gives: a file that is missing reads as empty
abbrev pub text_of : Option (List ℕ) → List ℕ
text_of file = unwrap_or file []

-- each file is as before
abbrev pub Same : Files → Files → Type 0
Same old new = (name : List ℕ) → new name ≡ old name

-- each file but this one is as before
abbrev pub Others : List ℕ → Files → Files → Type 0
Others name old new = (other : List ℕ) → other ≢ name → new other ≡ old other

-- where the files are told after a call, they were told before it, and the two are as P says
abbrev pub AfterTold : Option Files → Option Files → (Files → Files → Type 0) → Type 0
AfterTold old None P = ⊤
AfterTold None (Some new) P = ⊥
AfterTold (Some old) (Some new) P = P old new

-- where the files are told after a call, they were told before it
abbrev pub WereTold : Option Files → Option Files → Type 0
WereTold old None = ⊤
WereTold None (Some new) = ⊥
WereTold (Some old) (Some new) = ⊤

-- told as they were, or not told as they were not
abbrev pub Unchanged : Option Files → Option Files → Type 0
Unchanged None None = ⊤
Unchanged None (Some new) = ⊥
Unchanged (Some old) None = ⊥
Unchanged (Some old) (Some new) = Same old new

-- the files are told, and there is none of this name
abbrev pub Lacks : Option Files → List ℕ → Type 0
Lacks None name = ⊥
Lacks (Some files) name = files name ≡ None

-- this file grew by these bytes, and the others are as before
pub record Grows (name bytes : List ℕ) (old new : Files) : Type 0 where
  pub grown : new name ≡ append_known (old name) bytes
  pub others : Others name old new

-- where bytes are told after a write, they were told before it, and grew by these
abbrev pub Grew : Option (List ℕ) → Option (List ℕ) → List ℕ → Type 0
Grew old None bytes = ⊤
Grew None (Some new) bytes = ⊥
Grew (Some old) (Some new) bytes = new ≡ old ++ bytes

-- these bytes are what the file holds, where the files are told after the call
abbrev pub IsText : Option Files → Option Files → List ℕ → List ℕ → Type 0
IsText old None name bytes = ⊤
IsText None (Some new) name bytes = ⊤
IsText (Some old) (Some new) name bytes = bytes ≡ text_of (old name)

-- the file has more bytes than the limit, where the files are told after the call
abbrev pub IsLarge : Option Files → Option Files → List ℕ → ℕ → Type 0
IsLarge old None name limit = ⊤
IsLarge None (Some new) name limit = ⊤
IsLarge (Some old) (Some new) name limit = limit < length (text_of (old name))

-- these bytes are what the file holds, where the files are told
abbrev pub IsWhole : Option Files → List ℕ → List ℕ → Type 0
IsWhole files name bytes = IfSome files (λ told. bytes ≡ text_of (told name))

-- these are one byte more than the limit, and where the files are told the file begins with them
pub record IsPastLimit (files : Option Files) (name : List ℕ) (limit : ℕ) (bytes : List ℕ) : Type 0 where
  pub count : length bytes ≡ limit + 1
  pub begins : IfSome files (λ told. StartsWith (text_of (told name)) bytes)

-- these are the bytes that the file has past the limit and one byte more, where the files are told
abbrev pub IsPast : Option Files → List ℕ → ℕ → Option (List ℕ) → Type 0
IsPast files name limit left = IfSome files (λ told. left ≡ Some (drop (limit + 1) (text_of (told name))))

-- just one byte past the limit is gone of this file from what an id has still to give, where the files are told after the call
abbrev pub IsPastOf : Option Files → Option Files → List ℕ → ℕ → Option (List ℕ) → Type 0
IsPastOf old None name limit left = ⊤
IsPastOf None (Some new) name limit left = ⊤
IsPastOf (Some old) (Some new) name limit left = left ≡ Some (drop (limit + 1) (text_of (old name)))
