-- What was held and a piece behind it, written one behind the other.
use Rattle.std.proofs.Common.{◌≡◌, ℕ, List, [], ◌++◌, Option, Result, Ok, Err, ◌∙◌, ap, append-nil}
use Rattle.sim_io.specs.Contents.{Files}
use Rattle.sim_io.specs.Writes.{PieceTaken, TookOf}
use Rattle.sim_io.specs.Writes as piece
use Rattle.sim_io.specs.declared.outside.Trouble.{Trouble}
use Rattle.sim_io.proofs.Chains.{took_both, pieces_on, file_grew_on}
use Rattle.sim_io.specs.Moved.{Moved, SinkTook, FileTook}

-- nothing is held behind what was taken
moved_whole : (held more taken held' : List ℕ) (result : Result Unit Trouble) → PieceTaken (held ++ more) taken result → held' ≡ [] → Moved held more taken held' result
moved_whole held more taken held' (Ok done) is none = ap (λ h. taken ++ h) none ∙ append-nil taken ∙ is
moved_whole held more taken held' (Err e) is none = (is, none)

pub sink_both : (old mid new : Option (List ℕ)) (held more held' : List ℕ) (result : Result Unit Trouble) → TookOf old mid held (Ok tt) → TookOf mid new more result → held' ≡ [] → SinkTook old new held more held' result
sink_both old mid new held more held' result first second none =
    let both = took_both old mid new held more tt result first second in
    (both.0, both.1, moved_whole held more both.0 held' result both.2 none)

-- the same of a file, which has each of its names still at the second write
pub file_both : (IsName IsLater : List ℕ → Type 0) (old mid new : Option Files) (held more held' : List ℕ) (result : Result Unit Trouble) → ((name : List ℕ) → IsName name → IsLater name)
    → piece.FileTook IsName old mid held (Ok tt) → piece.FileTook IsLater mid new more result → held' ≡ [] → FileTook IsName old new held more held' result
file_both IsName IsLater old mid new held more held' result stay (first, grew, whole) (second, grew_more, part) none = (
  first ++ second,
  λ name named. file_grew_on name first second old mid new (grew name named) (grew_more name (stay name named)),
  moved_whole held more (first ++ second) held' result (pieces_on held more first second result whole part) none,
)
