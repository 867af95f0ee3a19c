-- What is read of a file that is there.
use Rattle.std.proofs.Common.{◌≡◌, ◌<◌, ◌∙◌, ℕ, List, length, Option, Some, None, ap, refl, subst}
use Rattle.sim_io.specs.Contents.{Files, Lacks, IsText, IsLarge, text_of}
use Rattle.run_input.specs.Together.{Together}

-- where a file is there, its text is its bytes
text_there : (file : Option (List ℕ)) (bytes : List ℕ) → file ≡ Some bytes → text_of file ≡ bytes
text_there file bytes e = ap text_of e

-- what was read of it is its bytes
pub text_at : (before after : Option Files) (old new : Files) (name name' text bytes : List ℕ) → before ≡ Some old → after ≡ Some new → name ≡ name' → old name' ≡ Some bytes → IsText before after name text → text ≡ bytes
text_at before after old new name name' text bytes b a n there is =
    let P : Option Files → Type 0 = λ f. IsText f after name text in
    let Q : Option Files → Type 0 = λ f. IsText (Some old) f name text in
    let R : List ℕ → Type 0 = λ x. IsText (Some old) (Some new) x text in
    let told : IsText (Some old) (Some new) name' text = subst R n (subst Q a (subst P b is)) in
    told ∙ text_there (old name') bytes there

-- and where more than its limit was read of it, it has more
pub large_at : (before after : Option Files) (old new : Files) (name name' bytes : List ℕ) (limit : ℕ) → before ≡ Some old → after ≡ Some new → name ≡ name' → old name' ≡ Some bytes → IsLarge before after name limit → limit < length bytes
large_at before after old new name name' bytes limit b a n there is =
    let P : Option Files → Type 0 = λ f. IsLarge f after name limit in
    let Q : Option Files → Type 0 = λ f. IsLarge (Some old) f name limit in
    let R : List ℕ → Type 0 = λ x. IsLarge (Some old) (Some new) x limit in
    let S : List ℕ → Type 0 = λ x. limit < length x in
    let told : IsLarge (Some old) (Some new) name' limit = subst R n (subst Q a (subst P b is)) in
    subst S (text_there (old name') bytes there) told

-- and it is not lacking
pub lacks_none : (before : Option Files) (old : Files) (name name' bytes : List ℕ) → before ≡ Some old → name ≡ name' → old name' ≡ Some bytes → Lacks before name → ⊥
lacks_none before old name name' bytes b n there lacks =
    let P : Option Files → Type 0 = λ f. Lacks f name in
    let Q : List ℕ → Type 0 = λ x. Lacks (Some old) x in
    let told : old name' ≡ None = subst Q n (subst P b lacks) in
    cc

-- the text of a replay file that is named and there is its bytes
pub replay_at : (before after : Option Files) (old new : Files) (replay text : Option (List ℕ)) (name bytes : List ℕ) → before ≡ Some old → after ≡ Some new → replay ≡ Some name → old name ≡ Some bytes → Together replay text (IsText before after) → text ≡ Some bytes
replay_at before after old new None text name bytes b a named there is = cc
replay_at before after old new (Some other) None name bytes b a named there is = absurd is
replay_at before after old new (Some other) (Some words) name bytes b a named there is =
    let same : other ≡ name = cc in
    ap (λ (t : List ℕ). Some t) (text_at before after old new other name words bytes b a same there is)

-- where no replay file is named there is no text of one
pub no_replay : (before after : Option Files) (text : Option (List ℕ)) → Together None text (IsText before after) → text ≡ None
no_replay before after None is = refl
no_replay before after (Some words) is = absurd is
