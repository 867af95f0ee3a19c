-- From files that were made empty to what they hold behind a session.
use Rattle.std.proofs.Common.{◌≡◌, ◌≢◌, inl, inr, ℕ, List, Option, Some, None, refl, sym, ◌∙◌, ap, subst}
use Rattle.std.specs.Io.KnownBytes.{append_known}
use Rattle.std.specs.Prelude.{IfSome}
use Rattle.session.specs.SimIo.Contents.{Files, AfterTold, WereTold}
use Rattle.session.specs.Outputs.{AreApart, FileGot, FilesGot, IsOther, Names, Texts}
use Rattle.tlmsim.specs.Held.{FileHolds, FileMade, FileSpared, FilesHold, FilesMade, FilesSpared, IsAsBefore, IsEmptied, IsSpared, names_of}

after_on : (P Q R : Files → Files → Type 0) (old mid new : Option Files) → AfterTold old mid P → AfterTold mid new Q → ((a b c : Files) → P a b → Q b c → R a c) → AfterTold old new R
after_on P Q R old mid None x y joins = tt
after_on P Q R old None (Some new) x y joins = absurd y
after_on P Q R None (Some mid) (Some new) x y joins = absurd x
after_on P Q R (Some old) (Some mid) (Some new) x y joins = joins old mid new x y

other_of : (one other : Option (List ℕ)) (a b : List ℕ) → one ≡ Some a → other ≡ Some b → AreApart one other → b ≢ a
other_of one other a b is at apart = subst (λ o. AreApart (Some a) o) at (subst (λ o. AreApart o other) is apart)

apart_swapped : (a b : Option (List ℕ)) → AreApart a b → AreApart b a
apart_swapped None None x = tt
apart_swapped None (Some b) x = tt
apart_swapped (Some a) None x = tt
apart_swapped (Some a) (Some b) x = λ same. x (sym same)

-- ---- two files, one created behind the other

emptied_stays : (one other : Option (List ℕ)) (old new : Files) → AreApart one other → FileMade other old new → IsEmptied one old → IsEmptied one new
emptied_stays None other old new apart made empty = tt
emptied_stays (Some a) None old new apart made empty = made a ∙ empty
emptied_stays (Some a) (Some b) old new apart made empty = made.1 a (λ same. apart (sym same)) ∙ empty

made_empty : (one : Option (List ℕ)) (old new : Files) → FileMade one old new → IsEmptied one new
made_empty None old new made = tt
made_empty (Some a) old new made = made.0

made_other : (one : Option (List ℕ)) (old new : Files) (name : List ℕ) → FileMade one old new → IsOther one name → new name ≡ old name
made_other None old new name made other = made name
made_other (Some a) old new name made other = made.1 name other

pub both_made : (trace choices : Option (List ℕ)) (old mid new : Option Files) → AreApart trace choices → AfterTold old mid (FileMade trace) → AfterTold mid new (FileMade choices) → AfterTold old new (FilesMade (names_of trace choices))
both_made trace choices old mid new apart first second = after_on (FileMade trace) (FileMade choices) (FilesMade (names_of trace choices)) old mid new first second (λ a b c x y. record {
  trace = emptied_stays trace choices b c apart y (made_empty trace a b x);
  choices = made_empty choices b c y;
  others = λ name p q. made_other choices b c name y q ∙ made_other trace a b name x p;
})

spared_other : (one : Option (List ℕ)) (old new : Files) (name : List ℕ) → FileSpared one old new → IsOther one name → new name ≡ old name
spared_other None old new name spared other = spared name
spared_other (Some a) old new name spared other = spared.1 name other

is_spared : (one : Option (List ℕ)) (old new : Files) → FileSpared one old new → IsSpared one old new
is_spared None old new spared = tt
is_spared (Some a) old new spared = spared.0

spared_same : (one : Option (List ℕ)) (old new : Files) → ((name : List ℕ) → one ≡ Some name → new name ≡ old name) → IsSpared one old new
spared_same None old new same = tt
spared_same (Some a) old new same = inl (same a refl)

emptied_spared : (one : Option (List ℕ)) (old new : Files) → IsEmptied one new → IsSpared one old new
emptied_spared None old new empty = tt
emptied_spared (Some a) old new empty = inr empty

untouched_by : (one other : Option (List ℕ)) (old new : Files) → AreApart one other → FileSpared one old new → (name : List ℕ) → other ≡ Some name → new name ≡ old name
untouched_by None other old new apart spared name is = spared name
untouched_by (Some a) other old new apart spared name is = spared.1 name (subst (λ o. AreApart (Some a) o) is apart)

left_as_before : (one : Option (List ℕ)) (old new : Files) → ((name : List ℕ) → one ≡ Some name → new name ≡ old name) → IsAsBefore one old new
left_as_before None old new same = tt
left_as_before (Some a) old new same = same a refl

-- the first was refused
pub first_spared : (trace choices : Option (List ℕ)) (old new : Option Files) → AreApart trace choices → AfterTold old new (FileSpared trace) → AfterTold old new (FilesSpared (names_of trace choices))
first_spared trace choices old None apart spared = tt
first_spared trace choices None (Some new) apart spared = absurd spared
first_spared trace choices (Some old) (Some new) apart spared = record {
  trace = is_spared trace old new spared;
  choices = spared_same choices old new (untouched_by trace choices old new apart spared);
  in_order = inl (left_as_before choices old new (untouched_by trace choices old new apart spared));
  others = λ name p q. spared_other trace old new name spared p;
}

spared_stays : (one : Option (List ℕ)) (old mid new : Files) → ((name : List ℕ) → one ≡ Some name → new name ≡ mid name) → IsEmptied one mid → IsSpared one old new
spared_stays None old mid new same empty = tt
spared_stays (Some a) old mid new same empty = inr (same a refl ∙ empty)

left_empty : (one : Option (List ℕ)) (mid new : Files) → ((name : List ℕ) → one ≡ Some name → new name ≡ mid name) → IsEmptied one mid → IsEmptied one new
left_empty None mid new same empty = tt
left_empty (Some a) mid new same empty = same a refl ∙ empty

spared_on : (one : Option (List ℕ)) (old mid new : Files) → ((name : List ℕ) → one ≡ Some name → mid name ≡ old name) → IsSpared one mid new → IsSpared one old new
spared_on None old mid new same spared = tt
spared_on (Some a) old mid new same (inl is) = inl (is ∙ same a refl)
spared_on (Some a) old mid new same (inr empty) = inr empty

made_untouched : (one other : Option (List ℕ)) (old new : Files) → AreApart one other → FileMade one old new → (name : List ℕ) → other ≡ Some name → new name ≡ old name
made_untouched None other old new apart made name is = made name
made_untouched (Some a) other old new apart made name is = made.1 name (subst (λ o. AreApart (Some a) o) is apart)

-- the second was refused
pub second_spared : (trace choices : Option (List ℕ)) (old mid new : Option Files) → AreApart trace choices → AfterTold old mid (FileMade trace) → AfterTold mid new (FileSpared choices) → AfterTold old new (FilesSpared (names_of trace choices))
second_spared trace choices old mid new apart first second = after_on (FileMade trace) (FileSpared choices) (FilesSpared (names_of trace choices)) old mid new first second (λ a b c x y. record {
  trace = spared_stays trace a b c (untouched_by choices trace b c (apart_swapped trace choices apart) y) (made_empty trace a b x);
  choices = spared_on choices a b c (made_untouched trace choices a b apart x) (is_spared choices b c y);
  in_order = inr (left_empty trace b c (untouched_by choices trace b c (apart_swapped trace choices apart) y) (made_empty trace a b x));
  others = λ name p q. spared_other choices b c name y q ∙ made_other trace a b name x p;
})

-- ---- behind a session

holds_of : (name : Option (List ℕ)) (bytes : List ℕ) (old new : Files) → IsEmptied name old → FileGot name bytes old new → FileHolds name bytes new
holds_of None bytes old new empty got = tt
holds_of (Some n) bytes old new empty got = got ∙ ap (λ known. append_known known bytes) empty

files_hold : (names : Names) (t : Texts) (a b c : Files) → FilesMade names a b → FilesGot names t b c → FilesHold names t a c
files_hold names t a b c made got = record {
  trace = holds_of names.trace t.trace b c made.trace got.trace;
  choices = holds_of names.choices t.choices b c made.choices got.choices;
  others = λ name p q. got.others name p q ∙ made.others name p q;
}

-- what a session took of its texts, whose files were made empty before it, is what they hold
pub held_by : (AreNamed : Names → Type 0) (names : Names) (t : Texts) (old mid new : Option Files) → AfterTold old mid (FilesMade names) → WereTold mid new → IfSome mid (λ told. AreNamed names) → (AreNamed names → AfterTold mid new (FilesGot names t)) → AfterTold old new (FilesHold names t)
held_by AreNamed names t old mid None made told named got = tt
held_by AreNamed names t old None (Some new) made told named got = absurd told
held_by AreNamed names t old (Some mid) (Some new) made told named got = after_on (FilesMade names) (FilesGot names t) (FilesHold names t) old (Some mid) (Some new) made (got named) (files_hold names t)
