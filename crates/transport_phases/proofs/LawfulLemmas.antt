-- The lawful histories are those that break nothing.
use Rattle.std.proofs.Common.{◌≡◌, ℕ, Bool, true, false, List, [], ◌∷◌, ◌++◌, None, refl, sym, ap, ◌∙◌, subst, append_assoc, append-nil, eq-eqb}
use Rattle.std.specs.Prelude.{◌==◌, ◌↔◌}
use Rattle.std.specs.List.{All}
use Rattle.std.proofs.lemmas.Bool.{eqb-true}
use Rattle.std.proofs.lemmas.List.Elements.{All-nil, All-cons, All-head, All-tail, All-push}
use Rattle.transport_phases.specs.Phases.{is_requesting, is_responding}
use Rattle.transport_phases.specs.History.{Entry, transaction, kept_of, broken}
use Rattle.transport_phases.specs.Unbroken.{UnbrokenFrom, Unbroken}
use Rattle.transport_phases.proofs.ExclusionLemmas.{one_requests, one_responds}
use Rattle.transport_phases.specs.Words.{Letter, Blocks, Unblocks, letter_of, letters_of, IsWhole, IsRow, whole, last}
use Rattle.transport_phases.specs.Lawful.{begins_request, ends_request, begins_response, ends_response, IsWithin, carries_response, is_complete, is_handled, Lawful}
use Rattle.transport_phases.specs.Order.{MayCome, OrderedFrom, Ordered}
use Rattle.transport_phases.proofs.Places.{Place, Between, kept_at, Step, Route, here, go, route-append, route_cut}
use Rattle.transport_phases.proofs.WordRoutes.{row_route}
use Rattle.transport_phases.proofs.RouteWords.{route_row}
use Rattle.transport_phases.proofs.KeptPlaces.{kept_there}
use Rattle.transport_phases.proofs.Overlaps.{requests_step, responds_step}
use Rattle.transport_phases.proofs.Entries.{letters_of-append, letters_of-more, entry_fits, entry_onward, entry_comes}
use Rattle.transport_phases.proofs.Moments.{test_within, none_else, no_two_kept}

-- a front of a lawful history is lawful

row_front : (a b : List Letter) → IsRow (a ++ b) → IsRow a
row_front a b row =
    let (p, route) = row_route row in
    let (q, first, later) = route_cut a b route in
    route_row a first

rows_front : (front later : List Entry) → ((t : ℕ) → IsRow (letters_of (front ++ later) t)) → (t : ℕ)
    → IsRow (letters_of front t)
rows_front front later rows t =
    row_front (letters_of front t) (letters_of later t) (subst IsRow (letters_of-append front later t) (rows t))

All-front : (P : Entry → Type 0) (xs ys : List Entry) → All P (xs ++ ys) → All P xs
All-front P [] ys all = All-nil P
All-front P (x ∷ xs) ys all =
    All-cons P x xs (All-head P x (xs ++ ys) all) (All-front P xs ys (All-tail P x (xs ++ ys) all))

All-back : (P : Entry → Type 0) (xs : List Entry) (x : Entry) → All P (xs ++ x ∷ []) → P x
All-back P [] x all = All-head P x [] all
All-back P (y ∷ xs) x all = All-back P xs x (All-tail P y (xs ++ x ∷ []) all)

-- it carries a response only if that is complete
abbrev Answered : Entry → Type 0
Answered e = carries_response (letter_of e) ≡ true → is_complete e ≡ true

abbrev Handled : Entry → Type 0
Handled e = is_handled e ≡ true

pub lawful_front : (front later : List Entry) → Lawful (front ++ later) → Lawful front
lawful_front front later l = record {
  words = rows_front front later l.words;
  requests = λ f g is. l.requests f (g ++ later) (ap (λ h. h ++ later) is ∙ append_assoc f g later);
  responses = λ f g is. l.responses f (g ++ later) (ap (λ h. h ++ later) is ∙ append_assoc f g later);
  complete = All-front Answered front later l.complete;
  handled = All-front Handled front later l.handled;
}

-- the last entry of a lawful history could come, and broke nothing

-- where the transaction of the last entry stood, and that the entry leads on from there
Led : List Entry → Entry → Type 0
Led h e = (p : Place) × (q : Place) × (kept_of h (transaction e) ≡ kept_at p) × Step p (letter_of e) q

last_led : (h : List Entry) (e : Entry) → Lawful (h ++ e ∷ []) → Led h e
unfolding Led
last_led h e l =
    let t : ℕ = transaction e in
    let (r, route) = row_route (subst IsRow (letters_of-more h e t true (eq-eqb t t refl)) (l.words t)) in
    let (p, first, rest) = route_cut (letters_of h t) (letter_of e ∷ []) route in
    by_last p first rest
  where
    by_last : {r : Place} (p : Place) → Route Between (letters_of h (transaction e)) p → Route p (letter_of e ∷ []) r
        → Led h e
    by_last p first (go {q = q} s route) = (p, q, kept_there h (transaction e) first, s)

pub lawful_fits : (h : List Entry) (e : Entry) → Lawful (h ++ e ∷ []) → broken h e ≡ None
unfolding Led
lawful_fits h e l =
    let (p, q, stands, s) = last_led h e l in
    let rows : (t : ℕ) → IsRow (letters_of h t) = rows_front h (e ∷ []) l.words in
    entry_fits h e stands s
    (none_else begins_request ends_request is_requesting refl requests_step h e l.requests rows)
    (none_else begins_response ends_response is_responding refl responds_step h e l.responses rows)
    (All-back Answered h e l.complete)
    (All-back Handled h e l.handled)

pub lawful_comes : (h : List Entry) (e : Entry) → Lawful (h ++ e ∷ []) → MayCome h e
unfolding Led
lawful_comes h e l =
    let (p, q, stands, s) = last_led h e l in
    entry_comes h e stands s

-- so in a lawful history each entry came where it may, and broke nothing
lawful_from : (before later : List Entry) → Lawful (before ++ later)
    → OrderedFrom before later × UnbrokenFrom before later
lawful_from before [] l = (tt, tt)
lawful_from before (e ∷ later) l =
    let again = subst Lawful (sym (append_assoc before (e ∷ []) later)) l in
    let here = lawful_front (before ++ e ∷ []) later again in
    let rest = lawful_from (before ++ e ∷ []) later again in
    ((lawful_comes before e here, rest.0), (lawful_fits before e here, rest.1))

pub lawful_whole : (h : List Entry) → Lawful h → Ordered h × Unbroken h
lawful_whole h l = lawful_from [] h l

-- an entry that may come and breaks nothing leaves the history lawful

unbroken-more : (before later : List Entry) (e : Entry) → UnbrokenFrom before later
    → broken (before ++ later) e ≡ None → UnbrokenFrom before (later ++ e ∷ [])
unbroken-more before [] e unbroken none = (subst (λ h. broken h e ≡ None) (append-nil before) none, tt)
unbroken-more before (x ∷ later) e unbroken none =
    let again = subst (λ h. broken h e ≡ None) (sym (append_assoc before (x ∷ []) later)) none in
    (unbroken.0, unbroken-more (before ++ x ∷ []) later e unbroken.1 again)

unbroken-front : (before front later : List Entry) → UnbrokenFrom before (front ++ later) → UnbrokenFrom before front
unbroken-front before [] later unbroken = tt
unbroken-front before (x ∷ front) later unbroken =
    (unbroken.0, unbroken-front (before ++ x ∷ []) front later unbroken.1)

row_longer : (ls : List Letter) (l : Letter) {p q : Place} → Route Between ls p → Step p l q → IsRow (ls ++ l ∷ [])
row_longer ls l route s = route_row (ls ++ l ∷ []) (route-append ls (l ∷ []) route (go s here))

row_more : (h : List Entry) (e : Entry) {p q : Place} → Route Between (letters_of h (transaction e)) p
    → Step p (letter_of e) q → ((t : ℕ) → IsRow (letters_of h t)) → (t : ℕ) → IsRow (letters_of (h ++ e ∷ []) t)
row_more h e route s rows t = by (transaction e == t) refl
  where
    by : (b : Bool) → (transaction e == t) ≡ b → IsRow (letters_of (h ++ e ∷ []) t)
    by true same =
        subst IsRow (sym (letters_of-more h e t true same))
        (subst (λ n. IsRow (letters_of h n ++ letter_of e ∷ [])) (eqb-true (transaction e) t same)
        (row_longer (letters_of h (transaction e)) (letter_of e) route s))
    by false same = subst IsRow (sym (letters_of-more h e t false same ∙ append-nil (letters_of h t))) (rows t)

-- where nothing is broken, no two requests and no two responses overlap
module _ (h : List Entry) (rows : (t : ℕ) → IsRow (letters_of h t)) (unbroken : Unbroken h) where
  front_unbroken : (front later : List Entry) → h ≡ front ++ later → Unbroken front
  front_unbroken front later is = unbroken-front [] front later (subst Unbroken is unbroken)

  front_rows : (front later : List Entry) → h ≡ front ++ later → (t : ℕ) → IsRow (letters_of front t)
  front_rows front later is = rows_front front later (subst (λ h. (t : ℕ) → IsRow (letters_of h t)) is rows)

  lawful_of : All Answered h → All Handled h → Lawful h
  lawful_of complete handled = record {
    words = rows;
    requests =
        no_two_kept begins_request ends_request is_requesting refl requests_step h
        (λ front later is. one_requests front (front_unbroken front later is)) front_rows;
    responses =
        no_two_kept begins_response ends_response is_responding refl responds_step h
        (λ front later is. one_responds front (front_unbroken front later is)) front_rows;
    complete = complete;
    handled = handled;
  }

pub lawful_more : (h : List Entry) (e : Entry) → Lawful h → MayCome h e → broken h e ≡ None → Lawful (h ++ e ∷ [])
lawful_more h e l comes none =
    let (p, route) = row_route (l.words (transaction e)) in
    let ((q, s), told, there) = entry_onward h e p (kept_there h (transaction e) route) comes none in
    lawful_of (h ++ e ∷ []) (row_more h e route s l.words) (unbroken-more [] h e (lawful_whole h l).1 none)
    (All-push Answered h e l.complete told) (All-push Handled h e l.handled there)

pub lawful_empty : Lawful []
lawful_empty =
    lawful_of [] (λ t. last [] (Blocks ∷ Unblocks ∷ []) (whole IsWhole.blocking)) tt
    (All-nil Answered) (All-nil Handled)

lawful_onward : (before later : List Entry) → Lawful before → OrderedFrom before later → UnbrokenFrom before later
    → Lawful (before ++ later)
lawful_onward before [] l ordered unbroken = subst Lawful (sym (append-nil before)) l
lawful_onward before (e ∷ later) l ordered unbroken =
    subst Lawful (append_assoc before (e ∷ []) later)
    (lawful_onward (before ++ e ∷ []) later (lawful_more before e l ordered.0 unbroken.0) ordered.1 unbroken.1)

pub lawful_step : (h : List Entry) (e : Entry) → Lawful h → MayCome h e → Lawful (h ++ e ∷ []) ↔ (broken h e ≡ None)
lawful_step h e l comes = (lawful_fits h e, lawful_more h e l comes)

pub lawful_unbroken : (h : List Entry) → Lawful h ↔ (Ordered h × Unbroken h)
lawful_unbroken h = (lawful_whole h, λ both. lawful_onward [] h lawful_empty both.0 both.1)

pub requests_by_words : (h : List Entry) → Lawful h → (t : ℕ)
    → (is_requesting (kept_of h t) ≡ true) ↔ IsWithin begins_request ends_request (letters_of h t)
requests_by_words h l t = test_within begins_request ends_request is_requesting refl requests_step h t (l.words t)

pub responds_by_words : (h : List Entry) → Lawful h → (t : ℕ)
    → (is_responding (kept_of h t) ≡ true) ↔ IsWithin begins_response ends_response (letters_of h t)
responds_by_words h l t = test_within begins_response ends_response is_responding refl responds_step h t (l.words t)
