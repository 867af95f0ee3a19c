-- What clap's clauses say of the command of this crate.
use Rattle.std.proofs.Common.{◌≡◌, ◌⊎◌, ◌∙◌, true, List, [], ◌∷◌, Some, None, Result, Ok, Err, IfOk, ap, sym, subst, refl, inl, inr}
use Rattle.clap.specs.Kinds.{HasKind, IsAmong, Kinds}
use Rattle.clap.specs.Words.{App, FailsBy, HasMatchesOf, Row, Text, fault_of, found_of, is_simple, is_simple_and_free, kind_of, matches_of, rows_of}
use Rattle.clap.specs.declared.error.Error.{Error}
use Rattle.clap.specs.declared.error.kind.ErrorKind.{ErrorKind}
use Rattle.clap.specs.declared.error.kind.ErrorKind.TheVariants.{OutOfMemory}
use Rattle.clap.specs.declared.parser.matches.ArgMatches.{ArgMatches}
use Rattle.command_line.specs.Command.{line_command}
use Rattle.command_line.specs.Given.{given_by, given_in, unless_fault}
use Rattle.command_line.specs.Views.{Matches}

-- the command is one of which clap says all
line_is_simple : is_simple line_command ≡ true
unfolding line_command
line_is_simple = refl

line_is_free : is_simple_and_free line_command ≡ true
unfolding line_command
line_is_free = refl

abbrev MatchesBy : Kinds → List Row → Result ArgMatches Error → Type 0
MatchesBy faults rows (Ok m) = unless_fault faults rows ≡ Some (given_in (rows_of (found_of m)))
MatchesBy faults rows (Err e) = (kind_of e ≡ OutOfMemory) ⊎ (unless_fault faults rows ≡ None)

among_some : (k : ErrorKind) (faults : Kinds) (rows : List Row) → IsAmong k faults → unless_fault faults rows ≡ None
among_some k [] rows h = absurd h
among_some k (x ∷ xs) rows h = refl

refused : (faults : Kinds) (rows : List Row) (e : Error) → HasKind faults e → (kind_of e ≡ OutOfMemory) ⊎ (unless_fault faults rows ≡ None)
refused faults rows e (inl h) = inl h
refused faults rows e (inr h) = inr (among_some (kind_of e) faults rows h)

matched : (faults : Kinds) (rows : List Row) (r : Result ArgMatches Error) → FailsBy faults r → IfOk r (λ m. rows_of (found_of m) ≡ rows)
    → MatchesBy faults rows r
matched faults rows (Ok m) none same = ap (λ ks. unless_fault ks rows) none ∙ ap (λ rs. Some (given_in rs)) (sym same)
matched faults rows (Err e) kind same = refused faults rows e kind

rows_are : (words : List Text) (r : Result ArgMatches Error) → IfOk r (HasMatchesOf line_command words)
    → IfOk r (λ m. rows_of (found_of m) ≡ matches_of line_command words)
rows_are words (Ok m) h = (h line_is_simple).0
rows_are words (Err e) h = tt

of_line : (words : List Text) (r : Result ArgMatches Error) → (is_simple_and_free line_command ≡ true → FailsBy (fault_of line_command words) r)
    → IfOk r (HasMatchesOf line_command words) → Matches words r
unfolding given_by
of_line words r fails has = matched (fault_of line_command words) (matches_of line_command words) r (fails line_is_free) (rows_are words r has)

pub matches_are : (a : App) (words : List Text) (r : Result ArgMatches Error) → a ≡ line_command
    → (is_simple_and_free a ≡ true → FailsBy (fault_of a words) r) → IfOk r (HasMatchesOf a words) → Matches words r
matches_are a words r is fails has =
    of_line words r (subst (λ (b : App). is_simple_and_free b ≡ true → FailsBy (fault_of b words) r) is fails)
    (subst (λ (b : App). IfOk r (HasMatchesOf b words)) is has)
