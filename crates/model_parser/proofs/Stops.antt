-- What a refusal is.
use Rattle.std.proofs.Common.{◌≡◌, ℕ, List, [], ◌∷◌, Some, None, refl, subst}
use Rattle.std.specs.Prelude.{◌≢◌}
use Rattle.model_tree.specs.declared.faults.ParseStop.{ParseStop}
use Rattle.model_tree.specs.declared.faults.ParseStop.TheVariants as stop
use Rattle.model_tree.specs.Tree as tree
use Rattle.parse_statements.specs.ModelLexer.Languages.{in_language}
use Rattle.parse_statements.specs.ModelLexer.Tokens.{Tokens}
use Rattle.parse_statements.specs.ModelLexer.Cut.{Lexeme, Cut}
use Rattle.parse_statements.specs.ModelLexer.Laws.{with_lines}
use Rattle.parse_statements.specs.ModelLexer.Reads.{Reads}
use Rattle.model_parser.specs.Parse.{source, from_tokens, IsStopped}
use Rattle.model_parser.proofs.ModelLaws.{reads_found}

-- a refusal of what has an answer is out of memory
pub stopped_memory : (e : ParseStop) (text : List ℕ) (x : tree.Source) → Reads text x → IsStopped text e → e ≡ stop.NoMemory
stopped_memory stop.NoMemory text x reads is = refl
stopped_memory (stop.Syntax line) text x reads is =
    let differs : stop.Syntax line ≢ stop.NoMemory = λ same. cc in
    let (ts, cut, some) = reads_found text x reads in
    let none : from_tokens (in_language (with_lines ts)) ≡ None = is differs ts cut in
    cc

-- where tokens are left behind a tree, no tree is read from all of them
some_left : (ts rest : Tokens) (x : tree.Source) → source ts ≡ Some (x, rest) → rest ≢ [] → from_tokens ts ≡ None
unfolding from_tokens
some_left ts [] x read more = absurd (more refl)
some_left ts (t ∷ rest) x read more = rw read refl

pub left_stopped : (e : ParseStop) (text : List ℕ) (us rest : Tokens) (x : tree.Source) → ((ts : List Lexeme) → Cut text ts → us ≡ in_language (with_lines ts)) → source us ≡ Some (x, rest) → rest ≢ [] → IsStopped text e
left_stopped e text us rest x same read more some ts cut = subst (λ (vs : Tokens). from_tokens vs ≡ None) (same ts cut) (some_left us rest x read more)
