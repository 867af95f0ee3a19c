-- What is found at single constructs of an expression, by what is known of their parts.
use Rattle.std.specs.Prelude.{ℕ, ◌||◌, Bool, false, not, List, is_some, option_and_then, Option, Some, None}
use Rattle.std.specs.Option.{option_or}
use Rattle.model_tree.specs.Tree as tree
use Rattle.model_tree.specs.declared.faults.Fault.{Fault}
use Rattle.model_tree.specs.declared.faults.Kind.TheVariants as kind
use Rattle.check_names.specs.ModelRules.Scopes.{Scope}
use Rattle.check_names.specs.ModelRules.Operators.{is_integer}
use Rattle.check_names.specs.ModelRules.Types.{places, is_port, at_number, at_computed, type_of}
use Rattle.check_names.specs.ModelRules.declared.meanings.Meaning.{Meaning}
use Rattle.check_names.specs.ModelRules.declared.meanings.Row.{Row}
use Rattle.check_names.specs.ModelRules.Members.{value_member, event_member}
use Rattle.check_names.specs.ModelRules.declared.needs.Need.{Need}
use Rattle.check_names.specs.ModelRules.Names.{Head, broken, named, computed, is_unmet, is_static, is_no_value, is_no_event, unknown_member, wrong_member}
use Rattle.check_names.specs.ModelRules.Values.{fails, is_past}
use Rattle.check_expressions.specs.Findings.{told, told_if}
use Rattle.check_expressions.specs.declared.channels.At.{At}
use Rattle.check_expressions.specs.declared.channels.At.TheVariants as at
use Rattle.check_expressions.specs.declared.heads.Front.{Front}
use Rattle.check_expressions.specs.declared.heads.Front.TheVariants as front
use Rattle.check_expressions.specs.declared.heads.MemberUse.{MemberUse}
use Rattle.check_expressions.specs.declared.heads.MemberUse.TheVariants as used

-- places

abbrev pub at_of : Scope → tree.Place → At
at_of s tree.first = at.First
at_of s (tree.place_number n) = at.Number n
at_of s (tree.computed e) = at.Computed (type_of s e)

abbrev pub is_wrong_at : Need → At → Option Meaning → Bool
is_wrong_at need place None = false
is_wrong_at need at.First (Some m) = false
is_wrong_at need (at.Number n) (Some m) = not (is_port m)
is_wrong_at need (at.Computed e) (Some m) = not (is_port m) || is_static need

abbrev pub differs_at : At → Bool
differs_at at.First = false
differs_at (at.Number n) = false
differs_at (at.Computed e) = fails is_integer e

abbrev pub wide_at : At → Option Meaning → Bool
wide_at at.First m = false
wide_at (at.Number n) m = is_past n (option_and_then places m)
wide_at (at.Computed e) m = false

-- the channel at a place
abbrev pub object_at : At → Option Meaning → Option Meaning
object_at at.First m = m
object_at (at.Number n) m = option_and_then (at_number n) m
object_at (at.Computed e) m = option_and_then (at_computed e) m

-- a channel: its name is known, it is what is needed, its place is right
abbrev pub channel_fault : List ℕ → Need → ℕ → List ℕ → At → Option Meaning → Option Fault
channel_fault around need line name place m =
    option_or (told_if kind.UnknownName line name (not (is_some m)))
    (option_or (told_if kind.WrongKind line name (is_unmet need m))
    (option_or (told_if kind.WrongKind line name (is_wrong_at need place m))
    (option_or (told_if kind.TypeDiffers line around (differs_at place)) (told_if kind.WidthRange line around (wide_at place m)))))

-- members

abbrev pub head_seen : Front → Head
head_seen front.Broken = broken
head_seen (front.Named of m) = named of.now m
head_seen (front.Computed of) = computed of.now

-- whether a member is not what its use needs
abbrev pub is_wrong_member : MemberUse → List ℕ → Row → Bool
is_wrong_member (used.Value indexed) name r = is_no_value indexed (value_member r name)
is_wrong_member used.Event name r = is_no_event r (event_member r name)
is_wrong_member (used.Assigned nowhere) name r = nowhere

abbrev pub member_fault : MemberUse → ℕ → List ℕ → List ℕ → Option Meaning → Option Fault
member_fault how line of name m =
    option_or (told kind.UnknownName line (unknown_member m name)) (told kind.WrongKind line (wrong_member (is_wrong_member how name) of name m))

-- an expression itself: its types fit, its widths are in range, and its time can be counted
abbrev pub own_fault : List ℕ → ℕ → Bool → Bool → Bool → Option Fault
own_fault around line differs wide late =
    option_or (told_if kind.TypeDiffers line around differs) (option_or (told_if kind.WidthRange line around wide) (option_or (told_if kind.LiteralRange line around late) None))
