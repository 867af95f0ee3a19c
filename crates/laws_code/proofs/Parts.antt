-- Parts of statements have code: expressions, places, channels, events, arguments, and what is controlled.
use Rattle.std.proofs.Common.{◌≡◌, ℕ, Bool, true, false, not, ◌&&◌, ◌||◌, ◌==◌, List, [], ◌∷◌, Option, Some, None, refl, sym, ◌∙◌, subst, true≢false, length, arith}
use Rattle.std.proofs.lemmas.Bool.Decides.{nat_tests}
use Rattle.std.specs.Prelude.{is_some, option_and_then}
use Rattle.code_rules.specs.ModelTree.Tree as tree
use Rattle.code_rules.specs.ModelTree.declared.types.Parameter.{Parameter}
use Rattle.code_rules.specs.ModelTree.declared.statements.Who.{Who}
use Rattle.code_rules.specs.ModelTree.declared.statements.Who.TheVariants as who
use Rattle.code_rules.specs.FlatDesign.Code as code
use Rattle.code_rules.specs.FlatDesign.declared.value_types.ValueType.{ValueType}
use Rattle.code_rules.specs.FlatDesign.declared.names.EventMember.{EventMember}
use Rattle.code_rules.specs.ModelRules.Members.{row_of, event_member}
use Rattle.code_rules.specs.ModelRules.Scopes.{Scope, meaning_of, use_of, place_of, function_named}
use Rattle.code_rules.specs.ModelRules.declared.meanings.Row.{Row}
use Rattle.code_rules.specs.ModelRules.declared.meanings.Meaning.{Meaning}
use Rattle.code_rules.specs.ModelRules.declared.meanings.Meaning.TheVariants as meaning
use Rattle.code_rules.specs.ModelRules.declared.needs.Need.{Need}
use Rattle.code_rules.specs.ModelRules.declared.needs.Need.TheVariants as need_of
use Rattle.code_rules.specs.ModelRules.Sites as part
use Rattle.code_rules.specs.ModelRules.Sites.{Site, site, channel_site, channel_sites, place_sites, event_need, event_sites, events_sites, waiting_sites, expression_sites, option_sites, argument_sites, who_sites}
use Rattle.code_rules.specs.ModelRules.Names.{meets, is_static, is_wrong_place, row_lacks, is_no_event, unknown_in_row, wrong_in_row, unknown_member, wrong_member}
use Rattle.code_rules.specs.ModelRules.Calls.{inout_wrong, inouts_wrong, count_differs}
use Rattle.code_rules.specs.ModelRules.Values.{parameters_of, called_parameters}
use Rattle.code_rules.specs.ModelRules.Passes.{constructs, fault_at, fault_of}
use Rattle.code_rules.specs.Terms.{term_of}
use Rattle.code_rules.specs.Deeds.{with_two, with_three, with_four, if_written, each, place_term, channel_term, event_of, event_term, static_place, static_use, await_term, inout_argument, argument, arguments, call_arguments, controlled_by}
use Rattle.laws_code.specs.Known.{TypesAreKnown}
use Rattle.laws_code.proofs.FaultlessConstructs.{keeps}
use Rattle.laws_code.proofs.NamesMet.{site_met}
use Rattle.laws_code.proofs.Coded.{coded, some_none, two_some}
use Rattle.laws_code.proofs.Typed.{typed, neither, not_named, parts_none, head_none, mapped_some, channel_kept, and_true}
use Rattle.laws_code.proofs.Named.{has_use, has_place, no_variable, used_name}

-- parts together
pub three_some : {A B C D : Type 0} (f : A → B → C → D) (a : Option A) (b : Option B) (c : Option C) → is_some a ≡ true → is_some b ≡ true → is_some c ≡ true → is_some (with_three f a b c) ≡ true
three_some f a b c h k l = two_some (λ g z. g z) (with_two f a b) c (two_some f a b h k) l

pub four_some : {A B C D E : Type 0} (f : A → B → C → D → E) (a : Option A) (b : Option B) (c : Option C) (d : Option D) → is_some a ≡ true → is_some b ≡ true → is_some c ≡ true → is_some d ≡ true
    → is_some (with_four f a b c d) ≡ true
four_some f a b c d h k l m = two_some (λ g z. g z) (with_three f a b c) d (three_some f a b c h k l) m

-- an event's member is one of its row
member_there : (r : Row) (o : Option EventMember) → is_no_event r o ≡ false → is_some o ≡ true
member_there r None h = cc
member_there r (Some e) h = refl

row_has : (r : Option Row) (of name : List ℕ) → unknown_in_row name r ≡ None → wrong_in_row (λ x. is_no_event x (event_member x name)) of name r ≡ None
    → is_some (option_and_then (λ x. event_member x name) r) ≡ true
row_has None of name h k = cc
row_has (Some r) of name h k =
    member_there r (event_member r name)
    (and_true (is_no_event r (event_member r name)) (row_lacks r name) (not_named (is_no_event r (event_member r name) && not (row_lacks r name)) name k) (not_named (row_lacks r name) name h))

-- a static place is a number
static_there : (need : Need) (p : tree.Place) (m : Meaning) → is_static need ≡ true → is_wrong_place need p (Some m) ≡ false → is_some (static_place p) ≡ true
static_there need tree.first m h k = refl
static_there need (tree.place_number n) m h k = refl
static_there need (tree.computed e) m h k = absurd (true≢false (sym h ∙ (neither _ (is_static need) k).1))

no_more : {A : Type 0} (x : A) (xs : List A) → length {A = A} [] ≡ length (x ∷ xs) → ⊥
no_more x xs h = omega arith

rest_length : {A B : Type 0} (x : A) (xs : List A) (y : B) (ys : List B) → length (x ∷ xs) ≡ length (y ∷ ys) → length xs ≡ length ys
rest_length x xs y ys h = omega arith

same_number : (m n : ℕ) → not (m == n) ≡ false → m ≡ n
same_number m n h = grind (arith, nat_tests)

module _ (s : Scope) (known : TypesAreKnown s) where
  pub expression_there : (e : tree.Expression) → fault_of constructs (expression_sites s e) ≡ None → is_some (term_of s e) ≡ true
  expression_there e h = coded s e (typed s known need_of.Readable e h)

  pub option_there : (e : Option tree.Expression) → fault_of constructs (option_sites s e) ≡ None → is_some (if_written (term_of s) e) ≡ true
  option_there None h = refl
  option_there (Some e) h = mapped_some Some (term_of s e) (expression_there e h)

  pub each_there : (es : List tree.Expression) → fault_of constructs (argument_sites s es) ≡ None → is_some (each (term_of s) es) ≡ true
  each_there [] h = refl
  each_there (e ∷ es) h =
      let p = parts_none (expression_sites s e) (argument_sites s es) h in
      two_some _ (term_of s e) (each (term_of s) es) (expression_there e p.0) (each_there es p.1)

  -- channels
  pub place_there : (p : tree.Place) → fault_of constructs (place_sites s p) ≡ None → is_some (place_term s p) ≡ true
  place_there tree.first h = refl
  place_there (tree.place_number n) h = refl
  place_there (tree.computed e) h = mapped_some Some (term_of s e) (expression_there e h)

  pub channel_there : (need : Need) → ((t : Option ValueType) → meets need (meaning.Variable t) ≡ false) → (c : tree.Channel) → fault_of constructs (channel_sites s need c) ≡ None
      → is_some (channel_term s c) ≡ true
  channel_there need f c h =
      let p = head_none (channel_site s need c) (place_sites s c.place) h in
      let k = channel_kept s need c p.0 in
      two_some _ (place_of s c.name) (place_term s c.place) (has_place s c.name k.meaning_ k.known (no_variable need f k.meaning_ k.met)) (place_there c.place p.1)

  -- events
  abbrev event_site : Bool → tree.Event → Site
  event_site static e = site s e.channel.line (part.of_event static e)

  member_of : (static : Bool) (channel : tree.Channel) (member : Option (List ℕ)) (m : Meaning) → meaning_of s channel.name ≡ Some m
      → fault_at constructs (event_site static (record { channel = channel; member = member })) ≡ None → is_some (event_of s channel.name member) ≡ true
  member_of static channel None m is h = refl
  member_of static channel (Some name) m is h =
      let k = keeps (event_site static (record { channel = channel; member = Some name })) h in
      subst (λ o. is_some (option_and_then (λ x. event_member x name) (option_and_then row_of o)) ≡ true) (sym is)
      (row_has (row_of m) channel.name name (subst (λ o. unknown_member o name ≡ None) is k.known)
      (subst (λ o. wrong_member (λ x. is_no_event x (event_member x name)) channel.name name o ≡ None) is k.kind))

  pub event_there : (e : tree.Event) → fault_of constructs (event_sites s false e) ≡ None → is_some (event_term s e) ≡ true
  event_there e h =
      let p = head_none (event_site false e) (channel_sites s (event_need false e.member) e.channel) h in
      let q = head_none (channel_site s (event_need false e.member) e.channel) (place_sites s e.channel.place) p.1 in
      let k = channel_kept s (event_need false e.member) e.channel q.0 in
      three_some _ (use_of s e.channel.name) (place_term s e.channel.place) (event_of s e.channel.name e.member)
      (has_use s e.channel.name k.meaning_ k.known) (place_there e.channel.place q.1) (member_of false e.channel e.member k.meaning_ k.known p.0)

  pub events_there : (es : List tree.Event) → fault_of constructs (events_sites s false es) ≡ None → is_some (each (event_term s) es) ≡ true
  events_there [] h = refl
  events_there (e ∷ es) h =
      let p = parts_none (event_sites s false e) (events_sites s false es) h in
      two_some _ (event_term s e) (each (event_term s) es) (event_there e p.0) (events_there es p.1)

  pub await_there : (w : tree.Waiting) → fault_of constructs (waiting_sites s w) ≡ None → is_some (await_term s w) ≡ true
  await_there tree.static h = refl
  await_there tree.delta h = refl
  await_there (tree.for_ e) h = mapped_some code.for_ (term_of s e) (expression_there e h)
  await_there (tree.one e t) h =
      let p = parts_none (event_sites s false e) (option_sites s t) h in
      two_some _ (event_term s e) (if_written (term_of s) t) (event_there e p.0) (option_there t p.1)
  await_there (tree.any es t) h =
      let p = parts_none (events_sites s false es) (option_sites s t) h in
      two_some code.any (each (event_term s) es) (if_written (term_of s) t) (events_there es p.0) (option_there t p.1)
  await_there (tree.all es t) h =
      let p = parts_none (events_sites s false es) (option_sites s t) h in
      two_some code.all (each (event_term s) es) (if_written (term_of s) t) (events_there es p.0) (option_there t p.1)

  -- a static sensitivity has no variables and no computed places
  static_need : (member : Option (List ℕ)) → is_static (event_need true member) ≡ true
  static_need None = refl
  static_need (Some name) = refl

  static_no_variable : (member : Option (List ℕ)) (t : Option ValueType) → meets (event_need true member) (meaning.Variable t) ≡ false
  static_no_variable None t = refl
  static_no_variable (Some name) t = refl

  pub static_event_there : (e : tree.Event) → fault_of constructs (event_sites s true e) ≡ None → is_some (static_use s e) ≡ true
  static_event_there e h =
      let p = head_none (event_site true e) (channel_sites s (event_need true e.member) e.channel) h in
      let q = head_none (channel_site s (event_need true e.member) e.channel) (place_sites s e.channel.place) p.1 in
      let k = channel_kept s (event_need true e.member) e.channel q.0 in
      three_some _ (place_of s e.channel.name) (static_place e.channel.place) (event_of s e.channel.name e.member)
      (has_place s e.channel.name k.meaning_ k.known (no_variable (event_need true e.member) (static_no_variable e.member) k.meaning_ k.met))
      (static_there (event_need true e.member) e.channel.place k.meaning_ (static_need e.member) k.right_place)
      (member_of true e.channel e.member k.meaning_ k.known p.0)

  pub static_events_there : (es : List tree.Event) → fault_of constructs (events_sites s true es) ≡ None → is_some (each (static_use s) es) ≡ true
  static_events_there [] h = refl
  static_events_there (e ∷ es) h =
      let p = parts_none (event_sites s true e) (events_sites s true es) h in
      two_some _ (static_use s e) (each (static_use s) es) (static_event_there e p.0) (static_events_there es p.1)

  -- calls
  inout_there : (p : Parameter) (e : tree.Expression) → inout_wrong s true p e ≡ false → fault_of constructs (expression_sites s e) ≡ None → is_some (inout_argument s e) ≡ true
  inout_there p (tree.named line name) w h =
      let k = channel_kept s need_of.Readable (record { line = line; name = name; place = tree.first }) (head_none (channel_site s need_of.Readable (record { line = line; name = name; place = tree.first })) [] h).0 in
      mapped_some code.inout (use_of s name) (has_use s name k.meaning_ k.known)
  inout_there p other w h = cc

  argument_there : (b : Bool) (p : Parameter) (e : tree.Expression) → inout_wrong s b p e ≡ false → fault_of constructs (expression_sites s e) ≡ None → is_some (argument s b e) ≡ true
  argument_there true p e w h = inout_there p e w h
  argument_there false p e w h = mapped_some code.by_value (term_of s e) (expression_there e h)

  arguments_there : (ps : List Parameter) (es : List tree.Expression) → length ps ≡ length es → inouts_wrong s ps es ≡ false → fault_of constructs (argument_sites s es) ≡ None
      → is_some (arguments s ps es) ≡ true
  arguments_there [] [] l w h = refl
  arguments_there [] (e ∷ es) l w h = absurd (no_more e es l)
  arguments_there (p ∷ ps) [] l w h = absurd (no_more p ps (sym l))
  arguments_there (p ∷ ps) (e ∷ es) l w h =
      let two = neither (inout_wrong s p.inout p e) (inouts_wrong s ps es) w in
      let sites = parts_none (expression_sites s e) (argument_sites s es) h in
      two_some _ (argument s p.inout e) (arguments s ps es) (argument_there p.inout p e two.0 sites.0) (arguments_there ps es (rest_length p ps e es l) two.1 sites.1)

  called : (o : Option tree.FunctionItem) (es : List tree.Expression) → is_some o ≡ true → count_differs o es ≡ false → inouts_wrong s (parameters_of o) es ≡ false → fault_of constructs (argument_sites s es) ≡ None
      → is_some (option_and_then (λ (f : tree.FunctionItem). arguments s f.parameters es) o) ≡ true
  called None es k c w h = some_none k
  called (Some f) es k c w h = arguments_there f.parameters es (same_number (length f.parameters) (length es) c) w h

  pub call_there : (name : List ℕ) (es : List tree.Expression) → is_some (function_named s.items name) ≡ true → (count_differs (function_named s.items name) es || inouts_wrong s (called_parameters s name) es) ≡ false
      → fault_of constructs (argument_sites s es) ≡ None → is_some (call_arguments s name es) ≡ true
  call_there name es k w h =
      let two = neither (count_differs (function_named s.items name) es) (inouts_wrong s (called_parameters s name) es) w in
      called (function_named s.items name) es k two.0 two.1 h

  -- what is controlled
  pub who_there : (w : Who) → fault_of constructs (who_sites s w) ≡ None → is_some (controlled_by s w) ≡ true
  who_there (who.Named line name) h =
      let k = keeps (site s line (part.of_who (who.Named line name))) (head_none (site s line (part.of_who (who.Named line name))) [] h).0 in
      mapped_some _ (use_of s name) (used_name s (name, need_of.Process) (site_met (site s line (part.of_who (who.Named line name))) k.known k.kind).0)
  who_there (who.Myself line) h = refl
