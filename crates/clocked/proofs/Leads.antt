-- Where tokens lead, and what is written of them on the way.
use Rattle.std.proofs.Common.{◌≡◌, ℕ, Bool, true, false, List, [], ◌∷◌, ◌++◌, Option, Some, None, ◌∙◌, refl, sym, ap, subst, append_assoc}
use Rattle.std.specs.Prelude.{option_map}
use Rattle.model_lexer.specs.Tokens.{Token, Tokens, name}
use Rattle.clocked.specs.declared.words.NewWord.{NewWord}
use Rattle.clocked.specs.declared.words.NewWord.TheVariants as n
use Rattle.clocked.specs.Words.{Sign, new, old_name, truth_value, new_word_text, new_word_of, new_word, IsOldName, sign_of_name, sign_of}
use Rattle.clocked.specs.Parts.{Has, truth}
use Rattle.clocked.specs.Turns.{State, Turn, go_on, turn, run}

-- from one place these tokens lead to another, and so much is written of them
pub record Leads (s : State) (ts : Tokens) (next : State) (out : Tokens) : Type 0 where
  pub leads : (more : Tokens) → run s (ts ++ more) ≡ option_map (λ (x : Tokens). out ++ x) (run next more)

map_none : (o : Option Tokens) → o ≡ option_map (λ (x : Tokens). x) o
map_none None = refl
map_none (Some x) = refl

map_twice : (a b : Tokens) (o : Option Tokens) → option_map (λ (x : Tokens). a ++ x) (option_map (λ (x : Tokens). b ++ x) o) ≡ option_map (λ (x : Tokens). (a ++ b) ++ x) o
map_twice a b None = refl
map_twice a b (Some x) = ap Some (sym (append_assoc a b x))

pub leads_nowhere : (s : State) → Leads s [] s []
leads_nowhere s = record { leads = λ more. map_none (run s more) }

pub leads_on : (s next last : State) (t : Token) (l : ℕ) (ts out rest : Tokens) → turn s (sign_of t) t l ≡ Some (next, out) → Leads next ts last rest → Leads s ((t, l) ∷ ts) last (out ++ rest)
leads_on s next last t l ts out rest e h =
    record {
      leads = λ more.
          ap (λ (x : Turn). go_on x (λ (y : State). run y (ts ++ more))) e
          ∙ ap (λ (x : Option Tokens). option_map (λ (y : Tokens). out ++ y) x) (h.leads more)
          ∙ map_twice out rest (run last more);
    }

pub leads_both : (s next last : State) (ts us out rest : Tokens) → Leads s ts next out → Leads next us last rest → Leads s (ts ++ us) last (out ++ rest)
leads_both s next last ts us out rest h k =
    record {
      leads = λ more.
          ap (λ (x : Tokens). run s x) (append_assoc ts us more)
          ∙ h.leads (us ++ more)
          ∙ ap (λ (x : Option Tokens). option_map (λ (y : Tokens). out ++ y) x) (k.leads more)
          ∙ map_twice out rest (run last more);
    }

pub leads_one : (s next : State) (t : Token) (l : ℕ) (out : Tokens) → turn s (sign_of t) t l ≡ Some (next, out) → Leads s ((t, l) ∷ []) next out
leads_one s next t l out e = record { leads = λ more. ap (λ (x : Turn). go_on x (λ (y : State). run y more)) e }

-- what is written may be told in another way
pub leads_to : (s next : State) (ts out told : Tokens) → out ≡ told → Leads s ts next out → Leads s ts next told
leads_to s next ts out told e h = subst (λ (x : Tokens). Leads s ts next x) e h

-- ---- signs

pub new_word_is : (u : NewWord) → new_word_of (new_word_text u) ≡ Some u
unfolding new_word_of
new_word_is n.Cthread = refl
new_word_is n.Tick = refl
new_word_is n.AsyncReset = refl
new_word_is n.SyncReset = refl
new_word_is n.TickCount = refl
new_word_is n.TickReset = refl
new_word_is n.TickAgain = refl

pub new_sign : (u : NewWord) → sign_of (new_word u) ≡ new u
new_sign u = ap (λ (x : Option NewWord). sign_of_name x (new_word_text u)) (new_word_is u)

pub old_sign : (x : List ℕ) → IsOldName x → sign_of (name x) ≡ old_name x
old_sign x h = ap (λ (u : Option NewWord). sign_of_name u x) h

pub truth_sign : (b : Bool) → sign_of (truth b) ≡ truth_value b
truth_sign true = refl
truth_sign false = refl

-- the turn of a token with this sign
pub turn_as : (s next : State) (t : Token) (l : ℕ) (sign : Sign) (out : Tokens) → sign_of t ≡ sign → turn s sign t l ≡ Some (next, out) → turn s (sign_of t) t l ≡ Some (next, out)
turn_as s next t l sign out e h = ap (λ (x : Sign). turn s x t l) e ∙ h

pub has_some : {A : Type 0} → (o : Option A) (P : A → Type 0) → Has o P → (x : A) × (o ≡ Some x) × P x
has_some None P h = absurd h
has_some (Some x) P h = (x, refl, h)
