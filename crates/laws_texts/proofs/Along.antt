-- Sites along the tokens that a rule takes: where the lines of the tokens never fall, nor do those of the sites.
use Rattle.std.proofs.Common.{◌≡◌, ℕ, ◌≤◌, Bool, true, false, List, [], ◌∷◌, ◌++◌, Option, Some, None, subst, arith}
use Rattle.model_rules.specs.Scopes.{Scope}
use Rattle.model_rules.specs.Sites.{Part, Site, site}
use Rattle.model_lexer.specs.Tokens.{Token, Tokens}
use Rattle.model_lexer.specs.Rules.{Rule, ◌⨾◌, At, Takes, Nothing, Maybe, Written, Binds, OnLine}
use Rattle.model_lexer.specs.Expressions.{Short, Parenthesized}
use Rattle.model_lexer.specs.Statements.{Braced}

-- tokens whose lines never fall, the first on this line or behind it
abbrev pub Rising : ℕ → Tokens → Type 0
Rising line [] = Unit {0}
Rising line (t ∷ ts) = (line ≤ t.1) × Rising t.1 ts

-- sites whose lines never fall, from one line up to another
abbrev pub UpTo : ℕ → List Site → ℕ → Type 0
UpTo line [] up = line ≤ up
UpTo line (x ∷ xs) up = (line ≤ x.line) × UpTo x.line xs up

earlier : (line mid up : ℕ) (xs : List Site) → line ≤ mid → UpTo mid xs up → UpTo line xs up
earlier line mid up [] h k = omega (arith, h, k)
earlier line mid up (x ∷ xs) h k = (omega (arith, h, k.0), k.1)

up_both : (line mid up : ℕ) (xs ys : List Site) → UpTo line xs mid → UpTo mid ys up → UpTo line (xs ++ ys) up
up_both line mid up [] ys h k = earlier line mid up ys h k
up_both line mid up (x ∷ xs) ys h k = (h.0, up_both x.line mid up xs ys h.1 k)

pub record Along (R : Rule) (xs : List Site) : Type 0 where
  pub along : (line : ℕ) (ts rest : Tokens) → R ts rest → Rising line ts → (up : ℕ) × UpTo line xs up × Rising up rest

rising_at : (line at : ℕ) (t : Token) (ts rest : Tokens) → At at t ts rest → Rising line ts → (line ≤ at) × Rising at rest
rising_at line at t ts rest e h = subst (Rising line) e h

pub nothing : Along Nothing []
nothing = record { along = λ line ts rest e h. (line, omega arith, subst (Rising line) e h) }

-- one token, of which no site is
pub last_at : {at : ℕ} {t : Token} → Along (At at t) []
last_at {at} {t} = record { along = λ line ts rest e h. let (first, left) = rising_at line at t ts rest e h in (at, first, left) }

pub last : {t : Token} → Along (Takes t) []
last {t} = record { along = λ line ts rest e h. let (first, left) = rising_at line e.0 t ts rest e.1 h in (e.0, first, left) }

module _ {R : Rule} {xs : List Site} where
  -- one before others
  pub past : {t : Token} → Along R xs → Along (Takes t ⨾ R) xs
  past {t} a = record {
    along = λ line ts rest (mid, (at, e), r) h.
        let (first, more) = rising_at line at t ts mid e h in
        let (up, k, left) = a.along at mid rest r more in
        (up, earlier line at up xs first k, left);
  }

  pub past_at : {at : ℕ} {t : Token} → Along R xs → Along (At at t ⨾ R) xs
  past_at {at} {t} a = record {
    along = λ line ts rest (mid, e, r) h.
        let (first, more) = rising_at line at t ts mid e h in
        let (up, k, left) = a.along at mid rest r more in
        (up, earlier line at up xs first k, left);
  }

  -- others before what has no site
  pub trail : {Q : Rule} → Along R xs → Along Q [] → Along (R ⨾ Q) xs
  trail a b = record {
    along = λ line ts rest (mid, r, q) h.
        let (mid_line, k, more) = a.along line ts mid r h in
        let (up, l, left) = b.along mid_line mid rest q more in
        (up, later line mid_line up xs k l, left);
  }
    where
      later : (line mid up : ℕ) (xs : List Site) → UpTo line xs mid → mid ≤ up → UpTo line xs up
      later line mid up [] h k = omega (arith, h, k)
      later line mid up (x ∷ xs) h k = (h.0, later x.line mid up xs h.1 k)

  -- a site at its first token, and what stands behind it
  pub headed : {at : ℕ} {t : Token} {s : Scope} {part : Part} → Along R xs → Along (At at t ⨾ R) (site s at part ∷ xs)
  headed {at} {t} a = record {
    along = λ line ts rest (mid, e, r) h.
        let (first, more) = rising_at line at t ts mid e h in
        let (up, k, left) = a.along at mid rest r more in
        (up, (first, k), left);
  }

  -- the same tokens for another rule
  pub by : {Q : Rule} → ((ts rest : Tokens) → Q ts rest → R ts rest) → Along R xs → Along Q xs
  by f a = record { along = λ line ts rest q h. a.along line ts rest (f ts rest q) h }

-- a site at its only token
pub alone : {at : ℕ} {t : Token} {s : Scope} {part : Part} → Along (At at t) (site s at part ∷ [])
alone {at} {t} = record { along = λ line ts rest e h. let (first, left) = rising_at line at t ts rest e h in (at, (first, omega arith), left) }

module _ {R Q : Rule} {xs ys : List Site} where
  pub both : Along R xs → Along Q ys → Along (R ⨾ Q) (xs ++ ys)
  both a b = record {
    along = λ line ts rest (mid, r, q) h.
        let (mid_line, k, more) = a.along line ts mid r h in
        let (up, l, left) = b.along mid_line mid rest q more in
        (up, up_both line mid_line up xs ys k l, left);
  }

-- the same rules, put together in another way
pub as_one : {P Q R : Rule} {xs : List Site} → Along (P ⨾ (Q ⨾ R)) xs → Along ((P ⨾ Q) ⨾ R) xs
as_one a = record { along = λ line ts rest (m1, (m2, p, q), r) h. a.along line ts rest (m2, p, (m1, q, r)) h }

-- the first of these sites is on this line
abbrev pub LeadsAt : ℕ → List Site → Type 0
LeadsAt line [] = ⊥
LeadsAt line (x ∷ xs) = x.line ≡ line

pub leads_on : (line : ℕ) (xs ys : List Site) → LeadsAt line xs → LeadsAt line (xs ++ ys)
leads_on line [] ys h = absurd h
leads_on line (x ∷ xs) ys h = h

-- an outer site that begins where its first part does
pub again : {R : Rule} {xs : List Site} {s : Scope} {at : ℕ} {part : Part} → LeadsAt at xs → Along R xs → Along R (site s at part ∷ xs)
again {R} {xs} {s} {at} {part} h a = record { along = λ line ts rest r k. let (up, l, left) = a.along line ts rest r k in (up, twice line up xs h l, left) }
  where
    twice : (line up : ℕ) (xs : List Site) → LeadsAt at xs → UpTo line xs up → UpTo line (site s at part ∷ xs) up
    twice line up [] h k = absurd h
    twice line up (x ∷ xs) h k = (omega (arith, h, k.0), (omega (arith, h), k.1))

pub moved : {R : Rule} {xs ys : List Site} → xs ≡ ys → Along R xs → Along R ys
moved {R} e a = subst (Along R) e a

pub bind : {wanted own : ℕ} {P : Rule} {xs : List Site} → Along P xs → Along (Binds wanted own P) xs
bind a = by (λ ts rest q. q.1) a

pub short : {P : Rule} {xs : List Site} → Along P xs → Along (Short P) xs
short a = by (λ ts rest q. q.0) a

pub on_line : {line at : ℕ} {P : Rule} {xs : List Site} → Along P xs → Along (OnLine line at P) xs
on_line a = by (λ ts rest q. q.1) a

pub any_line : {P : ℕ → Rule} {xs : List Site} → ((line : ℕ) → Along (P line) xs) → Along (λ ts rest. (line : ℕ) × P line ts rest) xs
any_line a = record { along = λ line ts rest q h. (a q.0).along line ts rest q.1 h }

pub parenthesized : {P : Rule} {xs : List Site} → Along P xs → Along (Parenthesized P) xs
parenthesized a = past (trail (short a) last)

pub braced : {P : Rule} {xs : List Site} → Along P xs → Along (Braced P) xs
braced a = past (trail a last)

pub written : (t : Token) (b : Bool) → Along (Written t b) []
written t true = last
written t false = nothing

-- what may be written, and has no site
pub maybe : {A : Type 0} (R : A → Rule) → ((x : A) → Along (R x) []) → (o : Option A) → Along (Maybe R o) []
maybe R f None = nothing
maybe R f (Some x) = f x
