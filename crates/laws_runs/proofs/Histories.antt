-- Hops that grow by entries that may come, while the calls that are open are those of a list for each instance.
use Rattle.std.proofs.Common.{◌≡◌, ◌≢◌, ◌==◌, ℕ, Bool, true, false, cond, ◌⊎◌, List, [], ◌∷◌, ◌++◌, slice_get, unwrap_or, Some, None, refl, sym, ap, ◌∙◌, subst, inl, inr, ⊎_elim, eq-eqb, ne_eqb}
use Rattle.std.proofs.lemmas.Bool.{cases_eq}
use Rattle.sim_model.specs.TransportPhases.declared.transaction.Open.{Open}
use Rattle.sim_model.specs.TransportPhases.declared.transaction.Open.TheVariants.{Nothing}
use Rattle.sim_model.specs.TransportPhases.declared.transaction.Kept.{Kept}
use Rattle.sim_model.specs.TransportPhases.Phases.{fresh}
use Rattle.sim_model.specs.TransportPhases.History.{Entry, transaction, after_entry, kept_from, kept_of, is_open, broken}
use Rattle.sim_model.specs.TransportPhases.Lawful.{Lawful}
use Rattle.sim_model.specs.TransportPhases.Order.{MayCome}
use Rattle.sim_model.proofs.TransportPhases.LawfulLemmas.{lawful_more}
use Rattle.sim_model.specs.Configuration.{change}
use Rattle.sim_model.specs.declared.plain.Via.{Via}
use Rattle.laws_runs.proofs.Changes.{change-here, change-other}
use Rattle.laws_runs.proofs.GoalParts.{with_entry_in}
use Rattle.laws_runs.proofs.NestingFits.{In}
use Rattle.laws_runs.specs.OpenCalls.{call_of}

abbrev pub history_of : List (List Entry) → ℕ → List Entry
history_of hops hop = unwrap_or (slice_get hops hop) []

-- ---- one entry more

kept_one : (t : ℕ) (k : Kept) (h : List Entry) (e : Entry) → kept_from t k (h ++ e ∷ []) ≡ cond (transaction e == t) (after_entry e (kept_from t k h)) (kept_from t k h)
kept_one t k [] e = refl
kept_one t k (x ∷ h) e = kept_one t (cond (transaction x == t) (after_entry x k) k) h e

pub kept-here : (h : List Entry) (e : Entry) (t : ℕ) → transaction e ≡ t → kept_of (h ++ e ∷ []) t ≡ after_entry e (kept_of h t)
kept-here h e t is = kept_one t fresh h e ∙ ap (λ b. cond b (after_entry e (kept_of h t)) (kept_of h t)) (eq-eqb (transaction e) t is)

pub kept-other : (h : List Entry) (e : Entry) (t : ℕ) → (transaction e ≡ t → ⊥) → kept_of (h ++ e ∷ []) t ≡ kept_of h t
kept-other h e t apart = kept_one t fresh h e ∙ ap (λ b. cond b (after_entry e (kept_of h t)) (kept_of h t)) (ne_eqb (transaction e) t apart)

-- ---- and the hops

pub hist-here : (hops : List (List Entry)) (hop : ℕ) (h : List Entry) (e : Entry) → slice_get hops hop ≡ Some h → history_of (with_entry_in hops hop e) hop ≡ history_of hops hop ++ e ∷ []
hist-here hops hop h e at = ap (λ o. unwrap_or o []) (change-here hops hop (λ x. x ++ e ∷ []) h at) ∙ sym (ap (λ o. unwrap_or o [] ++ e ∷ []) at)

pub hist-other : (hops : List (List Entry)) (hop k : ℕ) (e : Entry) → k ≢ hop → history_of (with_entry_in hops hop e) k ≡ history_of hops k
hist-other hops hop k e apart = ap (λ o. unwrap_or o []) (change-other hops hop k (λ x. x ++ e ∷ []) apart)

abbrev pub IsHop : List (List Entry) → ℕ → Type 0
IsHop hops hop = (h : List Entry) × (slice_get hops hop ≡ Some h)

pub hop-stays : (hops : List (List Entry)) (hop k : ℕ) (e : Entry) → IsHop hops k → IsHop (with_entry_in hops hop e) k
hop-stays hops hop k e h = ⊎_elim
    (λ same. (h.0 ++ e ∷ [], subst (λ n. slice_get (change hops n (λ x. x ++ e ∷ [])) k ≡ Some (h.0 ++ e ∷ [])) same (change-here hops k (λ x. x ++ e ∷ []) h.0 h.1)))
    (λ apart. (h.0, change-other hops hop k (λ x. x ++ e ∷ []) apart ∙ h.1))
    (cases_eq k hop)

-- ---- open calls

pub call-open : (b : Bool) → call_of b ≡ Nothing → ⊥
call-open true e = cc
call-open false e = cc

-- two calls of one transaction over one hop
abbrev pub Same : Via → Via → Type 0
Same v w = (v.hop ≡ w.hop) × (v.payload ≡ w.payload)

pub record IsOpenFor (hops : List (List Entry)) (v : Via) : Type 0 where
  pub hop : IsHop hops v.hop
  pub is_it : is_open (history_of hops v.hop) v.payload ≡ call_of v.blocking

abbrev pub Apart : List Via → Type 0
Apart [] = Unit {0}
Apart (v ∷ vs) = ((w : Via) → In w vs → Same v w → ⊥) × Apart vs

-- a call of a transaction over a hop is one of an instance
abbrev pub Owner : (ℕ → List Via) → ℕ → ℕ → Type 0
Owner calls hop t = (p : ℕ) × (v : Via) × In v (calls p) × (v.hop ≡ hop) × (v.payload ≡ t)

-- each history is lawful; the calls of each instance are open, and no two of them are the same; and no other call is open
pub record Hopped (hops : List (List Entry)) (calls : ℕ → List Via) : Type 0 where
  pub lawful : (hop : ℕ) → Lawful (history_of hops hop)
  pub open_ : (p : ℕ) (v : Via) → In v (calls p) → IsOpenFor hops v
  pub own : (p : ℕ) → Apart (calls p)
  pub across : (p q : ℕ) (v w : Via) → (p ≡ q → ⊥) → In v (calls p) → In w (calls q) → Same v w → ⊥
  pub owned : (hop t : ℕ) → (is_open (history_of hops hop) t ≡ Nothing) ⊎ Owner calls hop t

owner_kept : (calls others : ℕ → List Via) (hop t : ℕ) → ((p : ℕ) (v : Via) → v.hop ≡ hop → v.payload ≡ t → In v (calls p) → In v (others p)) → Owner calls hop t → Owner others hop t
owner_kept calls others hop t kept o = (o.0, o.1, kept o.0 o.1 o.3 o.4 o.2, o.3, o.4)

either_kept : (calls others : ℕ → List Via) (hop t : ℕ) (o p : Open) → o ≡ p → (Owner calls hop t → Owner others hop t) → (o ≡ Nothing) ⊎ Owner calls hop t → (p ≡ Nothing) ⊎ Owner others hop t
either_kept calls others hop t o p same kept (inl none) = inl (sym same ∙ none)
either_kept calls others hop t o p same kept (inr owner) = inr (kept owner)

-- calls that are told in another way
pub same-hopped : (hops : List (List Entry)) (calls others : ℕ → List Via) → ((p : ℕ) → others p ≡ calls p) → Hopped hops calls → Hopped hops others
same-hopped hops calls others same h = record {
  lawful = h.lawful;
  open_ = λ p v is. h.open_ p v (subst (In v) (same p) is);
  own = λ p. subst Apart (sym (same p)) (h.own p);
  across = λ p q v w apart a b. h.across p q v w apart (subst (In v) (same p) a) (subst (In w) (same q) b);
  owned = λ hop t. either_kept calls others hop t (is_open (history_of hops hop) t) (is_open (history_of hops hop) t) refl (owner_kept calls others hop t (λ p v a b is. subst (In v) (sym (same p)) is)) (h.owned hop t);
}

-- ---- an entry ends the innermost call of an instance

module _ (hops : List (List Entry)) (calls others : ℕ → List Via) (q : ℕ) (v : Via) (rest : List Via) (was : calls q ≡ v ∷ rest) (now : others q ≡ rest) (same : (p : ℕ) → p ≢ q → others p ≡ calls p) (h : Hopped hops calls) where
  old_in : (p : ℕ) (w : Via) → In w (others p) → In w (calls p)
  old_in p w is = ⊎_elim
      (λ e. subst (λ n. In w (calls n)) (sym e) (subst (In w) (sym was) (inr (subst (In w) (ap others e ∙ now) is))))
      (λ apart. subst (In w) (same p apart) is)
      (cases_eq p q)

  first_open : IsOpenFor hops v
  first_open = h.open_ q v (subst (In v) (sym was) (inl refl))

  not_first : (p : ℕ) (w : Via) → In w (others p) → Same v w → ⊥
  not_first p w is alike = ⊎_elim
      (λ e. (subst Apart was (h.own q)).0 w (subst (In w) (ap others e ∙ now) is) alike)
      (λ apart. h.across q p v w (λ e. apart (sym e)) (subst (In v) (sym was) (inl refl)) (subst (In w) (same p apart) is) alike)
      (cases_eq p q)

  module _ (e : Entry) (of : transaction e ≡ v.payload) (comes : MayCome (history_of hops v.hop) e) (unbroken : broken (history_of hops v.hop) e ≡ None) (shuts : is_open (history_of hops v.hop ++ e ∷ []) v.payload ≡ Nothing) where
    grown : List (List Entry)
    grown = with_entry_in hops v.hop e

    lawful_here : Lawful (history_of hops v.hop ++ e ∷ [])
    lawful_here = lawful_more (history_of hops v.hop) e (h.lawful v.hop) comes unbroken

    lawful_all : (hop : ℕ) → Lawful (history_of (with_entry_in hops v.hop e) hop)
    lawful_all hop = ⊎_elim
        (λ s. subst (λ n. Lawful (history_of (with_entry_in hops v.hop e) n)) (sym s) (subst Lawful (sym (hist-here hops v.hop first_open.hop.0 e first_open.hop.1)) lawful_here))
        (λ apart. subst Lawful (sym (hist-other hops v.hop hop e apart)) (h.lawful hop))
        (cases_eq hop v.hop)

    -- of another transaction, or over another hop
    others_open : (hop t : ℕ) → (v.hop ≡ hop → v.payload ≡ t → ⊥) → is_open (history_of (with_entry_in hops v.hop e) hop) t ≡ is_open (history_of hops hop) t
    others_open hop t apart = ⊎_elim
        (λ s. ap (λ x. is_open x t) (ap (history_of (with_entry_in hops v.hop e)) s ∙ hist-here hops v.hop first_open.hop.0 e first_open.hop.1)
        ∙ ap (λ (k : Kept). k.call) (kept-other (history_of hops v.hop) e t (λ u. apart (sym s) (sym of ∙ u)))
        ∙ ap (λ n. is_open (history_of hops n) t) (sym s))
        (λ other. ap (λ x. is_open x t) (hist-other hops v.hop hop e other))
        (cases_eq hop v.hop)

    still : (w : Via) → IsOpenFor hops w → (Same v w → ⊥) → is_open (history_of (with_entry_in hops v.hop e) w.hop) w.payload ≡ call_of w.blocking
    still w o apart = others_open w.hop w.payload (λ a b. apart (a, b)) ∙ o.is_it

    shut_here : is_open (history_of (with_entry_in hops v.hop e) v.hop) v.payload ≡ Nothing
    shut_here = ap (λ x. is_open x v.payload) (hist-here hops v.hop first_open.hop.0 e first_open.hop.1) ∙ shuts

    -- a call that is not v stays
    but_first : (w : Via) → (v ≡ w → ⊥) → In w (v ∷ rest) → In w rest
    but_first w apart (inl a) = absurd (apart a)
    but_first w apart (inr b) = b

    stays_in : (p : ℕ) (w : Via) → (v ≡ w → ⊥) → In w (calls p) → In w (others p)
    stays_in p w apart is = ⊎_elim
        (λ s. subst (In w) (sym (ap others s ∙ now)) (but_first w apart (subst (In w) (ap calls s ∙ was) is)))
        (λ other. subst (In w) (sym (same p other)) is)
        (cases_eq p q)

    owned_else : (hop t : ℕ) → (v.hop ≡ hop → v.payload ≡ t → ⊥) → (is_open (history_of (with_entry_in hops v.hop e) hop) t ≡ Nothing) ⊎ Owner others hop t
    owned_else hop t apart =
        either_kept calls others hop t (is_open (history_of hops hop) t) (is_open (history_of (with_entry_in hops v.hop e) hop) t) (sym (others_open hop t apart))
        (owner_kept calls others hop t (λ p w a b is. stays_in p w (λ s. apart (ap (λ (x : Via). x.hop) s ∙ a) (ap (λ (x : Via). x.payload) s ∙ b)) is)) (h.owned hop t)

    owned_now : (hop t : ℕ) → (is_open (history_of (with_entry_in hops v.hop e) hop) t ≡ Nothing) ⊎ Owner others hop t
    owned_now hop t = ⊎_elim
        (λ a. ⊎_elim
        (λ b. inl (subst (λ n. is_open (history_of (with_entry_in hops v.hop e) n) t ≡ Nothing) a (subst (λ u. is_open (history_of (with_entry_in hops v.hop e) v.hop) u ≡ Nothing) b shut_here)))
        (λ b. owned_else hop t (λ c d. b d))
        (cases_eq v.payload t))
        (λ a. owned_else hop t (λ c d. a c))
        (cases_eq v.hop hop)

    pub closes-hopped : Hopped (with_entry_in hops v.hop e) others
    closes-hopped = record {
      lawful = lawful_all;
      open_ = λ p w is. let o = h.open_ p w (old_in p w is) in record { hop = hop-stays hops v.hop w.hop e o.hop; is_it = still w o (not_first p w is) };
      own = λ p. ⊎_elim (λ s. subst Apart (sym (ap others s ∙ now)) (subst Apart was (h.own q)).1) (λ apart. subst Apart (sym (same p apart)) (h.own p)) (cases_eq p q);
      across = λ p r w x apart a b. h.across p r w x apart (old_in p w a) (old_in r x b);
      owned = owned_now;
    }

-- ---- an entry opens a call of an instance

module _ (hops : List (List Entry)) (calls others : ℕ → List Via) (q : ℕ) (v : Via) (now : others q ≡ v ∷ calls q) (same : (p : ℕ) → p ≢ q → others p ≡ calls p) (h : Hopped hops calls) (there : IsHop hops v.hop)
    (e : Entry) (of : transaction e ≡ v.payload) (comes : MayCome (history_of hops v.hop) e) (unbroken : broken (history_of hops v.hop) e ≡ None)
    (closed : is_open (history_of hops v.hop) v.payload ≡ Nothing) (opened : is_open (history_of hops v.hop ++ e ∷ []) v.payload ≡ call_of v.blocking) where
  -- no call of this transaction was open
  none_alike : (p : ℕ) (w : Via) → In w (calls p) → Same v w → ⊥
  none_alike p w is alike =
      let o = h.open_ p w is in
      call-open w.blocking (sym o.is_it ∙ ap (λ n. is_open (history_of hops n) w.payload) (sym alike.0) ∙ ap (is_open (history_of hops v.hop)) (sym alike.1) ∙ closed)

  lawful_now : (hop : ℕ) → Lawful (history_of (with_entry_in hops v.hop e) hop)
  lawful_now hop = ⊎_elim
      (λ s. subst (λ n. Lawful (history_of (with_entry_in hops v.hop e) n)) (sym s) (subst Lawful (sym (hist-here hops v.hop there.0 e there.1)) (lawful_more (history_of hops v.hop) e (h.lawful v.hop) comes unbroken)))
      (λ apart. subst Lawful (sym (hist-other hops v.hop hop e apart)) (h.lawful hop))
      (cases_eq hop v.hop)

  rest_open : (hop t : ℕ) → (v.hop ≡ hop → v.payload ≡ t → ⊥) → is_open (history_of (with_entry_in hops v.hop e) hop) t ≡ is_open (history_of hops hop) t
  rest_open hop t apart = ⊎_elim
      (λ s. ap (λ x. is_open x t) (ap (history_of (with_entry_in hops v.hop e)) s ∙ hist-here hops v.hop there.0 e there.1)
      ∙ ap (λ (k : Kept). k.call) (kept-other (history_of hops v.hop) e t (λ u. apart (sym s) (sym of ∙ u)))
      ∙ ap (λ n. is_open (history_of hops n) t) (sym s))
      (λ other. ap (λ x. is_open x t) (hist-other hops v.hop hop e other))
      (cases_eq hop v.hop)

  still_open : (w : Via) → IsOpenFor hops w → (Same v w → ⊥) → is_open (history_of (with_entry_in hops v.hop e) w.hop) w.payload ≡ call_of w.blocking
  still_open w o apart = rest_open w.hop w.payload (λ a b. apart (a, b)) ∙ o.is_it

  new_owner : Owner others v.hop v.payload
  new_owner = (q, v, subst (In v) (sym now) (inl refl), refl, refl)

  old_stays : (p : ℕ) (w : Via) → In w (calls p) → In w (others p)
  old_stays p w is = ⊎_elim (λ s. subst (In w) (sym (ap others s ∙ now)) (inr (subst (In w) (ap calls s) is))) (λ other. subst (In w) (sym (same p other)) is) (cases_eq p q)

  owned_beside : (hop t : ℕ) → (v.hop ≡ hop → v.payload ≡ t → ⊥) → (is_open (history_of (with_entry_in hops v.hop e) hop) t ≡ Nothing) ⊎ Owner others hop t
  owned_beside hop t apart =
      either_kept calls others hop t (is_open (history_of hops hop) t) (is_open (history_of (with_entry_in hops v.hop e) hop) t) (sym (rest_open hop t apart))
      (owner_kept calls others hop t (λ p w a b is. old_stays p w is)) (h.owned hop t)

  owned_too : (hop t : ℕ) → (is_open (history_of (with_entry_in hops v.hop e) hop) t ≡ Nothing) ⊎ Owner others hop t
  owned_too hop t = ⊎_elim
      (λ a. ⊎_elim (λ b. inr (subst (λ n. Owner others n t) a (subst (λ u. Owner others v.hop u) b new_owner))) (λ b. owned_beside hop t (λ c d. b d)) (cases_eq v.payload t))
      (λ a. owned_beside hop t (λ c d. a c))
      (cases_eq v.hop hop)

  new_open : IsOpenFor (with_entry_in hops v.hop e) v
  new_open = record { hop = hop-stays hops v.hop v.hop e there; is_it = ap (λ x. is_open x v.payload) (hist-here hops v.hop there.0 e there.1) ∙ opened }

  old_open : (p : ℕ) (w : Via) → In w (calls p) → IsOpenFor (with_entry_in hops v.hop e) w
  old_open p w is = let o = h.open_ p w is in record { hop = hop-stays hops v.hop w.hop e o.hop; is_it = still_open w o (none_alike p w is) }

  -- the new call, or an old one
  which : (p : ℕ) (w : Via) → In w (others p) → ((p ≡ q) × (v ≡ w)) ⊎ In w (calls p)
  which p w is = ⊎_elim
      (λ s. by s (subst (In w) (ap others s ∙ now) is))
      (λ apart. inr (subst (In w) (same p apart) is))
      (cases_eq p q)
    where
      by : p ≡ q → In w (v ∷ calls q) → ((p ≡ q) × (v ≡ w)) ⊎ In w (calls p)
      by s (inl e) = inl (s, e)
      by s (inr h) = inr (subst (λ n. In w (calls n)) (sym s) h)

  cross : (p r : ℕ) (w x : Via) → (p ≡ r → ⊥) → ((p ≡ q) × (v ≡ w)) ⊎ In w (calls p) → ((r ≡ q) × (v ≡ x)) ⊎ In x (calls r) → Same w x → ⊥
  cross p r w x apart (inl a) (inl b) alike = apart (a.0 ∙ sym b.0)
  cross p r w x apart (inl a) (inr b) alike = none_alike r x b (subst (λ y. Same y x) (sym a.1) alike)
  cross p r w x apart (inr a) (inl b) alike = none_alike p w a (let back = subst (λ y. Same w y) (sym b.1) alike in (sym back.0, sym back.1))
  cross p r w x apart (inr a) (inr b) alike = h.across p r w x apart a b alike

  pub opens-hopped : Hopped (with_entry_in hops v.hop e) others
  opens-hopped = record {
    lawful = lawful_now;
    open_ = λ p w is. ⊎_elim (λ a. subst (IsOpenFor (with_entry_in hops v.hop e)) a.1 new_open) (λ b. old_open p w b) (which p w is);
    own = λ p. ⊎_elim (λ s. subst Apart (sym (ap others s ∙ now)) ((λ w is alike. none_alike q w is alike), h.own q)) (λ apart. subst Apart (sym (same p apart)) (h.own p)) (cases_eq p q);
    across = λ p r w x apart a b. cross p r w x apart (which p w a) (which r x b);
    owned = owned_too;
  }
