-- Two configurations in a turn of one process, which does the same in both: what it does, step by step, and what follows of that.
use Rattle.std.proofs.Common.{◌≡◌, ℕ, List, [], ◌∷◌, ◌++◌, All, slice_get, drop, refl, sym, ap, ◌∙◌}
use Rattle.std.proofs.lemmas.List.Elements.{All-nil, All-cons, All-append}
use Rattle.sim_model.specs.Residual.{Mark}
use Rattle.sim_model.specs.Configuration.{Config, Instance, Told, instance_at, change_instance, with_marks, with_told}
use Rattle.sim_model.specs.Waits.{leaves_stack}
use Rattle.order_free.specs.declared.uses.Use.{Use}
use Rattle.laws_order.specs.Acts as act
use Rattle.laws_order.specs.Acts.{Act, acted, acted_all, Allows}
use Rattle.laws_order.specs.Sees.{unnumbered, Sees}
use Rattle.laws_order.specs.Alongside.{rest, Did, Alongside}
use Rattle.laws_order.proofs.Lists.{change-alike, change-apart}
use Rattle.laws_order.proofs.ProcessViews.{with-own, with-trace, acted-alike}

-- of instances that are equal but for the numbers of their guards both make such again
abbrev pub SameChange : (Instance → Instance) → (Instance → Instance) → Type 0
SameChange f g = (i j : Instance) → unnumbered j ≡ unnumbered i → unnumbered (g j) ≡ unnumbered (f i)

pub data Along (Has : Use → Type 0) (p : ℕ) (c x : Config) : Config → Config → Type 0 where
  begun : Along Has p c x c x
  -- itself
  own : (e y : Config) (f g : Instance → Instance) → SameChange f g → Along Has p c x e y → Along Has p c x (change_instance e p f) (change_instance y p g)
  leaving : (e y : Config) → Along Has p c x e y → Along Has p c x (leaves_stack e) (leaves_stack y)
  -- the report, and the marks and numbers of guards
  telling : (e y : Config) (t u : Told) → Along Has p c x e y → Along Has p c x (with_told e t) (with_told y u)
  marking : (e y : Config) (ms ns : List Mark) → Along Has p c x e y → Along Has p c x (with_marks e ms) (with_marks y ns)
  numbering : (e y : Config) (g h : ℕ) → Along Has p c x e y → Along Has p c x (record e { trace = record e.trace { next_guard = g } }) (record y { trace = record y.trace { next_guard = h } })
  -- what is shared
  acting : (e y : Config) (a : Act) → Allows Has a → Along Has p c x e y → Along Has p c x (acted p e a) (acted p y a)

-- ---- acts one after another

acted_more : (p : ℕ) (c : Config) (log : List Act) (a : Act) → acted_all p c (log ++ a ∷ []) ≡ acted p (acted_all p c log) a
acted_more p c [] a = refl
acted_more p c (b ∷ bs) a = acted_more p (acted p c b) bs a

rest_acted : (p : ℕ) (c : Config) (a : Act) → rest (acted p c a) ≡ acted p (rest c) a
rest_acted p c (act.stores v y) = refl
rest_acted p c (act.fills m bytes) = refl
rest_acted p c (act.writes n y) = refl
rest_acted p c (act.drives n y) = refl
rest_acted p c (act.takes n) = refl
rest_acted p c (act.gives n y) = refl
rest_acted p c (act.notifies e w) = refl
rest_acted p c (act.cancels e) = refl
rest_acted p c (act.keeps n k) = refl
rest_acted p c (act.sets_global t) = refl

others_acted : (p : ℕ) (c : Config) (a : Act) (q : ℕ) → instance_at (acted p c a) q ≡ instance_at c q
others_acted p c (act.stores v y) q = refl
others_acted p c (act.fills m bytes) q = refl
others_acted p c (act.writes n y) q = refl
others_acted p c (act.drives n y) q = refl
others_acted p c (act.takes n) q = refl
others_acted p c (act.gives n y) q = refl
others_acted p c (act.notifies e w) q = refl
others_acted p c (act.cancels e) q = refl
others_acted p c (act.keeps n k) q = refl
others_acted p c (act.sets_global t) q = refl

stack_acted : (p : ℕ) (c : Config) (a : Act) → (acted p c a).processes.stack ≡ c.processes.stack
stack_acted p c (act.stores v y) = refl
stack_acted p c (act.fills m bytes) = refl
stack_acted p c (act.writes n y) = refl
stack_acted p c (act.drives n y) = refl
stack_acted p c (act.takes n) = refl
stack_acted p c (act.gives n y) = refl
stack_acted p c (act.notifies e w) = refl
stack_acted p c (act.cancels e) = refl
stack_acted p c (act.keeps n k) = refl
stack_acted p c (act.sets_global t) = refl

did-more : (p : ℕ) (log : List Act) (c e : Config) (a : Act) → Did p log c e → Did p (log ++ a ∷ []) c (acted p e a)
did-more p log c e a d = record {
  others = λ q apart. others_acted p e a q ∙ d.others q apart;
  shared = rest_acted p e a ∙ ap (λ z. acted p z a) d.shared ∙ sym (rest_acted p (acted_all p c log) a) ∙ ap rest (sym (acted_more p c log a));
}

did-own : (p : ℕ) (log : List Act) (c e : Config) (f : Instance → Instance) → Did p log c e → Did p log c (change_instance e p f)
did-own p log c e f d = record { others = λ q apart. change-apart f e.processes.instances p q apart ∙ d.others q apart; shared = d.shared }

same_rest : (p : ℕ) (log : List Act) (c e d : Config) → d.processes.instances ≡ e.processes.instances → rest d ≡ rest e → Did p log c e → Did p log c d
same_rest p log c e d instances left h = record { others = λ q apart. ap (λ is. slice_get is q) instances ∙ h.others q apart; shared = left ∙ h.shared }

all_more : (Has : Use → Type 0) (log : List Act) (a : Act) → All (Allows Has) log → Allows Has a → All (Allows Has) (log ++ a ∷ [])
all_more Has log a all one = All-append (Allows Has) log (a ∷ []) all (All-cons (Allows Has) a [] one (All-nil (Allows Has)))

module _ (Has : Use → Type 0) (p : ℕ) (c x : Config) where
  abbrev log_of : (e y : Config) → Along Has p c x e y → List Act
  log_of _ _ begun = []
  log_of _ _ (own e y f g same a) = log_of e y a
  log_of _ _ (leaving e y a) = log_of e y a
  log_of _ _ (telling e y t u a) = log_of e y a
  log_of _ _ (marking e y ms ns a) = log_of e y a
  log_of _ _ (numbering e y g h a) = log_of e y a
  log_of _ _ (acting e y b allowed a) = log_of e y a ++ b ∷ []

  allowed_all : (e y : Config) (a : Along Has p c x e y) → All (Allows Has) (log_of e y a)
  allowed_all _ _ begun = All-nil (Allows Has)
  allowed_all _ _ (own e y f g same a) = allowed_all e y a
  allowed_all _ _ (leaving e y a) = allowed_all e y a
  allowed_all _ _ (telling e y t u a) = allowed_all e y a
  allowed_all _ _ (marking e y ms ns a) = allowed_all e y a
  allowed_all _ _ (numbering e y g h a) = allowed_all e y a
  allowed_all _ _ (acting e y b allowed a) = all_more Has (log_of e y a) b (allowed_all e y a) allowed

  did_here : (e y : Config) (a : Along Has p c x e y) → Did p (log_of e y a) c e
  did_here _ _ begun = record { others = λ q apart. refl; shared = refl }
  did_here _ _ (own e y f g same a) = did-own p (log_of e y a) c e f (did_here e y a)
  did_here _ _ (leaving e y a) = same_rest p (log_of e y a) c e (leaves_stack e) refl refl (did_here e y a)
  did_here _ _ (telling e y t u a) = same_rest p (log_of e y a) c e (with_told e t) refl refl (did_here e y a)
  did_here _ _ (marking e y ms ns a) = same_rest p (log_of e y a) c e (with_marks e ms) refl refl (did_here e y a)
  did_here _ _ (numbering e y g h a) = same_rest p (log_of e y a) c e (record e { trace = record e.trace { next_guard = g } }) refl refl (did_here e y a)
  did_here _ _ (acting e y b allowed a) = did-more p (log_of e y a) c e b (did_here e y a)

  did_there : (e y : Config) (a : Along Has p c x e y) → Did p (log_of e y a) x y
  did_there _ _ begun = record { others = λ q apart. refl; shared = refl }
  did_there _ _ (own e y f g same a) = did-own p (log_of e y a) x y g (did_there e y a)
  did_there _ _ (leaving e y a) = same_rest p (log_of e y a) x y (leaves_stack y) refl refl (did_there e y a)
  did_there _ _ (telling e y t u a) = same_rest p (log_of e y a) x y (with_told y u) refl refl (did_there e y a)
  did_there _ _ (marking e y ms ns a) = same_rest p (log_of e y a) x y (with_marks y ns) refl refl (did_there e y a)
  did_there _ _ (numbering e y g h a) = same_rest p (log_of e y a) x y (record y { trace = record y.trace { next_guard = h } }) refl refl (did_there e y a)
  did_there _ _ (acting e y b allowed a) = did-more p (log_of e y a) x y b (did_there e y a)

  module _ (s : Sees Has p c x) where
    pub along-sees : (e y : Config) → Along Has p c x e y → Sees Has p e y
    along-sees _ _ begun = s
    along-sees _ _ (own e y f g same a) = with-own Has p e y (along-sees e y a) (change_instance e p f).processes (change_instance y p g).processes (change-alike unnumbered f g same e.processes.instances y.processes.instances p p (along-sees e y a).own)
    along-sees _ _ (leaving e y a) = with-own Has p e y (along-sees e y a) (leaves_stack e).processes (leaves_stack y).processes (along-sees e y a).own
    along-sees _ _ (telling e y t u a) = with-trace Has p e y (along-sees e y a) (with_told e t).trace (with_told y u).trace
    along-sees _ _ (marking e y ms ns a) = with-trace Has p e y (along-sees e y a) (with_marks e ms).trace (with_marks y ns).trace
    along-sees _ _ (numbering e y g h a) = with-trace Has p e y (along-sees e y a) (record e.trace { next_guard = g }) (record y.trace { next_guard = h })
    along-sees _ _ (acting e y b allowed a) = acted-alike Has p e y (along-sees e y a) p b

    module _ (even : x.processes.stack ≡ c.processes.stack) where
      along_stack : (e y : Config) → Along Has p c x e y → y.processes.stack ≡ e.processes.stack
      along_stack _ _ begun = even
      along_stack _ _ (own e y f g same a) = along_stack e y a
      along_stack _ _ (leaving e y a) = ap (drop 1) (along_stack e y a)
      along_stack _ _ (telling e y t u a) = along_stack e y a
      along_stack _ _ (marking e y ms ns a) = along_stack e y a
      along_stack _ _ (numbering e y g h a) = along_stack e y a
      along_stack _ _ (acting e y b allowed a) = stack_acted p y b ∙ along_stack e y a ∙ sym (stack_acted p e b)

      -- what was done alike, as it is said of a turn
      pub alongside : (e y : Config) → Along Has p c x e y → Alongside Has p c x e y
      alongside e y a = record { log = log_of e y a; allowed = allowed_all e y a; here = did_here e y a; there = did_there e y a; sees = along-sees e y a; stack = along_stack e y a }
