-- What is said of each part of an action, said of the action; and an action with its parts written otherwise is made of these parts.
use Rattle.std.proofs.Common.{◌≡◌, List, [], ◌∷◌, map, refl, sym, ap, subst}
use Rattle.model_tree.specs.Tree as tree
use Rattle.model_tree.specs.Parts.{Part, Form, form_of, parts_of, word_of_action, Change, changed, changed_part, changed_form, behind, joined}

-- two words of the parts that are linked for each part are linked for all
module _ {A B : Type 0} (Linked : A → B → Type 0) (f : Part → A) (g : Part → B) (join : A → A → A) (link : B → B → B) (empty : A) (none : B)
    (both : (x y : A) (u v : B) → Linked x u → Linked y v → Linked (join x y) (link u v)) (each : (p : Part) → Linked (f p) (g p)) where
  pub linked_behind : (p : Part) (ps : List Part) → Linked (behind f join empty p ps) (behind g link none p ps)
  linked_behind p [] = each p
  linked_behind p (q ∷ qs) = both (f p) (behind f join empty q qs) (g p) (behind g link none q qs) (each p) (linked_behind q qs)

  pub linked : Linked empty none → (ps : List Part) → Linked (joined f join empty ps) (joined g link none ps)
  linked ends [] = ends
  linked ends (p ∷ ps) = linked_behind p ps

-- of parts that are written otherwise
module _ {A : Type 0} (f : Part → A) (join : A → A → A) (empty : A) (h : Part → Part) where
  mapped_behind : (p : Part) (ps : List Part) → behind f join empty (h p) (map h ps) ≡ behind (λ q. f (h q)) join empty p ps
  mapped_behind p [] = refl
  mapped_behind p (q ∷ qs) = ap (join (f (h p))) (mapped_behind q qs)

  pub mapped : (ps : List Part) → joined f join empty (map h ps) ≡ joined (λ q. f (h q)) join empty ps
  mapped [] = refl
  mapped (p ∷ ps) = mapped_behind p ps

module _ (f : Change) where
  pub changes : (a : tree.Action) → form_of (changed f a) ≡ changed_form f (form_of a)
  changes tree.stop = refl
  changes _ = refl

  pub changed_word : (a : tree.Action) → word_of_action (changed f a) ≡ word_of_action a
  changed_word a = ap (λ (x : Form). x.word) (changes a)

  pub changed_parts : (a : tree.Action) → parts_of (changed f a) ≡ map (changed_part f) (parts_of a)
  changed_parts a = ap (λ (x : Form). x.parts) (changes a)

-- what is linked for each part that is written otherwise and that part is linked for the actions
pub changed_linked : {A B : Type 0} (c : Change) (Linked : A → B → Type 0) (f : Part → A) (g : Part → B) (join : A → A → A) (link : B → B → B) (empty : A) (none : B)
    → ((x y : A) (u v : B) → Linked x u → Linked y v → Linked (join x y) (link u v)) → ((p : Part) → Linked (f (changed_part c p)) (g p)) → Linked empty none
    → (a : tree.Action) → Linked (joined f join empty (parts_of (changed c a))) (joined g link none (parts_of a))
changed_linked c Linked f g join link empty none both each ends a =
    subst (λ ps. Linked (joined f join empty ps) (joined g link none (parts_of a))) (sym (changed_parts c a))
    (subst (λ x. Linked x (joined g link none (parts_of a))) (sym (mapped f join empty (changed_part c) (parts_of a)))
    (linked Linked (λ q. f (changed_part c q)) g join link empty none both each ends (parts_of a)))
