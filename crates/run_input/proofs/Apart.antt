-- Causes that exclude each other, of one text.
use Rattle.std.proofs.Common.{◌≡◌, ◌⊎◌, inl, inr, ⊎_elim, ℕ, List, Option, Some, None, IsSome, Ok, Err, subst, ◌∙◌}
use Rattle.model_tree.specs.Tree as tree
use Rattle.model_tree.specs.declared.faults.Fault.{Fault}
use Rattle.script_text.specs.ModelLexer.Reads.{Reads}
use Rattle.elaborate.specs.TickRules.Sources.{source_fault, ticked}
use Rattle.elaborate.specs.Elaborated.{elaboration_fault}
use Rattle.model_print.specs.Printed.{printed_text}
use Rattle.flat_design.specs.declared.design.Design.{Design}
use Rattle.script_text.specs.SimModel.declared.plain.Command.{Command}
use Rattle.script_text.specs.ScriptText.{read_script}
use Rattle.script_text.specs.NamedScript.{name_script}
use Rattle.script_text.specs.declared.forms.TextCommand.{TextCommand}
use Rattle.expanded_text.specs.Becomes.{Becomes}
use Rattle.run_input.specs.Acceptance.{IsRead, HasNoTree, BreaksRule, BreaksWhole, IsBrokenModel, AcceptsModel, BreaksScript, IsBrokenScript, Accepts, ReadsReplay, IsBrokenReplay, IsLayoutOf, IsDesignOfSource}
use Rattle.run_input.proofs.Designs.{same_naming}

-- no model reads as two trees
abbrev pub OneTree : Type 0
OneTree = (model : List ℕ) (m n : tree.Source) → IsRead model m → IsRead model n → m ≡ n

-- neither as it stands, nor by what it becomes, nor by both
pub one_read : ((text : List ℕ) (m n : tree.Source) → Reads text m → Reads text n → m ≡ n)
    → ((text one other : List ℕ) (m : tree.Source) → Becomes text one → Becomes text other → Reads one m → Reads other m)
    → ((text out : List ℕ) (m : tree.Source) → Becomes text out → Reads text m → ⊥) → OneTree
one_read one same none model m n (inl r) (inl q) = one model m n r q
one_read one same none model m n (inl r) (inr (out, becomes, q)) = absurd (none model out m becomes r)
one_read one same none model m n (inr (out, becomes, r)) (inl q) = absurd (none model out n becomes q)
one_read one same none model m n (inr (out, becomes, r)) (inr (out', becomes', q)) = one out' m n (same model out out' m becomes becomes' r) q

-- nothing is found, and something is
found_none : {T : Type 0} (found : Option T) → found ≡ None → IsSome found → ⊥
found_none None none some = cc
found_none (Some x) none some = cc

found_both : {T : Type 0} (find : tree.Source → Option T) (m n : tree.Source) → m ≡ n → find m ≡ None → IsSome (find n) → ⊥
found_both find m n e none some = let P : tree.Source → Type 0 = λ x. find x ≡ None in found_none (find n) (subst P e none) some

-- a model is not both accepted and refused
pub not_broken : OneTree → (model : List ℕ) (m : tree.Source) → AcceptsModel model m → IsBrokenModel model → ⊥
not_broken one model m a b =
    ⊎_elim (λ none. none m a.reads)
    (⊎_elim (λ f. found_both source_fault m f.m (one model m f.m a.reads f.reads) a.faultless f.fault)
    (λ w. found_both (λ (x : tree.Source). elaboration_fault (ticked x)) m w.m (one model m w.m a.reads w.reads) a.elaborated w.fault)) b

-- nor refused for two causes
pub not_unread : (model : List ℕ) → HasNoTree model → BreaksRule model ⊎ BreaksWhole model → ⊥
not_unread model none b = ⊎_elim (λ f. none f.m f.reads) (λ w. none w.m w.reads) b

pub not_ruled : OneTree → (model : List ℕ) → BreaksRule model → BreaksWhole model → ⊥
not_ruled one model f w = found_both source_fault w.m f.m (one model w.m f.m w.reads f.reads) w.faultless f.fault

-- a script is not both accepted and refused, over whatever designs of a model
breaks : (d e : Design) (script : List ℕ) (text : List TextCommand) (commands : List Command) → ((cs : List TextCommand) → name_script d cs ≡ name_script e cs) → read_script script ≡ Ok text → name_script d text ≡ Ok commands → BreaksScript e script → ⊥
breaks d e script text commands same read named b =
    ⊎_elim (λ syntax. let e = syntax.1 in cc) (λ fault. other fault.0 fault.1 fault.2 fault.3) b
  where
    other : (text' : List TextCommand) (f : Fault) → read_script script ≡ Ok text' → name_script e text' ≡ Err f → ⊥
    other text' f read' named' =
        let one : text' ≡ text = cc in
        let P : List TextCommand → Type 0 = λ t. name_script e t ≡ Err f in
        let here : name_script e text ≡ Err f = subst P one named' in
        let there : name_script d text ≡ Err f = same text ∙ here in
        cc

pub not_both : OneTree → (model script : List ℕ) (m n : tree.Source) (d : Design) (commands : List Command) → Accepts model script m d commands → AcceptsModel model n → IsBrokenScript n script → ⊥
not_both one model script m n d commands a b broken =
    let P : tree.Source → Type 0 = λ x. IsDesignOfSource x broken.design in
    let is : IsDesignOfSource m broken.design = subst P (one model n m b.reads a.accepted.reads) broken.is_design in
    breaks d broken.design script a.named.0 commands (same_naming m d broken.design a.is_design is) a.named.1 a.named.2 broken.breaks

-- a replay text has a list or a line at which it does not read, and never both
pub not_listed : (replay choices : Option (List ℕ)) → ReadsReplay replay choices → IsBrokenReplay replay → ⊥
not_listed None choices h b = absurd b.1
not_listed (Some text) None h b = absurd h
not_listed (Some text) (Some list) h b = let e = b.1 in cc

-- the laid-out text of a model is that of each tree that it is accepted as
pub one_page : OneTree → (model page : List ℕ) (m : tree.Source) → IsLayoutOf model page → AcceptsModel model m → page ≡ printed_text m
one_page one model page m l a =
    let P : tree.Source → Type 0 = λ x. page ≡ printed_text x in
    subst P (one model l.m m l.accepted.reads a.reads) l.page_is
