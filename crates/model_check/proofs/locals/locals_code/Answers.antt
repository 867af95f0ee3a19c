use Rattle.std.proofs.Common.{◌≡◌, ◌+◌, ◌++◌, ◌∷◌, List, [], false, drop, get_or, refl, sym, ap, ◌∙◌, subst}
use Rattle.std.proofs.lemmas.List.{append-nil, drop_all}
use Rattle.model_tree.specs.declared.types.VarType.TheVariants.{Plain}
use Rattle.model_tree.specs.declared.types.TypeForm.TheVariants.{Bool}
use Rattle.code_rules.specs.Bodies.{AreLocals}
use Rattle.code_blocks.specs.CodeTerms.declared.sources.Source.{Source}
use Rattle.code_blocks.specs.CodeTerms.Sources.{source_of, sources_of}
use Rattle.model_check.proofs.LocalLemmas.{first_typed, next_local, next_seen_at}
use Rattle.model_check.proofs.locals.locals_code.Goals as goal

-- what stands where there is no source
abbrev the_default : Source
the_default = record { name = record { ref_ptr = (0, 0); now = [] }; var_type = Plain (record { line = 0; form = Bool }); inout = false }

pub returns : goal.returns
returns c =
    let xs = c.args.sources.now in
    let i = c.loop-source.source-index in
    subst (AreLocals (sources_of xs)) (append-nil c.loop-source.done)
    (c.loop-source.invariant.1 [] (subst (λ (ss : List Source). AreLocals (sources_of ss) []) (sym (drop_all i xs c.loop-source-test.false)) refl))

pub loop-source-preserved : goal.loop-source-preserved
loop-source-preserved c =
    let xs = c.args.sources.now in
    let i = c.loop-source.source-index in
    let e = next_seen_at source_of xs i the_default c.loop-source-test.true in (
      (first_typed (source_of (get_or xs i the_default)) (sources_of (drop i xs)) (sources_of (drop (i + 1) xs)) e c.loop-source.invariant.0).1,
      next_local (sources_of xs) (sources_of (drop i xs)) (sources_of (drop (i + 1) xs)) (source_of (get_or xs i the_default)) c.known_type-value_type.result c.in_ok-name.name c.loop-source.done c.push.new.self
          (next_seen_at source_of xs i the_default c.loop-source-test.true) c.known_type-value_type.ensures c.in_ok-name.ensures c.in_ok-push.ensures.ok c.loop-source.invariant.1,
    )
