use Rattle.std.proofs.Common.{◌≡◌, ℕ, ◌+◌, ◌-◌, ◌∷◌, List, refl, sym, ap, ◌∙◌, subst, arith}
use Rattle.room_map.specs.Layout.{among, falling, IsChain}
use Rattle.room_map.proofs.Sizes.{at_other}
use Rattle.room_map.proofs.Chains.{falling-suc, falling-zero, among-above, chain_kept}
use Rattle.room_map.proofs.spares.free_all.Goals as goal

pub loop-i-init : goal.loop-i-init
loop-i-init g c = record {
  before = λ q h. refl;
  chain = λ is chain none.
      let none_yet : falling c.args.from 0 is ≡ falling c.args.from (c.args.from - c.args.from) is = ap (λ n. falling c.args.from n is) (omega arith) in
      subst (λ (js : List ℕ). IsChain c.args.nodes.now c.args.others js) (sym (falling-zero c.args.from is) ∙ none_yet) chain;
}

pub loop-i-preserved : goal.loop-i-preserved
loop-i-preserved g c =
    let i = c.loop-i.i in
    let from = c.args.from in
    let d = c.free_node.ensures.changed in
    record {
      before = λ q h. d.others q (at_other i q (λ e. omega (arith, e, h))) ∙ c.loop-i.invariant.before q h;
      chain = λ is chain none.
          let n : ℕ = i - from in
          let prev = c.loop-i.invariant.chain is chain none in
          let gone : among i (falling from n is) ≡ 0 = among-above from n is i (omega arith) ∙ none i (omega arith) in
          let kept = chain_kept c.loop-i.first (falling from n is) d (λ q some. at_other i q (λ e. omega (arith, ap (λ q. among q (falling from n is)) e, gone, some))) prev in
          let here : IsChain c.free_node.new.nodes i (i ∷ falling from n is) = (refl, omega (arith, d.long), subst (λ (x : ℕ). IsChain c.free_node.new.nodes x (falling from n is)) (sym c.free_node.ensures.next) kept) in
          let same : i ∷ falling from n is ≡ falling from (i + 1 - from) is =
          ap (λ x. x ∷ falling from n is) (omega arith) ∙ sym (falling-suc from n is) ∙ ap (λ x. falling from x is) (omega arith) in
          subst (λ (js : List ℕ). IsChain c.free_node.new.nodes i js) same here;
    }
