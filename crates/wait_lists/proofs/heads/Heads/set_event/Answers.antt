use Rattle.std.proofs.Common.{◌<◌, ◌≤◌, length, refl, ap, ◌∙◌, arith}
use Rattle.std.specs.Prelude.{unwrap_or}
use Rattle.std.specs.Ordering.{nat_cmp}
use Rattle.std.specs.FinMap as map
use Rattle.wait_lists.specs.Chains.{none}
use Rattle.std.specs.Vec.{with_item}
use Rattle.wait_lists.proofs.HeadLemmas.{firsts-put, firsts-without, firsts-near, firsts-far, near-other, heads-put, heads-without}
use Rattle.wait_lists.proofs.heads.Heads.set_event.Goals as goal

pub returns-then-code-len-clause-firsts : goal.returns-then-code-len-clause-firsts
returns-then-code-len-clause-firsts c =
    let f = c.args.self.now.events in
    let inside : c.args.code < length f.near.items = omega (arith, c.if-code-len.true, c.len.ensures, f.near.ok.0) in
    firsts-near f (record { near = with_item f.near c.args.code c.args.first; far = c.remove.new.self }) c.args.code c.args.first inside refl c.remove.ensures.entries

pub returns-then-code-len-clause-heads : goal.returns-then-code-len-clause-heads
returns-then-code-len-clause-heads c =
    let f = c.args.self.now.events in
    heads-without f (record { near = with_item f.near c.args.code c.args.first; far = c.remove.new.self }) c.args.code c.requires.heads
    (near-other f.near.items c.args.code c.args.first) c.remove.ensures.entries c.remove.ensures.rising

pub returns-then-first-eq-NONE-clause-firsts : goal.returns-then-first-eq-NONE-clause-firsts
returns-then-first-eq-NONE-clause-firsts c =
    let f = c.args.self.now.events in
    let past : length f.near.items ≤ c.args.code = omega (arith, c.if-code-len.false, c.len.ensures, f.near.ok.0) in
    firsts-far f (record f { far = c.remove-then-first-eq-NONE.new.self }) c.args.code c.args.first past refl
    (λ k. ap (λ es. unwrap_or (map.find nat_cmp k es) none) c.remove-then-first-eq-NONE.ensures.entries ∙ firsts-without f.far.entries c.args.code c.args.first k c.if-first-eq-NONE.true)

pub returns-then-first-eq-NONE-clause-heads : goal.returns-then-first-eq-NONE-clause-heads
returns-then-first-eq-NONE-clause-heads c =
    let f = c.args.self.now.events in
    heads-without f (record f { far = c.remove-then-first-eq-NONE.new.self }) c.args.code c.requires.heads (λ _ _. refl) c.remove-then-first-eq-NONE.ensures.entries c.remove-then-first-eq-NONE.ensures.rising

pub returns-then-contains-clause-firsts : goal.returns-then-contains-clause-firsts
returns-then-contains-clause-firsts c =
    let f = c.args.self.now.events in
    let past : length f.near.items ≤ c.args.code = omega (arith, c.if-code-len.false, c.len.ensures, f.near.ok.0) in
    firsts-far f (record f { far = c.replace.new.self }) c.args.code c.args.first past refl
    (λ k. ap (λ es. unwrap_or (map.find nat_cmp k es) none) c.replace.ensures.entries ∙ firsts-put f.far.entries c.args.code c.args.first k)

pub returns-then-contains-clause-heads : goal.returns-then-contains-clause-heads
returns-then-contains-clause-heads c =
    let f = c.args.self.now.events in
    let past : length f.near.items ≤ c.args.code = omega (arith, c.if-code-len.false, c.len.ensures, f.near.ok.0) in
    heads-put f (record f { far = c.replace.new.self }) c.args.code c.args.first c.requires.heads c.requires.event c.if-first-eq-NONE.false past refl c.replace.ensures.entries c.replace.ensures.rising

pub returns-else-contains-clause-firsts : goal.returns-else-contains-clause-firsts
returns-else-contains-clause-firsts c =
    let f = c.args.self.now.events in
    let past : length f.near.items ≤ c.args.code = omega (arith, c.if-code-len.false, c.len.ensures, f.near.ok.0) in
    firsts-far f (record f { far = c.insert.new.self }) c.args.code c.args.first past refl
    (λ k. ap (λ es. unwrap_or (map.find nat_cmp k es) none) c.insert.ensures.entries ∙ firsts-put f.far.entries c.args.code c.args.first k)

pub returns-else-contains-clause-heads : goal.returns-else-contains-clause-heads
returns-else-contains-clause-heads c =
    let f = c.args.self.now.events in
    let past : length f.near.items ≤ c.args.code = omega (arith, c.if-code-len.false, c.len.ensures, f.near.ok.0) in
    heads-put f (record f { far = c.insert.new.self }) c.args.code c.args.first c.requires.heads c.requires.event c.if-first-eq-NONE.false past refl c.insert.ensures.entries c.insert.ensures.rising
