use Rattle.std.proofs.Common.{refl, ap, ◌∙◌, arith}
use Rattle.wait_lists.specs.Chains.{none}
use Rattle.wait_lists.specs.Nodes.{first_in}
use Rattle.wait_lists.specs.Layout.{waits_by}
use Rattle.wait_lists.proofs.Passing.{passed_struck, passed_met}
use Rattle.wait_lists.proofs.Going.{going-none, used-next, room-next, node-owner, all-muted, going-only, only-rises}
use Rattle.wait_lists.proofs.Risen.{none-behind}
use Rattle.wait_lists.proofs.firing.strike_all.Goals as goal

-- ---- no node stands for the event

pub returns-then-head-clause-struck : goal.returns-then-head-clause-struck
returns-then-head-clause-struck c =
    let k = c.args.kept.now in
    let out = c.args.out.now.items in
    let going = going-none k c.requires.sound c.args.e c.event_code-code.result out c.first-head.result c.event_code-code.ensures c.first-head.ensures in
    passed_struck (waits_by k) (waits_by k) c.args.e going.added going.passed (all-muted k k c.args.e c.event_code-code.result out out none c.first-head.result going c.if-head.true)

pub returns-then-head-clause-met : goal.returns-then-head-clause-met
returns-then-head-clause-met c =
    let k = c.args.kept.now in
    let out = c.args.out.now.items in
    let going = going-none k c.requires.sound c.args.e c.event_code-code.result out c.first-head.result c.event_code-code.ensures c.first-head.ensures in
    passed_met (waits_by k) (waits_by k) c.args.e going.added going.passed (all-muted k k c.args.e c.event_code-code.result out out none c.first-head.result going c.if-head.true) out out going.behind

pub returns-then-head-clause-rising : goal.returns-then-head-clause-rising
returns-then-head-clause-rising c = none-behind c.args.out.now.items _ c.args.out.now.ok.0

-- ---- one alone, in a wait for any

pub is_last_of_any-requires-clause-used : goal.is_last_of_any-requires-clause-used
is_last_of_any-requires-clause-used c =
    let k = c.args.kept.now in
    let out = c.args.out.now.items in
    let going = going-none k c.requires.sound c.args.e c.event_code-code.result out c.first-head.result c.event_code-code.ensures c.first-head.ensures in
    used-next k k c.args.e c.event_code-code.result out out none c.first-head.result going c.if-head.false

pub strike-requires-clause-used : goal.strike-requires-clause-used
strike-requires-clause-used c =
    let k = c.args.kept.now in
    let out = c.args.out.now.items in
    let going = going-none k c.requires.sound c.args.e c.event_code-code.result out c.first-head.result c.event_code-code.ensures c.first-head.ensures in
    used-next k k c.args.e c.event_code-code.result out out none c.first-head.result going c.if-head.false

pub strike-requires-clause-room : goal.strike-requires-clause-room
strike-requires-clause-room c at s of here active =
    let k = c.args.kept.now in
    let out = c.args.out.now.items in
    let going = going-none k c.requires.sound c.args.e c.event_code-code.result out c.first-head.result c.event_code-code.ensures c.first-head.ensures in
    let room = room-next k k c.args.e c.event_code-code.result out out none c.first-head.result going c.if-head.false at s of here active in
    omega (arith, room, c.requires.room)

pub returns-then-is_last_of_any-clause-struck : goal.returns-then-is_last_of_any-clause-struck
returns-then-is_last_of_any-clause-struck c =
    let k = c.args.kept.now in
    let out = c.args.out.now.items in
    let more = c.strike.new.out.items in
    let going = going-none k c.requires.sound c.args.e c.event_code-code.result out c.first-head.result c.event_code-code.ensures c.first-head.ensures in
    let own = node-owner k c.requires.sound c.first-head.result (used-next k k c.args.e c.event_code-code.result out out none c.first-head.result going c.if-head.false) in
    let gone = going-only k c.strike.new.kept c.args.e c.event_code-code.result out more c.first-head.result own.0 own.1 going c.if-head.false own.2 own.3
    (c.is_last_of_any.ensures.last c.if-is_last_of_any.true) (c.is_last_of_any.ensures.any c.if-is_last_of_any.true own.0 own.1 own.2 own.3) c.strike.ensures.sound c.strike.ensures.places
    (c.strike.ensures.passed own.0 own.1 own.2 own.3) (c.strike.ensures.over own.0 own.1 own.2 own.3) in
    passed_struck (waits_by k) (waits_by c.strike.new.kept) c.args.e gone.added gone.passed (all-muted k c.strike.new.kept c.args.e c.event_code-code.result out more c.first-head.result none gone refl)

pub returns-then-is_last_of_any-clause-kept : goal.returns-then-is_last_of_any-clause-kept
returns-then-is_last_of_any-clause-kept c =
    let k = c.args.kept.now in
    let out = c.args.out.now.items in
    let going = going-none k c.requires.sound c.args.e c.event_code-code.result out c.first-head.result c.event_code-code.ensures c.first-head.ensures in
    let own = node-owner k c.requires.sound c.first-head.result (used-next k k c.args.e c.event_code-code.result out out none c.first-head.result going c.if-head.false) in
    (going-only k c.strike.new.kept c.args.e c.event_code-code.result out c.strike.new.out.items c.first-head.result own.0 own.1 going c.if-head.false own.2 own.3
    (c.is_last_of_any.ensures.last c.if-is_last_of_any.true) (c.is_last_of_any.ensures.any c.if-is_last_of_any.true own.0 own.1 own.2 own.3) c.strike.ensures.sound c.strike.ensures.places
    (c.strike.ensures.passed own.0 own.1 own.2 own.3) (c.strike.ensures.over own.0 own.1 own.2 own.3)).passed.rest

pub returns-then-is_last_of_any-clause-met : goal.returns-then-is_last_of_any-clause-met
returns-then-is_last_of_any-clause-met c =
    let k = c.args.kept.now in
    let out = c.args.out.now.items in
    let more = c.strike.new.out.items in
    let going = going-none k c.requires.sound c.args.e c.event_code-code.result out c.first-head.result c.event_code-code.ensures c.first-head.ensures in
    let own = node-owner k c.requires.sound c.first-head.result (used-next k k c.args.e c.event_code-code.result out out none c.first-head.result going c.if-head.false) in
    let gone = going-only k c.strike.new.kept c.args.e c.event_code-code.result out more c.first-head.result own.0 own.1 going c.if-head.false own.2 own.3
    (c.is_last_of_any.ensures.last c.if-is_last_of_any.true) (c.is_last_of_any.ensures.any c.if-is_last_of_any.true own.0 own.1 own.2 own.3) c.strike.ensures.sound c.strike.ensures.places
    (c.strike.ensures.passed own.0 own.1 own.2 own.3) (c.strike.ensures.over own.0 own.1 own.2 own.3) in
    passed_met (waits_by k) (waits_by c.strike.new.kept) c.args.e gone.added gone.passed (all-muted k c.strike.new.kept c.args.e c.event_code-code.result out more c.first-head.result none gone refl) out more gone.behind

pub returns-then-is_last_of_any-clause-rising : goal.returns-then-is_last_of_any-clause-rising
returns-then-is_last_of_any-clause-rising c =
    let k = c.args.kept.now in
    let out = c.args.out.now.items in
    let going = going-none k c.requires.sound c.args.e c.event_code-code.result out c.first-head.result c.event_code-code.ensures c.first-head.ensures in
    let own = node-owner k c.requires.sound c.first-head.result (used-next k k c.args.e c.event_code-code.result out out none c.first-head.result going c.if-head.false) in
    only-rises k c.strike.new.kept c.args.e c.event_code-code.result out c.strike.new.out.items c.first-head.result own.0 own.1 going c.if-head.false own.2 own.3
    (c.is_last_of_any.ensures.last c.if-is_last_of_any.true) (c.is_last_of_any.ensures.any c.if-is_last_of_any.true own.0 own.1 own.2 own.3) c.strike.ensures.sound c.strike.ensures.places
    (c.strike.ensures.passed own.0 own.1 own.2 own.3) (c.strike.ensures.over own.0 own.1 own.2 own.3) _ c.args.out.now.ok.0

-- ---- any list

pub strike_listed-requires-clause-begins : goal.strike_listed-requires-clause-begins
strike_listed-requires-clause-begins c = let k = c.args.kept.now in c.first-head.ensures ∙ ap (first_in k.heads.events k.heads.free) c.event_code-code.ensures
