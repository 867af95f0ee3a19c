use Rattle.std.proofs.Common.{◌≡◌, ℕ, cond, drop, true≢false, sym, ap, ◌∙◌, arith}
use Rattle.kernel_runs.specs.Made.{whole_of}
use Rattle.kernel_runs.proofs.Several.{one_more, last_one}
use Rattle.kernel_runs.proofs.stepping.make_some.Goals as goal

pub stepping-preserved-then-many-most : goal.stepping-preserved-then-many-most
stepping-preserved-then-many-most g c =
    let going : ◌≡◌ {A = ℕ} (cond c.stepping.going 0 1) 0 = ap (λ b. cond b 0 1) c.stepping-test.true in
    record {
      so_far = rw c.stepping-test.true
          (one_more g.C.Chooser.picks g.C.Chooser.later c.args.k.now c.stepping.k c.make-brief.new.k (drop c.args.place.now c.args.script.now) (drop c.stepping.place c.args.script.now) (drop c.make-brief.new.place c.args.script.now)
          c.args.chooser.now c.stepping.chooser c.make-brief.new.chooser c.stepping.many (whole_of c.make-brief.result c.make-brief.new.said) (rw c.stepping-test.true at c.stepping.invariant.so_far)
          c.make-brief.ensures.steps c.make-brief.ensures.asks (c.is_quiet.ensures c.if-is_quiet.true c.make-brief.new.said));
      few = c.if-many-most.true;
      sound = c.make-brief.ensures.sound;
      within = c.make-brief.ensures.within;
      none = c.make-brief.ensures.none;
      made = omega (arith, c.make-brief.ensures.made, c.stepping.invariant.made, going);
      refused = λ stops is. absurd (true≢false (sym c.stepping-test.true ∙ stops));
      faulted = λ f stops is. absurd (true≢false (sym c.stepping-test.true ∙ stops));
    }

pub stepping-preserved : goal.stepping-preserved
stepping-preserved g c =
    let going : ◌≡◌ {A = ℕ} (cond c.stepping.going 0 1) 0 = ap (λ b. cond b 0 1) c.stepping-test.true in
    record {
      so_far = last_one g.C.Chooser.picks g.C.Chooser.later c.args.k.now c.stepping.k c.make-brief.new.k (drop c.args.place.now c.args.script.now) (drop c.stepping.place c.args.script.now) (drop c.make-brief.new.place c.args.script.now)
          c.args.chooser.now c.stepping.chooser c.make-brief.new.chooser c.stepping.many (whole_of c.make-brief.result c.make-brief.new.said) (rw c.stepping-test.true at c.stepping.invariant.so_far)
          c.make-brief.ensures.steps c.make-brief.ensures.asks;
      few = c.stepping.invariant.few;
      sound = c.make-brief.ensures.sound;
      within = c.make-brief.ensures.within;
      none = c.make-brief.ensures.none;
      made = omega (arith, c.make-brief.ensures.made, c.stepping.invariant.made, going);
      refused = λ stops is. omega (arith, c.make-brief.ensures.refused is, c.stepping.invariant.made, going);
      faulted = λ f stops is. omega (arith, c.make-brief.ensures.faulted f is, c.stepping.invariant.made, going);
    }
