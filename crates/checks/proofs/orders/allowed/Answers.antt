use Prim.Native.Nat.{◌+◌}
use mathlib.Core.Bool.{not, ◌||◌}
use mathlib.Core.Path.{◌≡◌, refl, sym, ◌∙◌, ap}
use native.Mathlib.Omega.{arith}
use borrow.Author.Tests.{le-leb}
use lib.ListN.{length-set}
use Rattle.model.specs.Sets.{is_hi, critical, view, blank, job}
use Rattle.laws.proofs.Bools.{and_i}
use Rattle.rules.proofs.Members.{job_of_jobs}
use Rattle.rules.specs.Rules.{may_stand}
use Rattle.checks.proofs.Marks.{no_marks, mark-more, all_marks}
use Rattle.checks.proofs.orders.allowed.Goals as goal

pub loop-i-init : goal.loop-i-init
loop-i-init c = (refl, no_marks c.args.s.now c.args.m 64)

pub loop-i-preserved : goal.loop-i-preserved
unfolding may_stand critical view blank job
loop-i-preserved c =
    let s = c.args.s.now in
    let i = c.loop-i.i in
    let jobs = c.members-job-items.result.now in
    let taken = c.members-job-items.ensures in
    let part = and_i (le-leb 1 (i + 1) (omega arith)) (le-leb (i + 1) s.count (omega arith)) in
    let may : c.may_stand.result ≡ may_stand (view s) c.args.m (i + 1) =
    rw part (c.may_stand.ensures ∙ ap (λ j. not (is_hi c.args.m) || is_hi j.level) (sym (job_of_jobs s jobs taken.jobs taken.count i c.loop-i-test.true))) in (
      length-set c.loop-i.ok i c.may_stand.result ∙ c.loop-i.invariant.0,
      mark-more (may_stand (view s) c.args.m) c.loop-i.ok i c.may_stand.result (omega arith) may c.loop-i.invariant.1,
    )

pub returns : goal.returns
returns c = λ j. c.loop-i.invariant.1 j ∙ all_marks c.args.s.now c.args.m c.loop-i.i j (omega arith)
