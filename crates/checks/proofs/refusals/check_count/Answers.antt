-- `checks::refusals::check_count` meets its contract: the tests are those of the definition, with the HI jobs counted. Assumes nothing.
use Rattle.std.proofs.Common.{rules, ◌≡◌, ◌∙◌, ap, not, ◌||◌, eqb, length, arith}
use lib.Dec.{ltb}
use Rattle.std.specs.Bool.{then_some}
use Rattle.model.specs.Sets.{view, count_of}
use Rattle.model.specs.Scenarios.{hi_jobs}
use Rattle.model.specs.Refusals.{check_count, refused}
use Rattle.checks.proofs.Firsts.{refused_where}
use Rattle.checks.proofs.refusals.check_count.Goals as goal

pub returns : goal.returns
unfolding check_count view count_of
returns c =
    let s = c.args.s.now in
    let n = s.count in
    let e : c.if-s-n.wrong ≡ (eqb n 0 || (ltb 64 n || (not (eqb s.lo.count n) || not (eqb s.hi.count (length (hi_jobs (view s))))))) = search rules in
    c.refuse.ensures ∙ ap (refused 2) (c.then_some.ensures ∙ ap (λ b. then_some b n) e) ∙ refused_where 2 n _ (omega arith)
