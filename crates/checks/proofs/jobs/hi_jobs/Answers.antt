-- `checks::jobs::hi_jobs` meets its contract: the chain counts the HI jobs of the jobs that take part.
use Rattle.std.proofs.Common.{rules, ◌≡◌, ◌∙◌, sym}
use Rattle.std.specs.List.{count_by}
use Rattle.model.specs.declared.Job.{Job}
use Rattle.model.specs.Sets.{is_hi, critical, view}
use Rattle.model.specs.Scenarios.{hi_jobs}
use Rattle.rules.proofs.Members.{count_of_jobs}
use Rattle.checks.proofs.jobs.hi_jobs.Goals as goal

pub returns : goal.returns
unfolding hi_jobs critical view
returns c =
    let jobs = c.members.result.now in
    let e : c.count.result ≡ count_by (λ (j : Job). is_hi j.level) jobs = search rules in
    e ∙ sym (count_of_jobs c.args.s.now jobs c.members.ensures.jobs c.members.ensures.count (λ j. is_hi j.level))
