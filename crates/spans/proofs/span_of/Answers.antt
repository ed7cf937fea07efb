-- `spans::span_of` meets its contract: the chains run over the jobs that take part, of which there are 64 at most, each with a budget of 16 bits, so
-- that no sum wraps. Assumes nothing.
use Rattle.std.proofs.Common.{rules, ◌≡◌, ◌∙◌, refl, ap, arith}
use Rattle.std.proofs.lemmas.Iterator.{YieldsList-from_slice, YieldsList-from_map}
use Rattle.std.proofs.lemmas.Iterator.Adapters.{fits_from_length, at_most_from_yields_List}
use Rattle.std.proofs.lemmas.Iterator.Consumers.{reduce_from_yields_List}
use Rattle.std.proofs.lemmas.List.Folds.{max_of_map}
use Rattle.std.specs.List.{sum_by}
use Rattle.std.specs.Option.{unwrap_or}
use Rattle.std.specs.Ordering.{nat_cmp, max_by_ordering}
use Rattle.model.specs.declared.Job.{Job}
use Rattle.model.specs.Sets.{view, span}
use Rattle.spans.proofs.span_of.Goals as goal
use borrow.Author.Tests.{tests}
use Rattle.rules.proofs.Members.{largest_of_jobs, total_of_jobs}

pub sum-work-requires-clause-fits : goal.sum-work-requires-clause-fits
sum-work-requires-clause-fits c =
    fits_from_length _ _ 64 _ (at_most_from_yields_List (YieldsList-from_slice c.members-jobs.result.now cc) (omega arith)) c.map-2.ensures.closure (omega arith)
    (λ x r q k. search (rules, tests))

pub returns : goal.returns
unfolding span view
returns c =
    let jobs = c.members-jobs.result.now in
    let latest =
    c.unwrap_or-latest.ensures
    ∙ ap (λ m. unwrap_or m 0)
    (reduce_from_yields_List (λ p z. max_by_ordering (nat_cmp p z) p z) _ _ c.max.ensures.ran
    (YieldsList-from_map _ (λ (j : Job). j.arrival) (YieldsList-from_slice jobs cc) c.map.ensures.closure (λ x r q k. search rules)))
    ∙ max_of_map (λ (j : Job). j.arrival) jobs in
    let work : c.sum-work.result ≡ sum_by (λ (j : Job). j.hi) jobs = search rules in
    let taken = c.members-jobs.ensures in
    rw
    (largest_of_jobs c.args.s jobs taken.jobs taken.count (λ j. j.arrival), total_of_jobs c.args.s jobs taken.jobs taken.count (λ j. j.hi), c.from.ensures, c.from-2.ensures, latest, work)
    refl
