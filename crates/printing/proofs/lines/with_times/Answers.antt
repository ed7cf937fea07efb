-- `with_times` meets its contract: the first time, then the rest.
use Rattle.std.specs.Prelude.{◌≡◌, [], ◌∷◌}
use Rattle.std.proofs.Common.{rules}
use Rattle.std.proofs.lemmas.List.{nil_from_length}
use Rattle.std.proofs.lemmas.Iterator.{YieldsList-from_slice}
use Rattle.std.proofs.lemmas.Iterator.Consumers.{fold_from_yields_List}
use Rattle.model.specs.Texts.{decimal, fields, line}
use Rattle.pages.specs.Pages.{put}
use Rattle.printing.proofs.JobLaws.{times_put}
use Rattle.printing.proofs.lines.with_times.Goals as goal

pub returns-in_default : goal.returns-in_default
unfolding line fields
returns-in_default c = let e : c.args.times.now ≡ [] = nil_from_length _ c.in_default.ensures.cases in rw (c.with_byte.ensures, e)

pub returns : goal.returns
returns c =
    let e : c.args.times.now ≡ c.in-Some.first.now ∷ c.in-Some.rest.now = c.in-Some.ensures.cases.0 in
    let f = fold_from_yields_List _ (λ p t. put p (32 ∷ decimal t)) _ _ c.fold.ensures.ran (YieldsList-from_slice c.in-Some.rest.now cc) (λ a x b q k. search rules) in
    rw (c.with_byte-2.ensures, f, c.with_decimal-start.ensures, c.from.ensures, e) (times_put _ _ _)
