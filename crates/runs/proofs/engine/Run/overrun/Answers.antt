-- `overrun` meets its contract: what it asks of each job is rule 1.
use Rattle.std.proofs.Common.{rules}
use Rattle.std.specs.List.{list_any, range_with_len}
use Rattle.std.proofs.lemmas.Iterator.{YieldsList-from_range}
use Rattle.std.proofs.lemmas.Iterator.Search.{any_from_yields_List}
use native.Mathlib.Omega.{arith}
use mathlib.Core.Path.{◌≡◌, refl}
use mathlib.Core.Bool.{Bool}
use lib.ListN.{length}
use Rattle.runs.proofs.Overruns.{outrun, overruns_are}
use Rattle.runs.proofs.engine.Run.overrun.Goals as goal

pub returns : goal.returns
returns c =
    let s = c.args.state.now in
    let k = c.args.self.now.k.now in
    let found : ◌≡◌ {A = Bool} c.any.result (list_any (outrun k.critical k.lo s.had s.done) (range_with_len 0 k.n)) =
    any_from_yields_List (outrun k.critical k.lo s.had s.done) _ _ c.any.result c.any.ensures.ran (YieldsList-from_range 0 k.n k.n refl (omega arith)) (λ x b q h. search rules) in
    let places : length s.done ≡ 64 = search rules in
    overruns_are _ _ _ _ _ _ c.args.self.now.few places found
