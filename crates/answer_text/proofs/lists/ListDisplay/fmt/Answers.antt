use Rattle.std.proofs.Common.{take, ◌∙◌, ap, sym, [], ◌∷◌, ◌++◌}
use Rattle.std.proofs.lemmas.List.{take_more}
use Rattle.answer_text.proofs.Items.{list_words_more, written_then}
use Rattle.answer_text.proofs.lists.ListDisplay.fmt.Goals as goal

pub loop-x-preserved : goal.loop-x-preserved
loop-x-preserved g c p =
    let xs = c.args.self.now.0.now in
    let i = c.loop-x.x-index in
    let text = g.T.Display.output in
    let x = c.x-item.result in
    let more = take_more xs i x c.loop-x-test.true ∙ ap (λ y. take i xs ++ y ∷ []) (sym c.x-item.is) in
    rw (more, list_words_more text (take i xs) x) (written_then _ _ _ _ _ _ (c.loop-x.invariant p) c.in_ok-write.ensures.writes)
