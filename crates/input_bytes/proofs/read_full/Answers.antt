use Rattle.std.proofs.Common.{◌≡◌, ◌+◌, ◌≤◌, List, ◌++◌, ℕ, rules, length, take, sym, ap, ◌∙◌, subst, length-take-le}
use Rattle.std.proofs.KnownBytes.{Consumes-trans}
use Rattle.std.proofs.Math.Seq.{take-append-add}
use Rattle.std.proofs.lemmas.List.{take-append-le}
use Rattle.std.specs.Io.KnownBytes.{Consumes}
use borrow.Rule.Slice.PartMut.{put_mid, post_of}
use Rattle.input_bytes.proofs.read_full.Goals as goal

-- what was read behind a filled front stands behind it
take-put_mid_more : (a k n : ℕ) (xs ys : List ℕ) → a ≤ length xs → n ≤ length ys → take (a + n) (put_mid a k xs ys) ≡ take a xs ++ take n ys
take-put_mid_more a k n xs ys within fits =
    let rest = ys ++ post_of a k xs in
    ap (λ m. take (m + n) (take a xs ++ rest)) (sym (length-take-le a xs within)) ∙ take-append-add (take a xs) rest n ∙ ap (λ l. take a xs ++ l) (take-append-le n ys _ fits)

pub loop-done-preserved : goal.loop-done-preserved
loop-done-preserved g c =
    let before = c.loop-done.invariant in
    let read = c.in_ok-n.ensures in
    let more = take-put_mid_more _ _ _ c.loop-done.room c.read.new.buf before.0 read.bound.0 in
    (search rules, subst (Consumes _ _) (sym more) (Consumes-trans _ _ _ _ _ before.1 read.bytes.0))
