-- `with_bytes` meets its contract. The loop's invariant: with what is left of the text behind it, the page is what it is to be.
use mathlib.Core.Path.{◌≡◌}
use lib.ListN.{drop}
use Rattle.pages.specs.Pages.{put}
use Rattle.pages.proofs.Page.with_bytes.Given as goal

abbrev pub invariant-loop-byte : goal.invariant-loop-byte
invariant-loop-byte l = put l.self (drop l.byte-index l.text) ≡ put l.initial.self l.text
