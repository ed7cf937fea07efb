-- `add` meets its contract: the byte goes to the first free place, and nowhere where there is none.
use borrow.Author.Tests.{lt-ltb, le-ltb}
use Rattle.pages.specs.Pages.{size, more}
use Rattle.pages.proofs.Page.add.Goals as goal

pub returns-then-self-lt1024 : goal.returns-then-self-lt1024
unfolding more size
returns-then-self-lt1024 c = rw (lt-ltb c.args.self.now.length 1024 c.if-self-lt1024.true)

pub returns-else-self-lt1024 : goal.returns-else-self-lt1024
unfolding more size
returns-else-self-lt1024 c = rw (le-ltb c.args.self.now.length 1024 c.if-self-lt1024.false)
