-- `expect` meets its contract, by each arm. Assumes nothing.
use Rattle.fields.proofs.Given.{byte-ends, byte_stops, byte-goes}
use Rattle.fields.proofs.expect.Goals as goal

pub returns-then-end-at : goal.returns-then-end-at
returns-then-end-at c = byte-ends _ _ _ c.if-end-at.true

pub returns-then-text-at : goal.returns-then-text-at
returns-then-text-at c = byte_stops _ _ _ c.if-end-at.false c.if-text-at.true

pub returns-else-text-at : goal.returns-else-text-at
returns-else-text-at c = byte-goes _ _ _ c.if-end-at.false c.if-text-at.false
