-- `Row::takes` meets its contract: a field's row asks the mask for the field's bit.
use Rattle.tables.proofs.Turns.{bit-set, bit-clear}
use Rattle.tables.proofs.Row.takes.Goals as goal

pub returns-then-mask-self-eq1 : goal.returns-then-mask-self-eq1
returns-then-mask-self-eq1 c f is = bit-set c.args.mask f is c.if-mask-self-eq1.true

pub returns-else-mask-self-eq1 : goal.returns-else-mask-self-eq1
returns-else-mask-self-eq1 c f is = bit-clear c.args.mask f is c.if-mask-self-eq1.false
