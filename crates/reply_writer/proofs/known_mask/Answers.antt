-- `reply_writer::known_mask` meets its contract, by the kind.
use borrow.Author.Rules.{rules}
use Rattle.reply_writer.specs.Writer.{known_mask}
use Rattle.reply_writer.proofs.known_mask.Goals as goal

pub returns-in-GetValuesSelective : goal.returns-in-GetValuesSelective
unfolding known_mask
returns-in-GetValuesSelective c = rw c.in-GetValuesSelective.is c.known_bits.ensures

pub returns-in-GetValuesSetupSelective : goal.returns-in-GetValuesSetupSelective
unfolding known_mask
returns-in-GetValuesSetupSelective c = rw c.in-GetValuesSetupSelective.is c.known_bits-in-GetValuesSetupSelective.ensures

pub returns-in-GetStats : goal.returns-in-GetStats
unfolding known_mask
returns-in-GetStats c = rw c.in-GetStats.is c.known_bits-in-GetStats.ensures

pub returns-in-FwVersion : goal.returns-in-FwVersion
unfolding known_mask
returns-in-FwVersion c = search rules
