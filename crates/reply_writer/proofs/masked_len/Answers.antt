-- `reply_writer::masked_len` meets its contract.
use native.Mathlib.Omega.{arith}
use Rattle.reply_writer.proofs.Payloads.{span-most}
use Rattle.reply_writer.proofs.masked_len.Goals as goal

pub overflow_add-result : goal.overflow_add-result
overflow_add-result c = omega (arith, c.span.ensures, span-most c.args.sort c.args.mask)

pub returns : goal.returns
returns c = (omega (arith, c.span.ensures), omega (arith, c.span.ensures, span-most c.args.sort c.args.mask))
