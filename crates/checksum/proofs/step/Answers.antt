-- `checksum::step` meets its contract: it is the definition, term by term.
use mathlib.Core.Path.{refl}
use Rattle.checksum.specs.Xmodem.{step_of}
use Rattle.checksum.proofs.step.Goals as goal

pub returns : goal.returns
unfolding step_of
returns c = refl
