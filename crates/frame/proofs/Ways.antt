-- What the check is given for the functions of src/lib.rt: a law for each way out.
use Rattle.frame.proofs.Endings.{sum-right, sum-wrong, no-sum, after-sum, no_end, end-wrong, end-right}
use Rattle.frame.proofs.Opened.{no_start, start-wrong, no_length, head-right}
use Rattle.frame.proofs.Wrapped.{too_long, too_small}

pub ruleset ways = (sum-right, sum-wrong, no-sum, after-sum, no_end, end-wrong, end-right, no_start, start-wrong, no_length, head-right, too_long, too_small)
