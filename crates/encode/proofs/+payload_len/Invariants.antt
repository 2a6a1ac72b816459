-- `encode::payload_len` falls on the number of hops not yet counted.
use Rattle.std.proofs.Common.{length}
use Rattle.encode.proofs.+payload_len.Given as goal

abbrev pub decreases-payload_len : goal.decreases-payload_len
decreases-payload_len l = length l.hops.now
