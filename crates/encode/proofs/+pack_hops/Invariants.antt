-- `encode::pack_hops` falls on the number of hops not yet written.
use Rattle.std.proofs.Common.{length}
use Rattle.encode.proofs.+pack_hops.Given as goal

abbrev pub decreases-pack_hops : goal.decreases-pack_hops
decreases-pack_hops l = length l.hops.now
