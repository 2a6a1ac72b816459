-- `encode::pack_payload` meets its contract.
use Rattle.encode.proofs.Writes.{payload-packed}
use Rattle.encode.proofs.pack_payload.Goals as goal

pub returns : goal.returns
returns c = payload-packed c.args.command c.args.hops.now c.requires c.pack_hops-next.ensures c.pack_into.ensures
