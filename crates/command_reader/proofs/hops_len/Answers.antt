-- `command_reader::hops_len` meets its contract.
use Rattle.command_reader.proofs.Hops.{hops-counted}
use Rattle.command_reader.proofs.hops_len.Goals as goal

pub returns : goal.returns
returns c =
    let count = c.hop_count.ensures in
    (hops-counted c.hop_count.result c.args.bytes.now count.within count.hops count.ends, count.within)
