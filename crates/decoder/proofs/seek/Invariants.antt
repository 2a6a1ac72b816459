-- `decoder::seek` meets its contract. The invariant: the search goes on from the bytes moved over.
use Rattle.stream.proofs.Seeking.{SoFar}
use Rattle.decoder.specs.Judge.{decode_judge}
use Rattle.decoder.proofs.seek.Given as goal

abbrev pub invariant-loop-over : goal.invariant-loop-over
invariant-loop-over l = SoFar decode_judge l.unread l.over
