-- What `try_from` promises leaves one answer.
use Rattle.refusals.proofs.Unique.{consumed-unique}
use Rattle.format.specs.Ids.{OneAnswer}

pub one_answer : OneAnswer
one_answer = record { command-ids = consumed-unique }
