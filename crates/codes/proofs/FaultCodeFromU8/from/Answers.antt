-- `FaultCode::from(byte)` meets its contract past the table's end: there the list has no element.
use Rattle.std.proofs.Common.{◌≤◌, length, sym}
use Rattle.std.proofs.lemmas.List.{get_or_past}
use Rattle.codes.specs.Codes.{faults, fault_of}
use Rattle.codes.proofs.FaultCodeFromU8.from.Goals as goal

pub returns-in-None : goal.returns-in-None
unfolding fault_of
returns-in-None c =
    let past : length faults ≤ c.args.byte = c.in-None.ensures.lookup.3 in
    sym (get_or_past faults c.args.byte _ past)
