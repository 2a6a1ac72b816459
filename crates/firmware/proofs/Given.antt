-- What the check is given for the functions of src/lib.rt.
use Rattle.firmware.proofs.Ends.{twelve-copied, raw-handed-on}
use Rattle.firmware.proofs.Raw.{version-of}
use Rattle.firmware.proofs.Zeros.{name-zeros, uuid-zeros, hash-zeros}

pub ruleset given = (twelve-copied, raw-handed-on, version-of, name-zeros, uuid-zeros, hash-zeros)
