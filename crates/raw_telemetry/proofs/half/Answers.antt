-- `raw_telemetry::half` meets its contract.
use native.Mathlib.Omega.{arith}
use Rattle.packer.proofs.Complement.{fits-i16, called-i16}
use Rattle.raw_telemetry.proofs.half.Goals as goal

pub overflow_cast-result : goal.overflow_cast-result
overflow_cast-result c = fits-i16 _ _ c.as_i16.type_inv (omega arith) c.as_i16.ensures

pub returns : goal.returns
returns c = called-i16 _ _ c.as_i16.type_inv (omega arith) c.as_i16.ensures
