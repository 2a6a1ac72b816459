-- The laws of rows and of records.
use mathlib.Core.Path.{refl}
use Rattle.raw_telemetry.specs.Laws.{RecordLaws}

pub record-laws : RecordLaws
record-laws =
    record {
      values-back = λ v. refl;
      setup-back = λ v. refl;
      stats-back = λ v. refl;
      values-rows = λ mask rows. refl;
      setup-rows = λ mask rows. refl;
      stats-rows = λ mask rows. refl;
    }
