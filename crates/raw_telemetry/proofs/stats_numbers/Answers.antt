-- `raw_telemetry::stats_numbers` meets its contract: the number of each row.
use mathlib.Core.List.{[], ◌∷◌}
use Rattle.tables.specs.Rows.{padded}
use Rattle.raw_telemetry.specs.Rows.{numbers_of}
use Rattle.raw_telemetry.proofs.stats_numbers.Goals as goal

pub returns : goal.returns
unfolding padded numbers_of
returns c =
    λ i.
    c.args.stats.speed_avg
    ∷ c.args.stats.speed_max
    ∷ c.args.stats.power_avg
    ∷ c.args.stats.power_max
    ∷ c.args.stats.current_avg
    ∷ c.args.stats.current_max
    ∷ c.args.stats.temp_mosfet_avg
    ∷ c.args.stats.temp_mosfet_max
    ∷ c.args.stats.temp_motor_avg
    ∷ c.args.stats.temp_motor_max
    ∷ c.args.stats.count_time
    ∷ 0
    ∷ 0
    ∷ 0
    ∷ 0
    ∷ 0
    ∷ 0
    ∷ 0
    ∷ 0
    ∷ 0
    ∷ 0
    ∷ 0
    ∷ 0
    ∷ 0
    ∷ []
