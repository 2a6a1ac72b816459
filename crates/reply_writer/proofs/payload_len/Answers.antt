-- `reply_writer::payload_len` meets its contract, by the kind.
use mathlib.Core.Path.{refl, sym, ap, ◌∙◌}
use native.Mathlib.Omega.{arith}
use lib.ListN.{length}
use Rattle.format.specs.Format.{all_values}
use Rattle.tables.specs.Tables.{values_table, setup_table, stats_table}
use Rattle.tables.specs.declared.Sort.TheVariants as Sort
use Rattle.raw_telemetry.specs.Records.{values_rows, setup_rows, stats_rows}
use Rattle.reply_writer.proofs.Payloads.{version-payload, values-payload, selective-payload, setup-payload, stats-payload, reset-payload, info-payload, masked-size, fields-size, span-most}
use Rattle.reply_writer.proofs.payload_len.Goals as goal

pub overflow_add-result : goal.overflow_add-result
overflow_add-result c = omega (arith, c.span.ensures, span-most Sort.Values all_values)

pub returns-in-FwVersion : goal.returns-in-FwVersion
returns-in-FwVersion c = (c.fw_version_len.ensures.0 ∙ sym (ap length (version-payload c.args.reply c.in-FwVersion.is)), c.fw_version_len.ensures.1)

pub returns-in-GetValues : goal.returns-in-GetValues
returns-in-GetValues c =
    let r = c.args.reply in
    let size = ap length (values-payload r c.in-GetValues.is) ∙ fields-size all_values values_table (values_rows r.values) 4 in
    (omega (arith, size, c.span.ensures), omega (arith, c.span.ensures, span-most Sort.Values all_values))

pub returns-in-GetValuesSelective : goal.returns-in-GetValuesSelective
returns-in-GetValuesSelective c =
    let r = c.args.reply in
    let size = ap length (selective-payload r c.in-GetValuesSelective.is refl) ∙ masked-size r.values.mask values_table (values_rows r.values) 50 in
    (c.masked_len.ensures.0 ∙ sym size, c.masked_len.ensures.1)

pub returns-in-GetValuesSetupSelective : goal.returns-in-GetValuesSetupSelective
returns-in-GetValuesSetupSelective c =
    let r = c.args.reply in
    let size = ap length (setup-payload r c.in-GetValuesSetupSelective.is refl) ∙ masked-size r.setup_values.mask setup_table (setup_rows r.setup_values) 51 in
    (c.masked_len-in-GetValuesSetupSelective.ensures.0 ∙ sym size, c.masked_len-in-GetValuesSetupSelective.ensures.1)

pub returns-in-GetStats : goal.returns-in-GetStats
returns-in-GetStats c =
    let r = c.args.reply in
    let size = ap length (stats-payload r c.in-GetStats.is refl) ∙ masked-size r.stats.mask stats_table (stats_rows r.stats) 128 in
    (c.masked_len-in-GetStats.ensures.0 ∙ sym size, c.masked_len-in-GetStats.ensures.1)

pub returns-in-ResetStats : goal.returns-in-ResetStats
returns-in-ResetStats c = (sym (ap length (reset-payload c.args.reply c.in-ResetStats.is)), omega arith)

pub returns-in-FwInfo : goal.returns-in-FwInfo
returns-in-FwInfo c = (c.fw_info_len.ensures.0 ∙ sym (ap length (info-payload c.args.reply c.in-FwInfo.is)), c.fw_info_len.ensures.1)
