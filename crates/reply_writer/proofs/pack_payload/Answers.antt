-- `reply_writer::pack_payload` meets its contract, by the kind.
use Rattle.packer.specs.Numbers.{big_endian}
use Rattle.reply_writer.proofs.Payloads.{version-payload, values-payload, selective-payload, setup-payload, stats-payload, reset-payload, info-payload, room-as, packed-as}
use Rattle.reply_writer.proofs.pack_payload.Goals as goal

pub pack_fw_version-requires : goal.pack_fw_version-requires
pack_fw_version-requires c = room-as 2 (version-payload c.args.reply c.in-FwVersion.is) c.requires

pub pack_get_values-requires : goal.pack_get_values-requires
pack_get_values-requires c = room-as 2 (values-payload c.args.reply c.in-GetValues.is) c.requires

pub pack_masked-requires : goal.pack_masked-requires
pack_masked-requires c = room-as 2 (selective-payload c.args.reply c.in-GetValuesSelective.is c.values_numbers.ensures) c.requires

pub pack_masked-requires-in-GetValuesSetupSelective : goal.pack_masked-requires-in-GetValuesSetupSelective
pack_masked-requires-in-GetValuesSetupSelective c = room-as 2 (setup-payload c.args.reply c.in-GetValuesSetupSelective.is c.setup_values_numbers.ensures) c.requires

pub pack_masked-requires-in-GetStats : goal.pack_masked-requires-in-GetStats
pack_masked-requires-in-GetStats c = room-as 2 (stats-payload c.args.reply c.in-GetStats.is c.stats_numbers.ensures) c.requires

pub pack_fw_info-requires : goal.pack_fw_info-requires
pack_fw_info-requires c = room-as 2 (info-payload c.args.reply c.in-FwInfo.is) c.requires

pub returns-in-FwVersion : goal.returns-in-FwVersion
returns-in-FwVersion c = packed-as (version-payload c.args.reply c.in-FwVersion.is) c.pack_fw_version.ensures

pub returns-in-GetValues : goal.returns-in-GetValues
returns-in-GetValues c = packed-as (values-payload c.args.reply c.in-GetValues.is) c.pack_get_values.ensures

pub returns-in-GetValuesSelective : goal.returns-in-GetValuesSelective
returns-in-GetValuesSelective c = packed-as (selective-payload c.args.reply c.in-GetValuesSelective.is c.values_numbers.ensures) c.pack_masked.ensures

pub returns-in-GetValuesSetupSelective : goal.returns-in-GetValuesSetupSelective
returns-in-GetValuesSetupSelective c = packed-as (setup-payload c.args.reply c.in-GetValuesSetupSelective.is c.setup_values_numbers.ensures) c.pack_masked-in-GetValuesSetupSelective.ensures

pub returns-in-GetStats : goal.returns-in-GetStats
returns-in-GetStats c = packed-as (stats-payload c.args.reply c.in-GetStats.is c.stats_numbers.ensures) c.pack_masked-in-GetStats.ensures

pub returns-in-ResetStats : goal.returns-in-ResetStats
unfolding big_endian
returns-in-ResetStats c = packed-as (reset-payload c.args.reply c.in-ResetStats.is) c.pack_u8.ensures

pub returns-in-FwInfo : goal.returns-in-FwInfo
returns-in-FwInfo c = packed-as (info-payload c.args.reply c.in-FwInfo.is) c.pack_fw_info.ensures
