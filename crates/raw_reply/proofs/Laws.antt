-- The raw reader beside `decode`: the same reply, and the reader's form.
use mathlib.Core.Path.{◌≡◌, refl, sym, ap, ◌∙◌, subst}
use mathlib.Core.List.{List}
use Prim.Native.Nat.{ℕ, zero, suc}
use native.Mathlib.Omega.{arith}
use lib.ListN.{length, get_or, replicate}
use Rattle.refusals.specs.Refusals.{Answer, ok, refused}
use Rattle.format.specs.Format.{all_values}
use Rattle.codes.specs.Codes.{fault_of}
use Rattle.packer.specs.Numbers.{Below, signed_of, unsigned_of}
use Rattle.packer.specs.Nearness.{Bytes}
use Rattle.tables.specs.Tables.{values_table, setup_table, stats_table, widths}
use Rattle.layout.specs.Layout.{raws}
use Rattle.layout.specs.Replies.{fw_version_layout, fw_info_layout, get_values, selective, setup_selective, get_stats}
use Rattle.layout.specs.Writing.{Fits}
use Rattle.layout.proofs.BothWays.{both_ways}
use Rattle.frame.specs.Frame.{short, payload_in}
use Rattle.frame.proofs.Places.{payload-bytes}
use Rattle.judge.specs.Judge.{judge_of}
use Rattle.judge.proofs.Good.{good-frames}
use Rattle.telemetry.specs.Telemetry.{values_with, values_of, no_values, setup_values_with, setup_values_of, no_setup_values, stats_of, no_stats}
use Rattle.telemetry.specs.declared.Values.{Values}
use Rattle.telemetry.specs.declared.SetupValues.{SetupValues}
use Rattle.telemetry.specs.declared.Stats.{Stats}
use Rattle.firmware.specs.Firmware.{no_fw_version, info_by, fw_version_of, fw_info_of}
use Rattle.firmware.specs.RawVersion.{raw_version_by, version_raws, version_from, no_raw_fw_version, info_raws}
use Rattle.firmware.specs.declared.FwVersion.{FwVersion}
use Rattle.firmware.specs.declared.RawFwVersion.{RawFwVersion}
use Rattle.firmware.specs.declared.FwInfo.{FwInfo}
use Rattle.firmware.proofs.Raw.{raw-firmware}
use Rattle.raw_telemetry.specs.Rows.{Rows, numbers_of, rows_from}
use Rattle.raw_telemetry.specs.declared.RawValues.{RawValues}
use Rattle.raw_telemetry.specs.declared.RawSetupValues.{RawSetupValues}
use Rattle.raw_telemetry.specs.declared.RawStats.{RawStats}
use Rattle.raw_telemetry.specs.Records.{values_rows, values_by, raw_values_of, no_raw_values, setup_rows, setup_by, raw_setup_values_of, no_raw_setup_values, stats_rows, stats_by, raw_stats_of, no_raw_stats}
use Rattle.raw_telemetry.proofs.Rows.{row_laws}
use Rattle.reply.specs.Reply.{kind_number, reply_with, reply_of, blank_of, get_values_of, get_values_selective_of, get_values_setup_selective_of, get_stats_of, fw_version_reply_of, fw_info_reply_of, empty_reply}
use Rattle.reply.specs.Decode.{reply_in, reply_by, decode_of}
use Rattle.reply.specs.declared.Kind.{Kind}
use Rattle.raw_reply.specs.RawReply.{layout_for, blank_raw, empty_raw, raw_as, with_raw_values, with_raw_setup_values, with_raw_stats, cleared, reply_from}
use Rattle.raw_reply.specs.Reading.{raw_in, raw_read_of}
use Rattle.raw_reply.specs.declared.RawReply.{RawReply}
use Rattle.raw_reply.specs.Laws.{VersionFits, InfoFits, RecordFits, InForm, RawLaws}
use Rattle.raw_reply.proofs.OfKind.{OfKind, kind-of, raw_of-kind}

-- ---- the scaled records of a raw reply

abbrev values_from : RawValues → Values
values_from v = values_of v.mask (numbers_of values_table (values_rows v))

abbrev setup_from : RawSetupValues → SetupValues
setup_from v = setup_values_of v.mask (numbers_of setup_table (setup_rows v))

abbrev stats_from : RawStats → Stats
stats_from v = stats_of v.mask (numbers_of stats_table (stats_rows v))

-- each by itself
from-records : (r : RawReply) {values : Values} {setup : SetupValues} {stats : Stats} {version : FwVersion} → values_from r.values ≡ values → setup_from r.setup_values ≡ setup
    → stats_from r.stats ≡ stats → version_from r.fw_version ≡ version → reply_from r ≡ reply_with r.kind values setup stats version r.fw_info
unfolding reply_from
from-records r a b c d = λ i. reply_with r.kind (a i) (b i) (c i) (d i) r.fw_info

-- of numbers that were read under a mask
module _ (mask : ℕ) (ns : List ℕ) where
  values-made : Below (widths mask values_table) ns → values_from (raw_values_of mask ns) ≡ values_of mask ns
  unfolding raw_values_of
  values-made below = ap (values_of mask) ((row_laws values_table).numbers-back mask ns below)

  setup-made : Below (widths mask setup_table) ns → setup_from (raw_setup_values_of mask ns) ≡ setup_values_of mask ns
  unfolding raw_setup_values_of
  setup-made below = ap (setup_values_of mask) ((row_laws setup_table).numbers-back mask ns below)

  stats-made : Below (widths mask stats_table) ns → stats_from (raw_stats_of mask ns) ≡ stats_of mask ns
  unfolding raw_stats_of
  stats-made below = ap (stats_of mask) ((row_laws stats_table).numbers-back mask ns below)

-- and with nothing in them: 0 is sent for a zero of each coding
no-values : values_from no_raw_values ≡ no_values
unfolding no_raw_values raw_values_of rows_from numbers_of signed_of unsigned_of values_of values_with fault_of
no-values = refl

no-setup : setup_from no_raw_setup_values ≡ no_setup_values
unfolding no_raw_setup_values raw_setup_values_of rows_from numbers_of signed_of unsigned_of setup_values_of setup_values_with fault_of
no-setup = refl

no-stats : stats_from no_raw_stats ≡ no_stats
unfolding no_raw_stats raw_stats_of rows_from numbers_of stats_of
no-stats = refl

no-version : version_from no_raw_fw_version ≡ no_fw_version
no-version = raw-firmware.no-version

-- ---- the reply made from what a payload carries is the one that `decode` reads there

blank-from : (kind : Kind) → reply_from (blank_raw kind) ≡ blank_of kind
unfolding blank_raw blank_of
blank-from kind = from-records (blank_raw kind) no-values no-setup no-stats no-version

pub remade-as : (payload : List ℕ) (kind : Kind) → get_or payload 0 0 ≡ kind_number kind → Fits (layout_for kind) (raws (layout_for kind) payload 1)
    → reply_from (raw_as kind payload) ≡ reply_of payload
unfolding raw_as reply_of get_values_of get_values_selective_of get_values_setup_selective_of get_stats_of fw_version_reply_of fw_version_of fw_info_reply_of fw_info_of
remade-as payload Kind.FwVersion is fits = rw is (from-records (raw_as Kind.FwVersion payload) no-values no-setup no-stats refl)
remade-as payload Kind.GetValues is fits =
    let read = (raws get_values payload 1).0 in
    rw is (from-records (raw_as Kind.GetValues payload) (values-made all_values read fits.0) no-setup no-stats no-version)
remade-as payload Kind.GetValuesSelective is fits =
    let read = (raws selective payload 1).0 in
    rw is (from-records (raw_as Kind.GetValuesSelective payload) (values-made read.0 read.1 fits.0.1) no-setup no-stats no-version)
remade-as payload Kind.GetValuesSetupSelective is fits =
    let read = (raws setup_selective payload 1).0 in
    rw is (from-records (raw_as Kind.GetValuesSetupSelective payload) no-values (setup-made read.0 read.1 fits.0.1) no-stats no-version)
remade-as payload Kind.GetStats is fits =
    let read = (raws get_stats payload 1).0 in
    rw is (from-records (raw_as Kind.GetStats payload) no-values no-setup (stats-made read.0 read.1 fits.0.1) no-version)
remade-as payload Kind.ResetStats is fits = rw is (blank-from Kind.ResetStats)
remade-as payload Kind.FwInfo is fits = rw is (from-records (raw_as Kind.FwInfo payload) no-values no-setup no-stats no-version)

-- ---- what a payload carries is in the reader's form, and fits

pub cleared-as : (payload : List ℕ) (kind : Kind) → Fits (layout_for kind) (raws (layout_for kind) payload 1) → InForm (raw_as kind payload)
unfolding cleared blank_raw raw_as raw_values_of raw_setup_values_of raw_stats_of
cleared-as payload Kind.FwVersion fits = refl
cleared-as payload Kind.GetValues fits =
    ap (λ (rows : Rows values_table). with_raw_values Kind.GetValues (values_by all_values rows)) ((row_laws values_table).read-present all_values (raws get_values payload 1).0 fits.0)
cleared-as payload Kind.GetValuesSelective fits =
    let read = (raws selective payload 1).0 in
    ap (λ (rows : Rows values_table). with_raw_values Kind.GetValuesSelective (values_by read.0 rows)) ((row_laws values_table).read-present read.0 read.1 fits.0.1)
cleared-as payload Kind.GetValuesSetupSelective fits =
    let read = (raws setup_selective payload 1).0 in
    ap (λ (rows : Rows setup_table). with_raw_setup_values (setup_by read.0 rows)) ((row_laws setup_table).read-present read.0 read.1 fits.0.1)
cleared-as payload Kind.GetStats fits =
    let read = (raws get_stats payload 1).0 in
    ap (λ (rows : Rows stats_table). with_raw_stats (stats_by read.0 rows)) ((row_laws stats_table).read-present read.0 read.1 fits.0.1)
cleared-as payload Kind.ResetStats fits = refl
cleared-as payload Kind.FwInfo fits = refl

-- a firmware record by the raw values of its layout
version-fits : (v : RawFwVersion) → Fits fw_version_layout (version_raws v) → VersionFits v
version-fits v fits =
    record {
      front = fits.0;
      hw-name = fits.1.0.0;
      uuid = fits.1.1.0;
      single = fits.1.1.1.0;
      fw-name = fits.1.1.1.1.0.0;
      crc = fits.1.1.1.1.1.0.0;
    }

info-fits : (v : FwInfo) → Fits fw_info_layout (info_raws v) → InfoFits v
info-fits v fits = record { front = fits.0; commit = fits.1.0.0; user = fits.1.1.0.0 }

fits-as : (payload : List ℕ) (kind : Kind) → Fits (layout_for kind) (raws (layout_for kind) payload 1) → RecordFits (raw_as kind payload)
unfolding blank_raw raw_as raw_values_of raw_setup_values_of raw_stats_of
fits-as payload Kind.FwVersion fits =
    let read = raws fw_version_layout payload 1 in
    version-fits (raw_version_by read) (subst (Fits fw_version_layout) (sym (raw-firmware.version-raws read fits)) fits)
fits-as payload Kind.GetValues fits = (row_laws values_table).read_fits all_values (raws get_values payload 1).0 fits.0
fits-as payload Kind.GetValuesSelective fits =
    let read = (raws selective payload 1).0 in
    (fits.0.0, (row_laws values_table).read_fits read.0 read.1 fits.0.1)
fits-as payload Kind.GetValuesSetupSelective fits =
    let read = (raws setup_selective payload 1).0 in
    (fits.0.0, (row_laws setup_table).read_fits read.0 read.1 fits.0.1)
fits-as payload Kind.GetStats fits =
    let read = (raws get_stats payload 1).0 in
    (fits.0.0, (row_laws stats_table).read_fits read.0 read.1 fits.0.1)
fits-as payload Kind.ResetStats fits = tt
fits-as payload Kind.FwInfo fits =
    let read = raws fw_info_layout payload 1 in
    info-fits (info_by read) (subst (Fits fw_info_layout) (sym (raw-firmware.info-raws read fits)) fits)

-- ---- a slice

-- a good frame: the kind of its payload, and the raw values that this carries
pub record Carries (s : List ℕ) : Type 0 where
  pub of-kind : OfKind (payload_in short s)
  pub fits : Fits (layout_for of-kind.kind) (raws (layout_for of-kind.kind) (payload_in short s) 1)

pub good-carries : (s : List ℕ) (count : ℕ) → Bytes s → judge_of s ≡ ok count → Carries s
good-carries s count b e =
    let payload = payload_in short s in
    let of-kind = kind-of payload (good-frames.never-early s ((good-frames.judged s count).0 e).0) in
    record { of-kind = of-kind; fits = (both_ways (layout_for of-kind.kind)).fits payload 1 (length payload) (payload-bytes s b) of-kind.whole }

-- what holds of the empty reply and of what a payload with an id of the seven carries holds of what is read
read-cases : (P : RawReply → Type 0) (s : List ℕ) → Bytes s → P empty_raw
    → ((payload : List ℕ) (kind : Kind) → Fits (layout_for kind) (raws (layout_for kind) payload 1) → P (raw_as kind payload)) → P (raw_read_of s).reply
unfolding raw_read_of raw_in
read-cases P s b empty carried = go (judge_of s) refl
  where
    go : (a : Answer ℕ) → judge_of s ≡ a → P (raw_in a s)
    go (ok count) e =
        let c = good-carries s count b e in
        subst P (sym (raw_of-kind (payload_in short s) c.of-kind.kind c.of-kind.its-id)) (carried (payload_in short s) c.of-kind.kind c.fits)
    go (refused why) e = empty

remade : (s : List ℕ) → Bytes s → reply_from (raw_read_of s).reply ≡ (decode_of s).reply
unfolding raw_read_of raw_in decode_of reply_by reply_in empty_reply
remade s b = go (judge_of s) refl
  where
    go : (a : Answer ℕ) → judge_of s ≡ a → reply_from (raw_in a s) ≡ reply_by a s
    go (ok count) e =
        let c = good-carries s count b e in
        let payload = payload_in short s in
        ap reply_from (raw_of-kind payload c.of-kind.kind c.of-kind.its-id) ∙ remade-as payload c.of-kind.kind c.of-kind.its-id c.fits
    go (refused why) e = blank-from Kind.FwVersion

empty-form : InForm empty_raw
unfolding cleared blank_raw
empty-form = refl

zeros-below : (n : ℕ) → Below (replicate n 1) (replicate n 0)
zeros-below zero = tt
zeros-below (suc n) = (omega arith, zeros-below n)

empty-fits : RecordFits empty_raw
unfolding blank_raw
empty-fits =
    record { front = zeros-below 2; hw-name = refl; uuid = zeros-below 12; single = zeros-below 8; fw-name = refl; crc = omega arith }

pub raw_laws : RawLaws
unfolding raw_read_of decode_of
raw_laws =
    record {
      refuses-alike = λ s. refl;
      remade = remade;
      in-form = λ s b. read-cases InForm s b empty-form (λ payload kind fits. cleared-as payload kind fits);
      fits = λ s b. read-cases RecordFits s b empty-fits (λ payload kind fits. fits-as payload kind fits);
    }
