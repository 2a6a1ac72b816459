-- The payload of each kind: the numbers of its table as the code has them, or the items of a firmware reply.
use mathlib.Core.Path.{◌≡◌, refl, sym, ap, ◌∙◌, subst}
use mathlib.Core.List.{List, [], ◌∷◌, ◌++◌, append-nil}
use Prim.Native.Nat.{ℕ, suc, ◌+◌, ◌-◌, ◌≤◌}
use native.Mathlib.Omega.{arith}
use lib.ListN.{length, replicate, length-append}
use Rattle.format.specs.Format.{table_rows, all_values}
use Rattle.packer.specs.Numbers.{big_endian, total, digits}
use Rattle.packer.specs.Packing.{PackIs}
use Rattle.refusals.specs.declared.EncodeError.{EncodeError}
use Rattle.std.specs.Prelude.{Result}
use Rattle.packer.proofs.Digits.{digits-total, digits-front}
use Rattle.tables.specs.Tables.{Field, values_table, setup_table, stats_table, widths, most}
use Rattle.tables.specs.Rows.{padded}
use Rattle.tables.specs.Sorts.{table_of}
use Rattle.tables.specs.declared.Sort.{Sort}
use Rattle.tables.proofs.Widths.{widths-most}
use Rattle.layout.specs.Layout.{mask_widths}
use Rattle.layout.specs.Replies.{fw_version_layout, fw_info_layout}
use Rattle.layout.specs.Writing.{written, written_of}
use Rattle.firmware.specs.RawVersion.{version_raws, info_raws}
use Rattle.raw_telemetry.specs.Rows.{Rows, numbers_of, present}
use Rattle.raw_telemetry.specs.Records.{values_rows, setup_rows, stats_rows}
use Rattle.raw_telemetry.proofs.Rows.{row_laws}
use Rattle.reply.specs.Reply.{kind_number}
use Rattle.reply.specs.declared.Kind.{Kind}
use Rattle.raw_reply.specs.RawReply.{layout_for, cleared_as, cleared, raws_in}
use Rattle.raw_reply.specs.declared.RawReply.{RawReply}
use Rattle.reply_writer.specs.Writer.{known_mask_as, known_mask, good_names_as, good_names, payload_as, payload_of}

-- ---- the numbers of a table

widths-length : (mask : ℕ) (table : List Field) → length (widths mask table) ≡ length table
unfolding widths
widths-length mask [] = refl
widths-length mask (f ∷ table) = ap suc (widths-length mask table)

numbers-length : (table : List Field) (rows : Rows table) → length (numbers_of table rows) ≡ length table
unfolding numbers_of
numbers-length [] rows = refl
numbers-length (f ∷ table) rows = ap suc (numbers-length table rows.1)

module _ (mask : ℕ) (table : List Field) (rows : Rows table) where
  enough : length (widths mask table) ≤ length (numbers_of table rows)
  enough = omega (arith, widths-length mask table, numbers-length table rows)

  -- the zeros that pad them have no bytes
  pub unpadded : {raw : List ℕ} → raw ≡ padded (numbers_of table rows) → digits (widths mask table) (numbers_of table rows) ≡ digits (widths mask table) raw
  unfolding padded
  unpadded is = sym (ap (digits (widths mask table)) is ∙ digits-front (widths mask table) (numbers_of table rows) _ enough)

  -- behind an id and the mask, as an item of a layout and as the code has them: what the mask lacks has no bytes
  masked-bytes : (id : ℕ) {raw : List ℕ} → raw ≡ padded (numbers_of table rows)
      → id ∷ (digits (mask_widths mask table) (mask ∷ numbers_of table (present mask table rows)) ++ []) ≡ id ∷ digits (mask_widths mask table) (mask ∷ raw)
  unfolding digits
  masked-bytes id {raw} is =
      ap (λ (bytes : List ℕ). id ∷ bytes)
      (append-nil (digits (mask_widths mask table) (mask ∷ numbers_of table (present mask table rows)))
      ∙ ap (λ (bytes : List ℕ). big_endian 4 mask ++ bytes) ((row_laws table).digits-present mask rows ∙ unpadded is))

  -- they take the bytes of their widths
  pub masked-size : (id : ℕ) → length (digits (1 ∷ mask_widths mask table) (id ∷ mask ∷ padded (numbers_of table rows))) ≡ 5 + total (widths mask table)
  unfolding total padded
  masked-size id =
      let ns = numbers_of table rows in
      let more : List ℕ = replicate (table_rows - length ns) 0 in
      digits-total (1 ∷ mask_widths mask table) (id ∷ mask ∷ (ns ++ more)) (omega (arith, enough, length-append ns more)) ∙ omega arith

  pub fields-size : (id : ℕ) → length (digits (1 ∷ widths mask table) (id ∷ numbers_of table rows)) ≡ 1 + total (widths mask table)
  unfolding total
  fields-size id = digits-total (1 ∷ widths mask table) (id ∷ numbers_of table rows) (omega (arith, enough))

-- no table has more than 73 bytes
pub span-most : (sort : Sort) (mask : ℕ) → total (widths mask (table_of sort)) ≤ 73
unfolding most
span-most Sort.Values mask = widths-most values_table mask
span-most Sort.SetupValues mask = let all : total (widths mask setup_table) ≤ 69 = widths-most setup_table mask in omega arith
span-most Sort.Stats mask = let all : total (widths mask stats_table) ≤ 44 = widths-most stats_table mask in omega arith

-- ---- by kind

-- what is judged and written of a reply of a kind
pub mask-as : (r : RawReply) (kind : Kind) → r.kind ≡ kind → known_mask_as kind r ≡ known_mask r
unfolding known_mask
mask-as r kind is = sym (ap (λ (k : Kind). known_mask_as k r) is)

pub names-as : (r : RawReply) (kind : Kind) → r.kind ≡ kind → good_names_as kind r ≡ good_names r
unfolding good_names
names-as r kind is = sym (ap (λ (k : Kind). good_names_as k r) is)

pub payload-as : (r : RawReply) (kind : Kind) → r.kind ≡ kind → payload_of r ≡ kind_number kind ∷ written (layout_for kind) (raws_in kind (cleared_as kind r))
unfolding payload_as cleared
payload-as r kind is = ap (λ (k : Kind). kind_number k ∷ written (layout_for k) (raws_in k (cleared_as k r))) is

module _ (r : RawReply) where
  pub version-payload : r.kind ≡ Kind.FwVersion → payload_of r ≡ kind_number Kind.FwVersion ∷ written fw_version_layout (version_raws r.fw_version)
  version-payload = payload-as r Kind.FwVersion

  pub info-payload : r.kind ≡ Kind.FwInfo → payload_of r ≡ kind_number Kind.FwInfo ∷ written fw_info_layout (info_raws r.fw_info)
  info-payload = payload-as r Kind.FwInfo

  pub reset-payload : r.kind ≡ Kind.ResetStats → payload_of r ≡ kind_number Kind.ResetStats ∷ []
  unfolding written
  reset-payload = payload-as r Kind.ResetStats

  pub values-payload : r.kind ≡ Kind.GetValues
      → payload_of r ≡ digits (1 ∷ widths all_values values_table) (kind_number Kind.GetValues ∷ numbers_of values_table (values_rows r.values))
  unfolding written written_of digits big_endian
  values-payload is =
      payload-as r Kind.GetValues is
      ∙ ap (λ (bytes : List ℕ). kind_number Kind.GetValues ∷ bytes)
      (append-nil (digits (widths all_values values_table) (numbers_of values_table (present all_values values_table (values_rows r.values))))
      ∙ (row_laws values_table).digits-present all_values (values_rows r.values))

  module _ {raw : List ℕ} where
    pub selective-payload : r.kind ≡ Kind.GetValuesSelective → raw ≡ padded (numbers_of values_table (values_rows r.values))
        → payload_of r ≡ digits (1 ∷ mask_widths r.values.mask values_table) (kind_number Kind.GetValuesSelective ∷ r.values.mask ∷ raw)
    unfolding written written_of digits big_endian
    selective-payload is numbers =
        payload-as r Kind.GetValuesSelective is ∙ masked-bytes r.values.mask values_table (values_rows r.values) (kind_number Kind.GetValuesSelective) numbers

    pub setup-payload : r.kind ≡ Kind.GetValuesSetupSelective → raw ≡ padded (numbers_of setup_table (setup_rows r.setup_values))
        → payload_of r ≡ digits (1 ∷ mask_widths r.setup_values.mask setup_table) (kind_number Kind.GetValuesSetupSelective ∷ r.setup_values.mask ∷ raw)
    unfolding written written_of digits big_endian
    setup-payload is numbers =
        payload-as r Kind.GetValuesSetupSelective is
        ∙ masked-bytes r.setup_values.mask setup_table (setup_rows r.setup_values) (kind_number Kind.GetValuesSetupSelective) numbers

    pub stats-payload : r.kind ≡ Kind.GetStats → raw ≡ padded (numbers_of stats_table (stats_rows r.stats))
        → payload_of r ≡ digits (1 ∷ mask_widths r.stats.mask stats_table) (kind_number Kind.GetStats ∷ r.stats.mask ∷ raw)
    unfolding written written_of digits big_endian
    stats-payload is numbers =
        payload-as r Kind.GetStats is ∙ masked-bytes r.stats.mask stats_table (stats_rows r.stats) (kind_number Kind.GetStats) numbers

-- ---- the same bytes

-- they need the same room, and are written alike
pub room-as : {p q : List ℕ} {n : ℕ} (at : ℕ) → p ≡ q → at + length p ≤ n → at + length q ≤ n
room-as {n = n} at same room = subst (λ (bytes : List ℕ). at + length bytes ≤ n) same room

pub packed-as : {p q l after : List ℕ} {at : ℕ} {r : Result ℕ EncodeError} → p ≡ q → PackIs q l at r after → PackIs p l at r after
packed-as {l = l} {after} {at} {r} same w = subst (λ (bytes : List ℕ). PackIs bytes l at r after) (sym same) w
