-- What the three records of a reply hold, whatever `decode` returns.
use mathlib.Core.Path.{◌≡◌, refl, sym, ap, ◌∙◌, subst}
use mathlib.Core.Bool.{Bool, true, false, cond}
use mathlib.Core.List.{List}
use Prim.Native.Nat.{ℕ}
use native.Mathlib.Omega.{arith}
use native.Mathlib.Nat.{le_refl}
use lib.Dec.{eqb}
use lib.ListN.{get_or, drop}
use borrow.Author.Tests.{eqb-true, eqb-false, ne_eqb}
use Rattle.refusals.specs.Refusals.{Answer, ok, refused, unknown_packet}
use Rattle.std.specs.Prelude.{Ok}
use Rattle.refusals.proofs.Different.{none}
use Rattle.format.specs.Format.{all_values}
use Rattle.packer.specs.Numbers.{numbers_at}
use Rattle.tables.specs.Tables.{widths}
use Rattle.tables.specs.Sorts.{table_of}
use Rattle.tables.specs.declared.Sort.{Sort}
use Rattle.telemetry.specs.Telemetry.{values_of, setup_values_of, stats_of, no_values, no_setup_values, no_stats}
use Rattle.telemetry.specs.Records.{record_of, empty_record, RecordHolds}
use Rattle.telemetry.proofs.Records.{telemetry-records}
use Rattle.firmware.specs.declared.FwVersion.{FwVersion}
use Rattle.firmware.specs.declared.FwInfo.{FwInfo}
use Rattle.frame.specs.Frame.{short, payload_in}
use Rattle.frame.specs.Opening.{payload_part}
use Rattle.frame.proofs.Places.{payload-is}
use Rattle.layout.specs.Layout.{Layout, extent, raw_of, RawsOf, raws}
use Rattle.layout.specs.Replies.{get_values, selective, setup_selective, get_stats, layout_in, fields_end}
use Rattle.layout.proofs.Raws.{raws-drop, raws-own}
use Rattle.judge.specs.Judge.{judge_of}
use Rattle.judge.specs.Good.{GoodFrame}
use Rattle.judge.proofs.Good.{good-parts, id-there, good-frames}
use Rattle.reply.specs.Reply.{kind_number, reply_with, blank_of, empty_reply, with_values, with_setup_values, with_stats, get_values_of, get_values_selective_of, get_values_setup_selective_of, get_stats_of, fw_version_reply_of, fw_info_reply_of, reply_of}
use Rattle.reply.specs.Decode.{Decode, reply_in, reply_by, decode_of, decoded}
use Rattle.reply.specs.Records.{record_in, received, masks, fields_at, RecordsOf}
use Rattle.reply.specs.declared.Kind.{Kind}
use Rattle.reply.specs.declared.CommandReply.{CommandReply}

-- the claim of all three records, from the claim of each
module _ (s : List ℕ) (start : ℕ) (reply : CommandReply) {values setup stats : ℕ} where
  each
      : RecordHolds Sort.Values values s start (record_in Sort.Values reply) → RecordHolds Sort.SetupValues setup s start (record_in Sort.SetupValues reply)
      → RecordHolds Sort.Stats stats s start (record_in Sort.Stats reply) → (sort : Sort) → RecordHolds sort (masks values setup stats sort) s start (record_in sort reply)
  each first second third Sort.Values = first
  each first second third Sort.SetupValues = second
  each first second third Sort.Stats = third

abbrev filled : (sort : Sort) (bits : ℕ) (s : List ℕ) (start : ℕ) → RecordHolds sort bits s start (record_of sort bits (numbers_at (widths bits (table_of sort)) s start))
filled = telemetry-records.filled

abbrev empty : (sort : Sort) (s : List ℕ) (start : ℕ) → RecordHolds sort 0 s start (empty_record sort)
empty = telemetry-records.empty

-- a reply with no telemetry
nothing
    : (s : List ℕ) (kind : Kind) (version : FwVersion) (info : FwInfo) (sort : Sort)
    → RecordHolds sort (masks 0 0 0 sort) s (fields_at kind) (record_in sort (reply_with kind no_values no_setup_values no_stats version info))
nothing s kind version info =
    each s (fields_at kind) (reply_with kind no_values no_setup_values no_stats version info) (empty Sort.Values s _) (empty Sort.SetupValues s _) (empty Sort.Stats s _)

-- the empty reply, whatever was refused
pub empty-records : (s : List ℕ) → RecordsOf s empty_reply
unfolding empty_reply blank_of
empty-records s = nothing s Kind.FwVersion _ _

-- a reply of the kind whose number is the id, and what its records hold
abbrev Told : List ℕ → CommandReply → Type 0
Told s reply = (kind_number reply.kind ≡ get_or s 2 0) × RecordsOf s reply

-- ---- a good frame's payload
module _ (s : List ℕ) (good : GoodFrame s) where
  abbrev payload : List ℕ
  payload = payload_in short s

  -- its raw values are those of its layout in the slice
  raws-there : (l : Layout) → fields_end (get_or s 2 0) (drop 2 s) 1 ≡ extent l (drop 2 s) 1 → raws l payload 1 ≡ raws l s 3
  unfolding payload_part
  raws-there l chosen =
      let parts = good-parts s good in
      let there = parts.ended.there in
      ap (λ (part : List ℕ). raws l part 1) (payload-is s)
      ∙ raws-own (drop 2 s) (get_or s 1 0) l 1 (get_or s 1 0) (le_refl _) (sym chosen ∙ parts.fields)
      ∙ raws-drop s 2 (omega arith) l 1

  get-values-told : get_or s 2 0 ≡ 4 → Told s (get_values_of payload)
  unfolding get_values_of fields_end layout_in raws raw_of
  get-values-told id =
      subst (λ (r : RawsOf get_values). Told s (with_values Kind.GetValues (values_of all_values r.0))) (sym (raws-there get_values (rw id)))
      (sym id, each s 3 _ (filled Sort.Values all_values s 3) (empty Sort.SetupValues s 3) (empty Sort.Stats s 3))

  selective-told : get_or s 2 0 ≡ 50 → Told s (get_values_selective_of payload)
  unfolding get_values_selective_of fields_end layout_in raws raw_of
  selective-told id =
      subst (λ (r : RawsOf selective). Told s (with_values Kind.GetValuesSelective (values_of r.0.0 r.0.1))) (sym (raws-there selective (rw id)))
      (sym id, each s 7 _ (filled Sort.Values (received s) s 7) (empty Sort.SetupValues s 7) (empty Sort.Stats s 7))

  setup-selective-told : get_or s 2 0 ≡ 51 → Told s (get_values_setup_selective_of payload)
  unfolding get_values_setup_selective_of fields_end layout_in raws raw_of
  setup-selective-told id =
      subst (λ (r : RawsOf setup_selective). Told s (with_setup_values (setup_values_of r.0.0 r.0.1))) (sym (raws-there setup_selective (rw id)))
      (sym id, each s 7 _ (empty Sort.Values s 7) (filled Sort.SetupValues (received s) s 7) (empty Sort.Stats s 7))

  get-stats-told : get_or s 2 0 ≡ 128 → Told s (get_stats_of payload)
  unfolding get_stats_of fields_end layout_in raws raw_of
  get-stats-told id =
      subst (λ (r : RawsOf get_stats). Told s (with_stats (stats_of r.0.0 r.0.1))) (sym (raws-there get_stats (rw id)))
      (sym id, each s 7 _ (empty Sort.Values s 7) (empty Sort.SetupValues s 7) (filled Sort.Stats (received s) s 7))

  fw-version-told : get_or s 2 0 ≡ 0 → Told s (fw_version_reply_of payload)
  unfolding fw_version_reply_of
  fw-version-told id = (sym id, nothing s Kind.FwVersion _ _)

  reset-stats-told : get_or s 2 0 ≡ 129 → Told s (blank_of Kind.ResetStats)
  unfolding blank_of
  reset-stats-told id = (sym id, nothing s Kind.ResetStats _ _)

  fw-info-told : get_or s 2 0 ≡ 157 → Told s (fw_info_reply_of payload)
  unfolding fw_info_reply_of
  fw-info-told id = (sym id, nothing s Kind.FwInfo _ _)

  -- one test of the id
  by-id
      : (id : ℕ) (yes-reply no-reply : CommandReply) → (get_or s 2 0 ≡ id → Told s yes-reply) → ((get_or s 2 0 ≡ id → ⊥) → Told s no-reply)
      → Told s (cond (eqb (get_or payload 0 0) id) yes-reply no-reply)
  by-id id yes-reply no-reply is else = go (eqb (get_or payload 0 0) id) refl
    where
      there : get_or payload 0 0 ≡ get_or s 2 0
      there = ap (λ (part : List ℕ). get_or part 0 0) (payload-is s) ∙ id-there s good

      go : (t : Bool) → eqb (get_or payload 0 0) id ≡ t → Told s (cond t yes-reply no-reply)
      go true e = is (sym there ∙ eqb-true _ id e)
      go false e = else (λ is-id. eqb-false _ id e (there ∙ is-id))

  reply-told : Told s (reply_of payload)
  unfolding reply_of fields_end layout_in
  reply-told =
      by-id 0 _ _ fw-version-told (λ not-0.
      by-id 4 _ _ get-values-told (λ not-4.
      by-id 50 _ _ selective-told (λ not-50.
      by-id 51 _ _ setup-selective-told (λ not-51.
      by-id 128 _ _ get-stats-told (λ not-128.
      by-id 129 _ _ reset-stats-told (λ not-129.
      by-id 157 _ _ fw-info-told (λ not-157.
      let no : refused (unknown_packet (get_or s 2 0)) ≡ ok _ =
      rw (ne_eqb _ 0 not-0, ne_eqb _ 4 not-4, ne_eqb _ 50 not-50, ne_eqb _ 51 not-51, ne_eqb _ 128 not-128, ne_eqb _ 129 not-129, ne_eqb _ 157 not-157) at good.fields in
      none (cc))))))))

-- ---- whatever `decode` returns of a slice

-- where that is a good frame
pub decoded-told : (s : List ℕ) (count : ℕ) (reply : CommandReply) → decoded (Ok (count, reply)) ≡ decode_of s → Told s reply
unfolding decode_of reply_by reply_in
decoded-told s count reply is =
    let e : judge_of s ≡ ok count = sym (ap (λ (r : Decode). r.answer) is) in
    let same : reply ≡ reply_of (payload_in short s) = ap (λ (r : Decode). r.reply) is ∙ ap (λ (a : Answer ℕ). reply_by a s) e in
    rw same (reply-told s ((good-frames.judged s count).0 e).0)

by-records : (s : List ℕ) (a : Answer ℕ) → judge_of s ≡ a → RecordsOf s (reply_by a s)
unfolding reply_by reply_in
by-records s (ok count) e = (reply-told s ((good-frames.judged s count).0 e).0).1
by-records s (refused why) e = empty-records s

-- and in every case
pub decoded-records : (s : List ℕ) → RecordsOf s (decode_of s).reply
unfolding decode_of
decoded-records s = by-records s (judge_of s) refl
