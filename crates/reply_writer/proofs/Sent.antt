-- What is sent of a raw reply: it fits its layout, and comes back from there as the reader's form of the reply.
use mathlib.Core.Path.{◌≡◌, refl, ap}
use mathlib.Core.Bool.{Bool, true, false, false≢true, ◌&&◌}
use mathlib.Core.List.{List}
use Prim.Native.Nat.{ℕ}
use Rattle.refusals.specs.Refusals.{Answer, ok, refused}
use Rattle.format.specs.Format.{name_room, hash_room, all_values}
use Rattle.names.specs.Names.{sent_of}
use Rattle.tables.specs.Tables.{values_table, setup_table, stats_table}
use Rattle.layout.specs.Layout.{raws}
use Rattle.layout.specs.Replies.{selective, setup_selective, get_stats}
use Rattle.layout.specs.Writing.{Fits}
use Rattle.firmware.proofs.Raw.{raw-firmware}
use Rattle.raw_telemetry.specs.Rows.{Rows, present}
use Rattle.raw_telemetry.specs.Records.{values_rows, values_by, raw_values_of, setup_rows, setup_by, raw_setup_values_of, stats_rows, stats_by, raw_stats_of}
use Rattle.raw_telemetry.proofs.Rows.{row_laws}
use Rattle.reply.specs.declared.Kind.{Kind}
use Rattle.raw_reply.specs.RawReply.{layout_for, blank_raw, raw_reply_by, raw_as, raws_in, with_raw_values, with_raw_setup_values, with_raw_stats, cleared_as}
use Rattle.raw_reply.specs.Laws.{FitsAs}
use Rattle.raw_reply.specs.declared.RawReply.{RawReply}
use Rattle.reply_writer.specs.Writer.{is_given, is_name, good_names_as}

-- ---- names

given-name : (a : Answer ℕ) → is_given a ≡ true → (next : ℕ) × (a ≡ ok next)
given-name (ok next) e = (next, refl)
given-name (refused why) e = absurd (false≢true e)

name-sent : (room : ℕ) (held : List ℕ) → is_name room held ≡ true → (next : ℕ) × (sent_of room held ≡ ok next)
unfolding is_name
name-sent room held e = given-name (sent_of room held) e

sent-name : (room : ℕ) (held : List ℕ) (next : ℕ) → sent_of room held ≡ ok next → is_name room held ≡ true
unfolding is_name
sent-name room held next e = rw e

both_true : (a b : Bool) → (a && b) ≡ true → (a ≡ true) × (b ≡ true)
both_true true true e = (refl, refl)
both_true true false e = absurd (false≢true e)
both_true false b e = absurd (false≢true e)

-- ---- what is written fits

pub sent-fits : (kind : Kind) (r : RawReply) → FitsAs kind r → good_names_as kind r ≡ true → Fits (layout_for kind) (raws_in kind (cleared_as kind r))
sent-fits Kind.FwVersion r fits names =
    let v = r.fw_version in
    let both = both_true (is_name name_room v.hw_name) (is_name name_room v.fw_name) names in
    let hw = name-sent name_room v.hw_name both.0 in
    let fw = name-sent name_room v.fw_name both.1 in
    (fits.front, ((fits.hw-name, hw), (fits.uuid, (fits.single, ((fits.fw-name, fw), ((fits.crc, tt), tt))))))
sent-fits Kind.GetValues r fits names = ((row_laws values_table).below all_values (values_rows r.values) fits, tt)
sent-fits Kind.GetValuesSelective r fits names = ((fits.0, (row_laws values_table).below r.values.mask (values_rows r.values) fits.1), tt)
sent-fits Kind.GetValuesSetupSelective r fits names =
    ((fits.0, (row_laws setup_table).below r.setup_values.mask (setup_rows r.setup_values) fits.1), tt)
sent-fits Kind.GetStats r fits names = ((fits.0, (row_laws stats_table).below r.stats.mask (stats_rows r.stats) fits.1), tt)
sent-fits Kind.ResetStats r fits names = tt
sent-fits Kind.FwInfo r fits names =
    let v = r.fw_info in
    let both = both_true (is_name hash_room v.commit_hash) (is_name hash_room v.user_commit_hash) names in
    (fits.front, ((fits.commit, name-sent hash_room v.commit_hash both.0), ((fits.user, name-sent hash_room v.user_commit_hash both.1), tt)))

-- ---- and is read as the reader's form

pub made-cleared : (kind : Kind) (r : RawReply) → FitsAs kind r → raw_reply_by kind (raws_in kind (cleared_as kind r)) ≡ cleared_as kind r
unfolding raw_values_of raw_setup_values_of raw_stats_of
made-cleared Kind.FwVersion r fits = refl
made-cleared Kind.GetValues r fits =
    let rows = values_rows r.values in
    ap (λ (back : Rows values_table). with_raw_values Kind.GetValues (values_by all_values back))
    ((row_laws values_table).rows_back (present all_values values_table rows) ((row_laws values_table).present-fits all_values rows fits))
made-cleared Kind.GetValuesSelective r fits =
    let mask = r.values.mask in
    let rows = values_rows r.values in
    ap (λ (back : Rows values_table). with_raw_values Kind.GetValuesSelective (values_by mask back))
    ((row_laws values_table).rows_back (present mask values_table rows) ((row_laws values_table).present-fits mask rows fits.1))
made-cleared Kind.GetValuesSetupSelective r fits =
    let mask = r.setup_values.mask in
    let rows = setup_rows r.setup_values in
    ap (λ (back : Rows setup_table). with_raw_setup_values (setup_by mask back))
    ((row_laws setup_table).rows_back (present mask setup_table rows) ((row_laws setup_table).present-fits mask rows fits.1))
made-cleared Kind.GetStats r fits =
    let mask = r.stats.mask in
    let rows = stats_rows r.stats in
    ap (λ (back : Rows stats_table). with_raw_stats (stats_by mask back))
    ((row_laws stats_table).rows_back (present mask stats_table rows) ((row_laws stats_table).present-fits mask rows fits.1))
made-cleared Kind.ResetStats r fits = refl
made-cleared Kind.FwInfo r fits = refl

-- ---- what was read has the raw values that its payload carries, and names that can be sent

pub kind-as : (kind : Kind) (payload : List ℕ) → (raw_as kind payload).kind ≡ kind
unfolding raw_as blank_raw
kind-as Kind.FwVersion payload = refl
kind-as Kind.GetValues payload = refl
kind-as Kind.GetValuesSelective payload = refl
kind-as Kind.GetValuesSetupSelective payload = refl
kind-as Kind.GetStats payload = refl
kind-as Kind.ResetStats payload = refl
kind-as Kind.FwInfo payload = refl

pub raws-as : (kind : Kind) (payload : List ℕ) → Fits (layout_for kind) (raws (layout_for kind) payload 1) → raws_in kind (raw_as kind payload) ≡ raws (layout_for kind) payload 1
unfolding raw_as raw_values_of raw_setup_values_of raw_stats_of
raws-as Kind.FwVersion payload fits = raw-firmware.version-raws _ fits
raws-as Kind.GetValues payload fits = λ i. ((row_laws values_table).numbers-back all_values _ fits.0 i, tt)
raws-as Kind.GetValuesSelective payload fits =
    let mask = (raws selective payload 1).0.0 in
    λ i. ((mask, (row_laws values_table).numbers-back mask _ fits.0.1 i), tt)
raws-as Kind.GetValuesSetupSelective payload fits =
    let mask = (raws setup_selective payload 1).0.0 in
    λ i. ((mask, (row_laws setup_table).numbers-back mask _ fits.0.1 i), tt)
raws-as Kind.GetStats payload fits =
    let mask = (raws get_stats payload 1).0.0 in
    λ i. ((mask, (row_laws stats_table).numbers-back mask _ fits.0.1 i), tt)
raws-as Kind.ResetStats payload fits = refl
raws-as Kind.FwInfo payload fits = raw-firmware.info-raws _ fits

pub names-as : (kind : Kind) (payload : List ℕ) → Fits (layout_for kind) (raws (layout_for kind) payload 1) → good_names_as kind (raw_as kind payload) ≡ true
unfolding raw_as
names-as Kind.FwVersion payload fits =
    rw (sent-name name_room _ _ fits.1.0.1.1, sent-name name_room _ _ fits.1.1.1.1.0.1.1)
names-as Kind.GetValues payload fits = refl
names-as Kind.GetValuesSelective payload fits = refl
names-as Kind.GetValuesSetupSelective payload fits = refl
names-as Kind.GetStats payload fits = refl
names-as Kind.ResetStats payload fits = refl
names-as Kind.FwInfo payload fits =
    rw (sent-name hash_room _ _ fits.1.0.1.1, sent-name hash_room _ _ fits.1.1.0.1.1)
