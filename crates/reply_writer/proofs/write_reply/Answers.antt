-- `reply_writer::write_reply` meets its contract: a law for each way out.
use mathlib.Core.Path.{sym, ◌∙◌}
use Rattle.reply_writer.proofs.Writing.{unknown-bits, bad-name, too_small, not-full, wrapped}
use Rattle.reply_writer.proofs.write_reply.Goals as goal

pub returns-then-not-known_mask : goal.returns-then-not-known_mask
returns-then-not-known_mask c = unknown-bits _ _ (sym c.known_mask.ensures ∙ c.if-not-known_mask.true)

pub returns-then-not-good_names : goal.returns-then-not-good_names
returns-then-not-good_names c =
    bad-name _ _ (sym c.known_mask.ensures ∙ c.if-not-known_mask.false) (sym c.good_names.ensures ∙ c.if-not-good_names.true)

pub returns-then-buf-len : goal.returns-then-buf-len
returns-then-buf-len c =
    let known = sym c.known_mask.ensures ∙ c.if-not-known_mask.false in
    let good = sym c.good_names.ensures ∙ c.if-not-good_names.false in
    too_small _ _ known good c.payload_len-len.ensures.0 c.if-buf-len.true

pub returns-in_err-map_err : goal.returns-in_err-map_err
returns-in_err-map_err c =
    let known = sym c.known_mask.ensures ∙ c.if-not-known_mask.false in
    let good = sym c.good_names.ensures ∙ c.if-not-good_names.false in
    not-full _ _ known good c.payload_len-len.ensures.0 c.if-buf-len.false c.pack_payload.ensures _ c.map_err.ensures.cases c.in_err-map_err.was

pub returns : goal.returns
returns c =
    let known = sym c.known_mask.ensures ∙ c.if-not-known_mask.false in
    let good = sym c.good_names.ensures ∙ c.if-not-good_names.false in
    let len = c.payload_len-len.ensures in
    wrapped _ _ known good len.0 c.if-buf-len.false c.pack_payload.ensures _ len.1 c.wrap.ensures c.map_err-2.ensures.cases
