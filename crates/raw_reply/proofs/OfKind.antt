-- Which kind a payload is: one whose layout reads it to its end has the id of one of the seven.
use mathlib.Core.Path.{◌≡◌, refl}
use mathlib.Core.Bool.{Bool, true, false, cond}
use mathlib.Core.List.{List, [], ◌∷◌, map}
use Prim.Native.Nat.{ℕ}
use lib.Dec.{eqb}
use lib.ListN.{length, get_or}
use borrow.Author.Tests.{eqb-true}
use Rattle.refusals.specs.Refusals.{ok}
use Rattle.refusals.proofs.Different.{none}
use Rattle.refusals.proofs.Answers.{given-then}
use Rattle.layout.specs.Layout.{Layout, extent}
use Rattle.layout.specs.Replies.{Reply, reply, replies, layout_in, fields_end}
use Rattle.judge.specs.Good.{ReadWhole}
use Rattle.reply.specs.Reply.{kind_number}
use Rattle.reply.specs.declared.Kind.{Kind}
use Rattle.raw_reply.specs.RawReply.{layout_for, kinds, raw_as, raw_reply_of}

-- a kind with its id and its layout, as one of the replies
abbrev as_reply : Kind → Reply
as_reply kind = reply (kind_number kind) (layout_for kind)

record HasId (id : ℕ) (l : Layout) : Type 0 where
  kind : Kind
  its-id : id ≡ kind_number kind
  its-layout : l ≡ layout_for kind

found : (ks : List Kind) (id : ℕ) (l : Layout) → layout_in (map as_reply ks) id ≡ ok l → HasId id l
unfolding layout_in
found [] id l e = none (cc)
found (k ∷ ks) id l e = go (eqb id (kind_number k)) refl (found ks id l) e
  where
    go : (b : Bool) → eqb id (kind_number k) ≡ b → (layout_in (map as_reply ks) id ≡ ok l → HasId id l)
        → cond b (ok (layout_for k)) (layout_in (map as_reply ks) id) ≡ ok l → HasId id l
    go true is ih e = record { kind = k; its-id = eqb-true id (kind_number k) is; its-layout = cc }
    go false is ih e = ih e

pub record OfKind (payload : List ℕ) : Type 0 where
  pub kind : Kind
  pub its-id : get_or payload 0 0 ≡ kind_number kind
  pub whole : extent (layout_for kind) payload 1 ≡ ok (length payload)

pub kind-of : (payload : List ℕ) → ReadWhole payload → OfKind payload
unfolding fields_end
kind-of payload whole =
    let two = given-then (layout_in replies (get_or payload 0 0)) (λ l. extent l payload 1) (length payload) whole in
    let has = found kinds (get_or payload 0 0) two.value two.first in
    record { kind = has.kind; its-id = has.its-id; whole = rw has.its-layout at two.second }

-- the reply of a kind's id is of that kind
pub raw_of-kind : (payload : List ℕ) (kind : Kind) → get_or payload 0 0 ≡ kind_number kind → raw_reply_of payload ≡ raw_as kind payload
unfolding raw_reply_of
raw_of-kind payload Kind.FwVersion is = rw is
raw_of-kind payload Kind.GetValues is = rw is
raw_of-kind payload Kind.GetValuesSelective is = rw is
raw_of-kind payload Kind.GetValuesSetupSelective is = rw is
raw_of-kind payload Kind.GetStats is = rw is
raw_of-kind payload Kind.ResetStats is = rw is
raw_of-kind payload Kind.FwInfo is = rw is
