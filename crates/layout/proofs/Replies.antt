-- The seven replies: how many bytes their fields have at the most, and which ids have a layout.
use mathlib.Core.Path.{◌≡◌, refl, sym, subst}
use mathlib.Core.Bool.{Bool, true, false, ◌&&◌, cond}
use mathlib.Core.List.{List, [], ◌∷◌}
use Prim.Native.Nat.{ℕ, ◌≤◌}
use native.Mathlib.Omega.{arith}
use lib.Dec.{T, leb, leb→le, eqb}
use lib.Ieee.Fits.{and_l, and_r}
use borrow.Author.Tests.{ne_eqb, eqb-false}
use lib.ListN.{drop}
use Rattle.refusals.specs.Refusals.{Answer, ok, refused, unknown_packet}
use Rattle.refusals.specs.Answers.{and_then}
use Rattle.refusals.proofs.Different.{none}
use Rattle.refusals.proofs.Answers.{known-refused}
use Rattle.packer.specs.Numbers.{total}
use Rattle.tables.specs.Tables.{has_bit, takes, widths, most}
use Rattle.layout.specs.Layout.{Layout, Reader, extent, longest_of, longest}
use Rattle.layout.specs.Replies.{Reply, replies, layout_in, NoneOf, fields_end}
use Rattle.layout.proofs.Readers.{Lawful, reads}

reads-unknown : (bound id : ℕ) → Lawful bound (λ s at. refused (unknown_packet id))
reads-unknown bound id =
    record {
      same = λ xs ys at known. refl;
      enough = λ xs at there. known-refused (unknown_packet id) (λ z. omega arith);
      onward = λ xs at next e. none (cc);
      near = λ xs at next e. none (cc);
      own = λ xs at next end before e. e;
    }

reads-wider : {w : ℕ} (v : ℕ) {r : Reader} → w ≤ v → Lawful w r → Lawful v r
reads-wider v more p =
    record {
      same = p.same;
      enough = λ xs at there. p.enough xs at (omega arith);
      onward = p.onward;
      near = λ xs at next e. let h = p.near xs at next e in omega arith;
      own = p.own;
    }

-- whether no reply of the list is longer
abbrev none_longer : ℕ → List Reply → Bool
none_longer bound [] = true
none_longer bound (r ∷ others) = leb (longest r.layout) bound && none_longer bound others

reads-cond : {bound : ℕ} (b : Bool) {r q : Reader} → Lawful bound r → Lawful bound q → Lawful bound (λ s at. cond b (r s at) (q s at))
reads-cond true p o = p
reads-cond false p o = o

-- the layout is chosen, or its reading
chosen : (b : Bool) (l : Layout) (other : Answer Layout) (s : List ℕ) (at : ℕ)
    → and_then (cond b (ok l) other) (λ layout. extent layout s at) ≡ cond b (extent l s at) (and_then other (λ layout. extent layout s at))
chosen true l other s at = refl
chosen false l other s at = refl

reads_in : (bound id : ℕ) (l : List Reply) → T (none_longer bound l) → Lawful bound (λ s at. and_then (layout_in l id) (λ layout. extent layout s at))
unfolding layout_in
reads_in bound id [] all = reads-unknown bound id
reads_in bound id (r ∷ others) all =
    let first = leb→le (longest r.layout) bound (and_l (leb (longest r.layout) bound) (none_longer bound others) all) in
    let rest = and_r (leb (longest r.layout) bound) (none_longer bound others) all in
    subst (Lawful bound) (λ i s at. sym (chosen (eqb id r.id) r.layout (layout_in others id) s at) i)
    (reads-cond (eqb id r.id) (reads-wider bound first (reads r.layout)) (reads_in bound id others rest))

-- "Longest frames: FwVersion 110": its fields have 104 bytes
pub reads-fields : (id : ℕ) → Lawful 104 (fields_end id)
unfolding fields_end longest longest_of total widths takes has_bit most
reads-fields id = reads_in 104 id replies (tt {0})

-- "FwInfo 103": where the id is not FwVersion's, the fields have 97 bytes at the most
pub reads-others : (id : ℕ) → (id ≡ 0 → ⊥) → Lawful 97 (fields_end id)
unfolding fields_end layout_in longest longest_of total widths takes has_bit most
reads-others id differs =
    let passed : layout_in replies id ≡ layout_in (drop 1 replies) id = rw (ne_eqb id 0 differs) in
    subst (Lawful 97) (λ i s at. and_then (sym passed i) (λ layout. extent layout s at)) (reads_in 97 id (drop 1 replies) (tt {0}))

-- ---- an id of a reply, or of none

pub no-reply : (l : List Reply) (id : ℕ) → NoneOf l id → layout_in l id ≡ refused (unknown_packet id)
unfolding layout_in
no-reply [] id none_of = refl
no-reply (r ∷ others) id none_of = rw (ne_eqb id r.id none_of.0) (no-reply others id none_of.1)

-- what an answer is if an id is that of a reply, and if it is none's
pub by-reply : {C : Type 0} (l : List Reply) (id : ℕ) → ((layout : Layout) → layout_in l id ≡ ok layout → C) → (NoneOf l id → C) → C
unfolding layout_in
by-reply [] id known unknown = unknown tt
by-reply {C} (r ∷ others) id known unknown = go (eqb id r.id) refl known (by-reply others id)
  where
    go : (b : Bool) → eqb id r.id ≡ b → ((layout : Layout) → cond b (ok r.layout) (layout_in others id) ≡ ok layout → C)
        → (((layout : Layout) → layout_in others id ≡ ok layout → C) → (NoneOf others id → C) → C) → C
    go true e known ih = known r.layout refl
    go false e known ih = ih known (λ none_of. unknown (eqb-false id r.id e, none_of))
