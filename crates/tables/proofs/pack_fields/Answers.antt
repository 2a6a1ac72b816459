-- `tables::pack_fields` meets its contract: with room for all of them, writing the fields that are left behind those that are written makes what
-- writing all of them makes of the slice as it was.
use Prim.Native.Nat.{◌+◌}
use mathlib.Core.List.{[], ◌∷◌, ◌++◌}
use mathlib.Core.Path.{◌≡◌}
use native.Mathlib.Omega.{arith}
use borrow.Author.Rules.{rules}
use lib.ListN.{length, length-append}
use Rattle.std.specs.Prelude.{Err}
use Rattle.std.proofs.lemmas.Slice.Zip.{zip_turn, zip_end}
use Rattle.packer.proofs.Places.{not_roomy}
use Rattle.packer.proofs.Writes.{full-refused}
use Rattle.tables.specs.Sorts.{table_of}
use Rattle.tables.proofs.Turns.{few, rows-length, rows-size, row-bit, span-next, no-refusal, next-place, written_next, written-past}
use Rattle.tables.proofs.pack_fields.Goals as goal

pub returns-in_err-reserve : goal.returns-in_err-reserve
returns-in_err-reserve c =
    let passed : c.from_residual.result ≡ Err c.in_err-reserve.field-0.0 = search rules in
    let out = not_roomy c.in_err-reserve.ensures.answer in
    let size = rows-size c.args.mask (table_of c.args.sort) c.args.raw 0 (omega (arith, few c.args.sort)) in
    rw passed (full-refused _ _ _ (omega (arith, size, out.lacks, c.span.ensures)) _ out.says)

pub takes-requires : goal.takes-requires
takes-requires c =
    let turn = zip_turn c.rows.result.now c.args.raw _ c.into_iter-row-iterator.result _ c.next.new.self _ (search rules) (search rules) c.loop-row.yielded_by _ c.in-Some.is c.next.ensures.steps in
    row-bit c.args.sort c.rows.ensures _ c.in-Some.row.now turn.0 (turn.2 _)

pub returns-in_err-at : goal.returns-in_err-at
returns-in_err-at c =
    let turn = zip_turn c.rows.result.now c.args.raw _ c.into_iter-row-iterator.result _ c.next.new.self _ (search rules) (search rules) c.loop-row.yielded_by _ c.in-Some.is c.next.ensures.steps in
    absurd
    (no-refusal c.args.sort c.rows.ensures _ c.in-Some.row.now turn.0 (turn.2 _) c.args.mask c.takes.ensures c.args.raw (omega (arith, few c.args.sort))
    (turn.3 0) (omega arith) c.pack_be.ensures c.in_err-at.was)

pub loop-row-preserved : goal.loop-row-preserved
loop-row-preserved c =
    let turn = zip_turn c.rows.result.now c.args.raw _ c.into_iter-row-iterator.result _ c.next.new.self _ (search rules) (search rules) c.loop-row.yielded_by _ c.in-Some.is c.next.ensures.steps in
    let sort = c.args.sort in
    let row = c.in-Some.row.now in
    let many = few c.args.sort in
    let more : length (c.loop-row.yielded ++ ((c.in-Some.row, c.in-Some.field-0-1) ∷ [])) ≡ length c.loop-row.yielded + 1 = simp length-append in
    rw more (
      omega (
        arith,
        span-next sort c.rows.ensures _ row turn.0 (turn.2 _) c.args.mask c.takes.ensures,
        next-place sort c.rows.ensures _ row turn.0 (turn.2 _) c.args.mask c.takes.ensures c.args.raw (omega arith) (turn.3 0) (omega arith) c.pack_be.ensures c.in_ok-at.was,
      ),
      written_next sort c.rows.ensures _ row turn.0 (turn.2 _) c.args.mask c.takes.ensures c.args.raw (omega arith) (turn.3 0) (omega arith) c.pack_be.ensures
          c.in_ok-at.was c.loop-row.invariant.1,
    )

pub returns : goal.returns
returns c =
    let end = zip_end c.rows.result.now c.args.raw _ c.into_iter-row-iterator.result _ c.next.new.self _ (search rules) (search rules) c.loop-row.yielded_by c.in-None.is c.next.ensures.steps in
    written-past c.args.sort c.rows.ensures _ (omega (arith, few c.args.sort, rows-length c.args.sort c.rows.ensures)) c.args.mask c.args.raw (omega arith) c.loop-row.invariant.1
