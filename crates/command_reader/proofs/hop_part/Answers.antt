-- `command_reader::hop_part` meets its contract: the part that the reading says, at its place.
use mathlib.Core.Path.{refl}
use native.Mathlib.Omega.{arith}
use Rattle.command_reader.proofs.Reading.{part-inside, told-place, part-taken}
use Rattle.command_reader.proofs.hop_part.Goals as goal

pub overflow_add-result : goal.overflow_add-result
overflow_add-result c = omega (arith, told-place c.in-Ok.ensures, c.in-Ok.ensures.hops, part-inside c.args.buf.now)

pub slice_bounds-result-end : goal.slice_bounds-result-end
slice_bounds-result-end c = omega (arith, told-place c.in-Ok.ensures, c.in-Ok.ensures.hops, part-inside c.args.buf.now)

pub returns-in-Ok : goal.returns-in-Ok
returns-in-Ok c =
    let start = told-place c.in-Ok.ensures in
    (part-taken c.args.buf.now _ _ start c.in-Ok.ensures.hops, refl, omega (arith, start))

pub returns-in-Err : goal.returns-in-Err
returns-in-Err c =
    let start = told-place c.in-Err.ensures in
    (part-taken c.args.buf.now _ _ start c.in-Err.ensures.hops, refl, omega (arith, start))
