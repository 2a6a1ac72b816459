-- `after_sequence` meets its contract: the table's first row that stands is found, or none.
use mathlib.Core.Path.{◌≡◌, refl, sym, ap, ◌∙◌}
use Rattle.std.proofs.Common.{rules, tests, map}
use Rattle.std.specs.Prelude.{None}
use Rattle.std.specs.Option.{option_map}
use Rattle.std.proofs.lemmas.Iterator.{YieldsList-from_slice}
use Rattle.std.proofs.lemmas.Iterator.Search.{find_from_yields_List}
use Rattle.text.specs.Utf8.{table}
use Rattle.text.proofs.Rows.{at-front, row_of, front-is, row-fits, row-passed}
use Rattle.text.proofs.after_sequence.Goals as goal

pub returns-in_err-row : goal.returns-in_err-row
returns-in_err-row c =
    let rows = c.iter.result.rest.now in
    let is : map row_of rows ≡ table = cc in
    let found = find_from_yields_List (at-front c.args.bytes.now) _ _ c.find.result c.find.ensures.ran (YieldsList-from_slice rows refl) (λ x b q k. search (rules, tests)) in
    rw c.from_residual.ensures (front-is c.args.bytes.now rows is None (sym found ∙ ap (option_map (λ x. x.now)) c.in_err-row.was))

pub slice_bounds-result-count : goal.slice_bounds-result-count
slice_bounds-result-count c =
    let rows = c.iter.result.rest.now in
    let is : map row_of rows ≡ table = cc in
    let found = find_from_yields_List (at-front c.args.bytes.now) _ _ c.find.result c.find.ensures.ran (YieldsList-from_slice rows refl) (λ x b q k. search (rules, tests)) in
    row-fits c.args.bytes.now rows is c.in_ok-row.row.now (sym found ∙ ap (option_map (λ x. x.now)) c.in_ok-row.was)

pub slice_bounds-result-start : goal.slice_bounds-result-start
slice_bounds-result-start c =
    let rows = c.iter.result.rest.now in
    let is : map row_of rows ≡ table = cc in
    let found = find_from_yields_List (at-front c.args.bytes.now) _ _ c.find.result c.find.ensures.ran (YieldsList-from_slice rows refl) (λ x b q k. search (rules, tests)) in
    let fits = row-fits c.args.bytes.now rows is c.in_ok-row.row.now (sym found ∙ ap (option_map (λ x. x.now)) c.in_ok-row.was) in
    search rules

pub returns : goal.returns
returns c =
    let rows = c.iter.result.rest.now in
    let is : map row_of rows ≡ table = cc in
    let found = find_from_yields_List (at-front c.args.bytes.now) _ _ c.find.result c.find.ensures.ran (YieldsList-from_slice rows refl) (λ x b q k. search (rules, tests)) in
    row-passed c.args.bytes.now rows is c.in_ok-row.row.now (sym found ∙ ap (option_map (λ x. x.now)) c.in_ok-row.was)
