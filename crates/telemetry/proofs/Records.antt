-- A record by its table: each field is its row's value, and one that the mask lacks is zero, because the walk leaves 0 for it and 0 is a zero of each kind.
use mathlib.Core.Path.{◌≡◌, refl, sym, ap, ◌∙◌, subst}
use mathlib.Core.Bool.{true, false}
use mathlib.Core.List.{List, [], ◌∷◌}
use Prim.Native.Nat.{ℕ, zero, suc, ◌+◌, ◌%◌, ◌^◌, ◌<◌}
use native.Mathlib.Nat.{zero-add, zero-div}
use native.Mathlib.Omega.{arith}
use lib.Dec.{eqb}
use lib.Ieee.{nan}
use lib.ListN.{length, get_or}
use Rattle.floats.proofs.OverScale.{zero-reading}
use Rattle.packer.specs.Numbers.{signed_of, numbers_at}
use Rattle.tables.specs.Tables.{Coding, h, w, i, u, b, fault_byte, F, Field, field, has_bit, widths}
use Rattle.tables.specs.Sorts.{table_of}
use Rattle.tables.proofs.Widths.{raw-absent}
use Rattle.tables.specs.declared.Sort.{Sort}
use Rattle.codes.specs.Codes.{fault_of}
use Rattle.telemetry.specs.Telemetry.{FieldValue, float, value_by, entry, field_at, values_with, values_of, setup_values_with, setup_values_of, stats_of}
use Rattle.telemetry.specs.Records.{record_of, empty_record, ByTable, field_in, Zero, RecordHolds, TelemetryRecords}
use Rattle.telemetry.proofs.Scales.{coding_fits, positive, small, coding-fits}

-- ---- the fields of a record are its rows' values

-- from the raw number at place k on
abbrev values_from : List Field → List ℕ → ℕ → List FieldValue
values_from [] raws k = []
values_from (f ∷ table) raws k = value_by f.coding (get_or raws k 0) ∷ values_from table raws (suc k)

value-at
    : (table : List Field) (raws : List ℕ) (from k : ℕ) → k < length table
    → get_or (values_from table raws from) k (float nan) ≡ value_by (entry table k).coding (get_or raws (from + k) 0)
value-at [] raws from k inside = absurd (omega arith)
value-at (f ∷ table) raws from zero inside = let here : from + 0 ≡ from = omega arith in rw here
value-at (f ∷ table) raws from (suc k) inside =
    let on : from + suc k ≡ suc from + k = omega arith in
    rw on (value-at table raws (suc from) k (omega arith))

rows-values : (sort : Sort) (mask : ℕ) (raws : List ℕ) → (record_of sort mask raws).fields ≡ values_from (table_of sort) raws 0
unfolding values_of values_with setup_values_of setup_values_with stats_of
rows-values Sort.Values mask raws = refl
rows-values Sort.SetupValues mask raws = refl
rows-values Sort.Stats mask raws = refl

field-value : (sort : Sort) (mask : ℕ) (raws : List ℕ) (k : ℕ) → k < length (table_of sort) → field_in (record_of sort mask raws) k ≡ field_at (table_of sort) raws k
field-value sort mask raws k inside =
    ap (λ (values : List FieldValue). get_or values k (float nan)) (rows-values sort mask raws)
    ∙ value-at (table_of sort) raws 0 k inside
    ∙ ap (λ (n : ℕ). value_by (entry (table_of sort) k).coding (get_or raws n 0)) (zero-add k)

record-mask : (sort : Sort) (mask : ℕ) (raws : List ℕ) → (record_of sort mask raws).mask ≡ mask
unfolding values_of values_with setup_values_of setup_values_with stats_of
record-mask Sort.Values mask raws = refl
record-mask Sort.SetupValues mask raws = refl
record-mask Sort.Stats mask raws = refl

-- ---- 0 is a zero

coding-zero : (kind : Coding) → coding_fits kind ≡ true → Zero (value_by kind 0)
unfolding signed_of fault_of
coding-zero (h scale) fits = zero-reading scale (positive scale fits) (small scale fits)
coding-zero (w scale) fits = zero-reading scale (positive scale fits) (small scale fits)
coding-zero i fits = refl
coding-zero u fits = refl
coding-zero b fits = refl
coding-zero fault_byte fits = refl
coding-zero F fits = refl

value-zero : (sort : Sort) (raws : List ℕ) (k : ℕ) → get_or raws k 0 ≡ 0 → Zero (field_at (table_of sort) raws k)
value-zero sort raws k e = rw e (coding-zero (entry (table_of sort) k).coding (coding-fits sort k))

-- ---- a record that was read

filled : (sort : Sort) (mask : ℕ) (s : List ℕ) (start : ℕ) → RecordHolds sort mask s start (record_of sort mask (numbers_at (widths mask (table_of sort)) s start))
filled sort mask s start =
    let raws = numbers_at (widths mask (table_of sort)) s start in
    record {
      mask = record-mask sort mask raws;
      fields = field-value sort mask raws;
      absent = λ k inside lacks.
          let lacked : has_bit mask (entry (table_of sort) k).bit ≡ false = ap (λ (m : ℕ). has_bit m (entry (table_of sort) k).bit) (sym (record-mask sort mask raws)) ∙ lacks in
          subst Zero (sym (field-value sort mask raws k inside)) (value-zero sort raws k (raw-absent mask s (field 0 b) (table_of sort) start k lacked));
    }

-- ---- one with nothing in it

no-bit : (k : ℕ) → has_bit 0 k ≡ false
unfolding has_bit
no-bit k = ap (λ (n : ℕ). eqb (n % 2) 1) (zero-div (2 ^ k))

no_record : (sort : Sort) → empty_record sort ≡ record_of sort 0 []
unfolding values_of setup_values_of fault_of
no_record Sort.Values = refl
no_record Sort.SetupValues = refl
no_record Sort.Stats = refl

empty : (sort : Sort) (s : List ℕ) (start : ℕ) → RecordHolds sort 0 s start (empty_record sort)
empty sort s start =
    let is = no_record sort in
    let row : (k : ℕ) → k < length (table_of sort) → field_in (empty_record sort) k ≡ field_at (table_of sort) [] k =
    λ k inside. ap (λ (r : ByTable). field_in r k) is ∙ field-value sort 0 [] k inside in
    record {
      mask = ap (λ (r : ByTable). r.mask) is ∙ record-mask sort 0 [];
      fields = λ k inside.
          row k inside
          ∙ ap (λ (raw : ℕ). value_by (entry (table_of sort) k).coding raw) (sym (raw-absent 0 s (field 0 b) (table_of sort) start k (no-bit (entry (table_of sort) k).bit)));
      absent = λ k inside lacks. subst Zero (sym (row k inside)) (value-zero sort [] k refl);
    }

pub telemetry-records : TelemetryRecords
telemetry-records = record { filled = filled; empty = empty }
