-- Document 01, "Reply fields": the text of a name.
use Rattle.std.specs.Prelude.{◌≡◌, ℕ, ◌-◌, ◌<◌, ◌≤◌, Bool, true, false, cond, ◌↔◌, List, [], length, get_or, take, ◌≢◌, slice_index_or, Option}
use Rattle.std.specs.Option.{is_some, unwrap_or}
use Rattle.refusals.specs.Refusals.{Answer, ok, refused}
use Rattle.names.specs.Names.{nul_within}
use Rattle.text.specs.Utf8.{well_formed, WellFormed}

-- the first NUL of a name's bytes, by the place after it
unfoldable pub first_nul : List ℕ → Answer ℕ
first_nul name = nul_within (length name) name 0

-- "the part of the lent name bytes before the first NUL"
unfoldable pub part_before : Answer ℕ → List ℕ → List ℕ
part_before (ok next) name = take (next - 1) name
part_before (refused why) name = []

-- whether that part is a text: not "when there is no NUL or the part is not well-formed UTF-8"
unfoldable pub has_text_before : Answer ℕ → List ℕ → Bool
has_text_before (ok next) name = well_formed (part_before (ok next) name)
has_text_before (refused why) name = false

-- whether a name has a text, an empty one too
unfoldable pub has_text : List ℕ → Bool
has_text name = has_text_before (first_nul name) name

-- the text of a name; where it has none, "the part is then the empty one"
unfoldable pub text_of : List ℕ → List ℕ
text_of name = cond (has_text name) (part_before (first_nul name) name) []

-- a number of bytes at the front of a name, or none, that says its text
pub record FoundText (name : List ℕ) (found : Option ℕ) : Type 0 where
  pub said : is_some found ≡ has_text name
  pub inside : unwrap_or found 0 ≤ length name
  pub part : take (unwrap_or found 0) name ≡ text_of name

-- What the answers of `has_text` and `text` mean, without the definitions above.

-- the first NUL of a name stands at k; past the end `get_or` gives 1, which is no NUL
pub record FirstNulAt (name : List ℕ) (k : ℕ) : Type 0 where
  pub inside : k < length name
  pub nul : get_or name k 1 ≡ 0
  pub first : (j : ℕ) → j < k → slice_index_or name j 1 ≢ 0

-- a name has a text of k bytes: its first NUL stands at k, and the k bytes before it are well-formed by Unicode's table
pub record TextEndsAt (name : List ℕ) (k : ℕ) : Type 0 where
  pub nul : FirstNulAt name k
  pub formed : WellFormed (take k name)

-- `has` is whether a name has a text, and `part` is that text: the k bytes, or no byte if there is no text
pub record TextOfName (name : List ℕ) (has : Bool) (part : List ℕ) : Type 0 where
  pub exactly : (has ≡ true) ↔ ((k : ℕ) × TextEndsAt name k)
  pub bytes : (k : ℕ) → TextEndsAt name k → part ≡ take k name
  pub absent : ((k : ℕ) → TextEndsAt name k → ⊥) → part ≡ []
