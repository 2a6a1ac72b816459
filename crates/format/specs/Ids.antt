-- The command that a byte is the id of.
use Rattle.std.specs.Prelude.{List, [], ◌∷◌, cond, ℕ, eqb}
use Rattle.refusals.specs.Refusals.{Answer, ok, refused, unknown_packet, consumed}
use Rattle.refusals.specs.OneAnswer.{ToldApart}
use Rattle.format.specs.Format.{id_of, all_ids}
use Rattle.format.specs.declared.CommandId.{CommandId}

-- the command with this id, among those of a list; document 02, W2: "3 (an id not in `CommandId`)"
unfoldable pub id_among : List CommandId → ℕ → Answer CommandId
id_among [] byte = refused (unknown_packet byte)
id_among (id ∷ ids) byte = cond (eqb byte (id_of id)) (ok id) (id_among ids byte)

abbrev pub id_named : ℕ → Answer CommandId
id_named byte = id_among all_ids byte

pub record OneAnswer : Type 0 where
  pub command-ids : ToldApart (consumed {A = CommandId})
