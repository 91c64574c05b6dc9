-- `find_field` meets its contract.
use Rattle.std.proofs.Common.{arith}
use Rattle.inference.proofs.InPlace.Scalars.{table_at, key-stands}
use Rattle.inference.proofs.scalar_fields.find_field.Goals as goal

pub key_at-requires : goal.key_at-requires
key_at-requires c = let g = c.requires in (table_at g.holds g.starts c.if-from-n.true).whole

pub returns-then-key-key_at : goal.returns-then-key-key_at
returns-then-key-key_at c e rest f q free h s = key-stands e h _ s c.if-from-n.true (omega (arith, c.key_at.ensures, c.if-key-key_at.true))
