-- `read_marked` meets its contract.
use native.Mathlib.Omega.{arith}
use Rattle.text_reader.proofs.MarksHold.{marks-start}
use Rattle.text_reader.proofs.call.read_marked.Goals as goal

pub read_messages-requires-clause-table_len_bound : goal.read_messages-requires-clause-table_len_bound
read_messages-requires-clause-table_len_bound c =
    (c.requires.1, marks-start _ 4096 (omega (arith, c.if-keys-le-FEW_KEYS.true, c.keys.ensures)), omega arith)

pub read_messages-requires-else-keys-le-FEW_KEYS-clause-table_len_bound : goal.read_messages-requires-else-keys-le-FEW_KEYS-clause-table_len_bound
read_messages-requires-else-keys-le-FEW_KEYS-clause-table_len_bound c =
    (c.requires.1, marks-start _ 131072 (omega (arith, c.keys.ensures)), omega arith)
