-- `sign_end` meets its contract.
use Rattle.std.proofs.Common.{rules}
use Rattle.json_tokens.proofs.Numbers.{either-byte, neither-byte, with-sign, without_sign}
use Rattle.json_tokens.proofs.scan.sign_end.Goals as goal

pub returns-in-43 : goal.returns-in-43
returns-in-43 c = with-sign _ _ (either-byte 0x2B 0x2D _ _ c.byte_at.ensures c.in-43.is)

pub returns-in_default : goal.returns-in_default
returns-in_default c = without_sign _ _ (neither-byte 0x2B 0x2D _ _ c.byte_at.ensures (search rules))
