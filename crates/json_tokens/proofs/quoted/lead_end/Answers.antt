-- `lead_end` meets its contract.
use Rattle.json_tokens.proofs.Strings.{whole-char}
use Rattle.json_tokens.proofs.quoted.lead_end.Goals as goal

pub returns-then-tail_fits : goal.returns-then-tail_fits
returns-then-tail_fits c =
    rw c.width.ensures.0 (whole-char _ _ c.args.c c.requires.1 c.requires.2 c.requires.3 (c.tail_fits.ensures c.if-tail_fits.true))
