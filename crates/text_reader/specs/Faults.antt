-- The fault of a text for what a scan of it answers.
use Rattle.json_tokens.specs.declared.scan.BadByte.{BadByte}
use Rattle.json_items.specs.declared.item.KeyError.{KeyError}
use Rattle.json_items.specs.declared.item.KeyError.TheVariants.{Unlisted as unlisted, Faulty as faulty}
use Rattle.text_reader.specs.declared.fault.TextFault.TheVariants.{Grammar, Unlisted}
use Rattle.text_reader.specs.declared.fault.Faulty.{Faulty}

abbrev pub bad_byte : BadByte → Faulty
bad_byte bad = record { why = Grammar; at = bad.at }

abbrev pub bad_key : KeyError → Faulty
bad_key (unlisted at) = record { why = Unlisted; at = at }
bad_key (faulty at) = record { why = Grammar; at = at }
