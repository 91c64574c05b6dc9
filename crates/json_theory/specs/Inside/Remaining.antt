-- Which words complete a string or a number, from each part of it on.
use Rattle.json_theory.specs.Rx.{Rx, range, then, star}
use Rattle.json_theory.specs.Grammar.{digit, digits, int, option, exp, sign, fraction, tail, tails2 as two_tails, tails3 as three_tails, chars, escaped, hexdig, hex4}
use Rattle.json_theory.specs.Parts.{StringPart, plain, escape, hexes4, hexes3, hexes2, hexes1, tails3, tails2, tails1, behind_e0, behind_ed, behind_f0, behind_f4}
use Rattle.json_theory.specs.Parts.{NumberPart, minus, nought, whole, point, decimal, e, signed, power}

-- what is still to come of a string before its closing quote, and of a number
unfoldable pub string_rest : StringPart → Rx
string_rest plain = chars
string_rest escape = then escaped chars
string_rest hexes4 = then hex4 chars
string_rest hexes3 = then (then hexdig (then hexdig hexdig)) chars
string_rest hexes2 = then (then hexdig hexdig) chars
string_rest hexes1 = then hexdig chars
string_rest tails3 = then three_tails chars
string_rest tails2 = then two_tails chars
string_rest tails1 = then tail chars
string_rest behind_e0 = then (then (range 0xA0 0xBF) tail) chars
string_rest behind_ed = then (then (range 0x80 0x9F) tail) chars
string_rest behind_f0 = then (then (range 0x90 0xBF) two_tails) chars
string_rest behind_f4 = then (then (range 0x80 0x8F) two_tails) chars

unfoldable pub number_rest : NumberPart → Rx
number_rest minus = then int fraction
number_rest nought = fraction
number_rest whole = then (star digit) fraction
number_rest point = then digits (option exp)
number_rest decimal = then (star digit) (option exp)
number_rest e = then (option sign) digits
number_rest signed = digits
number_rest power = star digit
