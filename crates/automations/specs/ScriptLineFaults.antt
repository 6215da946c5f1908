-- What is wrong with a line of a script, by where a reading stands in it and by the byte that comes next, if one does.
use Rattle.std.specs.Prelude.{ℕ, ◌==◌, cond, Option, None, Some}
use Rattle.automations.specs.declared.line_fault.ScriptLineFault.{ScriptLineFault}
use Rattle.automations.specs.declared.line_fault.ScriptLineFault.TheVariants.{CarriageReturn, NoNumber, NotRising, NoBytes, TooLong, HalfByte, NoDigit}
use Rattle.automations.specs.declared.script_text.Place.{Place}
use Rattle.automations.specs.declared.script_text.Place.TheVariants.{Start, Number, Bytes, Half}

-- behind the number: with so many bytes, and a byte that is not the end of the line
abbrev pub wrong_bytes : ℕ → ScriptLineFault
wrong_bytes count = cond (count == 4096) TooLong NoDigit

-- at this byte
abbrev pub wrong_byte : Place → ℕ → ScriptLineFault
wrong_byte Start byte = NoNumber
wrong_byte (Number number) byte = cond (byte == 32) NotRising NoNumber
wrong_byte (Bytes packet count) byte = cond (byte == 10) NoBytes (wrong_bytes count)
wrong_byte (Half packet count high) byte = cond (byte == 10) HalfByte NoDigit

-- at the end of the text
abbrev pub wrong_end : Place → ScriptLineFault
wrong_end Start = NoNumber
wrong_end (Number number) = NoNumber
wrong_end (Bytes packet count) = NoBytes
wrong_end (Half packet count high) = HalfByte

-- WHAT IS WRONG there: a carriage return (13), wherever it stands, and else by the place
abbrev pub wrong_at : Place → Option ℕ → ScriptLineFault
wrong_at place None = wrong_end place
wrong_at place (Some byte) = cond (byte == 13) CarriageReturn (wrong_byte place byte)
