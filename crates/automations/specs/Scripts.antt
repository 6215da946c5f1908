-- Why a script is not loaded, and the lines that its replies are printed as.
use Rattle.std.specs.Prelude.{◌^◌, ℕ, List, [], ◌∷◌, ◌++◌, codes}
use Rattle.hex_digits.specs.Digits.{digits_of}
use Rattle.ts_packet.specs.declared.tally.Tally.{Tally}
use Rattle.ts_packet.specs.Transfers.{WentWell, LastMovedNone, LastFailed, TookTurns}
use Rattle.std.specs.Prelude.{◌⊎◌}
use Rattle.automations.specs.declared.script.ScriptFault.{ScriptFault}
use Rattle.automations.specs.declared.script.ScriptFault.TheVariants.{BadScript, Io, Turns, OutOfMemory}

-- What the reads of a script came to where it was not loaded: a bad line, or memory for it, comes behind reads that
-- went well, or at the end.
abbrev pub ScriptBlamed : ScriptFault → Tally → Tally → Type 0
ScriptBlamed BadScript old new = WentWell old new ⊎ LastMovedNone old new
ScriptBlamed OutOfMemory old new = WentWell old new ⊎ LastMovedNone old new
ScriptBlamed Io old new = LastFailed old new
ScriptBlamed Turns old new = TookTurns (2 ^ 32) old new

-- the text is to blame, or memory: no reader
abbrev pub IsOfText : ScriptFault → Type 0
IsOfText BadScript = Unit {0}
IsOfText OutOfMemory = Unit {0}
IsOfText Io = ⊥
IsOfText Turns = ⊥

-- the line of a reply: the word, its bytes as digits, and a line feed
abbrev pub reply_line : List ℕ → List ℕ
reply_line reply = codes "reply " ++ digits_of reply ++ 10 ∷ []
