use Rattle.std.proofs.Common.{◌≡◌, ◌++◌, List, ℕ, length}
use Rattle.automations.specs.ScriptReading.{IsScriptRead}
use Rattle.automations.proofs.PlaceLemmas.{IsAtByte}
use Rattle.automations.proofs.script_text.Reading.take_bytes.Given as goal

-- the line goes on behind what lies before the rest
abbrev pub invariant-loop-rest : goal.invariant-loop-rest
invariant-loop-rest g l = record {
  read : (done : List ℕ) × (l.part ≡ done ++ l.rest)
      × ((text : List ℕ) → IsScriptRead l.initial.self text → IsAtByte l.self.bytes.items l.self.lines.items l.packet l.count (text ++ done));
}

abbrev pub decreases-loop-rest : goal.decreases-loop-rest
decreases-loop-rest g l = length l.rest
