use Rattle.std.proofs.Common.{List, ℕ, []}
use Rattle.std.specs.Io.KnownBytes.{Consumes}
use Rattle.ts_packet.specs.Transfers.{Rose, WentWell}
use Rattle.automations.specs.ScriptReading.{IsScriptRead}
use Rattle.automations.proofs.script.load_into.Given as goal

abbrev pub invariant-loop-turn : goal.invariant-loop-turn
invariant-loop-turn g l = record {
  turns : Rose l._turn (g.S.Source.counts l.initial.reader).calls (g.S.Source.counts l.reader).calls;
  well : WentWell (g.S.Source.counts l.initial.reader) (g.S.Source.counts l.reader);
  read : IsScriptRead l.initial.reading [] → (text : List ℕ) × Consumes (g.S.Source.remaining l.initial.reader) (g.S.Source.remaining l.reader) text × IsScriptRead l.reading text;
}
