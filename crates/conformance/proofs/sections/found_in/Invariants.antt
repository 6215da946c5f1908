use Rattle.std.proofs.Common.{◌≡◌, ◌++◌, [], ℕ, All, map, take, drop, reverse}
use Rattle.psi_section.specs.Assembling.{IsOf, IsReady, Waits}
use Rattle.conformance.specs.Sections.{finished_after, placed}
use Rattle.conformance.proofs.sections.found_in.Given as goal

abbrev pub invariant-loop-place : goal.invariant-loop-place
invariant-loop-place l = record {
  ready : IsReady l.assembler;
  waits : (pid : ℕ) → All (IsOf pid) l.packets → Waits l.assembler pid (reverse (take l.place l.packets));
  finished : (pid : ℕ) → All (IsOf pid) l.packets
      → map placed l.finished.items ++ finished_after pid (reverse (take l.place l.packets)) (drop l.place l.packets) ≡ finished_after pid [] l.packets;
}
