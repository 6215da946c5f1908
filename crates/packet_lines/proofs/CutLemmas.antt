-- The cut of packets, said of lines.
use Rattle.std.proofs.Common.{◌≡◌, ◌≢◌, ℕ, List, [], Option, None, Some, Bool, true, false, ◌⊎◌, inl, inr, refl, sym, ap, subst, arith}
use Rattle.std.specs.Prelude.{option_map}
use Rattle.std.proofs.lemmas.List.{append-nil}
use Rattle.unit_cut.specs.declared.run.CutFault.{CutFault}
use Rattle.unit_cut.specs.Runs.{CutsAll, Stops, NetworkBlamed}
use Rattle.unit_cut.specs.declared.run.CutFault.TheVariants.{Read, Scrambled, HeaderSplit, TimeJump, Sink}
use Rattle.ts_packet.specs.declared.reader.ReadFault.TheVariants as read_faults
use Rattle.unit_cut.proofs.StopLemmas.{cuts_so, stops_so}
use Rattle.ts_packet.specs.declared.tally.Tally.{Tally}
use Rattle.ts_packet.specs.declared.sink.PutFault.TheVariants.{Failed}
use Rattle.ts_packet.specs.Sources.{HasRead, Stalled, Exhausted}
use Rattle.ts_packet.specs.Transfers.{FallsShort}
use Rattle.ts_packet.proofs.CountLemmas.{by_end}
use Rattle.packet_lines.specs.Texts.{bytes_told, WrittenLines, FailsToWriteLine}
use Rattle.packet_lines.specs.CutLines.{LineFails, LinesUnsent, LineStalls, LinesRunOut, LineBlamed}

-- nothing was written at first
pub lines_none : (start : Option (List ℕ)) → WrittenLines start start []
lines_none None = tt
lines_none (Some text) = ap Some (sym (append-nil text))

-- what the writer of lines stands for are the lines that its device holds
module _ (pid from len : ℕ) (input start out : Option (List ℕ)) (broken : Bool) where
  pub cuts_lines : CutsAll pid from len input (λ ps. (broken ≡ false) × WrittenLines out start ps) → CutsAll pid from len input (WrittenLines out start)
  cuts_lines h = cuts_so (λ ps. (broken ≡ false) × WrittenLines out start ps) (WrittenLines out start) (λ ps k. k.1) pid from len input h

  pub stops_lines : (fault : CutFault)
      → Stops fault pid from len input (λ ps. (broken ≡ false) × WrittenLines out start ps) (λ ps p f. (broken ≡ true) × (f ≢ Failed) × FailsToWriteLine out start ps p)
      (λ ps f. (broken ≡ true) × (f ≢ Failed) × WrittenLines out start ps)
      → Stops fault pid from len input (WrittenLines out start) (LineFails out start) (LinesUnsent out start)
  stops_lines fault h =
      stops_so (λ ps. (broken ≡ false) × WrittenLines out start ps) (WrittenLines out start) (λ ps p f. (broken ≡ true) × (f ≢ Failed) × FailsToWriteLine out start ps p) (LineFails out start)
      (λ ps f. (broken ≡ true) × (f ≢ Failed) × WrittenLines out start ps) (LinesUnsent out start) (λ ps k. k.1) (λ ps p f k. (k.1, k.2)) (λ ps f k. (k.1, k.2)) fault pid from len input h

-- what a reader of lines did, its device did
module _ {R D : Type 0} (device : R → D) (remaining : D → Option (List ℕ)) (counts : D → Tally) (leads : R → R → Type 0) (left : R → Option (List ℕ)) (given : R → ℕ) (first now : R) where
  line_turns : left first ≡ option_map bytes_told (remaining (device first)) → given first ≡ 0
      → Stalled leads (λ r. counts (device r)) (λ r s. FallsShort 377 (remaining (device r)) (remaining (device s))) first now ⊎ Exhausted left given first
      → LineStalls remaining counts (device first) (device now) ⊎ LinesRunOut (remaining (device first))
  line_turns e n (inl (at, l, w, t, s)) = inl (device at, w, t, s)
  line_turns e n (inr (rest, ps, h, k)) = inr (rest, ps, subst (λ l. HasRead l rest ps) e h, omega (arith, n, k))

  pub line_blamed : (fault : CutFault) (ended : Bool) → NetworkBlamed fault false ended (counts (device first)) (counts (device now))
      → left first ≡ option_map bytes_told (remaining (device first)) → given first ≡ 0
      → (fault ≡ Read read_faults.Turns
      → Stalled leads (λ r. counts (device r)) (λ r s. FallsShort 377 (remaining (device r)) (remaining (device s))) first now ⊎ Exhausted left given first)
      → LineBlamed fault remaining counts (device first) (device now)
  line_blamed (Read read_faults.Turns) ended h e n t = line_turns e n (t refl)
  line_blamed (Read read_faults.Truncated) ended h e n t = h
  line_blamed (Read read_faults.SyncLost) ended h e n t = h
  line_blamed (Read read_faults.BadAdaptation) ended h e n t = h
  line_blamed (Read read_faults.Io) ended h e n t = h
  line_blamed (Read read_faults.Failed) ended h e n t = h
  line_blamed Scrambled ended h e n t = by_end ended _ _ h
  line_blamed HeaderSplit ended h e n t = by_end ended _ _ h
  line_blamed TimeJump ended h e n t = by_end ended _ _ h
  line_blamed (Sink f) ended h e n t = by_end ended _ _ h
