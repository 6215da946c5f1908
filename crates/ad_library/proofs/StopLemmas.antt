-- Where the reading of a stream stops.
use Rattle.std.specs.Prelude.{reverse}
use Rattle.std.proofs.Common.{ℕ, List, Bool, sym, ap, ◌∙◌, inl, inr, Option}
use Rattle.std.proofs.lemmas.List.{reverse-reverse}
use Rattle.ts_packet.specs.declared.tally.Tally.{Tally}
use Rattle.ad_library.specs.declared.fault.AdFault.{AdFault}
use Rattle.ad_library.specs.Faults.{end_fault, IsWhatIsWrong}
use Rattle.ad_library.specs.Stops.{ReadToEnd, StoppedAt}

-- this is wrong with the whole stream
pub stopped_end : {X : Type 0} (leads : X → X → Type 0) (left : X → Option (List ℕ)) (given : X → ℕ) (counts : X → Tally) (ended broken : X → Bool) (short : X → X → Type 0)
    (fault : AdFault) (ps : List (List ℕ)) (first now : X) → ReadToEnd leads left given counts ended broken ps first now → IsWhatIsWrong (end_fault (reverse (reverse ps))) fault
    → StoppedAt leads left given counts ended broken short fault first now
stopped_end leads left given counts ended broken short fault ps first now h w = record {
  packets = ps;
  at = h.at;
  before = h.before;
  last = inr (inr (h.last, by_end w));
} where
  by_end : IsWhatIsWrong (end_fault (reverse (reverse ps))) fault → IsWhatIsWrong (end_fault ps) fault
  by_end (inl e) = inl (e.0, ap end_fault (sym (reverse-reverse ps)) ∙ e.1)
  by_end (inr e) = inr (ap end_fault (sym (reverse-reverse ps)) ∙ e)
