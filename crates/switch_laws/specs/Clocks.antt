-- The clock references of a switched stream (ISO/IEC 13818-1, 2.4.3.5, program_clock_reference), as one list.
use Rattle.std.specs.Prelude.{◌≡◌, ℕ, ◌<◌, true, List, [], ◌∷◌, if◌then◌else◌, Option, None, Some, flat_map, reverse}
use Rattle.std.specs.List.{AllByRecursion}
use Rattle.ts_packet.specs.Fields.{on, pcr, is_among}
use Rattle.event_table.specs.Standing.{Standing}
use Rattle.splice_laws.specs.Splicing.{SliceUnit}
use Rattle.output_laws.specs.Output.{Packing}
use Rattle.splice_plans.specs.Playing.{Adverts}
use Rattle.splice_plans.specs.Switching.{Setting, switched_at, spliced_network}
use Rattle.switch_laws.specs.Laws.{ArePackets}
use Rattle.splice_plans.specs.Known.{adverts_at}
use Rattle.switch_laws.specs.Whole.{HavePids, TablesAreApart}

-- the clock reference of a packet of the PID, where it has one
abbrev pub listed_clock : Option (List ℕ) → List (List ℕ)
listed_clock None = []
listed_clock (Some clock) = clock ∷ []

abbrev pub clock_on : ℕ → List ℕ → List (List ℕ)
clock_on pid p = if on pid p then listed_clock (pcr p) else []

-- ALL CLOCK REFERENCES of a PID, in order
abbrev pub clocks : ℕ → List (List ℕ) → List (List ℕ)
clocks pid ps = flat_map (clock_on pid) ps

-- the packets of the advertisements' units have none, whatever the first counter
abbrev pub HasNoClock : List ℕ → Type 0
HasNoClock q = pcr q ≡ None

abbrev pub HaveNoClocks : Packing → Adverts → Type 0
HaveNoClocks packed ads = (e : Standing) (pid : ℕ) →
    AllByRecursion (λ (u : SliceUnit). (n : ℕ) → n < 16 → AllByRecursion HasNoClock (packed pid u n)) (ads.units e pid)

-- THE LAW OF CLOCK REFERENCES: those of a switched stream are the network's, in their order, also where its packets are left out
abbrev pub ClocksStay : Type 0
ClocksStay = (k : Setting) (network : List (List ℕ)) → TablesAreApart k (reverse network) → HaveNoClocks k.packed (adverts_at k (reverse network)) →
    ArePackets network → HavePids network → (pid : ℕ) → is_among pid (switched_at k (reverse network)) ≡ true →
    clocks pid (spliced_network k network) ≡ clocks pid network
