-- THE HEADLINE OF A RUN ON AIR: what is out of each of its stretches, by the requests judged in it, its own packets and the advertisements.
use Rattle.std.specs.Prelude.{◌≡◌, ℕ, List, [], ◌∷◌, ◌++◌, length, reverse, Option}
use Rattle.std.specs.List.{AllByRecursion}
use Rattle.ts_packet.specs.Packets.{packets_of}
use Rattle.wire_fields.specs.Numbers.{AreBytes}
use Rattle.psi_tables.specs.declared.config.Config.{Config}
use Rattle.scte104_codec.specs.declared.reply.Reply.{Reply}
use Rattle.ad_library.specs.Advertisements.{Advertisement}
use Rattle.ad_library.specs.declared.library.AdLibrary.{AdLibrary}
use Rattle.ad_library.specs.Library.{held}
use Rattle.cued_laws.specs.Laws.{ArePacketsOfBytes}
use Rattle.injector.specs.Steps.{Step}
use Rattle.chain_engine.specs.Automation.{Take, bytes_of}
use Rattle.chain_engine.specs.Talks.{HasTalked}
use Rattle.chain_engine.specs.Runs.{reply_in, reports_sum}
use Rattle.chain_engine.specs.ChainRuns.{MessagesAre}
use Rattle.chain_engine.specs.Airing.{Aired, Stretch, packets_through, steps_on_air, replies_by_all, total}
use Rattle.chain_engine.specs.declared.hearing.SessionEnd.{SessionEnd}
use Rattle.chain_engine.specs.declared.report.Report.{Report}
use Rattle.on_air.specs.AirInjects.{ended_for, last_for}
use Rattle.on_air.specs.AirChains.{RanOnAir}
use Rattle.chain_laws.specs.Exactly.{IsSpliced}
use Rattle.chain_laws.specs.Runs.{network_of, switched_by, output_by}
use Rattle.chain_laws.specs.Headline.{IsNetworkSpliced, CountsBreaks}
use Rattle.air_laws.specs.Airs.{all_put, all_read, left_unjudged}
use Rattle.air_laws.specs.Outputs.{disturbed, GoesOutFor, IsOfAdvertisement}

-- A STRETCH of these packets, newest first, and this history: its network spliced goes out for it, and this is counted. Its network are its own
-- packets as they are read; all that the headline says of a whole run, of each switched stream, of clock references, other packets and tables, it says
-- of that one list. Packets that are left unjudged stand in it as they came, and counters are open on those switched streams alone that have some.
pub record IsStretchSpliced (out : List (List ℕ)) (packets : List Aired) (report : Report) (c : Config) (filed : ℕ → Option Advertisement)
    (steps : List Step) : Type 0 where
  pub network : network_of steps ≡ all_read (reverse packets)
  pub messages : MessagesAre report c steps
  pub spliced : List (List ℕ)
  pub output : IsNetworkSpliced spliced c filed steps
  -- that list is the one which a function names, and of it is said exactly, too, which packet stands in which place
  pub named : spliced ≡ output_by c filed steps
  pub exactly : IsSpliced c filed steps
  pub goes : GoesOutFor (disturbed packets (switched_by c steps)) packets out spliced
  -- where no packet is left unjudged, that list itself goes out
  pub judged : left_unjudged packets ≡ [] → out ≡ spliced
  pub counted : CountsBreaks report.switch c filed steps

-- Of one that ended so is what was out, with what was left of the advertisements that ran at its end: packets of theirs alone, which go out no more.
pub record HasEndedSpliced (out : List (List ℕ)) (packets : List Aired) (report : Report) (c : Config) (filed : ℕ → Option Advertisement)
    (steps : List Step) : Type 0 where
  pub rest : List (List ℕ)
  pub of_advertisements : AllByRecursion (IsOfAdvertisement c filed steps) rest
  pub stretch : IsStretchSpliced (out ++ rest) packets report c filed steps

-- each that ended, newest first, with what was out of it and what was counted in it
abbrev pub EachEndedSpliced : Config → (ℕ → Option Advertisement) → ℕ → List Take → List Stretch → List (List (List ℕ)) → List Report → Type 0
EachEndedSpliced c filed most takes [] [] [] = Unit {0}
EachEndedSpliced c filed most takes [] [] (report ∷ told) = ⊥
EachEndedSpliced c filed most takes [] (out ∷ outs) told = ⊥
EachEndedSpliced c filed most takes (s ∷ earlier) [] told = ⊥
EachEndedSpliced c filed most takes (s ∷ earlier) (out ∷ outs) [] = ⊥
EachEndedSpliced c filed most takes (s ∷ earlier) (out ∷ outs) (report ∷ told) =
    HasEndedSpliced out s.packets report c filed (steps_on_air most takes (packets_through earlier) s.packets)
    × EachEndedSpliced c filed most takes earlier outs told

-- their outputs, one behind another, each with the packets behind it that have brought a section of the map which is not whole
abbrev pub one_behind_another : List Stretch → List (List (List ℕ)) → List (List ℕ)
one_behind_another [] outs = []
one_behind_another (s ∷ earlier) [] = []
one_behind_another (s ∷ earlier) (out ∷ outs) = one_behind_another earlier outs ++ (out ++ s.behind)

-- and their packets, as they came
abbrev pub packets_before : List Stretch → List (List ℕ)
packets_before [] = []
packets_before (s ∷ earlier) = packets_before earlier ++ all_put (reverse s.packets)

-- THE HEADLINE of a run on air over these bytes that answers with this report
pub record HeadlineOnAir (c : Config) (filed : ℕ → Option Advertisement) (bs : List ℕ) (is_out : List (List ℕ) → Type 0)
    (exchanged : Option SessionEnd → List Take → List Reply → Type 0) (report : Report) : Type 0 where
  pub ending : Option SessionEnd
  pub ts : List Take
  pub rs : List Reply
  pub talked : HasTalked ending ts (length rs) (length (packets_of bs))
  pub bytes : AreBytes (bytes_of ts)
  pub exchanges : exchanged ending ts rs
  -- each message is answered by its verdict in the stretch of the packet before which it is judged
  pub replies : rs ≡ replies_by_all (reply_in c) (length rs) ts (ended_for c bs) (last_for c bs)
  -- the stretches' packets are the network's, one stretch behind another
  pub network : packets_before (ended_for c bs) ++ all_put (reverse (last_for c bs)) ≡ packets_of bs
  -- and so their outputs are what is out
  pub outs : List (List (List ℕ))
  pub out : List (List ℕ)
  pub written : is_out (one_behind_another (ended_for c bs) outs ++ out)
  pub told : List Report
  pub last : Report
  pub each : EachEndedSpliced c filed (length rs) ts (ended_for c bs) outs told
  pub at_end : IsStretchSpliced out (last_for c bs) last c filed (steps_on_air (length rs) ts (packets_through (ended_for c bs)) (last_for c bs))
  pub counted : report ≡ total reports_sum last told

-- each run on air of packets of bytes that says of its stretches what goes out, with what a library holds, is so
abbrev pub RunsOnAirAreSo : Type 1
RunsOnAirAreSo = (A : Type 0) (library : AdLibrary A) (c : Config) (bs : List ℕ) (is_out : List (List ℕ) → Type 0)
    (exchanged : Option SessionEnd → List Take → List Reply → Type 0) (report : Report) → ArePacketsOfBytes (reverse (packets_of bs)) →
    RanOnAir c (held library) bs is_out exchanged report → HeadlineOnAir c (held library) bs is_out exchanged report
