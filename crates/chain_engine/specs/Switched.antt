-- What a switch on air puts for a stretch, some of whose packets are left unjudged: all is told by the packets as they are read; but one that is left
-- unjudged goes out beside the switch. On the PID of a switched stream, behind the head, it has the counter of a packet that is kept, and those behind
-- it go on from its own.
use Rattle.std.proofs.Common.{◌≡◌, ℕ, List, [], ◌∷◌, ◌++◌, map, reverse, if◌then◌else◌, refl, sym, ap, subst, ◌∙◌}
use Rattle.ts_packet.proofs.RunLemmas.{reverse-onto}
use Rattle.psi_tables.specs.declared.config.Config.{Config}
use Rattle.ad_library.specs.Advertisements.{Advertisement}
use Rattle.splice_plans.specs.declared.report.SwitchReport.{SwitchReport}
use Rattle.splice_plans.specs.Adverts.{setting_of}
use Rattle.splice_plans.specs.Switching.{Setting, switched_past, switched_at_packet}
use Rattle.splice_plans.specs.Stepping.{Journey, journey_at, no_journey, puts_next, journey_next, puts_beside, journey_beside, puts_last}
use Rattle.splice_plans.specs.Reporting.{ReportIs, report_of}
use Rattle.std.specs.Prelude.{Option}
use Rattle.splice_switch.specs.declared.switch.Switch.{Switch}
use Rattle.splice_switch.specs.Standing.{SwitchStandsAt}
use Rattle.known_laws.proofs.SteppingLemmas.{steps_are_of_moves}
use Rattle.chain_engine.specs.Stages.{SpliceSends}
use Rattle.chain_engine.specs.Airing.{Aired, judged, Stretch}

-- how far the switch has come with a packet more, and with the packets of a stretch, newest first
abbrev pub journey_with : Setting → Journey → Aired → Journey
journey_with k x a = if a.is_judged then journey_next k x a.packet else journey_beside k x a.packet

abbrev pub journey_of : Setting → List Aired → Journey
journey_of k [] = no_journey
journey_of k (a ∷ past) = journey_with k (journey_of k past) a

-- WHAT GOES OUT for a packet, in order
abbrev pub switched_for : Setting → Journey → Aired → List (List ℕ)
switched_for k x a = if a.is_judged then puts_next k x a.packet else puts_beside k x a.packet ∷ []

-- WHAT GOES OUT for the packets of a stretch, in order
abbrev pub switched_on_air : Setting → List Aired → List (List ℕ)
switched_on_air k [] = []
switched_on_air k (a ∷ past) = switched_on_air k past ++ switched_for k (journey_of k past) a

-- and for packets in a row behind others
abbrev pub aired_onto : List Aired → List Aired → List Aired
aired_onto past [] = past
aired_onto past (a ∷ more) = aired_onto (a ∷ past) more

abbrev pub aired_over : Setting → List Aired → List Aired → List (List ℕ)
aired_over k past [] = []
aired_over k past (a ∷ more) = switched_for k (journey_of k past) a ++ aired_over k (a ∷ past) more

-- what the switch reports of it
abbrev pub ReportsOf : Setting → List Aired → SwitchReport → Type 0
ReportsOf k past report = ReportIs report (report_of k (journey_of k past).read)

-- ---- a run

-- THE OUTPUT of a run on air whose last stretch has these packets: the stretches' outputs one behind the other, and behind each that ended what
-- went out there. Nothing more of an advertisement that runs goes out at the end of a stretch, but at that of the last one.
abbrev pub switched_by_ended : Setting → List Stretch → List (List ℕ)
switched_by_ended k [] = []
switched_by_ended k (s ∷ earlier) = switched_by_ended k earlier ++ (switched_on_air k s.packets ++ s.behind)

abbrev pub switched_by_all : Setting → List Stretch → List Aired → List (List ℕ)
switched_by_all k ended last = switched_by_ended k ended ++ switched_on_air k last

abbrev pub switched_to_end : Setting → List Stretch → List Aired → List (List ℕ)
switched_to_end k ended last = switched_by_all k ended last ++ puts_last k (journey_of k last)

-- what was told of the stretches that ended, newest first
abbrev pub AllReport : Setting → List Stretch → List SwitchReport → Type 0
AllReport k [] [] = Unit {0}
AllReport k [] (report ∷ told) = ⊥
AllReport k (s ∷ earlier) [] = ⊥
AllReport k (s ∷ earlier) (report ∷ told) = ReportsOf k s.packets report × AllReport k earlier told

-- ---- what a switch on air says of itself

-- it has passed these stretches on
pub record SwitchAirs (switch : Switch) (c : Config) (filed : ℕ → Option Advertisement) (ended : List Stretch) (last : List Aired)
    (told : List SwitchReport) (qs : List (List ℕ)) : Type 0 where
  pub stands : SwitchStandsAt switch c filed (journey_of (setting_of c filed) last)
  pub sent : switched_by_all (setting_of c filed) ended last ≡ qs
  pub told_so : AllReport (setting_of c filed) ended told

-- all went through
pub record SwitchAirsToEnd (c : Config) (filed : ℕ → Option Advertisement) (ended : List Stretch) (last : List Aired)
    (told : List SwitchReport) (sent : List (List ℕ)) (report : SwitchReport) : Type 0 where
  pub sent_so : switched_to_end (setting_of c filed) ended last ≡ sent
  pub told_so : AllReport (setting_of c filed) ended told
  pub last_so : ReportsOf (setting_of c filed) last report

-- ---- a run up to its first fault is one stretch, all of whose packets are judged

pub journey-first : (k : Setting) (past : List (List ℕ)) → journey_of k (map judged past) ≡ journey_at k past
journey-first k [] = refl
journey-first k (p ∷ past) = ap (λ x. journey_next k x p) (journey-first k past) ∙ (steps_are_of_moves k past).journey p

pub switched-first : (k : Setting) (past : List (List ℕ)) → switched_on_air k (map judged past) ≡ reverse (switched_past k past)
switched-first k [] = refl
switched-first k (p ∷ past) =
    ap (λ x. switched_on_air k (map judged past) ++ puts_next k x p) (journey-first k past)
    ∙ ap (λ l. switched_on_air k (map judged past) ++ l) ((steps_are_of_moves k past).puts p)
    ∙ ap (λ l. l ++ switched_at_packet k p past) (switched-first k past)
    ∙ sym (reverse-onto (switched_past k past) (switched_at_packet k p past))

-- so it is on air
pub switch-airs-first : (switch : Switch) (c : Config) (filed : ℕ → Option Advertisement) (ps qs : List (List ℕ)) → SpliceSends switch c filed ps qs
    → SwitchAirs switch c filed [] (map judged (reverse ps)) [] qs
switch-airs-first switch c filed ps qs s =
    let k = setting_of c filed in record {
      stands = subst (SwitchStandsAt switch c filed) (sym (journey-first k (reverse ps))) s.stands;
      sent = switched-first k (reverse ps) ∙ s.sent;
      told_so = tt;
    }
