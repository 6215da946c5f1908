-- The cues in packets.
use Rattle.std.proofs.Common.{◌≡◌, ℕ, ◌==◌, true, false, ◌||◌, refl, sym, ap, ◌∙◌, subst, List, [], ◌∷◌, ◌++◌}
use Rattle.std.specs.Prelude.{map, reverse, All, Option, Some, None}
use Rattle.std.specs.List.{AllByRecursion}
use Rattle.std.proofs.lemmas.Bool.{eq-eqb}
use Rattle.std.proofs.lemmas.List.{append-nil}
use Rattle.std.proofs.lemmas.List.Elements.{All-nil, All-cons}
use Rattle.ts_packet.specs.Fields.{on}
use Rattle.ts_packet.specs.Duplicates.{last_of}
use Rattle.ts_packet.specs.Numbering.{one_past}
use Rattle.ts_packet.specs.Runs.{onto}
use Rattle.ts_packet.proofs.RunLemmas.{onto-append, reverse-cons, reverse-onto}
use Rattle.ts_packet.proofs.Cases.{by_test}
use Rattle.psi_section.specs.Sections.{sections, sections_after}
use Rattle.psi_section.specs.Laws.{CanBeGiven}
use Rattle.psi_section.proofs.RunLemmas.{sections_after-append, others_give}
use Rattle.psi_section.proofs.ReadBackLemmas.{turn_carry, read_back_in_turn}
use Rattle.psi_tables.specs.declared.config.Config.{Config}
use Rattle.psi_tables.specs.declared.network.NetworkFault.TheVariants.{BadPids, CuePidUsed}
use Rattle.scte35_codec.specs.declared.cue_out.CueOut.{CueOut}
use Rattle.scte35_codec.specs.Spelling.{cue_bytes, Fits}
use Rattle.scte35_codec.proofs.GivenLemmas.{cue_given}
use Rattle.program_follower.specs.declared.purpose.Listed.{Listed}
use Rattle.program_follower.specs.Program.{listed, tables, Table}
use Rattle.program_follower.specs.Faults.{first_fault, network_fault, pmt_pid_fault, if_bad}
use Rattle.program_follower.proofs.OptionLemmas.{none_both}
use Rattle.program_laws.specs.Writing.{number_on, section_out, packets_out, body, Off}
use Rattle.program_laws.specs.Cued.{cueing}
use Rattle.program_laws.proofs.PacketLemmas.{Meets, one_past-below, fresh, meets_others, meets_own}
use Rattle.program_laws.proofs.WritingLemmas.{carry_off, listed_below}
use Rattle.program_laws.proofs.FaultLemmas.{not_if_bad, pid_good, no_cue_packets}
use Rattle.scte104_codec.specs.Reading.{MessageReading}
use Rattle.injector.specs.Steps.{Step, Message, Packet, packets_in, turns_in, sections_before, cue_packets, body_at, cued}
use Rattle.injector.proofs.FeedLemmas.{rises-at, turns-high}
use Rattle.unit_stream.specs.Clocks.{Rises}
use Rattle.path_laws.specs.Path.{Item, Sent, sent_onto, IsSteadyHistory}
use Rattle.path_laws.specs.Packets.{IsRunOf, SectionsReadBack, cues_at, sent_in}
use Rattle.path_laws.proofs.Reading.{AreNear}
use Rattle.path_laws.proofs.Proofs.{tells}
use Rattle.program_follower.specs.Purposes.{writing_cues}
use Rattle.program_follower.specs.Following.{high_of}

-- ---- a run

fault-parts : (c : Config) (p : List ℕ) (past : List (List ℕ)) → first_fault (writing_cues c) (p ∷ past) ≡ None → (first_fault (writing_cues c) past ≡ None) × (network_fault (writing_cues c) p past ≡ None)
fault-parts c p past ok = none_both (first_fault (writing_cues c) past) (network_fault (writing_cues c) p past) ok

pub run-message : (c : Config) (m : MessageReading) (past : List Step) → IsRunOf c (Message m ∷ past) → IsRunOf c past
run-message c m past r = record { cue_pid = r.cue_pid; not_pat = r.not_pat; faultless = r.faultless; bytes = r.bytes; requests = (r.requests).1 }

pub run-packet : (c : Config) (p : List ℕ) (past : List Step) → IsRunOf c (Packet p ∷ past) → IsRunOf c past
run-packet c p past r = record { cue_pid = r.cue_pid; not_pat = r.not_pat; faultless = (fault-parts c p (packets_in past) r.faultless).0; bytes = (r.bytes).1; requests = r.requests }

-- the turns of a run are a history
pub run-history : (c : Config) (past : List Step) → IsRunOf c past → IsSteadyHistory c.index (turns_in c.program past)
run-history c [] r = tt
run-history c (Message m ∷ past) r = ((r.requests).0, run-history c past (run-message c m past r))
run-history c (Packet p ∷ past) r = (
  subst (λ k. Rises k (high_of (Some c.program) (p ∷ packets_in past))) (sym (turns-high c.program past)) (rises-at c p (packets_in past) (fault-parts c p (packets_in past) r.faultless).1),
  run-history c past (run-packet c p past r),
)

-- ---- the cues fit

fits-sent : (items : List Item) (cues : List CueOut) → AreNear (sent_onto items cues) → AllByRecursion Fits cues × AreNear items
fits-sent items [] n = (tt, n)
fits-sent items (cue ∷ cues) n = let r = fits-sent (Sent cue ∷ items) cues n in ((r.1.0, r.0), r.1.2)

pub cues-fit : (c : Config) (p : List ℕ) (past : List Step) → IsRunOf c (Packet p ∷ past) → AllByRecursion Fits (cues_at c p past)
cues-fit c p past r = (fits-sent (sent_in c past) (cues_at c p past) ((tells c.index (turns_in c.program (Packet p ∷ past)) (run-history c (Packet p ∷ past) r)).near).1).0

given-all : (cues : List CueOut) → AllByRecursion Fits cues → All CanBeGiven (map cue_bytes cues)
given-all [] fits = All-nil CanBeGiven
given-all (cue ∷ cues) fits = All-cons CanBeGiven (cue_bytes cue) (map cue_bytes cues) (cue_given cue fits.0) (given-all cues fits.1)

-- ---- what else goes out

-- the PID of the map is not that of the cues
pub map-pid : (c : Config) (past : List (List ℕ)) (l : Listed) → first_fault (writing_cues c) past ≡ None → listed (Some c.program) past ≡ Some l → l.pid ≡ c.cue_pid → ⊥
map-pid c past l ok known same =
    let g : pmt_pid_fault (writing_cues c) (Some l) ≡ None = ap (pmt_pid_fault (writing_cues c)) (sym known) ∙ pid_good (writing_cues c) past ok in
    let r = none_both (if_bad ((l.pid == 0) || (l.pid == 8191)) BadPids) (if_bad (l.pid == c.cue_pid) CuePidUsed) g in
    let off : (l.pid == c.cue_pid) ≡ false = not_if_bad (l.pid == c.cue_pid) CuePidUsed r.1 in
    let is : (l.pid == c.cue_pid) ≡ true = eq-eqb l.pid c.cue_pid same in
    absurd (let bad : true ≡ false = sym is ∙ off in cc)

network-off : (c : Config) (p : List ℕ) (past : List (List ℕ)) → first_fault (writing_cues c) (p ∷ past) ≡ None → on c.cue_pid p ≡ false
network-off c p past ok = (no_cue_packets (writing_cues c) c.cue_pid (p ∷ past) refl refl ok).0

-- what stands in a packet's place is off the cue PID
pub place-off : (c : Config) (fronts : List ℕ → List (List ℕ) → List (List ℕ)) (p : List ℕ) (past out : List (List ℕ)) (ts : List Table) (o : Option Listed) → first_fault (writing_cues c) (p ∷ past) ≡ None
    → listed (Some c.program) past ≡ o → AllByRecursion (Off c.cue_pid) (body (cueing c.cue_pid fronts) o p past ts out)
place-off c fronts p past out ts None ok known = (network-off c p past ok, tt)
place-off c fronts p past out ts (Some l) ok known =
    by_test (on l.pid p)
    (λ y. simp y (carry_off l.pid c.cue_pid (packets_out l.pid out (map (section_out (cueing c.cue_pid fronts).change) ts)) (map-pid c past l (fault-parts c p past ok).0 known)
    (turn_carry l.pid (one_past (number_on l.pid out)) (map (section_out (cueing c.cue_pid fronts).change) ts) (listed_below (Some c.program) past l known) (one_past-below (number_on l.pid out)))))
    (λ n. simp n (network-off c p past ok, tt))

-- ---- all cues

-- the counters on the cue PID go on
pub cues-meet : (c : Config) (past : List Step) → IsRunOf c past → Meets c.cue_pid (cued c past) (last_of c.cue_pid (cued c past))
cues-meet c [] r = tt
cues-meet c (Message m ∷ past) r = cues-meet c past (run-message c m past r)
cues-meet c (Packet p ∷ past) r =
    let out = cued c past in
    let qs = cue_packets c p past out in
    let rest = body_at c p (packets_in past) (onto out qs) in
    let one : Meets c.cue_pid (onto out qs) (last_of c.cue_pid (onto out qs)) =
    meets_own c.cue_pid qs out out (turn_carry c.cue_pid (one_past (number_on c.cue_pid out)) (sections_before c p past) r.cue_pid (one_past-below (number_on c.cue_pid out))) (cues-meet c past (run-packet c p past r)) in
    let two = meets_others c.cue_pid rest (onto out qs) (onto out qs)
    (place-off c (λ q back. []) p (packets_in past) (onto out qs) (tables (Some c.program) p (packets_in past)) (listed (Some c.program) (packets_in past)) r.faultless refl) one in
    subst (λ l. Meets c.cue_pid l (last_of c.cue_pid l)) (sym (onto-append out qs rest)) two

-- what the reader finds before one packet
pub cues-back : (c : Config) (p : List ℕ) (past : List Step) → IsRunOf c (Packet p ∷ past) → sections_after (cued c past) c.cue_pid (cue_packets c p past (cued c past)) ≡ sections_before c p past
cues-back c p past r =
    let out = cued c past in
    read_back_in_turn c.cue_pid (one_past (number_on c.cue_pid out)) (sections_before c p past) out r.cue_pid (one_past-below (number_on c.cue_pid out))
    (given-all (cues_at c p past) (cues-fit c p past r)) (fresh c.cue_pid out out r.cue_pid (cues-meet c past (run-packet c p past r)))

onto-reverse : (out : List (List ℕ)) → onto [] (reverse out) ≡ out
onto-reverse [] = refl
onto-reverse (q ∷ out) = ap (onto []) (reverse-cons q out) ∙ onto-append [] (reverse out) (q ∷ []) ∙ ap (λ l. q ∷ l) (onto-reverse out)

pub sections_read_back : SectionsReadBack
sections_read_back c [] r = refl
sections_read_back c (Message m ∷ past) r = sections_read_back c past (run-message c m past r)
sections_read_back c (Packet p ∷ past) r =
    let out = cued c past in
    let qs = cue_packets c p past out in
    let rest = body_at c p (packets_in past) (onto out qs) in
    let pid = c.cue_pid in
    ap (sections pid) (reverse-onto out (qs ++ rest))
    ∙ sections_after-append pid [] (reverse out) (qs ++ rest)
    ∙ ap (λ l. sections pid (reverse out) ++ sections_after l pid (qs ++ rest)) (onto-reverse out)
    ∙ ap (λ l. sections pid (reverse out) ++ l) (sections_after-append pid out qs rest)
    ∙ ap (λ l. sections pid (reverse out) ++ (sections_after out pid qs ++ l))
    (others_give pid rest (onto out qs) (place-off c (λ q back. []) p (packets_in past) (onto out qs) (tables (Some c.program) p (packets_in past)) (listed (Some c.program) (packets_in past)) r.faultless refl))
    ∙ ap (λ l. sections pid (reverse out) ++ l) (append-nil (sections_after out pid qs))
    ∙ ap (λ l. sections pid (reverse out) ++ l) (cues-back c p past r)
    ∙ ap (λ l. l ++ sections_before c p past) (sections_read_back c past (run-packet c p past r))
