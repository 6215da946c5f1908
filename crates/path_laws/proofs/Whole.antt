-- The cue path in packets, and the cued stream itself.
use Rattle.std.proofs.Common.{◌≡◌, ◌↔◌, ℕ, suc, ◌≤◌, ◌==◌, true, false, refl, sym, ap, ◌∙◌, subst, List, [], ◌∷◌, ◌++◌, length, cond, arith}
use Rattle.std.specs.Prelude.{map, Option, Some, None}
use Rattle.std.specs.List.{AllByRecursion}
use Rattle.std.proofs.lemmas.Bool.{eq-eqb}
use Rattle.std.proofs.lemmas.Bool.Decides.{nat_tests}
use Rattle.ts_packet.specs.Fields.{on}
use Rattle.ts_packet.specs.Numbering.{one_past}
use Rattle.ts_packet.specs.Runs.{onto}
use Rattle.psi_section.specs.Sections.{sections_after}
use Rattle.psi_section.specs.Packetising.{packets_in_turn}
use Rattle.psi_section.proofs.ReadBackLemmas.{IsPayloadOn, turn_carry}
use Rattle.psi_tables.specs.declared.config.Config.{Config}
use Rattle.scte35_codec.specs.declared.cue_out.CueOut.{CueOut}
use Rattle.scte35_codec.specs.Spelling.{cue_bytes}
use Rattle.armed_events.specs.Arming.{Heard, armed}
use Rattle.program_follower.specs.declared.purpose.Listed.{Listed}
use Rattle.program_follower.specs.Program.{listed, tables, Table}
use Rattle.program_follower.specs.Following.{high_of}
use Rattle.program_laws.specs.Writing.{number_on, section_out, body, Off}
use Rattle.program_laws.specs.Cued.{On, cueing}
use Rattle.program_laws.proofs.PacketLemmas.{one_past-below}
use Rattle.program_laws.proofs.WritingLemmas.{carry_off}
use Rattle.injector.specs.Turns.{Turn, Judged, Passed, events}
use Rattle.injector.specs.Steps.{Step, Message, Packet, packets_in, turns_in, sections_before, cue_packets, cued}
use Rattle.cue_laws.specs.Laws.{KeepsEnoughOf}
use Rattle.cue_laws.proofs.Enough.{nothing_lost_is_enough}
use Rattle.ts_packet.specs.Membership.{In}
use Rattle.path_laws.specs.Path.{Item, Sent, left, armed_on, asked_line, IsSteadyHistory}
use Rattle.injector.specs.Laws.{own_fronts}
use Rattle.injector.proofs.CuedLemmas.{carried-on}
use Rattle.path_laws.specs.Packets.{IsRunOf, cues_at, sent_in, kept, stream, BringsCues, CuePathInPackets, CuePathInPacketsAtTheEnd, CuedStreamBrings, CuedStreamArms}
use Rattle.path_laws.proofs.Packets.{run-message, run-packet, run-history, map-pid, cues-back}
use Rattle.path_laws.proofs.Streams.{stream_arms}
use Rattle.path_laws.proofs.Proofs.{requests_are_a_run, cue_path_of_events, cue_path_of_events_at_the_end}

-- ---- fronts of a run

pub run-front : (c : Config) (later front : List Step) → IsRunOf c (later ++ front) → IsRunOf c front
run-front c [] front r = r
run-front c (Message m ∷ later) front r = run-front c later front (run-message c m (later ++ front) r)
run-front c (Packet p ∷ later) front r = run-front c later front (run-packet c p (later ++ front) r)

turns-upon : (program : ℕ) (later front : List Step) → (more : List Turn) × (turns_in program (later ++ front) ≡ more ++ turns_in program front)
turns-upon program [] front = ([], refl)
turns-upon program (Message m ∷ later) front = let u = turns-upon program later front in (Judged m ∷ u.0, ap (λ l. Judged m ∷ l) u.1)
turns-upon program (Packet p ∷ later) front =
    let u = turns-upon program later front in
    let h = high_of (Some program) (p ∷ packets_in (later ++ front)) in
    (Passed h ∷ u.0, ap (λ l. Passed h ∷ l) u.1)

pub cue_path_in_packets : CuePathInPackets
cue_path_in_packets c copies fronts p last past later r b k e un reached =
    let front = Packet p ∷ past in
    let whole = Packet last ∷ (later ++ front) in
    let here = run-front c later front (run-packet c last (later ++ front) r) in
    let u = turns-upon c.program later front in
    let top = high_of (Some c.program) (last ∷ packets_in (later ++ front)) in
    let h = high_of (Some c.program) (p ∷ packets_in past) in
    let same : turns_in c.program whole ≡ Passed top ∷ (u.0 ++ turns_in c.program front) = ap (λ l. Passed top ∷ l) u.1 in
    let law : In e (armed_on (left copies (sent_in c front))) ↔ In e (events c.index (turns_in c.program front)) =
    cue_path_of_events c.index copies h top (turns_in c.program past) u.0
    (subst (IsSteadyHistory c.index) same (run-history c whole r)) (subst (λ l. KeepsEnoughOf copies (asked_line c.index l)) same k) e un reached in
    let arms : armed c.cue_pid (high_of (Some c.program)) (stream c fronts front) ≡ armed_on (left copies (sent_in c front)) = ap (λ (x : Heard). x.events) (stream_arms c copies fronts front here b) in
    (λ i. law.0 (subst (In e) arms i), λ i. subst (In e) (sym arms) (law.1 i))

pub cue_path_in_packets_at_the_end : CuePathInPacketsAtTheEnd
cue_path_in_packets_at_the_end c copies fronts p past r b k e un =
    let front = Packet p ∷ past in
    let h = high_of (Some c.program) (p ∷ packets_in past) in
    let law : In e (armed_on (left copies (sent_in c front))) ↔ In e (events c.index (turns_in c.program front)) =
    cue_path_of_events_at_the_end c.index copies h (turns_in c.program past) (run-history c front r) k e un in
    let arms : armed c.cue_pid (high_of (Some c.program)) (stream c fronts front) ≡ armed_on (left copies (sent_in c front)) = ap (λ (x : Heard). x.events) (stream_arms c copies fronts front r b) in
    (λ i. law.0 (subst (In e) arms i), λ i. subst (In e) (sym arms) (law.1 i))

-- ---- the cued stream itself

kept-all : (items : List Item) (cues : List CueOut) → kept (λ t. 1) items cues ≡ cues
kept-all items [] = refl
kept-all items (cue ∷ cues) = ap (λ l. cue ∷ l) (kept-all (Sent cue ∷ items) cues)

-- these are the injector's own packets
abbrev Agrees : Config → (List ℕ → List (List ℕ) → List (List ℕ)) → List Step → Type 0
Agrees c fronts [] = Unit {0}
Agrees c fronts (Message m ∷ past) = Agrees c fronts past
Agrees c fronts (Packet q ∷ past) = (fronts q (packets_in past) ≡ cue_packets c q past (cued c past)) × Agrees c fronts past

agrees-later : (c : Config) (q : List ℕ) (whole past : List Step) → length (packets_in past) ≤ length (packets_in whole) → Agrees c (own_fronts c whole) past → Agrees c (own_fronts c (Packet q ∷ whole)) past
agrees-later c q whole [] l a = tt
agrees-later c q whole (Message m ∷ past) l a = agrees-later c q whole past l a
agrees-later c q whole (Packet p ∷ past) l a =
    let off : (length (packets_in past) == length (packets_in whole)) ≡ false = other (length (packets_in past)) (length (packets_in whole)) l in
    (ap (λ b. cond b (cue_packets c q whole (cued c whole)) (own_fronts c whole p (packets_in past))) off ∙ a.0, agrees-later c q whole past (below (length (packets_in past)) (length (packets_in whole)) l) a.1)
  where
    other : (n m : ℕ) → suc n ≤ m → (n == m) ≡ false
    other n m l = grind (arith, nat_tests)

    below : (n m : ℕ) → suc n ≤ m → n ≤ m
    below n m l = omega arith

agrees : (c : Config) (past : List Step) → Agrees c (own_fronts c past) past
agrees c [] = tt
agrees c (Message m ∷ past) = agrees c past
agrees c (Packet q ∷ past) =
    let on_it : (length (packets_in past) == length (packets_in past)) ≡ true = eq-eqb (length (packets_in past)) (length (packets_in past)) refl in
    (ap (λ b. cond b (cue_packets c q past (cued c past)) (own_fronts c past q (packets_in past))) on_it, agrees-later c q past past (omega arith) (agrees c past))

-- the counters on the PID of the map do not see the cues
number-others : (pid : ℕ) (out qs : List (List ℕ)) → AllByRecursion (Off pid) qs → number_on pid (onto out qs) ≡ number_on pid out
number-others pid out [] off = refl
number-others pid out (q ∷ qs) off = number-others pid (q ∷ out) qs off.1 ∙ (let o = off.0 in simp o refl)

cue-carry : (c : Config) (q : List ℕ) (past : List Step) → IsRunOf c past → AllByRecursion (IsPayloadOn c.cue_pid) (cue_packets c q past (cued c past))
cue-carry c q past r = turn_carry c.cue_pid (one_past (number_on c.cue_pid (cued c past))) (sections_before c q past) r.cue_pid (one_past-below (number_on c.cue_pid (cued c past)))

body-same : (c : Config) (fronts : List ℕ → List (List ℕ) → List (List ℕ)) (p : List ℕ) (past : List Step) (o : Option Listed) (ts : List Table) → IsRunOf c past → listed (Some c.program) (packets_in past) ≡ o
    → body (cueing c.cue_pid fronts) o p (packets_in past) ts (cued c past) ≡ body (cueing c.cue_pid (λ q qs. [])) o p (packets_in past) ts (onto (cued c past) (cue_packets c p past (cued c past)))
body-same c fronts p past None ts r known = refl
body-same c fronts p past (Some l) ts r known =
    let off = carry_off c.cue_pid l.pid (cue_packets c p past (cued c past)) (λ same. map-pid c (packets_in past) l r.faultless known (sym same)) (cue-carry c p past r) in
    ap (λ n. cond (on l.pid p) (packets_by l.pid n) (p ∷ [])) (sym (number-others l.pid (cued c past) (cue_packets c p past (cued c past)) off))
  where
    packets_by : ℕ → Option ℕ → List (List ℕ)
    packets_by pid n = packets_in_turn pid (one_past n) (map (section_out (cueing c.cue_pid fronts).change) ts)

stream-is : (c : Config) (fronts : List ℕ → List (List ℕ) → List (List ℕ)) (past : List Step) → IsRunOf c past → Agrees c fronts past → stream c fronts past ≡ cued c past
stream-is c fronts [] r a = refl
stream-is c fronts (Message m ∷ past) r a = stream-is c fronts past (run-message c m past r) a
stream-is c fronts (Packet p ∷ past) r a =
    let before = run-packet c p past r in
    let o = listed (Some c.program) (packets_in past) in
    let ts = tables (Some c.program) p (packets_in past) in
    ap (λ out. onto out (fronts p (packets_in past) ++ body (cueing c.cue_pid fronts) o p (packets_in past) ts out)) (stream-is c fronts past before a.1)
    ∙ ap (λ qs. onto (cued c past) (qs ++ body (cueing c.cue_pid fronts) o p (packets_in past) ts (cued c past))) a.0
    ∙ ap (λ rest. onto (cued c past) (cue_packets c p past (cued c past) ++ rest)) (body-same c fronts p past o ts before refl)

stream-brings : (c : Config) (fronts : List ℕ → List (List ℕ) → List (List ℕ)) (past : List Step) → IsRunOf c past → Agrees c fronts past → BringsCues c (λ t. 1) fronts past
stream-brings c fronts [] r a = tt
stream-brings c fronts (Message m ∷ past) r a = stream-brings c fronts past (run-message c m past r) a
stream-brings c fronts (Packet p ∷ past) r a =
    let before = run-packet c p past r in (
      subst (AllByRecursion (On c.cue_pid)) (sym a.0) (carried-on c.cue_pid (cue_packets c p past (cued c past)) (cue-carry c p past before)),
      ap (λ out. sections_after out c.cue_pid (fronts p (packets_in past))) (stream-is c fronts past before a.1)
          ∙ ap (sections_after (cued c past) c.cue_pid) a.0
          ∙ cues-back c p past r
          ∙ ap (map cue_bytes) (sym (kept-all (sent_in c past) (cues_at c p past))),
      stream-brings c fronts past before a.1,
    )

pub cued_stream_brings : CuedStreamBrings
cued_stream_brings c past r = (stream-is c (own_fronts c past) past r (agrees c past), stream-brings c (own_fronts c past) past r (agrees c past))

pub cued_stream_arms : CuedStreamArms
cued_stream_arms c p past r e un =
    let front = Packet p ∷ past in
    let h = high_of (Some c.program) (p ∷ packets_in past) in
    let own = cued_stream_brings c front r in
    let run = requests_are_a_run c.index (turns_in c.program front) (run-history c front r) in
    let law = cue_path_in_packets_at_the_end c (λ t. 1) (own_fronts c front) p past r own.1 (nothing_lost_is_enough h (asked_line c.index (turns_in c.program past)) run) e un in
    subst (λ l. In e (armed c.cue_pid (high_of (Some c.program)) l) ↔ In e (events c.index (turns_in c.program front))) own.0 law
