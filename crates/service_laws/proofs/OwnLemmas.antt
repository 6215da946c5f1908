-- For a packet on a PID of its service a chain sends packets on its PIDs alone, and so at the end.
use Rattle.std.proofs.Common.{◌≡◌, ℕ, ◌<◌, List, [], ◌∷◌, Bool, true, false, ◌||◌, refl, sym, ap, ◌∙◌, subst, Option, None, Some, if◌then◌else◌, map}
use Rattle.std.specs.List.{AllByRecursion}
use Rattle.std.proofs.lemmas.Bool.{true≢false, or_left, or_right}
use Rattle.std.proofs.lemmas.List.{append-nil}
use Rattle.ts_packet.specs.Fields.{on, on_one, pid_of}
use Rattle.ts_packet.specs.Numbering.{one_past}
use Rattle.ts_packet.specs.Runs.{onto}
use Rattle.ts_packet.proofs.Cases.{by_test}
use Rattle.ts_packet.proofs.RunLemmas.{onto-append}
use Rattle.psi_section.proofs.GivenLemmas.{each-append}
use Rattle.psi_section.proofs.ReadBackLemmas.{turn_carry}
use Rattle.psi_tables.specs.declared.config.Config.{Config}
use Rattle.program_follower.specs.declared.purpose.Purpose.{Purpose}
use Rattle.program_follower.specs.declared.purpose.Listed.{Listed}
use Rattle.program_follower.specs.Program.{Table, listed, program_of, behind_head, pids_of, known_pids}
use Rattle.program_follower.specs.Following.{on_map}
use Rattle.program_follower.specs.Faults.{network_fault, first_fault}
use Rattle.program_follower.specs.Purposes.{reading_cues}
use Rattle.program_follower.proofs.OptionLemmas.{none_both}
use Rattle.program_follower.proofs.StepLemmas.{listed_stays}
use Rattle.program_laws.specs.Writing.{number_on, packets_out, section_out, body}
use Rattle.program_laws.specs.Cued.{On, cueing}
use Rattle.program_laws.proofs.FaultLemmas.{Each-map}
use Rattle.program_laws.proofs.PacketLemmas.{one_past-below}
use Rattle.program_laws.proofs.WritingLemmas.{listed_below}
use Rattle.injector.specs.Steps.{Step, Packet, packets_in, cue_packets, body_at, cued}
use Rattle.injector.proofs.CuedLemmas.{carried-on}
use Rattle.cued_laws.proofs.CuedLemmas.{injected_is_faultless}
use Rattle.ad_library.specs.Advertisements.{Advertisement}
use Rattle.splice_plans.specs.Adverts.{packed_units, setting_of}
use Rattle.splice_plans.specs.Switching.{Setting, is_behind_head, switched_at, history_at, front_of, front_at, place_at, switched_past, switched_at_packet, end_of_run, rest_at}
use Rattle.splice_plans.specs.Known.{adverts_at}
use Rattle.splice_switch.proofs.OutLemmas.{map-out, stream-out}
use Rattle.splice_switch.proofs.PremiseLemmas.{map-switched}
use Rattle.chain_engine.specs.Passing.{IsSoundNetwork, switched_over, chain_at}
use Rattle.service_laws.specs.Laws.{AreIts, OwnPacketsStay, OwnRestStays}
use Rattle.service_laws.proofs.PidLemmas.{known-on, bytes-pid}
use Rattle.service_laws.proofs.PutLemmas.{front-on, end-on, place-on, program-low}
use Rattle.service_laws.proofs.PassLemmas.{cued-read, same-listed, same-program, no-cue, chain-is, body-off}

-- ---- on the PID of the map

-- packets behind which there is no fault stand behind packets without a fault
sound-before : (k : Purpose) (qs past : List (List ℕ)) → first_fault k (onto past qs) ≡ None → first_fault k past ≡ None
sound-before k [] past h = h
sound-before k (q ∷ qs) past h = (none_both (first_fault k past) (network_fault k q past) (sound-before k qs (q ∷ past) h)).0

-- sections go out in packets on their PID
sections-on : (l : Listed) (wanted : Option ℕ) (past out ss : List (List ℕ)) → listed wanted past ≡ Some l → AllByRecursion (On l.pid) (packets_out l.pid out ss)
sections-on l wanted past out ss known =
    carried-on l.pid (packets_out l.pid out ss) (turn_carry l.pid (one_past (number_on l.pid out)) ss (listed_below wanted past l known) (one_past-below (number_on l.pid out)))

-- what a switch sends for packets on the PID of the map is on it
map-goes : (c : Config) (filed : ℕ → Option Advertisement) (l : Listed) (qs past : List (List ℕ)) → first_fault (reading_cues c) (onto past qs) ≡ None → listed (Some c.program) past ≡ Some l
    → AllByRecursion (On l.pid) qs → AllByRecursion (On l.pid) (switched_over (setting_of c filed) past qs)
map-goes c filed l [] past ok known all = tt
map-goes c filed l (q ∷ qs) past ok known all =
    let k = setting_of c filed in
    let here = sound-before (reading_cues c) (q ∷ qs) past ok in
    each-append (On l.pid) (switched_at_packet k q past) (switched_over k (q ∷ past) qs)
    (subst (AllByRecursion (On l.pid)) (sym (map-out k q past l known all.0 (map-switched c filed q past l here known all.0))) (sections-on l (Some c.program) past (switched_past k past) _ known))
    (map-goes c filed l qs (q ∷ past) ok (listed_stays (Some c.program) q past l known) all.1)

-- ---- on the PID of a switched stream

-- what holds of each of some packets holds of each of them, or of none
each-either : (P : List ℕ → Type 0) (b : Bool) (qs : List (List ℕ)) → AllByRecursion P qs → AllByRecursion P (if b then qs else [])
each-either P true qs h = h
each-either P false qs h = tt

module _ (c : Config) (filed : ℕ → Option Advertisement) (past : List (List ℕ)) where
  -- what the switch is told
  abbrev k : Setting
  k = setting_of c filed

  -- the PIDs of its switched streams
  abbrev sw : List ℕ
  sw = switched_at (setting_of c filed) past

  -- a packet on one of them
  abbrev IsIts : List ℕ → Type 0
  IsIts q = on_one (switched_at (setting_of c filed) past) q ≡ true

  -- what is put in before a packet is of switched streams
  front-goes : (p : List ℕ) → AllByRecursion IsIts (front_at k p past)
  front-goes p =
      let b = behind_head (Some c.program) past in
      each-either IsIts (is_behind_head k past) (front_of sw (adverts_at k past) (history_at k past) packed_units p b)
      (front-on sw (adverts_at k past) (history_at k past) (program-low (Some c.program) past) p b)

  -- and what stands for one of a switched stream
  place-goes : (p : List ℕ) → on c.cue_pid p ≡ false → on_one sw p ≡ true → pid_of p < 8192 → AllByRecursion IsIts (place_at k p past)
  place-goes p cue own low = rw (cue, own) (place-on sw (adverts_at k past) (history_at k past) (program-low (Some c.program) past) p (behind_head (Some c.program) past) own low)

  -- what a switch sends for a packet of a switched stream is of switched streams
  pub stream-goes : (p : List ℕ) → on_map (listed (Some c.program) past) p ≡ false → on c.cue_pid p ≡ false → on_one (switched_at (setting_of c filed) past) p ≡ true → pid_of p < 8192
      → AllByRecursion IsIts (switched_over (setting_of c filed) past (p ∷ []))
  stream-goes p map cue own low =
      subst (AllByRecursion IsIts) (sym (append-nil (switched_at_packet k p past) ∙ stream-out k p past map))
      (each-append IsIts (front_at k p past) (place_at k p past) (front-goes p) (place-goes p cue own low))

  -- and so at the end
  pub rest-goes : AllByRecursion IsIts (rest_at (setting_of c filed) past)
  rest-goes =
      let b = behind_head (Some c.program) past in
      each-either IsIts (is_behind_head k past) (end_of_run sw (adverts_at k past) (history_at k past) packed_units b)
      (end-on sw (adverts_at k past) (history_at k past) (program-low (Some c.program) past) b)

-- ---- a chain

-- packets of switched streams are of the service
streams-its : (c : Config) (steps : List Step) (qs : List (List ℕ)) → AllByRecursion (λ q. on_one (pids_of (program_of (Some c.program) (packets_in steps))) q ≡ true) qs → AreIts c steps qs
streams-its c steps qs h =
    let net = packets_in steps in
    Each-map (λ q. on_one (pids_of (program_of (Some c.program) net)) q ≡ true) (λ q. on_one (known_pids (Some c.program) net) q ≡ true)
    (λ q y. known-on c.program net q ∙ or_right (on_map (listed (Some c.program) net) q) (on_one (pids_of (program_of (Some c.program) net)) q) y) qs h

module _ (c : Config) (filed : ℕ → Option Advertisement) (p : List ℕ) (steps : List Step) (s : IsSoundNetwork c (p ∷ packets_in steps)) where
  -- the network before the packet
  abbrev net : List (List ℕ)
  net = packets_in steps

  -- what the switch has been given before the packet
  abbrev mid : List (List ℕ)
  mid = onto (cued c steps) (cue_packets c p steps (cued c steps))

  -- behind all that is sent for the packet there is no fault
  end-sound : first_fault (reading_cues c) (onto mid (body_at c p net mid)) ≡ None
  end-sound =
      ap (first_fault (reading_cues c)) (sym (onto-append (cued c steps) (cue_packets c p steps (cued c steps)) (body_at c p net mid)))
      ∙ injected_is_faultless c (Packet p ∷ steps) s.sound s.bytes

  -- for a packet on the PID of the map an injector sends packets on that PID
  body-on : (l : Listed) (o : Option Listed) (ts : List Table) → listed (Some c.program) net ≡ o → o ≡ Some l → on l.pid p ≡ true
      → AllByRecursion (On l.pid) (body (cueing c.cue_pid (λ q qs. [])) o p net ts mid)
  body-on l o ts known is y =
      let out = packets_out l.pid mid (map (section_out (cueing c.cue_pid (λ q qs. [])).change) ts) in
      let sent : body (cueing c.cue_pid (λ q qs. [])) o p net ts mid ≡ out = ap (λ o. body (cueing c.cue_pid (λ q qs. [])) o p net ts mid) is ∙ ap (λ b. if b then out else p ∷ []) y in
      subst (AllByRecursion (On l.pid)) (sym sent) (sections-on l (Some c.program) net mid _ (known ∙ is))

  -- a packet on the PID of the map
  stays-map : (l : Listed) → listed (Some c.program) net ≡ Some l → on l.pid p ≡ true → AreIts c steps (chain_at c filed p steps)
  stays-map l known y =
      let qs = body_at c p net mid in
      let out = switched_over (setting_of c filed) mid qs in
      let all : AllByRecursion (On l.pid) out = map-goes c filed l qs mid end-sound (same-listed c filed p steps s ∙ known) (body-on l (listed (Some c.program) net) _ refl known y) in
      subst (AllByRecursion (λ q. on_one (known_pids (Some c.program) net) q ≡ true)) (sym (chain-is c filed p steps s))
      (Each-map (On l.pid) (λ q. on_one (known_pids (Some c.program) net) q ≡ true)
      (λ q o. known-on c.program net q
      ∙ or_left (on_map (listed (Some c.program) net) q) (on_one (pids_of (program_of (Some c.program) net)) q) (ap (λ o. on_map o q) known ∙ o)) out all)

  -- a packet of a switched stream
  stays-stream : on_map (listed (Some c.program) net) p ≡ false → on_one (pids_of (program_of (Some c.program) net)) p ≡ true → AreIts c steps (chain_at c filed p steps)
  stays-stream off own =
      let k = setting_of c filed in
      let same = same-program c filed p steps s in
      let sent : chain_at c filed p steps ≡ switched_over k mid (p ∷ []) =
      chain-is c filed p steps s ∙ ap (switched_over k mid) (body-off c.cue_pid (listed (Some c.program) net) p net _ mid off) in
      streams-its c steps (chain_at c filed p steps)
      (subst (AllByRecursion (λ q. on_one (pids_of (program_of (Some c.program) net)) q ≡ true)) (sym sent)
      (subst (λ r. AllByRecursion (λ q. on_one (pids_of r) q ≡ true) (switched_over k mid (p ∷ []))) same
      (stream-goes c filed mid p (ap (λ o. on_map o p) (same-listed c filed p steps s) ∙ off) (no-cue c filed p steps s)
      (ap (λ r. on_one (pids_of r) p) same ∙ own) (bytes-pid p s.bytes.0))))

  -- one or the other, by the PAT
  stays-by : (o : Option Listed) → listed (Some c.program) net ≡ o → on_map o p ≡ true → AreIts c steps (chain_at c filed p steps)
  stays-by None known y = absurd (true≢false (sym y))
  stays-by (Some l) known y = stays-map l known y

  -- a packet on any PID of the service
  pub stays : on_one (known_pids (Some c.program) (packets_in steps)) p ≡ true → AreIts c steps (chain_at c filed p steps)
  stays own =
      let on_it : Bool = on_map (listed (Some c.program) net) p in
      let either : (on_map (listed (Some c.program) net) p || on_one (pids_of (program_of (Some c.program) net)) p) ≡ true = sym (known-on c.program net p) ∙ own in
      by_test (on_map (listed (Some c.program) net) p)
      (λ y. stays-by (listed (Some c.program) net) refl y)
      (λ n. stays-stream n (simp n at either))

-- for a packet on a PID of its service a chain sends packets on its PIDs alone
pub own_packets_stay : OwnPacketsStay
own_packets_stay c filed p steps s own = stays c filed p steps s own

-- and so at the end of the network
pub own_rest_stays : OwnRestStays
own_rest_stays c filed steps s =
    let same = (cued-read c steps s).program in
    let k = setting_of c filed in
    streams-its c steps (rest_at k (cued c steps))
    (subst (λ r. AllByRecursion (λ q. on_one (pids_of r) q ≡ true) (rest_at k (cued c steps))) same
    (rest-goes c filed (cued c steps)))
