-- What the cued stream of a whole run has, beside its network.
use Rattle.std.proofs.Common.{◌≡◌, ℕ, zero, suc, ◌+◌, ◌-◌, ◌<◌, ◌%◌, ◌*◌, List, [], ◌∷◌, ◌++◌, Bool, true, false, refl, sym, ap, ◌∙◌, subst, Option, None, Some, length, take, drop, map, min, arith}
use Rattle.std.specs.Prelude.{filter, replicate, All, slice_index}
use Rattle.std.specs.List.{AllByRecursion}
use Rattle.std.proofs.lemmas.List.{length-append, length-take, length-replicate}
use Rattle.std.proofs.lemmas.List.Elements.{All-nil, All-cons, recursion_from_All}
use Rattle.ts_packet.specs.Fields.{pid_of, on}
use Rattle.ts_packet.specs.Runs.{onto}
use Rattle.ts_packet.proofs.Cases.{by_test}
use Rattle.ts_packet.proofs.FieldLemmas.{payload_on-on, pid_is}
use Rattle.wire_fields.specs.Numbers.{AreBytes}
use Rattle.psi_section.specs.Packetising.{padded, later_packets, section_packets, packets_in_turn}
use Rattle.psi_section.proofs.ReadBackLemmas.{IsPayloadOn, turn_carry}
use Rattle.psi_tables.specs.declared.config.Config.{Config}
use Rattle.program_follower.specs.declared.purpose.Listed.{Listed}
use Rattle.program_follower.specs.Program.{Table, listed, tables}
use Rattle.program_follower.proofs.StepLemmas.{listed_stays}
use Rattle.program_laws.specs.Writing.{Along, number_on, section_out, body}
use Rattle.program_laws.specs.Behind.{Passes}
use Rattle.program_laws.specs.Cued.{On, cueing, CuedReads}
use Rattle.program_laws.proofs.PacketLemmas.{one_past-below}
use Rattle.program_laws.proofs.WritingLemmas.{listed_below}
use Rattle.program_laws.proofs.FaultLemmas.{Each-map}
use Rattle.program_laws.proofs.HeadLemmas.{others_are_written}
use Rattle.injector.specs.Steps.{Step, Message, Packet, packets_in, sections_before, cue_packets, body_at, cued}
use Rattle.injector.specs.Laws.{own_fronts}
use Rattle.injector.proofs.CuedLemmas.{cued-is-written, cued-reads-again}
use Rattle.ad_library.specs.Advertisements.{Advertisement}
use Rattle.splice_plans.specs.Adverts.{setting_of}
use Rattle.path_laws.specs.Packets.{IsRunOf}
use Rattle.cued_laws.proofs.CuedLemmas.{injected_is_faultless}
use Rattle.switch_laws.specs.Laws.{ArePackets}
use Rattle.switch_laws.specs.Whole.{HavePids}
use Rattle.switch_laws.specs.Standing.{IsSwitchable}
use Rattle.switch_laws.proofs.FaultlessLemmas.{faultless_is_sound}
use Rattle.psi_section.proofs.GivenLemmas.{each-append}
use Rattle.chain_laws.specs.Runs.{switched_by}

-- ---- lists

pub each-all : {A : Type 0} (P : A → Type 0) (xs : List A) → AllByRecursion P xs → All P xs
each-all P [] h = All-nil P
each-all P (x ∷ xs) h = All-cons P x xs h.0 (each-all P xs h.1)

pub each-onto : (P : List ℕ → Type 0) (past ps : List (List ℕ)) → AllByRecursion P past → AllByRecursion P ps → AllByRecursion P (onto past ps)
each-onto P past [] h k = h
each-onto P past (p ∷ ps) h k = each-onto P (p ∷ past) ps (k.0, h) k.1

-- ---- packets of 188 bytes, with PIDs of 13 bits

abbrev IsLong : List ℕ → Type 0
IsLong p = length p ≡ 188

abbrev HasPid : List ℕ → Type 0
HasPid p = pid_of p < 8192

padded-length : (room : ℕ) (bs : List ℕ) → length (padded room bs) ≡ room
padded-length room bs =
    length-append (take room bs) (replicate (room - length bs) 0xFF)
    ∙ ap (λ n. n + length (replicate {A = ℕ} (room - length bs) 0xFF)) (length-take room bs)
    ∙ ap (λ n. min room (length bs) + n) (length-replicate {A = ℕ} (room - length bs) 0xFF)
    ∙ filled room (length bs)
  where
    filled : (a b : ℕ) → min a b + (a - b) ≡ a
    filled a b = omega arith

later-long : (count pid n : ℕ) (bs : List ℕ) → AllByRecursion IsLong (later_packets count pid n bs)
later-long zero pid n bs = tt
later-long (suc count) pid n bs = ((let l = padded-length 184 bs in omega (arith, l)), later-long count pid ((n + 1) % 16) (drop 184 bs))

turn-long : (pid n : ℕ) (ss : List (List ℕ)) → AllByRecursion IsLong (packets_in_turn pid n ss)
turn-long pid n [] = tt
turn-long pid n (s ∷ ss) =
    each-append IsLong (section_packets pid n s) (packets_in_turn pid ((n + length (section_packets pid n s)) % 16) ss)
    ((let l = padded-length 183 s in omega (arith, l)), later-long _ pid ((n + 1) % 16) (drop 183 s))
    (turn-long pid ((n + length (section_packets pid n s)) % 16) ss)

turn-pids : (pid n : ℕ) (ss : List (List ℕ)) → pid < 8192 → n < 16 → AllByRecursion HasPid (packets_in_turn pid n ss)
turn-pids pid n ss l k =
    Each-map (IsPayloadOn pid) HasPid (λ q h. subst (λ m. m < 8192) (sym (pid_is pid q (payload_on-on pid q h))) l) (packets_in_turn pid n ss) (turn_carry pid n ss l k)

bytes-pid : (p : List ℕ) → AreBytes p → pid_of p < 8192
unfolding pid_of
bytes-pid p h = let b = h 2 in small (slice_index p 1) (slice_index p 2) b
  where
    small : (a b : ℕ) → b < 256 → a % 32 * 256 + b < 8192
    small a b l = omega (arith, l)

-- what an injector sends
module _ (P : List ℕ → Type 0) (turn : (pid n : ℕ) (ss : List (List ℕ)) → pid < 8192 → n < 16 → AllByRecursion P (packets_in_turn pid n ss)) where
  body-each : (c : Config) (p : List ℕ) (past out : List (List ℕ)) (ts : List Table) (o : Option Listed) → P p → listed (Some c.program) past ≡ o →
      AllByRecursion P (body (cueing c.cue_pid (λ q qs. [])) o p past ts out)
  body-each c p past out ts None h known = (h, tt)
  body-each c p past out ts (Some l) h known = by_test (on l.pid p)
      (λ y. simp y (turn l.pid _ (map (section_out (cueing c.cue_pid (λ q qs. [])).change) ts) (listed_below (Some c.program) past l known) (one_past-below (number_on l.pid out))))
      (λ n. simp n (h, tt))

  pub cued-each : (c : Config) (steps : List Step) → c.cue_pid < 8192 → AllByRecursion P (packets_in steps) → AllByRecursion P (cued c steps)
  cued-each c [] l h = tt
  cued-each c (Message m ∷ past) l h = cued-each c past l h
  cued-each c (Packet p ∷ past) l h =
      let out = cued c past in
      let qs = cue_packets c p past out in
      each-onto P out (qs ++ body_at c p (packets_in past) (onto out qs)) (cued-each c past l h.1)
      (each-append P qs (body_at c p (packets_in past) (onto out qs))
      (turn c.cue_pid _ (sections_before c p past) l (one_past-below (number_on c.cue_pid out)))
      (body-each c p (packets_in past) (onto out qs) (tables (Some c.program) p (packets_in past)) (listed (Some c.program) (packets_in past)) h.0 refl))

pub cued-long : (c : Config) (steps : List Step) → IsRunOf c steps → ArePackets (packets_in steps) → ArePackets (cued c steps)
cued-long c steps r long = each-all IsLong (cued c steps) (cued-each IsLong (λ pid n ss l k. turn-long pid n ss) c steps r.cue_pid (recursion_from_All IsLong (packets_in steps) long))

bytes-along : (past : List (List ℕ)) → Along (λ p past. AreBytes p) past → AllByRecursion HasPid past
bytes-along [] h = tt
bytes-along (p ∷ past) h = (bytes-pid p h.0, bytes-along past h.1)

pub cued-pids : (c : Config) (steps : List Step) → IsRunOf c steps → HavePids (cued c steps)
cued-pids c steps r = each-all HasPid (cued c steps) (cued-each HasPid turn-pids c steps r.cue_pid (bytes-along (packets_in steps) r.bytes))

-- ---- read beside the network

module _ (c : Config) (filed : ℕ → Option Advertisement) (steps : List Step) (r : IsRunOf c steps) where
  abbrev pub back : List (List ℕ)
  back = cued c steps

  pub reads : CuedReads (Some c.program) c.cue_pid (cued c steps) (packets_in steps) (switched_by c steps)
  reads = cued-reads-again c steps r.faultless r.bytes

  pub sound : IsSwitchable (setting_of c filed) (cued c steps)
  sound = faultless_is_sound (setting_of c filed) (cued c steps) (injected_is_faultless c steps r.faultless r.bytes)

  -- packets that are neither of the cue PID nor of the map's
  module _ (takes : List ℕ → Bool) (no_cue : (q : List ℕ) → on c.cue_pid q ≡ true → takes q ≡ false)
      (no_map : (l : Listed) → listed (Some c.program) (packets_in steps) ≡ Some l → (q : List ℕ) → on l.pid q ≡ true → takes q ≡ false) where
    no-cues : (qs : List (List ℕ)) → AllByRecursion (On c.cue_pid) qs → AllByRecursion (λ q. takes q ≡ false) qs
    no-cues qs h = Each-map (On c.cue_pid) (λ q. takes q ≡ false) no_cue qs h

    pass-along : (ps : List (List ℕ)) → Along (λ p qs. AllByRecursion (On c.cue_pid) (own_fronts c steps p qs)) ps → ((l : Listed) → listed (Some c.program) ps ≡ Some l → listed (Some c.program) (packets_in steps) ≡ Some l)
        → Along (Passes takes (cueing c.cue_pid (own_fronts c steps)) (Some c.program)) ps
    pass-along [] f h = tt
    pass-along (p ∷ ps) f h = (
      record {
        front = no-cues (own_fronts c steps p ps) f.0;
        place = refl;
        own = λ l known q y. no_map l (h l (listed_stays (Some c.program) p ps l known)) q y;
      },
      pass-along ps f.1 (λ l known. h l (listed_stays (Some c.program) p ps l known)),
    )

    -- stand in the cued stream as they did
    pub others : filter takes (cued c steps) ≡ filter takes (packets_in steps)
    others =
        let w = cued-is-written c steps r.faultless in
        ap (filter takes) w.stream
        ∙ others_are_written takes (cueing c.cue_pid (own_fronts c steps)) (Some c.program) (packets_in steps) (pass-along (packets_in steps) w.cues (λ l known. known))
