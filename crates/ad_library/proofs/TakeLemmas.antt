-- A gathering, one packet more.
use Rattle.std.specs.Option.{option_or}
use Rattle.std.specs.Prelude.{option_map, ℤ, pos, negsuc, ◌≤ℤ◌, ◌-ℤ◌, Vec, is_some, nat_lt, IfSome, IsSome, ◌<◌}
use Rattle.std.proofs.Common.{◌≡◌, ℕ, ◌+◌, ◌*◌, List, [], ◌∷◌, Bool, true, false, refl, sym, ap, ◌∙◌, subst, ◌⊎◌, inl, inr, Option, Some, None, if◌then◌else◌, length, arith}
use Rattle.std.proofs.lemmas.Int.{ints}
use Rattle.ts_packet.specs.Fields.{on, bytes}
use Rattle.ts_packet.specs.Duplicates.{is_gap}
use Rattle.ts_packet.specs.FirstFault.{or_then}
use Rattle.ts_packet.proofs.Cases.{by_test}
use Rattle.pes_time.specs.Line.{place}
use Rattle.unit_stream.specs.Clocks.{Tells, IsNear}
use Rattle.unit_stream.specs.Times.{begins_one, high, stamp, splits}
use Rattle.unit_stream.specs.Faults.{scrambled_one, start_fault, jumps, is_far, unit_fault}
use Rattle.unit_stream.specs.declared.fault.UnitFault.TheVariants as unit_faults
use Rattle.unit_stream.specs.declared.clock.Begun.{Begun}
use Rattle.unit_stream.proofs.ClockLemmas.{splits_is, high_same, jump_sound}
use Rattle.psi_tables.specs.declared.stream.Stream.{Stream}
use Rattle.program_follower.specs.declared.purpose.Listed.{Listed}
use Rattle.program_follower.specs.declared.streams.StreamPacket.{StreamPacket}
use Rattle.program_follower.specs.declared.streams.StreamPacket.TheVariants.{Start, More, Repeat, Lead, NoPayload}
use Rattle.program_follower.specs.declared.follower.Place.{Place}
use Rattle.program_follower.specs.declared.follower.Place.TheVariants as places
use Rattle.program_follower.specs.Program.{listed, Program, program_of, known_map, behind_head, pids_of}
use Rattle.program_follower.specs.Faults.{pids_in, cue_fault, pats_fault_at, maps_fault_at, unit_fault_at, network_fault, first_fault}
use Rattle.program_follower.specs.Streaming.{first_on, IsStreamPacket}
use Rattle.program_follower.specs.Following.{FollowerStandsFor, IsPlace, grown, streams_of_program, on_map}
use Rattle.program_follower.proofs.OptionLemmas.{none_both}
use Rattle.program_follower.proofs.FollowLemmas.{program_stays, grown_is, known_program, no_high, no_unit_fault}
use Rattle.ad_library.specs.declared.fault.AdFault.{AdFault}
use Rattle.ad_library.specs.declared.fault.AdFault.TheVariants as ad_faults
use Rattle.ad_library.specs.declared.gathered.Gathered.{Gathered}
use Rattle.ad_library.specs.declared.gathering.Gathering.{Gathering}
use Rattle.ad_library.specs.Storing.{on_line}
use Rattle.program_follower.specs.Purposes.{reading_advertisement}
use Rattle.ad_library.specs.Faults.{as_ad_fault, gap_on_one, large_fault, loss_fault, ad_fault_at, IsWhatIsWrong, IsToldOf}
use Rattle.ad_library.specs.Gathering.{AllGathered, StreamsGathered, StreamsStand, IsOfOne, IsWholeStart, IsNearStart, stream_in, Gathers, IsHeld}
use Rattle.ad_library.proofs.ProgramLemmas.{NoPayload as NonePayload, streams_apart, none_marked, none_first, none_map}
use Rattle.ad_library.proofs.StreamsLemmas.{all_off, begins_none, gap_first, begins_first}

-- ---- the head

pub none_known : (A : Type 0) (past : List (List ℕ)) → false ≡ is_some (known_map None past) → StreamsGathered {A = A} None (program_of None past) []
none_known A past e = by_known (program_of None past) (known_program (known_map None past) ∙ sym e) where
  by_known : (o : Option Program) → is_some o ≡ false → StreamsGathered {A = A} None o []
  by_known None n = tt
  by_known (Some r) n = absurd (cc)

pub some_known : {A : Type 0} (gs : List (Gathered A)) (past : List (List ℕ)) (ss : List Stream) → true ≡ is_some (known_map None past) → ss ≡ streams_of_program (program_of None past)
    → ((pids : List ℕ) → AllGathered gs ss pids []) → StreamsGathered (Some gs) (program_of None past) []
some_known gs past ss e is all = by_known (program_of None past) (known_program (known_map None past) ∙ sym e) is where
  by_known : (o : Option Program) → is_some o ≡ true → ss ≡ streams_of_program o → StreamsGathered (Some gs) o []
  by_known None n k = absurd (cc)
  by_known (Some r) n k = subst (λ (ts : List Stream). AllGathered gs ts (pids_in r.streams) []) k (all (pids_in r.streams))

-- ---- what no fault says of a unit that begins

pub unit_sound : (p : List ℕ) (past : List (List ℕ)) → network_fault reading_advertisement p past ≡ None → unit_fault (pids_of (program_of None past)) p (behind_head None past) ≡ None
unit_sound p past h =
    let c = reading_advertisement in
    let a = none_both (cue_fault c p) (option_or (pats_fault_at c p past) (option_or (maps_fault_at c p past) (unit_fault_at c p past))) h in
    let b = none_both (pats_fault_at c p past) (option_or (maps_fault_at c p past) (unit_fault_at c p past)) a.1 in
    let d = none_both (maps_fault_at c p past) (unit_fault_at c p past) b.1 in
    no_unit_fault (unit_fault (pids_of (program_of None past)) p (behind_head None past)) d.1

start_sound : (pids : List ℕ) (p : List ℕ) (past : List (List ℕ)) → unit_fault pids p past ≡ None → begins_one pids p past ≡ true → start_fault (high pids past) (splits p) (stamp p) ≡ None
start_sound pids p past h b =
    by_test (scrambled_one pids p)
    (λ y. absurd (let e : unit_fault pids p past ≡ Some unit_faults.Scrambled =
    ap (λ x. if x then Some unit_faults.Scrambled else (if begins_one pids p past then start_fault (high pids past) (splits p) (stamp p) else None)) y in
    let f : None ≡ Some unit_faults.Scrambled = sym h ∙ e in cc))
    (λ n. sym (ap (λ x. if x then Some unit_faults.Scrambled else (if begins_one pids p past then start_fault (high pids past) (splits p) (stamp p) else None)) n
    ∙ ap (λ x. if x then start_fault (high pids past) (splits p) (stamp p) else None) b) ∙ h)

split_sound : (latest : Option ℤ) (split : Bool) (s : Option ℕ) → start_fault latest split s ≡ None → split ≡ false
split_sound latest true s h = absurd (cc)
split_sound latest false s h = refl

not_far : (d : ℤ) → is_far d ≡ false → (negsuc 899999 ≤ℤ d) × (d ≤ℤ pos 900000)
not_far d h = (grind (arith, ints), grind (arith, ints))

near_by : (latest : Option ℤ) (begun : Option Begun) (s : Option ℕ) → Tells begun latest s → jumps latest s ≡ false → IsNear begun
near_by latest None s t j = tt
near_by None (Some begun) s t j =
    let e : begun.way ≡ pos 0 = t.1 in (grind (arith, ints), grind (arith, ints))
near_by (Some h) (Some begun) s t j =
    let e : begun.way ≡ place (Some h) begun.pts -ℤ h = t.1 in
    let f : is_far (place (Some h) begun.pts -ℤ h) ≡ false = ap (jumps (Some h)) (sym t.0) ∙ j in
    let g : is_far begun.way ≡ false = ap is_far e ∙ f in
    not_far begun.way g

module _ (pids : List ℕ) (p : List ℕ) (past : List (List ℕ)) (x : ℕ × ℕ) (first : first_on pids p ≡ Some x) (sound : unit_fault pids p past ≡ None) where
  pub starts_whole : (part : StreamPacket) → IsStreamPacket part pids x.1 p past → IsWholeStart part (bytes p)
  starts_whole (Start begun) is =
      let b = begins_first p past pids x first ∙ is.0 in
      splits_is p (bytes p) refl ∙ split_sound (high pids past) (splits p) (stamp p) (start_sound pids p past sound b)
  starts_whole More is = tt
  starts_whole Repeat is = tt
  starts_whole Lead is = tt
  starts_whole NoPayload is = tt

  pub starts_near : (part : StreamPacket) → IsStreamPacket part pids x.1 p past → IsNearStart part
  starts_near (Start begun) is =
      let b = begins_first p past pids x first ∙ is.0 in
      near_by (high pids past) begun (stamp p) is.1 (jump_sound (high pids past) (splits p) (stamp p) (start_sound pids p past sound b))
  starts_near More is = tt
  starts_near Repeat is = tt
  starts_near Lead is = tt
  starts_near NoPayload is = tt

-- ---- the place of a packet

pub record OfOne (i : ℕ) (part : StreamPacket) (p : List ℕ) (past : List (List ℕ)) : Type 0 where
  pub pid : ℕ
  pub first_is : first_on (pids_of (program_of None past)) p ≡ Some (i, pid)
  pub is : IsStreamPacket part (pids_of (program_of None past)) pid p (behind_head None past)

pub of_one : (x : Place) (i : ℕ) (part : StreamPacket) (p : List ℕ) (past : List (List ℕ)) → IsPlace x reading_advertisement p past → Some (i, part) ≡ stream_in x → OfOne i part p past
of_one places.Marked i part p past h e = absurd (cc)
of_one places.Cue i part p past h e = absurd (cc)
of_one places.Map i part p past h e = absurd (cc)
of_one places.Other i part p past h e = absurd (cc)
of_one (places.Stream j q) i part p past h e =
    let same : (i, part) ≡ (j, q) = cc in
    let (pid, both) = h.2 in
    subst (λ (y : ℕ × StreamPacket). OfOne y.0 y.1 p past) (sym same) (record { pid = pid; first_is = both.0; is = both.1 })

map_off : (o : Option Listed) (p : List ℕ) (l : Listed) → o ≡ Some l → on_map o p ≡ true → on l.pid p ≡ true
map_off o p l e h = sym (ap (λ x. on_map x p) e) ∙ h

pub of_none : (x : Place) (p : List ℕ) (past : List (List ℕ)) → first_fault reading_advertisement past ≡ None → IsPlace x reading_advertisement p past → None ≡ stream_in x → NonePayload p (pids_of (program_of None past))
of_none places.Marked p past s h e = none_marked p (pids_of (program_of None past)) h
of_none places.Cue p past s h e = absurd (cc)
of_none places.Map p past s h e = by_program (program_of None past) refl where
  by_program : (o : Option Program) → program_of None past ≡ o → NonePayload p (pids_of o)
  by_program None k = tt
  by_program (Some r) k =
      let a = streams_apart reading_advertisement past r s k in
      none_map p a.known.pid (pids_in r.streams) (map_off (listed None past) p a.known a.listed_is h) a.streams.off_map
of_none places.Other p past s h e = none_first p (pids_of (program_of None past)) h.3
of_none (places.Stream j q) p past s h e = absurd (cc)

-- ---- what is wrong with the packet

-- 356,962 packets of 188 bytes are the most that 67,108,864 bytes hold
few_packets : (n : ℕ) → n < 356962 → nat_lt 67108864 (188 * (n + 1)) ≡ false
few_packets n lt = grind (arith, lt)

module _ (p : List ℕ) (past : List (List ℕ)) (few : length past < 356962) where
  abbrev behind : Option AdFault → Option AdFault
  behind o = or_then (large_fault past) o

  not_large : (o : Option AdFault) → behind o ≡ o
  not_large o = ap (λ b. or_then (if b then Some ad_faults.Large else None) o) (few_packets (length past) few)

  by_network : network_fault reading_advertisement p past ≡ None → ad_fault_at p past ≡ loss_fault p past
  by_network n = not_large (or_then (as_ad_fault (network_fault reading_advertisement p past)) (loss_fault p past)) ∙ ap (λ o. or_then (as_ad_fault o) (loss_fault p past)) n

  pub is_clean : network_fault reading_advertisement p past ≡ None → gap_on_one (pids_of (program_of None past)) p (behind_head None past) ≡ false → ad_fault_at p past ≡ None
  is_clean n g = by_network n ∙ ap (λ b. if b then Some ad_faults.Loss else None) g

  pub is_lost : network_fault reading_advertisement p past ≡ None → gap_on_one (pids_of (program_of None past)) p (behind_head None past) ≡ true → ad_fault_at p past ≡ Some ad_faults.Loss
  is_lost n g = by_network n ∙ ap (λ b. if b then Some ad_faults.Loss else None) g

  pub is_refused : (f : AdFault) → as_ad_fault (network_fault reading_advertisement p past) ≡ Some f → ad_fault_at p past ≡ Some f
  is_refused f e = not_large (or_then (as_ad_fault (network_fault reading_advertisement p past)) (loss_fault p past)) ∙ ap (λ o. or_then o (loss_fault p past)) e

  pub lost_or : network_fault reading_advertisement p past ≡ None → (f : AdFault) (gap : Bool) → gap_on_one (pids_of (program_of None past)) p (behind_head None past) ≡ gap
      → IsToldOf gap f → IsWhatIsWrong (ad_fault_at p past) f
  lost_or n f gap g (inl e) = inl (e.0, is_clean n (g ∙ e.1))
  lost_or n f gap g (inr e) = inr (is_lost n (g ∙ e.1) ∙ ap Some (sym e.0))

pub held_more : (o : Option ℕ) (n : ℕ) → IfSome o (IsHeld n) → IfSome o (IsHeld (n + 1))
held_more None n h = tt
held_more (Some t) n h = let a = h.low in let b = h.high in record { low = omega (arith, a); high = omega (arith, b) }

-- ---- the gathering

same_streams : {A : Type 0} (o : Option (List (Gathered A))) (r : Program) (past : List (List ℕ)) → StreamsGathered o (Some (record { streams = r.streams; pcr_pid = 0 })) past → StreamsGathered o (Some r) past
same_streams None r past h = h
same_streams (Some gs) r past h = h

of_streams : {A : Type 0} (o : Option (List (Gathered A))) (r : Program) (past : List (List ℕ)) → StreamsGathered o (Some r) past → StreamsGathered o (Some (record { streams = r.streams; pcr_pid = 0 })) past
of_streams None r past h = h
of_streams (Some gs) r past h = h

abbrev pub items_of : {A Z : Type 0} → Option (Vec (Gathered A) Z) → Option (List (Gathered A))
items_of o = option_map (λ v. v.items) o

-- what is the same for each packet
pub record Feeds {A : Type 0} (old new : Gathering A) (p : List ℕ) (past : List (List ℕ)) : Type 0 where
  pub follower : FollowerStandsFor new.follower reading_advertisement (p ∷ past)
  pub network : network_fault reading_advertisement p past ≡ None
  pub packets : new.packets ≡ old.packets + 1
  pub room : old.packets < 356962
  pub held : IfSome new.high (IsHeld new.packets)

module _ {A : Type 0} (old : Gathering A) (p : List ℕ) (past : List (List ℕ)) (h : Gathers old past) where
  pub few : old.packets < 356962 → length past < 356962
  few lt = let n = h.packets in omega (arith, n, lt)

  grown_some : (r : Program) → program_of None past ≡ Some r → p ∷ behind_head None past ≡ behind_head None (p ∷ past)
  grown_some r e = sym (ap (λ o. grown o p (behind_head None past)) e) ∙ grown_is None p past

  next_gathers : (new : Gathering A) → Feeds old new p past → StreamsGathered (items_of new.streams) (program_of None (p ∷ past)) (behind_head None (p ∷ past))
      → option_map on_line new.high ≡ high (pids_of (program_of None (p ∷ past))) (behind_head None (p ∷ past)) → Gathers new (p ∷ past)
  next_gathers new f s e = record {
    follower = f.follower;
    sound = ap (λ x. option_or x (network_fault reading_advertisement p past)) h.sound ∙ f.network;
    packets = let a = f.packets in let b = h.packets in omega (arith, a, b);
    few = let a = f.packets in let b = f.room in omega (arith, a, b);
    streams = s;
    high_is = e;
    held = f.held;
  }

  -- a packet of a stream
  pub record One (i : ℕ) (part : StreamPacket) : Type 0 where
    pub program : Program
    pub program_is : program_of None past ≡ Some program
    pub one : ℕ × ℕ
    pub is : IsOfOne old.streams old.high part i one program.streams p (behind_head None past)

  one_by : (i : ℕ) (part : StreamPacket) (pid : ℕ) (o : Option Program) → program_of None past ≡ o → first_on (pids_of o) p ≡ Some (i, pid) → IsStreamPacket part (pids_of o) pid p (behind_head None past)
      → StreamsGathered (items_of old.streams) o (behind_head None past) → option_map on_line old.high ≡ high (pids_of o) (behind_head None past) → One i part
  one_by i part pid None e first is s k = absurd (cc)
  one_by i part pid (Some r) e first is s k = record {
    program = r;
    program_is = e;
    one = (i, pid);
    is = record {
      stand = record { streams_are = of_streams (items_of old.streams) r (behind_head None past) s; high_is = k };
      apart = (streams_apart reading_advertisement past r h.sound e).streams.apart;
      place_is = refl;
      first_is = first;
      is = is;
    };
  }

  pub one_is : (x : Place) (i : ℕ) (part : StreamPacket) → IsPlace x reading_advertisement p past → Some (i, part) ≡ stream_in x → One i part
  one_is x i part at e = let o = of_one x i part p past at e in one_by i part o.pid (program_of None past) refl o.first_is o.is h.streams h.high_is

  pub gap_of : (i : ℕ) (part : StreamPacket) → (o : One i part) → gap_on_one (pids_of (program_of None past)) p (behind_head None past) ≡ is_gap o.one.1 p (behind_head None past)
  gap_of i part o = ap (λ q. gap_on_one (pids_of q) p (behind_head None past)) o.program_is ∙ gap_first p (behind_head None past) (pids_in o.program.streams) o.one o.is.first_is

  pub one_kept : (new : Gathering A) (i : ℕ) (part : StreamPacket) (o : One i part) → Feeds old new p past → StreamsStand new.streams new.high o.program.streams (p ∷ behind_head None past) → Gathers new (p ∷ past)
  one_kept new i part o f s =
      let r = o.program in
      let now : program_of None (p ∷ past) ≡ Some r = program_stays None p past r o.program_is in
      let more = grown_some r o.program_is in
      let at : StreamsGathered (items_of new.streams) (Some r) (behind_head None (p ∷ past)) =
      subst (λ ps. StreamsGathered (items_of new.streams) (Some r) ps) more (same_streams (items_of new.streams) r (p ∷ behind_head None past) s.streams_are) in
      next_gathers new f (subst (λ q. StreamsGathered (items_of new.streams) q (behind_head None (p ∷ past))) (sym now) at)
      (s.high_is ∙ ap (high (pids_in r.streams)) more ∙ ap (λ q. high (pids_of q) (behind_head None (p ∷ past))) (sym now))

  pub one_whole : (i : ℕ) (part : StreamPacket) → network_fault reading_advertisement p past ≡ None → One i part → IsWholeStart part (bytes p) × IsNearStart part
  one_whole i part n o =
      let u : unit_fault (pids_in o.program.streams) p (behind_head None past) ≡ None = ap (λ q. unit_fault (pids_of q) p (behind_head None past)) (sym o.program_is) ∙ unit_sound p past n in (
        starts_whole (pids_in o.program.streams) p (behind_head None past) o.one o.is.first_is u part o.is.is,
        starts_near (pids_in o.program.streams) p (behind_head None past) o.one o.is.first_is u part o.is.is,
      )

  -- a packet of none
  gathered_off : (s : Option (List (Gathered A))) (r : Program) → NonePayload p (pids_in r.streams) → StreamsGathered s (Some r) (behind_head None past) → StreamsGathered s (Some r) (p ∷ behind_head None past)
  gathered_off None r n s = s
  gathered_off (Some gs) r n s = all_off p (behind_head None past) gs r.streams (pids_in r.streams) n s

  none_stays : (s : Option (Vec (Gathered A) A)) (r : Program) → StreamsGathered (items_of s) (Some r) (behind_head None past) → IsSome s
  none_stays None r h = absurd h
  none_stays (Some v) r h = refl

  none_yet : (s : Option (Vec (Gathered A) A)) → StreamsGathered (items_of s) None (behind_head None past) → s ≡ None
  none_yet None h = refl
  none_yet (Some v) h = absurd h

  pub none_kept : (new : Gathering A) → NonePayload p (pids_of (program_of None past)) → Feeds old new p past → new.high ≡ old.high → (IsSome old.streams → new.streams ≡ old.streams)
      → (old.streams ≡ None → StreamsGathered (items_of new.streams) (program_of None (p ∷ past)) []) → Gathers new (p ∷ past)
  none_kept new n f e same opens = by_program (program_of None past) refl n h.streams h.high_is where
    by_program : (o : Option Program) → program_of None past ≡ o → NonePayload p (pids_of o) → StreamsGathered (items_of old.streams) o (behind_head None past)
        → option_map on_line old.high ≡ high (pids_of o) (behind_head None past) → Gathers new (p ∷ past)
    by_program None k n s l =
        let empty : behind_head None (p ∷ past) ≡ [] = sym (grown_is None p past) ∙ ap (λ o. grown o p (behind_head None past)) k in
        next_gathers new f (subst (λ ps. StreamsGathered (items_of new.streams) (program_of None (p ∷ past)) ps) (sym empty) (opens (none_yet old.streams s)))
        (ap (option_map on_line) e ∙ l ∙ no_high (behind_head None past) ∙ sym (ap (high (pids_of (program_of None (p ∷ past)))) empty))
    by_program (Some r) k n s l =
        let now : program_of None (p ∷ past) ≡ Some r = program_stays None p past r k in
        let more = grown_some r k in
        let stays : items_of new.streams ≡ items_of old.streams = ap items_of (same (none_stays old.streams r s)) in
        let off : StreamsGathered (items_of new.streams) (Some r) (p ∷ behind_head None past) = subst (λ q. StreamsGathered q (Some r) (p ∷ behind_head None past)) (sym stays) (gathered_off (items_of old.streams) r n s) in
        let at : StreamsGathered (items_of new.streams) (Some r) (behind_head None (p ∷ past)) = subst (λ ps. StreamsGathered (items_of new.streams) (Some r) ps) more off in
        next_gathers new f (subst (λ q. StreamsGathered (items_of new.streams) q (behind_head None (p ∷ past))) (sym now) at)
        (ap (option_map on_line) e ∙ l ∙ sym (high_same (pids_in r.streams) p (behind_head None past) (begins_none p (behind_head None past) (pids_in r.streams) n))
        ∙ ap (high (pids_in r.streams)) more ∙ ap (λ q. high (pids_of q) (behind_head None (p ∷ past))) (sym now))
