-- The stretches of a network: as they are read they have no fault, and one behind another they are its packets.
use Rattle.std.proofs.Common.{◌≡◌, ℕ, zero, suc, ◌+◌, ◌-◌, ◌*◌, ◌/◌, ◌≤◌, min, List, [], ◌∷◌, ◌++◌, map, length, reverse, Bool, true, false, ◌&&◌, if◌then◌else◌, refl, sym, ap, subst, ◌∙◌, arith, Option, None, Some}
use Rattle.std.specs.Prelude.{replicate, is_some, drop}
use Rattle.std.specs.List.{AllByRecursion}
use Rattle.std.specs.Option.{option_or}
use Rattle.std.proofs.lemmas.List.{reverse-append, length-replicate, length-take, length-drop}
use Rattle.std.proofs.lemmas.List.Elements.{All-nil, All-cons}
use Rattle.ts_packet.specs.Fields.{marked}
use Rattle.ts_packet.specs.Packets.{packets_of, parts}
use Rattle.ts_packet.proofs.FieldLemmas.{off_payload}
use Rattle.ts_packet.proofs.RunLemmas.{map-reverse}
use Rattle.wire_fields.specs.Numbers.{AreBytes}
use Rattle.wire_fields.proofs.Cells.{AreBytes-drop}
use Rattle.unit_stream.specs.Faults.{scrambled_one}
use Rattle.unit_stream.proofs.ClockLemmas.{fault_none, begins_off_all}
use Rattle.psi_section.proofs.RunLemmas.{given_off}
use Rattle.psi_tables.specs.declared.config.Config.{Config}
use Rattle.psi_tables.specs.declared.network.NetworkFault.{NetworkFault}
use Rattle.psi_tables.specs.declared.network.NetworkFault.TheVariants.{TimeJump, HeaderSplit, Scrambled, ProgramChanged, TooManyStreams, BadPids, PmtTooLong, CuePidUsed, Sections}
use Rattle.program_follower.specs.declared.purpose.Purpose.{Purpose}
use Rattle.program_follower.specs.declared.purpose.Listed.{Listed}
use Rattle.program_follower.specs.Program.{listed, tables, known_map, program_of, behind_head, pids_of}
use Rattle.program_follower.specs.Faults.{on_cue, if_bad, cue_fault, pats_fault, pats_fault_at, maps_fault, maps_fault_at, as_network, unit_fault_at, network_fault, first_fault}
use Rattle.program_follower.proofs.StepLemmas.{tables_off}
use Rattle.cued_laws.specs.Laws.{ArePacketsOfBytes}
use Rattle.switch_laws.specs.Laws.{ArePackets}
use Rattle.scte104_codec.specs.Reading.{message_of}
use Rattle.injector.specs.Steps.{Step, Message, packets_in}
use Rattle.path_laws.specs.Packets.{RequestsFit}
use Rattle.splice_switch.proofs.BesideLemmas.{marked-off, marked-none}
use Rattle.chain_engine.specs.Automation.{Take, bytes_of}
use Rattle.chain_engine.specs.Talks.{judged_before}
use Rattle.chain_engine.specs.Runs.{asked, steps_of}
use Rattle.chain_engine.specs.Airing.{Aired, read_of, steps_on_air}
use Rattle.chain_engine.proofs.StepsLemmas.{asked_packets}
use Rattle.chain_laws.proofs.RunLemmas.{each-onto}
use Rattle.chain_laws.proofs.WidthLemmas.{steps_fit}
use Rattle.on_air.specs.Stretches.{Entry, Judgement, Judged, Passed, Damaged, Jumped, Verdict, Is, BeginsNew, as_read as entries_read, stream_at, verdict_beside, verdict_of, verdict_at, verdict, as_first, first_entry, joined, with_next, stretches, is_lone_jump, start_at}
use Rattle.on_air.specs.AirRuns.{newest}
use Rattle.on_air.specs.AirOutputs.{aired_of, aired, ended_of, ended_in, stretches_in}
use Rattle.air_laws.specs.Airs.{all_put, all_read}
use Rattle.air_laws.specs.Headline.{packets_before}

-- ---- a packet that is marked in error

length-marked : (p : List ℕ) → length p ≡ 188 → length (marked p) ≡ 188
unfolding marked
length-marked [] h = absurd (grind (arith, h))
length-marked (a ∷ []) h = absurd (grind (arith, h))
length-marked (a ∷ b ∷ r) h = h

marked-clear : (pids : List ℕ) (p : List ℕ) → scrambled_one pids (marked p) ≡ false
marked-clear [] p = refl
marked-clear (pid ∷ pids) p =
    let n = off_payload pid (marked p) (marked-off pid p) in
    let later = marked-clear pids p in simp (n, later)

-- has no fault
module _ (c : Purpose) (p : List ℕ) (past : List (List ℕ)) where
  marked-cue : cue_fault c (marked p) ≡ None
  marked-cue = ap (λ b. if_bad b CuePidUsed) (none c.writes_cues c.cue_pid)
    where
      none : (w : Bool) (o : Option ℕ) → (w && on_cue o (marked p)) ≡ false
      none true None = refl
      none true (Some cue) = marked-off cue p
      none false o = refl

  marked-maps : (o : Option Listed) → listed c.program past ≡ o → maps_fault_at c (marked p) past ≡ None
  marked-maps None is = ap (λ o. maps_fault c o (known_map c.program past) (tables c.program (marked p) past)) is
  marked-maps (Some l) is =
      ap (maps_fault c (listed c.program past) (known_map c.program past)) (tables_off c.program (marked p) past l is (marked-off l.pid p))
      ∙ ap (λ o. maps_fault c o (known_map c.program past) []) is

  pub marked-sound : network_fault c (marked p) past ≡ None
  marked-sound =
      let sw = pids_of (program_of c.program past) in
      let a = marked-cue in
      let b : pats_fault_at c (marked p) past ≡ None = ap (pats_fault c (listed c.program past)) (given_off 0 (marked p) past (marked-off 0 p)) in
      let d = marked-maps (listed c.program past) refl in
      let e : unit_fault_at c (marked p) past ≡ None
      = ap as_network (fault_none sw (marked p) (behind_head c.program past) (marked-clear sw p) (begins_off_all sw (marked p) (behind_head c.program past) (marked-none sw p))) in
      simp (a, b, d, e)

-- ---- a packet that is judged has none

beside-judged : (b : Bool) (o : Option NetworkFault) → verdict_beside b o ≡ Is Judged → o ≡ None
beside-judged b None h = refl
beside-judged true (Some CuePidUsed) h = cc
beside-judged false (Some CuePidUsed) h = cc
beside-judged b (Some Scrambled) h = cc
beside-judged b (Some HeaderSplit) h = cc
beside-judged b (Some TimeJump) h = cc
beside-judged b (Some ProgramChanged) h = cc
beside-judged b (Some TooManyStreams) h = cc
beside-judged b (Some BadPids) h = cc
beside-judged b (Some PmtTooLong) h = cc
beside-judged b (Some Sections) h = cc

damage-is : (b : Bool) → Is (if b then Damaged else Passed) ≡ Is Judged → ⊥
damage-is true h = cc
damage-is false h = cc

jump-is : (b : Bool) → (if b then Is Jumped else BeginsNew TimeJump) ≡ Is Judged → ⊥
jump-is true h = cc
jump-is false h = cc

stream-judged : (c : Purpose) (n : ℕ) (o : Option NetworkFault) (p : List ℕ) (past : List Entry) → verdict_of c n o p past ≡ Is Judged → o ≡ None
stream-judged c n None p past h = refl
stream-judged c n (Some Scrambled) p past h = absurd (damage-is (is_some (start_at c p past)) h)
stream-judged c n (Some HeaderSplit) p past h = absurd (damage-is (is_some (start_at c p past)) h)
stream-judged c n (Some TimeJump) p past h = absurd (jump-is (is_lone_jump c n p past) h)
stream-judged c n (Some CuePidUsed) p past h = cc
stream-judged c n (Some ProgramChanged) p past h = cc
stream-judged c n (Some TooManyStreams) p past h = cc
stream-judged c n (Some BadPids) p past h = cc
stream-judged c n (Some PmtTooLong) p past h = cc
stream-judged c n (Some Sections) p past h = cc

judged-by : (c : Purpose) (o : Option ℕ) (p : List ℕ) (past : List Entry) → verdict_at c o p past ≡ Is Judged → network_fault c p (entries_read past) ≡ None
judged-by c None p past h = beside-judged (c.writes_cues && on_cue c.cue_pid p) (network_fault c p (entries_read past)) h
judged-by c (Some n) p past h = stream-judged c n (network_fault c p (entries_read past)) p past h

pub judged-sound : (c : Purpose) (p : List ℕ) (past : List Entry) → verdict c p past ≡ Is Judged → network_fault c p (entries_read past) ≡ None
judged-sound c p past h = judged-by c (stream_at c p past) p past h

-- ---- a stretch, as it is read

-- it has no fault, and its packets are of 188 bytes
pub record IsSoundStretch (c : Purpose) (past : List Entry) : Type 0 where
  pub sound : first_fault c (entries_read past) ≡ None
  pub bytes : ArePacketsOfBytes (entries_read past)
  pub long : ArePackets (entries_read past)

pub sound-none : (c : Purpose) → IsSoundStretch c []
sound-none c = record { sound = refl; bytes = tt; long = All-nil (λ (p : List ℕ). length p ≡ 188) }

marked-bytes : (p : List ℕ) → AreBytes p → AreBytes (marked p)
unfolding marked
marked-bytes p h zero = h 0
marked-bytes p h (suc zero) = omega arith
marked-bytes p h (suc (suc place)) = AreBytes-drop 2 p h place

-- with a packet more
module _ (c : Purpose) (p : List ℕ) (b : AreBytes p) (l : length p ≡ 188) (past : List Entry) (h : IsSoundStretch c past) where
  sound-read : (q : List ℕ) → network_fault c q (entries_read past) ≡ None → AreBytes q → length q ≡ 188
      → (first_fault c (q ∷ entries_read past) ≡ None) × ArePacketsOfBytes (q ∷ entries_read past) × ArePackets (q ∷ entries_read past)
  sound-read q none bytes long = (
    ap (λ o. option_or o (network_fault c q (entries_read past))) h.sound ∙ none,
    (bytes, h.bytes),
    All-cons (λ (p : List ℕ). length p ≡ 188) q (entries_read past) long h.long,
  )

  sound-by : (j : Judgement) → (j ≡ Judged → network_fault c p (entries_read past) ≡ None) → IsSoundStretch c (record { packet = p; judgement = j } ∷ past)
  sound-by Judged n = let r = sound-read p (n refl) b l in record { sound = r.0; bytes = r.1; long = r.2 }
  sound-by Passed n = let r = sound-read (marked p) (marked-sound c p (entries_read past)) (marked-bytes p b) (length-marked p l) in record { sound = r.0; bytes = r.1; long = r.2 }
  sound-by Damaged n = let r = sound-read (marked p) (marked-sound c p (entries_read past)) (marked-bytes p b) (length-marked p l) in record { sound = r.0; bytes = r.1; long = r.2 }
  sound-by Jumped n = let r = sound-read (marked p) (marked-sound c p (entries_read past)) (marked-bytes p b) (length-marked p l) in record { sound = r.0; bytes = r.1; long = r.2 }

first-judged : (v : Verdict) → as_first v ≡ Judged → v ≡ Is Judged
first-judged (Is j) h = ap Is h
first-judged (BeginsNew fault) h = cc

module _ (c : Purpose) (p : List ℕ) (b : AreBytes p) (l : length p ≡ 188) where
  sound-first : IsSoundStretch c (first_entry c p ∷ [])
  sound-first = sound-by c p b l [] (sound-none c) (as_first (verdict c p [])) (λ e. judged-sound c p [] (first-judged (verdict c p []) e))

  same-judgement : (j : Judgement) → Is j ≡ Is Judged → j ≡ Judged
  same-judgement j h = cc

  sound-joined : (v : Verdict) (past : List Entry) (earlier : List (List Entry)) → verdict c p past ≡ v → AllByRecursion (IsSoundStretch c) (past ∷ earlier) → AllByRecursion (IsSoundStretch c) (joined c v p past earlier)
  sound-joined (Is j) past earlier e h = (sound-by c p b l past h.0 j (λ i. judged-sound c p past (e ∙ ap Is i)), h.1)
  sound-joined (BeginsNew fault) past earlier e h = (sound-first, h)

  sound-next : (ss : List (List Entry)) → AllByRecursion (IsSoundStretch c) ss → AllByRecursion (IsSoundStretch c) (with_next c p ss)
  sound-next [] h = (sound-first, tt)
  sound-next (past ∷ earlier) h = sound-joined (verdict c p past) past earlier refl h

-- ALL STRETCHES ARE SOUND as they are read
pub stretches-sound : (c : Purpose) (ps : List (List ℕ)) → ArePacketsOfBytes ps → AllByRecursion (λ (p : List ℕ). length p ≡ 188) ps → AllByRecursion (IsSoundStretch c) (stretches c ps)
stretches-sound c [] b l = tt
stretches-sound c (p ∷ past) b l = sound-next c p b.0 l.0 (stretches c past) (stretches-sound c past b.1 l.1)

pub newest-sound : (c : Purpose) (ss : List (List Entry)) → AllByRecursion (IsSoundStretch c) ss → IsSoundStretch c (newest ss)
newest-sound c [] h = sound-none c
newest-sound c (past ∷ earlier) h = h.0

-- ---- their packets

abbrev entries_put : List Entry → List (List ℕ)
entries_put past = map (λ (e : Entry). e.packet) past

-- newest first
abbrev all_packets : List (List Entry) → List (List ℕ)
all_packets [] = []
all_packets (past ∷ earlier) = entries_put past ++ all_packets earlier

all-joined : (c : Purpose) (v : Verdict) (p : List ℕ) (past : List Entry) (earlier : List (List Entry)) → all_packets (joined c v p past earlier) ≡ p ∷ all_packets (past ∷ earlier)
all-joined c (Is j) p past earlier = refl
all-joined c (BeginsNew fault) p past earlier = refl

all-next : (c : Purpose) (p : List ℕ) (ss : List (List Entry)) → all_packets (with_next c p ss) ≡ p ∷ all_packets ss
all-next c p [] = refl
all-next c p (past ∷ earlier) = all-joined c (verdict c p past) p past earlier

all-are : (c : Purpose) (ps : List (List ℕ)) → all_packets (stretches c ps) ≡ ps
all-are c [] = refl
all-are c (p ∷ past) = all-next c p (stretches c past) ∙ ap (λ l. p ∷ l) (all-are c past)

put-aired : (past : List Entry) → all_put (aired past) ≡ entries_put past
put-aired [] = refl
put-aired (e ∷ past) = ap (λ l. e.packet ∷ l) (put-aired past)

in-order : (past : List Entry) → all_put (reverse (aired past)) ≡ reverse (entries_put past)
in-order past = map-reverse (λ (a : Aired). a.packet) (aired past) ∙ ap reverse (put-aired past)

before-are : (c : Purpose) (earlier : List (List Entry)) → packets_before (map (ended_of c) earlier) ≡ reverse (all_packets earlier)
before-are c [] = refl
before-are c (past ∷ earlier) =
    ap (λ l. l ++ all_put (reverse (aired past))) (before-are c earlier)
    ∙ ap (λ l. reverse (all_packets earlier) ++ l) (in-order past)
    ∙ sym (reverse-append (entries_put past) (all_packets earlier))

parts-by : (c : Purpose) (ss : List (List Entry)) → packets_before (ended_in c ss) ++ all_put (reverse (aired (newest ss))) ≡ reverse (all_packets ss)
parts-by c [] = refl
parts-by c (past ∷ earlier) =
    ap (λ l. l ++ all_put (reverse (aired past))) (before-are c earlier)
    ∙ ap (λ l. reverse (all_packets earlier) ++ l) (in-order past)
    ∙ sym (reverse-append (entries_put past) (all_packets earlier))

-- ONE BEHIND ANOTHER they are the network's
pub stretches-are : (c : Purpose) (ps : List (List ℕ)) → packets_before (ended_in c (stretches c ps)) ++ all_put (reverse (aired (newest (stretches c ps)))) ≡ reverse ps
stretches-are c ps = parts-by c (stretches c ps) ∙ ap reverse (all-are c ps)

-- ---- the steps of a stretch

pub read-aired : (past : List Entry) → all_read (aired past) ≡ entries_read past
read-aired [] = refl
read-aired (e ∷ past) = ap (λ l. read_of (aired_of e) ∷ l) (read-aired past)

pub steps-read : (n : ℕ) (ts : List Take) (first : ℕ) (past : List Aired) → packets_in (steps_on_air n ts first past) ≡ all_read past
steps-read n ts first [] = refl
steps-read n ts first (a ∷ past) =
    ap (λ l. read_of a ∷ l) (asked_packets (judged_before n ts (first + length past)) (steps_on_air n ts first past) ∙ steps-read n ts first past)

-- the requests fit
past-fits : (c : Config) (ms : List (List ℕ)) (past : List Step) → RequestsFit c (asked ms past) → RequestsFit c past
past-fits c [] past h = h
past-fits c (m ∷ ms) past h = (past-fits c ms (Message (message_of m) ∷ past) h).1

moved-fit : (c : Config) (ms : List (List ℕ)) (past other : List Step) → RequestsFit c (asked ms past) → RequestsFit c other → RequestsFit c (asked ms other)
moved-fit c [] past other h k = k
moved-fit c (m ∷ ms) past other h k = moved-fit c ms (Message (message_of m) ∷ past) (Message (message_of m) ∷ other) h ((past-fits c ms (Message (message_of m) ∷ past) h).0, k)

judged-fit : (c : Config) (n : ℕ) (ts : List Take) (place : ℕ) (other : List Step) → AreBytes (bytes_of ts) → RequestsFit c other → RequestsFit c (asked (judged_before n ts place) other)
judged-fit c n ts place other b k =
    let none : List ℕ = [] in
    let long = replicate place none in
    let fit = steps_fit c n ts (none ∷ long) b in
    moved-fit c (judged_before n ts place) (steps_of n ts long) other (subst (λ m. RequestsFit c (asked (judged_before n ts m) (steps_of n ts long))) (length-replicate place none) fit) k

pub steps-fit : (c : Config) (n : ℕ) (ts : List Take) (first : ℕ) (past : List Aired) → AreBytes (bytes_of ts) → RequestsFit c (steps_on_air n ts first past)
steps-fit c n ts first [] b = tt
steps-fit c n ts first (a ∷ past) b = judged-fit c n ts (first + length past) (steps_on_air n ts first past) b (steps-fit c n ts first past b)

-- ---- the packets of bytes

parts-long : (n : ℕ) (bs : List ℕ) → n * 188 ≤ length bs → AllByRecursion (λ (p : List ℕ). length p ≡ 188) (parts n bs)
parts-long zero bs h = tt
parts-long (suc n) bs h =
    let t = length-take 188 bs in
    let d = length-drop 188 bs in
    (t ∙ least n (length bs) h, parts-long n (drop 188 bs) (subst (λ m. n * 188 ≤ m) (sym d) (rest n (length bs) h)))
  where
    least : (n m : ℕ) → suc n * 188 ≤ m → min 188 m ≡ 188
    least n m h = omega (arith, h)

    rest : (n m : ℕ) → suc n * 188 ≤ m → n * 188 ≤ m - 188
    rest n m h = omega (arith, h)

packets-long : (bs : List ℕ) → AllByRecursion (λ (p : List ℕ). length p ≡ 188) (reverse (packets_of bs))
packets-long bs = each-onto (λ (p : List ℕ). length p ≡ 188) [] (packets_of bs) tt (parts-long (length bs / 188) bs (whole (length bs)))
  where
    whole : (m : ℕ) → m / 188 * 188 ≤ m
    whole m = omega arith

-- THE STRETCHES OF BYTES
pub all-sound : (c : Purpose) (bs : List ℕ) → ArePacketsOfBytes (reverse (packets_of bs)) → AllByRecursion (IsSoundStretch c) (stretches_in c bs)
all-sound c bs b = stretches-sound c (reverse (packets_of bs)) b (packets-long bs)
