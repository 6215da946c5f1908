-- What a stream with some of its cues arms.
use Rattle.std.proofs.Common.{◌≡◌, ℕ, zero, suc, ◌==◌, true, false, cond, refl, sym, ap, ◌∙◌, subst, List, [], ◌∷◌, ◌++◌, is_some}
use Rattle.std.specs.Prelude.{ℤ, map, filter, Option, Some, None, option_map}
use Rattle.std.specs.Option.{option_or}
use Rattle.std.specs.List.{AllByRecursion, list_any}
use Rattle.std.proofs.lemmas.Bool.{eq-eqb, or_parts}
use Rattle.ts_packet.specs.Fields.{on, on_one}
use Rattle.ts_packet.specs.Runs.{onto}
use Rattle.ts_packet.proofs.RunLemmas.{onto-append}
use Rattle.ts_packet.proofs.Cases.{by_test}
use Rattle.unit_stream.specs.Times.{high as unit_high}
use Rattle.psi_section.specs.Sections.{given, sections_after}
use Rattle.psi_section.proofs.RunLemmas.{given_off}
use Rattle.psi_tables.specs.declared.config.Config.{Config}
use Rattle.psi_tables.specs.declared.stream.Stream.{Stream}
use Rattle.psi_tables.specs.Streams.{pid_in, switched_of, is_switched}
use Rattle.psi_tables.specs.ProgramMap.{ProgramMap, streams_of}
use Rattle.scte35_codec.specs.declared.cue_out.CueOut.{CueOut}
use Rattle.scte35_codec.specs.Spelling.{cue_bytes}
use Rattle.program_follower.specs.declared.purpose.Listed.{Listed}
use Rattle.program_follower.specs.Program.{listed, first_listed, tables, all_tables, Table, first_map, known_map, program_in, program_of, behind_head, pids_of}
use Rattle.program_follower.specs.Faults.{first_fault, is_pid, pids_in}
use Rattle.program_follower.proofs.StepLemmas.{known_off}
use Rattle.program_follower.proofs.OptionLemmas.{option_or-none}
use Rattle.program_laws.specs.Writing.{Along, body, Off}
use Rattle.program_laws.specs.Cued.{On, cueing, CuedReads}
use Rattle.program_laws.proofs.ReadingLemmas.{no_tables, none_at_pat}
use Rattle.program_laws.proofs.WritingLemmas.{off_other}
use Rattle.program_laws.proofs.HeadLemmas.{nothing_behind}
use Rattle.program_laws.proofs.UnitLemmas.{others_are_no_units}
use Rattle.program_laws.proofs.FaultLemmas.{MapSound, all_sound}
use Rattle.program_laws.proofs.CuedLemmas.{cued_stream_reads, takes_within, Apart, apart_on}
use Rattle.armed_events.specs.Arming.{Heard, with_section, with_sections, heard}
use Rattle.injector.specs.Steps.{Step, Message, Packet, packets_in, turns_in}
use Rattle.injector.proofs.FeedLemmas.{turns-high}
use Rattle.cue_laws.specs.Events.{Turn as LineTurn}
use Rattle.cue_laws.specs.Thinning.{times}
use Rattle.path_laws.specs.Path.{Item, Sent, high_on, sent_onto, line, left, heard_on}
use Rattle.path_laws.specs.Packets.{IsRunOf, cues_at, sent_in, kept, stream, BringsCues, StreamArms}
use Rattle.path_laws.proofs.Reading.{high-left}
use Rattle.path_laws.proofs.Packets.{run-message, run-packet, run-history, map-pid, place-off}
use Rattle.path_laws.proofs.Proofs.{tells}
use Rattle.program_follower.specs.Purposes.{writing_cues}
use Rattle.program_follower.specs.Following.{high_of}

-- ---- cues that are left

pub times-turn : {X : Type 0} (n : ℕ) (x : X) (rest : List X) → times n x (x ∷ rest) ≡ x ∷ times n x rest
times-turn zero x rest = refl
times-turn (suc n) x rest = ap (λ l. x ∷ l) (times-turn n x rest)

sent-times : (n : ℕ) (cue : CueOut) (cues : List CueOut) (items : List Item) → sent_onto items (times n cue cues) ≡ sent_onto (times n (Sent cue) items) cues
sent-times zero cue cues items = refl
sent-times (suc n) cue cues items = sent-times n cue cues (Sent cue ∷ items) ∙ ap (λ l. sent_onto l cues) (times-turn n (Sent cue) items)

pub left-sent : (copies : List LineTurn → ℕ) (items : List Item) (cues : List CueOut) → left copies (sent_onto items cues) ≡ sent_onto (left copies items) (kept copies items cues)
left-sent copies items [] = refl
left-sent copies items (cue ∷ cues) =
    left-sent copies (Sent cue ∷ items) cues
    ∙ sym (sent-times (copies (line (Sent cue ∷ items))) cue (kept copies (Sent cue ∷ items) cues) (left copies items))

heard-sent : (items : List Item) (cues : List CueOut) → heard_on (sent_onto items cues) ≡ with_sections (high_on items) (map cue_bytes cues) (heard_on items)
heard-sent items [] = refl
heard-sent items (cue ∷ cues) = heard-sent (Sent cue ∷ items) cues

-- ---- the reader of a PID

sections-more : (latest : Option ℤ) (ss ts : List (List ℕ)) (h : Heard) → with_sections latest (ss ++ ts) h ≡ with_sections latest ts (with_sections latest ss h)
sections-more latest [] ts h = refl
sections-more latest (s ∷ ss) ts h = sections-more latest ss ts (with_section latest s h)

-- the greatest time is this one at each of some packets
abbrev Steady : (List (List ℕ) → Option ℤ) → Option ℤ → List (List ℕ) → List (List ℕ) → Type 0
Steady greatest h out [] = Unit {0}
Steady greatest h out (q ∷ qs) = (greatest out ≡ h) × Steady greatest h (q ∷ out) qs

heard-onto : (pid : ℕ) (greatest : List (List ℕ) → Option ℤ) (h : Option ℤ) (out qs : List (List ℕ)) → Steady greatest h out qs
    → heard pid greatest (onto out qs) ≡ with_sections h (sections_after out pid qs) (heard pid greatest out)
heard-onto pid greatest h out [] s = refl
heard-onto pid greatest h out (q ∷ qs) s =
    heard-onto pid greatest h (q ∷ out) qs s.1
    ∙ ap (λ k. with_sections h (sections_after (q ∷ out) pid qs) (with_sections k (given pid q out) (heard pid greatest out))) s.0
    ∙ sym (sections-more h (given pid q out) (sections_after (q ∷ out) pid qs) (heard pid greatest out))

heard-others : (pid : ℕ) (greatest : List (List ℕ) → Option ℤ) (out qs : List (List ℕ)) → AllByRecursion (Off pid) qs → heard pid greatest (onto out qs) ≡ heard pid greatest out
heard-others pid greatest out [] off = refl
heard-others pid greatest out (q ∷ qs) off =
    heard-others pid greatest (q ∷ out) qs off.1 ∙ ap (λ ss. with_sections (greatest out) ss (heard pid greatest out)) (given_off pid q out off.0)

-- ---- packets of the cue PID change no time

apart-by : (cue : ℕ) (ss : List Stream) → list_any (is_pid (Some cue)) (pids_in ss) ≡ false → Apart cue (pids_in (switched_of ss))
apart-by cue [] k = tt
apart-by cue (s ∷ ss) k =
    let r = or_parts (s.pid == cue) (list_any (is_pid (Some cue)) (pids_in ss)) k in
    let more = apart-by cue ss r.1 in
    by_test (is_switched s.kind)
    (λ y. simp y ((λ e. let t : (s.pid == cue) ≡ true = eq-eqb s.pid cue (sym e) in absurd (let f = r.0 in let bad : true ≡ false = sym t ∙ f in cc)), more))
    (λ n. simp n more)

apart-map : (c : Config) (pid : ℕ) (o : Option ProgramMap) → MapSound (writing_cues c) pid o → Apart c.cue_pid (pids_of (option_map program_in o))
apart-map c pid None g = tt
apart-map c pid (Some m) g =
    let used : list_any (is_pid (Some c.cue_pid)) (pid_in m.pcr_field ∷ pids_in (streams_of m)) ≡ false = g.cue in
    apart-by c.cue_pid (streams_of m) (or_parts (is_pid (Some c.cue_pid) (pid_in m.pcr_field)) (list_any (is_pid (Some c.cue_pid)) (pids_in (streams_of m))) used).1

first-sound : (c : Config) (pid : ℕ) (ts : List Table) → AllByRecursion (λ (t : Table). MapSound (writing_cues c) pid t.program_map) ts → MapSound (writing_cues c) pid (first_map ts)
first-sound c pid [] h = tt
first-sound c pid (t ∷ ts) h = which t.program_map (first_map ts) h.0 (first-sound c pid ts h.1)
  where
    which : (o x : Option ProgramMap) → MapSound (writing_cues c) pid o → MapSound (writing_cues c) pid x → MapSound (writing_cues c) pid (option_or o x)
    which None x g k = k
    which (Some m) x g k = g

apart-cue : (c : Config) (past : List (List ℕ)) (o : Option Listed) → first_fault (writing_cues c) past ≡ None → listed (Some c.program) past ≡ o → Apart c.cue_pid (pids_of (program_of (Some c.program) past))
apart-cue c past None ok h = let n = no_tables (Some c.program) past h in rw n tt
apart-cue c past (Some l) ok h = apart-map c l.pid (known_map (Some c.program) past) (first-sound c l.pid (all_tables (Some c.program) past) (all_sound (writing_cues c) past l ok h))

none-high : (past : List (List ℕ)) → unit_high [] past ≡ None
none-high [] = refl
none-high (p ∷ past) = none-high past

-- the greatest time by the packets of the switched streams alone
high-same : (pids : List ℕ) (past other : List (List ℕ)) → filter (on_one pids) past ≡ filter (on_one pids) other → unit_high pids past ≡ unit_high pids other
high-same [] past other same = none-high past ∙ sym (none-high other)
high-same (pid ∷ pids) past other same =
    let every = takes_within (pid ∷ pids) (pid ∷ pids) (λ q n. n) in
    (others_are_no_units (on_one (pid ∷ pids)) (pid ∷ pids) pid past other every every.0 same).high

-- the cues stand on no PID of the program
record Calm (c : Config) (out : List (List ℕ)) : Type 0 where
  apart : Apart c.cue_pid (pids_of (program_of (Some c.program) out))
  map_pid : (l : Listed) → listed (Some c.program) out ≡ Some l → c.cue_pid ≡ l.pid → ⊥

module _ (c : Config) (q : List ℕ) (out : List (List ℕ)) (not_pat : c.cue_pid ≡ 0 → ⊥) (calm : Calm c out) (y : on c.cue_pid q ≡ true) where
  listed-still : listed (Some c.program) (q ∷ out) ≡ listed (Some c.program) out
  listed-still =
      ap (λ ss. option_or (listed (Some c.program) out) (first_listed (Some c.program) ss)) (given_off 0 q out (off_other c.cue_pid 0 q not_pat y))
      ∙ option_or-none (listed (Some c.program) out)

  known-still : known_map (Some c.program) (q ∷ out) ≡ known_map (Some c.program) out
  known-still = by (listed (Some c.program) out) refl
    where
      by : (o : Option Listed) → listed (Some c.program) out ≡ o → known_map (Some c.program) (q ∷ out) ≡ known_map (Some c.program) out
      by None is = ap first_map (none_at_pat (Some c.program) q out is ∙ sym (no_tables (Some c.program) out is))
      by (Some l) is = known_off (Some c.program) q out l is (off_other c.cue_pid l.pid q (calm.map_pid l is) y)

  program-still : program_of (Some c.program) (q ∷ out) ≡ program_of (Some c.program) out
  program-still = ap (option_map program_in) known-still

  calm-still : Calm c (q ∷ out)
  calm-still = record {
    apart = subst (λ o. Apart c.cue_pid (pids_of o)) (sym program-still) calm.apart;
    map_pid = λ l is. calm.map_pid l (sym listed-still ∙ is);
  }

  high-still : high_of (Some c.program) (q ∷ out) ≡ high_of (Some c.program) out
  high-still =
      ap (λ o. unit_high (pids_of o) (behind_head (Some c.program) (q ∷ out))) program-still
      ∙ high-same (pids_of (program_of (Some c.program) out)) (behind_head (Some c.program) (q ∷ out)) (behind_head (Some c.program) out) (by (known_map (Some c.program) out) refl)
    where
      by : (o : Option ProgramMap) → known_map (Some c.program) out ≡ o
          → filter (on_one (pids_of (program_of (Some c.program) out))) (behind_head (Some c.program) (q ∷ out)) ≡ filter (on_one (pids_of (program_of (Some c.program) out))) (behind_head (Some c.program) out)
      by None is =
          ap (λ b. filter (on_one (pids_of (program_of (Some c.program) out))) (cond (is_some b) (q ∷ behind_head (Some c.program) out) [])) is
          ∙ ap (filter (on_one (pids_of (program_of (Some c.program) out)))) (sym (nothing_behind (Some c.program) out is))
      by (Some m) is =
          let off = apart_on c.cue_pid (pids_of (program_of (Some c.program) out)) calm.apart q y in
          ap (λ b. filter (on_one (pids_of (program_of (Some c.program) out))) (cond (is_some b) (q ∷ behind_head (Some c.program) out) [])) is
          ∙ ap (λ b. cond b (q ∷ filter (on_one (pids_of (program_of (Some c.program) out))) (behind_head (Some c.program) out)) (filter (on_one (pids_of (program_of (Some c.program) out))) (behind_head (Some c.program) out))) off

steady : (c : Config) (out qs : List (List ℕ)) (h : Option ℤ) → (c.cue_pid ≡ 0 → ⊥) → Calm c out → high_of (Some c.program) out ≡ h → AllByRecursion (On c.cue_pid) qs → Steady (high_of (Some c.program)) h out qs
steady c out [] h not_pat calm is on_cue = tt
steady c out (q ∷ qs) h not_pat calm is on_cue =
    (is, steady c (q ∷ out) qs h not_pat (calm-still c q out not_pat calm on_cue.0) (high-still c q out not_pat calm on_cue.0 ∙ is) on_cue.1)

-- ---- the stream

brings-on : (c : Config) (copies : List LineTurn → ℕ) (fronts : List ℕ → List (List ℕ) → List (List ℕ)) (past : List Step) → BringsCues c copies fronts past
    → Along (λ p back. AllByRecursion (On c.cue_pid) (fronts p back)) (packets_in past)
brings-on c copies fronts [] b = tt
brings-on c copies fronts (Message m ∷ past) b = brings-on c copies fronts past b
brings-on c copies fronts (Packet p ∷ past) b = (b.0, brings-on c copies fronts past b.2)

module _ (c : Config) (copies : List LineTurn → ℕ) (fronts : List ℕ → List (List ℕ) → List (List ℕ)) (past : List Step) (r : IsRunOf c past) (b : BringsCues c copies fronts past) where
  reads : CuedReads (Some c.program) c.cue_pid (stream c fronts past) (packets_in past) (pids_of (program_of (Some c.program) (packets_in past)))
  reads = cued_stream_reads (writing_cues c) c.cue_pid fronts (packets_in past) refl refl r.not_pat r.cue_pid r.faultless r.bytes (brings-on c copies fronts past b)

  stream-high : high_of (Some c.program) (stream c fronts past) ≡ high_of (Some c.program) (packets_in past)
  stream-high =
      ap (λ o. unit_high (pids_of o) (behind_head (Some c.program) (stream c fronts past))) reads.program
      ∙ high-same (pids_of (program_of (Some c.program) (packets_in past))) (behind_head (Some c.program) (stream c fronts past)) (behind_head (Some c.program) (packets_in past)) reads.packets

  stream-calm : Calm c (stream c fronts past)
  stream-calm = record {
    apart = subst (λ o. Apart c.cue_pid (pids_of o)) (sym reads.program) (apart-cue c (packets_in past) (listed (Some c.program) (packets_in past)) r.faultless refl);
    map_pid = λ l is same. map-pid c (packets_in past) l r.faultless (sym reads.same_pat ∙ is) (sym same);
  }

  sent-high : high_on (left copies (sent_in c past)) ≡ high_of (Some c.program) (packets_in past)
  sent-high = high-left copies (sent_in c past) ∙ (tells c.index (turns_in c.program past) (run-history c past r)).clock ∙ turns-high c.program past

pub stream_arms : StreamArms
stream_arms c copies fronts [] r b = refl
stream_arms c copies fronts (Message m ∷ past) r b = stream_arms c copies fronts past (run-message c m past r) b
stream_arms c copies fronts (Packet p ∷ past) r b =
    let before = run-packet c p past r in
    let out = stream c fronts past in
    let qs = fronts p (packets_in past) in
    let rest = body (cueing c.cue_pid fronts) (listed (Some c.program) (packets_in past)) p (packets_in past) (tables (Some c.program) p (packets_in past)) out in
    let h = high_of (Some c.program) (packets_in past) in
    let keeps = kept copies (sent_in c past) (cues_at c p past) in
    ap (heard c.cue_pid (high_of (Some c.program))) (onto-append out qs rest)
    ∙ heard-others c.cue_pid (high_of (Some c.program)) (onto out qs) rest (place-off c fronts p (packets_in past) out (tables (Some c.program) p (packets_in past)) (listed (Some c.program) (packets_in past)) r.faultless refl)
    ∙ heard-onto c.cue_pid (high_of (Some c.program)) h out qs (steady c out qs h r.not_pat (stream-calm c copies fronts past before b.2) (stream-high c copies fronts past before b.2) b.0)
    ∙ ap (λ ss. with_sections h ss (heard c.cue_pid (high_of (Some c.program)) out)) b.1
    ∙ ap (with_sections h (map cue_bytes keeps)) (stream_arms c copies fronts past before b.2)
    ∙ ap (λ k. with_sections k (map cue_bytes keeps) (heard_on (left copies (sent_in c past)))) (sym (sent-high c copies fronts past before b.2))
    ∙ sym (heard-sent (left copies (sent_in c past)) keeps)
    ∙ ap heard_on (sym (left-sent copies (sent_in c past) (cues_at c p past)))
