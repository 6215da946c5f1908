-- The cued stream of a history is that of its network.
use Rattle.std.proofs.Common.{◌≡◌, ℕ, ◌<◌, ◌≤◌, ◌==◌, Bool, true, false, cond, List, [], ◌∷◌, ◌++◌, length, refl, ap, sym, ◌∙◌, subst, arith}
use Rattle.std.specs.Prelude.{Option, None, Some}
use Rattle.std.specs.List.{AllByRecursion}
use Rattle.std.proofs.lemmas.Bool.{eq-eqb, eqb-true}
use Rattle.ts_packet.specs.Fields.{on}
use Rattle.ts_packet.specs.Runs.{onto}
use Rattle.ts_packet.proofs.Cases.{by_test}
use Rattle.ts_packet.specs.Numbering.{one_past}
use Rattle.psi_section.proofs.ReadBackLemmas.{IsPayloadOn, turn_carry}
use Rattle.ts_packet.proofs.FieldLemmas.{payload_on-on}
use Rattle.psi_tables.specs.declared.config.Config.{Config}
use Rattle.program_follower.specs.declared.purpose.Listed.{Listed}
use Rattle.program_follower.specs.Program.{listed, Table, tables}
use Rattle.program_laws.specs.Writing.{Along, written, body, number_on}
use Rattle.program_laws.specs.Cued.{cueing, On, cued as cued_network}
use Rattle.program_laws.proofs.CuedLemmas.{ons_off, cued_stream_reads}
use Rattle.program_laws.proofs.FaultLemmas.{no_cue_packets}
use Rattle.program_laws.proofs.PacketLemmas.{one_past-below}
use Rattle.outgoing_packets.proofs.NumberLemmas.{number-others}
use Rattle.injector.specs.Steps.{Step, Message, Packet, packets_in, sections_before, cue_packets, cued, body_at}
use Rattle.injector.specs.Laws.{own_fronts, CuedIsWritten, CuedReadsAgain}
use Rattle.program_follower.specs.Purposes.{writing_cues}

-- ---- lists of packets

pub carried-on : (pid : ℕ) (qs : List (List ℕ)) → AllByRecursion (IsPayloadOn pid) qs → AllByRecursion (On pid) qs
carried-on pid [] all = tt
carried-on pid (q ∷ qs) all = (payload_on-on pid q all.0, carried-on pid qs all.1)

pub cues-on : (c : Config) (p : List ℕ) (past : List Step) (out : List (List ℕ)) → AllByRecursion (On c.cue_pid) (cue_packets c p past out)
cues-on c p past out =
    let below = c.below_null in
    carried-on c.cue_pid (cue_packets c p past out)
    (turn_carry c.cue_pid (one_past (number_on c.cue_pid out)) (sections_before c p past) (omega arith) (one_past-below (number_on c.cue_pid out)))

-- ---- what stands in the place of a packet

abbrev Front : Type 0
Front = List ℕ → List (List ℕ) → List (List ℕ)

body-fronts : (cue : ℕ) (f g : Front) (l : Option Listed) (p : List ℕ) (past : List (List ℕ)) (ts : List Table) (out : List (List ℕ))
    → body (cueing cue f) l p past ts out ≡ body (cueing cue g) l p past ts out
body-fronts cue f g None p past ts out = refl
body-fronts cue f g (Some l) p past ts out = refl

-- it does not see the cues before it
body-behind : (cue : ℕ) (f : Front) (l : Option Listed) (p : List ℕ) (past : List (List ℕ)) (ts : List Table) (cues out : List (List ℕ)) → on cue p ≡ false → AllByRecursion (On cue) cues
    → body (cueing cue f) l p past ts (onto out cues) ≡ body (cueing cue f) l p past ts out
body-behind cue f None p past ts cues out off all = refl
body-behind cue f (Some l) p past ts cues out off all =
    by_test (on l.pid p)
    (λ y. let other : cue ≡ l.pid → ⊥ = (λ e. let no : true ≡ false = sym y ∙ ap (λ q. on q p) (sym e) ∙ off in cc) in
    let same : number_on l.pid (onto out cues) ≡ number_on l.pid out = number-others l.pid cues out (ons_off cue l.pid cues other all) in
    rw same refl)
    (λ n. rw n refl)

-- ---- fronts

agree-written : (cue : ℕ) (f g : Front) (wanted : Option ℕ) (ps : List (List ℕ)) → Along (λ p qs. f p qs ≡ g p qs) ps → written (cueing cue f) wanted ps ≡ written (cueing cue g) wanted ps
agree-written cue f g wanted [] same = refl
agree-written cue f g wanted (p ∷ ps) same =
    let before = agree-written cue f g wanted ps same.1 in
    let W = written (cueing cue f) wanted ps in
    let V = written (cueing cue g) wanted ps in
    ap (λ o. onto o (f p ps ++ body (cueing cue f) (listed wanted ps) p ps (tables wanted p ps) o)) before
    ∙ ap (λ qs. onto V (qs ++ body (cueing cue f) (listed wanted ps) p ps (tables wanted p ps) V)) same.0
    ∙ ap (λ qs. onto V (g p ps ++ qs)) (body-fronts cue f g (listed wanted ps) p ps (tables wanted p ps) V)

not-as-long : (m n : ℕ) → m < n → m == n ≡ false
not-as-long m n less = by_test (m == n) (λ y. absurd (let e : m ≡ n = eqb-true m n y in omega arith)) (λ no. no)

-- the front of a packet is told by the number of packets before it
along-before : (c : Config) (q : List ℕ) (past : List Step) (ps : List (List ℕ)) → length ps ≤ length (packets_in past) → Along (λ p qs. own_fronts c past p qs ≡ own_fronts c (Packet q ∷ past) p qs) ps
along-before c q past [] short = tt
along-before c q past (p ∷ ps) short =
    let not : length ps == length (packets_in past) ≡ false = not-as-long (length ps) (length (packets_in past)) (omega arith) in
    (sym (ap (λ b. cond b (cue_packets c q past (cued c past)) (own_fronts c past p ps)) not), along-before c q past ps (omega arith))

front-here : (c : Config) (p : List ℕ) (past : List Step) → own_fronts c (Packet p ∷ past) p (packets_in past) ≡ cue_packets c p past (cued c past)
front-here c p past = ap (λ b. cond b (cue_packets c p past (cued c past)) (own_fronts c past p (packets_in past))) (eq-eqb (length (packets_in past)) (length (packets_in past)) refl)

along-cues : (c : Config) (past : List Step) (ps : List (List ℕ)) → Along (λ p qs. AllByRecursion (On c.cue_pid) (own_fronts c past p qs)) ps
along-cues c past [] = tt
along-cues c past (p ∷ ps) = (each past, along-cues c past ps)
  where
    each : (past : List Step) → AllByRecursion (On c.cue_pid) (own_fronts c past p ps)
    each [] = tt
    each (Message m ∷ past) = each past
    each (Packet q ∷ past) = by (length ps == length (packets_in past)) (each past)
      where
        by : (b : Bool) → AllByRecursion (On c.cue_pid) (own_fronts c past p ps) → AllByRecursion (On c.cue_pid) (cond b (cue_packets c q past (cued c past)) (own_fronts c past p ps))
        by true before = cues-on c q past (cued c past)
        by false before = before

cued-written : (c : Config) (past : List Step) → Along (λ p qs. on c.cue_pid p ≡ false) (packets_in past) → cued c past ≡ cued_network (Some c.program) c.cue_pid (own_fronts c past) (packets_in past)
cued-written c [] clear = refl
cued-written c (Message m ∷ past) clear = cued-written c past clear
cued-written c (Packet p ∷ past) clear =
    let ps = packets_in past in
    let F : Front = own_fronts c (Packet p ∷ past) in
    let C = cued c past in
    let cues = cue_packets c p past C in
    let l = listed (Some c.program) ps in
    let ts = tables (Some c.program) p ps in
    let W = written (cueing c.cue_pid F) (Some c.program) ps in
    let before : C ≡ W = cued-written c past clear.1 ∙ agree-written c.cue_pid (own_fronts c past) F (Some c.program) ps (along-before c p past ps (omega arith)) in
    let here : body_at c p ps (onto C cues) ≡ body (cueing c.cue_pid F) l p ps ts C
    = body-behind c.cue_pid (λ q qs. []) l p ps ts cues C clear.0 (cues-on c p past C) ∙ body-fronts c.cue_pid (λ q qs. []) F l p ps ts C in
    ap (λ qs. onto C (cues ++ qs)) here
    ∙ ap (λ qs. onto C (qs ++ body (cueing c.cue_pid F) l p ps ts C)) (sym (front-here c p past))
    ∙ ap (λ o. onto o (F p ps ++ body (cueing c.cue_pid F) l p ps ts o)) before

pub cued-is-written : CuedIsWritten
cued-is-written c past good =
    record { stream = cued-written c past (no_cue_packets (writing_cues c) c.cue_pid (packets_in past) refl refl good); cues = along-cues c past (packets_in past) }

pub cued-reads-again : CuedReadsAgain
cued-reads-again c past good bytes =
    let is = cued-is-written c past good in
    let above = c.above_reserved in
    let below = c.below_null in
    subst (λ out. Rattle.program_laws.specs.Cued.CuedReads (Some c.program) c.cue_pid out (packets_in past) (Rattle.program_follower.specs.Program.pids_of (Rattle.program_follower.specs.Program.program_of (Some c.program) (packets_in past)))) (sym is.stream)
    (cued_stream_reads (writing_cues c) c.cue_pid (own_fronts c past) (packets_in past) refl refl (λ zero. omega arith) (omega arith) good bytes is.cues)
