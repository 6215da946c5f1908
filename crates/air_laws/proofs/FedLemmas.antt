-- What the switch of a chain is fed for a stretch: it leaves the same packets unjudged, and where none is, it is the cued stream.
use Rattle.std.proofs.Common.{◌≡◌, ◌==◌, ℕ, ◌+◌, ◌<◌, List, [], ◌∷◌, ◌++◌, map, length, reverse, Bool, true, false, not, if◌then◌else◌, refl, sym, ap, ◌∙◌, arith, Option, None, Some}
use Rattle.std.specs.List.{AllByRecursion, list_any}
use Rattle.std.proofs.lemmas.List.{map-append}
use Rattle.std.proofs.lemmas.Bool.{true≢false}
use Rattle.ts_packet.specs.Fields.{pid_of, in_error, marked}
use Rattle.ts_packet.specs.Numbering.{one_past}
use Rattle.ts_packet.specs.Runs.{onto}
use Rattle.ts_packet.proofs.Cases.{by_test, test-same}
use Rattle.ts_packet.proofs.FieldLemmas.{payload_on-on, error-off}
use Rattle.ts_packet.proofs.RunLemmas.{filter-reverse}
use Rattle.psi_section.proofs.ReadBackLemmas.{IsPayloadOn, turn_carry}
use Rattle.psi_tables.specs.declared.config.Config.{Config}
use Rattle.program_follower.specs.declared.purpose.Listed.{Listed}
use Rattle.program_follower.specs.Program.{listed}
use Rattle.injector.specs.Steps.{Step, packets_in, cued, sections_before, cue_packets, body_at, sent_at}
use Rattle.splice_switch.proofs.BesideLemmas.{marked-error, marked-off}
use Rattle.chain_engine.specs.Automation.{Take}
use Rattle.chain_engine.specs.Talks.{judged_before}
use Rattle.chain_engine.specs.Airing.{Aired, judged, unjudged, steps_on_air, steps_ahead}
use Rattle.chain_engine.specs.Injected.{asked-cued}
use Rattle.chain_engine.specs.Switched.{aired_onto}
use Rattle.chain_engine.specs.Chained.{fed_as, fed_for, fed_on_air, judged-onto}
use Rattle.air_laws.specs.Airs.{left_unjudged}
use Rattle.air_laws.specs.Outputs.{has_pid}
use Rattle.air_laws.proofs.JourneyLemmas.{IsLeft, none-judged, unjudged-append}

-- ---- packets in a row

unjudged-onto : (past more : List Aired) → left_unjudged (aired_onto past more) ≡ aired_onto (left_unjudged past) (left_unjudged more)
unjudged-onto past [] = refl
unjudged-onto past (a ∷ more) = by_test a.is_judged
    (λ y. unjudged-onto (a ∷ past) more ∙ simp y)
    (λ n. unjudged-onto (a ∷ past) more ∙ simp n)

fed-judged : (p : List ℕ) (qs : List (List ℕ)) → map (fed_as (judged p)) qs ≡ map judged qs
fed-judged p [] = refl
fed-judged p (q ∷ qs) = ap (λ l. judged q ∷ l) (fed-judged p qs)

-- ---- cues are judged, and a packet that is left unjudged is fed as it is

fed-good : (p q : List ℕ) → in_error q ≡ false → fed_as (unjudged p) q ≡ judged q
fed-good p q e = ap (λ b. if b then unjudged p else judged q) e

fed-cues : (p : List ℕ) (pid : ℕ) (qs : List (List ℕ)) → AllByRecursion (IsPayloadOn pid) qs → map (fed_as (unjudged p)) qs ≡ map judged qs
fed-cues p pid [] h = refl
fed-cues p pid (q ∷ qs) h =
    ap (λ a. a ∷ map (fed_as (unjudged p)) qs) (fed-good p q (by_test (in_error q) (λ e. absurd (true≢false (sym (payload_on-on pid q h.0) ∙ error-off pid q e))) (λ n. n)))
    ∙ ap (λ l. judged q ∷ l) (fed-cues p pid qs h.1)

upcoming-below : (o : Option ℕ) → one_past o < 16
upcoming-below None = omega arith
upcoming-below (Some n) = omega arith

marked-body : (c : Config) (p : List ℕ) (past out : List (List ℕ)) → body_at c (marked p) past out ≡ marked p ∷ []
marked-body c p past out = by (listed (Some c.program) past) refl
  where
    by : (o : Option Listed) → listed (Some c.program) past ≡ o → body_at c (marked p) past out ≡ marked p ∷ []
    by None e = rw e refl
    by (Some l) e = rw (e, marked-off l.pid p) refl

fed-unjudged : (c : Config) (p : List ℕ) (steps : List Step) → left_unjudged (fed_for c (unjudged p) steps) ≡ unjudged p ∷ []
fed-unjudged c p steps =
    let out = cued c steps in
    let cues = cue_packets c (marked p) steps out in
    let rest = body_at c (marked p) (packets_in steps) (onto out cues) in
    let below : c.cue_pid < 8192 = omega (arith, c.below_null) in
    let own : fed_as (unjudged p) (marked p) ≡ unjudged p = ap (λ b. if b then unjudged p else judged (marked p)) (marked-error p) in
    ap left_unjudged (map-append (fed_as (unjudged p)) cues rest)
    ∙ unjudged-append (map (fed_as (unjudged p)) cues) (map (fed_as (unjudged p)) rest)
    ∙ ap (λ l. left_unjudged l ++ left_unjudged (map (fed_as (unjudged p)) rest)) (fed-cues p c.cue_pid cues (turn_carry c.cue_pid _ (sections_before c (marked p) steps) below (upcoming-below _)))
    ∙ ap (λ l. l ++ left_unjudged (map (fed_as (unjudged p)) rest)) (none-judged cues)
    ∙ ap (λ qs. left_unjudged (map (fed_as (unjudged p)) qs)) (marked-body c p (packets_in steps) (onto out cues))
    ∙ ap (λ a. left_unjudged (a ∷ [])) own

fed-by : (c : Config) (p : List ℕ) (b : Bool) (steps : List Step) (fed past : List Aired) → left_unjudged fed ≡ left_unjudged past
    → (let a : Aired = record { packet = p; is_judged = b } in left_unjudged (aired_onto fed (fed_for c a steps)) ≡ left_unjudged (a ∷ past))
fed-by c p true steps fed past h =
    let qs = sent_at c p steps in
    unjudged-onto fed (map (fed_as (judged p)) qs)
    ∙ ap (λ l. aired_onto (left_unjudged fed) (left_unjudged l)) (fed-judged p qs)
    ∙ ap (aired_onto (left_unjudged fed)) (none-judged qs)
    ∙ h
fed-by c p false steps fed past h =
    unjudged-onto fed (fed_for c (unjudged p) steps)
    ∙ ap (aired_onto (left_unjudged fed)) (fed-unjudged c p steps)
    ∙ ap (λ l. unjudged p ∷ l) h

-- THOSE LEFT UNJUDGED are those of the stretch
pub fed-left : (c : Config) (n : ℕ) (ts : List Take) (first : ℕ) (past : List Aired) → left_unjudged (fed_on_air c n ts first past) ≡ left_unjudged past
fed-left c n ts first [] = refl
fed-left c n ts first (a ∷ past) = fed-by c a.packet a.is_judged (steps_ahead n ts first past) (fed_on_air c n ts first past) past (fed-left c n ts first past)

pub fed-left-in-order : (c : Config) (n : ℕ) (ts : List Take) (first : ℕ) (past : List Aired) → left_unjudged (reverse (fed_on_air c n ts first past)) ≡ left_unjudged (reverse past)
fed-left-in-order c n ts first past =
    filter-reverse (λ (a : Aired). not a.is_judged) (fed_on_air c n ts first past)
    ∙ ap reverse (fed-left c n ts first past)
    ∙ sym (filter-reverse (λ (a : Aired). not a.is_judged) past)

-- ---- where all are judged

all-by : (c : Config) (n : ℕ) (ts : List Take) (first : ℕ) (p : List ℕ) (b : Bool) (past : List Aired)
    → (left_unjudged past ≡ [] → fed_on_air c n ts first past ≡ map judged (cued c (steps_on_air n ts first past)))
    → (let a : Aired = record { packet = p; is_judged = b } in left_unjudged (a ∷ past) ≡ [] → fed_on_air c n ts first (a ∷ past) ≡ map judged (cued c (steps_on_air n ts first (a ∷ past))))
all-by c n ts first p true past before none =
    let ms = judged_before n ts (first + length past) in
    let steps = steps_on_air n ts first past in
    let qs = sent_at c p (steps_ahead n ts first past) in
    ap (λ l. aired_onto l (map (fed_as (judged p)) qs)) (before none ∙ ap (map judged) (sym (asked-cued c ms steps)))
    ∙ ap (aired_onto (map judged (cued c (steps_ahead n ts first past)))) (fed-judged p qs)
    ∙ judged-onto (cued c (steps_ahead n ts first past)) qs
all-by c n ts first p false past before none = cc

pub fed-all : (c : Config) (n : ℕ) (ts : List Take) (first : ℕ) (past : List Aired) → left_unjudged past ≡ [] → fed_on_air c n ts first past ≡ map judged (cued c (steps_on_air n ts first past))
fed-all c n ts first [] none = refl
fed-all c n ts first (a ∷ past) none = all-by c n ts first a.packet a.is_judged past (λ e. fed-all c n ts first past e) none

-- ---- those left unjudged are of their PIDs

left-by : (all fed : List Aired) → ((pid : ℕ) → list_any (has_pid pid) (left_unjudged fed) ≡ true → list_any (has_pid pid) (left_unjudged all) ≡ true) → AllByRecursion (IsLeft all) fed
left-by all [] h = tt
left-by all (a ∷ past) h = (
  λ n. h (pid_of a.packet) (own n),
  left-by all past (λ pid y. h pid (behind pid y)),
)
  where
    own : a.is_judged ≡ false → list_any (has_pid (pid_of a.packet)) (left_unjudged (a ∷ past)) ≡ true
    own n = let t = test-same (pid_of a.packet) in simp (n, t)

    behind : (pid : ℕ) → list_any (has_pid pid) (left_unjudged past) ≡ true → list_any (has_pid pid) (left_unjudged (a ∷ past)) ≡ true
    behind pid y = by_test a.is_judged (λ j. simp (j, y)) (λ n. by_test (pid_of a.packet == pid) (λ t. simp (n, t)) (λ t. simp (n, t, y)))

pub fed-is-left : (c : Config) (n : ℕ) (ts : List Take) (first : ℕ) (past : List Aired) → AllByRecursion (IsLeft past) (fed_on_air c n ts first past)
fed-is-left c n ts first past = left-by past (fed_on_air c n ts first past) (λ pid y. ap (list_any (has_pid pid)) (sym (fed-left c n ts first past)) ∙ y)
