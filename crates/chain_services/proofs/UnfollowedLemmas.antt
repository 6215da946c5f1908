-- A packet on whose PID nothing of a service is: the service owns it not, and no PID more is known of it, so that it may be kept from it.
use Rattle.std.proofs.Common.{◌≡◌, ◌%◌, ◌/◌, Bool, ℕ, List, [], ◌∷◌, ◌++◌, true, false, ◌==◌, refl, sym, ap, subst, ◌∙◌, arith, Some}
use Rattle.std.specs.Prelude.{option_map, option_to_list, if◌then◌else◌, is_ok, slice_index_or}
use Rattle.std.proofs.lemmas.Bool.{or_parts, or_from, eqb-false}
use Rattle.std.proofs.lemmas.List.{append-nil}
use Rattle.std.proofs.Math.Bool.{or-false}
use Rattle.ts_packet.proofs.Cases.{by_test}
use Rattle.wire_fields.specs.Numbers.{AreBytes}
use Rattle.scte104_codec.specs.Reading.{MessageReading, init, alive, other, multiple, bad}
use Rattle.ts_packet.specs.Fields.{pid_of, on, on_one, is_among}
use Rattle.program_follower.specs.declared.purpose.Listed.{Listed}
use Rattle.program_follower.specs.Program.{listed, program_of, pids_of, known_pids}
use Rattle.program_follower.specs.Purposes.{writing_cues}
use Rattle.program_follower.specs.Following.{IsElsewhere, IsUnfollowed}
use Rattle.program_follower.proofs.ElsewhereLemmas.{off_other, listed_same, program_same}
use Rattle.program_follower.proofs.UnfollowedLemmas.{unfollowed-elsewhere, unfollowed-later}
use Rattle.injector.specs.Steps.{Step, Message, Packet, packets_in, turns_in, outcome, is_accepted, has_news}
use Rattle.chain_engine.specs.Passing.{PassesBy}
use Rattle.chain_engine.specs.declared.service.Service.{Service}
use Rattle.chain_engine.proofs.UnfollowedLemmas.{passes-by}
use Rattle.service_laws.specs.Messages.{is_for, own_steps}
use Rattle.service_laws.specs.Services.{ServiceTerms}
use Rattle.service_laws.proofs.MessageLemmas.{others_verdict}
use Rattle.chain_services.specs.Owners.{IsNotOf, LeavesOut, HasOwners, AllTake, IsQuiet, IsSkipped, AreSkipped}
use Rattle.chain_services.specs.Serving.{ServesAs, AllServe}
use Rattle.chain_services.specs.Parts.{owns, one_owns, part_of, KnowsSame, AllKnowSame, PassedOne, PassedEach}
use Rattle.chain_services.proofs.PartLemmas.{taken_packets, serves_packet, other_out, none_adds, each_joined}

-- a packet of a PID that is none of these is on none of them
none-one : (pids : List ℕ) (p : List ℕ) → is_among (pid_of p) pids ≡ false → on_one pids p ≡ false
none-one [] p h = refl
none-one (x ∷ pids) p h =
    let r = or_parts (x == pid_of p) (is_among (pid_of p) pids) h in
    or_from (on x p) (on_one pids p) (off_other x p (λ y. eqb-false x (pid_of p) r.0 (sym y))) (none-one pids p r.1)

-- with a packet of no table no PID more is known
pub elsewhere-same : (t : ServiceTerms) (p : List ℕ) (past : List (List ℕ)) → IsElsewhere (writing_cues t.config) p past → KnowsSame t p past
elsewhere-same t p past e =
    ap (λ o. option_to_list (option_map (λ (l : Listed). l.pid) o) ++ pids_of (program_of (Some t.config.program) (p ∷ past))) (listed_same (writing_cues t.config) p past e)
    ∙ ap (λ r. option_to_list (option_map (λ (l : Listed). l.pid) (listed (Some t.config.program) past)) ++ pids_of r) (program_same (writing_cues t.config) p past e)

module _ (t : ServiceTerms) (p : List ℕ) (past : List (List ℕ)) (u : IsUnfollowed (Some t.config.program) (Some t.config.cue_pid) (pid_of p) past) where
  pub not-own : owns t p past ≡ false
  not-own = none-one (known_pids (Some t.config.program) past) p u.known

  pub knows-same : KnowsSame t p past
  knows-same = elsewhere-same t p past (unfollowed-elsewhere (writing_cues t.config) p past u)

-- it has passed, and adds nothing
pub passed-by : (s : Service) (t : ServiceTerms) (p : List ℕ) (steps : List Step) (h : ServesAs s t steps) (is_out : List (List ℕ) → Type 0) → PassesBy s t.config t.filed p h.taken → is_out []
    → PassedOne false false s t p steps is_out
passed-by s t p steps h is_out by out =
    let u = subst (IsUnfollowed (Some t.config.program) (Some t.config.cue_pid) (pid_of p)) (taken_packets s t steps h) by.unfollowed in
    let n = not-own t p (packets_in steps) u in
    record {
      owns_it = sym n;
      still = λ quiet. knows-same t p (packets_in steps) u;
      serves = serves_packet s s t p steps h by.stands;
      out = other_out t p steps is_out n out;
    }

-- ---- a packet that is kept from a service

-- a message for another service is no news
others-none : (program index : ℕ) (m : MessageReading) (past : List Step) → is_for index m ≡ false → is_accepted (outcome index m (turns_in program past)) ≡ false
others-none program index (init head) past n = refl
others-none program index (alive head body) past n = refl
others-none program index (other head) past n = refl
others-none program index (multiple m) past n = ap is_ok (others_verdict program index m past n)
others-none program index (bad true head) past n = refl
others-none program index (bad false head) past n = refl

quiet-own : (program index : ℕ) (past : List Step) → IsQuiet (own_steps index past) → has_news index (turns_in program past) ≡ false
quiet-own program index [] q = refl
quiet-own program index (Packet p ∷ past) q = refl
quiet-own program index (Message m ∷ past) q =
    by_test (is_for index m)
    (λ y. absurd (subst IsQuiet (ap (λ b. if b then Message m ∷ own_steps index past else own_steps index past) y) q))
    (λ n. or_from (has_news index (turns_in program past)) (is_accepted (outcome index m (turns_in program past)))
    (quiet-own program index past (subst IsQuiet (ap (λ b. if b then Message m ∷ own_steps index past else own_steps index past) n) q)) (others-none program index m past n))

own-quiet : (index : ℕ) (steps : List Step) → IsQuiet steps → IsQuiet (own_steps index steps)
own-quiet index [] q = tt
own-quiet index (Packet p ∷ steps) q = tt
own-quiet index (Message m ∷ steps) q = absurd q

pub skipped-by : (s : Service) (t : ServiceTerms) (p : List ℕ) (steps : List Step) (h : ServesAs s t steps) → AreBytes p → IsSkipped t p steps → PassesBy s t.config t.filed p h.taken
skipped-by s t p steps h bytes skip =
    passes-by s t.config t.filed p h.taken h.stands bytes
    (quiet-own t.config.program t.config.index h.taken (subst IsQuiet (sym h.own) (own-quiet t.config.index steps skip.0)))
    (subst (IsUnfollowed (Some t.config.program) (Some t.config.cue_pid) (pid_of p)) (sym (taken_packets s t steps h)) skip.1)

-- from all of some services
pub skipped-all : (ss : List Service) (ts : List ServiceTerms) (p : List ℕ) (steps : List Step) → AllServe ss ts steps → AreBytes p → AreSkipped 0 ts p steps
    → (one_owns ts p (packets_in steps) ≡ false) × AllKnowSame ts p (packets_in steps) × AllServe ss ts (Packet p ∷ steps)
skipped-all [] [] p steps all bytes skip = (refl, tt, tt)
skipped-all [] (t ∷ ts) p steps all bytes skip = absurd all
skipped-all (s ∷ ss) [] p steps all bytes skip = absurd all
skipped-all (s ∷ ss) (t ∷ ts) p steps all bytes skip =
    let u = skip.1.0 refl in
    let by = skipped-by s t p steps all.0 bytes (skip.0, u) in
    let more = skipped-all ss ts p steps all.1 bytes (skip.0, skip.1.1) in (
      or_from (owns t p (packets_in steps)) (one_owns ts p (packets_in steps)) (not-own t p (packets_in steps) u) more.0,
      (knows-same t p (packets_in steps) u, more.1),
      (serves_packet s s t p steps all.0 by.stands, more.2),
    )

pub passed-all : (ss : List Service) (ts : List ServiceTerms) (p : List ℕ) (steps : List Step) (takers : ℕ) (is_out : List (List ℕ) → Type 0) → AllServe ss ts steps → AreBytes p → takers ≡ 0
    → AreSkipped takers ts p steps → is_out [] → PassedEach false false ss ts p steps is_out
passed-all ss ts p steps takers is_out all bytes none skip out =
    let k = skipped-all ss ts p steps all bytes (subst (λ n. AreSkipped n ts p steps) none skip) in
    record { owns_it = sym k.0; still = λ quiet. k.1; serve = k.2; out = subst is_out (sym (none_adds ts p steps k.0)) out }

-- from all behind one that takes it
pub passed-first : (own learns : Bool) (s : Service) (ss : List Service) (ts : List ServiceTerms) (t : ServiceTerms) (rest : List ServiceTerms) → ts ≡ t ∷ rest → (p : List ℕ) (steps : List Step)
    (is_out : List (List ℕ) → Type 0) (before : List (List ℕ)) → PassedOne own learns s t p steps (λ l. is_out (before ++ l)) → AllServe ss rest steps → AreBytes p → AreSkipped 0 rest p steps
    → PassedEach own learns (s ∷ ss) ts p steps (λ l. is_out (before ++ l))
passed-first own learns s ss ts t rest parts p steps is_out before one all bytes skip =
    let part = before ++ part_of t p steps in
    each_joined own learns own false learns false (sym (or-false own)) (sym (or-false learns)) s ss ts t rest parts p steps (λ l. is_out (before ++ l)) is_out before one
    (passed-all ss rest p steps 0 (λ l. is_out (part ++ l)) all bytes refl skip (subst is_out (sym (append-nil part)) one.out))

-- ---- which services take the packets of a PID

pub leaves-more : (takers others : ℕ) (t : ServiceTerms) (rest ts : List ServiceTerms) (pid : ℕ) (past : List (List ℕ)) → ts ≡ t ∷ rest → takers / 2 ≡ others
    → (takers % 2 ≡ 0 → IsNotOf t pid past) → LeavesOut others rest pid past → LeavesOut takers ts pid past
leaves-more takers others t rest ts pid past parts half bit behind =
    subst (λ us. LeavesOut takers us pid past) (sym parts) (bit, subst (λ n. LeavesOut n rest pid past) (sym half) behind)

-- the first of some services, and those behind it
pub skips-first : (takers : ℕ) (t : ServiceTerms) (rest ts : List ServiceTerms) (p : List ℕ) (steps : List Step) → ts ≡ t ∷ rest → AreSkipped takers ts p steps
    → ((takers % 2 ≡ 0 → IsSkipped t p steps) × AreSkipped (takers / 2) rest p steps)
skips-first takers t rest ts p steps parts skip =
    let k = subst (λ us. LeavesOut takers us (pid_of p) (packets_in steps)) parts skip.1 in (λ bit. (skip.0, k.0 bit), (skip.0, k.1))

leaves-same : (takers : ℕ) (ts : List ServiceTerms) (pid : ℕ) (p : List ℕ) (past : List (List ℕ)) → AllKnowSame ts p past → LeavesOut takers ts pid past → LeavesOut takers ts pid (p ∷ past)
leaves-same takers [] pid p past known leaves = tt
leaves-same takers (t ∷ ts) pid p past known leaves =
    (λ bit. unfollowed-later (Some t.config.program) (Some t.config.cue_pid) pid p past known.0 (leaves.0 bit), leaves-same (takers / 2) ts pid p past known.1 leaves.1)

-- it stays so as long as no PID more is known of a service
pub owners-same : (owners : List ℕ) (ts : List ServiceTerms) (p : List ℕ) (past : List (List ℕ)) → AllKnowSame ts p past → HasOwners owners ts past → HasOwners owners ts (p ∷ past)
owners-same owners ts p past known has = λ pid within below. leaves-same (slice_index_or owners pid 0) ts pid p past known (has pid within below)

-- where all take all nothing is told
pub all-take : (owners : List ℕ) (ts : List ServiceTerms) (past : List (List ℕ)) → AllTake owners → HasOwners owners ts past
all-take owners ts past all = λ pid within below. absurd (let e = all pid within in omega arith)

-- a service overlooks the PID
pub not-of : (s : Service) (t : ServiceTerms) (pid : ℕ) (steps : List Step) (h : ServesAs s t steps) → IsUnfollowed (Some t.config.program) (Some t.config.cue_pid) pid (packets_in h.taken)
    → IsNotOf t pid (packets_in steps)
not-of s t pid steps h u = subst (IsUnfollowed (Some t.config.program) (Some t.config.cue_pid) pid) (taken_packets s t steps h) u
